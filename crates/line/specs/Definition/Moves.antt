-- The moves of record bytes, one byte each: "The number equals the moves of a written step-by-step definition, each byte moved once" (order 8).
use Rattle.std.specs.Prelude.{◌≡◌, cond, List, [], ◌∷◌, ℕ, zero, suc, ◌+◌, ◌-◌, ◌<◌, ltb, length, get_or, set, replicate}
use Rattle.line.specs.Definition.Line.{place_of, put_line}

-- a byte goes from one place to another
pub record Move : Type 0 where
  pub from : ℕ
  pub to : ℕ

-- the RAM once moves are made, one after the other
unfoldable pub made_by : List Move → List ℕ → List ℕ
made_by [] ram = ram
made_by (m ∷ ms) ram = made_by ms (set ram m.to (get_or ram m.from 0))

-- "later records move up": the n bytes that stand gap positions behind p, p + 1, .. come to these, the first of them first
unfoldable pub moves_up : List ℕ → (room gap p n : ℕ) → List Move
moves_up chain room gap p zero = []
moves_up chain room gap p (suc n) = record { from = place_of chain room (p + gap); to = place_of chain room p } ∷ moves_up chain room gap (p + 1) n

-- "R falls by m, the line keeps its positions and so moves down": the bytes on positions n - 1, .. 0, the last of them first
unfoldable pub moves_down : List ℕ → (room m n : ℕ) → List Move
moves_down chain room m zero = []
moves_down chain room m (suc n) = record { from = place_of chain room n; to = place_of chain (room - m) n } ∷ moves_down chain room m n

-- "for close the lengths of the records after the closed one": of a line of total bytes the closed record is the gap bytes from position start
unfoldable pub close_moves : List ℕ → (room start gap total : ℕ) → List Move
close_moves chain room start gap total = moves_up chain room gap start (total - gap - start)

-- "for a link T if R falls, else 0"
unfoldable pub link_moves : List ℕ → (room m total : ℕ) → List Move
link_moves chain room m total = cond (ltb 0 m) (moves_down chain room m total) []

-- a close step by step: the moves, and then "positions that leave the line become zero"
abbrev pub closed_by_moves : List ℕ → ℕ → List ℕ → (start gap total : ℕ) → List ℕ
closed_by_moves chain room ram start gap total = put_line chain room (made_by (close_moves chain room start gap total) ram) (total - gap) (replicate gap 0)

-- a link step by step: the moves, and then "offsets from the new R to the old R - 1 become zero"
abbrev pub linked_by_moves : List ℕ → (room m : ℕ) → List ℕ → (total : ℕ) → List ℕ
linked_by_moves chain room m ram total = put_line chain room (made_by (link_moves chain room m total) ram) 0 (replicate m 0)

-- the i-th of moves, counted from 0
abbrev pub move_at : List Move → ℕ → Move
move_at ms i = get_or ms i (record { from = 0; to = 0 })

-- "each byte moved once"
pub record EachOnce (ms : List Move) : Type 0 where
  -- no byte is taken from one place twice, and none goes where another went
  pub sources : (i j : ℕ) → i < length ms → j < length ms → (move_at ms i).from ≡ (move_at ms j).from → i ≡ j
  pub goals : (i j : ℕ) → i < length ms → j < length ms → (move_at ms i).to ≡ (move_at ms j).to → i ≡ j
  -- none is written over before it is moved, nor moved on from where it went
  pub in-time : (i j : ℕ) → j < i → i < length ms → ¬ ((move_at ms i).from ≡ (move_at ms j).to)
  -- "changed position or place": each goes to another place
  pub elsewhere : (i : ℕ) → i < length ms → ¬ ((move_at ms i).from ≡ (move_at ms i).to)
