-- The reading bit by bit, to which the reader's fetches of several bits come.
use Rattle.std.specs.Prelude.{ℕ, ◌-◌, cond, List, [], ◌∷◌, ◌++◌, ◌==◌, Result, Err}
use Rattle.modules.specs.Definition.Bits.{Bit}
use Rattle.modules.specs.Definition.Reading.{end, illegal-item, end-of-input, taken_of}
use Rattle.modules.specs.Definition.Counter.{after, Put, puts_at}
use Rattle.modules.specs.Definition.Judging.{outside, above, touches, judged_at}
use Rattle.modules.specs.Within.Codes.{with_bit, wants, item_of}
use Rattle.modules.specs.declared.Item.{Item}
use Rattle.modules.specs.declared.Counter.{Counter}
use Rattle.modules.specs.declared.Target.{Target}
use Rattle.modules.specs.declared.Refusal.{Refusal}
use Rattle.modules.specs.declared.Refusal.TheVariants.{Page, Range, Guard}

-- what is judged, and what is stored before the item at fault
pub record Scan : Type 0 where
  pub judged : Result ℕ Refusal
  pub puts : List Put

abbrev pub stops : Result ℕ Refusal → Scan
stops j = record { judged = j; puts = [] }

abbrev pub with_item : Target → Counter → Item → Scan → Scan
with_item g c i more =
    cond (outside c i) (stops (Err Page))
    (cond (above g c i) (stops (Err Range))
    (cond (touches g c i) (stops (Err Guard))
    (record { judged = more.judged; puts = puts_at c i ++ more.puts })))

-- all bits of an item are there; `n` is the stream's bytes, and `rest` the bits behind
unfoldable pub whole : (n : ℕ) → Target → Counter → (code : ℕ) (rest : List Bit) → (Counter → Scan) → Scan
whole n g c code rest more =
    cond (code == 14) (stops (judged_at n (end rest)))
    (cond (code == 15) (stops (judged_at n illegal-item)) (with_item g c (item_of code) (more (after g.page c (item_of code)))))

-- the item's bits so far are `code`, and it wants `left` more
unfoldable pub scan : (n : ℕ) → Target → Counter → (code left : ℕ) → List Bit → Scan
scan n g c code left [] = stops (judged_at n end-of-input)
scan n g c code left (b ∷ bits) =
    let code' = with_bit code b in
    let left' = wants code' (left - 1) in
    cond (left' == 0) (whole n g c code' bits (λ d. scan n g d 1 3 bits)) (scan n g c code' left' bits)

-- the same once a bit is taken
abbrev pub scanned : (n : ℕ) → Target → Counter → (code left : ℕ) → List Bit → Scan
scanned n g c code left bits = cond (left == 0) (whole n g c code bits (λ d. scan n g d 1 3 bits)) (scan n g c code left bits)

-- what items store before the first at fault
unfoldable pub puts_before : Target → Counter → List Item → List Put
puts_before g c [] = []
puts_before g c (i ∷ items) =
    cond (outside c i) [] (cond (above g c i) [] (cond (touches g c i) [] (puts_at c i ++ puts_before g (after g.page c i) items)))

abbrev pub stored_before : Target → Counter → (stream : List ℕ) → List Put
stored_before g c stream = puts_before g c (taken_of stream).items
