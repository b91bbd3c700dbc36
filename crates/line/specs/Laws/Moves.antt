-- The moves of a close and of a link: how many they are, that one after the other they make the RAM of 01's definition, and that each byte is moved once.
use Rattle.std.specs.Prelude.{◌≡◌, cond, ltb, length, replicate}
use Rattle.std.proofs.Math.Path.{refl, sym, ap}
use Rattle.std.proofs.Common.{◌∙◌, add-zero, lt-ltb, le-ltb}
use mathlib.Core.List.{List, []}
use Rattle.std.proofs.Math.Logic.{by_cases}
use Prim.Native.Nat.{ℕ, zero, suc, ◌+◌, ◌-◌, ◌<◌, ◌≤◌}
use Rattle.std.proofs.Math.Decide.{dec_lt}
use native.Mathlib.Omega.{arith}
use Rattle.std.proofs.Math.ListN.{get_or, set}
use Rattle.std.proofs.Math.Seq.{get_or-set_other}
use Rattle.line.specs.Definition.Ram.{bytes_from, put_from}
use Rattle.line.specs.Definition.Line.{place_of, line_from, put_line, after_close, after_link}
use Rattle.line.specs.Definition.Moves.{Move, made_by, moves_up, moves_down, close_moves, link_moves, closed_by_moves, linked_by_moves, move_at, EachOnce}
use Rattle.line.specs.Within.Chains.{Chain}
use Rattle.line.specs.Laws.Walks.{length-bytes, bytes-append, bytes-agree, put-append, put-set}
use Rattle.line.specs.Laws.Places.{place-apart, place-shift}
use Rattle.line.specs.Laws.Makes.{closed_of, linked-none}

-- ---- close

-- one byte a move
length_up : (chain : List ℕ) (room gap p n : ℕ) → length (moves_up chain room gap p n) ≡ n
unfolding moves_up
length_up chain room gap p zero = refl
length_up chain room gap p (suc n) = ap suc (length_up chain room gap (p + 1) n)

-- the k-th of them
up_at : (chain : List ℕ) (room gap p n k : ℕ) → k < n
    → move_at (moves_up chain room gap p n) k ≡ record { from = place_of chain room (p + k + gap); to = place_of chain room (p + k) }
unfolding moves_up
up_at chain room gap p zero k h = absurd (omega arith)
up_at chain room gap p (suc n) zero h = rw add-zero
up_at chain room gap p (suc n) (suc k) h =
    let q : p + suc k ≡ p + 1 + k = omega arith in
    rw q (up_at chain room gap (p + 1) n k (omega arith))

module _ (chain : List ℕ) (room start gap total : ℕ) where
  -- "for close the lengths of the records after the closed one"
  pub length-close : length (close_moves chain room start gap total) ≡ total - gap - start
  unfolding close_moves
  length-close = length_up chain room gap start (total - gap - start)

  pub close-most : length (close_moves chain room start gap total) ≤ total
  close-most = omega (arith, length-close)

  -- the k-th: from behind the record to where it stood
  pub close_at : (k : ℕ) → k < length (close_moves chain room start gap total)
      → move_at (close_moves chain room start gap total) k ≡ record { from = place_of chain room (start + k + gap); to = place_of chain room (start + k) }
  unfolding close_moves
  close_at k h = up_at chain room gap start (total - gap - start) k (omega (arith, length-close))

  module _ (size : ℕ) (good : Chain chain room total size) where
    -- a byte that is moved later is still where it was
    made_up : (n p : ℕ) (ram : List ℕ) → p + gap + n ≤ total
        → made_by (moves_up chain room gap p n) ram ≡ put_line chain room ram p (line_from chain room ram (p + gap) n)
    unfolding moves_up made_by put_from bytes_from
    made_up zero p ram fits = refl
    made_up (suc n) p ram fits =
        let x = get_or ram (place_of chain room (p + gap)) 0 in
        let next = set ram (place_of chain room p) x in
        let q : p + 1 + gap ≡ p + gap + 1 = omega arith in
        let kept : line_from chain room next (p + 1 + gap) n ≡ line_from chain room ram (p + gap + 1) n =
        rw q
        (bytes-agree (place_of chain room) (place_of chain room) next ram (p + gap + 1) (p + gap + 1) n
        (λ k h. get_or-set_other ram (place_of chain room p) (place_of chain room (p + gap + 1 + k)) x 0
        (λ e. let same : p + gap + 1 + k ≡ p = place-apart chain room total size good (p + gap + 1 + k) p (omega arith) (omega arith) e in omega arith))) in
        made_up n (p + 1) next (omega arith) ∙ ap (λ (l : List ℕ). put_from (place_of chain room) next (p + 1) l) kept

    -- "each byte moved once"
    pub close-once : 0 < gap → start + gap ≤ total → EachOnce (close_moves chain room start gap total)
    close-once some fits =
        let apart = place-apart chain room total size good in
        let from : (k : ℕ) → k < length (close_moves chain room start gap total) → (move_at (close_moves chain room start gap total) k).from ≡ place_of chain room (start + k + gap) =
        λ k h. ap (λ (m : Move). m.from) (close_at k h) in
        let to : (k : ℕ) → k < length (close_moves chain room start gap total) → (move_at (close_moves chain room start gap total) k).to ≡ place_of chain room (start + k) =
        λ k h. ap (λ (m : Move). m.to) (close_at k h) in
        record {
          sources = λ i j h l e.
              let same : start + i + gap ≡ start + j + gap =
              apart (start + i + gap) (start + j + gap) (omega (arith, length-close)) (omega (arith, length-close)) (sym (from i h) ∙ e ∙ from j l) in
              omega arith;
          goals = λ i j h l e.
              let same : start + i ≡ start + j = apart (start + i) (start + j) (omega (arith, length-close)) (omega (arith, length-close)) (sym (to i h) ∙ e ∙ to j l) in
              omega arith;
          in-time = λ i j h l e.
              let same : start + i + gap ≡ start + j =
              apart (start + i + gap) (start + j) (omega (arith, length-close)) (omega (arith, length-close)) (sym (from i l) ∙ e ∙ to j (omega arith)) in
              omega arith;
          elsewhere = λ i h e.
              let same : start + i + gap ≡ start + i =
              apart (start + i + gap) (start + i) (omega (arith, length-close)) (omega (arith, length-close)) (sym (from i h) ∙ e ∙ to i h) in
              omega arith;
        }

  -- the moves and then the zeros are what 01 says of a close
  pub close-steps : (ram : List ℕ) → Chain chain room total (length ram) → start + gap ≤ total
      → closed_by_moves chain room ram start gap total ≡ after_close chain room ram start gap total
  unfolding close_moves
  close-steps ram good fits =
      let z : total - (total - gap) ≡ gap = omega arith in
      closed_of chain room ram (made_by (close_moves chain room start gap total) ram) (closed_by_moves chain room ram start gap total) start gap total fits
      (made_up (length ram) good (total - gap - start) start ram (omega arith))
      (rw z)

-- ---- link

pub length-down : (chain : List ℕ) (room m n : ℕ) → length (moves_down chain room m n) ≡ n
unfolding moves_down
length-down chain room m zero = refl
length-down chain room m (suc n) = ap suc (length-down chain room m n)

down-at : (chain : List ℕ) (room m n k : ℕ) → k < n
    → move_at (moves_down chain room m n) k ≡ record { from = place_of chain room (n - 1 - k); to = place_of chain (room - m) (n - 1 - k) }
unfolding moves_down
down-at chain room m zero k h = absurd (omega arith)
down-at chain room m (suc n) zero h = let q : suc n - 1 - 0 ≡ n = omega arith in rw q
down-at chain room m (suc n) (suc k) h =
    let q : suc n - 1 - suc k ≡ n - 1 - k = omega arith in
    rw q (down-at chain room m n k (omega arith))

-- the last of n + 1 bytes is put last
last-put : (from to : ℕ → ℕ) (ram : List ℕ) (n : ℕ)
    → put_from to ram 0 (bytes_from from ram 0 (suc n)) ≡ set (put_from to ram 0 (bytes_from from ram 0 n)) (to n) (get_or ram (from n) 0)
unfolding put_from bytes_from
last-put from to ram n =
    let xs = bytes_from from ram 0 n in
    let s : suc n ≡ n + 1 = omega arith in
    let z : 0 + length xs ≡ n = omega (arith, length-bytes from ram 0 n) in
    let o : 0 + n ≡ n = omega arith in
    ap (λ (k : ℕ). put_from to ram 0 (bytes_from from ram 0 k)) s
    ∙ ap (put_from to ram 0) (bytes-append from ram 0 n 1)
    ∙ put-append to xs (bytes_from from ram (0 + n) 1) ram 0
    ∙ ap (λ (k : ℕ). put_from to (put_from to ram 0 xs) k (bytes_from from ram (0 + n) 1)) z
    ∙ ap (λ (k : ℕ). set (put_from to ram 0 xs) (to n) (get_or ram (from k) 0)) o

module _ (chain : List ℕ) (room m total : ℕ) where
  -- "for a link T if R falls, else 0"
  pub moves-falling : 0 < m → link_moves chain room m total ≡ moves_down chain room m total
  unfolding link_moves
  moves-falling h = rw (lt-ltb 0 m h)

  pub moves-none : m ≡ 0 → link_moves chain room m total ≡ []
  unfolding link_moves
  moves-none e = rw (le-ltb 0 m (omega arith))

  pub length-link : length (link_moves chain room m total) ≡ cond (ltb 0 m) total 0
  length-link =
      by_cases (dec_lt 0 m)
      (λ h. rw (moves-falling h, length-down chain room m total, lt-ltb 0 m h))
      (λ h. let z : m ≡ 0 = omega arith in rw (moves-none z, le-ltb 0 m (omega arith)))

  -- the one of position p: the last of the line is moved first
  pub link_at : 0 < m → (p : ℕ) → p < total → move_at (link_moves chain room m total) (total - 1 - p) ≡ record { from = place_of chain room p; to = place_of chain (room - m) p }
  link_at some p h =
      let back : total - 1 - (total - 1 - p) ≡ p = omega arith in
      rw (moves-falling some) (rw back at (down-at chain room m total (total - 1 - p) (omega arith)))

  -- "never exceeds T before the call"
  pub link-most : length (link_moves chain room m total) ≤ total
  link-most =
      by_cases (dec_lt 0 m)
      (λ h. omega (arith, ap length (moves-falling h), length-down chain room m total))
      (λ h. let z : m ≡ 0 = omega arith in omega (arith, ap length (moves-none z)))

  module _ (size : ℕ) (good : Chain chain room (total + m) size) (le : m ≤ room) where
    apart-down : (p q : ℕ) → p < total → q < total → place_of chain room p ≡ place_of chain (room - m) q → p ≡ q + m
    apart-down p q h l e = place-apart chain room (total + m) size good p (q + m) (omega arith) (omega arith) (e ∙ place-shift chain room m q le)

    apart-to : (p q : ℕ) → p < total → q < total → place_of chain (room - m) p ≡ place_of chain (room - m) q → p ≡ q
    apart-to p q h l e =
        let same : p + m ≡ q + m =
        place-apart chain room (total + m) size good (p + m) (q + m) (omega arith) (omega arith) (sym (place-shift chain room m p le) ∙ e ∙ place-shift chain room m q le) in
        omega arith

    made-down : (n : ℕ) (ram : List ℕ) → n ≤ total
        → made_by (moves_down chain room m n) ram ≡ put_line chain (room - m) ram 0 (line_from chain room ram 0 n)
    unfolding moves_down made_by put_from bytes_from
    made-down zero ram fits = refl
    made-down (suc n) ram fits =
        let from = place_of chain room in
        let to = place_of chain (room - m) in
        let x = get_or ram (from n) 0 in
        let next = set ram (to n) x in
        let xs = line_from chain room ram 0 n in
        let nx = length-bytes from ram 0 n in
        let kept : bytes_from from next 0 n ≡ xs =
        bytes-agree from from next ram 0 0 n
        (λ k h. get_or-set_other ram (to n) (from (0 + k)) x 0 (λ e. let same : 0 + k ≡ n + m = apart-down (0 + k) n (omega arith) (omega arith) e in omega arith)) in
        let put : put_from to next 0 xs ≡ set (put_from to ram 0 xs) (to n) x =
        sym (put-set to xs ram 0 (to n) x (λ k h e. let same : n ≡ 0 + k = apart-to n (0 + k) (omega arith) (omega (arith, nx)) e in omega (arith, nx))) in
        made-down n next (omega arith)
        ∙ ap (λ (l : List ℕ). put_from to next 0 l) kept
        ∙ put
        ∙ sym (last-put from to ram n)

    -- "each byte moved once"
    pub link-once : EachOnce (link_moves chain room m total)
    link-once = by_cases (dec_lt 0 m) falls (λ h. let z : m ≡ 0 = omega arith in rw (moves-none z) none-once)
      where
        none-once : EachOnce []
        none-once = record {
          sources = λ i j h l e. absurd (omega arith);
          goals = λ i j h l e. absurd (omega arith);
          in-time = λ i j h l e. omega arith;
          elsewhere = λ i h e. omega arith;
        }

        falls : 0 < m → EachOnce (link_moves chain room m total)
        falls some =
            let n = length-down chain room m total in
            let from : (k : ℕ) → k < length (moves_down chain room m total) → (move_at (moves_down chain room m total) k).from ≡ place_of chain room (total - 1 - k) =
            λ k h. ap (λ (q : Move). q.from) (down-at chain room m total k (omega (arith, n))) in
            let to : (k : ℕ) → k < length (moves_down chain room m total) → (move_at (moves_down chain room m total) k).to ≡ place_of chain (room - m) (total - 1 - k) =
            λ k h. ap (λ (q : Move). q.to) (down-at chain room m total k (omega (arith, n))) in
            rw (moves-falling some)
            record {
              sources = λ i j h l e.
                  let same : total - 1 - i ≡ total - 1 - j =
                  place-apart chain room (total + m) size good (total - 1 - i) (total - 1 - j) (omega (arith, n)) (omega (arith, n)) (sym (from i h) ∙ e ∙ from j l) in
                  omega (arith, n);
              goals = λ i j h l e.
                  let same : total - 1 - i ≡ total - 1 - j = apart-to (total - 1 - i) (total - 1 - j) (omega (arith, n)) (omega (arith, n)) (sym (to i h) ∙ e ∙ to j l) in
                  omega (arith, n);
              in-time = λ i j h l e.
                  let same : total - 1 - i ≡ total - 1 - j + m =
                  apart-down (total - 1 - i) (total - 1 - j) (omega (arith, n)) (omega (arith, n)) (sym (from i l) ∙ e ∙ to j (omega arith)) in
                  omega (arith, n);
              elsewhere = λ i h e.
                  let same : total - 1 - i ≡ total - 1 - i + m = apart-down (total - 1 - i) (total - 1 - i) (omega (arith, n)) (omega (arith, n)) (sym (from i h) ∙ e ∙ to i h) in
                  omega arith;
            }

  -- the moves and then the zeros are what 01 says of a link
  pub link-steps : (ram : List ℕ) → Chain chain room (total + m) (length ram) → m ≤ room
      → linked_by_moves chain room m ram total ≡ after_link chain room m ram total
  unfolding after_link made_by put_from
  link-steps ram good le =
      by_cases (dec_lt 0 m)
      (λ some. rw (moves-falling some) (ap (λ (l : List ℕ). put_line chain room l 0 (replicate m 0)) (made-down (length ram) good le total ram (omega arith))))
      (λ h. let z : m ≡ 0 = omega arith in rw (moves-none z, z) (linked-none chain room 0 ram total refl))
