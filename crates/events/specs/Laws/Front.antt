-- What stands at the front of a log, by its bytes; what a record that stands there takes of them; and that it stays, whatever follows.
use Rattle.std.specs.Prelude.{◌≡◌, refl, Bool, true, false, cond, List, ◌++◌, ◌⊎◌, ℕ, ◌+◌, ◌-◌, ◌<◌, ◌≤◌, ltb, length, drop, Ok, Err}
use Rattle.std.proofs.Common.{sym, ◌∙◌, inl, inr, arith, length-append, length-drop}
use borrow.Author.Tests.{lt-ltb, le-ltb, ltb-true, ltb-false}
use Rattle.std.proofs.Math.ListN.{get_or-append}
use Rattle.std.proofs.lemmas.List.{take-append-le, drop-append-le}
use Rattle.events.specs.declared.NoRecord.TheVariants.{Cut, Bad}
use Rattle.events.specs.declared.Record.{Record}
use Rattle.events.specs.Definition.Records.{u16_at, Front, front_of, body_of, rest_of}

-- less than a length
pub front-none : (xs : List ℕ) → length xs < 2 → Err Cut ≡ front_of xs
unfolding front_of
front-none xs l = rw (lt-ltb (length xs) 2 l)

-- the length is there
module _ (xs : List ℕ) (n : ℕ) (e : n ≡ u16_at xs 0) (l : 2 ≤ length xs) where
  pub front_low : n < 2 → Err Bad ≡ front_of xs
  unfolding front_of
  front_low h = rw (← e, le-ltb (length xs) 2 l, lt-ltb n 2 h)

  pub front-high : 4096 < n → Err Bad ≡ front_of xs
  unfolding front_of
  front-high g = rw (← e, le-ltb (length xs) 2 l, le-ltb n 2 (omega arith), lt-ltb 4096 n g)

  module _ (h : 2 ≤ n) (g : n ≤ 4096) where
    pub front_cut : length xs < n + 2 → Err Cut ≡ front_of xs
    unfolding front_of
    front_cut c = rw (← e, le-ltb (length xs) 2 l, le-ltb n 2 h, le-ltb 4096 n g, lt-ltb (length xs) (n + 2) c)

    pub front-whole : n + 2 ≤ length xs → (kind : ℕ) → kind ≡ u16_at xs 2 → Ok (record { kind = kind; size = n - 2 }) ≡ front_of xs
    unfolding front_of
    front-whole c kind f = rw (← e, ← f, le-ltb (length xs) 2 l, le-ltb n 2 h, le-ltb 4096 n g, le-ltb (length xs) (n + 2) c)

pub record Whole (xs : List ℕ) (r : Record) : Type 0 where
  pub fits : 4 + r.size ≤ length xs
  pub most : r.size ≤ 4094
  pub length-is : r.size + 2 ≡ u16_at xs 0
  pub kind-is : r.kind ≡ u16_at xs 2

-- what a front tells of the bytes
abbrev Tells : List ℕ → Front → Type 0
Tells xs (Ok r) = Whole xs r
Tells xs (Err Cut) = length xs < 4098
Tells xs (Err Bad) = (2 ≤ length xs) × ((u16_at xs 0 < 2) ⊎ (4096 < u16_at xs 0))

tells : (xs : List ℕ) → Tells xs (front_of xs)
unfolding front_of
tells xs = go _ _ _ _ refl refl refl refl
  where
    n : ℕ
    n = u16_at xs 0

    go : (b₁ b₂ b₃ b₄ : Bool) → ltb (length xs) 2 ≡ b₁ → ltb n 2 ≡ b₂ → ltb 4096 n ≡ b₃ → ltb (length xs) (n + 2) ≡ b₄
        → Tells xs (cond b₁ (Err Cut) (cond b₂ (Err Bad) (cond b₃ (Err Bad) (cond b₄ (Err Cut) (Ok (record { kind = u16_at xs 2; size = n - 2 }))))))
    go true b₂ b₃ b₄ e f g h = omega (arith, ltb-true (length xs) 2 e)
    go false true b₃ b₄ e f g h = (ltb-false (length xs) 2 e, inl (ltb-true n 2 f))
    go false false true b₄ e f g h = (ltb-false (length xs) 2 e, inr (ltb-true 4096 n g))
    go false false false true e f g h = omega (arith, ltb-false 4096 n g, ltb-true (length xs) (n + 2) h)
    go false false false false e f g h =
        let two = ltb-false n 2 f in
        let all = ltb-false (length xs) (n + 2) h in
        record { fits = omega (arith, two, all); most = omega (arith, ltb-false 4096 n g); length-is = omega (arith, two); kind-is = refl }

pub whole : (xs : List ℕ) (r : Record) → front_of xs ≡ Ok r → Whole xs r
whole xs r e = rw e at (tells xs)

pub cut_short : (xs : List ℕ) → front_of xs ≡ Err Cut → length xs < 4098
cut_short xs e = rw e at (tells xs)

-- a record takes bytes
pub shorter : (xs : List ℕ) (r : Record) → front_of xs ≡ Ok r → length (rest_of xs r.size) < length xs
shorter xs r e = rw length-drop (omega (arith, (whole xs r e).fits))

-- ---- whatever follows

module _ (xs ys : List ℕ) where
  field : (i : ℕ) → i + 1 < length xs → u16_at (xs ++ ys) i ≡ u16_at xs i
  field i h = rw (get_or-append xs ys 0 i (omega arith), get_or-append xs ys 0 (i + 1) h)

  long : (m : ℕ) → m ≤ length xs → m ≤ length (xs ++ ys)
  long m h = rw length-append (omega arith)

  pub bad-stays : front_of xs ≡ Err Bad → front_of (xs ++ ys) ≡ Err Bad
  bad-stays e =
      let (l, w) = rw e at (tells xs) in
      let f = field 0 (omega arith) in
      elim w [
        | inl h ↦ sym (front_low (xs ++ ys) (u16_at xs 0) (sym f) (long 2 l) h)
        | inr h ↦ sym (front-high (xs ++ ys) (u16_at xs 0) (sym f) (long 2 l) h)
      ]

  module _ (r : Record) (e : front_of xs ≡ Ok r) where
    w : Whole xs r
    w = whole xs r e

    pub record-stays : front_of (xs ++ ys) ≡ Ok r
    record-stays =
        let two : r.size + 2 - 2 ≡ r.size = omega arith in
        let size = w.length-is ∙ sym (field 0 (omega (arith, w.fits))) in
        rw two at
        (sym (front-whole (xs ++ ys) (r.size + 2) size (long 2 (omega (arith, w.fits))) (omega arith) (omega (arith, w.most)) (long (r.size + 2 + 2) (omega (arith, w.fits))) r.kind
        (w.kind-is ∙ sym (field 2 (omega (arith, w.fits))))))

    pub body-stays : body_of (xs ++ ys) r.size ≡ body_of xs r.size
    body-stays = rw (drop-append-le 4 xs ys (omega (arith, w.fits)), take-append-le r.size (drop 4 xs) ys (omega (arith, w.fits, length-drop 4 xs)))

    pub rest-stays : rest_of (xs ++ ys) r.size ≡ rest_of xs r.size ++ ys
    rest-stays = drop-append-le (4 + r.size) xs ys w.fits
