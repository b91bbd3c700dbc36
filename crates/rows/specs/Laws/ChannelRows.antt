-- The channel rows: one more, one less, none.
use Rattle.std.specs.Prelude.{◌≡◌, cond, false, List, [], ◌∷◌, ◌++◌, ℕ, zero, suc, ◌+◌, ◌-◌, ◌≤◌, ◌<◌, eqb, ltb, length, get_or, take, drop, set, replicate}
use Rattle.std.proofs.Common.{sym, ◌∙◌, add-one, le_of_suc-le-suc, not-suc-le-zero, arith, eq-eqb, lt-ltb, le-ltb, length-append, length-take, take-suc, take-suc-set, get_or-set_same, get_or-set_other, get_or-take}
use Rattle.std.proofs.lemmas.Bool.{false≢true}
use Rattle.std.proofs.Math.Decide.{dec_lt, ℕ_discrete}
use Rattle.std.proofs.lemmas.List.{get_or-replicate, take-append-le}
use Rattle.std.proofs.Math.ListN.{get_or-append}
use Rattle.std.specs.List.{remove}
use Rattle.std.proofs.lemmas.List.Edits.{length-remove, get_or-remove_below, get_or-remove_above}
use Rattle.std.proofs.Math.Seq.{get_or-append_seam}
use Rattle.rows.specs.Definition.Lists.{without}
use Rattle.rows.specs.Laws.Lists.{where-absent}
use Rattle.rows.specs.Definition.Channels.{sum_of, row_in, zero_channel}
use Rattle.rows.specs.Definition.Good.{ChannelsGood}
use Rattle.rows.specs.declared.Channel.{Channel}

-- where row j of the rest stood
abbrev pub from : ℕ → ℕ → ℕ
from i j = cond (ltb j i) j (suc j)

pub from_low : (i j : ℕ) → j < i → from i j ≡ j
from_low i j h = rw (lt-ltb j i h)

pub from-high : (i j : ℕ) → i ≤ j → from i j ≡ suc j
from-high i j h = rw (le-ltb j i h)

pub from-most : (i j : ℕ) → from i j ≤ suc j
from-most i j = elim (dec_lt j i) [ yes h ↦ omega (arith, from_low i j h) | no h ↦ omega (arith, from-high i j (omega arith)) ]

pub from-rises : (i j k : ℕ) → j < k → from i j < from i k
from-rises i j k h =
    elim (dec_lt k i) [
      | yes a ↦ omega (arith, from_low i k a, from_low i j (omega arith))
      | no a ↦ omega (arith, from-high i k (omega arith), from-most i j)
    ]

module _ {A : Type 0} (z d : A) where
  pub without_at : (i : ℕ) (xs : List A) (j : ℕ) → i < length xs → suc j < length xs → get_or (without i xs z) j d ≡ get_or xs (from i j) d
  without_at i xs j h l =
      let long = length-remove xs i h in
      get_or-append (remove xs i) (z ∷ []) d j (omega arith)
      ∙ elim (dec_lt j i) [
        | yes q ↦ rw (from_low i j q) (get_or-remove_below xs i d j q h)
        | no q ↦ rw (from-high i j (omega arith)) (get_or-remove_above xs i d j (omega arith) h ∙ rw add-one)
      ]

  pub without_end : (i : ℕ) (xs : List A) (j : ℕ) → i < length xs → suc j ≡ length xs → get_or (without i xs z) j d ≡ z
  without_end i xs j h l =
      let long = length-remove xs i h in
      let e : j ≡ length (remove xs i) = omega arith in
      rw e (get_or-append_seam (remove xs i) z [] d)

  pub length_without : (i : ℕ) (xs : List A) → i < length xs → length (without i xs z) ≡ length xs
  length_without i xs h = omega (arith, length-append (remove xs i) (z ∷ []), length-remove xs i h)

-- the sum of the records: of two parts, without one, with one put behind
pub sum-append : (xs ys : List Channel) → sum_of (xs ++ ys) ≡ sum_of xs + sum_of ys
sum-append [] ys = omega arith
sum-append (x ∷ xs) ys = omega (arith, sum-append xs ys)

pub sum-without : (z d : Channel) (i : ℕ) (xs : List Channel) (n : ℕ) → i ≤ n → n < length xs
    → sum_of (take n (without i xs z)) + (16 + (get_or xs i d).n) ≡ sum_of (take (suc n) xs)
sum-without z d i [] n h l = absurd (not-suc-le-zero l)
sum-without z d zero (x ∷ xs) n h l = rw (take-append-le n xs (z ∷ []) (le_of_suc-le-suc l)) (omega arith)
sum-without z d (suc i) (x ∷ xs) zero h l = absurd (not-suc-le-zero h)
sum-without z d (suc i) (x ∷ xs) (suc n) h l = omega (arith, sum-without z d i xs n (le_of_suc-le-suc h) (le_of_suc-le-suc l))

pub sum-set : (xs : List Channel) (n : ℕ) (c : Channel) → n < length xs → sum_of (take (n + 1) (set xs n c)) ≡ sum_of (take n xs) + (16 + c.n)
sum-set xs n c h = rw (add-one, take-suc-set xs n c h) (omega (arith, sum-append (take n xs) (c ∷ [])))

-- one record more
pub sum_more : (xs : List Channel) (i : ℕ) (d : Channel) → i < length xs → sum_of (take (i + 1) xs) ≡ sum_of (take i xs) + (16 + (get_or xs i d).n)
sum_more xs i d h = rw (add-one, take-suc xs i d h) (omega (arith, sum-append (take i xs) (get_or xs i d ∷ [])))

-- a record and those before and after it are all of them
pub sum-after : (xs : List Channel) (i n : ℕ) (d : Channel) → i < n → n ≤ length xs
    → sum_of (take i xs) + (16 + (get_or xs i d).n) + sum_of (drop (suc i) (take n xs)) ≡ sum_of (take n xs)
sum-after [] i n d h l = absurd (omega arith)
sum-after (x ∷ xs) i zero d h l = absurd (omega arith)
sum-after (x ∷ xs) zero (suc n) d h l = omega arith
sum-after (x ∷ xs) (suc i) (suc n) d h l = omega (arith, sum-after xs i n d (omega arith) (omega arith))

-- a row less
pub channels-less : (cs : List Channel) (opened known i : ℕ) → length cs ≡ 32 → i < opened → ChannelsGood cs opened known
    → ChannelsGood (without i cs zero_channel) (opened - 1) known
channels-less cs opened known i l h g =
    let m = g.most in
    let row : (j : ℕ) → j < opened - 1 → get_or (without i cs zero_channel) j zero_channel ≡ get_or cs (from i j) zero_channel =
    λ j a. without_at zero_channel zero_channel i cs j (omega arith) (omega arith) in
    record {
      most = omega arith;
      numbers = λ j a. rw (row j a) (g.numbers (from i j) (omega (arith, from-most i j)));
      differ = λ j k a b e. g.differ (from i j) (from i k) (from-rises i j k a) (omega (arith, from-most i k)) (rw (row j (omega arith), row k b) at e);
      devices = λ j a. rw (row j a) (g.devices (from i j) (omega (arith, from-most i j)));
      rest = λ j a b. elim (ℕ_discrete j 31) [
        | yes q ↦ without_end zero_channel zero_channel i cs j (omega arith) (omega arith)
        | no q ↦ without_at zero_channel zero_channel i cs j (omega arith) (omega arith) ∙ rw (from-high i j (omega arith)) (g.rest (suc j) (omega arith) (omega arith))
      ];
    }

-- a channel that is not found is at no place
pub place_none : (cs : List Channel) (channel n : ℕ) → n ≤ length cs → n ≤ row_in (take n cs) channel → (i : ℕ) → i < n → (get_or cs i zero_channel).number ≡ channel → ⊥
place_none cs channel n l h i a e =
    let long : length (take n cs) ≡ n = omega (arith, length-take n cs) in
    let no : eqb (get_or (take n cs) i zero_channel).number channel ≡ false =
    where-absent (λ (c : Channel). eqb c.number channel) (take n cs) zero_channel (omega arith) i (omega arith) in
    false≢true (sym (rw (get_or-take n cs i zero_channel a) at no) ∙ eq-eqb (get_or cs i zero_channel).number channel e)

-- a row more
pub channels-more : (cs : List Channel) (opened known : ℕ) (c : Channel) → length cs ≡ 32 → opened < 32 → c.number < 255 → c.device < known
    → ((i : ℕ) → i < opened → (get_or cs i zero_channel).number ≡ c.number → ⊥) → ChannelsGood cs opened known → ChannelsGood (set cs opened c) (opened + 1) known
channels-more cs opened known c l h a b new g =
    let here : get_or (set cs opened c) opened zero_channel ≡ c = get_or-set_same cs opened c zero_channel (omega arith) in
    let other : (i : ℕ) → (i ≡ opened → ⊥) → get_or (set cs opened c) i zero_channel ≡ get_or cs i zero_channel = λ i q. get_or-set_other cs opened i c zero_channel q in
    record {
      most = omega arith;
      numbers = λ i p. elim (ℕ_discrete i opened) [ yes q ↦ rw (q, here) a | no q ↦ rw (other i q) (g.numbers i (omega arith)) ];
      differ = λ i j p q e. elim (ℕ_discrete j opened) [
        | yes w ↦ new i (omega arith) (rw (other i (λ s. omega arith), w, here) at e)
        | no w ↦ g.differ i j p (omega arith) (rw (other i (λ s. omega arith), other j w) at e)
      ];
      devices = λ i p. elim (ℕ_discrete i opened) [ yes q ↦ rw (q, here) b | no q ↦ rw (other i q) (g.devices i (omega arith)) ];
      rest = λ i p q. other i (λ s. omega arith) ∙ g.rest i (omega arith) q;
    }

-- no row
pub channels-none : (known : ℕ) (cs : List Channel) → ((i : ℕ) → i < 32 → get_or cs i zero_channel ≡ zero_channel) → ChannelsGood cs 0 known
channels-none known cs e = record {
  most = omega arith;
  numbers = λ i h. absurd (not-suc-le-zero h);
  differ = λ i j h g _. absurd (not-suc-le-zero g);
  devices = λ i h. absurd (not-suc-le-zero h);
  rest = λ i h g. e i g;
}

pub no-channels : (known : ℕ) → ChannelsGood (replicate 32 zero_channel) 0 known
no-channels known = channels-none known (replicate 32 zero_channel) (λ i h. get_or-replicate 32 i zero_channel zero_channel h)

-- a device more in the table
pub channels-known : (cs : List Channel) (opened known more : ℕ) → known ≤ more → ChannelsGood cs opened known → ChannelsGood cs opened more
channels-known cs opened known more h g = record {
  most = g.most;
  numbers = g.numbers;
  differ = g.differ;
  devices = λ i a. omega (arith, g.devices i a);
  rest = g.rest;
}
