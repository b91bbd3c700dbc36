-- The numbers of the rows passed, kept as a table of 256 answers.
use Rattle.std.proofs.Common.{◌≡◌, sym, ap, ◌∙◌, refl, Bool, true, false, not, ◌&&◌, List, [], ℕ, ◌+◌, ◌≤◌, ◌<◌, length, get_or, take, set, replicate, eqb, ltb, eq-eqb, ne_eqb, arith, length-set, zero-add, take_all}
use Rattle.std.proofs.lemmas.List.{get_or-replicate, get_or-set_same, get_or-set_other}
use Rattle.std.specs.List.{list_all, enumerate_from}
use Rattle.std.proofs.lemmas.List.Folds.{list_all_more, list_all_at}
use Rattle.std.proofs.lemmas.List.FromFn.{length-enumerate_from, get_or-enumerate_from}
use Rattle.std.proofs.Math.Bool.{and-false, and-true, not-not}
use Rattle.std.proofs.Math.Decide.{ℕ_discrete}
use Rattle.rows.specs.declared.Channel.{Channel}
use Rattle.rows.specs.Definition.Channels.{zero_channel}
use Rattle.rows.specs.Definition.Tests.{lacks_number, channel_fits}

-- the table says of each number whether one of these rows has it
pub record Seen (cs : List Channel) (seen : List Bool) : Type 0 where
  pub long : length seen ≡ 256
  pub each : (x : ℕ) → x < 256 → get_or seen x false ≡ not (lacks_number cs x)

pub seen_none : Seen [] (replicate 256 false)
seen_none = record { long = refl; each = λ x h. get_or-replicate 256 x false false h }

-- the table with row i behind those passed
pub seen_more : (cs : List Channel) (i : ℕ) (seen : List Bool) → i < length cs → (get_or cs i zero_channel).number < 256 → Seen (take i cs) seen
    → Seen (take (i + 1) cs) (set seen (get_or cs i zero_channel).number true)
seen_more cs i seen h l m =
    let k = (get_or cs i zero_channel).number in
    record {
      long = length-set seen k true ∙ m.long;
      each = λ x b.
          let all = lacks_number (take i cs) x in
          let next : lacks_number (take (i + 1) cs) x ≡ (all && not (eqb k x)) = list_all_more (λ (c : Channel). not (eqb c.number x)) cs i zero_channel h in
          elim (ℕ_discrete x k) [
            | yes q ↦ rw (next, q, eq-eqb k k refl, and-false (lacks_number (take i cs) k)) (get_or-set_same seen k true false (omega (arith, m.long)))
            | no q ↦ rw (next, ne_eqb k x (λ e. q (sym e)), and-true all) (get_or-set_other seen k x true false q ∙ m.each x b)
          ];
    }

-- the rows below i fit
abbrev pub fit_to : List Channel → (known i : ℕ) → Bool
fit_to cs known i = list_all (λ (x : ℕ × Channel). channel_fits cs known x.0 x.1) (take i (enumerate_from 0 cs))

pub fits_all : (cs : List Channel) (known i : ℕ) → length cs ≤ i → fit_to cs known i ≡ true → list_all (λ (x : ℕ × Channel). channel_fits cs known x.0 x.1) (enumerate_from 0 cs) ≡ true
fits_all cs known i h t = rw (sym (take_all i (enumerate_from 0 cs) (omega (arith, length-enumerate_from 0 cs)))) t

module _ (cs : List Channel) (known i : ℕ) (h : i < length cs) where
  row : get_or (enumerate_from 0 cs) i (0, zero_channel) ≡ (i, get_or cs i zero_channel)
  row = get_or-enumerate_from 0 cs i (0, zero_channel) h ∙ ap {B = ℕ × Channel} (λ (j : ℕ). (j, get_or cs i zero_channel)) (zero-add i)

  fit_more : fit_to cs known i ≡ true → channel_fits cs known i (get_or cs i zero_channel) ≡ true → fit_to cs known (i + 1) ≡ true
  fit_more t e = rw (list_all_more (λ (x : ℕ × Channel). channel_fits cs known x.0 x.1) (enumerate_from 0 cs) i (0, zero_channel) (omega (arith, length-enumerate_from 0 cs)), row, t) e

  fit_no : channel_fits cs known i (get_or cs i zero_channel) ≡ false → list_all (λ (x : ℕ × Channel). channel_fits cs known x.0 x.1) (enumerate_from 0 cs) ≡ false
  fit_no e = list_all_at (λ (x : ℕ × Channel). channel_fits cs known x.0 x.1) (enumerate_from 0 cs) i (0, zero_channel) (omega (arith, length-enumerate_from 0 cs)) (rw row e)

  -- row i, by its number, its device and the table
  module _ (k d : ℕ) (seen : List Bool) (e : k ≡ (get_or cs i zero_channel).number) (f : d ≡ (get_or cs i zero_channel).device) (l : k < 256) (m : Seen (take i cs) seen) where
    asked : (ltb k 255 && ltb d known) && not (get_or seen k false) ≡ channel_fits cs known i (get_or cs i zero_channel)
    asked = rw (sym e, sym f, m.each k l, not-not (lacks_number (take i cs) k)) refl

    pub fits_next : fit_to cs known i ≡ true → (ltb k 255 && ltb d known) && not (get_or seen k false) ≡ true → Seen (take (i + 1) cs) (set seen k true) × (fit_to cs known (i + 1) ≡ true)
    fits_next t b = (rw e (seen_more cs i seen h (omega (arith, e)) m), fit_more t (sym asked ∙ b))

    pub fits_no : (ltb k 255 && ltb d known) && not (get_or seen k false) ≡ false → list_all (λ (x : ℕ × Channel). channel_fits cs known x.0 x.1) (enumerate_from 0 cs) ≡ false
    fits_no b = fit_no (sym asked ∙ b)
