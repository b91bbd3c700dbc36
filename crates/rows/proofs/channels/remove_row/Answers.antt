-- `channels::remove_row` meets its contract.
use Rattle.std.proofs.Common.{sym, ◌≡◌, ◌∙◌, ap, List, [], ◌∷◌, ◌++◌, ℕ, suc, ◌+◌, ◌-◌, ◌≤◌, length, take, drop, set, arith, length-drop, drop_of_length-le, take_all, add-one}
use Rattle.std.specs.List.{copy_within}
use Rattle.std.proofs.Math.Seq.{set_split}
use Rattle.std.proofs.lemmas.List.Edits.{take-paste, length-paste}
use Rattle.rows.specs.Definition.Lists.{without}
use Rattle.rows.specs.Definition.Channels.{zero_channel}
use Rattle.rows.proofs.channels.remove_row.Goals as goal

-- the later elements copied down by one, and z in the last place
removed : {A : Type 0} (xs : List A) (i n : ℕ) (z : A) → i ≤ n → length xs ≡ n + 1 → set (copy_within xs (i + 1) (length xs) i) n z ≡ without i xs z
removed {A} xs i n z h l =
    let late = drop (i + 1) xs in
    let k : ℕ = length xs - (i + 1) in
    let long-late : length late ≡ k = length-drop (i + 1) xs in
    let ys = copy_within xs (i + 1) (length xs) i in
    let long : length ys ≡ n + 1 = length-paste xs i late k (omega arith) (omega arith) ∙ l in
    let e : i + k ≡ n = omega arith in
    let front : take n ys ≡ take i xs ++ drop (suc i) xs =
    ap (λ (j : ℕ). take j ys) (sym e) ∙ take-paste xs i late k (omega arith) (omega arith) ∙ ap (λ (w : List A). take i xs ++ w) (take_all k late (omega arith)) ∙ ap (λ (j : ℕ). take i xs ++ drop j xs) (add-one i) in
    set_split ys n z (omega arith) ∙ ap (λ (w : List A). take n ys ++ z ∷ w) (drop_of_length-le ys {i = suc n} (omega arith)) ∙ ap (λ (w : List A). w ++ (z ∷ [])) front

pub returns : goal.returns
returns c =
    let l : length c.args.channels.now ≡ 32 = c.told-channels in
    rw c.copy_within.ensures.after (removed c.args.channels.now c.args.i 31 zero_channel (omega arith) l)
