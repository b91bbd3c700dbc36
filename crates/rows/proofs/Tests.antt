-- A test over a list, and the same test asked of each row.
use Rattle.std.proofs.Common.{◌≡◌, sym, ap, ◌∙◌, Bool, true, ◌||◌, List, ℕ, ◌&&◌, ◌+◌, ◌-◌, ◌≤◌, ◌<◌, length, get_or, zero-add, add-one, take, drop, ltb, eqb, eq-eqb, eqb-true, arith, ext_get_or, lt-ltb, le-ltb, length-take, length-drop, take_all, get_or-take, get_or-drop}
use Rattle.std.proofs.lemmas.List.{get_or_default}
use Rattle.std.specs.Cmp.Lexicographic.{pointwise}
use Rattle.std.proofs.lemmas.Slice.Eq.{bytes_eq-Decides}
use Rattle.std.specs.List.{list_all, enumerate_from}
use Rattle.std.proofs.lemmas.List.Sums.{AllPass-from_list_all, list_all-from_AllPass}
use Rattle.std.proofs.lemmas.List.FromFn.{length-enumerate_from, get_or-enumerate_from}
use Rattle.std.proofs.Math.Decide.{dec_lt}
use Rattle.rows.specs.Definition.Lists.{at, up_to}
use Rattle.rows.specs.Definition.Devices.{same_bytes}
use Rattle.rows.specs.Laws.Lists.{up_to→all, all→up_to, same_when}

module _ {A : Type 0} (p : A → Bool) (d : A) where
  -- the rows within the list are asked the same, and those behind it pass
  pub all_rows : (xs : List A) (n : ℕ) (q : ℕ → Bool) → length xs ≤ n → ((i : ℕ) → i < length xs → p (get_or xs i d) ≡ q i) → ((i : ℕ) → length xs ≤ i → i < n → q i ≡ true)
      → list_all p xs ≡ up_to n q
  all_rows xs n q l e r =
      same_when (list_all p xs) (up_to n q)
      (λ t. all→up_to n q (λ i h. elim (dec_lt i (length xs)) [ yes g ↦ sym (e i g) ∙ AllPass-from_list_all p xs t i d g | no g ↦ r i (omega arith) h ]))
      (λ t. list_all-from_AllPass p xs (λ i x h. rw (get_or_default xs i x d h) (e i h ∙ up_to→all n q t i (omega arith))))

  -- the rows from n on
  pub all_rest : (xs : List A) (n m : ℕ) → length xs ≡ m → list_all p (take (m - n) (drop n xs)) ≡ up_to m (λ i. ltb i n || p (get_or xs i d))
  all_rest xs n m l =
      let late = drop n xs in
      let long : length late ≡ m - n = omega (arith, length-drop n xs) in
      let q : ℕ → Bool = λ i. ltb i n || p (get_or xs i d) in
      let same : (i : ℕ) → n ≤ i → p (get_or late (i - n) d) ≡ q i = λ i h. (let e : n + (i - n) ≡ i = omega arith in rw (get_or-drop n xs (i - n) d, e, le-ltb i n h)) in
      rw (take_all (m - n) late (omega arith))
      (same_when (list_all p late) (up_to m q)
      (λ t. all→up_to m q (λ i h. elim (dec_lt i n) [ yes g ↦ rw (lt-ltb i n g) | no g ↦ sym (same i (omega arith)) ∙ AllPass-from_list_all p late t (i - n) d (omega arith) ]))
      (λ t. list_all-from_AllPass p late (λ i x h.
      let e : n + i - n ≡ i = omega arith in
      rw (get_or_default late i x d h) ((rw e at (same (n + i) (omega arith))) ∙ up_to→all m q t (n + i) (omega arith)))))

-- the same, where the test asks for the row's number too
pub all_numbered : {A : Type 0} (p : ℕ → A → Bool) (d : A) (xs : List A) (n : ℕ) (q : ℕ → Bool) → length xs ≤ n → ((i : ℕ) → i < length xs → p i (get_or xs i d) ≡ q i)
    → ((i : ℕ) → length xs ≤ i → i < n → q i ≡ true) → list_all (λ (x : ℕ × A). p x.0 x.1) (enumerate_from 0 xs) ≡ up_to n q
all_numbered {A} p d xs n q l e r =
    let long = length-enumerate_from 0 xs in
    all_rows (λ (x : ℕ × A). p x.0 x.1) (0, d) (enumerate_from 0 xs) n q (omega arith)
    (λ i h. rw (get_or-enumerate_from 0 xs i (0, d) (omega arith), zero-add) (e i (omega arith)))
    (λ i h k. r i (omega arith) k)

-- the same of the first n rows
pub first_numbered : {A : Type 0} (p : ℕ → A → Bool) (d : A) (xs : List A) (n m : ℕ) (q : ℕ → Bool) → n ≤ length xs → n ≤ m → ((i : ℕ) → i < n → p i (get_or xs i d) ≡ q i)
    → ((i : ℕ) → n ≤ i → i < m → q i ≡ true) → list_all (λ (x : ℕ × A). p x.0 x.1) (enumerate_from 0 (take n xs)) ≡ up_to m q
first_numbered {A} p d xs n m q l h e r =
    let long : length (take n xs) ≡ n = omega (arith, length-take n xs) in
    all_numbered p d (take n xs) m q (omega arith) (λ i k. rw (get_or-take n xs i d (omega arith)) (e i (omega arith))) (λ i k b. r i (omega arith) b)

-- `==` on names
pub same_name_bytes : (a b : List ℕ) → length a ≡ 28 → length b ≡ 28 → pointwise eqb a b ≡ up_to 28 (same_bytes a b)
same_name_bytes a b l m =
    let e = bytes_eq-Decides a b in
    same_when (pointwise eqb a b) (up_to 28 (same_bytes a b))
    (λ t. all→up_to 28 (same_bytes a b) (λ k h. eq-eqb (at a k) (at b k) (ap (λ (xs : List ℕ). at xs k) (e.0 t))))
    (λ t. e.1 (ext_get_or 0 a b (omega arith) (λ k h. eqb-true (at a k) (at b k) (up_to→all 28 (same_bytes a b) t k (omega arith)))))

-- a loop's test of one row more
pub all_more : (p : ℕ → Bool) (i : ℕ) (ok : Bool) → ok ≡ up_to i p → ok && p i ≡ up_to (i + 1) p
unfolding up_to
all_more p i ok e = rw (add-one, e)
