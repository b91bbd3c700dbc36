-- The tests of Tests.antt hold exactly where the rules of Grammar.antt do; laws of runs.
use Rattle.std.specs.Prelude.{ℕ, suc, ◌+◌, ◌≤◌, ◌<◌, ◌≡◌, refl, Bool, true, false, not, ◌&&◌, ◌≢◌, ◌⊎◌, List, [], ◌∷◌, ◌++◌, length, get_or, take, leb, eqb}
use Rattle.std.proofs.Common.{ap, ◌∙◌, inl, inr, le-leb, leb-true, eq-eqb, eqb-true, ne_eqb, arith}
use Rattle.std.proofs.Math.Bool.{and-eq-true_iff}
use Rattle.std.proofs.lemmas.Bool.{eqb-false, not-true, or_cases, or_right, false_from_ne_true}
use Rattle.std.specs.List.{prefix_len}
use Rattle.names.specs.Definition.Grammar as grammar
use Rattle.names.specs.Definition.Grammar.{All, FileRule}
use Rattle.names.specs.Definition.Words.{LinkName, DefaultName}
use Rattle.names.specs.Definition.Tests.{of_kind, run_of, all_of, file_test, letters_test, link_name_test, default_name_test}
use Rattle.names.specs.declared.Kind.{Kind}
use Rattle.names.specs.declared.Kind.TheVariants.{Capital, Letter, Digit, FileByte, BeforeColon}

-- the rule on a byte that a kind stands for
abbrev pub KindRule : Kind → ℕ → Type 0
KindRule Capital = grammar.Capital
KindRule Letter = grammar.Letter
KindRule Digit = grammar.Digit
KindRule FileByte = grammar.FileByte
KindRule BeforeColon = λ b. b ≢ 58

between-right : (a c b : ℕ) → (leb a b && leb b c) ≡ true → (a ≤ b) × (b ≤ c)
between-right a c b e =
    let (p, q) = (and-eq-true_iff (leb a b) (leb b c)).0 e in
    (leb-true a b p, leb-true b c q)

between-finds : (a c b : ℕ) → a ≤ b → b ≤ c → (leb a b && leb b c) ≡ true
between-finds a c b p q = rw (le-leb a b p, le-leb b c q)

kind-right : (k : Kind) (b : ℕ) → of_kind k b ≡ true → KindRule k b
kind-right Capital b e = between-right 65 90 b e
kind-right Letter b e =
    elim (or_cases (leb 65 b && leb b 90) (leb 97 b && leb b 122) e) [
      | inl x ↦ inl (between-right 65 90 b x)
      | inr x ↦ inr (between-right 97 122 b x)
    ]
kind-right Digit b e = between-right 48 57 b e
kind-right FileByte b e =
    let (p, q) = (and-eq-true_iff (leb 33 b && leb b 126) (not (eqb b 58))).0 e in
    let (l, h) = between-right 33 126 b p in
    (l, h, eqb-false b 58 (not-true (eqb b 58) q))
kind-right BeforeColon b e = eqb-false b 58 (not-true (eqb b 58) e)

kind-finds : (k : Kind) (b : ℕ) → KindRule k b → of_kind k b ≡ true
kind-finds Capital b h = between-finds 65 90 b h.0 h.1
kind-finds Letter b h =
    elim h [
      | inl x ↦ rw (between-finds 65 90 b x.0 x.1)
      | inr x ↦ or_right (leb 65 b && leb b 90) (leb 97 b && leb b 122) (between-finds 97 122 b x.0 x.1)
    ]
kind-finds Digit b h = between-finds 48 57 b h.0 h.1
kind-finds FileByte b h = rw (between-finds 33 126 b h.0 h.1, ne_eqb b 58 h.2)
kind-finds BeforeColon b h = rw (ne_eqb b 58 h)

kind-not : (k : Kind) (b : ℕ) → ¬ KindRule k b → of_kind k b ≡ false
kind-not k b h = false_from_ne_true (of_kind k b) (λ e. h (kind-right k b e))

-- ---- runs

run-yes : (k : Kind) (b : ℕ) (bs : List ℕ) → of_kind k b ≡ true → run_of k (b ∷ bs) ≡ suc (run_of k bs)
unfolding run_of
run-yes k b bs e =
    let one : 1 + prefix_len (of_kind k) bs ≡ suc (prefix_len (of_kind k) bs) = omega arith in
    rw (e, one)

run-no : (k : Kind) (b : ℕ) (bs : List ℕ) → of_kind k b ≡ false → run_of k (b ∷ bs) ≡ 0
unfolding run_of
run-no k b bs e = rw e

-- a byte is of the kind or not, and the run goes on or stops
abbrev GoesOrStops : Kind → ℕ → List ℕ → Type 0
GoesOrStops k b bs = ((of_kind k b ≡ true) × (run_of k (b ∷ bs) ≡ suc (run_of k bs))) ⊎ ((of_kind k b ≡ false) × (run_of k (b ∷ bs) ≡ 0))

run-cases : (k : Kind) (b : ℕ) (bs : List ℕ) → GoesOrStops k b bs
run-cases k b bs = go (of_kind k b) refl
  where
    go : (t : Bool) → of_kind k b ≡ t → GoesOrStops k b bs
    go true e = inl (e, run-yes k b bs e)
    go false e = inr (e, run-no k b bs e)

run-empty : (k : Kind) → run_of k [] ≡ 0
unfolding run_of
run-empty k = refl

pub run-le : (k : Kind) (bs : List ℕ) → run_of k bs ≤ length bs
run-le k [] = omega (arith, run-empty k)
run-le k (b ∷ bs) =
    elim (run-cases k b bs) [
      | inl x ↦ omega (arith, run-le k bs, x.1)
      | inr x ↦ omega (arith, x.1)
    ]

-- the bytes of a run are of the kind
pub run-front : (k : Kind) (bs : List ℕ) → All (KindRule k) (take (run_of k bs) bs)
run-front k [] = rw (run-empty k) tt
run-front k (b ∷ bs) =
    elim (run-cases k b bs) [
      | inl x ↦ rw x.1 (kind-right k b x.0, run-front k bs)
      | inr x ↦ rw x.1 tt
    ]

-- the byte after a run is not
pub run-next : (k : Kind) (bs : List ℕ) → run_of k bs < length bs → of_kind k (get_or bs (run_of k bs) 0) ≡ false
run-next k [] h = absurd (omega (arith, run-empty k))
run-next k (b ∷ bs) h =
    elim (run-cases k b bs) [
      | inl x ↦ rw x.1 (run-next k bs (omega (arith, x.1)))
      | inr x ↦ rw x.1 x.0
    ]

pub run-all : (k : Kind) (bs : List ℕ) → All (KindRule k) bs → run_of k bs ≡ length bs
run-all k [] h = run-empty k
run-all k (b ∷ bs) h = run-yes k b bs (kind-finds k b h.0) ∙ ap suc (run-all k bs h.1)

pub run-stop : (k : Kind) (a : List ℕ) (b : ℕ) (bs : List ℕ) → All (KindRule k) a → ¬ KindRule k b → run_of k (a ++ (b ∷ bs)) ≡ length a
run-stop k [] b bs h n = run-no k b bs (kind-not k b n)
run-stop k (x ∷ a) b bs h n = run-yes k x (a ++ (b ∷ bs)) (kind-finds k x h.0) ∙ ap suc (run-stop k a b bs h.1 n)

all_take : (P : ℕ → Type 0) (bs : List ℕ) → All P (take (length bs) bs) → All P bs
all_take P [] h = tt
all_take P (b ∷ bs) h = (h.0, all_take P bs h.1)

pub all-run : (k : Kind) (bs : List ℕ) → run_of k bs ≡ length bs → All (KindRule k) bs
all-run k bs e = all_take (KindRule k) bs (rw e at (run-front k bs))

pub all_right : (k : Kind) (bs : List ℕ) → all_of k bs ≡ true → All (KindRule k) bs
unfolding all_of
all_right k bs e = all-run k bs (eqb-true (run_of k bs) (length bs) e)

pub all-finds : (k : Kind) (bs : List ℕ) → All (KindRule k) bs → all_of k bs ≡ true
unfolding all_of
all-finds k bs h = eq-eqb (run_of k bs) (length bs) (run-all k bs h)

-- ---- the tests of parts

pub file-right : (bs : List ℕ) → file_test bs ≡ true → FileRule bs
unfolding file_test
file-right bs e =
    let (p, q) = (and-eq-true_iff (leb (length bs) 28) (all_of FileByte bs)).0 e in
    (all_right FileByte bs q, leb-true (length bs) 28 p)

pub file-finds : (bs : List ℕ) → FileRule bs → file_test bs ≡ true
unfolding file_test
file-finds bs h = rw (le-leb (length bs) 28 h.1, all-finds FileByte bs h.0)

name-right : (k : Kind) (bs : List ℕ) → letters_test k bs ≡ true → (1 ≤ length bs) × (length bs ≤ 28) × All (KindRule k) bs
unfolding letters_test
name-right k bs e =
    let (p, q) = (and-eq-true_iff (leb 1 (length bs) && leb (length bs) 28) (all_of k bs)).0 e in
    let (l, h) = between-right 1 28 (length bs) p in
    (l, h, all_right k bs q)

name-finds : (k : Kind) (bs : List ℕ) → 1 ≤ length bs → length bs ≤ 28 → All (KindRule k) bs → letters_test k bs ≡ true
unfolding letters_test
name-finds k bs l h a = rw (between-finds 1 28 (length bs) l h, all-finds k bs a)

-- Link's test and default's are their rules.
pub link-right : (s : List ℕ) → link_name_test s ≡ true → LinkName s
link-right s e = name-right Capital s e

pub link-finds : (s : List ℕ) → LinkName s → link_name_test s ≡ true
link-finds s h = name-finds Capital s h.0 h.1 h.2

pub default-right : (s : List ℕ) → default_name_test s ≡ true → DefaultName s
default-right s e = name-right Letter s e

pub default-finds : (s : List ℕ) → DefaultName s → default_name_test s ≡ true
default-finds s h = name-finds Letter s h.0 h.1 h.2
