-- The statements of Definition/ExactlyOne.antt, proved.
use Rattle.std.specs.Prelude.{◌≡◌, refl, List, ◌≢◌, ◌⊎◌, ℕ, ◌≤◌, ◌<◌}
use Rattle.std.proofs.Common.{sym, ap, ◌∙◌, inl, inr, arith}
use Rattle.std.proofs.Math.Option.{Option, none, some}
use Rattle.std.proofs.Math.Decide.{dec_lt}
use Rattle.names.specs.Definition.Grammar.{Reading}
use Rattle.names.specs.Definition.Read.{reading}
use Rattle.names.specs.Laws.Right.{reading-right, reads-one, unread-right}
use Rattle.kernel.specs.Definition.Answers.{number_of}
use Rattle.kernel.specs.Definition.Calls.{Call}
use Rattle.kernel.specs.Definition.Refusals.{Row}
use Rattle.kernel.specs.Definition.Step.{decided, step}
use Rattle.kernel.specs.declared.Tables.{Tables}
use Rattle.kernel.specs.declared.Answer.{Answer}
use Rattle.kernel.specs.declared.Answer.TheVariants.{Done, BadTables, BadCall, NoChannel, Exists, BadName, NoDevice, Driver, Full, NoRoom, NoSegment, NotOwner, BadBoundary, BadRange, Guarded, BadFlags, BadStart, Shared, BadModule, BadPage}
use Rattle.history.specs.Definition.ExactlyOne.{IsAnswer, refused, passed, refusal, AnswersLowest, RefusesLowest, GrantsRest, OneAnswer, AtMostOne, ExactlyOne, OneResult, ReadsAs, named, unnamed, OneReading, OneName}
use Rattle.history.specs.Answers.Lowest.{clear_none}
use Rattle.history.specs.Answers.Numbers.{numbers, numbers-some, row_number}
use Rattle.history.specs.Answers.Decided.{decided-lowest}

-- ---- the answer

pub answers-lowest : AnswersLowest
answers-lowest t ram output c s = (decided-lowest t ram output c s).answer

pub answer-one : OneAnswer
answer-one C k l (refused {k = i} a b) (refused {k = j} c d) =
    elim (dec_lt i j) [
      | yes h ↦ absurd (d i h a)
      | no h ↦ elim (dec_lt j i) [ yes q ↦ absurd (b j q c) | no q ↦ omega arith ]
    ]
answer-one C k l (refused {k = i} a b) (passed n) = absurd (n i a)
answer-one C k l (passed n) (refused {k = j} c d) = absurd (n j c)
answer-one C k l (passed n) (passed m) = refl

-- an answer is a grant, 0 or 17, or a refusal, any other number
abbrev Kinds : Answer → Type 0
Kinds a =
    (((number_of a ≡ 0) ⊎ (number_of a ≡ 17)) × (refusal a ≡ 0)) ⊎ ((1 ≤ number_of a) × (number_of a ≢ 17) × (refusal a ≡ number_of a))

kinds : (a : Answer) → Kinds a
kinds (Done a b) = inl (inl refl, refl)
kinds BadTables = inr (omega arith, omega arith, refl)
kinds BadCall = inr (omega arith, omega arith, refl)
kinds NoChannel = inr (omega arith, omega arith, refl)
kinds Exists = inr (omega arith, omega arith, refl)
kinds BadName = inr (omega arith, omega arith, refl)
kinds NoDevice = inr (omega arith, omega arith, refl)
kinds (Driver s) = inr (omega arith, omega arith, refl)
kinds Full = inr (omega arith, omega arith, refl)
kinds NoRoom = inr (omega arith, omega arith, refl)
kinds NoSegment = inr (omega arith, omega arith, refl)
kinds NotOwner = inr (omega arith, omega arith, refl)
kinds BadBoundary = inr (omega arith, omega arith, refl)
kinds BadRange = inr (omega arith, omega arith, refl)
kinds Guarded = inr (omega arith, omega arith, refl)
kinds BadFlags = inr (omega arith, omega arith, refl)
kinds BadStart = inr (omega arith, omega arith, refl)
kinds (Shared a b) = inl (inr refl, refl)
kinds BadModule = inr (omega arith, omega arith, refl)
kinds BadPage = inr (omega arith, omega arith, refl)

lowest-of : {C : ℕ → Type 0} {k : ℕ} → IsAnswer C k → 1 ≤ k → C k × ((j : ℕ) → j < k → ¬ C j)
lowest-of (refused c low) h = (c, low)
lowest-of (passed n) h = absurd (omega arith)

none_of : {t : Tables} {ram output : ℕ} {c : Call} {k : ℕ} → IsAnswer (Row t ram output c) k → k ≡ 0 → (j : ℕ) → ¬ Row t ram output c j
none_of (passed n) e = n
none_of (refused r low) e = absurd (row-0 r e)
  where
    row-0 : {t : Tables} {ram output : ℕ} {c : Call} {k : ℕ} → Row t ram output c k → k ≡ 0 → ⊥
    row-0 {c = c} {k = k} r e = clear_none 0 1 (numbers c) (numbers-some c) k (omega arith) (omega arith) (row_number c k r)

pub refuses-lowest : RefusesLowest
refuses-lowest t ram output c s k one other =
    let a = (decided t ram output c).answer in
    let is = answers-lowest t ram output c s in (
      λ e. elim (kinds a) [
        | inl (z, q) ↦ absurd (elim z [ inl x ↦ omega arith | inr x ↦ omega arith ])
        | inr (l, h, q) ↦ let w : refusal a ≡ k = q ∙ e in lowest-of (rw w at is) one
      ],
      λ (r, low).
          let e : refusal a ≡ k = answer-one (Row t ram output c) (refusal a) k is (refused r low) in
          elim (kinds a) [ inl (z, q) ↦ absurd (omega arith) | inr (l, h, q) ↦ sym q ∙ e ],
    )

pub grants-rest : GrantsRest
grants-rest t ram output c s =
    let a = (decided t ram output c).answer in
    let is = answers-lowest t ram output c s in (
      λ z. elim (kinds a) [
        | inl (x, q) ↦ none_of is q
        | inr (l, h, q) ↦ absurd (elim z [ inl x ↦ omega arith | inr x ↦ omega arith ])
      ],
      λ n.
          let e : refusal a ≡ 0 = answer-one (Row t ram output c) (refusal a) 0 is (passed n) in
          elim (kinds a) [ inl (z, q) ↦ z | inr (l, h, q) ↦ absurd (omega arith) ],
    )

-- ---- the result

-- a promise that names the result as a function of the input
function-one : {I O : Type 0} (f : I → O) → ExactlyOne {I = I} {O = O} (λ i o. o ≡ f i)
function-one f = (λ i. (f i, refl), λ i x y p q. p ∙ sym q)

pub exactly-one : OneResult
exactly-one = function-one (λ i. step i.tables i.ram i.call i.output)

-- ---- names

pub one-reading : OneReading
one-reading = reads-one

name-most : AtMostOne ReadsAs
name-most s x y (named {r = r} a) (named {r = q} b) = ap some (reads-one s r q a b)
name-most s x y (named {r = r} a) (unnamed b) = absurd (b r a)
name-most s x y (unnamed a) (named {r = r} b) = absurd (a r b)
name-most s x y (unnamed a) (unnamed b) = refl

pub one_name : OneName
one_name = (λ s. go s (reading s) refl, name-most)
  where
    go : (s : List ℕ) (o : Option Reading) → reading s ≡ o → (x : Option Reading) × ReadsAs s x
    go s none e = (none, unnamed (unread-right s e))
    go s (some r) e = (some r, named (reading-right s r e))
