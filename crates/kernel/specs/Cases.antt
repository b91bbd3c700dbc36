-- "Either side of the line": the ten cases as one computed table of calls, answers and the class left, and the one statement over all of it.
use Rattle.std.specs.Prelude.{◌≡◌, refl, Bool, true, ◌&&◌, List, [], ◌∷◌, ◌++◌, ℕ, ◌<◌, length, get_or, eqb}
use Rattle.std.proofs.Common.{eqb-true}
use Rattle.rows.specs.Definition.Lists.{every, up_to}
use Rattle.rows.specs.Laws.Lists.{every-at, and_left, and_right}
use Rattle.rows.specs.Definition.Sizes.{chain_length, boundary_at}
use Rattle.rows.specs.Definition.Classes.{USER}
use Rattle.kernel.specs.Definition.Tables.{row_of, class_at}
use Rattle.kernel.specs.Definition.Line.{grown, shrunk}
use Rattle.kernel.specs.Definition.Start.{no_tables}
use Rattle.kernel.specs.Definition.Answers.{number_of, a_of, b_of, Decision}
use Rattle.kernel.specs.Definition.Calls.{Call, start, «open», close, boundary, set-user-boundary, allocate}
use Rattle.kernel.specs.Definition.Step.{decided}
use Rattle.kernel.specs.declared.Tables.{Tables}

-- a call, and the number, a and b that it must answer
pub record Expected : Type 0 where
  pub call : Call
  pub number : ℕ
  pub a : ℕ
  pub b : ℕ

abbrev pub asks : Call → (number a b : ℕ) → Expected
asks call number a b = record { call = call; number = number; a = a; b = b }

-- four segments of RAM and 4,096 bytes of output are lent
unfoldable pub answered : Tables → Call → Decision
unfolding decided
answered t c = decided t 65536 4096 c

-- "R = 11,074, list 252 to 255, each from a fresh start."
abbrev pub fresh : Expected
fresh = asks (start 11074 (252 ∷ 253 ∷ 254 ∷ 255 ∷ [])) 0 4 11074

abbrev pub opens : (channel n : ℕ) → Call
opens channel n = «open» channel 0 n (86 ∷ 73 ∷ 68 ∷ 69 ∷ 79 ∷ 58 ∷ [])

-- "User allocates .. 253, 254, SHARED 255 with 11,074"
abbrev pub three : List Expected
three = asks (allocate 0) 0 253 16384 ∷ asks (allocate 0) 0 254 16384 ∷ asks (allocate 0) 17 255 11074 ∷ []

-- a segment, and the class that it must have in the end
pub record ClassLeft : Type 0 where
  pub segment : ℕ
  pub class : ℕ

-- a case: calls, each with its answer, and the classes that some segments must have in the end
pub record Case : Type 0 where
  pub calls : List Expected
  pub classes : List ClassLeft

abbrev pub answering : List Expected → Case
answering calls = record { calls = calls; classes = [] }

abbrev pub leaving : List Expected → (segment class : ℕ) → Case
leaving calls segment class = record { calls = calls; classes = record { segment = segment; class = class } ∷ [] }

abbrev pub cases : List Case
cases =
    answering (asks (opens 1 11058) 0 0 0 ∷ asks boundary 0 255 0 ∷ [])
    ∷ answering (asks (opens 1 11059) 0 0 0 ∷ asks boundary 0 254 16383 ∷ [])
    ∷ answering (asks (opens 1 43826) 0 0 0 ∷ [])
    ∷ answering (asks (opens 1 43827) 9 0 0 ∷ [])
    ∷ answering (three ++ (asks (allocate 0) 10 0 0 ∷ []))
    ∷ answering (three ++ (asks (set-user-boundary 11075) 12 0 0 ∷ []))
    ∷ answering (three ++ (asks (set-user-boundary 11058) 0 0 0 ∷ asks (opens 1 0) 0 0 0 ∷ []))
    ∷ answering (three ++ (asks (set-user-boundary 11058) 0 0 0 ∷ asks (opens 1 1) 9 0 0 ∷ []))
    ∷ leaving
    (asks (opens 1 11058) 0 0 0 ∷ asks (opens 2 0) 0 0 0 ∷ asks (allocate 0) 0 253 16384 ∷ asks (allocate 0) 17 254 16368 ∷ asks (close 2) 0 0 0 ∷ [])
    254 USER
    ∷ answering
    (asks («open» 1 0 0 (45 ∷ 51 ∷ 58 ∷ [])) 6 0 0 ∷ asks («open» 1 0 0 (78 ∷ 69 ∷ 84 ∷ 45 ∷ 58 ∷ [])) 5 0 0
    ∷ asks («open» 1 0 0 (110 ∷ 101 ∷ 116 ∷ 48 ∷ 55 ∷ 58 ∷ [])) 0 1 7 ∷ [])
    ∷ []

-- the segments have their classes
abbrev pub Has : Tables → List ClassLeft → Type 0
Has t [] = Unit {0}
Has t (c ∷ cs) = (class_at t (row_of t c.segment) ≡ c.class) × Has t cs

-- each call of a sequence, made on the tables that the last one left, answers what is expected of it, and the classes are those in the end
abbrev pub Answers : Tables → List Expected → List ClassLeft → Type 0
Answers t [] cs = Has t cs
Answers t (l ∷ ls) cs =
    (number_of (answered t l.call).answer ≡ l.number) × (a_of (answered t l.call).answer ≡ l.a)
    × (b_of (answered t l.call).answer ≡ l.b) × Answers (answered t l.call).tables ls cs

-- the same as tests
abbrev has_test : Tables → List ClassLeft → Bool
has_test t [] = true
has_test t (c ∷ cs) = eqb (class_at t (row_of t c.segment)) c.class && has_test t cs

abbrev answers_test : Tables → List Expected → List ClassLeft → Bool
answers_test t [] cs = has_test t cs
answers_test t (l ∷ ls) cs =
    let o = answered t l.call in
    eqb (number_of o.answer) l.number && (eqb (a_of o.answer) l.a && (eqb (b_of o.answer) l.b && answers_test o.tables ls cs))

has : (t : Tables) (cs : List ClassLeft) → has_test t cs ≡ true → Has t cs
has t [] e = tt
has t (c ∷ cs) e =
    let p = eqb (class_at t (row_of t c.segment)) c.class in
    (eqb-true _ _ (and_left p (has_test t cs) e), has t cs (and_right p (has_test t cs) e))

tested : (t : Tables) (ls : List Expected) (cs : List ClassLeft) → answers_test t ls cs ≡ true → Answers t ls cs
tested t [] cs e = has t cs e
tested t (l ∷ ls) cs e =
    let o = answered t l.call in
    let p = eqb (number_of o.answer) l.number in
    let q = eqb (a_of o.answer) l.a in
    let r = eqb (b_of o.answer) l.b in
    let more = answers_test o.tables ls cs in
    let e₁ = and_right p (q && (r && more)) e in
    let e₂ = and_right q (r && more) e₁ in
    (eqb-true _ _ (and_left p (q && (r && more)) e), eqb-true _ _ (and_left q (r && more) e₁), eqb-true _ _ (and_left r more e₂), tested o.tables ls cs (and_right r more e₂))

abbrev case_test : Case → Bool
case_test c = answers_test no_tables (fresh ∷ c.calls) c.classes

all_pass : every case_test cases ≡ true
unfolding answered no_tables up_to chain_length boundary_at grown shrunk
all_pass = refl

pub ten : length cases ≡ 10
ten = refl

pub ten-cases : (k : ℕ) → k < 10 → let c = get_or cases k (answering []) in Answers no_tables (fresh ∷ c.calls) c.classes
ten-cases k h = let c = get_or cases k (answering []) in tested no_tables (fresh ∷ c.calls) c.classes (every-at case_test cases (answering []) all_pass k h)
