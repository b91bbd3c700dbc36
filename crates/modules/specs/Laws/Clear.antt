-- A module without fault stores no guarded byte: where an item touches none, each of its bytes by itself is none.
use Rattle.std.specs.Prelude.{◌≡◌, ℕ, ◌+◌, ◌<◌, ◌≤◌, false, List}
use Rattle.std.proofs.Common.{arith}
use Rattle.rows.specs.Laws.Says.{says-no}
use Rattle.line.specs.Definition.Guard.{guarded}
use Rattle.modules.specs.Definition.Reading.{taken_of}
use Rattle.modules.specs.Definition.Counter.{Put, puts_at, puts_of}
use Rattle.modules.specs.Definition.Judging.{touches, judged, refusal_of}
use Rattle.modules.specs.Laws.Tests.{says-fails, guarded-says}
use Rattle.modules.specs.Laws.Stored.{Every, stored-have}
use Rattle.modules.specs.declared.Item.{Item}
use Rattle.modules.specs.declared.Item.TheVariants.{Byte, Word, SetPage, Restore, Move}
use Rattle.modules.specs.declared.Counter.{Counter}
use Rattle.modules.specs.declared.Target.{Target}

-- no byte put into the segment of a row is guarded there
abbrev pub Clear : (row : ℕ) → List Put → Type 0
Clear row = Every (λ p. guarded row p.offset 1 ≡ false)

byte-clear : (row offset n k : ℕ) → offset ≤ k → k < offset + n → guarded row offset n ≡ false → guarded row k 1 ≡ false
byte-clear row offset n k a b e =
    says-no (guarded-says row k 1) (λ (z, (i, p, q, h)). says-fails (guarded-says row offset n) e (z, (i, omega arith, omega arith, h)))

item-clear : (g : Target) (c : Counter) (i : Item) → touches g c i ≡ false → Clear g.row (puts_at c i)
item-clear g c (Byte x) e = (e, tt)
item-clear g c (Word x) e =
    let two = byte-clear g.row c.offset 2 in
    (two c.offset (omega arith) (omega arith) e, (two (c.offset + 1) (omega arith) (omega arith) e, tt))
item-clear g c (SetPage page) e = tt
item-clear g c Restore e = tt
item-clear g c (Move x) e = tt

pub stored-clear : (g : Target) (c : Counter) (stream : List ℕ) → refusal_of (judged g c stream) ≡ 0 → Clear g.row (puts_of g.page c (taken_of stream).items)
stored-clear g c stream e = stored-have (λ p. guarded g.row p.offset 1 ≡ false) g (λ c i _ h. item-clear g c i h) c stream e
