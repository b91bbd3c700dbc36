-- `fill::fill` lays a byte a turn. The invariant: the first of them are laid, and x gives the rest.
use Rattle.std.proofs.Common.{◌≡◌, ◌++◌, ◌-◌, length, take}
use Rattle.stream.specs.Definition.Seed.{seeded}
use Rattle.stream.proofs.fill.fill.Given as goal

abbrev pub invariant-loop-byte : goal.invariant-loop-byte
invariant-loop-byte l = take l.byte-index l.ram ++ seeded (length l.initial.ram - l.byte-index) l.x ≡ seeded (length l.initial.ram) l.seed
