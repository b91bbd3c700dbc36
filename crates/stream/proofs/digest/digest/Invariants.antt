-- `digest::digest` takes in a byte a turn. The invariant: the first of them are taken in.
use Rattle.std.proofs.Common.{◌≡◌, ◌<◌, take}
use Rattle.stream.specs.Definition.Digest.{digest_of}
use Rattle.stream.proofs.digest.digest.Given as goal

abbrev pub invariant-loop-byte : goal.invariant-loop-byte
invariant-loop-byte l = (l.h ≡ digest_of (take l.byte-index l.bytes)) × (l.h < 1099511627776)
