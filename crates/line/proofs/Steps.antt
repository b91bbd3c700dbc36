-- What the functions' proofs apply.
use Rattle.line.specs.Laws.Lending.{lent-inside, lent_is, lent-empty}
use Rattle.line.specs.Laws.Moves.{moves-none, moves-falling, link-most, close-most}
use Rattle.line.specs.Laws.Makes.{linked-none}
use Rattle.line.specs.Laws.Walks.{length-bytes}
use Rattle.line.proofs.Loops.{put-none, put-byte, copy-none, copy-byte}
use Rattle.line.proofs.Sides.{copied-fall, copied-rise, cleared-fall, rise-all}
use Rattle.std.proofs.lemmas.Slice.{put_mid-paste}
use Rattle.std.proofs.lemmas.List.{length-replicate}
use Rattle.line.specs.Laws.Places.{place_inside}
use Rattle.line.proofs.Turns.{zeros-none, part-length, put-turn, clear-turn}

pub ruleset lending = (lent-inside, lent_is, lent-empty)

pub ruleset counts = (moves-none, moves-falling, link-most, close-most, linked-none)

pub ruleset runs = (copied-fall, copied-rise, put-none, put-byte, copy-none, copy-byte, rise-all, length-bytes)

pub ruleset zeros = (put_mid-paste, cleared-fall, length-replicate)

pub ruleset walks = (put-none, zeros-none, part-length, place_inside, put-turn, clear-turn)
