-- `audit::judge` meets its contract: the records so far are right.
use Rattle.std.proofs.Common.{◌+◌, ◌≤◌, length}
use Rattle.events.proofs.Walks.{Behind}
use Rattle.listing.specs.Definition.NoneOrGood.{NoneOrGood}
use Rattle.audit.specs.Definition.Log.{mark, Walks}
use Rattle.audit.specs.Definition.Pieces.{state_of}
use Rattle.audit.proofs.buffers.judge.Given as goal

abbrev pub invariant-loop-r : goal.invariant-loop-r
invariant-loop-r l = record {
  walks : Walks (mark l.initial.number (state_of l.initial.due l.initial.tables l.initial.ram l.initial.out) l.input) (mark l.number (state_of l.due l.tables l.ram l.out) l.left);
  carried : NoneOrGood l.tables;
  left : Behind l.input l.left;
  counted : l.number + length l.left ≤ l.initial.number + length l.input;
}

abbrev pub decreases-loop-r : goal.decreases-loop-r
decreases-loop-r l = length l.left
