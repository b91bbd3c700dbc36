-- `listing::drain` meets its contract: from where the lines have come they go on to where they stop.
use Rattle.std.proofs.Common.{◌≡◌, ◌≤◌, length, take, drop}
use Rattle.events.proofs.Walks.{Behind}
use Rattle.listing.specs.Definition.NoneOrGood.{NoneOrGood}
use Rattle.listing.specs.declared.Stop.{Stop}
use Rattle.listing.specs.Definition.Pieces.{Mark, begin, Drains}
use Rattle.listing.proofs.Carries.{mark}
use Rattle.listing.proofs.buffers.drain.Given as goal

abbrev pub invariant-loop-to : goal.invariant-loop-to
invariant-loop-to l = record {
  goes : (to : Mark) (stop : Stop) → Drains (length l.initial.to.text.now) (mark l.tables l.ram l.out l.left (take l.to.at l.to.text.now)) to stop
      → Drains (length l.initial.to.text.now) (begin l.initial.tables l.initial.ram l.initial.out l.input) to stop;
  carried : NoneOrGood l.tables;
  left : Behind l.input l.left;
  used : l.to.at ≤ length l.to.text.now;
  size : length l.to.text.now ≡ length l.initial.to.text.now;
  same : l.to.text.ghost_name ≡ l.initial.to.text.ghost_name;
  behind : drop l.to.at l.to.text.now ≡ drop l.to.at l.initial.to.text.now;
}

abbrev pub decreases-loop-to : goal.decreases-loop-to
decreases-loop-to l = length l.left
