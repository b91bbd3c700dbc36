-- Good tables' chain holds their line in a RAM of their size: what the moves of the line ask.
use Rattle.std.specs.Prelude.{◌≡◌, List, ℕ, ◌+◌, ◌-◌, ◌*◌, ◌≤◌}
use Rattle.std.proofs.Math.Decide.{dec_le}
use Rattle.std.proofs.Common.{arith}
use Rattle.rows.specs.Definition.Sizes.{chain_length}
use Rattle.rows.specs.Laws.Sizes.{Ends, ends}
use Rattle.line.specs.Within.Chains.{Chain}
use Rattle.kernel.specs.Definition.Tables.{ram_size}
use Rattle.kernel.specs.Definition.Good.{Good}
use Rattle.kernel.specs.Definition.Line.{total_of}
use Rattle.kernel.specs.Laws.Facts.{chain-once, room_small}
use Rattle.kernel.specs.declared.Tables.{Tables}

-- a line lies in as many segments as it takes
pub line-fits : (r n : ℕ) → n ≤ r + 16384 * (chain_length r n - 1)
line-fits r n = elim (dec_le n r) [ yes h ↦ omega arith | no h ↦ let e : Ends r n (chain_length r n - 1) _ = ends r n (omega arith) in omega (arith, e.sum) ]

pub good-chain : (t : Tables) (size : ℕ) → Good t → size ≡ ram_size t → Chain t.chain t.room (total_of t) size
good-chain t size g e = record {
  held = t.held;
  some = g.chain.holds;
  few = g.chain.most;
  small = room_small t g;
  enough = rw g.line (line-fits t.room (total_of t));
  inside = λ i h. omega (arith, g.chain.rows i h);
  apart = chain-once t g;
}

-- a line of total bytes under a room of m bytes less is the part from m on of a line of m bytes more
pub chain-shift : (chain : List ℕ) (room m total size : ℕ) → m ≤ room → room ≤ 16384 → Chain chain (room - m) total size → Chain chain room (total + m) size
chain-shift chain room m total size h k c = record {
  held = c.held;
  some = c.some;
  few = c.few;
  small = k;
  enough = omega (arith, c.enough);
  inside = c.inside;
  apart = c.apart;
}
