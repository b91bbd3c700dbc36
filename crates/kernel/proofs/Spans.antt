-- Where the bytes of a call lie: in the buffer of an open channel, or in a segment that the user reaches.
use mathlib.Core.Path.{◌≡◌, refl, sym, ap}
use mathlib.Core.Bool.{Bool, true, false, cond, ◌||◌}
use Prim.Native.Nat.{ℕ, ◌+◌, ◌-◌, ◌*◌, ◌≤◌, ◌<◌}
use native.Mathlib.Omega.{arith}
use borrow.Author.Tests.{ltb-true, ltb-false}
use lib.Dec.{eqb, ltb}
use Rattle.std.specs.Prelude.{Some, None}
use Rattle.std.specs.Option.{is_some}
use Rattle.std.proofs.lemmas.Option.{cond_some, none-some}
use Rattle.line.specs.Within.Chains.{Chain}
use Rattle.line.specs.Definition.Given.{given_of}
use Rattle.line.specs.Laws.Places.{chain-less}
use Rattle.line.specs.Laws.Given.{given_inside}
use Rattle.line.specs.declared.Line.{Line}
use Rattle.rows.specs.Laws.Lists.{and_left}
use Rattle.rows.specs.Laws.Channels.{found-at, found_nowhere}
use Rattle.rows.specs.Definition.Classes.{USER, SHARED}
use Rattle.rows.specs.Definition.Channels.{found_at}
use Rattle.kernel.specs.Definition.Tables.{ram_size, class_at, row_of, channel_at}
use Rattle.kernel.specs.Definition.Good.{Good}
use Rattle.kernel.specs.Definition.Line.{total_of, size_at, buffer_at}
use Rattle.kernel.specs.Definition.Segments.{may_reach, reach_of}
use Rattle.kernel.specs.Within.{line_of, opened_at, buffer_of, reached_at}
use Rattle.kernel.specs.Laws.Chains.{good-chain}
use Rattle.kernel.specs.Laws.Facts.{reach-small}
use Rattle.kernel.specs.Laws.Records.{record-within}
use Rattle.kernel.specs.declared.bytes.Buffer.{Buffer}
use Rattle.kernel.specs.declared.Tables.{Tables}

-- what a search that found nothing tells
pub unfound : {A : Type 0} (b : Bool) (x : A) → None ≡ cond b (Some x) None → b ≡ false
unfound true x e = absurd (none-some _ e)
unfound false x e = refl

pub is_found : (i n : ℕ) → is_some (found_at i n) ≡ ltb i n
is_found i n = go (ltb i n)
  where
    go : (b : Bool) → is_some (cond b (Some i) None) ≡ b
    go true = refl
    go false = refl

-- what the lookup of a channel found
pub placed : (t : Tables) (channel i : ℕ) → Some i ≡ opened_at t channel → (channel_at t channel ≡ i) × (i < t.opened)
placed t channel i e = let (here, among) = found-at _ _ i (sym e) in (here, rw here at among)

pub absent : (t : Tables) (channel : ℕ) → None ≡ opened_at t channel → t.opened ≤ channel_at t channel
absent t channel e = found_nowhere _ _ (sym e)

-- what the lookup of a buffer found

pub record Open (t : Tables) (channel : ℕ) (b : Buffer) : Type 0 where
  pub among : channel_at t channel < t.opened
  pub start : b.start ≡ buffer_at t (channel_at t channel)
  pub size : b.size ≡ size_at t (channel_at t channel)

pub opened : (t : Tables) (channel : ℕ) (b : Buffer) → Some b ≡ buffer_of t channel → Open t channel b
opened t channel b e =
    let (h, same) = cond_some _ _ _ (sym e) in
    record { among = ltb-true _ _ h; start = ap (λ (x : Buffer). x.start) (sym same); size = ap (λ (x : Buffer). x.size) (sym same) }

pub unopened : (t : Tables) (channel : ℕ) → None ≡ buffer_of t channel → t.opened ≤ channel_at t channel
unopened t channel e = ltb-false _ _ (unfound _ _ e)

-- what `get`, `put`, `lend` and `lent_at` ask: a record's buffer lies inside the line
module _ (t : Tables) (channel : ℕ) (b : Buffer) (l : Line) (g : Good t) (found : Some b ≡ buffer_of t channel) (w : l ≡ line_of t) where
  inside : b.start + b.size ≤ total_of t
  inside =
      let o = opened t channel b found in
      let r = record-within t (channel_at t channel) g o.among in
      rw (o.start, o.size) (omega (arith, r))

  part-chain : (end size : ℕ) → size ≡ ram_size t → end ≤ b.start + b.size → Chain l.chain l.room end size
  part-chain end size e f = rw w (chain-less t.chain t.room (total_of t) size end size (omega (arith, inside)) refl (good-chain t size g e))

  pub bytes_chain : (from count size : ℕ) → size ≡ ram_size t → false ≡ ltb b.size (from + count) → Chain l.chain l.room (b.start + from + count) size
  bytes_chain from count size e h = part-chain (b.start + from + count) size e (let k = ltb-false b.size (from + count) (sym h) in omega arith)

  -- a read that gives a byte ends within the buffer
  pub given_chain : (from asked count size : ℕ) → size ≡ ram_size t → count ≡ given_of b.size from asked → 0 < count → Chain l.chain l.room (b.start + from + count) size
  given_chain from asked count size e q h =
      part-chain (b.start + from + count) size e (omega (arith, given_inside b.size from asked (count - 1) (rw (← q) (omega arith))))

  pub buffer_chain : (size : ℕ) → size ≡ ram_size t → Chain l.chain l.room (b.start + b.size) size
  buffer_chain size e = part-chain (b.start + b.size) size e (omega arith)

  pub buffer_low : (l.room ≤ 16384) × (b.start + b.size ≤ l.room + 16384 * 31)
  buffer_low = let c = buffer_chain (ram_size t) refl in (c.small, omega (arith, c.enough, c.few, c.some))

-- which segment the user reaches, and how far

pub record Reached (t : Tables) (segment row : ℕ) : Type 0 where
  pub here : row_of t segment ≡ row
  pub may : may_reach t row ≡ true
  pub among : row < t.segments
  pub below : row < 32

pub reached : (t : Tables) (segment row : ℕ) → Good t → Some row ≡ reached_at t segment → Reached t segment row
reached t segment row g e =
    let (found, here) = cond_some _ _ _ (sym e) in
    let may : may_reach t row ≡ true = rw here at found in
    let less : row < t.segments = ltb-true row t.segments (and_left (ltb row t.segments) (eqb row 0 || eqb (class_at t row) USER || eqb (class_at t row) SHARED) may) in
    record { here = here; may = may; among = less; below = omega (arith, g.list.most) }

pub unreached : (t : Tables) (segment : ℕ) → None ≡ reached_at t segment → may_reach t (row_of t segment) ≡ false
unreached t segment e = unfound _ _ e

-- what `store` and `load` ask
pub reach_inside : (t : Tables) (segment row reach from count size : ℕ) → Good t → Some row ≡ reached_at t segment → reach ≡ reach_of t row → false ≡ ltb reach (from + count)
    → size ≡ ram_size t → (16384 * row + from + count ≤ size) × (from + count ≤ 16384)
reach_inside t segment row reach from count size g found k b e =
    let x = reached t segment row g found in
    let w = ltb-false reach (from + count) (sym b) in
    let m : reach ≤ 16384 = rw k (reach-small t g row) in
    (omega (arith, x.among), omega arith)
