-- "How much was moved": what every call reports, by the order's words and by its moves one after the other.
use Rattle.std.specs.Prelude.{◌≡◌, true, false, List, [], ◌⊎◌}
use Rattle.std.proofs.Math.Path.{refl, sym}
use Rattle.std.proofs.Common.{ap, ◌∙◌, lt-ltb, le-ltb}
use Rattle.std.proofs.lemmas.Bool.{false≢true}
use Rattle.std.proofs.Math.Logic.{inl, inr}
use Prim.Native.Nat.{ℕ, suc, ◌+◌, ◌-◌, ◌<◌, ◌≤◌}
use native.Mathlib.Omega.{arith}
use Rattle.std.proofs.Math.ListN.{length}
use Rattle.rows.specs.Definition.Channels.{zero_channel, sum_of}
use Rattle.rows.specs.Laws.ChannelRows.{sum-after}
use Rattle.line.specs.Definition.Line.{place_of}
use Rattle.line.specs.Laws.Moves.{length-close, close_at, close-once, close-steps, close-most, length-link, link_at, link-once, link-steps, link-most}
use Rattle.kernel.specs.Definition.Tables.{channel_at}
use Rattle.kernel.specs.Definition.Line.{record_at, total_of, size_at, closing}
use Rattle.kernel.specs.Definition.Devices.{linking, device_named}
use Rattle.kernel.specs.Definition.Bytes.{ram_after, moves_of}
use Rattle.kernel.specs.Definition.Answers.{granted, Decision}
use Rattle.kernel.specs.Definition.Calls.{Call, close, link, is_start}
use Rattle.kernel.specs.Definition.Step.{decided, completed, step}
use Rattle.kernel.specs.Laws.Chains.{good-chain}
use Rattle.kernel.specs.Laws.Effects.{Effect, resets, opens, closes, reads, writes, names, counts, links, tells, bounds, grants, shares, frees, stores, loads, loads-module, Verdict, bars, drives, refuses, starts, does, effect, verdict}
use Rattle.kernel.specs.Laws.Changes.{closing-closes, linking-links}
use Rattle.kernel.specs.Laws.Ready.{Ready, granted-ready, decided-ready}
use Rattle.kernel.specs.Laws.Records.{record-within}
use Rattle.kernel.specs.declared.Tables.{Tables}
use Rattle.history.specs.Bytes.Buffers.{take_less, closes-starts}
use Rattle.history.specs.Bytes.Places.{grown-place, closed-place, linked-chain}
use Rattle.history.specs.Definition.Moved.{place, CloseReports, LinkReports, CloseOrLink, a-close, a-link, ReportsMoved}

module _ (t : Tables) (ram output : List ℕ) where
  close-reports : (channel : ℕ) {d : Decision} → Ready t (length ram) → Ready d.tables (length ram) → Effect t (close channel) d
      → CloseReports t ram (channel_at t channel) (completed t d ram output)
  unfolding completed ram_after moves_of
  close-reports channel r s (closes h) =
      let i = channel_at t channel in
      let u = closing t i in
      let gap = 16 + size_at t i in
      let o = closing-closes t i in
      let chain = good-chain t (length ram) r.good r.size in
      let fits = record-within t i r.good h in
      let few : t.opened ≤ length t.channels = omega (arith, r.good.sized.channels, r.good.channels.most) in
      let all = sum-after t.channels i t.opened zero_channel h few in
      let n = length-close t.chain t.room (record_at t i) gap (total_of t) in
      let one : suc (t.opened - 1) ≡ t.opened = omega arith in
      let rest : total_of u + gap ≡ total_of t = rw o.opened (rw one at (closes-starts r.good o (t.opened - 1) (omega arith) (omega arith))) in
      let begin : record_at u i ≡ record_at t i = rw o.channels (ap sum_of (take_less t.channels i i (omega arith) (omega arith))) in
      let next = closes-starts r.good o i (omega arith) h in
      record {
        lengths = omega (arith, all, n);
        number = refl;
        once = close-once t.chain t.room (record_at t i) gap (total_of t) (length ram) chain (omega arith) fits;
        steps = sym (close-steps t.chain t.room (record_at t i) gap (total_of t) ram chain fits);
        each = λ k q.
            let from : record_at t i + k + gap ≡ record_at t (suc i) + k = omega (arith, next, begin) in
            let to : place u (record_at t i + k) ≡ place t (record_at t i + k) = closed-place t u i o s.good (record_at t i + k) (omega (arith, all, rest)) in
            rw (begin, to, ← from) (close_at t.chain t.room (record_at t i) gap (total_of t) k (omega (arith, all, n)));
        kept = λ p q. closed-place t u i o s.good p (omega (arith, rest));
      }

  link-reports : (m : ℕ) (name : List ℕ) {d : Decision} → Ready t (length ram) → Ready d.tables (length ram) → Effect t (link m name) d
      → LinkReports t ram m (completed t d ram output)
  unfolding completed ram_after moves_of
  link-reports m name r s (links w few h fits) =
      let u = linking t m (device_named name) in
      let o = linking-links t m (device_named name) in
      let le : m ≤ t.room = omega arith in
      let chain = linked-chain t u m (length ram) o r.good le s in
      let n = length-link u.chain t.room m (total_of t) in
      let there : (p : ℕ) → p < total_of t → place_of u.chain t.room p ≡ place t p = grown-place t u r.good o.chain in
      record {
        falls = λ q. let some : 0 < m = omega (arith, o.room) in n ∙ rw (lt-ltb 0 m some);
        stays = λ q. let none : m ≤ 0 = omega (arith, o.room) in n ∙ rw (le-ltb 0 m none);
        number = refl;
        once = link-once u.chain t.room m (total_of t) (length ram) chain le;
        steps = sym (link-steps u.chain t.room m (total_of t) ram chain le);
        each = λ q p l. let some : 0 < m = omega (arith, o.room) in rw (o.room, ← (there p l)) (link_at u.chain t.room m (total_of t) some p l);
        kept = λ q p l. let same : u.room ≡ t.room = omega (arith, o.room) in rw same (there p l);
      }

  -- nothing is moved but by a close or a link that is done, and then no more than T
  moves : {c : Call} {d : Decision} → Verdict t (length ram) c d
      → (moves_of t d.tables d.ram ≡ []) ⊎ ((granted d.answer ≡ true) × (is_start c ≡ false) × CloseOrLink c × (length (moves_of t d.tables d.ram) ≤ total_of t))
  unfolding moves_of
  moves (bars e) = inl refl
  moves (drives h) = inl refl
  moves (refuses answer p) = inl refl
  moves (starts e) = inl refl
  moves (does g resets) = inl refl
  moves (does g (opens c number asked low new device few fits)) = inl refl
  moves (does g (closes {channel} h)) =
      let i = channel_at t channel in
      inr (g, refl, a-close channel, close-most t.chain t.room (record_at t i) (16 + size_at t i) (total_of t))
  moves (does g (reads h)) = inl refl
  moves (does g (writes h w)) = inl refl
  moves (does g (names h)) = inl refl
  moves (does g counts) = inl refl
  moves (does g (links {m} {name} w few h fits)) = inr (g, refl, a-link m name, link-most (linking t m (device_named name)).chain t.room m (total_of t))
  moves (does g tells) = inl refl
  moves (does g (bounds s h)) = inl refl
  moves (does g (grants h)) = inl refl
  moves (does g (shares s)) = inl refl
  moves (does g (frees h o)) = inl refl
  moves (does g (stores m h)) = inl refl
  moves (does g (loads m h)) = inl refl
  moves (does g (loads-module n m h)) = inl refl

pub reports-moved : ReportsMoved
unfolding step completed
reports-moved t sized ram output = record {
  closes = λ channel g.
      let r = ready (close channel) refl g in
      close-reports t ram output channel r (decided-ready t size lent (close channel) r) (effect t size lent (close channel) refl g);
  links = λ m name g.
      let r = ready (link m name) refl g in
      link-reports t ram output m name r (decided-ready t size lent (link m name) r) (effect t size lent (link m name) refl g);
  most = λ c. elim (here c) [ inl e ↦ omega (arith, ap length e) | inr (g, s, k, l) ↦ l ];
  small = λ c. elim (here c) [
    | inl e ↦ omega (arith, ap length e)
    | inr (g, s, k, l) ↦
        let r = ready c s g in
        let chain = good-chain t size r.good r.size in
        omega (arith, l, chain.enough, chain.small, chain.few)
  ];
  other = λ c n. elim (here c) [ inl e ↦ ap length e | inr (g, s, k, l) ↦ absurd (n k) ];
  refused = λ c f. elim (here c) [ inl e ↦ ap length e | inr (g, s, k, l) ↦ absurd (false≢true (sym f ∙ g)) ];
}
  where
    size : ℕ
    size = length ram

    lent : ℕ
    lent = length output

    ready : (c : Call) → is_start c ≡ false → granted (decided t size lent c).answer ≡ true → Ready t size
    ready c s g = granted-ready t size lent c sized s g

    here : (c : Call) → let d = decided t size lent c in
        (moves_of t d.tables d.ram ≡ []) ⊎ ((granted d.answer ≡ true) × (is_start c ≡ false) × CloseOrLink c × (length (moves_of t d.tables d.ram) ≤ total_of t))
    here c = moves t ram output (verdict t size lent c)
