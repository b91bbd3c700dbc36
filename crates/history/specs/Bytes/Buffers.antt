-- What each done call makes of the open channels' bytes, wherever their buffers lie before and after.
use Rattle.std.specs.Prelude.{◌≡◌, Bool, cond, ◌||◌, List, [], ◌∷◌, ◌++◌, ℕ, suc, ◌+◌, ◌-◌, ◌≤◌, ◌<◌, eqb, length, get_or, take, drop, replicate}
use Rattle.std.proofs.Common.{sym, ap, ◌∙◌, not-suc-le-zero, arith, eq-eqb, ne_eqb, length-take, length-append, take-take}
use Rattle.std.proofs.Math.Bool.{true, false}
use Rattle.std.proofs.Math.Decide.{dec_lt, ℕ_discrete}
use Rattle.std.proofs.lemmas.List.{take-append-le, take-set-le}
use Rattle.rows.specs.Definition.Lists.{without}
use Rattle.rows.specs.Definition.Classes.{SHARED}
use Rattle.rows.specs.Laws.Lists.{neither-below}
use Rattle.rows.specs.Definition.Channels.{zero_channel, sum_of}
use Rattle.rows.specs.Laws.ChannelRows.{from, from_low, from-high, sum-without}
use Rattle.rows.specs.declared.Channel.{Channel}
use Rattle.line.specs.Within.Chains.{Chain}
use Rattle.line.specs.Definition.Line.{place_of, put_line, after_link}
use Rattle.line.specs.Definition.Ram.{put_at}
use Rattle.line.specs.Laws.Walks.{put-elsewhere}
use Rattle.line.specs.Laws.Places.{place-apart}
use Rattle.line.specs.Laws.Held.{held_at}
use Rattle.line.specs.Laws.PointsOpened.{opened-points}
use Rattle.line.specs.Laws.PointsClosed.{closed-points}
use Rattle.line.specs.Laws.PointsLinked.{linked-points}
use Rattle.modules.specs.Definition.Counter.{Put, put_each}
use Rattle.modules.specs.Laws.Stored.{Below}
use Rattle.kernel.specs.Definition.Tables.{class_at, channel_at, with_segments}
use Rattle.kernel.specs.Definition.Line.{total_of, record_at, size_at, buffer_at}
use Rattle.kernel.specs.Definition.Segments.{freeing, may_reach, reach_of}
use Rattle.kernel.specs.Definition.Reset.{bit4, bit5, bit6, emptying, restoring, releasing, resetting}
use Rattle.kernel.specs.Definition.Bytes.{ram_opened, ram_closed, ram_reset, segment_at}
use Rattle.kernel.specs.Definition.Good.{Good}
use Rattle.kernel.specs.Laws.Chains.{good-chain}
use Rattle.kernel.specs.Laws.Changes.{Opened, opens_row, opens-old, opens-total, Closed, closes-row, Linked}
use Rattle.kernel.specs.Laws.Records.{record-before, record-within}
use Rattle.kernel.specs.Laws.KeptReset.{emptying-opened}
use Rattle.kernel.specs.Laws.Ready.{Ready}
use Rattle.kernel.specs.declared.Tables.{Tables}
use Rattle.history.specs.Answers.Found.{open_at}
use Rattle.history.specs.Bytes.Patched.{patched, patched-not, patched-by, put-at-is}
use Rattle.history.specs.Bytes.Steps.{store-fits, byte-ready}
use Rattle.history.specs.Bytes.Places.{grown-place, closed-place, linked-chain, reach-users, off-line}

-- the number of the channel in row i, and byte k of its buffer where it lies
abbrev pub channel_in : Tables → ℕ → ℕ
channel_in t i = (get_or t.channels i zero_channel).number

abbrev pub byte_at : Tables → List ℕ → (i k : ℕ) → ℕ
byte_at t ram i k = get_or ram (place_of t.chain t.room (buffer_at t i + k)) 0

-- every byte of the open channels is what f gives for the channel's number and the byte's
abbrev pub Holds : (ℕ → ℕ → ℕ) → Tables → List ℕ → Type 0
Holds f t ram = (i : ℕ) → i < t.opened → (k : ℕ) → k < size_at t i → byte_at t ram i k ≡ f (channel_in t i) k

-- ---- records end to end

-- the rows before one that is taken out
pub take_less : (xs : List Channel) (i j : ℕ) → i ≤ j → j ≤ length xs → take i (without j xs zero_channel) ≡ take i xs
take_less xs i j h l =
    let n : length (take j xs) ≡ j = omega (arith, length-take j xs) in
    let m : length (take j xs ++ drop (suc j) xs) ≡ length (take j xs) + length (drop (suc j) xs) = length-append (take j xs) (drop (suc j) xs) in
    take-append-le i (take j xs ++ drop (suc j) xs) (zero_channel ∷ []) (omega arith)
    ∙ take-append-le i (take j xs) (drop (suc j) xs) (omega arith)
    ∙ take-take i j xs h

-- an open leaves the records before where they start, and the chain holds one more behind them
pub opens-starts : {t u : Tables} {c : Channel} → Opened t u c → (i : ℕ) → i ≤ t.opened → record_at u i ≡ record_at t i
opens-starts {t} {c = c} o i h = rw o.channels (ap sum_of (take-set-le i t.channels t.opened c h))

pub opens-chain : {t u : Tables} {c : Channel} {size : ℕ} → Ready t size → Opened t u c → t.opened < 32 → Ready u size
    → Chain u.chain t.room (total_of t + 16 + c.n) size
opens-chain {u = u} {size = size} r o few s = rw (opens-total r.good o few, o.room) at (good-chain u size s.good s.size)

-- a close brings up those behind the one that goes
pub closes-starts : {t u : Tables} {j : ℕ} → Good t → Closed t u j → (i : ℕ) → j ≤ i → i < t.opened → record_at u i + (16 + size_at t j) ≡ record_at t (suc i)
closes-starts {t} {j = j} g o i h k =
    let n = g.sized.channels in
    let most = g.channels.most in
    rw o.channels (sum-without zero_channel zero_channel j t.channels i (omega arith) (omega arith))

-- ---- one law a call

-- free gives a segment another class, and keeps all buffers where they lie
pub free-by : (t : Tables) (row : ℕ) (P : Tables → Type 0) → ((classes : List ℕ) (user : ℕ) → P (with_segments t classes t.held t.chain user))
    → P (freeing t row)
unfolding freeing
free-by t row P kept = elim (ℕ_discrete (class_at t row) SHARED) [ yes q ↦ rw (eq-eqb _ _ q) (kept _ _) | no q ↦ rw (ne_eqb _ _ q) (kept _ _) ]

-- reset drops all buffers, or keeps them where they lie
module _ (t : Tables) (ram : List ℕ) (P : Tables → List ℕ → Type 0) (none : (u : Tables) (ram₁ : List ℕ) → u.opened ≡ 0 → P u ram₁) (same : P t ram)
    (freed : P (releasing t) ram) where
  by_flags : (four five six : Bool)
      → P (let u = cond (four || five) (emptying t) t in let v = cond five (restoring u) u in cond six (releasing v) v)
      (let emptied = cond (four || five) (put_line t.chain t.room ram 0 (replicate (total_of t) 0)) ram in
      cond five (put_line t.chain t.cold emptied 0 (replicate (t.cold - t.room) 0)) emptied)
  unfolding restoring releasing
  by_flags true true true = none _ _ (emptying-opened t)
  by_flags true true false = none _ _ (emptying-opened t)
  by_flags true false true = none _ _ (emptying-opened t)
  by_flags true false false = none _ _ (emptying-opened t)
  by_flags false true true = none _ _ (emptying-opened t)
  by_flags false true false = none _ _ (emptying-opened t)
  by_flags false false true = freed
  by_flags false false false = same

  pub reset_by : (flags : ℕ) → P (resetting t flags) (ram_reset t ram flags)
  unfolding resetting
  reset_by flags = by_flags (bit4 flags) (bit5 flags) (bit6 flags)

module _ (t : Tables) (ram : List ℕ) (r : Ready t (length ram)) (f : ℕ → ℕ → ℕ) (holds : Holds f t ram) where
  chained : Chain t.chain t.room (total_of t) (length ram)
  chained = good-chain t (length ram) r.good r.size

  inside : (i k : ℕ) → i < t.opened → k < size_at t i → buffer_at t i + k < total_of t
  inside i k h l = omega (arith, record-within t i r.good h)

  -- two rows have two numbers
  one-row : (i j : ℕ) → i < t.opened → j < t.opened → channel_in t i ≡ channel_in t j → i ≡ j
  one-row i j h l e = neither-below i j (λ a. r.good.channels.differ i j a l e) (λ a. r.good.channels.differ j i a h (sym e))

  -- bytes of two buffers are at two positions
  two-rows : (i j k m : ℕ) → i < t.opened → j < t.opened → k < size_at t i → m < size_at t j → buffer_at t i + k ≡ buffer_at t j + m → i ≡ j
  two-rows i j k m h l a b e =
      neither-below i j (λ p. omega (arith, record-before t i j r.good p (omega arith))) (λ q. omega (arith, record-before t j i r.good q (omega arith)))

  -- write changes the bytes of one channel
  module _ (channel offset : ℕ) (bytes : List ℕ) (h : channel_at t channel < t.opened) (fits : offset + length bytes ≤ size_at t (channel_at t channel)) where
    abbrev written-ram : List ℕ
    written-ram = put_line t.chain t.room ram (buffer_at t (channel_at t channel) + offset) bytes

    write-here : (k : ℕ) → k < size_at t (channel_at t channel) → byte_at t written-ram (channel_at t channel) k ≡ patched offset bytes k (byte_at t ram (channel_at t channel) k)
    write-here k l =
        let j = channel_at t channel in
        let w = record-within t j r.good h in
        patched-by offset bytes k (byte_at t ram j k) (byte_at t written-ram j k)
        (λ a b.
        let e : buffer_at t j + offset + (k - offset) ≡ buffer_at t j + k = omega arith in
        rw e at (held_at t.chain t.room (total_of t) ram chained bytes (buffer_at t j + offset) (omega arith) (k - offset) (omega arith)))
        (λ out. off k l (λ m n e. out (omega arith) (omega arith)))
      where
        off : (k : ℕ) → k < size_at t (channel_at t channel) → ((m : ℕ) → m < length bytes → k ≡ offset + m → ⊥)
            → byte_at t (put_line t.chain t.room ram (buffer_at t (channel_at t channel) + offset) bytes) (channel_at t channel) k ≡ byte_at t ram (channel_at t channel) k
        off k l away =
            let j = channel_at t channel in
            let w = record-within t j r.good h in
            put-elsewhere (place_of t.chain t.room) bytes ram (buffer_at t j + offset) (place_of t.chain t.room (buffer_at t j + k))
            (λ m n e. away m n (let s = place-apart t.chain t.room (total_of t) (length ram) chained (buffer_at t j + k) (buffer_at t j + offset + m) (omega arith) (omega arith) e in omega arith))

    pub write-law : Holds (λ c k. cond (eqb channel c) (patched offset bytes k (f c k)) (f c k)) t written-ram
    write-law i a k b =
        let j = channel_at t channel in
        let number : channel_in t j ≡ channel = (open_at t r.good channel h).number in
        elim (ℕ_discrete i j) [
          | yes q ↦ rw (q, eq-eqb channel (channel_in t j) (sym number)) (write-here k (rw q at b) ∙ ap (patched offset bytes k) (holds j h k (rw q at b)))
          | no q ↦
              rw (ne_eqb channel (channel_in t i) (λ e. q (one-row i j a h (sym e ∙ sym number))))
              (put-elsewhere (place_of t.chain t.room) bytes ram (buffer_at t j + offset) (place_of t.chain t.room (buffer_at t i + k))
              (λ m n e.
              let w = record-within t j r.good h in
              let s : buffer_at t i + k ≡ buffer_at t j + offset + m =
              place-apart t.chain t.room (total_of t) (length ram) chained (buffer_at t i + k) (buffer_at t j + offset + m) (inside i k a b) (omega arith) e in
              q (two-rows i j k (offset + m) a h b (omega arith) (omega arith)))
              ∙ holds i a k b)
        ]

  -- open appends a buffer of zeros and keeps the others
  module _ (u : Tables) (c : Channel) (o : Opened t u c) (few : t.opened < 32) (s : Ready u (length ram)) where
    new_row : get_or u.channels t.opened zero_channel ≡ c
    new_row = opens_row r.good o few

    open-chain : Chain u.chain t.room (total_of t + 16 + c.n) (length ram)
    open-chain = opens-chain r o few s

    pub open-law : Holds (λ d k. cond (eqb c.number d) 0 (f d k)) u (ram_opened t u ram c)
    open-law i a k b =
        let points = opened-points u.chain t.room ram (total_of t) c.number c.device c.unit c.n open-chain in
        elim (dec_lt i t.opened) [
          | yes h ↦
              let p = buffer_at t i + k in
              let size : k < size_at t i = rw (size_at, opens-old o i h) at b in
              let within : p < total_of t = inside i k h size in
              let number : channel_in u i ≡ channel_in t i = ap (λ (x : Channel). x.number) (opens-old o i h) in
              let buffer : buffer_at u i ≡ buffer_at t i = ap (λ (x : ℕ). x + 16) (opens-starts o i (omega arith)) in
              let apart : c.number ≡ channel_in t i → ⊥ = λ e.
              s.good.channels.differ i t.opened h (omega (arith, o.opened)) (number ∙ sym e ∙ sym (ap (λ (x : Channel). x.number) new_row)) in
              rw (number, ne_eqb c.number (channel_in t i) apart, buffer, o.room)
              (points.kept (place_of u.chain t.room p)
              (λ m n e.
              let q : p ≡ total_of t + m =
              place-apart u.chain t.room (total_of t + 16 + c.n) (length ram) open-chain p (total_of t + m) (omega arith) (omega arith) e in
              omega arith)
              ∙ ap (λ (x : ℕ). get_or ram x 0) (grown-place t u r.good o.chain p within)
              ∙ holds i h k size)
          | no h ↦
              let q : i ≡ t.opened = omega (arith, o.opened) in
              let number : c.number ≡ channel_in u t.opened = sym (ap (λ (x : Channel). x.number) new_row) in
              let buffer : buffer_at u t.opened ≡ total_of t + 16 = ap (λ (x : ℕ). x + 16) (opens-starts o t.opened (omega arith)) in
              rw (q, eq-eqb c.number (channel_in u t.opened) number, buffer, o.room)
              (points.zeroed k (rw (size_at, q, new_row) at b))
        ]

  -- close drops one buffer and keeps the others
  module _ (u : Tables) (j : ℕ) (o : Closed t u j) (have : j < t.opened) (s : Ready u (length ram)) where
    pub close-law : Holds f u (ram_closed t ram j)
    close-law i a k b =
        let cs = t.channels in
        let n : length cs ≡ 32 = r.good.sized.channels in
        let most = r.good.channels.most in
        let less : i < t.opened - 1 = rw o.opened at a in
        let row : get_or u.channels i zero_channel ≡ get_or cs (from j i) zero_channel = closes-row r.good o have i a in
        let gap = 16 + size_at t j in
        let points = closed-points t.chain t.room ram (record_at t j) gap (total_of t) chained (record-within t j r.good have) in
        let p = buffer_at u i + k in
        let within : p < total_of u = omega (arith, record-within u i s.good a) in
        let place = closed-place t u j o s.good p within in
        elim (dec_lt i j) [
          | yes h ↦
              let same : get_or u.channels i zero_channel ≡ get_or cs i zero_channel = row ∙ ap (λ (x : ℕ). get_or cs x zero_channel) (from_low j i h) in
              let number : channel_in u i ≡ channel_in t i = ap (λ (x : Channel). x.number) same in
              let size : size_at u i ≡ size_at t i = ap (λ (x : Channel). x.n) same in
              let begin : record_at u i ≡ record_at t i = rw o.channels (ap sum_of (take_less cs i j (omega arith) (omega arith))) in
              let buffer : buffer_at u i + k ≡ buffer_at t i + k = ap (λ (x : ℕ). x + 16 + k) begin in
              let before : buffer_at t i + k < record_at t j = omega (arith, record-before t i j r.good h (omega arith)) in
              rw (number, place, buffer)
              (points.kept (place_of t.chain t.room (buffer_at t i + k))
              (λ q l m e.
              let z : buffer_at t i + k ≡ q =
              place-apart t.chain t.room (total_of t) (length ram) chained (buffer_at t i + k) q (omega arith) m e in
              omega arith)
              ∙ holds i (omega arith) k (omega arith))
          | no h ↦
              let same : get_or u.channels i zero_channel ≡ get_or cs (suc i) zero_channel = row ∙ ap (λ (x : ℕ). get_or cs x zero_channel) (from-high j i (omega arith)) in
              let number : channel_in u i ≡ channel_in t (suc i) = ap (λ (x : Channel). x.number) same in
              let size : size_at u i ≡ size_at t (suc i) = ap (λ (x : Channel). x.n) same in
              let begin : record_at u i + gap ≡ record_at t (suc i) = closes-starts r.good o i (omega arith) (omega arith) in
              let later : record_at t j + gap ≤ record_at t (suc i) = record-before t j (suc i) r.good (omega arith) (omega arith) in
              let buffer : buffer_at u i + k + gap ≡ buffer_at t (suc i) + k = omega arith in
              let end : buffer_at t (suc i) + k < total_of t = inside (suc i) k (omega arith) (omega arith) in
              rw (number, place)
              (points.moved (buffer_at u i + k) (omega arith) (omega arith)
              ∙ ap (λ (x : ℕ). get_or ram (place_of t.chain t.room x) 0) buffer
              ∙ holds (suc i) (omega arith) k (omega arith))
        ]

  -- link keeps all buffers
  pub link-law : (u : Tables) (m : ℕ) → Linked t u m → m ≤ t.room → Ready u (length ram) → Holds f u (after_link u.chain t.room m ram (total_of t))
  link-law u m o le s i a k b =
      let few : i < t.opened = rw o.opened at a in
      let number : channel_in u i ≡ channel_in t i = rw o.channels in
      let size : size_at u i ≡ size_at t i = rw o.channels in
      let buffer : buffer_at u i ≡ buffer_at t i = rw o.channels in
      let p = buffer_at t i + k in
      let within : p < total_of t = inside i k few (omega arith) in
      let chain = linked-chain t u m (length ram) o r.good le s in
      rw (number, buffer, o.room)
      ((linked-points u.chain t.room m ram (total_of t) chain le).moved p within
      ∙ ap (λ (x : ℕ). get_or ram x 0) (grown-place t u r.good o.chain p within)
      ∙ holds i few k (omega arith))

  -- a store touches no buffer
  pub store-law : (row offset : ℕ) (bytes : List ℕ) → may_reach t row ≡ true → offset + length bytes ≤ reach_of t row
      → Holds f t (put_at ram (segment_at row + offset) bytes)
  store-law row offset bytes m h i a k b =
      let x = place_of t.chain t.room (buffer_at t i + k) in
      let at = segment_at row + offset in
      put-at-is ram at bytes x (store-fits t ram row offset (length bytes) r m h)
      ∙ patched-not at bytes x (get_or ram x 0) (λ low high.
      let there : segment_at row + (x - segment_at row) ≡ x = omega arith in
      off-line t r.good row (x - segment_at row) (reach-users t row (x - segment_at row) m (omega arith)) (buffer_at t i + k) (inside i k a b) there)
      ∙ holds i a k b

  pub reset-law : (flags : ℕ) → Holds f (resetting t flags) (ram_reset t ram flags)
  unfolding releasing
  reset-law flags = reset_by t ram (Holds f) (λ u ram₁ e i a. absurd (not-suc-le-zero (rw e at a))) holds holds flags

-- a load of a module touches none: it is stores, one after the other
pub load-law : (t : Tables) (ram : List ℕ) → Ready t (length ram) → (f : ℕ → ℕ → ℕ) → Holds f t ram → (row : ℕ) (puts : List Put) → may_reach t row ≡ true
    → Below (reach_of t row) puts → Holds f t (put_each (segment_at row) ram puts)
load-law t ram r f holds row [] m h = holds
load-law t ram r f holds row (p ∷ puts) m (l, h) =
    let next = put_at ram (segment_at row + p.offset) (p.byte ∷ []) in
    load-law t next (byte-ready t row m ram p r l) f (store-law t ram r f holds row p.offset (p.byte ∷ []) m (omega arith)) row puts m h
