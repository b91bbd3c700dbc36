-- The outcomes that a call can have, each with the tests that it passed: the refusals are read here once, for all laws on calls.
use Rattle.std.specs.Prelude.{◌≡◌, Bool, true, false, cond, ◌&&◌, ◌||◌, List, ◌⊎◌, ℕ, ◌+◌, ◌-◌, ◌≤◌, ◌<◌, eqb, leb, length}
use Rattle.std.proofs.Math.Path.{refl}
use Rattle.std.proofs.Common.{sym, ◌∙◌, inl, inr}
use Rattle.std.proofs.Math.Bool.{not}
use Rattle.std.proofs.lemmas.Bool.{false≢true}
use Rattle.std.proofs.Math.Option.{Option, none, some}
use borrow.Author.Tests.{ltb-true, ltb-false, leb-false, eqb-true, eqb-false, not-true, not-false}
use Rattle.std.proofs.Math.Dec.{ltb}
use Rattle.line.specs.Definition.Given.{given_of}
use Rattle.line.specs.Definition.Guard.{guarded}
use Rattle.modules.specs.Definition.Counter.{counter}
use Rattle.modules.specs.Definition.Judging.{judged, puts_in, refusal_of, used_of}
use Rattle.modules.specs.Laws.Stored.{none-refuses}
use Rattle.names.specs.Definition.Grammar.{Reading}
use Rattle.names.specs.Definition.Read.{reading}
use Rattle.names.specs.Definition.Tests.{link_name_test, default_name_test}
use Rattle.names.specs.Definition.Words.{word_of, LinkName, DefaultName}
use Rattle.names.specs.Laws.Runs.{link-right, default-right}
use Rattle.rows.specs.Laws.Lists.{and_left, and_right, or_left, or_right}
use Rattle.rows.specs.Laws.Says.{says-lt, says_eq, says-and, says-not, says-false}
use Rattle.rows.specs.Definition.Classes.{SHARED}
use Rattle.rows.specs.Definition.Channels.{new_channel}
use Rattle.rows.specs.declared.Channel.{Channel}
use Rattle.kernel.specs.Definition.Tables.{SEGMENT, number_at, class_at, row_of, lowest_free, sharing, last_row, channel_at, with_default}
use Rattle.kernel.specs.Definition.Line.{total_of, size_at, boundary_of, room_for, opening, closing}
use Rattle.kernel.specs.Definition.Segments.{class_for, some_free, may_share, may_free, granting, sharing_last, freeing, bounding, may_reach, reach_of}
use Rattle.kernel.specs.Definition.Devices.{linking, device_named}
use Rattle.kernel.specs.Definition.Reset.{other_bits, resetting}
use Rattle.kernel.specs.Definition.Start.{start_test, started}
use Rattle.kernel.specs.Definition.Names.{wanted, device_for}
use Rattle.kernel.specs.declared.Wanted.{Wanted}
use Rattle.kernel.specs.Definition.Bytes.{nothing, zeroed, cleared, appended, removed, lowered, in_buffer, in-segment, one_by_one, these, from-buffer, from-segment, counts_of}
use Rattle.kernel.specs.Definition.Answers.{number_of, a_of, b_of, granted, gives, Decision, ◌changing◌, ◌filling◌}
use Rattle.kernel.specs.Definition.Calls.{Call, start, reset, «open», close, read, write, default, status, link, boundary, set-user-boundary, allocate, free, store, load, load-module, no_call, short-start, is_start, target_of, on_start, on_reset, on_open_to, on_open_named, on_open, on_close, on_read, on_write, on_default, on_status, on_link, on_boundary, on_set_user_boundary, on_allocate, on_free, on_store, on_load, on_load_module}
use Rattle.kernel.specs.Definition.Step.{ready_test, heard, decided}
use Rattle.kernel.specs.declared.Tables.{Tables}
use Rattle.kernel.specs.declared.Answer.{Answer}
use Rattle.kernel.specs.declared.Answer.TheVariants.{Done, BadTables, Driver, Shared}

-- a refusal, not for the tables and not DRIVER: its values are 0
pub record Plain (answer : Answer) : Type 0 where
  pub high : 1 < number_of answer
  pub refused : granted answer ≡ false
  pub other : number_of answer ≡ 7 → ⊥
  pub a : a_of answer ≡ 0
  pub b : b_of answer ≡ 0

abbrev plain : Answer → Bool
plain answer = ltb 1 (number_of answer) && not (granted answer) && not (eqb (number_of answer) 7) && eqb (a_of answer) 0 && eqb (b_of answer) 0

plain-is : (answer : Answer) → plain answer ≡ true → Plain answer
plain-is answer e =
    let n = number_of answer in
    let h = (says-and (says-and (says-and (says-and (says-lt 1 n) (says-false (granted answer))) (says-not (says_eq n 7))) (says_eq (a_of answer) 0)) (says_eq (b_of answer) 0)).yes e in
    record { high = h.0.0.0.0; refused = h.0.0.0.1; other = h.0.0.1; a = h.0.1; b = h.1 }

-- a call, no start, that was done on the tables t, and what was decided
pub data Effect (t : Tables) : Call → Decision → Type 0 where
  resets : {flags : ℕ} → Effect t (reset flags) (gives (Done 0 0) (resetting t flags) changing cleared flags)
  opens : {channel driver n : ℕ} {name : List ℕ} (c : Channel) → c.number ≡ channel → c.n ≡ n → channel < 255 → t.opened ≤ channel_at t c.number → c.device < t.known
      → t.opened < 32 → room_for t t.room (total_of t + (16 + c.n)) ≡ true
      → Effect t («open» channel driver n name) (gives (Done c.device c.unit) (opening t c) changing appended c)
  closes : {channel : ℕ} → channel_at t channel < t.opened → Effect t (close channel) (gives (Done 0 0) (closing t (channel_at t channel)) changing removed (channel_at t channel))
  reads : {channel offset asked : ℕ} → channel_at t channel < t.opened
      → Effect t (read channel offset asked)
      (let b = given_of (size_at t (channel_at t channel)) offset asked in gives (Done 0 b) t filling from-buffer (channel_at t channel) offset b)
  writes : {channel offset : ℕ} {bytes : List ℕ} → channel_at t channel < t.opened → offset + length bytes ≤ size_at t (channel_at t channel)
      → Effect t (write channel offset bytes) (gives (Done 0 (length bytes)) t changing in_buffer (channel_at t channel) offset bytes)
  names : {unit : ℕ} {name : List ℕ} → DefaultName name
      → Effect t (default unit name) (gives (Done 0 0) (with_default t (word_of name) (length name) unit) changing nothing)
  counts : Effect t status (gives (Done 0 5) t filling these (counts_of t))
  links : {m : ℕ} {name : List ℕ} → LinkName name → t.known < 16 → 256 + m ≤ t.room → room_for t (t.room - m) (total_of t) ≡ true
      → Effect t (link m name) (gives (Done t.known (t.room - m)) (linking t m (device_named name)) changing lowered m)
  tells : Effect t boundary (gives (Done (number_at t (last_row t)) (boundary_of t)) t changing nothing)
  bounds : {value : ℕ} → sharing t ≡ true → value ≤ boundary_of t
      → Effect t (set-user-boundary value) (gives (Done 0 0) (bounding t value) changing nothing)
  grants : {caller : ℕ} → lowest_free t < t.segments
      → Effect t (allocate caller) (gives (Done (number_at t (lowest_free t)) SEGMENT) (granting t caller) changing nothing)
  shares : {caller : ℕ} → sharing t ≡ false
      → Effect t (allocate caller) (gives (Shared (number_at t (last_row t)) (boundary_of t)) (sharing_last t) changing nothing)
  -- the caller's own segment, or a shared one
  frees : {caller segment : ℕ} → row_of t segment < t.segments → (class_at t (row_of t segment) ≡ class_for caller) ⊎ (class_at t (row_of t segment) ≡ SHARED)
      → Effect t (free caller segment) (gives (Done 0 0) (freeing t (row_of t segment)) changing nothing)
  stores : {segment offset : ℕ} {bytes : List ℕ} → may_reach t (row_of t segment) ≡ true → offset + length bytes ≤ reach_of t (row_of t segment)
      → Effect t (store segment offset bytes) (gives (Done 0 (length bytes)) t changing in-segment (row_of t segment) offset bytes)
  loads : {segment offset size : ℕ} → may_reach t (row_of t segment) ≡ true → offset + size ≤ reach_of t (row_of t segment)
      → Effect t (load segment offset size) (gives (Done 0 size) t filling from-segment (row_of t segment) offset size)
  loads-module : {segment page offset : ℕ} {stream : List ℕ} (b : ℕ) → may_reach t (row_of t segment) ≡ true
      → refusal_of (judged (target_of t (row_of t segment) page) (counter page offset) stream) ≡ 0
      → Effect t (load-module segment page offset stream)
      (gives (Done 0 b) t changing one_by_one (row_of t segment) (puts_in page offset stream))

-- of a call on the tables t with `ram` bytes lent
pub data Verdict (t : Tables) (ram : ℕ) : Call → Decision → Type 0 where
  -- refused: for the tables or the RAM's length, for the driver's status, and for any other reason
  bars : {c : Call} → ready_test t ram ≡ false → Verdict t ram c (gives BadTables t changing nothing)
  drives : {channel driver n : ℕ} {name : List ℕ} → (driver ≡ 0 → ⊥) → Verdict t ram («open» channel driver n name) (gives (Driver driver) t changing nothing)
  refuses : {c : Call} (answer : Answer) → Plain answer → Verdict t ram c (gives answer t changing nothing)
  -- done
  starts : {room : ℕ} {list : List ℕ} → start_test ram room list ≡ true
      → Verdict t ram (start room list) (gives (Done (length list) room) (started room list) changing zeroed)
  does : {c : Call} {d : Decision} → granted d.answer ≡ true → Effect t c d → Verdict t ram c d

module _ (t : Tables) (ram : ℕ) where
  either : {c : Call} (b : Bool) {o p : Decision} → (b ≡ true → Verdict t ram c o) → (b ≡ false → Verdict t ram c p) → Verdict t ram c (cond b o p)
  either true f g = f refl
  either false f g = g refl

  -- one row of `unless`: the refusal, or what follows where it does not hold
  past : {c : Call} (holds : Bool) (answer : Answer) {else : Decision} → plain answer ≡ true → (holds ≡ false → Verdict t ram c else)
      → Verdict t ram c (cond holds (gives answer t changing nothing) else)
  past holds answer o f = either holds (λ _. refuses answer (plain-is answer o)) f

  -- open, with a channel that is not open
  module _ (channel driver n : ℕ) (name : List ℕ) (low : channel < 255) (new : t.opened ≤ channel_at t channel) where
    open-to : (w : Wanted) → Verdict t ram («open» channel driver n name) (on_open_to t channel driver n w)
    unfolding on_open_to
    open-to w =
        past (leb t.known (device_for t w)) _ refl (λ device.
        either (not (eqb driver 0)) (λ e. drives (eqb-false driver 0 (not-true _ e))) (λ _.
        past (leb 32 t.opened) _ refl (λ few.
        past (not (room_for t t.room (total_of t + (16 + n)))) _ refl (λ fits.
        does refl (opens (new_channel channel (device_for t w) w.unit n) refl refl low new (leb-false _ _ device) (leb-false _ _ few) (not-false _ fits))))))

    open-named : (r : Option Reading) → Verdict t ram («open» channel driver n name) (on_open_named t channel driver n r)
    unfolding on_open_named
    open-named none = refuses _ (plain-is _ refl)
    open-named (some r) = open-to (wanted t r)

  allocated : (caller : ℕ) (some-free : Bool) → some_free t ≡ some-free → not some-free && not (may_share t caller) ≡ false
      → Verdict t ram (allocate caller)
      (cond some-free
      (gives (Done (number_at t (lowest_free t)) SEGMENT) (granting t caller) changing nothing)
      (gives (Shared (number_at t (last_row t)) (boundary_of t)) (sharing_last t) changing nothing))
  allocated caller true e n = does refl (grants (ltb-true _ _ e))
  allocated caller false e n =
      let may : eqb caller 0 && not (sharing t) ≡ true = and_left _ (ltb 0 (boundary_of t)) (not-false (may_share t caller) n) in
      does refl (shares (not-true (sharing t) (and_right (eqb caller 0) _ may)))

  freed : (caller row : ℕ) (own : Bool) → eqb (class_at t row) (class_for caller) ≡ own → own || (eqb caller 0 && eqb (class_at t row) SHARED) ≡ true
      → (class_at t row ≡ class_for caller) ⊎ (class_at t row ≡ SHARED)
  freed caller row true e m = inl (eqb-true _ _ e)
  freed caller row false e m = inr (eqb-true _ _ (and_right (eqb caller 0) _ m))

  -- a test that is `_` is the definition's own
  heard-verdict : (output : ℕ) (c : Call) → Verdict t ram c (heard t ram output c)
  unfolding heard on_start on_reset on_open on_close on_read on_write on_default on_status on_link on_boundary on_set_user_boundary on_allocate on_free on_store on_load on_load_module
  heard-verdict output (start room list) = past (not (start_test ram room list)) _ refl (λ e. starts (not-false _ e))
  heard-verdict output (reset flags) = past (other_bits flags) _ refl (λ _. does refl resets)
  heard-verdict output («open» channel driver n name) =
      past (leb 255 channel) _ refl (λ low.
      past (ltb (channel_at t channel) t.opened) _ refl (λ new.
      open-named channel driver n name (leb-false _ _ low) (ltb-false _ _ new) (reading name)))
  heard-verdict output (close channel) = past (leb t.opened (channel_at t channel)) _ refl (λ e. does refl (closes (leb-false _ _ e)))
  heard-verdict output (read channel offset asked) =
      past (leb t.opened (channel_at t channel)) _ refl (λ e.
      past (ltb output (given_of (size_at t (channel_at t channel)) offset asked)) _ refl (λ _. does refl (reads (leb-false _ _ e))))
  heard-verdict output (write channel offset bytes) =
      past (leb t.opened (channel_at t channel)) _ refl (λ e.
      past _ _ refl (λ f. does refl (writes (leb-false _ _ e) (ltb-false _ _ f))))
  heard-verdict output (default unit name) = past (not (default_name_test name)) _ refl (λ e. does refl (names (default-right name (not-false _ e))))
  heard-verdict output status = past (ltb output 5) _ refl (λ _. does refl counts)
  heard-verdict output (link m name) =
      past (not (link_name_test name)) _ refl (λ e.
      past (leb 16 t.known) _ refl (λ few.
      past (ltb t.room (256 + m) || not (room_for t (t.room - m) (total_of t))) _ refl (λ fits.
      does refl (links (link-right name (not-false _ e)) (leb-false _ _ few)
      (ltb-false _ _ (or_left _ (not (room_for t (t.room - m) (total_of t))) fits)) (not-false _ (or_right (ltb t.room (256 + m)) _ fits))))))
  heard-verdict output boundary = does refl tells
  heard-verdict output (set-user-boundary value) =
      past (not (sharing t) || ltb (boundary_of t) value) _ refl (λ e.
      does refl (bounds (not-false _ (or_left _ (ltb (boundary_of t) value) e)) (ltb-false _ _ (or_right (not (sharing t)) _ e))))
  heard-verdict output (allocate caller) =
      past (ltb 1 caller) _ refl (λ _.
      past (not (some_free t) && not (may_share t caller)) _ refl (λ e. allocated caller (some_free t) refl e))
  heard-verdict output (free caller segment) =
      let row = row_of t segment in
      past (ltb 1 caller) _ refl (λ _.
      past (not (may_free t caller row)) _ refl (λ e.
      let may = not-false (may_free t caller row) e in
      does refl (frees (ltb-true _ _ (and_left (ltb row t.segments) _ may))
      (freed caller row (eqb (class_at t row) (class_for caller)) refl (and_right (ltb row t.segments) _ may)))))
  heard-verdict output (store segment offset bytes) =
      past (not (may_reach t (row_of t segment))) _ refl (λ e.
      past _ _ refl (λ f.
      past (guarded (row_of t segment) offset (length bytes)) _ refl (λ _. does refl (stores (not-false _ e) (ltb-false _ _ f)))))
  heard-verdict output (load segment offset size) =
      past (not (may_reach t (row_of t segment))) _ refl (λ e.
      past _ _ refl (λ f.
      does refl (loads (not-false _ e) (ltb-false _ _ (or_left _ (ltb output size) f)))))
  heard-verdict output (load-module segment page offset stream) =
      let target = target_of t (row_of t segment) page in
      let k = refusal_of (judged target (counter page offset) stream) in
      past (ltb 3 page || ltb SEGMENT offset) _ refl (λ _.
      past (not (may_reach t (row_of t segment))) _ refl (λ e.
      past (eqb k 13) _ refl (λ range.
      past (eqb k 14) _ refl (λ guard.
      past (eqb k 19) _ refl (λ bad.
      past (eqb k 20) _ refl (λ out.
      does refl (loads-module (used_of (judged target (counter page offset) stream)) (not-false _ e)
      (none-refuses (judged target (counter page offset) stream) range guard bad out))))))))
  heard-verdict output no_call = refuses _ (plain-is _ refl)
  heard-verdict output short-start = refuses _ (plain-is _ refl)

  barred : {c : Call} (starting right : Bool) (o : Decision) → ready_test t ram ≡ right → Verdict t ram c o
      → Verdict t ram c (cond (not (starting || right)) (gives BadTables t changing nothing) o)
  barred true right o e f = f
  barred false true o e f = f
  barred false false o e f = bars e

  -- every call decides one of these
  pub verdict : (output : ℕ) (c : Call) → Verdict t ram c (decided t ram output c)
  unfolding decided
  verdict output c = barred (is_start c) (ready_test t ram) (heard t ram output c) refl (heard-verdict output c)

-- of a call that is no start and is done
effect_of : {t : Tables} {ram : ℕ} {c : Call} {d : Decision} → is_start c ≡ false → granted d.answer ≡ true → Verdict t ram c d → Effect t c d
effect_of s g (bars e) = absurd (false≢true g)
effect_of s g (drives h) = absurd (false≢true g)
effect_of s g (refuses answer p) = absurd (false≢true (sym p.refused ∙ g))
effect_of s g (starts e) = absurd (false≢true (sym s))
effect_of s g (does d e) = e

pub effect : (t : Tables) (ram output : ℕ) (c : Call) → is_start c ≡ false → granted (decided t ram output c).answer ≡ true → Effect t c (decided t ram output c)
effect t ram output c s g = effect_of s g (verdict t ram output c)
