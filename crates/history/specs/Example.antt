-- A sequence worked out: a start, two opens, a write, a close, a link, a segment shared, a store, a module loaded, an open closed again. Its states meet all that the
-- theorems ask.
use Rattle.std.specs.Prelude.{◌≡◌, Bool, true, false, ◌&&◌, ℕ, zero, suc, ◌-◌, ◌<◌, ltb, eqb, length, Some}
use Rattle.std.proofs.Math.Path.{refl, sym, ap}
use Rattle.std.proofs.Common.{subst, ◌∙◌, arith, rules, ltb-true, eqb-true}
use mathlib.Core.List.{List, [], ◌∷◌}
use Rattle.std.proofs.Math.ListN.{get_or}
use Rattle.names.specs.Definition.Tests.{letters_test}
use Rattle.line.specs.Definition.Line.{chain_index_of, offset_of, place_of}
use Rattle.line.specs.Definition.Moves.{moves_up, moves_down, close_moves, link_moves}
use Rattle.line.specs.Definition.Ram.{put_at}
use Rattle.line.specs.Definition.Given.{given_of}
use Rattle.line.specs.Definition.Lent.{lent_at}
use Rattle.modules.specs.Definition.Bits.{bits_in}
use Rattle.modules.specs.Definition.Reading.{taken_in}
use Rattle.rows.specs.Definition.Lists.{up_to}
use Rattle.rows.specs.Laws.Lists.{and_left, and_right}
use Rattle.rows.specs.Definition.Classes.{SHARED}
use Rattle.rows.specs.Definition.Sizes.{chain_length, boundary_at}
use Rattle.kernel.specs.Cases.{opens}
use Rattle.kernel.specs.Definition.Tables.{ram_size, class_at, row_of, sharing}
use Rattle.kernel.specs.Definition.Line.{grown, shrunk}
use Rattle.kernel.specs.Definition.Start.{no_tables}
use Rattle.kernel.specs.Definition.Answers.{number_of, b_of, granted, Decision}
use Rattle.kernel.specs.Definition.Calls.{Call, start, close, read, write, link, set-user-boundary, allocate, store, load-module, is_start}
use Rattle.kernel.specs.Definition.Bytes.{nothing, in-segment, ram_after, moves_of}
use Rattle.kernel.specs.Definition.Step.{decided, completed, step}
use Rattle.kernel.specs.Definition.Lend.{lent_on_good, lent_on, part_on}
use Rattle.kernel.specs.Laws.Ready.{Ready, decided-ready, start-ready}
use Rattle.kernel.specs.declared.Tables.{Tables}
use Rattle.kernel.specs.declared.Answer.TheVariants.{NoRoom}
use Rattle.history.specs.Definition.Runs.{State, Event, History, after, event, Started, Runs, stay, then, Any, Run, ReadRight}
use Rattle.history.specs.Definition.NoMark.{NoMark, Asked, after_all}
use Rattle.history.specs.Bytes.Patched.{patched, put-at-is}
use Rattle.history.specs.Bytes.Words.{written, last_written, last_written_lem, written_one, stored, last_stored, last_stored_lem, stored_one, resized, last_size, last-size, size-one}
use Rattle.history.specs.Definition.Users.{shared, UsersIn, user_byte}
use Rattle.history.specs.Definition.Lent.{size_of}
use Rattle.history.specs.Bytes.Steps.{step-sound, start-sound}
use Rattle.history.specs.Bytes.BytesRead.{bytes_read}
use Rattle.history.specs.Bytes.LentOn.{lent_written}
use Rattle.history.specs.Bytes.UserBytes.{user-bytes}
use Rattle.history.specs.Definition.Layout.{Layout}
use Rattle.history.specs.Definition.Places.{count_in, in_system, offered, Outside}
use Rattle.history.specs.Definition.Room.{Passes, records_and}
use Rattle.history.specs.Answers.Proved.{refuses-lowest}
use Rattle.history.specs.Reachable.{reachable, reachable-fewest, reachable-open, reachable-no-mark, reachable-no-mark-next, reachable-no-mark-later}

-- ---- a sequence of calls, each lent four segments of RAM and three bytes of output

abbrev lent : List ℕ
lent = 0 ∷ 0 ∷ 0 ∷ []

abbrev answered : Tables → Call → Decision
answered t c = decided t 65536 3 c

-- the tables that the calls leave, and the numbers that they answer
abbrev leaves : Tables → List Call → Tables
leaves t [] = t
leaves t (c ∷ cs) = leaves (answered t c).tables cs

abbrev numbers : Tables → List Call → List ℕ
numbers t [] = []
numbers t (c ∷ cs) = number_of (answered t c).answer ∷ numbers (answered t c).tables cs

-- how many bytes a call moves, and each of these calls
abbrev moved_on : Tables → Call → ℕ
moved_on t c = length (moves_of t (answered t c).tables (answered t c).ram)

abbrev moved_by : Tables → List Call → List ℕ
moved_by t [] = []
moved_by t (c ∷ cs) = moved_on t c ∷ moved_by (answered t c).tables cs

-- the state that they leave, and their history after h
abbrev leads : State → List Call → State
leads s [] = s
leads s (c ∷ cs) = leads (after s c lent) cs

abbrev tells : History → State → List Call → History
tells h s [] = h
tells h s (c ∷ cs) = tells (event s c lent ∷ h) (after s c lent) cs

abbrev NoStarts : List Call → Type 0
NoStarts [] = Unit {0}
NoStarts (c ∷ cs) = (is_start c ≡ false) × NoStarts cs

-- the states on the way have P
abbrev Along : (State → Type 0) → State → List Call → Type 0
Along P s [] = Unit {0}
Along P s (c ∷ cs) = P (after s c lent) × Along P (after s c lent) cs

runs : {P : State → Type 0} {first : State} (h : History) (s : State) (cs : List Call) → NoStarts cs → Along P s cs → Runs P first h s
    → Runs P first (tells h s cs) (leads s cs)
runs h s [] f p r = r
runs h s (c ∷ cs) (n, fs) (p, ps) r = runs (event s c lent ∷ h) (after s c lent) cs fs ps (then r c lent (rw n) p)

anything : (s : State) (cs : List Call) → Along Any s cs
anything s [] = tt
anything s (c ∷ cs) = (tt, anything (after s c lent) cs)

-- the calls, each with the output that is lent to it
abbrev asked : List Call → List Asked
asked [] = []
asked (c ∷ cs) = record { call = c; output = lent } ∷ asked cs

-- ---- a state whose tables are known

record Known (s : State) (t : Tables) : Type 0 where
  ready : Ready t 65536
  tables : s.tables ≡ t
  size : length s.ram ≡ 65536

known-answer : {s : State} {t : Tables} → Known s t → (c : Call) → (event s c lent).answer ≡ (answered t c).answer
unfolding step completed
known-answer k c = rw (k.tables, k.size)

known-moved : {s : State} {t : Tables} → Known s t → (c : Call) → (event s c lent).moved ≡ moved_on t c
unfolding step completed
known-moved k c = rw (k.tables, k.size)

known-lent : {s : State} {t : Tables} → Known s t → (channel : ℕ) → lent_on s.tables (length s.ram) channel ≡ lent_on t 65536 channel
known-lent k channel = rw (k.tables, k.size)

known_next : {s : State} {t : Tables} → Known s t → (c : Call) → is_start c ≡ false → Known (after s c lent) (answered t c).tables
unfolding step completed
known_next {s} {t} k c n =
    let here : Ready s.tables (length s.ram) = rw (k.tables, k.size) k.ready in
    let next : Ready (answered t c).tables 65536 = decided-ready t 65536 3 c k.ready in
    let same : (after s c lent).tables ≡ (answered t c).tables = rw (k.tables, k.size) in
    record { ready = next; tables = same; size = (step-sound s c lent here (rw n)).size ∙ ap ram_size same ∙ sym next.size }

known-all : {s : State} {t : Tables} → Known s t → (cs : List Call) → NoStarts cs → Known (leads s cs) (leaves t cs)
known-all k [] f = k
known-all {s = s} k (c ∷ cs) (n, fs) = known-all {s = after s c lent} (known_next k c n) cs fs

-- the calls and answers of its history are known too
abbrev plain : History → Tables → List Call → History
plain h t [] = h
plain h t (c ∷ cs) = plain (record { call = c; answer = (answered t c).answer; output = []; moved = moved_on t c } ∷ h) (answered t c).tables cs

data Alike : History → History → Type 0 where
  none : Alike [] []
  both : {g h : History} {d e : Event} → d.call ≡ e.call → d.answer ≡ e.answer → Alike g h → Alike (d ∷ g) (e ∷ h)

alike : {g h : History} {s : State} {t : Tables} → Alike g h → Known s t → (cs : List Call) → NoStarts cs → Alike (tells g s cs) (plain h t cs)
alike a k [] f = a
alike {g = g} {s = s} a k (c ∷ cs) (n, fs) = alike {g = event s c lent ∷ g} {s = after s c lent} (both refl (known-answer k c) a) (known_next k c n) cs fs

alike-written : {g h : History} → Alike g h → (channel k : ℕ) → last_written g channel k ≡ last_written h channel k
unfolding last_written
alike-written none channel k = refl
alike-written (both p q a) channel k = rw (p, q, alike-written a channel k)

alike-stored : {g h : History} → Alike g h → (segment offset first : ℕ) → last_stored g segment offset first ≡ last_stored h segment offset first
unfolding last_stored
alike-stored none segment offset first = refl
alike-stored (both p q a) segment offset first = rw (p, q, alike-stored a segment offset first)

alike_size : {g h : History} → Alike g h → (channel : ℕ) → last_size g channel ≡ last_size h channel
unfolding last_size
alike_size none channel = refl
alike_size (both p q a) channel = rw (p, q, alike_size a channel)

-- a place of a shared segment is the user's all the way, as a test
abbrev shared_test : (segment offset : ℕ) → Tables → Bool
shared_test segment offset t = ltb (row_of t segment) t.segments && (eqb (class_at t (row_of t segment)) SHARED && ltb offset t.user)

abbrev shared_all : (segment offset : ℕ) → Tables → List Call → Bool
shared_all segment offset t [] = true
shared_all segment offset t (c ∷ cs) = shared_test segment offset (answered t c).tables && shared_all segment offset (answered t c).tables cs

module _ (segment offset : ℕ) where
  users : {s : State} {t : Tables} → Known s t → shared_test segment offset t ≡ true → UsersIn segment offset s
  users {t = t} k e =
      let row = row_of t segment in
      let q : eqb (class_at t row) SHARED && ltb offset t.user ≡ true = and_right (ltb row t.segments) _ e in
      rw k.tables
      (shared (ltb-true _ _ (and_left (ltb row t.segments) _ e)) (eqb-true _ _ (and_left _ _ q)) (ltb-true _ _ (and_right (eqb (class_at t row) SHARED) _ q)))

  users-all : {s : State} {t : Tables} → Known s t → (cs : List Call) → NoStarts cs → shared_all segment offset t cs ≡ true → Along (UsersIn segment offset) s cs
  users-all k [] f e = tt
  users-all {s = s} {t = t} k (c ∷ cs) (n, fs) e =
      let next = known_next k c n in
      let here = shared_test segment offset (answered t c).tables in
      (users next (and_left here _ e), users-all {s = after s c lent} next cs fs (and_right here _ e))

-- ---- the sequence

abbrev begin : Call
begin = start 11074 (252 ∷ 253 ∷ 254 ∷ 255 ∷ [])

-- The close moves channel 2's buffer and the link moves it again; the third allocate shares 255, which the line uses.
abbrev calls : List Call
calls =
    opens 1 3 ∷ opens 2 4 ∷ write 2 1 (7 ∷ []) ∷ close 1 ∷ link 100 (65 ∷ []) ∷ allocate 0 ∷ allocate 0 ∷ allocate 0 ∷ set-user-boundary 1000 ∷ []

-- The module is the word 1234h, loaded at offset 6 in page 1, whose value is 4006h. The user's bytes in 255 stay through an open that fills the room
-- above them, and a close.
abbrev more : List Call
more = store 255 5 (9 ∷ []) ∷ load-module 255 1 6 (0x82 ∷ 0x46 ∷ 0x98 ∷ []) ∷ opens 3 9938 ∷ close 2 ∷ []

-- The user stores a byte in the part of 255 that is then given up.
abbrev under : List Call
under = set-user-boundary 6000 ∷ store 255 5000 (9 ∷ []) ∷ set-user-boundary 1000 ∷ []

-- opens of channels k - 1 down to 0
abbrev openings : ℕ → List Call
openings zero = []
openings (suc k) = opens k 0 ∷ openings k

abbrev thirty-one : List Call
thirty-one = openings 31

abbrev t₀ : Tables
t₀ = (answered no_tables begin).tables

abbrev t₁ : Tables
t₁ = leaves t₀ calls

fit : NoStarts calls
fit = search rules

fit-more : NoStarts more
fit-more = search rules

fit-under : NoStarts under
fit-under = search rules

fit-openings : (k : ℕ) → NoStarts (openings k)
fit-openings zero = tt
fit-openings (suc k) = (refl, fit-openings k)

-- 17 is SHARED
pub answers : numbers t₀ calls ≡ 0 ∷ 0 ∷ 0 ∷ 0 ∷ 0 ∷ 0 ∷ 0 ∷ 17 ∷ 0 ∷ []
unfolding decided no_tables letters_test up_to chain_length boundary_at grown shrunk
answers = refl

pub answers-more : numbers t₁ more ≡ 0 ∷ 0 ∷ 0 ∷ 0 ∷ []
unfolding decided no_tables letters_test up_to chain_length boundary_at grown shrunk taken_in bits_in
answers-more = refl

-- the close moves channel 2's record, of 16 + 4 bytes, and the link, under which R falls, all that the line then has
pub moved_twice : moved_by t₀ calls ≡ 0 ∷ 0 ∷ 0 ∷ 20 ∷ 20 ∷ 0 ∷ 0 ∷ 0 ∷ 0 ∷ []
unfolding moves_of close_moves moves_up link_moves moves_down decided no_tables letters_test up_to chain_length boundary_at grown shrunk
moved_twice = refl

-- what order 13's cases are: the chain has grown to three segments; 31 channels are open; 255 is shared
pub grows : (answered t₀ (opens 99 43826)).tables.held ≡ 3
unfolding decided no_tables letters_test up_to chain_length boundary_at grown shrunk
grows = refl

pub all-open : (leaves t₀ thirty-one).opened ≡ 31
unfolding decided no_tables letters_test up_to chain_length boundary_at grown shrunk
all-open = refl

pub is_shared : sharing (leaves t₁ under) ≡ true
unfolding decided no_tables letters_test up_to chain_length boundary_at grown shrunk
is_shared = refl

-- channel 2's buffer, on positions 16 to 19 of the line, where R is 10,974
computed : Some 60106 ≡ lent_on t₁ 65536 2
unfolding lent_on lent_on_good lent_at place_of chain_index_of offset_of decided no_tables letters_test up_to chain_length boundary_at grown shrunk
computed = refl

module _ (ram : List ℕ) (four : length ram ≡ 65536) where
  abbrev before : State
  before = record { tables = no_tables; ram = ram }

  abbrev s₀ : State
  s₀ = after before begin lent

  abbrev s₁ : State
  s₁ = leads s₀ calls

  begun : granted (answered no_tables begin).answer ≡ true
  unfolding decided no_tables up_to
  begun = refl

  accepted : granted (event before begin lent).answer ≡ true
  unfolding step completed
  accepted = rw four begun

  starts : Started s₀
  starts = record { before = before; room = 11074; list = 252 ∷ 253 ∷ 254 ∷ 255 ∷ []; output = lent; accepted = accepted; left = refl }

  k₀ : Known s₀ t₀
  unfolding step completed
  k₀ =
      let ready : Ready t₀ 65536 = start-ready no_tables 65536 3 11074 (252 ∷ 253 ∷ 254 ∷ 255 ∷ []) begun in
      let same : s₀.tables ≡ t₀ = rw four in
      record { ready = ready; tables = same; size = (start-sound s₀ starts).size ∙ ap ram_size same ∙ sym ready.size }

  k₁ : Known s₁ t₁
  k₁ = known-all k₀ calls fit

  sequence : Run (tells [] s₀ calls) s₁
  sequence = record { first = s₀; started = starts; runs = runs [] s₀ calls fit (anything s₀ calls) (stay tt) }

  -- 1: of nine bytes asked from byte 1 of channel 2 on, whose buffer moved twice, three remain, and as many are lent: the 7 that was written, and zeros
  gave : granted (event s₁ (read 2 1 9) lent).answer ≡ true
  unfolding decided no_tables letters_test up_to chain_length boundary_at grown shrunk
  gave = ap granted (known-answer k₁ (read 2 1 9))

  gives : ReadRight 2 1 9 (tells [] s₀ calls) (event s₁ (read 2 1 9) lent)
  gives = bytes_read sequence 2 1 9 lent gave

  four-opened : gives.n ≡ 4
  unfolding last_size resized decided no_tables letters_test up_to chain_length boundary_at grown shrunk
  four-opened = size-one 2 gives.opened_with (last-size 2 _) ∙ alike_size (alike none k₀ calls fit) 2

  pub three-given : b_of (event s₁ (read 2 1 9) lent).answer ≡ 3
  unfolding given_of
  three-given = ap b_of gives.given ∙ ap (λ (n : ℕ). given_of n 1 9) four-opened

  last : (k : ℕ) → last_written (tells [] s₀ calls) 2 k ≡ last_written (plain [] t₀ calls) 2 k
  last k = alike-written (alike none k₀ calls fit) 2 k

  pub byte-written : get_or (event s₁ (read 2 1 9) lent).output 0 0 ≡ 7
  unfolding last_written written patched decided no_tables letters_test up_to chain_length boundary_at grown shrunk
  byte-written = written_one 2 1 (gives.bytes 0 (rw three-given (omega arith))) (last_written_lem 2 1 _) ∙ last 1

  pub byte-zero : get_or (event s₁ (read 2 1 9) lent).output 1 0 ≡ 0
  unfolding last_written written patched decided no_tables letters_test up_to chain_length boundary_at grown shrunk
  byte-zero = written_one 2 2 (gives.bytes 1 (rw three-given (omega arith))) (last_written_lem 2 2 _) ∙ last 2

  pub last-zero : get_or (event s₁ (read 2 1 9) lent).output 2 0 ≡ 0
  unfolding last_written written patched decided no_tables letters_test up_to chain_length boundary_at grown shrunk
  last-zero = written_one 2 3 (gives.bytes 2 (rw three-given (omega arith))) (last_written_lem 2 3 _) ∙ last 3

  -- 2: byte 5 of the shared segment is the 9 that was stored, and byte 7 the high byte of 1234h + 4006h, which was loaded
  byte_last : (k : ℕ) → shared_test 255 k t₁ ≡ true → shared_all 255 k t₁ more ≡ true
      → user_byte (leads s₁ more) 255 k ≡ last_stored (plain [] t₁ more) 255 k (user_byte s₁ 255 k)
  byte_last k here all =
      stored_one 255 k (user-bytes sequence 255 k (runs [] s₁ more fit-more (users-all 255 k k₁ more fit-more all) (stay (users 255 k k₁ here))))
      (last_stored_lem 255 k _ _)
      ∙ alike-stored (alike none k₁ more fit-more) 255 k _

  pub byte-stored : user_byte (leads s₁ more) 255 5 ≡ 9
  unfolding last_stored stored patched decided no_tables letters_test up_to chain_length boundary_at grown shrunk taken_in bits_in
  byte-stored = byte_last 5 refl refl

  pub byte-loaded : user_byte (leads s₁ more) 255 7 ≡ 0x52
  unfolding last_stored stored patched decided no_tables letters_test up_to chain_length boundary_at grown shrunk taken_in bits_in
  byte-loaded = byte_last 7 refl refl

  -- order 8: a link by which R falls moves channel 2's record once more, and one by which it stays does not
  pub link-moves : (event s₁ (link 1 (66 ∷ [])) lent).moved ≡ 20
  unfolding moves_of link_moves moves_down decided no_tables letters_test up_to chain_length boundary_at grown shrunk
  link-moves = known-moved k₁ (link 1 (66 ∷ []))

  pub link-moves-none : (event s₁ (link 0 (66 ∷ [])) lent).moved ≡ 0
  unfolding moves_of link_moves decided no_tables letters_test up_to chain_length boundary_at grown shrunk
  link-moves-none = known-moved k₁ (link 0 (66 ∷ []))

  -- 3: the one channel's record lies in one segment
  pub one-segment : count_in s₁.tables.segments (in_system s₁.tables) ≡ 1
  unfolding decided no_tables letters_test up_to chain_length boundary_at grown shrunk
  one-segment = (reachable-fewest sequence).many ∙ ap (λ (t : Tables). t.held) k₁.tables

  -- 4: one byte more than the open of `more` asks, and no layout fits
  no_room : (event s₁ (opens 3 9939) lent).answer ≡ NoRoom
  unfolding decided no_tables letters_test up_to chain_length boundary_at grown shrunk
  no_room = known-answer k₁ (opens 3 9939)

  passes : Passes s₁.tables (length s₁.ram) 3 (opens 3 9939)
  unfolding step completed
  passes =
      ((refuses-lowest s₁.tables (length s₁.ram) 3 (opens 3 9939) (reachable sequence).0.good.sized 9
      (omega arith) (omega arith)).0 (ap number_of no_room)).1

  pub no-layout : ¬ Layout (records_and s₁.tables 9939) (Outside s₁.tables s₁.tables.room (offered s₁.tables))
  no-layout = (reachable-open sequence lent 3 0 9939 _ passes).refused.0 no_room

  -- 1, lent on: channel 2's four bytes, the last first: the 7 is the third of them
  lent-on : Some 60106 ≡ lent_on s₁.tables (length s₁.ram) 2
  lent-on = computed ∙ sym (known-lent k₁ 2)

  four_bytes : size_of s₁.tables 2 ≡ 4
  unfolding decided no_tables letters_test up_to chain_length boundary_at grown shrunk
  four_bytes = ap (λ (t : Tables). size_of t 2) k₁.tables

  pub byte-lent : get_or (part_on s₁.tables s₁.ram 2) 2 0 ≡ 7
  unfolding last_written written patched decided no_tables letters_test up_to chain_length boundary_at grown shrunk
  byte-lent =
      ap (λ (n : ℕ). get_or (part_on s₁.tables s₁.ram 2) (n - 1 - 1) 0) (sym four_bytes)
      ∙ written_one 2 1 (lent_written sequence 2 60106 lent-on 1 (subst (λ (n : ℕ). 1 < n) (sym four_bytes) (omega arith))) (last_written_lem 2 1 _)
      ∙ last 1

  -- Open and close again: from the start, where the chain grows by both free segments, and of n = 0; with 31 channels open; and in s₂, where 255 is shared
  -- and the record fills the room above the user boundary
  fresh : Run [] s₀
  fresh = record { first = s₀; started = starts; runs = stay tt }

  full : Run (tells [] s₀ thirty-one) (leads s₀ thirty-one)
  full = record { first = s₀; started = starts; runs = runs [] s₀ thirty-one (fit-openings 31) (anything s₀ thirty-one) (stay tt) }

  abbrev s₂ : State
  s₂ = leads s₁ under

  k₂ : Known s₂ (leaves t₁ under)
  k₂ = known-all k₁ under fit-under

  longer : Run (tells (tells [] s₀ calls) s₁ under) s₂
  longer = record { first = sequence.first; started = sequence.started; runs = runs (tells [] s₀ calls) s₁ under fit-under (anything s₁ under) sequence.runs }

  again : {h : History} {s : State} {t : Tables} → Run h s → Known s t → (n : ℕ) → granted (answered t (opens 99 n)).answer ≡ true
      → NoMark s (after s (opens 99 n) lent) 99 n lent
  again r k n e = reachable-no-mark r 99 0 n _ lent lent (ap granted (known-answer k (opens 99 n)) ∙ e)

  pub again-grown : NoMark s₀ (after s₀ (opens 99 43826) lent) 99 43826 lent
  unfolding decided no_tables letters_test up_to chain_length boundary_at grown shrunk
  again-grown = again fresh k₀ 43826 refl

  pub again-empty : NoMark s₀ (after s₀ (opens 99 0) lent) 99 0 lent
  unfolding decided no_tables letters_test up_to chain_length boundary_at grown shrunk
  again-empty = again fresh k₀ 0 refl

  pub again-full : NoMark (leads s₀ thirty-one) (after (leads s₀ thirty-one) (opens 99 5) lent) 99 5 lent
  unfolding decided no_tables letters_test up_to chain_length boundary_at grown shrunk
  again-full = again full (known-all k₀ thirty-one (fit-openings 31)) 5 refl

  pub again-shared : NoMark s₂ (after s₂ (opens 99 9938) lent) 99 9938 lent
  unfolding decided no_tables letters_test up_to chain_length boundary_at grown shrunk
  again-shared = again longer k₂ 9938 refl

  -- byte 5,000 of 255, which lay in the user's part, is the 9 that was stored; the record lies on it, and it is zero
  ram-stored : {s : State} {t : Tables} → Known s t → (d : Decision) → answered t (store 255 5000 (9 ∷ [])) ≡ d → d.ram ≡ in-segment 3 5000 (9 ∷ [])
      → (after s (store 255 5000 (9 ∷ [])) lent).ram ≡ put_at s.ram 54152 (9 ∷ [])
  unfolding step completed ram_after
  ram-stored k d e f = rw (k.tables, k.size, e, f)

  ram-kept : {s : State} {t : Tables} → Known s t → (c : Call) (d : Decision) → answered t c ≡ d → d.ram ≡ nothing → (after s c lent).ram ≡ s.ram
  unfolding step completed ram_after
  ram-kept k c d e f = rw (k.tables, k.size, e, f)

  pub byte-there : get_or s₂.ram 54152 0 ≡ 9
  unfolding patched decided no_tables letters_test up_to chain_length boundary_at grown shrunk
  byte-there =
      let a = known_next k₁ (set-user-boundary 6000) refl in
      let b = known_next a (store 255 5000 (9 ∷ [])) refl in
      let long = a.size in
      ap (λ (ram : List ℕ). get_or ram 54152 0) (ram-kept b (set-user-boundary 1000) _ refl refl ∙ ram-stored a _ refl refl)
      ∙ put-at-is _ 54152 (9 ∷ []) 54152 (omega arith)

  pub byte-lost : get_or (after (after s₂ (opens 99 9938) lent) (close 99) lent).ram 54152 0 ≡ 0
  unfolding place_of chain_index_of offset_of decided no_tables letters_test up_to chain_length boundary_at grown shrunk
  byte-lost = again-shared.zero 54152 (rw (known_next k₂ (opens 99 9938) refl).tables (record { k = 5953; within = omega arith; place = refl }))

  -- the next call has the same reply: one byte more than fits is refused for room; and the calls of `more` leave the same tables
  refused-there : (event s₂ (opens 3 9939) lent).answer ≡ NoRoom
  unfolding decided no_tables letters_test up_to chain_length boundary_at grown shrunk
  refused-there = known-answer k₂ (opens 3 9939)

  done-there : granted (event s₂ (opens 99 9938) lent).answer ≡ true
  unfolding decided no_tables letters_test up_to chain_length boundary_at grown shrunk
  done-there = ap granted (known-answer k₂ (opens 99 9938))

  pub next-no-room : (event (after (after s₂ (opens 99 9938) lent) (close 99) lent) (opens 3 9939) lent).answer ≡ NoRoom
  next-no-room = ap (λ (e : Event). e.answer) (reachable-no-mark-next longer 99 0 9938 _ lent lent done-there (opens 3 9939) lent) ∙ refused-there

  pub later-tables : (after_all (after (after s₂ (opens 99 9938) lent) (close 99) lent) (asked more)).tables ≡ (leads s₂ more).tables
  later-tables = (reachable-no-mark-later longer 99 0 9938 _ lent lent done-there (asked more)).tables
