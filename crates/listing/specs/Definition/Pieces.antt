-- A log that is read in pieces: what one record, and what the records of a piece, leave of it.
use Rattle.std.specs.Prelude.{◌≡◌, List, [], ◌++◌, ℕ, ◌+◌, ◌*◌, ◌≤◌, ◌<◌, length, take, drop, replicate, Option, Some, None, Ok, Err}
use Rattle.kernel.specs.Definition.Start.{no_tables}
use Rattle.kernel.specs.declared.Tables.{Tables}
use Rattle.events.specs.declared.NoRecord.TheVariants.{Cut, Bad}
use Rattle.events.specs.declared.Record.{Record}
use Rattle.events.specs.Definition.Records.{front_of, body_of, rest_of}
use Rattle.text.specs.Definition.Put.{Put, Puts}
use Rattle.text.specs.declared.Cursor.{Cursor}
use Rattle.listing.specs.declared.Drained.{Drained}
use Rattle.listing.specs.declared.Stop.{Stop}
use Rattle.listing.specs.declared.Stop.TheVariants.{More, Full, Bad as Ends}
use Rattle.listing.specs.Definition.Log.{log_step, line_after, listing, bad_text}

-- the most bytes of a line: four numbers of at most five digits, four spaces and a newline, and two digits for each of the 4,096 bytes of output
abbrev pub longest : ℕ
longest = 25 + 2 * 4096

-- what one record leaves: the definition's tables, RAM and output, and its line in the text
pub record Stepped (t : Tables) (ram out : List ℕ) (kind : ℕ) (body : List ℕ) (to : Cursor) (t' : Tables) (ram' out' : List ℕ) (to' : Cursor) : Type 0 where
  pub tables-are : t' ≡ (log_step t ram out kind body).tables
  pub ram-is : ram' ≡ (log_step t ram out kind body).ram
  pub output-is : out' ≡ (log_step t ram out kind body).output
  pub put : Puts to to' (line_after kind (log_step t ram out kind body))
  pub room : to'.at ≤ length to'.text.now

-- how far a listing has come: what the records so far left of tables, RAM and output, the bytes that are left, and the records' lines
pub record Mark : Type 0 where
  pub tables : Tables
  pub ram : List ℕ
  pub output : List ℕ
  pub left : List ℕ
  pub text : List ℕ

abbrev pub begin : Tables → (ram out xs : List ℕ) → Mark
begin t ram out xs = record { tables = t; ram = ram; output = out; left = xs; text = [] }

-- one record more
abbrev pub lined : Mark → Record → Mark
lined m f =
    let r = log_step m.tables m.ram m.output f.kind (body_of m.left f.size) in
    record { tables = r.tables; ram = r.ram; output = r.output; left = rest_of m.left f.size; text = m.text ++ line_after f.kind r }

abbrev pub ended : Mark → Mark
ended m = record { tables = m.tables; ram = m.ram; output = m.output; left = m.left; text = m.text ++ bad_text }

-- from a mark to the one where the lines stop, and why: the text, of `size` bytes, has no room for the longest line; less than a record is left;
-- or the log is bad
pub data Drains (size : ℕ) : Mark → Mark → Stop → Type 0 where
  full : {m : Mark} → size < length m.text + longest → Drains size m m Full
  more : {m : Mark} → length m.text + longest ≤ size → front_of m.left ≡ Err Cut → Drains size m m More
  ends : {m : Mark} → length m.text + longest ≤ size → front_of m.left ≡ Err Bad → Drains size m (ended m) Ends
  line : {m to : Mark} {f : Record} {stop : Stop} → length m.text + longest ≤ size → front_of m.left ≡ Ok f → Drains size (lined m f) to stop
      → Drains size m to stop

-- the mark that an outcome stands for: what is left of the input, and the part of the text that is used
abbrev pub reached : Drained → (ram out input text : List ℕ) → Mark
reached r ram out input text = record { tables = r.tables; ram = ram; output = out; left = drop r.taken input; text = take r.used text }

-- the lines of a whole log leave no room for a longest one in a text of `size` bytes
abbrev pub Fills : (log : List ℕ) (size : ℕ) → Mark → Type 0
Fills log size to = Drains size (begin no_tables (replicate 65536 0) (replicate 4096 0) log) to Full

-- the text of the whole log stands at the front of `text`, and behind it what stood there; or there was no room, the lines up to there stand at the
-- front, and `text` is shorter than the log's text and one longest line together
abbrev pub Lists : (log text text' : List ℕ) → Option ℕ → Type 0
Lists log text text' (Some n) = Put text text' 0 n (listing log) × ((to : Mark) → ¬ Fills log (length text') to)
Lists log text text' None =
    ((to : Mark) × Fills log (length text') to × Put text text' 0 (length to.text) to.text) × (length text' < length (listing log) + longest)
