-- "The listing program": the text of a log of event records.
use Rattle.std.specs.Prelude.{Bool, cond, ◌&&◌, ◌||◌, List, [], ◌∷◌, ◌++◌, ℕ, zero, suc, ◌-◌, ◌*◌, min, length, take, drop, replicate, ltb, eqb, Ok, Err}
use Rattle.kernel.specs.Definition.Tables.{SEGMENT}
use Rattle.kernel.specs.Definition.Start.{no_tables}
use Rattle.kernel.specs.Definition.Answers.{number_of, a_of, b_of}
use Rattle.kernel.specs.Definition.Step.{Result}
use Rattle.kernel.specs.declared.Tables.{Tables}
use Rattle.events.specs.declared.NoRecord.TheVariants.{Cut, Bad}
use Rattle.events.specs.Definition.Records.{Front, front_of, body_of, rest_of, step_of}
use Rattle.text.specs.Definition.Text.{fields_of, hex_of}

-- "a fifth field .. where 6, 20 or 258 is done with b > 0"
unfoldable pub shows_of : (kind answer b : ℕ) → Bool
shows_of kind answer b = eqb answer 0 && ltb 0 b && (eqb kind 6 || eqb kind 20 || eqb kind 258)

-- "kind, answer number, a, b, in decimal, one space between; a fifth field, the bytes in lower-case hex"; every line ends in a newline
unfoldable pub line_of : (kind answer a b : ℕ) (out : List ℕ) → List ℕ
line_of kind answer a b out = fields_of kind answer a b ++ cond (shows_of kind answer b) (32 ∷ hex_of (take b out)) [] ++ (10 ∷ [])

-- how much was moved "the listing doesn't print" (order 8)
abbrev pub line_after : ℕ → Result → List ℕ
line_after kind r = line_of kind (number_of r.answer) (a_of r.answer) (b_of r.answer) r.output

-- "lends at most four segments": those of the list that a start offers, of the accepted list afterwards
unfoldable pub lent_to : (segments kind size : ℕ) → ℕ
lent_to segments kind size = SEGMENT * min 4 (cond (eqb kind 256) (size - 2) segments)

-- a result with the rest of the RAM, which the call was not lent
abbrev pub on_rest : (ram : List ℕ) (n : ℕ) → Result → Result
on_rest ram n r = record { answer = r.answer; tables = r.tables; ram = r.ram ++ drop n ram; output = r.output; moved = r.moved }

-- what one record leaves of the tables, of the four segments and of the output
unfoldable pub log_step : Tables → (ram out : List ℕ) (kind : ℕ) (body : List ℕ) → Result
log_step t ram out kind body = let n = lent_to t.segments kind (length body) in on_rest ram n (step_of t (take n ram) kind body out)

-- `bad` and a newline
abbrev pub bad_text : List ℕ
bad_text = 98 ∷ 97 ∷ 100 ∷ 10 ∷ []

-- what is still to be written where the input ends and so many bytes are left, less than a record
abbrev pub ending : ℕ → List ℕ
ending left = cond (eqb left 0) [] bad_text

-- "prints a line a record", and `more` for the rest of the log; "A bad length or cut record prints `bad` and ends."
unfoldable pub turn : (more : Tables → (ram out xs : List ℕ) → List ℕ) → Tables → (ram out xs : List ℕ) → Front → List ℕ
turn more t ram out xs (Err Cut) = ending (length xs)
turn more t ram out xs (Err Bad) = bad_text
turn more t ram out xs (Ok f) =
    let r = log_step t ram out f.kind (body_of xs f.size) in line_after f.kind r ++ more r.tables r.ram r.output (rest_of xs f.size)

-- at most k records
unfoldable pub text_in : (k : ℕ) → Tables → (ram out xs : List ℕ) → List ℕ
text_in zero t ram out xs = []
text_in (suc k) t ram out xs = turn (text_in k) t ram out xs (front_of xs)

-- the text of a log, from tables, RAM and output as they stand; a record takes four bytes, so that there are turns enough
unfoldable pub text_from : Tables → (ram out xs : List ℕ) → List ℕ
text_from t ram out xs = text_in (length xs) t ram out xs

-- "It reads event records .., lends at most four segments and 4,096 bytes of output, and prints a line a record"
unfoldable pub listing : List ℕ → List ℕ
listing xs = text_from no_tables (replicate 65536 0) (replicate 4096 0) xs
