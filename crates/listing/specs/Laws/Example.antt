-- 01's example of a listing, to the letter, with the line that order 2 changes.
-- It is shown a record at a time, whatever bytes the RAM has: one computation over all would write 65,536 bytes anew for each byte put.
use Rattle.std.specs.Prelude.{◌≡◌, refl, List, [], ◌∷◌, ◌++◌, ℕ, zero, suc, ◌≤◌, length, get_or, drop, set, replicate, Ok}
use Rattle.std.proofs.Common.{ap, ◌∙◌, arith, length-append, length-set, length-drop, get_or-set_same, get_or-set_other}
use Prim.Native.String.{String}
use Rattle.std.proofs.lemmas.List.{length-replicate}
use Rattle.rows.specs.Definition.Lists.{up_to}
use Rattle.rows.specs.Definition.Sizes.{chain_length, boundary_at}
use Rattle.line.specs.Definition.Ram.{bytes_from, put_from, filled}
use Rattle.line.specs.Definition.Line.{chain_index_of, offset_of, place_of, after_open, after_close}
use Rattle.line.specs.Laws.Walks.{length-put}
use Rattle.kernel.specs.Definition.Line.{grown, shrunk}
use Rattle.kernel.specs.Definition.Calls.{Call}
use Rattle.kernel.specs.Definition.Step.{Result, decided, completed}
use Rattle.kernel.specs.declared.Tables.{Tables}
use Rattle.events.specs.Definition.Records.{u16_at, front_of, body_of, rest_of, start_in, open_in, close_in, read_in, write_in, boundary_in, call_in}
use Rattle.text.specs.Definition.Text.{letters, decimal_in, decimal_of, fields_of}
use Rattle.kernel.specs.Definition.Start.{no_tables}
use Rattle.listing.specs.Definition.Log.{shows_of, line_of, line_after, lent_to, log_step, text_from, listing}
use Rattle.listing.specs.Laws.Log.{text-record, text-finished, log-full}

abbrev pub line_with : String → List ℕ
line_with s = letters s ++ (10 ∷ [])

abbrev pub lines_of : List String → List ℕ
lines_of [] = []
lines_of (s ∷ more) = line_with s ++ lines_of more

abbrev pub joined : List (List ℕ) → List ℕ
joined [] = []
joined (r ∷ more) = r ++ joined more

-- "start, bytes 08 00 00 01 42 2B FC FD FE FF; open 5, status 0, n 100, "VIDEO:"; boundary; write 5 at 98, AA 55;
-- read 5 at 98, 2; read 5 at 99, 2; close 5; boundary"
abbrev pub input : List (List ℕ)
input =
    (0x08 ∷ 0x00 ∷ 0x00 ∷ 0x01 ∷ 0x42 ∷ 0x2B ∷ 0xFC ∷ 0xFD ∷ 0xFE ∷ 0xFF ∷ [])
    ∷ (12 ∷ 0 ∷ 1 ∷ 0 ∷ 5 ∷ 0 ∷ 100 ∷ 0 ∷ letters "VIDEO:")
    ∷ (2 ∷ 0 ∷ 22 ∷ 0 ∷ [])
    ∷ (7 ∷ 0 ∷ 8 ∷ 0 ∷ 5 ∷ 98 ∷ 0 ∷ 0xAA ∷ 0x55 ∷ [])
    ∷ (7 ∷ 0 ∷ 6 ∷ 0 ∷ 5 ∷ 98 ∷ 0 ∷ 2 ∷ 0 ∷ [])
    ∷ (7 ∷ 0 ∷ 6 ∷ 0 ∷ 5 ∷ 99 ∷ 0 ∷ 2 ∷ 0 ∷ [])
    ∷ (3 ∷ 0 ∷ 3 ∷ 0 ∷ 5 ∷ [])
    ∷ (2 ∷ 0 ∷ 22 ∷ 0 ∷ [])
    ∷ []

-- "Output"; of the second read order 2: "The line `6 13 0 0` of 01's listing becomes `6 0 0 1 55`."
abbrev pub output : List String
output =
    "256 0 4 11074"
    ∷ "1 0 0 0"
    ∷ "22 0 255 10958"
    ∷ "8 0 0 2"
    ∷ "6 0 0 2 aa55"
    ∷ "6 0 0 1 55"
    ∷ "3 0 0 0"
    ∷ "22 0 255 11074"
    ∷ []

kind_at : ℕ → ℕ
kind_at k = u16_at (get_or input k []) 2

body_at : ℕ → List ℕ
body_at k = drop 4 (get_or input k [])

call_at : ℕ → Call
unfolding kind_at body_at call_in start_in open_in close_in read_in write_in boundary_in
call_at k = call_in (kind_at k) (body_at k)

-- the tables before record k
before : ℕ → Tables
unfolding call_at decided no_tables up_to chain_length boundary_at grown shrunk
before zero = no_tables
before (suc k) = (decided (before k) 65536 4096 (call_at k)).tables

-- what record k leaves of a RAM and an output
left : (k : ℕ) (ram out : List ℕ) → Result
unfolding before completed
left k ram out = completed (before k) (decided (before k) 65536 4096 (call_at k)) ram out

-- from record k on the text is 01's, whatever the RAM's bytes, if they are such
abbrev Says : (List ℕ → Type 0) → ℕ → Type 0
Says Such k =
    (ram out : List ℕ) → length ram ≡ 65536 → length out ≡ 4096 → Such ram → text_from (before k) ram out (joined (drop k input)) ≡ lines_of (drop k output)

record Leaves (Such : List ℕ → Type 0) (kind : ℕ) (line : List ℕ) (r : Result) : Type 0 where
  line-is : line_after kind r ≡ line
  ram-length : length r.ram ≡ 65536
  output-length : length r.output ≡ 4096
  such : Such r.ram

-- record k stands at the front of what follows the first k
abbrev Stands : ℕ → Type 0
Stands k =
    let xs = joined (drop k input) in
    let n = length (body_at k) in
    (front_of xs ≡ Ok (record { kind = kind_at k; size = n })) × (body_of xs n ≡ body_at k) × (rest_of xs n ≡ joined (drop (suc k) input))

says : (Such Next : List ℕ → Type 0) (k : ℕ) → Stands k → lent_to (before k).segments (kind_at k) (length (body_at k)) ≡ 65536 → lines_of (drop k output) ≡ line_with (get_or output k "") ++ lines_of (drop (suc k) output)
    → ((ram out : List ℕ) → length ram ≡ 65536 → length out ≡ 4096 → Such ram → Leaves Next (kind_at k) (line_with (get_or output k "")) (left k ram out))
    → Says Next (suc k) → Says Such k
unfolding left
says Such Next k n l t does more ram out h g p =
    let r = left k ram out in
    let d = does ram out h g p in
    let e : log_step (before k) ram out (kind_at k) (body_at k) ≡ r = rw (← g) (log-full (before k) ram out (kind_at k) (body_at k) l h) in
    text-record (before k) ram out (joined (drop k input)) (record { kind = kind_at k; size = length (body_at k) }) n.0
    ∙ rw (n.1, n.2, e, d.line-is, t) (ap (λ (l : List ℕ). line_with (get_or output k "") ++ l) (more r.ram r.output d.ram-length d.output-length d.such))

abbrev Any : List ℕ → Type 0
Any ram = Unit {0}

-- what the write leaves on positions 114 and 115 of the line
abbrev Written : List ℕ → Type 0
Written ram = (get_or ram 60111 0 ≡ 0xAA) × (get_or ram 60110 0 ≡ 0x55)

said-8 : Says Any 8
said-8 ram out h g p = text-finished (before 8) ram out

said-7 : Says Any 7
unfolding left front_of lent_to line_of shows_of fields_of decimal_of decimal_in
said-7 = says Any Any 7 (refl, refl, refl) refl refl (λ ram out h g p. record { line-is = refl; ram-length = h; output-length = g; such = tt }) said-8

said-6 : Says Any 6
unfolding left front_of lent_to line_of shows_of fields_of decimal_of decimal_in after_close
said-6 =
    says Any Any 6 (refl, refl, refl) refl refl
    (λ ram out h g p. record { line-is = refl; ram-length = length-put _ _ ram _ ∙ h; output-length = g; such = tt }) said-7

shown-one : (x : ℕ) (out : List ℕ) → x ≡ 0x55 → line_of 6 0 0 1 (filled 1 (x ∷ []) out) ≡ line_with "6 0 0 1 55"
unfolding line_of shows_of fields_of decimal_of decimal_in filled
shown-one x out e = rw e

shown-two : (x y : ℕ) (out : List ℕ) → x ≡ 0xAA → y ≡ 0x55 → line_of 6 0 0 2 (filled 2 (x ∷ y ∷ []) out) ≡ line_with "6 0 0 2 aa55"
unfolding line_of shows_of fields_of decimal_of decimal_in filled
shown-two x y out e f = rw (e, f)

filled-length : (xs out : List ℕ) → length xs ≤ 4096 → length out ≡ 4096 → length (filled (length xs) xs out) ≡ 4096
unfolding filled
filled-length xs out h g = omega (arith, length-append xs (drop (length xs) out), length-drop (length xs) out)

-- the byte on position 115 is all that remains
said-5 : Says Written 5
unfolding left front_of lent_to filled bytes_from place_of chain_index_of offset_of
said-5 =
    says Written Any 5 (refl, refl, refl) refl refl
    (λ ram out h g p. record { line-is = shown-one (get_or ram 60110 0) out p.1; ram-length = h; output-length = filled-length (get_or ram 60110 0 ∷ []) out (omega arith) g; such = tt }) said-6

said-4 : Says Written 4
unfolding left front_of lent_to filled bytes_from place_of chain_index_of offset_of
said-4 =
    says Written Written 4 (refl, refl, refl) refl refl
    (λ ram out h g p. record {
      line-is = shown-two (get_or ram 60111 0) (get_or ram 60110 0) out p.0 p.1;
      ram-length = h;
      output-length = filled-length (get_or ram 60111 0 ∷ get_or ram 60110 0 ∷ []) out (omega arith) g;
      such = p;
    }) said-5

said-3 : Says Any 3
unfolding left front_of lent_to line_of shows_of fields_of decimal_of decimal_in put_from place_of chain_index_of offset_of
said-3 =
    says Any Written 3 (refl, refl, refl) refl refl
    (λ ram out h g p.
    let i = set {A = ℕ} ram 60111 0xAA in
    let l : length i ≡ 65536 = length-set ram 60111 0xAA ∙ h in
    record {
      line-is = refl;
      ram-length = length-set i 60110 0x55 ∙ l;
      output-length = g;
      such = (get_or-set_other i 60110 60111 0x55 0 (λ e. omega arith) ∙ get_or-set_same ram 60111 0xAA 0 (omega arith), get_or-set_same i 60110 0x55 0 (omega arith));
    }) said-4

said-2 : Says Any 2
unfolding left front_of lent_to line_of shows_of fields_of decimal_of decimal_in
said-2 = says Any Any 2 (refl, refl, refl) refl refl (λ ram out h g p. record { line-is = refl; ram-length = h; output-length = g; such = tt }) said-3

said-1 : Says Any 1
unfolding left front_of lent_to line_of shows_of fields_of decimal_of decimal_in after_open
said-1 =
    says Any Any 1 (refl, refl, refl) refl refl
    (λ ram out h g p. record { line-is = refl; ram-length = length-put _ _ ram _ ∙ h; output-length = g; such = tt }) said-2

said-0 : Says Any 0
unfolding left front_of lent_to line_of shows_of fields_of decimal_of decimal_in
said-0 =
    says Any Any 0 (refl, refl, refl) refl refl
    (λ ram out h g p. record { line-is = refl; ram-length = length-replicate (length ram) 0 ∙ h; output-length = g; such = tt }) said-1

pub example : listing (joined input) ≡ lines_of output
unfolding listing before
example = said-0 (replicate 65536 0) (replicate 4096 0) (length-replicate {A = ℕ} 65536 0) (length-replicate {A = ℕ} 4096 0) tt
