-- Reading the log in pieces changes nothing.
use Rattle.std.specs.Prelude.{◌≡◌, List, [], ◌∷◌, ◌++◌, ℕ, length, replicate, Err}
use Rattle.std.proofs.Common.{ap, ◌∙◌, append_assoc, append-nil}
use Rattle.kernel.specs.Definition.Start.{no_tables}
use Rattle.kernel.specs.declared.Tables.{Tables}
use Rattle.events.specs.declared.NoRecord.TheVariants.{Cut}
use Rattle.events.specs.Definition.Records.{front_of}
use Rattle.listing.specs.Definition.Log.{ending, text_from, listing}
use Rattle.listing.specs.Laws.Log.{text-cut}
use Rattle.listing.specs.Laws.Pieces.{Carry}

abbrev pub joined : List (List ℕ) → List ℕ
joined [] = []
joined (c ∷ cs) = c ++ joined cs

-- what the program does from tables, RAM, output and the bytes in hand, with the pieces that are still to be read, and the text that it writes
pub data Session : Tables → (ram out xs : List ℕ) → (pieces : List (List ℕ)) → (text : List ℕ) → Type 0 where
  -- the lines of the bytes in hand are written, and what is left is kept
  drained : {t t' : Tables} {ram out xs ram' out' left text more : List ℕ} {pieces : List (List ℕ)}
      → Carry t ram out xs t' ram' out' left text → Session t' ram' out' left pieces more → Session t ram out xs pieces (text ++ more)
  -- a piece is read
  fetched : {t : Tables} {ram out xs text piece : List ℕ} {pieces : List (List ℕ)} → Session t ram out (xs ++ piece) pieces text → Session t ram out xs (piece ∷ pieces) text
  -- the log is bad: nothing more is read
  failed : {t : Tables} {ram out xs text : List ℕ} {pieces : List (List ℕ)} → ((ys : List ℕ) → text_from t ram out (xs ++ ys) ≡ text) → Session t ram out xs pieces text
  -- the input ends
  over : {t : Tables} {ram out xs : List ℕ} → front_of xs ≡ Err Cut → Session t ram out xs [] (ending (length xs))

session-text : {t : Tables} {ram out xs text : List ℕ} {pieces : List (List ℕ)} → Session t ram out xs pieces text → text_from t ram out (xs ++ joined pieces) ≡ text
session-text {pieces = pieces} (drained {text = text} c s) = c.holds (joined pieces) ∙ ap (λ (l : List ℕ). text ++ l) (session-text s)
session-text {t} {ram} {out} {xs} (fetched {piece = piece} {pieces = pieces} s) = rw (← append_assoc xs piece (joined pieces)) (session-text s)
session-text {pieces = pieces} (failed h) = h (joined pieces)
session-text {t} {ram} {out} {xs} (over c) = rw (append-nil xs) (text-cut t ram out xs c)

-- however the log is cut into pieces, what is written is the listing of the whole
pub any-pieces : (pieces : List (List ℕ)) (text : List ℕ) → Session no_tables (replicate 65536 0) (replicate 4096 0) [] pieces text → listing (joined pieces) ≡ text
unfolding listing
any-pieces pieces text s = session-text s
