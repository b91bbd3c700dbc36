-- "A program prints `ok`, or number and word.", on one line.
use Rattle.std.specs.Prelude.{List, [], ◌∷◌, ◌++◌, ℕ, Ok, Err}
use Rattle.text.specs.Definition.Text.{decimal_of, letters}
use Rattle.audit.specs.declared.Word.{Word}
use Rattle.audit.specs.declared.Word.TheVariants.{Start, Cut, Answer, A, B, Bytes}
use Rattle.audit.specs.Definition.Verdict.{Verdict}

abbrev pub letters_of : Word → List ℕ
letters_of Start = letters "start"
letters_of Cut = letters "cut"
letters_of Answer = letters "answer"
letters_of A = letters "a"
letters_of B = letters "b"
letters_of Bytes = letters "bytes"

abbrev pub fault_line : (number : ℕ) → Word → List ℕ
fault_line number word = ((decimal_of number ++ (32 ∷ [])) ++ letters_of word) ++ (10 ∷ [])

abbrev pub line_of : Verdict → List ℕ
line_of (Ok accepted) = letters "ok" ++ (10 ∷ [])
line_of (Err fault) = fault_line fault.number fault.word
