-- A string's reading, computed: the file starts after the first colon, the device is the letters at the front, and the unit stands between.
use Rattle.std.specs.Prelude.{ℕ, ◌+◌, Bool, cond, ◌&&◌, List, length, get_or, take, drop, leb, eqb}
use Rattle.std.proofs.Math.Option.{Option, none, some}
use Rattle.names.specs.Definition.Grammar.{UnitPart, no-unit, plain, dashed, Reading, file-only, full, value}
use Rattle.names.specs.Definition.Tests.{run_of, all_of, file_test}
use Rattle.names.specs.declared.Kind.TheVariants.{Letter, Digit, BeforeColon}

-- "one or more decimal digits, value 0 to 255, leading zeros allowed"
unfoldable pub digits_test : List ℕ → Bool
unfolding all_of
digits_test ds = leb 1 (length ds) && all_of Digit ds && leb (value 0 ds) 255

unfoldable pub with_digits : List ℕ → UnitPart → List ℕ → List ℕ → Option Reading
unfolding digits_test
with_digits d u ds f = cond (digits_test ds) (some (full d u f)) none

-- `rest` is what stands between the device and the colon
unfoldable pub with_unit : List ℕ → List ℕ → List ℕ → Option Reading
unfolding with_digits
with_unit d rest f =
    cond (eqb (length rest) 0)
    (some (full d no-unit f))
    (cond (eqb (get_or rest 0 0) 45) (with_digits d (dashed (drop 1 rest)) (drop 1 rest) f) (with_digits d (plain rest) rest f))

-- `head` is what stands before the colon
unfoldable pub with_head : List ℕ → List ℕ → Option Reading
unfolding with_unit run_of
with_head head f =
    cond (leb (run_of Letter head) 28) (with_unit (take (run_of Letter head) head) (drop (run_of Letter head) head) f) none

unfoldable pub with_colon : List ℕ → List ℕ → Option Reading
unfolding with_head file_test
with_colon head f = cond (file_test f) (with_head head f) none

unfoldable pub without_colon : List ℕ → Option Reading
unfolding file_test
without_colon s = cond (file_test s) (some (file-only s)) none

unfoldable pub reading : List ℕ → Option Reading
unfolding with_colon without_colon run_of
reading s =
    cond (leb (length s) 255)
    (cond (eqb (run_of BeforeColon s) (length s))
    (without_colon s)
    (with_colon (take (run_of BeforeColon s) s) (drop (run_of BeforeColon s + 1) s)))
    none
