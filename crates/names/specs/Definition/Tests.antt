-- The rules on single bytes and on runs of them as tests that compute.
use Rattle.std.specs.Prelude.{ℕ, Bool, not, ◌&&◌, ◌||◌, List, length, leb, eqb}
use Rattle.std.specs.List.{take_while}
use Rattle.names.specs.declared.Kind.{Kind}
use Rattle.names.specs.declared.Kind.TheVariants.{Capital, Letter, Digit, FileByte, BeforeColon}

abbrev pub of_kind : Kind → ℕ → Bool
of_kind Capital b = leb 65 b && leb b 90
of_kind Letter b = (leb 65 b && leb b 90) || (leb 97 b && leb b 122)
of_kind Digit b = leb 48 b && leb b 57
of_kind FileByte b = leb 33 b && leb b 126 && not (eqb b 58)
of_kind BeforeColon b = not (eqb b 58)

-- how many bytes at the front are of the kind
unfoldable pub run_of : Kind → List ℕ → ℕ
run_of k bs = length (take_while (of_kind k) bs)

unfoldable pub all_of : Kind → List ℕ → Bool
unfolding run_of
all_of k bs = eqb (run_of k bs) (length bs)

unfoldable pub file_test : List ℕ → Bool
unfolding all_of
file_test bs = leb (length bs) 28 && all_of FileByte bs

-- 1 to 28 bytes of the kind
unfoldable pub letters_test : Kind → List ℕ → Bool
unfolding all_of
letters_test k bs = leb 1 (length bs) && leb (length bs) 28 && all_of k bs

abbrev pub link_name_test : List ℕ → Bool
link_name_test = letters_test Capital

abbrev pub default_name_test : List ℕ → Bool
default_name_test = letters_test Letter
