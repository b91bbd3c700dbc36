-- The digest of bytes.
use Rattle.std.specs.Prelude.{List, ℕ, ◌+◌, ◌*◌, ◌%◌, fold}

-- by each byte; the modulus is 2^40
unfoldable pub mixed : (h byte : ℕ) → ℕ
mixed h byte = (h * 8388593 + byte + 1) % 1099511627776

abbrev pub digest_from : ℕ → List ℕ → ℕ
digest_from h bytes = fold mixed h bytes

abbrev pub digest_of : List ℕ → ℕ
digest_of bytes = digest_from 0 bytes
