-- What comes of an item, branch by branch.
use Rattle.std.specs.Prelude.{◌≡◌, ℕ, Bool, true, false, List, [], ◌==◌, nat_lt, refl}
use Rattle.std.proofs.Common.{arith}
use Rattle.modules.specs.Within.Codes.{item_of}
use Rattle.modules.specs.Within.Acts.{put_where, Paged}
use Rattle.modules.specs.declared.Item.{Item}

-- a page in a code has two bits
paged-by : (code : ℕ) (a b d e : Bool) → (code == 53) ≡ a → nat_lt code 256 ≡ b → nat_lt code 768 ≡ d → nat_lt code 851968 ≡ e → Paged (item_of code)
unfolding item_of
paged-by code true b d e p q r s = rw p tt
paged-by code false true d e p q r s = rw (p, q) (omega arith)
paged-by code false false true e p q r s = rw (p, q, r) tt
paged-by code false false false true p q r s = rw (p, q, r, s) tt
paged-by code false false false false p q r s = rw (p, q, r, s) tt

pub item_paged : (code : ℕ) (i : Item) → i ≡ item_of code → Paged i
item_paged code i e = rw e (paged-by code (code == 53) (nat_lt code 256) (nat_lt code 768) (nat_lt code 851968) refl refl refl refl)

-- nothing is put
pub put-none : (storing : Bool) (base : ℕ) (ram : List ℕ) → ram ≡ put_where storing base ram []
put-none true base ram = refl
put-none false base ram = refl
