-- Which event record is a start.
use Rattle.std.specs.Prelude.{◌≡◌, refl, Bool, true, false, cond, List, ℕ, ltb, eqb, length}
use Rattle.std.proofs.Common.{sym, ne_eqb}
use Rattle.std.proofs.lemmas.Bool.{false≢true}
use Rattle.kernel.specs.Definition.Calls.{Call, is_start}
use Rattle.events.specs.Definition.Records.{start_in, reset_in, open_in, close_in, read_in, write_in, default_in, status_in, link_in, boundary_in, set_user_boundary_in, allocate_in, free_in, store_in, load_in, load_module_in, call_in}

plain : (b : Bool) (c d : Call) → is_start c ≡ false → is_start d ≡ false → is_start (cond b c d) ≡ false
plain true c d f g = f
plain false c d f g = g

passed : (b : Bool) (c d : Call) → b ≡ false → is_start d ≡ false → is_start (cond b c d) ≡ false
passed true c d e g = absurd (false≢true (sym e))
passed false c d e g = g

-- no other kind is a start
pub no_start : (kind : ℕ) (body : List ℕ) → (kind ≡ 256 → ⊥) → is_start (call_in kind body) ≡ false
unfolding call_in start_in reset_in open_in close_in read_in write_in default_in status_in link_in boundary_in set_user_boundary_in allocate_in free_in store_in load_in load_module_in
no_start kind body h =
    passed (eqb kind 256) _ _ (ne_eqb kind 256 h)
    (plain (eqb kind 0) _ _ (plain (eqb (length body) 1) _ _ refl refl)
    (plain (eqb kind 1) _ _ (plain (ltb (length body) 4) _ _ refl refl)
    (plain (eqb kind 3) _ _ (plain (eqb (length body) 1) _ _ refl refl)
    (plain (eqb kind 6) _ _ (plain (eqb (length body) 5) _ _ refl refl)
    (plain (eqb kind 8) _ _ (plain (ltb (length body) 3) _ _ refl refl)
    (plain (eqb kind 19) _ _ (plain (ltb (length body) 1) _ _ refl refl)
    (plain (eqb kind 20) _ _ (plain (eqb (length body) 0) _ _ refl refl)
    (plain (eqb kind 21) _ _ (plain (ltb (length body) 2) _ _ refl refl)
    (plain (eqb kind 22) _ _ (plain (eqb (length body) 0) _ _ refl refl)
    (plain (eqb kind 23) _ _ (plain (eqb (length body) 2) _ _ refl refl)
    (plain (eqb kind 24) _ _ (plain (eqb (length body) 1) _ _ refl refl)
    (plain (eqb kind 25) _ _ (plain (eqb (length body) 2) _ _ refl refl)
    (plain (eqb kind 257) _ _ (plain (ltb (length body) 3) _ _ refl refl)
    (plain (eqb kind 258) _ _ (plain (eqb (length body) 5) _ _ refl refl)
    (plain (eqb kind 30) _ _ (plain (ltb (length body) 4) _ _ refl refl)
    refl)))))))))))))))
