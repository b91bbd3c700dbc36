-- The branches of the calls on segments, as the code takes them.
use mathlib.Core.Path.{◌≡◌, refl, sym, ◌∙◌}
use mathlib.Core.Bool.{Bool, true, false, cond, ◌&&◌}
use mathlib.Core.List.{List, ◌++◌}
use Prim.Native.Nat.{ℕ, ◌≤◌, ◌<◌}
use native.Mathlib.Omega.{arith}
use borrow.Author.Tests.{lt-ltb, le-ltb, eq-eqb, ne_eqb}
use lib.Dec.{eqb, ltb}
use lib.ListN.{length, drop, set}
use Rattle.std.specs.Prelude.{Some, None, ◌≢◌}
use Rattle.line.specs.Definition.Ram.{filled}
use Rattle.rows.specs.Laws.Channels.{found-at, found_nowhere}
use Rattle.rows.specs.Definition.Classes.{FREE, USER, SYSTEM, DEVICE, SHARED}
use Rattle.kernel.specs.Definition.Tables.{SEGMENT, number_at, row_of, class_at, lowest_free, sharing, last_row, with_segments}
use Rattle.kernel.specs.Definition.Line.{boundary_of}
use Rattle.kernel.specs.Definition.Segments.{class_for, some_free, may_share, granting, sharing_last, freeing, bounding}
use Rattle.kernel.specs.Definition.Answers.{gives, ◌changing◌}
use Rattle.kernel.specs.Definition.Calls.{on_boundary, on_set_user_boundary, on_allocate, on_free, on_status}
use Rattle.kernel.specs.Definition.Bytes.{nothing, counts_of}
use Rattle.kernel.specs.Definition.Step.{completed, result_of}
use Rattle.kernel.specs.Within.{listed_at, class_row}
use Rattle.kernel.specs.declared.Tables.{Tables}
use Rattle.kernel.specs.declared.Outcome.{Outcome}
use Rattle.kernel.specs.declared.Answer.TheVariants.{Done, BadCall, NoSegment, NotOwner, BadBoundary, BadRange, Shared}

pub boundary_done : (t : Tables) (last edge : ℕ) → last ≡ last_row t → edge ≡ boundary_of t → on_boundary t ≡ gives (Done (number_at t last) edge) t changing nothing
unfolding on_boundary
boundary_done t last edge e f = rw (e, f)

-- the user boundary
module _ (t : Tables) (value : ℕ) where
  pub bound_none : false ≡ sharing t → on_set_user_boundary t value ≡ gives BadBoundary t changing nothing
  unfolding on_set_user_boundary
  bound_none n = rw (← n)

  module _ (edge : ℕ) (y : true ≡ sharing t) (e : edge ≡ boundary_of t) where
    pub bound_above : edge < value → on_set_user_boundary t value ≡ gives BadBoundary t changing nothing
    unfolding on_set_user_boundary
    bound_above l = rw (← y, ← e, lt-ltb _ _ l)

    pub bound_done : value ≤ edge → on_set_user_boundary t value ≡ gives (Done 0 0) (with_segments t t.classes t.held t.chain value) changing nothing
    unfolding on_set_user_boundary bounding
    bound_done l = rw (← y, ← e, le-ltb _ _ l)

pub allocate_caller : (t : Tables) (caller : ℕ) → 1 < caller → on_allocate t caller ≡ gives BadCall t changing nothing
unfolding on_allocate
allocate_caller t caller h = rw (lt-ltb 1 caller h)

module _ (t : Tables) (caller : ℕ) (who : caller ≤ 1) where
  pub allocate_free : (row class : ℕ) → Some row ≡ class_row t FREE → class ≡ class_for caller
      → on_allocate t caller ≡ gives (Done (number_at t row) SEGMENT) (with_segments t (set t.classes row class) t.held t.chain t.user) changing nothing
  unfolding on_allocate granting
  allocate_free row class e f =
      let (here, among) = found-at (lowest_free t) t.segments row (sym e) in
      rw (f, le-ltb 1 caller who, lt-ltb _ _ among, ← here)

  module _ (n : None ≡ class_row t FREE) where
    none_free : some_free t ≡ false
    none_free = le-ltb _ _ (found_nowhere (lowest_free t) t.segments (sym n))

    pub allocate_none : may_share t caller ≡ false → on_allocate t caller ≡ gives NoSegment t changing nothing
    unfolding on_allocate
    allocate_none e = rw (le-ltb 1 caller who, none_free, e)

    module _ (c : caller ≢ 1) where
      zero : caller ≡ 0
      zero = omega arith

      pub allocate_shared : true ≡ sharing t → on_allocate t caller ≡ gives NoSegment t changing nothing
      allocate_shared y = allocate_none (rw (zero, ← y))

      module _ (s : false ≡ sharing t) (edge : ℕ) (e : edge ≡ boundary_of t) where
        pub allocate_edge : edge ≡ 0 → on_allocate t caller ≡ gives NoSegment t changing nothing
        allocate_edge k = let b : boundary_of t ≡ 0 = sym e ∙ k in allocate_none (rw (zero, ← s, b))

        pub allocate_share : edge ≢ 0 → (last : ℕ) → last ≡ last_row t
            → on_allocate t caller ≡ gives (Shared (number_at t last) edge) (with_segments t (set t.classes last SHARED) t.held t.chain edge) changing nothing
        unfolding on_allocate sharing_last
        allocate_share k last r =
            let p : 0 < edge = omega arith in
            let b : 0 < boundary_of t = rw e at p in
            rw (zero, none_free, ← s, lt-ltb _ _ b, r, e)

  pub allocate_device : None ≡ class_row t FREE → caller ≡ 1 → on_allocate t caller ≡ gives NoSegment t changing nothing
  allocate_device n e = allocate_none n (rw e)

and_none : (b : Bool) → b && false ≡ false
and_none true = refl
and_none false = refl

pub free_caller : (t : Tables) (caller segment : ℕ) → 1 < caller → on_free t caller segment ≡ gives BadCall t changing nothing
unfolding on_free
free_caller t caller segment h = rw (lt-ltb 1 caller h)

module _ (t : Tables) (caller segment : ℕ) (who : caller ≤ 1) where
  pub free_absent : None ≡ listed_at t segment → on_free t caller segment ≡ gives NotOwner t changing nothing
  unfolding on_free
  free_absent n = rw (le-ltb 1 caller who, le-ltb _ _ (found_nowhere (row_of t segment) t.segments (sym n)))

  -- once the segment's row is known
  module _ (row : ℕ) (found : Some row ≡ listed_at t segment) where
    here : row_of t segment ≡ row
    here = (found-at _ _ row (sym found)).0

    within : ltb row t.segments ≡ true
    within = let (e, among) = found-at (row_of t segment) t.segments row (sym found) in lt-ltb _ _ (rw e at among)

    pub free_own : (class : ℕ) → class ≡ class_for caller → class_at t row ≡ class
        → on_free t caller segment ≡ gives (Done 0 0) (with_segments t (set t.classes row FREE) t.held t.chain t.user) changing nothing
    unfolding on_free freeing
    free_own class f e =
        let c : class_at t row ≡ class_for caller = e ∙ f in
        rw (here, le-ltb 1 caller who, within, c, eq-eqb (class_for caller) (class_for caller) refl, apart_of (eqb caller 0))
      where
        apart_of : (b : Bool) → eqb (cond b USER DEVICE) SHARED ≡ false
        apart_of true = refl
        apart_of false = refl

    pub free_shared : caller ≡ 0 → class_at t row ≡ SHARED
        → on_free t caller segment ≡ gives (Done 0 0) (with_segments t (set t.classes row SYSTEM) t.held t.chain 0) changing nothing
    unfolding on_free freeing
    free_shared z c = rw (here, z, within, c)

    module _ (class : ℕ) (f : class ≡ class_for caller) (e : class_at t row ≢ class) where
      pub free_system : class_at t row ≢ SHARED → on_free t caller segment ≡ gives NotOwner t changing nothing
      unfolding on_free
      free_system z = rw (here, le-ltb 1 caller who, within, ← f, ne_eqb (class_at t row) class e, ne_eqb (class_at t row) SHARED z, and_none (eqb caller 0))

      pub free_device : caller ≢ 0 → on_free t caller segment ≡ gives NotOwner t changing nothing
      unfolding on_free
      free_device z = rw (here, le-ltb 1 caller who, within, ← f, ne_eqb (class_at t row) class e, ne_eqb caller 0 z)

module _ (t : Tables) (ram out : List ℕ) (o : Outcome) where
  pub status_short : length out < 5 → o ≡ gives BadRange t → result_of o ram out ≡ completed t (on_status t (length out)) ram out
  unfolding completed on_status
  status_short h q = rw (q, lt-ltb _ _ h)

  pub status_done : (counts : List ℕ) → 5 ≤ length out → counts ≡ counts_of t → o ≡ gives (Done 0 5) t
      → result_of o ram (counts ++ drop 5 out) ≡ completed t (on_status t (length out)) ram out
  unfolding completed on_status filled
  status_done counts h e q = rw (q, e, le-ltb _ _ h)
