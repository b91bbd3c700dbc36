-- The classes of segments, and the classes after a start and a reset.
use Rattle.std.specs.Prelude.{Bool, cond, ◌||◌, List, ◌∷◌, ◌++◌, ℕ, ◌-◌, eqb, replicate}

-- "Each other segment has one class: free, user, system, device, shared". The class byte of the page zero segment and of unused rows is 0
abbrev pub FREE : ℕ
FREE = 1

abbrev pub USER : ℕ
USER = 2

abbrev pub SYSTEM : ℕ
SYSTEM = 3

abbrev pub DEVICE : ℕ
DEVICE = 4

abbrev pub SHARED : ℕ
SHARED = 5

-- "the chain below is exactly the system and shared segments": the chain holds a segment of this class
abbrev pub in_chain : ℕ → Bool
in_chain c = eqb c SYSTEM || eqb c SHARED

-- 1 if the chain holds a segment of this class, else 0
abbrev pub times_held : ℕ → ℕ
times_held c = cond (in_chain c) 1 0

-- "all but page zero and 255 free": the classes of n segments after a start
abbrev pub start_classes : ℕ → List ℕ
start_classes n = 0 ∷ (replicate (n - 2) FREE ++ SYSTEM ∷ replicate (32 - n) 0)

-- "bit 6 frees all user segments and ends sharing, the shared one becoming system"
abbrev pub released : ℕ → ℕ
released c = cond (eqb c USER) FREE (cond (eqb c SHARED) SYSTEM c)
