-- "Condition 3 reads a load as one user store per byte" (order 3): the statement of Definition/Loads.antt, proved.
use Rattle.std.specs.Prelude.{◌≡◌, refl, true, false, List, [], ◌∷◌, ℕ, ◌+◌, ◌<◌, length}
use Rattle.std.proofs.Common.{sym, subst, ◌∙◌, arith}
use Rattle.std.proofs.Math.Path.{ap}
use borrow.Author.Tests.{le-ltb}
use Rattle.line.specs.Definition.Guard.{guarded}
use Rattle.line.specs.Definition.Ram.{put_at}
use Rattle.modules.specs.Definition.Counter.{Put, put_each}
use Rattle.modules.specs.Laws.Stored.{Below, stored-below}
use Rattle.modules.specs.Laws.Clear.{Clear, stored-clear}
use Rattle.modules.specs.Definition.Judging.{puts_in}
use Rattle.kernel.specs.Definition.Tables.{row_of}
use Rattle.kernel.specs.Definition.Segments.{may_reach, reach_of}
use Rattle.kernel.specs.Definition.Bytes.{in-segment, segment_at, ram_after}
use Rattle.kernel.specs.Definition.Answers.{granted, gives, Decision, ◌changing◌}
use Rattle.kernel.specs.Definition.Calls.{load-module, on_store}
use Rattle.kernel.specs.Definition.Step.{heard, decided, completed, step}
use Rattle.kernel.specs.Laws.Effects.{Effect, loads-module, effect}
use Rattle.kernel.specs.Laws.Ready.{ready-heard}
use Rattle.kernel.specs.declared.Tables.{Tables}
use Rattle.kernel.specs.declared.Answer.TheVariants.{Done}
use Rattle.history.specs.Definition.Runs.{State, after, event}
use Rattle.history.specs.Definition.Loads.{storing, StoresEach, stay, then, LoadsAsStores}
use Rattle.history.specs.Bytes.Steps.{Sound, byte-ready}

-- the state with other RAM
abbrev with-ram : State → List ℕ → State
with-ram s ram = record { tables = s.tables; ram = ram }

module _ (segment : ℕ) (output : List ℕ) where
  abbrev row : State → ℕ
  row s = row_of s.tables segment

  -- the store of one byte that is the user's to store and not guarded
  module _ (s : State) (p : Put) (r : Sound s) (m : may_reach s.tables (row s) ≡ true) (below : p.offset < reach_of s.tables (row s))
      (clear : guarded (row s) p.offset 1 ≡ false) where
    store-decides : decided s.tables (length s.ram) (length output) (storing segment p)
        ≡ gives (Done 0 1) s.tables changing in-segment (row s) p.offset (p.byte ∷ [])
    unfolding heard on_store
    store-decides =
        ready-heard s.tables (length s.ram) (length output) (storing segment p) r
        ∙ rw (m, le-ltb (reach_of s.tables (row s)) (p.offset + 1) (omega arith), clear)

    store-done : granted (event s (storing segment p) output).answer ≡ true
    unfolding step completed
    store-done = ap (λ (d : Decision). granted d.answer) store-decides

    store-leaves : after s (storing segment p) output ≡ with-ram s (put_at s.ram (segment_at (row s) + p.offset) (p.byte ∷ []))
    unfolding step completed ram_after
    store-leaves = rw store-decides

  each-stored : (s : State) (puts : List Put) → Sound s → may_reach s.tables (row s) ≡ true → Below (reach_of s.tables (row s)) puts → Clear (row s) puts
      → StoresEach segment output s puts (with-ram s (put_each (segment_at (row s)) s.ram puts))
  each-stored s [] r m below clear = stay
  each-stored s (p ∷ puts) r m (b, below) (c, clear) =
      let next = with-ram s (put_at s.ram (segment_at (row s) + p.offset) (p.byte ∷ [])) in
      let end = with-ram s (put_each (segment_at (row s)) s.ram (p ∷ puts)) in
      then (store-done s p r m b c)
      (subst (λ (x : State). StoresEach segment output x puts end) (sym (store-leaves s p r m b c))
      (each-stored next puts (byte-ready s.tables (row s) m s.ram p r b) m below clear))

-- a done load puts its bytes one by one
load-known : {t : Tables} {segment page offset : ℕ} {stream : List ℕ} {d : Decision} (ram : List ℕ) → Effect t (load-module segment page offset stream) d
    → (may_reach t (row_of t segment) ≡ true) × Below (reach_of t (row_of t segment)) (puts_in page offset stream) × Clear (row_of t segment) (puts_in page offset stream)
    × (d.tables ≡ t) × (ram_after t d.tables ram d.ram ≡ put_each (segment_at (row_of t segment)) ram (puts_in page offset stream))
unfolding ram_after
load-known ram (loads-module b m h) = (m, stored-below _ _ _ h, stored-clear _ _ _ h, refl, refl)

pub loads-as-stores : LoadsAsStores
unfolding step completed
loads-as-stores s good size segment page offset stream output e =
    let (m, below, clear, tables, ram) = load-known s.ram (effect s.tables (length s.ram) (length output) (load-module segment page offset stream) refl e) in
    rw (ram, tables) (each-stored segment output s (puts_in page offset stream) (record { good = good; size = size }) m below clear)
