-- The answer of every call is the lowest row that holds: row 1 first, then the call's own rows.
use Rattle.std.specs.Prelude.{◌≡◌, true, false, ◌||◌, ◌⊎◌, ℕ}
use Rattle.std.proofs.Math.Path.{refl}
use Rattle.std.proofs.Common.{sym, ◌∙◌, inl, inr, ⊎_elim, arith}
use Rattle.std.proofs.lemmas.Bool.{false≢true}
use Rattle.rows.specs.Laws.Lists.{is_false}
use Rattle.rows.specs.Laws.Says.{Says, says_eq, says-and, says-or, says-not, says-as, says-true}
use Rattle.kernel.specs.Definition.Tables.{ram_size}
use Rattle.kernel.specs.Definition.Good.{Sized, Good}
use Rattle.kernel.specs.Definition.Bytes.{nothing}
use Rattle.kernel.specs.Definition.Answers.{gives, ◌changing◌}
use Rattle.kernel.specs.Definition.Calls.{Call, start, reset, «open», close, read, write, default, status, link, boundary, set-user-boundary, allocate, free, store, load, load-module, no_call, short-start, is_start, on_boundary}
use Rattle.kernel.specs.Definition.Refusals.{Row, tables-bad, ram-wrong, call-unknown, start-short}
use Rattle.kernel.specs.Definition.Step.{ready_test, heard, decided}
use Rattle.kernel.specs.Laws.Good.{good-says}
use Rattle.kernel.specs.declared.Tables.{Tables}
use Rattle.kernel.specs.declared.Answer.TheVariants.{BadTables, BadCall}
use Rattle.history.specs.Definition.ExactlyOne.{refused}
use Rattle.history.specs.Answers.Lowest.{Below, Lowest, end, rule}
use Rattle.history.specs.Answers.Tests.{says-either}
use Rattle.history.specs.Answers.Numbers.{numbers-some, by_rows, by-none}
use Rattle.history.specs.Answers.Rows.Start.{start-lowest, reset-lowest, status-lowest}
use Rattle.history.specs.Answers.Rows.Channels.{close-lowest, read-lowest, write-lowest}
use Rattle.history.specs.Answers.Rows.Names.{open-lowest, default-lowest, link-lowest}
use Rattle.history.specs.Answers.Rows.Segments.{bound-lowest, allocate-lowest, free-lowest}
use Rattle.history.specs.Answers.Rows.Bytes.{store-lowest, load-lowest}
use Rattle.history.specs.Answers.Rows.Modules.{load-module-lowest}

-- a start is heard on any tables, and any other call on good ones
abbrev Heard : Tables → ℕ → Call → Type 0
Heard t ram c = (is_start c ≡ true) ⊎ (Good t × (ram ≡ ram_size t))

module _ (t : Tables) (ram output : ℕ) where
  row-1 : {c : Call} → Row t ram output c 1 → ¬ Heard t ram c
  row-1 (tables-bad s n) (inl e) = false≢true (sym s ∙ e)
  row-1 (tables-bad s n) (inr (g, e)) = n g
  row-1 (ram-wrong s n) (inl e) = false≢true (sym s ∙ e)
  row-1 (ram-wrong s n) (inr (g, e)) = n e

  -- 1 TABLES: "not for start: tables not good, or RAM length wrong"
  heard-says : (c : Call) → Sized t → Says (is_start c || ready_test t ram) (Heard t ram c)
  heard-says c s = says-or (says-true (is_start c)) (says-and (good-says t s) (says_eq ram (ram_size t)))

  unheard : (c : Call) → Sized t → ¬ Heard t ram c → Row t ram output c 1
  unheard c s n =
      let other : is_start c ≡ false = is_false (is_start c) (λ e. n (inl e)) in
      elim (says-either (good-says t s)) [ inl g ↦ ram-wrong other (λ e. n (inr (g, e))) | inr m ↦ tables-bad other m ]

  boundary-lowest : Below (Row t ram output boundary) 2 → Lowest (Row t ram output boundary) (on_boundary t)
  unfolding on_boundary
  boundary-lowest = by-none boundary _ refl refl

  unknown-lowest : Below (Row t ram output no_call) 2 → Lowest (Row t ram output no_call) (gives BadCall t changing nothing)
  unknown-lowest low = record { answer = refused call-unknown low }

  short-lowest : Below (Row t ram output short-start) 2 → Lowest (Row t ram output short-start) (gives BadCall t changing nothing)
  short-lowest low = record { answer = refused start-short low }

  heard-good : (c : Call) → is_start c ≡ false → Heard t ram c → Good t
  heard-good c s (inl e) = absurd (false≢true (sym s ∙ e))
  heard-good c s (inr (g, e)) = g

  heard-lowest : (c : Call) → Heard t ram c → Below (Row t ram output c) 2 → Lowest (Row t ram output c) (heard t ram output c)
  unfolding heard
  heard-lowest (start room list) h low = start-lowest t ram output room list (λ j b. low j (omega arith))
  heard-lowest (reset flags) h low = reset-lowest t ram output flags low
  heard-lowest («open» channel driver n name) h low = open-lowest t (heard-good («open» channel driver n name) refl h) ram output channel driver n name low
  heard-lowest (close channel) h low = close-lowest t (heard-good (close channel) refl h) ram output channel low
  heard-lowest (read channel offset asked) h low = read-lowest t (heard-good (read channel offset asked) refl h) ram output channel offset asked low
  heard-lowest (write channel offset bytes) h low = write-lowest t (heard-good (write channel offset bytes) refl h) ram output channel offset bytes low
  heard-lowest (default unit name) h low = default-lowest t (heard-good (default unit name) refl h) ram output unit name low
  heard-lowest status h low = status-lowest t ram output low
  heard-lowest (link m name) h low = link-lowest t (heard-good (link m name) refl h) ram output m name low
  heard-lowest boundary h low = boundary-lowest low
  heard-lowest (set-user-boundary value) h low = bound-lowest t (heard-good (set-user-boundary value) refl h) ram output value low
  heard-lowest (allocate caller) h low = allocate-lowest t (heard-good (allocate caller) refl h) ram output caller low
  heard-lowest (free caller segment) h low = free-lowest t (heard-good (free caller segment) refl h) ram output caller segment low
  heard-lowest (store segment offset bytes) h low = store-lowest t (heard-good (store segment offset bytes) refl h) ram output segment offset bytes low
  heard-lowest (load segment offset size) h low = load-lowest t (heard-good (load segment offset size) refl h) ram output segment offset size low
  heard-lowest (load-module segment page offset stream) h low =
      load-module-lowest t (heard-good (load-module segment page offset stream) refl h) ram output segment page offset stream low
  heard-lowest no_call h low = unknown-lowest low
  heard-lowest short-start h low = short-lowest low

  pub decided-lowest : (c : Call) → Sized t → Lowest (Row t ram output c) (decided t ram output c)
  unfolding decided
  decided-lowest c s =
      by_rows c (heard t ram output c)
      (rule BadTables (numbers-some c) (λ _. says-as (says-not (heard-says c s)) (unheard c s) row-1)
      end)
      (λ low. heard-lowest c (⊎_elim (λ h. h) (λ n. absurd (low 1 (omega arith) (unheard c s n))) (says-either (heard-says c s))) low)
      (λ j h. absurd (omega arith))
