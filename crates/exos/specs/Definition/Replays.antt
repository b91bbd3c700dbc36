-- A log replayed over bytes: RAM, output and ten bytes of reply, from no tables.
use Rattle.std.specs.Prelude.{◌≡◌, Bool, true, false, List, ℕ, eqb, length}
use Rattle.kernel.specs.Definition.Start.{no_tables}
use Rattle.kernel.specs.Definition.Step.{Result}
use Rattle.image.specs.Definition.Image.{outcome_bytes}
use Rattle.replay.specs.Definition.Replay.{records, bytes_of, replayed, before}

-- every whole record at the front of the log, asked in its order from no tables
abbrev pub replay_of : (ram out log : List ℕ) → Result
replay_of ram out log = replayed (before no_tables ram out) (records log)

-- what a replay leaves, with the accents
pub record All (ram out log : List ℕ) (ram' out' reply' : List ℕ) (taken : ℕ) : Type 0 where
  pub ram-is : ram' ≡ (replay_of ram out log).ram
  pub out-is : out' ≡ (replay_of ram out log).output
  pub reply-is : reply' ≡ outcome_bytes (replay_of ram out log).answer (replay_of ram out log).moved
  pub taken_is : taken ≡ bytes_of (records log)

pub record None (ram out reply : List ℕ) (ram' out' reply' : List ℕ) (taken : ℕ) : Type 0 where
  pub ram-is : ram' ≡ ram
  pub out-is : out' ≡ out
  pub reply-is : reply' ≡ reply
  pub taken_is : taken ≡ 0

abbrev pub ReplaysBy : Bool → (ram out log reply ram' out' reply' : List ℕ) → ℕ → Type 0
ReplaysBy true ram out log reply ram' out' reply' taken = All ram out log ram' out' reply' taken
ReplaysBy false ram out log reply ram' out' reply' taken = None ram out reply ram' out' reply' taken

-- the log is replayed where the reply has ten bytes, and else nothing changes
abbrev pub Replays : (ram out log reply ram' out' reply' : List ℕ) → ℕ → Type 0
Replays ram out log reply = ReplaysBy (eqb (length reply) 10) ram out log reply
