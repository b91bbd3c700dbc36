-- A buffer with 01's start, an open and a record that is cut: two records are replayed, and what they leave is a state of a run.
use Rattle.std.specs.Prelude.{◌≡◌, refl, List, [], ◌∷◌, ℕ, length}
use Rattle.std.proofs.Common.{inl}
use Rattle.rows.specs.Definition.Lists.{up_to}
use Rattle.kernel.specs.Definition.Start.{no_tables}
use Rattle.kernel.specs.Definition.Step.{decided, completed, step}
use Rattle.events.specs.Definition.Records.{front_of, start_in, call_in}
use Rattle.history.specs.Definition.Runs.{Run}
use Rattle.replay.specs.Definition.Replay.{EventRecord, records_to, records_in, records, bytes_of, replayed, before}
use Rattle.replay.specs.Definition.Runs.{state_of, since, HasAcceptedStart}
use Rattle.replay.specs.Laws.Runs.{replay-run}

-- "start, bytes 08 00 00 01 42 2B FC FD FE FF; open 5, status 0, n 100, "VIDEO:"", and two bytes of a boundary's four
abbrev buffer : List ℕ
buffer =
    8 ∷ 0 ∷ 0 ∷ 1 ∷ 66 ∷ 43 ∷ 252 ∷ 253 ∷ 254 ∷ 255
    ∷ 12 ∷ 0 ∷ 1 ∷ 0 ∷ 5 ∷ 0 ∷ 100 ∷ 0 ∷ 86 ∷ 73 ∷ 68 ∷ 69 ∷ 79 ∷ 58
    ∷ 2 ∷ 0 ∷ []

abbrev start-record : EventRecord
start-record = record { kind = 256; body = 66 ∷ 43 ∷ 252 ∷ 253 ∷ 254 ∷ 255 ∷ [] }

abbrev open-record : EventRecord
open-record = record { kind = 1; body = 5 ∷ 0 ∷ 100 ∷ 0 ∷ 86 ∷ 73 ∷ 68 ∷ 69 ∷ 79 ∷ 58 ∷ [] }

pub two_records : records buffer ≡ start-record ∷ open-record ∷ []
unfolding records records_in records_to front_of
two_records = refl

pub two-taken : bytes_of (records buffer) ≡ 24
unfolding records records_in records_to front_of
two-taken = refl

module _ (ram out : List ℕ) (four : length ram ≡ 65536) where
  start-here : HasAcceptedStart (before no_tables ram out) (records buffer)
  unfolding step completed decided no_tables up_to call_in start_in
  start-here = rw two_records (inl (rw four))

  pub run-here : Run (since [] (before no_tables ram out) (records buffer)) (state_of (replayed (before no_tables ram out) (records buffer)))
  run-here = replay-run (before no_tables ram out) buffer start-here
