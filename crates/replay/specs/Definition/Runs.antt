-- The records of a buffer as a sequence of calls: "Take any sequence of calls since an accepted start, each made on the tables and RAM the last one left, with
-- no second start." (The invitation, condition 3.)
use Rattle.std.specs.Prelude.{◌≡◌, Bool, true, cond, ◌&&◌, List, [], ◌∷◌, ◌⊎◌}
use Rattle.kernel.specs.Definition.Answers.{granted}
use Rattle.kernel.specs.Definition.Calls.{Call, is_start}
use Rattle.kernel.specs.Definition.Step.{Result}
use Rattle.events.specs.Definition.Records.{call_in}
use Rattle.history.specs.Definition.Runs.{State, Event, History, event}
use Rattle.replay.specs.Definition.Replay.{EventRecord, asked}

-- "the tables and RAM the last one left"
abbrev pub state_of : Result → State
state_of m = record { tables = m.tables; ram = m.ram }

-- the call that a record holds
abbrev pub call_of : EventRecord → Call
call_of r = call_in r.kind r.body

-- a record's call on what the last one left, and its reply
abbrev pub event_of : Result → EventRecord → Event
event_of m r = event (state_of m) (call_of r) m.output

-- "an accepted start"
abbrev pub accepted_start : Event → Bool
accepted_start e = is_start e.call && granted e.answer

-- the events since the last accepted start, after those of h
abbrev pub since : History → Result → List EventRecord → History
since h m [] = h
since h m (r ∷ rs) = since (cond (accepted_start (event_of m r)) [] (event_of m r ∷ h)) (asked m r) rs

-- one of the records is an accepted start
abbrev pub HasAcceptedStart : Result → List EventRecord → Type 0
HasAcceptedStart m [] = ⊥
HasAcceptedStart m (r ∷ rs) = (accepted_start (event_of m r) ≡ true) ⊎ HasAcceptedStart (asked m r) rs
