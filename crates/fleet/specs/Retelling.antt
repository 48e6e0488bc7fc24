-- What a fleet did, as the history of a run.
use Rattle.std.specs.Prelude.{◌≡◌, ℕ, List, [], ◌∷◌, length, Option}
use Rattle.std.specs.Prelude.{None, Some, Ok, Err, MatchBool, slice_get}
use Rattle.model.specs.declared.event.Event.{Event}
use Rattle.model.specs.declared.event.Event.TheVariants.{Start, Finish, Say, Deliver, Restart, Tear}
use Rattle.model.specs.declared.why.Why.TheVariants as why
use Rattle.model.specs.History.{Answer, moving, arrived, said}
use Rattle.model.specs.History.{armed, refused, History, is_store_failed}
use Rattle.agent.specs.declared.refusal.TellFault.TheVariants.{Broken, OutOfMemory}
use Rattle.agent.specs.Replies.{why_of, answered, delivered, stood}
use Rattle.fleet.specs.Deeds.{Deed, opens, starts, finishes, says, tells}
use Rattle.fleet.specs.Deeds.{hears, holds, looks, ends, stops, ends_starting, ends_finishing}
use Rattle.fleet.specs.Fleets.{Log, spoken}

-- the event and its answer were added to what happened before
abbrev pub AddsEvent : History → Event → Answer → History → Type 0
AddsEvent before event answer new = new ≡ record { event = event; answer = answer } ∷ before

-- the event of a write: where that failed, the tape was told before how many bytes of it to store
abbrev pub AddsWrite : History → ℕ → Event → Answer → History → Type 0
AddsWrite before i event answer new =
    MatchBool (is_store_failed answer)
    ((n : ℕ) × AddsEvent (record { event = Tear i n; answer = armed } ∷ before) event answer new)
    (AddsEvent before event answer new)

-- the event of a delivery: none where memory was refused
abbrev pub AddsDelivery : List (List ℕ) → History → ℕ → List ℕ → Option Answer → History → Type 0
AddsDelivery messages before i bytes None new = new ≡ before
AddsDelivery messages before i bytes (Some answer) new =
    (m : ℕ) × (slice_get messages m ≡ Some bytes) × AddsEvent before (Deliver i m) answer new

-- Which events an agent's deed adds to what happened before it, where these messages had been said.
-- That a process ended, that somebody asked what the agent holds or how far its way is free, and
-- that memory was refused, are none.
abbrev pub IsRetoldBy : List (List ℕ) → History → ℕ → Deed → History → Type 0
IsRetoldBy messages before i (opens held count) new =
    AddsEvent before (Restart i) (stood held count) new
IsRetoldBy messages before i (starts answer) new =
    AddsWrite before i (Start i) (answered moving answer) new
IsRetoldBy messages before i (finishes answer) new =
    AddsWrite before i (Finish i) (answered arrived answer) new
IsRetoldBy messages before i (says (Ok bytes)) new =
    AddsEvent before (Say i) (said (length messages) bytes) new
IsRetoldBy messages before i (says (Err refusal)) new =
    AddsEvent before (Say i) (refused (why_of refusal)) new
IsRetoldBy messages before i (tells (Ok bytes)) new =
    AddsEvent before (Say i) (said (length messages) bytes) new
IsRetoldBy messages before i (tells (Err Broken)) new =
    AddsEvent before (Say i) (refused why.Broken) new
IsRetoldBy messages before i (tells (Err OutOfMemory)) new = new ≡ before
IsRetoldBy messages before i (hears bytes answer) new =
    AddsDelivery messages before i bytes (delivered answer) new
IsRetoldBy messages before i (holds held count) new = new ≡ before
IsRetoldBy messages before i (looks begun most count) new = new ≡ before
IsRetoldBy messages before i ends new = new ≡ before
IsRetoldBy messages before i stops new = new ≡ before
IsRetoldBy messages before i ends_starting new =
    AddsWrite before i (Start i) (refused why.StoreFailed) new
IsRetoldBy messages before i ends_finishing new =
    AddsWrite before i (Finish i) (refused why.StoreFailed) new

-- the events of the history are those of the log
abbrev pub Retells : Log → History → Type 0
Retells [] h = h ≡ []
Retells (now ∷ log) h =
    (before : History) × Retells log before × IsRetoldBy (spoken log) before now.agent now.deed h
