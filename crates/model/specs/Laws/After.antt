-- Events one after another.
use Rattle.std.proofs.Common.{◌≡◌, List, [], ◌∷◌, ◌++◌, refl}
use Rattle.model.specs.declared.event.Event.{Event}
use Rattle.model.specs.declared.version.Version.{Version}
use Rattle.model.specs.Timetable.{Timetable}
use Rattle.model.specs.History.{History}
use Rattle.model.specs.Rules.{answer, IsRun}
use Rattle.model.specs.Completion.{history_after, AreAccepted}

pub history-more : (v : Version) (tab : Timetable) (h : History) (events more : List Event)
    → history_after v tab h (events ++ more)
    ≡ history_after v tab (history_after v tab h events) more
history-more v tab h [] more = refl
history-more v tab h (e ∷ events) more =
    history-more v tab (record { event = e; answer = answer v tab h e } ∷ h) events more

pub accepted-more : (v : Version) (tab : Timetable) (h : History) (events more : List Event)
    → AreAccepted v tab h events
    → AreAccepted v tab (history_after v tab h events) more → AreAccepted v tab h (events ++ more)
accepted-more v tab h [] more first second = second
accepted-more v tab h (e ∷ events) more first second = (
  first.0,
  accepted-more v tab (record { event = e; answer = answer v tab h e } ∷ h) events more
      first.1 second,
)

pub run-more : (v : Version) (tab : Timetable) (h : History) (events : List Event) → IsRun v tab h
    → IsRun v tab (history_after v tab h events)
run-more v tab h [] run = run
run-more v tab h (e ∷ events) run =
    run-more v tab (record { event = e; answer = answer v tab h e } ∷ h) events (refl, run)
