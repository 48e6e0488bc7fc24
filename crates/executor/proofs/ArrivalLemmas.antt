-- Whether all agents are at their ends, by what they have on their tapes.
use Rattle.std.proofs.Common.{◌≡◌, ℕ, List, length, Some, inl, inr, arith, sym, ◌∙◌}
use Rattle.std.specs.Prelude.{slice_get}
use Rattle.std.proofs.lemmas.Option.{slice_get_cases, slice_get_within}
use Rattle.model.specs.declared.version.Version.{Version}
use Rattle.model.specs.History.{History}
use Rattle.model.specs.Timetable.{Timetable}
use Rattle.agent.specs.Agents.{AgentOn, state_of}
use Rattle.agent.specs.CountedTape.{counted_state}
use Rattle.agent.specs.declared.counted_tape.CountedTape.{CountedTape}
use Rattle.executor.specs.Endings.{HaveArrived}
use Rattle.executor.specs.Code.Leading.{Begins}
use Rattle.executor.specs.Code.Waiting.{HasStopped}
use Rattle.fleet.specs.Laws.Rules.{done-is, moving-is}

-- where all have arrived, each has stopped
pub stopped-is : (v : Version) (tab : Timetable) (h : History) (agents : List (AgentOn CountedTape)) (i : ℕ) (a : AgentOn CountedTape) → Begins v tab agents h
    → slice_get agents i ≡ Some a → HaveArrived tab h → HasStopped tab i a
stopped-is v tab h agents i a begins there arrived track is =
    let member = begins.members i a there in
    let end = arrived i track is in
    (done-is v tab h begins.run i track (state_of counted_state a) member.stands ∙ end.all, moving-is v tab h begins.run i track (state_of counted_state a) member.stands ∙ end.still)

-- where each has stopped, all have arrived
pub all-stopped : (v : Version) (tab : Timetable) (h : History) (agents : List (AgentOn CountedTape)) → Begins v tab agents h → length agents ≡ length tab.tracks
    → ((i : ℕ) (a : AgentOn CountedTape) → slice_get agents i ≡ Some a → HasStopped tab i a) → HaveArrived tab h
all-stopped v tab h agents begins count stopped i track is = elim (slice_get_cases agents i).1 [
  | inl (a, less, there, same) ↦ (
      let member = begins.members i a there in
      let end = stopped i a there track is in
      record {
        all = sym (done-is v tab h begins.run i track (state_of counted_state a) member.stands) ∙ end.0;
        still = sym (moving-is v tab h begins.run i track (state_of counted_state a) member.stands) ∙ end.1;
      }
      )
  | inr (past, none) ↦ (let less = slice_get_within tab.tracks i track is in absurd (omega (arith, less, past, count)))
]
