use Rattle.std.proofs.Common.{◌≡◌, ◌+◌, ◌<◌, ℕ, None}
use Rattle.model.specs.Dependency.{need}
use Rattle.model.specs.Timetable.{Timetable}
use Rattle.depgraph.specs.AgentParts.{IsPartOf}
use Rattle.agent.specs.States.{waits_for}
use Rattle.agent.proofs.agent.Agent.ahead.Given as goal

-- none of the moves so far waits for anybody
abbrev pub invariant-moves : goal.invariant-moves
invariant-moves g l = record {
  free : (tt : Timetable) → (is : IsPartOf tt l.self.part) → (n : ℕ) → n < l.count → waits_for l.self.heard (need tt l.self.part.agent is.track (l.begun + n)) ≡ None;
}
