use Rattle.std.proofs.Common.{◌≡◌, ℕ, false, [], ap, subst, ◌∙◌}
use Rattle.model.specs.Timetable.{Track}
use Rattle.model.specs.declared.held.Held.{Held}
use Rattle.depgraph.specs.AgentParts.{IsPartOf}
use Rattle.agent.specs.States.{held_by_tape}
use Rattle.agent.proofs.agent.Agent.held.Goals as goal

abbrev held_at : Track → ℕ → Held
held_at track count = held_by_tape track (record { records = count; heard = []; broken = false })

pub returns-clause-holds : goal.returns-clause-holds
returns-clause-holds g c tt is =
    let held = subst (λ a. (is : IsPartOf tt a.part) → c.held.result ≡ held_at is.track c.records.result.count) c.self.view_is (c.held.ensures tt) is in
    (is.track, is.is_track, held ∙ ap (held_at is.track) c.records.ensures.records)
