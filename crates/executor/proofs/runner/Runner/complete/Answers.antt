use Rattle.std.proofs.Common.{length, sym, ap, subst, ◌∙◌}
use Rattle.model.specs.Laws.Rotations.{never}
use Rattle.model.specs.Laws.Runs.{in_step}
use Rattle.executor.specs.Code.Leading.{Begins}
use Rattle.executor.specs.Endings.{IsBlockedBy, IsEndedBy}
use Rattle.executor.specs.Standing.{StandsAt}
use Rattle.executor.proofs.BlockLemmas.{first-blocks, first-listed, none-listed}
use Rattle.executor.proofs.runner.Runner.complete.Goals as goal

pub returns-then-not-is_free : goal.returns-then-not-is_free
returns-then-not-is_free c h stands =
    let inside = subst (λ r. StandsAt r h) (sym c.self.view_is) stands in
    let first = first-listed c.rotations.result.now (sym c.is_empty-is_free.ensures ∙ c.if-not-is_free.true) in
    subst (λ r. IsBlockedBy r.timetable h 0) c.self.view_is
    (first-blocks (λ v tab step agents h place i track free turns run. never v tab step agents free turns h run place i track) in_step c.self.inside.said.version c.self.inside.graph.now h
    inside.conflict_free inside.run _ c.rotations.ensures first.0 first.1)

pub bring_all_to_ends-requires-clause-still : goal.bring_all_to_ends-requires-clause-still
bring_all_to_ends-requires-clause-still c = none-listed c.self.inside.graph.now c.rotations.result.now c.rotations.ensures (sym c.is_empty-is_free.ensures ∙ c.if-not-is_free.false)

pub returns : goal.returns
returns c h stands =
    let inside = subst (λ r. StandsAt r h) (sym c.self.view_is) stands in
    let begins : Begins c.self.inside.said.version c.self.inside.graph.now c.self.inside.agents.items h = record { run = inside.run; members = inside.members } in
    let said = ap length (sym inside.messages) ∙ sym c.count-messages.ensures.count in
    subst (λ r. IsEndedBy r.version r.timetable h c.in_ok-bring_all_to_ends.field-0.items) c.self.view_is
    (c.in_ok-bring_all_to_ends.ensures c.self.inside.said.version h
    (subst (λ l. Begins c.self.inside.said.version c.self.inside.graph.now l h) (sym c.deref.ensures.value) begins) said)
