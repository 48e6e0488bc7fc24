-- The part is that of the agent.
use Rattle.std.proofs.Common.{◌≡◌, ℕ, true, None, Some, ap, sym, subst, ◌∙◌}
use Rattle.std.specs.Prelude.{MatchOption, Option}
use Rattle.std.proofs.lemmas.Bool.{cond-true}
use Rattle.model.specs.Dependency.{need}
use Rattle.model.specs.Timetable.{track_of}
use Rattle.depgraph.specs.AgentParts.{AgentPart, IsPartOf}
use Rattle.fleet_commands.specs.FoundTapes.{finished_by}
use Rattle.fleet_commands.specs.OneRun.{counts, first_unmet, unmet_by, unmet_in}
use Rattle.fleet_commands.specs.Standing.{kept_by_need}
use Rattle.fleet_commands.specs.declared.one_run.Unmet.{Unmet}
use Rattle.fleet_commands.proofs.one_run.unmet_in.Goals as goal

pub returns : goal.returns
returns c =
    let table = c.args.dependencies.now in
    let i = c.args.agent in
    let found = c.args.found.now in
    let without = c.args.without in
    let part = subst (λ o. MatchOption o (track_of table i ≡ None) (λ (p : AgentPart). IsPartOf table p × (p.agent ≡ i))) c.unwrap-part.ensures c.part.ensures in
    let is = part.0 in
    let track : track_of table i ≡ Some is.track = ap (track_of table) (sym part.1) ∙ is.is_track in
    let unmet : ℕ → ℕ → Option Unmet = λ a k. unmet_by without found (kept_by_need (finished_by found) (need table a is.track k)) in
    let count : counts without found i ≡ true = sym c.counts.ensures ∙ c.if-not-counts.false in
    c.first_unmet.ensures table is ∙ ap (λ a. first_unmet (unmet a) c.begun_by.result) part.1 ∙ ap (first_unmet (unmet i)) c.begun_by.ensures
    ∙ sym (ap (unmet_in table without found i) track ∙ cond-true (counts without found i) _ None count)
