-- The first need that is not met is that of the move at hand, or none.
use Rattle.std.proofs.Common.{◌≡◌, ℕ, ap, arith, sym, ◌∙◌}
use Rattle.std.specs.Prelude.{Option}
use Rattle.model.specs.Dependency.{need}
use Rattle.fleet_commands.specs.FoundTapes.{finished_by}
use Rattle.fleet_commands.specs.OneRun.{first_unmet, unmet_by}
use Rattle.fleet_commands.specs.Standing.{kept_by_need}
use Rattle.fleet_commands.specs.declared.one_run.Unmet.{Unmet}
use Rattle.fleet_commands.proofs.RunLemmas.{first-there, none-more, none-there}
use Rattle.fleet_commands.proofs.one_run.first_unmet.Goals as goal

pub returns-then-is_some : goal.returns-then-is_some
returns-then-is_some c = λ table is.
    let found = c.args.found.now in
    let unmet : ℕ → Option Unmet = λ k. unmet_by c.args.without found (kept_by_need (finished_by found) (need table c.args.part.now.agent is.track k)) in
    let own = sym (c.unmet_by-unmet.ensures ∙ ap (unmet_by c.args.without found) (c.kept_by_need.ensures table is)) in
    sym (first-there unmet c.args.begun c.loop-number.number c.unmet_by-unmet.result c.loop-number-test.true (c.loop-number.invariant.none table is) own
    (sym c.is_some.ensures ∙ c.if-is_some.true))

pub loop-number-preserved : goal.loop-number-preserved
loop-number-preserved c = record {
  none = λ table is.
      let found = c.args.found.now in
      let unmet : ℕ → Option Unmet = λ k. unmet_by c.args.without found (kept_by_need (finished_by found) (need table c.args.part.now.agent is.track k)) in
      let own = sym (c.unmet_by-unmet.ensures ∙ ap (unmet_by c.args.without found) (c.kept_by_need.ensures table is)) in
      none-more unmet c.loop-number.number (c.loop-number.invariant.none table is) (own ∙ none-there c.unmet_by-unmet.result (sym c.is_some.ensures ∙ c.if-is_some.false));
}

pub returns : goal.returns
returns c = λ table is.
    let found = c.args.found.now in
    let unmet : ℕ → Option Unmet = λ k. unmet_by c.args.without found (kept_by_need (finished_by found) (need table c.args.part.now.agent is.track k)) in
    let end = c.loop-number.auto.number-end in
    let past = c.loop-number-test.false in
    let same : c.args.begun ≡ c.loop-number.number = omega (arith, end, past) in
    sym (ap (first_unmet unmet) same ∙ c.loop-number.invariant.none table is)
