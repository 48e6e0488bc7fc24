-- They were known.
use Rattle.std.proofs.Common.{◌∙◌, ◌<◌, length, ap, subst, sym}
use Rattle.std.specs.Prelude.{slice_index_or}
use Rattle.walks.specs.Walk.{IsOn}
use Rattle.least_steps.specs.Code.Exploring.{Exploration}
use Rattle.least_steps.specs.Code.Reaching.{number_in}
use Rattle.least_steps.specs.Code.Steps.{AreLegal}
use Rattle.least_steps.specs.Laws.Ways.{number-inside}
use Rattle.least_steps.proofs.ListLemmas.{read}
use Rattle.least_steps.proofs.reached.Reached.legal.Goals as goal

pub returns-then-steps-gt0-clause-legal : goal.returns-then-steps-gt0-clause-legal
returns-then-steps-gt0-clause-legal c =
    let r = c.self.inside in
    let m = r.map.now in
    let cell = c.args.cell in
    let steps = c.index-steps.result.now in
    let on = subst (λ (e : Exploration). IsOn e.map cell) (sym c.self.view_is) c.requires in
    let within : number_in m cell < length r.legal.items = subst (λ n. number_in m cell < n) (sym c.self.invariant.sets) (number-inside m cell on) in
    let there = read r.legal.items (number_in m cell) steps steps within
    (c.index-steps.ensures ∙ ap (λ i. slice_index_or r.legal.items i steps) c.number_of.ensures.number) in
    subst (λ (e : Exploration). AreLegal e.map cell steps) c.self.view_is (c.self.invariant.known cell steps on there c.if-steps-gt0.true)
