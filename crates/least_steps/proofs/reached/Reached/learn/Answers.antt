-- The legal steps of one cell are known now.
use Rattle.std.proofs.Common.{◌<◌, length, subst, sym}
use Rattle.std.specs.Prelude.{slice_set}
use Rattle.walks.specs.Walk.{IsOn}
use Rattle.least_steps.specs.Code.Exploring.{Exploration, IsExploration}
use Rattle.least_steps.specs.Code.Reaching.{number_in}
use Rattle.least_steps.specs.Code.Steps.{AreLegal}
use Rattle.least_steps.specs.Laws.Ways.{number-inside}
use Rattle.least_steps.proofs.ExplorationLemmas.{learned}
use Rattle.least_steps.proofs.reached.Reached.learn.Goals as goal

pub invariant_of-self : goal.invariant_of-self
invariant_of-self c =
    let r = c.self.inside in
    let m = r.map.now in
    let cell = c.args.cell in
    let on = subst (λ (e : Exploration). IsOn e.map cell) (sym c.self.view_is) c.requires in
    let within : number_in m cell < length r.legal.items = subst (λ n. number_in m cell < n) (sym c.self.invariant.sets) (number-inside m cell on) in
    subst (λ i. IsExploration m r.aslant r.start r.base r.marks.items (slice_set r.legal.items i c.legal_steps-steps.result)) (sym c.number_of-at.ensures.number)
    (learned m r.aslant r.start r.base r.marks.items r.legal.items c.self.invariant cell c.legal_steps-steps.result on within c.legal_steps-steps.ensures)

pub returns-clause-legal : goal.returns-clause-legal
returns-clause-legal c = subst (λ (e : Exploration). AreLegal e.map c.args.cell c.legal_steps-steps.result) c.self.view_is c.legal_steps-steps.ensures
