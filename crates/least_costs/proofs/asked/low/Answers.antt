-- A walk is in its goal at the end, and from any time on.
use Rattle.std.proofs.Common.{◌≡◌, ◌∙◌, ◌+◌, ◌≤◌, inl, inr, arith, rules, sym, subst}
use Rattle.std.proofs.lemmas.Bool.{cases_lt}
use Rattle.model.specs.Costs.{cost}
use Rattle.optimality.specs.declared.constraint.Constraint.TheVariants.{AwayFrom, NotTaken}
use Rattle.optimality.specs.Constraints.{Meets}
use Rattle.least_costs.proofs.TrackLemmas.{at_rest}
use Rattle.least_costs.proofs.asked.low.Goals as goal

pub returns-in-AwayFrom : goal.returns-in-AwayFrom
returns-in-AwayFrom c = λ track meets there.
    let since = c.in-AwayFrom.field-0 in
    let is : c.args.constraint ≡ AwayFrom since c.in-AwayFrom.cell = cc in
    let same : c.in-AwayFrom.cell ≡ c.args.goal = search rules in
    let later = since + cost track in
    let first : cost track ≤ cost track = omega arith in
    let late : cost track ≤ later = omega arith in
    let away = subst (Meets track) is meets in
    absurd (away later (omega arith) (at_rest c.costs.ensures.cost track c.args.goal (cost track) later first there late ∙ sym same))

pub returns-in-Away : goal.returns-in-Away
returns-in-Away c = λ track meets there. elim (cases_lt c.in-Away.at (cost track)) [
  | inl less ↦ omega (arith, less, c.saturating_add.ensures)
  | inr past ↦
      let same : c.in-Away.cell ≡ c.args.goal = search rules in
      let first : cost track ≤ cost track = omega arith in
      let away = subst (Meets track) c.in-Away.is meets in
      absurd (away (at_rest c.costs.ensures.cost track c.args.goal (cost track) c.in-Away.at first there past ∙ sym same))
]

pub returns-in-There : goal.returns-in-There
returns-in-There c = λ track meets there. elim (cases_lt c.in-There.at (cost track)) [
  | inl less ↦ omega (arith, less, c.saturating_add-in-There.ensures)
  | inr past ↦
      let first : cost track ≤ cost track = omega arith in
      let at = subst (Meets track) c.in-There.is meets in
      let same : c.in-There.cell ≡ c.args.goal = sym at ∙ at_rest c.costs.ensures.cost track c.args.goal (cost track) c.in-There.at first there past in
      let never : ⊥ = search rules in
      absurd never
]

pub returns-in-NotTaken : goal.returns-in-NotTaken
returns-in-NotTaken c = λ track meets there. elim (cases_lt c.in-NotTaken.at (cost track)) [
  | inl less ↦ omega (arith, less, c.saturating_add-in-NotTaken.ensures)
  | inr past ↦
      let at = c.in-NotTaken.at in
      let is : c.args.constraint ≡ NotTaken at c.in-NotTaken.one c.in-NotTaken.other = cc in
      let one : c.in-NotTaken.one ≡ c.args.goal = search rules in
      let other : c.in-NotTaken.other ≡ c.args.goal = search rules in
      let first : cost track ≤ cost track = omega arith in
      let late : cost track ≤ at + 1 = omega (arith, past) in
      let apart = subst (Meets track) is meets in
      absurd (apart (at_rest c.costs.ensures.cost track c.args.goal (cost track) at first there past ∙ sym one)
      (at_rest c.costs.ensures.cost track c.args.goal (cost track) (at + 1) first there late ∙ sym other))
]
