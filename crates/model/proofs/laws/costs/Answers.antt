use Rattle.std.proofs.Common.{inl, inr, arith}
use Rattle.std.proofs.lemmas.Bool.{cases_order}
use Rattle.model.proofs.CostLemmas.{cost-rests, cost-least, moves-cost}
use Rattle.model.proofs.laws.costs.Goals as goal

pub returns-clause-cost : goal.returns-clause-cost
returns-clause-cost c = λ track. record {
  rests = cost-rests track.start track.later;
  least = λ before less h. (let most = cost-least track.start track.later before h in omega (arith, less, most));
}

pub returns-clause-one : goal.returns-clause-one
returns-clause-one c = λ track s t h k. elim (cases_order s t) [
  | inl same ↦ same
  | inr (inl less) ↦ absurd (k.least s less h.rests)
  | inr (inr more) ↦ absurd (h.least t more k.rests)
]

pub returns-clause-moves : goal.returns-clause-moves
returns-clause-moves c = λ track. moves-cost track.start track.later
