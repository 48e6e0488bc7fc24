-- Each list is empty.
use Rattle.std.proofs.Common.{inl, inr}
use Rattle.least_steps.proofs.WaitingLemmas.{among-none}
use Rattle.least_steps.proofs.open_list.OpenList.begin.Goals as goal

pub returns : goal.returns
returns c = λ p waits. elim waits [
  | inl h ↦ among-none c.clear.new.self.items p c.clear.ensures.items h
  | inr rest ↦ elim rest [
    | inl h ↦ among-none c.clear-2.new.self.items p c.clear-2.ensures.items h
    | inr more ↦ elim more [
      | inl h ↦ among-none c.clear-3.new.self.items p c.clear-3.ensures.items h
      | inr there ↦ c.clear-4.ensures p there
    ]
  ]
]
