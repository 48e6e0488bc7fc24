-- Off the map no walk begins or ends; on it the search that came to its end had begun.
use Rattle.std.proofs.Common.{◌≡◌, ◌∙◌, ℕ, None, Some, subst, sym}
use Rattle.std.proofs.lemmas.Bool.{true≢false}
use Rattle.walks.specs.Certificate.{AreOn}
use Rattle.least_steps.specs.declared.open_list.OpenList.{OpenList}
use Rattle.least_steps.specs.Code.Exploring.{Exploration}
use Rattle.least_steps.specs.Code.Waiting.{IsSearch}
use Rattle.least_steps.specs.Laws.Ways.{ends-on}
use Rattle.least_steps.proofs.step_search.StepSearch.search.Goals as goal
use Rattle.least_steps.proofs.step_search.StepSearch.search.Goals.{then-not-branch+in_ok-begin-2+in_ok-spread, else-not-branch}

no_none : (n : ℕ) → None ≡ Some n → ⊥
no_none n h = cc

pub returns-then-not-are_on-clause-answer : goal.returns-then-not-are_on-clause-answer
returns-then-not-are_on-clause-answer c = (
  λ n is. absurd (no_none n is),
  λ cells k way.
      let on = ends-on c.args.self.now c.args.aslant c.args.start c.args.goal cells k way in
      let is_on = c.are_on.ensures.1 (subst (λ m. AreOn m c.args.start c.args.goal) (sym (c.map.ensures.now ∙ c.self.view_is)) on) in
      true≢false (sym is_on ∙ c.if-not-are_on.true),
)

pub answer-requires-clause-search : goal.answer-requires-clause-search
answer-requires-clause-search c = elim c.if-not-branch.branch [
  | then-not-branch+in_ok-begin-2+in_ok-spread w ↦
      subst (λ (e : Exploration). IsSearch e c.if-not-branch.waiting c.args.goal) (sym w.reached-is)
      (subst (λ (o : OpenList). IsSearch w.spread.new.reached o c.args.goal) (sym w.waiting-is) w.in_ok-spread.ensures.search)
  | else-not-branch w ↦
      subst (λ (e : Exploration). IsSearch e c.if-not-branch.waiting c.args.goal) (sym w.reached-is)
      (subst (λ (o : OpenList). IsSearch c.approach.new.reached o c.args.goal) (sym w.waiting-is) c.in_ok-approach.ensures.search)
]
