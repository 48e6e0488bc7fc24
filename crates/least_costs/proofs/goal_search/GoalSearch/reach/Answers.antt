-- The cell waits before it has its mark.
use Rattle.std.proofs.Common.{◌<◌, ◌∙◌, sym, ap, subst}
use Rattle.least_costs.specs.Code.Marks.{mark_at}
use Rattle.least_costs.proofs.GoalSearchLemmas.{reached, same_still}
use Rattle.least_costs.proofs.goal_search.GoalSearch.reach.Goals as goal

pub returns-in_err-put-clause-search : goal.returns-in_err-put-clause-search
returns-in_err-put-clause-search c = λ m is.
    let s = c.wait.new.self in
    same_still m s.goal s.start s.marks c.put.new.self s.next.items s.later.items s.through c.in_err-put.ensures.none (c.wait.ensures.search m is)

pub returns-clause-search : goal.returns-clause-search
returns-clause-search c = λ m is.
    let s = c.wait.new.self in
    let cell = c.args.cell in
    let fewer = subst (λ k. c.args.steps < k) (c.at.ensures.mark ∙ ap (λ marks. mark_at marks cell) (sym c.wait.ensures.marks)) c.if-at-steps.false in
    reached m s.goal s.start s.marks c.put.new.self s.next.items s.later.items s.through cell c.args.steps c.in_ok-put.ensures.put fewer c.in_ok-wait.ensures.waits
    (c.wait.ensures.search m is)
