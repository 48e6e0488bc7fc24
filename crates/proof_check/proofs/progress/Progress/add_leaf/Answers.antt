-- The leaf is judged by what is asked there.
use Rattle.std.proofs.Common.{◌∙◌, ◌+◌, List, ap, arith, subst}
use Rattle.std.proofs.lemmas.Result.{err_from_is_err_and}
use Rattle.optimality.specs.declared.constraint.Demand.{Demand}
use Rattle.optimality.specs.Judging.{LeafStands}
use Rattle.proof_check.specs.Code.Progressing.{IsLeafRefused}
use Rattle.proof_check.specs.Code.Stack.{subtrees}
use Rattle.proof_check.proofs.StackLemmas.{due_is}
use Rattle.proof_check.proofs.progress.Progress.add_leaf.Goals as goal

pub returns-in_err-judge_leaf : goal.returns-in_err-judge_leaf
returns-in_err-judge_leaf c = λ m ends others next progress at items within.
    let p = err_from_is_err_and c.from_residual-in_err-judge_leaf.result c.from_residual-in_err-judge_leaf.ensures.1 in
    let gone = c.in_ok-_above.ensures m ends others next progress items in
    rw (p.1, p.2) (subst (λ (d : List Demand). IsLeafRefused m ends c.args.aim d c.args.number c.in_err-judge_leaf.field-0.0) gone.2.demands
    (c.in_err-judge_leaf.ensures m ends gone.1))

pub returns : goal.returns
returns c = λ m ends others next progress at items within.
    let gone = c.in_ok-_above.ensures m ends others next progress items in
    let judged = c.in_ok-judge_leaf.ensures m ends gone.1 in
    let now = judged.0 in
    let stays = judged.1 in
    let new = c.judge_leaf.new.self in
    let asked = c.go_on.new.self.judge.trail.demands.items in
    let before = stays.nodes in
    let earlier = gone.2.nodes in
    let few = within.1 in
    let more = c.saturating_add-self.ensures in (
      record { same_map = now.same_map; same_ends = now.same_ends; tables = now.tables; trail = now.trail; rising = now.rising },
      subst (λ (d : List Demand). LeafStands m ends c.args.aim.objective c.args.aim.bound d) gone.2.demands judged.2,
      due_is ends new.judge.ends.items new.judge.trail.demands.items new.due.items new.stage c.args.aim c.saturating_add-self.result (c.args.self.now.nodes + 1) _
          (stays.stage ∙ gone.2.stage ∙ at) now.same_ends (omega (arith, more, before, earlier, few))
          (ap (λ d. subtrees ends d.items new.due.items) stays.demands ∙ ap (λ v. subtrees ends asked v.items) stays.due
          ∙ ap (subtrees ends asked) gone.2.due ∙ gone.2.rest),
    )
