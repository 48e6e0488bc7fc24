-- The children of the node stand in its place.
use Rattle.std.proofs.Common.{◌∙◌, ◌+◌, ◌++◌, List, ap, arith, inl}
use Rattle.std.proofs.lemmas.Result.{err_from_is_err_and}
use Rattle.optimality.specs.declared.constraint.Demand.{Demand}
use Rattle.optimality.specs.Judging.{Subtree, children}
use Rattle.proof_check.specs.declared.due.DueNode.{DueNode}
use Rattle.proof_check.specs.Code.Stack.{subtree_of, subtrees}
use Rattle.proof_check.proofs.StackLemmas.{due_is}
use Rattle.proof_check.proofs.progress.Progress.add_split.Goals as goal

pub returns-in_err-split : goal.returns-in_err-split
returns-in_err-split c = λ m ends others next progress at items within.
    let p = err_from_is_err_and c.from_residual-in_err-split.result c.from_residual-in_err-split.ensures.1 in
    let gone = c.in_ok-above.ensures m ends others next progress items in
    let above = gone.0 in
    let most = within.0 in
    rw (p.1, p.2) (inl (c.in_err-split.ensures m ends gone.1 (omega (arith, above, most))))

pub returns : goal.returns
returns c = λ m ends others next progress at items within.
    let gone = c.in_ok-above.ensures m ends others next progress items in
    let above = gone.0 in
    let most = within.0 in
    let split = c.in_ok-split.ensures m ends gone.1 (omega (arith, above, most)) in
    let now = split.0 in
    let demands = c.args.self.now.judge.trail.demands.items in
    let asked = c.go_on.new.self.judge.trail.demands.items in
    let left = c.go_on.new.self.due.items in
    let node = c.args.node in
    let depth = c.in_ok-above.above in
    let before = split.1.nodes in
    let earlier = gone.2.nodes in
    let few = within.1 in
    let more = c.saturating_add-self.ensures in (
      record { same_map = now.same_map; same_ends = now.same_ends; tables = now.tables; trail = now.trail; rising = now.rising },
      c.in_ok-check_place.ensures m ends progress,
      due_is ends c.split.new.self.judge.ends.items c.split.new.self.judge.trail.demands.items c.split.new.self.due.items c.split.new.self.stage c.args.aim
          c.saturating_add-self.result (c.args.self.now.nodes + 1) _ (split.1.stage ∙ gone.2.stage ∙ at) now.same_ends (omega (arith, more, before, earlier, few))
          (split.1.due
          ∙ ap (λ (d : List Demand). children ends node (record { demands = d; above = depth }) ++ subtrees ends asked left) gone.2.demands
          ∙ ap (λ k. children ends node (record { demands = (subtree_of ends demands next).demands; above = k }) ++ subtrees ends asked left) gone.0
          ∙ ap (λ (l : List DueNode). children ends node (subtree_of ends demands next) ++ subtrees ends asked l) gone.2.due
          ∙ ap (λ (l : List Subtree). children ends node (subtree_of ends demands next) ++ l) gone.2.rest),
    )
