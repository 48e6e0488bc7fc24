-- The next node is due no more, and what is asked is what is asked there.
use Rattle.std.proofs.Common.{◌≡◌, ◌∙◌, ◌++◌, List, ap, length, refl, subst, sym, take}
use Rattle.optimality.specs.declared.constraint.Ends.{Ends}
use Rattle.proof_check.specs.declared.due.DueNode.{DueNode}
use Rattle.proof_check.specs.Code.Rising.{RisesTo}
use Rattle.proof_check.specs.Code.Stack.{parents_asked}
use Rattle.proof_check.specs.Code.Trails.{AreTables, IsTrail, child_demands}
use Rattle.proof_check.proofs.StackLemmas.{gone, same_last}
use Rattle.proof_check.proofs.progress.Progress.go_on.Goals as goal

pub returns-in-Ok : goal.returns-in-Ok
returns-in-Ok c = λ m ends others next progress is.
    let old = c.args.self.now.judge in
    let new = c.go_to.new.self in
    let popped = same_last others c.pop.new.self.items next c.in-Some.next (sym is ∙ c.in-Some.ensures.items) in
    let same : new.ends ≡ old.ends = c.in-Ok.ensures.ends in
    let tables : new.tables.items ≡ old.tables.items = c.in-Ok.ensures.tables in
    let asked : new.trail.demands.items ≡ take c.in-Some.next.asked old.trail.demands.items ++ child_demands old.ends.items c.in-Some.next.child = c.in-Ok.ensures.demands in
    let trail : AreTables m old.ends.items old.tables.items → IsTrail m old.ends.items old.trail.demands.items old.trail.kept.items
    → IsTrail m old.ends.items new.trail.demands.items new.trail.kept.items = c.in-Ok.ensures.trail m in
    let there = gone ends old.trail.demands.items new.trail.demands.items c.args.self.now.due.items others next is progress.rising
    (asked ∙ ap (λ (x : DueNode). take x.asked old.trail.demands.items ++ child_demands old.ends.items x.child) popped.1
    ∙ ap (λ (e : List Ends). take next.asked old.trail.demands.items ++ child_demands e next.child) progress.same_ends) in (
      ap (λ (x : DueNode). x.above) popped.1,
      record {
        same_map = progress.same_map;
        same_ends = ap (λ v. v.items) same ∙ progress.same_ends;
        tables = subst (AreTables m ends) (sym tables) progress.tables;
        trail = subst (λ (e : List Ends). IsTrail m e new.trail.demands.items new.trail.kept.items) progress.same_ends
            (trail (subst (λ (e : List Ends). AreTables m e old.tables.items) (sym progress.same_ends) progress.tables)
            (subst (λ (e : List Ends). IsTrail m e old.trail.demands.items old.trail.kept.items) (sym progress.same_ends) progress.trail));
        rising = subst (λ (l : List DueNode). RisesTo (parents_asked l) (length new.trail.demands.items)) (sym popped.0) there.0;
      },
      record { stage = refl; nodes = refl; due = popped.0; demands = there.1; rest = there.2 },
    )
