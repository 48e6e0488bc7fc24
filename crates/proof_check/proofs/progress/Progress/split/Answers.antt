-- Both children stand in the node's place.
use Rattle.std.proofs.Common.{◌≡◌, ◌∙◌, ◌+◌, ◌∷◌, ◌++◌, [], List, ap, arith, length, refl, subst, sym}
use Rattle.proof_check.specs.declared.due.DueNode.{DueNode}
use Rattle.proof_check.specs.declared.trail.Child.TheVariants.{First, Second}
use Rattle.proof_check.specs.Code.Rising.{RisesTo}
use Rattle.proof_check.specs.Code.Stack.{parents_asked, subtrees}
use Rattle.proof_check.proofs.StackLemmas.{children-push, due_push}
use Rattle.proof_check.proofs.progress.Progress.split.Goals as goal

pub returns : goal.returns
returns c = λ m ends progress few.
    let judge = c.args.self.now.judge in
    let demands = judge.trail.demands.items in
    let old = c.args.self.now.due.items in
    let below : c.saturating_add-below.result ≡ c.args.above + 1 = let is = c.saturating_add-below.ensures in omega (arith, is, few) in
    let asked : c.len-asked.result ≡ length demands = let is = c.len-asked.ensures in let all = judge.trail.demands.ok in omega (arith, is, all) in
    let second : DueNode = record { asked = c.len-asked.result; child = Second c.args.node; above = c.args.above + 1 } in
    let first : DueNode = record { asked = c.len-asked.result; child = First c.args.node; above = c.args.above + 1 } in
    let put : c.add_due-2.new.due.items ≡ (old ++ second ∷ []) ++ first ∷ [] =
    c.in_ok-add_due-2.ensures
    ∙ ap (λ (l : List DueNode). l ++ record { asked = c.len-asked.result; child = First c.args.node; above = c.saturating_add-below.result } ∷ []) c.in_ok-add_due.ensures
    ∙ ap (λ n. (old ++ record { asked = c.len-asked.result; child = Second c.args.node; above = n } ∷ [])
    ++ record { asked = c.len-asked.result; child = First c.args.node; above = n } ∷ []) below in (
      record {
        same_map = progress.same_map;
        same_ends = progress.same_ends;
        tables = progress.tables;
        trail = progress.trail;
        rising = subst (λ (l : List DueNode). RisesTo (parents_asked l) (length demands)) (sym put)
            (due_push (old ++ second ∷ []) first (length demands) (due_push old second (length demands) progress.rising asked) asked);
      },
      record {
        stage = refl;
        nodes = refl;
        due = ap (subtrees ends demands) put ∙ children-push ends demands old c.args.node c.len-asked.result c.args.above asked;
      },
    )
