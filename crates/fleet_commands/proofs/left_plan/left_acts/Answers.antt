-- Each turn adds one act.
use Rattle.std.proofs.Common.{◌+◌, ◌∷◌, ◌++◌, [], List, drop, sym, ap, ap₂, ◌∙◌, append_assoc}
use Rattle.std.proofs.lemmas.List.{at_drop_more}
use Rattle.model.specs.declared.act.Act.{Act}
use Rattle.fleet_commands.specs.LeftPlan.{left_acts}
use Rattle.fleet_commands.proofs.left_plan.left_acts.Goals as goal

pub loop-act-preserved : goal.loop-act-preserved
loop-act-preserved c =
    let acts = c.args.acts.now in
    let at = c.loop-act.act-index in
    let made = c.loop-act.made in
    let rest = drop (at + 1) acts in
    let next = at_drop_more (left_acts made) acts at _ c.loop-act-test.true in
    record {
      left = c.loop-act.invariant.left ∙ ap (λ (l : List Act). c.loop-act.left.items ++ l) next
          ∙ ap₂ (λ a n. c.loop-act.left.items ++ a ∷ left_acts n rest) (sym c.left_act.ensures) (sym c.made_behind-made.ensures)
          ∙ sym (append_assoc c.loop-act.left.items (c.left_act.result ∷ []) (left_acts c.made_behind-made.result rest))
          ∙ ap (λ (l : List Act). l ++ left_acts c.made_behind-made.result rest) (sym c.in_ok-push.ensures.items);
    }
