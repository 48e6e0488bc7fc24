-- What was checked is what is left; else memory was refused.
use Rattle.std.proofs.Common.{Err, ap, sym, subst, ◌∙◌}
use Rattle.std.proofs.lemmas.Result.{err_from_is_err_and}
use Rattle.fleet_commands.specs.AnewCommand.{IsBegunAnew, MayBeAnew}
use Rattle.fleet_commands.specs.LeftPlan.{left_plan}
use Rattle.fleet_commands.proofs.ReadLemmas.{left-as, unknown-as}
use Rattle.fleet_commands.proofs.anew_command.leave.Goals as goal

pub returns-then-new-number : goal.returns-then-new-number
returns-then-new-number g c = (sym c.lacks_agent.ensures ∙ c.if-lacks_agent.false, c.if-new-number.true ∙ c.number.ensures.number)

pub returns-in_err-found : goal.returns-in_err-found
returns-in_err-found g c =
    let p = err_from_is_err_and c.from_residual.result c.from_residual.ensures.1 in
    let may : MayBeAnew c.args.at_hand.now c.args.new.without c.args.new.number = (
      sym c.lacks_agent.ensures ∙ c.if-lacks_agent.false,
      λ same. c.if-new-number.false
          (same ∙ sym c.number.ensures.number),
    ) in
    let Anew = IsBegunAnew g.R.ReadFiles.was_done c.args.new.without c.args.new.number c.args.at_hand.now in
    subst Anew (sym (p.1 ∙ ap Err p.2)) (unknown-as g.R.ReadFiles.was_done c.args.new.without c.args.new.number c.args.at_hand.now may _ c.in_err-found.ensures.fault)

pub returns-in_err-left : goal.returns-in_err-left
returns-in_err-left g c =
    let p = err_from_is_err_and c.from_residual-in_err-left.result c.from_residual-in_err-left.ensures.1 in
    subst (IsBegunAnew g.R.ReadFiles.was_done c.args.new.without c.args.new.number c.args.at_hand.now) (sym (p.1 ∙ ap Err (p.2 ∙ c.in_err-left.ensures.fault))) tt

pub returns : goal.returns
returns g c =
    let it = c.args.at_hand.now in
    let found = c.in_ok-found.found.items in
    let may : MayBeAnew c.args.at_hand.now c.args.new.without c.args.new.number = (
      sym c.lacks_agent.ensures ∙ c.if-lacks_agent.false,
      λ same. c.if-new-number.false
          (same ∙ sym c.number.ensures.number),
    ) in
    left-as g.R.ReadFiles.was_done c.args.new.without c.args.new.number it may found c.in_ok-left.left c.in_ok-found.ensures.known
    (c.in_ok-left.ensures.left ∙ ap (λ l. left_plan it.plan it.dependencies l c.args.new.without c.args.new.number) c.deref.ensures.value) c.checked.result c.checked.ensures
