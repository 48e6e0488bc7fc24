-- The agent's call, as it is for the loop.
use Rattle.std.proofs.Common.{refl, sym, ◌∙◌, Ok, Err}
use Rattle.controller.specs.declared.command.Command.TheVariants.{Arrived}
use Rattle.controller.proofs.StepLemmas.{finishes-move, part-finished, same-robot}
use Rattle.controller.proofs.controller.Controller.finish.Goals as goal

pub invariant_of-self : goal.invariant_of-self
invariant_of-self g c =
    let me = c.self.inside in
    c.self.invariant ∙ sym (part-finished g.T.Tape.state g.T.Tape.may_write me.agent c.finish.new.self c.finish.result c.finish.ensures.within c.finish.ensures.finishes)

pub invariant_of-self-in-Err : goal.invariant_of-self-in-Err
invariant_of-self-in-Err g c =
    let me = c.self.inside in
    c.self.invariant ∙ sym (part-finished g.T.Tape.state g.T.Tape.may_write me.agent c.finish.new.self c.finish.result c.finish.ensures.within c.finish.ensures.finishes)

pub returns-in-Ok-clause-same : goal.returns-in-Ok-clause-same
returns-in-Ok-clause-same g c =
    let me = c.self.inside in
    same-robot g.T.Tape.state g.T.Tape.may_write me.agent c.finish.new.self me.settings me.control c.finished-self-inside.result c.args.self.now c.self.view_is
    (part-finished g.T.Tape.state g.T.Tape.may_write me.agent c.finish.new.self c.finish.result c.finish.ensures.within c.finish.ensures.finishes)

pub returns-in-Ok-clause-does : goal.returns-in-Ok-clause-does
returns-in-Ok-clause-does g c =
    let me = c.self.inside in
    finishes-move g.T.Tape.state g.T.Tape.may_write me.agent c.finish.new.self me.settings me.control c.finished-self-inside.result c.args.self.now c.self.view_is (Arrived c.in-Ok.cell)
    (Ok c.in-Ok.cell)
    c.in-Ok.ensures.finishes refl c.finished-self-inside.ensures

pub returns-in-Err-clause-same : goal.returns-in-Err-clause-same
returns-in-Err-clause-same g c =
    let me = c.self.inside in
    same-robot g.T.Tape.state g.T.Tape.may_write me.agent c.finish.new.self me.settings me.control me.control c.args.self.now c.self.view_is
    (part-finished g.T.Tape.state g.T.Tape.may_write me.agent c.finish.new.self c.finish.result c.finish.ensures.within c.finish.ensures.finishes)

pub returns-in-Err-clause-does : goal.returns-in-Err-clause-does
returns-in-Err-clause-does g c =
    let me = c.self.inside in
    finishes-move g.T.Tape.state g.T.Tape.may_write me.agent c.finish.new.self me.settings me.control me.control c.args.self.now c.self.view_is c.told_of.result (Err c.in-Err.refusal)
    c.in-Err.ensures.finishes c.told_of.ensures refl
