-- The agent's call, as it is for the loop.
use Rattle.std.proofs.Common.{sym, ap, ◌∙◌, Ok, Err}
use Rattle.controller.specs.Controls.{started, not_started}
use Rattle.controller.proofs.StepLemmas.{starts-move, part-started, same-robot}
use Rattle.controller.proofs.controller.Controller.start.Goals as goal

pub begun-begun-requires : goal.begun-begun-requires
begun-begun-requires g c =
    let me = c.self.inside in
    c.self.invariant ∙ sym (part-started g.T.Tape.state g.T.Tape.may_write me.agent c.start-answer.new.self c.start-answer.result c.start-answer.ensures.within c.start-answer.ensures.starts)

pub invariant_of-self : goal.invariant_of-self
invariant_of-self g c =
    let me = c.self.inside in
    c.self.invariant ∙ sym (part-started g.T.Tape.state g.T.Tape.may_write me.agent c.start-answer.new.self c.start-answer.result c.start-answer.ensures.within c.start-answer.ensures.starts)

pub invariant_of-self-in-Err : goal.invariant_of-self-in-Err
invariant_of-self-in-Err g c =
    let me = c.self.inside in
    c.self.invariant ∙ sym (part-started g.T.Tape.state g.T.Tape.may_write me.agent c.start-answer.new.self c.start-answer.result c.start-answer.ensures.within c.start-answer.ensures.starts)

pub returns-in-Ok-clause-same : goal.returns-in-Ok-clause-same
returns-in-Ok-clause-same g c =
    let me = c.self.inside in
    same-robot g.T.Tape.state g.T.Tape.may_write me.agent c.start-answer.new.self me.settings me.control c.started-self-inside.result c.args.self.now c.self.view_is
    (part-started g.T.Tape.state g.T.Tape.may_write me.agent c.start-answer.new.self c.start-answer.result c.start-answer.ensures.within c.start-answer.ensures.starts)

pub returns-in-Ok-clause-does : goal.returns-in-Ok-clause-does
returns-in-Ok-clause-does g c =
    let me = c.self.inside in
    starts-move g.T.Tape.state g.T.Tape.may_write me.agent c.start-answer.new.self me.settings me.control c.started-self-inside.result c.args.self.now c.self.view_is c.stored.result
    (Ok c.in-Ok.field-0)
    c.in-Ok.ensures.starts c.stored.ensures (c.started-self-inside.ensures ∙ ap (started me.control) c.begun-begun.ensures.begun)

pub returns-in-Err-clause-same : goal.returns-in-Err-clause-same
returns-in-Err-clause-same g c =
    let me = c.self.inside in
    same-robot g.T.Tape.state g.T.Tape.may_write me.agent c.start-answer.new.self me.settings me.control c.not_started-self-inside.result c.args.self.now c.self.view_is
    (part-started g.T.Tape.state g.T.Tape.may_write me.agent c.start-answer.new.self c.start-answer.result c.start-answer.ensures.within c.start-answer.ensures.starts)

pub returns-in-Err-clause-does : goal.returns-in-Err-clause-does
returns-in-Err-clause-does g c =
    let me = c.self.inside in
    starts-move g.T.Tape.state g.T.Tape.may_write me.agent c.start-answer.new.self me.settings me.control c.not_started-self-inside.result c.args.self.now c.self.view_is c.told_of.result (Err
    c.in-Err.refusal)
    c.in-Err.ensures.starts (λ table is track there. c.told_of.ensures) (c.not_started-self-inside.ensures ∙ ap (not_started me.control) c.begun-begun.ensures.begun)
