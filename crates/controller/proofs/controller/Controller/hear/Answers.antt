-- What the agent hears, as it is for the loop.
use Rattle.std.proofs.Common.{refl, sym, ◌∙◌, Some, None, Ok, Err}
use Rattle.controller.proofs.StepLemmas.{takes-stale, takes-message, part-heard, same-robot}
use Rattle.controller.proofs.controller.Controller.hear.Goals as goal

pub returns-in-Some-clause-takes : goal.returns-in-Some-clause-takes
returns-in-Some-clause-takes g c =
    let me = c.self.inside in
    takes-stale g.T.Tape.state g.T.Tape.may_write me.agent me.settings me.control c.stale-self-inside.result c.args.self.now c.self.view_is c.args.message.now c.in-Some.word.sender
    c.in-Some.word.number
    (λ table is. c.in-Some.ensures table is) c.stale-self-inside.ensures

pub invariant_of-self-in-Ok : goal.invariant_of-self-in-Ok
invariant_of-self-in-Ok g c =
    let me = c.self.inside in
    c.self.invariant ∙ sym (part-heard g.T.Tape.state g.T.Tape.may_write me.agent c.hear.new.self c.args.message.now c.hear.result c.hear.ensures.within c.hear.ensures.hears)

pub invariant_of-self-in-Err : goal.invariant_of-self-in-Err
invariant_of-self-in-Err g c =
    let me = c.self.inside in
    c.self.invariant ∙ sym (part-heard g.T.Tape.state g.T.Tape.may_write me.agent c.hear.new.self c.args.message.now c.hear.result c.hear.ensures.within c.hear.ensures.hears)

pub returns-in-Ok-clause-same : goal.returns-in-Ok-clause-same
returns-in-Ok-clause-same g c =
    let me = c.self.inside in
    same-robot g.T.Tape.state g.T.Tape.may_write me.agent c.hear.new.self me.settings me.control c.heard-self-inside.result c.args.self.now c.self.view_is
    (part-heard g.T.Tape.state g.T.Tape.may_write me.agent c.hear.new.self c.args.message.now c.hear.result c.hear.ensures.within c.hear.ensures.hears)

pub returns-in-Ok-clause-takes : goal.returns-in-Ok-clause-takes
returns-in-Ok-clause-takes g c =
    let me = c.self.inside in
    takes-message g.T.Tape.state g.T.Tape.may_write me.agent c.hear.new.self me.settings me.control c.heard-self-inside.result c.args.self.now c.self.view_is c.args.message.now None (Ok
    c.in-Ok.field-0)
    (λ table is. c.in_default.ensures table is) c.in-Ok.ensures.hears refl c.heard-self-inside.ensures

pub returns-in-Err-clause-same : goal.returns-in-Err-clause-same
returns-in-Err-clause-same g c =
    let me = c.self.inside in
    same-robot g.T.Tape.state g.T.Tape.may_write me.agent c.hear.new.self me.settings me.control me.control c.args.self.now c.self.view_is
    (part-heard g.T.Tape.state g.T.Tape.may_write me.agent c.hear.new.self c.args.message.now c.hear.result c.hear.ensures.within c.hear.ensures.hears)

pub returns-in-Err-clause-takes : goal.returns-in-Err-clause-takes
returns-in-Err-clause-takes g c =
    let me = c.self.inside in
    takes-message g.T.Tape.state g.T.Tape.may_write me.agent c.hear.new.self me.settings me.control me.control c.args.self.now c.self.view_is c.args.message.now
    (Some c.dropped_for.result) (Err c.in-Err.fault) (λ table is. c.in_default.ensures table is) c.in-Err.ensures.hears c.dropped_for.ensures refl
