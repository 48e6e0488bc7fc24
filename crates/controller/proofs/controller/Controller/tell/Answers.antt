-- What the agent says, as it is for the loop.
use Rattle.std.proofs.Common.{ap, Ok, Err, ◌∙◌}
use Rattle.controller.specs.Steps.{message_of_command}
use Rattle.controller.proofs.StepLemmas.{says-so, tells-so}
use Rattle.controller.proofs.controller.Controller.tell.Goals.{in-One+in-Ok, in-One+in-Err, in-Two+in-Ok-tell, in-Two+in-Err-tell}
use Rattle.controller.proofs.controller.Controller.tell.Goals as goal

pub returns-clause-does : goal.returns-clause-does
returns-clause-does g c =
    let me = c.self.inside in
    elim c.match-self.branch [
      | in-One+in-Ok w ↦
          says-so g.T.Tape.state g.T.Tape.may_write me.agent me.settings me.control c.told-self-inside.result c.args.self.now c.self.view_is c.match-self.result (Ok w.in-Ok.message) w.in-One.is
          w.in-Ok.ensures.says (ap message_of_command w.result-is) c.told-self-inside.ensures
      | in-One+in-Err w ↦
          says-so g.T.Tape.state g.T.Tape.may_write me.agent me.settings me.control c.told-self-inside.result c.args.self.now c.self.view_is c.match-self.result (Err w.in-Err.refusal) w.in-One.is
          w.in-Err.ensures.says (w.result-is ∙ w.told_of.ensures) c.told-self-inside.ensures
      | in-Two+in-Ok-tell w ↦
          tells-so g.T.Tape.state g.T.Tape.may_write me.agent me.settings me.control c.told-self-inside.result c.args.self.now c.self.view_is c.match-self.result
          (Ok w.in-Ok-tell.message.items) w.in-Two.is
          w.in-Ok-tell.ensures.tells (ap message_of_command w.result-is) c.told-self-inside.ensures
      | in-Two+in-Err-tell w ↦
          tells-so g.T.Tape.state g.T.Tape.may_write me.agent me.settings me.control c.told-self-inside.result c.args.self.now c.self.view_is c.match-self.result
          (Err w.in-Err-tell.field-0) w.in-Two.is
          w.in-Err-tell.ensures.tells w.result-is c.told-self-inside.ensures
    ]
