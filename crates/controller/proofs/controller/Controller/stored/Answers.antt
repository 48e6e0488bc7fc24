-- What the agent holds, as it is for the loop.
use Rattle.controller.proofs.StepLemmas.{is-stored}
use Rattle.controller.proofs.controller.Controller.stored.Goals as goal

pub returns : goal.returns
returns g c =
    let me = c.self.inside in
    is-stored g.T.Tape.state g.T.Tape.may_write me.agent me.settings me.control c.args.self.now c.self.view_is c.held.result c.done.result c.held.ensures.holds c.done.ensures.finished_moves
