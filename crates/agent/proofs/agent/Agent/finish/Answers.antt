use Rattle.std.proofs.Common.{rules, sym, subst}
use Rattle.agent.specs.Agents.{Moves, state_of}
use Rattle.agent.proofs.OwnLemmas.{finish-none}
use Rattle.agent.proofs.agent.Agent.finish.Goals as goal

pub returns-clause-finishes : goal.returns-clause-finishes
returns-clause-finishes g c tt is =
    let s = state_of g.T.Tape.state c.args.self.now in (
      is.track,
      subst (λ r. Moves g.T.Tape.state g.T.Tape.may_write tt is.track r c.args.self.now c.store.new.self c.store.result) (sym (finish-none s (search rules) (search rules)))
          (c.store.ensures tt is),
    )
