use Rattle.std.proofs.Common.{◌<◌, ◌*◌, length, sym, subst, ◌∙◌}
use Rattle.std.specs.Prelude.{MatchOption}
use Rattle.agent.specs.Agents.{Moves}
use Rattle.agent.specs.Tape.{whole_records}
use Rattle.agent.proofs.agent.Agent.start.Goals as goal

pub store-requires : goal.store-requires
store-requires g c =
    subst (λ o. MatchOption o (whole_records (g.T.Tape.state c.args.self.now.tape) < 2 * length c.args.self.now.part.needs) (λ _. Unit {0})) c.in-None.is c.start_refusal.ensures.room

pub returns-in-None-clause-starts : goal.returns-in-None-clause-starts
returns-in-None-clause-starts g c tt is = (
  is.track,
  subst (λ r. Moves g.T.Tape.state g.T.Tape.may_write tt is.track r c.args.self.now c.store.new.self c.store.result) (sym c.in-None.is ∙ c.start_refusal.ensures.refusal tt is)
      (c.store.ensures tt is),
)
