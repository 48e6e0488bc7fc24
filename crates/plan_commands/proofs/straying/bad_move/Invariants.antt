use Rattle.plan_commands.specs.Code.Straying.{IsLeastMove}
use Rattle.plan_commands.proofs.straying.bad_move.Given as goal

-- the move is the first of the agents before
abbrev pub invariant-loop-agent : goal.invariant-loop-agent
invariant-loop-agent l = IsLeastMove l.map l.courses l.agent l.first
