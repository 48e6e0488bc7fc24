use Rattle.std.proofs.Common.{arith}
use Rattle.agent.proofs.OwnLemmas.{few-needs}
use Rattle.agent.proofs.agent.Agent.open_part.Goals as goal

pub overflow_mul-moves : goal.overflow_mul-moves
overflow_mul-moves g c = (let few = few-needs _ c.own_moves-moves.ensures.within in let moves = c.own_moves-moves.ensures.needs in omega (arith, few, moves))

pub read_records-requires-clause-limit : goal.read_records-requires-clause-limit
read_records-requires-clause-limit g c =
    let few = few-needs _ c.own_moves-moves.ensures.within in
    let moves = c.own_moves-moves.ensures.needs in
    let less = c.if-records-moves.false in
    omega (arith, few, moves, less)
