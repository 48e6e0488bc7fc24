-- By what is asked.
use Rattle.std.proofs.Common.{◌≡◌, false, rules}
use Rattle.least_costs.proofs.expand.is_ruled_out.Goals as goal

pub returns-then-forbid : goal.returns-then-forbid
returns-then-forbid c = λ e g track ready is here next. c.forbid.ensures e c.args.query.now.asked.now track ready.rules is.meets here next

pub returns-else-forbid : goal.returns-else-forbid
returns-else-forbid c = λ e g track ready is here next.
    let late : c.let_come.result ≡ false = search rules in
    c.let_come.ensures late c.args.query.now.asked.now g.map (record { start = c.args.query.now.start; goal = g.goal }) track ready.rules is.walker is.meets next
