-- The plan was read, and this came of it.
use Rattle.fleet_commands.specs.AnewCommand.{IsBegunAnew}
use Rattle.fleet_commands.proofs.ReadLemmas.{then-comes}
use Rattle.fleet_commands.proofs.anew_command.begin_anew.Goals as goal

pub returns : goal.returns
returns g c =
    then-comes g.M.Read.remaining g.P.Read.remaining c.args.map.now c.read_at_hand.new.map c.args.plan.now c.read_at_hand.new.plan
    (IsBegunAnew g.R.ReadFiles.was_done c.args.new.without c.args.new.number)
    c.in_ok-at_hand.at_hand c.in_ok-at_hand.ensures (λ fault never. never) c.leave.result c.leave.ensures
