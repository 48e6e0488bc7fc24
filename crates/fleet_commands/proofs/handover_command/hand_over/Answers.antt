-- The plan was read, and this came of it.
use Rattle.fleet_commands.specs.HandoverCommand.{IsHandedOver}
use Rattle.fleet_commands.proofs.ReadLemmas.{then-comes}
use Rattle.fleet_commands.proofs.handover_command.hand_over.Goals as goal

pub returns : goal.returns
returns g c =
    then-comes g.M.Read.remaining g.P.Read.remaining c.args.map.now c.read_at_hand.new.map c.args.plan.now c.read_at_hand.new.plan (IsHandedOver g.R.ReadFiles.was_done)
    c.in_ok-at_hand.at_hand c.in_ok-at_hand.ensures (λ fault never. never) c.cut_begun.result c.cut_begun.ensures
