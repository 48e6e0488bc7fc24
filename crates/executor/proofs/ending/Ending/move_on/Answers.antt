use Rattle.executor.proofs.LeadLemmas.{ok-map, known-then}
use Rattle.executor.proofs.ending.Ending.move_on.Goals as goal

pub returns-clause-leads : goal.returns-clause-leads
returns-clause-leads c =
    ok-map c.make_move.result (known-then c.args.self.now c.tell_need.new.self c.make_move.new.self c.args.agent c.in_ok-tell_need.ensures.stayed c.in_ok-tell_need.ensures.leads
    c.in_ok-tell_need.ensures.teaches c.requires.left) c.make_move.ensures.leads
