-- It is put behind what lasts.
use Rattle.std.proofs.Common.{subst, sym}
use Rattle.least_costs.specs.Code.Ruling.{AreImplied}
use Rattle.least_costs.proofs.AskedLemmas.{implied_more}
use Rattle.least_costs.proofs.rules.Rules.add.Goals as goal

pub returns-in_ok-push-in-None : goal.returns-in_ok-push-in-None
returns-in_ok-push-in-None c = λ asked one are. record {
  timed = are.timed;
  lasting = subst (AreImplied asked) (sym c.in_ok-push-in-None.ensures.items) (implied_more asked c.args.self.now.lasting.items c.args.constraint one are.lasting);
}
