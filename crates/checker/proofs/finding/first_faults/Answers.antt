-- What is listed at the end begins the list of all.
use Rattle.std.proofs.Common.{length, take, arith, ap, ◌∙◌}
use Rattle.checker.specs.AllFaults.{count_of_named}
use Rattle.checker.proofs.ExtendLemmas.{first-listed}
use Rattle.checker.proofs.TimeLemmas.{listed-clean}
use Rattle.checker.proofs.finding.first_faults.Goals as goal

pub list_all-requires : goal.list_all-requires
list_all-requires c = listed-clean c.args.map.now c.args.plan.now 0 c.new-listing.result (λ f has less. omega (arith, less)) c.new-listing.ensures.faults

pub returns : goal.returns
returns c =
    let p = c.args.plan.now in
    first-listed c.args.map.now p c.args.most c.in_ok-agents.agents c.is_full-more.result c.truncate.new.self.items c.list_all.new.listing c.in_ok-list_all.ensures.listed
    (c.in_ok-list_all.ensures.most ∙ c.new-listing.ensures.most) c.is_full-more.ensures (c.truncate.ensures.items ∙ ap (take c.args.most) c.into_faults-listed.ensures)
    (c.in_ok-agents.ensures ∙ ap (λ n. count_of_named n c.deref.result.now) c.agents.ensures.agents ∙ ap (count_of_named (length p.courses)) c.deref.ensures.value)
