-- What is listed first is the least.
use Rattle.std.proofs.Common.{◌+◌, ap, sym, subst, ◌∙◌}
use Rattle.std.specs.Prelude.{MatchOption, slice_get}
use Rattle.model.specs.Plan.{IsLeastFault}
use Rattle.checker.specs.Code.Watching.{IsClean}
use Rattle.checker.proofs.TimeLemmas.{listed-clean, least_listed}
use Rattle.checker.proofs.finding.fault_at.Goals as goal

pub list_time-requires : goal.list_time-requires
list_time-requires c = listed-clean c.args.map.now c.args.plan.now c.args.time c.new-listing.result c.requires.clean c.new-listing.ensures.faults

pub returns : goal.returns
returns c =
    let m = c.args.map.now in
    let p = c.args.plan.now in
    let t = c.args.time in
    let is = c.copied.ensures ∙ c.first.ensures.value ∙ ap (λ l. slice_get l 0) (c.deref.ensures.value ∙ c.into_faults.ensures) in
    subst (λ o. MatchOption o (IsClean m p (t + 1)) (IsLeastFault m p)) (sym is)
    (least_listed m p t c.list_time.new.listing c.width-width.ensures.map c.requires.starts c.requires.clean
    (c.in_ok-list_time.ensures.most ∙ c.new-listing.ensures.most) c.in_ok-list_time.ensures.listed)
