-- The next agent that takes the opposite step, if there is one, has the next conflict.
use Rattle.std.proofs.Common.{◌≡◌, ◌+◌, [], ◌∷◌, ◌++◌, Some, take, arith, refl, subst, ◌∙◌}
use Rattle.checker.specs.Code.Links.{IsFirstFrom}
use Rattle.checker.specs.Code.Places.{reversed, step_in}
use Rattle.checker.specs.Code.Rows.{fault_between}
use Rattle.checker.proofs.LinkLemmas.{link-read}
use Rattle.checker.proofs.FollowLemmas.{follow-begin, follow-more, follow-end, follow-within, follow-smaller, step-is}
use Rattle.checker.proofs.finding.Finder.follow.Goals as goal

pub loop-next-init : goal.loop-next-init
loop-next-init c =
    let steps = c.args.links.now.steps.now in
    let i = c.args.first in (
      (
        i + 1,
        omega arith,
        (link-read steps c.args.links.now.links.items i c.index.result.now c.requires.linked c.requires.first c.index.ensures).opposite,
        follow-begin c.args.self.now.map.now c.args.self.now.plan.now steps i c.args.conflict c.args.listing.now c.requires.row c.requires.listed,
      ),
      refl,
    )

pub index-requires-in-Some : goal.index-requires-in-Some
index-requires-in-Some c =
    let steps = c.args.links.now.steps.now in
    let there = follow-within steps c.loop-next.invariant.0.0 c.in-Some.second (reversed (step_in steps c.args.first)) c.loop-next.next c.in-Some.is c.loop-next.invariant.0.2 in
    let less = there.0 in
    let count = c.requires.linked.count in
    let items = c.args.links.now.links.ok.0 in
    omega (arith, less, count, items)

pub loop-next-smaller : goal.loop-next-smaller
loop-next-smaller c =
    let steps = c.args.links.now.steps.now in
    let there = follow-within steps c.loop-next.invariant.0.0 c.in-Some.second (reversed (step_in steps c.args.first)) c.loop-next.next c.in-Some.is c.loop-next.invariant.0.2 in
    let link = link-read steps c.args.links.now.links.items c.in-Some.second c.index-in-Some.result.now c.requires.linked there.0 c.index-in-Some.ensures in
    follow-smaller steps c.in-Some.second (step_in steps c.in-Some.second) c.loop-next.next c.index-in-Some.result.now.same c.in-Some.is there.0 link.same

pub loop-next-preserved : goal.loop-next-preserved
loop-next-preserved c =
    let m = c.args.self.now.map.now in
    let p = c.args.self.now.plan.now in
    let steps = c.args.links.now.steps.now in
    let i = c.args.first in
    let j = c.in-Some.second in
    let q = reversed (step_in steps i) in
    let h = c.loop-next.invariant.0 in
    let first : IsFirstFrom steps h.0 q (Some j) = subst (IsFirstFrom steps h.0 q) c.in-Some.is h.2 in
    let there = follow-within steps h.0 j q c.loop-next.next c.in-Some.is h.2 in
    let link = link-read steps c.args.links.now.links.items j c.index-in-Some.result.now c.requires.linked there.0 c.index-in-Some.ensures in
    let listing = c.loop-next.listing in
    let items : c.push.new.self.faults.items ≡ take (listing.most + 1) (listing.faults.items ++ fault_between c.args.conflict i j ∷ []) = (
    subst (λ f. c.push.new.self.faults.items ≡ take (listing.most + 1) (listing.faults.items ++ f ∷ [])) c.between.ensures c.in_ok-push.ensures.faults
    ) in (
      (
        j + 1,
        (let less = h.1 in let past = first.0 in omega (arith, less, past)),
        subst (λ s. IsFirstFrom steps (j + 1) s c.index-in-Some.result.now.same) (step-is steps j q there.1) link.same,
        follow-more m p steps i c.args.conflict h.0 j listing c.push.new.self c.requires.row h.1 first h.3 c.in_ok-push.ensures.most items,
      ),
      c.in_ok-push.ensures.most ∙ c.loop-next.invariant.1,
    )

pub returns-clause-listed : goal.returns-clause-listed
returns-clause-listed c =
    let steps = c.args.links.now.steps.now in
    let h = c.loop-next.invariant.0 in
    follow-end c.args.self.now.map.now c.args.self.now.plan.now steps c.args.first c.args.conflict h.0 c.loop-next.listing c.requires.row
    (subst (IsFirstFrom steps h.0 (reversed (step_in steps c.args.first))) c.in_default.is h.2) h.3
