-- Time by time.
use Rattle.std.proofs.Common.{◌≡◌, ◌+◌, arith, refl, ap, subst, ◌∙◌}
use Rattle.model.specs.Plan.{longest_of}
use Rattle.checker.specs.Code.Known.{key_with, IsListedTo}
use Rattle.checker.proofs.SameFaults.{longest-few}
use Rattle.checker.proofs.KnownLemmas.{listed-full}
use Rattle.checker.proofs.finding.Finder.list_all.Goals as goal

pub longest-end-requires : goal.longest-end-requires
longest-end-requires c =
    let few = longest-few c.args.self.now.plan.now.courses c.courses.ensures.within.courses in
    let same = ap longest_of c.courses.ensures.courses in
    omega (arith, few, same)

pub loop-number-init : goal.loop-number-init
loop-number-init c = (c.in_ok-standing.ensures.standing, c.in_ok-standing.ensures.listed, refl)

pub returns-then-is_full-clause-listed : goal.returns-then-is_full-clause-listed
returns-then-is_full-clause-listed c =
    let p = c.args.self.now.plan.now in
    listed-full c.args.self.now.map.now p (key_with (c.loop-number.number + 1) 0 0 0) (key_with (longest_of p.courses + 1) 0 0 0) c.loop-number.listing c.loop-number.invariant.1
    (c.is_full.ensures.0 c.if-is_full.true)

pub loop-number-preserved : goal.loop-number-preserved
loop-number-preserved c =
    let n = c.loop-number.number in
    let later : n + 2 ≡ n + 1 + 1 = omega arith in (
      c.in_ok-standing-2.ensures.standing,
      subst (λ t. IsListedTo c.args.self.now.map.now c.args.self.now.plan.now (key_with t 0 0 0) c.list_step.new.listing) later c.in_ok-standing-2.ensures.listed,
      c.in_ok-standing-2.ensures.most ∙ c.loop-number.invariant.2,
    )
