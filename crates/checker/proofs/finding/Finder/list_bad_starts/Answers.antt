-- One agent more: its start is passable, or its fault is listed.
use Rattle.std.proofs.Common.{◌+◌, ◌≤◌, length, sym, ap, subst, ◌∙◌}
use Rattle.std.proofs.lemmas.Bool.{false≢true}
use Rattle.model.specs.Plan.{IsPassable}
use Rattle.checker.specs.Code.Known.{key_with, IsListedTo}
use Rattle.checker.proofs.KnownLemmas.{listed-skip}
use Rattle.checker.proofs.RankLemmas.{rank-gap}
use Rattle.checker.proofs.SingleLemmas.{course_read, good-start, bad-start}
use Rattle.checker.proofs.finding.Finder.list_bad_starts.Goals.{then-not-is_passable+in_ok-push, else-not-is_passable}
use Rattle.checker.proofs.finding.Finder.list_bad_starts.Goals as goal

pub loop-agent-preserved : goal.loop-agent-preserved
loop-agent-preserved c =
    let m = c.args.self.now.map.now in
    let p = c.args.self.now.plan.now in
    let i = c.loop-agent.agent in
    let course = c.index-courses-agent.result in
    let there = course_read p.courses c.courses-courses.result.now i course c.courses-courses.ensures.courses c.loop-agent-test.true c.index-courses-agent.is in
    elim c.if-not-is_passable.branch [
      | then-not-is_passable+in_ok-push w ↦ (
          let bad : IsPassable m course.start → ⊥ = (λ h. false≢true (sym w.if-not-is_passable.true ∙ c.is_passable.ensures.1 (subst (IsPassable m) (sym c.start.ensures) h))) in (
            subst (λ l. IsListedTo m p (key_with 0 0 (i + 1) 0) l) (sym w.listing-is)
                (bad-start m p i course there c.loop-agent.listing w.push.new.self c.loop-agent.invariant.0 w.in_ok-push.ensures.most w.in_ok-push.ensures.faults bad),
            ap (λ l. l.most) w.listing-is ∙ w.in_ok-push.ensures.most ∙ c.loop-agent.invariant.1,
          )
          )
      | else-not-is_passable w ↦ (
        subst (λ l. IsListedTo m p (key_with 0 0 (i + 1) 0) l) (sym w.listing-is)
            (good-start m p i course there c.loop-agent.listing c.loop-agent.invariant.0
            (subst (IsPassable m) c.start.ensures (c.is_passable.ensures.0 w.if-not-is_passable.false))),
        ap (λ l. l.most) w.listing-is ∙ c.loop-agent.invariant.1,
      )
    ]

pub returns-clause-listed : goal.returns-clause-listed
returns-clause-listed c =
    let m = c.args.self.now.map.now in
    let p = c.args.self.now.plan.now in
    let i = c.loop-agent.agent in
    let past : length p.courses ≤ i = subst (λ l. length l ≤ i) c.courses-courses.ensures.courses c.loop-agent-test.false in
    listed-skip m p (key_with 0 0 i 0) (key_with 0 1 0 0) c.loop-agent.listing c.loop-agent.invariant.0 (rank-gap m p 0 0 i past)
