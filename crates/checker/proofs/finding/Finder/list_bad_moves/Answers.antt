-- One agent more: its move isn't bad, or its fault is listed.
use Rattle.std.proofs.Common.{◌+◌, ◌≤◌, length, sym, ap, subst, ◌∙◌}
use Rattle.std.proofs.lemmas.Bool.{false≢true}
use Rattle.checker.specs.Code.Known.{key_with, IsListedTo}
use Rattle.checker.proofs.KnownLemmas.{listed-skip}
use Rattle.checker.proofs.RankLemmas.{rank-gap}
use Rattle.checker.proofs.SingleLemmas.{course_read, good-move, bad-move}
use Rattle.checker.proofs.finding.Finder.list_bad_moves.Goals.{then-is_bad_move+in_ok-push, else-is_bad_move}
use Rattle.checker.proofs.finding.Finder.list_bad_moves.Goals as goal

pub is_bad_move-requires : goal.is_bad_move-requires
is_bad_move-requires c =
    let p = c.args.self.now.plan.now in
    let i = c.loop-agent.agent in
    let course = c.index-courses-agent.result in
    let there = course_read p.courses c.courses-courses.result.now i course c.courses-courses.ensures.courses c.loop-agent-test.true c.index-courses-agent.is in
    record { from = c.requires.steps.from i course there; to = c.requires.steps.to i course there }

pub loop-agent-preserved : goal.loop-agent-preserved
loop-agent-preserved c =
    let m = c.args.self.now.map.now in
    let p = c.args.self.now.plan.now in
    let n = c.args.number in
    let i = c.loop-agent.agent in
    let course = c.index-courses-agent.result in
    let there = course_read p.courses c.courses-courses.result.now i course c.courses-courses.ensures.courses c.loop-agent-test.true c.index-courses-agent.is in
    elim c.if-is_bad_move.branch [
      | then-is_bad_move+in_ok-push w ↦ (
        subst (λ l. IsListedTo m p (key_with (n + 1) 0 (i + 1) 0) l) (sym w.listing-is)
            (bad-move m p i course there n c.loop-agent.listing w.push.new.self c.loop-agent.invariant.0 w.in_ok-push.ensures.most w.in_ok-push.ensures.faults
            (c.is_bad_move.ensures.0 w.if-is_bad_move.true)),
        ap (λ l. l.most) w.listing-is ∙ w.in_ok-push.ensures.most ∙ c.loop-agent.invariant.1,
      )
      | else-is_bad_move w ↦ (
        subst (λ l. IsListedTo m p (key_with (n + 1) 0 (i + 1) 0) l) (sym w.listing-is)
            (good-move m p i course there n c.loop-agent.listing c.loop-agent.invariant.0 (λ bad. false≢true (sym w.if-is_bad_move.false ∙ c.is_bad_move.ensures.1 bad))),
        ap (λ l. l.most) w.listing-is ∙ c.loop-agent.invariant.1,
      )
    ]

pub returns-clause-listed : goal.returns-clause-listed
returns-clause-listed c =
    let m = c.args.self.now.map.now in
    let p = c.args.self.now.plan.now in
    let i = c.loop-agent.agent in
    let past : length p.courses ≤ i = subst (λ l. length l ≤ i) c.courses-courses.ensures.courses c.loop-agent-test.false in
    listed-skip m p (key_with (c.args.number + 1) 0 i 0) (key_with (c.args.number + 1) 1 0 0) c.loop-agent.listing c.loop-agent.invariant.0 (rank-gap m p (c.args.number + 1) 0 i past)
