-- The answer is the turn's, and it was sent.
use Rattle.std.proofs.Common.{refl, sym}
use Rattle.std.proofs.lemmas.Bool.{false≢true}
use Rattle.std.proofs.lemmas.Result.{err_from_is_err_and}
use Rattle.robot.specs.Code.Answering.{answer_line}
use Rattle.robot.proofs.TurnLemmas.{replied-store_failed, stale_turn, store_failed_turn, turn_or_stale, turn_unless_stale}
use Rattle.robot.proofs.talking.reply.Goals as goal

pub returns-in_err-send_answer-clause-replies : goal.returns-in_err-send_answer-clause-replies
returns-in_err-send_answer-clause-replies g c =
    let p = err_from_is_err_and c.from_residual.result c.from_residual.ensures.1 in
    λ table of track text is kept. rw (p.1, p.2) (
      answer_line c.answer_kept-answer.result,
      turn_or_stale _ _ _ track text _ _ c.answer_kept-answer.result (c.answer_kept-answer.ensures.turn table of track text is kept),
      c.in_err-send_answer.ensures.err,
    )

pub returns-then-says_store_failed-clause-replies : goal.returns-then-says_store_failed-clause-replies
returns-then-says_store_failed-clause-replies g c = λ table of track text is kept.
    replied-store_failed g.W.Write.contents _ _ _ track text _ _ _ _ (answer_line c.answer_kept-answer.result) (c.if-says_store_failed.ensures.line.0 refl)
    (store_failed_turn _ _ _ track text _ _ c.answer_kept-answer.result (sym c.if-says_store_failed.ensures.says) (c.answer_kept-answer.ensures.turn table of track text is kept))
    (record { puts = c.in_ok-send_answer.ensures.ok; none_held = c.in_ok-send_answer.ensures.none_held })

pub returns-then-says_stale-clause-replies : goal.returns-then-says_stale-clause-replies
returns-then-says_stale-clause-replies g c = λ table of track text is kept.
    let stale = stale_turn _ _ _ track text _ _ c.answer_kept-answer.result (sym c.if-says_stale.ensures) (c.answer_kept-answer.ensures.turn table of track text is kept) in (
      answer_line c.answer_kept-answer.result,
      stale.0,
      stale.1,
      record { puts = c.in_ok-send_answer.ensures.ok; none_held = c.in_ok-send_answer.ensures.none_held },
    )

pub returns-clause-replies : goal.returns-clause-replies
returns-clause-replies g c = λ table of track text is kept. (
  answer_line c.answer_kept-answer.result,
  turn_unless_stale _ _ _ track text _ _ c.answer_kept-answer.result (sym c.if-says_stale.ensures) (c.answer_kept-answer.ensures.turn table of track text is kept),
  record { puts = c.in_ok-send_answer.ensures.ok; none_held = c.in_ok-send_answer.ensures.none_held },
  λ e. absurd (false≢true (c.if-says_store_failed.ensures.line.1 e)),
)
