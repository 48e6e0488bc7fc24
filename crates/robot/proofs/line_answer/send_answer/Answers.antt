-- Flushing puts nothing.
use Rattle.std.proofs.Common.{[], ◌∷◌, ◌++◌, append-nil}
use Rattle.text_io.specs.Text.{line_feed}
use Rattle.text_io.specs.Laws.Putting.{Breaks-then}
use Rattle.robot.specs.Code.Answering.{answer_line}
use Rattle.robot.proofs.line_answer.send_answer.Goals as goal

pub returns-clause-err : goal.returns-clause-err
returns-clause-err g c =
    Breaks-then g.W.Write.contents _ _ _ (answer_line c.args.answer.now ++ line_feed ∷ []) [] _ c.flush.result (append-nil _)
    c.in_ok-put_answer.ensures.ok c.flush.ensures.err
