-- Each line as it was read, and what followed the last one.
use Rattle.std.proofs.Common.{arith, lit<}
use Rattle.std.proofs.lemmas.Bool.Decides.{not_from_Decides}
use Rattle.std.proofs.lemmas.Result.{err_from_is_err_and}
use Rattle.text_io.specs.Reading.{by_line_feed}
use Rattle.text_io.specs.Source.{source_reader}
use Rattle.proof_text.specs.Laws.Reading.{ended_proof, failed_after_proof, text_after_proof}
use Rattle.proof_check.specs.Code.Progressing.{due_of}
use Rattle.proof_check.proofs.proof_reader.read_lines.Goals as goal

pub read_line-requires : goal.read_line-requires
read_line-requires g c =
    let read = c.lines.invariant.0 in
    (lit< tt, (c.is_line_due.ensures.0 c.lines-test.true, (source_reader c.args.source.now, read.before, read.taken)))

pub returns-in_err-number-clause-reads : goal.returns-in_err-number-clause-reads
returns-in_err-number-clause-reads g c =
    let p = err_from_is_err_and c.from_residual-in_err-number.result c.from_residual-in_err-number.ensures.1 in
    rw (p.1, p.2) (c.in_err-number.ensures.reads c.args.map.now c.args.ends.items (source_reader c.args.source.now) c.lines.invariant.0)

pub returns-in-AtEnd-clause-reads : goal.returns-in-AtEnd-clause-reads
returns-in-AtEnd-clause-reads g c =
    let read = c.lines.invariant.0 in
    ended_proof g.R.Read.remaining _ _ c.args.map.now c.args.ends.items read.before c.take_line.new.room c.in-AtEnd.field-0 (due_of c.lines.progress)
    _ (omega (arith, c.take_line.auto.room)) (c.in-AtEnd.ensures.taken _ read.before read.taken) read.right
    (c.claim.ensures (not_from_Decides c.is_line_due.result c.is_line_due.ensures c.lines-test.false))

pub returns-in-Failed-clause-reads : goal.returns-in-Failed-clause-reads
returns-in-Failed-clause-reads g c =
    let read = c.lines.invariant.0 in
    failed_after_proof g.R.Read.remaining _ _ c.args.map.now c.args.ends.items (c.places.ensures.stands by_line_feed) (c.places.ensures.last by_line_feed)
    c.leaves.ensures.not_both read.before c.take_line.new.room (due_of c.lines.progress) (omega (arith, c.take_line.auto.room))
    (c.in-Failed.ensures.taken _ read.before read.taken) read.right

pub returns-clause-reads : goal.returns-clause-reads
returns-clause-reads g c =
    let read = c.lines.invariant.0 in
    text_after_proof g.R.Read.remaining _ _ c.args.map.now c.args.ends.items read.before c.take_line.new.room c.take_line.result (due_of c.lines.progress)
    c.lines.number c.in-WithLineFeed.is read.next (omega (arith, c.take_line.auto.room))
    (c.take_line.ensures.taken _ read.before read.taken) read.right (not_from_Decides c.is_line_due.result c.is_line_due.ensures c.lines-test.false)
