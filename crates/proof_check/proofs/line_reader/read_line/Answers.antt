-- The line as it was taken.
use Rattle.std.proofs.Common.{◌++◌, ◌∷◌, [], take, arith, length-append, length-take}
use Rattle.std.proofs.lemmas.Result.{err_from_is_err_and}
use Rattle.text_io.specs.Reading.{by_line_feed}
use Rattle.proof_text.specs.Laws.RightLines.{leads_on}
use Rattle.proof_text.specs.Laws.Reading.{refused_proof_line, unfinished_proof, long_proof_line, failed_in_proof}
use Rattle.proof_check.specs.Code.Progressing.{due_of}
use Rattle.proof_check.proofs.line_reader.read_line.Goals as goal

pub slice_bounds-room-end : goal.slice_bounds-room-end
slice_bounds-room-end g c =
    let so_far = c.requires.taken in
    let t = c.in-WithLineFeed.ensures.taken so_far.0 so_far.1 so_far.2 in
    t.in_room

pub slice_bounds-add_line-end : goal.slice_bounds-add_line-end
slice_bounds-add_line-end g c =
    let so_far = c.requires.taken in
    let t = c.in-WithLineFeed.ensures.taken so_far.0 so_far.1 so_far.2 in
    omega (arith, t.in_room, length-take c.in-WithLineFeed.count c.take_line.new.room)

pub returns-in_err-add_line-in-WithLineFeed-clause-reads : goal.returns-in_err-add_line-in-WithLineFeed-clause-reads
returns-in_err-add_line-in-WithLineFeed-clause-reads g c = λ m ends first read.
    let p = err_from_is_err_and c.from_residual.result c.from_residual.ensures.1 in
    rw (p.1, p.2) (refused_proof_line g.R.Read.remaining _ _ m ends read.before c.take_line.new.room c.in-WithLineFeed.count
    (due_of c.args.progress.now) c.args.number _ read.next
    (c.in-WithLineFeed.ensures.taken first read.before read.taken) read.right (c.in_err-add_line-in-WithLineFeed.ensures m ends read.progress))

pub returns-in_ok-add_line-in-WithLineFeed-clause-reads : goal.returns-in_ok-add_line-in-WithLineFeed-clause-reads
returns-in_ok-add_line-in-WithLineFeed-clause-reads g c = λ m ends first read.
    let t = c.in-WithLineFeed.ensures.taken first read.before read.taken in
    let line = take c.in-WithLineFeed.count c.take_line.new.room in
    let added = c.in_ok-add_line-in-WithLineFeed.ensures m ends read.progress in
    record {
      before = read.before ++ line ∷ [];
      taken = t.taken;
      progress = added.0;
      right = leads_on m ends _ read.before _ line _ read.right added.1;
      next = omega (arith, c.saturating_add.ensures, read.next, length-append read.before (line ∷ []));
    }

pub returns-in-AtEnd-clause-reads : goal.returns-in-AtEnd-clause-reads
returns-in-AtEnd-clause-reads g c = λ m ends first read.
    unfinished_proof g.R.Read.remaining _ _ m ends read.before c.take_line.new.room c.in-AtEnd.field-0 (due_of c.args.progress.now)
    c.args.number read.next (omega (arith, c.take_line.auto.room)) (c.in-AtEnd.ensures.taken first read.before read.taken) read.right
    c.requires.due

pub returns-in-TooLong-clause-reads : goal.returns-in-TooLong-clause-reads
returns-in-TooLong-clause-reads g c = λ m ends first read.
    long_proof_line g.R.Read.remaining _ _ m ends read.before c.take_line.new.room (due_of c.args.progress.now)
    c.args.number read.next (omega (arith, c.take_line.auto.room)) (c.in-TooLong.ensures.taken first read.before read.taken) read.right
    c.requires.due

pub returns-in-Failed-clause-reads : goal.returns-in-Failed-clause-reads
returns-in-Failed-clause-reads g c = λ m ends first read.
    failed_in_proof g.R.Read.remaining _ _ m ends (c.places.ensures.stands by_line_feed) (c.places.ensures.last by_line_feed)
    c.leaves.ensures.not_both read.before c.take_line.new.room (due_of c.args.progress.now) (omega (arith, c.take_line.auto.room))
    (c.in-Failed.ensures.taken first read.before read.taken) read.right c.requires.due
