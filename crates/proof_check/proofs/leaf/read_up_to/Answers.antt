use Rattle.std.proofs.Common.{lit<}
use Rattle.text_io.specs.Source.{source_reader}
use Rattle.proof_check.proofs.leaf.read_up_to.Goals as goal

pub read_line-requires : goal.read_line-requires
read_line-requires g c =
    let read = c.lines.invariant.0 in
    (lit< tt, (c.is_line_due.ensures.0 c.lines-test.true, (source_reader c.args.source.now, read.before, read.taken)))
