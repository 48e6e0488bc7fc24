use Rattle.robot.specs.Laws.Pieces.{reads_more, within_more}
use Rattle.robot.proofs.disk.read_up_to.Goals as goal

pub pieces-preserved : goal.pieces-preserved
pieces-preserved g c =
    let before = c.pieces.invariant in
    let now = c.in_ok-count.ensures in
    record {
      within = within_more c.pieces.len c.in_ok-count.count c.pieces.bytes c.read.new.buf before.within now.bound.0;
      read = reads_more _ _ _ c.pieces.len c.in_ok-count.count c.pieces.bytes c.read.new.buf before.within now.bound.0 before.read now.bytes.0;
    }
