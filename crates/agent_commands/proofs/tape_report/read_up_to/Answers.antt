-- A piece more is read.
use Rattle.std.proofs.Common.{◌∙◌}
use Rattle.robot.specs.Laws.Pieces.{reads_more, within_more}
use Rattle.agent_commands.proofs.tape_report.read_up_to.Goals as goal

pub pieces-preserved : goal.pieces-preserved
pieces-preserved g c =
    let before = c.pieces.invariant in
    let now = c.in-Ok.ensures in
    record {
      within = within_more c.pieces.len c.in-Ok.count c.pieces.bytes c.read.new.buf before.within now.bound.0;
      read = reads_more _ _ _ c.pieces.len c.in-Ok.count c.pieces.bytes c.read.new.buf before.within now.bound.0 before.read now.bytes.0;
      failures = now.failures ∙ before.failures;
    }
