-- The bytes before an LF lie in what is at hand, and in the room.
use Rattle.std.proofs.Common.{sym, ◌∙◌, length-take-le}
use Rattle.text_io.specs.Text.{is_line_byte}
use Rattle.text_io.specs.Laws.Runs.{run_in_bytes, run_at_most}
use Rattle.text_io.proofs.source.Source.take_part.Goals as goal

pub slice_bounds-copy_from_slice-end : goal.slice_bounds-copy_from_slice-end
slice_bounds-copy_from_slice-end g c = run_at_most is_line_byte c.at_hand-bytes.result.now _ _ _ c.min-most.ensures c.line_len-count.ensures

pub slice_bounds-copy_from_slice-end-2 : goal.slice_bounds-copy_from_slice-end-2
slice_bounds-copy_from_slice-end-2 g c =
    sym (length-take-le c.line_len-count.result c.args.room.now
    (run_at_most is_line_byte c.at_hand-bytes.result.now _ _ _ c.min-most.ensures c.line_len-count.ensures))

pub slice_bounds-copy_from_slice-end-3 : goal.slice_bounds-copy_from_slice-end-3
slice_bounds-copy_from_slice-end-3 g c =
    sym (length-take-le c.line_len-count.result c.at_hand-bytes.result.now
    (run_in_bytes is_line_byte c.at_hand-bytes.result.now _ _ _ c.min-most.ensures c.line_len-count.ensures))

pub copy_from_slice-requires : goal.copy_from_slice-requires
copy_from_slice-requires g c =
    length-take-le c.line_len-count.result c.args.room.now
    (run_at_most is_line_byte c.at_hand-bytes.result.now _ _ _ c.min-most.ensures c.line_len-count.ensures)
    ∙ sym (length-take-le c.line_len-count.result c.at_hand-bytes.result.now
    (run_in_bytes is_line_byte c.at_hand-bytes.result.now _ _ _ c.min-most.ensures c.line_len-count.ensures))
