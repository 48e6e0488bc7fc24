-- The digits end where the piece is to end, so they begin where it ended.
use Rattle.std.proofs.Common.{◌≤◌, ◌≡◌, length, arith, lit<, rules}
use Rattle.std.specs.Prelude.{decimal}
use Rattle.std.proofs.lemmas.Fmt.{length-decimal-le}
use Rattle.text_io.proofs.SinkLemmas.{written_in_place}
use Rattle.text_io.proofs.digits.write_long.Goals as goal

pub overflow_add-end : goal.overflow_add-end
overflow_add-end c =
    let most = length-decimal-le 20 c.args.number (lit< tt) (omega (arith, c.ranges.number.fits)) c.ranges.number.fits in
    let count = c.count_of_digits-count.ensures in
    let room = c.requires in
    omega (arith, most, count, room)

pub slice_bounds-write_digits-end : goal.slice_bounds-write_digits-end
slice_bounds-write_digits-end c =
    let most = length-decimal-le 20 c.args.number (lit< tt) (omega (arith, c.ranges.number.fits)) c.ranges.number.fits in
    let count = c.count_of_digits-count.ensures in
    let room = c.requires in
    omega (arith, most, count, room)

pub returns-clause-within : goal.returns-clause-within
returns-clause-within c =
    let most = length-decimal-le 20 c.args.number (lit< tt) (omega (arith, c.ranges.number.fits)) c.ranges.number.fits in
    let count = c.count_of_digits-count.ensures in
    omega (arith, most, count)

pub returns-clause-written : goal.returns-clause-written
returns-clause-written c =
    let all : c.args.at ≤ length c.args.bytes.now = search rules in
    let own : length c.write_digits.new.buf ≡ c.count_of_digits-count.result = search rules in
    written_in_place c.args.at c.count_of_digits-count.result c.write_digits.result _ c.args.bytes.now c.write_digits.new.buf (decimal c.args.number) _
    all c.count_of_digits-count.ensures c.write_digits.ensures.start c.write_digits.ensures.written own
