-- Each turn writes the two digits of the next byte.
use Rattle.std.proofs.Common.{arith, ◌∙◌}
use Rattle.std.proofs.lemmas.List.{length-set}
use Rattle.hex.specs.Hex.{lower_digits}
use Rattle.hex.proofs.Pairs.{encode_step, encode_done}
use Rattle.event_text.proofs.reply_writer.digits_of.Goals as goal

pub bytes-preserved : goal.bytes-preserved
bytes-preserved c =
    let room = c.bytes.invariant.0 in
    let count = c.requires in (
      length-set _ _ _ ∙ (length-set _ _ _ ∙ room),
      encode_step lower_digits c.args.bytes.now c.bytes.digits c.bytes.i _ _ (omega (arith, count)) (omega (arith, room)) c.digit.ensures c.digit-in-bytes.ensures
          c.bytes.invariant.1,
    )

pub returns : goal.returns
returns c =
    let room = c.bytes.invariant.0 in
    let count = c.requires in
    encode_done lower_digits _ _ c.bytes.i (omega (arith, count)) (omega (arith, room, count)) c.bytes.invariant.1
