-- The digits of the bytes that follow are left.
use Rattle.std.proofs.Common.{length}
use Rattle.hex.specs.Hex.{encode_lower}
use Rattle.text_io.specs.Sink.{Leaves}
use Rattle.event_text.proofs.reply_writer.put_hexadecimal.Given as goal

abbrev pub invariant-loop-rest : goal.invariant-loop-rest
invariant-loop-rest g l = Leaves g.W.Write.contents l.fn.sink l.sink (encode_lower l.bytes) (encode_lower l.rest)

abbrev pub decreases-loop-rest : goal.decreases-loop-rest
decreases-loop-rest g l = length l.rest
