-- A write takes a beginning of the rest.
use Rattle.std.proofs.Common.{◌++◌, cond, take, sym, ap, ◌∙◌}
use Rattle.std.proofs.KnownBytes.{Appends-trans}
use Rattle.text_io.proofs.SinkLemmas.{rest_after, take-drop-all, not_zero_and}
use Rattle.text_io.specs.Counted.{one_more}
use Rattle.text_io.proofs.sink.send.Goals as goal

pub loop-rest-preserved : goal.loop-rest-preserved
loop-rest-preserved g c =
    let inv = c.loop-rest.invariant in
    let front = inv.0 ++ take c.in-Ok.n c.loop-rest.rest.now in (
      front,
      rest_after _ inv.0 c.loop-rest.rest.now c.in-Ok.n inv.1 ∙ ap (λ l. front ++ l) (sym (take-drop-all c.loop-rest.rest.now c.in-Ok.n)),
      Appends-trans _ _ _ inv.0 _ inv.2 c.in-Ok.ensures.bytes,
      c.in-Ok.ensures.failures ∙ ap (λ b. cond b (one_more c.loop-rest.writer.failures) c.loop-rest.writer.failures) (not_zero_and c.in-Ok.n _ c.in-Ok.n-test.1) ∙ inv.3,
    )
