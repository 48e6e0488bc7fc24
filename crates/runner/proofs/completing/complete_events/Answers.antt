-- The ending is put behind all replies.
use Rattle.std.proofs.lemmas.Result.{err_from_is_err_and}
use Rattle.text_io.specs.Source.{source_reader}
use Rattle.runner.proofs.EndingLemmas.{fault_among_events, put_behind}
use Rattle.runner.proofs.completing.complete_events.Goals as goal

pub returns-in_err-runner-clause-completes : goal.returns-in_err-runner-clause-completes
returns-in_err-runner-clause-completes g c =
    let p = err_from_is_err_and c.from_residual.result c.from_residual.ensures.1 in
    rw (p.1, p.2) (fault_among_events g.E.Read.remaining c.args.graph.now _ _ _ _ c.in_err-runner.field-0.0 c.in_err-runner.ensures.answers)

pub returns-clause-completes : goal.returns-clause-completes
returns-clause-completes g c =
    put_behind g.E.Read.remaining g.W.Write.contents c.args.graph.now (source_reader c.args.source.now) _ c.args.sink.now _ _ c.in_ok-runner.runner
    c.in_ok-runner.ensures.answers c.put_ending.result c.put_ending.ensures.ending
