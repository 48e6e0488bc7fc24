-- What was put is handed on, and so written.
use Rattle.std.proofs.Common.{ℕ, List, true, false}
use Rattle.text_io.specs.Sink.{Puts, Breaks}
use Rattle.text_io.specs.Source.{source_reader}
use Rattle.runner.specs.Completing.{CompletesEvents}
use Rattle.runner.proofs.HandingLemmas.{written}
use Rattle.runner.proofs.EndingLemmas.{all_handed_on, not_all_handed_on, broken_off}
use Rattle.runner.proofs.ReplyLemmas.{Wrote}
use Rattle.runner.proofs.completing.complete_all.Goals as goal

pub returns-clause-completes : goal.returns-clause-completes
returns-clause-completes g c =
    let contents = g.W.Write.contents in
    let first = c.args.sink.now in
    let put = c.complete_events-answer.new.sink in
    let last = c.hand_on.new.sink in
    let left = g.E.Read.remaining in
    let old = source_reader c.args.source.now in
    let new = source_reader c.complete_events-answer.new.source in
    let tt = c.args.graph.now in
    let whole = Puts contents first put in
    let broken = Breaks contents first put in
    let all = λ (text : List ℕ). Wrote contents first last text true in
    let part = λ (text : List ℕ). Wrote contents first last text false in
    written contents first put last (CompletesEvents left tt old new) c.requires.none_held
    (all_handed_on left tt old new whole broken all part)
    (not_all_handed_on left tt old new whole broken all part)
    (broken_off left tt old new whole broken all part)
    c.complete_events-answer.result c.hand_on.result c.complete_events-answer.ensures.completes c.hand_on.ensures.handed
