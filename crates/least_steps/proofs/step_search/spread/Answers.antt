-- The places of the next wave waited.
use Rattle.std.proofs.Common.{subst, sym}
use Rattle.least_steps.specs.Code.Waiting.{AreSound, IsSearchFrom}
use Rattle.least_steps.proofs.WaitingLemmas.{with-wave}
use Rattle.least_steps.proofs.step_search.spread.Goals as goal

pub settle-requires-clause-sound : goal.settle-requires-clause-sound
settle-requires-clause-sound c =
    subst (AreSound c.loop.reached) (sym c.deref.ensures.value) (λ p there. c.loop.invariant.search.sound p (c.next_wave.ensures.wave p there))

pub settle-requires-clause-search : goal.settle-requires-clause-search
settle-requires-clause-search c =
    subst (λ l. IsSearchFrom c.loop.reached c.next_wave.new.self 0 l c.args.goal) (sym c.deref.ensures.value)
    (with-wave c.loop.reached c.loop.waiting c.next_wave.new.self c.next_wave.new.wave.items c.args.goal c.loop.invariant.search c.next_wave.ensures.keeps
    c.next_wave.ensures.only)
