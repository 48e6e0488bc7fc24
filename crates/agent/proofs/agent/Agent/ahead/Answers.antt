use Rattle.std.proofs.Common.{◌≡◌, ◌+◌, ◌<◌, ◌≤◌, ℕ, false, None, sym, ap, subst, ◌∙◌, arith}
use Rattle.std.specs.Prelude.{is_some}
use Rattle.model.specs.Dependency.{need}
use Rattle.model.specs.Timetable.{moves}
use Rattle.agent.specs.Agents.{state_of}
use Rattle.agent.specs.States.{begun_moves, waits_for}
use Rattle.agent.proofs.AheadLemmas.{free-up-to, free-to-end, WaitForNobody}
use Rattle.agent.proofs.agent.Agent.ahead.Goals as goal

pub returns-then-is_some-clause-looks : goal.returns-then-is_some-clause-looks
returns-then-is_some-clause-looks g c tt is =
    let s = state_of g.T.Tape.state c.args.self.now in
    let i = c.args.self.now.part.agent in
    let whole : s.broken ≡ false = sym (ap (λ a. a.broken) c.self.view_is) ∙ c.if-self.false in
    let begun : c.begun-begun.result ≡ begun_moves s = c.begun-begun.ensures.begun in
    let all : c.moves-2.result ≡ moves is.track = c.moves-2.ensures ∙ is.need_count in
    let least = c.min-left.ensures in
    let less = c.moves-test.true in
    let free : WaitForNobody tt i is.track s c.moves.count = subst (λ b. (n : ℕ) → n < c.moves.count → waits_for s.heard (need tt i is.track (b + n)) ≡ None) begun (c.moves.invariant.free tt is) in
    let waits : c.waits.result ≡ waits_for s.heard (need tt i is.track (begun_moves s + c.moves.count)) = c.waits.ensures tt is ∙ ap (λ b. waits_for s.heard (need tt i is.track (b + c.moves.count)))
    begun in (
      is.track,
      is.is_track,
      free-up-to tt i is.track s whole c.args.most c.moves.count (omega (arith, least, less)) (omega (arith, least, less, begun, all)) free
          (omega (arith, least, less, begun, all)) (sym (ap is_some waits) ∙ sym c.is_some.ensures ∙ c.if-is_some.true),
    )

pub returns-clause-looks : goal.returns-clause-looks
returns-clause-looks g c tt is =
    let s = state_of g.T.Tape.state c.args.self.now in
    let i = c.args.self.now.part.agent in
    let whole : s.broken ≡ false = sym (ap (λ a. a.broken) c.self.view_is) ∙ c.if-self.false in
    let begun : c.begun-begun.result ≡ begun_moves s = c.begun-begun.ensures.begun in
    let all : c.moves-2.result ≡ moves is.track = c.moves-2.ensures ∙ is.need_count in
    let least = c.min-left.ensures in
    let over = c.moves-test.false in
    let end = c.moves.auto.count-end in
    let free : WaitForNobody tt i is.track s c.moves.count = subst (λ b. (n : ℕ) → n < c.moves.count → waits_for s.heard (need tt i is.track (b + n)) ≡ None) begun (c.moves.invariant.free tt is) in
    let same : c.moves.count ≡ c.min-left.result = omega (arith, over, end) in
    let limit = c.begun-begun.ensures.within.size.limit in
    let fits : begun_moves s ≤ moves is.track = omega (arith, limit, is.need_count) in (
      is.track,
      is.is_track,
      free-to-end tt i is.track s whole c.args.most c.min-left.result (omega (arith, least)) (omega (arith, least, begun, all, fits))
          (subst (WaitForNobody tt i is.track s) same free) (λ more. omega (arith, least, begun, all, fits, more)),
    )
