-- One agent more that keeps to its ground.
use Rattle.std.proofs.Common.{◌≡◌, Some, length, arith, inl, inr, refl, sym, ap, subst, ◌∙◌}
use Rattle.std.specs.Prelude.{slice_get}
use Rattle.std.proofs.lemmas.Bool.{cases_lt}
use Rattle.std.proofs.lemmas.Option.{slice_get_read, slice_get_within}
use Rattle.checker.specs.Moving.{KeepsToGround}
use Rattle.checker.proofs.straying.may_stray.Goals as goal

pub loop-agent-preserved : goal.loop-agent-preserved
loop-agent-preserved c = λ i course less there. (
    let courses = c.args.courses.now in
    let n = c.loop-agent.agent in
    let own = slice_get_read courses (length courses) n c.index-courses-agent.result refl c.loop-agent-test.true c.index-courses-agent.is in
    elim (cases_lt i n) [
      | inl before ↦ c.loop-agent.invariant i course before there
      | inr last ↦ (
          let same : n ≡ i = omega (arith, less, last) in
          let one : c.index-courses-agent.result ≡ course =
          (let both : Some c.index-courses-agent.result ≡ Some course = sym own ∙ ap (slice_get courses) same ∙ there in cc) in
          subst (KeepsToGround c.args.map.now) one (c.strays.ensures c.if-strays.false)
          )
    ]
    )

pub returns : goal.returns
returns c = λ none i course there. (
    let is_agent = slice_get_within c.args.courses.now i course there in
    let over = c.loop-agent-test.false in
    c.loop-agent.invariant i course (omega (arith, is_agent, over)) there
    )
