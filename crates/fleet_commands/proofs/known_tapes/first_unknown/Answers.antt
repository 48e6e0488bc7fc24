-- One agent more.
use Rattle.std.proofs.Common.{◌≡◌, false, inl, inr, arith, sym, subst, ◌∙◌}
use Rattle.std.proofs.lemmas.Bool.{cases_lt}
use Rattle.fleet_commands.specs.HandoverCommand.{is_unknown}
use Rattle.fleet_commands.proofs.known_tapes.first_unknown.Goals as goal

pub loop-agent-preserved : goal.loop-agent-preserved
loop-agent-preserved c =
    let agent = c.loop-agent.agent in
    record {
      known = λ i less. elim (cases_lt i agent) [
        | inl before ↦ c.loop-agent.invariant.known i before
        | inr past ↦ subst (λ n. is_unknown c.args.without c.args.found.now n ≡ false) (omega (arith, less, past)) (sym c.is_unknown.ensures ∙ c.if-is_unknown.false)
      ];
    }

pub returns-then-is_unknown : goal.returns-then-is_unknown
returns-then-is_unknown c = record {
  there = c.loop-agent-test.true;
  unknown = sym c.is_unknown.ensures ∙ c.if-is_unknown.true;
  first = c.loop-agent.invariant.known;
}

pub returns : goal.returns
returns c = λ i less. c.loop-agent.invariant.known i (let past = c.loop-agent-test.false in omega (arith, less, past))
