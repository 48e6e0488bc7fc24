use Rattle.std.proofs.Common.{length, rules, sym, subst, ◌∙◌}
use Rattle.agent.specs.Code.Listing.{entries_of}
use Rattle.agent.specs.Counters.{AreWithin}
use Rattle.agent.proofs.TakingLemmas.{raised-within, names-known}
use Rattle.agent.proofs.agent.Agent.take_all.Goals as goal
use Rattle.depgraph.specs.AgentParts.{IsPartOf}
use Rattle.depgraph.specs.Laws.AgentParts.{count-agents}

pub invariant_of-self-2 : goal.invariant_of-self-2
invariant_of-self-2 g c =
    let of = c.number.ensures.within in
    let same = count-agents of.0 c.self.inside.part of.2 in record {
      of_graph = c.self.invariant.of_graph;
      own = c.self.invariant.own;
      within = subst (λ n. AreWithin n c.raise_all.new.self) (sym same)
          (raised-within (length of.0.tracks) c.self.inside.counters c.raise_all.new.self (entries_of c.args.entries) (subst (λ n. AreWithin n c.self.inside.counters) same c.self.invariant.within)
          c.in_ok-raise_all.ensures.raised
          (names-known of.0 (record { sender = c.args.from; entries = entries_of c.args.entries }) (sym (c.refusal_of.ensures of.0 of.2) ∙ c.in_default.is)));
    }

pub returns-in_err-raise_all : goal.returns-in_err-raise_all
returns-in_err-raise_all g c tt is =
    let plan = c.if-plan-number.false in
    let number = c.number.ensures.number in
    let own = is.number in
    let refusal = c.refusal_of.ensures tt (subst (λ a. IsPartOf tt a.part) (sym c.self.view_is) is) in
    search rules
