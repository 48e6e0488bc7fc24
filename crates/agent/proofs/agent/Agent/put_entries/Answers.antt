use Rattle.std.proofs.Common.{length, sym, ap, ◌∙◌, arith}
use Rattle.std.proofs.lemmas.Option.{slice_get_within}
use Rattle.std.proofs.lemmas.Result.{on_ok_weaker}
use Rattle.model.specs.Messages.{number_told}
use Rattle.model.specs.Laws.Entries.{entries-few}
use Rattle.agent.specs.Counters.{known_in}
use Rattle.agent.proofs.PutLemmas.{few-more}
use Rattle.agent.proofs.agent.Agent.put_entries.Goals as goal
use Rattle.depgraph.specs.Laws.AgentParts.{count-agents, few-agents}

pub returns-clause-few : goal.returns-clause-few
returns-clause-few g c =
    let p = c.self.inside.part in
    let of = c.agents.ensures.within in
    let same = count-agents of.0 p of.2 in
    let there = slice_get_within of.0.tracks p.agent of.2.track of.2.is_track in
    let id = c.id.ensures ∙ sym (ap (λ a. a.part.agent) c.self.view_is) in
    let few = few-agents p of in
    on_ok_weaker c.put_told.result (λ put. few-more c.args.entries.now.items c.put_told.new.entries.items _ (length p.moves)
    (put (length p.moves) (omega (arith, there, same, id)) c.self.invariant.within)
    (entries-few (number_told c.id.result c.done.result (known_in c.self.inside.counters)) 0 (length p.moves))
    few) c.put_told.ensures.put
