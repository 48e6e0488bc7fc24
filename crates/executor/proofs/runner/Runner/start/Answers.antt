use Rattle.std.proofs.Common.{◌≡◌, ◌∷◌, Some, set, sym, ap, subst, ◌∙◌, arith}
use Rattle.std.proofs.lemmas.Option.{slice_get-get_or}
use Rattle.model.specs.declared.event.Event.TheVariants.{Start}
use Rattle.model.specs.Rules.{answer}
use Rattle.executor.specs.Standing.{StandsAt}
use Rattle.executor.proofs.GoesLemmas.{no-agent, start-on}
use Rattle.executor.proofs.runner.Runner.start.Goals as goal

pub returns-then-index-len-clause-goes : goal.returns-then-index-len-clause-goes
returns-then-index-len-clause-goes c h stands =
    no-agent c.args.self.now h (Start c.args.agent) stands (let past = c.if-index-len.true in let count = c.len.ensures in let same = c.self.view_is in rw (← same) (omega (arith, past, count)))

pub returns-clause-goes : goal.returns-clause-goes
returns-clause-goes c h stands =
    let inside = subst (λ r. StandsAt r h) (sym c.self.view_is) stands in
    let there = slice_get-get_or c.self.inside.agents.items c.args.agent c.index_mut.result.now (let past = c.if-index-len.false in let count = c.len.ensures in omega (arith, past, count)) ∙ ap
    (λ a. Some a) (sym c.index_mut.ensures.value) in
    let found = start-on _ h inside c.args.agent c.index_mut.result.now c.start.new.self there c.start.result c.start.ensures.starts in
    subst (λ r. (r ≡ answer c.args.self.now.version c.args.self.now.timetable h (Start c.args.agent))
    × StandsAt (record {
      timetable = c.self.inside.graph.now;
      version = c.self.inside.said.version;
      agents = set c.self.inside.agents.items c.args.agent c.start.new.self;
      messages =
          c.self.inside.said.messages;
    }) (record { event = Start c.args.agent; answer = r } ∷ h))
    (sym c.reply_to_start.ensures)
    (found.0 ∙ ap (λ r. answer r.version r.timetable h (Start c.args.agent)) c.self.view_is, found.1)
