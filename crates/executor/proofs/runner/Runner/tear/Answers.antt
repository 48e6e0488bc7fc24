use Rattle.std.proofs.Common.{Some, sym, ap, subst, ◌∙◌, arith}
use Rattle.std.proofs.lemmas.Option.{slice_get-get_or}
use Rattle.model.specs.declared.event.Event.TheVariants.{Tear}
use Rattle.model.specs.Rules.{answer}
use Rattle.executor.specs.Standing.{StandsAt}
use Rattle.executor.proofs.GoesLemmas.{no-agent, tear-refused-on, tear-on}
use Rattle.executor.proofs.runner.Runner.tear.Goals as goal

pub returns-then-index-len-clause-goes : goal.returns-then-index-len-clause-goes
returns-then-index-len-clause-goes c h stands =
    no-agent c.args.self.now h (Tear c.args.agent c.args.stored) stands (let past = c.if-index-len.true in let count = c.len.ensures in let same = c.self.view_is in rw (← same)
    (omega (arith, past, count)))

pub returns-then-stored-gt-RECORD_LENGTH-clause-goes : goal.returns-then-stored-gt-RECORD_LENGTH-clause-goes
returns-then-stored-gt-RECORD_LENGTH-clause-goes c h stands =
    tear-refused-on c.args.self.now h stands c.args.agent c.args.stored (let past = c.if-index-len.false in let count = c.len.ensures in let same = c.self.view_is in rw (← same)
    (omega (arith, past, count))) c.if-stored-gt-RECORD_LENGTH.true

pub returns-clause-goes : goal.returns-clause-goes
returns-clause-goes c h stands =
    let inside = subst (λ r. StandsAt r h) (sym c.self.view_is) stands in
    let there = slice_get-get_or c.self.inside.agents.items c.args.agent c.index_mut.result.now (let past = c.if-index-len.false in let count = c.len.ensures in omega (arith, past, count)) ∙ ap
    (λ a. Some a) (sym c.index_mut.ensures.value) in
    let most = c.if-stored-gt-RECORD_LENGTH.false in
    let found = tear-on _ h inside c.args.agent c.args.stored c.index_mut.result.now c.tear.new.self there (omega (arith, most)) c.tear.ensures.same c.tear.ensures.state c.tear.ensures.armed
    c.tear.ensures.whose in
    (found.0 ∙ ap (λ r. answer r.version r.timetable h (Tear c.args.agent c.args.stored)) c.self.view_is, found.1)
