-- The texts were read, and the rows that are asked for were judged.
use Rattle.std.proofs.Common.{◌∙◌, ◌<◌, ◌≤◌, ◌⊎◌, List, ap, inl, inr, length, refl, subst, unwrap_or}
use Rattle.scenario.specs.Query.{Query}
use Rattle.ending.specs.Ending.{end_of, gave_up}
use Rattle.text_commands.specs.RowsCommand.{EndsByJudging, EndsUnjudged, rows_between}
use Rattle.text_commands.specs.declared.row_fault.RowFault.TheVariants.{OutOfMemory}
use Rattle.text_commands.specs.Laws.Progress.{shows_nothing}
use Rattle.text_commands.proofs.rows_command.perform.Goals as goal

pub returns-in-Err-clause-progress : goal.returns-in-Err-clause-progress
returns-in-Err-clause-progress g c = shows_nothing g.E.Write.contents c.args.asked.now.progress c.args.err.now

pub returns-in-Err-read_scen-clause-progress : goal.returns-in-Err-read_scen-clause-progress
returns-in-Err-read_scen-clause-progress g c = shows_nothing g.E.Write.contents c.args.asked.now.progress c.args.err.now

pub returns-clause-progress : goal.returns-clause-progress
returns-clause-progress g c = shows_nothing g.E.Write.contents c.args.asked.now.progress c.args.err.now

pub returns-in-Some-clause-answers : goal.returns-in-Some-clause-answers
returns-in-Some-clause-answers g c =
    let asked = c.args.asked.now in
    let end = end_of c.judge_on.result in
    let Ends : List Query → Type 0 = λ rows. EndsUnjudged c.args.out.now c.judge_on.new.out end OutOfMemory
    ⊎ EndsByJudging g.W.Write.contents asked.straight c.in-Ok.map rows (unwrap_or asked.from 0) c.args.out.now c.judge_on.new.out end in
    let Judged : List Query → Type 0 = λ rows. (unwrap_or asked.from 0 ≤ length rows) × Ends (rows_between asked.from asked.to rows) in
    let judged : Judged c.in-Ok-read_scen.scenario = subst Judged c.rows.ensures.rows (c.in-Some.ensures.0, subst Ends c.in-Some.ensures.1 c.judge_on.ensures.ends) in
    inr (c.in-Ok.map, c.in-Ok.ensures, inr (c.in-Ok-read_scen.scenario, c.in-Ok-read_scen.ensures, inr judged))

pub returns-clause-answers : goal.returns-clause-answers
returns-clause-answers g c =
    let few = subst (λ (rows : List Query). length rows < unwrap_or c.args.asked.now.from 0) c.rows.ensures.rows c.in-None.ensures in
    inr (c.in-Ok.map, c.in-Ok.ensures, inr (c.in-Ok-read_scen.scenario, c.in-Ok-read_scen.ensures, inl (few, (c.gave_up-in-None.ensures ∙ ap gave_up c.words-in-None.ensures, refl))))
