-- The line is that of the fault's text, and the ending has its words.
use Rattle.std.proofs.Common.{◌∙◌, List, ℕ, ap, subst}
use Rattle.ending.specs.Ending.{End, end_of, rejected}
use Rattle.ending.specs.Rewriting.{EndsByLine}
use Rattle.check_commands.specs.FaultWords.{check_fault_words}
use Rattle.check_commands.specs.VerdictText.{rejected_line}
use Rattle.check_commands.proofs.verdicts.reject.Goals as goal

pub returns-in-Ok : goal.returns-in-Ok
returns-in-Ok g c =
    let Ends : End → List ℕ → Type 0 = λ success text. EndsByLine g.W.Write.contents c.args.out.now c.tell.new.out success (end_of c.tell.result) (rejected_line c.args.json text) in
    let Success : End → Type 0 = λ success. Ends success c.deref.result.now in
    subst (Ends (rejected (check_fault_words c.args.fault))) (c.deref.ensures ∙ c.in-Ok.ensures.text) (subst Success (c.rejected.ensures ∙ ap rejected c.words.ensures) c.tell.ensures)
