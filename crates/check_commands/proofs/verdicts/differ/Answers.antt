-- The difference is the one fault of the list.
use Rattle.std.proofs.Common.{◌∙◌, ◌∷◌, [], ap, false, inl}
use Rattle.ending.specs.Ending.{rejected}
use Rattle.fitting.specs.FaultWords.{fit_fault_words}
use Rattle.check_commands.specs.CheckCommand.{named_by}
use Rattle.check_commands.specs.FaultsText.{faults_text, of_fit}
use Rattle.check_commands.proofs.EndingLemmas.{ended}
use Rattle.check_commands.proofs.verdicts.differ.Goals as goal

pub returns-in-Some : goal.returns-in-Some
returns-in-Some g c =
    let fault = c.args.fault in
    let wrote = ended g.W.Write.contents c.args.out.now c.write_only-written.new.writer c.finish.new.out (faults_text c.args.terms.now.json (of_fit fault ∷ []) c.named_by.result false)
    (faults_text c.args.terms.now.json (of_fit fault ∷ []) (named_by fault) false) _ _ (rejected (fit_fault_words fault)) _
    (c.rejected.ensures ∙ ap rejected c.words.ensures) (ap (λ n. faults_text c.args.terms.now.json (of_fit fault ∷ []) n false) c.named_by.ensures)
    c.write_only-written.ensures c.finish.ensures in
    rw c.in-Some.is (inl wrote)
