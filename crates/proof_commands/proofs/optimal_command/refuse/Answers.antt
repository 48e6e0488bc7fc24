-- The line names the fault, and the ending has its words.
use Rattle.std.proofs.Common.{◌∙◌, inl, inr, ap, subst, sym}
use Rattle.text_io.specs.FaultWords.{words_text}
use Rattle.ending.specs.Ending.{End, end_of, gave_up, rejected}
use Rattle.ending.specs.Rewriting.{EndsByLine}
use Rattle.proof_text.specs.FaultWords.{proof_fault_words}
use Rattle.proof_text.specs.declared.proof_fault.ProofFault.{ProofFault}
use Rattle.proof_commands.specs.OptimalCommand.{EndsUnproved}
use Rattle.proof_commands.specs.ShownText.{refused_line}
use Rattle.proof_commands.proofs.Unproved.{unproved}
use Rattle.proof_commands.proofs.optimal_command.refuse.Goals as goal

pub returns-in-NoSuchAgent : goal.returns-in-NoSuchAgent
returns-in-NoSuchAgent g c =
    let Told : ProofFault → Type 0 = λ fault. EndsUnproved g.W.Write.contents c.args.json c.args.out.now c.tell.new.out (end_of c.tell.result) fault in
    let Ends : End → ProofFault → Type 0 = λ success fault. EndsByLine g.W.Write.contents c.args.out.now c.tell.new.out success (end_of c.tell.result)
    (refused_line c.args.json (words_text (proof_fault_words fault))) in
    let Success : End → Type 0 = λ success. Ends success c.args.fault in
    let Named : ProofFault → Type 0 = λ fault. Ends (rejected (proof_fault_words fault)) fault in
    let named : Named c.args.fault = subst Success (c.rejected-success.ensures ∙ ap rejected c.words.ensures) c.tell.ensures in
    elim c.in-NoSuchAgent.is [
      | inl agent ↦ subst Told (sym agent.1) (subst Named agent.1 named)
      | inr others ↦ elim others [
        | inl cell ↦ subst Told (sym cell.1) (subst Named cell.1 named)
        | inr leaf ↦ subst Told (sym leaf.2) (subst Named leaf.2 named)
      ]
    ]

pub returns-in_default : goal.returns-in_default
returns-in_default g c =
    unproved g.W.Write.contents c.args.json c.args.out.now _ c.args.fault c.in_default.not-NoSuchAgent c.in_default.not-OffMap c.in_default.not-LeafTooLow
    (c.gave_up.ensures ∙ ap gave_up c.words-in_default.ensures)
