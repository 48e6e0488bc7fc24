-- The rotation is told by itself, or is the one fault of the list.
use Rattle.std.proofs.Common.{◌≡◌, ◌∙◌, ◌∷◌, [], ap, codes, false, inl, is_ok, length, refl}
use Rattle.ending.specs.Ending.{rejected}
use Rattle.text_io.specs.FaultWords.{text_fault}
use Rattle.depgraph.specs.Rotations.{turn_of}
use Rattle.check_commands.specs.FaultsText.{faults_text, of_turn}
use Rattle.check_commands.specs.FaultWords.{turn_words}
use Rattle.check_commands.specs.VerdictText.{rejected_line, turn_text}
use Rattle.check_commands.proofs.EndingLemmas.{ended, wrote_as}
use Rattle.check_commands.proofs.verdicts.turn_back.Goals as goal
use Rattle.check_commands.proofs.verdicts.turn_back.Goals.{in-None, in-Some}

pub returns : goal.returns
returns g c =
    let turn = turn_of c.args.rotation.now in
    let json = c.args.terms.now.json in
    let succeeds = c.rejected.ensures ∙ ap rejected (c.new-words.ensures ∙ ap (λ n. text_fault (codes "Rotation") (n ∷ [])) c.from.ensures) in
    elim c.match-terms.branch [
      | in-None w ↦ (
          let line = rejected_line json (turn_text turn) in
          let wrote = wrote_as g.W.Write.contents c.args.out.now w.write_turn-written.new.writer c.match-terms.out line _ _ w.out-is (ap is_ok w.written-is)
          w.write_turn-written.ensures in
          rw w.in-None.is (inl (ended g.W.Write.contents c.args.out.now c.match-terms.out c.finish.new.out line line _ _ (rejected (turn_words turn)) _ succeeds refl
          wrote c.finish.ensures))
          )
      | in-Some w ↦ (
          let given = faults_text json (of_turn turn ∷ []) (length c.deref-agents.result.now) false in
          let list = faults_text json (of_turn turn ∷ []) (length turn.agents) false in
          let wrote = wrote_as g.W.Write.contents c.args.out.now w.write_only-written.new.writer c.match-terms.out given _ _ w.out-is (ap is_ok w.written-is)
          w.write_only-written.ensures in
          rw w.in-Some.is (inl (ended g.W.Write.contents c.args.out.now c.match-terms.out c.finish.new.out given list _ _ (rejected (turn_words turn)) _ succeeds
          (ap (λ n. faults_text json (of_turn turn ∷ []) n false) (ap length c.deref-agents.ensures.value)) wrote c.finish.ensures))
          )
    ]
