use Rattle.std.proofs.Common.{[], ◌∷◌, ◌++◌, refl, subst}
use Rattle.transcripts.specs.Processes.{on_tape, AreAllAnsweredSo, IsProcessWith}
use Rattle.transcripts.proofs.DialogueLemmas.{turn-at, answered-more, cut-between, cut-within}
use Rattle.transcripts.proofs.laws.processes_may_be_killed.Goals as goal

pub returns : goal.returns
returns c i old new process deeds lines later answers rest first line text is same_lines same_texts same =
    let led = subst (λ l. IsProcessWith i old process l deeds new) same_texts is in
    let by = process.by in
    let all = subst (λ l. AreAllAnsweredSo by i led.track (on_tape old) l (answers ++ text ∷ rest) led.done led.last) same_lines led.are_answered in
    let turn = turn-at by i led.track lines answers later rest line text (on_tape old) led.last led.done same all in
    let before = cut-between i old by first led.track led.is_track led.within led.is_first lines answers turn.first turn.mid turn.mid.records turn.before refl in
    let after = cut-between i old by first led.track led.is_track led.within led.is_first (lines ++ line ∷ []) (answers ++ text ∷ []) (turn.first ++ turn.own) turn.next turn.next.records
    (answered-more by i led.track lines answers line text (on_tape old) turn.mid turn.next turn.first turn.own turn.before turn.answered) refl in (
      turn.mid.records,
      turn.next.records,
      (before.deeds, before.is),
      (after.deeds, after.is),
      λ left which. (let cut = cut-within i old by first led.track led.is_track led.within led.is_first lines answers line text later rest led.last turn left which in (cut.deeds, cut.is)),
    )
