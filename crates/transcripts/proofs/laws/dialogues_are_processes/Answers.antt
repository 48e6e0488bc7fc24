use Rattle.std.proofs.Common.{◌≡◌, ℕ, ◌*◌, ◌≤◌, Bool, List, [], ◌∷◌, ◌++◌, length, drop, get_or, Some, None, Err, inr, refl, sym, ap, subst, ◌∙◌, arith, length-append}
use Rattle.std.specs.Prelude.{Option, MatchOption}
use Rattle.std.proofs.lemmas.Option.{same_Some}
use Rattle.model.specs.Timetable.{Track, Timetable, moves, track_of}
use Rattle.agent.specs.Agents.{AgentOn, state_of}
use Rattle.agent.specs.Opening.{IsOpened}
use Rattle.agent.specs.States.{State}
use Rattle.agent.specs.Tape.{TapeState, whole_records}
use Rattle.agent.specs.declared.counters.Counter.{Counter}
use Rattle.fleet.specs.Deeds.{Deed}
use Rattle.robot.specs.Turns.{state_line}
use Rattle.robot.specs.declared.talk_fault.TalkFault.TheVariants.{WriteFailed}
use Rattle.transcripts.specs.Processes.{on_tape, AreAllAnsweredSo, IsProcess}
use Rattle.transcripts.proofs.Growing.{same-records}
use Rattle.transcripts.proofs.DialogueLemmas.{dialogue-answers, as-many, last-of, turn-at, cut-between, cut-within}
use Rattle.transcripts.proofs.laws.dialogues_are_processes.Goals as goal

-- an agent whose tape was just opened
module _ {T : Type 0} (seen : T → TapeState) (may_read : T → ℕ → Bool → List ℕ → T → Type 0) (table : Timetable) (i : ℕ) (tape : T) (agent : AgentOn T)
    (opened : IsOpened seen may_read table i tape agent)
  where
    opened-on : state_of seen agent ≡ on_tape (whole_records (seen tape))
    opened-on =
        ap {A = ℕ} {B = State} (λ n. record { records = n; heard = agent.heard; broken = agent.broken })
        (ap (λ l. whole_records (record { contents = l; room = 0; failures = 0 })) opened.contents)
        ∙ ap {A = List Counter} {B = State} (λ l. record { records = whole_records (seen tape); heard = l; broken = agent.broken }) opened.heard
        ∙ ap {B = State} (λ b. record { records = whole_records (seen tape); heard = []; broken = b }) opened.broken

    within-of : (track : Track) → track_of table i ≡ Some track → whole_records (seen tape) ≤ 2 * moves track
    within-of track there =
        let size = ap moves (same_Some opened.track track (sym opened.is_track ∙ there)) in
        let limit = opened.size.limit in
        omega (arith, size, limit)

-- of lines that were all answered the last answer was not written whole
module _ (i n : ℕ) (by : Timetable) (first : List ℕ) (track : Track) (there : track_of by i ≡ Some track) (within : n ≤ 2 * moves track) (is_first : first ≡ state_line track (on_tape n))
    (lines texts : List (List ℕ)) (deeds : List Deed) (new : State) (answered : AreAllAnsweredSo by i track (on_tape n) lines texts deeds new)
  where
    abbrev CutOff : List (List ℕ) → Type 0
    CutOff before =
        (left : List (List ℕ)) × (begun : Option (List ℕ)) × (done : List Deed) × MatchOption begun (lines ≡ left) (λ line. lines ≡ left ++ line ∷ [])
        × IsProcess i n (record { by = by; lines = left; texts = before; begun = begun }) done new.records

    nothing-answered : (l t : List (List ℕ)) → t ≡ [] → AreAllAnsweredSo by i track (on_tape n) l t deeds new → (l ≡ []) × (new.records ≡ n)
    nothing-answered [] [] none (nothing, same) = (refl, ap (λ s. s.records) same)
    nothing-answered [] (text ∷ t) none never = absurd never
    nothing-answered (line ∷ l) [] none never = absurd never
    nothing-answered (line ∷ l) (text ∷ t) none all = absurd cc

    cut-off : (before : List (List ℕ)) (last : List ℕ) → first ∷ texts ≡ before ++ last ∷ [] → CutOff before
    cut-off [] last are =
        let none = nothing-answered lines texts (ap (drop 1) are) answered in
        ([], None, [], none.0, (refl, refl, none.1))
    cut-off (head ∷ answers) last are =
        let rest : texts ≡ answers ++ last ∷ [] = ap (drop 1) are in
        let same : first ≡ head = ap (λ l. get_or l 0 []) are in
        let many = as-many by i track lines texts (on_tape n) new deeds answered in
        let size = ap length rest in
        let longer = length-append answers (last ∷ []) in
        let end = last-of lines (length answers) (omega (arith, many, size, longer)) in
        let all = subst (λ l. AreAllAnsweredSo by i track (on_tape n) l (answers ++ last ∷ []) deeds new) end.are
        (subst (λ l. AreAllAnsweredSo by i track (on_tape n) lines l deeds new) rest answered) in
        let turn = turn-at by i track end.before answers [] [] end.line last (on_tape n) new deeds end.many all in
        let ended : new.records ≡ turn.next.records = same-records turn.next new turn.after.1 in
        let cut = cut-within i n by first track there within is_first end.before answers end.line last [] [] new turn new.records (inr ended) in (
          end.before,
          Some end.line,
          cut.deeds,
          end.are,
          subst (λ f. IsProcess i n (record { by = by; lines = end.before; texts = f ∷ answers; begun = Some end.line }) cut.deeds new.records) same cut.is,
        )

pub returns-clause-whole : goal.returns-clause-whole
returns-clause-whole g c heeds table i tape old new old_in new_in old_out new_out result led opened =
    let n = whole_records (g.T.Tape.state tape) in
    let same : state_of g.T.Tape.state old ≡ on_tape n = opened-on g.T.Tape.state g.T.Tape.may_read table i tape old opened in
    let here = opened.id in
    let there = subst (λ j. track_of table j ≡ Some led.track) here led.is_track in
    let answered = subst (λ j. AreAllAnsweredSo table j led.track (state_of g.T.Tape.state old) led.lines led.texts led.deeds (state_of g.T.Tape.state new)) here
    (dialogue-answers table old.part.agent led.track heeds led.lines led.texts (state_of g.T.Tape.state old) (state_of g.T.Tape.state new) led.deeds result led.answers led.does) in
    let cut = cut-between i n table (state_line led.track (state_of g.T.Tape.state old)) led.track there (within-of g.T.Tape.state g.T.Tape.may_read table i tape old opened led.track there)
    (ap (state_line led.track) same) led.lines led.texts led.deeds (state_of g.T.Tape.state new) (whole_records (g.T.Tape.state new.tape))
    (subst (λ s. AreAllAnsweredSo table i led.track s led.lines led.texts led.deeds (state_of g.T.Tape.state new)) same answered) refl in
    (cut.deeds, cut.is)

pub returns-clause-wrote_nothing : goal.returns-clause-wrote_nothing
returns-clause-wrote_nothing g c heeds table i tape old new old_in new_in old_out new_out opened nothing = (
  refl,
  refl,
  ap (λ a. whole_records (g.T.Tape.state a.tape)) nothing.2 ∙ ap (λ l. whole_records (record { contents = l; room = 0; failures = 0 })) opened.contents,
)

pub returns-clause-broken_off : goal.returns-clause-broken_off
returns-clause-broken_off g c heeds table i tape old new old_in new_in old_out new_out led opened =
    let n = whole_records (g.T.Tape.state tape) in
    let same : state_of g.T.Tape.state old ≡ on_tape n = opened-on g.T.Tape.state g.T.Tape.may_read table i tape old opened in
    let here = opened.id in
    let there = subst (λ j. track_of table j ≡ Some led.track) here led.is_track in
    let answered = subst (λ j. AreAllAnsweredSo table j led.track (state_of g.T.Tape.state old) led.lines led.texts led.deeds (state_of g.T.Tape.state new)) here
    (dialogue-answers table old.part.agent led.track heeds led.lines led.texts (state_of g.T.Tape.state old) (state_of g.T.Tape.state new) led.deeds (Err WriteFailed) led.answers led.does) in
    cut-off i n table (state_line led.track (state_of g.T.Tape.state old)) led.track there (within-of g.T.Tape.state g.T.Tape.may_read table i tape old opened led.track there)
    (ap (state_line led.track) same) led.lines led.texts led.deeds (state_of g.T.Tape.state new)
    (subst (λ s. AreAllAnsweredSo table i led.track s led.lines led.texts led.deeds (state_of g.T.Tape.state new)) same answered) led.written.before led.written.last led.written.are
