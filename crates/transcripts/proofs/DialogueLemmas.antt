-- Dialogues as processes, and processes that end sooner.
use Rattle.std.proofs.Common.{◌≡◌, ℕ, zero, suc, ◌+◌, ◌*◌, ◌≤◌, Bool, true, List, [], ◌∷◌, ◌++◌, length, Some, None, Result, Ok, Err, inl, inr, refl, sym, ap, subst, ◌∙◌, arith, append_assoc, append-nil}
use Rattle.std.specs.Prelude.{Option, ◌⊎◌}
use Rattle.grid.specs.declared.cell.Cell.{Cell}
use Rattle.model.specs.Timetable.{Track, Timetable, moves, track_of}
use Rattle.agent.specs.States.{State, finished_moves, held_by_tape, start_refusal, finish_refusal, next_cell, Answers}
use Rattle.agent.specs.declared.refusal.Refusal.{Refusal}
use Rattle.agent.specs.declared.refusal.Refusal.TheVariants.{StoreFailed}
use Rattle.fleet.specs.Deeds.{Deed, opens, starts, finishes, says, tells, hears, holds, looks, ends, ends_starting, ends_finishing, Does, DoesAll}
use Rattle.robot.specs.Dialogue.{AreAnswersTo, IsStaleAnswer, EndStale, AreAnsweredSo}
use Rattle.robot.specs.Requests.{Request, start, finish, say, tell, held, may, hear, AsksFor}
use Rattle.robot.specs.Turns.{state_line, IsCallOf}
use Rattle.robot.specs.declared.talk_fault.TalkFault.{TalkFault}
use Rattle.robot.specs.declared.talk_fault.TalkFault.TheVariants as talk_fault
use Rattle.transcripts.specs.Processes.{on_tape, EndsWhile, IsAnsweredSo, AreAllAnsweredSo, IsProcess}
use Rattle.transcripts.proofs.Growing.{same-records, heard-records}

-- ---- dialogues

module _ (by : Timetable) (i : ℕ) (track : Track) where
  answers-all : (lines texts : List (List ℕ)) (old new : State) (deeds : List Deed) → AreAnswersTo lines texts deeds → DoesAll by i track old deeds new
      → AreAllAnsweredSo by i track old lines texts deeds new
  answers-all [] [] old new deeds are does = (are, subst (λ l. DoesAll by i track old l new) are does)
  answers-all [] (text ∷ texts) old new deeds are does = absurd are
  answers-all (line ∷ lines) [] old new deeds are does = absurd are
  answers-all (line ∷ lines) (text ∷ texts) old new deeds (rest, answer, ending, are) does = elim answer [
    | inl (request, deed, asks, call, is, same) ↦ (
        let all : DoesAll by i track old (deed ∷ rest) new = subst (λ l. DoesAll by i track old l new) same does in (
          all.0,
          deed ∷ [],
          rest,
          inl (inl (request, deed, asks, call, is, refl), (all.0, all.1, refl)),
          answers-all lines texts all.0 new rest are all.2,
          same,
        )
        )
    | inr (nothing, is, same) ↦ (
      old,
      [],
      rest,
      inl (inr (nothing, is, refl), refl),
      answers-all lines texts old new rest are (subst (λ l. DoesAll by i track old l new) same does),
      same,
    )
  ]

  -- lines behind others
  answered-on : (lines texts more_lines more_texts : List (List ℕ)) (old mid new : State) (first second : List Deed) → AreAllAnsweredSo by i track old lines texts first mid
      → AreAllAnsweredSo by i track mid more_lines more_texts second new → AreAllAnsweredSo by i track old (lines ++ more_lines) (texts ++ more_texts) (first ++ second) new
  answered-on [] [] more_lines more_texts old mid new first second (none, same) more =
      subst (λ l. AreAllAnsweredSo by i track old more_lines more_texts (l ++ second) new) (sym none)
      (subst (λ s. AreAllAnsweredSo by i track s more_lines more_texts second new) same more)
  answered-on [] (text ∷ texts) more_lines more_texts old mid new first second never more = absurd never
  answered-on (line ∷ lines) [] more_lines more_texts old mid new first second never more = absurd never
  answered-on (line ∷ lines) (text ∷ texts) more_lines more_texts old mid new first second (next, own, rest, answered, further, are) more = (
    next,
    own,
    rest ++ second,
    answered,
    answered-on lines texts more_lines more_texts next mid new rest second further more,
    ap (λ l. l ++ second) are ∙ append_assoc own rest second,
  )

  -- one line more
  pub answered-more : (lines texts : List (List ℕ)) (line text : List ℕ) (old mid new : State) (first own : List Deed) → AreAllAnsweredSo by i track old lines texts first mid
      → IsAnsweredSo by i track mid line text own new → AreAllAnsweredSo by i track old (lines ++ line ∷ []) (texts ++ text ∷ []) (first ++ own) new
  answered-more lines texts line text old mid new first own before answered =
      answered-on lines texts (line ∷ []) (text ∷ []) old mid new first own before (new, own, [], answered, (refl, refl), sym (append-nil own))

  stale-answers : (heeds : Bool) (lines texts : List (List ℕ)) (old new : State) (deeds : List Deed) → EndStale heeds by i new lines texts deeds → DoesAll by i track old deeds new
      → AreAllAnsweredSo by i track old lines texts deeds new
  stale-answers heeds lines texts old new deeds end does =
      let stale : IsStaleAnswer true by i new end.line end.text = subst (λ h. IsStaleAnswer h by i new end.line end.text) end.stale.heeded end.stale in
      subst (λ l. AreAllAnsweredSo by i track old l texts deeds new) (sym end.are_lines)
      (subst (λ l. AreAllAnsweredSo by i track old (end.before ++ end.line ∷ []) l deeds new) (sym end.are_texts)
      (subst (λ l. AreAllAnsweredSo by i track old (end.before ++ end.line ∷ []) (end.answered ++ end.text ∷ []) l new) (append-nil deeds)
      (answered-more end.before end.answered end.line end.text old new new deeds [] (answers-all end.before end.answered old new deeds end.answers does) (inr (stale, refl, refl)))))

  -- however a dialogue ended, its lines are answered
  pub dialogue-answers : (heeds : Bool) (lines texts : List (List ℕ)) (old new : State) (deeds : List Deed) (result : Result Unit TalkFault)
      → AreAnsweredSo heeds by i new lines texts deeds result → DoesAll by i track old deeds new → AreAllAnsweredSo by i track old lines texts deeds new
  dialogue-answers heeds lines texts old new deeds (Ok done) are does = answers-all lines texts old new deeds are does
  dialogue-answers heeds lines texts old new deeds (Err talk_fault.StaleTape) are does = stale-answers heeds lines texts old new deeds are does
  dialogue-answers heeds lines texts old new deeds (Err talk_fault.WriteFailed) (inl are) does = answers-all lines texts old new deeds are does
  dialogue-answers heeds lines texts old new deeds (Err talk_fault.WriteFailed) (inr are) does = stale-answers heeds lines texts old new deeds are does
  dialogue-answers heeds lines texts old new deeds (Err talk_fault.ReadFailed) are does = answers-all lines texts old new deeds are does
  dialogue-answers heeds lines texts old new deeds (Err talk_fault.StoreFailed) are does = answers-all lines texts old new deeds are does
  dialogue-answers heeds lines texts old new deeds (Err talk_fault.OutOfMemory) are does = answers-all lines texts old new deeds are does

  pub as-many : (lines texts : List (List ℕ)) (old new : State) (deeds : List Deed) → AreAllAnsweredSo by i track old lines texts deeds new → length lines ≡ length texts
  as-many [] [] old new deeds all = refl
  as-many [] (text ∷ texts) old new deeds never = absurd never
  as-many (line ∷ lines) [] old new deeds never = absurd never
  as-many (line ∷ lines) (text ∷ texts) old new deeds (mid, own, rest, answered, more, are) = (let e = as-many lines texts mid new rest more in omega (arith, e))

-- all but the last of some lines
pub record Last (lines : List (List ℕ)) (count : ℕ) : Type 0 where
  pub before : List (List ℕ)
  pub line : List ℕ
  pub are : lines ≡ before ++ line ∷ []
  pub many : length before ≡ count

pub last-of : (lines : List (List ℕ)) (count : ℕ) → length lines ≡ count + 1 → Last lines count
last-of [] count same = absurd (omega (arith, same))
last-of (line ∷ []) count same = record { before = []; line = line; are = refl; many = omega (arith, same) }
last-of (line ∷ next ∷ lines) zero same = absurd (omega (arith, same))
last-of (line ∷ next ∷ lines) (suc count) same =
    let end = last-of (next ∷ lines) count (omega (arith, same)) in
    let many = end.many in
    record { before = line ∷ end.before; line = end.line; are = ap (λ l. line ∷ l) end.are; many = omega (arith, many) }

-- ---- processes that end sooner

-- A turn among others.
pub record Turn (by : Timetable) (i : ℕ) (track : Track) (old : State) (lines texts : List (List ℕ)) (line text : List ℕ) (later rest : List (List ℕ)) (new : State) : Type 0 where
  pub mid : State
  pub next : State
  pub first : List Deed
  pub own : List Deed
  pub last : List Deed
  pub before : AreAllAnsweredSo by i track old lines texts first mid
  pub answered : IsAnsweredSo by i track mid line text own next
  pub after : AreAllAnsweredSo by i track next later rest last new

module _ (by : Timetable) (i : ℕ) (track : Track) where
  pub turn-at : (lines texts later rest : List (List ℕ)) (line text : List ℕ) (old new : State) (deeds : List Deed) → length lines ≡ length texts
      → AreAllAnsweredSo by i track old (lines ++ line ∷ later) (texts ++ text ∷ rest) deeds new → Turn by i track old lines texts line text later rest new
  turn-at [] [] later rest line text old new deeds same (mid, own, more, answered, further, are) =
      record { mid = old; next = mid; first = []; own = own; last = more; before = (refl, refl); answered = answered; after = further }
  turn-at [] (t ∷ texts) later rest line text old new deeds same all = absurd (omega (arith, same))
  turn-at (l ∷ lines) [] later rest line text old new deeds same all = absurd (omega (arith, same))
  turn-at (l ∷ lines) (t ∷ texts) later rest line text old new deeds same (mid, own, more, answered, further, are) =
      let turn = turn-at lines texts later rest line text mid new more (omega (arith, same)) further in
      record {
        mid = turn.mid;
        next = turn.next;
        first = own ++ turn.first;
        own = turn.own;
        last = turn.last;
        before = (mid, own, turn.first, answered, turn.before, refl);
        answered = turn.answered;
        after = turn.after;
      }

  -- a write that succeeded might as well have failed behind its last byte
  torn : (o : Option Refusal) (old new : State) (c : Cell) (answer : Result Cell Refusal) → Answers o old new c answer
      → (new.records ≡ old.records) ⊎ ((end : State) × (end.records ≡ new.records) × Answers o old end c (Err StoreFailed))
  torn (Some why) old new c answer refuses = inl (ap (λ s. s.records) refuses.1)
  torn None old new c answer stores = elim stores.outcome [
    | inl good ↦ inr (record { records = new.records; heard = old.heard; broken = true }, refl, record { heard = refl; outcome = inr (refl, inr good.1, refl) })
    | inr bad ↦ inr (record { records = new.records; heard = old.heard; broken = true }, refl, record { heard = refl; outcome = inr (refl, bad.1, refl) })
  ]

  -- a process that ends at the line may leave what its answer would have left
  abbrev pub MayLeave : State → List ℕ → State → Type 0
  MayLeave old line new = (new.records ≡ old.records) ⊎ ((deed : Deed) × (end : State) × EndsWhile (Some line) deed × Does by i track old deed end × (end.records ≡ new.records))

  leaves-deed : (request : Request) (deed : Deed) (line : List ℕ) (old new : State) → AsksFor request line → IsCallOf request deed → Does by i track old deed new → MayLeave old line new
  leaves-deed start (starts answer) line old new asks call does = elim (torn (start_refusal by i track old) old new (next_cell track old) answer does) [
    | inl same ↦ inl same
    | inr (end, same, stored) ↦ inr (ends_starting, end, inr (inl (asks, refl)), stored, same)
  ]
  leaves-deed finish (finishes answer) line old new asks call does = elim (torn (finish_refusal old) old new (next_cell track old) answer does) [
    | inl same ↦ inl same
    | inr (end, same, stored) ↦ inr (ends_finishing, end, inr (inr (asks, refl)), stored, same)
  ]
  leaves-deed say (says answer) line old new asks call does = inl (same-records old new does.1)
  leaves-deed tell (tells answer) line old new asks call does = inl (same-records old new does.1)
  leaves-deed held (holds what count) line old new asks call does = inl (same-records old new does.2)
  leaves-deed (may most) (looks begun given count) line old new asks call does = inl (same-records old new does.2)
  leaves-deed (hear bytes) (hears given answer) line old new asks call does = inl (heard-records by old new given answer does)
  leaves-deed request deed line old new asks call does = absurd call

  pub leaves-turn : (line text : List ℕ) (old new : State) (own : List Deed) → IsAnsweredSo by i track old line text own new → MayLeave old line new
  leaves-turn line text old new own (inl (inl (request, deed, asks, call, is, same), does)) =
      let all : DoesAll by i track old (deed ∷ []) new = subst (λ l. DoesAll by i track old l new) same does in
      leaves-deed request deed line old new asks call (subst (Does by i track old deed) (sym all.2) all.1)
  leaves-turn line text old new own (inl (inr (nothing, is, same), does)) =
      let kept : DoesAll by i track old [] new = subst (λ l. DoesAll by i track old l new) same does in
      inl (same-records old new kept)
  leaves-turn line text old new own (inr (stale, none, same)) = inl (same-records old new same)

-- a process that had answered these lines when it ended, while it was at this one or at none
pub record Cut (i old : ℕ) (by : Timetable) (lines answers : List (List ℕ)) (first : List ℕ) (begun : Option (List ℕ)) (left : ℕ) : Type 0 where
  pub deeds : List Deed
  pub is : IsProcess i old (record { by = by; lines = lines; texts = first ∷ answers; begun = begun }) deeds left

module _ (i old : ℕ) (by : Timetable) (first : List ℕ) (track : Track) (there : track_of by i ≡ Some track) (within : old ≤ 2 * moves track) (is_first : first ≡ state_line track (on_tape old)) where
  pub cut-at : (lines answers : List (List ℕ)) (done : List Deed) (last end : State) (begun : Option (List ℕ)) (ending : Deed) (left : ℕ)
      → AreAllAnsweredSo by i track (on_tape old) lines answers done last → EndsWhile begun ending → Does by i track last ending end → left ≡ end.records
      → Cut i old by lines answers first begun left
  cut-at lines answers done last end begun ending left answered is leaves same = record {
    deeds = opens (held_by_tape track (on_tape old)) (finished_moves (on_tape old)) ∷ done ++ ending ∷ [];
    is = record {
      track = track;
      is_track = there;
      within = within;
      is_first = is_first;
      done = done;
      last = last;
      are_answered = answered;
      ending = ending;
      is_ending = is;
      end = end;
      leaves = leaves;
      is_new = same;
      are_deeds = refl;
    };
  }

  -- between two requests
  pub cut-between : (lines answers : List (List ℕ)) (done : List Deed) (last : State) (left : ℕ) → AreAllAnsweredSo by i track (on_tape old) lines answers done last → left ≡ last.records
      → Cut i old by lines answers first None left
  cut-between lines answers done last left answered same = cut-at lines answers done last last None ends left answered refl refl same

  -- at a request
  pub cut-within : (lines answers : List (List ℕ)) (line text : List ℕ) (later rest : List (List ℕ)) (new : State) (turn : Turn by i track (on_tape old) lines answers line text later rest new)
      (left : ℕ) → (left ≡ turn.mid.records) ⊎ (left ≡ turn.next.records) → Cut i old by lines answers first (Some line) left
  cut-within lines answers line text later rest new turn left (inl same) =
      cut-at lines answers turn.first turn.mid turn.mid (Some line) ends left turn.before (inl refl) refl same
  cut-within lines answers line text later rest new turn left (inr same) = elim (leaves-turn by i track line text turn.mid turn.next turn.own turn.answered) [
    | inl kept ↦ cut-at lines answers turn.first turn.mid turn.mid (Some line) ends left turn.before (inl refl) refl (same ∙ kept)
    | inr (ending, end, is, leaves, are) ↦ cut-at lines answers turn.first turn.mid end (Some line) ending left turn.before is leaves (same ∙ sym are)
  ]
