-- What was seen up to a moment as a transcript.
use Rattle.std.proofs.Common.{◌≡◌, ℕ, ◌≤◌, List, [], ◌∷◌, ◌++◌, length, get_or, drop, Some, None, inl, inr, refl, sym, ap, subst, ◌∙◌, arith, append_assoc, append-nil}
use Rattle.std.specs.Prelude.{◌⊎◌, Option}
use Rattle.std.specs.List.{flat_map}
use Rattle.std.proofs.lemmas.Bool.{cases_eq}
use Rattle.model.specs.Timetable.{Track, Timetable, track_of}
use Rattle.agent.specs.States.{begun_moves}
use Rattle.fleet.specs.Deeds.{Deed}
use Rattle.transcripts.specs.Processes.{Process, on_tape, AreAllAnsweredSo, IsLedProcess, IsProcessWith, IsProcess, FitsProcess, AreProcesses}
use Rattle.transcripts.specs.Transcripts.{Seen, state_told, line_answered, turns_seen, seen_with, seen_in, Transcript, seen_of, AreAllPassedOn, IsTranscript}
use Rattle.transcripts.proofs.Growing.{grows}
use Rattle.transcripts.proofs.DialogueLemmas.{as-many, turn-at, Cut, cut-at, cut-between, cut-within}
use Rattle.transcripts.proofs.FleetLemmas.{seen-own, seen-other}
use Rattle.transcripts.proofs.ProcessLemmas.{answer-grows, answers-grow}

-- ---- lists

-- where one list ends among two others
abbrev Parts : List Seen → List Seen → List Seen → List Seen → Type 0
Parts first second xs ys = ((rest : List Seen) × (first ≡ xs ++ rest)) ⊎ ((more : List Seen) × (xs ≡ first ++ more) × (second ≡ more ++ ys))

parts-more : (x : Seen) (first second xs ys : List Seen) → Parts first second xs ys → Parts (x ∷ first) second (x ∷ xs) ys
parts-more x first second xs ys (inl (rest, is)) = inl (rest, ap (λ l. x ∷ l) is)
parts-more x first second xs ys (inr (more, is, other)) = inr (more, ap (λ l. x ∷ l) is, other)

parts-of : (first second xs ys : List Seen) → first ++ second ≡ xs ++ ys → Parts first second xs ys
parts-of [] second xs ys same = inr (xs, refl, same)
parts-of (x ∷ first) second [] ys same = inl (x ∷ first, refl)
parts-of (x ∷ first) second (y ∷ xs) ys same =
    let head : x ≡ y = ap (λ l. get_or l 0 x) same in
    subst (λ z. Parts (x ∷ first) second (z ∷ xs) ys) head (parts-more x first second xs ys (parts-of first second xs ys (ap (drop 1) same)))

-- Lines and answers of which these turns are the first.
record FirstTurns (lines answers : List (List ℕ)) (xs rest : List Seen) : Type 0 where
  first_lines : List (List ℕ)
  first_answers : List (List ℕ)
  later : List (List ℕ)
  others : List (List ℕ)
  are_lines : lines ≡ first_lines ++ later
  are_answers : answers ≡ first_answers ++ others
  as_many : length first_lines ≡ length first_answers
  left_many : length later ≡ length others
  are : turns_seen first_lines first_answers ≡ xs
  left : turns_seen later others ≡ rest

first-turns : (lines answers : List (List ℕ)) (xs rest : List Seen) → length lines ≡ length answers → turns_seen lines answers ≡ xs ++ rest → FirstTurns lines answers xs rest
first-turns lines answers [] rest many same = record {
  first_lines = [];
  first_answers = [];
  later = lines;
  others = answers;
  are_lines = refl;
  are_answers = refl;
  as_many = refl;
  left_many = many;
  are = refl;
  left = same;
}
first-turns [] [] (x ∷ xs) rest many same = absurd cc
first-turns [] (text ∷ answers) (x ∷ xs) rest many same = absurd (omega (arith, many))
first-turns (line ∷ lines) [] (x ∷ xs) rest many same = absurd (omega (arith, many))
first-turns (line ∷ lines) (text ∷ answers) (x ∷ xs) rest many same =
    let first = first-turns lines answers xs rest (omega (arith, many)) (ap (drop 1) same) in
    let as_many = first.as_many in
    let head : line_answered line text ≡ x = ap (λ l. get_or l 0 x) same in
    record {
      first_lines = line ∷ first.first_lines;
      first_answers = text ∷ first.first_answers;
      later = first.later;
      others = first.others;
      are_lines = ap (λ l. line ∷ l) first.are_lines;
      are_answers = ap (λ l. text ∷ l) first.are_answers;
      as_many = omega (arith, as_many);
      left_many = first.left_many;
      are = ap (λ l. line_answered line text ∷ l) first.are ∙ ap (λ y. y ∷ xs) head;
      left = first.left;
    }

-- ---- one agent

-- Processes of which this was seen; when it was, the tape had as many records as before the next
-- request, or as behind it.
pub record Moment (Fits : Timetable → ℕ → Track → ℕ → Type 0) (i old : ℕ) (xs : List Seen) (most : ℕ) : Type 0 where
  pub before : ℕ
  pub after : ℕ
  pub rises : before ≤ after
  pub less : after ≤ most
  pub cut : (left : ℕ) → (left ≡ before) ⊎ (left ≡ after) → (processes : List Process) × (done : List Deed) × AreProcesses Fits i old processes done left × (flat_map seen_in processes ≡ xs)

module _ (Fits : Timetable → ℕ → Track → ℕ → Type 0) (i : ℕ) where
  -- nothing was seen
  none-yet : (old most : ℕ) → old ≤ most → Moment Fits i old [] most
  none-yet old most less = record {
    before = old;
    after = old;
    rises = omega arith;
    less = less;
    cut = λ left which. ([], [], elim which [ inl same ↦ (refl, same) | inr same ↦ (refl, same) ], refl);
  }

  one-process : (old : ℕ) (process : Process) (deeds : List Deed) (new : ℕ) → IsProcess i old process deeds new → FitsProcess Fits i process new
      → AreProcesses Fits i old (process ∷ []) deeds new
  one-process old process deeds new is fits = (new, deeds, [], is, fits, (refl, refl), sym (append-nil deeds))

  -- a process that had answered so much
  abbrev FitsAll : Timetable → ℕ → Type 0
  FitsAll by new = (track : Track) (count : ℕ) → track_of by i ≡ Some track → count ≤ begun_moves (on_tape new) → Fits by i track count

  cut-one : (old left new : ℕ) (by : Timetable) (lines answers : List (List ℕ)) (first : List ℕ) (begun : Option (List ℕ)) (xs : List Seen) → Cut i old by lines answers first begun left → left ≤ new
      → FitsAll by new → turns_seen lines answers ≡ xs
      → (processes : List Process) × (done : List Deed) × AreProcesses Fits i old processes done left × (flat_map seen_in processes ≡ state_told first ∷ xs)
  cut-one old left new by lines answers first begun xs cut less fits are =
      let process : Process = record { by = by; lines = lines; texts = first ∷ answers; begun = begun } in (
        process ∷ [],
        cut.deeds,
        one-process old process cut.deeds left cut.is (inr (λ track count there few. fits track count there (omega (arith, few, less)))),
        append-nil (state_told first ∷ turns_seen lines answers) ∙ ap (λ l. state_told first ∷ l) are,
      )

  led-moment : (old new : ℕ) (process : Process) (first : List ℕ) (answers : List (List ℕ)) (deeds : List Deed) (xs rest : List Seen) → IsLedProcess i old process first answers deeds new
      → FitsAll process.by new → turns_seen process.lines answers ≡ xs ++ rest → Moment Fits i old (state_told first ∷ xs) new
  led-moment old new process first answers deeds xs rest led fits same =
      let by = process.by in
      let many = as-many by i led.track process.lines answers (on_tape old) led.last led.done led.are_answered in
      let turns = first-turns process.lines answers xs rest many same in
      let all = subst (λ l. AreAllAnsweredSo by i led.track (on_tape old) l (turns.first_answers ++ turns.others) led.done led.last) turns.are_lines
      (subst (λ l. AreAllAnsweredSo by i led.track (on_tape old) process.lines l led.done led.last) turns.are_answers led.are_answered) in
      by_rest turns.first_lines turns.first_answers turns.later turns.others turns.as_many turns.left_many turns.are all
    where
      at_end : (lines texts : List (List ℕ)) → turns_seen lines texts ≡ xs → AreAllAnsweredSo process.by i led.track (on_tape old) lines texts led.done led.last
          → Moment Fits i old (state_told first ∷ xs) new
      at_end lines texts are all =
          let grown = grows process.by i led.track led.last led.end led.ending led.leaves in
          let is = led.is_new in
          record {
            before = led.last.records;
            after = new;
            rises = omega (arith, grown, is);
            less = omega arith;
            cut = λ left which. elim which [
              | inl before ↦
                  cut-one old left new process.by lines texts first None xs
                  (cut-between i old process.by first led.track led.is_track led.within led.is_first lines texts led.done led.last left all before) (omega (arith, before, grown, is)) fits are
              | inr after ↦
                  cut-one old left new process.by lines texts first process.begun xs
                  (cut-at i old process.by first led.track led.is_track led.within led.is_first lines texts led.done led.last led.end process.begun led.ending left all led.is_ending led.leaves
                  (after ∙ is)) (omega (arith, after)) fits are
            ];
          }

      at_turn : (lines texts later others : List (List ℕ)) (line text : List ℕ) → length lines ≡ length texts → turns_seen lines texts ≡ xs
          → AreAllAnsweredSo process.by i led.track (on_tape old) (lines ++ line ∷ later) (texts ++ text ∷ others) led.done led.last → Moment Fits i old (state_told first ∷ xs) new
      at_turn lines texts later others line text many are all =
          let turn = turn-at process.by i led.track lines texts later others line text (on_tape old) led.last led.done many all in
          let own = answer-grows process.by i led.track turn.mid turn.next line text turn.own turn.answered in
          let further = answers-grow process.by i led.track turn.next led.last later others turn.last turn.after in
          let grown = grows process.by i led.track led.last led.end led.ending led.leaves in
          let is = led.is_new in
          record {
            before = turn.mid.records;
            after = turn.next.records;
            rises = own;
            less = omega (arith, further, grown, is);
            cut = λ left which.
                cut-one old left new process.by lines texts first (Some line) xs
                (cut-within i old process.by first led.track led.is_track led.within led.is_first lines texts line text later others led.last turn left which)
                (within left turn.mid.records turn.next.records led.last.records led.end.records own further grown is which) fits are;
          }
        where
          within : (left mid next last end : ℕ) → mid ≤ next → next ≤ last → last ≤ end → new ≡ end → (left ≡ mid) ⊎ (left ≡ next) → left ≤ new
          within left mid next last end a b c d (inl same) = omega arith
          within left mid next last end a b c d (inr same) = omega arith

      by_rest : (lines texts later others : List (List ℕ)) → length lines ≡ length texts → length later ≡ length others → turns_seen lines texts ≡ xs
          → AreAllAnsweredSo process.by i led.track (on_tape old) (lines ++ later) (texts ++ others) led.done led.last → Moment Fits i old (state_told first ∷ xs) new
      by_rest lines texts [] [] many left are all =
          at_end lines texts are (subst (λ l. AreAllAnsweredSo process.by i led.track (on_tape old) l texts led.done led.last) (append-nil lines)
          (subst (λ l. AreAllAnsweredSo process.by i led.track (on_tape old) (lines ++ []) l led.done led.last) (append-nil texts) all))
      by_rest lines texts [] (text ∷ others) many left are all = absurd (omega (arith, left))
      by_rest lines texts (line ∷ later) [] many left are all = absurd (omega (arith, left))
      by_rest lines texts (line ∷ later) (text ∷ others) many left are all = at_turn lines texts later others line text many are all

  process-moment : (old new : ℕ) (process : Process) (deeds : List Deed) (xs rest : List Seen) → IsProcess i old process deeds new → FitsProcess Fits i process new → old ≤ new
      → seen_in process ≡ xs ++ rest → Moment Fits i old xs new
  process-moment old new process deeds xs rest is fits less same = by_texts process.texts xs is fits same where
    by_texts : (texts : List (List ℕ)) (ys : List Seen) → IsProcessWith i old process texts deeds new
        → (texts ≡ []) ⊎ ((track : Track) (count : ℕ) → track_of process.by i ≡ Some track → count ≤ begun_moves (on_tape new) → Fits process.by i track count)
        → seen_with process.lines texts ≡ ys ++ rest → Moment Fits i old ys new
    by_texts texts [] led fit are = none-yet old new less
    by_texts [] (y ∷ ys) led fit are = absurd cc
    by_texts (first ∷ answers) (y ∷ ys) led (inl none) are = absurd cc
    by_texts (first ∷ answers) (y ∷ ys) led (inr fit) are =
        let head : state_told first ≡ y = ap (λ l. get_or l 0 y) are in
        subst (λ z. Moment Fits i old (z ∷ ys) new) head (led-moment old new process first answers deeds ys rest led fit (ap (drop 1) are))

  process-grows : (old new : ℕ) (process : Process) (deeds : List Deed) → IsProcess i old process deeds new → old ≤ new
  process-grows old new process deeds is = by_texts process.texts is where
    by_texts : (texts : List (List ℕ)) → IsProcessWith i old process texts deeds new → old ≤ new
    by_texts [] (none, nothing, same) = omega (arith, same)
    by_texts (first ∷ answers) led =
        let begun = answers-grow process.by i led.track (on_tape old) led.last process.lines answers led.done led.are_answered in
        let ended = grows process.by i led.track led.last led.end led.ending led.leaves in
        let is = led.is_new in
        omega (arith, begun, ended, is)

  processes-grow : (old new : ℕ) (processes : List Process) (deeds : List Deed) → AreProcesses Fits i old processes deeds new → old ≤ new
  processes-grow old new [] deeds (nothing, same) = omega (arith, same)
  processes-grow old new (process ∷ later) deeds (mid, done, rest, is, fits, more, are) =
      let first = process-grows old mid process done is in
      let others = processes-grow mid new later rest more in
      omega (arith, first, others)

  pub processes-moment : (old new : ℕ) (processes : List Process) (deeds : List Deed) (xs rest : List Seen) → AreProcesses Fits i old processes deeds new → flat_map seen_in processes ≡ xs ++ rest
      → Moment Fits i old xs new
  processes-moment old new [] deeds [] rest (nothing, kept) same = none-yet old new (omega (arith, kept))
  processes-moment old new [] deeds (x ∷ xs) rest all same = absurd cc
  processes-moment old new (process ∷ later) deeds xs rest (mid, done, others, is, fits, more, are) same =
      let first = process-grows old mid process done is in
      let second = processes-grow mid new later others more in
      elim (parts-of (seen_in process) (flat_map seen_in later) xs rest same) [
        | inl (left, here) ↦ (
            let moment = process-moment old mid process done xs left is fits first here in
            let less = moment.less in
            record { before = moment.before; after = moment.after; rises = moment.rises; less = omega (arith, less, second); cut = moment.cut }
            )
        | inr (ys, here, there) ↦ (
            let moment = processes-moment mid new later others ys rest more there in
            record {
              before = moment.before;
              after = moment.after;
              rises = moment.rises;
              less = moment.less;
              cut = λ left which. (
                  let cut = moment.cut left which in (
                    process ∷ cut.0,
                    done ++ cut.1,
                    (mid, done, cut.1, is, fits, cut.2, refl),
                    ap (λ l. seen_in process ++ l) cut.3 ∙ sym here,
                  )
                  );
            }
            )
      ]

-- ---- all agents

seen-both : (later earlier : Transcript) (i : ℕ) → seen_of (later ++ earlier) i ≡ seen_of earlier i ++ seen_of later i
seen-both [] earlier i = sym (append-nil (seen_of earlier i))
seen-both (now ∷ later) earlier i = elim (cases_eq now.agent i) [
  | inl own ↦
      seen-own now (later ++ earlier) i own ∙ ap (λ l. l ++ now.seen ∷ []) (seen-both later earlier i) ∙ append_assoc (seen_of earlier i) (seen_of later i) (now.seen ∷ [])
      ∙ ap (λ l. seen_of earlier i ++ l) (sym (seen-own now later i own))
  | inr other ↦ seen-other now (later ++ earlier) i other ∙ seen-both later earlier i ∙ ap (λ l. seen_of earlier i ++ l) (sym (seen-other now later i other))
]

passed-before : (later earlier : Transcript) → AreAllPassedOn (later ++ earlier) → AreAllPassedOn earlier
passed-before [] earlier passed = passed
passed-before (now ∷ later) earlier passed = passed-before later earlier passed.1

module _ (Fits : Timetable → ℕ → Track → ℕ → Type 0) (processes : ℕ → List Process) (later earlier : Transcript) (deeds : ℕ → List Deed) (tapes : ℕ → ℕ)
    (is : IsTranscript Fits processes (later ++ earlier) deeds tapes)
  where
    pub moment : (i : ℕ) → Moment Fits i 0 (seen_of earlier i) (tapes i)
    moment i = processes-moment Fits i 0 (tapes i) (processes i) (deeds i) (seen_of earlier i) (seen_of later i) (is.own i) (sym (is.in_order i) ∙ seen-both later earlier i)

    pub transcript-at : (left : ℕ → ℕ) → ((i : ℕ) → (left i ≡ (moment i).before) ⊎ (left i ≡ (moment i).after))
        → (cut : ℕ → List Process) × (done : ℕ → List Deed) × IsTranscript Fits cut earlier done left
    transcript-at left which = (
      λ i. ((moment i).cut (left i) (which i)).0,
      λ i. ((moment i).cut (left i) (which i)).1,
      record {
        own = λ i. ((moment i).cut (left i) (which i)).2;
        in_order = λ i. sym ((moment i).cut (left i) (which i)).3;
        passed_on = passed-before later earlier is.passed_on;
      },
    )
