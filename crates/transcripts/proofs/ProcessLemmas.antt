-- What processes did, as steps.
use Rattle.std.proofs.Common.{◌≡◌, ℕ, ◌+◌, ◌*◌, ◌/◌, ◌%◌, ◌≤◌, List, [], ◌∷◌, ◌++◌, Some, None, inl, inr, refl, sym, ap, subst, ◌∙◌, arith}
use Rattle.std.specs.Prelude.{map, ◌==◌, ◌⊎◌, if◌then◌else◌, Option}
use Rattle.std.specs.List.{flat_map}
use Rattle.model.specs.declared.held.Held.{Held}
use Rattle.model.specs.declared.held.Held.TheVariants.{At, Between}
use Rattle.model.specs.Rules.{path_cell}
use Rattle.model.specs.Timetable.{Track, Timetable, moves, track_of}
use Rattle.agent.specs.States.{State, begun_moves, finished_moves, held_by_tape}
use Rattle.fleet.specs.Deeds.{Deed, opens, Does, DoesAll}
use Rattle.transcripts.specs.Processes.{Process, on_tape, EndsWhile, IsAnsweredSo, AreAllAnsweredSo, IsLedProcess, IsProcessWith, IsProcess, FitsProcess, AreProcesses}
use Rattle.transcripts.specs.Transcripts.{Seen, state_told, line_answered, turns_seen, seen_with, seen_in, IsSaidLine}
use Rattle.transcripts.proofs.Growing.{grows, grows-all, StayWithin}
use Rattle.transcripts.proofs.Spelling.{IsPlain, not_understood-says-nothing, stale-says-nothing}
use Rattle.transcripts.proofs.Stepping.{Did, deed_of, did_by, IsStep, IsSeen, AreSeen, seen-on, seen-more}

pub map-both : (xs ys : List Did) → map deed_of (xs ++ ys) ≡ map deed_of xs ++ map deed_of ys
map-both [] ys = refl
map-both (x ∷ xs) ys = ap (λ l. x.deed ∷ l) (map-both xs ys)

map-own : (by : Timetable) (deeds : List Deed) → map deed_of (map (did_by by) deeds) ≡ deeds
map-own by [] = refl
map-own by (deed ∷ deeds) = ap (λ l. deed ∷ l) (map-own by deeds)

map-on : (by : Timetable) (xs ys : List Deed) → map (did_by by) (xs ++ ys) ≡ map (did_by by) xs ++ map (did_by by) ys
map-on by [] ys = refl
map-on by (x ∷ xs) ys = ap (λ l. did_by by x ∷ l) (map-on by xs ys)

-- what as many records hold
abbrev pub held_at : Track → ℕ → Held
held_at track n = if n % 2 == 1 then Between (path_cell track (n / 2)) (path_cell track (n / 2 + 1)) else At (path_cell track (n / 2))

plain-end : (begun : Option (List ℕ)) (deed : Deed) → EndsWhile begun deed → IsPlain deed
plain-end None deed is = subst IsPlain (sym is) (record { silent = refl; honest = λ before. tt })
plain-end (Some line) deed (inl is) = subst IsPlain (sym is) (record { silent = refl; honest = λ before. tt })
plain-end (Some line) deed (inr (inl is)) = subst IsPlain (sym is.1) (record { silent = refl; honest = λ before. tt })
plain-end (Some line) deed (inr (inr is)) = subst IsPlain (sym is.1) (record { silent = refl; honest = λ before. tt })

-- ---- tapes

-- what is answered leaves the tape within its plan
stays-all : StayWithin → (by : Timetable) (i : ℕ) (track : Track) (old new : State) (deeds : List Deed) → old.records ≤ 2 * moves track → DoesAll by i track old deeds new
    → new.records ≤ 2 * moves track
stays-all stays by i track old new [] within does = subst (λ s. s.records ≤ 2 * moves track) (sym does) within
stays-all stays by i track old new (deed ∷ deeds) within (mid, first, rest) = stays-all stays by i track mid new deeds (stays by i track old deed mid within first) rest

answered-within : StayWithin → (by : Timetable) (i : ℕ) (track : Track) (old new : State) (line text : List ℕ) (own : List Deed) → old.records ≤ 2 * moves track
    → IsAnsweredSo by i track old line text own new → new.records ≤ 2 * moves track
answered-within stays by i track old new line text own within (inl (answer, does)) = stays-all stays by i track old new own within does
answered-within stays by i track old new line text own within (inr (stale, none, same)) = subst (λ s. s.records ≤ 2 * moves track) (sym same) within

pub answer-grows : (by : Timetable) (i : ℕ) (track : Track) (old new : State) (line text : List ℕ) (own : List Deed) → IsAnsweredSo by i track old line text own new → old.records ≤ new.records
answer-grows by i track old new line text own (inl (answer, does)) = grows-all by i track old new own does
answer-grows by i track old new line text own (inr (stale, none, same)) = (let e = ap (λ s. s.records) same in omega (arith, e))

pub answers-grow : (by : Timetable) (i : ℕ) (track : Track) (old new : State) (lines answers : List (List ℕ)) (done : List Deed) → AreAllAnsweredSo by i track old lines answers done new
    → old.records ≤ new.records
answers-grow by i track old new [] [] done (none, same) = (let e = ap (λ s. s.records) same in omega (arith, e))
answers-grow by i track old new [] (text ∷ answers) done never = absurd never
answers-grow by i track old new (line ∷ lines) [] done never = absurd never
answers-grow by i track old new (line ∷ lines) (text ∷ answers) done (mid, own, rest, answered, more, are) =
    let here = answer-grows by i track old mid line text own answered in
    let later = answers-grow by i track mid new lines answers rest more in
    omega (arith, here, later)

all-within : StayWithin → (by : Timetable) (i : ℕ) (track : Track) (old new : State) (lines answers : List (List ℕ)) (done : List Deed) → old.records ≤ 2 * moves track
    → AreAllAnsweredSo by i track old lines answers done new → new.records ≤ 2 * moves track
all-within stays by i track old new [] [] done within (none, same) = subst (λ s. s.records ≤ 2 * moves track) (sym same) within
all-within stays by i track old new [] (text ∷ answers) done within never = absurd never
all-within stays by i track old new (line ∷ lines) [] done within never = absurd never
all-within stays by i track old new (line ∷ lines) (text ∷ answers) done within (mid, own, rest, answered, more, are) =
    all-within stays by i track mid new lines answers rest (answered-within stays by i track old mid line text own within answered) more

module _
    (stays : StayWithin) (Fits : Timetable → ℕ → Track → ℕ → Type 0) (i : ℕ) (by : Timetable) (track : Track) (there : track_of by i ≡ Some track) (most : ℕ)
    (fits : (count : ℕ) → count ≤ (most + 1) / 2 → Fits by i track count)
  where
    no-deed : (line text : List ℕ) (old new : State) (own : List Deed) → ((bytes : List ℕ) → IsSaidLine bytes text → ⊥) → own ≡ [] → new ≡ old
        → IsSeen Fits i old (line_answered line text) (map (did_by by) own) new
    no-deed line text old new own silent none kept =
        record { mid = old; own = []; others = []; tells = silent; plain = tt; steps = refl; more = kept; are = ap (map (did_by by)) none }

    step : (old new : State) (deed : Deed) → old.records ≤ 2 * moves track → new.records ≤ most → Does by i track old deed new → IsStep Fits i (did_by by deed) old new
    step old new deed within less does =
        let after = stays by i track old deed new within does in
        record {
          track = track;
          is_track = there;
          fits = fits (begun_moves new) (omega (arith, less));
          has = omega (arith, after);
          does = does;
        }

    -- one line more
    one-turn : (line text : List ℕ) (old new : State) (own : List Deed) → old.records ≤ 2 * moves track → new.records ≤ most → IsAnsweredSo by i track old line text own new
        → IsSeen Fits i old (line_answered line text) (map (did_by by) own) new
    one-turn line text old new own within less (inl (inl (request, deed, asks, call, is, same), does)) =
        let all : DoesAll by i track old (deed ∷ []) new = subst (λ l. DoesAll by i track old l new) same does in
        let here : Does by i track old deed new = subst (Does by i track old deed) (sym all.2) all.1 in
        record {
          mid = new;
          own = did_by by deed ∷ [];
          others = [];
          tells = (request, asks, call, is);
          plain = tt;
          steps = (new, step old new deed within less here, refl);
          more = refl;
          are = ap (map (did_by by)) same;
        }
    one-turn line text old new own within less (inl (inr (nothing, is, same), does)) =
        let kept : DoesAll by i track old [] new = subst (λ l. DoesAll by i track old l new) same does in
        no-deed line text old new own (λ bytes said. not_understood-says-nothing bytes (subst (IsSaidLine bytes) is said)) same kept
    one-turn line text old new own within less (inr (stale, same, kept)) =
        no-deed line text old new own (λ bytes said. stale-says-nothing stale.sender stale.number bytes (subst (IsSaidLine bytes) stale.is_text said)) same kept

    -- all lines
    turns : (lines answers : List (List ℕ)) (old new : State) (done : List Deed) → old.records ≤ 2 * moves track → new.records ≤ most
        → AreAllAnsweredSo by i track old lines answers done new → AreSeen Fits i old (turns_seen lines answers) (map (did_by by) done) new
    turns [] [] old new done within less (none, same) = (ap (map (did_by by)) none, same)
    turns [] (text ∷ answers) old new done within less never = absurd never
    turns (line ∷ lines) [] old new done within less never = absurd never
    turns (line ∷ lines) (text ∷ answers) old new done within less (mid, own, rest, answered, more, are) =
        let grown = answers-grow by i track mid new lines answers rest more in (
          mid,
          map (did_by by) own,
          map (did_by by) rest,
          one-turn line text old mid own within (omega (arith, grown, less)) answered,
          turns lines answers mid new rest (answered-within stays by i track old mid line text own within answered) less more,
          ap (map (did_by by)) are ∙ map-on by own rest,
        )

-- What is seen of an agent, by these deeds.
pub record Shown (Fits : Timetable → ℕ → Track → ℕ → Type 0) (i : ℕ) (old : State) (seen : List Seen) (deeds : List Deed) (records : ℕ) : Type 0 where
  pub dids : List Did
  pub new : State
  pub are_seen : AreSeen Fits i old seen dids new
  pub are_deeds : map deed_of dids ≡ deeds
  pub is_new : new.records ≡ records

module _
    (stays : StayWithin) (Fits : Timetable → ℕ → Track → ℕ → Type 0) (i : ℕ)
  where
    led-shown : (s : State) (old : ℕ) (process : Process) (first : List ℕ) (answers : List (List ℕ)) (deeds : List Deed) (new : ℕ) → s.records ≡ old
        → IsLedProcess i old process first answers deeds new
        → ((track : Track) (count : ℕ) → track_of process.by i ≡ Some track → count ≤ begun_moves (on_tape new) → Fits process.by i track count)
        → Shown Fits i s (state_told first ∷ turns_seen process.lines answers) deeds new
    led-shown s old process first answers deeds new same led fits =
        let by = process.by in
        let track = led.track in
        let fitting_count : (count : ℕ) → count ≤ (new + 1) / 2 → Fits by i track count = λ count less. fits track count led.is_track (omega (arith, less)) in
        let opening = opens (held_by_tape track (on_tape old)) (finished_moves (on_tape old)) in
        let grown = answers-grow by i track (on_tape old) led.last process.lines answers led.done led.are_answered in
        let more = grows by i track led.last led.end led.ending led.leaves in
        let is = led.is_new in
        let within = led.within in
        let opened : Does by i track s opening (on_tape old) = (
          ap (held_at track) (sym same),
          ap (λ n. n / 2) (sym same),
          ap on_tape (sym same),
        ) in
        let lines = process.lines in
        let fit = fitting_count in
        let opening_did = did_by by opening in
        let opening_step = step stays Fits i by track led.is_track new fit s (on_tape old) opening (omega (arith, within, same)) (omega (arith, grown, more, is)) opened in
        let begun : AreSeen Fits i s (state_told first ∷ turns_seen lines answers) (opening_did ∷ map (did_by by) led.done) led.last = (
          on_tape old,
          opening_did ∷ [],
          map (did_by by) led.done,
          record {
            mid = on_tape old;
            own = opening_did ∷ [];
            others = [];
            tells = record { silent = refl; honest = λ before. tt };
            plain = tt;
            steps = (on_tape old, opening_step, refl);
            more = refl;
            are = refl;
          },
          turns stays Fits i by track led.is_track new fit lines answers (on_tape old) led.last led.done led.within (omega (arith, more, is)) led.are_answered,
          refl,
        ) in
        let inside = all-within stays by i track (on_tape old) led.last lines answers led.done led.within led.are_answered in
        record {
          dids = (opening_did ∷ map (did_by by) led.done) ++ did_by by led.ending ∷ [];
          new = led.end;
          are_seen =
              seen-more Fits i (state_told first) (turns_seen lines answers) (opening_did ∷ map (did_by by) led.done) (did_by by led.ending) s led.last led.end begun
              (plain-end process.begun led.ending led.is_ending) (step stays Fits i by track led.is_track new fit led.last led.end led.ending inside (omega (arith, is)) led.leaves);
          are_deeds =
              ap (λ l. opening ∷ l) (map-both (map (did_by by) led.done) (did_by by led.ending ∷ []) ∙ ap (λ l. l ++ led.ending ∷ []) (map-own by led.done)) ∙ sym led.are_deeds;
          is_new = sym led.is_new;
        }

    process-shown : (s : State) (old : ℕ) (process : Process) (deeds : List Deed) (new : ℕ) → s.records ≡ old → IsProcess i old process deeds new → FitsProcess Fits i process new
        → Shown Fits i s (seen_in process) deeds new
    process-shown s old process deeds new same is fits = by_texts process.texts is fits where
      by_texts : (texts : List (List ℕ)) → IsProcessWith i old process texts deeds new
          → (texts ≡ []) ⊎ ((track : Track) (count : ℕ) → track_of process.by i ≡ Some track → count ≤ begun_moves (on_tape new) → Fits process.by i track count)
          → Shown Fits i s (seen_with process.lines texts) deeds new
      by_texts [] silent fit = record { dids = []; new = s; are_seen = (refl, refl); are_deeds = sym silent.1; is_new = same ∙ sym silent.2 }
      by_texts (first ∷ answers) led (inl none) = absurd cc
      by_texts (first ∷ answers) led (inr fit) = led-shown s old process first answers deeds new same led fit

    pub processes-shown : (s : State) (old : ℕ) (processes : List Process) (deeds : List Deed) (new : ℕ) → s.records ≡ old → AreProcesses Fits i old processes deeds new
        → Shown Fits i s (flat_map seen_in processes) deeds new
    processes-shown s old [] deeds new same (nothing, kept) =
        record { dids = []; new = s; are_seen = (refl, refl); are_deeds = sym nothing; is_new = same ∙ sym kept }
    processes-shown s old (process ∷ later) deeds new same (mid, done, rest, is, fits, more, are) =
        let first = process-shown s old process done mid same is fits in
        let second = processes-shown first.new mid later rest new first.is_new more in
        record {
          dids = first.dids ++ second.dids;
          new = second.new;
          are_seen = seen-on Fits i s first.new second.new (seen_in process) (flat_map seen_in later) first.dids second.dids first.are_seen second.are_seen;
          are_deeds = map-both first.dids second.dids ∙ ap (λ l. l ++ map deed_of second.dids) first.are_deeds ∙ ap (λ l. done ++ l) second.are_deeds ∙ sym are;
          is_new = second.is_new;
        }
