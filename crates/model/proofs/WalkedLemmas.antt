-- An agent's walk is a beginning of its path: it has all that was begun, but for one move whose answer was lost.
use Rattle.std.proofs.Common.{◌≡◌, ℕ, ◌+◌, ◌<◌, ◌≤◌, eqb, Bool, true, false, cond, [], ◌∷◌, ◌++◌, length, take, drop, Some, None, inl, inr, arith, refl, sym, ap, subst, ◌∙◌}
use Rattle.std.specs.Prelude.{Option, ◌&&◌, nat_lt}
use Rattle.std.proofs.lemmas.Bool.{cases_Bool, cases_lt, cond-true, cond-false, cond_both, eqb-true, eqb-false, false≢true}
use Rattle.std.proofs.lemmas.List.{take_more, take-append-drop, length-append}
use Rattle.grid.specs.declared.cell.Cell.{Cell}
use Rattle.model.specs.declared.version.Version.{Version}
use Rattle.model.specs.declared.event.Event.{Event}
use Rattle.model.specs.declared.event.Event.TheVariants.{Start, Finish, Say, Deliver, Restart, Tear}
use Rattle.model.specs.declared.why.Why.TheVariants.{StoreFailed, Broken, AlreadyMoving, AtEnd, Waits}
use Rattle.model.specs.Timetable.{Track, Timetable, moves, path, track_of}
use Rattle.model.specs.Dependency.{Need, need}
use Rattle.model.specs.History.{Answer, moving, at, between, refused, History, Happening, armed_of}
use Rattle.model.specs.History.{is_store_failed, is_begun, is_ended, is_broken, starts_of}
use Rattle.model.specs.History.{finishes_of, kept_starts, done, is_moving, known}
use Rattle.model.specs.Rules.{path_cell, stored, unless_waiting, start_answer, finish_answer, restart_answer, answer, agent_of, IsRun}
use Rattle.model.specs.Safety.{walk, IsBeginningOf}
use Rattle.model.specs.Laws.Tracks.{first_cell, length-path}
use Rattle.model.specs.Laws.Others.{walk-other, starts-other, finishes-other, broken-other}
use Rattle.model.specs.Laws.Runs.{Progress, progress, level, room_left, start-begun, finish-ended, answer-at}

-- the walk is a beginning of the path, and has all begun moves unless the agent is broken
pub record Walked (tab : Timetable) (h : History) (i : ℕ) (track : Track) : Type 0 where
  pub front : walk track h i ≡ take (length (walk track h i)) (path track)
  pub some : done h i + 1 ≤ length (walk track h i)
  pub most : length (walk track h i) ≤ kept_starts h i + 1
  pub whole : is_broken h i ≡ false → length (walk track h i) ≡ kept_starts h i + 1

-- ---- a happening that adds no cell

-- the walk stays, where the agent finishes f moves
stays : (tab : Timetable) (h : History) (i : ℕ) (track : Track) (now : Happening) → Walked tab h i track
    → walk track (now ∷ h) i ≡ walk track h i
    → done (now ∷ h) i + 1 ≤ length (walk track h i)
    → (is_broken (now ∷ h) i ≡ false → length (walk track h i) ≡ kept_starts (now ∷ h) i + 1)
    → Walked tab (now ∷ h) i track
stays tab h i track now was same some whole =
    let n = ap length same in
    let most = was.most in
    record {
      front = same ∙ was.front ∙ ap (λ k. take k (path track)) (sym n);
      some = omega (arith, n, some);
      most = omega (arith, n, most);
      whole = λ sound. n ∙ whole sound;
    }

-- nothing that concerns the agent
stays_same : (tab : Timetable) (h : History) (i : ℕ) (track : Track) (now : Happening) → Walked tab h i track
    → walk track (now ∷ h) i ≡ walk track h i → starts_of now.event now.answer i (armed_of h i) ≡ 0
    → finishes_of now.event now.answer i (armed_of h i) ≡ 0 → (is_broken (now ∷ h) i ≡ false → is_broken h i ≡ false) → Walked tab (now ∷ h) i track
stays_same tab h i track now was same starts finishes sound =
    let some = was.some in
    stays tab h i track now was same (omega (arith, some, finishes)) (λ e. let whole = was.whole (sound e) in omega (arith, whole, starts))

-- ---- a happening that adds the next cell of the path

grows : (tab : Timetable) (h : History) (i : ℕ) (track : Track) (now : Happening) (c : Cell) → Walked tab h i track
    → walk track (now ∷ h) i ≡ walk track h i ++ c ∷ [] → c ≡ path_cell track (length (walk track h i)) → length (walk track h i) < length (path track)
    → done (now ∷ h) i + 1 ≤ length (walk track h i) + 1 → length (walk track h i) + 1 ≡ kept_starts (now ∷ h) i + 1 → Walked tab (now ∷ h) i track
grows tab h i track now c was longer cell room some whole =
    let walked = walk track h i in
    let n = length walked in
    let count : length (walk track (now ∷ h) i) ≡ n + 1 = ap length longer ∙ length-append walked (c ∷ []) in
    record {
      front =
          longer ∙ ap (λ l. l ++ c ∷ []) was.front ∙ ap (λ x. take n (path track) ++ x ∷ []) cell
          ∙ sym (take_more (path track) n track.start room) ∙ ap (λ k. take k (path track)) (sym count);
      some = omega (arith, count, some);
      most = omega (arith, count, whole);
      whole = λ sound. omega (arith, count, whole);
    }

-- ---- the answers to a start

abbrev entered : Answer → Cell → Cell
entered (moving c) d = c
entered _ d = d

entered_stored : (a : Option ℕ) (c : Cell) → entered (stored a (moving c)) c ≡ c
entered_stored None c = refl
entered_stored (Some n) c = refl

entered_unless : (known : ℕ → ℕ) (o : Option Need) (a : Option ℕ) (c : Cell) → entered (unless_waiting known o (stored a (moving c))) c ≡ c
entered_unless known None a c = entered_stored a c
entered_unless known (Some n) a c =
    cond_both (nat_lt (known n.agent) n.count) (refused (Waits n.agent n.count)) (stored a (moving c)) (λ r. entered r c ≡ c) (λ e. refl) (λ e. entered_stored a c)

-- a cell that an answer to a start names is the next of the path
entered_start : (v : Version) (tab : Timetable) (h : History) (i : ℕ) (track : Track) → entered (start_answer v tab h i track) (path_cell track (done h i + 1)) ≡ path_cell track (done h i + 1)
entered_start v tab h i track =
    let c = path_cell track (done h i + 1) in
    let rest = unless_waiting (known v tab h i) (need tab i track (done h i)) (stored (armed_of h i) (moving c)) in
    let at_end = cond (eqb (done h i) (moves track)) (refused AtEnd) rest in
    cond_both (is_broken h i) (refused Broken) (cond (is_moving h i) (refused AlreadyMoving) at_end) (λ r. entered r c ≡ c) (λ e. refl)
    (λ e. cond_both (is_moving h i) (refused AlreadyMoving) at_end (λ r. entered r c ≡ c) (λ f. refl)
    (λ f. cond_both (eqb (done h i) (moves track)) (refused AtEnd) rest (λ r. entered r c ≡ c) (λ g. refl)
    (λ g. entered_unless (known v tab h i) (need tab i track (done h i)) (armed_of h i) c)))

walked_start : (v : Version) (tab : Timetable) (h : History) (i : ℕ) (track : Track) → Progress tab h i track → Walked tab h i track → (j : ℕ) → eqb j i ≡ true
    → (r : Answer) → r ≡ start_answer v tab h i track → Walked tab (record { event = Start j; answer = r } ∷ h) i track
walked_start v tab h i track went was j own (moving c) by_rules =
    let facts = start-begun v tab h i track (armed_of h i) (ap (λ x. is_begun x (armed_of h i)) (sym by_rules)) in
    let even = level h i went.low went.high facts.1 in
    let room = room_left tab h i track went facts.1 facts.2 in
    let whole = was.whole facts.0 in
    let next = path_cell track (done h i + 1) in
    let cell : c ≡ next = ap (λ x. entered x next) by_rules ∙ entered_start v tab h i track in
    let place : done h i + 1 ≡ length (walk track h i) = omega (arith, whole, even) in
    let began : ◌≡◌ {A = ℕ} (cond (eqb j i && true) 1 0) 1 = ap (λ b. cond (b && true) 1 0) own in
    grows tab h i track (record { event = Start j; answer = moving c }) c was (cond-true (eqb j i) _ _ own) (cell ∙ ap (path_cell track) place)
    (omega (arith, whole, room, length-path track.start track.later)) (omega (arith, place)) (omega (arith, whole, began))
walked_start v tab h i track went was j own (refused StoreFailed) by_rules =
    let some = was.some in
    stays tab h i track (record { event = Start j; answer = refused StoreFailed }) was refl (omega (arith, some))
    (λ sound. absurd (false≢true (sym sound ∙ ap (λ b. cond (b && true) true (is_broken h i)) own)))
walked_start v tab h i track went was j own r by_rules =
    stays_same tab h i track (record { event = Start j; answer = r }) was refl (ap (λ b. cond (b && false) 1 0) own) refl
    (λ sound. sym (ap (λ b. cond (b && false) true (is_broken h i)) own) ∙ sound)

-- ---- the answers to a finish

was_sound : (x b : Bool) → cond x true b ≡ false → b ≡ false
was_sound true b h = absurd (false≢true (sym h))
was_sound false b h = h

walked_finish : (tab : Timetable) (h : History) (i : ℕ) (track : Track) → Walked tab h i track → (j : ℕ) → eqb j i ≡ true
    → (r : Answer) → r ≡ finish_answer h i track → Walked tab (record { event = Finish j; answer = r } ∷ h) i track
walked_finish tab h i track was j own r by_rules =
    let a = armed_of h i in
    let now : Happening = record { event = Finish j; answer = r } in
    let does : ◌≡◌ {A = ℕ} (cond (eqb j i && is_ended r a) 1 0) (cond (is_ended r a) 1 0) = ap (λ b. cond (b && is_ended r a) 1 0) own in
    let some = was.some in
    elim (cases_Bool (is_ended r a)) [
      | inl ended ↦
          let facts = finish-ended h i track a (ap (λ x. is_ended x a) (sym by_rules) ∙ ended) in
          let whole = was.whole facts.0 in
          let going = eqb-true (kept_starts h i) (done h i + 1) facts.1 in
          let one = does ∙ cond-true (is_ended r a) 1 0 ended in
          stays tab h i track now was refl (omega (arith, whole, going, one)) (λ sound. omega (arith, whole))
      | inr unended ↦
          let none = does ∙ cond-false (is_ended r a) 1 0 unended in
          stays_same tab h i track now was refl refl none (was_sound (eqb j i && is_store_failed r) (is_broken h i))
    ]

-- ---- the answers to a restart

walked_restart : (v : Version) (tab : Timetable) (h : History) (i : ℕ) (track : Track) → Progress tab h i track → Walked tab h i track → (j : ℕ) → eqb j i ≡ true
    → (r : Answer) → r ≡ restart_answer h i track → Walked tab (record { event = Restart j; answer = r } ∷ h) i track
walked_restart v tab h i track went was j own r by_rules =
    let k = done h i in
    let n = length (walk track h i) in
    let c = path_cell track (k + 1) in
    let some = was.some in
    let most = was.most in
    let limit = went.limit in
    elim (cases_Bool (is_moving h i)) [
      | inl going ↦
          let kept = eqb-true (kept_starts h i) (k + 1) going in
          let lost : Answer = between (path_cell track k) c k in
          let now : Happening = record { event = Restart j; answer = lost } in
          subst (λ x. Walked tab (record { event = Restart j; answer = x } ∷ h) i track) (sym (by_rules ∙ cond-true (is_moving h i) _ _ going))
          (elim (cases_Bool (eqb n (k + 1))) [
            | inl short ↦
                let place = eqb-true n (k + 1) short in
                grows tab h i track now c was (cond-true (eqb j i && eqb n (k + 1)) _ _ (ap (λ b. b && eqb n (k + 1)) own ∙ short))
                (ap (path_cell track) (sym place)) (omega (arith, place, kept, limit, length-path track.start track.later))
                (omega (arith, place)) (omega (arith, place, kept))
            | inr long ↦
                let place = eqb-false n (k + 1) long in
                stays tab h i track now was (cond-false (eqb j i && eqb n (k + 1)) _ _ (ap (λ b. b && eqb n (k + 1)) own ∙ long))
                (omega (arith, some)) (λ sound. whole_by n k (kept_starts h i) some most kept place)
          ])
      | inr still ↦
          let even = level h i went.low went.high still in
          subst (λ x. Walked tab (record { event = Restart j; answer = x } ∷ h) i track) (sym (by_rules ∙ cond-false (is_moving h i) _ _ still))
          (stays tab h i track (record { event = Restart j; answer = at (path_cell track k) k }) was refl (omega (arith, some)) (λ sound. omega (arith, some, most, even)))
    ] where
      whole_by : (n k begun : ℕ) → k + 1 ≤ n → n ≤ begun + 1 → begun ≡ k + 1 → (n ≡ k + 1 → ⊥) → n ≡ begun + 0 + 1
      whole_by n k begun some most kept place =
          elim (cases_lt (k + 1) n) [
            | inl longer ↦ omega (arith, longer, most, kept)
            | inr short ↦ absurd (place (omega (arith, some, short)))
          ]

-- ---- any event

walked_own : (v : Version) (tab : Timetable) (h : History) (i : ℕ) (track : Track) → track_of tab i ≡ Some track → Progress tab h i track → Walked tab h i track
    → (e : Event) (r : Answer) → eqb (agent_of e) i ≡ true → r ≡ answer v tab h e → Walked tab (record { event = e; answer = r } ∷ h) i track
walked_own v tab h i track there went was (Start j) r own by_rules =
    walked_start v tab h i track went was j own r (answer-at v tab h (λ n. Start n) i j track r there refl (eqb-true j i own) by_rules)
walked_own v tab h i track there went was (Finish j) r own by_rules =
    walked_finish tab h i track was j own r (answer-at v tab h (λ n. Finish n) i j track r there refl (eqb-true j i own) by_rules)
walked_own v tab h i track there went was (Restart j) r own by_rules =
    walked_restart v tab h i track went was j own r (answer-at v tab h (λ n. Restart n) i j track r there refl (eqb-true j i own) by_rules)
walked_own v tab h i track there went was (Say j) r own by_rules =
    stays_same tab h i track (record { event = Say j; answer = r }) was refl refl refl (λ sound. sound)
walked_own v tab h i track there went was (Deliver j m) r own by_rules =
    stays_same tab h i track (record { event = Deliver j m; answer = r }) was refl refl refl (λ sound. sound)
walked_own v tab h i track there went was (Tear j n) r own by_rules =
    stays_same tab h i track (record { event = Tear j n; answer = r }) was refl refl refl (λ sound. sound)

walked_next : (v : Version) (tab : Timetable) (h : History) (i : ℕ) (track : Track) → track_of tab i ≡ Some track → Progress tab h i track → Walked tab h i track
    → (e : Event) (r : Answer) → r ≡ answer v tab h e → Walked tab (record { event = e; answer = r } ∷ h) i track
walked_next v tab h i track there went was e r by_rules =
    elim (cases_Bool (eqb (agent_of e) i)) [
      | inl own ↦ walked_own v tab h i track there went was e r own by_rules
      | inr other ↦
          stays_same tab h i track (record { event = e; answer = r }) was (walk-other e r i (walk track h i) other)
          (starts-other e r i (armed_of h i) other) (finishes-other e r i (armed_of h i) other)
          (λ sound. sym (broken-other e r i (is_broken h i) other) ∙ sound)
    ]

walked : (v : Version) (tab : Timetable) (h : History) (i : ℕ) (track : Track) → track_of tab i ≡ Some track → IsRun v tab h → Walked tab h i track
walked v tab [] i track there run =
    let first : take 1 (path track) ≡ track.start ∷ [] =
    take_more (path track) 0 track.start (omega (arith, length-path track.start track.later))
    ∙ ap (λ c. c ∷ []) (first_cell track.start track.later track.start) in
    record { front = sym first; some = omega arith; most = omega arith; whole = λ sound. refl }
walked v tab (now ∷ h) i track there run =
    walked_next v tab h i track there (progress v tab h i track there run.1) (walked v tab h i track there run.1) now.event now.answer run.0

pub walk-beginning : (v : Version) (tab : Timetable) (h : History) (i : ℕ) (track : Track) → track_of tab i ≡ Some track → IsRun v tab h
    → IsBeginningOf (walk track h i) (path track)
walk-beginning v tab h i track there run =
    let so_far = walked v tab h i track there run in
    let n = length (walk track h i) in
    (drop n (path track), sym (take-append-drop n (path track)) ∙ ap (λ l. l ++ drop n (path track)) (sym so_far.front))
