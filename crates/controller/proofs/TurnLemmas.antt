-- A turn of a robot that can go on stores something.
use Rattle.std.proofs.Common.{◌≡◌, ℕ, ◌+◌, ◌*◌, ◌/◌, ◌%◌, ◌<◌, ◌≤◌, true, false, nat_lt, List, [], ◌∷◌, ◌++◌, length, Some, None, Result, Ok, Err, inl, inr, arith, refl, sym, ap, subst, ◌∙◌}
use Rattle.std.specs.Prelude.{⊤, ◌⊎◌, ◌==◌, ◌&&◌, ◌||◌, not, if◌then◌else◌, Option, MatchBool, MatchOption, slice_get}
use Rattle.std.specs.List.{AllByRecursion}
use Rattle.std.proofs.lemmas.Bool.{cases_Bool, cond-true, cond-false, eqb-true, eq-eqb, ne_eqb, lt-ltb, le-ltb, ltb-true, ltb-false, true≢false, or_right}
use Rattle.std.proofs.lemmas.Option.{slice_get_within, slice_get-get_or}
use Rattle.grid.specs.declared.cell.Cell.{Cell}
use Rattle.model.specs.declared.version.Version.{Version}
use Rattle.model.specs.declared.version.Version.TheVariants.{One, Two}
use Rattle.model.specs.Dependency.{Need, need, IsMet}
use Rattle.model.specs.Rules.{path_cell}
use Rattle.model.specs.Timetable.{Track, Timetable, moves, path, track_of, IsConflictFree, IsSwapFree}
use Rattle.model.specs.Laws.Rounds.{first_that}
use Rattle.model.specs.Laws.Stuck.{HasRotation, stuck}
use Rattle.depgraph.specs.Laws.AgentParts.{cell-there}
use Rattle.agent.specs.Counters.{known_in}
use Rattle.agent.specs.States.{State, Answers, finished_moves, begun_moves, is_on_the_way, next_cell, waits_for, start_refusal, finish_refusal}
use Rattle.agent.specs.declared.refusal.HearFault.{HearFault}
use Rattle.agent.specs.declared.refusal.Refusal.{Refusal}
use Rattle.agent.specs.declared.refusal.Refusal.TheVariants.{Broken, AlreadyMoving, AtEnd, Waits, NotMoving, StoreFailed}
use Rattle.fleet.specs.Deeds.{Deed, Does}
use Rattle.fleet.specs.Rounds.{HaveAllArrived}
use Rattle.controller.specs.declared.command.Command.{Command}
use Rattle.controller.specs.declared.control.Control.{Control}
use Rattle.controller.specs.declared.control.Due.{Due}
use Rattle.controller.specs.declared.control.Due.TheVariants as due
use Rattle.controller.specs.declared.controller.Settings.{Settings}
use Rattle.carrier_text.specs.declared.report.Report.TheVariants.{Stands}
use Rattle.controller.specs.Controls.{due_by, due_for, due_to_tell, due_to_ask, due_to_go, placed, misplaced, ticked, gone, asked_drive, told_others}
use Rattle.controller.specs.Loops.{RobotEvent, reports, hears, ticks, stops, goes_on, HasLedRobot, HasComeTo, LeadsRobot}
use Rattle.controller.specs.Robots.{Robot, with_control}
use Rattle.controller.specs.Steps.{due_in, DoesDue, TellsOthers, told_of_finish, told_of_start, after_finish, after_start, after_hearing}
use Rattle.controller.specs.Turns.{GoesWell, MayBegin, HasTurn, HaveTurns, is_alarm}
use Rattle.controller.proofs.DriveLemmas.{IsSure, heard-broken, sure-of}
use Rattle.controller.proofs.OrderLemmas.{from-event}
use Rattle.controller.proofs.PlaceLemmas.{one-place}

-- ---- who is ready stays ready, while all goes well

abbrev Still : Control → Control → Type 0
Still old new = (new.is_stale ≡ old.is_stale) × (new.is_stopped ≡ old.is_stopped) × (new.listens ≡ old.listens)

ready-still : (old new : Robot) → MayBegin old → new.state.broken ≡ old.state.broken → Still old.control new.control → MayBegin new
ready-still old new ready whole still = record {
  may_drive = record { unbroken = whole ∙ ready.may_drive.unbroken; own_tape = still.0 ∙ ready.may_drive.own_tape };
  listened = still.2 ∙ ready.listened;
  not_stopped = still.1 ∙ ready.not_stopped;
}

still-heard : (c : Control) (answer : Result (ℕ × ℕ) HearFault) → Still c (after_hearing c answer)
still-heard c (Ok known) = (refl, refl, refl)
still-heard c (Err fault) = (refl, refl, refl)

still-finished : (c : Control) (answer : Result Cell Refusal) → Still c (after_finish c answer)
still-finished c (Ok cell) = (refl, refl, refl)
still-finished c (Err why) = (refl, refl, refl)

still-started : (c : Control) (begun : ℕ) (answer : Result Cell Refusal) → Still c (after_start c begun answer)
still-started c begun (Ok cell) = (refl, refl, refl)
still-started c begun (Err why) = (refl, refl, refl)

still-by : (c d e : Control) → e ≡ d → Still c d → Still c e
still-by c d e same still = subst (Still c) (sym same) still

-- a write that no person is told of has not failed
alarm-finish : (answer : Result Cell Refusal) → is_alarm (Some (told_of_finish answer)) ≡ false → answer ≡ Err StoreFailed → ⊥
alarm-finish answer well failed = true≢false (sym (ap (λ a. is_alarm (Some (told_of_finish a))) failed) ∙ well)

alarm-start : (track : Track) (s : State) (answer : Result Cell Refusal) → is_alarm (Some (told_of_start track s answer)) ≡ false → answer ≡ Err StoreFailed → ⊥
alarm-start track s answer well failed = true≢false (sym (ap (λ a. is_alarm (Some (told_of_start track s a))) failed) ∙ well)

whole-after : (o : Option Refusal) (old new : State) (c : Cell) (answer : Result Cell Refusal) → Answers o old new c answer → (answer ≡ Err StoreFailed → ⊥) → new.broken ≡ old.broken
whole-after (Some why) old new c answer refuses fine = ap (λ (s : State). s.broken) refuses.1
whole-after None old new c answer stores fine = elim stores.outcome [
  | inl good ↦ good.2
  | inr bad ↦ absurd (fine bad.0)
]

-- where nothing refuses a write, and no person is told of it, something is stored
stores-more : (old new : State) (c : Cell) (answer : Result Cell Refusal) → Answers None old new c answer → (answer ≡ Err StoreFailed → ⊥) → new.records ≡ old.records + 1
stores-more old new c answer stores fine = elim stores.outcome [
  | inl good ↦ good.1
  | inr bad ↦ absurd (fine bad.0)
]

-- ---- what is due

-- a drive that has come to the end of a move that was begun has it finished
finish-due : (r : Robot) (place : ℕ) → r.state.broken ≡ false → r.control.is_stale ≡ false → r.control.drive ≡ Some place → is_on_the_way r.state ≡ true
    → finished_moves r.state < place → due_in r ≡ due.Finish
finish-due r place whole own at on behind =
    let done = finished_moves r.state in
    cond-false r.state.broken due.Nothing (due_for r.control done (is_on_the_way r.state)) whole
    ∙ cond-false r.control.is_stale (due_to_tell r.control) (due_by r.control r.control.drive done (is_on_the_way r.state)) own
    ∙ ap (λ o. due_by r.control o done (is_on_the_way r.state)) at ∙ ap (due_by r.control (Some place) done) on
    ∙ cond-true (nat_lt done place) due.Finish (due_to_go r.control) (lt-ltb done place behind)

-- one whose place is known, where no move was begun, has one begun
start-due : (r : Robot) (place : ℕ) → MayBegin r → r.control.wants.start ≡ true → r.control.drive ≡ Some place → is_on_the_way r.state ≡ false → due_in r ≡ due.Start
start-due r place ready wants at stands =
    let done = finished_moves r.state in
    let c = r.control in
    let ahead = nat_lt done place in
    let free : ((c.listens == 0) && not c.is_stopped) ≡ true
    = ap (λ b. b && not c.is_stopped) (eq-eqb c.listens 0 ready.listened) ∙ ap (λ b. not b) ready.not_stopped in
    let may : (c.wants.start && (ahead || ((c.listens == 0) && not c.is_stopped))) ≡ true
    = ap (λ b. b && (ahead || ((c.listens == 0) && not c.is_stopped))) wants ∙ or_right ahead ((c.listens == 0) && not c.is_stopped) free in
    cond-false r.state.broken due.Nothing (due_for c done (is_on_the_way r.state)) ready.may_drive.unbroken
    ∙ cond-false c.is_stale (due_to_tell c) (due_by c c.drive done (is_on_the_way r.state)) ready.may_drive.own_tape
    ∙ ap (λ o. due_by c o done (is_on_the_way r.state)) at ∙ ap (due_by c (Some place) done) stands
    ∙ cond-true (c.wants.start && (ahead || ((c.listens == 0) && not c.is_stopped))) due.Start (if c.is_stopped then due_to_go c else due_to_ask c) may

-- nothing refuses
no-finish-refusal : (s : State) → s.broken ≡ false → is_on_the_way s ≡ true → finish_refusal s ≡ None
no-finish-refusal s whole on =
    cond-false s.broken (Some Broken) (if is_on_the_way s then None else Some NotMoving) whole ∙ ap (λ b. if b then None else Some NotMoving) on

none-waits : (finished : ℕ → ℕ) (s : State) (o : Option Need) → MatchOption o ⊤ (λ n. finished n.agent ≤ known_in s.heard n.agent)
    → IsMet finished o → waits_for s.heard o ≡ None
none-waits finished s None heard met = refl
none-waits finished s (Some n) heard met =
    cond-false (nat_lt (known_in s.heard n.agent) n.count) (Some (Waits n.agent n.count)) None (le-ltb (known_in s.heard n.agent) n.count (omega (arith, heard, met)))

no-start-refusal : (table : Timetable) (i : ℕ) (track : Track) (s : State) → s.broken ≡ false → is_on_the_way s ≡ false → finished_moves s < moves track
    → waits_for s.heard (need table i track (finished_moves s)) ≡ None → start_refusal table i track s ≡ None
no-start-refusal table i track s whole stands left free =
    cond-false s.broken (Some Broken) _ whole
    ∙ cond-false (is_on_the_way s) (Some AlreadyMoving) _ stands
    ∙ cond-false (finished_moves s == moves track) (Some AtEnd) _ (ne_eqb (finished_moves s) (moves track) (λ e. omega (arith, e, left)))
    ∙ free

module _ (settings : Settings) (table : Timetable) (i : ℕ) (track : Track)
    (led : (old : State) (deed : Deed) (new : State) → old.records ≤ 2 * moves track → Does table i track old deed new → new.records ≤ 2 * moves track) where
  ready-told : (version : Version) (old new : Robot) (said : Command) → TellsOthers version table i track old said new → MayBegin old → MayBegin new
  ready-told One old new said (answer, does, is, after) ready =
      ready-still old new ready (ap (λ (s : State). s.broken) does.1) (still-by old.control (told_others old.control) new.control after (refl, refl, refl))
  ready-told Two old new said (answer, does, is, after) ready =
      ready-still old new ready (ap (λ (s : State). s.broken) does.1) (still-by old.control (told_others old.control) new.control after (refl, refl, refl))

  ready-due : (d : Due) (old new : Robot) (command : Option Command) → DoesDue d settings table i track old command new → is_alarm command ≡ false → MayBegin old → MayBegin new
  ready-due due.Nothing old new command (none, same) well ready = subst MayBegin (sym same) ready
  ready-due due.Ask old new command (asks, same) well ready =
      subst MayBegin (sym same) (ready-still old (with_control old (asked_drive old.control)) ready refl (refl, refl, refl))
  ready-due due.Finish old new command (done, said, (answer, does, told, after)) well ready =
      ready-still old new ready
      (whole-after (finish_refusal old.state) old.state new.state (next_cell track old.state) answer does
      (alarm-finish answer (subst (λ c. is_alarm c ≡ false) (said ∙ ap Some told) well)))
      (still-by old.control (after_finish old.control answer) new.control after (still-finished old.control answer))
  ready-due due.Start old new command (done, said, (answer, does, told, after)) well ready =
      ready-still old new ready
      (whole-after (start_refusal table i track old.state) old.state new.state (next_cell track old.state) answer does
      (alarm-start track new.state answer (subst (λ c. is_alarm c ≡ false) (said ∙ ap Some told) well)))
      (still-by old.control (after_start old.control (begun_moves new.state) answer) new.control after (still-started old.control (begun_moves new.state) answer))
  ready-due due.Go old new command (done, said, goes) well ready =
      ready-still old new ready (ap (λ (s : State). s.broken) goes.does.2)
      (still-by old.control (gone old.control (begun_moves old.state + goes.count)) new.control goes.control (refl, refl, refl))
  ready-due due.Tell old new command (done, said, telling) well ready = ready-told settings.version old new done telling ready

  ready-led : (event : RobotEvent) (old new : Robot) → LeadsRobot settings table i track old event new → GoesWell event → MayBegin old → MayBegin new
  ready-led (reports report) old new (inl (place, fits, same)) well ready =
      subst MayBegin (sym same) (ready-still old (with_control old (placed old.control place)) ready refl (refl, refl, refl))
  ready-led (reports report) old new (inr (none, same)) well ready =
      subst MayBegin (sym same) (ready-still old (with_control old (misplaced old.control)) ready refl (refl, refl, refl))
  ready-led (hears bytes command) old new (inl (sender, number, stale, is, same)) well ready = absurd (true≢false (sym (ap is_alarm is) ∙ well))
  ready-led (hears bytes command) old new (inr (fresh, (answer, does, is, after))) well ready =
      ready-still old new ready (heard-broken table old.state new.state bytes answer does)
      (still-by old.control (after_hearing old.control answer) new.control after (still-heard old.control answer))
  ready-led (ticks command) old new (is, same) well ready =
      let none = ready.listened in
      subst MayBegin (sym same) (record {
        may_drive = record { unbroken = ready.may_drive.unbroken; own_tape = ready.may_drive.own_tape };
        listened = omega (arith, none);
        not_stopped = ready.not_stopped;
      })
  ready-led stops old new same well ready = absurd well
  ready-led (goes_on command) old new works well ready = ready-due (due_in old) old new command works well ready

  all-ready : (happened : List RobotEvent) (old new : Robot) → HasLedRobot settings table i track old happened new → AllByRecursion GoesWell happened → MayBegin old → MayBegin new
  all-ready [] old new same all ready = subst MayBegin (sym same) ready
  all-ready (event ∷ earlier) old new (before, was, leads) all ready = ready-led event before new leads all.0 (all-ready earlier old before was all.1 ready)

  -- ---- tapes grow

  one-grows : (event : RobotEvent) (old new : Robot) → LeadsRobot settings table i track old event new → old.state.records ≤ new.state.records
  one-grows event old new leads = elim (from-event settings table i track led old event new leads) [
    | inl same ↦ omega (arith, same)
    | inr either ↦ elim either [
      | inl finish ↦ (let more = finish.1 in omega (arith, more))
      | inr start ↦ (let more = start.1 in omega (arith, more))
    ]
  ]

  pub grows : (happened : List RobotEvent) (old new : Robot) → HasLedRobot settings table i track old happened new → old.state.records ≤ new.state.records
  grows [] old new same = (let e = ap (λ (r : Robot). r.state.records) same in omega (arith, e))
  grows (event ∷ earlier) old new (before, was, leads) = (let first = grows earlier old before was in let last = one-grows event before new leads in omega (arith, first, last))

  led-more : (history earlier : List RobotEvent) (first old before : Robot) → HasLedRobot settings table i track first history old
      → HasLedRobot settings table i track old earlier before → HasLedRobot settings table i track first (earlier ++ history) before
  led-more history [] first old before was same = subst (HasLedRobot settings table i track first history) (sym same) was
  led-more history (event ∷ earlier) first old before was (mid, more, leads) = (mid, led-more history earlier first old mid was more, leads)

  come-further : (history earlier : List RobotEvent) (old before : Robot) → HasComeTo settings table i track history old → HasLedRobot settings table i track old earlier before
      → HasComeTo settings table i track (earlier ++ history) before
  come-further history earlier old before (first, few, opened, was) more = (first, few, opened, led-more history earlier first old before was more)

  -- ---- a turn

  module _ (finished : ℕ → ℕ) (old new : Robot) (turn : HasTurn settings table i track finished old new) (same : new.state.records ≡ old.state.records) where
    first-part : old.state.records ≤ turn.before.state.records
    first-part = grows turn.earlier old turn.before turn.led_before.led

    second-part : turn.before.state.records ≤ turn.between.state.records
    second-part = one-grows turn.event turn.before turn.between turn.comes

    third-part : turn.between.state.records ≤ turn.after.state.records
    third-part = one-grows (goes_on turn.command) turn.between turn.after turn.works

    fourth-part : turn.after.state.records ≤ new.state.records
    fourth-part = grows turn.later turn.after new turn.led_after.led

    before-same : turn.before.state.records ≡ old.state.records
    before-same = (let a = first-part in let b = second-part in let c = third-part in let d = fourth-part in omega (arith, a, b, c, d, same))

    nothing-more : turn.after.state.records ≡ turn.between.state.records + 1 → ⊥
    nothing-more more = (let a = first-part in let b = second-part in let d = fourth-part in omega (arith, a, b, d, more, same))

    ready-before : MayBegin turn.before
    ready-before = all-ready turn.earlier old turn.before turn.led_before.led turn.led_before.well turn.ready

    sure-before : IsSure track (turn.earlier ++ turn.history) turn.before
    sure-before = sure-of settings table i track led (turn.earlier ++ turn.history) turn.before (come-further turn.history turn.earlier old turn.before turn.come turn.led_before.led)

    -- the write that is due is not refused, and does not fail
    finishes-on : (place : ℕ) → turn.between ≡ with_control turn.before (placed turn.before.control place) → is_on_the_way turn.before.state ≡ true
        → finished_moves turn.before.state < place → ⊥
    finishes-on place is on behind =
        let r = with_control turn.before (placed turn.before.control place) in
        let what : due_in turn.between ≡ due.Finish
        = ap due_in is ∙ finish-due r place ready-before.may_drive.unbroken ready-before.may_drive.own_tape refl on behind in
        let works = subst (λ d. DoesDue d settings table i track turn.between turn.command turn.after) what turn.works in
        let state : turn.between.state ≡ turn.before.state = ap (λ (x : Robot). x.state) is in
        let none : finish_refusal turn.between.state ≡ None = ap finish_refusal state ∙ no-finish-refusal turn.before.state ready-before.may_drive.unbroken on in
        let answer = works.2.0 in
        nothing-more (stores-more turn.between.state turn.after.state (next_cell track turn.between.state) answer
        (subst (λ o. Answers o turn.between.state turn.after.state (next_cell track turn.between.state) answer) none works.2.1)
        (alarm-finish answer (subst (λ c. is_alarm c ≡ false) (works.1 ∙ ap Some works.2.2) turn.well)))

    starts-on : (place : ℕ) → turn.between ≡ with_control turn.before (ticked turn.before.control) → turn.before.control.drive ≡ Some place → is_on_the_way turn.before.state ≡ false
        → finished_moves turn.before.state < moves track → waits_for turn.before.state.heard (need table i track (finished_moves turn.before.state)) ≡ None → ⊥
    starts-on place is at stands left free =
        let r = with_control turn.before (ticked turn.before.control) in
        let listened = ready-before.listened in
        let ready : MayBegin r = record {
          may_drive = record { unbroken = ready-before.may_drive.unbroken; own_tape = ready-before.may_drive.own_tape };
          listened = omega (arith, listened);
          not_stopped = ready-before.not_stopped;
        } in
        let what : due_in turn.between ≡ due.Start = ap due_in is ∙ start-due r place ready refl at stands in
        let works = subst (λ d. DoesDue d settings table i track turn.between turn.command turn.after) what turn.works in
        let state : turn.between.state ≡ turn.before.state = ap (λ (x : Robot). x.state) is in
        let none : start_refusal table i track turn.between.state ≡ None
        = ap (start_refusal table i track) state ∙ no-start-refusal table i track turn.before.state ready-before.may_drive.unbroken stands left free in
        let answer = works.2.0 in
        nothing-more (stores-more turn.between.state turn.after.state (next_cell track turn.between.state) answer
        (subst (λ o. Answers o turn.between.state turn.after.state (next_cell track turn.between.state) answer) none works.2.1)
        (alarm-start track turn.after.state answer (subst (λ c. is_alarm c ≡ false) (works.1 ∙ ap Some works.2.2) turn.well)))

    not-moving : is_on_the_way old.state ≡ true → ⊥
    not-moving on =
        let what : turn.event ≡ reports (Stands (next_cell track old.state)) = subst (λ b. MatchBool b (turn.event ≡ reports (Stands (next_cell track old.state)))
        ((turn.event ≡ ticks None) × ((place : ℕ) × (turn.before.control.drive ≡ Some place))
        × MatchOption (need table i track (finished_moves old.state)) ⊤ (λ n. finished n.agent ≤ known_in turn.before.state.heard n.agent))) on turn.is_turn in
        let comes = subst (λ e. LeadsRobot settings table i track turn.before e turn.between) what turn.comes in
        let records = before-same in
        let on_before : is_on_the_way turn.before.state ≡ true = ap (λ n. n % 2 == 1) records ∙ on in
        let odd : turn.before.state.records % 2 ≡ 1 = eqb-true _ _ on_before in
        let limit = sure-before.within in
        let done = finished_moves turn.before.state in
        let done_same : done ≡ finished_moves old.state = ap (λ n. n / 2) records in
        let reach = sure-before.reaches in
        let there : slice_get (path track) (done + 1) ≡ Some (next_cell track old.state)
        = cell-there track (path track) (done + 1) refl (omega (arith, odd, limit)) ∙ ap (λ n. Some (path_cell track (n + 1))) done_same in
        elim comes [
          | inr bad ↦ bad.0 (done + 1) (record { behind = omega arith; within = omega (arith, reach, odd); is_at = there })
          | inl good ↦
              let fits = good.1 in
              let here : good.0 ≡ done + 1 = one-place (path track) done turn.before.control.far good.0 (done + 1) (next_cell track old.state) sure-before.each_new fits.behind fits.within
              (omega arith)
              (omega (arith, reach, odd)) fits.is_at there in
              finishes-on good.0 good.2 on_before (omega (arith, here))
        ]

    not-ready : is_on_the_way old.state ≡ false → finished_moves old.state < moves track → IsMet finished (need table i track (finished_moves old.state)) → ⊥
    not-ready stands left met =
        let what = subst (λ b. MatchBool b (turn.event ≡ reports (Stands (next_cell track old.state)))
        ((turn.event ≡ ticks None) × ((place : ℕ) × (turn.before.control.drive ≡ Some place))
        × MatchOption (need table i track (finished_moves old.state)) ⊤ (λ n. finished n.agent ≤ known_in turn.before.state.heard n.agent))) stands turn.is_turn in
        let comes = subst (λ e. LeadsRobot settings table i track turn.before e turn.between) what.0 turn.comes in
        let records = before-same in
        let stands_before : is_on_the_way turn.before.state ≡ false = ap (λ n. n % 2 == 1) records ∙ stands in
        let done_same : finished_moves turn.before.state ≡ finished_moves old.state = ap (λ n. n / 2) records in
        let free = none-waits finished turn.before.state (need table i track (finished_moves old.state)) what.2 met in
        starts-on what.1.0 comes.1 what.1.1 stands_before (omega (arith, left, done_same))
        (ap (λ k. waits_for turn.before.state.heard (need table i track k)) done_same ∙ free)

    pub stores : ((is_on_the_way old.state ≡ true) ⊎ ((is_on_the_way old.state ≡ false) × (finished_moves old.state < moves track) × IsMet finished (need table i track
        (finished_moves old.state)))) → ⊥
    stores (inl on) = not-moving on
    stores (inr can) = not-ready can.0 can.1 can.2

-- ---- a round

abbrev moves_of : Option Track → ℕ
moves_of None = 0
moves_of (Some track) = moves track

abbrev no_track : Track
no_track = record { start = record { x = 0; y = 0 }; later = [] }

arrived-if : (records most : ℕ) → records ≤ 2 * most → most ≤ records / 2 → records ≡ 2 * most
arrived-if records most within all = grind (arith, within, all)

abbrev IsLedWithin : Timetable → Type 0
IsLedWithin table = (i : ℕ) (track : Track) (old : State) (deed : Deed) (new : State) → old.records ≤ 2 * moves track → Does table i track old deed new → new.records ≤ 2 * moves track

module _ (settings : ℕ → Settings) (table : Timetable) (led : IsLedWithin table) (free : IsConflictFree table) (unswapped : IsSwapFree table) (no_rotation : HasRotation table → ⊥)
    (old new : ℕ → Robot) (turns : HaveTurns settings table old new) where
  within : (i : ℕ) (track : Track) → track_of table i ≡ Some track → (old i).state.records ≤ 2 * moves track
  within i track there = elim (turns i track there) [
    | inl all ↦ omega (arith, all)
    | inr turn ↦ (sure-of (settings i) table i track (led i track) turn.history (old i) turn.come).within
  ]

  -- who has a turn has no less stored behind it
  never-less : (i : ℕ) (track : Track) (turn : HasTurn (settings i) table i track (λ k. finished_moves (old k).state) (old i) (new i)) → (old i).state.records ≤ (new i).state.records
  never-less i track turn =
      let a = grows (settings i) table i track (led i track) turn.earlier (old i) turn.before turn.led_before.led in
      let b = one-grows (settings i) table i track (led i track) turn.event turn.before turn.between turn.comes in
      let c = one-grows (settings i) table i track (led i track) (goes_on turn.command) turn.between turn.after turn.works in
      let d = grows (settings i) table i track (led i track) turn.later turn.after (new i) turn.led_after.led in
      omega (arith, a, b, c, d)

  -- who can go on stores something
  goes-on : (i : ℕ) (track : Track) → track_of table i ≡ Some track → ((new i).state.records ≤ (old i).state.records) → finished_moves (old i).state < moves track
      → IsMet (λ k. finished_moves (old k).state) (need table i track (finished_moves (old i).state)) → ⊥
  goes-on i track there most left met = elim (turns i track there) [
    | inl all ↦ omega (arith, all, left)
    | inr turn ↦
        let more = never-less i track turn in
        let same : (new i).state.records ≡ (old i).state.records = omega (arith, more, most) in
        elim (cases_Bool (is_on_the_way (old i).state)) [
          | inl on ↦ stores (settings i) table i track (led i track) (λ k. finished_moves (old k).state) (old i) (new i) turn same (inl on)
          | inr off ↦ stores (settings i) table i track (led i track) (λ k. finished_moves (old k).state) (old i) (new i) turn same (inr (off, left, met))
        ]
  ]

  pub comes-on : HaveAllArrived table (λ i. (old i).state) ⊎ ((i : ℕ) × (i < length table.tracks) × ((old i).state.records < (new i).state.records))
  comes-on = elim (first_that (length table.tracks) (λ k. nat_lt (old k).state.records (new k).state.records)) [
    | inl found ↦ inr (found.0, found.1, ltb-true (old found.0).state.records (new found.0).state.records found.2)
    | inr none ↦
        elim (first_that (length table.tracks) (λ k. nat_lt (finished_moves (old k).state) (moves_of (track_of table k)))) [
          | inr all ↦ inl (λ i track there.
              arrived-if (old i).state.records (moves track) (within i track there)
              (ltb-false (finished_moves (old i).state) (moves track)
              (subst (λ o. nat_lt (finished_moves (old i).state) (moves_of o) ≡ false) there (all i (slice_get_within table.tracks i track there)))))
          | inl left ↦
              let there = slice_get-get_or table.tracks left.0 no_track left.1 in
              let fewer = ltb-true (finished_moves (old left.0).state) _ (subst (λ o. nat_lt (finished_moves (old left.0).state) (moves_of o) ≡ true) there left.2) in
              absurd (elim (stuck table (λ k. finished_moves (old k).state) free unswapped left.0 (_, there, fewer)) [
                | inr rotation ↦ no_rotation rotation
                | inl can ↦
                    goes-on can.agent can.track can.there
                    (ltb-false (old can.agent).state.records (new can.agent).state.records (none can.agent (slice_get_within table.tracks can.agent can.track can.there)))
                    can.left can.met
              ])
        ]
  ]
