-- What a loop does of itself, by what is sure.
use Rattle.std.proofs.Common.{◌≡◌, ℕ, ◌+◌, ◌*◌, ◌<◌, ◌≤◌, Bool, true, false, List, max, Some, Result, Ok, Err, inl, inr, arith, refl, sym, ap, subst, ◌∙◌}
use Rattle.std.specs.Prelude.{◌⊎◌, ◌==◌, ◌&&◌, ◌||◌, not, nat_lt, Option}
use Rattle.std.proofs.lemmas.Bool.{cond-true, eqb-true, eqb-false, ltb-true, true≢false, and_parts, or_cases, not-true}
use Rattle.std.proofs.lemmas.Option.{none-some, same_Some}
use Rattle.grid.specs.declared.cell.Cell.{Cell}
use Rattle.model.specs.declared.version.Version.{Version}
use Rattle.model.specs.declared.version.Version.TheVariants.{One, Two}
use Rattle.model.specs.Timetable.{Track, Timetable, moves, path}
use Rattle.agent.specs.States.{State, finished_moves, begun_moves, start_refusal, finish_refusal, next_cell}
use Rattle.agent.specs.declared.refusal.Refusal.{Refusal}
use Rattle.agent.specs.declared.refusal.Refusal.TheVariants as refusal
use Rattle.agent.specs.declared.refusal.Refusal.TheVariants.{StoreFailed}
use Rattle.agent.specs.declared.refusal.TellFault.{TellFault}
use Rattle.fleet.specs.Deeds.{Deed, Does}
use Rattle.controller.specs.declared.command.Command.{Command}
use Rattle.controller.specs.declared.command.Command.TheVariants.{Go}
use Rattle.controller.specs.declared.command.Way.{Way}
use Rattle.controller.specs.declared.control.Control.{Control}
use Rattle.controller.specs.declared.control.Due.{Due}
use Rattle.controller.specs.declared.control.Due.TheVariants as due
use Rattle.controller.specs.declared.controller.Settings.{Settings}
use Rattle.controller.specs.Loops.{RobotEvent, reports, hears, ticks, stops, goes_on, LeadsRobot, HasComeTo, IsReportedAt, IsDueToGo, IsDueToFinish, IsDueToStart}
use Rattle.controller.specs.Places.{IsNew}
use Rattle.controller.specs.Robots.{Robot}
use Rattle.controller.specs.Controls.{most_ahead}
use Rattle.controller.specs.Steps.{due_in, DoesDue, WorksOn, TellsOthers, IsSaidOrAlarm, IsToldOrAlarm}
use Rattle.controller.specs.Steps.{told_of_refusal, told_of_finish, told_of_start}
use Rattle.controller.proofs.DueLemmas.{due-finish, due-start, due-go}
use Rattle.controller.proofs.DriveLemmas.{IsOn, IsSure, by-go, heard-records, stored, sure-of}

-- ---- no other command lets a drive go

abbrev is-go : Command → Bool
is-go (Go way) = true
is-go _ = false

go-refusal : (why : Refusal) → is-go (told_of_refusal why) ≡ false
go-refusal refusal.Broken = refl
go-refusal refusal.AlreadyMoving = refl
go-refusal refusal.AtEnd = refl
go-refusal (refusal.Waits agent count) = refl
go-refusal refusal.NotMoving = refl
go-refusal refusal.StoreFailed = refl

no-go-refusal : (way : Way) (why : Refusal) → Go way ≡ told_of_refusal why → ⊥
no-go-refusal way why e = true≢false (ap is-go e ∙ go-refusal why)

no-go-finish : (way : Way) (answer : Result Cell Refusal) → Go way ≡ told_of_finish answer → ⊥
no-go-finish way (Ok c) e = true≢false (ap is-go e)
no-go-finish way (Err why) e = no-go-refusal way why e

no-go-start : (way : Way) (track : Track) (s : State) (answer : Result Cell Refusal) → Go way ≡ told_of_start track s answer → ⊥
no-go-start way track s (Ok c) e = true≢false (ap is-go e)
no-go-start way track s (Err why) e = no-go-refusal way why e

no-go-said : (way : Way) (answer : Result (List ℕ) Refusal) → IsSaidOrAlarm (Go way) answer → ⊥
no-go-said way (Ok bytes) e = none-some bytes e
no-go-said way (Err why) e = no-go-refusal way why e

no-go-told : (way : Way) (answer : Result (List ℕ) TellFault) → IsToldOrAlarm (Go way) answer → ⊥
no-go-told way (Ok bytes) e = none-some bytes e
no-go-told way (Err why) e = true≢false (ap is-go e)

module _ (settings : Settings) (table : Timetable) (i : ℕ) (track : Track)
    (led : (old : State) (deed : Deed) (new : State) → old.records ≤ 2 * moves track → Does table i track old deed new → new.records ≤ 2 * moves track) where
  -- ---- what the loop does of itself

  reported : (happened : List RobotEvent) (r : Robot) → IsSure track happened r → (place : ℕ) → r.control.drive ≡ Some place
      → IsReportedAt track happened place × (finished_moves r.state ≤ place)
  reported happened r sure place at = let was = sure.known place at in ((was.0, was.1, was.2.is_at), was.2.behind)

  no-go-tell : (way : Way) (version : Version) (before after : Robot) → TellsOthers version table i track before (Go way) after → ⊥
  no-go-tell way One before after (answer, does, said, control) = no-go-said way answer said
  no-go-tell way Two before after (answer, does, said, control) = no-go-told way answer said

  pub order : (happened : List RobotEvent) (before : Robot) (way : Way) (after : Robot) → HasComeTo settings table i track happened before
      → WorksOn settings table i track before (Some (Go way)) after → IsDueToGo track happened before way after
  order happened before way after come works = by (due_in before) refl works where
    by : (d : Due) → due_in before ≡ d → DoesDue d settings table i track before (Some (Go way)) after → IsDueToGo track happened before way after
    by due.Nothing is (none, same) = absurd (none-some (Go way) (sym none))
    by due.Ask is (asks, same) = cc
    by due.Finish is (done, said, (answer, does, told, control)) = absurd (no-go-finish way answer (same_Some (Go way) done said ∙ told))
    by due.Start is (done, said, (answer, does, told, control)) = absurd (no-go-start way track after.state answer (same_Some (Go way) done said ∙ told))
    by due.Tell is (done, said, telling) = absurd (no-go-tell way settings.version before after (subst (λ c. TellsOthers settings.version table i track before c after) (sym (same_Some
        (Go way) done said)) telling))
    by due.Go is (done, said, goes) =
        let why = due-go before is in
        let sure = sure-of settings table i track led happened before come in
        let place = why.2.0 in
        let known = reported happened before sure place why.2.1 in
        let is_way : way ≡ record { first = finished_moves before.state; last = begun_moves before.state + goes.count } =
        let same : Go way ≡ Go (record { first = finished_moves before.state; last = begun_moves before.state + goes.count }) = same_Some (Go way) done said ∙ goes.is_command in cc in
        let new_sure = by-go settings table i track led happened before after (Some (Go way)) done is goes sure in
        let far : after.control.far ≡ max before.control.far (begun_moves before.state + goes.count) = ap (λ (c : Control). c.far) goes.control in
        let done_so : finished_moves after.state ≡ finished_moves before.state = ap finished_moves goes.does.2 in
        let few = goes.does.1.few in
        let ends = goes.is_last.within in
        let first = goes.is_last.behind in
        subst (λ w. IsDueToGo track happened before w after) (sym is_way) (record {
          may_drive = record { unbroken = why.0; own_tape = why.1 };
          place = place;
          reported = known.0;
          not_before = known.1;
          listened = why.2.2;
          first = refl;
          stored = omega arith;
          stopped = λ stop.
              let none : most_ahead before.control settings.ahead ≡ 0 = cond-true before.control.is_stopped 0 settings.ahead stop in
              elim ends [ inl same ↦ omega (arith, same, few) | inr most ↦ omega (arith, most, none, few) ];
          new_cells = λ k behind within.
              subst (λ n. IsNew (path track) n k) done_so (new_sure.each_new k (omega (arith, done_so, behind)) (omega (arith, far, within)));
          far = omega (arith, far);
        })

  -- a step in which the state of the agent stays
  still-told : (version : Version) (before after : Robot) (said : Command) → TellsOthers version table i track before said after → after.state ≡ before.state
  still-told One before after said (answer, does, is, control) = does.1
  still-told Two before after said (answer, does, is, control) = does.1

  -- records come from what is due alone
  from-due : (before : Robot) (command : Option Command) (after : Robot) → WorksOn settings table i track before command after
      → (after.state.records ≡ before.state.records) ⊎ ((due_in before ≡ due.Finish) × (after.state.records ≡ before.state.records + 1))
      ⊎ ((due_in before ≡ due.Start) × (after.state.records ≡ before.state.records + 1))
  from-due before command after works = by (due_in before) refl works where
    by : (d : Due) → due_in before ≡ d → DoesDue d settings table i track before command after
        → (after.state.records ≡ before.state.records) ⊎ ((due_in before ≡ due.Finish) × (after.state.records ≡ before.state.records + 1))
        ⊎ ((due_in before ≡ due.Start) × (after.state.records ≡ before.state.records + 1))
    by due.Nothing is (none, same) = inl (ap (λ (r : Robot). r.state.records) same)
    by due.Ask is (asks, same) = inl (ap (λ (r : Robot). r.state.records) same)
    by due.Finish is (done, said, (answer, does, told, control)) =
        elim (stored (finish_refusal before.state) before.state after.state (next_cell track before.state) answer does) [
          | inl same ↦ inl same
          | inr more ↦ inr (inl (is, more))
        ]
    by due.Start is (done, said, (answer, does, told, control)) =
        elim (stored (start_refusal table i track before.state) before.state after.state (next_cell track before.state) answer does) [
          | inl same ↦ inl same
          | inr more ↦ inr (inr (is, more))
        ]
    by due.Go is (done, said, goes) = inl (ap (λ (s : State). s.records) goes.does.2)
    by due.Tell is (done, said, telling) = inl (ap (λ (s : State). s.records) (still-told settings.version before after done telling))

  pub from-event : (before : Robot) (event : RobotEvent) (after : Robot) → LeadsRobot settings table i track before event after
      → (after.state.records ≡ before.state.records) ⊎ ((due_in before ≡ due.Finish) × (after.state.records ≡ before.state.records + 1))
      ⊎ ((due_in before ≡ due.Start) × (after.state.records ≡ before.state.records + 1))
  from-event before (reports report) after (inl (place, fits, same)) = inl (ap (λ (r : Robot). r.state.records) same)
  from-event before (reports report) after (inr (none, same)) = inl (ap (λ (r : Robot). r.state.records) same)
  from-event before (hears bytes command) after (inl (sender, number, stale, is, same)) = inl (ap (λ (r : Robot). r.state.records) same)
  from-event before (hears bytes command) after (inr (fresh, (answer, does, is, control))) = inl (heard-records table before.state after.state bytes answer does)
  from-event before (ticks command) after (is, same) = inl (ap (λ (r : Robot). r.state.records) same)
  from-event before stops after same = inl (ap (λ (r : Robot). r.state.records) same)
  from-event before (goes_on command) after works = from-due before command after works

  due-finished : (happened : List RobotEvent) (before : Robot) → HasComeTo settings table i track happened before → due_in before ≡ due.Finish
      → IsDueToFinish track happened before
  due-finished happened before come is =
      let why = due-finish before is in
      let known = reported happened before (sure-of settings table i track led happened before come) why.2.0 why.2.1 in
      record {
        may_drive = record { unbroken = why.0; own_tape = why.1 };
        on_the_way = why.2.3;
        place = why.2.0;
        reported = known.0;
        behind = why.2.2;
      }

  due-started : (happened : List RobotEvent) (before : Robot) → HasComeTo settings table i track happened before → due_in before ≡ due.Start
      → IsDueToStart track happened before
  due-started happened before come is =
      let why = due-start before is in
      let place = why.2.0 in
      let known = reported happened before (sure-of settings table i track led happened before come) place why.2.1 in
      let c = before.control in
      let may = and_parts c.wants.start (nat_lt (finished_moves before.state) place || ((c.listens == 0) && not c.is_stopped)) why.2.2 in
      record {
        may_drive = record { unbroken = why.0; own_tape = why.1 };
        stands = why.2.3;
        place = place;
        reported = known.0;
        not_before = known.1;
        allowed = elim (or_cases (nat_lt (finished_moves before.state) place) ((c.listens == 0) && not c.is_stopped) may.1) [
          | inl ahead ↦ inl (ltb-true (finished_moves before.state) place ahead)
          | inr free ↦ let both = and_parts (c.listens == 0) (not c.is_stopped) free in inr (eqb-true _ _ both.0, not-true c.is_stopped both.1)
        ];
      }

  pub finishing : (happened : List RobotEvent) (before : Robot) (event : RobotEvent) (after : Robot) → HasComeTo settings table i track happened before
      → LeadsRobot settings table i track before event after → finished_moves before.state < finished_moves after.state → IsDueToFinish track happened before
  finishing happened before event after come leads more =
      elim (from-event before event after leads) [
        | inl same ↦ absurd (omega (arith, same, more))
        | inr either ↦ elim either [
          | inl finish ↦ due-finished happened before come finish.0
          | inr start ↦
              let off : IsOn before.state → ⊥ = eqb-false _ _ (due-start before start.0).2.3 in
              let one = start.1 in
              absurd (omega (arith, one, more, off))
        ]
      ]

  pub starting : (happened : List RobotEvent) (before : Robot) (event : RobotEvent) (after : Robot) → HasComeTo settings table i track happened before
      → LeadsRobot settings table i track before event after → begun_moves before.state < begun_moves after.state → IsDueToStart track happened before
  starting happened before event after come leads more =
      elim (from-event before event after leads) [
        | inl same ↦ absurd (omega (arith, same, more))
        | inr either ↦ elim either [
          | inl finish ↦
              let on : IsOn before.state = eqb-true _ _ (due-finish before finish.0).2.3 in
              let one = finish.1 in
              absurd (omega (arith, one, more, on))
          | inr start ↦ due-started happened before come start.0
        ]
      ]
