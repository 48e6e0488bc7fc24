-- In which place a drive is.
use Rattle.std.proofs.Common.{◌≡◌, ℕ, ◌+◌, ◌-◌, ◌*◌, ◌/◌, ◌%◌, ◌<◌, ◌≤◌, true, List, [], ◌∷◌, max, Some, None, Result, Ok, Err, inl, inr, arith, refl, sym, ap, subst, ◌∙◌}
use Rattle.std.specs.Prelude.{◌⊎◌, Option, MatchOption}
use Rattle.std.proofs.lemmas.Bool.{cases_lt, eqb-true, eqb-false}
use Rattle.std.proofs.lemmas.Option.{none-some, same_Some}
use Rattle.grid.specs.declared.cell.Cell.{Cell}
use Rattle.model.specs.declared.version.Version.{Version}
use Rattle.model.specs.declared.version.Version.TheVariants.{One, Two}
use Rattle.model.specs.Messages.{Message}
use Rattle.model.specs.Timetable.{Track, Timetable, moves, path}
use Rattle.agent.specs.States.{State, Answers, Keeps, Refuses, IsHeard, IsTaken, bytes_refusal, telling_refusal, finished_moves, begun_moves, start_refusal, finish_refusal, next_cell}
use Rattle.agent.specs.Tellings.{Telling, BytesTell}
use Rattle.agent.specs.declared.refusal.HearFault.{HearFault}
use Rattle.agent.specs.declared.refusal.Refusal.{Refusal}
use Rattle.agent.specs.declared.refusal.Refusal.TheVariants.{StoreFailed}
use Rattle.fleet.specs.Deeds.{Deed, starts, finishes, hears as hears_so, Does}
use Rattle.controller.specs.declared.command.Command.{Command}
use Rattle.controller.specs.declared.control.Control.{Control}
use Rattle.controller.specs.declared.control.Due.{Due}
use Rattle.controller.specs.declared.control.Due.TheVariants as due
use Rattle.controller.specs.declared.controller.Settings.{Settings}
use Rattle.carrier_text.specs.declared.report.Report.{Report}
use Rattle.controller.specs.Loops.{RobotEvent, reports, hears, ticks, stops, goes_on, HasLedRobot, LeadsRobot, IsLoopOpened, HasComeTo, KnowsDrive, last_report}
use Rattle.controller.specs.Places.{FitsAt, IsNew, IsFurthestNew}
use Rattle.controller.specs.Robots.{Robot}
use Rattle.controller.specs.Controls.{most_ahead}
use Rattle.controller.specs.Steps.{due_in, DoesDue, FinishesMove, StartsMove, LetsGo, TellsOthers, after_hearing, after_finish, after_start}
use Rattle.controller.proofs.DueLemmas.{due-finish, due-start}
use Rattle.controller.proofs.PlaceLemmas.{fits-one, fits-still, new-behind, next-new}

-- the drive is where the last report says, and each cell in which it may be is another one
pub record IsSure (track : Track) (happened : List RobotEvent) (r : Robot) : Type 0 where
  pub known : (place : ℕ) → r.control.drive ≡ Some place → (report : Report) × (last_report happened ≡ Some report)
      × FitsAt (path track) (finished_moves r.state) r.control.far report place
  pub each_new : (k : ℕ) → finished_moves r.state < k → k ≤ r.control.far → IsNew (path track) (finished_moves r.state) k
  pub within : r.state.records ≤ 2 * moves track
  pub reaches : begun_moves r.state ≤ r.control.far

-- it is all that is promised
knows : (track : Track) (happened : List RobotEvent) (r : Robot) → IsSure track happened r → KnowsDrive track happened r
knows track happened r sure = record {
  fits = sure.known;
  alone = λ report one other fits too. fits-one (path track) (finished_moves r.state) r.control.far sure.each_new report one other fits too;
}

-- what is sure stays so, where the drive, how far it may be and what is finished are as they were
stays : (track : Track) (earlier happened : List RobotEvent) (old new : Robot) → last_report happened ≡ last_report earlier
    → new.control.drive ≡ old.control.drive → new.control.far ≡ old.control.far → finished_moves new.state ≡ finished_moves old.state
    → new.state.records ≤ 2 * moves track → begun_moves new.state ≤ new.control.far → IsSure track earlier old → IsSure track happened new
stays track earlier happened old new last drive far done few reaches sure = record {
  known = λ place at.
      let was = sure.known place (sym drive ∙ at) in
      (was.0, last ∙ was.1, subst (λ n. FitsAt (path track) n new.control.far was.0 place) (sym done) (subst (λ n. FitsAt (path track) (finished_moves old.state) n was.0 place) (sym far) was.2));
  each_new = λ k behind more.
      subst (λ n. IsNew (path track) n k) (sym done) (sure.each_new k (subst (λ n. n < k) done behind) (subst (λ n. k ≤ n) far more));
  within = few;
  reaches = reaches;
}

-- ---- what a call leaves of the tape

-- a start or a finish stores a record, or none
pub stored : (o : Option Refusal) (old new : State) (c : Cell) (answer : Result Cell Refusal) → Answers o old new c answer
    → (new.records ≡ old.records) ⊎ (new.records ≡ old.records + 1)
stored None old new c answer stores = by stores.outcome where
  by : ((answer ≡ Ok c) × (new.records ≡ old.records + 1) × (new.broken ≡ old.broken))
      ⊎ ((answer ≡ Err StoreFailed) × ((new.records ≡ old.records) ⊎ (new.records ≡ old.records + 1)) × (new.broken ≡ true))
      → (new.records ≡ old.records) ⊎ (new.records ≡ old.records + 1)
  by (inl (is, more, unbroken)) = inr more
  by (inr (is, either, broken)) = either
stored (Some why) old new c answer refuses = inl (ap (λ (s : State). s.records) refuses.1)

-- what is heard leaves it as it was
pub heard-records : (table : Timetable) (old new : State) (bytes : List ℕ) (answer : Result (ℕ × ℕ) HearFault) → IsHeard table old new bytes answer
    → new.records ≡ old.records
heard-records table old new bytes answer heard = by_bytes (bytes_refusal old bytes) heard where
  kept : (message : Message) (a : Result (ℕ × ℕ) HearFault) → Keeps old new message a → new.records ≡ old.records
  kept message (Ok known) keeps = keeps.2
  kept message (Err fault) keeps = ap (λ (s : State). s.records) keeps.2

  by_telling : (t : Telling) (o : Option HearFault) → MatchOption o (Keeps old new t.message answer) (Refuses old new answer) → new.records ≡ old.records
  by_telling t None keeps = kept t.message answer keeps
  by_telling t (Some fault) refuses = ap (λ (s : State). s.records) refuses.1

  by_bytes : (o : Option HearFault) → MatchOption o ((t : Telling) × BytesTell bytes t × IsTaken table old new t answer) (Refuses old new answer)
      → new.records ≡ old.records
  by_bytes None taken = by_telling taken.0 (telling_refusal table taken.0) taken.2
  by_bytes (Some fault) refuses = ap (λ (s : State). s.records) refuses.1

-- and it breaks nobody
pub heard-broken : (table : Timetable) (old new : State) (bytes : List ℕ) (answer : Result (ℕ × ℕ) HearFault) → IsHeard table old new bytes answer
    → new.broken ≡ old.broken
heard-broken table old new bytes answer heard = by_bytes (bytes_refusal old bytes) heard where
  kept : (message : Message) (a : Result (ℕ × ℕ) HearFault) → Keeps old new message a → new.broken ≡ old.broken
  kept message (Ok known) keeps = keeps.3
  kept message (Err fault) keeps = ap (λ (s : State). s.broken) keeps.2

  by_telling : (t : Telling) (o : Option HearFault) → MatchOption o (Keeps old new t.message answer) (Refuses old new answer) → new.broken ≡ old.broken
  by_telling t None keeps = kept t.message answer keeps
  by_telling t (Some fault) refuses = ap (λ (s : State). s.broken) refuses.1

  by_bytes : (o : Option HearFault) → MatchOption o ((t : Telling) × BytesTell bytes t × IsTaken table old new t answer) (Refuses old new answer)
      → new.broken ≡ old.broken
  by_bytes None taken = by_telling taken.0 (telling_refusal table taken.0) taken.2
  by_bytes (Some fault) refuses = ap (λ (s : State). s.broken) refuses.1

-- ---- what a loop does leaves what is sure

abbrev pub IsOn : State → Type 0
IsOn s = s.records % 2 ≡ 1

drive-heard : (c : Control) (answer : Result (ℕ × ℕ) HearFault) → ((after_hearing c answer).drive ≡ c.drive) × ((after_hearing c answer).far ≡ c.far)
drive-heard c (Ok known) = (refl, refl)
drive-heard c (Err fault) = (refl, refl)

drive-finished : (c : Control) (answer : Result Cell Refusal) → ((after_finish c answer).drive ≡ c.drive) × ((after_finish c answer).far ≡ c.far)
drive-finished c (Ok cell) = (refl, refl)
drive-finished c (Err why) = (refl, refl)

drive-started : (c : Control) (begun : ℕ) (answer : Result Cell Refusal) → ((after_start c begun answer).drive ≡ c.drive) × ((after_start c begun answer).far ≡ max c.far begun)
drive-started c begun (Ok cell) = (refl, refl)
drive-started c begun (Err why) = (refl, refl)

-- the furthest place of an opened tape is as far as what is begun
far-enough : (track : Track) (s : State) (ahead far : ℕ) → s.records ≤ 2 * moves track → IsFurthestNew (path track) (finished_moves s) (begun_moves s + ahead) far → begun_moves s ≤ far
far-enough track s ahead far few is_far =
    elim (cases_lt far (begun_moves s)) [
      | inr enough ↦ enough
      | inl short ↦
          let behind = is_far.behind in
          let same : far ≡ finished_moves s = omega (arith, short, behind) in
          let next = next-new track (finished_moves s) (omega (arith, short, same, few)) in
          absurd (is_far.no_further (omega (arith, short)) (subst (λ n. IsNew (path track) (finished_moves s) (n + 1)) (sym same) next))
    ]

-- one more move is finished: the drive has come to its end, or further
one-more : (track : Track) (earlier happened : List RobotEvent) (old new : Robot) (at : ℕ) → last_report happened ≡ last_report earlier
    → new.control.drive ≡ old.control.drive → new.control.far ≡ old.control.far → finished_moves new.state ≡ finished_moves old.state + 1
    → new.state.records ≤ 2 * moves track → old.control.drive ≡ Some at → finished_moves old.state < at → begun_moves new.state ≡ begun_moves old.state
    → IsSure track earlier old → IsSure track happened new
one-more track earlier happened old new at last drive far more few is_at less same_begun sure =
    let done = finished_moves old.state in
    record {
      known = λ place there.
          let same : at ≡ place = same_Some at place (sym is_at ∙ sym drive ∙ there) in
          let was = sure.known place (sym drive ∙ there) in (
            was.0,
            last ∙ was.1,
            fits-still (path track) done old.control.far (finished_moves new.state) new.control.far was.0 place (omega (arith, more, less, same)) (omega (arith, far)) was.2,
          );
      each_new = λ k behind within.
          subst (λ n. IsNew (path track) n k) (sym more)
          (new-behind (path track) done (done + 1) k (omega arith) (sure.each_new k (omega (arith, more, behind)) (omega (arith, far, within))));
      within = few;
      reaches = let reach = sure.reaches in omega (arith, far, reach, same_begun);
    }

-- the drive is let go on
let-go : (track : Track) (earlier happened : List RobotEvent) (old new : Robot) (last most count : ℕ) → last_report happened ≡ last_report earlier
    → new.control.drive ≡ old.control.drive → new.control.far ≡ max old.control.far (begun_moves old.state + count)
    → finished_moves new.state ≡ finished_moves old.state → begun_moves new.state ≡ begun_moves old.state → new.state.records ≤ 2 * moves track
    → IsFurthestNew (path track) (finished_moves old.state) most last → count ≤ last - begun_moves old.state
    → IsSure track earlier old → IsSure track happened new
let-go track earlier happened old new last most count same drive far done still few is_last within sure =
    let here = finished_moves old.state in
    record {
      known = λ place there.
          let was = sure.known place (sym drive ∙ there) in
          let behind = was.2.behind in (
            was.0,
            same ∙ was.1,
            fits-still (path track) here old.control.far (finished_moves new.state) new.control.far was.0 place (omega (arith, done, behind)) (omega (arith, far)) was.2,
          );
      each_new = λ k behind further.
          subst (λ n. IsNew (path track) n k) (sym done)
          (elim (cases_lt old.control.far k) [
            | inr old_one ↦ sure.each_new k (omega (arith, done, behind)) old_one
            | inl new_one ↦ elim (cases_lt last k) [
              | inr within_last ↦ is_last.each_new k (omega (arith, done, behind)) within_last
              | inl past ↦
                  let first = is_last.behind in
                  let reach = sure.reaches in
                  absurd (omega (arith, further, far, new_one, past, within, reach))
            ]
          ]);
      within = few;
      reaches = let reach = sure.reaches in omega (arith, far, reach, still);
    }

-- a move is begun, or none: the drive may be as far as its end
one-begun : (track : Track) (earlier happened : List RobotEvent) (old new : Robot) → last_report happened ≡ last_report earlier
    → new.control.drive ≡ old.control.drive → new.control.far ≡ max old.control.far (begun_moves new.state) → finished_moves new.state ≡ finished_moves old.state
    → begun_moves new.state ≤ finished_moves old.state + 1 → new.state.records ≤ 2 * moves track → IsSure track earlier old → IsSure track happened new
one-begun track earlier happened old new same drive far done next few sure =
    let here = finished_moves old.state in
    record {
      known = λ place there.
          let was = sure.known place (sym drive ∙ there) in
          let behind = was.2.behind in
          (was.0, same ∙ was.1, fits-still (path track) here old.control.far (finished_moves new.state) new.control.far was.0 place (omega (arith, done, behind)) (omega (arith, far)) was.2);
      each_new = λ k behind further.
          subst (λ n. IsNew (path track) n k) (sym done)
          (elim (cases_lt old.control.far k) [
            | inr old_one ↦ sure.each_new k (omega (arith, done, behind)) old_one
            | inl new_one ↦
                let is : k ≡ here + 1 = omega (arith, done, behind, further, far, new_one, next) in
                subst (IsNew (path track) here) (sym is) (next-new track here (omega (arith, done, few, next, further, far, new_one, behind)))
          ]);
      within = few;
      reaches = omega (arith, far);
    }

module _ (settings : Settings) (table : Timetable) (i : ℕ) (track : Track)
    (led : (old : State) (deed : Deed) (new : State) → old.records ≤ 2 * moves track → Does table i track old deed new → new.records ≤ 2 * moves track) where
  by-finish : (earlier : List RobotEvent) (old new : Robot) (command : Option Command) (done : Command) → due_in old ≡ due.Finish
      → FinishesMove table i track old done new → IsSure track earlier old → IsSure track (goes_on command ∷ earlier) new
  by-finish earlier old new command done is (answer, does, said, after) sure =
      let why = (due-finish old is).2 in
      let place = why.0 in
      let on : IsOn old.state = eqb-true _ _ why.3 in
      let few = led old.state (finishes answer) new.state sure.within does in
      let drive = ap (λ (c : Control). c.drive) after ∙ (drive-finished old.control answer).0 in
      let far = ap (λ (c : Control). c.far) after ∙ (drive-finished old.control answer).1 in
      elim (stored (finish_refusal old.state) old.state new.state (next_cell track old.state) answer does) [
        | inl same ↦ stays track earlier (goes_on command ∷ earlier) old new refl drive far (omega (arith, same)) few (let reach = sure.reaches in omega (arith, same, far, reach)) sure
        | inr more ↦ one-more track earlier (goes_on command ∷ earlier) old new place refl drive far (omega (arith, more, on)) few why.1 why.2 (omega (arith, more, on)) sure
      ]

  by-start : (earlier : List RobotEvent) (old new : Robot) (command : Option Command) (done : Command) → due_in old ≡ due.Start
      → StartsMove table i track old done new → IsSure track earlier old → IsSure track (goes_on command ∷ earlier) new
  by-start earlier old new command done is (answer, does, said, after) sure =
      let why = (due-start old is).2 in
      let off : IsOn old.state → ⊥ = eqb-false _ _ why.3 in
      let few = led old.state (starts answer) new.state sure.within does in
      let drive = ap (λ (c : Control). c.drive) after ∙ (drive-started old.control (begun_moves new.state) answer).0 in
      let far : new.control.far ≡ max old.control.far (begun_moves new.state) = ap (λ (c : Control). c.far) after ∙ (drive-started old.control (begun_moves new.state) answer).1 in
      let least = sure.reaches in
      let records : (new.state.records ≡ old.state.records) ⊎ (new.state.records ≡ old.state.records + 1)
      = stored (start_refusal table i track old.state) old.state new.state (next_cell track old.state) answer does in
      let done : finished_moves new.state ≡ finished_moves old.state = elim records [ inl same ↦ omega (arith, same) | inr more ↦ omega (arith, more, off) ] in
      let begun : begun_moves new.state ≤ finished_moves old.state + 1 = elim records [ inl same ↦ omega (arith, same, off) | inr more ↦ omega (arith, more, off) ] in
      one-begun track earlier (goes_on command ∷ earlier) old new refl drive far done begun few sure

  pub by-go : (earlier : List RobotEvent) (old new : Robot) (command : Option Command) (done : Command) → due_in old ≡ due.Go
      → LetsGo settings table i track old done new → IsSure track earlier old → IsSure track (goes_on command ∷ earlier) new
  by-go earlier old new command done is goes sure =
      let same : new.state ≡ old.state = goes.does.2 in
      let few = subst (λ (s : State). s.records ≤ 2 * moves track) (sym same) sure.within in
      let-go track earlier (goes_on command ∷ earlier) old new goes.last (begun_moves old.state + most_ahead old.control settings.ahead) goes.count refl
      (ap (λ (c : Control). c.drive) goes.control) (ap (λ (c : Control). c.far) goes.control) (ap finished_moves same) (ap begun_moves same) few goes.is_last goes.does.1.few sure

  by-tell : (version : Version) (earlier : List RobotEvent) (old new : Robot) (command : Option Command) (done : Command)
      → TellsOthers version table i track old done new → IsSure track earlier old → IsSure track (goes_on command ∷ earlier) new
  by-tell One earlier old new command done (answer, does, said, after) sure =
      let same : new.state ≡ old.state = does.1 in
      stays track earlier (goes_on command ∷ earlier) old new refl (ap (λ (c : Control). c.drive) after) (ap (λ (c : Control). c.far) after) (ap finished_moves same)
      (subst (λ (s : State). s.records ≤ 2 * moves track) (sym same) sure.within)
      (let reach = sure.reaches in let far = ap (λ (c : Control). c.far) after in let begun = ap begun_moves same in omega (arith, reach, far, begun)) sure
  by-tell Two earlier old new command done (answer, does, said, after) sure =
      let same : new.state ≡ old.state = does.1 in
      stays track earlier (goes_on command ∷ earlier) old new refl (ap (λ (c : Control). c.drive) after) (ap (λ (c : Control). c.far) after) (ap finished_moves same)
      (subst (λ (s : State). s.records ≤ 2 * moves track) (sym same) sure.within)
      (let reach = sure.reaches in let far = ap (λ (c : Control). c.far) after in let begun = ap begun_moves same in omega (arith, reach, far, begun)) sure

  by-due : (d : Due) (earlier : List RobotEvent) (old new : Robot) (command : Option Command) → due_in old ≡ d
      → DoesDue d settings table i track old command new → IsSure track earlier old → IsSure track (goes_on command ∷ earlier) new
  by-due due.Nothing earlier old new command is (none, same) sure =
      subst (IsSure track (goes_on command ∷ earlier)) (sym same) (record { known = sure.known; each_new = sure.each_new; within = sure.within; reaches = sure.reaches })
  by-due due.Ask earlier old new command is (asks, same) sure =
      subst (IsSure track (goes_on command ∷ earlier)) (sym same) (record { known = sure.known; each_new = sure.each_new; within = sure.within; reaches = sure.reaches })
  by-due due.Finish earlier old new command is (done, said, finishing) sure = by-finish earlier old new command done is finishing sure
  by-due due.Start earlier old new command is (done, said, starting) sure = by-start earlier old new command done is starting sure
  by-due due.Go earlier old new command is (done, said, going) sure = by-go earlier old new command done is going sure
  by-due due.Tell earlier old new command is (done, said, telling) sure = by-tell settings.version earlier old new command done telling sure

  step : (happening : RobotEvent) (earlier : List RobotEvent) (old new : Robot) → LeadsRobot settings table i track old happening new
      → IsSure track earlier old → IsSure track (happening ∷ earlier) new
  step (reports report) earlier old new (inl (place, fits, same)) sure =
      subst (IsSure track (reports report ∷ earlier)) (sym same) (record {
        known = λ at there. (report, refl, subst (FitsAt (path track) (finished_moves old.state) old.control.far report) (same_Some place at there) fits);
        each_new = sure.each_new;
        within = sure.within;
        reaches = sure.reaches;
      })
  step (reports report) earlier old new (inr (none, same)) sure =
      subst (IsSure track (reports report ∷ earlier)) (sym same) (record {
        known = λ at there. absurd (none-some at there);
        each_new = sure.each_new;
        within = sure.within;
        reaches = sure.reaches;
      })
  step (hears bytes command) earlier old new (inl (sender, number, stale, is, same)) sure =
      subst (IsSure track (hears bytes command ∷ earlier)) (sym same) (record { known = sure.known; each_new = sure.each_new; within = sure.within; reaches = sure.reaches })
  step (hears bytes command) earlier old new (inr (fresh, (answer, does, is, after))) sure =
      stays track earlier (hears bytes command ∷ earlier) old new refl (ap (λ (c : Control). c.drive) after ∙ (drive-heard old.control answer).0)
      (ap (λ (c : Control). c.far) after ∙ (drive-heard old.control answer).1) (ap (λ n. n / 2) (heard-records table old.state new.state bytes answer does))
      (led old.state (hears_so bytes answer) new.state sure.within does)
      (let reach = sure.reaches in let far = ap (λ (c : Control). c.far) after ∙ (drive-heard old.control answer).1 in
      let begun = heard-records table old.state new.state bytes answer does in omega (arith, reach, far, begun)) sure
  step (ticks command) earlier old new (is, same) sure =
      subst (IsSure track (ticks command ∷ earlier)) (sym same) (record { known = sure.known; each_new = sure.each_new; within = sure.within; reaches = sure.reaches })
  step stops earlier old new same sure =
      subst (IsSure track (stops ∷ earlier)) (sym same) (record { known = sure.known; each_new = sure.each_new; within = sure.within; reaches = sure.reaches })
  step (goes_on command) earlier old new does sure = by-due (due_in old) earlier old new command refl does sure

  all-sure : (happened : List RobotEvent) (first now : Robot) → first.state.records ≤ 2 * moves track → IsLoopOpened settings track first
      → HasLedRobot settings table i track first happened now → IsSure track happened now
  all-sure [] first now few opened same =
      let control = opened.control in
      subst (IsSure track []) (sym same) (record {
        known = λ place there. absurd (none-some place (sym (ap (λ (c : Control). c.drive) control) ∙ there));
        each_new = λ k behind within. opened.is_far.each_new k behind (subst (λ n. k ≤ n) (ap (λ (c : Control). c.far) control) within);
        within = few;
        reaches = let enough = far-enough track first.state settings.ahead opened.far few opened.is_far in let far = ap (λ (c : Control). c.far) control in omega (arith, enough, far);
      })
  all-sure (happening ∷ earlier) first now few opened (before, was, leads) =
      step happening earlier before now leads (all-sure earlier first before few opened was)

  pub sure-of : (happened : List RobotEvent) (now : Robot) → HasComeTo settings table i track happened now → IsSure track happened now
  sure-of happened now (first, few, opened, led_so) = all-sure happened first now few opened led_so

  pub all-known : (happened : List RobotEvent) (now : Robot) → HasComeTo settings table i track happened now → KnowsDrive track happened now
  all-known happened now come = knows track happened now (sure-of happened now come)
