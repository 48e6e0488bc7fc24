-- What a loop does, and its agent's deeds.
use Rattle.std.proofs.Common.{◌≡◌, ℕ, ◌+◌, ◌-◌, ◌≤◌, List, [], ◌∷◌, Some, None, Result, Ok, Err, inl, inr, arith, refl, sym, ap, subst, ◌∙◌}
use Rattle.std.specs.Prelude.{Option}
use Rattle.std.proofs.lemmas.Option.{none-some}
use Rattle.grid.specs.declared.cell.Cell.{Cell}
use Rattle.model.specs.declared.version.Version.{Version}
use Rattle.model.specs.declared.version.Version.TheVariants.{One, Two}
use Rattle.model.specs.Timetable.{Track, Timetable}
use Rattle.agent.specs.States.{State, begun_moves, finished_moves}
use Rattle.agent.specs.declared.refusal.Refusal.{Refusal}
use Rattle.agent.specs.declared.refusal.Refusal.TheVariants as refusal
use Rattle.agent.specs.declared.refusal.TellFault.{TellFault}
use Rattle.fleet.specs.Deeds.{Deed, starts, finishes, says, tells, looks, hears as hears_so, DoesAll}
use Rattle.fleet.specs.Ahead.{told_free}
use Rattle.fleet.specs.Fleets.{bytes_of, IsHonest}
use Rattle.controller.specs.declared.command.Command.{Command}
use Rattle.controller.specs.declared.command.Command.TheVariants as the_command
use Rattle.controller.specs.declared.control.Due.{Due}
use Rattle.controller.specs.declared.control.Due.TheVariants as due
use Rattle.controller.specs.declared.controller.Settings.{Settings}
use Rattle.controller.specs.Loops.{RobotEvent, reports, hears, ticks, stops, goes_on, LeadsRobot, AreDeeds, IsOwnDeed, one_or_none, sent_by, let_by}
use Rattle.controller.specs.Robots.{Robot}
use Rattle.controller.specs.Steps.{due_in, message_of_command, DoesDue, TellsOthers, IsSaidOrAlarm, IsToldOrAlarm, told_of_refusal, told_of_finish, told_of_start}

-- the agent does what there is to do
abbrev HasDeeds : Timetable → ℕ → Track → State → RobotEvent → State → Type 0
HasDeeds table i track old happening new = (deeds : List Deed) × AreDeeds happening deeds × DoesAll table i track old deeds new

-- ---- what is not sent, and lets nobody go

abbrev IsQuiet : Option Command → Type 0
IsQuiet command = (sent_by command ≡ []) × (let_by command ≡ 0)

quiet-refusal : (why : Refusal) → IsQuiet (Some (told_of_refusal why))
quiet-refusal refusal.Broken = (refl, refl)
quiet-refusal refusal.AlreadyMoving = (refl, refl)
quiet-refusal refusal.AtEnd = (refl, refl)
quiet-refusal (refusal.Waits agent count) = (refl, refl)
quiet-refusal refusal.NotMoving = (refl, refl)
quiet-refusal refusal.StoreFailed = (refl, refl)

quiet-finish : (answer : Result Cell Refusal) → IsQuiet (Some (told_of_finish answer))
quiet-finish (Ok c) = (refl, refl)
quiet-finish (Err why) = quiet-refusal why

quiet-start : (track : Track) (s : State) (answer : Result Cell Refusal) → IsQuiet (Some (told_of_start track s answer))
quiet-start track s (Ok c) = (refl, refl)
quiet-start track s (Err why) = quiet-refusal why

-- a deed of which nothing is sent
own-quiet : (command : Option Command) (deed : Deed) → bytes_of deed ≡ [] → ((said : List (List ℕ)) → IsHonest said deed)
    → IsQuiet command → IsOwnDeed command deed
own-quiet command deed silent honest quiet = record {
  says = silent ∙ sym quiet.0;
  looks = subst (λ n. n ≤ told_free deed) (sym quiet.1) (omega arith);
  hears_none = honest;
}

-- who sends lets nobody go
sent-quiet : (command : Command) (bytes : List ℕ) → message_of_command command ≡ Some bytes → let_by (Some command) ≡ 0
sent-quiet (the_command.Go way) bytes e = absurd (none-some bytes e)
sent-quiet _ bytes e = refl

own-sent : (command : Command) (bytes : List ℕ) (deed : Deed) → bytes_of deed ≡ bytes ∷ [] → ((said : List (List ℕ)) → IsHonest said deed)
    → message_of_command command ≡ Some bytes → IsOwnDeed (Some command) deed
own-sent command bytes deed speaks honest same = record {
  says = speaks ∙ sym (ap one_or_none same);
  looks = subst (λ n. n ≤ told_free deed) (sym (sent-quiet command bytes same)) (omega arith);
  hears_none = honest;
}

module _ (settings : Settings) (table : Timetable) (i : ℕ) (track : Track) where
  -- what is told to the others
  says-own : (said : Command) (answer : Result (List ℕ) Refusal) → IsSaidOrAlarm said answer → IsOwnDeed (Some said) (says answer)
  says-own said (Ok bytes) same = own-sent said bytes (says (Ok bytes)) refl (λ before. tt) same
  says-own said (Err why) same =
      own-quiet (Some said) (says (Err why)) refl (λ before. tt) (subst (λ k. IsQuiet (Some k)) (sym same) (quiet-refusal why))

  tells-own : (said : Command) (answer : Result (List ℕ) TellFault) → IsToldOrAlarm said answer → IsOwnDeed (Some said) (tells answer)
  tells-own said (Ok bytes) same = own-sent said bytes (tells (Ok bytes)) refl (λ before. tt) same
  tells-own said (Err why) same =
      own-quiet (Some said) (tells (Err why)) refl (λ before. tt) (subst (λ k. IsQuiet (Some k)) (sym same) (refl, refl))

  tell-deeds : (version : Version) (old new : Robot) (said : Command) → TellsOthers version table i track old said new
      → HasDeeds table i track old.state (goes_on (Some said)) new.state
  tell-deeds One old new said (answer, does, is, after) = (says answer ∷ [], says-own said answer is, (new.state, does, refl))
  tell-deeds Two old new said (answer, does, is, after) = (tells answer ∷ [], tells-own said answer is, (new.state, does, refl))

  -- what is due is one deed at the most
  due-deeds : (d : Due) (old new : Robot) (command : Option Command) → DoesDue d settings table i track old command new
      → HasDeeds table i track old.state (goes_on command) new.state
  due-deeds due.Nothing old new command (is, same) = ([], quiet-none command is, ap (λ (r : Robot). r.state) same) where
    quiet-none : (c : Option Command) → c ≡ None → IsQuiet c
    quiet-none c e = subst (IsQuiet) (sym e) (refl, refl)
  due-deeds due.Ask old new command (is, same) = ([], subst (IsQuiet) (sym is) (refl, refl), ap (λ (r : Robot). r.state) same)
  due-deeds due.Finish old new command (done, is, (answer, does, said, after)) = (
    finishes answer ∷ [],
    own-quiet command (finishes answer) refl (λ before. tt) (subst (IsQuiet) (sym (is ∙ ap Some said)) (quiet-finish answer)),
    (new.state, does, refl),
  )
  due-deeds due.Start old new command (done, is, (answer, does, said, after)) = (
    starts answer ∷ [],
    own-quiet command (starts answer) refl (λ before. tt) (subst (IsQuiet) (sym (is ∙ ap Some said)) (quiet-start track new.state answer)),
    (new.state, does, refl),
  )
  due-deeds due.Go old new command (done, is, goes) =
      let begun = begun_moves old.state in
      let way : command ≡ Some (the_command.Go (record { first = finished_moves old.state; last = begun + goes.count })) = is ∙ ap Some goes.is_command in (
        looks begun (goes.last - begun) goes.count ∷ [],
        record {
          says = sym (ap sent_by way);
          looks = subst (λ n. n ≤ begun + goes.count) (sym (ap (let_by) way)) (omega arith);
          hears_none = λ before. tt;
        },
        (new.state, goes.does, refl),
      )
  due-deeds due.Tell old new command (done, is, telling) =
      subst (λ c. HasDeeds table i track old.state (goes_on c) new.state) (sym is) (tell-deeds settings.version old new done telling)

  -- whatever happens is one deed at the most
  pub leads-deeds : (old new : Robot) (happening : RobotEvent) → LeadsRobot settings table i track old happening new
      → HasDeeds table i track old.state happening new.state
  leads-deeds old new (reports report) (inl (place, fits, same)) = ([], refl, ap (λ (r : Robot). r.state) same)
  leads-deeds old new (reports report) (inr (none, same)) = ([], refl, ap (λ (r : Robot). r.state) same)
  leads-deeds old new (hears bytes command) (inl (sender, number, stale, is, same)) = ([], tt, ap (λ (r : Robot). r.state) same)
  leads-deeds old new (hears bytes command) (inr (fresh, (answer, does, is, after))) = (hears_so bytes answer ∷ [], (answer, refl, is), (new.state, does, refl))
  leads-deeds old new (ticks command) (is, same) = ([], refl, ap (λ (r : Robot). r.state) same)
  leads-deeds old new stops same = ([], refl, ap (λ (r : Robot). r.state) same)
  leads-deeds old new (goes_on command) does = due-deeds (due_in old) old new command does
