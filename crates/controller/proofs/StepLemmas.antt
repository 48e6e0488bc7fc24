-- What the calls of an agent come to for its loop. What a loop is inside is what its callers see.
use Rattle.std.proofs.Common.{◌≡◌, ℕ, ◌+◌, ◌-◌, ◌<◌, ◌≤◌, arith, Bool, Some, Result, inl, inr, refl, sym, ap, subst, ◌∙◌}
use Rattle.std.specs.Prelude.{List, Option, min}
use Rattle.std.proofs.lemmas.Option.{same_Some}
use Rattle.grid.specs.declared.cell.Cell.{Cell}
use Rattle.model.specs.declared.held.Held.{Held}
use Rattle.model.specs.declared.version.Version.TheVariants.{One, Two}
use Rattle.model.specs.Timetable.{Track, Timetable, path, track_of}
use Rattle.depgraph.specs.AgentParts.{AgentPart, IsPartOf, IsOfGraph}
use Rattle.agent.specs.Agents.{AgentOn, state_of, Starts, Finishes, Hears, IsHolding, Says, TellsAll}
use Rattle.agent.specs.Ahead.{LooksAhead, IsFreeAhead}
use Rattle.agent.specs.States.{Answers, start_refusal, finish_refusal, finished_moves, begun_moves, held_by_tape, next_cell}
use Rattle.agent.specs.Tape.{TapeState}
use Rattle.agent.specs.declared.refusal.HearFault.{HearFault}
use Rattle.agent.specs.declared.refusal.Refusal.{Refusal}
use Rattle.agent.specs.declared.refusal.TellFault.{TellFault}
use Rattle.robot.specs.Stale.{IsStale, IsFresh}
use Rattle.controller.specs.declared.command.Alarm.TheVariants as the_alarm
use Rattle.controller.specs.declared.command.Command.{Command}
use Rattle.controller.specs.declared.command.Command.TheVariants as the_command
use Rattle.controller.specs.declared.control.Control.{Control}
use Rattle.controller.specs.declared.controller.Settings.{Settings}
use Rattle.controller.specs.Controls.{gone, most_ahead, stale, told_others}
use Rattle.controller.specs.Places.{IsFurthestNew}
use Rattle.controller.specs.Robots.{RobotOn, Robot, robot_of, IsSameRobot}
use Rattle.controller.specs.Steps.{FinishesMove, StartsMove, LetsGo, TellsOthers, TakesMessage, IsStored, IsSaidOrAlarm, IsToldOrAlarm, told_of_finish, told_of_start, told_of_hearing, after_finish, after_start, after_hearing}

module _ {T : Type 0} (seen : T → TapeState) (may_write : T → ℕ → List ℕ → Bool → T → Type 0) where
  -- a loop is still the same one
  pub same-robot : (a b : AgentOn T) (s : Settings) (c d : Control) (r : RobotOn T) → record { agent = a; settings = s; control = c } ≡ r → b.part ≡ a.part
      → IsSameRobot r (record { agent = b; settings = s; control = d })
  same-robot a b s c d r view same = record {
    part = same ∙ ap (λ (x : RobotOn T). x.agent.part) view;
    settings = ap (λ (x : RobotOn T). x.settings) view;
  }

  -- an agent that goes on is still the agent of its part
  pub part-finished : (a b : AgentOn T) (answer : Result Cell Refusal) → IsOfGraph a.part
      → ((table : Timetable) → IsPartOf table a.part → Finishes seen may_write table a b answer) → b.part ≡ a.part
  part-finished a b answer of does = (does of.0 of.2).1.part

  pub part-started : (a b : AgentOn T) (answer : Result Cell Refusal) → IsOfGraph a.part
      → ((table : Timetable) → IsPartOf table a.part → Starts seen may_write table a b answer) → b.part ≡ a.part
  part-started a b answer of does = (does of.0 of.2).1.part

  pub part-heard : (a b : AgentOn T) (bytes : List ℕ) (answer : Result (ℕ × ℕ) HearFault) → IsOfGraph a.part
      → ((table : Timetable) → IsPartOf table a.part → Hears seen table a b bytes answer) → b.part ≡ a.part
  part-heard a b bytes answer of does = ap (λ (x : AgentOn T). x.part) (does of.0 of.2).same

  pub finishes-move : (a b : AgentOn T) (s : Settings) (c d : Control) (r : RobotOn T) → record { agent = a; settings = s; control = c } ≡ r
      → (command : Command) (answer : Result Cell Refusal) → ((table : Timetable) → IsPartOf table a.part → Finishes seen may_write table a b answer)
      → command ≡ told_of_finish answer → d ≡ after_finish c answer
      → (table : Timetable) → IsPartOf table r.agent.part → (track : Track) → track_of table r.agent.part.agent ≡ Some track
      → FinishesMove table r.agent.part.agent track (robot_of seen r) command (record { state = state_of seen b; control = d })
  finishes-move a b s c d r view command answer does said after =
      subst
      (λ (x : RobotOn T). (table : Timetable) → IsPartOf table x.agent.part → (track : Track) → track_of table x.agent.part.agent ≡ Some track
      → FinishesMove table x.agent.part.agent track (robot_of seen x) command (record { state = state_of seen b; control = d }))
      view
      (λ table is track there.
      let done = does table is in
      let same = same_Some done.0 track (sym done.1.is_track ∙ there) in
      (answer, subst (λ t. Answers (finish_refusal (state_of seen a)) (state_of seen a) (state_of seen b) (next_cell t (state_of seen a)) answer) same done.1.state, said, after))

  pub starts-move : (a b : AgentOn T) (s : Settings) (c d : Control) (r : RobotOn T) → record { agent = a; settings = s; control = c } ≡ r
      → (command : Command) (answer : Result Cell Refusal) → ((table : Timetable) → IsPartOf table a.part → Starts seen may_write table a b answer)
      → ((table : Timetable) → IsPartOf table b.part → (track : Track) → track_of table b.part.agent ≡ Some track → command ≡ told_of_start track (state_of seen b) answer)
      → d ≡ after_start c (begun_moves (state_of seen b)) answer
      → (table : Timetable) → IsPartOf table r.agent.part → (track : Track) → track_of table r.agent.part.agent ≡ Some track
      → StartsMove table r.agent.part.agent track (robot_of seen r) command (record { state = state_of seen b; control = d })
  starts-move a b s c d r view command answer does said after =
      subst
      (λ (x : RobotOn T). (table : Timetable) → IsPartOf table x.agent.part → (track : Track) → track_of table x.agent.part.agent ≡ Some track
      → StartsMove table x.agent.part.agent track (robot_of seen x) command (record { state = state_of seen b; control = d }))
      view
      (λ table is track there.
      let done = does table is in
      let same = same_Some done.0 track (sym done.1.is_track ∙ there) in
      let part = done.1.part in (
        answer,
        subst (λ t. Answers (start_refusal table a.part.agent t (state_of seen a)) (state_of seen a) (state_of seen b) (next_cell t (state_of seen a)) answer) same done.1.state,
        said table (subst (IsPartOf table) (sym part) is) track (ap (λ (p : AgentPart). track_of table p.agent) part ∙ there),
        after,
      ))

  pub is-stored : (a : AgentOn T) (s : Settings) (c : Control) (r : RobotOn T) → record { agent = a; settings = s; control = c } ≡ r
      → (h : Held) (n : ℕ) → ((table : Timetable) → IsPartOf table a.part → IsHolding seen table a h) → n ≡ finished_moves (state_of seen a)
      → (table : Timetable) → IsPartOf table r.agent.part → (track : Track) → track_of table r.agent.part.agent ≡ Some track
      → IsStored track (state_of seen r.agent) (the_command.Stored h n)
  is-stored a s c r view h n holds done =
      subst
      (λ (x : RobotOn T). (table : Timetable) → IsPartOf table x.agent.part → (track : Track) → track_of table x.agent.part.agent ≡ Some track
      → IsStored track (state_of seen x.agent) (the_command.Stored h n))
      view
      (λ table is track there.
      let held = holds table is in
      let same = same_Some held.0 track (sym held.1 ∙ there) in
      ap (λ x. the_command.Stored x n) (held.2 ∙ ap (λ t. held_by_tape t (state_of seen a)) same)
      ∙ ap (the_command.Stored (held_by_tape track (state_of seen a))) done)

  pub takes-stale : (a : AgentOn T) (s : Settings) (c d : Control) (r : RobotOn T) → record { agent = a; settings = s; control = c } ≡ r
      → (bytes : List ℕ) (sender number : ℕ) → ((table : Timetable) → IsPartOf table a.part → IsStale table a.part.agent (state_of seen a) bytes sender number)
      → d ≡ stale c
      → (table : Timetable) → IsPartOf table r.agent.part → (track : Track) → track_of table r.agent.part.agent ≡ Some track
      → TakesMessage table r.agent.part.agent track bytes (robot_of seen r)
      (Some (the_command.Alarm (the_alarm.StaleTape (record { sender = sender; number = number })))) (record { state = state_of seen a; control = d })
  takes-stale a s c d r view bytes sender number is_stale after =
      subst
      (λ (x : RobotOn T). (table : Timetable) → IsPartOf table x.agent.part → (track : Track) → track_of table x.agent.part.agent ≡ Some track
      → TakesMessage table x.agent.part.agent track bytes (robot_of seen x)
      (Some (the_command.Alarm (the_alarm.StaleTape (record { sender = sender; number = number })))) (record { state = state_of seen a; control = d }))
      view
      (λ table is track there.
      inl (sender, number, is_stale table is, refl, ap {A = Control} {B = Robot} (λ x. record { state = state_of seen a; control = x }) after))

  pub takes-message : (a b : AgentOn T) (s : Settings) (c d : Control) (r : RobotOn T) → record { agent = a; settings = s; control = c } ≡ r
      → (bytes : List ℕ) (command : Option Command) (answer : Result (ℕ × ℕ) HearFault)
      → ((table : Timetable) → IsPartOf table a.part → IsFresh table a.part.agent (state_of seen a) bytes)
      → ((table : Timetable) → IsPartOf table a.part → Hears seen table a b bytes answer) → command ≡ told_of_hearing answer → d ≡ after_hearing c answer
      → (table : Timetable) → IsPartOf table r.agent.part → (track : Track) → track_of table r.agent.part.agent ≡ Some track
      → TakesMessage table r.agent.part.agent track bytes (robot_of seen r) command (record { state = state_of seen b; control = d })
  takes-message a b s c d r view bytes command answer fresh hears said after =
      subst
      (λ (x : RobotOn T). (table : Timetable) → IsPartOf table x.agent.part → (track : Track) → track_of table x.agent.part.agent ≡ Some track
      → TakesMessage table x.agent.part.agent track bytes (robot_of seen x) command (record { state = state_of seen b; control = d }))
      view
      (λ table is track there. inr (fresh table is, (answer, (hears table is).state, said, after)))

  pub lets-go : (a : AgentOn T) (s : Settings) (c d : Control) (r : RobotOn T) → record { agent = a; settings = s; control = c } ≡ r
      → (begun ahead done last free sum : ℕ) → sum ≡ begun + free → begun ≡ begun_moves (state_of seen a) → ahead ≡ most_ahead c s.ahead → done ≡ finished_moves (state_of seen a)
      → IsFurthestNew a.part.cells done (begun + ahead) last
      → ((table : Timetable) → IsPartOf table a.part → LooksAhead seen table a (last - begun) free) → d ≡ gone c sum
      → (table : Timetable) → IsPartOf table r.agent.part → (track : Track) → track_of table r.agent.part.agent ≡ Some track
      → LetsGo r.settings table r.agent.part.agent track (robot_of seen r) (the_command.Go (record { first = done; last = sum }))
      (record { state = state_of seen a; control = d })
  lets-go a s c d r view begun ahead done last free sum is_sum is_begun is_ahead is_done is_last looks after =
      subst
      (λ (x : RobotOn T). (table : Timetable) → IsPartOf table x.agent.part → (track : Track) → track_of table x.agent.part.agent ≡ Some track
      → LetsGo x.settings table x.agent.part.agent track (robot_of seen x) (the_command.Go (record { first = done; last = sum }))
      (record { state = state_of seen a; control = d }))
      view
      (λ table is track there.
      let looked = looks table is in
      let same = same_Some looked.0 track (sym looked.1 ∙ there) in
      let own = same_Some is.track track (sym is.is_track ∙ there) in
      record {
        last = last;
        is_last =
            subst (λ n. IsFurthestNew (path track) (finished_moves (state_of seen a)) n last) (ap (λ k. k + ahead) is_begun ∙ ap (λ k. begun_moves (state_of seen a) + k) is_ahead)
            (subst (λ n. IsFurthestNew (path track) n (begun + ahead) last) is_done
            (subst (λ l. IsFurthestNew l done (begun + ahead) last) (is.cells ∙ ap path own) is_last));
        count = free;
        does = (
          refl,
          subst (λ n. IsFreeAhead table a.part.agent track (state_of seen a) n free) (ap (λ k. last - k) is_begun)
              (subst (λ t. IsFreeAhead table a.part.agent t (state_of seen a) (last - begun) free) same looked.2),
          refl,
        );
        is_command =
            ap (λ n. the_command.Go (record { first = n; last = sum })) is_done
            ∙ ap (λ k. the_command.Go (record { first = finished_moves (state_of seen a); last = k })) (is_sum ∙ ap (λ k. k + free) is_begun);
        control = after ∙ ap (gone c) (is_sum ∙ ap (λ k. k + free) is_begun);
      })

  pub says-so : (a : AgentOn T) (s : Settings) (c d : Control) (r : RobotOn T) → record { agent = a; settings = s; control = c } ≡ r
      → (command : Command) (answer : Result (List ℕ) Refusal) → s.version ≡ One
      → ((table : Timetable) → IsPartOf table a.part → Says seen table a answer) → IsSaidOrAlarm command answer → d ≡ told_others c
      → (table : Timetable) → IsPartOf table r.agent.part → (track : Track) → track_of table r.agent.part.agent ≡ Some track
      → TellsOthers r.settings.version table r.agent.part.agent track (robot_of seen r) command (record { state = state_of seen a; control = d })
  says-so a s c d r view command answer version says said after =
      subst
      (λ (x : RobotOn T). (table : Timetable) → IsPartOf table x.agent.part → (track : Track) → track_of table x.agent.part.agent ≡ Some track
      → TellsOthers x.settings.version table x.agent.part.agent track (robot_of seen x) command (record { state = state_of seen a; control = d }))
      view
      (λ table is track there.
      subst (λ v. TellsOthers v table a.part.agent track (record { state = state_of seen a; control = c }) command (record { state = state_of seen a; control = d })) (sym version)
      (answer, (says table is, refl), said, after))

  pub tells-so : (a : AgentOn T) (s : Settings) (c d : Control) (r : RobotOn T) → record { agent = a; settings = s; control = c } ≡ r
      → (command : Command) (answer : Result (List ℕ) TellFault) → s.version ≡ Two
      → ((table : Timetable) → IsPartOf table a.part → TellsAll seen table a answer) → IsToldOrAlarm command answer → d ≡ told_others c
      → (table : Timetable) → IsPartOf table r.agent.part → (track : Track) → track_of table r.agent.part.agent ≡ Some track
      → TellsOthers r.settings.version table r.agent.part.agent track (robot_of seen r) command (record { state = state_of seen a; control = d })
  tells-so a s c d r view command answer version tells said after =
      subst
      (λ (x : RobotOn T). (table : Timetable) → IsPartOf table x.agent.part → (track : Track) → track_of table x.agent.part.agent ≡ Some track
      → TellsOthers x.settings.version table x.agent.part.agent track (robot_of seen x) command (record { state = state_of seen a; control = d }))
      view
      (λ table is track there.
      subst (λ v. TellsOthers v table a.part.agent track (record { state = state_of seen a; control = c }) command (record { state = state_of seen a; control = d })) (sym version)
      (answer, (tells table is, refl), said, after))

-- so many that are free, behind so many that are begun, are few
pub few-places : (begun last most free sum : ℕ) → begun ≤ 65535 → last < 4294967296 → most ≡ last - begun → free ≤ most → sum ≡ min (begun + free) 4294967295
    → sum ≡ begun + free
few-places begun last most free sum few within is less same = omega (arith, few, within, is, less, same)
