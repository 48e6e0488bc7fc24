-- A fleet whose robots run loops goes on as a fleet.
use Rattle.std.proofs.Common.{◌≡◌, ◌≢◌, ℕ, List, [], ◌∷◌, ◌++◌, Some, Ok, Err, Result, inl, inr, refl, sym, ap, subst, ◌∙◌}
use Rattle.std.specs.Prelude.{Option}
use Rattle.std.proofs.lemmas.Bool.{cases_eq, cond-true, cond-false, eq-eqb, ne_eqb}
use Rattle.std.proofs.lemmas.List.{append-nil}
use Rattle.model.specs.Timetable.{Track, Timetable, track_of}
use Rattle.agent.specs.States.{State, begun_moves}
use Rattle.agent.specs.declared.refusal.HearFault.{HearFault}
use Rattle.fleet.specs.Deeds.{Deed, hears as hears_so, Does, DoesAll}
use Rattle.fleet.specs.Fleets.{Log, fresh, deeds_of, spoken, bytes_of, IsHonest, IsFleet, with_state}
use Rattle.fleet.specs.OwnPlans.{Doings, log_of, IsFleetBy}
use Rattle.controller.specs.declared.command.Command.{Command}
use Rattle.controller.specs.declared.controller.Settings.{Settings}
use Rattle.controller.specs.Loops.{RobotEvent, reports, hears, ticks, stops, goes_on, LeadsRobot, AreDeeds, WasSaidBefore, sent_in, logged_behind, done_behind}
use Rattle.controller.specs.Robots.{Robot}
use Rattle.controller.specs.Steps.{told_of_hearing}
use Rattle.controller.proofs.DeedLemmas.{leads-deeds}

-- nobody's state is another one
state-same : (states : ℕ → State) (i : ℕ) (s : State) (k : ℕ) → s ≡ states i → with_state states i s k ≡ states k
state-same states i s k same =
    elim (cases_eq i k) [
      | inl own ↦ cond-true _ _ _ (eq-eqb i k own) ∙ same ∙ ap states own
      | inr other ↦ cond-false _ _ _ (ne_eqb i k other)
    ]

state-own : (states : ℕ → State) (i : ℕ) (s : State) → with_state states i s i ≡ s
state-own states i s = cond-true _ _ _ (eq-eqb i i refl)

state-other : (states : ℕ → State) (i : ℕ) (s : State) (k : ℕ) → k ≢ i → with_state states i s k ≡ states k
state-other states i s k other = cond-false _ _ _ (ne_eqb i k (λ e. other (sym e)))

-- ---- what an agent does while something happens

honest-heard : (said : List (List ℕ)) (bytes : List ℕ) (command : Option Command) (answer : Result (ℕ × ℕ) HearFault) → command ≡ told_of_hearing answer
    → WasSaidBefore said (hears bytes command) → IsHonest said (hears_so bytes answer)
honest-heard said bytes command (Ok known) is passed = subst (λ c. WasSaidBefore said (hears bytes c)) is passed
honest-heard said bytes command (Err fault) is passed = tt

abbrev IsSpokenSo : List (List ℕ) → RobotEvent → Deed → Type 0
IsSpokenSo said happening deed = IsHonest said deed × (bytes_of deed ≡ sent_in happening)

one-deed : (happening : RobotEvent) (deed : Deed) (said : List (List ℕ)) → AreDeeds happening (deed ∷ []) → WasSaidBefore said happening
    → IsSpokenSo said happening deed
one-deed (reports report) deed said are passed = cc
one-deed (hears bytes command) deed said (answer, is, told) passed =
    subst (IsSpokenSo said (hears bytes command)) (sym is) (honest-heard said bytes command answer told passed, refl)
one-deed (ticks command) deed said are passed = cc
one-deed stops deed said are passed = cc
one-deed (goes_on command) deed said own passed = (own.hears_none said, own.says)

no-deed : (happening : RobotEvent) → AreDeeds happening [] → sent_in happening ≡ []
no-deed (reports report) are = refl
no-deed (hears bytes command) are = refl
no-deed (ticks command) are = refl
no-deed stops are = refl
no-deed (goes_on command) are = are.0

more-deeds : (happening : RobotEvent) (deed next : Deed) (deeds : List Deed) → AreDeeds happening (deed ∷ next ∷ deeds) → ⊥
more-deeds (reports report) deed next deeds are = cc
more-deeds (hears bytes command) deed next deeds are = cc
more-deeds (ticks command) deed next deeds are = cc
more-deeds stops deed next deeds are = cc
more-deeds (goes_on command) deed next deeds are = cc

-- ---- the fleet

-- it goes on by one deed of one agent
abbrev GoesOnBy : Timetable → Type 0
GoesOnBy table =
    (log : Log) (states : ℕ → State) (i : ℕ) (track : Track) (deed : Deed) (new : State) → IsFleet table log states → track_of table i ≡ Some track
    → IsHonest (spoken log) deed → Does table i track (states i) deed new
    → IsFleet table (record { agent = i; deed = deed } ∷ log) (with_state states i new)

pub fleet-led : (settings : Settings) (table : Timetable) (log : Log) (states : ℕ → State) (i : ℕ) (track : Track) (old : Robot) (happening : RobotEvent) (new : Robot)
    → GoesOnBy table → IsFleet table log states → track_of table i ≡ Some track → old.state ≡ states i → LeadsRobot settings table i track old happening new
    → WasSaidBefore (spoken log) happening
    → (deeds : List Deed) × AreDeeds happening deeds × IsFleet table (logged_behind i deeds log) (with_state states i new.state)
    × (spoken (logged_behind i deeds log) ≡ spoken log ++ sent_in happening)
fleet-led settings table log states i track old happening new on fleet there own leads passed =
    let done = leads-deeds settings table i track old new happening leads in by done.0 done.1 done.2 where
      by : (deeds : List Deed) → AreDeeds happening deeds → DoesAll table i track old.state deeds new.state
          → (deeds : List Deed) × AreDeeds happening deeds × IsFleet table (logged_behind i deeds log) (with_state states i new.state)
          × (spoken (logged_behind i deeds log) ≡ spoken log ++ sent_in happening)
      by [] are same = (
        [],
        are,
        record {
          own = λ k other is. subst (DoesAll table k other fresh (deeds_of log k)) (sym (state-same states i new.state k (same ∙ own))) (fleet.own k other is);
          nobody_else = fleet.nobody_else;
          honest = fleet.honest;
        },
        sym (ap (λ l. spoken log ++ l) (no-deed happening are) ∙ append-nil (spoken log)),
      )
      by (deed ∷ []) are (mid, does, same) =
          let spoken_so = one-deed happening deed (spoken log) are passed in (
            deed ∷ [],
            are,
            on log states i track deed new.state fleet there spoken_so.0 (subst (λ s. Does table i track s deed new.state) own (subst (Does table i track old.state deed) (sym same) does)),
            ap (λ l. spoken log ++ l) spoken_so.1,
          )
      by (deed ∷ next ∷ deeds) are does = absurd (more-deeds happening deed next deeds are)

-- the same where agents run by plans of their own
led-same : (Fits : Timetable → ℕ → Track → ℕ → Type 0) (doings : Doings) (states others : ℕ → State) → ((k : ℕ) → others k ≡ states k)
    → IsFleetBy Fits doings states → IsFleetBy Fits doings others
led-same Fits [] states others same led = λ k. same k ∙ led k
led-same Fits (now ∷ doings) states others same (mid, before, on) = (
  mid,
  before,
  record {
    track = on.track;
    is_track = on.is_track;
    fits = subst (λ s. Fits now.by now.agent on.track (begun_moves s)) (sym (same now.agent)) on.fits;
    honest = on.honest;
    does = subst (Does now.by now.agent on.track (mid now.agent) now.deed) (sym (same now.agent)) on.does;
    others = λ k other. same k ∙ on.others k other;
  },
)

pub plans-led : (settings : Settings) (Fits : Timetable → ℕ → Track → ℕ → Type 0) (table : Timetable) (doings : Doings) (states : ℕ → State) (i : ℕ) (track : Track)
    (old : Robot) (happening : RobotEvent) (new : Robot) → IsFleetBy Fits doings states → track_of table i ≡ Some track → old.state ≡ states i
    → LeadsRobot settings table i track old happening new → Fits table i track (begun_moves new.state) → WasSaidBefore (spoken (log_of doings)) happening
    → (deeds : List Deed) × AreDeeds happening deeds × IsFleetBy Fits (done_behind table i deeds doings) (with_state states i new.state)
    × (spoken (log_of (done_behind table i deeds doings)) ≡ spoken (log_of doings) ++ sent_in happening)
plans-led settings Fits table doings states i track old happening new fleet there own leads fits passed =
    let done = leads-deeds settings table i track old new happening leads in by done.0 done.1 done.2 where
      by : (deeds : List Deed) → AreDeeds happening deeds → DoesAll table i track old.state deeds new.state
          → (deeds : List Deed) × AreDeeds happening deeds × IsFleetBy Fits (done_behind table i deeds doings) (with_state states i new.state)
          × (spoken (log_of (done_behind table i deeds doings)) ≡ spoken (log_of doings) ++ sent_in happening)
      by [] are same = (
        [],
        are,
        led-same Fits doings states (with_state states i new.state) (λ k. state-same states i new.state k (same ∙ own)) fleet,
        sym (ap (λ l. spoken (log_of doings) ++ l) (no-deed happening are) ∙ append-nil (spoken (log_of doings))),
      )
      by (deed ∷ []) are (mid, does, same) =
          let spoken_so = one-deed happening deed (spoken (log_of doings)) are passed in
          let is = state-own states i new.state in (
            deed ∷ [],
            are,
            (
              states,
              fleet,
              record {
                track = track;
                is_track = there;
                fits = subst (λ s. Fits table i track (begun_moves s)) (sym is) fits;
                honest = spoken_so.0;
                does = subst (Does table i track (states i) deed) (sym is) (subst (λ s. Does table i track s deed new.state) own (subst (Does table i track old.state deed) (sym same) does));
                others = λ k other. state-other states i new.state k other;
              },
            ),
            ap (λ l. spoken (log_of doings) ++ l) spoken_so.1,
          )
      by (deed ∷ next ∷ deeds) are does = absurd (more-deeds happening deed next deeds are)
