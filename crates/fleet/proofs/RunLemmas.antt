-- What a fleet of one version did is a run, at which each of its agents stands.
use Rattle.std.proofs.Common.{◌≡◌, ℕ, List, [], ◌∷◌, Some, None, Ok, Err, inl, inr, refl, sym, ap, subst, ◌∙◌}
use Rattle.std.specs.Prelude.{slice_get}
use Rattle.std.proofs.lemmas.Bool.{cases_eq}
use Rattle.std.proofs.lemmas.Option.{same_Some}
use Rattle.model.specs.declared.version.Version.{Version}
use Rattle.model.specs.History.{History, armed_of, messages}
use Rattle.model.specs.Messages.{Message}
use Rattle.model.specs.Rules.{IsRun}
use Rattle.model.specs.Safety.{walk}
use Rattle.model.specs.Speech.{WasSaid}
use Rattle.model.specs.Timetable.{Track, Timetable, track_of}
use Rattle.agent.specs.Decoding.{any_fault}
use Rattle.agent.specs.States.{State}
use Rattle.agent.specs.Tellings.{Telling, BytesTell}
use Rattle.agent.specs.declared.refusal.HearFault.{HearFault}
use Rattle.fleet.specs.Deeds.{Deed, opens, starts, finishes, says, tells, hears, holds, looks, ends, stops, ends_starting, ends_finishing, Does}
use Rattle.fleet.specs.Fleets.{Logged, Log, deeds_of, spoken, with_state, IsHonest, AreAll, IsFleet, IsOfVersion, IsTellable}
use Rattle.fleet.specs.FleetSafety.{walked_on, walked}
use Rattle.fleet.specs.Members.{IsLeftBy}
use Rattle.fleet.specs.Retelling.{Retells}
use Rattle.fleet.specs.Unsaid.{IsUnsaid, LeavesUnsaid}
use Rattle.fleet.specs.Laws.Leading.{walked-more}
use Rattle.fleet.proofs.FleetLemmas.{own-deeds, other-deeds, state-own, state-other, IsOf, of-fleet, same-of, LastDeed, last-deed, goes-on}
use Rattle.fleet.proofs.SpelledLemmas.{AreSpelled}
use Rattle.fleet.proofs.StepLemmas.{IsEvent, deed-on}
use Rattle.fleet.proofs.UnsaidLemmas.{was_said-or, refused-or, refused-same, spoken-unsaid}

-- ---- the run

-- The history is a run that retells what the fleet did, and each agent stands at it where the fleet left it.
pub record RunsAs (v : Version) (table : Timetable) (log : Log) (states : ℕ → State) (h : History) : Type 0 where
  pub run : IsRun v table h
  pub retells : Retells log h
  pub stand : (i : ℕ) (track : Track) → track_of table i ≡ Some track → IsLeftBy v table h i (states i)
  pub unarmed : (i : ℕ) → armed_of h i ≡ None
  pub spelled : AreSpelled table (spoken log) (messages v table h)
  pub walks : (i : ℕ) (track : Track) → track_of table i ≡ Some track → walk track h i ≡ walked track (deeds_of log i)

module _ (v : Version) (table : Timetable) (tellable : IsTellable table)
    (was_said : (h : History) (m : ℕ) (message : Message) → IsRun v table h → slice_get (messages v table h) m ≡ Some message → WasSaid v table h m message)
    (fine : (bytes : List ℕ) (t : Telling) → BytesTell bytes t → any_fault bytes ≡ None) (one : (bytes : List ℕ) (t u : Telling) → BytesTell bytes t → BytesTell bytes u → t ≡ u) where
  at-first : (states : ℕ → State) → IsOf (IsEvent v) table [] states → RunsAs v table [] states []
  at-first states fleet = record {
    run = tt;
    retells = refl;
    stand = λ i track there. subst (IsLeftBy v table [] i) (sym (fleet.own i track there)) (record { records = refl; heard = λ j. refl; broken = refl });
    unarmed = λ i. refl;
    spelled = tt;
    walks = λ i track there. refl;
  }

  after-deed : (now : Logged) (log : Log) (states : ℕ → State) → IsOf (IsEvent v) table (now ∷ log) states → (last : LastDeed (IsEvent v) table now log states)
      → (h : History) → RunsAs v table log last.before h → (new : History) × RunsAs v table (now ∷ log) states new
  after-deed now log states fleet last h is =
      let i = now.agent in
      let goes = deed-on v table i last.track last.is_track (spoken log) (last.before i) h is.run (is.stand i last.track last.is_track) is.unarmed is.spelled tellable
      (λ m message there. was_said h m message is.run there) fine one now.deed (states i) last.is last.does in (
        goes.0,
        record {
          run = goes.2.run;
          retells = (h, is.retells, goes.1);
          stand = λ k track there. elim (cases_eq k i) [
            | inl same ↦ subst (λ j. IsLeftBy v table goes.0 j (states j)) (sym same) goes.2.stands
            | inr apart ↦ subst (IsLeftBy v table goes.0 k) (sym (last.others k apart)) (goes.2.others k (last.before k) apart (is.stand k track there))
          ];
          unarmed = goes.2.unarmed;
          spelled = goes.2.spelled;
          walks = λ k track there. elim (cases_eq i k) [
            | inl same ↦ (
                let here = same_Some last.track track (sym last.is_track ∙ ap (track_of table) same ∙ there) in
                subst (λ x. walk x goes.0 k ≡ walked x (deeds_of (now ∷ log) k)) here
                (subst (λ j. walk last.track goes.0 j ≡ walked last.track (deeds_of (now ∷ log) j)) same
                (goes.2.walk_is ∙ ap (walked_on now.deed) (is.walks i last.track last.is_track)
                ∙ sym (ap (walked last.track) (own-deeds now log i refl) ∙ walked-more (deeds_of log i) now.deed (last.track.start ∷ []))))
                )
            | inr apart ↦ goes.2.other_walks k track (λ same. apart (sym same)) ∙ is.walks k track there ∙ sym (ap (walked track) (other-deeds now log k apart))
          ];
        },
      )

  pub runs-as : (log : Log) (states : ℕ → State) → IsOf (IsEvent v) table log states → (h : History) × RunsAs v table log states h
  runs-as [] states fleet = ([], at-first states fleet)
  runs-as (now ∷ log) states fleet =
      let last = last-deed (IsEvent v) table now log states fleet in
      let before = runs-as log last.before last.fleet in
      after-deed now log states fleet last before.0 before.1

-- ---- without what was refused and nobody had said

-- What a fleet of one version did, but for what was refused and nobody had said.
pub record IsHeeded (v : Version) (table : Timetable) (log : Log) (states : ℕ → State) (kept : Log) : Type 0 where
  pub leaves : LeavesUnsaid log kept
  pub fleet : IsOf (IsEvent v) table kept states

module _ (v : Version) (table : Timetable) where
  -- a deed of the version that hears only what was said is an event
  event-of : (before : List (List ℕ)) (deed : Deed) → IsOfVersion v before deed → IsHonest before deed
      → ((bytes : List ℕ) (fault : HearFault) → deed ≡ hears bytes (Err fault) → (m : ℕ) × (slice_get before m ≡ Some bytes)) → IsEvent v before deed
  event-of before (opens what count) of honest said = tt
  event-of before (starts answer) of honest said = tt
  event-of before (finishes answer) of honest said = tt
  event-of before (says answer) of honest said = of
  event-of before (tells answer) of honest said = of
  event-of before (hears bytes (Ok answer)) of honest said = honest
  event-of before (hears bytes (Err fault)) of honest said = said bytes fault refl
  event-of before (holds what count) of honest said = tt
  event-of before (looks begun most count) of honest said = tt
  event-of before ends of honest said = tt
  event-of before stops of honest said = tt
  event-of before ends_starting of honest said = tt
  event-of before ends_finishing of honest said = tt

  module _ (now : Logged) (log : Log) (states : ℕ → State) (last : LastDeed IsHonest table now log states) (of : IsOfVersion v (spoken log) now.deed)
      (kept : Log) (is : IsHeeded v table log last.before kept) where
    keeps : ((bytes : List ℕ) (fault : HearFault) → now.deed ≡ hears bytes (Err fault) → (m : ℕ) × (slice_get (spoken log) m ≡ Some bytes))
        → (more : Log) × IsHeeded v table (now ∷ log) states more
    keeps said =
        let same = spoken-unsaid log kept is.leaves in
        let event = subst (λ l. IsEvent v l now.deed) (sym same) (event-of (spoken log) now.deed of last.is said) in (
          now ∷ kept,
          record {
            leaves = inr (kept, refl, is.leaves);
            fleet = same-of (IsEvent v) table (now ∷ kept) (with_state last.before now.agent (states now.agent)) states (λ k. elim (cases_eq k now.agent) [
              | inl own ↦ subst (λ j. with_state last.before now.agent (states now.agent) j ≡ states j) (sym own) (state-own last.before now.agent (states now.agent))
              | inr apart ↦ state-other last.before now.agent k (states now.agent) (λ e. apart (sym e)) ∙ sym (last.others k apart)
            ]) (goes-on (IsEvent v) table kept last.before now.agent last.track now.deed (states now.agent) is.fleet last.is_track event last.does);
          },
        )

    leaves : IsUnsaid (spoken log) now.deed → states now.agent ≡ last.before now.agent → (more : Log) × IsHeeded v table (now ∷ log) states more
    leaves unsaid stays = (
      kept,
      record {
        leaves = inl (unsaid, is.leaves);
        fleet = same-of (IsEvent v) table kept last.before states (λ k. elim (cases_eq k now.agent) [
          | inl own ↦ subst (λ j. last.before j ≡ states j) (sym own) (sym stays)
          | inr apart ↦ sym (last.others k apart)
        ]) is.fleet;
      },
    )

    same_bytes : {b c : List ℕ} {f g : HearFault} → hears b (Err f) ≡ hears c (Err g) → b ≡ c
    same_bytes e = cc

    goes : (more : Log) × IsHeeded v table (now ∷ log) states more
    goes = elim (refused-or now.deed) [
      | inr other ↦ keeps (λ bytes fault same. absurd (other bytes fault same))
      | inl (bytes, fault, is_refused) ↦ elim (was_said-or (spoken log) bytes) [
        | inl there ↦ keeps (λ others why same. subst (λ b. (m : ℕ) × (slice_get (spoken log) m ≡ Some b)) (same_bytes (sym is_refused ∙ same)) there)
        | inr none ↦ leaves (subst (IsUnsaid (spoken log)) (sym is_refused) none)
            (refused-same table (last.before now.agent) (states now.agent) bytes fault
            (subst (λ d. Does table now.agent last.track (last.before now.agent) d (states now.agent)) is_refused last.does))
      ]
    ]

  pub heeded : (log : Log) (states : ℕ → State) → AreAll (IsOfVersion v) log → IsFleet table log states → (kept : Log) × IsHeeded v table log states kept
  heeded log states of fleet = by log states of (of-fleet table log states fleet) where
    by : (log : Log) (states : ℕ → State) → AreAll (IsOfVersion v) log → IsOf IsHonest table log states → (kept : Log) × IsHeeded v table log states kept
    by [] states of fleet = ([], record { leaves = refl; fleet = record { own = fleet.own; nobody_else = fleet.nobody_else; all = tt } })
    by (now ∷ log) states of fleet =
        let last = last-deed IsHonest table now log states fleet in
        let before = by log last.before of.1 last.fleet in
        goes now log states last of.0 before.0 before.1
