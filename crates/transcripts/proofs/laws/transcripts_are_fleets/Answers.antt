use Rattle.std.proofs.Common.{◌≡◌, ℕ, List, refl, sym, subst, ◌∙◌}
use Rattle.fleet.specs.Deeds.{Deed}
use Rattle.fleet.specs.Fleets.{fresh, deeds_of}
use Rattle.fleet.specs.OwnPlans.{log_of, SharesMoves, IsOfChain}
use Rattle.model.specs.Timetable.{Track, Timetable}
use Rattle.transcripts.specs.Processes.{Process}
use Rattle.transcripts.specs.Transcripts.{Transcript, seen_of, IsTranscript, RunsBy, RunsByChain}
use Rattle.transcripts.proofs.FleetLemmas.{DidIt, FitsWithin, did-it, fits-as, by-one}
use Rattle.transcripts.proofs.Growing.{StayWithin}
use Rattle.transcripts.proofs.ProcessLemmas.{Shown, processes-shown}
use Rattle.transcripts.proofs.laws.transcripts_are_fleets.Goals as goal

module _ (stays : StayWithin) (Fits : Timetable → ℕ → Track → ℕ → Type 0) (processes : ℕ → List Process) (transcript : Transcript) (deeds : ℕ → List Deed) (tapes : ℕ → ℕ)
    (is : IsTranscript Fits processes transcript deeds tapes)
  where
    shown : (i : ℕ) → Shown Fits i fresh (seen_of transcript i) (deeds i) (tapes i)
    shown i =
        subst (λ l. Shown Fits i fresh l (deeds i) (tapes i)) (sym (is.in_order i)) (processes-shown stays Fits i fresh 0 (processes i) (deeds i) (tapes i) refl (is.own i))

    done : DidIt Fits transcript (λ i. (shown i).dids) (λ i. (shown i).new)
    done = did-it Fits transcript (λ i. (shown i).dids) (λ i. (shown i).new) (λ i. (shown i).are_seen) is.passed_on

    same-deeds : (i : ℕ) → deeds_of (log_of done.doings) i ≡ deeds i
    same-deeds i = done.own i ∙ (shown i).are_deeds

pub returns-clause-one_plan : goal.returns-clause-one_plan
returns-clause-one_plan c table processes transcript deeds tapes is =
    let stays = c.tapes_stay_within.ensures.led in
    let did = done stays (RunsBy table) processes transcript deeds tapes is in (
      log_of did.doings,
      λ i. (shown stays (RunsBy table) processes transcript deeds tapes is i).new,
      by-one table did.doings _ (fits-as (FitsWithin (RunsBy table)) (RunsBy table) (λ by i track count there fits. fits.0) did.doings _ did.led),
      same-deeds stays (RunsBy table) processes transcript deeds tapes is,
      λ i. (shown stays (RunsBy table) processes transcript deeds tapes is i).is_new,
      did.said,
    )

pub returns-clause-of_plans : goal.returns-clause-of_plans
returns-clause-of_plans c last processes transcript deeds tapes is =
    let stays = c.tapes_stay_within.ensures.led in
    let did = done stays (SharesMoves last) processes transcript deeds tapes is in (
      did.doings,
      λ i. (shown stays (SharesMoves last) processes transcript deeds tapes is i).new,
      fits-as (FitsWithin (SharesMoves last)) (SharesMoves last) (λ by i track count there fits. fits.0) did.doings _ did.led,
      same-deeds stays (SharesMoves last) processes transcript deeds tapes is,
      λ i. (shown stays (SharesMoves last) processes transcript deeds tapes is i).is_new,
      did.said,
    )

pub returns-clause-of_chain : goal.returns-clause-of_chain
returns-clause-of_chain c plan plans processes transcript deeds tapes is =
    let stays = c.tapes_stay_within.ensures.led in
    let did = done stays (RunsByChain plan plans) processes transcript deeds tapes is in (
      did.doings,
      λ i. (shown stays (RunsByChain plan plans) processes transcript deeds tapes is i).new,
      fits-as (FitsWithin (RunsByChain plan plans)) (IsOfChain plan plans)
          (λ by i track count there fits. record { has = fits.1; own = fits.0.0; among = fits.0.1; is_its = fits.0.2 }) did.doings _ did.led,
      same-deeds stays (RunsByChain plan plans) processes transcript deeds tapes is,
      λ i. (shown stays (RunsByChain plan plans) processes transcript deeds tapes is i).is_new,
      did.said,
    )
