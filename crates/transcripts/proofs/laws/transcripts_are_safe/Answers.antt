use Rattle.std.proofs.Common.{◌≡◌, ℕ, Some, None, sym, ap, subst, ◌∙◌}
use Rattle.std.specs.Prelude.{Option, MatchOption}
use Rattle.grid.specs.declared.cell.Cell.{Cell}
use Rattle.model.specs.declared.held.Held.TheVariants.{Between}
use Rattle.model.specs.Safety.{IsIn}
use Rattle.model.specs.Timetable.{Track, Timetable, track_of}
use Rattle.agent.specs.States.{State, held_by_tape}
use Rattle.fleet.specs.Fleets.{Log}
use Rattle.fleet.specs.FleetSafety.{HoldsBy, IsMovingBy, IsFleetSafe}
use Rattle.fleet.specs.OwnPlans.{log_of}
use Rattle.transcripts.specs.Transcripts.{states_on}
use Rattle.transcripts.proofs.ProcessLemmas.{held_at}
use Rattle.transcripts.proofs.laws.transcripts_are_safe.Goals as goal

-- a fleet is safe by what is on its tapes alone
module _ (table : Timetable) (log : Log) (states : ℕ → State) (tapes : ℕ → ℕ) (same : (i : ℕ) → (states i).records ≡ tapes i) where
  held-same : (track : Track) (i : ℕ) → held_by_tape track (states_on tapes i) ≡ held_by_tape track (states i)
  held-same track i = ap (held_at track) (sym (same i))

  safe-too : IsFleetSafe table log states → IsFleetSafe table log (states_on tapes)
  safe-too safe = record {
    apart = λ i j c first second. safe.apart i j c (holds i c first) (holds j c second);
    no_exchange = λ i j u c first second. safe.no_exchange i j u c (is-moving i u c first) (is-moving j c u second);
    walks = safe.walks;
  } where
    holds : (i : ℕ) (c : Cell) → HoldsBy table (states_on tapes) i c → HoldsBy table states i c
    holds i c = by (track_of table i) where
      by : (o : Option Track) → MatchOption o ⊥ (λ track. IsIn c (held_by_tape track (states_on tapes i))) → MatchOption o ⊥ (λ track. IsIn c (held_by_tape track (states i)))
      by None never = never
      by (Some track) inside = subst (IsIn c) (held-same track i) inside

    is-moving : (i : ℕ) (u c : Cell) → IsMovingBy table (states_on tapes) i u c → IsMovingBy table states i u c
    is-moving i u c = by (track_of table i) where
      by : (o : Option Track) → MatchOption o ⊥ (λ track. held_by_tape track (states_on tapes i) ≡ Between u c) → MatchOption o ⊥ (λ track. held_by_tape track (states i) ≡ Between u c)
      by None never = never
      by (Some track) between = sym (held-same track i) ∙ between

pub returns-clause-one_plan : goal.returns-clause-one_plan
returns-clause-one_plan c map plan table processes transcript deeds tapes limits valid is_its is =
    let fleet = c.transcripts_are_fleets.ensures.one_plan table processes transcript deeds tapes is in
    let safe = c.every_fleet_is_safe.ensures map plan table fleet.0 fleet.1 limits valid is_its fleet.2 in
    (fleet.0, fleet.3, safe-too table fleet.0 fleet.1 tapes fleet.4 safe)

pub returns-clause-of_plans : goal.returns-clause-of_plans
returns-clause-of_plans c map plan last processes transcript deeds tapes limits valid is_its is =
    let fleet = c.transcripts_are_fleets.ensures.of_plans last processes transcript deeds tapes is in
    let safe = c.changing_fleets_are_safe.ensures map plan last fleet.0 fleet.1 limits valid is_its fleet.2 in
    (log_of fleet.0, fleet.3, safe-too last (log_of fleet.0) fleet.1 tapes fleet.4 safe)

pub returns-clause-of_chain : goal.returns-clause-of_chain
returns-clause-of_chain c map plan plans last processes transcript deeds tapes chain limits valid is_its is =
    let fleet = c.transcripts_are_fleets.ensures.of_chain plan plans processes transcript deeds tapes is in
    let led = c.extending.ensures map plan plans last fleet.0 fleet.1 chain valid is_its fleet.2 in
    let safe = c.changing_fleets_are_safe.ensures map _ last fleet.0 fleet.1 limits valid is_its led in
    (log_of fleet.0, fleet.3, safe-too last (log_of fleet.0) fleet.1 tapes fleet.4 safe)
