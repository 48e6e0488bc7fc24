-- Each begun move has its need met, and no move of a rotation is begun.
use Rattle.std.proofs.Common.{◌≡◌, ◌∙◌, ℕ, ◌<◌, ◌≤◌, List, Some, arith}
use Rattle.std.specs.Prelude.{slice_get}
use Rattle.std.proofs.Math.Nat.{le-max_left}
use Rattle.model.specs.Dependency.{IsMet, IsRotation, need}
use Rattle.model.specs.Timetable.{Track, moves, moves_before, track_of}
use Rattle.agent.specs.States.{begun_moves, finished_moves}
use Rattle.fleet.specs.Ahead.{most_free}
use Rattle.fleet.specs.Fleets.{deeds_of}
use Rattle.fleet_commands.specs.LostPlaces.{AreTapesOf}
use Rattle.fleet_commands.proofs.BeginLemmas.{left-is-valid, none-shown, records-of}
use Rattle.fleet_commands.proofs.laws.fleets_begin_anew.Goals as goal

pub returns-clause-fleet : goal.returns-clause-fleet
returns-clause-fleet c = λ m p table log states found turns without number tellable valid is fleet are all known tapes.
    let free = c.timetables.ensures.conflict_free m p table valid is in
    let unswapped = c.timetables.ensures.swap_free m p table valid is in
    let met : (i k : ℕ) (track : Track) → track_of table i ≡ Some track → k < begun_moves (states i) → IsMet (λ j. finished_moves (states j)) (need table i track k)
    = λ i k track there less. (let far = le-max_left (begun_moves (states i)) (most_free (deeds_of log i)) in
    c.lost_drives.ensures.fleet table log states i k track tellable fleet there (omega (arith, less, far))) in
    let closed : (step : ℕ) (agents : List ℕ) (place i : ℕ) (track : Track) → IsRotation table step agents → slice_get agents place ≡ Some i → track_of table i ≡ Some track
    → begun_moves (states i) ≤ moves_before track step
    = λ step agents place i track turning member there. c.rotations_stay_closed.ensures.fleet table log states step agents place i track tellable free turning fleet member there in
    let most : (i : ℕ) (track : Track) → track_of table i ≡ Some track → begun_moves (states i) ≤ moves track
    = λ i track there. c.rotations_stay_closed.ensures.within table log states i track tellable fleet there in (
      none-shown table without found states tapes met closed turns are,
      left-is-valid table without found states tapes met closed m p valid is unswapped most
          (λ begun finished i j cell met_now one other. c.met_needs_keep_apart.ensures table begun finished i j cell free met_now one other)
          (λ i k track asked there less asks. c.needs.ensures.planned table i k track asked free there less asks) all known number,
    )

pub returns-clause-of_plans : goal.returns-clause-of_plans
returns-clause-of_plans c = λ m p table doings states found turns without number tellable valid is led are all known tapes.
    let kept = c.fleets_of_plans.ensures.kept table doings states tellable led in
    let log = kept.0 in
    let others = kept.1 in
    let fleet = kept.2.1 in
    let same = kept.2.2 in
    let free = c.timetables.ensures.conflict_free m p table valid is in
    let unswapped = c.timetables.ensures.swap_free m p table valid is in
    let tapes_of : AreTapesOf without found others = λ j records in_it there. tapes j records in_it there ∙ records-of (states j) (others j) (same j) in
    let met : (i k : ℕ) (track : Track) → track_of table i ≡ Some track → k < begun_moves (others i) → IsMet (λ j. finished_moves (others j)) (need table i track k)
    = λ i k track there less. (let far = le-max_left (begun_moves (others i)) (most_free (deeds_of log i)) in
    c.lost_drives.ensures.fleet table log others i k track tellable fleet there (omega (arith, less, far))) in
    let closed : (step : ℕ) (agents : List ℕ) (place i : ℕ) (track : Track) → IsRotation table step agents → slice_get agents place ≡ Some i → track_of table i ≡ Some track
    → begun_moves (others i) ≤ moves_before track step
    = λ step agents place i track turning member there. c.rotations_stay_closed.ensures.fleet table log others step agents place i track tellable free turning fleet member there in
    let most : (i : ℕ) (track : Track) → track_of table i ≡ Some track → begun_moves (others i) ≤ moves track
    = λ i track there. c.rotations_stay_closed.ensures.within table log others i track tellable fleet there in (
      none-shown table without found others tapes_of met closed turns are,
      left-is-valid table without found others tapes_of met closed m p valid is unswapped most
          (λ begun finished i j cell met_now one other. c.met_needs_keep_apart.ensures table begun finished i j cell free met_now one other)
          (λ i k track asked there less asks. c.needs.ensures.planned table i k track asked free there less asks) all known number,
    )
