-- What is shared with the old plan and lies within its cut is shared with each plan that goes on from the cut.
use Rattle.std.proofs.Common.{◌≡◌, ℕ, zero, suc, ◌+◌, ◌≤◌, [], Some, refl, ap, arith}
use Rattle.model.specs.Plan.{longest_of}
use Rattle.model.specs.Timetable.{Track, Timetable, step_of, moves, track_of}
use Rattle.continuing.specs.Continuing.{AgreesUpTo}
use Rattle.continuing.specs.Laws.Agreeing.{along, other-track, same-move, agrees-sooner, agrees-on, agrees-back}
use Rattle.agent.specs.States.{begun_moves}
use Rattle.fleet.specs.Fleets.{fresh}
use Rattle.fleet.specs.OwnPlans.{end_of_moves, SharesMoves}
use Rattle.fleet.proofs.LeadingOn.{led-as, led-within, led-on}
use Rattle.fleet.proofs.laws.taking_back.Goals as goal

-- where timetables agree up to the end of a move, it ends at one time by both
same-end : (by table : Timetable) (i : ℕ) (track other : Track) (n : ℕ) → track_of by i ≡ Some track → track_of table i ≡ Some other → n ≤ moves track
    → AgreesUpTo (end_of_moves track n) by table → end_of_moves other n ≡ end_of_moves track n
same-end by table i track other zero there now most agrees = refl
same-end by table i track other (suc k) there now most agrees =
    ap (λ s. s + 1) (same-move (step_of track k + 1) track other k (along (step_of track k + 1) by table agrees i track other there now) (omega (arith, most)) (omega arith)).step

pub returns : goal.returns
returns c cut old new left before last earlier later mid states goes_old goes_new is_left is_before is_last first within more =
    let kept = led-within [] (λ i. fresh) (SharesMoves before) (λ i. begun_moves (mid i)) earlier mid (λ i. omega arith) first in
    led-on (SharesMoves last) (λ i. fresh) earlier later mid states
    (led-as [] (λ i. fresh) (λ by i track count. SharesMoves before by i track count × (count ≤ begun_moves (mid i))) (SharesMoves last) fits earlier mid kept) more
  where
    end : ℕ
    end = longest_of cut.courses

    from_old : AgreesUpTo end left before
    from_old = c.moves_stay.ensures.agrees cut old left before goes_old is_left is_before

    from_new : AgreesUpTo end left last
    from_new = c.moves_stay.ensures.agrees cut new left last goes_new is_left is_last

    in-time : (i : ℕ) (track : Track) (n : ℕ) → track_of left i ≡ Some track → n ≤ moves track → end_of_moves track n ≤ end
    in-time i track zero there most = omega arith
    in-time i track (suc k) there most = (let early = c.moves_stay.ensures.in_time cut left i k track is_left there (omega (arith, most)) in omega (arith, early))

    fits : (by : Timetable) (i : ℕ) (track : Track) (count : ℕ) → track_of by i ≡ Some track → SharesMoves before by i track count × (count ≤ begun_moves (mid i))
        → SharesMoves last by i track count
    fits by i track count there (shares, begun) =
        let e = end_of_moves track count in
        let by_old = other-track e by before shares.agrees i track there in
        let by_cut = other-track end before left (agrees-back end left before from_old) i by_old.0 by_old.1 in
        let limit = within i by_cut.0 by_cut.1 in
        let most : count ≤ moves by_cut.0 = omega (arith, limit, begun) in
        let early = in-time i by_cut.0 count by_cut.1 most in
        let one = same-end by before i track by_old.0 count there by_old.1 shares.has shares.agrees in
        let two = same-end left before i by_cut.0 by_old.0 count by_cut.1 by_old.1 most (agrees-sooner (end_of_moves by_cut.0 count) end left before early from_old) in
        let soon : e ≤ end = omega (arith, early, one, two) in
        record {
          has = shares.has;
          agrees =
              agrees-on e by before last shares.agrees
              (agrees-on e before left last (agrees-sooner e end before left soon (agrees-back end left before from_old)) (agrees-sooner e end left last soon from_new));
        }
