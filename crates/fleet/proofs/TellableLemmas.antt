-- The messages of a plan that the checker accepts can tell its numbers.
use Rattle.std.proofs.Common.{◌≡◌, ℕ, zero, suc, ◌≤◌, List, [], ◌∷◌, length, Some, sym, ap, subst, ◌∙◌, arith}
use Rattle.std.specs.Prelude.{slice_get}
use Rattle.std.specs.List.{AllByRecursion}
use Rattle.std.proofs.lemmas.Option.{same_Some, none-some}
use Rattle.model.specs.Plan.{Course, Plan, IsTrackOf, AreTracksOf, IsTimetableOf}
use Rattle.model.specs.Timetable.{Track, Timetable, moves}
use Rattle.depgraph.specs.Laws.AgentParts.{moves-within}
use Rattle.plan_text.specs.Limits.{IsCourse, IsPlan}
use Rattle.fleet.specs.Fleets.{IsTellable}

count-tracks : (courses : List Course) (tracks : List Track) → AreTracksOf courses tracks → length tracks ≡ length courses
count-tracks [] tracks are = ap length are
count-tracks (course ∷ courses) tracks are = ap length are.2 ∙ ap suc (count-tracks courses are.1 are.4)

module _ (no_longer : (course : Course) (track : Track) → IsTrackOf course track → length track.later ≤ length course.acts) where
  few-moves : (courses : List Course) (tracks : List Track) (i : ℕ) (track : Track) → AllByRecursion IsCourse courses → AreTracksOf courses tracks → slice_get tracks i ≡ Some track → moves track ≤
      65535
  few-moves [] tracks i track limits are there = absurd (none-some track (sym (ap (λ l. slice_get l i) are) ∙ there))
  few-moves (course ∷ courses) tracks i track limits are there = by i (sym (ap (λ l. slice_get l i) are.2) ∙ there) (λ k at. few-moves courses are.1 k track limits.1 are.4 at)
    where
      by : (k : ℕ) → slice_get (are.0 ∷ are.1) k ≡ Some track → ((l : ℕ) → slice_get are.1 l ≡ Some track → moves track ≤ 65535) → moves track ≤ 65535
      by zero at rest =
          (let most = moves-within are.0.start are.0.later (length are.0.later) in
          let longest = no_longer course are.0 are.3 in
          let limit = limits.0.acts_limit in
          subst (λ t. moves t ≤ 65535) (same_Some are.0 track at) (omega (arith, most, longest, limit)))
      by (suc l) at rest = rest l at

  pub tellable : (plan : Plan) (table : Timetable) → IsPlan plan → IsTimetableOf plan table → IsTellable table
  tellable plan table limits is = record {
    number = (let same = is.number in let most = limits.number_limit in omega (arith, same, most));
    agents = (let count = count-tracks plan.courses table.tracks is.tracks in let most = limits.agent_limit in omega (arith, count, most));
    each_moves = λ i track there. (let few = few-moves plan.courses table.tracks i track limits.courses is.tracks there in omega (arith, few));
  }
