-- From plan to plan.
use Rattle.std.proofs.Common.{◌≡◌, ℕ, ◌+◌, ◌<◌, List, [], ◌∷◌, Some, arith, subst}
use Rattle.model.specs.Timetable.{Track, Timetable, moves, step_of, track_of}
use Rattle.grid.specs.Map.{Grid}
use Rattle.model.specs.Plan.{Plan, IsValid, longest_of, IsTimetableOf}
use Rattle.continuing.specs.Continuing.{Continues, IsChain, last_plan, AgreesUpTo}
use Rattle.continuing.specs.Laws.Agreeing.{agrees-sooner, agrees-on, agrees-itself}
use Rattle.continuing.proofs.laws.chains_of_plans.Goals as goal

all_valid : ((map : Grid) (old new : Plan) → Continues old new → IsValid map new → IsValid map old)
    → (map : Grid) (plan : Plan) (plans : List Plan) → IsChain plan plans → IsValid map (last_plan plan plans) → IsValid map plan
all_valid before map plan [] chain valid = valid
all_valid before map plan (next ∷ plans) chain valid = before map plan next chain.0 (all_valid before map next plans chain.1 valid)

pub returns-clause-valid : goal.returns-clause-valid
returns-clause-valid c = all_valid (c.valid_before.ensures)

pub returns-clause-agrees : goal.returns-clause-agrees
returns-clause-agrees c = agrees where
  agrees : (map : Grid) (plan : Plan) (plans : List Plan) (before after : Timetable) (i k : ℕ) (track : Track) → IsChain plan plans
      → IsValid map (last_plan plan plans) → IsTimetableOf plan before → IsTimetableOf (last_plan plan plans) after → track_of before i ≡ Some track → k < moves track
      → AgreesUpTo (step_of track k + 1) before after
  agrees map plan [] before after i k track chain valid is will there less =
      subst (AgreesUpTo (step_of track k + 1) before) (c.timetables.ensures.one plan before after is will)
      (agrees-itself (step_of track k + 1) before)
  agrees map plan (next ∷ plans) before after i k track chain valid is will there less =
      let time = step_of track k + 1 in
      let between = c.timetables.ensures.some map next (all_valid (c.valid_before.ensures) map next plans chain.1 valid) in
      let first = c.moves_stay.ensures.agrees plan next before between.0 chain.0 is between.1 in
      let early = c.moves_stay.ensures.in_time plan before i k track is there less in
      let other = c.moves_stay.ensures.cells (longest_of plan.courses) before between.0 i track first there in
      let move = c.moves_stay.ensures.moves (longest_of plan.courses) before between.0 i k track other.0 first there other.1 less early in
      let rest = agrees map next plans between.0 after i k other.0 chain.1 valid between.1 will other.1 move.0 in
      agrees-on time before between.0 after (agrees-sooner time (longest_of plan.courses) before between.0 (omega (arith, early)) first)
      (subst (λ step. AgreesUpTo (step + 1) between.0 after) move.1 rest)

pub returns-clause-begins : goal.returns-clause-begins
returns-clause-begins c = begins where
  begins : (map : Grid) (plan : Plan) (plans : List Plan) (before after : Timetable) → IsChain plan plans → IsValid map (last_plan plan plans)
      → IsTimetableOf plan before → IsTimetableOf (last_plan plan plans) after → AgreesUpTo 0 before after
  begins map plan [] before after chain valid is will = subst (AgreesUpTo 0 before) (c.timetables.ensures.one plan before after is will) (agrees-itself 0 before)
  begins map plan (next ∷ plans) before after chain valid is will =
      let between = c.timetables.ensures.some map next (all_valid (c.valid_before.ensures) map next plans chain.1 valid) in
      let first = c.moves_stay.ensures.agrees plan next before between.0 chain.0 is between.1 in
      agrees-on 0 before between.0 after (agrees-sooner 0 (longest_of plan.courses) before between.0 (omega arith) first)
      (begins map next plans between.0 after chain.1 valid between.1 will)
