-- A rotation of what is left is one of the old plan.
use Rattle.std.proofs.Common.{◌≡◌, ◌∙◌, ℕ, zero, suc, ◌+◌, List, [], ◌∷◌, length, map, Some, inl, inr, refl, ap, sym, subst, arith}
use Rattle.std.specs.Prelude.{Option, if◌then◌else◌, nat_lt, slice_get}
use Rattle.std.proofs.lemmas.Bool.{cases_Bool, cond-true, cond-false}
use Rattle.std.proofs.lemmas.List.{length-map}
use Rattle.std.proofs.lemmas.Option.{none-some, same_Some, slice_get_within}
use Rattle.model.specs.Dependency.{IsRotation, MovesInto, following}
use Rattle.model.specs.Laws.Rotations.{after}
use Rattle.model.specs.Plan.{IsTimetableOf, IsTrackOf, Plan}
use Rattle.model.specs.Timetable.{Track, Timetable, cell_at, moves, track_of}
use Rattle.fleet_commands.specs.FoundTapes.{Found, AreWithinMoves, begun_by}
use Rattle.fleet_commands.specs.LeftPlan.{first_step, left_plan}
use Rattle.fleet_commands.specs.LeftWays.{number_before}
use Rattle.fleet_commands.proofs.LeftIndexes.{before-left, before-once, before-rises, course-from, course-of, first-early}
use Rattle.fleet_commands.proofs.RestLemmas.{goes-along}
use Rattle.fleet_commands.proofs.RunLemmas.{begun-within}

-- what stands in a mapped list
mapped : (f : ℕ → ℕ) (xs : List ℕ) (place y : ℕ) → slice_get (map f xs) place ≡ Some y → (x : ℕ) × (slice_get xs place ≡ Some x) × (f x ≡ y)
mapped f [] place y there = absurd (none-some y there)
mapped f (x ∷ xs) zero y there = (x, refl, same_Some (f x) y there)
mapped f (x ∷ xs) (suc place) y there = mapped f xs place y there

-- the next one of a mapped list is that of the next one
mapped-next : (f : ℕ → ℕ) (xs : List ℕ) (place y : ℕ) → following (map f xs) place ≡ Some y → (x : ℕ) × (following xs place ≡ Some x) × (f x ≡ y)
mapped-next f xs place y next =
    let count = length-map xs f in
    let here = subst (λ n. (if nat_lt (place + 1) n then slice_get (map f xs) (place + 1) else slice_get (map f xs) 0) ≡ Some y) count next in
    elim (cases_Bool (nat_lt (place + 1) (length xs))) [
      | inl less ↦
          (let found = mapped f xs (place + 1) y (sym (cond-true (nat_lt (place + 1) (length xs)) (slice_get (map f xs) (place + 1)) (slice_get (map f xs) 0) less) ∙ here) in
          (found.0, cond-true (nat_lt (place + 1) (length xs)) (slice_get xs (place + 1)) (slice_get xs 0) less ∙ found.1, found.2))
      | inr last ↦
          (let found = mapped f xs 0 y (sym (cond-false (nat_lt (place + 1) (length xs)) (slice_get (map f xs) (place + 1)) (slice_get (map f xs) 0) last) ∙ here) in
          (found.0, cond-false (nat_lt (place + 1) (length xs)) (slice_get xs (place + 1)) (slice_get xs 0) last ∙ found.1, found.2))
    ]

module _ (p : Plan) (table new : Timetable) (found : List Found) (without : Option ℕ) (number : ℕ) (is : IsTimetableOf p table) (within : AreWithinMoves table found)
    (is_new : IsTimetableOf (left_plan p table found without number) new) where
  abbrev first : ℕ
  first = first_step table found without

  -- An agent of the new plan that moves in a step is one of the old that moves so many steps later.
  record MovedBefore (j step : ℕ) (track : Track) : Type 0 where
    old : Track
    is_old : track_of table (number_before without j) ≡ Some old
    from : cell_at track step ≡ cell_at old (step + first)
    to : cell_at track (step + 1) ≡ cell_at old (step + first + 1)

  moved-before : (j step : ℕ) (track : Track) → track_of new j ≡ Some track → (cell_at track step ≡ cell_at track (step + 1) → ⊥) → MovedBefore j step track
  moved-before j step track there leaves =
      let course = course-of (left_plan p table found without number).courses new.tracks is_new.tracks j track there in
      let origin = course-from p table is.tracks found without number j course.course course.there in
      let i = origin.0 in
      let of = origin.1 in
      let one : step + 1 ≡ suc step = omega arith in
      let few = begun-within (slice_get found i) (moves of.track) (λ records has. within i records of.track of.is_track has) in
      let along = goes-along of.course of.track of.tracked (begun_by found i) first few (first-early table found without i of.track of.kept of.is_track) track
      (subst (λ k. IsTrackOf k track) of.left course.is) step (λ e. leaves (e ∙ ap (cell_at track) (sym one))) in
      let here : number_before without j ≡ i = ap (number_before without) (sym origin.2) ∙ before-left without i of.kept in
      let at : first + step ≡ step + first = omega arith in
      let next : suc (first + step) ≡ step + first + 1 = omega arith in
      record {
        old = of.track;
        is_old = ap (track_of table) here ∙ of.is_track;
        from = along.0 ∙ ap (cell_at of.track) at;
        to = ap (cell_at track) one ∙ along.1 ∙ ap (cell_at of.track) next;
      }

  pub turned-before : (step : ℕ) (agents : List ℕ) → IsRotation new step agents → IsRotation table (step + first) (map (number_before without) agents)
  turned-before step agents turns = record {
    three = (let count = length-map agents (number_before without) in let three = turns.three in omega (arith, count, three));
    different = λ place other i one two.
        (let here = mapped (number_before without) agents place i one in
        let there = mapped (number_before without) agents other i two in
        let same = before-once without here.0 there.0 (here.2 ∙ sym there.2) in
        turns.different place other there.0 (here.1 ∙ ap {A = ℕ} {B = Option ℕ} (λ n. Some n) same) there.1);
    least = λ place least i one two.
        (let here = mapped (number_before without) agents 0 least one in
        let there = mapped (number_before without) agents place i two in
        let order = before-rises without here.0 there.0 (turns.least place here.0 there.0 here.1 there.1) in
        let low = here.2 in
        let high = there.2 in
        omega (arith, order, low, high));
    cycle = λ place i j one next.
        (let here = mapped (number_before without) agents place i one in
        let onward = mapped-next (number_before without) agents place j next in
        subst (λ x. MovesInto table (step + first) x j) here.2 (subst (MovesInto table (step + first) (number_before without here.0)) onward.2 (into-next place here.0 onward.0 here.1 onward.1)));
  }
    where
      into-next : (place i j : ℕ) → slice_get agents place ≡ Some i → following agents place ≡ Some j → MovesInto table (step + first) (number_before without i) (number_before without j)
      into-next place i j member next =
          let into = turns.cycle place i j member next in
          let inside = slice_get_within agents place i member in
          let behind = after agents place inside turns.three in
          let is_next : behind.1 ≡ j = same_Some behind.1 j (sym behind.2 ∙ next) in
          let its = subst (λ n. slice_get agents behind.0 ≡ Some n) is_next behind.3 in
          let further = after agents behind.0 (slice_get_within agents behind.0 j its) turns.three in
          let onward = turns.cycle behind.0 j further.1 its further.2 in
          let same : onward.from ≡ into.to = same_Some onward.from into.to (sym onward.is_from ∙ into.is_to) in
          let leaves = subst (λ k. cell_at k step ≡ cell_at k (step + 1) → ⊥) same onward.moves in
          let own = moved-before i step into.from into.is_from into.moves in
          let other = moved-before j step into.to into.is_to leaves in
          record {
            from = own.old;
            to = other.old;
            is_from = own.is_old;
            is_to = other.is_old;
            moves = λ e. into.moves (own.from ∙ e ∙ sym own.to);
            into = sym own.to ∙ into.into ∙ other.from;
          }
