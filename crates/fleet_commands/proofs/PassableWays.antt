-- A valid plan leads its agents through passable cells alone, by legal steps.
use Rattle.std.proofs.Common.{◌≡◌, ◌≢◌, ◌∙◌, ℕ, zero, suc, ◌+◌, ◌≤◌, List, [], ◌∷◌, true, false, Some, None, inl, inr, refl, ap, sym, subst, arith}
use Rattle.std.specs.Prelude.{Option, MatchOption, slice_get}
use Rattle.grid.specs.declared.cell.Cell.{Cell}
use Rattle.grid.specs.declared.terrain.Terrain.{Terrain}
use Rattle.grid.specs.Map.{Grid, IsPassable, terrain_at}
use Rattle.grid.specs.Terrain.{blocked, land, swamp, water, class_of, joins, Class}
use Rattle.model.specs.declared.act.Act.{Act}
use Rattle.model.specs.declared.act.Act.TheVariants.{Wait}
use Rattle.model.specs.declared.plan_fault.PlanFault.TheVariants.{BadStart, BadMove}
use Rattle.model.specs.Laws.Places.{same_place}
use Rattle.model.specs.Laws.Tracks.{length-path, visit_time}
use Rattle.model.specs.Plan.{Course, IsBadMove, IsLegal, IsTrackOf, IsValid, Plan, Position, course_of, moved, position_after, position_at, position_of}
use Rattle.model.specs.Rules.{path_cell}
use Rattle.model.specs.Timetable.{Track, cell_at, moves}
use Rattle.fleet_commands.proofs.LeftWalks.{after-start}
use Rattle.fleet_commands.proofs.RestLemmas.{path-at, step-either}

-- a step that leads to another place has an act that is no wait
step-moves : (p : Position) (acts : List Act) (t : ℕ) → position_after p acts t ≢ position_after p acts (suc t) → (a : Act) × (slice_get acts t ≡ Some a) × (a ≢ Wait)
step-moves p [] t leaves = absurd (leaves refl)
step-moves p (a ∷ acts) zero leaves = (a, refl, λ waits. leaves (sym (after-start (moved a p) acts ∙ ap (λ b. moved b p) waits)))
step-moves p (a ∷ acts) (suc t) leaves = step-moves (moved a p) acts t leaves

passable-if : (o : Option Terrain) → ((MatchOption o ⊥ (λ terrain. class_of terrain ≢ blocked) → ⊥) → ⊥) → MatchOption o ⊥ (λ terrain. class_of terrain ≢ blocked)
passable-if None twice = absurd (twice (λ never. never))
passable-if (Some terrain) twice = λ is. twice (λ other. other is)

not-blocked : (c d : Class) → joins c d ≡ true → d ≢ blocked
not-blocked c d joined is = by c (ap (joins c) (sym is) ∙ joined)
  where
    by : (c : Class) → joins c blocked ≡ true → ⊥
    by land e = let bad : false ≡ true = e in cc
    by swamp e = let bad : false ≡ true = e in cc
    by water e = let bad : false ≡ true = e in cc
    by blocked e = let bad : false ≡ true = e in cc

module _ (m : Grid) (p : Plan) (valid : IsValid m p) (i : ℕ) (course : Course) (track : Track) (is_course : course_of p i ≡ Some course) (tracked : IsTrackOf course track) where
  -- a step that leads to another cell is legal
  pub legal-on : (t : ℕ) → position_of (cell_at track t) ≢ position_of (cell_at track (suc t))
      → (IsLegal m (position_of (cell_at track t)) (position_of (cell_at track (suc t))) → ⊥) → ⊥
  legal-on t leaves illegal =
      let from = tracked.places t in
      let to = tracked.places (suc t) in
      let one : suc t ≡ t + 1 = omega arith in
      let act = step-moves (position_of course.start) course.acts t (λ e. leaves (from ∙ e ∙ sym to)) in
      let bad : IsBadMove m course t
      = subst (λ o. MatchOption o ⊥ (λ a. (a ≢ Wait) × (IsLegal m (position_at course t) (position_at course (t + 1)) → ⊥))) (sym act.1) (
        act.2,
        λ legal. illegal (subst (IsLegal m (position_of (cell_at track t))) (sym (to ∙ ap (position_at course) one)) (subst (λ q. IsLegal m q (position_at course (t + 1)))
            (sym from) legal)),
      ) in
      valid (BadMove i t) (subst (λ o. MatchOption o ⊥ (λ k. IsBadMove m k t)) (sym is_course) bad)

  legal-end : (u v : Position) (c : Cell) → v ≡ position_of c → IsLegal m u v → IsPassable m c
  legal-end u v c at legal =
      let same : legal.v ≡ c = same_place legal.v c (legal.is_to ∙ at) in
      subst (IsPassable m) same (by (terrain_at m legal.u) (terrain_at m legal.v) legal.step.joined)
    where
      by : (a b : Option Terrain) → MatchOption a ⊥ (λ t. MatchOption b ⊥ (λ u. joins (class_of t) (class_of u) ≡ true)) → MatchOption b ⊥ (λ terrain. class_of terrain ≢ blocked)
      by None b never = absurd never
      by (Some t) None never = absurd never
      by (Some t) (Some u) joined = not-blocked (class_of t) (class_of u) joined

  -- it goes through passable cells alone
  passable-at : (t : ℕ) → IsPassable m (cell_at track t)
  passable-at zero =
      let start : cell_at track 0 ≡ course.start = same_place (cell_at track 0) course.start (tracked.places 0 ∙ after-start (position_of course.start) course.acts) in
      subst (IsPassable m) (sym start)
      (passable-if (terrain_at m course.start) (λ bad. valid (BadStart i) (subst (λ o. MatchOption o ⊥ (λ k. IsPassable m k.start → ⊥)) (sym is_course) bad)))
  passable-at (suc t) = elim (step-either track t) [
    | inl stays ↦ subst (IsPassable m) stays.0 (passable-at t)
    | inr goes ↦
        passable-if (terrain_at m (cell_at track (suc t)))
        (λ bad. legal-on t (λ e. goes.0 (same_place (cell_at track t) (cell_at track (suc t)) e))
        (λ legal. bad (legal-end (position_of (cell_at track t)) (position_of (cell_at track (suc t))) (cell_at track (suc t)) refl legal)))
  ]

  pub passable-path : (n : ℕ) → n ≤ moves track → IsPassable m (path_cell track n)
  passable-path n within =
      let long = length-path track.start track.later in
      let time = visit_time track.start track.later n (omega (arith, within, long)) in
      subst (IsPassable m) (sym (ap (path_cell track) (sym time.1) ∙ path-at track time.0)) (passable-at time.0)
