-- The cells of a valid plan's agent are those of a walk of straight steps, but for its waits. A legal step follows from validity by
-- contradiction alone, and so does the walk; that is enough for a bound.
use Rattle.std.proofs.Common.{◌≡◌, ◌≢◌, ◌∙◌, ℕ, zero, suc, ◌+◌, ◌*◌, ◌≤◌, false, Some, None, inl, inr, arith, refl, sym, ap, subst}
use Rattle.std.specs.Prelude.{MatchOption, Option, slice_get}
use Rattle.std.proofs.lemmas.Bool.{cases_lt}
use Rattle.std.proofs.lemmas.Option.{slice_get_cases}
use Rattle.grid.specs.declared.terrain.Terrain.{Terrain}
use Rattle.grid.specs.Map.{Grid, terrain_at}
use Rattle.least_steps.specs.LeastSteps.{IsFewest}
use Rattle.least_steps.specs.Code.Reaching.{WalksTo}
use Rattle.least_steps.specs.Laws.Ways.{comes-on, comes_at_once}
use Rattle.model.specs.declared.act.Act.{Act}
use Rattle.model.specs.declared.act.Act.TheVariants.{N, E, S, W, Wait}
use Rattle.model.specs.declared.plan_fault.PlanFault.TheVariants.{BadStart, BadMove}
use Rattle.model.specs.Costs.{cost}
use Rattle.model.specs.Laws.Places.{same_place}
use Rattle.model.specs.Laws.Tracks.{cell_at-start}
use Rattle.model.specs.Plan.{Course, IsPassable, IsTrackOf, IsValid, Plan, moved, position_at, position_of}
use Rattle.model.specs.Timetable.{Track, cell_at}
use Rattle.checker.specs.Laws.Walking.{bad-moved, bad_at, moved-place, position-stays, position_at-start, step_from_legal}
use Rattle.walks.specs.Walk.{IsOn, IsWalk}
use Rattle.bounding.specs.Bounding.{last_cell}

next : (n : ℕ) → suc n ≡ n + 1
next n = omega arith

one_more : (k : ℕ) → (k + 1) * 6625109 + 6625109 ≡ (k + 1 + 1) * 6625109
one_more k = omega arith

-- what has a terrain is on the map
on_by : (o : Option Terrain) (P : Terrain → Type 0) → MatchOption o ⊥ P → o ≡ None → ⊥
on_by None P h none = h
on_by (Some t) P h none = cc

module _ (m : Grid) (p : Plan) (i : ℕ) (course : Course) (track : Track) (valid : IsValid m p) (there : slice_get p.courses i ≡ Some course) (is_track : IsTrackOf course track) where
  -- the start is on the map
  start-on : IsOn m track.start
  start-on off =
      let at : position_of track.start ≡ position_of course.start =
      ap position_of (sym (cell_at-start track.start track.later)) ∙ is_track.places 0 ∙ position_at-start (position_of course.start) course.acts in
      valid (BadStart i) (subst (λ o. MatchOption o ⊥ (λ (k : Course). IsPassable m k.start → ⊥)) (sym there)
      (λ passable. on_by (terrain_at m course.start) _ passable (ap (terrain_at m) (sym (same_place track.start course.start at)) ∙ off)))

  -- a walk leads to where the agent is at a time, in no more steps
  abbrev Leads : ℕ → Type 0
  Leads t = (k : ℕ) × (k ≤ t) × WalksTo m false track.start (cell_at track t) ((k + 1) * 6625109)

  -- where it stays, the same walk does
  waits : (t : ℕ) → position_at course (suc t) ≡ position_at course t → Leads t → Leads (suc t)
  waits t same leads =
      let most = leads.1 in
      let stays : cell_at track t ≡ cell_at track (suc t) = same_place (cell_at track t) (cell_at track (suc t)) (is_track.places t ∙ sym same ∙ sym (is_track.places (suc t))) in
      (leads.0, omega (arith, most), subst (λ c. WalksTo m false track.start c ((leads.0 + 1) * 6625109)) stays leads.2)

  -- by an act that is no wait it is one step longer
  moves_on : (t : ℕ) (act : Act) → slice_get course.acts t ≡ Some act → act ≢ Wait → Leads t → (Leads (suc t) → ⊥) → ⊥
  moves_on t act is other leads never =
      let from = cell_at track t in
      let to = cell_at track (suc t) in
      let most = leads.1 in
      let at : position_of to ≡ moved act (position_of from) =
      is_track.places (suc t) ∙ ap (position_at course) (next t) ∙ sym (moved-place course t from act is (is_track.places t)) in
      valid (BadMove i t) (bad_at m p.courses t i course there (bad-moved m course t from act is (is_track.places t) other (λ legal.
      never (
        leads.0 + 1,
        omega (arith, most),
        subst (WalksTo m false track.start to) (one_more leads.0)
            (comes-on m false track.start from to ((leads.0 + 1) * 6625109) 6625109 leads.2 (inl (step_from_legal m from to (moved act (position_of from)) at legal, refl))),
      ))))

  by_act : (t : ℕ) (act : Act) → slice_get course.acts t ≡ Some act → Leads t → (Leads (suc t) → ⊥) → ⊥
  by_act t N is leads never = moves_on t N is (λ e. cc) leads never
  by_act t E is leads never = moves_on t E is (λ e. cc) leads never
  by_act t S is leads never = moves_on t S is (λ e. cc) leads never
  by_act t W is leads never = moves_on t W is (λ e. cc) leads never
  by_act t Wait is leads never =
      never (waits t (ap (position_at course) (next t) ∙ sym (moved-place course t (cell_at track t) Wait is (is_track.places t)) ∙ is_track.places t) leads)

  leads_at : (t : ℕ) → (Leads t → ⊥) → ⊥
  leads_at zero never = never (0, omega arith, subst (λ c. WalksTo m false track.start c 6625109) (sym (cell_at-start track.start track.later)) (comes_at_once m false track.start start-on))
  leads_at (suc t) never = leads_at t (λ leads. elim (slice_get_cases course.acts t).1 [
    | inl some ↦ by_act t some.0 some.2 leads never
    | inr none ↦ never (waits t (position-stays (position_of course.start) course.acts t (suc t) none.0 (omega arith)) leads)
  ])

  -- so its cost is no less than the least steps
  pub costs_more : (b : ℕ) → IsFewest m track.start (last_cell track) b → b ≤ cost track
  costs_more b fewest = elim (cases_lt (cost track) b) [
    | inl less ↦ absurd (leads_at (cost track) (λ leads. (
        let most = leads.1 in
        let way = leads.2.2 in
        let none = way.kinds refl in
        let number = way.number in
        let begins = leads.2.3 in
        let least = fewest.least leads.2.0 way.straight (subst (IsWalk m track.start (last_cell track) leads.2.0 way.straight) none way.is_walk) in
        omega (arith, less, most, least, none, number, begins)
        )))
    | inr most ↦ most
  ]
