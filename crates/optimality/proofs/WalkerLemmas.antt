-- Each agent of a valid plan walks by itself. That a step is legal can be decided, so it follows from validity.
use Rattle.std.proofs.Common.{◌≡◌, ◌≢◌, ◌∙◌, ℕ, suc, zero, ◌+◌, ◌⊎◌, List, [], ◌∷◌, Some, None, inl, inr, arith, refl, sym, ap, subst}
use Rattle.std.specs.Prelude.{◌==◌, MatchOption, Option, slice_get}
use Rattle.std.proofs.lemmas.Bool.{cases_Bool, eq-eqb, eqb-true, false≢true}
use Rattle.std.proofs.lemmas.Option.{none-some, same_Some, slice_get_cases}
use Rattle.grid.specs.declared.cell.Cell.{Cell}
use Rattle.grid.specs.declared.terrain.Terrain.{Terrain}
use Rattle.grid.specs.Map.{AreJoined, AreNext, Grid, IsStraightStep, ShareSide, terrain_at}
use Rattle.grid.specs.Terrain.{Class, blocked, class_of, joins, land, swamp, water}
use Rattle.model.specs.declared.act.Act.{Act}
use Rattle.model.specs.declared.act.Act.TheVariants.{N, E, S, W, Wait}
use Rattle.model.specs.declared.plan_fault.PlanFault.TheVariants.{BadStart, BadMove}
use Rattle.model.specs.Laws.Places.{same_place}
use Rattle.model.specs.Laws.Tracks.{cell_at-start}
use Rattle.model.specs.Plan.{AreTracksOf, Course, IsPassable, IsTrackOf, IsValid, Plan, moved, position_at, position_of}
use Rattle.model.specs.Timetable.{Track, cell_at}
use Rattle.checker.specs.Laws.Walking.{bad-moved, bad_at, moved-place, position-stays, position_at-start, step_from_legal}
use Rattle.optimality.specs.Splitting.{ends_of}
use Rattle.optimality.specs.Walkers.{IsAgentWalk, MayFollow}

-- ---- what can be decided

same_or_not : (a b : ℕ) → (a ≡ b) ⊎ (a ≡ b → ⊥)
same_or_not a b = elim (cases_Bool (a == b)) [ inl e ↦ inl (eqb-true a b e) | inr e ↦ inr (λ is. false≢true (sym e ∙ eq-eqb a b is)) ]

next_or_not : (a b : ℕ) → AreNext a b ⊎ (AreNext a b → ⊥)
next_or_not a b = elim (same_or_not a (b + 1)) [
  | inl above ↦ inl (inl above)
  | inr against ↦ elim (same_or_not b (a + 1)) [ inl below ↦ inl (inr below) | inr never ↦ inr (λ next. elim next [ inl h ↦ against h | inr h ↦ never h ]) ]
]

both_or_not : {A B : Type 0} → A ⊎ (A → ⊥) → B ⊎ (B → ⊥) → (A × B) ⊎ (A × B → ⊥)
both_or_not (inl a) (inl b) = inl (a, b)
both_or_not (inl a) (inr against) = inr (λ both. against both.1)
both_or_not (inr against) b = inr (λ both. against both.0)

side_or_not : (u v : Cell) → ShareSide u v ⊎ (ShareSide u v → ⊥)
side_or_not u v = elim (both_or_not (same_or_not u.x v.x) (next_or_not u.y v.y)) [
  | inl down ↦ inl (inl down)
  | inr against ↦ elim (both_or_not (same_or_not u.y v.y) (next_or_not u.x v.x)) [
    | inl across ↦ inl (inr across)
    | inr never ↦ inr (λ side. elim side [ inl h ↦ against h | inr h ↦ never h ])
  ]
]

joined_or_not : (s t : Option Terrain) → AreJoined s t ⊎ (AreJoined s t → ⊥)
joined_or_not None t = inr (λ h. h)
joined_or_not (Some s) None = inr (λ h. h)
joined_or_not (Some s) (Some t) = elim (cases_Bool (joins (class_of s) (class_of t))) [
  | inl is ↦ inl is
  | inr not ↦ inr (λ is. false≢true (sym not ∙ is))
]

step_or_not : (m : Grid) (u v : Cell) → IsStraightStep m u v ⊎ (IsStraightStep m u v → ⊥)
step_or_not m u v = elim (side_or_not u v) [
  | inl side ↦ elim (joined_or_not (terrain_at m u) (terrain_at m v)) [
    | inl joined ↦ inl (record { side = side; joined = joined })
    | inr apart ↦ inr (λ step. apart step.joined)
  ]
  | inr away ↦ inr (λ step. away step.side)
]

class_or_not : (c : Class) → (c ≢ blocked) ⊎ (c ≢ blocked → ⊥)
class_or_not land = inl (λ e. cc)
class_or_not swamp = inl (λ e. cc)
class_or_not water = inl (λ e. cc)
class_or_not blocked = inr (λ other. other refl)

passable_by : (o : Option Terrain) → MatchOption o ⊥ (λ (t : Terrain). class_of t ≢ blocked) ⊎ (MatchOption o ⊥ (λ (t : Terrain). class_of t ≢ blocked) → ⊥)
passable_by None = inr (λ h. h)
passable_by (Some t) = class_or_not (class_of t)

passable_or_not : (m : Grid) (c : Cell) → IsPassable m c ⊎ (IsPassable m c → ⊥)
passable_or_not m c = passable_by (terrain_at m c)

-- ---- an agent of a valid plan

next : (n : ℕ) → suc n ≡ n + 1
next n = omega arith

module _ (m : Grid) (p : Plan) (i : ℕ) (course : Course) (track : Track) (valid : IsValid m p) (there : slice_get p.courses i ≡ Some course) (is_track : IsTrackOf course track) where
  begins : IsPassable m track.start
  begins = elim (passable_or_not m track.start) [
    | inl passable ↦ passable
    | inr against ↦ absurd (
        let at : position_of track.start ≡ position_of course.start =
        ap position_of (sym (cell_at-start track.start track.later)) ∙ is_track.places 0 ∙ position_at-start (position_of course.start) course.acts in
        valid (BadStart i) (subst (λ o. MatchOption o ⊥ (λ (k : Course). IsPassable m k.start → ⊥)) (sym there)
        (λ passable. against (subst (IsPassable m) (sym (same_place track.start course.start at)) passable))))
  ]

  abbrev Follows : ℕ → Type 0
  Follows t = MayFollow m (cell_at track t) (cell_at track (t + 1))

  waits : (t : ℕ) → position_at course (t + 1) ≡ position_at course t → Follows t
  waits t same = inl (same_place (cell_at track (t + 1)) (cell_at track t) (is_track.places (t + 1) ∙ same ∙ sym (is_track.places t)))

  moves_on : (t : ℕ) (act : Act) → slice_get course.acts t ≡ Some act → act ≢ Wait → Follows t
  moves_on t act is other =
      let from = cell_at track t in
      let to = cell_at track (t + 1) in
      let at : position_of to ≡ moved act (position_of from) = is_track.places (t + 1) ∙ sym (moved-place course t from act is (is_track.places t)) in
      elim (step_or_not m from to) [
        | inl step ↦ inr step
        | inr against ↦ absurd (valid (BadMove i t) (bad_at m p.courses t i course there (bad-moved m course t from act is (is_track.places t) other
            (λ legal. against (step_from_legal m from to (moved act (position_of from)) at legal)))))
      ]

  by_act : (t : ℕ) (act : Act) → slice_get course.acts t ≡ Some act → Follows t
  by_act t N is = moves_on t N is (λ e. cc)
  by_act t E is = moves_on t E is (λ e. cc)
  by_act t S is = moves_on t S is (λ e. cc)
  by_act t W is = moves_on t W is (λ e. cc)
  by_act t Wait is = waits t (sym (moved-place course t (cell_at track t) Wait is (is_track.places t)) ∙ is_track.places t)

  follows : (t : ℕ) → Follows t
  follows t = elim (slice_get_cases course.acts t).1 [
    | inl some ↦ by_act t some.0 some.2
    | inr none ↦ waits t (ap (position_at course) (sym (next t)) ∙ position-stays (position_of course.start) course.acts t (suc t) none.0 (omega arith))
  ]

  walks : IsAgentWalk m (ends_of track) track
  walks = record { from_start = refl; passable = begins; steps = follows; to_goal = refl }

course_at : (courses : List Course) (tracks : List Track) → AreTracksOf courses tracks → (i : ℕ) (track : Track) → slice_get tracks i ≡ Some track
    → (course : Course) × (slice_get courses i ≡ Some course) × IsTrackOf course track
course_at [] tracks are i track is = absurd (none-some track (ap (λ k. slice_get k i) (sym are) ∙ is))
course_at (course ∷ courses) tracks are zero track is =
    let own = same_Some are.0 track (ap (λ k. slice_get k 0) (sym are.2) ∙ is) in (course, refl, subst (IsTrackOf course) own are.3)
course_at (course ∷ courses) tracks are (suc i) track is =
    course_at courses are.1 are.4 i track (ap (λ k. slice_get k (suc i)) (sym are.2) ∙ is)

-- each agent of a valid plan walks from its start to its goal
pub agent_walks : (m : Grid) (p : Plan) (tracks : List Track) → IsValid m p → AreTracksOf p.courses tracks → (i : ℕ) (track : Track) → slice_get tracks i ≡ Some track
    → IsAgentWalk m (ends_of track) track
agent_walks m p tracks valid are i track there =
    let c = course_at p.courses tracks are i track there in walks m p i c.0 track valid c.1 c.2
