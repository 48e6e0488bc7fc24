-- Legal steps, and the acts of a step.
use Rattle.std.proofs.Common.{◌≡◌, ◌≢◌, ℕ, zero, suc, ◌+◌, ◌<◌, ◌≤◌, pos, ◌+ℤ◌}
use Rattle.std.proofs.Common.{◌-ℤ◌, Bool, true, false, cond, List, [], ◌∷◌, length, get_or}
use Rattle.std.proofs.Common.{Some, None, arith, refl, sym, ap, subst, inl, inr, ◌∙◌}
use Rattle.std.specs.Prelude.{Option, MatchOption, ◌&&◌, nat_lt, slice_get}
use Rattle.std.proofs.lemmas.Bool.{cases_lt, cond-true, and_parts, and_from}
use Rattle.std.proofs.lemmas.Bool.{ltb-true, ltb-false, lt-ltb}
use Rattle.std.proofs.lemmas.List.Elements.{All-get_or, All-from_recursion}
use Rattle.std.proofs.lemmas.Int.{ints}
use Rattle.std.proofs.lemmas.Option.{slice_get_past, slice_get_within}
use Rattle.std.proofs.lemmas.Option.{slice_get-get_or, get_or_from_slice_get}
use Rattle.grid.specs.declared.cell.Cell.{Cell}
use Rattle.grid.specs.declared.terrain.Terrain.{Terrain}
use Rattle.grid.specs.declared.terrain.Terrain.TheVariants.{Floor}
use Rattle.grid.specs.Map.{Grid, IsSize, IsMap, terrain_at, ShareSide, AreJoined, IsStraightStep}
use Rattle.model.specs.declared.act.Act.{Act}
use Rattle.model.specs.declared.act.Act.TheVariants.{N, E, S, W, Wait}
use Rattle.model.specs.Plan.{Course, Plan, Position, position_of, moved}
use Rattle.model.specs.Plan.{position_after, position_at, IsLegal, IsBadMove}
use Rattle.model.specs.Laws.Places.{same_place, position_after-end}
use Rattle.model.specs.Laws.Options.{some-found}
use Rattle.plan_text.specs.Limits.{IsCourse, IsPlan}
use Rattle.checker.specs.Code.Standing.{place_in, IsOnGrid}
use Rattle.checker.specs.Moving.{cell_by}
use Rattle.checker.specs.Code.Walking.{is_within_acts, has_act}
use Rattle.checker.specs.Code.Walking.{LeadsBeside}
use Rattle.checker.specs.Code.Walking.{LeadsTo, IsAhead, HasBadMove}

-- ---- legal steps

on_map_by : (b : Bool) (t : Option Terrain) (P : Terrain → Type 0)
    → MatchOption (cond b t None) ⊥ P → b ≡ true
on_map_by true t P h = refl
on_map_by false t P h = absurd h

-- what has a terrain is a cell of the map
pub on_map_from_terrain
    : (m : Grid) (c : Cell) (P : Terrain → Type 0) → MatchOption (terrain_at m c) ⊥ P → IsOnGrid m c
on_map_from_terrain m c P h =
    let both = and_parts (nat_lt c.x m.width) (nat_lt c.y m.height)
    (on_map_by (nat_lt c.x m.width && nat_lt c.y m.height) (slice_get m.terrain _) P h) in
    record { column = ltb-true c.x m.width both.0; row = ltb-true c.y m.height both.1 }

pub joined_to : (s t : Option Terrain) → AreJoined s t → MatchOption t ⊥ (λ u. Unit {0})
joined_to None t h = absurd h
joined_to (Some s) None h = absurd h
joined_to (Some s) (Some t) h = tt

pub step_from_legal : (m : Grid) (from to : Cell) (place : Position) → position_of to ≡ place
    → IsLegal m (position_of from) place → IsStraightStep m from to
step_from_legal m from to place at h =
    subst (λ c. IsStraightStep m c to) (same_place h.u from h.is_from)
    (subst (λ c. IsStraightStep m h.u c) (same_place h.v to (h.is_to ∙ sym at)) h.step)

pub legal_from_step : (m : Grid) (from to : Cell) (place : Position) → position_of to ≡ place
    → IsStraightStep m from to → IsLegal m (position_of from) place
legal_from_step m from to place at step =
    record { u = from; v = to; is_from = refl; is_to = at; step = step }

leads-wait : (m : Grid) (from to : Cell) (act : Act) → IsOnGrid m from → act ≡ Wait
    → position_of to ≡ moved act (position_of from) → LeadsTo m from act to
leads-wait m from to act on waits at =
    let same : from ≡ to =
    same_place from to (sym (at ∙ ap (λ a. moved a (position_of from)) waits)) in
    record {
      place = at;
      on_map = subst (IsOnGrid m) same on;
      legal = λ other. absurd (other waits);
    }

pub on_map_from_step : (m : Grid) (u v : Cell) → IsStraightStep m u v → IsOnGrid m v
on_map_from_step m u v step =
    on_map_from_terrain m v (λ t. Unit {0})
    (joined_to (terrain_at m u) (terrain_at m v) step.joined)

-- an act that is no wait leads to a cell beside
pub beside_by : (from to : Cell) (act : Act) → act ≢ Wait
    → position_of to ≡ moved act (position_of from) → ShareSide from to
beside_by from to N other at =
    let x : pos to.x ≡ pos from.x = ap (λ p. p.x) at in
    let y : pos to.y ≡ pos from.y -ℤ pos 1 = ap (λ p. p.y) at in
    inl (omega (arith, ints, x), inl (omega (arith, ints, y)))
beside_by from to E other at =
    let x : pos to.x ≡ pos from.x +ℤ pos 1 = ap (λ p. p.x) at in
    let y : pos to.y ≡ pos from.y = ap (λ p. p.y) at in
    inr (omega (arith, ints, y), inr (omega (arith, ints, x)))
beside_by from to S other at =
    let x : pos to.x ≡ pos from.x = ap (λ p. p.x) at in
    let y : pos to.y ≡ pos from.y +ℤ pos 1 = ap (λ p. p.y) at in
    inl (omega (arith, ints, x), inr (omega (arith, ints, y)))
beside_by from to W other at =
    let x : pos to.x ≡ pos from.x -ℤ pos 1 = ap (λ p. p.x) at in
    let y : pos to.y ≡ pos from.y = ap (λ p. p.y) at in
    inr (omega (arith, ints, y), inl (omega (arith, ints, x)))
beside_by from to Wait other at = absurd (other refl)

-- where an act leads, if that is on the map and the terrain joins
pub leads-joined
    : (m : Grid) (from to : Cell) (act : Act) → IsSize m.width m.height → LeadsBeside from act to
    → AreJoined (terrain_at m from) (terrain_at m to) → LeadsTo m from act to
leads-joined m from to act size (inl at) joined = record {
  place = at;
  on_map =
      on_map_from_terrain m to (λ t. Unit {0})
      (joined_to (terrain_at m from) (terrain_at m to) joined);
  legal =
      λ other. legal_from_step m from to (moved act (position_of from)) at
      (record { side = beside_by from to act other at; joined = joined });
}
leads-joined m from to act size (inr apart) joined =
    let on = on_map_from_terrain m to (λ t. Unit {0})
    (joined_to (terrain_at m from) (terrain_at m to) joined) in
    let column = on.column in
    let row = on.row in
    let width = size.width_limit in
    let height = size.height_limit in
    absurd (elim apart.1 [
      | inl x ↦ omega (arith, x, column, width)
      | inr y
          ↦ omega (arith, y, row, height)
    ])

-- a wait leads nowhere else
pub leads-waiting : (m : Grid) (from to : Cell) (act : Act) → IsOnGrid m from → act ≡ Wait
    → LeadsBeside from act to → LeadsTo m from act to
leads-waiting m from to act on waits (inl at) = leads-wait m from to act on waits at
leads-waiting m from to act on waits (inr apart) =
    absurd (apart.0 from (sym (ap (λ a. moved a (position_of from)) waits)))

pub no_step : (m : Grid) (from to : Cell) (act : Act) → LeadsBeside from act to
    → (AreJoined (terrain_at m from) (terrain_at m to) → ⊥)
    → IsLegal m (position_of from) (moved act (position_of from)) → ⊥
no_step m from to act (inl at) none h =
    none (step_from_legal m from to (moved act (position_of from)) at h).joined
no_step m from to act (inr apart) none h = apart.0 h.v h.is_to

-- the terrain of a cell on the map, and its character
pub terrain_on : (m : Grid) (c : Cell) → IsMap m → IsOnGrid m c
    → place_in m.width c < length m.terrain
    → terrain_at m c ≡ Some (get_or m.terrain (place_in m.width c) Floor)
terrain_on m c is_map on within =
    cond-true (nat_lt c.x m.width && nat_lt c.y m.height) _ _
    (and_from (nat_lt c.x m.width) (nat_lt c.y m.height) (lt-ltb c.x m.width on.column)
    (lt-ltb c.y m.height on.row))
    ∙ slice_get-get_or m.terrain (place_in m.width c) Floor within

-- ---- acts

pub no_course : Course
no_course = record { start = record { x = 0; y = 0 }; acts = [] }

pub position_at-start : (p : Position) (acts : List Act) → position_after p acts 0 ≡ p
position_at-start p [] = refl
position_at-start p (a ∷ acts) = refl

pub position-moved
    : (p : Position) (acts : List Act) (step : ℕ) (act : Act) → slice_get acts step ≡ Some act
    → position_after p acts (suc step) ≡ moved act (position_after p acts step)
position-moved p [] step act h = cc
position-moved p (a ∷ acts) zero act h =
    position_at-start (moved a p) acts ∙ (let same : a ≡ act = cc in ap (λ b. moved b p) same)
position-moved p (a ∷ acts) (suc step) act h = position-moved (moved a p) acts step act h

pub position-stays : (p : Position) (acts : List Act) (step later : ℕ) → length acts ≤ step
    → step ≤ later → position_after p acts later ≡ position_after p acts step
position-stays p acts step later past h =
    position_after-end p acts later (omega (arith, past, h))
    ∙ sym (position_after-end p acts step past)

-- ---- where a step leads

next : (n : ℕ) → n + 1 ≡ suc n
next n = omega arith

pub ahead-past : (m : Grid) (course : Course) (step : ℕ) (cell : Cell) → length course.acts ≤ step
    → position_of cell ≡ position_at course step → IsOnGrid m cell
    → IsAhead m course step cell
ahead-past m course step cell past at on = record {
  place =
      at ∙ sym (position-stays (position_of course.start) course.acts step (step + 1) past
      (omega arith));
  on_map = on;
  good =
      λ bad. subst (λ o. MatchOption o ⊥ (λ act. (act ≢ Wait)
      × (IsLegal m (position_at course step) (position_at course (step + 1)) → ⊥)))
      (slice_get_past course.acts step past) bad;
}

-- the act of a step is bad where it is no wait and not legal
bad_by : (m : Grid) (course : Course) (step : ℕ) (act : Act) → slice_get course.acts step ≡ Some act
    → IsBadMove m course step
    ≡ ((act ≢ Wait) × (IsLegal m (position_at course step) (position_at course (step + 1)) → ⊥))
bad_by m course step act is =
    ap (λ o. MatchOption o ⊥ (λ a. (a ≢ Wait)
    × (IsLegal m (position_at course step) (position_at course (step + 1)) → ⊥))) is

pub moved-place : (course : Course) (step : ℕ) (from : Cell) (act : Act)
    → slice_get course.acts step ≡ Some act → position_of from ≡ position_at course step
    → moved act (position_of from) ≡ position_at course (step + 1)
moved-place course step from act is at =
    ap (moved act) at ∙ sym (position-moved (position_of course.start) course.acts step act is)
    ∙ ap (position_at course) (sym (next step))

legal_there : (m : Grid) (course : Course) (step : ℕ) (from : Cell) (act : Act)
    → slice_get course.acts step ≡ Some act → position_of from ≡ position_at course step
    → IsLegal m (position_of from) (moved act (position_of from))
    ≡ IsLegal m (position_at course step) (position_at course (step + 1))
legal_there m course step from act is at =
    ap (λ p. IsLegal m p (moved act (position_of from))) at
    ∙ ap (IsLegal m (position_at course step)) (moved-place course step from act is at)

pub ahead-moved : (m : Grid) (course : Course) (step : ℕ) (from to : Cell) (act : Act)
    → slice_get course.acts step ≡ Some act
    → position_of from ≡ position_at course step → LeadsTo m from act to → IsAhead m course step to
ahead-moved m course step from to act is at leads = record {
  place = leads.place ∙ moved-place course step from act is at;
  on_map = leads.on_map;
  good =
      λ bad. let h = subst (λ P. P) (bad_by m course step act is) bad in
      h.1 (subst (λ P. P) (legal_there m course step from act is at) (leads.legal h.0));
}

pub bad-moved : (m : Grid) (course : Course) (step : ℕ) (from : Cell) (act : Act)
    → slice_get course.acts step ≡ Some act → position_of from ≡ position_at course step
    → act ≢ Wait → (IsLegal m (position_of from) (moved act (position_of from)) → ⊥)
    → IsBadMove m course step
bad-moved m course step from act is at acts illegal =
    subst (λ P. P) (sym (bad_by m course step act is)) (
      acts,
      λ legal. illegal
          (subst (λ P. P) (sym (legal_there m course step from act is at)) legal),
    )

-- an act that is no wait or a legal step leads to a cell of the map
steps_on : (m : Grid) (from : Cell) (act : Act) → IsOnGrid m from
    → (act ≢ Wait → (IsLegal m (position_of from) (moved act (position_of from)) → ⊥) → ⊥)
    → (position_of (cell_by act from) ≡ moved act (position_of from))
    × IsOnGrid m (cell_by act from)
steps_on m from N on good = elim (cases_lt 0 from.y) [
  | inl some ↦ (
    ap (λ y. record { x = pos from.x; y = y }) (omega (arith, ints, some)),
    record { column = on.column; row = (let row = on.row in omega (arith, row)) },
  )
  | inr none ↦ absurd
      (good (λ same. cc)
      (λ legal. (let y : pos legal.v.y ≡ pos from.y -ℤ pos 1 = ap (λ p. p.y) legal.is_to in
      omega (arith, ints, y, none))))
]
steps_on m from E on good = elim (cases_lt (from.x + 1) m.width) [
  | inl less ↦ (
    ap (λ x. record { x = x; y = pos from.y }) (omega (arith, ints)),
    record { column = less; row = on.row },
  )
  | inr past ↦ absurd (good (λ same. cc) (λ legal. (
      let x : pos legal.v.x ≡ pos from.x +ℤ pos 1 = ap (λ p. p.x) legal.is_to in
      let column = (on_map_from_step m legal.u legal.v legal.step).column in
      omega (arith, ints, x, column, past)
      )))
]
steps_on m from S on good = elim (cases_lt (from.y + 1) m.height) [
  | inl less ↦ (
    ap (λ y. record { x = pos from.x; y = y }) (omega (arith, ints)),
    record { column = on.column; row = less },
  )
  | inr past ↦ absurd (good (λ same. cc) (λ legal. (
      let y : pos legal.v.y ≡ pos from.y +ℤ pos 1 = ap (λ p. p.y) legal.is_to in
      let row = (on_map_from_step m legal.u legal.v legal.step).row in
      omega (arith, ints, y, row, past)
      )))
]
steps_on m from W on good = elim (cases_lt 0 from.x) [
  | inl some ↦ (
    ap (λ x. record { x = x; y = pos from.y }) (omega (arith, ints, some)),
    record { column = (let column = on.column in omega (arith, column)); row = on.row },
  )
  | inr none ↦ absurd
      (good (λ same. cc)
      (λ legal. (let x : pos legal.v.x ≡ pos from.x -ℤ pos 1 = ap (λ p. p.x) legal.is_to in
      omega (arith, ints, x, none))))
]
steps_on m from Wait on good = (refl, on)

-- where a step leads that isn't bad
pub goes_ahead : (m : Grid) (course : Course) (step : ℕ) (from : Cell) (act : Act)
    → slice_get course.acts step ≡ Some act
    → position_of from ≡ position_at course step → IsOnGrid m from → (IsBadMove m course step → ⊥)
    → IsAhead m course step (cell_by act from)
goes_ahead m course step from act is at on good =
    let on_map = steps_on m from act on
    (λ other illegal. good (bad-moved m course step from act is at other illegal)) in
    record {
      place = on_map.0 ∙ moved-place course step from act is at;
      on_map = on_map.1;
      good = good;
    }

-- an agent has a bad move where its course has
pub bad_at : (m : Grid) (courses : List Course) (step i : ℕ) (course : Course)
    → slice_get courses i ≡ Some course → IsBadMove m course step
    → HasBadMove m courses step i
bad_at m courses step i course there bad =
    subst (λ o. MatchOption o ⊥ (λ k. IsBadMove m k step)) (sym there) bad

pub bad-has_act
    : (m : Grid) (course : Course) (step : ℕ) → IsBadMove m course step → step < length course.acts
bad-has_act m course step bad =
    let act = some-found (slice_get course.acts step) (λ act. (act ≢ Wait)
    × (IsLegal m (position_at course step) (position_at course (step + 1)) → ⊥)) bad in
    slice_get_within course.acts step act.0 act.1

pub course_from : (m : Grid) (courses : List Course) (step i : ℕ) → HasBadMove m courses step i
    → (course : Course) × (slice_get courses i ≡ Some course) × IsBadMove m course step
course_from m courses step i bad = some-found (slice_get courses i) (λ k. IsBadMove m k step) bad

-- ---- agents with an act

pub has_act-more : (courses : List Course) (step i : ℕ) (course : Course)
    → has_act courses step i ≡ true → slice_get courses i ≡ Some course → step < length course.acts
has_act-more courses step i course h there =
    ltb-true step (length course.acts) (sym (ap (is_within_acts step) there) ∙ h)

pub has_act-over : (courses : List Course) (step i : ℕ) (course : Course)
    → has_act courses step i ≡ false → slice_get courses i ≡ Some course → length course.acts ≤ step
has_act-over courses step i course h there =
    ltb-false step (length course.acts) (sym (ap (is_within_acts step) there) ∙ h)

-- where some agent has an act in the step, that is one of the acts that a plan may have
pub step_limit : (p : Plan) (step i : ℕ) (course : Course) → IsPlan p
    → has_act p.courses step i ≡ true → slice_get p.courses i ≡ Some course → step < 65535
step_limit p step i course within h there =
    let less = has_act-more p.courses step i course h there in
    let is_agent = slice_get_within p.courses i course there in
    let same = get_or_from_slice_get p.courses i course no_course there in
    let most = (subst IsCourse same
    (All-get_or IsCourse p.courses i no_course is_agent
    (All-from_recursion IsCourse p.courses within.courses))).acts_limit in
    omega (arith, less, most)
