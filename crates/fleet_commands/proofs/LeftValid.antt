-- The plan of what is left of a valid plan is valid, where each begun move has its need met.
use Rattle.std.proofs.Common.{◌≡◌, ◌≢◌, ◌∙◌, ℕ, zero, suc, ◌+◌, ◌<◌, ◌≤◌, List, [], ◌∷◌, length, get_or, true, Some, None, inl, inr, refl, ap, sym, subst, arith}
use Rattle.std.specs.Prelude.{if◌then◌else◌, nat_lt, Option, MatchOption, slice_get}
use Rattle.std.proofs.lemmas.Bool.{cases_lt, cond-true, cond-false, le-ltb, lt-ltb}
use Rattle.std.proofs.lemmas.Option.{none-some, same_Some}
use Rattle.grid.specs.declared.cell.Cell.{Cell}
use Rattle.grid.specs.Map.{Grid, IsPassable}
use Rattle.model.specs.declared.act.Act.{Act}
use Rattle.model.specs.declared.act.Act.TheVariants.{N, E, S, W, Wait}
use Rattle.model.specs.declared.plan_fault.PlanFault.TheVariants.{BadStart, BadMove, Vertex, Swap, OutOfMemory}
use Rattle.model.specs.Dependency.{IsMet, Need, moves_in, moves_to, need}
use Rattle.model.specs.Laws.Needs.{stands-from}
use Rattle.model.specs.Laws.Options.{some-found}
use Rattle.model.specs.Laws.Places.{same_place}
use Rattle.model.specs.Laws.Tracks.{length-path, moves-leave, moves-most, moves-rise, moving_step, step-of_move}
use Rattle.model.specs.Laws.Waits.{moves-at}
use Rattle.model.specs.Plan.{Course, HasPlanFault, IsBadMove, IsLegal, IsTrackOf, IsValid, Plan, course_of, moved, position_at, position_of}
use Rattle.model.specs.Rules.{path_cell}
use Rattle.model.specs.Safety.{HaveNeedsMet, MayBeIn}
use Rattle.model.specs.Timetable.{Track, Timetable, IsSwapFree, cell_at, moves, moves_before, path, step_of, track_of}
use Rattle.continuing.specs.Adding.{changes_cell}
use Rattle.fleet_commands.specs.LeftPlan.{left_course}
use Rattle.fleet_commands.proofs.LeftWalks.{leads-away, left-goes, left-waits, position-next}
use Rattle.fleet_commands.proofs.PassableWays.{legal-on, passable-path}
use Rattle.fleet_commands.proofs.RestLemmas.{path-at, step-either}

-- ---- when moves are made

-- a move is made by a time behind its step
made-by : (track : Track) (k time : ℕ) → k < moves track → step_of track k < time → k < moves_before track time
made-by track k time less in_time =
    let move = moving_step track.start track.later k less in
    let step : step_of track k ≡ move.0 = ap (step_of track) (sym move.1) ∙ step-of_move track.start track.later move.0 move.2 in
    let next = moves-leave track.start track.later move.0 move.2 in
    let count = move.1 in
    let rise = moves-rise track.start track.later (suc move.0) time (omega (arith, step, in_time)) in
    omega (arith, next, count, rise)

-- and by no other
pub made-only : (track : Track) (k time : ℕ) → k < moves_before track time → step_of track k < time
made-only track k time made =
    let most = moves-most track.start track.later time in
    let here = moves-at track k (omega (arith, made, most)) in
    elim (cases_lt (step_of track k) time) [
      | inl less ↦ less
      | inr late ↦ (let rise = moves-rise track.start track.later time (step_of track k) late in absurd (omega (arith, made, here, rise)))
    ]

-- ---- acts and cells

changes : (a : Act) → a ≢ Wait → changes_cell a ≡ true
changes N moves = refl
changes E moves = refl
changes S moves = refl
changes W moves = refl
changes Wait moves = absurd (moves refl)

act-there : (acts : List Act) (t : ℕ) (a : Act) → slice_get acts t ≡ Some a → get_or acts t Wait ≡ a
act-there [] t a there = absurd (none-some a there)
act-there (b ∷ acts) zero a there = same_Some b a there
act-there (b ∷ acts) (suc t) a there = act-there acts t a there

module _ (m : Grid) (p : Plan) (table : Timetable) (valid : IsValid m p) (unswapped : IsSwapFree table) (begun finished : ℕ → ℕ) (first : ℕ)
    (met : HaveNeedsMet table begun finished) (most : (i : ℕ) (track : Track) → track_of table i ≡ Some track → begun i ≤ moves track)
    (apart : (begun finished : ℕ → ℕ) (i j : ℕ) (c : Cell) → HaveNeedsMet table begun finished → MayBeIn table begun finished i c → MayBeIn table begun finished j c → i ≡ j)
    (planned : (i k : ℕ) (track : Track) (asked : Need) → track_of table i ≡ Some track → k < moves track → need table i track k ≡ Some asked
    → (to : Track) × (last : ℕ) × (track_of table asked.agent ≡ Some to) × (asked.count ≡ last + 1) × (last < moves to) × (step_of to last ≤ step_of track k)) where
  -- ---- how many moves each agent has made at a time of the new plan

  gone : ℕ → ℕ → ℕ
  gone t i = if nat_lt (begun i) (moves_to table i (first + t)) then moves_to table i (first + t) else begun i

  gone-low : (t i : ℕ) → moves_to table i (first + t) ≤ begun i → gone t i ≡ begun i
  unfolding gone
  gone-low t i few = cond-false (nat_lt (begun i) (moves_to table i (first + t))) (moves_to table i (first + t)) (begun i) (le-ltb (begun i) (moves_to table i (first + t)) few)

  gone-high : (t i : ℕ) → begun i < moves_to table i (first + t) → gone t i ≡ moves_to table i (first + t)
  unfolding gone
  gone-high t i less = cond-true (nat_lt (begun i) (moves_to table i (first + t))) (moves_to table i (first + t)) (begun i) (lt-ltb (begun i) (moves_to table i (first + t)) less)

  gone-both : (t i : ℕ) → (begun i ≤ gone t i) × (moves_to table i (first + t) ≤ gone t i)
  gone-both t i = elim (cases_lt (begun i) (moves_to table i (first + t))) [
    | inl less ↦ (let e = gone-high t i less in (omega (arith, less, e), omega (arith, e)))
    | inr few ↦ (let e = gone-low t i few in (omega (arith, e), omega (arith, few, e)))
  ]

  to-is : (i t : ℕ) (track : Track) → track_of table i ≡ Some track → moves_to table i t ≡ moves_before track t
  to-is i t track there = ap (λ o. moves_in o t) there

  met-by : (t : ℕ) (o : Option Need) → ((n : Need) → o ≡ Some n → n.count ≤ gone t n.agent) → IsMet (gone t) o
  met-by t None each = tt
  met-by t (Some n) each = each n refl

  early-met : (t i k : ℕ) (track : Track) → track_of table i ≡ Some track → k < begun i → (n : Need) → need table i track k ≡ Some n → n.count ≤ gone t n.agent
  early-met t i k track there less n asks =
      let within = most i track there in
      let to = planned i k track n there (omega (arith, less, within)) asks in
      let was = subst (IsMet finished) asks (met.met i track k there less) in
      let order = met.order n.agent to.0 to.2 in
      let far = (gone-both t n.agent).0 in
      omega (arith, was, order, far)

  late-met : (t i k : ℕ) (track : Track) → track_of table i ≡ Some track → k < moves_before track (first + t) → (n : Need) → need table i track k ≡ Some n → n.count ≤ gone t n.agent
  late-met t i k track there less n asks =
      let within = moves-most track.start track.later (first + t) in
      let to = planned i k track n there (omega (arith, less, within)) asks in
      let soon = made-only track k (first + t) less in
      let in_time = to.5 in
      let made = made-by to.0 to.1 (first + t) to.4 (omega (arith, soon, in_time)) in
      let count = to.3 in
      let is = to-is n.agent (first + t) to.0 to.2 in
      let far = (gone-both t n.agent).1 in
      omega (arith, made, count, is, far)

  gone-met : (t : ℕ) → HaveNeedsMet table (gone t) (gone t)
  gone-met t = record {
    order = λ i track there. omega arith;
    met = λ i track k there less.
        met-by t (need table i track k) (λ n asks. elim (cases_lt k (begun i)) [
          | inl early ↦ early-met t i k track there early n asks
          | inr late ↦
              (let is = to-is i (first + t) track there in
              late-met t i k track there (elim (cases_lt (begun i) (moves_to table i (first + t))) [
                | inl more ↦ (let e = gone-high t i more in omega (arith, less, e, is))
                | inr few ↦ (let e = gone-low t i few in absurd (omega (arith, less, late, e)))
              ]) n asks)
        ]);
  }

  -- ---- an agent of the new plan

  -- the course is what is left of that of an agent of the old plan
  pub record IsLeftOf (i : ℕ) (k : Course) : Type 0 where
    pub course : Course
    pub track : Track
    pub is_course : course_of p i ≡ Some course
    pub is_track : track_of table i ≡ Some track
    pub tracked : IsTrackOf course track
    pub left : k ≡ left_course track (begun i) first course.acts
    pub early : moves_before track first ≤ begun i

  module _ (i : ℕ) (k : Course) (of : IsLeftOf i k) where
    stays-at : (t : ℕ) → moves_before of.track (first + t) ≤ begun i → position_at k t ≡ position_of (path_cell of.track (begun i))
    stays-at t few = ap (λ l. position_at l t) of.left ∙ left-waits of.course of.track of.tracked (begun i) first (most i of.track of.is_track) of.early t few

    goes-at : (t : ℕ) → begun i ≤ moves_before of.track (first + t) → position_at k t ≡ position_of (cell_at of.track (first + t))
    goes-at t many = ap (λ l. position_at l t) of.left ∙ left-goes of.course of.track of.tracked (begun i) first (most i of.track of.is_track) of.early t many

    place-at : (t : ℕ) → position_at k t ≡ position_of (path_cell of.track (gone t i))
    place-at t =
        let is = to-is i (first + t) of.track of.is_track in
        elim (cases_lt (begun i) (moves_to table i (first + t))) [
          | inl less ↦
              goes-at t (omega (arith, less, is)) ∙ ap position_of (sym (path-at of.track (first + t))) ∙ ap (λ n. position_of (path_cell of.track n)) (sym (gone-high t i less ∙ is))
          | inr few ↦ stays-at t (omega (arith, few, is)) ∙ ap (λ n. position_of (path_cell of.track n)) (sym (gone-low t i few))
        ]

    may-be : (t : ℕ) → MayBeIn table (gone t) (gone t) i (path_cell of.track (gone t i))
    may-be t =
        let is = to-is i (first + t) of.track of.is_track in
        let top = moves-most of.track.start of.track.later (first + t) in
        let within = most i of.track of.is_track in
        let long = length-path of.track.start of.track.later in
        let inside : gone t i < length (path of.track)
        = elim (cases_lt (begun i) (moves_to table i (first + t))) [
          | inl less ↦ (let e = gone-high t i less in omega (arith, e, is, top, long))
          | inr few ↦ (let e = gone-low t i few in omega (arith, e, within, long))
        ] in
        (of.track, gone t i, of.is_track, inside, refl, omega arith, omega arith)

    -- where it leads to another place, the old plan does so, so many steps later
    moves-on : (t : ℕ) → position_at k t ≢ position_at k (suc t) → (position_at k t ≡ position_of (cell_at of.track (first + t)))
        × (position_at k (suc t) ≡ position_of (cell_at of.track (suc (first + t))))
    moves-on t leaves =
        let further : first + suc t ≡ suc (first + t) = omega arith in
        let same : moves_before of.track (first + suc t) ≡ moves_before of.track (suc (first + t)) = ap (moves_before of.track) further in
        let next : moves_before of.track (suc (first + t)) ≤ moves_before of.track (first + t) + 1
        = elim (step-either of.track (first + t)) [ inl stays ↦ (let e = stays.1 in omega (arith, e)) | inr goes ↦ (let e = goes.1 in omega (arith, e)) ] in
        elim (cases_lt (begun i) (moves_before of.track (first + suc t))) [
          | inl more ↦ (goes-at t (omega (arith, more, same, next)), goes-at (suc t) (omega (arith, more)) ∙ ap (λ n. position_of (cell_at of.track n)) further)
          | inr few ↦
              (let rise = moves-rise of.track.start of.track.later (first + t) (first + suc t) (omega arith) in
              absurd (leaves (stays-at t (omega (arith, rise, few)) ∙ sym (stays-at (suc t) few))))
        ]

  -- no two are in one place
  one-each : (i j : ℕ) (k l : Course) → IsLeftOf i k → IsLeftOf j l → (t : ℕ) → position_at k t ≡ position_at l t → i ≡ j
  one-each i j k l of other t same =
      let cell : path_cell of.track (gone t i) ≡ path_cell other.track (gone t j)
      = same_place (path_cell of.track (gone t i)) (path_cell other.track (gone t j)) (sym (place-at i k of t) ∙ same ∙ place-at j l other t) in
      apart (gone t) (gone t) i j (path_cell other.track (gone t j)) (gone-met t) (subst (MayBeIn table (gone t) (gone t) i) cell (may-be i k of t)) (may-be j l other t)

  -- ---- the new plan

  module _ (left : Plan) (number : ℕ → ℕ) (each : (j : ℕ) (k : Course) → course_of left j ≡ Some k → (i : ℕ) × IsLeftOf i k × (number i ≡ j)) where
    good-start : (j : ℕ) → HasPlanFault m left (BadStart j) → ⊥
    good-start j fault =
        let found = some-found (course_of left j) (λ k. IsPassable m k.start → ⊥) fault in
        let old = each j found.0 found.1 in
        let of = old.1 in
        found.2 (subst (λ k. IsPassable m k.start) (sym of.left) (passable-path m p valid old.0 of.course of.track of.is_course of.tracked (begun old.0) (most old.0 of.track of.is_track)))

    good-move : (j step : ℕ) → HasPlanFault m left (BadMove j step) → ⊥
    good-move j step fault =
        let found = some-found (course_of left j) (λ k. IsBadMove m k step) fault in
        let k = found.0 in
        let old = each j k found.1 in
        let of = old.1 in
        let act = some-found (slice_get k.acts step) (λ a. (a ≢ Wait) × (IsLegal m (position_at k step) (position_at k (step + 1)) → ⊥)) found.2 in
        let one : step + 1 ≡ suc step = omega arith in
        let next = position-next (position_of k.start) k.acts step ∙ ap (λ a. moved a (position_at k step)) (act-there k.acts step act.0 act.1) in
        let leaves : position_at k step ≢ position_at k (suc step) = λ e. leads-away act.0 (position_at k step) (changes act.0 act.2.0) (sym next ∙ sym e) in
        let on = moves-on old.0 k of step leaves in
        legal-on m p valid old.0 of.course of.track of.is_course of.tracked (first + step) (λ e. leaves (on.0 ∙ e ∙ sym on.1))
        (λ legal. act.2.1 (subst (IsLegal m (position_at k step)) (sym (ap (position_at k) one ∙ on.1)) (subst (λ q. IsLegal m q (position_of (cell_at of.track (suc (first + step)))))
        (sym on.0) legal)))

    good-meeting : (j l time : ℕ) (c : Cell) → HasPlanFault m left (Vertex j l time c) → ⊥
    good-meeting j l time c fault =
        let here = some-found (course_of left j) (λ k. position_at k time ≡ position_of c) fault.1 in
        let there = some-found (course_of left l) (λ k. position_at k time ≡ position_of c) fault.2 in
        let old = each j here.0 here.1 in
        let other = each l there.0 there.1 in
        let same = one-each old.0 other.0 here.0 there.0 old.1 other.1 time (here.2 ∙ sym there.2) in
        let number_same : j ≡ l = sym old.2 ∙ ap number same ∙ other.2 in
        let less = fault.0 in
        omega (arith, number_same, less)

    good-pass : (j l step : ℕ) → HasPlanFault m left (Swap j l step) → ⊥
    good-pass j l step fault =
        let u = fault.1 in
        let v = fault.2 in
        let one : suc step ≡ step + 1 = omega arith in
        let from_j = some-found (course_of left j) (λ k. position_at k step ≡ u) fault.4 in
        let from_l = some-found (course_of left l) (λ k. position_at k step ≡ v) fault.6 in
        let k = from_j.0 in
        let o = from_l.0 in
        let to_j : position_at k (suc step) ≡ v = ap (position_at k) one ∙ subst (λ c. MatchOption c ⊥ (λ n. position_at n (step + 1) ≡ v)) from_j.1 fault.5 in
        let to_l : position_at o (suc step) ≡ u = ap (position_at o) one ∙ subst (λ c. MatchOption c ⊥ (λ n. position_at n (step + 1) ≡ u)) from_l.1 fault.7 in
        let old = each j k from_j.1 in
        let other = each l o from_l.1 in
        let t = first + step in
        let on_j = moves-on old.0 k old.1 step (λ e. fault.3 (sym from_j.2 ∙ e ∙ to_j)) in
        let on_l = moves-on other.0 o other.1 step (λ e. fault.3 (sym (sym from_l.2 ∙ e ∙ to_l))) in
        let a = old.1.track in
        let b = other.1.track in
        let after : suc t ≡ t + 1 = omega arith in
        let back : cell_at b t ≡ cell_at a (suc t) = same_place (cell_at b t) (cell_at a (suc t)) (sym on_l.0 ∙ from_l.2 ∙ sym to_j ∙ on_j.1) in
        let forth : cell_at b (suc t) ≡ cell_at a t = same_place (cell_at b (suc t)) (cell_at a t) (sym on_l.1 ∙ to_l ∙ sym from_j.2 ∙ on_j.0) in
        unswapped old.0 other.0 t (cell_at a t) (cell_at a (suc t)) (λ e. fault.3 (sym from_j.2 ∙ on_j.0 ∙ ap position_of e ∙ sym on_j.1 ∙ to_j))
        (stands-from table old.0 t (cell_at a t) a old.1.is_track refl) (stands-from table old.0 (t + 1) (cell_at a (suc t)) a old.1.is_track (ap (cell_at a) (sym after)))
        (stands-from table other.0 t (cell_at a (suc t)) b other.1.is_track back) (stands-from table other.0 (t + 1) (cell_at a t) b other.1.is_track (ap (cell_at b) (sym after) ∙ forth))

    pub left-valid : IsValid m left
    left-valid (BadStart j) fault = good-start j fault
    left-valid (BadMove j step) fault = good-move j step fault
    left-valid (Vertex j l time c) fault = good-meeting j l time c fault
    left-valid (Swap j l step) fault = good-pass j l step fault
    left-valid OutOfMemory fault = absurd fault
