-- Which agents the plan of what is left has, and from which step on.
use Rattle.std.proofs.Common.{◌≡◌, ◌≢◌, ◌∙◌, ℕ, zero, suc, ◌+◌, ◌-◌, ◌<◌, ◌≤◌, List, [], ◌∷◌, ◌++◌, length, length-append, true, false, Some, None, inl, inr, refl, ap, sym, subst, arith}
use Rattle.std.specs.Prelude.{◌⊎◌, min, nat_lt, Option, unwrap_or, slice_get}
use Rattle.std.proofs.lemmas.Bool.{cases_Bool, cases_lt, cond-true, cond-false, eq-eqb, eqb-true, le-ltb, lt-ltb, true≢false}
use Rattle.std.proofs.lemmas.Option.{none-some, same_Some, slice_get_within}
use Rattle.model.specs.Laws.Tracks.{moves-most, moves-rise}
use Rattle.model.specs.Laws.Waits.{moves-at}
use Rattle.model.specs.Plan.{AreTracksOf, Course, IsTrackOf, Plan, course_of}
use Rattle.model.specs.Timetable.{Track, Timetable, moves, moves_before, step_of, track_of}
use Rattle.fleet_commands.specs.FoundTapes.{Found, begun_by}
use Rattle.fleet_commands.specs.LeftPlan.{first_step, is_left_out, left_course, left_courses, left_courses_by, left_plan, next_step, soonest_of, sooner_step, step_ahead}
use Rattle.fleet_commands.specs.LeftWays.{number_before, number_left}
use Rattle.fleet_commands.specs.Turns.{in_turn}
use Rattle.fleet_commands.proofs.LineLemmas.{turn-more}
use Rattle.fleet_commands.proofs.StandingLemmas.{track-there}

-- ---- what comes of numbers in turn

pub turn-suc : {A : Type 0} (f : ℕ → List A) (n : ℕ) → in_turn f (suc n) ≡ in_turn f n ++ f n
turn-suc f n = let same : suc n ≡ n + 1 = omega arith in ap (in_turn f) same ∙ turn-more f n

get-first : {A : Type 0} (xs ys : List A) (j : ℕ) (x : A) → slice_get xs j ≡ Some x → slice_get (xs ++ ys) j ≡ Some x
get-first [] ys j x there = absurd (none-some x there)
get-first (y ∷ xs) ys zero x there = there
get-first (y ∷ xs) ys (suc j) x there = get-first xs ys j x there

get-behind : {A : Type 0} (xs : List A) (x : A) → slice_get (xs ++ x ∷ []) (length xs) ≡ Some x
get-behind [] x = refl
get-behind (y ∷ xs) x = get-behind xs x

get-either : {A : Type 0} (xs ys : List A) (j : ℕ) (x : A) → slice_get (xs ++ ys) j ≡ Some x → (slice_get xs j ≡ Some x) ⊎ ((k : ℕ) × (j ≡ length xs + k) × (slice_get ys k ≡ Some x))
get-either [] ys j x there = inr (j, omega arith, there)
get-either (y ∷ xs) ys zero x there = inl there
get-either (y ∷ xs) ys (suc j) x there = elim (get-either xs ys j x there) [ inl before ↦ inl before | inr behind ↦ (let at = behind.1 in inr (behind.0, omega (arith, at), behind.2)) ]

-- what a number gives stands behind what those before it give
pub turn-there : {A : Type 0} (f : ℕ → List A) (n i : ℕ) (x : A) → i < n → f i ≡ x ∷ [] → slice_get (in_turn f n) (length (in_turn f i)) ≡ Some x
turn-there f zero i x less is = absurd (omega (arith, less))
turn-there f (suc n) i x less is = elim (cases_lt i n) [
  | inl before ↦
      subst (λ l. slice_get l (length (in_turn f i)) ≡ Some x) (sym (turn-suc f n)) (get-first (in_turn f n) (f n) (length (in_turn f i)) x (turn-there f n i x before is))
  | inr past ↦
      (let same : i ≡ n = omega (arith, less, past) in
      subst (λ k. slice_get (in_turn f (suc n)) (length (in_turn f k)) ≡ Some x) (sym same)
      (subst (λ l. slice_get l (length (in_turn f n)) ≡ Some x) (sym (turn-suc f n ∙ ap (λ l. in_turn f n ++ l) (ap f (sym same) ∙ is))) (get-behind (in_turn f n) x)))
]

-- and nothing else stands there, where each number gives one at the most
pub turn-from : {A : Type 0} (f : ℕ → List A) → ((i : ℕ) → (f i ≡ []) ⊎ ((x : A) × (f i ≡ x ∷ []))) → (n j : ℕ) (x : A) → slice_get (in_turn f n) j ≡ Some x
    → (i : ℕ) × (i < n) × (f i ≡ x ∷ []) × (length (in_turn f i) ≡ j)
turn-from {A} f few zero j x there = absurd (none-some x there)
turn-from {A} f few (suc n) j x there = elim (get-either (in_turn f n) (f n) j x (subst (λ l. slice_get l j ≡ Some x) (turn-suc f n) there)) [
  | inl before ↦ (let old = turn-from f few n j x before in let less = old.1 in (old.0, omega (arith, less), old.2, old.3))
  | inr behind ↦
      elim (few n) [
        | inl none ↦ absurd (none-some x (subst (λ l. slice_get l behind.0 ≡ Some x) none behind.2))
        | inr one ↦ alone behind.0 behind.1 one.0 one.1 (subst (λ l. slice_get l behind.0 ≡ Some x) one.1 behind.2)
      ]
]
  where
    alone : (k : ℕ) → j ≡ length (in_turn f n) + k → (y : A) → (f n ≡ y ∷ []) → slice_get (y ∷ []) k ≡ Some x → (i : ℕ) × (i < suc n) × (f i ≡ x ∷ []) × (length (in_turn f i) ≡ j)
    alone zero at y is there = (n, omega arith, is ∙ ap (λ z. z ∷ []) (same_Some y x there), omega (arith, at))
    alone (suc k) at y is there = absurd (none-some x there)

-- ---- numbers of agents

out-itself : (out i : ℕ) → is_left_out (Some out) i ≡ false → i ≢ out
out-itself out i kept same = true≢false (sym (eq-eqb out i (sym same)) ∙ kept)

pub before-left : (without : Option ℕ) (i : ℕ) → is_left_out without i ≡ false → number_before without (number_left without i) ≡ i
before-left None i kept = refl
before-left (Some out) i kept = elim (cases_lt out i) [
  | inl behind ↦
      (let number = cond-true (nat_lt out i) (i - 1) i (lt-ltb out i behind) in
      let past = cond-false (nat_lt (i - 1) out) (i - 1) (i - 1 + 1) (le-ltb (i - 1) out (omega (arith, behind))) in
      ap (number_before (Some out)) number ∙ past ∙ omega (arith, behind))
  | inr front ↦
      (let apart = out-itself out i kept in
      let less : i < out = elim (cases_lt i out) [ inl less ↦ less | inr past ↦ absurd (apart (omega (arith, front, past))) ] in
      let number = cond-false (nat_lt out i) (i - 1) i (le-ltb out i front) in
      ap (number_before (Some out)) number ∙ cond-true (nat_lt i out) i (i + 1) (lt-ltb i out less))
]

pub before-rises : (without : Option ℕ) (i j : ℕ) → i ≤ j → number_before without i ≤ number_before without j
before-rises None i j order = order
before-rises (Some out) i j order = elim (cases_lt i out) [
  | inl less ↦
      (let first = cond-true (nat_lt i out) i (i + 1) (lt-ltb i out less) in
      elim (cases_lt j out) [
        | inl also ↦ (let second = cond-true (nat_lt j out) j (j + 1) (lt-ltb j out also) in omega (arith, first, second, order))
        | inr past ↦ (let second = cond-false (nat_lt j out) j (j + 1) (le-ltb j out past) in omega (arith, first, second, order))
      ])
  | inr past ↦
      (let first = cond-false (nat_lt i out) i (i + 1) (le-ltb i out past) in
      let second = cond-false (nat_lt j out) j (j + 1) (le-ltb j out (omega (arith, past, order))) in
      omega (arith, first, second, order))
]

pub before-once : (without : Option ℕ) (i j : ℕ) → number_before without i ≡ number_before without j → i ≡ j
before-once None i j same = same
before-once (Some out) i j same = elim (cases_lt i out) [
  | inl less ↦
      (let first = cond-true (nat_lt i out) i (i + 1) (lt-ltb i out less) in
      elim (cases_lt j out) [
        | inl also ↦ (let second = cond-true (nat_lt j out) j (j + 1) (lt-ltb j out also) in omega (arith, first, second, same))
        | inr past ↦ (let second = cond-false (nat_lt j out) j (j + 1) (le-ltb j out past) in absurd (omega (arith, first, second, same, less, past)))
      ])
  | inr past ↦
      (let first = cond-false (nat_lt i out) i (i + 1) (le-ltb i out past) in
      elim (cases_lt j out) [
        | inl less ↦ (let second = cond-true (nat_lt j out) j (j + 1) (lt-ltb j out less) in absurd (omega (arith, first, second, same, less, past)))
        | inr also ↦ (let second = cond-false (nat_lt j out) j (j + 1) (le-ltb j out also) in omega (arith, first, second, same))
      ])
]

-- ---- courses and tracks

pub record HasCourse (courses : List Course) (track : Track) (i : ℕ) : Type 0 where
  pub course : Course
  pub there : slice_get courses i ≡ Some course
  pub is : IsTrackOf course track

pub course-of : (courses : List Course) (tracks : List Track) → AreTracksOf courses tracks → (i : ℕ) (track : Track) → slice_get tracks i ≡ Some track → HasCourse courses track i
course-of [] tracks are i track there = absurd (none-some track (subst (λ l. slice_get l i ≡ Some track) are there))
course-of (first ∷ courses) tracks are i track there = at i (subst (λ l. slice_get l i ≡ Some track) are.2 there) (course-of courses are.1 are.4)
  where
    at : (i : ℕ) → slice_get (are.0 ∷ are.1) i ≡ Some track → ((i : ℕ) (track : Track) → slice_get are.1 i ≡ Some track → HasCourse courses track i) → HasCourse (first ∷ courses) track i
    at zero there others = record { course = first; there = refl; is = subst (IsTrackOf first) (same_Some are.0 track there) are.3 }
    at (suc i) there others = (let rest = others i track there in record { course = rest.course; there = rest.there; is = rest.is })

pub record HasTrack (tracks : List Track) (course : Course) (i : ℕ) : Type 0 where
  pub track : Track
  pub there : slice_get tracks i ≡ Some track
  pub is : IsTrackOf course track

pub track-of : (courses : List Course) (tracks : List Track) → AreTracksOf courses tracks → (i : ℕ) (course : Course) → slice_get courses i ≡ Some course → HasTrack tracks course i
track-of [] tracks are i course there = absurd (none-some course there)
track-of (first ∷ courses) tracks are i course there =
    let found = at i there (track-of courses are.1 are.4) in
    record { track = found.track; there = ap (λ l. slice_get l i) are.2 ∙ found.there; is = found.is }
  where
    at : (i : ℕ) → slice_get (first ∷ courses) i ≡ Some course → ((i : ℕ) (course : Course) → slice_get courses i ≡ Some course → HasTrack are.1 course i) → HasTrack (are.0 ∷ are.1) course i
    at zero there others = record { track = are.0; there = refl; is = subst (λ k. IsTrackOf k are.0) (same_Some first course there) are.3 }
    at (suc i) there others = (let rest = others i course there in record { track = rest.track; there = rest.there; is = rest.is })

-- ---- the first step

sooner-first : (a b : Option ℕ) (s : ℕ) → a ≡ Some s → (v : ℕ) × (sooner_step a b ≡ Some v) × (v ≤ s)
sooner-first None b s is = absurd (none-some s is)
sooner-first (Some x) None s is = (x, refl, (let e = same_Some x s is in omega (arith, e)))
sooner-first (Some x) (Some y) s is = (min x y, refl, (let e = same_Some x s is in omega (arith, e)))

sooner-second : (a b : Option ℕ) (s : ℕ) → b ≡ Some s → (v : ℕ) × (sooner_step a b ≡ Some v) × (v ≤ s)
sooner-second None b s is = (s, is, omega arith)
sooner-second (Some x) None s is = absurd (none-some s is)
sooner-second (Some x) (Some y) s is = (min x y, refl, (let e = same_Some y s is in omega (arith, e)))

soonest-least : (next : ℕ → Option ℕ) (n i s : ℕ) → i < n → next i ≡ Some s → (v : ℕ) × (soonest_of next n ≡ Some v) × (v ≤ s)
soonest-least next zero i s less is = absurd (omega (arith, less))
soonest-least next (suc n) i s less is = elim (cases_lt i n) [
  | inl before ↦
      (let old = soonest-least next n i s before is in
      let most = old.2 in
      let now = sooner-first (soonest_of next n) (next n) old.0 old.1 in
      let also = now.2 in
      (now.0, now.1, omega (arith, most, also)))
  | inr past ↦ (let same : i ≡ n = omega (arith, less, past) in sooner-second (soonest_of next n) (next n) s (ap next (sym same) ∙ is))
]

-- before it nobody makes a move that isn't begun
pub first-early : (tt : Timetable) (found : List Found) (without : Option ℕ) (i : ℕ) (track : Track) → is_left_out without i ≡ false → track_of tt i ≡ Some track
    → moves_before track (first_step tt found without) ≤ begun_by found i
first-early tt found without i track kept there =
    let begun = begun_by found i in
    let first = first_step tt found without in
    let top = moves-most track.start track.later first in
    elim (cases_lt begun (moves track)) [
      | inr all ↦ omega (arith, top, all)
      | inl less ↦
          (let next : next_step tt found without i ≡ Some (step_of track begun)
          = cond-false (is_left_out without i) None (step_ahead begun (track_of tt i)) kept ∙ ap (step_ahead begun) there
          ∙ cond-true (nat_lt begun (moves track)) (Some (step_of track begun)) None (lt-ltb begun (moves track) less) in
          let least = soonest-least (next_step tt found without) (length tt.tracks) i (step_of track begun) (slice_get_within tt.tracks i track there) next in
          let is : first ≡ least.0 = ap (λ o. unwrap_or o 0) least.1 in
          let soon = least.2 in
          let rise = moves-rise track.start track.later first (step_of track begun) (omega (arith, is, soon)) in
          let at = moves-at track begun less in
          omega (arith, rise, at))
    ]

-- ---- the courses of the new plan

module _ (p : Plan) (tt : Timetable) (are : AreTracksOf p.courses tt.tracks) (found : List Found) (without : Option ℕ) where
  abbrev Left : ℕ → List Course
  Left = left_courses p tt found without

  pub left-one : (i : ℕ) (track : Track) (course : Course) → is_left_out without i ≡ false → track_of tt i ≡ Some track → course_of p i ≡ Some course
      → Left i ≡ left_course track (begun_by found i) (first_step tt found without) course.acts ∷ []
  left-one i track course kept there has =
      let begun = begun_by found i in
      let first = first_step tt found without in
      cond-false (is_left_out without i) [] (left_courses_by begun first (track_of tt i) (course_of p i)) kept ∙ ap (λ o. left_courses_by begun first o (course_of p i)) there
      ∙ ap (left_courses_by begun first (Some track)) has

  pub left-none : (i : ℕ) → is_left_out without i ≡ true → Left i ≡ []
  left-none i out = cond-true (is_left_out without i) [] (left_courses_by (begun_by found i) (first_step tt found without) (track_of tt i) (course_of p i)) out

  -- An agent of the new plan is one of the old.
  pub record IsFrom (i : ℕ) (k : Course) : Type 0 where
    pub course : Course
    pub track : Track
    pub kept : is_left_out without i ≡ false
    pub is_course : course_of p i ≡ Some course
    pub is_track : track_of tt i ≡ Some track
    pub tracked : IsTrackOf course track
    pub left : k ≡ left_course track (begun_by found i) (first_step tt found without) course.acts

  one-or-none : (i : ℕ) → (Left i ≡ []) ⊎ ((k : Course) × (Left i ≡ k ∷ []))
  one-or-none i = elim (cases_Bool (is_left_out without i)) [
    | inl out ↦ inl (left-none i out)
    | inr kept ↦ by (track_of tt i) (course_of p i) (cond-false (is_left_out without i) [] (left_courses_by (begun_by found i) (first_step tt found without) (track_of tt i) (course_of p i)) kept)
  ]
    where
      by : (t : Option Track) (c : Option Course) → Left i ≡ left_courses_by (begun_by found i) (first_step tt found without) t c → (Left i ≡ []) ⊎ ((k : Course) × (Left i ≡ k ∷ []))
      by t None is = inl is
      by None (Some course) is = inl is
      by (Some track) (Some course) is = inr (left_course track (begun_by found i) (first_step tt found without) course.acts, is)

  -- how many courses come of the agents before one
  count-left : (i : ℕ) → i ≤ length tt.tracks → length (in_turn Left i) ≡ number_left without i
  count-left zero within = by without
    where
      by : (w : Option ℕ) → 0 ≡ number_left w 0
      by None = refl
      by (Some out) = sym (cond-false (nat_lt out 0) (0 - 1) 0 (le-ltb out 0 (omega arith)))
  count-left (suc i) within =
      let before = count-left i (omega (arith, within)) in
      let more = ap length (turn-suc Left i) ∙ length-append (in_turn Left i) (Left i) in
      elim (cases_Bool (is_left_out without i)) [
        | inl out ↦ (let none = ap length (left-none i out) in let same = passed without i out in omega (arith, before, more, none, same))
        | inr kept ↦
            (let track = there i (omega (arith, within)) in
            let course = course-of p.courses tt.tracks are i track.0 track.1 in
            let one = ap length (left-one i track.0 course.course kept track.1 course.there) in
            let next = stepped without i kept in
            omega (arith, before, more, one, next))
      ]
    where
      there : (i : ℕ) → i < length tt.tracks → (track : Track) × (track_of tt i ≡ Some track)
      there i less = track-there tt i less

      passed : (w : Option ℕ) (i : ℕ) → is_left_out w i ≡ true → number_left w (suc i) ≡ number_left w i
      passed None i out = absurd (true≢false (sym out))
      passed (Some out) i is =
          let same : out ≡ i = eqb-true out i is in
          let next = cond-true (nat_lt out (suc i)) (suc i - 1) (suc i) (lt-ltb out (suc i) (omega (arith, same))) in
          let own = cond-false (nat_lt out i) (i - 1) i (le-ltb out i (omega (arith, same))) in
          omega (arith, next, own)

      stepped : (w : Option ℕ) (i : ℕ) → is_left_out w i ≡ false → number_left w (suc i) ≡ number_left w i + 1
      stepped None i kept = omega arith
      stepped (Some out) i kept = elim (cases_lt out i) [
        | inl behind ↦
            (let next = cond-true (nat_lt out (suc i)) (suc i - 1) (suc i) (lt-ltb out (suc i) (omega (arith, behind))) in
            let own = cond-true (nat_lt out i) (i - 1) i (lt-ltb out i behind) in
            omega (arith, next, own, behind))
        | inr front ↦
            (let apart = out-itself out i kept in
            let less : i < out = elim (cases_lt i out) [ inl less ↦ less | inr past ↦ absurd (apart (omega (arith, front, past))) ] in
            let next = cond-false (nat_lt out (suc i)) (suc i - 1) (suc i) (le-ltb out (suc i) (omega (arith, less))) in
            let own = cond-false (nat_lt out i) (i - 1) i (le-ltb out i front) in
            omega (arith, next, own))
      ]

  -- where a kept agent stands in the new plan
  pub course-left : (number i : ℕ) (track : Track) → is_left_out without i ≡ false → track_of tt i ≡ Some track
      → (k : Course) × (course_of (left_plan p tt found without number) (number_left without i) ≡ Some k) × IsFrom i k
  course-left number i track kept there =
      let inside = slice_get_within tt.tracks i track there in
      let course = course-of p.courses tt.tracks are i track there in
      let k = left_course track (begun_by found i) (first_step tt found without) course.course.acts in
      let at = turn-there Left (length tt.tracks) i k inside (left-one i track course.course kept there course.there) in (
        k,
        subst (λ n. slice_get (in_turn Left (length tt.tracks)) n ≡ Some k) (count-left i (omega (arith, inside))) at,
        record { course = course.course; track = track; kept = kept; is_course = course.there; is_track = there; tracked = course.is; left = refl },
      )

  -- and that nobody else does
  pub course-from : (number j : ℕ) (k : Course) → course_of (left_plan p tt found without number) j ≡ Some k → (i : ℕ) × IsFrom i k × (number_left without i ≡ j)
  course-from number j k there =
      let old = turn-from Left one-or-none (length tt.tracks) j k there in
      let i = old.0 in
      let less = old.1 in
      let track = track-there tt i less in
      let course = course-of p.courses tt.tracks are i track.0 track.1 in
      let kept = elim (cases_Bool (is_left_out without i)) as (λ x. is_left_out without i ≡ false) [
        | inl out ↦ absurd (let bad = ap length (sym (left-none i out) ∙ old.2) in omega (arith, bad))
        | inr kept ↦ kept
      ] in
      let is = head-same (sym old.2 ∙ left-one i track.0 course.course kept track.1 course.there) in (
        i,
        record { course = course.course; track = track.0; kept = kept; is_course = course.there; is_track = track.1; tracked = course.is; left = is },
        sym (count-left i (omega (arith, less))) ∙ old.3,
      )
    where
      head-same : {A : Type 0} {x y : A} → x ∷ [] ≡ y ∷ [] → x ≡ y
      head-same {A} {x} {y} e = same_Some x y (ap (λ l. slice_get l 0) e)
