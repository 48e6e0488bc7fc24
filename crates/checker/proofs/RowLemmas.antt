-- Who is under way in a block, and the rows of its acts.
use Rattle.std.proofs.Common.{◌≡◌, ◌≢◌, ℕ, zero, suc, ◌+◌, ◌-◌, ◌<◌, ◌≤◌, ◌⊎◌, Bool, true, false}
use Rattle.std.proofs.Common.{List, [], ◌∷◌, length, get_or, set, take, drop, replicate, Some}
use Rattle.std.proofs.Common.{arith, refl, sym, ap, subst, inl, inr, ◌∙◌}
use Rattle.std.specs.Prelude.{Contains, slice_get}
use Rattle.std.specs.List.{filter}
use Rattle.std.specs.List.Sorted.{IsPermutation}
use Rattle.std.proofs.lemmas.Bool.{cases_lt, cases_eq, cases_Bool, cond-true, cond-false, cond_both}
use Rattle.std.proofs.lemmas.List.{length-set, get_or-set_same, get_or-set_other, get_or_default, get_or-take, get_or-drop, length-replicate, get_or-replicate}
use Rattle.std.proofs.lemmas.List.Elements.{filter_passes, All-contains, Contains-get_or}
use Rattle.std.proofs.lemmas.List.Sorted.{Contains-permutation, IsPermutation-sym, length_permutation}
use Rattle.std.proofs.lemmas.List.Sums.{length-filter, count_by-le-length}
use Rattle.model.specs.declared.act.Act.{Act}
use Rattle.model.specs.declared.act.Act.TheVariants.{N, Wait}
use Rattle.model.specs.Plan.{Course}
use Rattle.checker.specs.declared.board.Square.{Square}
use Rattle.checker.specs.declared.crowd.Walker.{Walker}
use Rattle.checker.specs.Code.Walking.{has_act}
use Rattle.checker.specs.Code.Squares.{ground_in, mark_in, square_at, IsOfStep}
use Rattle.checker.specs.Code.Crowd.{walker_at, act_at, AreMarksOf}
use Rattle.checker.specs.Code.Blocks.{block_steps, group_size, row_of_step, AreGroupActs, IsStretch, IsHeldSquare, HasNoAct, HoldsSquares, IsLinedUp}

-- ---- held squares

-- the same of the first so many walkers
pub record IsHeldTo (courses : List Course) (step : ℕ) (walkers : List Walker) (old now : List Square) (n : ℕ) : Type 0 where
  pub count : length now ≡ length old
  pub held : (k : ℕ) → k < n → has_act courses step (walker_at walkers k).agent ≡ false → IsHeldSquare (square_at now (walker_at walkers k).place)
  pub others : (place : ℕ) → ((k : ℕ) × (k < n) × HasNoAct courses step walkers k place) ⊎ (square_at now place ≡ square_at old place)

pub held-none : (courses : List Course) (step : ℕ) (walkers : List Walker) (squares : List Square) → IsHeldTo courses step walkers squares squares 0
held-none courses step walkers squares = record { count = refl; held = λ k less. absurd (omega (arith, less)); others = λ place. inr refl }

-- a walker with an act holds nothing
pub held-on : (courses : List Course) (step : ℕ) (walkers : List Walker) (old now : List Square) (n : ℕ) → IsHeldTo courses step walkers old now n
    → has_act courses step (walker_at walkers n).agent ≡ true → IsHeldTo courses step walkers old now (n + 1)
held-on courses step walkers old now n h acts = record {
  count = h.count;
  held = λ k less none. elim (cases_lt k n) [
    | inl before ↦ h.held k before none
    | inr after ↦ (let same : k ≡ n = omega (arith, less, after) in
        let other : has_act courses step (walker_at walkers k).agent ≡ true = ap (λ i. has_act courses step (walker_at walkers i).agent) same ∙ acts in cc)
  ];
  others = λ place. elim (h.others place) [ inl (k, less, over) ↦ inl (k, omega (arith, less), over) | inr same ↦ inr same ];
}

pub held-more : (courses : List Course) (step : ℕ) (walkers : List Walker) (old now : List Square) (n : ℕ) (square : Square) → IsHeldTo courses step walkers old now n
    → (walker_at walkers n).place < length old → has_act courses step (walker_at walkers n).agent ≡ false → IsHeldSquare square
    → IsHeldTo courses step walkers old (set now (walker_at walkers n).place square) (n + 1)
held-more courses step walkers old now n square h within over is =
    let own = (walker_at walkers n).place in
    let count = h.count in
    let here : IsHeldSquare (square_at (set now own square) own) =
    subst IsHeldSquare (sym (get_or-set_same now own square (record { code = 0 }) (omega (arith, within, count)))) is in
    let there : (place : ℕ) → place ≢ own → square_at (set now own square) place ≡ square_at now place = λ place apart.
    get_or-set_other now own place square (record { code = 0 }) apart in
    record {
      count = length-set now own square ∙ count;
      held = λ k less none. elim (cases_eq (walker_at walkers k).place own) [
        | inl one ↦ subst (λ p. IsHeldSquare (square_at (set now own square) p)) (sym one) here
        | inr apart ↦ elim (cases_lt k n) [
          | inl before ↦ subst IsHeldSquare (sym (there (walker_at walkers k).place apart)) (h.held k before none)
          | inr after ↦ (let same : k ≡ n = omega (arith, less, after) in absurd (apart (ap (λ i. (walker_at walkers i).place) same)))
        ]
      ];
      others = λ place. elim (cases_eq place own) [
        | inl one ↦ inl (n, omega arith, (over, sym one))
        | inr apart ↦ elim (h.others place) [
          | inl (k, less, is) ↦ inl (k, omega (arith, less), is)
          | inr kept ↦ inr (there place apart ∙ kept)
        ]
      ];
    }

-- ---- what a square is after the walkers without an act hold theirs

pub held_or_kept : (courses : List Course) (step : ℕ) (walkers : List Walker) (old new : List Square) → HoldsSquares courses step walkers old new
    → (place : ℕ) → (ground_in (square_at new place) ≡ 3) ⊎ (ground_in (square_at new place) ≡ ground_in (square_at old place))
held_or_kept courses step walkers old new h place = elim (h.others place) [
  | inl (k, less, (over, at)) ↦ inl (ap (λ p. ground_in (square_at new p)) (sym at) ∙ (h.held k less over).ground)
  | inr same ↦ inr (ap ground_in same)
]

-- the marks that are left are those of walkers that go on
pub marks-lined : (courses : List Course) (step first : ℕ) (old new : List Walker) (squares after : List Square) → HoldsSquares courses step old squares after
    → IsLinedUp courses step old new → AreMarksOf first old squares → AreMarksOf first new after
marks-lined courses step first old new squares after held lined marks place = elim (held.others place) [
  | inl (k, less, (over, at)) ↦ inl (ap (λ p. mark_in (square_at after p)) (sym at) ∙ (held.held k less over).unmarked)
  | inr same ↦ elim (marks place) [
    | inl none ↦ inl (ap mark_in same ∙ none)
    | inr (of, (k, less, at)) ↦ elim (cases_Bool (has_act courses step (walker_at old k).agent)) [
      | inl acts ↦ (let to = lined.all k less acts in
          inr (subst (IsOfStep first) (sym (ap mark_in same)) of, (to.0, to.1, ap (λ w. w.place) to.2 ∙ at)))
      | inr over ↦ inl (ap (λ p. mark_in (square_at after p)) (sym at) ∙ (held.held k less over).unmarked)
    ]
  ]
]

-- ---- walkers that are kept, in another order

Contains-kept : {X : Type 0} (test : X → Bool) (xs : List X) (x : X) → Contains xs x → test x ≡ true → Contains (filter test xs) x
Contains-kept test [] x h passes = absurd (let none = h.1 in omega (arith, none))
Contains-kept test (y ∷ xs) x (zero, less, is) passes =
    subst (λ l. Contains l x) (sym (cond-true (test y) _ _ (ap test is ∙ passes))) (0, omega arith, is)
Contains-kept test (y ∷ xs) x (suc k, less, is) passes =
    cond_both (test y) (y ∷ filter test xs) (filter test xs) (λ l. Contains l x)
    (λ e. (let rest = Contains-kept test xs x (k, omega (arith, less), is) passes in (suc rest.0, (let r = rest.1 in omega (arith, r)), rest.2)))
    (λ e. Contains-kept test xs x (k, omega (arith, less), is) passes)

Contains-cons : {X : Type 0} (y x : X) (xs : List X) → Contains xs x → Contains (y ∷ xs) x
Contains-cons y x xs (k, less, is) = (suc k, omega (arith, less), is)

Contains-split : {X : Type 0} (y x : X) (xs : List X) → Contains (y ∷ xs) x → (y ≡ x) ⊎ Contains xs x
Contains-split y x xs (zero, less, is) = inl is
Contains-split y x xs (suc k, less, is) = inr (k, omega (arith, less), is)

Contains-was : {X : Type 0} (test : X → Bool) (xs : List X) (x : X) → Contains (filter test xs) x → Contains xs x
Contains-was test [] x h = h
Contains-was test (y ∷ xs) x h = elim (cases_Bool (test y)) [
  | inl passes ↦ elim (Contains-split y x (filter test xs) (subst (λ l. Contains l x) (cond-true (test y) _ _ passes) h)) [
    | inl is ↦ (0, omega arith, is)
    | inr later ↦ Contains-cons y x xs (Contains-was test xs x later)
  ]
  | inr fails ↦ Contains-cons y x xs (Contains-was test xs x (subst (λ l. Contains l x) (cond-false (test y) _ _ fails) h))
]

-- where a walker of a list stands in it
place_in_list : (walkers : List Walker) (w : Walker) → Contains walkers w → (k : ℕ) × (k < length walkers) × (w ≡ walker_at walkers k)
place_in_list walkers w (k, less, is) = (k, less, sym is ∙ get_or_default walkers k w (record { place = 0; ground = 0; agent = 0 }) less)

pub lined-up : (courses : List Course) (step : ℕ) (old kept new : List Walker) → kept ≡ filter (λ w. has_act courses step w.agent) old → IsPermutation kept new
    → IsLinedUp courses step old new
lined-up courses step old kept new is moved = record {
  each = λ k less. (
      let w = walker_at new k in
      let among : Contains kept w = Contains-permutation new kept w (IsPermutation-sym kept new moved) (Contains-get_or new k (record { place = 0; ground = 0; agent = 0 }) less) in
      let among_kept = subst (λ l. Contains l w) is among in
      let at = place_in_list old w (Contains-was test old w among_kept) in
      (at.0, at.1, at.2, All-contains (λ x. test x ≡ true) (filter test old) w (filter_passes test old) among_kept)
      );
  all = λ j less acts. (
      let w = walker_at old j in
      let among = subst (λ l. Contains l w) (sym is) (Contains-kept test old w (Contains-get_or old j (record { place = 0; ground = 0; agent = 0 }) less) acts) in
      let at = place_in_list new w (Contains-permutation kept new w moved among) in
      (at.0, at.1, sym at.2)
      );
  fewer = (
      let few = length-filter test old in
      let most = count_by-le-length test old in
      let same = ap length is in
      let moves = length_permutation kept new moved in
      omega (arith, few, most, same, moves)
      );
} where
  test : Walker → Bool
  test w = has_act courses step w.agent

-- ---- a row of acts

-- the row after the first so many stretches
pub record IsFilledTo (stretches : List (List Act)) (step first : ℕ) (old now : List Act) (n : ℕ) : Type 0 where
  pub count : length now ≡ length old
  pub before : (k : ℕ) → k < first → act_at now k ≡ act_at old k
  pub own : (k : ℕ) → k < n → act_at now (first + k) ≡ act_at (get_or stretches k []) step

pub filled-none : (stretches : List (List Act)) (step first : ℕ) (row : List Act) → IsFilledTo stretches step first row row 0
filled-none stretches step first row = record { count = refl; before = λ k less. refl; own = λ k less. absurd (omega (arith, less)) }

pub filled-more : (stretches : List (List Act)) (step first : ℕ) (old now : List Act) (n : ℕ) (act : Act) → IsFilledTo stretches step first old now n
    → first + n < length old → act ≡ act_at (get_or stretches n []) step → IsFilledTo stretches step first old (set now (first + n) act) (n + 1)
filled-more stretches step first old now n act h within is =
    let count = h.count in
    let other : (k : ℕ) → k ≢ first + n → act_at (set now (first + n) act) k ≡ act_at now k = λ k apart. get_or-set_other now (first + n) k act N apart in
    record {
      count = length-set now (first + n) act ∙ count;
      before = λ k less. other k (λ e. omega (arith, less, e)) ∙ h.before k less;
      own = λ k less. elim (cases_lt k n) [
        | inl earlier ↦ other (first + k) (λ e. omega (arith, earlier, e)) ∙ h.own k earlier
        | inr later ↦ (let same : k ≡ n = omega (arith, less, later) in
            subst (λ i. act_at (set now (first + n) act) (first + i) ≡ act_at (get_or stretches i []) step) (sym same)
            (get_or-set_same now (first + n) act N (omega (arith, within, count)) ∙ is))
      ];
    }

-- ---- the rows of a group

-- each of the first so many walkers has its stretch
abbrev pub AreFetched : List Course → ℕ → List Walker → List (List Act) → ℕ → Type 0
AreFetched courses step group stretches n =
    (k : ℕ) (course : Course) → k < n → slice_get courses (walker_at group k).agent ≡ Some course → IsStretch course.acts step (get_or stretches k [])

-- a stretch for each walker of the largest group
pub record AreStretches (stretches : List (List Act)) : Type 0 where
  pub count : length stretches ≡ group_size
  pub each : (k : ℕ) → k < group_size → length (get_or stretches k []) ≡ block_steps

pub stretches-none : AreStretches (replicate group_size (replicate block_steps Wait))
stretches-none = record {
  count = length-replicate group_size (replicate block_steps Wait);
  each = λ k less. ap length (get_or-replicate group_size k (replicate block_steps Wait) [] less) ∙ length-replicate block_steps Wait;
}

pub stretches-more : (stretches : List (List Act)) (n : ℕ) (stretch : List Act) → AreStretches stretches → length stretch ≡ block_steps
    → AreStretches (set stretches n stretch)
stretches-more stretches n stretch h long = record {
  count = length-set stretches n stretch ∙ h.count;
  each = λ k less. elim (cases_eq k n) [
    | inl same ↦ (let count = h.count in
        subst (λ i. length (get_or (set stretches n stretch) i []) ≡ block_steps) (sym same)
        (ap length (get_or-set_same stretches n stretch [] (omega (arith, less, same, count))) ∙ long))
    | inr apart ↦ ap length (get_or-set_other stretches n k stretch [] apart) ∙ h.each k less
  ];
}

pub fetched-more : (courses : List Course) (step : ℕ) (group : List Walker) (stretches : List (List Act)) (n : ℕ) (own : Course) (stretch : List Act)
    → AreFetched courses step group stretches n → n < length stretches → IsStretch own.acts step stretch
    → slice_get courses (walker_at group n).agent ≡ Some own → AreFetched courses step group (set stretches n stretch) (n + 1)
fetched-more courses step group stretches n own stretch h within is there k course less at = elim (cases_lt k n) [
  | inl earlier ↦ subst (IsStretch course.acts step) (sym (get_or-set_other stretches n k stretch [] (λ e. omega (arith, earlier, e)))) (h k course earlier at)
  | inr later ↦ (
      let same : k ≡ n = omega (arith, less, later) in
      let here = subst (λ i. slice_get courses (walker_at group i).agent ≡ Some course) same at in
      let one : own ≡ course = cc in
      subst (λ i. IsStretch course.acts step (get_or (set stretches n stretch) i [])) (sym same)
      (subst (IsStretch course.acts step) (sym (get_or-set_same stretches n stretch [] within)) (subst (λ c. IsStretch c.acts step stretch) one is))
      )
]

-- the rows after the first so many steps
pub record ArePutTo (stretches : List (List Act)) (count first : ℕ) (old now : List (List Act)) (n : ℕ) : Type 0 where
  pub steps : length now ≡ length old
  pub sizes : (s : ℕ) → length (row_of_step now s) ≡ length (row_of_step old s)
  pub before : (s k : ℕ) → k < first → act_at (row_of_step now s) k ≡ act_at (row_of_step old s) k
  pub own : (s k : ℕ) → s < n → k < count → act_at (row_of_step now s) (first + k) ≡ act_at (get_or stretches k []) s

pub put-none : (stretches : List (List Act)) (count first : ℕ) (rows : List (List Act)) → ArePutTo stretches count first rows rows 0
put-none stretches count first rows = record {
  steps = refl;
  sizes = λ s. refl;
  before = λ s k less. refl;
  own = λ s k less. absurd (omega (arith, less));
}

pub put-more : (stretches : List (List Act)) (count first : ℕ) (old now : List (List Act)) (n : ℕ) (row : List Act) → ArePutTo stretches count first old now n
    → n < length old → length row ≡ length (row_of_step now n) → ((k : ℕ) → k < first → act_at row k ≡ act_at (row_of_step now n) k)
    → ((k : ℕ) → k < count → act_at row (first + k) ≡ act_at (get_or stretches k []) n) → ArePutTo stretches count first old (set now n row) (n + 1)
put-more stretches count first old now n row h within size kept puts =
    let steps = h.steps in
    let here : row_of_step (set now n row) n ≡ row = get_or-set_same now n row [] (omega (arith, within, steps)) in
    let there : (s : ℕ) → s ≢ n → row_of_step (set now n row) s ≡ row_of_step now s = λ s apart. get_or-set_other now n s row [] apart in
    record {
      steps = length-set now n row ∙ steps;
      sizes = λ s. elim (cases_eq s n) [
        | inl one ↦ subst (λ i. length (row_of_step (set now n row) i) ≡ length (row_of_step old i)) (sym one) (ap length here ∙ size ∙ h.sizes n)
        | inr apart ↦ ap length (there s apart) ∙ h.sizes s
      ];
      before = λ s k less. elim (cases_eq s n) [
        | inl one ↦ subst (λ i. act_at (row_of_step (set now n row) i) k ≡ act_at (row_of_step old i) k) (sym one)
            (ap (λ r. act_at r k) here ∙ kept k less ∙ h.before n k less)
        | inr apart ↦ ap (λ r. act_at r k) (there s apart) ∙ h.before s k less
      ];
      own = λ s k less among. elim (cases_lt s n) [
        | inl earlier ↦ ap (λ r. act_at r (first + k)) (there s (λ e. omega (arith, earlier, e))) ∙ h.own s k earlier among
        | inr later ↦ (let one : s ≡ n = omega (arith, less, later) in
            subst (λ i. act_at (row_of_step (set now n row) i) (first + k) ≡ act_at (get_or stretches k []) i) (sym one)
            (ap (λ r. act_at r (first + k)) here ∙ puts k among))
      ];
    }

pub group-turned : (courses : List Course) (step : ℕ) (group : List Walker) (stretches : List (List Act)) (first : ℕ) (old now : List (List Act))
    → AreStretches stretches → length group ≤ group_size → AreFetched courses step group stretches (length group)
    → ArePutTo stretches (length group) first old now block_steps → AreGroupActs courses step group first now
group-turned courses step group stretches first old now are few fetched put s k course less among at =
    let stretch = get_or stretches k [] in
    let long = are.each k (omega (arith, among, few)) in
    put.own s k less among ∙ get_or_default stretch s N Wait (omega (arith, less, long)) ∙ (fetched k course among at).each s less

-- ---- the acts of the walkers before a place

abbrev pub AreTurnedTo : List Course → ℕ → List Walker → List (List Act) → ℕ → Type 0
AreTurnedTo courses step walkers rows n =
    (s k : ℕ) (course : Course) → s < block_steps → k < n → slice_get courses (walker_at walkers k).agent ≡ Some course
    → act_at (row_of_step rows s) k ≡ get_or course.acts (step + s) Wait

-- a walker of a group, which is a part of the walkers
pub in_group : (walkers : List Walker) (first end k : ℕ) → first + k < end → walker_at (take (end - first) (drop first walkers)) k ≡ walker_at walkers (first + k)
in_group walkers first end k less =
    get_or-take (end - first) (drop first walkers) k (record { place = 0; ground = 0; agent = 0 }) (omega (arith, less))
    ∙ get_or-drop first walkers k (record { place = 0; ground = 0; agent = 0 })

pub turned-more : (courses : List Course) (step : ℕ) (walkers group : List Walker) (old new : List (List Act)) (first end : ℕ)
    → AreTurnedTo courses step walkers old first → ((s k : ℕ) → s < block_steps → k < first → act_at (row_of_step new s) k ≡ act_at (row_of_step old s) k)
    → AreGroupActs courses step group first new → length group ≡ end - first → ((k : ℕ) → first + k < end → walker_at group k ≡ walker_at walkers (first + k))
    → AreTurnedTo courses step walkers new end
turned-more courses step walkers group old new first end h kept own size same s k course less within there = elim (cases_lt k first) [
  | inl earlier ↦ kept s k less earlier ∙ h s k course less earlier there
  | inr later ↦ (
      let split : first + (k - first) ≡ k = omega (arith, later) in
      let one : walker_at group (k - first) ≡ walker_at walkers k = same (k - first) (omega (arith, later, within)) ∙ ap (walker_at walkers) split in
      subst (λ i. act_at (row_of_step new s) i ≡ get_or course.acts (step + s) Wait) split
      (own s (k - first) course less (omega (arith, later, within, size)) (ap (λ w. slice_get courses w.agent) one ∙ there))
      )
]
