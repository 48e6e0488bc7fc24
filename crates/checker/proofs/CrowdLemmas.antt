-- A step of all walkers, one after another.
use Rattle.std.proofs.Common.{◌≡◌, ◌≢◌, ℕ, ◌+◌, ◌<◌, ◌≤◌, ◌⊎◌, List, [], length, set, inl, inr, arith, refl, sym, ap, subst, ◌∙◌}
use Rattle.std.proofs.lemmas.Bool.{cases_lt, cases_eq}
use Rattle.std.proofs.lemmas.List.{length-set, get_or-set_same, get_or-set_other}
use Rattle.model.specs.declared.act.Act.{Act}
use Rattle.model.specs.declared.act.Act.TheVariants.{N, E, S, W, Wait}
use Rattle.checker.specs.declared.board.Square.{Square}
use Rattle.checker.specs.declared.crowd.Walker.{Walker}
use Rattle.checker.specs.declared.crowd.Turns.{Turns}
use Rattle.checker.specs.Code.Squares.{ground_in, mark_in, square_at, IsOfStep}
use Rattle.checker.specs.Code.Crowd.{number_of_act, against_of, turn_by, led_to, walker_at, act_at}
use Rattle.checker.specs.Code.Crowd.{comes_to, AreMarks, KeepGrounds, IsAllowed, IsActRefused}
use Rattle.checker.specs.Code.Crowd.{IsMarked, AreLed, AreAllowed, AreMarked, AreSuspect}
use Rattle.checker.specs.Code.Crowd.{AreMarksOf, AreApart, AreOldMarks}

small_number : (act : Act) → number_of_act act < 5
small_number N = omega arith
small_number E = omega arith
small_number S = omega arith
small_number W = omega arith
small_number Wait = omega arith

pub of_step : (turns : Turns) → AreMarks turns → (act : Act) → IsOfStep turns.first (turn_by turns act).mark
of_step turns marks act =
    let small = small_number act in
    let is = marks.each act in
    record { from = omega (arith, is); to = omega (arith, is, small) }

-- what is known after the first so many walkers, where none of them may be wrong
pub record IsPassed (turns : Turns) (acts : List Act) (walkers : List Walker) (old now : List Square) (count : ℕ) : Type 0 where
  pub allowed : AreAllowed turns acts walkers old count
  pub marked : AreMarked turns acts walkers now count

pub passed-none : (turns : Turns) (acts : List Act) (walkers : List Walker) (squares : List Square) → IsPassed turns acts walkers squares squares 0
passed-none turns acts walkers squares = record {
  allowed = record {
    ground = λ k less. absurd (omega (arith, less));
    apart = λ j k order less. absurd (omega (arith, less));
    against = λ j k order less. absurd (omega (arith, less));
  };
  marked = λ k less. absurd (omega (arith, less));
}

pub passed-more : (turns : Turns) (acts : List Act) (walkers : List Walker) (old now new : List Square) (k : ℕ) → AreMarks turns → KeepGrounds old now
    → IsPassed turns acts walkers old now k → IsAllowed turns (act_at acts k) (walker_at walkers k) now
    → IsMarked turns (act_at acts k) (walker_at walkers k).place now new → IsPassed turns acts walkers old new (k + 1)
passed-more turns acts walkers old now new k marks grounds passed here marked = record {
  allowed = record {
    ground = λ i less. elim (cases_lt i k) [
      | inl before ↦ passed.allowed.ground i before
      | inr after ↦ (let same : k ≡ i = omega (arith, less, after) in
          subst (λ n. ground_in (square_at old (to n)) ≡ (walker_at walkers n).ground) same (sym (grounds.each (to k)) ∙ here.ground))
    ];
    apart = λ j i order less. elim (cases_lt i k) [
      | inl before ↦ passed.allowed.apart j i order before
      | inr after ↦ (let same : k ≡ i = omega (arith, less, after) in subst (λ n. to j ≢ to n) same (apart_here j (omega (arith, order, less))))
    ];
    against = λ j i order less. elim (cases_lt i k) [
      | inl before ↦ passed.allowed.against j i order before
      | inr after ↦ (let same : k ≡ i = omega (arith, less, after) in
          subst (λ n. to j ≡ (walker_at walkers n).place → (turn_by turns (act_at acts j)).mark ≢ (turn_by turns (act_at acts n)).against) same
          (λ there is. here.against (ap (λ p. mark_in (square_at now p)) (sym there) ∙ passed.marked j (omega (arith, order, less)) ∙ is)))
    ];
  };
  marked = λ i less. elim (cases_lt i k) [
    | inl before ↦ marked.others (to i) (apart_here i before)
        (subst (IsOfStep turns.first) (sym (passed.marked i before)) (of_step turns marks (act_at acts i))) ∙ passed.marked i before
    | inr after ↦ (let same : k ≡ i = omega (arith, less, after) in
        subst (λ n. mark_in (square_at new (to n)) ≡ (turn_by turns (act_at acts n)).mark) same marked.own)
  ];
} where
  to : ℕ → ℕ
  to = comes_to turns acts walkers

  apart_here : (j : ℕ) → j < k → to j ≢ to k
  apart_here j before = λ one. here.nobody
      (subst (IsOfStep turns.first) (sym (ap (λ p. mark_in (square_at now p)) (sym one) ∙ passed.marked j before)) (of_step turns marks (act_at acts j)))

pub keeps-then : (a b c : List Square) → KeepGrounds a b → KeepGrounds b c → KeepGrounds a c
keeps-then a b c first second = record { count = second.count ∙ first.count; each = λ place. second.each place ∙ first.each place }

-- ---- the walkers, of whom those before a place were led

pub record AreLedTo (turns : Turns) (acts : List Act) (old now : List Walker) (n : ℕ) : Type 0 where
  pub count : length now ≡ length old
  pub led : (k : ℕ) → k < n → walker_at now k ≡ record (walker_at old k) { place = comes_to turns acts old k }
  pub rest : (k : ℕ) → n ≤ k → walker_at now k ≡ walker_at old k

pub led-more : (turns : Turns) (acts : List Act) (old now : List Walker) (n : ℕ) (new : Walker) → AreLedTo turns acts old now n → n < length old
    → new ≡ record (walker_at now n) { place = led_to turns (act_at acts n) (walker_at now n).place } → AreLedTo turns acts old (set now n new) (n + 1)
led-more turns acts old now n new h less is = record {
  count = length-set now n new ∙ h.count;
  led = λ k before. elim (cases_lt k n) [
    | inl earlier ↦ get_or-set_other now n k new (walker_at [] 0) (λ e. (let same : k ≡ n = e in omega (arith, earlier, same))) ∙ h.led k earlier
    | inr after ↦ (let same : n ≡ k = omega (arith, before, after) in
        subst (λ i. walker_at (set now n new) i ≡ record (walker_at old i) { place = comes_to turns acts old i }) same (
        get_or-set_same now n new (walker_at [] 0) (let count = h.count in omega (arith, less, count)) ∙ is
        ∙ ap {A = Walker} {B = Walker} (λ w. record w { place = led_to turns (act_at acts n) w.place }) (h.rest n (omega arith))
        ))
  ];
  rest = λ k past. get_or-set_other now n k new (walker_at [] 0) (λ e. (let same : k ≡ n = e in omega (arith, past, same))) ∙ h.rest k (omega (arith, past));
}

-- ---- the marks, while one walker after another is led

-- the mark is that of a walker that was led there
abbrev pub IsLeft : Turns → List Act → List Walker → ℕ → ℕ → ℕ → Type 0
IsLeft turns acts walkers n place mark =
    (j : ℕ) × (j < n) × (comes_to turns acts walkers j ≡ place) × (mark ≡ (turn_by turns (act_at acts j)).mark)

-- a walker that was not led yet is there
abbrev pub IsStillAt : List Walker → ℕ → ℕ → Type 0
IsStillAt walkers n place = (j : ℕ) × (n ≤ j) × (j < length walkers) × ((walker_at walkers j).place ≡ place)

-- Each mark was left by one of the first n walkers, or is of the step before, and then one of the others is there.
pub record AreMarkedTo (turns : Turns) (acts : List Act) (walkers : List Walker) (squares : List Square) (n : ℕ) : Type 0 where
  pub before : ℕ
  pub small : before < 50
  pub apart : AreApart before turns.first
  pub each : (place : ℕ) → (mark_in (square_at squares place) ≡ 0)
      ⊎ IsLeft turns acts walkers n place (mark_in (square_at squares place))
      ⊎ (IsOfStep before (mark_in (square_at squares place)) × IsStillAt walkers n place)

pub marked-none : (turns : Turns) (acts : List Act) (walkers : List Walker) (squares : List Square) → AreOldMarks turns.first walkers squares
    → AreMarkedTo turns acts walkers squares 0
marked-none turns acts walkers squares old = record {
  before = old.before;
  small = old.small;
  apart = old.apart;
  each = λ place. elim (old.marks place) [
    | inl none ↦ inl none
    | inr (is, (k, less, at)) ↦ inr (inr (is, (k, omega arith, less, at)))
  ];
}

pub marked-more : (turns : Turns) (acts : List Act) (walkers : List Walker) (now new : List Square) (n : ℕ) → AreMarks turns → 0 < turns.first
    → AreMarkedTo turns acts walkers now n → IsMarked turns (act_at acts n) (walker_at walkers n).place now new → AreMarkedTo turns acts walkers new (n + 1)
marked-more turns acts walkers now new n marks some was did = record {
  before = was.before;
  small = was.small;
  apart = was.apart;
  each = λ place. elim (cases_eq place to) [
    | inl here ↦ inr (inl (n, omega arith, sym here, ap (λ p. mark_in (square_at new p)) here ∙ did.own))
    | inr other ↦ elim (cases_eq place from) [
      | inl left ↦ elim (was.each place) [
        | inl none ↦ inl (gone place left other (λ is. (let least = is.from in omega (arith, least, none, some))))
        | inr (inl (j, less, at, is)) ↦ inr (inl (
          j,
          omega (arith, less),
          at,
          did.others place other (subst (IsOfStep turns.first) (sym is) (of_step turns marks (act_at acts j))) ∙ is,
        ))
        | inr (inr (of, still)) ↦ inl (gone place left other (was.apart (mark_in (square_at now place)) of))
      ]
      | inr elsewhere ↦ elim (was.each place) [
        | inl none ↦ inl (did.elsewhere place other elsewhere ∙ none)
        | inr (inl (j, less, at, is)) ↦ inr (inl (j, omega (arith, less), at, did.elsewhere place other elsewhere ∙ is))
        | inr (inr (of, (j, past, less, at))) ↦ inr (inr (
          subst (IsOfStep was.before) (sym (did.elsewhere place other elsewhere)) of,
          (j, later j place past at elsewhere, less, at),
        ))
      ]
    ]
  ];
} where
  to : ℕ
  to = comes_to turns acts walkers n

  from : ℕ
  from = (walker_at walkers n).place

  gone : (place : ℕ) → place ≡ from → place ≢ to → (IsOfStep turns.first (mark_in (square_at now place)) → ⊥) → mark_in (square_at new place) ≡ 0
  gone place left other old = ap (λ p. mark_in (square_at new p)) left
      ∙ did.left (λ e. other (left ∙ e)) (λ is. old (subst (λ p. IsOfStep turns.first (mark_in (square_at now p))) (sym left) is))

  later : (j place : ℕ) → n ≤ j → (walker_at walkers j).place ≡ place → place ≢ from → n + 1 ≤ j
  later j place past at elsewhere = elim (cases_eq j n) [
    | inl same ↦ absurd (elsewhere (sym at ∙ ap (λ i. (walker_at walkers i).place) same))
    | inr apart ↦ omega (arith, past, apart)
  ]

-- all were led
pub marks-after : (turns : Turns) (acts : List Act) (old new : List Walker) (squares : List Square) → AreMarks turns → AreLed turns acts old new
    → AreMarkedTo turns acts old squares (length old) → AreMarksOf turns.first new squares
marks-after turns acts old new squares marks led marked place = elim (marked.each place) [
  | inl none ↦ inl none
  | inr (inl (j, less, at, is)) ↦ inr (
    subst (IsOfStep turns.first) (sym is) (of_step turns marks (act_at acts j)),
    (let count = led.count in (j, omega (arith, less, count), ap (λ w. w.place) (led.each j less) ∙ at)),
  )
  | inr (inr (of, (j, past, less, at))) ↦ absurd (omega (arith, past, less))
]

-- what an act looks for is a mark of its step, or one that no step has
against_kind : (first : ℕ) (act : Act) → IsOfStep first (against_of first act) ⊎ (against_of first act ≡ 63)
against_kind first N = inl (record { from = omega arith; to = omega arith })
against_kind first E = inl (record { from = omega arith; to = omega arith })
against_kind first S = inl (record { from = omega arith; to = omega arith })
against_kind first W = inl (record { from = omega arith; to = omega arith })
against_kind first Wait = inr refl

-- a walker whose act is not allowed is in the way of one before it, or comes to other ground
pub suspect-here : (turns : Turns) (acts : List Act) (walkers : List Walker) (old now : List Square) (n : ℕ) → AreMarks turns → 0 < turns.first
    → KeepGrounds old now → AreMarkedTo turns acts walkers now n → n < length walkers → IsActRefused turns (act_at acts n) (walker_at walkers n) now
    → AreSuspect turns acts walkers old
suspect-here turns acts walkers old now n marks some kept was less (inl ground) =
    inl (n, less, λ same. ground (kept.each (comes_to turns acts walkers n) ∙ same))
suspect-here turns acts walkers old now n marks some kept was less (inr (inl entered)) = elim (was.each (comes_to turns acts walkers n)) [
  | inl none ↦ (let least = entered.from in absurd (omega (arith, least, none, some)))
  | inr (inl (j, less_j, at, is)) ↦ inr (inl (j, n, less_j, less, at))
  | inr (inr (of, still)) ↦ absurd (was.apart (mark_in (square_at now (comes_to turns acts walkers n))) of entered)
]
suspect-here turns acts walkers old now n marks some kept was less (inr (inr against)) = elim (was.each (walker_at walkers n).place) [
  | inl none ↦ (let is = marks.against (act_at acts n) in absurd (elim (against_kind turns.first (act_at acts n)) [
    | inl own ↦ (let least = own.from in omega (arith, least, none, against, is, some))
    | inr far ↦ omega (arith, far, none, against, is)
  ]))
  | inr (inl (j, less_j, at, is)) ↦ inr (inr (j, n, less_j, less, at, sym is ∙ against))
  | inr (inr (of, still)) ↦ (let is = marks.against (act_at acts n) in absurd (elim (against_kind turns.first (act_at acts n)) [
    | inl own ↦ was.apart (mark_in (square_at now (walker_at walkers n).place)) of (subst (IsOfStep turns.first) (sym (against ∙ is)) own)
    | inr far ↦ (let most = of.to in let small = was.small in omega (arith, most, small, far, against, is))
  ]))
]
