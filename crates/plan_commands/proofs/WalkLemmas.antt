-- Agents on their way, with their acts in blocks of steps.
use Rattle.std.proofs.Common.{◌≡◌, ◌≢◌, ℕ, ◌+◌, ◌-◌, ◌%◌, ◌<◌, ◌≤◌, List, [], ◌∷◌, ◌++◌, length, get_or, set, Some, arith, sym, ap, subst, inl, inr, ◌∙◌}
use Rattle.std.specs.Prelude.{slice_get}
use Rattle.std.proofs.lemmas.Bool.{cases_lt}
use Rattle.std.proofs.lemmas.List.{length-map, length-set, get_or-set_same, get_or-set_other, get_or_append_left, get_or-append_right, get_or_default, get_or_past}
use Rattle.std.proofs.lemmas.Option.{get_or_from_slice_get, slice_get-get_or}
use Rattle.grid.specs.declared.cell.Cell.{Cell}
use Rattle.model.specs.declared.act.Act.{Act}
use Rattle.model.specs.declared.act.Act.TheVariants.{N, Wait}
use Rattle.model.specs.Plan.{Course}
use Rattle.model.specs.Timetable.{cell_at}
use Rattle.checker.specs.Moving.{IsStretch, cell_by}
use Rattle.checker.specs.Code.Standing.{cell_in}
use Rattle.checker.specs.Code.Tracks.{track_along}
use Rattle.checker.specs.Laws.Walking.{no_course}
use Rattle.plan_commands.specs.Code.Rows.{AllWalked, row_at}
use Rattle.plan_commands.specs.Code.Walks.{IsCellInRange, acts_of_agent, act_in, AreStretches, begun}
use Rattle.plan_commands.proofs.RowLemmas.{after_act, after_all, is_row, no_cell, row_in}

-- ---- the acts of a block

-- those of the first so many agents are lined up
abbrev pub AreLinedUp : List Course → ℕ → List (List Act) → ℕ → Type 0
AreLinedUp courses step stretches n = (i : ℕ) → i < n → IsStretch (acts_of_agent courses i) step (get_or stretches i [])

abbrev blank : Course
blank = record { start = record { x = 0; y = 0 }; acts = [] }

acts_of : (courses : List Course) (i : ℕ) → i < length courses → acts_of_agent courses i ≡ (get_or courses i no_course).acts
acts_of courses i less = ap (λ (k : Course). k.acts) (get_or_default courses i blank no_course less)

-- the acts of the agent that was read
pub own_stretch : (courses : List Course) (n : ℕ) (course : Course) (acts : List Act) (step : ℕ) (stretch : List Act) → slice_get courses n ≡ Some course
    → acts ≡ course.acts → IsStretch acts step stretch → IsStretch (acts_of_agent courses n) step stretch
own_stretch courses n course acts step stretch there same is =
    subst (λ l. IsStretch l step stretch) (same ∙ sym (ap (λ (k : Course). k.acts) (get_or_from_slice_get courses n course blank there))) is

pub lined_push : (courses : List Course) (step n : ℕ) (stretches : List (List Act)) (stretch : List Act) → AreLinedUp courses step stretches n
    → length stretches ≡ n → IsStretch (acts_of_agent courses n) step stretch → AreLinedUp courses step (stretches ++ stretch ∷ []) (n + 1)
lined_push courses step n stretches stretch h count own i less = elim (cases_lt i n) [
  | inl before ↦ subst (IsStretch (acts_of_agent courses i) step)
      (sym (get_or_append_left stretches (stretch ∷ []) [] i (omega (arith, before, count)))) (h i before)
  | inr last ↦ (
      let same : n ≡ i = omega (arith, less, last) in
      let none : n - n ≡ 0 = omega arith in
      let at : get_or (stretches ++ stretch ∷ []) n [] ≡ stretch =
      get_or-append_right stretches (stretch ∷ []) n n [] count (omega arith) ∙ ap (λ k. get_or (stretch ∷ []) k []) none in
      subst (λ k. IsStretch (acts_of_agent courses k) step (get_or (stretches ++ stretch ∷ []) k [])) same (subst (IsStretch (acts_of_agent courses n) step) (sym at) own)
      )
]

pub lined_set : (courses : List Course) (step n : ℕ) (stretches : List (List Act)) (stretch : List Act) → AreLinedUp courses step stretches n
    → n < length stretches → IsStretch (acts_of_agent courses n) step stretch → AreLinedUp courses step (set stretches n stretch) (n + 1)
lined_set courses step n stretches stretch h within own i less = elim (cases_lt i n) [
  | inl before ↦ subst (IsStretch (acts_of_agent courses i) step)
      (sym (get_or-set_other stretches n i stretch [] (λ e. (let same : i ≡ n = e in omega (arith, before, same))))) (h i before)
  | inr last ↦ (
      let same : n ≡ i = omega (arith, less, last) in
      subst (λ k. IsStretch (acts_of_agent courses k) step (get_or (set stretches n stretch) k [])) same
      (subst (IsStretch (acts_of_agent courses n) step) (sym (get_or-set_same stretches n stretch [] within)) own)
      )
]

-- ---- a step of all agents

-- where the act of a step leads, or where the agent stays past its acts
goes_on : (course : Course) (step : ℕ) → cell_at (track_along course) (step + 1) ≡ cell_by (get_or course.acts step Wait) (cell_at (track_along course) step)
goes_on course step = elim (cases_lt step (length course.acts)) [
  | inl less ↦ after_act course step (get_or course.acts step Wait) less (sym (get_or_default course.acts step N Wait less))
  | inr past ↦ after_all course step past ∙ ap (λ a. cell_by a (cell_at (track_along course) step)) (sym (get_or_past course.acts step Wait past))
]

within_block : (step : ℕ) → step % 64 < 64
within_block step = omega arith

of_block : (step : ℕ) → begun step + step % 64 ≡ step
of_block step = omega arith

-- the act of the step is that in the agent's block
own_act : (courses : List Course) (step : ℕ) (stretches : List (List Act)) (i : ℕ) → AreStretches courses (begun step) stretches → i < length courses
    → act_in stretches i (step % 64) ≡ get_or (get_or courses i no_course).acts step Wait
own_act courses step stretches i h less =
    (h.each i less).each (step % 64) (within_block step) ∙ ap (λ n. get_or (acts_of_agent courses i) n Wait) (of_block step)
    ∙ ap (λ l. get_or l step Wait) (acts_of courses i less)

-- where the act in the agent's block leads
pub leads_on : (courses : List Course) (step : ℕ) (cells : List Cell) (stretches : List (List Act)) (i : ℕ) → cells ≡ row_at courses step
    → AreStretches courses (begun step) stretches → i < length courses
    → cell_by (act_in stretches i (step % 64)) (cell_in cells i) ≡ cell_at (track_along (get_or courses i no_course)) (step + 1)
leads_on courses step cells stretches i at h less =
    ap (λ a. cell_by a (cell_in cells i)) (own_act courses step stretches i h less)
    ∙ ap (cell_by (get_or (get_or courses i no_course).acts step Wait)) (ap (λ l. cell_in l i) at ∙ row_in courses step i less)
    ∙ sym (goes_on (get_or courses i no_course) step)

pub row_count : (courses : List Course) (step : ℕ) (cells : List Cell) → cells ≡ row_at courses step → length cells ≡ length courses
row_count courses step cells at = ap length at ∙ length-map courses (λ (k : Course). cell_at (track_along k) step)

pub in_range : (courses : List Course) (step : ℕ) (cells : List Cell) (stretches : List (List Act)) → AllWalked courses → cells ≡ row_at courses step
    → AreStretches courses (begun step) stretches → (i : ℕ) → i < length cells → IsCellInRange (cell_by (act_in stretches i (step % 64)) (cell_in cells i))
in_range courses step cells stretches walked at h i less =
    let count = row_count courses step cells at in
    let within : i < length courses = omega (arith, less, count) in
    let there = walked i (get_or courses i no_course) (slice_get-get_or courses i no_course within) in
    let range = there.in_range (step + 1) in
    subst IsCellInRange (sym (leads_on courses step cells stretches i at h within)) (record { column = range.0; row = range.1 })

pub next_row : (courses : List Course) (step : ℕ) (cells new : List Cell) (stretches : List (List Act)) → cells ≡ row_at courses step
    → AreStretches courses (begun step) stretches → length new ≡ length cells
    → ((i : ℕ) → i < length cells → cell_in new i ≡ cell_by (act_in stretches i (step % 64)) (cell_in cells i)) → new ≡ row_at courses (step + 1)
next_row courses step cells new stretches at h count led =
    let counts = row_count courses step cells at in
    is_row courses (step + 1) new (count ∙ counts)
    (λ i less. led i (omega (arith, less, counts)) ∙ leads_on courses step cells stretches i at h less)

-- ---- blocks

pub begins : (step : ℕ) → step % 64 ≡ 0 → step ≡ begun step
begins step whole = omega (arith, whole)

pub same_block : (step : ℕ) → 0 < step → step % 64 ≢ 0 → begun (step - 1) ≡ begun step
same_block step some inside = omega (arith, some, inside)

-- ---- agents, of whom the first so many were led

pub record AreLed (stretches : List (List Act)) (step : ℕ) (old now : List Cell) (n : ℕ) : Type 0 where
  pub count : length now ≡ length old
  pub led : (i : ℕ) → i < n → cell_in now i ≡ cell_by (act_in stretches i step) (cell_in old i)
  pub rest : (i : ℕ) → n ≤ i → cell_in now i ≡ cell_in old i

pub led_more : (stretches : List (List Act)) (step : ℕ) (old now : List Cell) (n : ℕ) (new : Cell) → AreLed stretches step old now n → n < length old
    → new ≡ cell_by (act_in stretches n step) (cell_in old n) → AreLed stretches step old (set now n new) (n + 1)
led_more stretches step old now n new h less is = record {
  count = length-set now n new ∙ h.count;
  led = λ i before. elim (cases_lt i n) [
    | inl earlier ↦ get_or-set_other now n i new no_cell (λ e. (let same : i ≡ n = e in omega (arith, earlier, same))) ∙ h.led i earlier
    | inr after ↦ (let same : n ≡ i = omega (arith, before, after) in
        subst (λ k. cell_in (set now n new) k ≡ cell_by (act_in stretches k step) (cell_in old k)) same
        (get_or-set_same now n new no_cell (let count = h.count in omega (arith, less, count)) ∙ is))
  ];
  rest = λ i past. get_or-set_other now n i new no_cell (λ e. (let same : i ≡ n = e in omega (arith, past, same))) ∙ h.rest i (omega (arith, past));
}

-- the act that was read from an agent's stretch
pub read_act : (stretches : List (List Act)) (i step : ℕ) (stretch acts : List Act) → i < length stretches → stretch ≡ get_or stretches i stretch → acts ≡ stretch
    → step < length acts → get_or acts step N ≡ act_in stretches i step
read_act stretches i step stretch acts less is same within =
    get_or_default acts step N Wait within ∙ ap (λ l. get_or l step Wait) (same ∙ is ∙ get_or_default stretches i stretch [] less)
