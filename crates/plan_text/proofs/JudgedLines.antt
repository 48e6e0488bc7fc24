-- What a whole line says where it is due, by one function of its bytes.
use Rattle.std.proofs.Common.{◌≡◌, ◌≢◌, ℕ, zero, suc, ◌+◌, ◌-◌, ◌^◌, ◌<◌, ◌≤◌, ◌⊎◌, inl, inr, Bool}
use Rattle.std.proofs.Common.{true, false, cond, List, [], ◌∷◌, ◌++◌, length, Option, Some, None}
use Rattle.std.proofs.Common.{refl, sym, ap, ◌∙◌, arith, IsTrue, codes}
use Rattle.std.specs.Prelude.{nat_lt, ◌&&◌}
use Rattle.std.specs.List.{list_all, prefix_len}
use Rattle.std.proofs.lemmas.Bool.{cond-true, cond-false, lt-ltb, le-ltb, both_ways, cases_Bool, and_parts, and_from, and_left, and_right}
use Rattle.std.proofs.lemmas.List.{length-append, length-map}
use Rattle.text_io.specs.Reading.{at_line_feed}
use Rattle.model.specs.declared.act.Act.{Act}
use Rattle.plan_text.specs.declared.plan_text_fault.PlanTextFault.{PlanTextFault}
use Rattle.plan_text.specs.declared.plan_text_fault.PlanTextFault.TheVariants.{BadHeader, BadNumber, TooMany, BadAgent, BadAct, Unfinished, TextAfter, ReadFailed, OutOfMemory}
use Rattle.plan_text.specs.Limits.{most_agents, most_acts, most_acts_in_all}
use Rattle.plan_text.specs.PlanText.{act_character, no_act, acts_text, header}
use Rattle.plan_text.specs.PlanTextFault.{PlanDue, header_due, number_due, agents_due, agent_due, PlanFollows, IsLineDue, longest_plan_line, IsCoordinate, is_act, HasPlanTextFault}
use Rattle.text_io.specs.Text.{BeginsWith}
use Rattle.text_io.specs.Numerals.{is_numeral, numeral_value, is_below}
use Rattle.text_io.specs.Laws.Numerals.{IsNumeral-from_test, test-from_IsNumeral, below-from_IsNumeral, IsNumeral-from_below}
use Rattle.plan_text.proofs.SpellingLemmas.{SaysNumber-short, HasParts-course, SpellsCourse-line, course_line-short, some_acts-text, acts-pass}
use Rattle.text_io.specs.Laws.Parts.{same_or_not, begins_or_not}
use Rattle.plan_text.proofs.LineDecisions.{PartsOrNone, parts_or_none, begins_known, not_begins_known, same_known, other_known, parts_known, no_parts_known, coordinate-test, not_coordinate-test}

-- ---- the fault of a line

abbrev header_fault : (number : ℕ) (line : List ℕ) → (line ≡ header) ⊎ (line ≢ header) → Option PlanTextFault
header_fault number line (inl is) = None
header_fault number line (inr other) = Some (BadHeader number)

abbrev number_fault : (number : ℕ) (line : List ℕ) → BeginsWith (codes "number ") line ⊎ (BeginsWith (codes "number ") line → ⊥) → Option PlanTextFault
number_fault number line (inl (digits, is)) = cond (is_below (2 ^ 32) digits) None (Some (BadNumber number))
number_fault number line (inr other) = Some (BadHeader number)

abbrev agents_fault : (number : ℕ) (line : List ℕ) → BeginsWith (codes "agents ") line ⊎ (BeginsWith (codes "agents ") line → ⊥) → Option PlanTextFault
agents_fault number line (inl (digits, is)) =
    cond (is_numeral digits) (cond (nat_lt most_agents (numeral_value digits)) (Some (TooMany number)) None) (Some (BadNumber number))
agents_fault number line (inr other) = Some (BadHeader number)

-- more acts than an agent may have, or than all may have
abbrev pub are_too_many : ℕ → ℕ → Bool
are_too_many before count = cond (nat_lt most_acts count) true (nat_lt most_acts_in_all (before + count))

-- the column of the first byte that is no act
abbrev pub other_column : List ℕ → List ℕ → ℕ
other_column line acts = length line - length acts + prefix_len is_act acts + 1

abbrev acts_fault : (number before : ℕ) (line acts : List ℕ) → (acts ≡ no_act ∷ []) ⊎ (acts ≢ no_act ∷ []) → Option PlanTextFault
acts_fault number before line acts (inl none) = None
acts_fault number before line acts (inr some) =
    cond (list_all is_act acts) (cond (are_too_many before (length acts)) (Some (TooMany number)) None) (Some (BadAct number (other_column line acts)))

abbrev agent_fault : (number before : ℕ) (line : List ℕ) → PartsOrNone line → Option PlanTextFault
agent_fault number before line (inl (x, y, acts, has)) =
    cond (is_below 65536 x && is_below 65536 y) (acts_fault number before line acts (same_or_not acts (no_act ∷ []))) (Some (BadNumber number))
agent_fault number before line (inr none) = Some (BadAgent number)

-- the fault of a line that is not too long, if it has one
abbrev pub line_fault : PlanDue → ℕ → List ℕ → Option PlanTextFault
line_fault header_due number line = header_fault number line (same_or_not line header)
line_fault number_due number line = number_fault number line (begins_or_not (codes "number ") line)
line_fault agents_due number line = agents_fault number line (begins_or_not (codes "agents ") line)
line_fault (agent_due zero before) number line = None
line_fault (agent_due (suc left) before) number line = agent_fault number before line (parts_or_none line)

-- ---- what is due after a right line

abbrev agents_said : (line : List ℕ) → BeginsWith (codes "agents ") line ⊎ (BeginsWith (codes "agents ") line → ⊥) → ℕ
agents_said line (inl (digits, is)) = numeral_value digits
agents_said line (inr other) = 0

abbrev acts_said : (acts : List ℕ) → (acts ≡ no_act ∷ []) ⊎ (acts ≢ no_act ∷ []) → ℕ
acts_said acts (inl none) = 0
acts_said acts (inr some) = length acts

abbrev agent_said : (line : List ℕ) → PartsOrNone line → ℕ
agent_said line (inl (x, y, acts, has)) = acts_said acts (same_or_not acts (no_act ∷ []))
agent_said line (inr none) = 0

abbrev pub line_next : PlanDue → List ℕ → PlanDue
line_next header_due line = number_due
line_next number_due line = agents_due
line_next agents_due line = agent_due (agents_said line (begins_or_not (codes "agents ") line)) 0
line_next (agent_due zero before) line = agent_due zero before
line_next (agent_due (suc left) before) line = agent_due left (before + agent_said line (parts_or_none line))

-- ---- right lines

-- What a right line says: it is not too long, has no fault, and leads to the next line.
pub record IsRight (due : PlanDue) (number : ℕ) (line : List ℕ) (next : PlanDue) : Type 0 where
  pub short : length line ≤ longest_plan_line
  pub none : line_fault due number line ≡ None
  pub next_is : next ≡ line_next due line

acts_none : (number before : ℕ) (line : List ℕ) (acts : List Act) → length acts ≤ most_acts → before + length acts ≤ most_acts_in_all
    → acts_fault number before line (acts_text acts) (same_or_not (acts_text acts) (no_act ∷ [])) ≡ None
acts_none number before line [] few fits =
    same_known (no_act ∷ []) (no_act ∷ []) refl (acts_fault number before line (no_act ∷ [])) None (λ e. refl)
acts_none number before line (act ∷ acts) few fits =
    let count = length-map (act ∷ acts) act_character in
    other_known (acts_text (act ∷ acts)) (no_act ∷ []) (some_acts-text act acts) (acts_fault number before line (acts_text (act ∷ acts))) None
    (λ e. cond-true _ _ _ (acts-pass (act ∷ acts))
    ∙ cond-false _ _ _ (cond-false _ true (nat_lt most_acts_in_all (before + length (acts_text (act ∷ acts)))) (le-ltb most_acts (length (acts_text (act ∷ acts))) (omega arith))
    ∙ le-ltb most_acts_in_all (before + length (acts_text (act ∷ acts))) (omega arith)))

acts_count : (acts : List Act) → acts_said (acts_text acts) (same_or_not (acts_text acts) (no_act ∷ [])) ≡ length acts
acts_count [] = same_known (no_act ∷ []) (no_act ∷ []) refl (acts_said (no_act ∷ [])) 0 (λ e. refl)
acts_count (act ∷ acts) =
    other_known (acts_text (act ∷ acts)) (no_act ∷ []) (some_acts-text act acts) (acts_said (acts_text (act ∷ acts))) (length (act ∷ acts))
    (λ e. length-map (act ∷ acts) act_character)

pub right-from_Follows : (due : PlanDue) (number : ℕ) (line : List ℕ) (next : PlanDue) → PlanFollows due line next → IsRight due number line next
right-from_Follows header_due number line next h = record {
  short = omega (arith, ap length h.0);
  none = same_known line header h.0 (header_fault number line) None (λ e. refl);
  next_is = h.1;
}
right-from_Follows number_due number line next (n, says, small, is) = record {
  short = SaysNumber-short (codes "number ") n line says small refl;
  none =
      begins_known (codes "number ") says.0 line says.1 (number_fault number line) None
      (λ e. cond-true _ _ _ (below-from_IsNumeral (2 ^ 32) n says.0 says.2 small));
  next_is = is;
}
right-from_Follows agents_due number line next (n, says, small, is) =
    let value : numeral_value says.0 ≡ n = says.2.spells.2 in
    record {
      short = SaysNumber-short (codes "agents ") n line says (omega arith) refl;
      none =
          begins_known (codes "agents ") says.0 line says.1 (agents_fault number line) None
          (λ e. cond-true _ _ _ (test-from_IsNumeral n says.0 says.2) ∙ cond-false _ _ _ (le-ltb most_agents (numeral_value says.0) (omega arith)));
      next_is =
          is ∙ ap (λ k. agent_due k 0) (sym (begins_known (codes "agents ") says.0 line says.1 (agents_said line) n (λ e. value)));
    }
right-from_Follows (agent_due zero before) number line next h = absurd h
right-from_Follows (agent_due (suc left) before) number line next (course, spells, within, fits, is) =
    let has = HasParts-course course line spells in
    let acts = acts_text course.acts in
    record {
      short = omega (arith, ap length (SpellsCourse-line course line spells within), course_line-short course within);
      none =
          parts_known spells.x spells.y acts line has (agent_fault number before line) None
          (λ k. cond-true _ _ _ (and_from (is_below 65536 spells.x) _ (coordinate-test spells.x (course.start.x, spells.is_x, within.column))
          (coordinate-test spells.y (course.start.y, spells.is_y, within.row)))
          ∙ acts_none number before line course.acts within.acts_limit fits);
      next_is =
          is ∙ ap (λ k. agent_due left (before + k))
          (sym (parts_known spells.x spells.y acts line has (agent_said line) (length course.acts) (λ k. acts_count course.acts)));
    }

-- ---- faults of whole lines

not_true_twice : (t : Bool) → (t ≡ true → ⊥) → t ≡ false
not_true_twice true h = absurd (h refl)
not_true_twice false h = refl

-- acts with a byte that is none do not pass, and it is found behind the acts before it
pub others_fail : (front : List ℕ) (byte : ℕ) (rest : List ℕ) → IsTrue (list_all is_act front) → is_act byte ≡ false
    → (list_all is_act (front ++ byte ∷ rest) ≡ false) × (prefix_len is_act (front ++ byte ∷ rest) ≡ length front)
others_fail [] byte rest pass none = (and_left (is_act byte) _ none, cond-false (is_act byte) _ _ none)
others_fail (b ∷ front) byte rest pass none =
    let parts = and_parts (is_act b) (list_all is_act front) pass in
    let later = others_fail front byte rest parts.1 none in
    (and_right (is_act b) _ later.0, cond-true (is_act b) _ _ parts.0 ∙ ap (λ n. 1 + n) later.1 ∙ omega arith)

-- a fault of a line at its LF is found in it
pub found-from_HasFault : (fault : PlanTextFault) (due : PlanDue) (number : ℕ) (line : List ℕ) → IsLineDue due
    → HasPlanTextFault fault at_line_feed due number line → (length line ≤ longest_plan_line) × (line_fault due number line ≡ Some fault)
found-from_HasFault (BadHeader at) header_due number line is (same, whole, other) = (
  whole.short,
  other_known line header other (header_fault number line) (Some (BadHeader at)) (λ e. ap (λ n. Some (BadHeader n)) (sym same)),
)
found-from_HasFault (BadHeader at) number_due number line is (same, whole, other) = (
  whole.short,
  not_begins_known (codes "number ") line other (number_fault number line) (Some (BadHeader at)) (λ e. ap (λ n. Some (BadHeader n)) (sym same)),
)
found-from_HasFault (BadHeader at) agents_due number line is (same, whole, other) = (
  whole.short,
  not_begins_known (codes "agents ") line other (agents_fault number line) (Some (BadHeader at)) (λ e. ap (λ n. Some (BadHeader n)) (sym same)),
)
found-from_HasFault (BadHeader at) (agent_due left before) number line is (same, whole, other) = absurd other
found-from_HasFault (BadNumber at) header_due number line is (same, whole, other) = absurd other
found-from_HasFault (BadNumber at) number_due number line is (same, whole, (begins, none)) = (
  whole.short,
  begins_known (codes "number ") begins.0 line begins.1 (number_fault number line) (Some (BadNumber at))
      (λ e. cond-false _ _ _ (not_true_twice (is_below (2 ^ 32) begins.0)
      (λ t. let k = IsNumeral-from_below (2 ^ 32) begins.0 t in none (numeral_value begins.0) (begins.0, begins.1, k.0) k.1))
      ∙ ap (λ n. Some (BadNumber n)) (sym same)),
)
found-from_HasFault (BadNumber at) agents_due number line is (same, whole, (begins, none)) = (
  whole.short,
  begins_known (codes "agents ") begins.0 line begins.1 (agents_fault number line) (Some (BadNumber at))
      (λ e. cond-false _ _ _ (not_true_twice (is_numeral begins.0)
      (λ t. none (numeral_value begins.0) (begins.0, begins.1, IsNumeral-from_test begins.0 t)))
      ∙ ap (λ n. Some (BadNumber n)) (sym same)),
)
found-from_HasFault (BadNumber at) (agent_due zero before) number line is h = absurd is
found-from_HasFault (BadNumber at) (agent_due (suc left) before) number line is (same, whole, (x, y, acts, has, other)) = (
  whole.short,
  parts_known x y acts line has (agent_fault number before line) (Some (BadNumber at))
      (λ e. cond-false _ _ _ (fails other) ∙ ap (λ n. Some (BadNumber n)) (sym same)),
)
  where
    fails : (IsCoordinate x → ⊥) ⊎ (IsCoordinate y → ⊥) → (is_below 65536 x && is_below 65536 y) ≡ false
    fails (inl none) = and_left (is_below 65536 x) _ (not_coordinate-test x none)
    fails (inr none) = and_right (is_below 65536 x) _ (not_coordinate-test y none)
found-from_HasFault (TooMany at) due number line is (same, inl h) = absurd (let bad = h.0 in cc)
found-from_HasFault (TooMany at) header_due number line is (same, inr h) = absurd h.1
found-from_HasFault (TooMany at) number_due number line is (same, inr h) = absurd h.1
found-from_HasFault (TooMany at) agents_due number line is (same, inr (whole, (n, says, many))) =
    let value : numeral_value says.0 ≡ n = says.2.spells.2 in (
      whole.short,
      begins_known (codes "agents ") says.0 line says.1 (agents_fault number line) (Some (TooMany at))
          (λ e. cond-true _ _ _ (test-from_IsNumeral n says.0 says.2)
          ∙ (cond-true _ _ _ (lt-ltb most_agents (numeral_value says.0) (omega arith)) ∙ ap (λ k. Some (TooMany k)) (sym same))),
    )
found-from_HasFault (TooMany at) (agent_due zero before) number line is h = absurd is
found-from_HasFault (TooMany at) (agent_due (suc left) before) number line is (same, inr (whole, (acts, start, pass, many))) = (
  whole.short,
  parts_known start.x start.y acts line start.parts (agent_fault number before line) (Some (TooMany at))
      (λ e. cond-true _ _ _ (and_from (is_below 65536 start.x) _ (coordinate-test start.x start.is_x) (coordinate-test start.y start.is_y))
      ∙ other_known acts (no_act ∷ []) some (acts_fault number before line acts) (Some (TooMany at))
      (λ k. cond-true _ _ _ pass ∙ (cond-true _ _ _ (fails many) ∙ ap (λ n. Some (TooMany n)) (sym same)))),
)
  where
    some : acts ≢ no_act ∷ []
    some e = both_ways (list_all is_act acts) (ap (list_all is_act) e) pass

    fails : (most_acts < length acts) ⊎ (most_acts_in_all < before + length acts) → are_too_many before (length acts) ≡ true
    fails (inl h) = cond-true _ _ _ (lt-ltb most_acts (length acts) h)
    fails (inr h) = go (cases_Bool (nat_lt most_acts (length acts)))
      where
        go : (nat_lt most_acts (length acts) ≡ true) ⊎ (nat_lt most_acts (length acts) ≡ false) → are_too_many before (length acts) ≡ true
        go (inl e) = cond-true _ _ _ e
        go (inr e) = cond-false _ _ _ e ∙ lt-ltb most_acts_in_all (before + length acts) h
found-from_HasFault (BadAgent at) due number line is (same, whole, left, before, is_due, none) = (
  whole.short,
  ap (λ d. line_fault d number line) is_due
      ∙ no_parts_known line none (agent_fault number before line) (Some (BadAgent at)) (λ e. ap (λ n. Some (BadAgent n)) (sym same)),
)
found-from_HasFault (BadAct at column) due number line is (same, whole, left, before, is_due, other) =
    let start = other.start in
    let fails = others_fail other.front other.byte other.rest other.are_acts other.is_none in
    let acts_fail : list_all is_act other.acts ≡ false = ap (list_all is_act) other.bytes ∙ fails.0 in
    let found : prefix_len is_act other.acts ≡ length other.front = ap (prefix_len is_act) other.bytes ∙ fails.1 in
    let column_is : other_column line other.acts ≡ column =
    omega (arith, found, other.column_is, ap length other.place, length-append other.head other.acts) in (
      whole.short,
      ap (λ d. line_fault d number line) is_due
          ∙ parts_known start.x start.y other.acts line start.parts (agent_fault number before line) (Some (BadAct at column))
          (λ e. cond-true _ _ _ (and_from (is_below 65536 start.x) _ (coordinate-test start.x start.is_x) (coordinate-test start.y start.is_y))
          ∙ other_known other.acts (no_act ∷ []) other.some (acts_fault number before line other.acts) (Some (BadAct at column))
          (λ k. cond-false _ _ _ acts_fail ∙ (ap (λ n. Some (BadAct n (other_column line other.acts))) (sym same) ∙ ap (λ n. Some (BadAct at n)) column_is))),
    )
found-from_HasFault (Unfinished at) due number line is h = absurd (let bad = h.1 in cc)
found-from_HasFault (TextAfter at) due number line is h = absurd (h.1 is)
found-from_HasFault ReadFailed due number line is h = absurd h
found-from_HasFault OutOfMemory due number line is h = absurd h
