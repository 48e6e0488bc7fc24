-- A line that is due adds to the plan, or has a fault.
use Rattle.std.proofs.Common.{◌≡◌, ◌≢◌, ℕ, zero, suc, ◌+◌, ◌-◌, ◌^◌, ◌<◌, ◌≤◌, ◌⊎◌, inl, inr, true, false, List, [], ◌∷◌, ◌++◌, length, map, refl, sym, ap, ◌∙◌, arith, IsTrue, codes, append_assoc}
use Rattle.std.specs.Prelude.{◌&&◌, ◌||◌, ◌==◌}
use Rattle.std.specs.List.{list_all, prefix_len, join_with_byte}
use Rattle.std.proofs.lemmas.Bool.{cond-true, cond-false, both_ways, cases_Bool, cases_eq, cases_lt, and_parts, and_from, or_from, ne_eqb}
use Rattle.std.proofs.lemmas.List.{append_cancel_left, length-append, length-map}
use Rattle.std.proofs.lemmas.List.Splits.{join_with_byte-slice_split}
use Rattle.text_io.specs.Text.{space, BeginsWith}
use Rattle.text_io.specs.Reading.{at_line_feed}
use Rattle.model.specs.Plan.{Course, Plan}
use Rattle.plan_text.specs.declared.plan_text_fault.PlanTextFault.{PlanTextFault}
use Rattle.plan_text.specs.declared.plan_text_fault.PlanTextFault.TheVariants.{BadHeader, BadNumber, TooMany, BadAgent, BadAct}
use Rattle.plan_text.specs.Limits.{most_agents, most_acts, most_acts_in_all, acts_in, IsCourse}
use Rattle.plan_text.specs.PlanText.{act_character, no_act, acts_text, SaysNumber, SpellsCourse, header}
use Rattle.text_io.specs.Numerals.{IsNumeral, is_numeral, numeral_value, is_below}
use Rattle.plan_text.specs.PlanTextFault.{PlanDue, header_due, number_due, agents_due, agent_due}
use Rattle.plan_text.specs.PlanTextFault.{IsLineDue, longest_plan_line, IsWholeLine, HasParts}
use Rattle.plan_text.specs.PlanTextFault.{IsCoordinate, is_act, HasStart, HasOtherAct}
use Rattle.plan_text.specs.PlanTextFault.{HasPlanTextFault}
use Rattle.plan_text.specs.Code.PlanLines.{act_by, PlanAdds, HasReadPlan}
use Rattle.text_io.specs.Laws.Numerals.{IsNumeral-from_test, test-from_IsNumeral, below-from_IsNumeral, IsNumeral-from_below}
use Rattle.text_io.specs.Laws.Parts.{same_or_not, begins_or_not}
use Rattle.plan_text.proofs.LineDecisions.{PartsOrNone, parts_or_none, coordinate-test, coordinate-from_test}

-- ---- acts

-- the act of a character has that character
act_character-by : (b : ℕ) → is_act b ≡ true → act_character (act_by b) ≡ b
act_character-by b h = go (cases_eq b 110) (cases_eq b 101) (cases_eq b 115) (cases_eq b 119) (cases_eq b 45)
  where
    known : (k : ℕ) → b ≡ k → act_character (act_by k) ≡ k → act_character (act_by b) ≡ b
    known k e is = ap (λ c. act_character (act_by c)) e ∙ (is ∙ sym e)

    go : (b ≡ 110) ⊎ (b ≡ 110 → ⊥) → (b ≡ 101) ⊎ (b ≡ 101 → ⊥) → (b ≡ 115) ⊎ (b ≡ 115 → ⊥) → (b ≡ 119) ⊎ (b ≡ 119 → ⊥) → (b ≡ 45) ⊎ (b ≡ 45 → ⊥)
        → act_character (act_by b) ≡ b
    go (inl n) e s w r = known 110 n refl
    go (inr n) (inl e) s w r = known 101 e refl
    go (inr n) (inr e) (inl s) w r = known 115 s refl
    go (inr n) (inr e) (inr s) (inl w) r = known 119 w refl
    go (inr n) (inr e) (inr s) (inr w) (inl r) = known 45 r refl
    go (inr n) (inr e) (inr s) (inr w) (inr r) =
        absurd (both_ways (is_act b)
        (or_from (b == 110 || b == 101 || b == 115 || b == 119) (b == 45)
        (or_from (b == 110 || b == 101 || b == 115) (b == 119)
        (or_from (b == 110 || b == 101) (b == 115) (or_from (b == 110) (b == 101) (ne_eqb b 110 n) (ne_eqb b 101 e)) (ne_eqb b 115 s)) (ne_eqb b 119 w))
        (ne_eqb b 45 r)) h)

pub characters-by : (bytes : List ℕ) → IsTrue (list_all is_act bytes) → map act_character (map act_by bytes) ≡ bytes
characters-by [] h = refl
characters-by (b ∷ bytes) h =
    let parts = and_parts (is_act b) (list_all is_act bytes) h in
    ap (λ c. c ∷ map act_character (map act_by bytes)) (act_character-by b parts.0)
    ∙ ap (λ cs. b ∷ cs) (characters-by bytes parts.1)

-- characters of acts spell those acts
pub acts_text-by : (bytes : List ℕ) → 0 < length bytes → IsTrue (list_all is_act bytes) → bytes ≡ acts_text (map act_by bytes)
acts_text-by [] some h = absurd (omega arith)
acts_text-by (b ∷ bytes) some h = sym (characters-by (b ∷ bytes) h)

-- the first byte that is no act, and the acts before it
pub record OtherSplit (bytes : List ℕ) : Type 0 where
  pub front : List ℕ
  pub byte : ℕ
  pub rest : List ℕ
  pub is : bytes ≡ front ++ byte ∷ rest
  pub are_acts : IsTrue (list_all is_act front)
  pub is_none : is_act byte ≡ false
  pub count : length front ≡ prefix_len is_act bytes

other_split : (bytes : List ℕ) → list_all is_act bytes ≡ false → OtherSplit bytes
other_split [] h = absurd (cc)
other_split (b ∷ bytes) h = go (cases_Bool (is_act b)) (λ k. other_split bytes k)
  where
    go : (is_act b ≡ true) ⊎ (is_act b ≡ false) → (list_all is_act bytes ≡ false → OtherSplit bytes) → OtherSplit (b ∷ bytes)
    go (inr none) behind = record {
      front = [];
      byte = b;
      rest = bytes;
      is = refl;
      are_acts = refl;
      is_none = none;
      count = sym (cond-false (is_act b) _ _ none);
    }
    go (inl pass) behind =
        let later = behind (sym (ap (λ t. t && list_all is_act bytes) pass) ∙ h) in
        record {
          front = b ∷ later.front;
          byte = later.byte;
          rest = later.rest;
          is = ap (λ xs. b ∷ xs) later.is;
          are_acts = and_from (is_act b) _ pass later.are_acts;
          is_none = later.is_none;
          count =
              let sum : length (b ∷ later.front) ≡ 1 + prefix_len is_act bytes = omega (arith, later.count) in
              sum ∙ sym (cond-true (is_act b) _ _ pass);
        }

-- ---- the parts of an agent's line

-- the line is its parts with a space between each two
pub HasParts-line : (x y acts line : List ℕ) → HasParts x y acts line → line ≡ join_with_byte space (codes "agent" ∷ x ∷ y ∷ acts ∷ [])
HasParts-line x y acts line h = sym (join_with_byte-slice_split space line) ∙ ap (join_with_byte space) h.parts

pub SpellsCourse-from_parts : (course : Course) (x y acts line : List ℕ) → HasParts x y acts line → IsNumeral course.start.x x → IsNumeral course.start.y y
    → acts ≡ acts_text course.acts → SpellsCourse course line
SpellsCourse-from_parts course x y acts line h is_x is_y is_acts = record {
  x = x;
  y = y;
  bytes = HasParts-line x y acts line h ∙ ap (λ a. join_with_byte space (codes "agent" ∷ x ∷ y ∷ a ∷ [])) is_acts;
  is_x = is_x;
  is_y = is_y;
}

-- what stands before the acts
abbrev before_acts : List ℕ → List ℕ → List ℕ
before_acts x y = codes "agent" ++ (space ∷ (x ++ (space ∷ (y ++ space ∷ []))))

before_acts-line : (x y acts : List ℕ) → join_with_byte space (codes "agent" ∷ x ∷ y ∷ acts ∷ []) ≡ before_acts x y ++ acts
before_acts-line x y acts = simp append_assoc

-- the acts are no longer than their line
pub acts-le-line : (x y acts line : List ℕ) → HasParts x y acts line → length acts ≤ length line
acts-le-line x y acts line h =
    omega (arith, ap length (HasParts-line x y acts line h ∙ before_acts-line x y acts), length-append (before_acts x y) acts)

pub HasOtherAct-from_parts : (x y acts line : List ℕ) (column : ℕ) → HasParts x y acts line → IsCoordinate x → IsCoordinate y → acts ≢ no_act ∷ []
    → list_all is_act acts ≡ false → column ≡ length line - length acts + prefix_len is_act acts + 1 → HasOtherAct line column
HasOtherAct-from_parts x y acts line column h is_x is_y some others at =
    let split = other_split acts others in
    let place : line ≡ before_acts x y ++ acts = HasParts-line x y acts line h ∙ before_acts-line x y acts in
    record {
      acts = acts;
      start = record { x = x; y = y; parts = h; is_x = is_x; is_y = is_y };
      some = some;
      front = split.front;
      byte = split.byte;
      rest = split.rest;
      bytes = split.is;
      are_acts = split.are_acts;
      is_none = split.is_none;
      head = before_acts x y;
      place = place;
      column_is = omega (arith, at, split.count, ap length place, length-append (before_acts x y) acts);
    }

-- ---- what a line says

-- the line adds to the plan, or has a fault
pub data LineSays (due : PlanDue) (p : Plan) (number : ℕ) (line : List ℕ) : Type 0 where
  says_more : (next : PlanDue) (q : Plan) (adds : PlanAdds due p line next q) → LineSays due p number line
  says_fault : (fault : PlanTextFault) (faulty : HasPlanTextFault fault at_line_feed due number line) → LineSays due p number line

module _ (p : Plan) (number : ℕ) (line : List ℕ) (whole : IsWholeLine at_line_feed line) where
  header_says : (line ≡ header) ⊎ (line ≢ header) → LineSays header_due p number line
  header_says (inl is) = says_more number_due p (is, refl, refl)
  header_says (inr other) = says_fault (BadHeader number) (refl, whole, other)

  number_says : BeginsWith (codes "number ") line ⊎ (BeginsWith (codes "number ") line → ⊥) → LineSays number_due p number line
  number_says (inr none) = says_fault (BadHeader number) (refl, whole, none)
  number_says (inl (digits, is)) = go (cases_Bool (is_below (2 ^ 32) digits))
    where
      go : (is_below (2 ^ 32) digits ≡ true) ⊎ (is_below (2 ^ 32) digits ≡ false) → LineSays number_due p number line
      go (inl e) =
          let k = IsNumeral-from_below (2 ^ 32) digits e in
          says_more agents_due (record { number = numeral_value digits; courses = [] }) (numeral_value digits, (digits, is, k.0), k.1, refl, refl)
      go (inr e) = says_fault (BadNumber number) (refl, whole, ((digits, is), λ n says small. none n says small))
        where
          none : (n : ℕ) → SaysNumber (codes "number ") n line → n < 2 ^ 32 → ⊥
          none n says small =
              let same : says.0 ≡ digits = append_cancel_left (codes "number ") says.0 digits (sym says.1 ∙ is) in
              both_ways (is_below (2 ^ 32) digits) e (sym (ap (is_below (2 ^ 32)) same) ∙ below-from_IsNumeral (2 ^ 32) n says.0 says.2 small)

  agents_says : BeginsWith (codes "agents ") line ⊎ (BeginsWith (codes "agents ") line → ⊥) → LineSays agents_due p number line
  agents_says (inr none) = says_fault (BadHeader number) (refl, whole, none)
  agents_says (inl (digits, is)) = go (cases_Bool (is_numeral digits))
    where
      go : (is_numeral digits ≡ true) ⊎ (is_numeral digits ≡ false) → LineSays agents_due p number line
      go (inl e) = limit (cases_lt most_agents (numeral_value digits))
        where
          says : SaysNumber (codes "agents ") (numeral_value digits) line
          says = (digits, is, IsNumeral-from_test digits e)

          limit : (most_agents < numeral_value digits) ⊎ (numeral_value digits ≤ most_agents) → LineSays agents_due p number line
          limit (inl many) = says_fault (TooMany number) (refl, inr (whole, (numeral_value digits, says, many)))
          limit (inr few) = says_more (agent_due (numeral_value digits) 0) p (numeral_value digits, says, few, refl, refl)
      go (inr e) = says_fault (BadNumber number) (refl, whole, ((digits, is), λ n says. none n says))
        where
          none : (n : ℕ) → SaysNumber (codes "agents ") n line → ⊥
          none n says =
              let same : says.0 ≡ digits = append_cancel_left (codes "agents ") says.0 digits (sym says.1 ∙ is) in
              both_ways (is_numeral digits) e (sym (ap is_numeral same) ∙ test-from_IsNumeral n says.0 says.2)

  -- the line of an agent, where some agents are left and those before have so many acts
  module _ (left before : ℕ) (fits : before ≤ most_acts_in_all) where
    acts_say : (x y acts : List ℕ) → HasParts x y acts line → is_below 65536 x ≡ true → is_below 65536 y ≡ true → (acts ≡ no_act ∷ []) ⊎ (acts ≢ no_act ∷ [])
        → LineSays (agent_due (suc left) before) p number line
    acts_say x y acts has is_x is_y (inl none) =
        let kx = IsNumeral-from_below 65536 x is_x in
        let ky = IsNumeral-from_below 65536 y is_y in
        let course : Course = record { start = record { x = numeral_value x; y = numeral_value y }; acts = [] } in
        let spells : SpellsCourse course line = SpellsCourse-from_parts course x y acts line has kx.0 ky.0 none in
        let keeps : IsCourse course = record { column = kx.1; row = ky.1; acts_limit = omega arith } in
        says_more (agent_due left (before + 0)) (record p { courses = p.courses ++ course ∷ [] }) (course, spells, keeps, omega arith, refl, refl)
    acts_say x y acts has is_x is_y (inr some) = go (cases_Bool (list_all is_act acts)) (cases_lt most_acts (length acts)) (cases_lt most_acts_in_all (before + length acts))
      where
        start : HasStart acts line
        start = record { x = x; y = y; parts = has; is_x = coordinate-from_test x is_x; is_y = coordinate-from_test y is_y }

        go : (list_all is_act acts ≡ true) ⊎ (list_all is_act acts ≡ false) → (most_acts < length acts) ⊎ (length acts ≤ most_acts)
            → (most_acts_in_all < before + length acts) ⊎ (before + length acts ≤ most_acts_in_all)
            → LineSays (agent_due (suc left) before) p number line
        go (inr others) few all =
            says_fault (BadAct number (length line - length acts + prefix_len is_act acts + 1)) (
              refl,
              whole,
              left,
              before,
              refl,
              HasOtherAct-from_parts x y acts line _ has start.is_x start.is_y some others refl,
            )
        go (inl pass) (inl many) all = says_fault (TooMany number) (refl, inr (whole, (acts, start, pass, inl many)))
        go (inl pass) (inr few) (inl many) = says_fault (TooMany number) (refl, inr (whole, (acts, start, pass, inr many)))
        go (inl pass) (inr few) (inr all) =
            let kx = IsNumeral-from_below 65536 x is_x in
            let ky = IsNumeral-from_below 65536 y is_y in
            let course : Course = record { start = record { x = numeral_value x; y = numeral_value y }; acts = map act_by acts } in
            let count : length (map act_by acts) ≡ length acts = length-map acts act_by in
            let spells : SpellsCourse course line = SpellsCourse-from_parts course x y acts line has kx.0 ky.0 (acts_text-by acts has.some_acts pass) in
            let keeps : IsCourse course = record { column = kx.1; row = ky.1; acts_limit = omega (arith, count, few) } in
            says_more (agent_due left (before + length course.acts)) (record p { courses = p.courses ++ course ∷ [] }) (
              course,
              spells,
              keeps,
              omega (arith, count, all),
              refl,
              refl,
            )

    parts_say : PartsOrNone line → LineSays (agent_due (suc left) before) p number line
    parts_say (inr none) = says_fault (BadAgent number) (refl, whole, left, before, refl, none)
    parts_say (inl (x, y, acts, has)) = go (cases_Bool (is_below 65536 x)) (cases_Bool (is_below 65536 y))
      where
        go : (is_below 65536 x ≡ true) ⊎ (is_below 65536 x ≡ false) → (is_below 65536 y ≡ true) ⊎ (is_below 65536 y ≡ false)
            → LineSays (agent_due (suc left) before) p number line
        go (inl is_x) (inl is_y) = acts_say x y acts has is_x is_y (same_or_not acts (no_act ∷ []))
        go (inr none) is_y =
            says_fault (BadNumber number) (refl, whole, (x, y, acts, has, inl (λ k. both_ways (is_below 65536 x) none (coordinate-test x k))))
        go (inl is_x) (inr none) =
            says_fault (BadNumber number) (refl, whole, (x, y, acts, has, inr (λ k. both_ways (is_below 65536 y) none (coordinate-test y k))))

-- what a line says that is due
pub line_says : (due : PlanDue) (p : Plan) (lines : List (List ℕ)) (number : ℕ) (line : List ℕ) → HasReadPlan due p lines → IsLineDue due
    → length line ≤ longest_plan_line → LineSays due p number line
line_says header_due p lines number line h is short =
    header_says p number line (record { ended = refl; short = short }) (same_or_not line header)
line_says number_due p lines number line h is short =
    number_says p number line (record { ended = refl; short = short }) (begins_or_not (codes "number ") line)
line_says agents_due p lines number line h is short =
    agents_says p number line (record { ended = refl; short = short }) (begins_or_not (codes "agents ") line)
line_says (agent_due zero before) p lines number line h is short = absurd is
line_says (agent_due (suc left) before) p lines number line h is short =
    let acts : before ≡ acts_in p.courses = h.said.8 in
    parts_say p number line (record { ended = refl; short = short }) left before (omega (arith, acts, h.within.acts_limit)) (parts_or_none line)
