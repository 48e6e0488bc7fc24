-- What is said line by line is the plan that a text spells, or its first fault.
use Rattle.std.proofs.Common.{◌≡◌, ℕ, zero, suc, ◌+◌, ◌<◌, ◌≤◌, ◌⊎◌, inl, inr, true, List, [], ◌∷◌}
use Rattle.std.proofs.Common.{◌++◌, length, take, drop, refl, sym, ap, ◌∙◌, subst, arith}
use Rattle.std.proofs.Common.{append_assoc, append-nil, length-append, length-take, codes}
use Rattle.std.proofs.lemmas.Bool.{cases_lt}
use Rattle.std.proofs.lemmas.List.{take-append-drop, nil_from_length}
use Rattle.text_io.specs.Text.{lines_of, ended, ends_in_line_feed}
use Rattle.text_io.specs.Reading.{by_line_feed, Place, at_line_feed, at_byte, JudgedAt, StandsIn, StopsIn, IsByte, IsFirstFault, line_number}
use Rattle.model.specs.Plan.{Course, Plan}
use Rattle.plan_text.specs.declared.plan_text_fault.PlanTextFault.{PlanTextFault}
use Rattle.plan_text.specs.declared.plan_text_fault.PlanTextFault.TheVariants.{TooMany, Unfinished, TextAfter}
use Rattle.plan_text.specs.Limits.{acts_in, IsPlan}
use Rattle.plan_text.specs.PlanText.{SpellsCourse, AreCourses, SaysNumber, PlanText}
use Rattle.plan_text.specs.PlanTextFault.{PlanDue, header_due, number_due, agents_due, agent_due, PlanFollows, IsLineDue, longest_plan_line, HasPlanTextFault, PlanTextFaultAt}
use Rattle.plan_text.specs.Code.PlanLines.{PlanAdds, PlanSaid, HasReadPlan, PlanLeads}
use Rattle.plan_text.proofs.LimitLemmas.{acts_in-push, IsPlan-push}
use Rattle.plan_text.proofs.LineSays.{says_more, says_fault, line_says}
use Rattle.plan_text.proofs.TextScanned.{Last, WrittenEnd, due_or_not}

-- ---- one more right line

Follows-from_Adds : (due : PlanDue) (p : Plan) (line : List ℕ) (next : PlanDue) (q : Plan) → PlanAdds due p line next q → PlanFollows due line next
Follows-from_Adds header_due p line next q h = (h.0, h.1)
Follows-from_Adds number_due p line next q h = (h.0, h.1, h.2, h.3)
Follows-from_Adds agents_due p line next q h = (h.0, h.1, h.2, h.3)
Follows-from_Adds (agent_due zero acts) p line next q h = h
Follows-from_Adds (agent_due (suc left) acts) p line next q h = (h.0, h.1, h.2, h.3, h.4)

leads_push : (first : PlanDue) (before : List (List ℕ)) (due : PlanDue) (line : List ℕ) (next : PlanDue) → PlanLeads first before due → PlanFollows due line next
    → PlanLeads first (before ++ line ∷ []) next
leads_push first [] due line next is h = (next, subst (λ d. PlanFollows d line next) is h, refl)
leads_push first (l ∷ before) due line next h k = (h.0, h.1, leads_push h.0 before due line next h.2 k)

AreCourses-push : (courses : List Course) (lines : List (List ℕ)) (course : Course) (line : List ℕ) → AreCourses courses lines → SpellsCourse course line
    → AreCourses (courses ++ course ∷ []) (lines ++ line ∷ [])
AreCourses-push courses [] course line h k = (course, [], ap (λ cs. cs ++ course ∷ []) h, k, refl)
AreCourses-push courses (l ∷ lines) course line h k =
    (h.0, h.1 ++ course ∷ [], ap (λ cs. cs ++ course ∷ []) h.2, h.3, AreCourses-push h.1 lines course line h.4 k)

said_push : (due : PlanDue) (p : Plan) (lines : List (List ℕ)) (line : List ℕ) (next : PlanDue) (q : Plan) → PlanSaid due p lines → PlanAdds due p line next q
    → PlanSaid next q (lines ++ line ∷ [])
said_push header_due p lines line next q said h =
    subst (λ d. PlanSaid d q (lines ++ line ∷ [])) (sym h.1) (ap (λ ls. ls ++ line ∷ []) said ∙ ap (λ l. l ∷ []) h.0)
said_push number_due p lines line next q said h =
    subst (λ d. PlanSaid d q (lines ++ line ∷ [])) (sym h.3) (
      line,
      ap (λ ls. ls ++ line ∷ []) said,
      subst (λ n. SaysNumber (codes "number ") n line) (sym (ap (λ r. r.number) h.4)) h.1,
      ap (λ r. r.courses) h.4,
    )
said_push agents_due p lines line next q said h =
    let none : q.courses ≡ [] = ap (λ r. r.courses) h.4 ∙ said.3 in
    let count : length q.courses + h.0 ≡ h.0 = omega (arith, ap length none) in
    subst (λ d. PlanSaid d q (lines ++ line ∷ [])) (sym h.3) (
      said.0,
      line,
      [],
      ap (λ ls. ls ++ line ∷ []) said.1,
      subst (λ n. SaysNumber (codes "number ") n said.0) (sym (ap (λ r. r.number) h.4)) said.2,
      subst (λ n. SaysNumber (codes "agents ") n line) (sym count) h.1,
      omega (arith, count, h.2),
      none,
      sym (ap acts_in none),
    )
said_push (agent_due zero acts) p lines line next q said h = absurd h
said_push (agent_due (suc left) acts) p lines line next q said h =
    let course = h.0 in
    let courses : q.courses ≡ p.courses ++ course ∷ [] = ap (λ r. r.courses) h.5 in
    let sum = acts_in-push p.courses course in
    let count : length q.courses + left ≡ length p.courses + suc left = omega (arith, ap length courses, length-append p.courses (course ∷ [])) in
    subst (λ d. PlanSaid d q (lines ++ line ∷ [])) (sym h.4) (
      said.0,
      said.1,
      said.2 ++ line ∷ [],
      ap (λ ls. ls ++ line ∷ []) said.3,
      subst (λ n. SaysNumber (codes "number ") n said.0) (sym (ap (λ r. r.number) h.5)) said.4,
      subst (λ n. SaysNumber (codes "agents ") n said.1) (sym count) said.5,
      omega (arith, count, said.6),
      subst (λ cs. AreCourses cs (said.2 ++ line ∷ [])) (sym courses) (AreCourses-push p.courses said.2 course line said.7 h.1),
      omega (arith, said.8, sum) ∙ ap acts_in (sym courses),
    )

within_push : (due : PlanDue) (p : Plan) (lines : List (List ℕ)) (line : List ℕ) (next : PlanDue) (q : Plan) → PlanSaid due p lines → IsPlan p
    → PlanAdds due p line next q → IsPlan q
within_push header_due p lines line next q said is h = subst IsPlan (sym h.2) is
within_push number_due p lines line next q said is h =
    subst IsPlan (sym h.4) (record { number_limit = h.2; agent_limit = omega arith; courses = tt; acts_limit = omega arith })
within_push agents_due p lines line next q said is h = subst IsPlan (sym h.4) is
within_push (agent_due zero acts) p lines line next q said is h = absurd h
within_push (agent_due (suc left) acts) p lines line next q said is h =
    subst IsPlan (sym h.5)
    (IsPlan-push p.number p.courses h.0 is (omega (arith, said.6)) h.2 (omega (arith, said.8, h.3)))

-- a right line, and what it adds
pub HasRead-push : (due : PlanDue) (p : Plan) (lines : List (List ℕ)) (line : List ℕ) (next : PlanDue) (q : Plan) → HasReadPlan due p lines
    → PlanAdds due p line next q → HasReadPlan next q (lines ++ line ∷ [])
HasRead-push due p lines line next q h added = record {
  right = leads_push header_due lines due line next h.right (Follows-from_Adds due p line next q added);
  said = said_push due p lines line next q h.said added;
  within = within_push due p lines line next q h.said h.within added;
}

-- no line was read
pub HasRead-none : (p : Plan) → IsPlan p → HasReadPlan header_due p []
HasRead-none p is = record { right = refl; said = refl; within = is }

-- all the lines that are due were read
pub PlanText-from_read : (due : PlanDue) (p : Plan) (lines : List (List ℕ)) (text : List ℕ) → HasReadPlan due p lines → (IsLineDue due → ⊥)
    → text ≡ ended lines → PlanText p text
PlanText-from_read header_due p lines text h none is = absurd (none tt)
PlanText-from_read number_due p lines text h none is = absurd (none tt)
PlanText-from_read agents_due p lines text h none is = absurd (none tt)
PlanText-from_read (agent_due (suc left) acts) p lines text h none is = absurd (none tt)
PlanText-from_read (agent_due zero acts) p lines text h none is =
    let said = h.said in
    let count : length p.courses + 0 ≡ length p.courses = omega arith in
    record {
      number_line = said.0;
      agents_line = said.1;
      agent_lines = said.2;
      lines = is ∙ ap ended said.3;
      is_number = said.4;
      is_agents = subst (λ n. SaysNumber (codes "agents ") n said.1) count said.5;
      are_courses = said.7;
      within = h.within;
    }

-- ---- a whole text

-- what a text is: it spells a plan, or has a first fault
pub data Reading (text : List ℕ) : Type 0 where
  spelled : (p : Plan) (spells : PlanText p text) → Reading text
  faulty : (fault : PlanTextFault) (first : IsFirstFault PlanTextFaultAt fault text) → Reading text

-- a place that stands in a text is found in it
abbrev pub Found : Type 0
Found = (text : List ℕ) (place : Place) (before : List (List ℕ)) (line : List ℕ) → IsByte place → StandsIn by_line_feed place before line text
    → (front rest : List ℕ) × (text ≡ front ++ rest) × JudgedAt by_line_feed place before line front

module _ (found : Found) (last : Last) (end : WrittenEnd) (text tail : List ℕ) (all : List (List ℕ)) (stops : StopsIn by_line_feed all tail text) where
  -- a fault that stands at a byte is the first
  decided : (fault : PlanTextFault) (place : Place) (before : List (List ℕ)) (line : List ℕ) (due : PlanDue) → IsByte place
      → StandsIn by_line_feed place before line text → PlanLeads header_due before due → HasPlanTextFault fault place due (line_number before) line
      → Reading text
  decided fault place before line due byte stands right h =
      let at = found text place before line byte stands in
      faulty fault
      (inl (at.0, at.1, place, at.2, byte, record { before = before; line = line; due = due; judged = at.3; right = right; faulty = h }))

  -- what follows lines of the text
  pub data Behind (before : List (List ℕ)) (line : List ℕ) : Type 0 where
    behind : (after : List (List ℕ)) (lines : lines_of text ≡ before ++ line ∷ after) (feed : after ≡ [] → ends_in_line_feed text ≡ true) → Behind before line

  behind_line : (before : List (List ℕ)) (line : List ℕ) (rest : List (List ℕ)) → all ≡ before ++ line ∷ rest → Behind before line
  behind_line before line rest parts = go (last text all tail stops)
    where
      ends : (lines : List (List ℕ)) → all ≡ lines → lines ≡ [] → ⊥
      ends [] e k = bad before (sym parts ∙ e)
        where
          bad : (ls : List (List ℕ)) → ls ++ line ∷ rest ≡ [] → ⊥
          bad [] e = cc
          bad (l ∷ ls) e = cc
      ends (l ∷ lines) e k = cc

      written : (lines : List (List ℕ)) → all ≡ lines → tail ≡ [] → ends_in_line_feed text ≡ true
      written [] e k = absurd (ends [] e refl)
      written (l ∷ lines) e k =
          ap ends_in_line_feed (stops.0 ∙ (ap (λ t. ended all ++ t) k ∙ (append-nil (ended all) ∙ ap ended e))) ∙ end l lines

      go : ((tail ≡ []) × (lines_of text ≡ all)) ⊎ ((0 < length tail) × (lines_of text ≡ all ++ tail ∷ [])) → Behind before line
      go (inl (none, lines)) = behind rest (lines ∙ parts) (λ _. written all refl none)
      go (inr (some, lines)) =
          behind (rest ++ tail ∷ []) (lines ∙ (ap (λ ls. ls ++ tail ∷ []) parts ∙ append_assoc before (line ∷ rest) (tail ∷ [])))
          (λ e. absurd (bad rest e))
        where
          bad : (ls : List (List ℕ)) → ls ++ tail ∷ [] ≡ [] → ⊥
          bad [] e = cc
          bad (l ∷ ls) e = cc

  -- a line with its LF
  whole_line : (before : List (List ℕ)) (line : List ℕ) (rest : List (List ℕ)) → all ≡ before ++ line ∷ rest → StandsIn by_line_feed at_line_feed before line text
  whole_line before line rest parts = elim (behind_line before line rest parts) [ behind after lines feed ↦ (after, lines, feed) ]

  -- a beginning of a line with its LF
  line_begun : (before : List (List ℕ)) (line : List ℕ) (rest : List (List ℕ)) (n : ℕ) → all ≡ before ++ line ∷ rest → 0 < length (take n line)
      → StandsIn by_line_feed at_byte before (take n line) text
  line_begun before line rest n parts some = elim (behind_line before line rest parts) [
    | behind after lines feed ↦ (some, drop n line, after, lines ∙ ap (λ l. before ++ l ∷ after) (sym (take-append-drop n line)))
  ]

  -- a beginning of what follows the last LF
  tail_begun : (n : ℕ) → 0 < length (take n tail) → StandsIn by_line_feed at_byte all (take n tail) text
  tail_begun n some = go (last text all tail stops)
    where
      go : ((tail ≡ []) × (lines_of text ≡ all)) ⊎ ((0 < length tail) × (lines_of text ≡ all ++ tail ∷ [])) → StandsIn by_line_feed at_byte all (take n tail) text
      go (inl (none, lines)) = absurd (omega (arith, length-take n tail, ap length none))
      go (inr (any, lines)) = (some, drop n tail, [], lines ∙ ap (λ l. all ++ l ∷ []) (sym (take-append-drop n tail)))

  one_byte : (line : List ℕ) → 0 < length line → (b : ℕ) × (take 1 line ≡ b ∷ [])
  one_byte [] some = absurd (omega arith)
  one_byte (b ∷ line) some = (b, refl)

  -- behind all lines that have an LF
  at_tail : (due : PlanDue) (p : Plan) → HasReadPlan due p all → Reading text
  at_tail due p h = go (due_or_not due) (cases_lt longest_plan_line (length tail)) (cases_lt 0 (length tail))
    where
      go : IsLineDue due ⊎ (IsLineDue due → ⊥) → (longest_plan_line < length tail) ⊎ (length tail ≤ longest_plan_line)
          → (0 < length tail) ⊎ (length tail ≤ 0) → Reading text
      go (inl is) (inl long) some =
          let count : length (take (longest_plan_line + 1) tail) ≡ longest_plan_line + 1 = omega (arith, length-take (longest_plan_line + 1) tail, long) in
          decided (TooMany (line_number all)) at_byte all (take (longest_plan_line + 1) tail) due tt
          (tail_begun (longest_plan_line + 1) (omega (arith, count))) h.right (refl, inl (refl, is, count))
      go (inl is) (inr short) some =
          faulty (Unfinished (line_number all))
          (inr (record { before = all; line = tail; due = due; judged = stops; right = h.right; faulty = (refl, refl, is, short) }))
      go (inr none) long (inl some) =
          let first = one_byte tail some in
          decided (TextAfter (line_number all)) at_byte all (take 1 tail) due tt
          (tail_begun 1 (omega (arith, length-take 1 tail, some))) h.right (refl, none, inr (refl, first.0, first.1))
      go (inr none) long (inr empty) =
          let nothing : tail ≡ [] = nil_from_length tail (omega (arith, empty)) in
          spelled p (PlanText-from_read due p all text h none (stops.0 ∙ (ap (λ t. ended all ++ t) nothing ∙ append-nil (ended all))))

  -- behind right lines
  read_on : (before : List (List ℕ)) (rest : List (List ℕ)) → all ≡ before ++ rest → (due : PlanDue) (p : Plan) → HasReadPlan due p before → Reading text
  read_on before [] parts due p h = at_tail due p (subst (HasReadPlan due p) (sym (parts ∙ append-nil before)) h)
  read_on before (line ∷ rest) parts due p h =
      go (due_or_not due) (cases_lt longest_plan_line (length line)) (cases_lt 0 (length line))
      (λ next q k. read_on (before ++ line ∷ []) rest (parts ∙ sym (append_assoc before (line ∷ []) rest)) next q k)
    where
      go : IsLineDue due ⊎ (IsLineDue due → ⊥) → (longest_plan_line < length line) ⊎ (length line ≤ longest_plan_line)
          → (0 < length line) ⊎ (length line ≤ 0)
          → ((next : PlanDue) (q : Plan) → HasReadPlan next q (before ++ line ∷ []) → Reading text) → Reading text
      go (inr none) long (inl some) later =
          let first = one_byte line some in
          decided (TextAfter (line_number before)) at_byte before (take 1 line) due tt
          (line_begun before line rest 1 parts (omega (arith, length-take 1 line, some))) h.right (refl, none, inr (refl, first.0, first.1))
      go (inr none) long (inr empty) later =
          decided (TextAfter (line_number before)) at_line_feed before line due tt (whole_line before line rest parts) h.right
          (refl, none, inl (refl, nil_from_length line (omega (arith, empty))))
      go (inl is) (inl long) some later =
          let count : length (take (longest_plan_line + 1) line) ≡ longest_plan_line + 1 = omega (arith, length-take (longest_plan_line + 1) line, long) in
          decided (TooMany (line_number before)) at_byte before (take (longest_plan_line + 1) line) due tt
          (line_begun before line rest (longest_plan_line + 1) parts (omega (arith, count))) h.right (refl, inl (refl, is, count))
      go (inl is) (inr short) some later = elim (line_says due p before (line_number before) line h is short) [
        | says_more next q added ↦ later next q (HasRead-push due p before line next q h added)
        | says_fault fault bad ↦ decided fault at_line_feed before line due tt (whole_line before line rest parts) h.right bad
      ]

-- each text has a reading
pub reading_of : Found → Last → WrittenEnd → (text tail : List ℕ) (all : List (List ℕ)) → StopsIn by_line_feed all tail text → Reading text
reading_of found last end text tail all stops =
    let none : Plan = record { number = 0; courses = [] } in
    read_on found last end text tail all stops [] all refl header_due none
    (HasRead-none none (record { number_limit = omega arith; agent_limit = omega arith; courses = tt; acts_limit = omega arith }))
