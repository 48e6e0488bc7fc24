-- The first fault of a text, found line by line.
use Rattle.std.proofs.Common.{◌≡◌, ℕ, zero, suc, ◌+◌, ◌<◌, ◌≤◌, ◌⊎◌, inl, inr, min, Bool, true}
use Rattle.std.proofs.Common.{false, cond, List, [], ◌∷◌, ◌++◌, length, map, Option, Some, None}
use Rattle.std.proofs.Common.{refl, sym, ap, ◌∙◌, subst, arith, append-nil, codes, length-append}
use Rattle.std.specs.Prelude.{nat_lt, ◌==◌}
use Rattle.std.specs.List.{AllByRecursion}
use Rattle.std.proofs.lemmas.Bool.{cond-true, cond-false, lt-ltb, le-ltb, both_ways, and_parts}
use Rattle.text_io.specs.Counted.{greatest}
use Rattle.text_io.specs.Text.{IsLine, lines_of, ended, ends_in_line_feed, line_feed, is_line_byte}
use Rattle.text_io.specs.Reading.{by_line_feed, Place, at_line_feed, at_byte, at_end, JudgedAt, StandsIn, StopsIn, IsByte, Decides, IsFirstFault, line_number}
use Rattle.model.specs.Plan.{Course, Plan}
use Rattle.plan_text.specs.declared.plan_text_fault.PlanTextFault.{PlanTextFault}
use Rattle.plan_text.specs.declared.plan_text_fault.PlanTextFault.TheVariants.{BadHeader, BadNumber, TooMany, BadAgent, BadAct, Unfinished, TextAfter, ReadFailed, OutOfMemory}
use Rattle.plan_text.specs.Limits.{most_acts_in_all, acts_in, IsCourse, IsPlan}
use Rattle.plan_text.specs.PlanText.{PlanText, course_line}
use Rattle.plan_text.specs.PlanTextFault.{PlanDue, header_due, number_due, agents_due, agent_due, PlanFollows, IsLineDue, longest_plan_line, HasPlanTextFault, PlanTextFaultAt}
use Rattle.plan_text.specs.Code.PlanLines.{PlanLeads}
use Rattle.plan_text.proofs.SpellingLemmas.{SaysNumber-decimal, course_line-spells}
use Rattle.plan_text.proofs.WrittenLemmas.{Written, plan_lines, PlanText-lines, PlanText-text}
use Rattle.plan_text.proofs.JudgedLines.{line_fault, line_next, right-from_Follows, found-from_HasFault}

-- the number of the line after so many others
abbrev pub number_of : ℕ → ℕ
number_of count = min (count + 1) greatest

-- a fault, or else what is found later
abbrev pub or_later : Option PlanTextFault → Option PlanTextFault → Option PlanTextFault
or_later (Some fault) later = Some fault
or_later None later = later

abbrev pub is_due : PlanDue → Bool
is_due header_due = true
is_due number_due = true
is_due agents_due = true
is_due (agent_due zero before) = false
is_due (agent_due (suc left) before) = true

-- the first of the lines has its LF: others follow, or the last has one
abbrev pub has_feed : Bool → List (List ℕ) → Bool
has_feed fed [] = fed
has_feed fed (line ∷ lines) = true

-- The first fault of lines, where so many stand before them, and the last of them has its LF or not.
abbrev pub first_fault : Bool → PlanDue → ℕ → List (List ℕ) → Option PlanTextFault
first_fault fed due count [] = cond (is_due due) (Some (Unfinished (number_of count))) None
first_fault fed due count (line ∷ lines) =
    cond (is_due due)
    (cond (nat_lt longest_plan_line (length line)) (Some (TooMany (number_of count)))
    (cond (has_feed fed lines)
    (or_later (line_fault due (number_of count) line) (first_fault fed (line_next due line) (suc count) lines))
    (Some (Unfinished (number_of count)))))
    (Some (TextAfter (number_of count)))

-- no byte is left without an LF behind it
abbrev pub is_fed : List ℕ → Bool
is_fed [] = true
is_fed (b ∷ bytes) = ends_in_line_feed (b ∷ bytes)

-- the first fault of a text
abbrev pub found_in : List ℕ → Option PlanTextFault
found_in text = first_fault (is_fed text) header_due 0 (lines_of text)

fed-from_end : (text : List ℕ) → ends_in_line_feed text ≡ true → is_fed text ≡ true
fed-from_end [] e = refl
fed-from_end (b ∷ bytes) e = e

-- ---- what is due

due-test : (due : PlanDue) → IsLineDue due → is_due due ≡ true
due-test header_due h = refl
due-test number_due h = refl
due-test agents_due h = refl
due-test (agent_due zero before) h = absurd h
due-test (agent_due (suc left) before) h = refl

not_due-test : (due : PlanDue) → (IsLineDue due → ⊥) → is_due due ≡ false
not_due-test header_due h = absurd (h tt)
not_due-test number_due h = absurd (h tt)
not_due-test agents_due h = absurd (h tt)
not_due-test (agent_due zero before) h = refl
not_due-test (agent_due (suc left) before) h = absurd (h tt)

due-from_Follows : (due : PlanDue) (line : List ℕ) (next : PlanDue) → PlanFollows due line next → IsLineDue due
due-from_Follows header_due line next h = tt
due-from_Follows number_due line next h = tt
due-from_Follows agents_due line next h = tt
due-from_Follows (agent_due zero before) line next h = h
due-from_Follows (agent_due (suc left) before) line next h = tt

-- ---- right lines

-- what a line says that is due and has its LF
due_line : (fed : Bool) (due : PlanDue) (count : ℕ) (line : List ℕ) (lines : List (List ℕ)) → IsLineDue due → length line ≤ longest_plan_line
    → has_feed fed lines ≡ true
    → first_fault fed due count (line ∷ lines)
    ≡ or_later (line_fault due (number_of count) line) (first_fault fed (line_next due line) (suc count) lines)
due_line fed due count line lines is short feed =
    cond-true (is_due due) _ _ (due-test due is)
    ∙ (cond-false (nat_lt longest_plan_line (length line)) _ _ (le-ltb longest_plan_line (length line) short)
    ∙ cond-true (has_feed fed lines) _ _ feed)

-- a right line passes the search on
first_fault-right : (fed : Bool) (due : PlanDue) (count : ℕ) (line : List ℕ) (lines : List (List ℕ)) (next : PlanDue) → PlanFollows due line next
    → has_feed fed lines ≡ true → first_fault fed due count (line ∷ lines) ≡ first_fault fed next (suc count) lines
first_fault-right fed due count line lines next h feed =
    let right = right-from_Follows due (number_of count) line next h in
    due_line fed due count line lines (due-from_Follows due line next h) right.short feed
    ∙ (ap (λ f. or_later f (first_fault fed (line_next due line) (suc count) lines)) right.none
    ∙ ap (λ d. first_fault fed d (suc count) lines) (sym right.next_is))

-- right lines pass it on
first_fault-leads : (fed : Bool) (first : PlanDue) (count : ℕ) (before : List (List ℕ)) (due : PlanDue) (rest : List (List ℕ)) → PlanLeads first before due
    → has_feed fed rest ≡ true → first_fault fed first count (before ++ rest) ≡ first_fault fed due (count + length before) rest
first_fault-leads fed first count [] due rest h feed =
    let same : count ≡ count + length {A = List ℕ} [] = omega arith in
    ap (λ d. first_fault fed d count rest) (sym h) ∙ ap (λ n. first_fault fed due n rest) same
first_fault-leads fed first count (line ∷ before) due rest h feed =
    let more : suc count + length before ≡ count + length (line ∷ before) = omega arith in
    first_fault-right fed first count line (before ++ rest) h.0 h.1 (behind before)
    ∙ (first_fault-leads fed h.0 (suc count) before due rest h.2 feed ∙ ap (λ n. first_fault fed due n rest) more)
  where
    behind : (lines : List (List ℕ)) → has_feed fed (lines ++ rest) ≡ true
    behind [] = feed
    behind (l ∷ lines) = refl

-- behind right lines, what is found from there on
found_behind : (fed : Bool) (before : List (List ℕ)) (due : PlanDue) (rest : List (List ℕ)) → PlanLeads header_due before due → has_feed fed rest ≡ true
    → first_fault fed header_due 0 (before ++ rest) ≡ first_fault fed due (length before) rest
found_behind fed before due rest right feed =
    let same : 0 + length before ≡ length before = omega arith in
    first_fault-leads fed header_due 0 before due rest right feed ∙ ap (λ n. first_fault fed due n rest) same

-- ---- faults

-- what the places of a text mean by its lines
abbrev pub Stands : Type 0
Stands = (text front rest : List ℕ) (place : Place) (before : List (List ℕ)) (line : List ℕ) → text ≡ front ++ rest
    → IsByte place → JudgedAt by_line_feed place before line front → StandsIn by_line_feed place before line text

-- the lines of a text that stops in a line
abbrev pub Last : Type 0
Last = (text : List ℕ) (before : List (List ℕ)) (line : List ℕ) → JudgedAt by_line_feed at_end before line text
    → ((line ≡ []) × (lines_of text ≡ before)) ⊎ ((0 < length line) × (lines_of text ≡ before ++ line ∷ []))

-- the last byte of lines that are written
abbrev pub WrittenEnd : Type 0
WrittenEnd = (line : List ℕ) (lines : List (List ℕ)) → ends_in_line_feed (ended (line ∷ lines)) ≡ true

-- a byte behind all lines
found_after : (fed : Bool) (fault : PlanTextFault) (due : PlanDue) (count : ℕ) (line : List ℕ) (lines : List (List ℕ)) → (IsLineDue due → ⊥)
    → fault ≡ TextAfter (number_of count) → first_fault fed due count (line ∷ lines) ≡ Some fault
found_after fed fault due count line lines none is = cond-false (is_due due) _ _ (not_due-test due none) ∙ ap Some (sym is)

pub due_or_not : (due : PlanDue) → IsLineDue due ⊎ (IsLineDue due → ⊥)
due_or_not header_due = inl tt
due_or_not number_due = inl tt
due_or_not agents_due = inl tt
due_or_not (agent_due zero before) = inr (λ h. h)
due_or_not (agent_due (suc left) before) = inl tt

-- where no line is due, only text that follows is a fault
after_fault : (fault : PlanTextFault) (place : Place) (due : PlanDue) (number : ℕ) (line : List ℕ) → (IsLineDue due → ⊥)
    → HasPlanTextFault fault place due number line → fault ≡ TextAfter number
after_fault (TextAfter at) place due number line none h = ap TextAfter h.0
after_fault (BadHeader at) place header_due number line none h = absurd (none tt)
after_fault (BadHeader at) place number_due number line none h = absurd (none tt)
after_fault (BadHeader at) place agents_due number line none h = absurd (none tt)
after_fault (BadHeader at) place (agent_due left before) number line none h = absurd h.2
after_fault (BadNumber at) place header_due number line none h = absurd (none tt)
after_fault (BadNumber at) place number_due number line none h = absurd (none tt)
after_fault (BadNumber at) place agents_due number line none h = absurd (none tt)
after_fault (BadNumber at) place (agent_due zero before) number line none h = absurd h.2
after_fault (BadNumber at) place (agent_due (suc left) before) number line none h = absurd (none tt)
after_fault (TooMany at) place due number line none (same, inl h) = absurd (none h.1)
after_fault (TooMany at) place header_due number line none (same, inr h) = absurd (none tt)
after_fault (TooMany at) place number_due number line none (same, inr h) = absurd (none tt)
after_fault (TooMany at) place agents_due number line none (same, inr h) = absurd (none tt)
after_fault (TooMany at) place (agent_due zero before) number line none (same, inr h) = absurd h.1
after_fault (TooMany at) place (agent_due (suc left) before) number line none (same, inr h) = absurd (none tt)
after_fault (BadAgent at) place due number line none h = absurd (none (subst IsLineDue (sym h.4) tt))
after_fault (BadAct at column) place due number line none h = absurd (none (subst IsLineDue (sym h.4) tt))
after_fault (Unfinished at) place due number line none h = absurd (none h.2)
after_fault ReadFailed place due number line none h = absurd h
after_fault OutOfMemory place due number line none h = absurd h

-- where a line is due, a fault at a byte within it is that of a line too long
within_fault : (fault : PlanTextFault) (due : PlanDue) (number : ℕ) (line : List ℕ) → IsLineDue due → HasPlanTextFault fault at_byte due number line
    → (fault ≡ TooMany number) × (length line ≡ longest_plan_line + 1)
within_fault (BadHeader at) due number line is h = absurd (let bad = h.1.ended in cc)
within_fault (BadNumber at) due number line is h = absurd (let bad = h.1.ended in cc)
within_fault (TooMany at) due number line is (same, inl h) = (ap TooMany same, h.2)
within_fault (TooMany at) due number line is (same, inr h) = absurd (let bad = h.0.ended in cc)
within_fault (BadAgent at) due number line is h = absurd (let bad = h.1.ended in cc)
within_fault (BadAct at column) due number line is h = absurd (let bad = h.1.ended in cc)
within_fault (Unfinished at) due number line is h = absurd (let bad = h.1 in cc)
within_fault (TextAfter at) due number line is h = absurd (h.1 is)
within_fault ReadFailed due number line is h = absurd h
within_fault OutOfMemory due number line is h = absurd h

-- where a line is due, a fault at the end of the input is that of a line with no LF
end_fault : (fault : PlanTextFault) (due : PlanDue) (number : ℕ) (line : List ℕ) → HasPlanTextFault fault at_end due number line
    → (fault ≡ Unfinished number) × IsLineDue due × (length line ≤ longest_plan_line)
end_fault (BadHeader at) due number line h = absurd (let bad = h.1.ended in cc)
end_fault (BadNumber at) due number line h = absurd (let bad = h.1.ended in cc)
end_fault (TooMany at) due number line (same, inl h) = absurd (let bad = h.0 in cc)
end_fault (TooMany at) due number line (same, inr h) = absurd (let bad = h.0.ended in cc)
end_fault (BadAgent at) due number line h = absurd (let bad = h.1.ended in cc)
end_fault (BadAct at column) due number line h = absurd (let bad = h.1.ended in cc)
end_fault (Unfinished at) due number line h = (ap Unfinished h.0, h.2, h.3)
end_fault (TextAfter at) due number line (same, none, inl h) = absurd (let bad = h.0 in cc)
end_fault (TextAfter at) due number line (same, none, inr h) = absurd (let bad = h.0 in cc)
end_fault ReadFailed due number line h = absurd h
end_fault OutOfMemory due number line h = absurd h

-- the fault of a line at its LF is found there
found_whole : (fed : Bool) (fault : PlanTextFault) (due : PlanDue) (count : ℕ) (line : List ℕ) (after : List (List ℕ)) → has_feed fed after ≡ true
    → HasPlanTextFault fault at_line_feed due (number_of count) line → first_fault fed due count (line ∷ after) ≡ Some fault
found_whole fed fault due count line after feed h = go (due_or_not due)
  where
    go : IsLineDue due ⊎ (IsLineDue due → ⊥) → first_fault fed due count (line ∷ after) ≡ Some fault
    go (inr none) = found_after fed fault due count line after none (after_fault fault at_line_feed due (number_of count) line none h)
    go (inl is) =
        let found = found-from_HasFault fault due (number_of count) line is h in
        due_line fed due count line after is found.0 feed
        ∙ ap (λ f. or_later f (first_fault fed (line_next due line) (suc count) after)) found.1

-- a fault within a line is found there
found_within : (fed : Bool) (fault : PlanTextFault) (due : PlanDue) (count : ℕ) (line more : List ℕ) (after : List (List ℕ))
    → HasPlanTextFault fault at_byte due (number_of count) line → first_fault fed due count ((line ++ more) ∷ after) ≡ Some fault
found_within fed fault due count line more after h = go (due_or_not due)
  where
    go : IsLineDue due ⊎ (IsLineDue due → ⊥) → first_fault fed due count ((line ++ more) ∷ after) ≡ Some fault
    go (inr none) = found_after fed fault due count (line ++ more) after none (after_fault fault at_byte due (number_of count) line none h)
    go (inl is) =
        let long = within_fault fault due (number_of count) line is h in
        cond-true (is_due due) _ _ (due-test due is)
        ∙ (cond-true (nat_lt longest_plan_line (length (line ++ more))) _ _
        (lt-ltb longest_plan_line (length (line ++ more)) (omega (arith, length-append line more, long.1)))
        ∙ ap Some (sym long.0))

-- a line with no LF at the end of the input, or nothing, where a line is due
found_unended : (due : PlanDue) (count : ℕ) (line : List ℕ) → IsLineDue due → length line ≤ longest_plan_line
    → first_fault false due count (line ∷ []) ≡ Some (Unfinished (number_of count))
found_unended due count line is short =
    cond-true (is_due due) _ _ (due-test due is)
    ∙ cond-false (nat_lt longest_plan_line (length line)) _ _ (le-ltb longest_plan_line (length line) short)

found_nothing : (fed : Bool) (due : PlanDue) (count : ℕ) → IsLineDue due → first_fault fed due count [] ≡ Some (Unfinished (number_of count))
found_nothing fed due count is = cond-true (is_due due) _ _ (due-test due is)

-- ---- where a text stops

-- the last byte of a line is no LF
unended : (line : List ℕ) → IsLine line → ends_in_line_feed line ≡ false
unended [] h = refl
unended (b ∷ []) h = go (b == line_feed) refl
  where
    go : (t : Bool) → (b == line_feed) ≡ t → ends_in_line_feed (b ∷ []) ≡ false
    go false e = e
    go true e =
        absurd (both_ways (is_line_byte b) (cond-true (b == line_feed) false true e) (and_parts (is_line_byte b) true h).0)
unended (b ∷ c ∷ line) h = unended (c ∷ line) (and_parts (is_line_byte b) _ h).1

-- what follows a text ends it
end-append : (xs line : List ℕ) → 0 < length line → ends_in_line_feed (xs ++ line) ≡ ends_in_line_feed line
end-append [] line some = refl
end-append (x ∷ []) [] some = absurd (omega arith)
end-append (x ∷ []) (b ∷ line) some = refl
end-append (x ∷ y ∷ xs) line some = end-append (y ∷ xs) line some

is_fed-some : (text : List ℕ) → 0 < length text → is_fed text ≡ ends_in_line_feed text
is_fed-some [] some = absurd (omega arith)
is_fed-some (b ∷ text) some = refl

-- a text that stops in a line is not fed, if some of the line came
not_fed : (before : List (List ℕ)) (line text : List ℕ) → StopsIn by_line_feed before line text → 0 < length line → is_fed text ≡ false
not_fed before line text stops some =
    let size : 0 < length text = omega (arith, ap length stops.0, length-append (ended before) line, some) in
    is_fed-some text size ∙ (ap ends_in_line_feed stops.0 ∙ (end-append (ended before) line some ∙ unended line stops.2))

ended_end : WrittenEnd → (lines : List (List ℕ)) → is_fed (ended lines) ≡ true
ended_end end [] = refl
ended_end end (line ∷ lines) = fed-from_end (ended (line ∷ lines)) (end line lines)

fed : WrittenEnd → (before : List (List ℕ)) (line text : List ℕ) → StopsIn by_line_feed before line text → line ≡ [] → is_fed text ≡ true
fed end before line text stops none =
    ap is_fed (stops.0 ∙ (ap (λ l. ended before ++ l) none ∙ append-nil (ended before))) ∙ ended_end end before

-- what is found in a text that stops in a line, behind right lines
pub found_stopped : Last → WrittenEnd → (before : List (List ℕ)) (line text : List ℕ) (due : PlanDue) → StopsIn by_line_feed before line text
    → PlanLeads header_due before due → IsLineDue due → length line ≤ longest_plan_line
    → found_in text ≡ Some (Unfinished (line_number before))
found_stopped last end before line text due stops right is short = go (last text before line stops)
  where
    go : ((line ≡ []) × (lines_of text ≡ before)) ⊎ ((0 < length line) × (lines_of text ≡ before ++ line ∷ []))
        → found_in text ≡ Some (Unfinished (line_number before))
    go (inl (none, lines)) =
        ap (first_fault (is_fed text) header_due 0) (lines ∙ sym (append-nil before))
        ∙ (found_behind (is_fed text) before due [] right (fed end before line text stops none)
        ∙ found_nothing (is_fed text) due (length before) is)
    go (inr (some, lines)) =
        ap (first_fault (is_fed text) header_due 0) lines
        ∙ (ap (λ t. first_fault t header_due 0 (before ++ line ∷ [])) (not_fed before line text stops some)
        ∙ (found_behind false before due (line ∷ []) right refl ∙ found_unended due (length before) line is short))

-- and that nothing is, behind the last line that is due
found_over : Last → WrittenEnd → (before : List (List ℕ)) (line text : List ℕ) (due : PlanDue) → StopsIn by_line_feed before line text → line ≡ []
    → PlanLeads header_due before due → (IsLineDue due → ⊥) → found_in text ≡ None
found_over last end before line text due stops empty right none = go (last text before line stops)
  where
    go : ((line ≡ []) × (lines_of text ≡ before)) ⊎ ((0 < length line) × (lines_of text ≡ before ++ line ∷ [])) → found_in text ≡ None
    go (inl (is, lines)) =
        ap (first_fault (is_fed text) header_due 0) (lines ∙ sym (append-nil before))
        ∙ (found_behind (is_fed text) before due [] right (fed end before line text stops empty)
        ∙ cond-false (is_due due) _ _ (not_due-test due none))
    go (inr (some, lines)) = absurd (omega (arith, ap length empty))

-- ---- the first fault of a text is found in it

found-from_StandsIn : (fault : PlanTextFault) (place : Place) (text : List ℕ) (before : List (List ℕ)) (line : List ℕ) (due : PlanDue) → IsByte place
    → StandsIn by_line_feed place before line text → PlanLeads header_due before due → HasPlanTextFault fault place due (line_number before) line
    → found_in text ≡ Some fault
found-from_StandsIn fault at_line_feed text before line due byte (after, lines, ends) right h =
    ap (first_fault (is_fed text) header_due 0) lines
    ∙ (found_behind (is_fed text) before due (line ∷ after) right refl
    ∙ found_whole (is_fed text) fault due (length before) line after (feed after ends) h)
  where
    feed : (lines : List (List ℕ)) → (lines ≡ [] → ends_in_line_feed text ≡ true) → has_feed (is_fed text) lines ≡ true
    feed [] k = fed-from_end text (k refl)
    feed (l ∷ lines) k = refl
found-from_StandsIn fault at_byte text before line due byte (some, more, after, lines) right h =
    ap (first_fault (is_fed text) header_due 0) lines
    ∙ (found_behind (is_fed text) before due ((line ++ more) ∷ after) right refl
    ∙ found_within (is_fed text) fault due (length before) line more after h)
found-from_StandsIn fault at_end text before line due byte stands right h = absurd byte

pub found-from_Decides : Stands → (fault : PlanTextFault) (text : List ℕ) → Decides PlanTextFaultAt fault text → found_in text ≡ Some fault
found-from_Decides stands fault text (front, rest, place, is, byte, at) =
    found-from_StandsIn fault place text at.before at.line at.due byte (stands text front rest place at.before at.line is byte at.judged)
    at.right at.faulty

pub found-from_IsFirstFault : Stands → Last → WrittenEnd → (fault : PlanTextFault) (text : List ℕ) → IsFirstFault PlanTextFaultAt fault text
    → found_in text ≡ Some fault
found-from_IsFirstFault stands last end fault text (inl decided) = found-from_Decides stands fault text decided
found-from_IsFirstFault stands last end fault text (inr at) =
    let is = end_fault fault at.due (line_number at.before) at.line at.faulty in
    found_stopped last end at.before at.line text at.due at.judged at.right is.1 is.2 ∙ ap Some (sym is.0)

-- no byte decides that a line has no LF
not_unfinished : (number : ℕ) (text : List ℕ) → Decides PlanTextFaultAt (Unfinished number) text → ⊥
not_unfinished number text (front, rest, place, is, byte, at) = subst IsByte at.faulty.1 byte

-- nothing is decided where a text stops in a line that is due and not too long
pub none_decided : Stands → Last → WrittenEnd → (before : List (List ℕ)) (line text : List ℕ) (due : PlanDue) → StopsIn by_line_feed before line text
    → PlanLeads header_due before due → IsLineDue due → length line ≤ longest_plan_line
    → (fault : PlanTextFault) → Decides PlanTextFaultAt fault text → ⊥
none_decided stands last end before line text due stops right is short fault decided =
    let found = found-from_Decides stands fault text decided in
    let stopped = found_stopped last end before line text due stops right is short in
    let same : fault ≡ Unfinished (line_number before) = let both = sym found ∙ stopped in cc in
    not_unfinished (line_number before) text (subst (λ f. Decides PlanTextFaultAt f text) same decided)

-- nor where it stops behind the last line
pub none_decided-over : Stands → Last → WrittenEnd → (before : List (List ℕ)) (line text : List ℕ) (due : PlanDue) → StopsIn by_line_feed before line text
    → line ≡ [] → PlanLeads header_due before due → (IsLineDue due → ⊥) → (fault : PlanTextFault) → Decides PlanTextFaultAt fault text → ⊥
none_decided-over stands last end before line text due stops empty right none fault decided =
    let both = sym (found-from_Decides stands fault text decided) ∙ found_over last end before line text due stops empty right none in
    cc

-- ---- texts that are spelled

courses_lead : (courses : List Course) (before : ℕ) → AllByRecursion IsCourse courses → before + acts_in courses ≤ most_acts_in_all
    → PlanLeads (agent_due (length courses) before) (map course_line courses) (agent_due 0 (before + acts_in courses))
courses_lead [] before all fits = ap (agent_due 0) (omega arith)
courses_lead (course ∷ courses) before all fits =
    let sum : before + length course.acts + acts_in courses ≡ before + acts_in (course ∷ courses) = omega arith in (
      agent_due (length courses) (before + length course.acts),
      (course, course_line-spells course all.0, all.0, omega arith, refl),
      subst (λ n. PlanLeads (agent_due (length courses) (before + length course.acts)) (map course_line courses) (agent_due 0 n)) sum
          (courses_lead courses (before + length course.acts) all.1 (omega arith)),
    )

plan_leads : (p : Plan) → IsPlan p → PlanLeads header_due (plan_lines p) (agent_due 0 (0 + acts_in p.courses))
plan_leads p h = (
  number_due,
  (refl, refl),
  (
    agents_due,
    (p.number, SaysNumber-decimal (codes "number ") p.number (omega (arith, h.number_limit)), h.number_limit, refl),
    (
      agent_due (length p.courses) 0,
      (length p.courses, SaysNumber-decimal (codes "agents ") (length p.courses) (omega (arith, h.agent_limit)), h.agent_limit, refl),
      courses_lead p.courses 0 h.courses (omega (arith, h.acts_limit)),
    ),
  ),
)

-- no fault is found in a text that spells a plan
pub none_found : Written → WrittenEnd → (p : Plan) (text : List ℕ) → PlanText p text → found_in text ≡ None
none_found written end p text h =
    let lines = PlanText-lines written p text h in
    let feed : is_fed text ≡ true = ap is_fed (PlanText-text p text h) ∙ ended_end end (plan_lines p) in
    ap (first_fault (is_fed text) header_due 0) (lines ∙ sym (append-nil (plan_lines p)))
    ∙ found_behind (is_fed text) (plan_lines p) (agent_due 0 (0 + acts_in p.courses)) [] (plan_leads p h.within) feed
