-- The first fault of a text is the one that is found line by line.
use Rattle.std.proofs.Common.{◌≡◌, ◌≢◌, ℕ, suc, ◌+◌, ◌<◌, ◌⊎◌, inl, inr, Bool, true, false, List}
use Rattle.std.proofs.Common.{[], ◌∷◌, ◌++◌, length, take, drop, Option, Some, None, refl, sym, ap}
use Rattle.std.proofs.Common.{◌∙◌, subst, arith, append_assoc, append-nil, length-append}
use Rattle.std.proofs.Common.{length-take}
use Rattle.std.specs.Prelude.{nat_lt}
use Rattle.std.specs.List.{AllByRecursion}
use Rattle.std.proofs.lemmas.Bool.{cond-true, cond-false, ltb-true, ltb-false, lt-ltb, le-ltb, both_ways}
use Rattle.std.proofs.lemmas.List.{take-append-drop}
use Rattle.text_io.specs.Text.{IsLine, lines_of, ends_in_line_feed}
use Rattle.text_io.specs.Reading.{by_input, Place, at_line_feed, at_byte, at_end, JudgedAt, StandsIn, IsByte, IsOver, Decides, IsFirstFault, line_number}
use Rattle.scenario.specs.declared.scen_fault.ScenFault.{ScenFault}
use Rattle.scenario.specs.declared.scen_fault.ScenFault.TheVariants.{NoVersion, FieldCount, BadNumber, OutOfGrid, BadLength, ReadFailed, OutOfMemory, LineTooLong}
use Rattle.scenario.specs.Fields.{content_of}
use Rattle.scenario.specs.Query.{longest_line}
use Rattle.scenario.specs.ScenText.{IsShort}
use Rattle.scenario.specs.ScenFault.{ScenDue, version_due, row_due, ScenFollows, HasScenFault, ScenFaultAt}
use Rattle.scenario.specs.Code.Parsing.{ScenLeads}
use Rattle.scenario.proofs.JudgedLines.{line_fault, line_next, right-from_Follows, skipped_right, ScenFollows-from_none, fault-from_HasFault, HasScenFault-from_found}
use Rattle.scenario.proofs.TextScanned.{number_of, or_later, fault_at_end, first_fault, first_fault-leads, Leads_push, first_fault-right}

-- what the places of a text mean by its lines
abbrev pub Stands : Type 0
Stands = (text front rest : List ℕ) (place : Place) (before : List (List ℕ)) (line : List ℕ) → text ≡ front ++ rest
    → IsByte place → JudgedAt by_input place before line front → StandsIn by_input place before line text

abbrev pub Found : Type 0
Found = (text : List ℕ) (place : Place) (before : List (List ℕ)) (line : List ℕ) → IsByte place → StandsIn by_input place before line text
    → (front rest : List ℕ) × (text ≡ front ++ rest) × JudgedAt by_input place before line front

-- a fault of a place that is a byte within its line is that of a line too long
too_long : (fault : ScenFault) (due : ScenDue) (number : ℕ) (line : List ℕ) → HasScenFault fault at_byte due number line
    → (fault ≡ LineTooLong number) × (length line ≡ longest_line + 1)
too_long NoVersion due number line (is_due, short, inl h) = absurd h.0
too_long NoVersion due number line (is_due, short, inr h) = absurd (let bad = h.0 in cc)
too_long (FieldCount at) due number line h = absurd h.1.0
too_long (BadNumber at field) due number line h = absurd h.1.0
too_long (OutOfGrid at) due number line h = absurd h.1.0
too_long (BadLength at) due number line h = absurd h.1.0
too_long (LineTooLong at) due number line h = (ap LineTooLong h.0, h.2)
too_long ReadFailed due number line h = absurd h
too_long OutOfMemory due number line h = absurd h

-- a fault of a whole line is found there
found_whole : (fault : ScenFault) (place : Place) (due : ScenDue) (count : ℕ) (line : List ℕ) (after : List (List ℕ)) → IsOver place
    → HasScenFault fault place due (number_of count) line → (place ≡ at_end → after ≡ [])
    → first_fault due count (line ∷ after) ≡ Some fault
found_whole fault place due count line after over h last = go (fault-from_HasFault fault place due (number_of count) line over h)
  where
    go : IsShort line
        × ((line_fault due (number_of count) line ≡ Some fault)
        ⊎ ((place ≡ at_end) × (fault ≡ NoVersion) × (due ≡ version_due) × (content_of line ≡ [])))
        → first_fault due count (line ∷ after) ≡ Some fault
    go (short, inl found) =
        cond-false _ _ _ (le-ltb longest_line (length line) short)
        ∙ ap (λ f. or_later f (first_fault (line_next due line) (suc count) after)) found
    go (short, inr (ends, is, is_due, empty)) =
        let right = skipped_right version_due (number_of count) line (short, empty) in
        ap (λ d. first_fault d count (line ∷ after)) is_due
        ∙ (ap (λ xs. first_fault version_due count (line ∷ xs)) (last ends)
        ∙ (first_fault-right version_due count line [] version_due (record { short = short; none = right.0; next_is = right.1 })
        ∙ ap Some (sym is)))

-- a fault within a line is found there
found_within : (fault : ScenFault) (due : ScenDue) (count : ℕ) (line more : List ℕ) (after : List (List ℕ))
    → HasScenFault fault at_byte due (number_of count) line → first_fault due count ((line ++ more) ∷ after) ≡ Some fault
found_within fault due count line more after h =
    let long = too_long fault due (number_of count) line h in
    cond-true _ _ _ (lt-ltb longest_line (length (line ++ more)) (omega (arith, length-append line more, long.1)))
    ∙ ap Some (sym long.0)

-- behind right lines, what is found from there on
found_behind : (before : List (List ℕ)) (due : ScenDue) (rest : List (List ℕ)) (fault : ScenFault) → ScenLeads version_due before due
    → first_fault due (length before) rest ≡ Some fault → first_fault version_due 0 (before ++ rest) ≡ Some fault
found_behind before due rest fault right h =
    let same : 0 + length before ≡ length before = omega arith in
    first_fault-leads version_due 0 before due rest right ∙ (ap (λ n. first_fault due n rest) same ∙ h)

-- a fault that stands in a text at a byte is found
found-from_StandsIn : (fault : ScenFault) (place : Place) (text : List ℕ) (before : List (List ℕ)) (line : List ℕ) (due : ScenDue) → IsByte place
    → StandsIn by_input place before line text → ScenLeads version_due before due → HasScenFault fault place due (line_number before) line
    → first_fault version_due 0 (lines_of text) ≡ Some fault
found-from_StandsIn fault at_line_feed text before line due byte (after, lines, ends) right h =
    ap (first_fault version_due 0) lines
    ∙ found_behind before due (line ∷ after) fault right
    (found_whole fault at_line_feed due (length before) line after tt h (λ e. absurd (cc)))
found-from_StandsIn fault at_byte text before line due byte (some, more, after, lines) right h =
    ap (first_fault version_due 0) lines
    ∙ found_behind before due ((line ++ more) ∷ after) fault right (found_within fault due (length before) line more after h)
found-from_StandsIn fault at_end text before line due byte stands right h = absurd byte

-- an empty line has no fault but that no version came
found_at_end : (fault : ScenFault) (due : ScenDue) (number : ℕ) → HasScenFault fault at_end due number [] → fault_at_end due ≡ Some fault
found_at_end fault due number h = go (fault-from_HasFault fault at_end due number [] tt h)
  where
    go : IsShort []
        × ((line_fault due number [] ≡ Some fault) ⊎ ((at_end ≡ at_end) × (fault ≡ NoVersion) × (due ≡ version_due) × (content_of [] ≡ [])))
        → fault_at_end due ≡ Some fault
    go (short, inl found) = absurd (none due found)
      where
        none : (d : ScenDue) → line_fault d number [] ≡ Some fault → ⊥
        none version_due e = cc
        none row_due e = cc
    go (short, inr (ends, is, is_due, empty)) = ap fault_at_end is_due ∙ ap Some (sym is)

-- the first fault of a text is found in its lines
pub found-from_IsFirstFault : Stands → (fault : ScenFault) (text : List ℕ) → IsFirstFault ScenFaultAt fault text
    → first_fault version_due 0 (lines_of text) ≡ Some fault
found-from_IsFirstFault stands fault text (inl (front, rest, place, is, byte, at)) =
    found-from_StandsIn fault place text at.before at.line at.due byte (stands text front rest place at.before at.line is byte at.judged)
    at.right at.faulty
found-from_IsFirstFault stands fault text (inr at) = go at.judged
  where
    go : JudgedAt by_input at_end at.before at.line text → first_fault version_due 0 (lines_of text) ≡ Some fault
    go (inl (lines, unended)) =
        ap (first_fault version_due 0) lines
        ∙ found_behind at.before at.due (at.line ∷ []) fault at.right
        (found_whole fault at_end at.due (length at.before) at.line [] tt at.faulty (λ _. refl))
    go (inr (lines, empty)) =
        ap (first_fault version_due 0) (lines ∙ sym (append-nil at.before))
        ∙ found_behind at.before at.due [] fault at.right
        (found_at_end fault at.due (line_number at.before) (subst (λ l. HasScenFault fault at_end at.due (line_number at.before) l) empty at.faulty))

-- ---- from what is found to where it stands

-- Where a fault is found: in a line that is too long, in another line, or behind all lines.
pub data Finding (fault : ScenFault) (lines : List (List ℕ)) : Type 0 where
  in_long_line : (before : List (List ℕ)) (line : List ℕ) (after : List (List ℕ)) (due : ScenDue) (parts : lines ≡ before ++ line ∷ after)
      (right : ScenLeads version_due before due) (long : longest_line < length line) (is : fault ≡ LineTooLong (line_number before)) → Finding fault lines
  in_line : (before : List (List ℕ)) (line : List ℕ) (after : List (List ℕ)) (due : ScenDue) (parts : lines ≡ before ++ line ∷ after)
      (right : ScenLeads version_due before due) (short : IsShort line) (found : line_fault due (line_number before) line ≡ Some fault) → Finding fault lines
  at_the_end : (due : ScenDue) (right : ScenLeads version_due lines due) (found : fault_at_end due ≡ Some fault) → Finding fault lines

-- one more line before
push_parts : (all before : List (List ℕ)) (line : List ℕ) (lines : List (List ℕ)) → all ≡ before ++ line ∷ lines → all ≡ (before ++ line ∷ []) ++ lines
push_parts all before line lines e = e ∙ sym (append_assoc before (line ∷ []) lines)

finding : (fault : ScenFault) (all before : List (List ℕ)) (due : ScenDue) (lines : List (List ℕ)) → all ≡ before ++ lines → ScenLeads version_due before due
    → AllByRecursion IsLine lines → first_fault due (length before) lines ≡ Some fault → Finding fault all
finding fault all before due [] parts right are h =
    at_the_end due (subst (λ xs. ScenLeads version_due xs due) (sym (parts ∙ append-nil before)) right) h
finding fault all before due (line ∷ lines) parts right are h =
    go (nat_lt longest_line (length line)) refl
    (λ next k e. finding fault all (before ++ line ∷ []) next lines (push_parts all before line lines parts) k are.1 e)
  where
    go : (t : Bool) → nat_lt longest_line (length line) ≡ t
        → ((next : ScenDue) → ScenLeads version_due (before ++ line ∷ []) next → first_fault next (length (before ++ line ∷ [])) lines ≡ Some fault → Finding fault all)
        → Finding fault all
    go true long rest =
        in_long_line before line lines due parts right (ltb-true longest_line (length line) long)
        (let both = sym (cond-true _ _ _ long) ∙ h in cc)
    go false short rest = found (line_fault due (number_of (length before)) line) refl (sym (cond-false _ _ _ short) ∙ h)
      where
        within : IsShort line
        within = ltb-false longest_line (length line) short

        found : (f : Option ScenFault) → line_fault due (number_of (length before)) line ≡ f
            → or_later (line_fault due (number_of (length before)) line) (first_fault (line_next due line) (suc (length before)) lines) ≡ Some fault
            → Finding fault all
        found (Some other) e k =
            in_line before line lines due parts right within
            (e ∙ (sym (ap (λ f. or_later f (first_fault (line_next due line) (suc (length before)) lines)) e) ∙ k))
        found None e k =
            let follows = ScenFollows-from_none due (number_of (length before)) line are.0 within e in
            let count : suc (length before) ≡ length (before ++ line ∷ []) = omega (arith, length-append before (line ∷ [])) in
            let later : first_fault (line_next due line) (suc (length before)) lines ≡ Some fault =
            sym (ap (λ f. or_later f (first_fault (line_next due line) (suc (length before)) lines)) e) ∙ k in
            rest (line_next due line) (Leads_push version_due before due line (line_next due line) right follows)
            (ap (λ n. first_fault (line_next due line) n lines) (sym count) ∙ later)

-- a fault that is found in the lines of a text is its first
pub IsFirstFault-from_found : Found → (fault : ScenFault) (text : List ℕ) → AllByRecursion IsLine (lines_of text)
    → first_fault version_due 0 (lines_of text) ≡ Some fault → IsFirstFault ScenFaultAt fault text
IsFirstFault-from_found places fault text are h = go (finding fault (lines_of text) [] version_due (lines_of text) refl refl are h)
  where
    decided : (place : Place) (before : List (List ℕ)) (line : List ℕ) (due : ScenDue) → IsByte place → StandsIn by_input place before line text
        → ScenLeads version_due before due → HasScenFault fault place due (line_number before) line → Decides ScenFaultAt fault text
    decided place before line due byte stands right faulty =
        let at = places text place before line byte stands in
        (at.0, at.1, place, at.2, byte, record { before = before; line = line; due = due; judged = at.3; right = right; faulty = faulty })

    whole : (before : List (List ℕ)) (line : List ℕ) (after : List (List ℕ)) (due : ScenDue) → lines_of text ≡ before ++ line ∷ after
        → ScenLeads version_due before due → IsShort line → line_fault due (line_number before) line ≡ Some fault → (t : Bool) → ends_in_line_feed text ≡ t
        → IsFirstFault ScenFaultAt fault text
    whole before line after due parts right short found true feed =
        inl (decided at_line_feed before line due tt (after, parts, λ _. feed) right
        (HasScenFault-from_found due (line_number before) line fault at_line_feed short tt found))
    whole before line [] due parts right short found false unended =
        inr (record {
          before = before;
          line = line;
          due = due;
          judged = inl (parts, unended);
          right = right;
          faulty = HasScenFault-from_found due (line_number before) line fault at_end short tt found;
        })
    whole before line (next ∷ after) due parts right short found false unended =
        inl (decided at_line_feed before line due tt (next ∷ after, parts, λ e. absurd (cc)) right
        (HasScenFault-from_found due (line_number before) line fault at_line_feed short tt found))

    go : Finding fault (lines_of text) → IsFirstFault ScenFaultAt fault text
    go (in_long_line before line after due parts right long is) =
        let front = take (longest_line + 1) line in
        let count : length front ≡ longest_line + 1 = omega (arith, length-take (longest_line + 1) line, long) in
        let faulty : HasScenFault fault at_byte due (line_number before) front =
        subst (λ f. HasScenFault f at_byte due (line_number before) front) (sym is) (refl, refl, count) in
        inl (decided at_byte before front due tt (
          omega (arith, count),
          drop (longest_line + 1) line,
          after,
          parts ∙ ap (λ l. before ++ l ∷ after) (sym (take-append-drop (longest_line + 1) line)),
        ) right faulty)
    go (in_line before line after due parts right short found) = whole before line after due parts right short found (ends_in_line_feed text) refl
    go (at_the_end row_due right found) = absurd (cc)
    go (at_the_end version_due right found) =
        let is : NoVersion ≡ fault = cc in
        inr (record {
          before = lines_of text;
          line = [];
          due = version_due;
          judged = inr (refl, refl);
          right = right;
          faulty = subst (λ f. HasScenFault f at_end version_due (line_number (lines_of text)) []) is (refl, omega arith, inr (refl, refl));
        })

-- ---- texts that decide nothing

-- a line that is right has no fault at a byte, and is no beginning of a line too long
no_fault_at : (fault : ScenFault) (place : Place) (first : ScenDue) (number : ℕ) (line whole : List ℕ) (next : ScenDue) → IsByte place
    → ScenFollows first whole next → HasScenFault fault place first number line
    → ((place ≡ at_line_feed) × (whole ≡ line)) ⊎ ((place ≡ at_byte) × (more : List ℕ) × (whole ≡ line ++ more)) → ⊥
no_fault_at fault place first number line whole next byte follows h (inl (at, is)) =
    let right = right-from_Follows first number whole next follows in
    let over : IsOver place = subst IsOver (sym at) tt in
    elim (fault-from_HasFault fault place first number line over h).1 [
      | inl found ↦ let none = ap (line_fault first number) (sym is) ∙ right.none in absurd (let bad = sym found ∙ none in cc)
      | inr ended ↦ absurd (let bad = sym at ∙ ended.0 in cc)
    ]
no_fault_at fault place first number line whole next byte follows h (inr (at, more, is)) =
    let right = right-from_Follows first number whole next follows in
    let long = too_long fault first number line (subst (λ p. HasScenFault fault p first number line) at h) in
    let short = right.short in
    omega (arith, short, long.1, ap length is, length-append line more)

-- where the line of a fault at a byte stands among lines of which the last is unended
abbrev pub StandsBefore : Place → List ℕ → List ℕ → List (List ℕ) → List (List ℕ) → Type 0
StandsBefore place line whole after rest =
    ((place ≡ at_line_feed) × (whole ≡ line) × (0 < length rest → after ≢ [])) ⊎ ((place ≡ at_byte) × (more : List ℕ) × (whole ≡ line ++ more))

-- right lines, and one that is open and not too long, decide no fault
undecided : (fault : ScenFault) (first : ScenDue) (before : List (List ℕ)) (due : ScenDue) (rest : List (List ℕ)) → ScenLeads first before due
    → ((rest ≡ []) ⊎ ((line : List ℕ) × (rest ≡ line ∷ []) × IsShort line)) → (place : Place) → IsByte place
    → (others : List (List ℕ)) (faulty_line whole : List ℕ) (after : List (List ℕ)) (other : ScenDue) (number : ℕ)
    → before ++ rest ≡ others ++ whole ∷ after → StandsBefore place faulty_line whole after rest
    → ScenLeads first others other → HasScenFault fault place other number faulty_line → ⊥
undecided fault first [] due rest right (inl none) place byte others faulty_line whole after other number parts stands leads h =
    let lengths = ap length (sym none ∙ parts) in
    omega (arith, lengths, length-append others (whole ∷ after))
undecided fault first [] due rest right (inr (line, is, short)) place byte others faulty_line whole after other number parts stands leads h =
    only others after (sym is ∙ parts) stands
  where
    only : (others after : List (List ℕ)) → line ∷ [] ≡ others ++ whole ∷ after → StandsBefore place faulty_line whole after rest → ⊥
    only [] [] e (inl (at, same, some)) = some (omega (arith, ap length is)) refl
    only [] [] e (inr (at, more, same)) =
        let long = too_long fault other number faulty_line (subst (λ p. HasScenFault fault p other number faulty_line) at h) in
        let equal : line ≡ whole = cc in
        omega (arith, short, long.1, ap length (equal ∙ same), length-append faulty_line more)
    only [] (next ∷ after) e s = cc
    only (l ∷ others) after e s =
        let lengths = ap length e in
        omega (arith, lengths, length-append others (whole ∷ after))
undecided fault first (l ∷ before) due rest right unended place byte [] faulty_line whole after other number parts stands leads h =
    let same : l ≡ whole = cc in
    no_fault_at fault place first number faulty_line whole right.0 byte (subst (λ x. ScenFollows first x right.0) same right.1)
    (subst (λ d. HasScenFault fault place d number faulty_line) leads h)
    (elim stands [ inl s ↦ inl (s.0, s.1) | inr s ↦ inr s ])
undecided fault first (l ∷ before) due rest right unended place byte (k ∷ others) faulty_line whole after other number parts stands leads h =
    let same : l ≡ k = cc in
    let others_are : before ++ rest ≡ others ++ whole ∷ after = cc in
    let mine = right-from_Follows first 0 l right.0 right.1 in
    let theirs = right-from_Follows first 0 k leads.0 leads.1 in
    let next : leads.0 ≡ right.0 = theirs.next_is ∙ (ap (line_next first) (sym same) ∙ sym mine.next_is) in
    undecided fault right.0 before due rest right.2 unended place byte others faulty_line whole after other number others_are stands
    (subst (λ d. ScenLeads d others other) next leads.2) h

-- A text of right lines, and perhaps an unended one that is not too long, decides no fault.
pub none_decided : Stands → (text : List ℕ) (before : List (List ℕ)) (line : List ℕ) (due : ScenDue) → JudgedAt by_input at_end before line text
    → IsShort line → ScenLeads version_due before due → (fault : ScenFault) → Decides ScenFaultAt fault text → ⊥
none_decided stands text before line due judged short right fault (front, rest, place, is, byte, at) =
    go judged place byte (stands text front rest place at.before at.line is byte at.judged) at.faulty
  where
    go : JudgedAt by_input at_end before line text → (place : Place) → IsByte place → StandsIn by_input place at.before at.line text
        → HasScenFault fault place at.due (line_number at.before) at.line → ⊥
    go (inl (lines, unended)) at_line_feed byte (after, parts, ends) h =
        undecided fault version_due before due (line ∷ []) right (inr (line, refl, short)) at_line_feed tt at.before at.line at.line after at.due
        (line_number at.before) (sym lines ∙ parts) (inl (refl, refl, λ _ e. both_ways (ends_in_line_feed text) unended (ends e))) at.right h
    go (inl (lines, unended)) at_byte byte (some, more, after, parts) h =
        undecided fault version_due before due (line ∷ []) right (inr (line, refl, short)) at_byte tt at.before at.line (at.line ++ more) after at.due
        (line_number at.before) (sym lines ∙ parts) (inr (refl, more, refl)) at.right h
    go (inr (lines, empty)) at_line_feed byte (after, parts, ends) h =
        undecided fault version_due before due [] right (inl refl) at_line_feed tt at.before at.line at.line after at.due
        (line_number at.before) (append-nil before ∙ (sym lines ∙ parts)) (inl (refl, refl, λ some. absurd (omega arith))) at.right h
    go (inr (lines, empty)) at_byte byte (some, more, after, parts) h =
        undecided fault version_due before due [] right (inl refl) at_byte tt at.before at.line (at.line ++ more) after at.due
        (line_number at.before) (append-nil before ∙ (sym lines ∙ parts)) (inr (refl, more, refl)) at.right h
    go judged at_end byte s h = absurd byte
