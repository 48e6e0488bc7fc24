-- Which texts are letters, digits and spaces, and that JSON writes these as they are.
use Rattle.std.proofs.Common.{◌≡◌, ◌∙◌, ℕ, ◌+◌, ◌<◌, ◌≤◌, ◌/◌, ◌%◌, zero, suc, Bool, true, false}
use Rattle.std.proofs.Common.{◌==◌, ◌||◌, nat_lt, List, [], ◌∷◌, ◌++◌, Result, Ok, Err, IfOk}
use Rattle.std.proofs.Common.{String, string_bytes, refl, ap, sym, subst, append_assoc, arith}
use Rattle.std.specs.Prelude.{codes, decimal, if◌then◌else◌}
use Rattle.std.specs.declared.alloc.Global.{Global}
use Rattle.std.specs.Fmt.{digits, digits_onto, digit_glyph}
use Rattle.std.specs.Char.{is_ascii_alphanumeric, is_ascii_digit, is_ascii_lowercase, is_ascii_uppercase}
use Rattle.std.specs.List.{AllByRecursion, join_with_byte, list_all}
use Rattle.std.proofs.lemmas.Bool.{and_from, and_parts, cond-true, lt-ltb, le-leb, or_left}
use Rattle.std.proofs.lemmas.Bool.Decides.{nat_tests}
use Rattle.std.proofs.lemmas.List.Folds.{list_all-append}
use Rattle.text_io.specs.Text.{space}
use Rattle.json.specs.Print.{escape, escape_byte}
use Rattle.json.proofs.Printed.Strings.{escape_byte_plain}
use Rattle.serde_json.specs.Data.{Data}
use Rattle.serde_json.specs.Written.{compact_text, has_float}
use Rattle.model.specs.declared.plan_fault.PlanFault.{PlanFault}
use Rattle.model.specs.declared.plan_fault.PlanFault.TheVariants.{BadStart, BadMove, Vertex, Swap, OutOfMemory}
use Rattle.fitting.specs.declared.fit_fault.FitFault.{FitFault}
use Rattle.fitting.specs.declared.fit_fault.FitFault.TheVariants.{TooFewRows, AgentCount, StartDiffers, GoalDiffers, SizeDiffers}
use Rattle.planned.specs.declared.planned_fault.PlannedFault.TheVariants as planned_fault
use Rattle.check_commands.specs.declared.check_fault.CheckFault.{CheckFault}
use Rattle.check_commands.specs.declared.check_fault.CheckFault.TheVariants.{Planned, Scen, Unfit}
use Rattle.model.specs.FaultWords.{plan_fault_words}
use Rattle.fitting.specs.FaultWords.{fit_fault_words}
use Rattle.text_io.specs.FaultWords.{words_text}
use Rattle.check_commands.specs.FaultWords.{check_fault_words}
use Rattle.check_commands.specs.Code.Verdicts.{is_rejection, rejected_data}
use Rattle.check_commands.specs.VerdictText.{is_plain_byte, IsPlainText, rejected_json}

-- ---- faults

-- the code of a digit is plain
code_is_plain : (d : ℕ) → d < 10 → is_plain_byte (48 + d) ≡ true
code_is_plain d h =
    let digit : is_ascii_digit (48 + d) ≡ true = and_from _ _ (le-leb 48 (48 + d) (omega arith)) (le-leb (48 + d) 57 (omega arith)) in
    or_left (is_ascii_alphanumeric (48 + d)) ((48 + d) == space)
    (or_left (is_ascii_digit (48 + d) || is_ascii_uppercase (48 + d)) (is_ascii_lowercase (48 + d))
    (or_left (is_ascii_digit (48 + d)) (is_ascii_uppercase (48 + d)) digit))

digit_is_plain : (d : ℕ) → d < 10 → is_plain_byte (digit_glyph false d) ≡ true
digit_is_plain d h = ap is_plain_byte (cond-true (nat_lt d 10) (48 + d) (87 + d) (lt-ltb d 10 h)) ∙ code_is_plain d h

either : (choice : Bool) (one other : List ℕ) → IsPlainText one → IsPlainText other → IsPlainText (if choice then one else other)
either true one other first second = first
either false one other first second = second

digits_are_plain : (k n : ℕ) (later : List ℕ) → IsPlainText later → IsPlainText (digits_onto k 10 false n later)
digits_are_plain zero n later plain = plain
digits_are_plain (suc k) n later plain =
    let small : n % 10 < 10 = omega arith in
    let last = and_from (is_plain_byte (digit_glyph false (n % 10))) (list_all is_plain_byte later) (digit_is_plain (n % 10) small) plain in
    either (n / 10 == 0) (digit_glyph false (n % 10) ∷ later) (digits_onto k 10 false (n / 10) (digit_glyph false (n % 10) ∷ later))
    last (digits_are_plain k (n / 10) (digit_glyph false (n % 10) ∷ later) last)

decimal_is_plain : (n : ℕ) → IsPlainText (decimal n)
unfolding digits
decimal_is_plain n = digits_are_plain 64 n [] refl

plain_then : (word rest : List ℕ) → IsPlainText word → IsPlainText rest → IsPlainText (word ++ space ∷ rest)
plain_then word rest first others =
    list_all-append is_plain_byte word (space ∷ rest) ∙ and_from (list_all is_plain_byte word) (list_all is_plain_byte rest) first others

parts_are_plain : (parts : List (List ℕ)) → AllByRecursion IsPlainText parts → IsPlainText (join_with_byte space parts)
parts_are_plain [] all = refl
parts_are_plain (word ∷ []) all = all.0
parts_are_plain (word ∷ next ∷ parts) all = plain_then word (join_with_byte space (next ∷ parts)) all.0 (parts_are_plain (next ∷ parts) all.1)

plan_words_are_plain : (fault : PlanFault) → AllByRecursion IsPlainText (plan_fault_words fault).parts
plan_words_are_plain (BadStart agent) = (refl, (decimal_is_plain agent, tt))
plan_words_are_plain (BadMove agent step) = (refl, (decimal_is_plain agent, (decimal_is_plain step, tt)))
plan_words_are_plain (Vertex first second time cell) = (
  refl,
  (decimal_is_plain first, (decimal_is_plain second, (decimal_is_plain time, (decimal_is_plain cell.x, (decimal_is_plain cell.y, tt))))),
)
plan_words_are_plain (Swap first second step) = (refl, (decimal_is_plain first, (decimal_is_plain second, (decimal_is_plain step, tt))))
plan_words_are_plain OutOfMemory = (refl, tt)

fit_words_are_plain : (fault : FitFault) → AllByRecursion IsPlainText (fit_fault_words fault).parts
fit_words_are_plain TooFewRows = (refl, tt)
fit_words_are_plain AgentCount = (refl, tt)
fit_words_are_plain (StartDiffers agent) = (refl, (decimal_is_plain agent, tt))
fit_words_are_plain (GoalDiffers agent) = (refl, (decimal_is_plain agent, tt))
fit_words_are_plain (SizeDiffers row) = (refl, (decimal_is_plain row, tt))

-- why a plan is rejected is told in letters, digits and spaces
pub rejection_is_plain : (fault : CheckFault) → is_rejection fault ≡ true → IsPlainText (words_text (check_fault_words fault))
rejection_is_plain (Planned (planned_fault.Plan fault)) is = parts_are_plain (plan_fault_words fault).parts (plan_words_are_plain fault)
rejection_is_plain (Unfit fault) is = parts_are_plain (fit_fault_words fault).parts (fit_words_are_plain fault)
rejection_is_plain (Planned (planned_fault.Map fault)) is = cc
rejection_is_plain (Planned (planned_fault.PlanText fault)) is = cc
rejection_is_plain (Planned planned_fault.OutOfMemory) is = cc
rejection_is_plain (Scen fault) is = cc

-- ---- JSON

-- a byte that is plain is not one that isn't
is_no : (b other : ℕ) → is_plain_byte b ≡ true → is_plain_byte other ≡ false → b ≡ other → ⊥
is_no b other plain none same = let bad : false ≡ true = sym none ∙ sym (ap is_plain_byte same) ∙ plain in cc

above_controls : (b : ℕ) → is_plain_byte b ≡ true → 32 ≤ b
above_controls b plain = grind (arith, nat_tests)

-- letters, digits and spaces stand in a JSON string as they are
pub text_is_kept : (text : List ℕ) → IsPlainText text → escape text ≡ text
text_is_kept [] plain = refl
text_is_kept (b ∷ text) plain =
    let parts = and_parts (is_plain_byte b) (list_all is_plain_byte text) plain in
    let kept = escape_byte_plain b (is_no b 34 parts.0 refl) (is_no b 92 parts.0 refl) (above_controls b parts.0) in
    ap (λ (front : List ℕ). front ++ escape text) kept ∙ ap (λ (rest : List ℕ). b ∷ rest) (text_is_kept text parts.1)

rejected_compact : (fault : List ℕ) → IsPlainText fault → compact_text (rejected_data fault) ≡ rejected_json fault
unfolding escape_byte
rejected_compact fault plain =
    let front = codes "{\"accepted\":false,\"fault\":\"" in
    ap (λ (kept : List ℕ). front ++ ((kept ++ 34 ∷ []) ++ 125 ∷ [])) (text_is_kept fault plain)
    ∙ ap (λ (rest : List ℕ). front ++ rest) (append_assoc fault (34 ∷ []) (125 ∷ []))

-- the text of a rejection's value
pub rejected_written : {E : Type 0} (r : Result (String Global) E) (value : Data) (fault : List ℕ) → IsPlainText fault → value ≡ rejected_data fault
    → IfOk r (λ s. has_float value ≡ false → string_bytes s ≡ compact_text value) → IfOk r (λ s. string_bytes s ≡ rejected_json fault)
rejected_written (Ok s) value fault plain is written =
    let Written : Data → Type 0 = λ d. has_float d ≡ false → string_bytes s ≡ compact_text d in
    subst Written is written refl ∙ rejected_compact fault plain
rejected_written (Err e) value fault plain is written = tt
