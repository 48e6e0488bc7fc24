-- What the reader of a plan answers, by the lines that it took.
use Rattle.std.proofs.Common.{◌≡◌, ℕ, ◌⊎◌, inl, inr, List, [], ◌∷◌, ◌++◌, length, take, refl, sym, ap, ◌∙◌, subst, arith, append-nil, Result, Ok, Err}
use Rattle.std.specs.Prelude.{Option}
use Rattle.std.proofs.lemmas.List.{length-take, nil_from_length}
use Rattle.text_io.specs.declared.counted.Counted.{Counted}
use Rattle.text_io.specs.declared.source.Source.{Source}
use Rattle.text_io.specs.declared.lines.TakenLine.{TakenLine}
use Rattle.text_io.specs.declared.lines.TakenLine.TheVariants.{WithLineFeed, TooLong}
use Rattle.text_io.specs.Counted.{counted_inner, failures_of}
use Rattle.text_io.specs.Source.{source_reader}
use Rattle.text_io.specs.Text.{ended}
use Rattle.text_io.specs.Lines.{HasCome, LineEnded, InputEnded, LineTooLong as LongLineTaken, ReaderFailed, LineTaken}
use Rattle.text_io.specs.Reading.{by_line_feed, Place, at_line_feed, at_byte, at_end, StopsIn, ReadsText, is_fault, line_number, IsByte}
use Rattle.model.specs.Plan.{Plan}
use Rattle.plan_text.specs.declared.plan_text_fault.PlanTextFault.{PlanTextFault}
use Rattle.plan_text.specs.declared.plan_text_fault.PlanTextFault.TheVariants.{BadHeader, BadNumber, TooMany, BadAgent, BadAct, Unfinished, TextAfter, ReadFailed, OutOfMemory}
use Rattle.plan_text.specs.PlanText.{PlanText}
use Rattle.plan_text.specs.PlanTextFault.{PlanDue, IsLineDue, longest_plan_line, HasPlanTextFault, PlanTextFaultAt, plan_outcome}
use Rattle.plan_text.specs.Code.PlanLines.{PlanRefuses, HasReadPlan}
use Rattle.plan_text.proofs.TextScanned.{Stands, Last, WrittenEnd, none_decided, none_decided-over}
use Rattle.plan_text.proofs.TextRead.{PlanText-from_read}

-- a fault of a line is a fault of the text
outcome-from_fault : (fault : PlanTextFault) (place : Place) (due : PlanDue) (number : ℕ) (line : List ℕ) → HasPlanTextFault fault place due number line
    → plan_outcome (Err fault) ≡ is_fault fault
outcome-from_fault (BadHeader at) place due number line h = refl
outcome-from_fault (BadNumber at) place due number line h = refl
outcome-from_fault (TooMany at) place due number line h = refl
outcome-from_fault (BadAgent at) place due number line h = refl
outcome-from_fault (BadAct at column) place due number line h = refl
outcome-from_fault (Unfinished at) place due number line h = refl
outcome-from_fault (TextAfter at) place due number line h = refl
outcome-from_fault ReadFailed place due number line h = absurd h
outcome-from_fault OutOfMemory place due number line h = absurd h

module _ {R : Type 0} {ahead : ℕ} (remaining : R → Option (List ℕ)) (first : Counted R) (now : Source R ahead) where
  -- the reader answers so
  abbrev pub Reads : Result Plan PlanTextFault → Type 0
  Reads result =
      ReadsText PlanText PlanTextFaultAt (remaining (counted_inner first)) (remaining (counted_inner (source_reader now))) (failures_of first)
      (failures_of (source_reader now)) (plan_outcome result)

  -- a fault stands at a byte that came
  fault_found : (place : Place) (before : List (List ℕ)) (line : List ℕ) (due : PlanDue) (p : Plan) (fault : PlanTextFault)
      → (come : HasCome remaining first now place before line) → failures_of (source_reader now) ≡ failures_of first → IsByte place
      → HasReadPlan due p before → HasPlanTextFault fault place due (line_number before) line → Reads (Err fault)
  fault_found place before line due p fault come none byte read faulty =
      subst (ReadsText PlanText PlanTextFaultAt (remaining (counted_inner first)) (remaining (counted_inner (source_reader now))) (failures_of first)
      (failures_of (source_reader now)))
      (sym (outcome-from_fault fault place due (line_number before) line faulty))
      (record {
        delivered = come.delivered;
        consumed = come.consumed;
        answer = inl (
          come.front,
          come.rest,
          place,
          come.bytes,
          byte,
          record { before = before; line = line; due = due; judged = come.judged by_line_feed; right = read.right; faulty = faulty },
        );
        failures = none;
      })

  -- a line was refused at its LF
  pub refused_line : (before : List (List ℕ)) (room : List ℕ) (count : ℕ) (due : PlanDue) (p : Plan) (number : ℕ) (fault : PlanTextFault)
      → number ≡ line_number before → LineEnded remaining first now before room count → HasReadPlan due p before
      → PlanRefuses due number (take count room) fault → Reads (Err fault)
  refused_line before room count due p number fault is t read (inl none) =
      subst (λ f. Reads (Err f)) (sym none)
      (record { delivered = t.come.delivered; consumed = t.come.consumed; answer = tt; failures = t.failures })
  refused_line before room count due p number fault is t read (inr faulty) =
      fault_found at_line_feed before (take count room) due p fault t.come t.failures tt read
      (subst (λ n. HasPlanTextFault fault at_line_feed due n (take count room)) is faulty)

  -- all that came where the input ended
  all_come : (before : List (List ℕ)) (line : List ℕ) (come : HasCome remaining first now at_end before line) → come.delivered ≡ come.front
  all_come before line come = come.bytes ∙ (ap (λ xs. come.front ++ xs) (come.whole refl) ∙ append-nil come.front)

  stops : (before : List (List ℕ)) (line : List ℕ) (come : HasCome remaining first now at_end before line) → StopsIn by_line_feed before line come.delivered
  stops before line come = subst (StopsIn by_line_feed before line) (sym (all_come before line come)) (come.judged by_line_feed)

  -- the input ended before a line's LF
  pub unfinished : (before : List (List ℕ)) (room : List ℕ) (count : ℕ) (due : PlanDue) (p : Plan) (number : ℕ) → number ≡ line_number before
      → length room ≡ longest_plan_line → InputEnded remaining first now before room count → HasReadPlan due p before → IsLineDue due
      → Reads (Err (Unfinished number))
  unfinished before room count due p number is size t read is_due = record {
    delivered = t.come.delivered;
    consumed = t.come.consumed;
    answer = inr (
      record {
        before = before;
        line = take count room;
        due = due;
        judged = stops before (take count room) t.come;
        right = read.right;
        faulty = (is, refl, is_due, omega (arith, t.in_room, size, length-take count room));
      },
      t.spent,
    );
    failures = t.failures;
  }

  -- a line is too long
  pub long_line : (before : List (List ℕ)) (room : List ℕ) (due : PlanDue) (p : Plan) (number : ℕ) → number ≡ line_number before
      → length room ≡ longest_plan_line → LongLineTaken remaining first now before room → HasReadPlan due p before → IsLineDue due
      → Reads (Err (TooMany number))
  long_line before room due p number is size t read is_due =
      fault_found at_byte before t.line due p (TooMany number) t.come t.failures tt read (is, inl (refl, is_due, omega (arith, t.length_is, size)))

  -- the reader failed within a line that is due
  pub failed : Stands → Last → WrittenEnd → (before : List (List ℕ)) (room : List ℕ) (due : PlanDue) (p : Plan) → length room ≡ longest_plan_line
      → ReaderFailed remaining first now before room → HasReadPlan due p before → IsLineDue due → Reads (Err ReadFailed)
  failed stands last end before room due p size t read is_due = record {
    delivered = t.come.delivered;
    consumed = t.come.consumed;
    answer =
        none_decided stands last end before t.line t.come.delivered due (stops before t.line t.come) read.right is_due
        (omega (arith, t.in_room, size));
    failures = t.failures;
  }

  -- nothing followed the last line
  pub ended_plan : (before : List (List ℕ)) (room : List ℕ) (count : ℕ) (due : PlanDue) (p : Plan) → length room ≡ 0
      → InputEnded remaining first now before room count → HasReadPlan due p before → (IsLineDue due → ⊥) → Reads (Ok p)
  ended_plan before room count due p size t read none =
      let empty : take count room ≡ [] = nil_from_length (take count room) (omega (arith, size, length-take count room)) in
      let whole = stops before (take count room) t.come in
      let text : t.come.delivered ≡ ended before = whole.0 ∙ (ap (λ xs. ended before ++ xs) empty ∙ append-nil (ended before)) in
      record {
        delivered = t.come.delivered;
        consumed = t.come.consumed;
        answer = (PlanText-from_read due p before t.come.delivered read none text, t.spent);
        failures = t.failures;
      }

  -- the reader failed behind the last line
  pub failed_after : Stands → Last → WrittenEnd → (before : List (List ℕ)) (room : List ℕ) (due : PlanDue) (p : Plan) → length room ≡ 0
      → ReaderFailed remaining first now before room → HasReadPlan due p before → (IsLineDue due → ⊥) → Reads (Err ReadFailed)
  failed_after stands last end before room due p size t read none = record {
    delivered = t.come.delivered;
    consumed = t.come.consumed;
    answer =
        none_decided-over stands last end before t.line t.come.delivered due (stops before t.line t.come)
        (nil_from_length t.line (omega (arith, t.in_room, size))) read.right none;
    failures = t.failures;
  }

  -- an LF followed it
  line_after : (before : List (List ℕ)) (room : List ℕ) (count : ℕ) (due : PlanDue) (p : Plan) (number : ℕ) → number ≡ line_number before
      → length room ≡ 0 → LineEnded remaining first now before room count → HasReadPlan due p before → (IsLineDue due → ⊥)
      → Reads (Err (TextAfter number))
  line_after before room count due p number is size t read none =
      let empty : take count room ≡ [] = nil_from_length (take count room) (omega (arith, size, length-take count room)) in
      fault_found at_line_feed before (take count room) due p (TextAfter number) t.come t.failures tt read (is, none, inl (refl, empty))

  -- another byte followed it
  byte_after : (before : List (List ℕ)) (room : List ℕ) (due : PlanDue) (p : Plan) (number : ℕ) → number ≡ line_number before
      → length room ≡ 0 → LongLineTaken remaining first now before room → HasReadPlan due p before → (IsLineDue due → ⊥)
      → Reads (Err (TextAfter number))
  byte_after before room due p number is size t read none =
      let one = one_byte t.line (omega (arith, t.length_is, size)) in
      fault_found at_byte before t.line due p (TextAfter number) t.come t.failures tt read (is, none, inr (refl, one.0, one.1))
    where
      one_byte : (line : List ℕ) → length line ≡ 1 → (b : ℕ) × (line ≡ b ∷ [])
      one_byte [] e = absurd (omega arith)
      one_byte (b ∷ []) e = (b, refl)
      one_byte (b ∷ c ∷ line) e = absurd (omega arith)

  -- text followed it
  pub text_after : (before : List (List ℕ)) (room : List ℕ) (result : TakenLine) (due : PlanDue) (p : Plan) (number : ℕ)
      → ((count : ℕ) × (result ≡ WithLineFeed count)) ⊎ (result ≡ TooLong) → number ≡ line_number before → length room ≡ 0
      → LineTaken remaining first now before room result → HasReadPlan due p before → (IsLineDue due → ⊥) → Reads (Err (TextAfter number))
  text_after before room result due p number (inl (count, e)) is size t read none =
      line_after before room count due p number is size (subst (LineTaken remaining first now before room) e t) read none
  text_after before room result due p number (inr e) is size t read none =
      byte_after before room due p number is size (subst (LineTaken remaining first now before room) e t) read none
