-- What a reader of a proof answers, by the lines that it took.
use Rattle.std.proofs.Common.{◌≡◌, ℕ, ◌⊎◌, inl, inr, List, [], ◌∷◌, ◌++◌, length, take}
use Rattle.std.proofs.Common.{refl, sym, ap, ◌∙◌, subst, arith, append-nil, Result, Ok, Err}
use Rattle.std.specs.Prelude.{Option}
use Rattle.std.proofs.lemmas.List.{length-take, nil_from_length}
use Rattle.text_io.specs.declared.counted.Counted.{Counted}
use Rattle.text_io.specs.declared.source.Source.{Source}
use Rattle.text_io.specs.declared.lines.TakenLine.{TakenLine}
use Rattle.text_io.specs.declared.lines.TakenLine.TheVariants.{WithLineFeed, TooLong}
use Rattle.text_io.specs.Counted.{counted_inner, failures_of}
use Rattle.text_io.specs.Source.{source_reader}
use Rattle.text_io.specs.Text.{ended}
use Rattle.text_io.specs.Lines.{HasCome, LineEnded, InputEnded}
use Rattle.text_io.specs.Lines.{LineTooLong as LongLineTaken, ReaderFailed, LineTaken}
use Rattle.text_io.specs.Reading.{by_line_feed, Place, at_line_feed, at_byte, at_end}
use Rattle.text_io.specs.Reading.{StopsIn, ReadsText, is_fault, line_number, IsByte}
use Rattle.grid.specs.Map.{Grid}
use Rattle.optimality.specs.declared.constraint.Ends.{Ends}
use Rattle.proof_text.specs.declared.claim.ProofClaim.{ProofClaim}
use Rattle.proof_text.specs.declared.proof_fault.ProofFault.{ProofFault}
use Rattle.proof_text.specs.declared.proof_fault.ProofFault.TheVariants.{BadHeader, BadNode}
use Rattle.proof_text.specs.declared.proof_fault.ProofFault.TheVariants.{BadNumber, TooMany}
use Rattle.proof_text.specs.declared.proof_fault.ProofFault.TheVariants.{Unfinished, TextAfter}
use Rattle.proof_text.specs.declared.proof_fault.ProofFault.TheVariants.{NoSuchAgent, OffMap}
use Rattle.proof_text.specs.declared.proof_fault.ProofFault.TheVariants.{LeafTooLow, NotTight}
use Rattle.proof_text.specs.declared.proof_fault.ProofFault.TheVariants.{ReadFailed, OutOfMemory}
use Rattle.proof_text.specs.ProofFault.{HasProofFault, IsProofLineDue, ProofFaultAt}
use Rattle.proof_text.specs.ProofFault.{longest_proof_line, proof_outcome}
use Rattle.proof_text.specs.ProofText.{ProofDue, ProofLeads, ProofText, header_due, nodes_due}
use Rattle.proof_text.specs.Code.ProofReading.{ProofRefuses}
use Rattle.proof_text.specs.Laws.Decided.{PlacesStand, StopsLast}
use Rattle.proof_text.specs.Laws.Decided.{no_fault_decided, no_fault_decided-over}
use Rattle.proof_text.specs.Laws.RightLines.{NotBothLeaves}

module _ (m : Grid) (ends : List Ends) where
  -- a fault of a line is a fault of the text
  proof_fault-outcome : (fault : ProofFault) (place : Place) (due : ProofDue) (number : ℕ)
      (line : List ℕ) → HasProofFault m ends fault place due number line
      → proof_outcome (Err fault) ≡ is_fault fault
  proof_fault-outcome (BadHeader at) place due number line h = refl
  proof_fault-outcome (BadNode at) place due number line h = refl
  proof_fault-outcome (BadNumber at) place due number line h = refl
  proof_fault-outcome (TooMany at) place due number line h = refl
  proof_fault-outcome (Unfinished at) place due number line h = refl
  proof_fault-outcome (TextAfter at) place due number line h = refl
  proof_fault-outcome (NoSuchAgent at) place due number line h = refl
  proof_fault-outcome (OffMap at) place due number line h = refl
  proof_fault-outcome (LeafTooLow at least) place due number line h = refl
  proof_fault-outcome NotTight place due number line h = absurd h
  proof_fault-outcome ReadFailed place due number line h = absurd h
  proof_fault-outcome OutOfMemory place due number line h = absurd h

module _ {R : Type 0} {ahead : ℕ} (remaining : R → Option (List ℕ)) (first : Counted R)
    (now : Source R ahead) (m : Grid) (ends : List Ends) where
  -- the reader answers so
  abbrev pub ReadsProof : Result ProofClaim ProofFault → Type 0
  ReadsProof result =
      ReadsText (ProofText m ends) (ProofFaultAt m ends) (remaining (counted_inner first))
      (remaining (counted_inner (source_reader now))) (failures_of first)
      (failures_of (source_reader now)) (proof_outcome result)

  -- a fault stands at a byte that came
  proof_fault_found : (place : Place) (before : List (List ℕ)) (line : List ℕ) (due : ProofDue)
      (fault : ProofFault)
      → (come : HasCome remaining first now place before line) → failures_of (source_reader now)
      ≡ failures_of first → IsByte place
      → ProofLeads m ends header_due before due
      → HasProofFault m ends fault place due (line_number before) line → ReadsProof (Err fault)
  proof_fault_found place before line due fault come none byte right faulty =
      subst (ReadsText (ProofText m ends) (ProofFaultAt m ends) (remaining (counted_inner first))
      (remaining (counted_inner (source_reader now))) (failures_of first)
      (failures_of (source_reader now)))
      (sym (proof_fault-outcome m ends fault place due (line_number before) line faulty))
      (record {
        delivered = come.delivered;
        consumed = come.consumed;
        answer = inl (
          come.front,
          come.rest,
          place,
          come.bytes,
          byte,
          record {
            before = before;
            line = line;
            due = due;
            judged = come.judged by_line_feed;
            right = right;
            faulty = faulty;
          },
        );
        failures = none;
      })

  -- a line was refused at its LF
  pub refused_proof_line : (before : List (List ℕ)) (room : List ℕ) (count : ℕ) (due : ProofDue)
      (number : ℕ) (fault : ProofFault)
      → number ≡ line_number before → LineEnded remaining first now before room count
      → ProofLeads m ends header_due before due
      → ProofRefuses m ends due number (take count room) fault → ReadsProof (Err fault)
  refused_proof_line before room count due number fault is t right (inl (inl none)) =
      subst (λ f. ReadsProof (Err f)) (sym none)
      (record {
        delivered = t.come.delivered;
        consumed = t.come.consumed;
        answer = tt;
        failures = t.failures;
      })
  refused_proof_line before room count due number fault is t right (inl (inr loose)) =
      subst (λ f. ReadsProof (Err f)) (sym loose)
      (record {
        delivered = t.come.delivered;
        consumed = t.come.consumed;
        answer = tt;
        failures = t.failures;
      })
  refused_proof_line before room count due number fault is t right (inr faulty) =
      proof_fault_found at_line_feed before (take count room) due fault t.come t.failures tt right
      (subst (λ n. HasProofFault m ends fault at_line_feed due n (take count room)) is faulty)

  -- all that came where the input ended
  all_of_proof : (before : List (List ℕ)) (line : List ℕ)
      (come : HasCome remaining first now at_end before line) → come.delivered ≡ come.front
  all_of_proof before line come =
      come.bytes ∙ (ap (λ xs. come.front ++ xs) (come.whole refl) ∙ append-nil come.front)

  proof_stops : (before : List (List ℕ)) (line : List ℕ)
      (come : HasCome remaining first now at_end before line)
      → StopsIn by_line_feed before line come.delivered
  proof_stops before line come =
      subst (StopsIn by_line_feed before line) (sym (all_of_proof before line come))
      (come.judged by_line_feed)

  -- the input ended before a line's LF
  pub unfinished_proof : (before : List (List ℕ)) (room : List ℕ) (count : ℕ) (due : ProofDue)
      (number : ℕ) → number ≡ line_number before
      → length room ≡ longest_proof_line → InputEnded remaining first now before room count
      → ProofLeads m ends header_due before due → IsProofLineDue due
      → ReadsProof (Err (Unfinished number))
  unfinished_proof before room count due number is size t right is_due = record {
    delivered = t.come.delivered;
    consumed = t.come.consumed;
    answer = inr (
      record {
        before = before;
        line = take count room;
        due = due;
        judged = proof_stops before (take count room) t.come;
        right = right;
        faulty = (is, refl, is_due, omega (arith, t.in_room, size, length-take count room));
      },
      t.spent,
    );
    failures = t.failures;
  }

  -- a line is too long
  pub long_proof_line : (before : List (List ℕ)) (room : List ℕ) (due : ProofDue) (number : ℕ)
      → number ≡ line_number before
      → length room ≡ longest_proof_line → LongLineTaken remaining first now before room
      → ProofLeads m ends header_due before due → IsProofLineDue due
      → ReadsProof (Err (TooMany number))
  long_proof_line before room due number is size t right is_due =
      proof_fault_found at_byte before t.line due (TooMany number) t.come t.failures tt right
      (is, inl (refl, is_due, omega (arith, t.length_is, size)))

  -- the reader failed within a line that is due
  pub failed_in_proof : PlacesStand → StopsLast → NotBothLeaves
      → (before : List (List ℕ)) (room : List ℕ) (due : ProofDue)
      → length room ≡ longest_proof_line → ReaderFailed remaining first now before room
      → ProofLeads m ends header_due before due → IsProofLineDue due
      → ReadsProof (Err ReadFailed)
  failed_in_proof stand last leaves before room due size t right is_due = record {
    delivered = t.come.delivered;
    consumed = t.come.consumed;
    answer =
        no_fault_decided leaves m ends stand last before t.line t.come.delivered due
        (proof_stops before t.line t.come) right is_due
        (omega (arith, t.in_room, size));
    failures = t.failures;
  }

  -- nothing followed the last line, and no node is due
  pub ended_proof : (before : List (List ℕ)) (room : List ℕ) (count : ℕ) (due : ProofDue)
      (claim : ProofClaim) → length room ≡ 0
      → InputEnded remaining first now before room count → ProofLeads m ends header_due before due
      → due ≡ nodes_due claim.objective claim.bound claim.nodes [] → ReadsProof (Ok claim)
  ended_proof before room count due claim size t right over =
      let empty : take count room ≡ [] =
      nil_from_length (take count room) (omega (arith, size, length-take count room)) in
      let whole = proof_stops before (take count room) t.come in
      let text : t.come.delivered ≡ ended before =
      whole.0 ∙ (ap (λ xs. ended before ++ xs) empty ∙ append-nil (ended before)) in
      record {
        delivered = t.come.delivered;
        consumed = t.come.consumed;
        answer = (
          record {
            lines = before;
            bytes = text;
            right = subst (ProofLeads m ends header_due before) over right;
          },
          t.spent,
        );
        failures = t.failures;
      }

  -- the reader failed behind the last line
  pub failed_after_proof : PlacesStand → StopsLast → NotBothLeaves
      → (before : List (List ℕ)) (room : List ℕ) (due : ProofDue) → length room ≡ 0
      → ReaderFailed remaining first now before room → ProofLeads m ends header_due before due
      → ReadsProof (Err ReadFailed)
  failed_after_proof stand last leaves before room due size t right = record {
    delivered = t.come.delivered;
    consumed = t.come.consumed;
    answer =
        no_fault_decided-over leaves m ends stand last before t.line t.come.delivered due
        (proof_stops before t.line t.come)
        (nil_from_length t.line (omega (arith, t.in_room, size))) right;
    failures = t.failures;
  }

  -- an LF followed it
  line_after_proof : (before : List (List ℕ)) (room : List ℕ) (count : ℕ) (due : ProofDue)
      (number : ℕ) → number ≡ line_number before
      → length room ≡ 0 → LineEnded remaining first now before room count
      → ProofLeads m ends header_due before due → (IsProofLineDue due → ⊥)
      → ReadsProof (Err (TextAfter number))
  line_after_proof before room count due number is size t right none =
      let empty : take count room ≡ [] =
      nil_from_length (take count room) (omega (arith, size, length-take count room)) in
      proof_fault_found at_line_feed before (take count room) due (TextAfter number) t.come
      t.failures tt right (is, none, inl (refl, empty))

  -- another byte followed it
  byte_after_proof : (before : List (List ℕ)) (room : List ℕ) (due : ProofDue) (number : ℕ)
      → number ≡ line_number before
      → length room ≡ 0 → LongLineTaken remaining first now before room
      → ProofLeads m ends header_due before due → (IsProofLineDue due → ⊥)
      → ReadsProof (Err (TextAfter number))
  byte_after_proof before room due number is size t right none =
      let one = one_byte t.line (omega (arith, t.length_is, size)) in
      proof_fault_found at_byte before t.line due (TextAfter number) t.come t.failures tt right
      (is, none, inr (refl, one.0, one.1))
    where
      one_byte : (line : List ℕ) → length line ≡ 1 → (b : ℕ) × (line ≡ b ∷ [])
      one_byte [] e = absurd (omega arith)
      one_byte (b ∷ []) e = (b, refl)
      one_byte (b ∷ c ∷ line) e = absurd (omega arith)

  -- text followed it
  pub text_after_proof : (before : List (List ℕ)) (room : List ℕ) (result : TakenLine)
      (due : ProofDue) (number : ℕ)
      → ((count : ℕ) × (result ≡ WithLineFeed count)) ⊎ (result ≡ TooLong)
      → number ≡ line_number before → length room ≡ 0
      → LineTaken remaining first now before room result → ProofLeads m ends header_due before due
      → (IsProofLineDue due → ⊥)
      → ReadsProof (Err (TextAfter number))
  text_after_proof before room result due number (inl (count, e)) is size t right none =
      line_after_proof before room count due number is size
      (subst (LineTaken remaining first now before room) e t) right none
  text_after_proof before room result due number (inr e) is size t right none =
      byte_after_proof before room due number is size
      (subst (LineTaken remaining first now before room) e t) right none
