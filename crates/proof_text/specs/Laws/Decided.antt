-- No fault is decided among right lines.
use Rattle.std.proofs.Common.{◌≡◌, ℕ, ◌<◌, ◌≤◌, ◌⊎◌, inl, inr, Bool}
use Rattle.std.proofs.Common.{true, false, List, [], ◌∷◌, ◌++◌, length, refl}
use Rattle.std.proofs.Common.{sym, ap, ◌∙◌, subst, arith, length-append, append-nil}
use Rattle.std.specs.Prelude.{◌==◌}
use Rattle.std.proofs.lemmas.Bool.{cond-true, both_ways, and_parts}
use Rattle.text_io.specs.Text.{IsLine, lines_of, ended, ends_in_line_feed, line_feed, is_line_byte}
use Rattle.text_io.specs.Reading.{by_line_feed, Place, at_line_feed, at_byte, at_end, JudgedAt}
use Rattle.text_io.specs.Reading.{StandsIn, StopsIn, IsByte, Decides, line_number}
use Rattle.grid.specs.Map.{Grid}
use Rattle.optimality.specs.declared.constraint.Ends.{Ends}
use Rattle.proof_text.specs.declared.proof_fault.ProofFault.{ProofFault}
use Rattle.proof_text.specs.ProofFault.{HasProofFault, IsProofLineDue}
use Rattle.proof_text.specs.ProofFault.{ProofFaultAt, longest_proof_line}
use Rattle.proof_text.specs.ProofText.{ProofDue, ProofFollows, ProofLeads, header_due}
use Rattle.proof_text.specs.Laws.RightLines.{NotBothLeaves, fault_within, follows_due}
use Rattle.proof_text.specs.Laws.RightLines.{follows_faultless, follows_short, leads_between}
use Rattle.proof_text.specs.Laws.RightLines.{leads_once}

-- what the places of a text mean by its lines, as `text_io::laws::places` has it
abbrev pub PlacesStand : Type 0
PlacesStand =
    (text front rest : List ℕ) (place : Place) (before : List (List ℕ)) (line : List ℕ)
    → text ≡ front ++ rest
    → IsByte place → JudgedAt by_line_feed place before line front
    → StandsIn by_line_feed place before line text

-- the lines of a text that stops in a line
abbrev pub StopsLast : Type 0
StopsLast =
    (text : List ℕ) (before : List (List ℕ)) (line : List ℕ)
    → JudgedAt by_line_feed at_end before line text
    → ((line ≡ []) × (lines_of text ≡ before))
    ⊎ ((0 < length line) × (lines_of text ≡ before ++ line ∷ []))

-- ---- lists of lines

-- an element stands in the front of a list, or behind it
data FoundIn (before : List (List ℕ)) (rest : List (List ℕ)) (others : List (List ℕ))
    (found : List ℕ) (after : List (List ℕ)) : Type 0 where
  in_front : (more : List (List ℕ)) (is : before ≡ others ++ found ∷ more)
      → FoundIn before rest others found after
  in_rest : (less : List (List ℕ)) (is : others ≡ before ++ less)
      (behind : rest ≡ less ++ found ∷ after) → FoundIn before rest others found after

found_where : (before rest others : List (List ℕ)) (found : List ℕ) (after : List (List ℕ))
    → before ++ rest ≡ others ++ found ∷ after
    → FoundIn before rest others found after
found_where [] rest others found after e = in_rest others refl e
found_where (b ∷ before) rest [] found after e =
    in_front before (let first : b ≡ found = cc in ap (λ l. l ∷ before) first)
found_where (b ∷ before) rest (o ∷ others) found after e =
    let first : b ≡ o = cc in
    let behind : before ++ rest ≡ others ++ found ∷ after = cc in
    elim (found_where before rest others found after behind) as
    (λ _. FoundIn (b ∷ before) rest (o ∷ others) found after) [
      | in_front more is ↦ in_front more (cc)
      | in_rest less is more ↦ in_rest less (cc) more
    ]

never_empty : (less : List (List ℕ)) (found : List ℕ) (after : List (List ℕ))
    → [] ≡ less ++ found ∷ after → ⊥
never_empty [] found after e = cc
never_empty (l ∷ less) found after e = cc

-- the one element of a list
only_one : (line : List ℕ) (less : List (List ℕ)) (found : List ℕ) (after : List (List ℕ))
    → line ∷ [] ≡ less ++ found ∷ after
    → (less ≡ []) × (line ≡ found) × (after ≡ [])
only_one line [] found after e = (refl, cc, cc)
only_one line (l ∷ less) found after e = absurd (never_empty less found after (cc))

-- ---- a line without its LF

open_line : (line : List ℕ) → IsLine line → ends_in_line_feed line ≡ false
open_line [] h = refl
open_line (b ∷ []) h = go (b == line_feed) refl
  where
    go : (t : Bool) → (b == line_feed) ≡ t → ends_in_line_feed (b ∷ []) ≡ false
    go false e = e
    go true e =
        absurd (both_ways (is_line_byte b) (cond-true (b == line_feed) false true e)
        (and_parts (is_line_byte b) true h).0)
open_line (b ∷ c ∷ line) h = open_line (c ∷ line) (and_parts (is_line_byte b) _ h).1

ends_as_last
    : (xs line : List ℕ) → 0 < length line → ends_in_line_feed (xs ++ line) ≡ ends_in_line_feed line
ends_as_last [] line some = refl
ends_as_last (x ∷ []) [] some = absurd (omega arith)
ends_as_last (x ∷ []) (b ∷ line) some = refl
ends_as_last (x ∷ y ∷ xs) line some = ends_as_last (y ∷ xs) line some

-- ---- faults among right lines

module _ (leaves : NotBothLeaves) (m : Grid) (ends : List Ends) where
  -- no fault stands in a right line, nor in its beginning
  whole_is_right : (before : List (List ℕ)) (line : List ℕ) (more : List (List ℕ))
      (last due : ProofDue) (fault : ProofFault) (number : ℕ)
      → ProofLeads m ends header_due (before ++ line ∷ more) last
      → ProofLeads m ends header_due before due
      → HasProofFault m ends fault at_line_feed due number line → ⊥
  whole_is_right before line more last due fault number right to h =
      let at = leads_between m ends header_due before line more last right in
      let same = leads_once m ends header_due before at.0 due at.2 to in
      follows_faultless m ends leaves fault due number line at.1
      (subst (λ d. ProofFollows m ends d line at.1) same at.3) h

  front_is_right : (before : List (List ℕ)) (line tail : List ℕ) (more : List (List ℕ))
      (last due : ProofDue) (fault : ProofFault) (number : ℕ)
      → ProofLeads m ends header_due (before ++ (line ++ tail) ∷ more) last
      → ProofLeads m ends header_due before due
      → HasProofFault m ends fault at_byte due number line → ⊥
  front_is_right before line tail more last due fault number right to h =
      let at = leads_between m ends header_due before (line ++ tail) more last right in
      let same = leads_once m ends header_due before at.0 due at.2 to in
      let follows : ProofFollows m ends due (line ++ tail) at.1 =
      subst (λ d. ProofFollows m ends d (line ++ tail) at.1) same at.3 in
      let short = follows_short m ends due (line ++ tail) at.1 follows in
      let long = fault_within m ends fault due number line
      (follows_due m ends due (line ++ tail) at.1 follows) h in
      omega (arith, short, long, length-append line tail)

  -- What stands in the text stands among its right lines, or in what follows them, which is no
  -- whole line and begins none that is too long.
  among : (before : List (List ℕ)) (rest : List (List ℕ)) (text : List ℕ) (last : ProofDue)
      → ProofLeads m ends header_due before last → lines_of text ≡ before ++ rest
      → ((less : List (List ℕ)) (found : List ℕ) (after : List (List ℕ))
      → rest ≡ less ++ found ∷ after
      → (less ≡ []) × (after ≡ []) × (ends_in_line_feed text ≡ false) × IsProofLineDue last
      × (length found ≤ longest_proof_line))
      → (fault : ProofFault) (place : Place) (others : List (List ℕ)) (line : List ℕ)
      (due : ProofDue) (number : ℕ) → IsByte place
      → StandsIn by_line_feed place others line text → ProofLeads m ends header_due others due
      → HasProofFault m ends fault place due number line → ⊥
  among before rest text last right lines tail fault at_line_feed others line due number byte
      (after, stands, feed) to h =
      elim (found_where before rest others line after (sym lines ∙ stands)) as (λ _. ⊥) [
        | in_front more is ↦ whole_is_right others line more last due fault number
            (subst (λ ls. ProofLeads m ends header_due ls last) is right) to h
        | in_rest less is behind ↦
            let t = tail less line after behind in
            both_ways (ends_in_line_feed text) t.2 (feed t.1)
      ]
  among before rest text last right lines tail fault at_byte others line due number byte
      (some, more, after, stands) to h =
      elim (found_where before rest others (line ++ more) after (sym lines ∙ stands)) as (λ _. ⊥) [
        | in_front behind is ↦
            front_is_right others line more behind last due fault number
            (subst (λ ls. ProofLeads m ends header_due ls last) is right) to h
        | in_rest less is behind ↦
            let t = tail less (line ++ more) after behind in
            let here : others ≡ before = is ∙ (ap (λ ls. before ++ ls) t.0 ∙ append-nil before) in
            let same = leads_once m ends header_due before last due right
            (subst (λ ls. ProofLeads m ends header_due ls due) here to) in
            let long = fault_within m ends fault due number line
            (subst IsProofLineDue same t.3) h in
            omega (arith, long, t.4, length-append line more)
      ]
  among before rest text last right lines tail fault at_end others line due number byte
      stands to h = byte

  decided_among : PlacesStand → (before : List (List ℕ)) (rest : List (List ℕ)) (text : List ℕ)
      (last : ProofDue) → ProofLeads m ends header_due before last
      → lines_of text ≡ before ++ rest
      → ((less : List (List ℕ)) (found : List ℕ) (after : List (List ℕ))
      → rest ≡ less ++ found ∷ after
      → (less ≡ []) × (after ≡ []) × (ends_in_line_feed text ≡ false) × IsProofLineDue last
      × (length found ≤ longest_proof_line))
      → (fault : ProofFault) → Decides (ProofFaultAt m ends) fault text → ⊥
  decided_among stand before rest text last right lines tail fault
      (front, behind, place, is, byte, at) =
      among before rest text last right lines tail fault place at.before at.line at.due
      (line_number at.before) byte
      (stand text front behind place at.before at.line is byte at.judged) at.right at.faulty

  -- nothing is decided where a text stops in a line that is due and not too long
  pub no_fault_decided : PlacesStand → StopsLast
      → (before : List (List ℕ)) (line text : List ℕ) (due : ProofDue)
      → StopsIn by_line_feed before line text
      → ProofLeads m ends header_due before due → IsProofLineDue due
      → length line ≤ longest_proof_line
      → (fault : ProofFault) → Decides (ProofFaultAt m ends) fault text → ⊥
  no_fault_decided stand last before line text due stops right is short fault decided =
      go (last text before line stops)
    where
      go : ((line ≡ []) × (lines_of text ≡ before))
          ⊎ ((0 < length line) × (lines_of text ≡ before ++ line ∷ [])) → ⊥
      go (inl (none, lines)) =
          decided_among stand before [] text due right (lines ∙ sym (append-nil before))
          (λ less found after e. absurd (never_empty less found after e)) fault decided
      go (inr (some, lines)) =
          decided_among stand before (line ∷ []) text due right lines
          (λ less found after e.
          let one = only_one line less found after e in (
            one.0,
            one.2,
            ap ends_in_line_feed stops.0
                ∙ (ends_as_last (ended before) line some ∙ open_line line stops.2),
            is,
            omega (arith, ap length one.1, short),
          ))
          fault decided

  -- nor where it stops behind the last line
  pub no_fault_decided-over : PlacesStand → StopsLast
      → (before : List (List ℕ)) (line text : List ℕ) (due : ProofDue)
      → StopsIn by_line_feed before line text
      → line ≡ [] → ProofLeads m ends header_due before due → (fault : ProofFault)
      → Decides (ProofFaultAt m ends) fault text → ⊥
  no_fault_decided-over stand last before line text due stops empty right fault decided =
      go (last text before line stops)
    where
      go : ((line ≡ []) × (lines_of text ≡ before))
          ⊎ ((0 < length line) × (lines_of text ≡ before ++ line ∷ [])) → ⊥
      go (inl (none, lines)) =
          decided_among stand before [] text due right (lines ∙ sym (append-nil before))
          (λ less found after e. absurd (never_empty less found after e)) fault decided
      go (inr (some, lines)) = omega (arith, some, ap length empty)
