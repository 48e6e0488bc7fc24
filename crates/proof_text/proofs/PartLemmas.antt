-- How the line of a node is cut at its spaces.
use Rattle.std.proofs.Common.{◌≡◌, ◌≢◌, ℕ, ◌+◌, ◌<◌, ◌≤◌, ◌⊎◌, inl, inr, Bool, true, false, List}
use Rattle.std.proofs.Common.{[], ◌∷◌, ◌++◌, length, take, drop, set, get_or, refl, sym, ap, ◌∙◌}
use Rattle.std.proofs.Common.{subst, arith, codes, length-append, Option, None, Some}
use Rattle.std.specs.Prelude.{◌==◌, MatchOption}
use Rattle.std.specs.List.{AllByRecursion, join_with_byte, slice_split}
use Rattle.std.proofs.lemmas.Bool.{false_from_ne_true}
use Rattle.std.proofs.lemmas.List.{length-take, get_or-take, nil_from_length, take_more_set}
use Rattle.std.proofs.lemmas.List.Elements.{All-from_get_or}
use Rattle.std.proofs.lemmas.List.Splits.{slice_split_none, slice_split_at, join_with_byte-slice_split}
use Rattle.memchr.specs.Find.{Nowhere, NoneBefore, Passes, is_byte}
use Rattle.text_io.specs.Numerals.{IsNumeral}
use Rattle.text_io.specs.Text.{space}
use Rattle.text_io.specs.Laws.Lines.{AllByRecursion-append, AllByRecursion_push}
use Rattle.text_io.specs.Laws.Parts.{about}
use Rattle.optimality.specs.declared.node.Node.{Node}
use Rattle.plan_text.specs.PlanTextFault.{IsCoordinate}
use Rattle.proof_text.specs.declared.form.Form.{Form}
use Rattle.proof_text.specs.declared.form.Form.TheVariants.{Vertex, Swap, At, Goes, Stays}
use Rattle.proof_text.specs.declared.numbers.Numbers.{Numbers}
use Rattle.proof_text.specs.ProofFault.{HasForm, IsForm}
use Rattle.proof_text.specs.ProofLines.{AreSmallNumerals, SpellsNode, node_numbers, node_word}
use Rattle.proof_text.specs.Code.NodeParts.{AreRead, AreValues, HasNodeParts, form_count, form_word}

abbrev pub split : List ℕ → List (List ℕ)
split bytes = slice_split (λ b. b == space) bytes

-- no space was found
pub split-none : (bytes : List ℕ) → Nowhere (Passes (is_byte space) bytes) 0 (length bytes) → split bytes ≡ bytes ∷ []
split-none bytes none =
    slice_split_none (λ b. b == space) bytes
    (All-from_get_or (λ b. (b == space) ≡ false) bytes 0 (λ i below. false_from_ne_true (get_or bytes i 0 == space) (none i (omega arith) below)))

-- the first space was found
pub split-some : (bytes : List ℕ) (i : ℕ) → NoneBefore (Passes (is_byte space) bytes) 0 (length bytes) i → Passes (is_byte space) bytes i
    → split bytes ≡ take i bytes ∷ split (drop (i + 1) bytes)
split-some bytes i none found =
    ap split (about bytes i none.high)
    ∙ slice_split_at (λ b. b == space) (take i bytes) (get_or bytes i 0) (drop (i + 1) bytes)
    (All-from_get_or (λ b. (b == space) ≡ false) (take i bytes) 0
    (λ k below. let before : k < i = omega (arith, below, length-take i bytes) in
    ap (λ b. b == space) (get_or-take i bytes k 0 before) ∙ false_from_ne_true (get_or bytes k 0 == space) (none.before k (omega arith) before)))
    found

-- the first part, whether others are behind it or not
pub first_cut : {X : Type 0} (behind : Option X) (parts_of : X → List (List ℕ)) (part : List ℕ) (whole : List (List ℕ))
    → MatchOption behind (whole ≡ part ∷ []) (λ rest. whole ≡ part ∷ parts_of rest) → (parts : List (List ℕ)) × (whole ≡ part ∷ parts)
first_cut None parts_of part whole h = ([], h)
first_cut (Some rest) parts_of part whole h = (parts_of rest, h)

-- ---- reading parts, one after another

AreSmallNumerals-push : (numbers : List ℕ) (parts : List (List ℕ)) (n : ℕ) (part : List ℕ) → AreSmallNumerals numbers parts → IsNumeral n part → n < 65536
    → AreSmallNumerals (numbers ++ n ∷ []) (parts ++ part ∷ [])
AreSmallNumerals-push [] parts n part h is small = (part, [], ap (λ ps. ps ++ part ∷ []) h, is, small, refl)
AreSmallNumerals-push (k ∷ numbers) parts n part h is small =
    (h.0, h.1 ++ part ∷ [], ap (λ ps. ps ++ part ∷ []) h.2, h.3, h.4, AreSmallNumerals-push numbers h.1 n part h.5 is small)

AreValues-push : (known : Bool) (values : List ℕ) (parts : List (List ℕ)) (n : ℕ) (part : List ℕ) → AreValues known values parts → IsNumeral n part → n < 65536
    → AreValues known (values ++ n ∷ []) (parts ++ part ∷ [])
AreValues-push true values parts n part h is small = AreSmallNumerals-push values parts n part h is small
AreValues-push false values parts n part h is small = λ all. h (AllByRecursion-append IsCoordinate parts (part ∷ []) all).0

-- a part that is a number
pub read_number : (numbers now : Numbers) (parts : List (List ℕ)) (n : ℕ) (part : List ℕ) → AreRead numbers parts → 0 < length part
    → numbers.count < length numbers.values → IsNumeral n part → n < 65536 → now.count ≡ numbers.count + 1 → now.are_numbers ≡ numbers.are_numbers
    → now.values ≡ set numbers.values numbers.count n → AreRead now (parts ++ part ∷ [])
read_number numbers now parts n part h some room is small count known values = record {
  count = omega (arith, count, h.count, length-append parts (part ∷ []));
  some = AllByRecursion_push (λ p. 0 < length p) parts part h.some some;
  values =
      let more : take now.count now.values ≡ take numbers.count numbers.values ++ n ∷ [] =
      ap (λ k. take k now.values) count ∙ (ap (take (numbers.count + 1)) values ∙ take_more_set numbers.values numbers.count n room) in
      subst (λ b. AreValues b (take now.count now.values) (parts ++ part ∷ [])) (sym known)
      (subst (λ vs. AreValues numbers.are_numbers vs (parts ++ part ∷ [])) (sym more)
      (AreValues-push numbers.are_numbers (take numbers.count numbers.values) parts n part h.values is small));
}

-- a part that is none
pub read_other : (numbers now : Numbers) (parts : List (List ℕ)) (part : List ℕ) → AreRead numbers parts → 0 < length part
    → (IsCoordinate part → ⊥) → now.count ≡ numbers.count + 1 → now.are_numbers ≡ false → AreRead now (parts ++ part ∷ [])
read_other numbers now parts part h some none count known = record {
  count = omega (arith, count, h.count, length-append parts (part ∷ []));
  some = AllByRecursion_push (λ p. 0 < length p) parts part h.some some;
  values =
      subst (λ b. AreValues b (take now.count now.values) (parts ++ part ∷ [])) (sym known)
      (λ all. none (AllByRecursion-append IsCoordinate parts (part ∷ []) all).1.0);
}

-- a part is empty
pub empty_part : (whole before parts : List (List ℕ)) (part : List ℕ) → whole ≡ before ++ part ∷ parts → length part ≡ 0
    → AllByRecursion (λ p. 0 < length p) whole → ⊥
empty_part whole before parts part e none all =
    let some = (AllByRecursion-append (λ p. 0 < length p) before (part ∷ parts) (subst (AllByRecursion (λ p. 0 < length p)) e all)).1.0 in
    omega (arith, some, none)

-- there are too many
pub many_parts : (whole before parts : List (List ℕ)) (part : List ℕ) → whole ≡ before ++ part ∷ parts → length before ≡ 7 → length whole ≤ 7 → ⊥
many_parts whole before parts part e count few = omega (arith, ap length e, length-append before (part ∷ parts), count, few)

-- ---- words

-- a word is that of a form with so many numbers, or a leaf's with none
word_form : (word : List ℕ) (count : ℕ) → IsForm word count → ((form : Form) × (word ≡ form_word form) × (count ≡ form_count form)) ⊎ ((word ≡ codes "leaf") × (count ≡ 0))
word_form word count (inl h) = inl (Vertex, h.0, h.1)
word_form word count (inr (inl h)) = inl (Swap, h.0, h.1)
word_form word count (inr (inr (inl h))) = inl (At, h.0, h.1)
word_form word count (inr (inr (inr (inl h)))) = inl (Goes, h.0, h.1)
word_form word count (inr (inr (inr (inr (inl h))))) = inl (Stays, h.0, h.1)
word_form word count (inr (inr (inr (inr (inr h))))) = inr h

-- ---- forms of lines

-- a line that is one word
one_word : (line word : List ℕ) → split line ≡ word ∷ [] → line ≡ word
one_word line word e = sym (join_with_byte-slice_split space line) ∙ ap (join_with_byte space) e

-- the first word of a line is none of a node
pub no_word : (line word : List ℕ) (rest : List (List ℕ)) → split line ≡ word ∷ rest → ((form : Form) → word ≢ form_word form) → line ≢ codes "leaf"
    → (parts : List (List ℕ)) → HasForm parts line → ⊥
no_word line word rest cut none other parts h = go (word_form h.word (length parts) h.form)
  where
    first : h.word ≡ word
    first = let both = sym cut ∙ h.cut in cc

    go : ((form : Form) × (h.word ≡ form_word form) × (length parts ≡ form_count form)) ⊎ ((h.word ≡ codes "leaf") × (length parts ≡ 0)) → ⊥
    go (inl (form, is, count)) = none form (sym first ∙ is)
    go (inr (is, count)) =
        other (one_word line (codes "leaf") (h.cut ∙ (ap (λ ps. h.word ∷ ps) (nil_from_length parts count) ∙ ap (λ w. w ∷ []) is)))

-- the numbers are those of a node
pub SpellsNode-from_parts : (form : Form) (numbers : Numbers) (line : List ℕ) (node : Node) → HasNodeParts form numbers line → numbers.are_numbers ≡ true
    → node_word node ≡ form_word form → node_numbers node ≡ take (form_count form) numbers.values → SpellsNode node line
SpellsNode-from_parts form numbers line node h are word values =
    let count : numbers.count ≡ form_count form = h.read.count ∙ h.due in
    record {
      parts = h.parts;
      cut = h.cut ∙ ap (λ w. w ∷ h.parts) (sym word);
      numerals = subst (λ ns. AreSmallNumerals ns h.parts) (ap (λ k. take k numbers.values) count ∙ sym values)
          (subst (λ b. AreValues b (take numbers.count numbers.values) h.parts) are h.read.values);
    }
