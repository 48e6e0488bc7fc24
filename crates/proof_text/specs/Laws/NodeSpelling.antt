-- A line spells one node.
use Rattle.std.proofs.Common.{◌≡◌, ℕ, ◌+◌, ◌*◌, ◌^◌, ◌<◌, ◌≤◌, inl}
use Rattle.std.proofs.Common.{inr, List, [], ◌∷◌, ◌++◌, length, refl, sym}
use Rattle.std.proofs.Common.{ap, ◌∙◌, subst, arith, codes, length-append}
use Rattle.std.specs.Prelude.{◌==◌}
use Rattle.std.specs.List.{AllByRecursion, join_with_byte, list_all, slice_split}
use Rattle.std.specs.Str.Parse.{digits_value}
use Rattle.std.proofs.lemmas.Bool.{and_from}
use Rattle.std.proofs.lemmas.Fmt.{length-decimal-le}
use Rattle.std.proofs.lemmas.List.{append_cancel_left}
use Rattle.std.proofs.lemmas.List.Folds.{list_all-append}
use Rattle.std.proofs.lemmas.List.Splits.{join_with_byte-slice_split}
use Rattle.text_io.specs.Numerals.{IsNumeral}
use Rattle.text_io.specs.Text.{IsLine, is_line_byte, space}
use Rattle.text_io.specs.Laws.Numerals.{decimal-from_IsNumeral}
use Rattle.text_io.specs.Laws.Parts.{IsLine-part, IsPart-digits}
use Rattle.grid.specs.declared.cell.Cell.{Cell}
use Rattle.optimality.specs.declared.node.Node.{Node}
use Rattle.optimality.specs.declared.node.Node.TheVariants.{Vertex, Swap, At, Goes, Stays}
use Rattle.plan_text.specs.PlanText.{SaysNumber}
use Rattle.plan_text.specs.PlanTextFault.{IsCoordinate}
use Rattle.proof_text.specs.ProofFault.{HasForm, IsForm, longest_proof_line}
use Rattle.proof_text.specs.ProofLines.{AreSmallNumerals, SpellsNode, node_numbers, node_word}

-- ---- numbers

numeral_says_one : (m n : ℕ) (ds es : List ℕ) → IsNumeral m ds → IsNumeral n es → ds ≡ es → m ≡ n
numeral_says_one m n ds es h k e = sym h.spells.2 ∙ (ap (λ xs. digits_value 10 xs) e ∙ k.spells.2)

pub number_said_once : (word : List ℕ) (m n : ℕ) (line : List ℕ) → SaysNumber word m line
    → SaysNumber word n line → m ≡ n
number_said_once word m n line h k =
    numeral_says_one m n h.0 k.0 h.2 k.2 (append_cancel_left word h.0 k.0 (sym h.1 ∙ k.1))

numbers_said_once : (ns ks : List ℕ) (parts : List (List ℕ)) → AreSmallNumerals ns parts
    → AreSmallNumerals ks parts → ns ≡ ks
numbers_said_once [] [] parts h k = refl
numbers_said_once [] (n ∷ ks) parts h k = absurd (let both = sym h ∙ k.2 in cc)
numbers_said_once (n ∷ ns) [] parts h k = absurd (let both = sym k ∙ h.2 in cc)
numbers_said_once (n ∷ ns) (k ∷ ks) parts h g =
    let both = sym h.2 ∙ g.2 in
    let digits : h.0 ≡ g.0 = cc in
    let others : h.1 ≡ g.1 = cc in
    let first = numeral_says_one n k h.0 g.0 h.3 g.3 digits in
    let rest = numbers_said_once ns ks g.1 (subst (AreSmallNumerals ns) others h.5) g.5 in
    cc

-- as many parts as numbers
pub numerals_count
    : (ns : List ℕ) (parts : List (List ℕ)) → AreSmallNumerals ns parts → length parts ≡ length ns
numerals_count [] parts h = ap length h
numerals_count (n ∷ ns) parts h = omega (arith, ap length h.2, numerals_count ns h.1 h.5)

-- each part is a number that a node may have, and not empty
pub numerals_pass : (ns : List ℕ) (parts : List (List ℕ)) → AreSmallNumerals ns parts
    → AllByRecursion IsCoordinate parts
numerals_pass [] parts h = subst (AllByRecursion IsCoordinate) (sym h) tt
numerals_pass (n ∷ ns) parts h =
    subst (AllByRecursion IsCoordinate) (sym h.2) ((n, h.3, h.4), numerals_pass ns h.1 h.5)

pub numerals_some : (ns : List ℕ) (parts : List (List ℕ)) → AreSmallNumerals ns parts
    → AllByRecursion (λ part. 0 < length part) parts
numerals_some [] parts h = subst (AllByRecursion (λ part. 0 < length part)) (sym h) tt
numerals_some (n ∷ ns) parts h =
    subst (AllByRecursion (λ part. 0 < length part)) (sym h.2)
    (h.3.spells.1, numerals_some ns h.1 h.5)

-- ---- nodes

cell_by_numbers : (c d : Cell) → c.x ≡ d.x → c.y ≡ d.y → c ≡ d
cell_by_numbers c d x y =
    ap (λ n. record { x = n; y = c.y }) x ∙ ap (λ n. record { x = d.x; y = n }) y

-- a node is told by its numbers, since no two kinds have as many
node_by_numbers : (a b : Node) → node_numbers a ≡ node_numbers b → a ≡ b
node_by_numbers (Vertex i j t c) (Vertex k l s d) e =
    let place : c ≡ d = cell_by_numbers c d (cc) (cc) in cc
node_by_numbers (Swap i j t u v) (Swap k l s c d) e =
    let from : u ≡ c = cell_by_numbers u c (cc) (cc) in
    let to : v ≡ d = cell_by_numbers v d (cc) (cc) in
    cc
node_by_numbers (At i t c) (At k s d) e = let place : c ≡ d = cell_by_numbers c d (cc) (cc) in cc
node_by_numbers (Goes i t u v) (Goes k s c d) e =
    let from : u ≡ c = cell_by_numbers u c (cc) (cc) in
    let to : v ≡ d = cell_by_numbers v d (cc) (cc) in
    cc
node_by_numbers (Stays i t) (Stays k s) e = cc
node_by_numbers (Vertex i j t c) (Swap k l s u v) e = absurd (omega (arith, ap length e))
node_by_numbers (Vertex i j t c) (At k s d) e = absurd (omega (arith, ap length e))
node_by_numbers (Vertex i j t c) (Goes k s u v) e = absurd (omega (arith, ap length e))
node_by_numbers (Vertex i j t c) (Stays k s) e = absurd (omega (arith, ap length e))
node_by_numbers (Swap i j t u v) (Vertex k l s d) e = absurd (omega (arith, ap length e))
node_by_numbers (Swap i j t u v) (At k s d) e = absurd (omega (arith, ap length e))
node_by_numbers (Swap i j t u v) (Goes k s c d) e = absurd (omega (arith, ap length e))
node_by_numbers (Swap i j t u v) (Stays k s) e = absurd (omega (arith, ap length e))
node_by_numbers (At i t c) (Vertex k l s d) e = absurd (omega (arith, ap length e))
node_by_numbers (At i t c) (Swap k l s u v) e = absurd (omega (arith, ap length e))
node_by_numbers (At i t c) (Goes k s u v) e = absurd (omega (arith, ap length e))
node_by_numbers (At i t c) (Stays k s) e = absurd (omega (arith, ap length e))
node_by_numbers (Goes i t u v) (Vertex k l s d) e = absurd (omega (arith, ap length e))
node_by_numbers (Goes i t u v) (Swap k l s c d) e = absurd (omega (arith, ap length e))
node_by_numbers (Goes i t u v) (At k s d) e = absurd (omega (arith, ap length e))
node_by_numbers (Goes i t u v) (Stays k s) e = absurd (omega (arith, ap length e))
node_by_numbers (Stays i t) (Vertex k l s d) e = absurd (omega (arith, ap length e))
node_by_numbers (Stays i t) (Swap k l s u v) e = absurd (omega (arith, ap length e))
node_by_numbers (Stays i t) (At k s d) e = absurd (omega (arith, ap length e))
node_by_numbers (Stays i t) (Goes k s u v) e = absurd (omega (arith, ap length e))

pub node_spelled_once : (a b : Node) (line : List ℕ) → SpellsNode a line → SpellsNode b line → a ≡ b
node_spelled_once a b line h k =
    let both = sym h.cut ∙ k.cut in
    let parts : h.parts ≡ k.parts = cc in
    node_by_numbers a b
    (numbers_said_once (node_numbers a) (node_numbers b) k.parts
    (subst (AreSmallNumerals (node_numbers a)) parts h.numerals) k.numerals)

-- a node has numbers
node_has_numbers : (node : Node) → AreSmallNumerals (node_numbers node) [] → ⊥
node_has_numbers (Vertex i j t c) h = let bad = h.2 in cc
node_has_numbers (Swap i j t u v) h = let bad = h.2 in cc
node_has_numbers (At i t c) h = let bad = h.2 in cc
node_has_numbers (Goes i t u v) h = let bad = h.2 in cc
node_has_numbers (Stays i t) h = let bad = h.2 in cc

-- a leaf's line spells none
pub leaf_spells_none
    : (node : Node) (line : List ℕ) → line ≡ codes "leaf" → SpellsNode node line → ⊥
leaf_spells_none node line is h =
    let cut : codes "leaf" ∷ [] ≡ node_word node ∷ h.parts =
    sym (ap (slice_split (λ b. b == space)) is) ∙ h.cut in
    let none : h.parts ≡ [] = cc in
    node_has_numbers node (subst (AreSmallNumerals (node_numbers node)) none h.numerals)

-- ---- forms

node_form
    : (node : Node) (count : ℕ) → count ≡ length (node_numbers node) → IsForm (node_word node) count
node_form (Vertex i j t c) count e = inl (refl, e)
node_form (Swap i j t u v) count e = inr (inl (refl, e))
node_form (At i t c) count e = inr (inr (inl (refl, e)))
node_form (Goes i t u v) count e = inr (inr (inr (inl (refl, e))))
node_form (Stays i t) count e = inr (inr (inr (inr (inl (refl, e)))))

pub node_has_form : (node : Node) (line : List ℕ) (h : SpellsNode node line) → HasForm h.parts line
node_has_form node line h = record {
  word = node_word node;
  cut = h.cut;
  form = node_form node (length h.parts) (numerals_count (node_numbers node) h.parts h.numerals);
  some = numerals_some (node_numbers node) h.parts h.numerals;
}

pub leaf_has_form : (line : List ℕ) → line ≡ codes "leaf" → HasForm [] line
leaf_has_form line is = record {
  word = codes "leaf";
  cut = ap (slice_split (λ b. b == space)) is;
  form = inr (inr (inr (inr (inr (refl, refl)))));
  some = tt;
}

-- a line has one form
pub one_form : (parts others : List (List ℕ)) (line : List ℕ) → HasForm parts line
    → HasForm others line → parts ≡ others
one_form parts others line h k = let both = sym h.cut ∙ k.cut in cc

-- ---- how long a line is

numeral_short : (n : ℕ) (digits : List ℕ) → IsNumeral n digits → n < 65536 → length digits ≤ 5
numeral_short n digits h small =
    let fits : n < 2 ^ 64 = omega arith in
    omega (
      arith,
      ap length (decimal-from_IsNumeral n digits h fits),
      length-decimal-le 5 n (omega arith) (omega arith) fits,
    )

joined_length : (word part : List ℕ) (parts : List (List ℕ))
    → length (join_with_byte space (word ∷ part ∷ parts)) ≡ length word + 1 + length
    (join_with_byte space (part ∷ parts))
joined_length word part parts =
    omega (arith, length-append word (space ∷ join_with_byte space (part ∷ parts)))

joined_short : (word : List ℕ) (ns : List ℕ) (parts : List (List ℕ)) → AreSmallNumerals ns parts
    → length (join_with_byte space (word ∷ parts)) ≤ length word + 6 * length ns
joined_short word [] parts h = omega (arith, ap (λ ps. length (join_with_byte space (word ∷ ps))) h)
joined_short word (n ∷ ns) parts h =
    let first = numeral_short n h.0 h.3 h.4 in
    let rest = joined_short h.0 ns h.1 h.5 in
    omega (
      arith,
      ap (λ ps. length (join_with_byte space (word ∷ ps))) h.2,
      joined_length word h.0 h.1,
      first,
      rest,
    )

node_line_short
    : (node : Node) → length (node_word node) + 6 * length (node_numbers node) ≤ longest_proof_line
node_line_short (Vertex i j t c) = omega arith
node_line_short (Swap i j t u v) = omega arith
node_line_short (At i t c) = omega arith
node_line_short (Goes i t u v) = omega arith
node_line_short (Stays i t) = omega arith

node_joined : (node : Node) (line : List ℕ) (h : SpellsNode node line)
    → line ≡ join_with_byte space (node_word node ∷ h.parts)
node_joined node line h =
    sym (join_with_byte-slice_split space line) ∙ ap (join_with_byte space) h.cut

pub node_short
    : (node : Node) (line : List ℕ) → SpellsNode node line → length line ≤ longest_proof_line
node_short node line h =
    omega (
      arith,
      ap length (node_joined node line h),
      joined_short (node_word node) (node_numbers node) h.parts h.numerals,
      node_line_short node,
    )

pub number_short : (word : List ℕ) (n : ℕ) (line : List ℕ) → SaysNumber word n line → n < 2 ^ 32
    → length word ≡ 6 → length line ≤ longest_proof_line
number_short word n line h small size =
    let fits : n < 2 ^ 64 = omega arith in
    let few = length-decimal-le 10 n (omega arith) (omega arith) fits in
    omega (
      arith,
      ap length h.1,
      length-append word h.0,
      ap length (decimal-from_IsNumeral n h.0 h.2 fits),
      few,
      size,
    )

-- ---- no line has an LF

is_line_joined : (xs ys : List ℕ) → IsLine xs → IsLine ys → IsLine (xs ++ ys)
is_line_joined xs ys h k =
    list_all-append is_line_byte xs ys ∙ and_from (list_all is_line_byte xs) _ h k

numeral_is_line : (n : ℕ) (digits : List ℕ) → IsNumeral n digits → IsLine digits
numeral_is_line n digits h = IsLine-part digits (IsPart-digits digits h.spells.0)

parts_are_line : (word : List ℕ) (ns : List ℕ) (parts : List (List ℕ)) → IsLine word
    → AreSmallNumerals ns parts → IsLine (join_with_byte space (word ∷ parts))
parts_are_line word [] parts is h =
    subst (λ ps. IsLine (join_with_byte space (word ∷ ps))) (sym h) is
parts_are_line word (n ∷ ns) parts is h =
    subst (λ ps. IsLine (join_with_byte space (word ∷ ps))) (sym h.2)
    (is_line_joined word (space ∷ join_with_byte space (h.0 ∷ h.1)) is
    (parts_are_line h.0 ns h.1 (numeral_is_line n h.0 h.3) h.5))

word_is_line : (node : Node) → IsLine (node_word node)
word_is_line (Vertex i j t c) = refl
word_is_line (Swap i j t u v) = refl
word_is_line (At i t c) = refl
word_is_line (Goes i t u v) = refl
word_is_line (Stays i t) = refl

pub node_is_line : (node : Node) (line : List ℕ) → SpellsNode node line → IsLine line
node_is_line node line h =
    subst IsLine (sym (node_joined node line h))
    (parts_are_line (node_word node) (node_numbers node) h.parts (word_is_line node) h.numerals)

pub number_is_line
    : (word : List ℕ) (n : ℕ) (line : List ℕ) → IsLine word → SaysNumber word n line → IsLine line
number_is_line word n line is h =
    subst IsLine (sym h.1) (is_line_joined word h.0 is (numeral_is_line n h.0 h.2))
