-- The lines of a plan's text: each has one spelling, which is cut at its spaces.
use Rattle.std.proofs.Common.{◌≡◌, ℕ, ◌^◌, ◌<◌, ◌≤◌, true, false, List, [], ◌∷◌, ◌++◌, length, map, refl, sym, ap, ◌∙◌, arith, IsTrue, codes}
use Rattle.std.specs.Prelude.{decimal, not, ◌==◌}
use Rattle.std.specs.List.{All, join_with_byte, list_all, slice_split}
use Rattle.std.specs.Str.Parse.{digits_value}
use Rattle.std.proofs.lemmas.Bool.{and_parts, and_from, not-true, eq-eqb}
use Rattle.std.proofs.lemmas.Fmt.{length-decimal-le}
use Rattle.std.proofs.lemmas.List.{append_cancel_left, length-append, length-map}
use Rattle.std.proofs.lemmas.List.Elements.{All-weaker}
use Rattle.std.proofs.lemmas.List.Folds.{list_all-append}
use Rattle.std.proofs.lemmas.List.Splits.{slice_split_none, slice_split_at}
use Rattle.std.proofs.lemmas.List.Sums.{AllPass-from_list_all}
use Rattle.text_io.specs.Text.{space, is_line_byte, IsLine, IsPart, is_part_byte}
use Rattle.model.specs.declared.act.Act.{Act}
use Rattle.model.specs.declared.act.Act.TheVariants.{N, E, S, W, Wait}
use Rattle.model.specs.Plan.{Course}
use Rattle.text_io.specs.Laws.Numerals.{decimal-from_IsNumeral, decimal-IsNumeral}
use Rattle.plan_text.specs.Limits.{most_acts, IsCourse}
use Rattle.plan_text.specs.PlanText.{act_character, no_act, acts_text, SaysNumber, SpellsCourse, course_line}
use Rattle.text_io.specs.Numerals.{IsNumeral}
use Rattle.text_io.specs.Laws.Parts.{IsLine-part, IsPart-digits, list_all-weaker, decimal-is_part, part_byte-from}
use Rattle.plan_text.specs.PlanTextFault.{longest_plan_line, HasParts, is_act}

-- ---- bytes of a part

pub IsPart-acts : (bytes : List ℕ) → IsTrue (list_all is_act bytes) → IsPart bytes
IsPart-acts bytes h = list_all-weaker is_act is_part_byte (part_byte-from is_act refl refl) bytes h

no_space : (bytes : List ℕ) → IsPart bytes → All (λ b. (b == space) ≡ false) bytes
no_space bytes h =
    All-weaker (λ b. is_part_byte b ≡ true) (λ b. (b == space) ≡ false)
    (λ b k. not-true (b == space) (and_parts (not (b == space)) (is_line_byte b) k).0) bytes
    (AllPass-from_list_all is_part_byte bytes h)

IsLine-append : (xs ys : List ℕ) → IsLine xs → IsLine ys → IsLine (xs ++ ys)
IsLine-append xs ys h k = list_all-append is_line_byte xs ys ∙ and_from (list_all is_line_byte xs) _ h k

-- ---- a word and a number

pub SaysNumber-line : (word : List ℕ) (n : ℕ) (line : List ℕ) → SaysNumber word n line → n < 2 ^ 64 → line ≡ word ++ decimal n
SaysNumber-line word n line h fits = h.1 ∙ ap (λ xs. word ++ xs) (decimal-from_IsNumeral n h.0 h.2 fits)

pub SaysNumber-decimal : (word : List ℕ) (n : ℕ) → n < 2 ^ 64 → SaysNumber word n (word ++ decimal n)
SaysNumber-decimal word n fits = (decimal n, refl, decimal-IsNumeral n fits)

pub SaysNumber-same : (word : List ℕ) (m n : ℕ) (line : List ℕ) → SaysNumber word m line → SaysNumber word n line → m ≡ n
SaysNumber-same word m n line h k =
    let digits : h.0 ≡ k.0 = append_cancel_left word h.0 k.0 (sym h.1 ∙ k.1) in
    sym h.2.spells.2 ∙ (ap (λ ds. digits_value 10 ds) digits ∙ k.2.spells.2)

pub word_line-is_line : (word : List ℕ) (n : ℕ) → IsLine word → n < 2 ^ 64 → IsLine (word ++ decimal n)
word_line-is_line word n is fits = IsLine-append word (decimal n) is (IsLine-part (decimal n) (decimal-is_part n fits))

pub SaysNumber-short : (word : List ℕ) (n : ℕ) (line : List ℕ) → SaysNumber word n line → n < 2 ^ 32 → length word ≡ 7
    → length line ≤ longest_plan_line
SaysNumber-short word n line h small size =
    let fits : n < 2 ^ 64 = omega arith in
    let few = length-decimal-le 10 n (omega arith) (omega arith) fits in
    omega (arith, ap length (SaysNumber-line word n line h fits), length-append word (decimal n), few, size)

-- ---- acts

pub acts-pass : (acts : List Act) → IsTrue (list_all is_act (map act_character acts))
acts-pass [] = refl
acts-pass (N ∷ acts) = acts-pass acts
acts-pass (E ∷ acts) = acts-pass acts
acts-pass (S ∷ acts) = acts-pass acts
acts-pass (W ∷ acts) = acts-pass acts
acts-pass (Wait ∷ acts) = acts-pass acts

acts_text-is_part : (acts : List Act) → IsPart (acts_text acts)
acts_text-is_part [] = refl
acts_text-is_part (act ∷ acts) = IsPart-acts (map act_character (act ∷ acts)) (acts-pass (act ∷ acts))

act_character-same : (a b : Act) → act_character a ≡ act_character b → a ≡ b
act_character-same N N e = refl
act_character-same E E e = refl
act_character-same S S e = refl
act_character-same W W e = refl
act_character-same Wait Wait e = refl
act_character-same N E e = absurd (omega (arith, e))
act_character-same N S e = absurd (omega (arith, e))
act_character-same N W e = absurd (omega (arith, e))
act_character-same N Wait e = absurd (omega (arith, e))
act_character-same E N e = absurd (omega (arith, e))
act_character-same E S e = absurd (omega (arith, e))
act_character-same E W e = absurd (omega (arith, e))
act_character-same E Wait e = absurd (omega (arith, e))
act_character-same S N e = absurd (omega (arith, e))
act_character-same S E e = absurd (omega (arith, e))
act_character-same S W e = absurd (omega (arith, e))
act_character-same S Wait e = absurd (omega (arith, e))
act_character-same W N e = absurd (omega (arith, e))
act_character-same W E e = absurd (omega (arith, e))
act_character-same W S e = absurd (omega (arith, e))
act_character-same W Wait e = absurd (omega (arith, e))
act_character-same Wait N e = absurd (omega (arith, e))
act_character-same Wait E e = absurd (omega (arith, e))
act_character-same Wait S e = absurd (omega (arith, e))
act_character-same Wait W e = absurd (omega (arith, e))

characters-same : (xs ys : List Act) → map act_character xs ≡ map act_character ys → xs ≡ ys
characters-same [] [] e = refl
characters-same [] (y ∷ ys) e = absurd (cc)
characters-same (x ∷ xs) [] e = absurd (cc)
characters-same (x ∷ xs) (y ∷ ys) e =
    let first : act_character x ≡ act_character y = cc in
    let rest : map act_character xs ≡ map act_character ys = cc in
    let head = act_character-same x y first in
    let tail = characters-same xs ys rest in
    cc

act_is_some : (act : Act) → act_character act ≡ no_act → ⊥
act_is_some N e = omega (arith, e)
act_is_some E e = omega (arith, e)
act_is_some S e = omega (arith, e)
act_is_some W e = omega (arith, e)
act_is_some Wait e = omega (arith, e)

-- no acts are spelled as others
pub some_acts-text : (act : Act) (acts : List Act) → acts_text (act ∷ acts) ≡ no_act ∷ [] → ⊥
some_acts-text act acts e = act_is_some act (let first : act_character act ≡ no_act = cc in first)

acts_text-same : (xs ys : List Act) → acts_text xs ≡ acts_text ys → xs ≡ ys
acts_text-same [] [] e = refl
acts_text-same [] (y ∷ ys) e = absurd (some_acts-text y ys (sym e))
acts_text-same (x ∷ xs) [] e = absurd (some_acts-text x xs e)
acts_text-same (x ∷ xs) (y ∷ ys) e = characters-same (x ∷ xs) (y ∷ ys) e

-- some acts are spelled by their characters
pub acts_text-others : (acts : List Act) → 0 < length acts → acts_text acts ≡ map act_character acts
acts_text-others [] some = absurd (omega arith)
acts_text-others (act ∷ acts) some = refl

acts_text-some : (acts : List Act) → 0 < length (acts_text acts)
acts_text-some [] = omega arith
acts_text-some (act ∷ acts) = omega arith

acts_text-short : (acts : List Act) → length acts ≤ most_acts → length (acts_text acts) ≤ most_acts
acts_text-short [] h = omega arith
acts_text-short (act ∷ acts) h = omega (arith, length-map (act ∷ acts) act_character)

-- ---- the line of an agent

-- four parts with a space between each two
abbrev four : List ℕ → List ℕ → List ℕ → List ℕ → List ℕ
four word x y acts = join_with_byte space (word ∷ x ∷ y ∷ acts ∷ [])

four-split : (word x y acts : List ℕ) → IsPart word → IsPart x → IsPart y → IsPart acts
    → slice_split (λ b. b == space) (four word x y acts) ≡ word ∷ x ∷ y ∷ acts ∷ []
four-split word x y acts is_word is_x is_y is_acts =
    let same : (space == space) ≡ true = eq-eqb space space refl in
    slice_split_at (λ b. b == space) word space (x ++ (space ∷ (y ++ (space ∷ acts)))) (no_space word is_word) same
    ∙ ap (λ xs. word ∷ xs) (slice_split_at (λ b. b == space) x space (y ++ (space ∷ acts)) (no_space x is_x) same
    ∙ ap (λ xs. x ∷ xs) (slice_split_at (λ b. b == space) y space acts (no_space y is_y) same
    ∙ ap (λ xs. y ∷ xs) (slice_split_none (λ b. b == space) acts (no_space acts is_acts))))

spaced : (xs ys : List ℕ) → IsLine xs → IsLine ys → IsLine (xs ++ (space ∷ ys))
spaced xs ys h k = IsLine-append xs (space ∷ ys) h k

pub course_line-is_line : (course : Course) → IsCourse course → IsLine (course_line course)
course_line-is_line course h =
    let x : course.start.x < 2 ^ 64 = omega (arith, h.column) in
    let y : course.start.y < 2 ^ 64 = omega (arith, h.row) in
    let from_acts = acts_text course.acts in
    let from_y = decimal course.start.y ++ (space ∷ from_acts) in
    let from_x = decimal course.start.x ++ (space ∷ from_y) in
    spaced (codes "agent") from_x refl
    (spaced (decimal course.start.x) from_y (IsLine-part (decimal course.start.x) (decimal-is_part course.start.x x))
    (spaced (decimal course.start.y) from_acts (IsLine-part (decimal course.start.y) (decimal-is_part course.start.y y))
    (IsLine-part from_acts (acts_text-is_part course.acts))))

pub course_line-short : (course : Course) → IsCourse course → length (course_line course) ≤ longest_plan_line
course_line-short course h =
    let fits_x : course.start.x < 2 ^ 64 = omega (arith, h.column) in
    let fits_y : course.start.y < 2 ^ 64 = omega (arith, h.row) in
    let x = length-decimal-le 5 course.start.x (omega arith) (omega (arith, h.column)) fits_x in
    let y = length-decimal-le 5 course.start.y (omega arith) (omega (arith, h.row)) fits_y in
    let acts = acts_text-short course.acts h.acts_limit in
    let behind_y = length-append (decimal course.start.y) (space ∷ acts_text course.acts) in
    let behind_x = length-append (decimal course.start.x) (space ∷ (decimal course.start.y ++ (space ∷ acts_text course.acts))) in
    omega (arith, x, y, acts, behind_y, behind_x)

pub course_line-spells : (course : Course) → IsCourse course → SpellsCourse course (course_line course)
course_line-spells course h = record {
  x = decimal course.start.x;
  y = decimal course.start.y;
  bytes = refl;
  is_x = decimal-IsNumeral course.start.x (omega (arith, h.column));
  is_y = decimal-IsNumeral course.start.y (omega (arith, h.row));
}

-- the spelling, cut at its spaces
pub HasParts-course : (course : Course) (line : List ℕ) → (h : SpellsCourse course line) → HasParts h.x h.y (acts_text course.acts) line
HasParts-course course line h = record {
  parts =
      ap (slice_split (λ b. b == space)) h.bytes
      ∙ four-split (codes "agent") h.x h.y (acts_text course.acts) refl (IsPart-digits h.x h.is_x.spells.0) (IsPart-digits h.y h.is_y.spells.0)
      (acts_text-is_part course.acts);
  some_x = h.is_x.spells.1;
  some_y = h.is_y.spells.1;
  some_acts = acts_text-some course.acts;
}

-- a line has its parts in one way
pub record SameParts (x y acts u v others : List ℕ) : Type 0 where
  pub same_x : x ≡ u
  pub same_y : y ≡ v
  pub same_acts : acts ≡ others

pub HasParts-same : (x y acts u v others line : List ℕ) → HasParts x y acts line → HasParts u v others line → SameParts x y acts u v others
HasParts-same x y acts u v others line h k =
    let both : codes "agent" ∷ x ∷ y ∷ acts ∷ [] ≡ codes "agent" ∷ u ∷ v ∷ others ∷ [] = sym h.parts ∙ k.parts in
    record { same_x = cc; same_y = cc; same_acts = cc }

IsNumeral-same : (m n : ℕ) (ds es : List ℕ) → IsNumeral m ds → IsNumeral n es → ds ≡ es → m ≡ n
IsNumeral-same m n ds es h k e = sym h.spells.2 ∙ (ap (λ xs. digits_value 10 xs) e ∙ k.spells.2)

pub SpellsCourse-same : (c d : Course) (line : List ℕ) → SpellsCourse c line → SpellsCourse d line → c ≡ d
SpellsCourse-same c d line h k =
    let parts = HasParts-same h.x h.y (acts_text c.acts) k.x k.y (acts_text d.acts) line (HasParts-course c line h) (HasParts-course d line k) in
    let x = IsNumeral-same c.start.x d.start.x h.x k.x h.is_x k.is_x parts.same_x in
    let y = IsNumeral-same c.start.y d.start.y h.y k.y h.is_y k.is_y parts.same_y in
    let acts = acts_text-same c.acts d.acts parts.same_acts in
    ap (λ n. record { start = record { x = n; y = c.start.y }; acts = c.acts }) x
    ∙ (ap (λ n. record { start = record { x = d.start.x; y = n }; acts = c.acts }) y
    ∙ ap (λ list. record { start = d.start; acts = list }) acts)

-- a course has one spelling
pub SpellsCourse-line : (course : Course) (line : List ℕ) → SpellsCourse course line → IsCourse course → line ≡ course_line course
SpellsCourse-line course line h is =
    let x = decimal-from_IsNumeral course.start.x h.x h.is_x (omega (arith, is.column)) in
    let y = decimal-from_IsNumeral course.start.y h.y h.is_y (omega (arith, is.row)) in
    h.bytes
    ∙ (ap (λ ds. four (codes "agent") ds h.y (acts_text course.acts)) x
    ∙ ap (λ ds. four (codes "agent") (decimal course.start.x) ds (acts_text course.acts)) y)
