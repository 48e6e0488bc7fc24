-- What the machine of a header line answers is what the forms of the lines say.
use Rattle.std.proofs.Common.{◌≡◌, ℕ, ◌+◌, ◌-◌, ◌<◌, ◌≤◌, ◌⊎◌, Bool, true, false, cond, List, []}
use Rattle.std.proofs.Common.{◌∷◌, ◌++◌, length, drop, refl, sym, ap, ◌∙◌, subst, inl, inr, arith}
use Rattle.std.proofs.Common.{append_assoc, Option, Some, None, codes}
use Rattle.std.specs.Prelude.{◌==◌, ◌&&◌, ◌||◌, if◌then◌else◌, slice_index, IsTrue, ⊤}
use Rattle.std.specs.List.{list_all, fold}
use Rattle.std.specs.Char.{is_ascii_digit, digit_value}
use Rattle.std.proofs.lemmas.Bool.{and_parts, and_from, or_cases, cond-true, cond-false, eqb-true, ne_eqb, both_ways, leb-true, lt-ltb, le-ltb, cases_lt}
use Rattle.std.proofs.lemmas.List.{drop_more, drop_all}
use Rattle.std.proofs.lemmas.List.Folds.{fold_stays}
use Rattle.grid.specs.declared.header_line.HeaderLine.{HeaderLine}
use Rattle.grid.specs.declared.header_line.HeaderLine.TheVariants.{TypeLine, HeightLine, WidthLine, MapLine}
use Rattle.grid.specs.declared.header_line.Progress.{Progress}
use Rattle.grid.specs.declared.header_line.Progress.TheVariants.{Word, Gap, Octile, Tail, OtherValue, OtherForm}
use Rattle.grid.specs.declared.header_line.Saying.TheVariants.{Whole, NoForm}
use Rattle.text_io.specs.Text.{carriage_return, is_blank, IsGap}
use Rattle.grid.specs.MapText.{is_empty, is_tail, IsTypeLine, IsMapLine}
use Rattle.text_io.specs.Laws.Lines.{differs}
use Rattle.grid.specs.Code.HeaderLine.{word_of, broken, tail_step, octile_step, after_gap, header_step, tail_saying, word_saying, saying_at, saying_of}

-- a blank is no digit
blank_is_no_digit : (b : ℕ) → is_blank b ≡ true → is_ascii_digit b ≡ false
blank_is_no_digit b h = elim (or_cases (b == 32) (b == 9) h) [
  | inl e ↦ ap is_ascii_digit (eqb-true b 32 e)
  | inr e ↦ ap is_ascii_digit (eqb-true b 9 e)
]

-- a digit is no blank
pub digit_is_no_blank : (b : ℕ) → is_ascii_digit b ≡ true → is_blank b ≡ false
digit_is_no_blank b h = go (is_blank b) refl
  where
    go : (t : Bool) → is_blank b ≡ t → t ≡ false
    go true e = absurd (both_ways (is_ascii_digit b) (blank_is_no_digit b e) h)
    go false e = refl

-- the value of a digit
pub digit_value-digit : (b : ℕ) → is_ascii_digit b ≡ true → digit_value b ≡ b - 48
digit_value-digit b h =
    let parts = and_parts _ _ h in
    let low : 48 ≤ b = leb-true 48 b parts.0 in
    let high : b ≤ 57 = leb-true b 57 parts.1 in
    cond-false _ _ _ (le-ltb b 48 low) ∙ cond-true _ _ _ (lt-ltb b 58 (omega arith))

-- ---- tails

-- a blank in a tail
pub is_tail-blank : (b : ℕ) (bytes : List ℕ) → is_blank b ≡ true → is_tail (b ∷ bytes) ≡ is_tail bytes
is_tail-blank b bytes h =
    ap (λ t. (t && is_tail bytes) || (b == carriage_return && is_empty bytes)) h
    ∙ (ap (λ t. is_tail bytes || (t && is_empty bytes)) (differs is_blank carriage_return b refl h) ∙ or_false (is_tail bytes))
  where
    or_false : (t : Bool) → (t || false) ≡ t
    or_false true = refl
    or_false false = refl

-- a byte of a tail that is no blank is a CR, and the last
pub is_tail-no_blank : (b : ℕ) (bytes : List ℕ) (r : Bool) → is_blank b ≡ false → (b == carriage_return) ≡ r
    → is_tail (b ∷ bytes) ≡ (r && is_empty bytes)
is_tail-no_blank b bytes r h k =
    ap (λ t. (t && is_tail bytes) || (b == carriage_return && is_empty bytes)) h ∙ ap (λ t. t && is_empty bytes) k

-- ---- states that the machine does not leave

-- what broke stays broken
pub broken-stays : (kind : HeaderLine) (n : Option ℕ) (bytes : List ℕ) → fold (header_step kind) (broken n) bytes ≡ broken n
broken-stays kind None bytes = fold_stays (header_step kind) OtherForm (λ b. refl) bytes
broken-stays kind (Some n) bytes = fold_stays (header_step kind) OtherValue (λ b. refl) bytes

-- ---- the pieces of a line

-- the tail of a line
pub tail_says : (kind : HeaderLine) (n : Option ℕ) (bytes : List ℕ)
    → saying_at kind (fold (header_step kind) (Tail n) bytes) ≡ cond (is_tail bytes) (tail_saying n) (saying_at kind (broken n))
tail_says kind n [] = refl
tail_says kind n (b ∷ bytes) = go (is_blank b) refl (b == carriage_return) refl bytes (tail_says kind n bytes)
  where
    go : (t : Bool) → is_blank b ≡ t → (r : Bool) → (b == carriage_return) ≡ r → (more : List ℕ)
        → saying_at kind (fold (header_step kind) (Tail n) more) ≡ cond (is_tail more) (tail_saying n) (saying_at kind (broken n))
        → saying_at kind (fold (header_step kind) (Tail n) (b ∷ more))
        ≡ cond (is_tail (b ∷ more)) (tail_saying n) (saying_at kind (broken n))
    go true blank r is more rest =
        ap (λ s. saying_at kind (fold (header_step kind) s more)) (cond-true _ _ _ blank)
        ∙ (rest ∙ ap (λ t. cond t (tail_saying n) (saying_at kind (broken n))) (sym (is_tail-blank b more blank)))
    go false blank true is [] rest =
        ap (saying_at kind) (cond-false _ _ _ blank ∙ cond-true _ _ _ is)
        ∙ ap (λ t. cond t (tail_saying n) (saying_at kind (broken n))) (sym (is_tail-no_blank b [] true blank is))
    go false blank true is (c ∷ more) rest =
        ap (λ s. saying_at kind (fold (header_step kind) s (c ∷ more))) (cond-false _ _ _ blank ∙ cond-true _ _ _ is)
        ∙ (ap (saying_at kind) (broken-stays kind n more)
        ∙ ap (λ t. cond t (tail_saying n) (saying_at kind (broken n))) (sym (is_tail-no_blank b (c ∷ more) true blank is)))
    go false blank false is more rest =
        ap (λ s. saying_at kind (fold (header_step kind) s more)) (cond-false _ _ _ blank ∙ cond-false _ _ _ is)
        ∙ (ap (saying_at kind) (broken-stays kind n more)
        ∙ ap (λ t. cond t (tail_saying n) (saying_at kind (broken n))) (sym (is_tail-no_blank b more false blank is)))

-- the blanks before what the line says
pub gap_run : (kind : HeaderLine) (gap rest : List ℕ) → IsTrue (list_all is_blank gap)
    → fold (header_step kind) Gap (gap ++ rest) ≡ fold (header_step kind) Gap rest
gap_run kind [] rest h = refl
gap_run kind (b ∷ gap) rest h =
    let parts = and_parts (is_blank b) (list_all is_blank gap) h in
    ap (λ s. fold (header_step kind) s (gap ++ rest)) (cond-true (is_blank b) Gap (after_gap kind b) parts.0)
    ∙ gap_run kind gap rest parts.1

-- the bytes are the rest of a word from i on and more, at which the machine has come to the end of the word, or they have no form
abbrev pub Spells : HeaderLine → List ℕ → (ℕ → Progress) → ℕ → List ℕ → Type 0
Spells kind word at i bytes =
    (saying_at kind (fold (header_step kind) (at i) bytes) ≡ NoForm)
    ⊎ ((rest : List ℕ) × (bytes ≡ drop i word ++ rest)
    × (fold (header_step kind) (at i) bytes ≡ fold (header_step kind) (at (length word)) rest))

-- the machine is at the end of the word
Spells-end : (kind : HeaderLine) (word : List ℕ) (at : ℕ → Progress) (i : ℕ) (bytes : List ℕ)
    → i ≤ length word → length word ≤ i → Spells kind word at i bytes
Spells-end kind word at i bytes within all =
    let whole : i ≡ length word = omega arith in
    inr (bytes, ap (λ xs. xs ++ bytes) (sym (drop_all i word all)), ap (λ j. fold (header_step kind) (at j) bytes) whole)

-- one more byte of the word, or another
Spells-byte : (kind : HeaderLine) (word : List ℕ) (at : ℕ → Progress) (i b : ℕ) (bytes : List ℕ) → i < length word
    → header_step kind (at i) b ≡ (if slice_index word i == b then at (i + 1) else OtherForm)
    → Spells kind word at (i + 1) bytes → (t : Bool) → (slice_index word i == b) ≡ t → Spells kind word at i (b ∷ bytes)
Spells-byte kind word at i b bytes more step rest true is =
    let on : header_step kind (at i) b ≡ at (i + 1) = step ∙ cond-true _ _ _ is in
    let same : slice_index word i ≡ b = eqb-true (slice_index word i) b is in
    elim rest [
      | inl none ↦ inl (ap (λ s. saying_at kind (fold (header_step kind) s bytes)) on ∙ none)
      | inr h ↦ inr (
        h.0,
        ap (λ xs. b ∷ xs) h.1
            ∙ (ap (λ x. x ∷ (drop (i + 1) word ++ h.0)) (sym same) ∙ ap (λ xs. xs ++ h.0) (sym (drop_more word i 0 more))),
        ap (λ s. fold (header_step kind) s bytes) on ∙ h.2,
      )
    ]
Spells-byte kind word at i b bytes more step rest false is =
    let on : header_step kind (at i) b ≡ OtherForm = step ∙ cond-false _ _ _ is in
    inl (ap (λ s. saying_at kind (fold (header_step kind) s bytes)) on ∙ ap (saying_at kind) (broken-stays kind None bytes))

-- a word that the machine follows byte by byte
pub spelled : (kind : HeaderLine) (word : List ℕ) (at : ℕ → Progress)
    → ((i : ℕ) → i < length word → saying_at kind (at i) ≡ NoForm)
    → ((i b : ℕ) → i < length word → header_step kind (at i) b ≡ (if slice_index word i == b then at (i + 1) else OtherForm))
    → (bytes : List ℕ) (i : ℕ) → i ≤ length word → Spells kind word at i bytes
spelled kind word at early step [] i within = elim (cases_lt i (length word)) [
  | inl more ↦ inl (early i more)
  | inr all ↦ Spells-end kind word at i [] within all
]
spelled kind word at early step (b ∷ bytes) i within = elim (cases_lt i (length word)) [
  | inl more ↦ Spells-byte kind word at i b bytes more (step i b more) (spelled kind word at early step bytes (i + 1) (omega arith)) _ refl
  | inr all ↦ Spells-end kind word at i (b ∷ bytes) within all
]

-- the word of a line
pub word_spelled : (kind : HeaderLine) (bytes : List ℕ) → Spells kind (word_of kind) Word 0 bytes
word_spelled kind bytes =
    spelled kind (word_of kind) Word (early kind) (λ i b h. cond-true _ _ _ (lt-ltb i (length (word_of kind)) h)) bytes 0 (omega arith)
  where
    early : (kind : HeaderLine) (i : ℕ) → i < length (word_of kind) → word_saying kind i ≡ NoForm
    early TypeLine i h = refl
    early HeightLine i h = refl
    early WidthLine i h = refl
    early MapLine i h = cond-false _ _ _ (ne_eqb i 3 (λ e. omega arith))

-- the second word of the first line
octile_spelled : (bytes : List ℕ) → Spells TypeLine (codes "octile") Octile 0 bytes
octile_spelled bytes =
    spelled TypeLine (codes "octile") Octile (λ i h. cond-false _ _ _ (ne_eqb i 6 (λ e. omega arith)))
    (λ i b h. cond-true _ _ _ (lt-ltb i 6 h)) bytes 0 (omega arith)

-- after all the words of a line that has no number, the rest is a tail
words_say : (kind : HeaderLine) (s : Progress) → saying_at kind s ≡ Whole → ((b : ℕ) → header_step kind s b ≡ tail_step None b)
    → (rest : List ℕ) → saying_at kind (fold (header_step kind) s rest) ≡ cond (is_tail rest) Whole NoForm
words_say kind s says step [] = says
words_say kind s says step (b ∷ rest) =
    ap (λ p. saying_at kind (fold (header_step kind) p rest)) (step b) ∙ tail_says kind None (b ∷ rest)

-- what the test of a tail means for a line that says no number
whole_is_tail : (rest : List ℕ) → cond (is_tail rest) Whole NoForm ≡ Whole → IsTrue (is_tail rest)
whole_is_tail rest h = go (is_tail rest) refl h
  where
    go : (t : Bool) → is_tail rest ≡ t → cond t Whole NoForm ≡ Whole → IsTrue (is_tail rest)
    go true e h = e
    go false e h = absurd (cc)

-- the line `map`, from its bytes
pub Whole-from_map_line : (bytes : List ℕ) → IsMapLine bytes → saying_of MapLine bytes ≡ Whole
Whole-from_map_line bytes h =
    ap (saying_of MapLine) h.bytes ∙ (words_say MapLine (Word 3) refl (λ b. refl) h.tail ∙ cond-true _ _ _ h.is_tail)

-- the line `map`, from what the machine answers
pub map_line-from_Whole : (bytes : List ℕ) → saying_of MapLine bytes ≡ Whole → IsMapLine bytes
map_line-from_Whole bytes h = elim (word_spelled MapLine bytes) [
  | inl none ↦ absurd (cc)
  | inr found ↦ record {
    tail = found.0;
    bytes = found.1;
    is_tail = whole_is_tail found.0
        (sym (words_say MapLine (Word 3) refl (λ b. refl) found.0) ∙ (sym (ap (saying_at MapLine) found.2) ∙ h));
  }
]

-- ---- blanks, and what is no blank

-- the bytes do not begin with a blank
abbrev pub BeginsNoBlank : List ℕ → Type 0
BeginsNoBlank [] = ⊤
BeginsNoBlank (b ∷ bytes) = is_blank b ≡ false

-- the blanks at the front of some bytes, and the rest
pub record HasBlanks (bytes : List ℕ) : Type 0 where
  pub gap : List ℕ
  pub rest : List ℕ
  pub is : bytes ≡ gap ++ rest
  pub blank : IsTrue (list_all is_blank gap)
  pub stops : BeginsNoBlank rest

-- any bytes begin with blanks, perhaps none
pub blanks_of : (bytes : List ℕ) → HasBlanks bytes
blanks_of [] = record { gap = []; rest = []; is = refl; blank = refl; stops = tt }
blanks_of (b ∷ bytes) = go (is_blank b) refl (blanks_of bytes)
  where
    go : (t : Bool) → is_blank b ≡ t → HasBlanks bytes → HasBlanks (b ∷ bytes)
    go true e more = record {
      gap = b ∷ more.gap;
      rest = more.rest;
      is = ap (λ xs. b ∷ xs) more.is;
      blank = and_from (is_blank b) (list_all is_blank more.gap) e more.blank;
      stops = more.stops;
    }
    go false e more = record { gap = []; rest = b ∷ bytes; is = refl; blank = refl; stops = e }

-- the machine past those blanks
blanks_run : (kind : HeaderLine) (bytes : List ℕ) (h : HasBlanks bytes)
    → fold (header_step kind) Gap bytes ≡ fold (header_step kind) Gap h.rest
blanks_run kind bytes h = ap (fold (header_step kind) Gap) h.is ∙ gap_run kind h.gap h.rest h.blank

-- one blank or more after a word: the machine is in the gap
pub IsGap-first : (gap : List ℕ) → IsGap gap → (b : ℕ) × (more : List ℕ) × (gap ≡ b ∷ more) × IsTrue (is_blank b)
    × IsTrue (list_all is_blank more)
IsGap-first [] h = absurd (omega arith)
IsGap-first (b ∷ more) h = let parts = and_parts (is_blank b) (list_all is_blank more) h.0 in (b, more, refl, parts.0, parts.1)

-- ---- the line `type octile`

-- the line from its bytes
pub Whole-from_type_line : (bytes : List ℕ) → IsTypeLine bytes → saying_of TypeLine bytes ≡ Whole
Whole-from_type_line bytes h =
    let gap = IsGap-first h.gap h.is_gap in
    let second = codes "octile" ++ h.tail in
    let parts : h.gap ++ codes "octile" ++ h.tail ≡ gap.0 ∷ (gap.1 ++ second) =
    append_assoc h.gap (codes "octile") h.tail ∙ ap (λ xs. xs ++ second) gap.2 in
    ap (saying_of TypeLine) h.bytes
    ∙ (ap (λ xs. saying_at TypeLine (fold (header_step TypeLine) (Word 4) xs)) parts
    ∙ (ap (λ s. saying_at TypeLine (fold (header_step TypeLine) s (gap.1 ++ second))) (cond-true (is_blank gap.0) Gap OtherForm gap.3)
    ∙ (ap (saying_at TypeLine) (gap_run TypeLine gap.1 second gap.4)
    ∙ (words_say TypeLine (Octile 6) refl (λ b. refl) h.tail ∙ cond-true _ _ _ h.is_tail))))

-- what stands after the gap of the first line
type_line_end : (blank : ℕ) (more : List ℕ) → IsTrue (is_blank blank) → saying_at TypeLine (fold (header_step TypeLine) Gap more) ≡ Whole
    → IsTypeLine (codes "type" ++ blank ∷ more)
type_line_end blank more is h = go (blanks_of more)
  where
    go : HasBlanks more → IsTypeLine (codes "type" ++ blank ∷ more)
    go blanks = on blanks.rest blanks.stops refl (sym (ap (saying_at TypeLine) (blanks_run TypeLine more blanks)) ∙ h)
      where
        on : (rest : List ℕ) → BeginsNoBlank rest → blanks.gap ++ blanks.rest ≡ blanks.gap ++ rest
            → saying_at TypeLine (fold (header_step TypeLine) Gap rest) ≡ Whole → IsTypeLine (codes "type" ++ blank ∷ more)
        on [] stops same says = absurd (cc)
        on (b ∷ rest) stops same says =
            let into : fold (header_step TypeLine) Gap (b ∷ rest) ≡ fold (header_step TypeLine) (Octile 0) (b ∷ rest)
            = ap (λ s. fold (header_step TypeLine) s rest) (cond-false (is_blank b) Gap (octile_step 0 b) stops) in
            elim (octile_spelled (b ∷ rest)) [
              | inl none ↦ absurd (cc)
              | inr found ↦ record {
                gap = blank ∷ blanks.gap;
                tail = found.0;
                bytes = ap (λ xs. codes "type" ++ blank ∷ xs)
                    (blanks.is ∙ (same ∙ (ap (λ xs. blanks.gap ++ xs) found.1 ∙ sym (append_assoc blanks.gap (codes "octile") found.0))));
                is_gap = (and_from (is_blank blank) (list_all is_blank blanks.gap) is blanks.blank, omega arith);
                is_tail = whole_is_tail found.0
                    (sym (words_say TypeLine (Octile 6) refl (λ b. refl) found.0)
                    ∙ (sym (ap (saying_at TypeLine) (into ∙ found.2)) ∙ says));
              }
            ]

-- the line from what the machine answers
pub type_line-from_Whole : (bytes : List ℕ) → saying_of TypeLine bytes ≡ Whole → IsTypeLine bytes
type_line-from_Whole bytes h = elim (word_spelled TypeLine bytes) [
  | inl none ↦ absurd (cc)
  | inr found ↦ subst IsTypeLine (sym found.1) (go found.0 (sym (ap (saying_at TypeLine) found.2) ∙ h))
]
  where
    on : (b : ℕ) (rest : List ℕ) (t : Bool) → is_blank b ≡ t
        → saying_at TypeLine (fold (header_step TypeLine) (Word 4) (b ∷ rest)) ≡ Whole → IsTypeLine (codes "type" ++ b ∷ rest)
    on b rest true e says =
        let into = ap (λ s. saying_at TypeLine (fold (header_step TypeLine) s rest)) (cond-true (is_blank b) Gap OtherForm e) in
        type_line_end b rest e (sym into ∙ says)
    on b rest false e says =
        let into = ap (λ s. saying_at TypeLine (fold (header_step TypeLine) s rest)) (cond-false (is_blank b) Gap OtherForm e) in
        let stays = ap (saying_at TypeLine) (broken-stays TypeLine None rest) in
        absurd (cc)

    go : (rest : List ℕ) → saying_at TypeLine (fold (header_step TypeLine) (Word 4) rest) ≡ Whole → IsTypeLine (codes "type" ++ rest)
    go [] says = absurd (cc)
    go (b ∷ rest) says = on b rest (is_blank b) refl says
