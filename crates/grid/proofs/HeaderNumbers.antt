-- What the machine of a line with a number answers is what the form of such a line says.
use Rattle.std.proofs.Common.{◌≡◌, ℕ, ◌+◌, ◌*◌, ◌<◌, ◌⊎◌, min, Bool, true, false, List, [], ◌∷◌, ◌++◌, length, refl, sym, ap, ◌∙◌, subst, inl, inr, arith, append_assoc, Some, None}
use Rattle.std.specs.Prelude.{◌==◌, if◌then◌else◌, IsTrue}
use Rattle.std.specs.List.{list_all, fold}
use Rattle.std.specs.Char.{is_ascii_digit, digit_value}
use Rattle.std.specs.Str.Parse.{digits_value, digits_value_after}
use Rattle.std.proofs.lemmas.Bool.{and_parts, and_from, cond-true, cond-false, both_ways, le-ltb}
use Rattle.grid.specs.declared.header_line.HeaderLine.{HeaderLine}
use Rattle.grid.specs.declared.header_line.HeaderLine.TheVariants.{TypeLine, HeightLine, WidthLine, MapLine}
use Rattle.grid.specs.declared.header_line.Progress.TheVariants.{Word, Gap, GapReturn, Number, Tail, OtherValue, OtherForm}
use Rattle.grid.specs.declared.header_line.Saying.TheVariants.{Size, NoSize, NoForm}
use Rattle.text_io.specs.Text.{carriage_return, is_blank, SpellsNumber}
use Rattle.grid.specs.MapText.{is_tail, IsNumberLine}
use Rattle.grid.specs.MapFault.{HasValue}
use Rattle.text_io.specs.Laws.Lines.{differs}
use Rattle.grid.specs.Code.HeaderLine.{word_of, tail_step, with_digit, size_step, after_gap, after_word, header_step, word_saying, saying_at, saying_of}
use Rattle.grid.proofs.HeaderLemmas.{digit_is_no_blank, digit_value-digit, is_tail-blank, is_tail-no_blank, broken-stays, tail_says, gap_run, word_spelled, IsGap-first}

-- a line whose word a number follows
pub record HasSize (kind : HeaderLine) : Type 0 where
  pub blank_follows : (b : ℕ) → after_word kind b ≡ (if is_blank b then Gap else OtherForm)
  pub number_follows : (b : ℕ) → after_gap kind b ≡ size_step b
  pub no_number : (i : ℕ) → word_saying kind i ≡ NoForm

-- the line of the height
pub height_has_size : HasSize HeightLine
height_has_size = record { blank_follows = λ b. refl; number_follows = λ b. refl; no_number = λ i. refl }

-- the line of the width
pub width_has_size : HasSize WidthLine
width_has_size = record { blank_follows = λ b. refl; number_follows = λ b. refl; no_number = λ i. refl }

-- one more digit: the number that is kept is the least of the digits' number and one past the greatest size
with_digit-min : (m b : ℕ) → is_ascii_digit b ≡ true → with_digit (min m 65536) b ≡ min (m * 10 + digit_value b) 65536
with_digit-min m b h = let value = digit_value-digit b h in omega arith

-- the digits of a number
pub digits_run : (kind : HeaderLine) (m : ℕ) (digits rest : List ℕ) → IsTrue (list_all is_ascii_digit digits)
    → fold (header_step kind) (Number (min m 65536)) (digits ++ rest)
    ≡ fold (header_step kind) (Number (min (digits_value_after 10 m digits) 65536)) rest
digits_run kind m [] rest h = refl
digits_run kind m (b ∷ digits) rest h =
    let parts = and_parts (is_ascii_digit b) (list_all is_ascii_digit digits) h in
    ap (λ s. fold (header_step kind) s (digits ++ rest))
    (cond-true (is_ascii_digit b) (Number (with_digit (min m 65536) b)) (tail_step (Some (min m 65536)) b) parts.0
    ∙ ap Number (with_digit-min m b parts.0))
    ∙ digits_run kind (m * 10 + digit_value b) digits rest parts.1

-- a byte after digits that is no digit
number_step-other : (kind : HeaderLine) (n b : ℕ) (bytes : List ℕ) → is_ascii_digit b ≡ false
    → fold (header_step kind) (Number n) (b ∷ bytes) ≡ fold (header_step kind) (Tail (Some n)) (b ∷ bytes)
number_step-other kind n b bytes h =
    ap (λ s. fold (header_step kind) s bytes) (cond-false (is_ascii_digit b) (Number (with_digit n b)) (tail_step (Some n) b) h)

-- a tail begins with no digit
tail_begins : (b : ℕ) (bytes : List ℕ) → IsTrue (is_tail (b ∷ bytes)) → is_ascii_digit b ≡ false
tail_begins b bytes h = go (is_ascii_digit b) refl
  where
    go : (t : Bool) → is_ascii_digit b ≡ t → t ≡ false
    go true e = absurd (both_ways (is_tail (b ∷ bytes))
        (is_tail-no_blank b bytes false (digit_is_no_blank b e) (differs is_ascii_digit carriage_return b refl e)) h)
    go false e = refl

-- the tail after a number
pub number_tail : (kind : HeaderLine) (n : ℕ) (tail : List ℕ) → IsTrue (is_tail tail)
    → saying_at kind (fold (header_step kind) (Number n) tail) ≡ Size n
number_tail kind n [] h = refl
number_tail kind n (b ∷ tail) h =
    ap (saying_at kind) (number_step-other kind n b tail (tail_begins b tail h))
    ∙ (tail_says kind (Some n) (b ∷ tail) ∙ cond-true (is_tail (b ∷ tail)) (Size n) NoSize h)

-- the digits from m on and a tail that stand in the bytes, and what they say
pub record HasDigits (kind : HeaderLine) (m : ℕ) (bytes : List ℕ) : Type 0 where
  pub digits : List ℕ
  pub tail : List ℕ
  pub is : bytes ≡ digits ++ tail
  pub all : IsTrue (list_all is_ascii_digit digits)
  pub is_tail : IsTrue (is_tail tail)
  pub says : saying_at kind (fold (header_step kind) (Number (min m 65536)) bytes) ≡ Size (min (digits_value_after 10 m digits) 65536)

-- after a first digit comes more of a number and a tail, or something that is no number
number_end : (kind : HeaderLine) (m : ℕ) (bytes : List ℕ)
    → (saying_at kind (fold (header_step kind) (Number (min m 65536)) bytes) ≡ NoSize) ⊎ HasDigits kind m bytes
number_end kind m [] = inr (record { digits = []; tail = []; is = refl; all = refl; is_tail = refl; says = refl })
number_end kind m (b ∷ bytes) = go (is_ascii_digit b) refl (number_end kind (m * 10 + digit_value b) bytes) (is_tail (b ∷ bytes)) refl
  where
    go : (t : Bool) → is_ascii_digit b ≡ t
        → (saying_at kind (fold (header_step kind) (Number (min (m * 10 + digit_value b) 65536)) bytes) ≡ NoSize)
        ⊎ HasDigits kind (m * 10 + digit_value b) bytes
        → (s : Bool) → is_tail (b ∷ bytes) ≡ s
        → (saying_at kind (fold (header_step kind) (Number (min m 65536)) (b ∷ bytes)) ≡ NoSize) ⊎ HasDigits kind m (b ∷ bytes)
    go true e rest s ends =
        let into = ap (λ p. saying_at kind (fold (header_step kind) p bytes))
        (cond-true (is_ascii_digit b) (Number (with_digit (min m 65536) b)) (tail_step (Some (min m 65536)) b) e
        ∙ ap Number (with_digit-min m b e)) in
        elim rest [
          | inl none ↦ inl (into ∙ none)
          | inr h ↦ inr (record {
            digits = b ∷ h.digits;
            tail = h.tail;
            is = ap (λ xs. b ∷ xs) h.is;
            all = and_from (is_ascii_digit b) (list_all is_ascii_digit h.digits) e h.all;
            is_tail = h.is_tail;
            says = into ∙ h.says;
          })
        ]
    go false e rest true ends = inr (record {
      digits = [];
      tail = b ∷ bytes;
      is = refl;
      all = refl;
      is_tail = ends;
      says = number_tail kind (min m 65536) (b ∷ bytes) ends;
    })
    go false e rest false ends =
        inl (ap (saying_at kind) (number_step-other kind (min m 65536) b bytes e)
        ∙ (tail_says kind (Some (min m 65536)) (b ∷ bytes) ∙ cond-false (is_tail (b ∷ bytes)) (Size (min m 65536)) NoSize ends))

-- What stands after the word and a blank: a tail alone, something that is no number, or more of the gap, a number and a tail.
pub record HasNumberAfter (kind : HeaderLine) (more : List ℕ) : Type 0 where
  pub gap : List ℕ
  pub digits : List ℕ
  pub tail : List ℕ
  pub is : more ≡ gap ++ (digits ++ tail)
  pub blank : IsTrue (list_all is_blank gap)
  pub all : IsTrue (list_all is_ascii_digit digits)
  pub some : 0 < length digits
  pub is_tail : IsTrue (is_tail tail)
  pub says : saying_at kind (fold (header_step kind) Gap more) ≡ Size (min (digits_value 10 digits) 65536)

-- the same as three cases
abbrev pub GapEnds : HeaderLine → List ℕ → Type 0
GapEnds kind more =
    ((is_tail more ≡ true) × (saying_at kind (fold (header_step kind) Gap more) ≡ NoForm))
    ⊎ (((is_tail more ≡ false) × (saying_at kind (fold (header_step kind) Gap more) ≡ NoSize))
    ⊎ ((is_tail more ≡ false) × HasNumberAfter kind more))

-- the first digit after the gap
gap_step-digit : (kind : HeaderLine) → HasSize kind → (b : ℕ) → is_ascii_digit b ≡ true
    → header_step kind Gap b ≡ Number (min (digit_value b) 65536)
gap_step-digit kind sized b digit =
    let value = digit_value-digit b digit in
    let first : with_digit 0 b ≡ min (digit_value b) 65536 = omega arith in
    cond-false (is_blank b) Gap (after_gap kind b) (digit_is_no_blank b digit)
    ∙ (sized.number_follows b ∙ (cond-true (is_ascii_digit b) (Number (with_digit 0 b)) _ digit ∙ ap Number first))

-- a byte after the gap that is no digit
gap_step-other : (kind : HeaderLine) → HasSize kind → (b : ℕ) → is_blank b ≡ false → is_ascii_digit b ≡ false
    → header_step kind Gap b ≡ (if b == carriage_return then GapReturn else OtherValue)
gap_step-other kind sized b stops digit =
    cond-false (is_blank b) Gap (after_gap kind b) stops
    ∙ (sized.number_follows b ∙ cond-false (is_ascii_digit b) (Number (with_digit 0 b)) _ digit)

-- a byte after the gap, and more
gap_end-byte : (kind : HeaderLine) → HasSize kind → (b : ℕ) (rest : List ℕ) → is_blank b ≡ false → GapEnds kind (b ∷ rest)
gap_end-byte kind sized b rest stops = go (is_ascii_digit b) refl (b == carriage_return) refl rest
  where
    go : (t : Bool) → is_ascii_digit b ≡ t → (r : Bool) → (b == carriage_return) ≡ r → (rest : List ℕ) → GapEnds kind (b ∷ rest)
    go true digit r is rest =
        let says = ap (λ s. saying_at kind (fold (header_step kind) s rest)) (gap_step-digit kind sized b digit) in
        let no_tail = is_tail-no_blank b rest false stops (differs is_ascii_digit carriage_return b refl digit) in
        let zero : digit_value b ≡ 0 * 10 + digit_value b = omega arith in
        elim (number_end kind (digit_value b) rest) [
          | inl none ↦ inr (inl (no_tail, says ∙ none))
          | inr h ↦ inr (inr (
            no_tail,
            record {
              gap = [];
              digits = b ∷ h.digits;
              tail = h.tail;
              is = ap (λ xs. b ∷ xs) h.is;
              blank = refl;
              all = and_from (is_ascii_digit b) (list_all is_ascii_digit h.digits) digit h.all;
              some = omega arith;
              is_tail = h.is_tail;
              says = says ∙ (h.says ∙ ap (λ n. Size (min (digits_value_after 10 n h.digits) 65536)) zero);
            },
          ))
        ]
    go false digit true is [] =
        inl (
          is_tail-no_blank b [] true stops is,
          ap (saying_at kind) (gap_step-other kind sized b stops digit ∙ cond-true (b == carriage_return) GapReturn OtherValue is),
        )
    go false digit true is (c ∷ rest) =
        inr (inl (
          is_tail-no_blank b (c ∷ rest) true stops is,
          ap (λ s. saying_at kind (fold (header_step kind) s (c ∷ rest)))
              (gap_step-other kind sized b stops digit ∙ cond-true (b == carriage_return) GapReturn OtherValue is)
              ∙ ap (saying_at kind) (broken-stays kind (Some 0) rest),
        ))
    go false digit false is rest =
        inr (inl (
          is_tail-no_blank b rest false stops is,
          ap (λ s. saying_at kind (fold (header_step kind) s rest))
              (gap_step-other kind sized b stops digit ∙ cond-false (b == carriage_return) GapReturn OtherValue is)
              ∙ ap (saying_at kind) (broken-stays kind (Some 0) rest),
        ))

-- what stands after the word and a blank
pub gap_end : (kind : HeaderLine) → HasSize kind → (more : List ℕ) → GapEnds kind more
gap_end kind sized [] = inl (refl, refl)
gap_end kind sized (b ∷ more) = go (is_blank b) refl (gap_end kind sized more)
  where
    go : (t : Bool) → is_blank b ≡ t → GapEnds kind more → GapEnds kind (b ∷ more)
    go false e rest = gap_end-byte kind sized b more e
    go true e rest =
        let into = ap (λ s. saying_at kind (fold (header_step kind) s more)) (cond-true (is_blank b) Gap (after_gap kind b) e) in
        let same = is_tail-blank b more e in
        elim rest [
          | inl h ↦ inl (same ∙ h.0, into ∙ h.1)
          | inr (inl h) ↦ inr (inl (same ∙ h.0, into ∙ h.1))
          | inr (inr h) ↦ inr (inr (
            same ∙ h.0,
            record {
              gap = b ∷ h.1.gap;
              digits = h.1.digits;
              tail = h.1.tail;
              is = ap (λ xs. b ∷ xs) h.1.is;
              blank = and_from (is_blank b) (list_all is_blank h.1.gap) e h.1.blank;
              all = h.1.all;
              some = h.1.some;
              is_tail = h.1.is_tail;
              says = into ∙ h.1.says;
            },
          ))
        ]

-- the machine at the word, a blank and more
word_and_blank : (kind : HeaderLine) → HasSize kind → (blank : ℕ) (more : List ℕ) → IsTrue (is_blank blank)
    → fold (header_step kind) (Word (length (word_of kind))) (blank ∷ more) ≡ fold (header_step kind) Gap more
word_and_blank kind sized blank more is =
    ap (λ s. fold (header_step kind) s more)
    (cond-false _ _ _ (le-ltb (length (word_of kind)) (length (word_of kind)) (omega arith))
    ∙ (sized.blank_follows blank ∙ cond-true (is_blank blank) Gap OtherForm is))

-- the machine past the whole word
pub word_run : (kind : HeaderLine) (rest : List ℕ)
    → fold (header_step kind) (Word 0) (word_of kind ++ rest) ≡ fold (header_step kind) (Word (length (word_of kind))) rest
word_run TypeLine rest = refl
word_run HeightLine rest = refl
word_run WidthLine rest = refl
word_run MapLine rest = refl

-- the machine past the word and a blank
saying_of-blank : (kind : HeaderLine) → HasSize kind → (blank : ℕ) (more : List ℕ) → IsTrue (is_blank blank)
    → saying_of kind (word_of kind ++ blank ∷ more) ≡ saying_at kind (fold (header_step kind) Gap more)
saying_of-blank kind sized blank more is =
    ap (saying_at kind) (word_run kind (blank ∷ more) ∙ word_and_blank kind sized blank more is)

-- the line of a number says that number, or one past the greatest size
pub Size-from_number_line : (kind : HeaderLine) → HasSize kind → (m : ℕ) (bytes : List ℕ)
    → IsNumberLine (word_of kind) m bytes → saying_of kind bytes ≡ Size (min m 65536)
Size-from_number_line kind sized m bytes h =
    let gap = IsGap-first h.gap h.is_gap in
    let rest = h.digits ++ h.tail in
    let parts : word_of kind ++ h.gap ++ h.digits ++ h.tail ≡ word_of kind ++ gap.0 ∷ (gap.1 ++ rest) =
    append_assoc (word_of kind ++ h.gap) h.digits h.tail
    ∙ (append_assoc (word_of kind) h.gap rest ∙ ap (λ xs. word_of kind ++ (xs ++ rest)) gap.2) in
    ap (saying_of kind) (h.bytes ∙ parts)
    ∙ (saying_of-blank kind sized gap.0 (gap.1 ++ rest) gap.3
    ∙ (ap (saying_at kind) (gap_run kind gap.1 rest gap.4) ∙ from_digits h.digits h.number))
  where
    from_digits : (digits : List ℕ) → SpellsNumber m digits
        → saying_at kind (fold (header_step kind) Gap (digits ++ h.tail)) ≡ Size (min m 65536)
    from_digits [] n = absurd (omega (arith, n.1))
    from_digits (b ∷ digits) n =
        let parts = and_parts (is_ascii_digit b) (list_all is_ascii_digit digits) n.0 in
        let zero : 0 * 10 + digit_value b ≡ digit_value b = omega arith in
        ap (λ s. saying_at kind (fold (header_step kind) s (digits ++ h.tail))) (gap_step-digit kind sized b parts.0)
        ∙ (ap (saying_at kind) (digits_run kind (digit_value b) digits h.tail parts.1)
        ∙ (number_tail kind (min (digits_value_after 10 (digit_value b) digits) 65536) h.tail h.is_tail
        ∙ ap (λ v. Size (min v 65536)) (ap (λ v. digits_value_after 10 v digits) (sym zero) ∙ n.2)))

-- What the line of a number says, as three cases: another form, a value that is no number, or a number.
abbrev pub SizeSays : HeaderLine → List ℕ → Type 0
SizeSays kind bytes =
    (saying_of kind bytes ≡ NoForm)
    ⊎ (((saying_of kind bytes ≡ NoSize) × HasValue (word_of kind) bytes)
    ⊎ ((m : ℕ) × (saying_of kind bytes ≡ Size (min m 65536)) × IsNumberLine (word_of kind) m bytes × HasValue (word_of kind) bytes))

-- the word, a blank and more say one of the three
size_says-blank : (kind : HeaderLine) → HasSize kind → (blank : ℕ) (more : List ℕ) → IsTrue (is_blank blank)
    → SizeSays kind (word_of kind ++ blank ∷ more)
size_says-blank kind sized blank more is =
    let into = saying_of-blank kind sized blank more is in
    elim (gap_end kind sized more) [
      | inl h ↦ inl (into ∙ h.1)
      | inr (inl h) ↦ inr (inl (into ∙ h.1, record { blank = blank; more = more; bytes = refl; is_blank = is; some = h.0 }))
      | inr (inr h) ↦ inr (inr (
        digits_value 10 h.1.digits,
        into ∙ h.1.says,
        record {
          gap = blank ∷ h.1.gap;
          digits = h.1.digits;
          tail = h.1.tail;
          bytes = ap (λ xs. word_of kind ++ blank ∷ xs) h.1.is
              ∙ (sym (append_assoc (word_of kind) (blank ∷ h.1.gap) (h.1.digits ++ h.1.tail))
              ∙ sym (append_assoc (word_of kind ++ blank ∷ h.1.gap) h.1.digits h.1.tail));
          is_gap = (and_from (is_blank blank) (list_all is_blank h.1.gap) is h.1.blank, omega arith);
          number = (h.1.all, h.1.some, refl);
          is_tail = h.1.is_tail;
        },
        record { blank = blank; more = more; bytes = refl; is_blank = is; some = h.0 },
      ))
    ]

-- every line says one of the three
pub size_says : (kind : HeaderLine) → HasSize kind → (bytes : List ℕ) → SizeSays kind bytes
size_says kind sized bytes = elim (word_spelled kind bytes) [
  | inl none ↦ inl none
  | inr found ↦ subst (SizeSays kind) (sym found.1) (go found.0)
]
  where
    on : (b : ℕ) (rest : List ℕ) (t : Bool) → is_blank b ≡ t → SizeSays kind (word_of kind ++ b ∷ rest)
    on b rest true e = size_says-blank kind sized b rest e
    on b rest false e =
        let into : header_step kind (Word (length (word_of kind))) b ≡ OtherForm =
        cond-false _ _ _ (le-ltb (length (word_of kind)) (length (word_of kind)) (omega arith))
        ∙ (sized.blank_follows b ∙ cond-false (is_blank b) Gap OtherForm e) in
        inl (ap (saying_at kind) (word_run kind (b ∷ rest) ∙ (ap (λ s. fold (header_step kind) s rest) into ∙ broken-stays kind None rest)))

    go : (rest : List ℕ) → SizeSays kind (word_of kind ++ rest)
    go [] = inl (ap (saying_at kind) (word_run kind []) ∙ sized.no_number (length (word_of kind)))
    go (b ∷ rest) = on b rest (is_blank b) refl

-- a size that the line says is its number, or one past the greatest size
pub number_line-from_Size : (kind : HeaderLine) → HasSize kind → (bytes : List ℕ) (n : ℕ) → saying_of kind bytes ≡ Size n
    → (m : ℕ) × IsNumberLine (word_of kind) m bytes × (n ≡ min m 65536)
number_line-from_Size kind sized bytes n says = elim (size_says kind sized bytes) [
  | inl h ↦ absurd (cc)
  | inr (inl h) ↦ absurd (cc (h.0))
  | inr (inr h) ↦ (h.0, h.2, cc (h.1))
]

-- a line that says a size has a value
pub HasValue-from_Size : (kind : HeaderLine) → HasSize kind → (bytes : List ℕ) (n : ℕ) → saying_of kind bytes ≡ Size n
    → HasValue (word_of kind) bytes
HasValue-from_Size kind sized bytes n says = elim (size_says kind sized bytes) [
  | inl h ↦ absurd (cc)
  | inr (inl h) ↦ h.1
  | inr (inr h) ↦ h.3
]

-- a line that says a value that is no number has one
pub HasValue-from_NoSize : (kind : HeaderLine) → HasSize kind → (bytes : List ℕ) → saying_of kind bytes ≡ NoSize
    → HasValue (word_of kind) bytes
HasValue-from_NoSize kind sized bytes says = elim (size_says kind sized bytes) [
  | inl h ↦ absurd (cc)
  | inr (inl h) ↦ h.1
  | inr (inr h) ↦ h.3
]

-- a line that has a value says so
pub says-from_HasValue : (kind : HeaderLine) → HasSize kind → (bytes : List ℕ) → HasValue (word_of kind) bytes
    → (saying_of kind bytes ≡ NoSize) ⊎ ((n : ℕ) × (saying_of kind bytes ≡ Size n))
says-from_HasValue kind sized bytes h =
    let into = ap (saying_of kind) h.bytes ∙ saying_of-blank kind sized h.blank h.more h.is_blank in
    elim (gap_end kind sized h.more) [
      | inl k ↦ absurd (both_ways (is_tail h.more) h.some k.0)
      | inr (inl k) ↦ inl (into ∙ k.1)
      | inr (inr k) ↦ inr (_, into ∙ k.1.says)
    ]
