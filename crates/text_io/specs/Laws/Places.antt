-- A place in a text, by the lines of the text.
use Rattle.std.proofs.Common.{◌≡◌, ℕ, ◌<◌, true, List, [], ◌∷◌}
use Rattle.std.proofs.Common.{◌++◌, ◌⊎◌, length, refl, sym, ap, subst}
use Rattle.std.proofs.Common.{◌∙◌, inl, inr, arith, append_assoc, append-nil, length-append}
use Rattle.std.specs.List.{list_all, AllByRecursion}
use Rattle.std.proofs.lemmas.Bool.{and_parts, both_ways}
use Rattle.std.proofs.lemmas.List.{same_from_push}
use Rattle.std.proofs.lemmas.List.Folds.{list_all-append}
use Rattle.text_io.specs.Text.{line_feed, is_line_byte, IsLine, onto_first}
use Rattle.text_io.specs.Text.{lines_of, ended, ends_in_line_feed}
use Rattle.text_io.specs.Reading.{LineEnds, by_input, by_line_feed, Place, at_line_feed, at_byte}
use Rattle.text_io.specs.Reading.{at_end, IsByte, StopsIn, JudgedAt, StandsIn}
use Rattle.text_io.specs.Laws.Lines.{is_line_byte-true, lines_of-byte, lines_of-line_feed}
use Rattle.text_io.specs.Laws.Lines.{lines_of-ended, lines_of-whole, lines_of-open}
use Rattle.text_io.specs.Laws.Lines.{lines_of-all, lines_of-none, ends_in_line_feed-whole}
use Rattle.text_io.specs.Laws.Lines.{ends_in_line_feed-open, ends_in_line_feed-ended, text_parts}
use Rattle.text_io.specs.Laws.Lines.{IsFirstLine, first_line, ended-line}
use Rattle.text_io.specs.Laws.Lines.{lines_parts, AreLines, AllByRecursion_push}
use Rattle.text_io.specs.Laws.Lines.{whole_parts, open_parts}

-- ---- from the place to the text

-- the text goes on behind a byte of a line, in that line and in others
pub line_goes_on : (line rest : List ℕ) → IsLine line → 0 < length line
    → (more : List ℕ) × (after : List (List ℕ)) × (lines_of (line ++ rest) ≡ (line ++ more) ∷ after)
line_goes_on [] rest h some = absurd (omega arith)
line_goes_on (b ∷ []) rest h some = go (lines_of rest) refl
  where
    first : lines_of (b ∷ rest) ≡ onto_first b (lines_of rest)
    first = lines_of-byte b rest (is_line_byte-true b (and_parts (is_line_byte b) true h).0)

    go : (lines : List (List ℕ)) → lines_of rest ≡ lines
        → (more : List ℕ) × (after : List (List ℕ)) × (lines_of (b ∷ rest) ≡ (b ∷ more) ∷ after)
    go [] is = ([], [], first ∙ ap (onto_first b) is)
    go (more ∷ after) is = (more, after, first ∙ ap (onto_first b) is)
line_goes_on (b ∷ c ∷ line) rest h some =
    let parts = and_parts (is_line_byte b) (list_all is_line_byte (c ∷ line)) h in
    let next = line_goes_on (c ∷ line) rest parts.1 (omega arith) in (
      next.0,
      next.1,
      lines_of-byte b (c ∷ line ++ rest) (is_line_byte-true b parts.0) ∙ ap (onto_first b) next.2,
    )

stands_at_line_feed : (ends : LineEnds) (text front rest : List ℕ) (before : List (List ℕ))
    (line : List ℕ) → text ≡ front ++ rest
    → JudgedAt ends at_line_feed before line front → StandsIn ends at_line_feed before line text
stands_at_line_feed ends text front rest before line e judged = (lines_of rest, lines, last)
  where
    parts : (front ≡ ended before ++ (line ++ line_feed ∷ [])) × AllByRecursion IsLine before
        × IsLine line
    parts = whole_parts front before line judged.0 judged.1

    lines : lines_of text ≡ before ++ line ∷ lines_of rest
    lines =
        ap lines_of (e ∙ ap (λ l. l ++ rest) parts.0 ∙ append_assoc (ended before)
        (line ++ line_feed ∷ []) rest
        ∙ ap (λ l. ended before ++ l) (append_assoc line (line_feed ∷ []) rest))
        ∙ lines_of-ended before (line ++ line_feed ∷ rest) parts.1
        ∙ ap (λ l. before ++ l) (lines_of-line_feed line rest parts.2)

    last : lines_of rest ≡ [] → ends_in_line_feed text ≡ true
    last none =
        ap ends_in_line_feed (e ∙ ap (λ l. front ++ l) (lines_of-none rest none) ∙ append-nil front)
        ∙ judged.1

stands_at_byte : (ends : LineEnds) (text front rest : List ℕ) (before : List (List ℕ))
    (line : List ℕ) → text ≡ front ++ rest
    → JudgedAt ends at_byte before line front → StandsIn ends at_byte before line text
stands_at_byte ends text front rest before line e judged =
    let parts = open_parts front before line judged.0 judged.1 in
    let on = line_goes_on line rest parts.2 parts.3 in (
      parts.3,
      on.0,
      on.1,
      ap lines_of (e ∙ ap (λ l. l ++ rest) parts.0 ∙ append_assoc (ended before) line rest)
          ∙ lines_of-ended before (line ++ rest) parts.1
          ∙ ap (λ l. before ++ l) on.2,
    )

-- a place that is a byte stands in each text that goes on from it
pub stands : (ends : LineEnds) (text front rest : List ℕ) (place : Place) (before : List (List ℕ))
    (line : List ℕ) → text ≡ front ++ rest → IsByte place
    → JudgedAt ends place before line front → StandsIn ends place before line text
stands ends text front rest at_line_feed before line e byte judged =
    stands_at_line_feed ends text front rest before line e judged
stands ends text front rest at_byte before line e byte judged =
    stands_at_byte ends text front rest before line e judged
stands ends text front rest at_end before line e byte judged = absurd byte

-- ---- from the text to the place

-- The lines before one have their LFs, and it is the first of what follows them.
record HasFrom (text : List ℕ) (before : List (List ℕ)) (line : List ℕ)
    (after : List (List ℕ)) : Type 0 where
  from : List ℕ
  bytes : text ≡ ended before ++ from
  are_lines : AllByRecursion IsLine before
  first : IsFirstLine from line after

has_from : (text : List ℕ) (before : List (List ℕ)) (line : List ℕ) (after : List (List ℕ))
    → lines_of text ≡ before ++ line ∷ after
    → HasFrom text before line after
has_from text [] line after e =
    record { from = text; bytes = refl; are_lines = tt; first = first_line text line after e }
has_from text (next ∷ before) line after e =
    let first = first_line text next (before ++ line ∷ after) e in
    elim first.place [
      | inl h ↦
          let rest = has_from h.0 before line after h.2 in
          record {
            from = rest.from;
            bytes =
                h.1 ∙ ap (λ l. next ++ line_feed ∷ l) rest.bytes
                ∙ sym (ended-line next before rest.from);
            are_lines = (first.is_line, rest.are_lines);
            first = rest.first;
          }
      | inr h ↦
          let none : length (before ++ line ∷ after) ≡ 0 = ap length h.1 in
          absurd (omega (arith, none, length-append before (line ∷ after)))
    ]

found_at_line_feed : (ends : LineEnds) (text : List ℕ) (before : List (List ℕ)) (line : List ℕ)
    → StandsIn ends at_line_feed before line text
    → (front rest : List ℕ) × (text ≡ front ++ rest) × JudgedAt ends at_line_feed before line front
found_at_line_feed ends text before line (after, lines, last) =
    go (has_from text before line after lines)
  where
    go : HasFrom text before line after → (front rest : List ℕ) × (text ≡ front ++ rest)
        × JudgedAt ends at_line_feed before line front
    go h = elim h.first.place [
      | inl k ↦ (
        ended before ++ (line ++ line_feed ∷ []),
        k.0,
        h.bytes ∙ ap (λ l. ended before ++ l) (k.1 ∙ sym (append_assoc line (line_feed ∷ []) k.0))
            ∙ sym (append_assoc (ended before) (line ++ line_feed ∷ []) k.0),
        (
          lines_of-whole before line h.are_lines h.first.is_line,
          ends_in_line_feed-whole (ended before) line,
        ),
      )
      | inr k ↦
          let open_end = ap ends_in_line_feed (h.bytes ∙ ap (λ l. ended before ++ l) k.0)
          ∙ ends_in_line_feed-open (ended before) line h.first.is_line k.2 in
          absurd (both_ways (ends_in_line_feed text) open_end (last k.1))
    ]

found_at_byte : (ends : LineEnds) (text : List ℕ) (before : List (List ℕ)) (line : List ℕ)
    → StandsIn ends at_byte before line text
    → (front rest : List ℕ) × (text ≡ front ++ rest) × JudgedAt ends at_byte before line front
found_at_byte ends text before line (some, more, after, lines) =
    go (has_from text before (line ++ more) after lines)
  where
    from : (rest : List ℕ) → text ≡ ended before ++ ((line ++ more) ++ rest)
        → AllByRecursion IsLine before → IsLine (line ++ more)
        → (front rest : List ℕ) × (text ≡ front ++ rest) × JudgedAt ends at_byte before line front
    from rest e are_lines whole =
        let is_line = (and_parts (list_all is_line_byte line) (list_all is_line_byte more)
        (sym (list_all-append is_line_byte line more) ∙ whole)).0 in (
          ended before ++ line,
          more ++ rest,
          e ∙ ap (λ l. ended before ++ l) (append_assoc line more rest)
              ∙ sym (append_assoc (ended before) line (more ++ rest)),
          (
            lines_of-open before line are_lines is_line some,
            ends_in_line_feed-open (ended before) line is_line some,
          ),
        )

    go : HasFrom text before (line ++ more) after → (front rest : List ℕ) × (text ≡ front ++ rest)
        × JudgedAt ends at_byte before line front
    go h = elim h.first.place [
      | inl k ↦ from (line_feed ∷ k.0) (h.bytes ∙ ap (λ l. ended before ++ l) k.1) h.are_lines
          h.first.is_line
      | inr k ↦ from []
          (h.bytes ∙ ap (λ l. ended before ++ l) (k.0 ∙ sym (append-nil (line ++ more))))
          h.are_lines h.first.is_line
    ]

-- where a line stands in a text there is a place
pub found : (ends : LineEnds) (text : List ℕ) (place : Place) (before : List (List ℕ))
    (line : List ℕ) → IsByte place → StandsIn ends place before line text
    → (front rest : List ℕ) × (text ≡ front ++ rest) × JudgedAt ends place before line front
found ends text at_line_feed before line byte h = found_at_line_feed ends text before line h
found ends text at_byte before line byte h = found_at_byte ends text before line h
found ends text at_end before line byte h = absurd byte

-- ---- the end of a text

-- at the end of a text an empty line is none
pub last : (ends : LineEnds) (text : List ℕ) (before : List (List ℕ)) (line : List ℕ)
    → JudgedAt ends at_end before line text
    → ((line ≡ []) × (lines_of text ≡ before))
    ⊎ ((0 < length line) × (lines_of text ≡ before ++ line ∷ []))
last by_input text before line (inl h) = inr ((open_parts text before line h.0 h.1).3, h.0)
last by_input text before line (inr h) = inl (h.1, h.0)
last by_line_feed text before [] h =
    inl (refl, ap lines_of (h.0 ∙ append-nil (ended before)) ∙ lines_of-all before h.1)
last by_line_feed text before (b ∷ line) h =
    let some : 0 < length (b ∷ line) = omega arith in
    inr (some, ap lines_of h.0 ∙ lines_of-open before (b ∷ line) h.1 h.2 some)

-- each text is lines with their LFs, and what follows the last LF
pub cut : (text : List ℕ) → (before : List (List ℕ)) × (line : List ℕ)
    × StopsIn by_line_feed before line text
cut text =
    let parts = text_parts text in
    (parts.before, parts.line, (parts.bytes, parts.are_lines, parts.is_line))

-- lines with their LFs are nothing, or end in an LF
ended_or_none : (before : List (List ℕ)) → (before ≡ []) ⊎ (ends_in_line_feed (ended before) ≡ true)
ended_or_none [] = inl refl
ended_or_none (line ∷ before) = inr (ends_in_line_feed-ended line before)

-- a text that is lines with their LFs alone has nothing behind the last
nothing_behind : (before others : List (List ℕ)) (b : ℕ) (other : List ℕ) → IsLine (b ∷ other)
    → ended before ≡ ended others ++ b ∷ other → ⊥
nothing_behind before others b other is same = elim (ended_or_none before) [
  | inl none ↦
      let size : length (ended others ++ b ∷ other) ≡ 0 = ap length (sym same ∙ ap ended none) in
      omega (arith, size, length-append (ended others) (b ∷ other))
  | inr feed ↦ both_ways (ends_in_line_feed (ended before))
      (ap ends_in_line_feed same ∙ ends_in_line_feed-open (ended others) (b ∷ other) is
      (omega arith)) feed
]

-- and is so in one way
pub one_cut : (text : List ℕ) (before others : List (List ℕ)) (line other : List ℕ)
    → StopsIn by_line_feed before line text
    → StopsIn by_line_feed others other text → (before ≡ others) × (line ≡ other)
one_cut text before others [] [] h k =
    let mine : lines_of text ≡ before = ap lines_of (h.0 ∙ append-nil (ended before))
    ∙ lines_of-all before h.1 in
    let theirs : lines_of text ≡ others = ap lines_of (k.0 ∙ append-nil (ended others))
    ∙ lines_of-all others k.1 in
    (sym mine ∙ theirs, refl)
one_cut text before others [] (b ∷ other) h k =
    absurd (nothing_behind before others b other k.2 (sym (h.0 ∙ append-nil (ended before)) ∙ k.0))
one_cut text before others (a ∷ line) [] h k =
    absurd (nothing_behind others before a line h.2 (sym (k.0 ∙ append-nil (ended others)) ∙ h.0))
one_cut text before others (a ∷ line) (b ∷ other) h k =
    let mine : lines_of text ≡ before ++ (a ∷ line) ∷ [] =
    ap lines_of h.0 ∙ lines_of-open before (a ∷ line) h.1 h.2 (omega arith) in
    let theirs : lines_of text ≡ others ++ (b ∷ other) ∷ [] =
    ap lines_of k.0 ∙ lines_of-open others (b ∷ other) k.1 k.2 (omega arith) in
    same_from_push before others (a ∷ line) (b ∷ other) (sym mine ∙ theirs)

-- the lines of a text are lines
pub are_lines : (text : List ℕ) → AllByRecursion IsLine (lines_of text)
are_lines text = on (lines_parts text (lines_of text) refl)
  where
    on : AreLines text (lines_of text) → AllByRecursion IsLine (lines_of text)
    on parts = elim parts.last [
      | inl h ↦ subst (AllByRecursion IsLine) (sym h.1) parts.are_lines
      | inr h ↦ subst (AllByRecursion IsLine) (sym h.1)
          (AllByRecursion_push IsLine parts.before parts.line parts.are_lines parts.is_line)
    ]
