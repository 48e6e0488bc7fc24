-- What the lines of a text are, from how the text is put together, and back.
use Rattle.std.proofs.Common.{◌≡◌, ℕ, ◌<◌, ◌⊎◌, Bool, true, false, List}
use Rattle.std.proofs.Common.{[], ◌∷◌, ◌++◌, length, refl, sym, ap, ◌∙◌}
use Rattle.std.proofs.Common.{subst, inl, inr, arith, append_assoc, append-nil}
use Rattle.std.specs.Prelude.{◌==◌, IsTrue}
use Rattle.std.specs.List.{list_all, AllByRecursion}
use Rattle.std.proofs.lemmas.Bool.{and_parts, and_from, cond-true, cond-false, eqb-true, both_ways}
use Rattle.std.proofs.lemmas.List.{same_from_push}
use Rattle.std.proofs.lemmas.List.Concat.{flat_map-append}
use Rattle.text_io.specs.Text.{line_feed, is_line_byte, onto_first, lines_of}
use Rattle.text_io.specs.Text.{ended, ends_in_line_feed, IsLine}

-- ---- a byte before the lines

-- a byte that passes a test is none that does not
pub differs : (test : ℕ → Bool) (k b : ℕ) → test k ≡ false → test b ≡ true → (b == k) ≡ false
differs test k b none h = go (b == k) refl
  where
    go : (t : Bool) → (b == k) ≡ t → t ≡ false
    go true e = absurd (both_ways (test b) (ap test (eqb-true b k e) ∙ none) h)
    go false e = refl

-- an LF is no byte of a line
pub is_line_byte-true : (b : ℕ) → IsTrue (is_line_byte b) → (b == line_feed) ≡ false
is_line_byte-true b h = differs is_line_byte line_feed b refl h

-- any other byte is a byte of a line
pub is_line_byte-from : (b : ℕ) → (b == line_feed) ≡ false → IsTrue (is_line_byte b)
is_line_byte-from b e = cond-false (b == line_feed) false true e

-- a byte of a line stands before the first line
pub lines_of-byte : (b : ℕ) (rest : List ℕ) → (b == line_feed) ≡ false
    → lines_of (b ∷ rest) ≡ onto_first b (lines_of rest)
lines_of-byte b rest e =
    cond-false (b == line_feed) ([] ∷ lines_of rest) (onto_first b (lines_of rest)) e

-- an LF ends an empty line
pub lines_of-feed
    : (b : ℕ) (rest : List ℕ) → (b == line_feed) ≡ true → lines_of (b ∷ rest) ≡ [] ∷ lines_of rest
lines_of-feed b rest e =
    cond-true (b == line_feed) ([] ∷ lines_of rest) (onto_first b (lines_of rest)) e

-- ---- from the parts to the lines

-- a line and its LF
pub lines_of-line_feed : (line rest : List ℕ) → IsLine line → lines_of (line ++ line_feed ∷ rest)
    ≡ line ∷ lines_of rest
lines_of-line_feed [] rest h = refl
lines_of-line_feed (b ∷ line) rest h =
    let parts = and_parts (is_line_byte b) (list_all is_line_byte line) h in
    lines_of-byte b (line ++ line_feed ∷ rest) (is_line_byte-true b parts.0)
    ∙ ap (onto_first b) (lines_of-line_feed line rest parts.1)

-- the first of the lines with its LF, and what follows
pub ended-line : (line : List ℕ) (lines : List (List ℕ)) (rest : List ℕ)
    → ended (line ∷ lines) ++ rest ≡ line ++ line_feed ∷ (ended lines ++ rest)
ended-line line lines rest =
    append_assoc (line ++ line_feed ∷ []) (ended lines) rest ∙ append_assoc line (line_feed ∷ [])
    (ended lines ++ rest)

-- lines, each with its LF, and what follows
pub lines_of-ended : (before : List (List ℕ)) (rest : List ℕ) → AllByRecursion IsLine before
    → lines_of (ended before ++ rest) ≡ before ++ lines_of rest
lines_of-ended [] rest h = refl
lines_of-ended (line ∷ before) rest h =
    ap lines_of (ended-line line before rest)
    ∙ (lines_of-line_feed line (ended before ++ rest) h.0 ∙ ap (λ lines. line ∷ lines)
    (lines_of-ended before rest h.1))

-- a line that the end of the text ends
pub lines_of-line : (line : List ℕ) → IsLine line → 0 < length line → lines_of line ≡ line ∷ []
lines_of-line [] h some = absurd (omega arith)
lines_of-line (b ∷ []) h some =
    lines_of-byte b [] (is_line_byte-true b (and_parts (is_line_byte b) true h).0)
lines_of-line (b ∷ c ∷ line) h some =
    let parts = and_parts (is_line_byte b) (list_all is_line_byte (c ∷ line)) h in
    let rest : lines_of (c ∷ line) ≡ (c ∷ line) ∷ [] =
    lines_of-line (c ∷ line) parts.1 (omega arith) in
    lines_of-byte b (c ∷ line) (is_line_byte-true b parts.0) ∙ ap (onto_first b) rest

-- lines, of which each has its LF
pub lines_of-whole
    : (before : List (List ℕ)) (line : List ℕ) → AllByRecursion IsLine before → IsLine line
    → lines_of (ended before ++ (line ++ line_feed ∷ [])) ≡ before ++ line ∷ []
lines_of-whole before line h k =
    lines_of-ended before (line ++ line_feed ∷ []) h ∙ ap (λ lines. before ++ lines)
    (lines_of-line_feed line [] k)

-- lines, of which the last has no LF
pub lines_of-open : (before : List (List ℕ)) (line : List ℕ) → AllByRecursion IsLine before
    → IsLine line → 0 < length line
    → lines_of (ended before ++ line) ≡ before ++ line ∷ []
lines_of-open before line h k some =
    lines_of-ended before line h ∙ ap (λ lines. before ++ lines) (lines_of-line line k some)

-- all the lines have their LF
pub lines_of-all
    : (before : List (List ℕ)) → AllByRecursion IsLine before → lines_of (ended before) ≡ before
lines_of-all before h =
    ap lines_of (sym (append-nil (ended before))) ∙ (lines_of-ended before [] h ∙ append-nil before)

-- ---- the last byte

-- what stands before the last bytes does not matter
pub ends_in_line_feed-append : (front : List ℕ) (b : ℕ) (rest : List ℕ)
    → ends_in_line_feed (front ++ b ∷ rest) ≡ ends_in_line_feed (b ∷ rest)
ends_in_line_feed-append [] b rest = refl
ends_in_line_feed-append (a ∷ []) b rest = refl
ends_in_line_feed-append (a ∷ c ∷ front) b rest = ends_in_line_feed-append (c ∷ front) b rest

-- a line does not end in an LF
pub ends_in_line_feed-line : (line : List ℕ) → IsLine line → ends_in_line_feed line ≡ false
ends_in_line_feed-line [] h = refl
ends_in_line_feed-line (b ∷ []) h = is_line_byte-true b (and_parts (is_line_byte b) true h).0
ends_in_line_feed-line (b ∷ c ∷ line) h =
    ends_in_line_feed-line (c ∷ line)
    (and_parts (is_line_byte b) (list_all is_line_byte (c ∷ line)) h).1

-- a text whose last line has its LF
pub ends_in_line_feed-whole
    : (before line : List ℕ) → ends_in_line_feed (before ++ (line ++ line_feed ∷ [])) ≡ true
ends_in_line_feed-whole before line =
    ap ends_in_line_feed (sym (append_assoc before line (line_feed ∷ [])))
    ∙ ends_in_line_feed-append (before ++ line) line_feed []

-- a text whose last line has none
pub ends_in_line_feed-open : (before line : List ℕ) → IsLine line → 0 < length line
    → ends_in_line_feed (before ++ line) ≡ false
ends_in_line_feed-open before [] h some = absurd (omega arith)
ends_in_line_feed-open before (b ∷ line) h some =
    ends_in_line_feed-append before b line ∙ ends_in_line_feed-line (b ∷ line) h

-- a text of lines with their LFs ends in one, where it is not empty
pub ends_in_line_feed-ended
    : (line : List ℕ) (lines : List (List ℕ)) → ends_in_line_feed (ended (line ∷ lines)) ≡ true
ends_in_line_feed-ended line [] =
    ap ends_in_line_feed (append-nil (line ++ line_feed ∷ []))
    ∙ ends_in_line_feed-append line line_feed []
ends_in_line_feed-ended line (next ∷ lines) =
    last (ended (next ∷ lines)) (ends_in_line_feed-ended next lines)
  where
    last : (rest : List ℕ) → ends_in_line_feed rest ≡ true
        → ends_in_line_feed ((line ++ line_feed ∷ []) ++ rest) ≡ true
    last [] e = absurd (both_ways (ends_in_line_feed []) refl e)
    last (b ∷ rest) e = ends_in_line_feed-append (line ++ line_feed ∷ []) b rest ∙ e

-- ---- from the lines to the parts

-- only the empty text has no line
pub lines_of-none : (text : List ℕ) → lines_of text ≡ [] → text ≡ []
lines_of-none [] e = refl
lines_of-none (b ∷ text) e = go (b == line_feed) refl (lines_of text) refl
  where
    go : (t : Bool) → (b == line_feed) ≡ t → (lines : List (List ℕ)) → lines_of text ≡ lines
        → b ∷ text ≡ []
    go true feed lines is = let first = lines_of-feed b text feed in cc
    go false byte [] is = let first = lines_of-byte b text byte ∙ ap (onto_first b) is in cc
    go false byte (line ∷ lines) is =
        let first = lines_of-byte b text byte ∙ ap (onto_first b) is in cc

-- The first line of a text: it has its LF, and the other lines are those of the rest, or it is the
-- whole text.
pub record IsFirstLine (text line : List ℕ) (lines : List (List ℕ)) : Type 0 where
  pub is_line : IsLine line
  pub place : ((rest : List ℕ) × (text ≡ line ++ line_feed ∷ rest) × (lines_of rest ≡ lines))
      ⊎ ((text ≡ line) × (lines ≡ []) × (0 < length line))

-- the first line with one more byte in front
first_line-byte : (b : ℕ) (text line : List ℕ) (lines : List (List ℕ)) → (b == line_feed) ≡ false
    → IsFirstLine text line lines → IsFirstLine (b ∷ text) (b ∷ line) lines
first_line-byte b text line lines byte first = record {
  is_line =
      and_from (is_line_byte b) (list_all is_line_byte line) (is_line_byte-from b byte)
      first.is_line;
  place = elim first.place [
    | inl h ↦ inl (h.0, ap (λ bytes. b ∷ bytes) h.1, h.2)
    | inr h ↦ inr (ap (λ bytes. b ∷ bytes) h.0, h.1, omega arith)
  ];
}

-- where a first line stands in the text
pub first_line : (text line : List ℕ) (lines : List (List ℕ)) → lines_of text ≡ line ∷ lines
    → IsFirstLine text line lines
first_line [] line lines e = absurd (cc)
first_line (b ∷ text) line lines e =
    go (b == line_feed) refl (lines_of text) refl (λ next others is. first_line text next others is)
  where
    go : (t : Bool) → (b == line_feed) ≡ t → (found : List (List ℕ)) → lines_of text ≡ found
        → ((next : List ℕ) (others : List (List ℕ)) → lines_of text ≡ next ∷ others
        → IsFirstLine text next others)
        → IsFirstLine (b ∷ text) line lines
    go true feed found is rest =
        let first = lines_of-feed b text feed in
        let empty : [] ≡ line = cc in
        let same : lines_of text ≡ lines = cc in
        let at : b ≡ line_feed = eqb-true b line_feed feed in
        rw (← empty) (record { is_line = refl; place = inl (text, ap (λ x. x ∷ text) at, same) })
    go false byte [] is rest =
        let first = lines_of-byte b text byte ∙ ap (onto_first b) is in
        let one : b ∷ [] ≡ line = cc in
        let none : lines ≡ [] = cc in
        let empty : text ≡ [] = lines_of-none text is in
        rw (← one) (record {
          is_line = and_from (is_line_byte b) true (is_line_byte-from b byte) refl;
          place = inr (ap (λ bytes. b ∷ bytes) empty, none, omega arith);
        })
    go false byte (next ∷ others) is rest =
        let first = lines_of-byte b text byte ∙ ap (onto_first b) is in
        let one : b ∷ next ≡ line = cc in
        let same : others ≡ lines = cc in
        rw (← one, ← same) (first_line-byte b text next others byte (rest next others is))

-- ---- the parts of a text

-- what holds of all elements of two lists in a row holds of each list's
pub AllByRecursion-append
    : {X : Type 0} (P : X → Type 0) (xs ys : List X) → AllByRecursion P (xs ++ ys)
    → AllByRecursion P xs × AllByRecursion P ys
AllByRecursion-append P [] ys h = (tt, h)
AllByRecursion-append P (x ∷ xs) ys h =
    let rest = AllByRecursion-append P xs ys h.1 in ((h.0, rest.0), rest.1)

-- one more element at the end
pub AllByRecursion_push
    : {X : Type 0} (P : X → Type 0) (xs : List X) (x : X) → AllByRecursion P xs → P x
    → AllByRecursion P (xs ++ x ∷ [])
AllByRecursion_push P [] x h k = (k, tt)
AllByRecursion_push P (y ∷ xs) x h k = (h.0, AllByRecursion_push P xs x h.1 k)

-- one more line at the end
pub ended_push : (before : List (List ℕ)) (line : List ℕ)
    → ended (before ++ line ∷ []) ≡ ended before ++ (line ++ line_feed ∷ [])
ended_push before line =
    flat_map-append (λ (x : List ℕ). x ++ line_feed ∷ []) before (line ∷ [])
    ∙ ap (λ xs. ended before ++ xs) (append-nil (line ++ line_feed ∷ []))

-- The lines of a text that have their LF, and the bytes after them.
pub record HasLineParts (text : List ℕ) : Type 0 where
  pub before : List (List ℕ)
  pub line : List ℕ
  pub bytes : text ≡ ended before ++ line
  pub are_lines : AllByRecursion IsLine before
  pub is_line : IsLine line

-- every text has such parts
pub text_parts : (text : List ℕ) → HasLineParts text
text_parts [] = record { before = []; line = []; bytes = refl; are_lines = tt; is_line = refl }
text_parts (b ∷ text) = go (b == line_feed) refl (text_parts text)
  where
    onto : (b == line_feed) ≡ false → (before : List (List ℕ)) (line : List ℕ)
        → text ≡ ended before ++ line
        → AllByRecursion IsLine before → IsLine line → HasLineParts (b ∷ text)
    onto byte [] line e h k = record {
      before = [];
      line = b ∷ line;
      bytes = ap (λ bytes. b ∷ bytes) e;
      are_lines = tt;
      is_line = and_from (is_line_byte b) (list_all is_line_byte line) (is_line_byte-from b byte) k;
    }
    onto byte (first ∷ before) line e h k = record {
      before = (b ∷ first) ∷ before;
      line = line;
      bytes = ap (λ bytes. b ∷ bytes) e;
      are_lines = (
        and_from (is_line_byte b) (list_all is_line_byte first) (is_line_byte-from b byte) h.0,
        h.1,
      );
      is_line = k;
    }

    go : (t : Bool) → (b == line_feed) ≡ t → HasLineParts text → HasLineParts (b ∷ text)
    go true feed parts = record {
      before = [] ∷ parts.before;
      line = parts.line;
      bytes =
          ap (λ x. x ∷ text) (eqb-true b line_feed feed)
          ∙ ap (λ bytes. line_feed ∷ bytes) parts.bytes;
      are_lines = (refl, parts.are_lines);
      is_line = parts.is_line;
    }
    go false byte parts =
        onto byte parts.before parts.line parts.bytes parts.are_lines parts.is_line

-- What a text is by its lines: each has its LF, or the last has none.
pub record AreLines (text : List ℕ) (lines : List (List ℕ)) : Type 0 where
  pub before : List (List ℕ)
  pub line : List ℕ
  pub bytes : text ≡ ended before ++ line
  pub are_lines : AllByRecursion IsLine before
  pub is_line : IsLine line
  pub last : ((line ≡ []) × (lines ≡ before)) ⊎ ((0 < length line) × (lines ≡ before ++ line ∷ []))

-- the parts of a text whose lines are known
pub lines_parts
    : (text : List ℕ) (lines : List (List ℕ)) → lines_of text ≡ lines → AreLines text lines
lines_parts text lines e = on (text_parts text)
  where
    last : (line : List ℕ) (before : List (List ℕ)) → text ≡ ended before ++ line
        → AllByRecursion IsLine before → IsLine line
        → ((line ≡ []) × (lines ≡ before)) ⊎ ((0 < length line) × (lines ≡ before ++ line ∷ []))
    last [] before is h k =
        inl (refl, sym e ∙ (ap lines_of (is ∙ append-nil (ended before)) ∙ lines_of-all before h))
    last (b ∷ line) before is h k =
        inr (
          omega arith,
          sym e ∙ (ap lines_of is ∙ lines_of-open before (b ∷ line) h k (omega arith)),
        )

    on : HasLineParts text → AreLines text lines
    on parts = record {
      before = parts.before;
      line = parts.line;
      bytes = parts.bytes;
      are_lines = parts.are_lines;
      is_line = parts.is_line;
      last = last parts.line parts.before parts.bytes parts.are_lines parts.is_line;
    }

-- a text that ends in the LF of its last line
pub whole_parts
    : (text : List ℕ) (before : List (List ℕ)) (line : List ℕ) → lines_of text ≡ before ++ line ∷ []
    → ends_in_line_feed text ≡ true
    → (text ≡ ended before ++ (line ++ line_feed ∷ [])) × AllByRecursion IsLine before × IsLine line
whole_parts text before line e feed = on (lines_parts text (before ++ line ∷ []) e)
  where
    on : AreLines text (before ++ line ∷ []) → (text ≡ ended before ++ (line ++ line_feed ∷ []))
        × AllByRecursion IsLine before
        × IsLine line
    on parts = elim parts.last [
      | inl h ↦
          let all = AllByRecursion-append IsLine before (line ∷ [])
          (subst (AllByRecursion IsLine) (sym h.1) parts.are_lines) in
          let bytes : text ≡ ended (before ++ line ∷ []) =
          parts.bytes ∙ (ap (λ xs. ended parts.before ++ xs) h.0
          ∙ (append-nil (ended parts.before) ∙ ap ended (sym h.1))) in
          (bytes ∙ ended_push before line, all.0, all.1.0)
      | inr h ↦
          let none = ap ends_in_line_feed parts.bytes ∙ ends_in_line_feed-open (ended parts.before)
          parts.line parts.is_line h.0 in
          absurd (both_ways (ends_in_line_feed text) none feed)
    ]

-- a text that ends within its last line
pub open_parts
    : (text : List ℕ) (before : List (List ℕ)) (line : List ℕ) → lines_of text ≡ before ++ line ∷ []
    → ends_in_line_feed text ≡ false
    → (text ≡ ended before ++ line) × AllByRecursion IsLine before × IsLine line × (0 < length line)
open_parts text before line e none = on (lines_parts text (before ++ line ∷ []) e)
  where
    on : AreLines text (before ++ line ∷ []) → (text ≡ ended before ++ line)
        × AllByRecursion IsLine before × IsLine line
        × (0 < length line)
    on parts = elim parts.last [
      | inl h ↦
          let bytes : text ≡ ended before ++ (line ++ line_feed ∷ []) =
          parts.bytes ∙ (ap (λ xs. ended parts.before ++ xs) h.0
          ∙ (append-nil (ended parts.before) ∙ (ap ended (sym h.1) ∙ ended_push before line))) in
          absurd (both_ways (ends_in_line_feed text) none
          (ap ends_in_line_feed bytes ∙ ends_in_line_feed-whole (ended before) line))
      | inr h ↦
          let same = same_from_push before parts.before line parts.line h.1 in (
            parts.bytes ∙ (ap (λ xs. ended xs ++ parts.line) (sym same.0)
                ∙ ap (λ xs. ended before ++ xs) (sym same.1)),
            subst (AllByRecursion IsLine) (sym same.0) parts.are_lines,
            subst IsLine (sym same.1) parts.is_line,
            omega (arith, h.0, ap length same.1),
          )
    ]
