-- Parts of a line, between its spaces, and whether bytes are others or begin with them.
use Rattle.std.proofs.Common.{◌≡◌, ◌≢◌, ℕ, ◌+◌, ◌^◌, ◌<◌, ◌⊎◌, inl, inr, Bool, true, false, List}
use Rattle.std.proofs.Common.{[], ◌∷◌, ◌++◌, length, take, drop, get_or, refl, sym, ap, ◌∙◌, IsTrue}
use Rattle.std.specs.Prelude.{decimal, not, ◌==◌}
use Rattle.std.specs.List.{list_all}
use Rattle.std.specs.Char.{is_ascii_digit}
use Rattle.std.specs.Str.{bytes_eq}
use Rattle.std.specs.Cmp.Lexicographic.{same_text}
use Rattle.std.proofs.lemmas.Bool.{and_parts, and_from, cond-false, cases_eq, not_from_false}
use Rattle.std.proofs.lemmas.List.{take-append-drop, drop_more}
use Rattle.text_io.specs.Text.{space, line_feed, is_line_byte, is_part_byte}
use Rattle.text_io.specs.Text.{IsLine, IsPart, BeginsWith}
use Rattle.text_io.specs.Laws.Lines.{differs}
use Rattle.text_io.specs.Laws.Numerals.{digits-decimal}

-- ---- bytes of a part

-- a test that follows from another passes where that does
pub list_all-weaker
    : (strong weak : ℕ → Bool) → ((b : ℕ) → strong b ≡ true → weak b ≡ true) → (bytes : List ℕ)
    → IsTrue (list_all strong bytes) → IsTrue (list_all weak bytes)
list_all-weaker strong weak each [] h = refl
list_all-weaker strong weak each (b ∷ bytes) h =
    let parts = and_parts (strong b) (list_all strong bytes) h in
    and_from (weak b) (list_all weak bytes) (each b parts.0)
    (list_all-weaker strong weak each bytes parts.1)

pub part_byte-from : (test : ℕ → Bool) → test space ≡ false → test line_feed ≡ false → (b : ℕ)
    → test b ≡ true → is_part_byte b ≡ true
part_byte-from test no_space no_feed b h =
    and_from (not (b == space)) (is_line_byte b)
    (not_from_false (b == space) (differs test space b no_space h))
    (cond-false (b == line_feed) false true (differs test line_feed b no_feed h))

pub IsPart-digits : (digits : List ℕ) → IsTrue (list_all is_ascii_digit digits) → IsPart digits
IsPart-digits digits h =
    list_all-weaker is_ascii_digit is_part_byte (part_byte-from is_ascii_digit refl refl) digits h

pub IsLine-part : (bytes : List ℕ) → IsPart bytes → IsLine bytes
IsLine-part bytes h =
    list_all-weaker is_part_byte is_line_byte
    (λ b k. (and_parts (not (b == space)) (is_line_byte b) k).1) bytes h

pub decimal-is_part : (n : ℕ) → n < 2 ^ 64 → IsPart (decimal n)
decimal-is_part n fits = IsPart-digits (decimal n) (digits-decimal n fits)

-- ---- decisions

-- a list of bytes is another, or not
pub same_or_not : (xs ys : List ℕ) → (xs ≡ ys) ⊎ (xs ≢ ys)
same_or_not [] [] = inl refl
same_or_not [] (y ∷ ys) = inr (λ e. cc)
same_or_not (x ∷ xs) [] = inr (λ e. cc)
same_or_not (x ∷ xs) (y ∷ ys) = go (cases_eq x y) (same_or_not xs ys)
  where
    go : (x ≡ y) ⊎ (x ≡ y → ⊥) → (xs ≡ ys) ⊎ (xs ≢ ys) → (x ∷ xs ≡ y ∷ ys) ⊎ (x ∷ xs ≢ y ∷ ys)
    go (inl e) (inl k) = inl (cc)
    go (inl e) (inr k) = inr (λ h. k (cc))
    go (inr e) rest = inr (λ h. e (cc))

pub begins_or_not : (word line : List ℕ) → BeginsWith word line ⊎ (BeginsWith word line → ⊥)
begins_or_not [] line = inl (line, refl)
begins_or_not (w ∷ word) [] = inr (λ h. let e = h.1 in cc)
begins_or_not (w ∷ word) (b ∷ line) = go (cases_eq b w) (begins_or_not word line)
  where
    go : (b ≡ w) ⊎ (b ≡ w → ⊥) → BeginsWith word line ⊎ (BeginsWith word line → ⊥)
        → BeginsWith (w ∷ word) (b ∷ line) ⊎ (BeginsWith (w ∷ word) (b ∷ line) → ⊥)
    go (inl e) (inl k) = inl (k.0, let rest = k.1 in cc)
    go (inl e) (inr k) = inr (λ h. k (h.0, let whole = h.1 in cc))
    go (inr e) rest = inr (λ h. e (let whole = h.1 in cc))

-- ---- what stands before and behind

-- bytes, about one of them
pub about : (bytes : List ℕ) (i : ℕ) → i < length bytes
    → bytes ≡ take i bytes ++ get_or bytes i 0 ∷ drop (i + 1) bytes
about bytes i below =
    sym (take-append-drop i bytes) ∙ ap (λ xs. take i bytes ++ xs) (drop_more bytes i 0 below)

-- what stands behind a word with which a line begins
pub prefixed : (word line rest : List ℕ) → bytes_eq (take (length word) line) word ≡ true
    → rest ≡ drop (length word) line → line ≡ word ++ rest
prefixed word line rest begins is =
    sym (take-append-drop (length word) line)
    ∙ (ap (λ xs. xs ++ drop (length word) line)
    (same_text (take (length word) line) word (sym begins)) ∙ ap (λ xs. word ++ xs) (sym is))
