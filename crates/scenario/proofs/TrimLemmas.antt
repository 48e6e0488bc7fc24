-- Bytes without what stands at their ends.
use Rattle.std.proofs.Common.{◌≡◌, ℕ, suc, ◌-◌, ◌<◌, ◌≤◌, Bool, true, false, cond, List, [], ◌∷◌, ◌++◌, length, take, get_or, refl, sym, ap, ◌∙◌, arith}
use Rattle.std.specs.Prelude.{◌==◌, IsTrue}
use Rattle.std.specs.List.{list_all}
use Rattle.std.proofs.lemmas.Bool.{cond-true, cond-false, cond_both, and_parts, and_from, eq-eqb, ne_eqb}
use Rattle.text_io.specs.Text.{carriage_return, is_blank}
use Rattle.scenario.specs.Fields.{without_return, without_leading, before_trailing, without_trailing, trimmed}

-- a list that is not empty is its front and its last element
pub front_and_last : (bytes : List ℕ) → 0 < length bytes → bytes ≡ take (length bytes - 1) bytes ++ get_or bytes (length bytes - 1) 0 ∷ []
front_and_last [] some = absurd (omega arith)
front_and_last (b ∷ []) some = refl
front_and_last (b ∷ c ∷ bytes) some =
    let less : length (b ∷ c ∷ bytes) - 1 ≡ suc (length (c ∷ bytes) - 1) = omega arith in
    let rest : c ∷ bytes ≡ take (length (c ∷ bytes) - 1) (c ∷ bytes) ++ get_or (c ∷ bytes) (length (c ∷ bytes) - 1) 0 ∷ [] =
    front_and_last (c ∷ bytes) (omega arith) in
    ap (λ xs. b ∷ xs) rest
    ∙ ap (λ n. take n (b ∷ c ∷ bytes) ++ get_or (b ∷ c ∷ bytes) n 0 ∷ []) (sym less)

-- a CR at the end, or another byte
pub without_return-last : (front : List ℕ) (b : ℕ) → without_return (front ++ b ∷ []) ≡ cond (b == carriage_return) front (front ++ b ∷ [])
without_return-last [] b = refl
without_return-last (a ∷ []) b = go (b == carriage_return) refl
  where
    go : (t : Bool) → (b == carriage_return) ≡ t → a ∷ without_return (b ∷ []) ≡ cond (b == carriage_return) (a ∷ []) (a ∷ b ∷ [])
    go true e =
        ap (λ xs. a ∷ xs) (cond-true (b == carriage_return) [] (b ∷ []) e) ∙ sym (cond-true (b == carriage_return) (a ∷ []) (a ∷ b ∷ []) e)
    go false e =
        ap (λ xs. a ∷ xs) (cond-false (b == carriage_return) [] (b ∷ []) e) ∙ sym (cond-false (b == carriage_return) (a ∷ []) (a ∷ b ∷ []) e)
without_return-last (a ∷ c ∷ front) b = go (without_return-last (c ∷ front) b) (b == carriage_return) refl
  where
    go : without_return ((c ∷ front) ++ b ∷ []) ≡ cond (b == carriage_return) (c ∷ front) ((c ∷ front) ++ b ∷ [])
        → (t : Bool) → (b == carriage_return) ≡ t
        → without_return ((a ∷ c ∷ front) ++ b ∷ []) ≡ cond (b == carriage_return) (a ∷ c ∷ front) ((a ∷ c ∷ front) ++ b ∷ [])
    go rest true e = ap (λ xs. a ∷ xs) (rest ∙ cond-true (b == carriage_return) _ _ e) ∙ sym (cond-true (b == carriage_return) _ _ e)
    go rest false e = ap (λ xs. a ∷ xs) (rest ∙ cond-false (b == carriage_return) _ _ e) ∙ sym (cond-false (b == carriage_return) _ _ e)

-- a byte stays before another that is left
before_trailing-some : (a : ℕ) (front : List ℕ) (b : ℕ) → before_trailing a (front ++ b ∷ []) ≡ a ∷ (front ++ b ∷ [])
before_trailing-some a [] b = refl
before_trailing-some a (c ∷ front) b = refl

-- a last byte that is a blank, or another
pub without_trailing-blank : (front : List ℕ) (b : ℕ) → is_blank b ≡ true → without_trailing (front ++ b ∷ []) ≡ without_trailing front
without_trailing-blank [] b e = cond-true (is_blank b) [] (b ∷ []) e
without_trailing-blank (a ∷ front) b e = ap (before_trailing a) (without_trailing-blank front b e)

pub without_trailing-other : (front : List ℕ) (b : ℕ) → is_blank b ≡ false → without_trailing (front ++ b ∷ []) ≡ front ++ b ∷ []
without_trailing-other [] b e = cond-false (is_blank b) [] (b ∷ []) e
without_trailing-other (a ∷ front) b e = ap (before_trailing a) (without_trailing-other front b e) ∙ before_trailing-some a front b

-- ---- bytes that are left

-- the front of bytes whose last is a blank, and bytes whose last is another
pub without_trailing-front : (bytes : List ℕ) → 0 < length bytes → is_blank (get_or bytes (length bytes - 1) 0) ≡ true
    → without_trailing (take (length bytes - 1) bytes) ≡ without_trailing bytes
without_trailing-front bytes some e =
    sym (without_trailing-blank (take (length bytes - 1) bytes) (get_or bytes (length bytes - 1) 0) e)
    ∙ ap without_trailing (sym (front_and_last bytes some))

pub without_trailing-whole : (bytes : List ℕ) → 0 < length bytes → is_blank (get_or bytes (length bytes - 1) 0) ≡ false
    → without_trailing bytes ≡ bytes
without_trailing-whole bytes some e =
    ap without_trailing (front_and_last bytes some)
    ∙ (without_trailing-other (take (length bytes - 1) bytes) (get_or bytes (length bytes - 1) 0) e ∙ sym (front_and_last bytes some))

-- a line whose last byte is a CR, or another
pub without_return-front : (line : List ℕ) → 0 < length line → get_or line (length line - 1) 0 ≡ carriage_return
    → take (length line - 1) line ≡ without_return line
without_return-front line some e =
    sym (cond-true (get_or line (length line - 1) 0 == carriage_return) _ _ (eq-eqb _ _ e))
    ∙ (sym (without_return-last (take (length line - 1) line) (get_or line (length line - 1) 0))
    ∙ ap without_return (sym (front_and_last line some)))

pub without_return-whole : (line : List ℕ) → 0 < length line → (get_or line (length line - 1) 0 ≡ carriage_return → ⊥)
    → line ≡ without_return line
without_return-whole line some e =
    front_and_last line some
    ∙ (sym (cond-false (get_or line (length line - 1) 0 == carriage_return) _ _ (ne_eqb _ _ e))
    ∙ (sym (without_return-last (take (length line - 1) line) (get_or line (length line - 1) 0))
    ∙ ap without_return (sym (front_and_last line some))))

-- ---- what trimming keeps

-- what is left is not longer
pub length-without_leading : (bytes : List ℕ) → length (without_leading bytes) ≤ length bytes
length-without_leading [] = omega arith
length-without_leading (b ∷ bytes) =
    cond_both (is_blank b) (without_leading bytes) (b ∷ bytes) (λ xs. length xs ≤ length (b ∷ bytes))
    (λ _. omega (arith, length-without_leading bytes)) (λ _. omega arith)

length-before_trailing : (b : ℕ) (bytes : List ℕ) → length (before_trailing b bytes) ≤ suc (length bytes)
length-before_trailing b [] =
    cond_both (is_blank b) [] (b ∷ []) (λ xs. length xs ≤ 1) (λ _. omega arith) (λ _. omega arith)
length-before_trailing b (c ∷ bytes) = omega arith

pub length-without_trailing : (bytes : List ℕ) → length (without_trailing bytes) ≤ length bytes
length-without_trailing [] = omega arith
length-without_trailing (b ∷ bytes) =
    omega (arith, length-without_trailing bytes, length-before_trailing b (without_trailing bytes))

pub length-without_return : (line : List ℕ) → length (without_return line) ≤ length line
length-without_return [] = omega arith
length-without_return (b ∷ []) =
    cond_both (b == carriage_return) [] (b ∷ []) (λ xs. length xs ≤ 1) (λ _. omega arith) (λ _. omega arith)
length-without_return (b ∷ c ∷ line) = omega (arith, length-without_return (c ∷ line))

-- what is left passes each test that the bytes pass
pub all-without_leading : (test : ℕ → Bool) (bytes : List ℕ) → IsTrue (list_all test bytes) → IsTrue (list_all test (without_leading bytes))
all-without_leading test [] h = refl
all-without_leading test (b ∷ bytes) h =
    cond_both (is_blank b) (without_leading bytes) (b ∷ bytes) (λ xs. IsTrue (list_all test xs))
    (λ _. all-without_leading test bytes (and_parts (test b) (list_all test bytes) h).1) (λ _. h)

all-before_trailing : (test : ℕ → Bool) (b : ℕ) (bytes : List ℕ) → test b ≡ true → IsTrue (list_all test bytes)
    → IsTrue (list_all test (before_trailing b bytes))
all-before_trailing test b [] h k =
    cond_both (is_blank b) [] (b ∷ []) (λ xs. IsTrue (list_all test xs)) (λ _. refl) (λ _. and_from (test b) true h refl)
all-before_trailing test b (c ∷ bytes) h k = and_from (test b) (list_all test (c ∷ bytes)) h k

pub all-without_trailing : (test : ℕ → Bool) (bytes : List ℕ) → IsTrue (list_all test bytes) → IsTrue (list_all test (without_trailing bytes))
all-without_trailing test [] h = refl
all-without_trailing test (b ∷ bytes) h =
    let parts = and_parts (test b) (list_all test bytes) h in
    all-before_trailing test b (without_trailing bytes) parts.0 (all-without_trailing test bytes parts.1)

pub all-without_return : (test : ℕ → Bool) (line : List ℕ) → IsTrue (list_all test line) → IsTrue (list_all test (without_return line))
all-without_return test [] h = refl
all-without_return test (b ∷ []) h =
    cond_both (b == carriage_return) [] (b ∷ []) (λ xs. IsTrue (list_all test xs)) (λ _. refl) (λ _. h)
all-without_return test (b ∷ c ∷ line) h =
    let parts = and_parts (test b) (list_all test (c ∷ line)) h in
    and_from (test b) _ parts.0 (all-without_return test (c ∷ line) parts.1)

-- ---- bytes that are trimmed already

-- what trailing blanks were taken off ends in no blank
before_trailing-stays : (b : ℕ) (bytes : List ℕ) → without_trailing bytes ≡ bytes → without_trailing (before_trailing b bytes) ≡ before_trailing b bytes
before_trailing-stays b [] h = go (is_blank b) refl
  where
    go : (t : Bool) → is_blank b ≡ t → without_trailing (before_trailing b []) ≡ before_trailing b []
    go true e =
        let none : before_trailing b [] ≡ [] = cond-true (is_blank b) [] (b ∷ []) e in
        ap without_trailing none ∙ sym none
    go false e = ap without_trailing (cond-false (is_blank b) [] (b ∷ []) e)
before_trailing-stays b (c ∷ bytes) h = ap (before_trailing b) h

pub without_trailing-stays : (bytes : List ℕ) → without_trailing (without_trailing bytes) ≡ without_trailing bytes
without_trailing-stays [] = refl
without_trailing-stays (b ∷ bytes) = before_trailing-stays b (without_trailing bytes) (without_trailing-stays bytes)

-- bytes that begin with no blank
without_leading-other : (b : ℕ) (bytes : List ℕ) → is_blank b ≡ false → without_leading (b ∷ bytes) ≡ b ∷ bytes
without_leading-other b bytes e = cond-false (is_blank b) _ _ e

without_leading-before : (b : ℕ) (bytes : List ℕ) → is_blank b ≡ false → without_leading (before_trailing b bytes) ≡ before_trailing b bytes
without_leading-before b [] e =
    let one : before_trailing b [] ≡ b ∷ [] = cond-false (is_blank b) [] (b ∷ []) e in
    ap without_leading one ∙ (without_leading-other b [] e ∙ sym one)
without_leading-before b (c ∷ bytes) e = without_leading-other b (c ∷ bytes) e

-- what trimming leaves is trimmed
pub trimmed-stays : (bytes : List ℕ) → trimmed (trimmed bytes) ≡ trimmed bytes
trimmed-stays [] = refl
trimmed-stays (b ∷ bytes) = go (trimmed-stays bytes) (is_blank b) refl
  where
    go : trimmed (trimmed bytes) ≡ trimmed bytes → (t : Bool) → is_blank b ≡ t → trimmed (trimmed (b ∷ bytes)) ≡ trimmed (b ∷ bytes)
    go rest true e =
        let same : trimmed (b ∷ bytes) ≡ trimmed bytes = ap without_trailing (cond-true (is_blank b) _ _ e) in
        ap trimmed same ∙ (rest ∙ sym same)
    go rest false e =
        let same : trimmed (b ∷ bytes) ≡ before_trailing b (without_trailing bytes) = ap without_trailing (cond-false (is_blank b) _ _ e) in
        ap trimmed same
        ∙ (ap without_trailing (without_leading-before b (without_trailing bytes) e)
        ∙ (before_trailing-stays b (without_trailing bytes) (without_trailing-stays bytes) ∙ sym same))
