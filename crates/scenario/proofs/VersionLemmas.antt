-- The version line, by its test.
use Rattle.std.proofs.Common.{◌≡◌, ℕ, ◌<◌, ◌⊎◌, inl, inr, Bool, true, false, List, [], ◌∷◌, ◌++◌, length, take, drop, refl, sym, ap, ◌∙◌, subst, arith, codes, length-append}
use Rattle.std.specs.Prelude.{nat_lt, IsTrue, ◌&&◌, ◌==◌}
use Rattle.std.specs.List.{list_all}
use Rattle.std.specs.Str.{bytes_eq}
use Rattle.std.specs.Cmp.Lexicographic.{same_text, bytes_decides}
use Rattle.std.proofs.lemmas.Bool.{and_parts, and_from, or_cases, or_left, or_right, cond-true, cond-false, eqb-false, both_ways, ltb-true, lt-ltb}
use Rattle.std.proofs.lemmas.List.{take-append-drop}
use Rattle.text_io.specs.Text.{is_blank}
use Rattle.scenario.specs.Fields.{without_leading, content_of}
use Rattle.scenario.specs.ScenText.{IsShort, IsVersion}
use Rattle.scenario.specs.declared.scen_fault.ScenFault.TheVariants.{NoVersion}
use Rattle.scenario.specs.ScenFault.{version_due}
use Rattle.scenario.specs.Code.Parsing.{is_one, is_version, RefusesLine}

-- blanks in front of a byte that is none are taken off
without_leading-gap : (gap : List ℕ) (b : ℕ) (bytes : List ℕ) → IsTrue (list_all is_blank gap) → is_blank b ≡ false
    → without_leading (gap ++ b ∷ bytes) ≡ b ∷ bytes
without_leading-gap [] b bytes h other = cond-false (is_blank b) _ _ other
without_leading-gap (a ∷ gap) b bytes h other =
    let parts = and_parts (is_blank a) (list_all is_blank gap) h in
    cond-true (is_blank a) _ _ parts.0 ∙ without_leading-gap gap b bytes parts.1 other

-- the blanks in front of bytes, and the rest
pub record HasGap (bytes : List ℕ) : Type 0 where
  pub gap : List ℕ
  pub parts : bytes ≡ gap ++ without_leading bytes
  pub blanks : IsTrue (list_all is_blank gap)

has_gap : (bytes : List ℕ) → HasGap bytes
has_gap [] = record { gap = []; parts = refl; blanks = refl }
has_gap (b ∷ bytes) = go (has_gap bytes) (is_blank b) refl
  where
    go : HasGap bytes → (t : Bool) → is_blank b ≡ t → HasGap (b ∷ bytes)
    go rest true e = record {
      gap = b ∷ rest.gap;
      parts = ap (λ xs. b ∷ xs) rest.parts ∙ ap (λ xs. (b ∷ rest.gap) ++ xs) (sym (cond-true (is_blank b) _ _ e));
      blanks = and_from (is_blank b) _ e rest.blanks;
    }
    go rest false e = record { gap = []; parts = sym (cond-false (is_blank b) _ _ e); blanks = refl }

-- the number, by its test
one-from_test : (number : List ℕ) → is_one number ≡ true → (number ≡ codes "1") ⊎ (number ≡ codes "1.0")
one-from_test number h = elim (or_cases _ _ h) [
  | inl e ↦ inl (same_text number (codes "1") (sym e))
  | inr e ↦ inr (same_text number (codes "1.0") (sym e))
]

test-from_one : (number : List ℕ) → (number ≡ codes "1") ⊎ (number ≡ codes "1.0") → is_one number ≡ true
test-from_one number (inl e) = or_left _ _ ((bytes_decides number (codes "1")).1 e)
test-from_one number (inr e) = or_right (bytes_eq number (codes "1")) _ ((bytes_decides number (codes "1.0")).1 e)

-- a line that passes the test is the version
pub IsVersion-from_test : (line : List ℕ) → IsShort line → is_version (content_of line) ≡ true → IsVersion line
IsVersion-from_test line short h =
    let last : IsTrue (bytes_eq (take 7 (content_of line)) (codes "version")
    && nat_lt (length (without_leading (drop 7 (content_of line)))) (length (drop 7 (content_of line))))
    × IsTrue (is_one (without_leading (drop 7 (content_of line)))) = and_parts _ _ h in
    let first : IsTrue (bytes_eq (take 7 (content_of line)) (codes "version"))
    × IsTrue (nat_lt (length (without_leading (drop 7 (content_of line)))) (length (drop 7 (content_of line)))) = and_parts _ _ last.0 in
    let rest = has_gap (drop 7 (content_of line)) in
    let less = ltb-true _ _ first.1 in
    record {
      short = short;
      gap = rest.gap;
      number = without_leading (drop 7 (content_of line));
      bytes =
          sym (take-append-drop 7 (content_of line))
          ∙ (ap (λ xs. xs ++ drop 7 (content_of line)) (same_text (take 7 (content_of line)) (codes "version") (sym first.0))
          ∙ ap (λ xs. codes "version" ++ xs) rest.parts);
      is_gap = (rest.blanks, omega (arith, less, ap length rest.parts, length-append rest.gap (without_leading (drop 7 (content_of line)))));
      one = one-from_test (without_leading (drop 7 (content_of line))) last.1;
    }

-- the version passes the test
pub test-from_IsVersion : (line : List ℕ) → IsVersion line → is_version (content_of line) ≡ true
test-from_IsVersion line h = ap is_version h.bytes ∙ passes h.one
  where
    test : (rest : List ℕ) → without_leading rest ≡ h.number → length h.number < length rest → is_one h.number ≡ true
        → is_version (codes "version" ++ rest) ≡ true
    test rest is less one =
        and_from _ _
        (and_from _ _ ((bytes_decides (codes "version") (codes "version")).1 refl) (lt-ltb _ _ (subst (λ xs. length xs < length rest) (sym is) less)))
        (ap is_one is ∙ one)

    longer : length h.number < length (h.gap ++ h.number)
    longer = omega (arith, length-append h.gap h.number, h.is_gap.1)

    passes : (h.number ≡ codes "1") ⊎ (h.number ≡ codes "1.0") → is_version (codes "version" ++ h.gap ++ h.number) ≡ true
    passes (inl e) =
        test (h.gap ++ h.number)
        (ap (λ xs. without_leading (h.gap ++ xs)) e ∙ (without_leading-gap h.gap 49 [] h.is_gap.0 refl ∙ sym e)) longer
        (test-from_one h.number (inl e))
    passes (inr e) =
        test (h.gap ++ h.number)
        (ap (λ xs. without_leading (h.gap ++ xs)) e ∙ (without_leading-gap h.gap 49 (46 ∷ 48 ∷ []) h.is_gap.0 refl ∙ sym e)) longer
        (test-from_one h.number (inr e))

-- another line than the version, where that is due
pub refuses-other : (number : ℕ) (line content : List ℕ) (none version : Bool) → IsShort line → content ≡ content_of line
    → none ≡ (length content == 0) → none ≡ false → version ≡ is_version content → version ≡ false → RefusesLine version_due number line NoVersion
refuses-other number line content none version short is empty some test other =
    inr (λ place over. (
      refl,
      short,
      inl (
        over,
        λ e. eqb-false (length content) 0 (sym empty ∙ some) (ap length (is ∙ e)),
        λ h. both_ways version other (test ∙ (ap is_version is ∙ test-from_IsVersion line h)),
      ),
    ))
