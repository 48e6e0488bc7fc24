-- Headers: which lines are taken as one, and of which version.
use Rattle.std.proofs.Common.{◌≡◌, ℕ, ◌≤◌, ◌⊎◌, inl, inr, List, [], ◌∷◌, ◌++◌, length, get_or, refl, ap, ◌∙◌, arith}
use Rattle.text_io.specs.Text.{line_feed, IsLine, BeginsWith}
use Rattle.model.specs.declared.version.Version.{Version}
use Rattle.model.specs.declared.version.Version.TheVariants.{One, Two}
use Rattle.text_io.specs.Laws.Parts.{same_or_not, begins_or_not}
use Rattle.event_text.specs.declared.header.Headers.{Headers}
use Rattle.event_text.specs.declared.header.Headers.TheVariants.{VersionOne, Either}
use Rattle.event_text.specs.EventText.{event_header, TakesHeader, IsHeader}
use Rattle.event_text.specs.EventFault.{longest_event_line}
use Rattle.event_text.specs.FirstEvents.{BeginsWithHeader, BeginsWithNoHeader}
use Rattle.event_text.proofs.LineLemmas.{line_split}

pub header-is_line : (version : Version) → IsLine (event_header version)
header-is_line One = refl
header-is_line Two = refl

pub header-short : (version : Version) → length (event_header version) ≤ longest_event_line
header-short One = omega arith
header-short Two = omega arith

-- each version has a header of its own
pub header-same : (v w : Version) → event_header v ≡ event_header w → v ≡ w
header-same One One e = refl
header-same One Two e = let last = ap (λ l. get_or l 12 0) e in absurd (omega (arith, last))
header-same Two One e = let last = ap (λ l. get_or l 12 0) e in absurd (omega (arith, last))
header-same Two Two e = refl

-- a text has one header
pub header-split : (v w : Version) (more rest : List ℕ) → event_header v ++ line_feed ∷ more ≡ event_header w ++ line_feed ∷ rest
    → (v ≡ w) × (more ≡ rest)
header-split v w more rest e =
    let parts = line_split (event_header v) (event_header w) more rest (header-is_line v) (header-is_line w) e in
    (header-same v w parts.0, parts.1)

-- a line is a header that is taken, or not
pub header_or_not : (headers : Headers) (line : List ℕ) → IsHeader headers line ⊎ (IsHeader headers line → ⊥)
header_or_not VersionOne line = go (same_or_not line (event_header One))
  where
    go : (line ≡ event_header One) ⊎ (line ≡ event_header One → ⊥) → IsHeader VersionOne line ⊎ (IsHeader VersionOne line → ⊥)
    go (inl is) = inl (One, refl, is)
    go (inr other) = inr (λ h. other (h.2 ∙ ap event_header h.1))
header_or_not Either line = go (same_or_not line (event_header One)) (same_or_not line (event_header Two))
  where
    none : (line ≡ event_header One → ⊥) → (line ≡ event_header Two → ⊥) → (version : Version) → line ≡ event_header version → ⊥
    none one two One is = one is
    none one two Two is = two is

    go : (line ≡ event_header One) ⊎ (line ≡ event_header One → ⊥) → (line ≡ event_header Two) ⊎ (line ≡ event_header Two → ⊥)
        → IsHeader Either line ⊎ (IsHeader Either line → ⊥)
    go (inl is) second = inl (One, tt, is)
    go (inr one) (inl is) = inl (Two, tt, is)
    go (inr one) (inr two) = inr (λ h. none one two h.0 h.2)

-- a header that is taken stands at the front of a text
abbrev pub BeginsWithTaken : Headers → List ℕ → Type 0
BeginsWithTaken headers text = (version : Version) × TakesHeader headers version × BeginsWithHeader version text

module _ (text : List ℕ) where
  abbrev Begins : Version → Type 0
  Begins version = BeginsWith (event_header version ++ line_feed ∷ []) text

  one_alone : (Begins One → ⊥) → (version : Version) → version ≡ One → BeginsWithHeader version text → ⊥
  one_alone one One is h = one h
  one_alone one Two is h = cc

  neither : (Begins One → ⊥) → (Begins Two → ⊥) → (version : Version) → BeginsWithHeader version text → ⊥
  neither one two One h = one h
  neither one two Two h = two h

  begins-of : (headers : Headers) → Begins One ⊎ (Begins One → ⊥) → Begins Two ⊎ (Begins Two → ⊥) → BeginsWithTaken headers text ⊎ BeginsWithNoHeader headers text
  begins-of VersionOne (inl h) second = inl (One, refl, h)
  begins-of VersionOne (inr one) second = inr (one_alone one)
  begins-of Either (inl h) second = inl (One, tt, h)
  begins-of Either (inr one) (inl h) = inl (Two, tt, h)
  begins-of Either (inr one) (inr two) = inr (λ version takes h. neither one two version h)

-- or none does
pub begins_taken : (headers : Headers) (text : List ℕ) → BeginsWithTaken headers text ⊎ BeginsWithNoHeader headers text
begins_taken headers text =
    begins-of text headers (begins_or_not (event_header One ++ line_feed ∷ []) text) (begins_or_not (event_header Two ++ line_feed ∷ []) text)
