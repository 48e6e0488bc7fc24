-- The parts of a fault's words between two texts, and how far they have been put.
use Rattle.std.proofs.Common.{◌≡◌, ◌∙◌, ℕ, List, ◌++◌, refl, sym, ap, take, append_assoc}
use Rattle.std.specs.Prelude.{Option, codes}
use Rattle.text_io.specs.FaultName.{fault_name}
use Rattle.text_io.specs.Laws.Words.{joined}
use Rattle.text_io.specs.Text.{spaced_numbers}
use Rattle.text_io.specs.FaultWords.{words_of, words_text}
use Rattle.text_io.specs.Sink.{Puts, Leaves}
use Rattle.text_io.specs.declared.fault_words.FaultWords.{FaultWords}
use Rattle.text_io.specs.declared.sink.Sink.{Sink}
use Rattle.text_io.specs.Laws.Putting.{Leaves-all, Leaves-less}
use Rattle.ending.specs.Telling.{enclosed_words}

abbrev pub numbers_of : FaultWords → List ℕ
numbers_of words = take words.count words.numbers

-- the text from each of its parts on
abbrev pub from_numbers : FaultWords → List ℕ → List ℕ
from_numbers words end = spaced_numbers (numbers_of words) ++ end

abbrev pub from_name : FaultWords → List ℕ → List ℕ
from_name words end = fault_name words.name ++ from_numbers words end

text-is : (head : List ℕ) (words : FaultWords) (end : List ℕ) → head ++ from_name words end ≡ enclosed_words head (words_of words) end
text-is head words end =
    ap (λ (rest : List ℕ). head ++ rest)
    (sym (append_assoc (fault_name words.name) (spaced_numbers (numbers_of words)) end)
    ∙ ap (λ (text : List ℕ). text ++ end) (sym (joined (fault_name words.name) (numbers_of words))))
    ∙ sym (append_assoc head (words_text (words_of words)) end)

module _ {W : Type 0} (contents : W → Option (List ℕ)) (head : List ℕ) (words : FaultWords) (end : List ℕ) where
  -- what is left at first, and after each part
  pub first-left : (s : Sink W) → Leaves contents s s (enclosed_words head (words_of words) end) (head ++ from_name words end)
  first-left s = Leaves-all contents s _ _ (text-is head words end)

  pub name-left : (s now : Sink W) → Puts contents s now head → Leaves contents s now (enclosed_words head (words_of words) end) (from_name words end)
  name-left s now p = Leaves-less contents s s now _ head (from_name words end) _ (first-left s) refl p

  pub numbers-left : (s mid now : Sink W) (given : List ℕ) → Leaves contents s mid (enclosed_words head (words_of words) end) (from_name words end)
      → given ≡ fault_name words.name → Puts contents mid now given → Leaves contents s now (enclosed_words head (words_of words) end) (from_numbers words end)
  numbers-left s mid now given left e p = Leaves-less contents s mid now _ (fault_name words.name) (from_numbers words end) given left e p

  pub end-left : (s mid now : Sink W) (given : List ℕ) → Leaves contents s mid (enclosed_words head (words_of words) end) (from_numbers words end)
      → given ≡ spaced_numbers (numbers_of words) → Puts contents mid now given → Leaves contents s now (enclosed_words head (words_of words) end) end
  end-left s mid now given left e p = Leaves-less contents s mid now _ (spaced_numbers (numbers_of words)) end given left e p
