-- How far the line of a shortest length has been put.
use Rattle.std.proofs.Common.{◌≡◌, ℕ, Bool, true, false, List, [], ◌∷◌, ◌++◌, refl, ap, append_assoc}
use Rattle.std.specs.Prelude.{Option, codes, decimal, if◌then◌else◌}
use Rattle.text_io.specs.declared.sink.Sink.{Sink}
use Rattle.text_io.specs.Sink.{Puts, Leaves}
use Rattle.text_io.specs.Text.{space, line_feed}
use Rattle.scenario.specs.Query.{listed_text}
use Rattle.scenario.specs.declared.length.Length.{Length}
use Rattle.scenario.specs.declared.listed.Listed.{Listed}
use Rattle.text_io.specs.Laws.Putting.{Leaves-all, Leaves-less}
use Rattle.text_commands.specs.RowCommand.{shortest_text}

-- a word that another one follows
abbrev pub spaced : List ℕ → List ℕ
spaced word = word ++ space ∷ []

-- the line from each of its words on
abbrev pub from_answer : Bool → List ℕ
from_answer agrees = if agrees then codes " agrees\n" else codes " differs\n"

abbrev pub from_listed : Listed → Bool → List ℕ
from_listed listed agrees = listed_text listed.n listed.d ++ from_answer agrees

abbrev pub from_mark : Listed → Bool → List ℕ
from_mark listed agrees = spaced (codes "listed") ++ from_listed listed agrees

abbrev pub from_diagonal : Length → Listed → Bool → List ℕ
from_diagonal length listed agrees = spaced (decimal length.diagonal) ++ from_mark listed agrees

abbrev pub from_straight : Length → Listed → Bool → List ℕ
from_straight length listed agrees = spaced (decimal length.straight) ++ from_diagonal length listed agrees

abbrev pub from_first : Length → Listed → Bool → List ℕ
from_first length listed agrees = spaced (codes "shortest") ++ from_straight length listed agrees

answer-is : (agrees : Bool) → from_answer agrees ≡ space ∷ ((if agrees then codes "agrees" else codes "differs") ++ line_feed ∷ [])
answer-is true = refl
answer-is false = refl

pub text-is : (length : Length) (listed : Listed) (agrees : Bool) → from_first length listed agrees ≡ shortest_text length listed agrees
text-is length listed agrees = rw (answer-is agrees) (simp append_assoc)

module _ {W : Type 0} (contents : W → Option (List ℕ)) (length : Length) (listed : Listed) (agrees : Bool) where
  -- what is left at first, and after each word
  pub first-left : (s : Sink W) → Leaves contents s s (shortest_text length listed agrees) (from_first length listed agrees)
  first-left s = Leaves-all contents s _ _ (text-is length listed agrees)

  pub straight-left : (s now : Sink W) → Puts contents s now (spaced (codes "shortest"))
      → Leaves contents s now (shortest_text length listed agrees) (from_straight length listed agrees)
  straight-left s now p = Leaves-less contents s s now _ (spaced (codes "shortest")) (from_straight length listed agrees) _ (first-left s) refl p

  pub diagonal-left : (s mid now : Sink W) (given : List ℕ) → Leaves contents s mid (shortest_text length listed agrees) (from_straight length listed agrees)
      → given ≡ decimal length.straight → Puts contents mid now (spaced given)
      → Leaves contents s now (shortest_text length listed agrees) (from_diagonal length listed agrees)
  diagonal-left s mid now given left e p =
      Leaves-less contents s mid now _ (spaced (decimal length.straight)) (from_diagonal length listed agrees) _ left (ap spaced e) p

  pub mark-left : (s mid now : Sink W) (given : List ℕ) → Leaves contents s mid (shortest_text length listed agrees) (from_diagonal length listed agrees)
      → given ≡ decimal length.diagonal → Puts contents mid now (spaced given)
      → Leaves contents s now (shortest_text length listed agrees) (from_mark listed agrees)
  mark-left s mid now given left e p =
      Leaves-less contents s mid now _ (spaced (decimal length.diagonal)) (from_mark listed agrees) _ left (ap spaced e) p

  pub listed-left : (s mid now : Sink W) → Leaves contents s mid (shortest_text length listed agrees) (from_mark listed agrees)
      → Puts contents mid now (spaced (codes "listed")) → Leaves contents s now (shortest_text length listed agrees) (from_listed listed agrees)
  listed-left s mid now left p =
      Leaves-less contents s mid now _ (spaced (codes "listed")) (from_listed listed agrees) _ left refl p

  pub answer-left : (s mid now : Sink W) → Leaves contents s mid (shortest_text length listed agrees) (from_listed listed agrees)
      → Puts contents mid now (listed_text listed.n listed.d) → Leaves contents s now (shortest_text length listed agrees) (from_answer agrees)
  answer-left s mid now left p =
      Leaves-less contents s mid now _ (listed_text listed.n listed.d) (from_answer agrees) _ left refl p
