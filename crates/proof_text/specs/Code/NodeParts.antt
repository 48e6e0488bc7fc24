-- How the line of a node is cut, and what its parts are.
use Rattle.std.specs.Prelude.{◌≡◌, ℕ, ◌<◌, ◌==◌, Bool, true, false, List, ◌∷◌, length, take, codes}
use Rattle.std.specs.List.{AllByRecursion, slice_split}
use Rattle.text_io.specs.Text.{space}
use Rattle.plan_text.specs.PlanTextFault.{IsCoordinate}
use Rattle.proof_text.specs.declared.form.Form.{Form}
use Rattle.proof_text.specs.declared.form.Form.TheVariants.{Vertex, Swap, At, Goes, Stays}
use Rattle.proof_text.specs.declared.numbers.Numbers.{Numbers}
use Rattle.proof_text.specs.ProofLines.{AreSmallNumerals}

abbrev pub form_word : Form → List ℕ
form_word Vertex = codes "vertex"
form_word Swap = codes "swap"
form_word At = codes "at"
form_word Goes = codes "goes"
form_word Stays = codes "stays"

-- how many numbers follow the word
abbrev pub form_count : Form → ℕ
form_count Vertex = 5
form_count Swap = 7
form_count At = 4
form_count Goes = 6
form_count Stays = 2

-- the numbers that the parts are, or that some part is none
abbrev pub AreValues : Bool → List ℕ → List (List ℕ) → Type 0
AreValues true values parts = AreSmallNumerals values parts
AreValues false values parts = AllByRecursion IsCoordinate parts → ⊥

-- so many parts, none of them empty, were read
pub record AreRead (numbers : Numbers) (parts : List (List ℕ)) : Type 0 where
  pub count : numbers.count ≡ length parts
  pub some : AllByRecursion (λ part. 0 < length part) parts
  pub values : AreValues numbers.are_numbers (take numbers.count numbers.values) parts

-- cut at every space, the line is the word and so many parts as are due
pub record HasNodeParts (form : Form) (numbers : Numbers) (line : List ℕ) : Type 0 where
  pub parts : List (List ℕ)
  pub cut : slice_split (λ b. b == space) line ≡ form_word form ∷ parts
  pub read : AreRead numbers parts
  pub due : length parts ≡ form_count form
