-- What is put of faults, one after another.
use Rattle.std.specs.Prelude.{ℕ, Bool, true, false, if◌then◌else◌, List, [], ◌∷◌, ◌++◌, codes}
use Rattle.std.specs.List.{flat_map}
use Rattle.depgraph.specs.Rotations.{turn_of}
use Rattle.check_commands.specs.FaultsText.{Told, comma, of_fit, of_plan}
use Rattle.check_commands.specs.FaultsText.{of_turn, told_json, line_of_told}
use Rattle.ending.specs.Pieces.{pieces_text}
use Rattle.check_commands.specs.declared.told.Against.{Against}
use Rattle.check_commands.specs.declared.told.Against.TheVariants as against

-- what the code has against a plan
abbrev pub told_against : Against → Told
told_against (against.Plan fault) = of_plan fault
told_against (against.Fit fault) = of_fit fault
told_against (against.Turn rotation) = of_turn (turn_of rotation.now)

-- a fault in words or as JSON
abbrev pub told_text : Bool → Told → List ℕ
told_text false told = line_of_told told
told_text true told = told_json told

-- how the text of faults begins
abbrev pub head_text : Bool → List ℕ
head_text false = []
head_text true = codes "{\"accepted\":false,\"faults\":["

-- a fault behind others
abbrev pub other_text : Bool → Told → List ℕ
other_text false told = line_of_told told
other_text true told = comma ∷ told_json told

abbrev pub others_text : Bool → List Told → List ℕ
others_text json told = flat_map (other_text json) told

-- faults, one after another
abbrev pub items_text : Bool → List Told → List ℕ
items_text json [] = []
items_text json (first ∷ others) = told_text json first ++ others_text json others

-- how it ends
abbrev pub end_text : Bool → (listed agents : ℕ) → (more : Bool) → List ℕ
end_text false listed agents more =
    pieces_text ((codes "faults ", listed) ∷ (codes " agents ", agents) ∷ [])
    ++ (if more then codes " more\n" else codes "\n")
end_text true listed agents more =
    pieces_text ((codes "],\"agents\":", agents) ∷ [])
    ++ (if more then codes ",\"more\":true}\n" else codes ",\"more\":false}\n")
