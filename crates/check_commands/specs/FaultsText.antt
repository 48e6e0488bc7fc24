-- What is written for all faults of a plan.
use Rattle.std.specs.Prelude.{ℕ, Bool, true, false, if◌then◌else◌, List}
use Rattle.std.specs.Prelude.{[], ◌∷◌, ◌++◌, codes, decimal, length}
use Rattle.std.specs.List.{flat_map}
use Rattle.text_io.specs.Text.{line_feed, separated, spaced_numbers}
use Rattle.depgraph.specs.Rotations.{Turn}
use Rattle.model.specs.FaultWords.{plan_fault_words}
use Rattle.model.specs.declared.plan_fault.PlanFault.{PlanFault}
use Rattle.model.specs.declared.plan_fault.PlanFault.TheVariants.{BadStart, BadMove, Vertex}
use Rattle.model.specs.declared.plan_fault.PlanFault.TheVariants.{Swap, OutOfMemory}
use Rattle.fitting.specs.FaultWords.{fit_fault_words}
use Rattle.fitting.specs.declared.fit_fault.FitFault.{FitFault}
use Rattle.fitting.specs.declared.fit_fault.FitFault.TheVariants.{TooFewRows, AgentCount}
use Rattle.fitting.specs.declared.fit_fault.FitFault.TheVariants.{StartDiffers, GoalDiffers}
use Rattle.fitting.specs.declared.fit_fault.FitFault.TheVariants.{SizeDiffers}
use Rattle.ending.specs.Pieces.{pieces_text}
use Rattle.ending.specs.Telling.{headed_line}

abbrev pub comma : ℕ
comma = 44

-- what a plan has against it: a fault; or what it differs in from what is asked for; or a rotation
pub data Told : Type 0 where
  of_plan : PlanFault → Told
  of_fit : FitFault → Told
  of_turn : Turn → Told

-- ---- in words

-- as `rejected Swap 0 1 0`
abbrev pub line_of_told : Told → List ℕ
line_of_told (of_plan fault) = headed_line (codes "rejected ") (plan_fault_words fault)
line_of_told (of_fit fault) = headed_line (codes "rejected ") (fit_fault_words fault)
line_of_told (of_turn turn) =
    codes "rejected Rotation" ++ spaced_numbers (turn.step ∷ turn.agents) ++ line_feed ∷ []

-- ---- as JSON

abbrev pub plan_fault_json : PlanFault → List ℕ
plan_fault_json (BadStart i) =
    pieces_text ((codes "{\"kind\":\"BadStart\",\"agent\":", i) ∷ []) ++ codes "}"
plan_fault_json (BadMove i step) =
    pieces_text ((codes "{\"kind\":\"BadMove\",\"agent\":", i) ∷ (codes ",\"step\":", step) ∷ [])
    ++ codes "}"
plan_fault_json (Vertex i j time cell) =
    pieces_text ((codes "{\"kind\":\"Vertex\",\"agents\":[", i) ∷ (
      codes ",",
      j,
    ) ∷ (codes "],\"time\":", time) ∷ (codes ",\"x\":", cell.x) ∷ (
      codes ",\"y\":",
      cell.y,
    ) ∷ [])
    ++ codes "}"
plan_fault_json (Swap i j step) =
    pieces_text ((codes "{\"kind\":\"Swap\",\"agents\":[", i) ∷ (
      codes ",",
      j,
    ) ∷ (codes "],\"step\":", step) ∷ []) ++ codes "}"
plan_fault_json OutOfMemory = codes "{\"kind\":\"OutOfMemory\"}"

abbrev pub fit_fault_json : FitFault → List ℕ
fit_fault_json TooFewRows = codes "{\"kind\":\"TooFewRows\"}"
fit_fault_json AgentCount = codes "{\"kind\":\"AgentCount\"}"
fit_fault_json (StartDiffers agent) =
    pieces_text ((codes "{\"kind\":\"StartDiffers\",\"agent\":", agent) ∷ []) ++ codes "}"
fit_fault_json (GoalDiffers agent) =
    pieces_text ((codes "{\"kind\":\"GoalDiffers\",\"agent\":", agent) ∷ []) ++ codes "}"
fit_fault_json (SizeDiffers row) =
    pieces_text ((codes "{\"kind\":\"SizeDiffers\",\"agent\":", row) ∷ []) ++ codes "}"

-- numbers with a comma between each two
abbrev pub listed_numbers : List ℕ → List ℕ
listed_numbers [] = []
listed_numbers (n ∷ numbers) = decimal n ++ separated comma numbers

-- as `{"kind":"Swap","agents":[0,1],"step":0}`
abbrev pub told_json : Told → List ℕ
told_json (of_plan fault) = plan_fault_json fault
told_json (of_fit fault) = fit_fault_json fault
told_json (of_turn turn) =
    codes "{\"kind\":\"Rotation\",\"step\":"
    ++ (decimal turn.step ++ (codes ",\"agents\":[" ++ (listed_numbers turn.agents ++ codes "]}")))

-- the objects with a comma between each two
abbrev pub listed_json : List Told → List ℕ
listed_json [] = []
listed_json (told ∷ others) = told_json told ++ flat_map (λ other. comma ∷ told_json other) others

-- ---- the whole text

-- A line for each, and one that says how many they are, how many different agents are named in
-- them, and whether there are more, as `faults 2 agents 4 more`; or all of it as one line of JSON.
abbrev pub faults_text : Bool → List Told → (agents : ℕ) → (more : Bool) → List ℕ
faults_text false told agents more =
    flat_map line_of_told told
    ++ (pieces_text ((codes "faults ", length told) ∷ (codes " agents ", agents) ∷ [])
    ++ (if more then codes " more\n" else codes "\n"))
faults_text true told agents more =
    codes "{\"accepted\":false,\"faults\":["
    ++ (listed_json told ++ (pieces_text ((codes "],\"agents\":", agents) ∷ [])
    ++ (if more then codes ",\"more\":true}\n" else codes ",\"more\":false}\n")))
