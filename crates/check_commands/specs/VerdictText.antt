-- What is written for a plan that was checked.
use Rattle.std.specs.Prelude.{ℕ, Bool, true, false, ◌||◌, ◌==◌, if◌then◌else◌, IsTrue}
use Rattle.std.specs.Prelude.{List, [], ◌∷◌, ◌++◌, codes, decimal, ⊤}
use Rattle.std.specs.Char.{is_ascii_alphanumeric}
use Rattle.std.specs.List.{list_all}
use Rattle.text_io.specs.Text.{space, line_feed, spaced_numbers}
use Rattle.depgraph.specs.Rotations.{Turn}
use Rattle.ending.specs.Pieces.{pieces_text}
use Rattle.check_commands.specs.declared.verdict.Verdict.{Verdict}
use Rattle.check_commands.specs.declared.verdict.Verdict.TheVariants.{Accepted, Rejected}

-- a letter, a digit or a space, which JSON writes as it is
abbrev pub is_plain_byte : ℕ → Bool
is_plain_byte b = is_ascii_alphanumeric b || b == space

abbrev pub IsPlainText : List ℕ → Type 0
IsPlainText text = IsTrue (list_all is_plain_byte text)

-- the fault of a verdict is told in letters, digits and spaces
abbrev pub IsPlain : Verdict → Type 0
IsPlain (Accepted agents cost makespan) = ⊤
IsPlain (Rejected fault) = IsPlainText fault.now

-- ---- as JSON, without an LF

-- as `{"accepted":true,"agents":2,"cost":2,"makespan":1}`
abbrev pub accepted_json : (agents cost makespan : ℕ) → List ℕ
accepted_json agents cost makespan =
    codes "{\"accepted\":true,\"agents\":"
    ++ (decimal agents
    ++ (codes ",\"cost\":"
    ++ (decimal cost ++ (codes ",\"makespan\":" ++ (decimal makespan ++ codes "}")))))

-- as `{"accepted":false,"fault":"Swap 0 1 0"}`
abbrev pub rejected_json : List ℕ → List ℕ
rejected_json fault = codes "{\"accepted\":false,\"fault\":\"" ++ (fault ++ codes "\"}")

abbrev pub verdict_json_text : Verdict → List ℕ
verdict_json_text (Accepted agents cost makespan) = accepted_json agents cost makespan
verdict_json_text (Rejected fault) = rejected_json fault.now

-- ---- in words

-- as `accepted agents 2 cost 2 makespan 1`
abbrev pub accepted_text : (agents cost makespan : ℕ) → List ℕ
accepted_text agents cost makespan =
    codes "accepted agents "
    ++ (decimal agents
    ++ (codes " cost " ++ (decimal cost ++ (codes " makespan " ++ decimal makespan))))

-- as `rejected Swap 0 1 0`
abbrev pub rejected_text : List ℕ → List ℕ
rejected_text fault = codes "rejected " ++ fault

-- ---- the lines of `mapf check`

-- the line of an accepted plan, in words or as JSON
abbrev pub accepted_line : Bool → (agents cost makespan : ℕ) → List ℕ
accepted_line json agents cost makespan =
    (if json then accepted_json agents cost makespan else accepted_text agents cost makespan)
    ++ line_feed ∷ []

-- the same with what such plans cost at least, as `accepted agents 2 cost 4 of 4 makespan 2 of 2`
abbrev pub bounded_line : Bool → (agents cost makespan cost_bound makespan_bound : ℕ) → List ℕ
bounded_line false agents cost makespan cost_bound makespan_bound =
    pieces_text ((codes "accepted agents ", agents) ∷ (codes " cost ", cost) ∷ (
      codes " of ",
      cost_bound,
    ) ∷ (codes " makespan ", makespan)
    ∷ (codes " of ", makespan_bound) ∷ [])
    ++ codes "\n"
bounded_line true agents cost makespan cost_bound makespan_bound =
    pieces_text ((codes "{\"accepted\":true,\"agents\":", agents) ∷ (
      codes ",\"cost\":",
      cost,
    ) ∷ (codes ",\"makespan\":", makespan)
    ∷ (codes ",\"cost_bound\":", cost_bound) ∷ (codes ",\"makespan_bound\":", makespan_bound) ∷ [])
    ++ codes "}\n"

-- the same of a rejected one, by its fault's text
abbrev pub rejected_line : Bool → List ℕ → List ℕ
rejected_line json fault =
    (if json then rejected_json fault else rejected_text fault) ++ line_feed ∷ []

-- the text of a rotation: its step and its agents, the least first
abbrev pub turn_text : Turn → List ℕ
turn_text turn = codes "Rotation" ++ spaced_numbers (turn.step ∷ turn.agents)
