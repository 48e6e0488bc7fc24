-- The faults of a proof, and where each stands.
use Rattle.std.specs.Prelude.{◌≡◌, ◌≢◌, ℕ, ◌+◌, ◌^◌, ◌<◌, ◌≤◌, ◌==◌, ◌⊎◌, List}
use Rattle.std.specs.Prelude.{[], ◌∷◌, length, codes, Option, Result, Ok, Err, ⊤}
use Rattle.std.specs.List.{AllByRecursion, slice_split}
use Rattle.text_io.specs.Reading.{by_line_feed, Place, at_line_feed, at_byte, at_end, FaultAt}
use Rattle.text_io.specs.Reading.{Outcome, is_value, is_fault, is_failed, is_refused}
use Rattle.text_io.specs.Text.{space, BeginsWith}
use Rattle.grid.specs.Map.{Grid}
use Rattle.optimality.specs.declared.constraint.Ends.{Ends}
use Rattle.optimality.specs.declared.constraint.Objective.{Objective}
use Rattle.optimality.specs.declared.node.Node.{Node}
use Rattle.optimality.specs.Judging.{LeafIsLow}
use Rattle.optimality.specs.Splitting.{IsNode}
use Rattle.plan_text.specs.PlanText.{SaysNumber}
use Rattle.plan_text.specs.PlanTextFault.{IsCoordinate}
use Rattle.proof_text.specs.declared.claim.ProofClaim.{ProofClaim}
use Rattle.proof_text.specs.declared.proof_fault.ProofFault.{ProofFault}
use Rattle.proof_text.specs.declared.proof_fault.ProofFault.TheVariants.{BadHeader, BadNode}
use Rattle.proof_text.specs.declared.proof_fault.ProofFault.TheVariants.{BadNumber, TooMany}
use Rattle.proof_text.specs.declared.proof_fault.ProofFault.TheVariants.{Unfinished, TextAfter}
use Rattle.proof_text.specs.declared.proof_fault.ProofFault.TheVariants.{NoSuchAgent, OffMap}
use Rattle.proof_text.specs.declared.proof_fault.ProofFault.TheVariants.{LeafTooLow, NotTight}
use Rattle.proof_text.specs.declared.proof_fault.ProofFault.TheVariants.{ReadFailed, OutOfMemory}
use Rattle.proof_text.specs.ProofLines.{HasAgents, HasCells, IsNodeOrLeaf, SpellsNode}
use Rattle.proof_text.specs.ProofLines.{SpellsNodeLine, objective_line, proof_header}
use Rattle.proof_text.specs.ProofText.{IsWithinLimits, ProofDue, ProofFollows, bound_due}
use Rattle.proof_text.specs.ProofText.{header_due, nodes_due, objective_due}

-- no line has more bytes before its LF
abbrev pub longest_proof_line : ℕ
longest_proof_line = 128

-- a line is due
abbrev pub IsProofLineDue : ProofDue → Type 0
IsProofLineDue header_due = ⊤
IsProofLineDue objective_due = ⊤
IsProofLineDue (bound_due objective) = ⊤
IsProofLineDue (nodes_due objective bound count []) = ⊥
IsProofLineDue (nodes_due objective bound count (here ∷ due)) = ⊤

-- a node is due
abbrev pub IsNodeDue : ProofDue → Type 0
IsNodeDue header_due = ⊥
IsNodeDue objective_due = ⊥
IsNodeDue (bound_due objective) = ⊥
IsNodeDue (nodes_due objective bound count []) = ⊥
IsNodeDue (nodes_due objective bound count (here ∷ due)) = ⊤

-- and is one that the limits allow
abbrev pub IsNodeWithin : ProofDue → Type 0
IsNodeWithin header_due = ⊥
IsNodeWithin objective_due = ⊥
IsNodeWithin (bound_due objective) = ⊥
IsNodeWithin (nodes_due objective bound count []) = ⊥
IsNodeWithin (nodes_due objective bound count (here ∷ due)) = IsWithinLimits count here

-- the line, not too long, is judged as a whole, at its LF
pub record IsWholeProofLine (place : Place) (line : List ℕ) : Type 0 where
  pub ended : place ≡ at_line_feed
  pub short : length line ≤ longest_proof_line

-- the line is none of its head that is due
abbrev pub IsOtherHead : ProofDue → List ℕ → Type 0
IsOtherHead header_due line = line ≢ proof_header
IsOtherHead objective_due line = (objective : Objective) → line ≢ objective_line objective
IsOtherHead (bound_due objective) line = BeginsWith (codes "bound ") line → ⊥
IsOtherHead (nodes_due objective bound count due) line = ⊥

-- a node's word, and how many numbers follow it
abbrev pub IsForm : List ℕ → ℕ → Type 0
IsForm word count =
    ((word ≡ codes "vertex") × (count ≡ 5)) ⊎ ((word ≡ codes "swap") × (count ≡ 7))
    ⊎ ((word ≡ codes "at") × (count ≡ 4))
    ⊎ ((word ≡ codes "goes") × (count ≡ 6)) ⊎ ((word ≡ codes "stays") × (count ≡ 2))
    ⊎ ((word ≡ codes "leaf") × (count ≡ 0))

-- cut at every space, the line is such a word and so many parts, none of them empty
pub record HasForm (parts : List (List ℕ)) (line : List ℕ) : Type 0 where
  pub word : List ℕ
  pub cut : slice_split (λ b. b == space) line ≡ word ∷ parts
  pub form : IsForm word (length parts)
  pub some : AllByRecursion (λ part. 0 < length part) parts

-- the line has no form of a node, or its agents are one, or its cells don't share a side
abbrev pub IsOtherNode : List ℕ → Type 0
IsOtherNode line =
    ((parts : List (List ℕ)) → HasForm parts line → ⊥)
    ⊎ ((node : Node) × SpellsNode node line × (IsNode node → ⊥))

-- what should be a number is none, or is out of its range
abbrev pub HasOtherProofNumber : ProofDue → List ℕ → Type 0
HasOtherProofNumber header_due line = ⊥
HasOtherProofNumber objective_due line = ⊥
HasOtherProofNumber (bound_due objective) line =
    BeginsWith (codes "bound ") line
    × ((n : ℕ) → SaysNumber (codes "bound ") n line → n < 2 ^ 32 → ⊥)
HasOtherProofNumber (nodes_due objective bound count []) line = ⊥
HasOtherProofNumber (nodes_due objective bound count (here ∷ due)) line =
    (parts : List (List ℕ)) × HasForm parts line × (AllByRecursion IsCoordinate parts → ⊥)

-- the line is a node or a leaf, by its words
abbrev pub SpellsSome : List ℕ → Type 0
SpellsSome line = (node : Option Node) × SpellsNodeLine node line × IsNodeOrLeaf node

-- a leaf that is due doesn't stand: its agents cost so much at least, which is below the bound
abbrev pub IsLowLeaf : Grid → List Ends → ProofDue → ℕ → Type 0
IsLowLeaf m ends header_due least = ⊥
IsLowLeaf m ends objective_due least = ⊥
IsLowLeaf m ends (bound_due objective) least = ⊥
IsLowLeaf m ends (nodes_due objective bound count []) least = ⊥
IsLowLeaf m ends (nodes_due objective bound count (here ∷ due)) least =
    LeafIsLow m ends objective bound here.demands least

-- The fault of a line at a place, by what was due there; the row of the fault table that each fault
-- has.
abbrev pub HasProofFault : Grid → List Ends → ProofFault → Place → ProofDue → ℕ → List ℕ → Type 0
HasProofFault m ends (BadHeader at) place due number line =
    (at ≡ number) × IsWholeProofLine place line × IsOtherHead due line
HasProofFault m ends (BadNode at) place due number line =
    (at ≡ number) × IsWholeProofLine place line × IsNodeDue due × IsOtherNode line
HasProofFault m ends (BadNumber at) place due number line =
    (at ≡ number) × IsWholeProofLine place line × HasOtherProofNumber due line
HasProofFault m ends (TooMany at) place due number line =
    (at ≡ number)
    × (((place ≡ at_byte) × IsProofLineDue due × (length line ≡ longest_proof_line + 1))
    ⊎ (IsWholeProofLine place line × IsNodeDue due × SpellsSome line × (IsNodeWithin due → ⊥)))
HasProofFault m ends (Unfinished at) place due number line =
    (at ≡ number) × (place ≡ at_end) × IsProofLineDue due × (length line ≤ longest_proof_line)
HasProofFault m ends (TextAfter at) place due number line =
    (at ≡ number) × (IsProofLineDue due → ⊥)
    × (((place ≡ at_line_feed) × (line ≡ [])) ⊎ ((place ≡ at_byte) × (b : ℕ) × (line ≡ b ∷ [])))
HasProofFault m ends (NoSuchAgent at) place due number line =
    (at ≡ number) × IsWholeProofLine place line × IsNodeWithin due
    × (node : Node) × SpellsNode node line × IsNode node × (HasAgents ends node → ⊥)
HasProofFault m ends (OffMap at) place due number line =
    (at ≡ number) × IsWholeProofLine place line × IsNodeWithin due
    × (node : Node) × SpellsNode node line × IsNode node × HasAgents ends node
    × (HasCells m node → ⊥)
HasProofFault m ends (LeafTooLow at least) place due number line =
    (at ≡ number) × IsWholeProofLine place line × IsNodeWithin due × (line ≡ codes "leaf")
    × IsLowLeaf m ends due least
HasProofFault m ends NotTight place due number line = ⊥
HasProofFault m ends ReadFailed place due number line = ⊥
HasProofFault m ends OutOfMemory place due number line = ⊥

-- the fault stands at the place where the text ends, and the lines before are right; each line
-- needs its LF
abbrev pub ProofFaultAt : Grid → List Ends → ProofFault → Place → List ℕ → Type 0
ProofFaultAt m ends = FaultAt by_line_feed (ProofFollows m ends) (HasProofFault m ends) header_due

-- what a reader of a proof answered, as a reader's outcome
abbrev pub proof_outcome : Result ProofClaim ProofFault → Outcome ProofClaim ProofFault
proof_outcome (Ok claim) = is_value claim
proof_outcome (Err (BadHeader line)) = is_fault (BadHeader line)
proof_outcome (Err (BadNode line)) = is_fault (BadNode line)
proof_outcome (Err (BadNumber line)) = is_fault (BadNumber line)
proof_outcome (Err (TooMany line)) = is_fault (TooMany line)
proof_outcome (Err (Unfinished line)) = is_fault (Unfinished line)
proof_outcome (Err (TextAfter line)) = is_fault (TextAfter line)
proof_outcome (Err (NoSuchAgent line)) = is_fault (NoSuchAgent line)
proof_outcome (Err (OffMap line)) = is_fault (OffMap line)
proof_outcome (Err (LeafTooLow line least)) = is_fault (LeafTooLow line least)
proof_outcome (Err NotTight) = is_refused
proof_outcome (Err ReadFailed) = is_failed
proof_outcome (Err OutOfMemory) = is_refused
