-- The plan beside a tape: what its file has, and which plans at hand it lets by.
use Rattle.std.specs.Prelude.{◌≡◌, ℕ, ◌⊎◌, Bool, true, false, List, [], ◌∷◌}
use Rattle.std.specs.Prelude.{◌++◌, codes, Option, None, Some, IfSome, Result, Ok, Err}
use Rattle.std.specs.Io.KnownBytes.{Appends}
use Rattle.text_io.specs.Text.{line_feed, BeginsWith}
use Rattle.model.specs.Plan.{Plan}
use Rattle.plan_text.specs.PlanText.{PlanText, canonical_plan_text}
use Rattle.continuing.specs.Continuing.{Continues}
use Rattle.robot.specs.declared.file_tape.FileTapeFault.TheVariants.{TapeFailed, OutOfMemory}
use Rattle.agent_commands.specs.FileDeeds.{FileDeed, FindsFile}
use Rattle.agent_commands.specs.FileDeeds.FileDeed.{finds_none, cannot_open, opens_file}
use Rattle.agent_commands.specs.FileDeeds.FileDeed.{makes_draft, puts_draft, keeps_name}
use Rattle.agent_commands.specs.declared.agent_fault.AgentFault.{AgentFault}
use Rattle.agent_commands.specs.declared.agent_fault.AgentFault.TheVariants.{OpenFailed}
use Rattle.agent_commands.specs.declared.agent_fault.AgentFault.TheVariants.{PlanDamaged}
use Rattle.agent_commands.specs.declared.agent_fault.AgentFault.TheVariants.{File}

-- the first line of the file: the version of tapes, and by a mark whether a record was ever stored
-- on the tape
abbrev pub mark_line : Bool → List ℕ
mark_line true = codes "mapf-tape 1 +" ++ line_feed ∷ []
mark_line false = codes "mapf-tape 1 -" ++ line_feed ∷ []

-- The text says whether a record was ever stored on the tape, and then which plan the tape belongs
-- to.
abbrev pub KeptText : Bool → Plan → List ℕ → Type 0
KeptText marked p text = (rest : List ℕ) × (text ≡ mark_line marked ++ rest) × PlanText p rest

-- the canonical one of them
abbrev pub kept_text : Bool → Plan → List ℕ
kept_text marked p = mark_line marked ++ canonical_plan_text p

-- bytes of a file, if they are known, are such a text
pub record IsKeptIn (all : Option (List ℕ)) (marked : Bool) (p : Plan) : Type 0 where
  pub text : List ℕ
  pub whole : IfSome all (λ bytes. text ≡ bytes)
  pub says : KeptText marked p text

-- they are none
abbrev pub HasNoPlan : Option (List ℕ) → Type 0
HasNoPlan all = IfSome all (λ bytes. (marked : Bool) (p : Plan) → KeptText marked p bytes → ⊥)

-- the first line says that a record was stored, or that none was
abbrev pub HasMark : Bool → Option (List ℕ) → Type 0
HasMark marked all = IfSome all (BeginsWith (mark_line marked))

-- a file had a text that says this plan
abbrev pub IsThere : (FileDeed → Type 0) → Plan → Type 0
IsThere WasDone p = FindsFile WasDone (λ all. (marked : Bool) × IsKeptIn all marked p)

-- What was found beside a tape: a plan, or why none was read.
abbrev pub IsFoundBeside : (FileDeed → Type 0) → Result (Option Plan) AgentFault → Type 0
IsFoundBeside WasDone (Ok None) = WasDone finds_none
IsFoundBeside WasDone (Ok (Some p)) = IsThere WasDone p
IsFoundBeside WasDone (Err OpenFailed) = WasDone cannot_open
IsFoundBeside WasDone (Err PlanDamaged) = FindsFile WasDone HasNoPlan
IsFoundBeside WasDone (Err (File TapeFailed)) = Unit {0}
IsFoundBeside WasDone (Err (File OutOfMemory)) = Unit {0}
IsFoundBeside WasDone (Err _) = ⊥

-- beside a tape there was no file, or one that says that no record was stored
abbrev pub IsFreeBeside : (FileDeed → Type 0) → Type 0
IsFreeBeside WasDone = WasDone finds_none ⊎ FindsFile WasDone (HasMark false)

-- a new file was written with the canonical text of a plan, and stands beside the tape since, where
-- its name is kept
pub record IsPlanPut (WasDone : FileDeed → Type 0) (p : Plan) (marked : Bool) : Type 0 where
  pub before : Option (List ℕ)
  pub made : WasDone (makes_draft before)
  pub after : Option (List ℕ)
  pub text : Appends before after (kept_text marked p)
  pub put : WasDone (puts_draft after)
  pub named : WasDone keeps_name

-- The plan at hand is the kept one, or goes on from it; or the kept one goes on from that at hand,
-- and what it adds is taken back.
abbrev pub IsAkin : Plan → Plan → Type 0
IsAkin kept p = (p ≡ kept) ⊎ (Continues kept p ⊎ Continues p kept)

-- a plan is kept of which that at hand is none of the three
pub record IsOtherPlan (WasDone : FileDeed → Type 0) (p : Plan) : Type 0 where
  pub all : Option (List ℕ)
  pub found : WasDone (opens_file all)
  pub marked : Bool
  pub kept : Plan
  pub is_kept : IsKeptIn all marked kept
  pub is_other : IsAkin kept p → ⊥
