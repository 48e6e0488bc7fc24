-- What `mapf row` does and answers.
use Rattle.std.specs.Prelude.{◌≡◌, ℕ, ◌≤◌, ◌↔◌, IsTrue, Bool, if◌then◌else◌, List}
use Rattle.std.specs.Prelude.{[], ◌∷◌, ◌++◌, length, Option, Some, None, Result}
use Rattle.std.specs.Prelude.{Ok, Err, slice_get, codes, decimal, ⊤}
use Rattle.std.specs.List.{join_with_byte}
use Rattle.text_io.specs.declared.counted.Counted.{Counted}
use Rattle.grid.specs.Map.{Grid}
use Rattle.grid.specs.MapFault.{ReadsMap}
use Rattle.text_io.specs.Text.{space, line_feed}
use Rattle.walks.specs.Certificate.{AreOn, Certifies, IsLeast}
use Rattle.scenario.specs.Length.{Agrees}
use Rattle.scenario.specs.Query.{Query, listed_text}
use Rattle.scenario.specs.ScenFault.{ReadsScen}
use Rattle.walks.specs.declared.certificate.Proposal.{Proposal}
use Rattle.scenario.specs.declared.length.Length.{Length}
use Rattle.scenario.specs.declared.listed.Listed.{Listed}
use Rattle.text_commands.specs.declared.row_fault.RowFault.{RowFault}
use Rattle.text_commands.specs.declared.row_fault.RowFault.TheVariants.{Map, Scen}
use Rattle.text_commands.specs.declared.row_fault.RowFault.TheVariants.{NoSuchRow, SizeDiffers}
use Rattle.text_commands.specs.declared.row_fault.RowFault.TheVariants.{OutOfMemory, Certificate}
use Rattle.text_commands.specs.declared.row_verdict.RowVerdict.{RowVerdict}
use Rattle.text_commands.specs.declared.row_verdict.RowVerdict.TheVariants.{Shortest, Unreachable}
use Rattle.text_commands.specs.FaultWords.{row_fault_words}
use Rattle.ending.specs.Rewriting.{EndsWriting}
use Rattle.ending.specs.Ending.{End, answered_with, gave_up}
use Rattle.text_commands.specs.RowStatus.{row_verdict_status}

-- the words of the line, as `shortest 2 0 listed 2 agrees`
abbrev pub shortest_words : Length → Listed → Bool → List (List ℕ)
shortest_words length listed agrees =
    codes "shortest" ∷ decimal length.straight ∷ decimal length.diagonal ∷ codes
    "listed" ∷ listed_text listed.n listed.d
    ∷ (if agrees then codes "agrees" else codes "differs") ∷ []

-- the line that is written for a shortest length
abbrev pub shortest_text : Length → Listed → Bool → List ℕ
shortest_text length listed agrees =
    join_with_byte space (shortest_words length listed agrees) ++ line_feed ∷ []

-- the line that is written for a verdict
abbrev pub row_verdict_text : RowVerdict → List ℕ
row_verdict_text (Shortest length listed agrees) = shortest_text length listed agrees
row_verdict_text Unreachable = codes "unreachable" ++ line_feed ∷ []

-- the verdict on the listed length n / 10^decimals, by the length of the shortest walks
abbrev pub IsRowVerdictOn : ℕ → ℕ → Option Length → RowVerdict → Type 0
IsRowVerdictOn n decimals shortest (Shortest length listed agrees) =
    (shortest ≡ Some length) × (listed.n ≡ n) × (listed.d ≡ decimals)
    × (IsTrue agrees ↔ Agrees n decimals length.straight length.diagonal)
IsRowVerdictOn n decimals shortest Unreachable = shortest ≡ None

-- The length of the shortest walks of a query, or that there is none: a proposal was certified.
pub record IsCertified (m : Grid) (q : Query) (shortest : Option Length) : Type 0 where
  pub proposal : Proposal
  pub certifies : Certifies m q.start q.goal proposal (Ok shortest)
  pub least : IsLeast m q.start q.goal shortest

-- the query is for a map of this size
abbrev pub HasSizeOf : Grid → Query → Type 0
HasSizeOf m q = (q.width ≡ m.width) × (q.height ≡ m.height)

-- The row with this number, counted from 0, is the query, which is for a map of this size. So its
-- start and goal are on the map.
pub record IsAsked (m : Grid) (rows : List Query) (number : ℕ) (q : Query) : Type 0 where
  pub is_row : slice_get rows number ≡ Some q
  pub has_size : HasSizeOf m q
  pub on_map : AreOn m q.start q.goal

-- the verdict on the listed length of a query
abbrev pub IsVerdictOn : Grid → Query → RowVerdict → Type 0
IsVerdictOn m q verdict =
    (shortest : Option Length) × IsCertified m q shortest
    × IsRowVerdictOn q.listed q.decimals shortest verdict

-- why there is none: the search was refused memory, or what it proposed proves nothing
abbrev pub IsUncertified : Grid → Query → RowFault → Type 0
IsUncertified m q OutOfMemory = ⊤
IsUncertified m q (Certificate fault) =
    (proposal : Proposal) × Certifies m q.start q.goal proposal (Err fault)
IsUncertified m q fault = ⊥

-- What a row comes to: its verdict; or there is no such row; else its size is another one; else
-- there is no verdict on it.
abbrev pub JudgesRow : Grid → List Query → ℕ → Result RowVerdict RowFault → Type 0
JudgesRow m rows number (Ok verdict) =
    (q : Query) × IsAsked m rows number q × IsVerdictOn m q verdict
JudgesRow m rows number (Err NoSuchRow) = length rows ≤ number
JudgesRow m rows number (Err (SizeDiffers at)) =
    (at ≡ number) × (q : Query) × (slice_get rows number ≡ Some q) × (HasSizeOf m q → ⊥)
JudgesRow m rows number (Err fault) =
    (q : Query) × IsAsked m rows number q × IsUncertified m q fault

-- The map was read, and then the scenario, and then the row was judged by the two; a text that
-- could not be read is answered, and what comes after it isn't touched.
abbrev pub ReadsAndJudges
    : {R S : Type 0} → (R → Option (List ℕ)) → (S → Option (List ℕ)) → Counted R → Counted R
    → Counted S → Counted S → ℕ
    → Result RowVerdict RowFault → Type 0
ReadsAndJudges map_left scen_left old_map new_map old_scen new_scen number (Err (Map fault)) =
    ReadsMap map_left old_map new_map (Err fault) × (new_scen ≡ old_scen)
ReadsAndJudges map_left scen_left old_map new_map old_scen new_scen number (Err (Scen fault)) =
    (m : Grid) × ReadsMap map_left old_map new_map (Ok m)
    × ReadsScen scen_left old_scen new_scen (Err fault)
ReadsAndJudges map_left scen_left old_map new_map old_scen new_scen number answer =
    (m : Grid) × (rows : List Query) × ReadsMap map_left old_map new_map (Ok m)
    × ReadsScen scen_left old_scen new_scen (Ok rows)
    × JudgesRow m rows number answer

-- What the output got and how the command ended: the line of the verdict, or a beginning of it
-- where the output failed; nothing where there is no verdict.
abbrev pub EndsByRowVerdict : {W : Type 0} → (W → Option (List ℕ)) → Counted W → Counted W → End
    → Result RowVerdict RowFault → Type 0
EndsByRowVerdict contents old new end (Ok verdict) =
    EndsWriting contents old new (answered_with (row_verdict_status verdict)) end
    (row_verdict_text verdict)
EndsByRowVerdict contents old new end (Err fault) =
    (end ≡ gave_up (row_fault_words fault)) × (new ≡ old)

-- The texts were read and the row was judged, and the command ended by that.
pub record AnswersRow
    {R S W : Type 0} (map_left : R → Option (List ℕ)) (scen_left : S → Option (List ℕ))
    (contents : W → Option (List ℕ))
    (old_map new_map : Counted R) (old_scen new_scen : Counted S) (number : ℕ)
    (old_out new_out : Counted W) (end : End) : Type 0 where
  pub answer : Result RowVerdict RowFault
  pub judges : ReadsAndJudges map_left scen_left old_map new_map old_scen new_scen number answer
  pub ends : EndsByRowVerdict contents old_out new_out end answer
