-- What the program does with the words of its command line.
use Rattle.std.specs.Prelude.{◌≡◌, ℕ, ◌⊎◌, ◌||◌, Bool, true, false, List}
use Rattle.std.specs.Prelude.{[], ◌∷◌, Option, None, Some, codes, string_bytes}
use Rattle.text_io.specs.declared.failure.Failure.TheVariants as failure
use Rattle.text_io.specs.FaultWords.{Words, failed}
use Rattle.text_io.specs.declared.counted.Counted.{Counted}
use Rattle.text_io.specs.Counted.{counted_inner, failures_of}
use Rattle.text_io.specs.Writing.{WritesText}
use Rattle.clap.specs.Words.{Text}
use Rattle.command_line.specs.declared.command_line.Asked.{Asked}
use Rattle.command_line.specs.declared.lines.CheckLine.{CheckLine}
use Rattle.command_line.specs.declared.lines.RowsLine.{RowsLine}
use Rattle.command_line.specs.declared.run_words.FleetQuery.{FleetQuery}
use Rattle.command_line.specs.declared.run_words.FleetQuery.TheVariants as fleet_query
use Rattle.command_line.specs.declared.lines.Line.{Line}
use Rattle.command_line.specs.declared.lines.Line.TheVariants as line
use Rattle.command_line.specs.declared.plan_words.PlanQuery.{PlanQuery}
use Rattle.command_line.specs.declared.plan_words.PlanQuery.TheVariants as query
use Rattle.command_line.specs.declared.text_words.TextQuery.{TextQuery}
use Rattle.command_line.specs.declared.text_words.TextQuery.TheVariants as text_query
use Rattle.command_line.specs.declared.command_line.LineFault.{LineFault}
use Rattle.command_line.specs.declared.command_line.LineFault.TheVariants.{Help, BadCommand}
use Rattle.command_line.specs.declared.command_line.LineFault.TheVariants.{OutOfMemory}
use Rattle.command_line.specs.Words.{IsLineOf, IsFaultOf}
use Rattle.ending.specs.declared.status.Status.TheVariants as status
use Rattle.ending.specs.Ending.{End, EndsAndTells, answered_with, gave_up, Concludes}
use Rattle.ending.specs.Rewriting.{EndsWriting}
use Rattle.ending.specs.Status.{code_of}
use Rattle.text_commands.specs.RowCommand.{AnswersRow}
use Rattle.text_commands.specs.RowsCommand.{AnswersRows, ShowsProgress}
use Rattle.text_commands.specs.declared.rows_command.RowsAsked.{RowsAsked}
use Rattle.text_commands.specs.TextQueries as text_answers
use Rattle.check_commands.specs.BoundCommand.{AnswersBound}
use Rattle.check_commands.specs.CheckCommand.{AnswersCheck, AnswersCheckFit}
use Rattle.check_commands.specs.declared.check_terms.CheckTerms.{CheckTerms}
use Rattle.plan_commands.specs.ContinuesCommand.{AnswersContinues}
use Rattle.plan_commands.specs.PlanQueries as plan_answers
use Rattle.proof_commands.specs.OptimalCommand.{AnswersOptimal}
use Rattle.run_commands.specs.RunCommand.{AnswersRun}
use Rattle.agent_commands.specs.AgentCommand.{AnswersAgent}
use Rattle.agent_commands.specs.FileDeeds.{FileDeed}
use Rattle.agent_commands.specs.FileDeeds.FileDeed.{opens_file}
use Rattle.agent_commands.specs.TapeCommand.{AnswersTape, EndsWithoutTape}
use Rattle.fleet_commands.specs.AnewCommand.{AnswersAnew}
use Rattle.fleet_commands.specs.HandoverCommand.{AnswersHandover}
use Rattle.fleet_commands.specs.LostCommand.{AnswersLost}
use Rattle.fleet_commands.specs.StatusCommand.{AnswersStatus}
use Rattle.explain.specs.Explaining.{AddsMore}

-- ---- files, each as it was opened and as it was left: which file was opened for which word no
-- clause can say

-- the file was opened, and nothing of it had been read
abbrev pub IsJustOpened
    : {F : Type 0} → (F → Option (List ℕ)) → (FileDeed → Type 0) → Counted F → Type 0
IsJustOpened remaining WasDone file = WasDone (opens_file (remaining (counted_inner file)))

abbrev pub OnFile
    : {F : Type 0} → (Counted F → Type 0) → (Counted F → Counted F → Type 0) → Type 0
OnFile {F} Opened Does = (a b : Counted F) × Opened a × Does a b

abbrev pub OnTwoFiles : {F : Type 0} → (Counted F → Type 0)
    → (Counted F → Counted F → Counted F → Counted F → Type 0) → Type 0
OnTwoFiles {F} Opened Does = (a b c d : Counted F) × Opened a × Opened c × Does a b c d

abbrev pub OnThreeFiles : {F : Type 0} → (Counted F → Type 0)
    → (Counted F → Counted F → Counted F → Counted F → Counted F → Counted F → Type 0) → Type 0
OnThreeFiles {F} Opened Does =
    (a b c d e f : Counted F) × Opened a × Opened c × Opened e × Does a b c d e f

-- the name that stands for the standard input
abbrev pub input_name : Text
input_name = codes "-"

-- the input was read where the one file of a command is `-`, and else the file, and no input
abbrev pub OnFileOrInput : {F I : Type 0} → (Counted F → Type 0) → Text
    → (Counted I → Counted I → Type 0) → (Counted F → Counted F → Type 0) → Counted I → Counted I
    → Type 0
OnFileOrInput Opened file DoesInput DoesFile old_in new_in =
    ((file ≡ input_name) × DoesInput old_in new_in)
    ⊎ ((file ≡ input_name → ⊥) × OnFile Opened DoesFile × (new_in ≡ old_in))

-- ---- commands

-- which rows are asked for
abbrev pub rows_asked : RowsLine → RowsAsked
rows_asked l = record { from = l.from; to = l.to; straight = l.straight; progress = l.progress }

-- what is asked of a plan
abbrev pub terms_of : CheckLine → CheckTerms
terms_of l =
    record {
      due = l.agents;
      all = l.all;
      bound = l.bound;
      no_rotation = l.no_rotation;
      json = l.json;
    }

-- `check` read a map and a plan, and a scenario where one is named
abbrev pub CheckOn
    : {F W S : Type 0} → (F → Option (List ℕ)) → (FileDeed → Type 0) → (W → Option (List ℕ))
    → Option S → CheckTerms → Counted W → Counted W → End → Type 0
CheckOn remaining WasDone contents None terms old new end =
    OnTwoFiles (IsJustOpened remaining WasDone)
    (λ a b c d. AnswersCheck remaining remaining contents terms a b c d old new end)
CheckOn remaining WasDone contents (Some scen) terms old new end =
    OnThreeFiles (IsJustOpened remaining WasDone)
    (λ a b c d e f. AnswersCheckFit remaining remaining remaining contents terms a b c d e f old
    new end)

-- what was asked of a map or a scenario was answered, by what was read of it
abbrev pub AnswersText
    : {R W : Type 0} → (R → Option (List ℕ)) → (W → Option (List ℕ)) → TextQuery
    → Counted R → Counted R → Counted W → Counted W → End → Type 0
AnswersText text_left contents (text_query.Map None) a b old new end =
    text_answers.RewritesMap text_left contents a b old new end
AnswersText text_left contents (text_query.Map (Some cell)) a b old new end =
    text_answers.BlocksCell text_left contents cell a b old new end
AnswersText text_left contents text_query.Scen a b old new end =
    text_answers.RewritesScen text_left contents a b old new end

-- what was asked of a plan on a map was answered, by what was read of both
abbrev pub AnswersQuery
    : {M P W : Type 0} → (M → Option (List ℕ)) → (P → Option (List ℕ))
    → (W → Option (List ℕ)) → PlanQuery
    → Counted M → Counted M → Counted P → Counted P → Counted W → Counted W → End → Type 0
AnswersQuery map_left plan_left contents (query.Deps None) a b c d old new end =
    plan_answers.AnswersDeps map_left plan_left contents a b c d old new end
AnswersQuery map_left plan_left contents (query.Deps (Some cell)) a b c d old new end =
    plan_answers.AnswersDepsCell map_left plan_left contents cell a b c d old new end
AnswersQuery map_left plan_left contents (query.Path agent) a b c d old new end =
    plan_answers.AnswersPath map_left plan_left contents agent a b c d old new end
AnswersQuery map_left plan_left contents (query.Bound agents json) a b c d old new end =
    AnswersBound map_left plan_left contents agents json a b c d old new end
AnswersQuery map_left plan_left contents (query.Cut time) a b c d old new end =
    plan_answers.AnswersCut map_left plan_left contents time a b c d old new end

-- and what was asked of its agents' tapes, by what was read of these too
abbrev pub AnswersFleet
    : {M P W : Type 0} → (M → Option (List ℕ)) → (P → Option (List ℕ)) → (FileDeed → Type 0)
    → (W → Option (List ℕ)) → FleetQuery
    → Counted M → Counted M → Counted P → Counted P → Counted W → Counted W → End → Type 0
AnswersFleet map_left plan_left WasDone contents (fleet_query.Status json) a b c d old new end =
    AnswersStatus map_left plan_left WasDone contents json a b c d old new end
AnswersFleet map_left plan_left WasDone contents (fleet_query.Lost agent) a b c d old new end =
    AnswersLost map_left plan_left WasDone contents agent a b c d old new end
AnswersFleet map_left plan_left WasDone contents fleet_query.Handover a b c d old new end =
    AnswersHandover map_left plan_left WasDone contents a b c d old new end
AnswersFleet map_left plan_left WasDone contents (fleet_query.Anew number without) a b c d
    old new end =
    AnswersAnew map_left plan_left WasDone contents without number a b c d old new end

-- The command ended by what it read of its files. Only an agent reads the input, and a command
-- whose one file is it.
abbrev pub PerformsOn
    : {F T I W : Type 0} → (F → Option (List ℕ)) → (T → Option (List ℕ)) → (FileDeed → Type 0)
    → (I → Option (List ℕ)) → (W → Option (List ℕ)) → Line
    → Counted I → Counted I → Counted W → Counted W → End → Type 0
PerformsOn remaining tape_left WasDone input_left contents (line.Text file query) old_in new_in old
    new end =
    OnFileOrInput (IsJustOpened remaining WasDone) (string_bytes file)
    (λ a b. AnswersText input_left contents query a b old new end)
    (λ a b. AnswersText remaining contents query a b old new end)
    old_in new_in
PerformsOn remaining tape_left WasDone input_left contents (line.Row map_file scen_file row) old_in
    new_in old new end =
    OnTwoFiles (IsJustOpened remaining WasDone)
    (λ a b c d. AnswersRow remaining remaining contents a b c d row old new end)
    × (new_in ≡ old_in)
PerformsOn remaining tape_left WasDone input_left contents (line.Rows l) old_in new_in old new end =
    OnTwoFiles (IsJustOpened remaining WasDone)
    (λ a b c d. AnswersRows remaining remaining contents (rows_asked l) a b c d old new end)
    × (new_in ≡ old_in)
PerformsOn remaining tape_left WasDone input_left contents (line.Check l) old_in new_in old new
    end =
    CheckOn remaining WasDone contents l.scen (terms_of l) old new end × (new_in ≡ old_in)
PerformsOn remaining tape_left WasDone input_left contents (line.Query map_file plan_file query)
    old_in new_in old new end =
    OnTwoFiles (IsJustOpened remaining WasDone)
    (λ a b c d. AnswersQuery remaining remaining contents query a b c d old new end)
    × (new_in ≡ old_in)
PerformsOn remaining tape_left WasDone input_left contents
    (line.Continues map_file old_file new_file) old_in new_in old new end =
    OnThreeFiles (IsJustOpened remaining WasDone)
    (λ a b c d e f. AnswersContinues remaining remaining remaining contents a b c d e f old new
    end)
    × (new_in ≡ old_in)
PerformsOn remaining tape_left WasDone input_left contents (line.Optimal l) old_in new_in old new
    end =
    OnThreeFiles (IsJustOpened remaining WasDone)
    (λ a b c d e f. AnswersOptimal remaining remaining remaining contents l.json a b c d e f old
    new end)
    × (new_in ≡ old_in)
PerformsOn remaining tape_left WasDone input_left contents
    (line.Run map_file plan_file events_file complete) old_in new_in old new end =
    OnThreeFiles (IsJustOpened remaining WasDone)
    (λ a b c d e f. AnswersRun remaining remaining remaining contents a b c d e f complete old new
    end)
    × (new_in ≡ old_in)
PerformsOn remaining tape_left WasDone input_left contents
    (line.Agent map_file plan_file id tape_file claim) old_in new_in old new end =
    OnTwoFiles (IsJustOpened remaining WasDone)
    (λ a b c d. AnswersAgent tape_left WasDone remaining remaining input_left contents claim id a b
    c d old_in new_in old new end)
PerformsOn remaining tape_left WasDone input_left contents
    (line.Tape map_file plan_file id tape_file) old_in new_in old new end =
    (OnThreeFiles (IsJustOpened remaining WasDone)
    (λ a b c d e f. AnswersTape remaining remaining remaining contents id a b c d e f old new end)
    ⊎ (EndsWithoutTape end × (new ≡ old))) × (new_in ≡ old_in)
PerformsOn remaining tape_left WasDone input_left contents (line.Fleet l) old_in new_in old new
    end =
    OnTwoFiles (IsJustOpened remaining WasDone)
    (λ a b c d. AnswersFleet remaining remaining WasDone contents l.query a b c d old new end)
    × (new_in ≡ old_in)

-- Where the error output is a terminal, or that is asked for, `rows` says there how far it has
-- come. No other command writes there before it ends.
abbrev pub ShowsOn : {E : Type 0} → (E → Option (List ℕ)) → (is_watched : Bool) → Line → Counted E
    → Counted E → Type 0
ShowsOn told is_watched (line.Rows l) old new =
    ShowsProgress told (l.progress || is_watched) old new
ShowsOn told is_watched line old new = new ≡ old

-- the command was performed, or a file of it could not be opened, and nothing was read or written
abbrev pub Performs
    : {F T I W : Type 0} → (F → Option (List ℕ)) → (T → Option (List ℕ)) → (FileDeed → Type 0)
    → (I → Option (List ℕ)) → (W → Option (List ℕ)) → Line
    → Counted I → Counted I → Counted W → Counted W → End → Type 0
Performs remaining tape_left WasDone input_left contents line old_in new_in old new end =
    PerformsOn remaining tape_left WasDone input_left contents line old_in new_in old new end
    ⊎ ((end ≡ gave_up (failed failure.OpenFailed)) × (new_in ≡ old_in) × (new ≡ old))

-- the fault that is explained: that of the command, where this is asked for
abbrev pub explained_of : Bool → End → Option Words
explained_of true end = end.explained
explained_of false end = None

-- an explanation goes behind what the error output has; where there is none, that is left alone
abbrev pub Explains
    : {E : Type 0} → (E → Option (List ℕ)) → Option Words → Counted E → Counted E → Type 0
Explains told None old new = new ≡ old
Explains told (Some words) old new = AddsMore (told (counted_inner old)) (told (counted_inner new))

-- The command was performed, with its progress on the error output, what is told of its ending left
-- that so, and an explanation is behind it, where one is asked for.
pub record AnswersLine
    {F T I W E : Type 0} (remaining : F → Option (List ℕ)) (tape_left : T → Option (List ℕ))
    (WasDone : FileDeed → Type 0) (input_left : I → Option (List ℕ))
    (contents : W → Option (List ℕ))
    (told : E → Option (List ℕ)) (is_watched : Bool) (asked : Asked) (old_in new_in : Counted I)
    (old new : Counted W) (old_err new_err : Counted E)
    (code : ℕ) : Type 0 where
  pub end : End
  pub performs : Performs remaining tape_left WasDone input_left contents asked.line old_in new_in
      old new end
  pub shown : Counted E
  pub shows : ShowsOn told is_watched asked.line old_err shown
  pub so_far : Counted E
  pub concludes : Concludes told shown so_far code end
  pub explains : Explains told (explained_of asked.explain end) so_far new_err

-- ---- words that are no command

-- How the program ends that has no command: it shows its help on the output; or it writes to the
-- error output what is wrong with its words, or a beginning of that where the error output failed.
abbrev pub EndsRefused
    : {W E : Type 0} → (W → Option (List ℕ)) → (E → Option (List ℕ)) → LineFault → Counted W
    → Counted W → Counted E → Counted E → ℕ → Type 0
EndsRefused contents told (Help text) old new old_err new_err code =
    EndsAndTells (λ end. EndsWriting contents old new (answered_with status.Done) end
    (string_bytes text)) told old_err new_err code
EndsRefused contents told (BadCommand text) old new old_err new_err code =
    (code ≡ code_of status.BadCommand) × (new ≡ old)
    × ((ok : Bool) × WritesText ok (told (counted_inner old_err)) (told (counted_inner new_err))
    (failures_of old_err) (failures_of new_err) (string_bytes text))
EndsRefused contents told OutOfMemory old new old_err new_err code =
    EndsAndTells (λ end. (end ≡ gave_up (failed failure.OutOfMemory)) × (new ≡ old)) told
    old_err new_err code

-- the words, which are a bad command line to clap, ask for help on something that is no command
abbrev pub AsksForFaultHelp : List Text → LineFault → Type 0
AsksForFaultHelp words (BadCommand said) =
    (name : Text) × (topic : Text) × (words ≡ name ∷ codes "help" ∷ topic ∷ [])
AsksForFaultHelp words _ = ⊥

-- How the program ends that has no command: it shows help on a fault, where the words ask for that,
-- or else as said above.
abbrev pub EndsUnperformed
    : {W E : Type 0} → (W → Option (List ℕ)) → (E → Option (List ℕ)) → List Text → LineFault
    → Counted W → Counted W → Counted E → Counted E → ℕ → Type 0
EndsUnperformed contents told words fault old new old_err new_err code =
    (AsksForFaultHelp words fault
    × ((text : List ℕ)
    × EndsAndTells (λ end. EndsWriting contents old new (answered_with status.Done) end text)
    told old_err new_err code))
    ⊎ EndsRefused contents told fault old new old_err new_err code

-- the words are a command, which was performed, or none, and then nothing was read
abbrev pub AnswersWords
    : {F T I W E : Type 0} → (F → Option (List ℕ)) → (T → Option (List ℕ)) → (FileDeed → Type 0)
    → (I → Option (List ℕ)) → (W → Option (List ℕ)) → (E → Option (List ℕ)) → (is_watched : Bool)
    → List Text → Counted I → Counted I → Counted W → Counted W → Counted E → Counted E → ℕ → Type 0
AnswersWords remaining tape_left WasDone input_left contents told is_watched words old_in new_in
    old new old_err
    new_err code =
    ((asked : Asked) × IsLineOf words asked
    × AnswersLine remaining tape_left WasDone input_left contents told is_watched asked old_in
    new_in old new
    old_err new_err code)
    ⊎ ((fault : LineFault) × IsFaultOf words fault
    × EndsUnperformed contents told words fault old new old_err new_err code
    × (new_in ≡ old_in))
