-- The command line of `mapf`, in the words of clap.
use Rattle.std.specs.Prelude.{◌≡◌, ◌↔◌, ℕ, ◌^◌, ◌<◌, ◌≤◌, ◌==◌, ◌⊎◌}
use Rattle.std.specs.Prelude.{Bool, true, List, [], ◌∷◌, ◌++◌, map, option_map}
use Rattle.std.specs.Prelude.{fold, codes, if◌then◌else◌, Option, None, Some, String, string_bytes}
use Rattle.std.specs.Global.{Global}
use Rattle.std.specs.List.{list_any}
use Rattle.std.specs.Str.{bytes_eq}
use Rattle.grid.specs.declared.cell.Cell.{Cell}
use Rattle.text_io.specs.Text.{SpellsNumber}
use Rattle.clap.specs.Kinds.{IsAmong}
use Rattle.clap.specs.Words.{App, fault_of, Row, Rule, Text, all_of}
use Rattle.clap.specs.Words.{first_of, new_app, new_rule, one_of, subcommand_of, with_subcommand}
use Rattle.clap.specs.declared.builder.action.ArgAction.TheVariants.{SetTrue}
use Rattle.clap.specs.declared.error.kind.ErrorKind.{ErrorKind}
use Rattle.clap.specs.declared.error.kind.ErrorKind.TheVariants as kind
use Rattle.tape_claim.specs.declared.TapeClaim.{TapeClaim}
use Rattle.tape_claim.specs.declared.TapeClaim.TheVariants.{Any, New, Kept}
use Rattle.command_line.specs.declared.command_line.Asked.{Asked}
use Rattle.command_line.specs.declared.run_words.FleetQuery.{FleetQuery}
use Rattle.command_line.specs.declared.run_words.FleetQuery.TheVariants as fleet_query
use Rattle.command_line.specs.declared.lines.Line.{Line}
use Rattle.command_line.specs.declared.lines.Line.TheVariants as line
use Rattle.command_line.specs.declared.plan_words.PlanQuery.{PlanQuery}
use Rattle.command_line.specs.declared.plan_words.PlanQuery.TheVariants as query
use Rattle.command_line.specs.declared.text_words.TextQuery.{TextQuery}
use Rattle.command_line.specs.declared.text_words.TextQuery.TheVariants as text_query
use Rattle.command_line.specs.declared.command_line.LineFault.{LineFault}
use Rattle.command_line.specs.declared.command_line.LineFault.TheVariants.{Help, BadCommand}
use Rattle.command_line.specs.declared.command_line.LineFault.TheVariants.{OutOfMemory}

-- What a refusal of clap comes to, with some text: clap's clauses say nothing of its texts.
abbrev pub ComesTo : ErrorKind → LineFault → Type 0
ComesTo kind.DisplayHelp fault = (text : String Global) × (fault ≡ Help text)
ComesTo kind.DisplayVersion fault = (text : String Global) × (fault ≡ Help text)
ComesTo kind.OutOfMemory fault = fault ≡ OutOfMemory
ComesTo _ fault = (text : String Global) × (fault ≡ BadCommand text)

-- the fault is a bad command line with this text, or memory was refused
abbrev pub SaysBad : Text → LineFault → Type 0
SaysBad said fault =
    (fault ≡ OutOfMemory)
    ⊎ ((text : String Global) × (fault ≡ BadCommand text) × (string_bytes text ≡ said))

-- a command: its name, the names of the words that it requires, and the long names of its options,
-- which take one value, of those that take the two numbers of a cell, and of its flags
pub record Usage : Type 0 where
  pub name : Text
  pub required : List Text
  pub options : List Text
  pub cells : List Text
  pub flags : List Text

-- the flag of each command that asks for an explanation of a fault
abbrev pub explain_flag : Text
explain_flag = codes "explain"

-- the command with this name that takes a file
abbrev pub file_command : Text → Usage
file_command name =
    record {
      name = name;
      required = codes "file" ∷ [];
      options = [];
      cells = [];
      flags = explain_flag ∷ [];
    }

-- the commands over maps and scenarios
abbrev pub text_usages : List Usage
text_usages =
    record {
      name = codes "map";
      required = codes "file" ∷ [];
      options = [];
      cells = codes "block" ∷ [];
      flags = explain_flag ∷ [];
    }
    ∷ file_command (codes "scen")
    ∷ record {
      name = codes "row";
      required = codes "map" ∷ codes "scen" ∷ codes "row" ∷ [];
      options = [];
      cells = [];
      flags = explain_flag ∷ [];
    }
    ∷ record {
      name = codes "rows";
      required = codes "map" ∷ codes "scen" ∷ [];
      options = codes "from" ∷ codes "to" ∷ [];
      cells = [];
      flags = codes "straight" ∷ codes "progress" ∷ explain_flag ∷ [];
    }
    ∷ []

-- the commands over plans
abbrev pub plan_usages : List Usage
plan_usages =
    record {
      name = codes "check";
      required = codes "map" ∷ codes "plan" ∷ [];
      options = codes "scen" ∷ codes "agents" ∷ codes "all" ∷ [];
      cells = [];
      flags = codes "bound" ∷ codes "no-rotation" ∷ codes "json" ∷ explain_flag ∷ [];
    }
    ∷ record {
      name = codes "bound";
      required = codes "map" ∷ codes "plan" ∷ [];
      options = [];
      cells = [];
      flags = codes "agents" ∷ codes "json" ∷ explain_flag ∷ [];
    }
    ∷ record {
      name = codes "deps";
      required = codes "map" ∷ codes "plan" ∷ [];
      options = [];
      cells = codes "cell" ∷ [];
      flags = explain_flag ∷ [];
    }
    ∷ record {
      name = codes "path";
      required = codes "map" ∷ codes "plan" ∷ [];
      options = codes "agent" ∷ [];
      cells = [];
      flags = explain_flag ∷ [];
    }
    ∷ record {
      name = codes "cut";
      required = codes "map" ∷ codes "plan" ∷ codes "time" ∷ [];
      options = [];
      cells = [];
      flags = explain_flag ∷ [];
    }
    ∷ record {
      name = codes "continues";
      required = codes "map" ∷ codes "old" ∷ codes "new" ∷ [];
      options = [];
      cells = [];
      flags = explain_flag ∷ [];
    }
    ∷ record {
      name = codes "optimal";
      required = codes "map" ∷ codes "plan" ∷ codes "proof" ∷ [];
      options = [];
      cells = [];
      flags = codes "json" ∷ explain_flag ∷ [];
    }
    ∷ []

-- the commands of runs, agents and fleets
abbrev pub run_usages : List Usage
run_usages =
    record {
      name = codes "run";
      required = codes "map" ∷ codes "plan" ∷ codes "events" ∷ [];
      options = [];
      cells = [];
      flags = codes "complete" ∷ explain_flag ∷ [];
    }
    ∷ record {
      name = codes "agent";
      required = codes "map" ∷ codes "plan" ∷ codes "id" ∷ codes "file" ∷ [];
      options = codes "tape" ∷ [];
      cells = [];
      flags = explain_flag ∷ [];
    }
    ∷ record {
      name = codes "tape";
      required = codes "map" ∷ codes "plan" ∷ codes "id" ∷ codes "file" ∷ [];
      options = [];
      cells = [];
      flags = explain_flag ∷ [];
    }
    ∷ record {
      name = codes "status";
      required = codes "map" ∷ codes "plan" ∷ codes "tapes" ∷ [];
      options = [];
      cells = [];
      flags = codes "json" ∷ explain_flag ∷ [];
    }
    ∷ record {
      name = codes "lost";
      required = codes "map" ∷ codes "plan" ∷ codes "tapes" ∷ codes "id" ∷ [];
      options = [];
      cells = [];
      flags = explain_flag ∷ [];
    }
    ∷ record {
      name = codes "handover";
      required = codes "map" ∷ codes "plan" ∷ codes "tapes" ∷ [];
      options = [];
      cells = [];
      flags = explain_flag ∷ [];
    }
    ∷ record {
      name = codes "anew";
      required = codes "map" ∷ codes "plan" ∷ codes "tapes" ∷ codes "number" ∷ [];
      options = codes "without" ∷ [];
      cells = [];
      flags = explain_flag ∷ [];
    }
    ∷ []

-- all commands
abbrev pub commands : List Usage
commands = text_usages ++ (plan_usages ++ run_usages)

-- one required word
abbrev pub required_word : Text → Rule
required_word name = record (new_rule name) { required = true }

-- an option that takes one value: `--name VALUE` or `--name=VALUE`
abbrev pub named_option : Text → Rule
named_option name = record (new_rule name) { long = Some name }

-- an option that takes a cell: `--name X Y`
abbrev pub named_cell : Text → Rule
named_cell name =
    record (named_option name) {
      range = Some (record { start_inclusive = 2; end_inclusive = 2 });
      value_names = 2;
    }

-- a flag: `--name`
abbrev pub named_flag : Text → Rule
named_flag name = record (named_option name) { action = Some SetTrue }

-- the arguments of a command
abbrev pub rules_of_usage : Usage → List Rule
rules_of_usage u =
    map required_word u.required
    ++ (map named_option u.options ++ (map named_cell u.cells ++ map named_flag u.flags))

-- a command as clap takes it
abbrev pub command_of : Usage → App
command_of u =
    record (new_app u.name) { top = record (new_app u.name).top { rules = rules_of_usage u } }

-- the program without its commands, one of which is required: it has a version
abbrev pub bare_program : App
bare_program =
    record (new_app (codes "mapf"))
    { top = record (new_app (codes "mapf")).top { has_version = true; subcommand_required = true } }

-- the program with all its commands
abbrev pub program_app : App
program_app = fold (λ app c. with_subcommand app (command_of c).top) bare_program commands

-- the rows have a value of this word, which is digits alone and spells the number
abbrev pub GivesNumber : Text → List Row → ℕ → Type 0
GivesNumber word rows n =
    (digits : Text) × (first_of word rows ≡ Some digits) × SpellsNumber n digits

-- the rows give this word a number below the limit
abbrev pub GivesNumberBelow : ℕ → Text → List Row → Type 0
GivesNumberBelow limit word rows = (n : ℕ) × (n < limit) × GivesNumber word rows n

-- the rows give this option a number, or it is left out
abbrev pub MayGiveNumber : Text → List Row → Option ℕ → Type 0
MayGiveNumber option rows None = first_of option rows ≡ None
MayGiveNumber option rows (Some n) = GivesNumber option rows n

-- where the rows give this option a value, it spells a number below the limit
abbrev pub GivesNumbers : ℕ → Text → List Row → Type 0
GivesNumbers limit option rows =
    (digits : Text) → first_of option rows ≡ Some digits → (n : ℕ) × (n < limit)
    × SpellsNumber n digits

-- the rows give this option a number that is no less than the least, or it is left out
abbrev pub MayGiveNumberFrom : ℕ → Text → List Row → Option ℕ → Type 0
MayGiveNumberFrom least option rows None = first_of option rows ≡ None
MayGiveNumberFrom least option rows (Some n) = (least ≤ n) × GivesNumber option rows n

-- where the rows give this option a value, it spells a number from the least to below 2^32
abbrev pub GivesNumbersFrom : ℕ → Text → List Row → Type 0
GivesNumbersFrom least option rows =
    (digits : Text) → first_of option rows ≡ Some digits → (n : ℕ) × (least ≤ n) × (n < 2 ^ 32)
    × SpellsNumber n digits

-- the values are two, digits alone, and spell the column and the row of the cell
abbrev pub SpellsCell : Cell → List Text → Type 0
SpellsCell cell values =
    (x : Text) × (y : Text) × (values ≡ x ∷ y ∷ []) × SpellsNumber cell.x x × SpellsNumber cell.y y

-- the rows give this option a cell, or it is left out
abbrev pub MayGiveCell : Text → List Row → Option Cell → Type 0
MayGiveCell option rows None = all_of option rows ≡ None
MayGiveCell option rows (Some cell) =
    (values : List Text) × (all_of option rows ≡ Some values) × SpellsCell cell values

-- where the rows give this option values, they spell a cell, whose numbers are below 2^16
abbrev pub GivesCells : Text → List Row → Type 0
GivesCells option rows =
    (values : List Text) → all_of option rows ≡ Some values → (cell : Cell) × (cell.x < 2 ^ 16)
    × (cell.y < 2 ^ 16) × SpellsCell cell values

-- the word claims this of a tape
abbrev pub SaysClaim : TapeClaim → Text → Type 0
SaysClaim Any word = ⊥
SaysClaim New word = word ≡ codes "new"
SaysClaim Kept word = word ≡ codes "kept"

-- the rows claim this of a tape by this option, or it is left out
abbrev pub MakesClaim : Text → List Row → TapeClaim → Type 0
MakesClaim option rows Any = first_of option rows ≡ None
MakesClaim option rows claim =
    (word : Text) × (first_of option rows ≡ Some word) × SaysClaim claim word

-- where the rows give this option a value, it claims something of a tape
abbrev pub GivesClaim : Text → List Row → Type 0
GivesClaim option rows =
    (word : Text) → first_of option rows ≡ Some word → (claim : TapeClaim) × SaysClaim claim word

-- the rows give this word a value with a `%`, for which numbers stand
abbrev pub GivesPattern : Text → List Row → Type 0
GivesPattern word rows =
    (pattern : Text) × (first_of word rows ≡ Some pattern)
    × (list_any (λ c. c == 37) pattern ≡ true)

-- The values that the command with this name wants, if it wants some, are such: the number of a
-- row, of a new plan, or a time, is spelled, and is below 2^32, that of an agent, with its tape
-- too, below 2^16, and those of a cell, of one agent, also one that is left out, of how many there
-- are, of rows, or of how many faults, which is not 0, where one is given; what is claimed of a
-- tape is said; and the name of all tapes has a `%`.
abbrev pub HasValues : Text → List Row → Type 0
HasValues name rows =
    (name ≡ codes "row" → GivesNumberBelow (2 ^ 32) (codes "row") rows)
    × (name ≡ codes "agent" → GivesNumberBelow (2 ^ 16) (codes "id") rows)
    × (name ≡ codes "map" → GivesCells (codes "block") rows)
    × (name ≡ codes "deps" → GivesCells (codes "cell") rows)
    × (name ≡ codes "path" → GivesNumbers (2 ^ 16) (codes "agent") rows)
    × (name ≡ codes "agent" → GivesClaim (codes "tape") rows)
    × (name ≡ codes "tape" → GivesNumberBelow (2 ^ 16) (codes "id") rows)
    × (name ≡ codes "check" → GivesNumbers (2 ^ 16) (codes "agents") rows)
    × (name ≡ codes "cut" → GivesNumberBelow (2 ^ 32) (codes "time") rows)
    × (name ≡ codes "check" → GivesNumbersFrom 1 (codes "all") rows)
    × (name ≡ codes "rows" → GivesNumbersFrom 0 (codes "from") rows)
    × (name ≡ codes "rows" → GivesNumbersFrom 0 (codes "to") rows)
    × (name ≡ codes "anew" → GivesNumberBelow (2 ^ 32) (codes "number") rows)
    × (name ≡ codes "anew" → GivesNumbers (2 ^ 16) (codes "without") rows)
    × (name ≡ codes "status" → GivesPattern (codes "tapes") rows)
    × (name ≡ codes "lost" → GivesNumberBelow (2 ^ 16) (codes "id") rows)
    × (name ≡ codes "lost" → GivesPattern (codes "tapes") rows)
    × (name ≡ codes "handover" → GivesPattern (codes "tapes") rows)
    × (name ≡ codes "anew" → GivesPattern (codes "tapes") rows)

-- `--all` alone stands for `--all=1000`
abbrev pub spelled_word : Text → Text
spelled_word word = if bytes_eq word (codes "--all") then codes "--all=1000" else word

-- so it does in all words before a `--`, behind which they name files
abbrev pub with_all_spelled : List Text → List Text
with_all_spelled [] = []
with_all_spelled (word ∷ words) =
    if bytes_eq word (codes "--") then word ∷ words else spelled_word word ∷ with_all_spelled words

-- the words as they are taken: of `check` those behind its name, so
abbrev pub spelled_out : List Text → List Text
spelled_out (name ∷ command ∷ words) =
    name ∷ command ∷ (if bytes_eq command (codes "check") then with_all_spelled words else words)
spelled_out words = words

-- the values of the command that the words name are such
abbrev pub GiveValues : List Text → Type 0
GiveValues words =
    (name : Text) (rows : List Row) → subcommand_of program_app words ≡ Some (name, rows)
    → HasValues name rows

-- the rows show this flag as given: clap puts down `true` where it is, and `false` where it is not
abbrev pub IsFlagGiven : Text → List Row → Type 0
IsFlagGiven flag rows = one_of flag rows ≡ Some (codes "true")

-- an explanation is asked for exactly where the rows show its flag as given
abbrev pub AsksToExplain : List Row → Bool → Type 0
AsksToExplain rows explain = explain ≡ true ↔ IsFlagGiven explain_flag rows

-- the command with this name asks this of a map or a scenario
abbrev pub IsTextQuery : Text → List Row → TextQuery → Type 0
IsTextQuery name rows (text_query.Map block) =
    (name ≡ codes "map") × MayGiveCell (codes "block") rows block
IsTextQuery name rows text_query.Scen = name ≡ codes "scen"

-- the command with this name asks this of a plan, by the values that the rows give
abbrev pub IsPlanQuery : Text → List Row → PlanQuery → Type 0
IsPlanQuery name rows (query.Deps cell) =
    (name ≡ codes "deps") × MayGiveCell (codes "cell") rows cell
IsPlanQuery name rows (query.Path agent) =
    (name ≡ codes "path") × MayGiveNumber (codes "agent") rows agent
IsPlanQuery name rows (query.Bound agents json) =
    (name ≡ codes "bound") × (agents ≡ true ↔ IsFlagGiven (codes "agents") rows)
    × (json ≡ true ↔ IsFlagGiven (codes "json") rows)
IsPlanQuery name rows (query.Cut time) = (name ≡ codes "cut") × GivesNumber (codes "time") rows time

-- and this of its agents' tapes
abbrev pub IsFleetQuery : Text → List Row → FleetQuery → Type 0
IsFleetQuery name rows (fleet_query.Status json) =
    (name ≡ codes "status") × (json ≡ true ↔ IsFlagGiven (codes "json") rows)
IsFleetQuery name rows (fleet_query.Lost agent) =
    (name ≡ codes "lost") × GivesNumber (codes "id") rows agent
IsFleetQuery name rows fleet_query.Handover = name ≡ codes "handover"
IsFleetQuery name rows (fleet_query.Anew number without) =
    (name ≡ codes "anew") × GivesNumber (codes "number") rows number
    × MayGiveNumber (codes "without") rows without

-- the line is the command with this name, and its words have the values that the rows give
abbrev pub IsCommand : Text → List Row → Line → Type 0
IsCommand name rows (line.Text file query) =
    (first_of (codes "file") rows ≡ Some (string_bytes file)) × IsTextQuery name rows query
IsCommand name rows (line.Row map_file scen_file row) =
    (name ≡ codes "row") × (first_of (codes "map") rows ≡ Some (string_bytes map_file))
    × (first_of (codes "scen") rows ≡ Some (string_bytes scen_file))
    × GivesNumber (codes "row") rows row
IsCommand name rows (line.Rows l) =
    (name ≡ codes "rows") × (first_of (codes "map") rows ≡ Some (string_bytes l.map))
    × (first_of (codes "scen") rows ≡ Some (string_bytes l.scen))
    × MayGiveNumberFrom 0 (codes "from") rows l.from
    × MayGiveNumberFrom 0 (codes "to") rows l.to
    × (l.straight ≡ true ↔ IsFlagGiven (codes "straight") rows)
    × (l.progress ≡ true ↔ IsFlagGiven (codes "progress") rows)
IsCommand name rows (line.Check l) =
    (name ≡ codes "check") × (first_of (codes "map") rows ≡ Some (string_bytes l.map))
    × (first_of (codes "plan") rows ≡ Some (string_bytes l.plan))
    × (first_of (codes "scen") rows ≡ option_map string_bytes l.scen)
    × MayGiveNumber (codes "agents") rows l.agents × MayGiveNumberFrom 1 (codes "all") rows l.all
    × (l.bound ≡ true ↔ IsFlagGiven (codes "bound") rows)
    × (l.no_rotation ≡ true ↔ IsFlagGiven (codes "no-rotation") rows)
    × (l.json ≡ true ↔ IsFlagGiven (codes "json") rows)
IsCommand name rows (line.Query map_file plan_file query) =
    (first_of (codes "map") rows ≡ Some (string_bytes map_file))
    × (first_of (codes "plan") rows ≡ Some (string_bytes plan_file))
    × IsPlanQuery name rows query
IsCommand name rows (line.Continues map_file old_file new_file) =
    (name ≡ codes "continues") × (first_of (codes "map") rows ≡ Some (string_bytes map_file))
    × (first_of (codes "old") rows ≡ Some (string_bytes old_file))
    × (first_of (codes "new") rows ≡ Some (string_bytes new_file))
IsCommand name rows (line.Optimal l) =
    (name ≡ codes "optimal") × (first_of (codes "map") rows ≡ Some (string_bytes l.map))
    × (first_of (codes "plan") rows ≡ Some (string_bytes l.plan))
    × (first_of (codes "proof") rows ≡ Some (string_bytes l.proof))
    × (l.json ≡ true ↔ IsFlagGiven (codes "json") rows)
IsCommand name rows (line.Run map_file plan_file events_file complete) =
    (name ≡ codes "run") × (first_of (codes "map") rows ≡ Some (string_bytes map_file))
    × (first_of (codes "plan") rows ≡ Some (string_bytes plan_file))
    × (first_of (codes "events") rows ≡ Some (string_bytes events_file))
    × (complete ≡ true ↔ IsFlagGiven (codes "complete") rows)
IsCommand name rows (line.Agent map_file plan_file id tape_file claim) =
    (name ≡ codes "agent") × (first_of (codes "map") rows ≡ Some (string_bytes map_file))
    × (first_of (codes "plan") rows ≡ Some (string_bytes plan_file))
    × GivesNumber (codes "id") rows id
    × (first_of (codes "file") rows ≡ Some (string_bytes tape_file))
    × MakesClaim (codes "tape") rows claim
IsCommand name rows (line.Tape map_file plan_file id tape_file) =
    (name ≡ codes "tape") × (first_of (codes "map") rows ≡ Some (string_bytes map_file))
    × (first_of (codes "plan") rows ≡ Some (string_bytes plan_file))
    × GivesNumber (codes "id") rows id
    × (first_of (codes "file") rows ≡ Some (string_bytes tape_file))
IsCommand name rows (line.Fleet l) =
    (first_of (codes "map") rows ≡ Some (string_bytes l.map))
    × (first_of (codes "plan") rows ≡ Some (string_bytes l.plan))
    × (first_of (codes "tapes") rows ≡ Some (string_bytes l.tapes)) × IsFleetQuery name rows l.query

-- the command with this name is asked for, and an explanation of its fault too, or not
abbrev pub IsAskedBy : Text → List Row → Asked → Type 0
IsAskedBy name rows asked = IsCommand name rows asked.line × AsksToExplain rows asked.explain

-- what is asked for is the command that clap's definition of the program gives for the words
abbrev pub IsLineBy : List Text → Asked → Type 0
IsLineBy words asked =
    (name : Text) × (rows : List Row) × (subcommand_of program_app words ≡ Some (name, rows))
    × IsAskedBy name rows asked

-- Why the words are no command: memory was refused; or clap refuses them, and this is what its kind
-- of refusal comes to; or it takes them, and a number is none, or a claim.
abbrev pub IsFaultBy : List Text → LineFault → Type 0
IsFaultBy words fault =
    (fault ≡ OutOfMemory)
    ⊎ (((refusal : ErrorKind) × IsAmong refusal (fault_of program_app words)
    × ComesTo refusal fault)
    ⊎ ((fault_of program_app words ≡ []) × ((text : String Global) × (fault ≡ BadCommand text))))

-- the same of the words of the command line
abbrev pub IsLineOf : List Text → Asked → Type 0
IsLineOf words asked = IsLineBy (spelled_out words) asked

abbrev pub IsFaultOf : List Text → LineFault → Type 0
IsFaultOf words fault = IsFaultBy (spelled_out words) fault
