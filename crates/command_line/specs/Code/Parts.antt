-- What the parts of the reading of the command line owe each other.
use Rattle.std.specs.Prelude.{◌≡◌, ◌⊎◌, IsTrue, List, [], ◌∷◌, MatchOption, String, find, is_some}
use Rattle.std.specs.Prelude.{map, ⊤}
use Rattle.std.specs.Global.{Global}
use Rattle.std.specs.List.{AllByRecursion}
use Rattle.std.specs.Str.{bytes_eq}
use Rattle.clap.specs.Words.{Row, Rule, Shape, Text, first_of, new_app}
use Rattle.command_line.specs.declared.command_line.LineFault.{LineFault}
use Rattle.command_line.specs.declared.command_line.LineFault.TheVariants.{BadCommand, OutOfMemory}
use Rattle.command_line.specs.declared.help.CommandText.{CommandText}
use Rattle.command_line.specs.declared.help.Word.{Word}
use Rattle.command_line.specs.declared.help.Word.TheVariants.{Cell, Flag, Named, Required}
use Rattle.command_line.specs.Words.{Usage, command_of, commands, named_cell}
use Rattle.command_line.specs.Words.{named_flag, named_option, required_word}

-- a fault that is no want of help
abbrev pub IsRefusal : LineFault → Type 0
IsRefusal fault = (fault ≡ OutOfMemory) ⊎ ((text : String Global) × (fault ≡ BadCommand text))

-- the rows have a value of each word that the command with this name requires
abbrev pub HasWords : Text → List Row → Type 0
HasWords name rows =
    MatchOption (find (λ u. bytes_eq u.name name) commands) ⊥
    (λ u. AllByRecursion (λ word. IsTrue (is_some (first_of word rows))) u.required)

-- the name is that of none of these commands
abbrev pub IsOther : Text → List Usage → Type 0
IsOther name [] = ⊤
IsOther name (u ∷ usages) = (name ≡ u.name → ⊥) × IsOther name usages

-- a word of a command as clap takes it
abbrev pub rule_of_word : Word → Rule
rule_of_word (Required name help) = required_word name.now
rule_of_word (Named name help) = named_option name.now
rule_of_word (Cell name help) = named_cell name.now
rule_of_word (Flag name help) = named_flag name.now

-- a command as clap takes it
abbrev pub shape_of_text : CommandText → Shape
shape_of_text text = record (new_app text.name.now).top { rules = map rule_of_word text.words.now }

-- these commands as clap takes them
abbrev pub shapes_of : List Usage → List Shape
shapes_of usages = map (λ u. (command_of u).top) usages
