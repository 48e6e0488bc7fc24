-- What a command makes of its words: each word that it requires has a value.
use Rattle.std.proofs.Common.{◌≡◌, ℕ, ◌+◌, true, false, Bool, List, [], ◌∷◌, ◌++◌, codes, rules}
use Rattle.std.specs.Prelude.{is_some, IsTrue, map, min, not, ◌||◌, ◌&&◌}
use Rattle.std.specs.List.{list_all, AllByRecursion}
use Rattle.std.specs.Str.{bytes_eq}
use Rattle.clap.specs.Lexer.{usize_max}
use Rattle.clap.specs.Simple.{Shape, built_leaf, filled, filled_from, help_rule, with_index}
use Rattle.clap.specs.Takes.{is_given, is_valid, level_passes, walk_passes}
use Rattle.clap.specs.Walk.{Held, Names, Row, Rule, Text, finished, first_of, has_row, nothing_held, reading_by, rows_after, used, walk, walk_from}
use Rattle.clap.specs.declared.parser.matches.ValueSource.TheVariants.{CommandLine, DefaultValue}
use Rattle.clap.proofs.WalkLemmas.{both}
use Rattle.command_line.specs.Words.{Usage, command_of, named_cell, named_flag, named_option, required_word}
use Rattle.command_line.proofs.Filled.{AllFill, AreFilled, Fills, HasValue, either_fills, first_given, new_values_fill, rows_filled, values_fill}

-- ---- a use of an argument, of a row of the wanted word

abbrev word_rule : ℕ → Text → Rule
word_rule i name = with_index i (filled (required_word name))

abbrev option_rule : ℕ → Text → Rule
option_rule i name = with_index i (filled (named_option name))

abbrev cell_rule : ℕ → Text → Rule
cell_rule i name = with_index i (filled (named_cell name))

abbrev flag_rule : ℕ → Text → Rule
flag_rule i name = with_index i (filled (named_flag name))

module _ (wanted : Text) where
  word_used : (i : ℕ) (name : Text) (values : List Text) (rows : List Row) → HasValue wanted name values → AreFilled wanted rows
      → AreFilled wanted (used (word_rule i name) values rows)
  word_used i name [] rows some all = new_values_fill wanted name _ CommandLine [] rows some all
  word_used i name (v ∷ vs) rows some all = new_values_fill wanted name _ CommandLine (v ∷ vs) rows some all

  word_fills : (i : ℕ) (name : Text) → Fills wanted (word_rule i name)
  word_fills i name = record {
    use_fills = word_used i name;
    default_fills = λ rows all. either_fills wanted (has_row name rows) rows rows all all;
    is_other = λ unplaced. let bad : true ≡ false = unplaced in cc;
  }

  option_used : (i : ℕ) (name : Text) (values : List Text) (rows : List Row) → HasValue wanted name values → AreFilled wanted rows
      → AreFilled wanted (used (option_rule i name) values rows)
  option_used i name [] rows some all = new_values_fill wanted name _ CommandLine [] rows some all
  option_used i name (v ∷ vs) rows some all = new_values_fill wanted name _ CommandLine (v ∷ vs) rows some all

  option_fills : (i : ℕ) (name : Text) → bytes_eq name wanted ≡ false → Fills wanted (option_rule i name)
  option_fills i name other = record {
    use_fills = option_used i name;
    default_fills = λ rows all. either_fills wanted (has_row name rows) rows rows all all;
    is_other = λ unplaced. other;
  }

  cell_used : (i : ℕ) (name : Text) (values : List Text) (rows : List Row) → HasValue wanted name values → AreFilled wanted rows
      → AreFilled wanted (used (cell_rule i name) values rows)
  cell_used i name [] rows some all = new_values_fill wanted name _ CommandLine [] rows some all
  cell_used i name (v ∷ vs) rows some all = new_values_fill wanted name _ CommandLine (v ∷ vs) rows some all

  cell_fills : (i : ℕ) (name : Text) → bytes_eq name wanted ≡ false → Fills wanted (cell_rule i name)
  cell_fills i name other = record {
    use_fills = cell_used i name;
    default_fills = λ rows all. either_fills wanted (has_row name rows) rows rows all all;
    is_other = λ unplaced. other;
  }

  flag_used : (i : ℕ) (name : Text) (values : List Text) (rows : List Row) → HasValue wanted name values → AreFilled wanted rows
      → AreFilled wanted (used (flag_rule i name) values rows)
  flag_used i name [] rows some all = new_values_fill wanted name _ CommandLine (codes "true" ∷ []) rows (λ same. search rules) all
  flag_used i name (v ∷ vs) rows some all = new_values_fill wanted name _ CommandLine (v ∷ vs) rows some all

  flag_fills : (i : ℕ) (name : Text) → bytes_eq name wanted ≡ false → Fills wanted (flag_rule i name)
  flag_fills i name other = record {
    use_fills = flag_used i name;
    default_fills = λ rows all. either_fills wanted (has_row name rows) rows _ all
        (values_fill wanted name (reading_by (flag_rule i name)) DefaultValue (codes "false" ∷ []) rows (λ same. search rules) all);
    is_other = λ unplaced. other;
  }

  help_fills : (i : ℕ) → bytes_eq (codes "help") wanted ≡ false → Fills wanted (with_index i (filled help_rule))
  help_fills i other = record {
    use_fills = λ values rows some all. all;
    default_fills = λ rows all. either_fills wanted (has_row (codes "help") rows) rows rows all all;
    is_other = λ unplaced. other;
  }

  -- ---- the arguments of a command: its words, its options, those that take a cell, its flags, and the flag for help

  -- each of the names is another than the wanted word
  abbrev AreOthers : List Text → Type 0
  AreOthers names = AllByRecursion (λ name. bytes_eq name wanted ≡ false) names

  flags_fill : (i : ℕ) (flags : List Text) → AreOthers flags → bytes_eq (codes "help") wanted ≡ false
      → AllFill wanted (filled_from i (map named_flag flags ++ help_rule ∷ []))
  flags_fill i [] others help = (help_fills i help, tt)
  flags_fill i (flag ∷ flags) others help = (flag_fills i flag others.0, flags_fill i flags others.1 help)

  cells_fill : (i : ℕ) (cells flags : List Text) → AreOthers cells → AreOthers flags → bytes_eq (codes "help") wanted ≡ false
      → AllFill wanted (filled_from i ((map named_cell cells ++ map named_flag flags) ++ help_rule ∷ []))
  cells_fill i [] flags others more help = flags_fill i flags more help
  cells_fill i (name ∷ cells) flags others more help = (cell_fills i name others.0, cells_fill i cells flags others.1 more help)

  options_fill : (i : ℕ) (options cells flags : List Text) → AreOthers options → AreOthers cells → AreOthers flags → bytes_eq (codes "help") wanted ≡ false
      → AllFill wanted (filled_from i ((map named_option options ++ (map named_cell cells ++ map named_flag flags)) ++ help_rule ∷ []))
  options_fill i [] cells flags others more rest help = cells_fill i cells flags more rest help
  options_fill i (name ∷ options) cells flags others more rest help = (option_fills i name others.0, options_fill i options cells flags others.1 more rest help)

  -- no option or flag of the command has the name of the wanted word
  abbrev IsApart : Usage → Type 0
  IsApart u = AreOthers u.options × AreOthers u.cells × AreOthers u.flags × (bytes_eq (codes "help") wanted ≡ false)

  words_fill : (u : Usage) (i : ℕ) (names : List Text) → IsApart u
      → AllFill wanted (filled_from i ((map required_word names ++ (map named_option u.options ++ (map named_cell u.cells ++ map named_flag u.flags))) ++ help_rule ∷ []))
  words_fill u i [] apart = options_fill i u.options u.cells u.flags apart.0 apart.1 apart.2 apart.3
  words_fill u i (name ∷ names) apart = (word_fills i name, words_fill u (min (i + 1) usize_max) names apart)

abbrev command_shape : Usage → Shape
command_shape u = built_leaf (command_of u).top

abbrev pub AreApart : Usage → List Text → Type 0
AreApart u names = AllByRecursion (λ name. IsApart name u) names

all_filled : (u : Usage) (words names : List Text) → AreApart u names → AllByRecursion (λ name. AreFilled name (rows_after (command_shape u).rules [] words)) names
all_filled u words [] apart = tt
all_filled u words (name ∷ names) apart =
    (rows_filled name (command_shape u).rules words (words_fill name u 1 u.required apart.0), all_filled u words names apart.1)

all_given : (i : ℕ) (names : List Text) (others : List Rule) (rows : List Row) → AllByRecursion (λ word. AreFilled word rows) names
    → list_all (λ a. not a.required || is_given a.id rows) (filled_from i ((map required_word names ++ others) ++ help_rule ∷ [])) ≡ true
    → AllByRecursion (λ name. IsTrue (is_some (first_of name rows))) names
all_given i [] others rows all given = tt
all_given i (name ∷ names) others rows all given =
    let parts = both (is_given name rows) _ given in
    (first_given name rows all.0 parts.0, all_given (min (i + 1) usize_max) names others rows all.1 parts.1)

-- ---- a level of the parse

pub level_parts : (s : Shape) (names : Names) (h : Held) (words : List Text) (has : Bool) → level_passes s names h words has ≡ true
    → (walk_passes s names (walk_from h) words ≡ true) × (is_valid s (finished s.rules (walk s.rules names h words).held) has ≡ true)
level_parts s names h words has e =
    ((both (walk_passes s names (walk_from h) words) _ e).0, (both _ _ (both _ _ (both (walk_passes s names (walk_from h) words) _ e).1).1).1)

pub valid_parts : (s : Shape) (rows : List Row) (has : Bool) → is_valid s rows has ≡ true
    → ((not s.subcommand_required || has) ≡ true)
    × (((s.subcommand_negates_reqs && has) || list_all (λ a. not a.required || is_given a.id rows) s.rules) ≡ true)
valid_parts s rows has e =
    let rest = (both _ _ e).1 in
    ((both (not s.subcommand_required || has) _ rest).0, (both _ _ (both (not s.subcommand_required || has) _ rest).1).1)

-- a command that takes its words has a value of each one that it requires
pub command_given : (u : Usage) (words : List Text) → AreApart u u.required → level_passes (command_shape u) [] nothing_held words false ≡ true
    → AllByRecursion (λ name. IsTrue (is_some (first_of name (rows_after (command_shape u).rules [] words)))) u.required
command_given u words apart passes =
    let shape = command_shape u in
    let rows = rows_after shape.rules [] words in
    let valid : is_valid shape rows false ≡ true = (level_parts shape [] nothing_held words false passes).1 in
    all_given 1 u.required (map named_option u.options ++ (map named_cell u.cells ++ map named_flag u.flags)) rows (all_filled u words u.required apart) (valid_parts shape rows false valid).1
