-- Where clap's definition of the program takes the words, they name a command and give it the words that it requires.
use Rattle.std.proofs.Common.{◌≡◌, ℕ, true, false, List, [], Option, Some, None, refl, rules}
use Rattle.std.specs.Prelude.{is_some, slice_get, unwrap_or, MatchOption}
use Rattle.clap.specs.Simple.{App, argument_words, built, entered, is_simple, names_of, subcommand_of}
use Rattle.clap.specs.Takes.{built_takes, entered_passes, level_passes, takes}
use Rattle.clap.specs.Walk.{Row, Text, finished, nothing_held, walk, walk_from}
use Rattle.clap.proofs.WalkLemmas.{both}
use Rattle.command_line.specs.Words.{Usage, commands, file_command, program_app}
use Rattle.command_line.specs.Code.Parts.{HasWords}
use Rattle.command_line.proofs.RequiredWords.{command_given, level_parts, valid_parts}
use Rattle.command_line.proofs.Stops.{AreNamed, StopsAt, walk_stays}

-- there is a command, and the words that it requires are among the rows
abbrev pub IsGiven : Option (Text × List Row) → Type 0
IsGiven given = MatchOption given ⊥ (λ (p : Text × List Row). HasWords p.0 p.1)

abbrev program : App
program = built program_app

-- the command with this name has the words that it requires, where it takes its words
abbrev Gives : Text → Type 0
Gives name = (words : List Text) → entered_passes program (Some (name, words)) ≡ true → IsGiven (entered program (Some (name, words)))

-- the command in this place of the list
abbrev usage : ℕ → Usage
usage place = unwrap_or (slice_get commands place) (file_command [])

commands_give : AreNamed Gives (names_of program)
commands_give = (
  λ other words. command_given (usage 0) words (search rules),
  (
    λ other words. command_given (usage 1) words (search rules),
    (
      λ other words. command_given (usage 2) words (search rules),
      (
        λ other words. command_given (usage 3) words (search rules),
        (
          λ other words. command_given (usage 4) words (search rules),
          (
            λ other words. command_given (usage 5) words (search rules),
            (
              λ other words. command_given (usage 6) words (search rules),
              (
                λ other words. command_given (usage 7) words (search rules),
                (
                  λ other words. command_given (usage 8) words (search rules),
                  (
                    λ other words. command_given (usage 9) words (search rules),
                    (
                      λ other words. command_given (usage 10) words (search rules),
                      (
                        λ other words. command_given (usage 11) words (search rules),
                        (
                          λ other words. command_given (usage 12) words (search rules),
                          (
                            λ other words. command_given (usage 13) words (search rules),
                            (
                              λ other words. command_given (usage 14) words (search rules),
                              (
                                λ other words. command_given (usage 15) words (search rules),
                                (
                                  λ other words. command_given (usage 16) words (search rules),
                                  (
                                    λ other words. command_given (usage 17) words (search rules),
                                    (λ other. let bad : true ≡ false = other in cc, tt),
                                  ),
                                ),
                              ),
                            ),
                          ),
                        ),
                      ),
                    ),
                  ),
                ),
              ),
            ),
          ),
        ),
      ),
    ),
  ),
)

stop_gives : (stop : Option (Text × List Text)) → StopsAt Gives stop → entered_passes program stop ≡ true → is_some (entered program stop) ≡ true
    → IsGiven (entered program stop)
stop_gives None gives passes some = let bad : false ≡ true = some in cc
stop_gives (Some p) gives passes some = gives p.1 passes

pub taken_gives : (words : List Text) → takes program_app words ≡ true → IsGiven (subcommand_of program_app words)
taken_gives words e =
    let rest = argument_words program_app words in
    let end = walk program.top.rules (names_of program) nothing_held rest in
    let has = is_some (entered program end.stopped) in
    let passes = both (entered_passes program end.stopped) (level_passes program.top (names_of program) nothing_held rest has)
    (both (is_simple program_app) (built_takes program nothing_held rest) e).1 in
    let parts = level_parts program.top (names_of program) nothing_held rest has passes.1 in
    let some = (valid_parts program.top (finished program.top.rules end.held) has parts.1).0 in
    let gives = walk_stays Gives program.top (names_of program) rest (walk_from nothing_held) refl commands_give tt parts.0 in
    stop_gives end.stopped gives passes.0 some
