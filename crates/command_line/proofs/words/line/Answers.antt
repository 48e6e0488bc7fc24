-- The words that are read are those as they are taken.
use Rattle.std.proofs.Common.{◌≡◌, ◌∙◌, true, List, ap, map, string_bytes, subst}
use Rattle.std.specs.Prelude.{IfErr}
use Rattle.clap.specs.Words.{Text, takes}
use Rattle.command_line.specs.Words.{GiveValues, program_app, spelled_out}
use Rattle.command_line.specs.declared.command_line.LineFault.TheVariants.{OutOfMemory}
use Rattle.command_line.proofs.words.line.Goals as goal

pub returns-clause-refused : goal.returns-clause-refused
returns-clause-refused c =
    let same : map string_bytes c.as_slice.result.now ≡ spelled_out (map string_bytes c.args.words.now) = ap (map string_bytes) c.as_slice.ensures.value ∙ c.in_ok-words.ensures in
    subst (λ (words : List Text). IfErr c.read_line.result (λ e. takes program_app words ≡ true → GiveValues words → e ≡ OutOfMemory)) same c.read_line.ensures.refused
