-- What a proof shows of a plan.
use Rattle.std.specs.Prelude.{Bool, ℕ, List}
use Rattle.text_io.specs.FaultWords.{words_text}
use Rattle.proof_text.specs.FaultWords.{proof_fault_words}
use Rattle.proof_commands.specs.ShownText.{claim_line, refused_line}
use Rattle.proof_commands.specs.declared.shown.Shown.{Shown}
use Rattle.proof_commands.specs.declared.shown.Shown.TheVariants.{Bounded, Refused}

-- its line
abbrev pub shown_line : Bool → Shown → List ℕ
shown_line json (Bounded objective value bound nodes) = claim_line json objective value bound nodes
shown_line json (Refused fault) = refused_line json (words_text (proof_fault_words fault))
