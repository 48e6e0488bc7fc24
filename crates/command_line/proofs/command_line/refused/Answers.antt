use Rattle.std.proofs.Common.{◌≡◌, ◌∙◌, inl, inr, refl, subst, sym}
use Rattle.std.specs.Prelude.{String}
use Rattle.std.specs.Global.{Global}
use Rattle.clap.specs.declared.error.kind.ErrorKind.{ErrorKind}
use Rattle.clap.specs.declared.error.kind.ErrorKind.TheVariants as kind
use Rattle.command_line.specs.Words.{ComesTo}
use Rattle.command_line.specs.declared.command_line.LineFault.TheVariants.{BadCommand, Help}
use Rattle.command_line.proofs.command_line.refused.Goals as goal

-- each other kind is a bad command line
others_are_bad : (k : ErrorKind) (text : String Global) → (k ≡ kind.OutOfMemory → ⊥) → (k ≡ kind.DisplayVersion → ⊥) → (k ≡ kind.DisplayHelp → ⊥)
    → ComesTo k (BadCommand text)
others_are_bad kind.DisplayHelp text m v h = absurd (h refl)
others_are_bad kind.DisplayVersion text m v h = absurd (v refl)
others_are_bad kind.OutOfMemory text m v h = absurd (m refl)
others_are_bad _ text m v h = (text, refl)

pub returns-in-DisplayHelp : goal.returns-in-DisplayHelp
returns-in-DisplayHelp c = elim c.in-DisplayHelp.is [
  | inl help ↦ inr (subst (λ k. ComesTo k (Help c.in-Ok.text)) (sym help ∙ c.kind.ensures) (c.in-Ok.text, refl))
  | inr version ↦ inr (subst (λ k. ComesTo k (Help c.in-Ok.text)) (sym version ∙ c.kind.ensures) (c.in-Ok.text, refl))
]

pub returns-in_default-kind : goal.returns-in_default-kind
returns-in_default-kind c =
    let bad = others_are_bad c.kind.result c.in-Ok.text c.in_default-kind.not-OutOfMemory c.in_default-kind.not-DisplayVersion c.in_default-kind.not-DisplayHelp in
    inr (subst (λ k. ComesTo k (BadCommand c.in-Ok.text)) c.kind.ensures bad)
