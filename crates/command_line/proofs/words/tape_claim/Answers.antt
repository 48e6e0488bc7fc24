-- The word is that of the rows.
use Rattle.std.proofs.Common.{◌≡◌, codes, ◌∙◌, List, Some, inl, inr, sym}
use Rattle.clap.specs.Words.{Row, Text, first_of, found_of, rows_of}
use Rattle.clap.proofs.WalkLemmas.{first_value-rows}
use Rattle.tape_claim.specs.declared.TapeClaim.{TapeClaim}
use Rattle.tape_claim.specs.declared.TapeClaim.TheVariants.{Any, New, Kept}
use Rattle.command_line.specs.Words.{MakesClaim, SaysClaim}
use Rattle.command_line.proofs.words.tape_claim.Goals as goal

-- a word of the rows that says a claim makes it
makes_claim : (option : Text) (rows : List Row) (word : Text) (claim : TapeClaim) → first_of option rows ≡ Some word → SaysClaim claim word
    → MakesClaim option rows claim
makes_claim option rows word Any given says = absurd says
makes_claim option rows word New given says = (word, given, says)
makes_claim option rows word Kept given says = (word, given, says)

pub returns-in_default-clause-ok : goal.returns-in_default-clause-ok
returns-in_default-clause-ok c = sym (c.in_default.ensures ∙ first_value-rows (found_of c.args.given.now) (codes "tape"))

pub returns-in-Some-claim_of-clause-ok : goal.returns-in-Some-claim_of-clause-ok
returns-in-Some-claim_of-clause-ok c =
    let given = c.in-Some.ensures ∙ first_value-rows (found_of c.args.given.now) (codes "tape") in
    makes_claim (codes "tape") (rows_of (found_of c.args.given.now)) c.in-Some.word.now c.in-Some-claim_of.claim (sym given) c.in-Some-claim_of.ensures

pub returns-in-None-clause-none : goal.returns-in-None-clause-none
returns-in-None-clause-none c = λ gives.
    let given = c.in-Some.ensures ∙ first_value-rows (found_of c.args.given.now) (codes "tape") in
    let claim = gives c.in-Some.word.now (sym given) in
    c.in-None.ensures claim.0 claim.1

pub returns-in-None-clause-err : goal.returns-in-None-clause-err
returns-in-None-clause-err c = elim c.bad_command.ensures [
  | inl memory ↦ inl memory
  | inr bad ↦ inr (bad.0, bad.1)
]
