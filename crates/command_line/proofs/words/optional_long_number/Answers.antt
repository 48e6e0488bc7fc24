-- The digits are those of the rows.
use Rattle.std.proofs.Common.{◌∙◌, inl, inr, sym}
use Rattle.clap.specs.Words.{found_of}
use Rattle.clap.proofs.WalkLemmas.{first_value-rows}
use Rattle.command_line.proofs.words.optional_long_number.Goals as goal

pub returns-in_default-clause-ok : goal.returns-in_default-clause-ok
returns-in_default-clause-ok c = sym (c.in_default.ensures ∙ first_value-rows (found_of c.args.given.now) c.args.name.now)

pub returns-in-Some-spelled_from-clause-ok : goal.returns-in-Some-spelled_from-clause-ok
returns-in-Some-spelled_from-clause-ok c =
    let given = c.in-Some.ensures ∙ first_value-rows (found_of c.args.given.now) c.args.name.now in
    (c.in-Some-spelled_from.ensures.0, (c.in-Some.digits.now, sym given, c.in-Some-spelled_from.ensures.1))

pub returns-in-None-clause-none : goal.returns-in-None-clause-none
returns-in-None-clause-none c = λ gives.
    let given = c.in-Some.ensures ∙ first_value-rows (found_of c.args.given.now) c.args.name.now in
    let number = gives c.in-Some.digits.now (sym given) in
    c.in-None.ensures number.0 number.1 number.2 number.3

pub returns-in-None-clause-err : goal.returns-in-None-clause-err
returns-in-None-clause-err c = elim c.bad_command.ensures [
  | inl memory ↦ inl memory
  | inr bad ↦ inr (bad.0, bad.1)
]
