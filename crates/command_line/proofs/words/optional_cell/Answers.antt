-- The values are those of the rows.
use Rattle.std.proofs.Common.{◌∙◌, map, inl, inr, sym}
use Rattle.clap.specs.Words.{found_of}
use Rattle.clap.proofs.WalkLemmas.{raw_values-rows}
use Rattle.command_line.proofs.words.optional_cell.Goals as goal

pub returns-in_default-clause-ok : goal.returns-in_default-clause-ok
returns-in_default-clause-ok c = sym (c.in_default.ensures ∙ raw_values-rows (found_of c.args.given.now) c.args.name.now)

pub returns-in-Some-cell_of-clause-ok : goal.returns-in-Some-cell_of-clause-ok
returns-in-Some-cell_of-clause-ok c =
    let given = c.in-Some.ensures ∙ raw_values-rows (found_of c.args.given.now) c.args.name.now in
    (map (λ v. v.now) c.in-Some.values.now, sym given, c.in-Some-cell_of.ensures)

pub returns-in-None-clause-none : goal.returns-in-None-clause-none
returns-in-None-clause-none c = λ gives.
    let given = c.in-Some.ensures ∙ raw_values-rows (found_of c.args.given.now) c.args.name.now in
    let cell = gives (map (λ v. v.now) c.in-Some.values.now) (sym given) in
    c.in-None.ensures cell.0 cell.1 cell.2 cell.3

pub returns-in-None-clause-err : goal.returns-in-None-clause-err
returns-in-None-clause-err c = elim c.bad_command.ensures [
  | inl memory ↦ inl memory
  | inr bad ↦ inr (bad.0, bad.1)
]
