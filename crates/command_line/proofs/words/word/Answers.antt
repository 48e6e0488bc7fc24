use Rattle.std.proofs.Common.{◌≡◌, ◌∙◌, ap, sym, true, false, rules, is_some}
use Rattle.clap.specs.Words.{found_of}
use Rattle.clap.proofs.WalkLemmas.{first_value-rows}
use Rattle.command_line.proofs.words.word.Goals as goal

pub returns-in_ok-from_str-in-Some-clause-ok : goal.returns-in_ok-from_str-in-Some-clause-ok
returns-in_ok-from_str-in-Some-clause-ok c = sym (first_value-rows (found_of c.args.given.now) c.args.name.now) ∙ search rules

pub returns-in-None-clause-err : goal.returns-in-None-clause-err
returns-in-None-clause-err c some =
    let bad : false ≡ true = ap is_some (c.in-None.ensures ∙ first_value-rows (found_of c.args.given.now) c.args.name.now) ∙ some in
    cc
