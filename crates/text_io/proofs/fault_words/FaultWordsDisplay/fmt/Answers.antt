-- The name, and then all numbers.
use Rattle.std.proofs.Common.{ℕ, List, ◌++◌, take, sym, ap, ◌∙◌}
use Rattle.std.proofs.Output.{has_written_append, has_written_of_eq}
use Rattle.std.proofs.lemmas.List.{take_all}
use Rattle.text_io.specs.Text.{spaced_numbers}
use Rattle.text_io.specs.FaultName.{fault_name}
use Rattle.text_io.specs.Laws.Words.{joined}
use Rattle.text_io.proofs.fault_words.FaultWordsDisplay.fmt.Goals as goal

pub returns-clause-writes : goal.returns-clause-writes
returns-clause-writes g c =
    λ plain done.
    let numbers = take c.args.self.now.count c.args.self.now.numbers in
    let all = take_all c.loop-number.number-index _ c.loop-number-test.false ∙ c.numbers-number-items.ensures in
    let first = c.in_ok-write_str.ensures.writes plain done in
    let later = has_written_of_eq _ _ _ _ _ (ap spaced_numbers all) (c.loop-number.invariant first.plain) in
    let said = ap (λ (word : List ℕ). word ++ spaced_numbers numbers) c.name.ensures ∙ sym (joined (fault_name c.args.self.now.name) numbers) in
    has_written_of_eq _ _ _ _ _ said (has_written_append _ _ _ _ _ _ first later)
