-- A word, and then those of the fault.
use Rattle.std.proofs.Common.{[], ◌∷◌, ◌++◌, take, refl, sym, ap, ◌∙◌, codes}
use Rattle.std.proofs.lemmas.Result.{err_from_is_err_and}
use Rattle.text_io.specs.FaultName.{fault_name}
use Rattle.text_io.specs.FaultWords.{words_text}
use Rattle.text_io.specs.Text.{line_feed, spaced_numbers}
use Rattle.text_io.specs.Laws.Putting.{Puts-then, Breaks-then, Breaks-text}
use Rattle.text_io.specs.Laws.Words.{joined}
use Rattle.agent.specs.FaultWords.{hear_fault_words}
use Rattle.carrier_text.proofs.answer_lines.put_dropped.Goals as goal

pub returns-in_err-put-clause-err : goal.returns-in_err-put-clause-err
returns-in_err-put-clause-err g c =
    let p = err_from_is_err_and c.from_residual.result c.from_residual.ensures.1 in
    rw p.1 (Breaks-text g.W.Write.contents _ _ (codes "dropped ") (words_text (hear_fault_words c.args.fault) ++ line_feed ∷ []) _ refl c.in_err-put.ensures.err)

pub returns-clause-ok : goal.returns-clause-ok
returns-clause-ok g c =
    let name = c.as_bytes.ensures.value ∙ c.name.ensures in
    let words = c.words-words.result in
    let told = ap (λ n. n ++ spaced_numbers c.numbers.result.now) name
    ∙ (ap (λ ns. fault_name words.name ++ spaced_numbers ns) c.numbers.ensures
    ∙ (sym (joined (fault_name words.name) (take words.count words.numbers)) ∙ ap words_text c.words-words.ensures)) in
    Puts-then g.W.Write.contents _ _ _ (codes "dropped ") _ _ c.put_numbers.result (ap (λ t. codes "dropped " ++ (t ++ line_feed ∷ [])) told)
    c.in_ok-put.ensures.ok c.put_numbers.ensures.ok

pub returns-clause-err : goal.returns-clause-err
returns-clause-err g c =
    let name = c.as_bytes.ensures.value ∙ c.name.ensures in
    let words = c.words-words.result in
    let told = ap (λ n. n ++ spaced_numbers c.numbers.result.now) name
    ∙ (ap (λ ns. fault_name words.name ++ spaced_numbers ns) c.numbers.ensures
    ∙ (sym (joined (fault_name words.name) (take words.count words.numbers)) ∙ ap words_text c.words-words.ensures)) in
    Breaks-then g.W.Write.contents _ _ _ (codes "dropped ") _ _ c.put_numbers.result (ap (λ t. codes "dropped " ++ (t ++ line_feed ∷ [])) told)
    c.in_ok-put.ensures.ok c.put_numbers.ensures.err
