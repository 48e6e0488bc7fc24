-- Word after word.
use Rattle.std.proofs.Common.{◌≡◌, ◌∙◌, ℕ, List, Bor, refl, ap}
use Rattle.std.specs.Prelude.{codes, decimal}
use Rattle.std.proofs.lemmas.Result.{err_from_is_err_and}
use Rattle.scenario.specs.Query.{listed_text}
use Rattle.text_io.specs.Laws.Putting.{Leaves-broken, Puts-last, Breaks-last}
use Rattle.text_commands.proofs.RowVerdictPuts.{spaced, from_answer, from_listed, from_mark}
use Rattle.text_commands.proofs.RowVerdictPuts.{from_diagonal, from_straight, first-left}
use Rattle.text_commands.proofs.RowVerdictPuts.{straight-left, diagonal-left, mark-left}
use Rattle.text_commands.proofs.RowVerdictPuts.{listed-left, answer-left}
use Rattle.text_commands.proofs.row_verdict.put_shortest.Goals as goal
use Rattle.text_commands.proofs.row_verdict.put_shortest.Goals.{then-agrees, else-agrees}

pub returns-in_err-put_word-clause-err : goal.returns-in_err-put_word-clause-err
returns-in_err-put_word-clause-err g c =
    let p = err_from_is_err_and c.from_residual.result c.from_residual.ensures.1 in
    let all = first-left g.W.Write.contents c.args.length c.args.listed c.args.agrees _ in
    rw p.1 (Leaves-broken g.W.Write.contents _ _ _ _ (spaced (codes "shortest")) (from_straight c.args.length c.args.listed c.args.agrees) _ all refl c.in_err-put_word.ensures.err)

pub returns-in_err-put_word-2-clause-err : goal.returns-in_err-put_word-2-clause-err
returns-in_err-put_word-2-clause-err g c =
    let p = err_from_is_err_and c.from_residual-in_err-put_word-2.result c.from_residual-in_err-put_word-2.ensures.1 in
    let straight = straight-left g.W.Write.contents c.args.length c.args.listed c.args.agrees _ _ c.in_ok-put_word.ensures.ok in
    rw p.1 (Leaves-broken g.W.Write.contents _ _ _ _ (spaced (decimal c.args.length.straight)) (from_diagonal c.args.length c.args.listed c.args.agrees) _ straight
    (ap spaced (c.as_bytes.ensures.value ∙ c.format.ensures.text)) c.in_err-put_word-2.ensures.err)

pub returns-in_err-put_word-3-clause-err : goal.returns-in_err-put_word-3-clause-err
returns-in_err-put_word-3-clause-err g c =
    let p = err_from_is_err_and c.from_residual-in_err-put_word-3.result c.from_residual-in_err-put_word-3.ensures.1 in
    let straight = straight-left g.W.Write.contents c.args.length c.args.listed c.args.agrees _ _ c.in_ok-put_word.ensures.ok in
    let diagonal = diagonal-left g.W.Write.contents c.args.length c.args.listed c.args.agrees _ _ _ c.as_bytes.result.now straight (c.as_bytes.ensures.value ∙ c.format.ensures.text)
    c.in_ok-put_word-2.ensures.ok in
    rw p.1 (Leaves-broken g.W.Write.contents _ _ _ _ (spaced (decimal c.args.length.diagonal)) (from_mark c.args.listed c.args.agrees) _ diagonal
    (ap spaced (c.as_bytes-2.ensures.value ∙ c.format-2.ensures.text)) c.in_err-put_word-3.ensures.err)

pub returns-in_err-put_word-4-clause-err : goal.returns-in_err-put_word-4-clause-err
returns-in_err-put_word-4-clause-err g c =
    let p = err_from_is_err_and c.from_residual-in_err-put_word-4.result c.from_residual-in_err-put_word-4.ensures.1 in
    let straight = straight-left g.W.Write.contents c.args.length c.args.listed c.args.agrees _ _ c.in_ok-put_word.ensures.ok in
    let diagonal = diagonal-left g.W.Write.contents c.args.length c.args.listed c.args.agrees _ _ _ c.as_bytes.result.now straight (c.as_bytes.ensures.value ∙ c.format.ensures.text)
    c.in_ok-put_word-2.ensures.ok in
    let mark = mark-left g.W.Write.contents c.args.length c.args.listed c.args.agrees _ _ _ c.as_bytes-2.result.now diagonal (c.as_bytes-2.ensures.value ∙ c.format-2.ensures.text)
    c.in_ok-put_word-3.ensures.ok in
    rw p.1 (Leaves-broken g.W.Write.contents _ _ _ _ (spaced (codes "listed")) (from_listed c.args.listed c.args.agrees) _ mark refl c.in_err-put_word-4.ensures.err)

pub returns-in_err-put_listed-clause-err : goal.returns-in_err-put_listed-clause-err
returns-in_err-put_listed-clause-err g c =
    let p = err_from_is_err_and c.from_residual-in_err-put_listed.result c.from_residual-in_err-put_listed.ensures.1 in
    let straight = straight-left g.W.Write.contents c.args.length c.args.listed c.args.agrees _ _ c.in_ok-put_word.ensures.ok in
    let diagonal = diagonal-left g.W.Write.contents c.args.length c.args.listed c.args.agrees _ _ _ c.as_bytes.result.now straight (c.as_bytes.ensures.value ∙ c.format.ensures.text)
    c.in_ok-put_word-2.ensures.ok in
    let mark = mark-left g.W.Write.contents c.args.length c.args.listed c.args.agrees _ _ _ c.as_bytes-2.result.now diagonal (c.as_bytes-2.ensures.value ∙ c.format-2.ensures.text)
    c.in_ok-put_word-3.ensures.ok in
    let listed = listed-left g.W.Write.contents c.args.length c.args.listed c.args.agrees _ _ _ mark c.in_ok-put_word-4.ensures.ok in
    rw p.1 (Leaves-broken g.W.Write.contents _ _ _ _ (listed_text c.args.listed.n c.args.listed.d) (from_answer c.args.agrees) _ listed refl c.in_err-put_listed.ensures.err)

pub returns-clause-ok : goal.returns-clause-ok
returns-clause-ok g c =
    let straight = straight-left g.W.Write.contents c.args.length c.args.listed c.args.agrees _ _ c.in_ok-put_word.ensures.ok in
    let diagonal = diagonal-left g.W.Write.contents c.args.length c.args.listed c.args.agrees _ _ _ c.as_bytes.result.now straight (c.as_bytes.ensures.value ∙ c.format.ensures.text)
    c.in_ok-put_word-2.ensures.ok in
    let mark = mark-left g.W.Write.contents c.args.length c.args.listed c.args.agrees _ _ _ c.as_bytes-2.result.now diagonal (c.as_bytes-2.ensures.value ∙ c.format-2.ensures.text)
    c.in_ok-put_word-3.ensures.ok in
    let listed = listed-left g.W.Write.contents c.args.length c.args.listed c.args.agrees _ _ _ mark c.in_ok-put_word-4.ensures.ok in
    let answer = answer-left g.W.Write.contents c.args.length c.args.listed c.args.agrees _ _ _ listed c.in_ok-put_listed.ensures.ok in
    let is : c.if-agrees.put.now ≡ from_answer c.args.agrees =
    elim c.if-agrees.branch [
      | then-agrees w ↦ rw w.if-agrees.true (ap (λ (s : Bor (List ℕ)). s.now) w.put-is)
      | else-agrees w ↦ rw w.if-agrees.false (ap (λ (s : Bor (List ℕ)). s.now) w.put-is)
    ] in
    Puts-last g.W.Write.contents _ _ _ _ (from_answer c.args.agrees) _ c.put.result answer is c.put.ensures.ok

pub returns-clause-err : goal.returns-clause-err
returns-clause-err g c =
    let straight = straight-left g.W.Write.contents c.args.length c.args.listed c.args.agrees _ _ c.in_ok-put_word.ensures.ok in
    let diagonal = diagonal-left g.W.Write.contents c.args.length c.args.listed c.args.agrees _ _ _ c.as_bytes.result.now straight (c.as_bytes.ensures.value ∙ c.format.ensures.text)
    c.in_ok-put_word-2.ensures.ok in
    let mark = mark-left g.W.Write.contents c.args.length c.args.listed c.args.agrees _ _ _ c.as_bytes-2.result.now diagonal (c.as_bytes-2.ensures.value ∙ c.format-2.ensures.text)
    c.in_ok-put_word-3.ensures.ok in
    let listed = listed-left g.W.Write.contents c.args.length c.args.listed c.args.agrees _ _ _ mark c.in_ok-put_word-4.ensures.ok in
    let answer = answer-left g.W.Write.contents c.args.length c.args.listed c.args.agrees _ _ _ listed c.in_ok-put_listed.ensures.ok in
    let is : c.if-agrees.put.now ≡ from_answer c.args.agrees =
    elim c.if-agrees.branch [
      | then-agrees w ↦ rw w.if-agrees.true (ap (λ (s : Bor (List ℕ)). s.now) w.put-is)
      | else-agrees w ↦ rw w.if-agrees.false (ap (λ (s : Bor (List ℕ)). s.now) w.put-is)
    ] in
    Breaks-last g.W.Write.contents _ _ _ _ (from_answer c.args.agrees) _ c.put.result answer is c.put.ensures.err
