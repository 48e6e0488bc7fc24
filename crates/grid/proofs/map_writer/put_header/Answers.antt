-- The four lines, one after another.
use Rattle.std.proofs.Common.{◌≡◌, [], ◌∷◌, ◌++◌, refl, sym, ap, ◌∙◌, append_assoc, append-nil}
use Rattle.std.specs.Prelude.{codes, decimal}
use Rattle.std.proofs.lemmas.Result.{err_from_is_err_and}
use Rattle.text_io.specs.Text.{line_feed, ended}
use Rattle.grid.specs.MapText.{header_lines}
use Rattle.text_io.specs.Laws.Putting.{Puts-trans, Puts-then, Breaks-then, Breaks-text, Breaks-text-after}
use Rattle.grid.proofs.map_writer.put_header.Goals as goal

pub returns-in_err-put_line-clause-err : goal.returns-in_err-put_line-clause-err
returns-in_err-put_line-clause-err g c =
    let p = err_from_is_err_and c.from_residual.result c.from_residual.ensures.1 in
    let first = codes "type octile" ++ line_feed ∷ [] in
    let second = (codes "height " ++ decimal c.args.height) ++ line_feed ∷ [] in
    let third = (codes "width " ++ decimal c.args.width) ++ line_feed ∷ [] in
    let fourth = codes "map" ++ line_feed ∷ [] in
    rw p.1 (Breaks-text g.W.Write.contents _ _ first (second ++ (third ++ (fourth ++ []))) _ refl c.in_err-put_line.ensures.err)

pub returns-in_err-put_size-clause-err : goal.returns-in_err-put_size-clause-err
returns-in_err-put_size-clause-err g c =
    let p = err_from_is_err_and c.from_residual-in_err-put_size.result c.from_residual-in_err-put_size.ensures.1 in
    let first = codes "type octile" ++ line_feed ∷ [] in
    let second = (codes "height " ++ decimal c.args.height) ++ line_feed ∷ [] in
    let third = (codes "width " ++ decimal c.args.width) ++ line_feed ∷ [] in
    let fourth = codes "map" ++ line_feed ∷ [] in
    rw p.1 (Breaks-text-after g.W.Write.contents _ _ _ first second (third ++ (fourth ++ [])) _ (append_assoc first second (third ++ (fourth ++ [])))
    c.in_ok-put_line.ensures.ok c.in_err-put_size.ensures.err)

pub returns-in_err-put_size-2-clause-err : goal.returns-in_err-put_size-2-clause-err
returns-in_err-put_size-2-clause-err g c =
    let p = err_from_is_err_and c.from_residual-in_err-put_size-2.result c.from_residual-in_err-put_size-2.ensures.1 in
    let first = codes "type octile" ++ line_feed ∷ [] in
    let second = (codes "height " ++ decimal c.args.height) ++ line_feed ∷ [] in
    let third = (codes "width " ++ decimal c.args.width) ++ line_feed ∷ [] in
    let fourth = codes "map" ++ line_feed ∷ [] in
    let two = Puts-trans g.W.Write.contents _ _ _ first second c.in_ok-put_line.ensures.ok c.in_ok-put_size.ensures.ok in
    rw p.1 (Breaks-text-after g.W.Write.contents _ _ _ (first ++ second) third (fourth ++ []) _
    (append_assoc (first ++ second) third (fourth ++ []) ∙ append_assoc first second (third ++ (fourth ++ []))) two c.in_err-put_size-2.ensures.err)

pub returns-clause-ok : goal.returns-clause-ok
returns-clause-ok g c =
    let first = codes "type octile" ++ line_feed ∷ [] in
    let second = (codes "height " ++ decimal c.args.height) ++ line_feed ∷ [] in
    let third = (codes "width " ++ decimal c.args.width) ++ line_feed ∷ [] in
    let fourth = codes "map" ++ line_feed ∷ [] in
    let two = Puts-trans g.W.Write.contents _ _ _ first second c.in_ok-put_line.ensures.ok c.in_ok-put_size.ensures.ok in
    let three = Puts-trans g.W.Write.contents _ _ _ (first ++ second) third two c.in_ok-put_size-2.ensures.ok in
    let whole : ((first ++ second) ++ third) ++ fourth ≡ ended (header_lines c.args.width c.args.height)
    = append_assoc (first ++ second) third fourth ∙ append_assoc first second (third ++ fourth)
    ∙ ap (λ l. first ++ (second ++ (third ++ l))) (sym (append-nil fourth)) in
    Puts-then g.W.Write.contents _ _ _ ((first ++ second) ++ third) fourth _ c.put_line-2.result whole three c.put_line-2.ensures.ok

pub returns-clause-err : goal.returns-clause-err
returns-clause-err g c =
    let first = codes "type octile" ++ line_feed ∷ [] in
    let second = (codes "height " ++ decimal c.args.height) ++ line_feed ∷ [] in
    let third = (codes "width " ++ decimal c.args.width) ++ line_feed ∷ [] in
    let fourth = codes "map" ++ line_feed ∷ [] in
    let two = Puts-trans g.W.Write.contents _ _ _ first second c.in_ok-put_line.ensures.ok c.in_ok-put_size.ensures.ok in
    let three = Puts-trans g.W.Write.contents _ _ _ (first ++ second) third two c.in_ok-put_size-2.ensures.ok in
    let whole : ((first ++ second) ++ third) ++ fourth ≡ ended (header_lines c.args.width c.args.height)
    = append_assoc (first ++ second) third fourth ∙ append_assoc first second (third ++ fourth)
    ∙ ap (λ l. first ++ (second ++ (third ++ l))) (sym (append-nil fourth)) in
    Breaks-then g.W.Write.contents _ _ _ ((first ++ second) ++ third) fourth _ c.put_line-2.result whole three c.put_line-2.ensures.err
