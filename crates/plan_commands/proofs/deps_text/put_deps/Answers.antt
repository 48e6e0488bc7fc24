-- The counts, the needs, the rotations, and then what is held back.
use Rattle.std.proofs.Common.{[], ◌++◌, length, refl, sym}
use Rattle.std.specs.Prelude.{sum_by}
use Rattle.std.proofs.lemmas.List.{length-map}
use Rattle.std.proofs.lemmas.Result.{err_from_is_err_and}
use Rattle.depgraph.specs.Rotations.{turns_of}
use Rattle.model.specs.Timetable.{moves}
use Rattle.text_io.specs.Laws.Putting.{Leaves-all, Leaves-less, Leaves-broken, Puts-last, Breaks-last}
use Rattle.plan_commands.specs.DepsText.{all_need_lines}
use Rattle.plan_commands.proofs.DepsPuts.{counts-same, deps-parts, first_part, needs_part, rotations_part}
use Rattle.plan_commands.proofs.deps_text.put_deps.Goals as goal

pub returns-in_err-put_counts-clause-err : goal.returns-in_err-put_counts-clause-err
returns-in_err-put_counts-clause-err g c =
    let p = err_from_is_err_and c.from_residual.result c.from_residual.ensures.1 in
    let tt = c.args.graph.now in
    let turns = turns_of c.args.rotations.now in
    let same = counts-same c.agents.result c.count.result.moves c.count.result.needs (length c.args.rotations.now) (length tt.tracks) (sum_by moves tt.tracks) (length (all_need_lines tt 0 tt.tracks))
    (length turns)
    c.agents.ensures.agents c.count.ensures.moves c.count.ensures.needs (sym (length-map c.args.rotations.now _)) in
    let all = Leaves-all g.W.Write.contents _ _ _ (deps-parts tt turns) in
    rw p.1 (Leaves-broken g.W.Write.contents _ _ _ _ (first_part tt turns) (needs_part tt ++ (rotations_part turns ++ [])) _ all same c.in_err-put_counts.ensures.err)

pub returns-in_err-put_all_needs-clause-err : goal.returns-in_err-put_all_needs-clause-err
returns-in_err-put_all_needs-clause-err g c =
    let p = err_from_is_err_and c.from_residual-in_err-put_all_needs.result c.from_residual-in_err-put_all_needs.ensures.1 in
    let tt = c.args.graph.now in
    let turns = turns_of c.args.rotations.now in
    let same = counts-same c.agents.result c.count.result.moves c.count.result.needs (length c.args.rotations.now) (length tt.tracks) (sum_by moves tt.tracks) (length (all_need_lines tt 0 tt.tracks))
    (length turns)
    c.agents.ensures.agents c.count.ensures.moves c.count.ensures.needs (sym (length-map c.args.rotations.now _)) in
    let all = Leaves-all g.W.Write.contents _ _ _ (deps-parts tt turns) in
    let counted = Leaves-less g.W.Write.contents _ _ _ _ (first_part tt turns) (needs_part tt ++ (rotations_part turns ++ [])) _ all same c.in_ok-put_counts.ensures.ok in
    rw p.1 (Leaves-broken g.W.Write.contents _ _ _ _ (needs_part tt) (rotations_part turns ++ []) _ counted refl c.in_err-put_all_needs.ensures.err)

pub returns-in_err-put_rotations-clause-err : goal.returns-in_err-put_rotations-clause-err
returns-in_err-put_rotations-clause-err g c =
    let p = err_from_is_err_and c.from_residual-in_err-put_rotations.result c.from_residual-in_err-put_rotations.ensures.1 in
    let tt = c.args.graph.now in
    let turns = turns_of c.args.rotations.now in
    let same = counts-same c.agents.result c.count.result.moves c.count.result.needs (length c.args.rotations.now) (length tt.tracks) (sum_by moves tt.tracks) (length (all_need_lines tt 0 tt.tracks))
    (length turns)
    c.agents.ensures.agents c.count.ensures.moves c.count.ensures.needs (sym (length-map c.args.rotations.now _)) in
    let all = Leaves-all g.W.Write.contents _ _ _ (deps-parts tt turns) in
    let counted = Leaves-less g.W.Write.contents _ _ _ _ (first_part tt turns) (needs_part tt ++ (rotations_part turns ++ [])) _ all same c.in_ok-put_counts.ensures.ok in
    let needed = Leaves-less g.W.Write.contents _ _ _ _ (needs_part tt) (rotations_part turns ++ []) _ counted refl c.in_ok-put_all_needs.ensures.ok in
    rw p.1 (Leaves-broken g.W.Write.contents _ _ _ _ (rotations_part turns) [] _ needed refl c.in_err-put_rotations.ensures.err)

pub returns-clause-ok : goal.returns-clause-ok
returns-clause-ok g c =
    let tt = c.args.graph.now in
    let turns = turns_of c.args.rotations.now in
    let same = counts-same c.agents.result c.count.result.moves c.count.result.needs (length c.args.rotations.now) (length tt.tracks) (sum_by moves tt.tracks) (length (all_need_lines tt 0 tt.tracks))
    (length turns)
    c.agents.ensures.agents c.count.ensures.moves c.count.ensures.needs (sym (length-map c.args.rotations.now _)) in
    let all = Leaves-all g.W.Write.contents _ _ _ (deps-parts tt turns) in
    let counted = Leaves-less g.W.Write.contents _ _ _ _ (first_part tt turns) (needs_part tt ++ (rotations_part turns ++ [])) _ all same c.in_ok-put_counts.ensures.ok in
    let needed = Leaves-less g.W.Write.contents _ _ _ _ (needs_part tt) (rotations_part turns ++ []) _ counted refl c.in_ok-put_all_needs.ensures.ok in
    let turned = Leaves-less g.W.Write.contents _ _ _ _ (rotations_part turns) [] _ needed refl c.in_ok-put_rotations.ensures.ok in
    Puts-last g.W.Write.contents _ _ _ _ [] _ c.hand_on.result turned refl c.hand_on.ensures.ok

pub returns-clause-err : goal.returns-clause-err
returns-clause-err g c =
    let tt = c.args.graph.now in
    let turns = turns_of c.args.rotations.now in
    let same = counts-same c.agents.result c.count.result.moves c.count.result.needs (length c.args.rotations.now) (length tt.tracks) (sum_by moves tt.tracks) (length (all_need_lines tt 0 tt.tracks))
    (length turns)
    c.agents.ensures.agents c.count.ensures.moves c.count.ensures.needs (sym (length-map c.args.rotations.now _)) in
    let all = Leaves-all g.W.Write.contents _ _ _ (deps-parts tt turns) in
    let counted = Leaves-less g.W.Write.contents _ _ _ _ (first_part tt turns) (needs_part tt ++ (rotations_part turns ++ [])) _ all same c.in_ok-put_counts.ensures.ok in
    let needed = Leaves-less g.W.Write.contents _ _ _ _ (needs_part tt) (rotations_part turns ++ []) _ counted refl c.in_ok-put_all_needs.ensures.ok in
    let turned = Leaves-less g.W.Write.contents _ _ _ _ (rotations_part turns) [] _ needed refl c.in_ok-put_rotations.ensures.ok in
    Breaks-last g.W.Write.contents _ _ _ _ [] _ c.hand_on.result turned refl c.hand_on.ensures.err
