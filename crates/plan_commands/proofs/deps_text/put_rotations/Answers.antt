-- Each turn puts the first of the lines that are left.
use Rattle.std.proofs.Common.{◌+◌, [], ◌∷◌, ◌++◌, drop, map, ap, ◌∙◌, subst}
use Rattle.std.proofs.lemmas.List.{at_drop_more}
use Rattle.std.proofs.lemmas.Result.{err_from_is_err_and}
use Rattle.text_io.specs.Text.{line_feed, ended}
use Rattle.depgraph.specs.Rotations.{turns_of}
use Rattle.model.specs.declared.visit.Rotation.{Rotation}
use Rattle.text_io.specs.Sink.{Leaves}
use Rattle.text_io.specs.Laws.Putting.{Leaves-less, Leaves-broken}
use Rattle.plan_commands.specs.DepsText.{rotation_line}
use Rattle.plan_commands.proofs.deps_text.put_rotations.Goals as goal

pub returns-in_err-put_rotation-clause-err : goal.returns-in_err-put_rotation-clause-err
returns-in_err-put_rotation-clause-err g c =
    let p = err_from_is_err_and c.from_residual.result c.from_residual.ensures.1 in
    let rotation = c.rotation-item.result in
    let left = ended (map rotation_line (turns_of (drop (c.loop-rotation.rotation-index + 1) c.args.rotations.now))) in
    let next = subst (Leaves g.W.Write.contents _ _ _)
    (at_drop_more (λ rs. ended (map rotation_line (turns_of rs))) c.args.rotations.now c.loop-rotation.rotation-index rotation c.loop-rotation-test.true) c.loop-rotation.invariant in
    rw p.1 (Leaves-broken g.W.Write.contents _ _ _ _ _ left _ next
    (ap (λ xs. rotation_line (record { step = rotation.step; agents = xs }) ++ line_feed ∷ []) c.deref.ensures.value
    ∙ ap (λ (r : Rotation). rotation_line (record { step = r.step; agents = r.agents.items }) ++ line_feed ∷ []) c.rotation-item.is) c.in_err-put_rotation.ensures.err)

pub loop-rotation-preserved : goal.loop-rotation-preserved
loop-rotation-preserved g c =
    let rotation = c.rotation-item.result in
    let left = ended (map rotation_line (turns_of (drop (c.loop-rotation.rotation-index + 1) c.args.rotations.now))) in
    let next = subst (Leaves g.W.Write.contents _ _ _)
    (at_drop_more (λ rs. ended (map rotation_line (turns_of rs))) c.args.rotations.now c.loop-rotation.rotation-index rotation c.loop-rotation-test.true) c.loop-rotation.invariant in
    Leaves-less g.W.Write.contents _ _ _ _ _ left _ next
    (ap (λ xs. rotation_line (record { step = rotation.step; agents = xs }) ++ line_feed ∷ []) c.deref.ensures.value
    ∙ ap (λ (r : Rotation). rotation_line (record { step = r.step; agents = r.agents.items }) ++ line_feed ∷ []) c.rotation-item.is) c.in_ok-put_rotation.ensures.ok
