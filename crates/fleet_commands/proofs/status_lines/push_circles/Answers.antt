-- One rotation more, with a line or none.
use Rattle.std.proofs.Common.{◌≡◌, ◌++◌, [], ◌∷◌, Some, sym, ap, ◌∙◌}
use Rattle.std.specs.Prelude.{option_map, slice_get}
use Rattle.std.proofs.lemmas.Option.{slice_get-get_or, slice_get-map}
use Rattle.depgraph.specs.Rotations.{turn_of, turns_of}
use Rattle.fleet_commands.specs.Standing.{has_come, stuck_count}
use Rattle.fleet_commands.specs.StatusText.{circle_line, circle_line_by}
use Rattle.fleet_commands.specs.declared.status_line.StatusLine.TheVariants.{Circle}
use Rattle.fleet_commands.proofs.LineLemmas.{behind-more, line-there, line-absent}
use Rattle.fleet_commands.proofs.status_lines.push_circles.Goals as goal
use Rattle.fleet_commands.proofs.status_lines.push_circles.Goals.{then-has_come+in_ok-push, else-has_come}

pub loop-number-preserved : goal.loop-number-preserved
loop-number-preserved c =
    let n = c.loop-number.number in
    let turn = turn_of c.index-rotations-number.result in
    let there : slice_get (turns_of c.args.rotations.now) n ≡ Some turn
    = slice_get-map turn_of c.args.rotations.now n ∙ ap (option_map turn_of) (slice_get-get_or c.args.rotations.now n c.index-rotations-number.result c.loop-number-test.true ∙ ap Some
    (sym c.index-rotations-number.is)) in
    let come = has_come c.args.dependencies.now c.args.found.now turn in
    let line = Circle n (stuck_count c.args.ends.now turn) in
    let as_line = ap (λ o. c.loop-number.lines.items ++ circle_line_by c.args.dependencies.now c.args.found.now c.args.ends.now n o) (sym there) in
    record {
      lines = behind-more c.args.lines.now.items (circle_line c.args.dependencies.now c.args.found.now c.args.ends.now (turns_of c.args.rotations.now)) n c.loop-number.lines.items
          c.if-has_come.lines.items c.loop-number.invariant.lines (elim c.if-has_come.branch [
            | then-has_come+in_ok-push w ↦
                line-there c.loop-number.lines.items c.if-has_come.lines.items come line (sym c.has_come.ensures ∙ w.if-has_come.true)
                (ap (λ v. v.items) w.lines-is ∙ w.in_ok-push.ensures.items ∙ ap (λ k. c.loop-number.lines.items ++ Circle n k ∷ []) w.stuck_count.ensures) ∙ as_line
            | else-has_come w ↦
                line-absent c.loop-number.lines.items c.if-has_come.lines.items come line (sym c.has_come.ensures ∙ w.if-has_come.false) (ap (λ v. v.items) w.lines-is) ∙ as_line
          ]);
    }
