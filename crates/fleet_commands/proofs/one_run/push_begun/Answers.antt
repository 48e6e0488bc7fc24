-- One rotation more, with a line or none.
use Rattle.std.proofs.Common.{◌≡◌, ◌++◌, Some, sym, ap, ◌∙◌}
use Rattle.std.specs.Prelude.{option_map, slice_get}
use Rattle.std.proofs.lemmas.Option.{slice_get-get_or, slice_get-map}
use Rattle.depgraph.specs.Rotations.{turn_of, turns_of}
use Rattle.fleet_commands.specs.OneRun.{is_turn_begun}
use Rattle.fleet_commands.specs.StatusText.{begun_line, begun_line_by}
use Rattle.fleet_commands.specs.declared.status_line.StatusLine.TheVariants.{Begun}
use Rattle.fleet_commands.proofs.LineLemmas.{behind-more, line-there, line-absent}
use Rattle.fleet_commands.proofs.one_run.push_begun.Goals as goal
use Rattle.fleet_commands.proofs.one_run.push_begun.Goals.{then-is_turn_begun+in_ok-push, else-is_turn_begun}

pub loop-number-preserved : goal.loop-number-preserved
loop-number-preserved c =
    let table = c.args.dependencies.now in
    let found = c.args.found.now in
    let n = c.loop-number.number in
    let turn = turn_of c.index-rotations-number.result in
    let there : slice_get (turns_of c.args.rotations.now) n ≡ Some turn
    = slice_get-map turn_of c.args.rotations.now n ∙ ap (option_map turn_of) (slice_get-get_or c.args.rotations.now n c.index-rotations-number.result c.loop-number-test.true ∙ ap Some
    (sym c.index-rotations-number.is)) in
    let begun = is_turn_begun table c.args.without found turn in
    let line = Begun n in
    let as_line = ap (λ o. c.loop-number.lines.items ++ begun_line_by table c.args.without found n o) (sym there) in
    record {
      lines = behind-more c.args.lines.now.items (begun_line table c.args.without found (turns_of c.args.rotations.now)) n c.loop-number.lines.items
          c.if-is_turn_begun.lines.items c.loop-number.invariant.lines (elim c.if-is_turn_begun.branch [
            | then-is_turn_begun+in_ok-push w ↦
                line-there c.loop-number.lines.items c.if-is_turn_begun.lines.items begun line (sym c.is_turn_begun.ensures ∙ w.if-is_turn_begun.true)
                (ap (λ v. v.items) w.lines-is ∙ w.in_ok-push.ensures.items) ∙ as_line
            | else-is_turn_begun w ↦
                line-absent c.loop-number.lines.items c.if-is_turn_begun.lines.items begun line (sym c.is_turn_begun.ensures ∙ w.if-is_turn_begun.false) (ap (λ v. v.items) w.lines-is) ∙ as_line
          ]);
    }
