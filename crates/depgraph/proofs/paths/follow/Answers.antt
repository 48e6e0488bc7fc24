-- The next cell is added, or the agent was there.
use Rattle.std.proofs.Common.{◌+◌, ◌++◌, ◌∷◌, [], length, Some, arith, sym, ap, subst, append_assoc, ◌∙◌}
use Rattle.std.specs.Prelude.{All}
use Rattle.std.proofs.lemmas.List.Elements.{All-tail}
use Rattle.depgraph.specs.Code.Arrivals.{entered, entry_times}
use Rattle.depgraph.specs.Code.Numbering.{IsNumbering, cells_in}
use Rattle.depgraph.specs.Code.Tiles.{IsCovered, IsSameMap}
use Rattle.depgraph.proofs.ArrivalLemmas.{entered-new, entered-old, times-new, times-old}
use Rattle.depgraph.proofs.TileLemmas.{still_covered, still_same}
use Rattle.depgraph.proofs.paths.follow.Goals.{then-is_new+in_ok-add+in_ok-push, else-is_new}
use Rattle.depgraph.proofs.paths.follow.Goals as goal

pub loop-cell-preserved : goal.loop-cell-preserved
loop-cell-preserved c =
    let was = c.loop-cell.invariant in
    let old = c.loop-cell.path in
    let now = c.if-is_new.path in
    let cell = c.in-Some.cell in
    let rest = c.next.new.self in
    let here = c.loop-cell.here in
    let time = c.loop-cell.time in
    let first = c.args.path.now in
    let steps = c.in-Some.ensures.steps in
    let long = ap length steps in
    let covered = All-tail (IsCovered old.tiles) cell rest (subst (All (IsCovered old.tiles)) steps was.covered) in
    let before = was.path in
    let earlier = was.times in
    record {
      numbering = elim c.if-is_new.branch [
        | then-is_new+in_ok-add+in_ok-push w ↦ subst IsNumbering (sym w.path-is) w.in_ok-add.ensures.numbering
        | else-is_new w ↦ subst IsNumbering (sym w.path-is) was.numbering
      ];
      map = elim c.if-is_new.branch [
        | then-is_new+in_ok-add+in_ok-push w ↦ subst (λ p. IsSameMap first.tiles p.tiles) (sym w.path-is) (still_same first.tiles old.tiles w.add.new.self.tiles was.map w.in_ok-add.ensures.map)
        | else-is_new w ↦ subst (λ p. IsSameMap first.tiles p.tiles) (sym w.path-is) was.map
      ];
      covered = elim c.if-is_new.branch [
        | then-is_new+in_ok-add+in_ok-push w ↦
            subst (λ p. All (IsCovered p.tiles) rest) (sym w.path-is) (λ k d less. still_covered old.tiles w.add.new.self.tiles _ w.in_ok-add.ensures.map (covered k d less))
        | else-is_new w ↦ subst (λ p. All (IsCovered p.tiles) rest) (sym w.path-is) covered
      ];
      few = (
          let few = was.few in
          elim c.if-is_new.branch [
            | then-is_new+in_ok-add+in_ok-push w ↦ (let is = ap (λ p. length p.numbers.items) w.path-is in let more = w.in_ok-add.ensures.count in omega (arith, few, long, is, more))
            | else-is_new w ↦ (let is = ap (λ p. length p.numbers.items) w.path-is in omega (arith, few, long, is))
          ]
          );
      path = elim c.if-is_new.branch [
        | then-is_new+in_ok-add+in_ok-push w ↦
            ap (λ p. cells_in p ++ entered (Some cell) rest) w.path-is
            ∙ ap (λ l. l ++ entered (Some cell) rest) w.in_ok-add.ensures.cells
            ∙ append_assoc (cells_in old) (cell ∷ []) (entered (Some cell) rest)
            ∙ ap (λ l. cells_in old ++ l) (sym (entered-new here cell rest (sym c.is_new.ensures ∙ w.if-is_new.true)) ∙ ap (entered here) (sym steps))
            ∙ before
        | else-is_new w ↦
            ap (λ p. cells_in p ++ entered (Some cell) rest) w.path-is
            ∙ ap (λ l. cells_in old ++ l) (sym (entered-old here cell rest (sym c.is_new.ensures ∙ w.if-is_new.false)) ∙ ap (entered here) (sym steps))
            ∙ before
      ];
      times = elim c.if-is_new.branch [
        | then-is_new+in_ok-add+in_ok-push w ↦
            ap (λ v. v.items ++ entry_times (Some cell) rest (time + 1)) w.times-is
            ∙ ap (λ l. l ++ entry_times (Some cell) rest (time + 1)) w.in_ok-push.ensures.items
            ∙ append_assoc c.loop-cell.times.items (time ∷ []) (entry_times (Some cell) rest (time + 1))
            ∙ ap (λ l. c.loop-cell.times.items ++ l) (sym (times-new here cell rest time (sym c.is_new.ensures ∙ w.if-is_new.true)) ∙ ap (λ l. entry_times here l time) (sym steps))
            ∙ earlier
        | else-is_new w ↦
            ap (λ v. v.items ++ entry_times (Some cell) rest (time + 1)) w.times-is
            ∙ ap (λ l. c.loop-cell.times.items ++ l) (sym (times-old here cell rest time (sym c.is_new.ensures ∙ w.if-is_new.false)) ∙ ap (λ l. entry_times here l time) (sym steps))
            ∙ earlier
      ];
      count = (let count = was.count in omega (arith, count, long));
    }
