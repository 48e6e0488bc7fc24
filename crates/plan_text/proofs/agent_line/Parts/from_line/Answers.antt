use Rattle.std.proofs.Common.{length, sym, ap, ◌∙◌, codes}
use Rattle.std.specs.Prelude.{not}
use Rattle.std.specs.Str.{bytes_eq}
use Rattle.std.specs.Cmp.Lexicographic.{bytes_decides}
use Rattle.std.proofs.lemmas.Bool.{both_ways, not-true, eqb-true}
use Rattle.plan_text.proofs.PartLemmas.{some_found, three, no_agent, no_column, no_row, no_acts, more_parts}
use Rattle.plan_text.proofs.agent_line.Parts.from_line.Goals as goal
use Rattle.plan_text.proofs.agent_line.Parts.from_line.Goals.{then-ne-via-then-ne}
use Rattle.plan_text.proofs.agent_line.Parts.from_line.Goals.{then-ne-via-else-ne+then-is_empty}
use Rattle.plan_text.proofs.agent_line.Parts.from_line.Goals.{then-ne-via-else-ne+else-is_empty+then-is_empty-2}
use Rattle.plan_text.proofs.agent_line.Parts.from_line.Goals.{then-ne-via-else-ne+else-is_empty+else-is_empty-2+then-is_empty-3}
use Rattle.plan_text.proofs.agent_line.Parts.from_line.Goals.{then-ne-via-else-ne+else-is_empty+else-is_empty-2+else-is_empty-3+then-is_some}

pub returns-then-ne : goal.returns-then-ne
returns-then-ne c =
    let line = c.args.line.now in
    let word = c.in_ok-word.word.now in
    let x = c.in_ok-x.x.now in
    let y = c.in_ok-y.y.now in
    let acts = c.in_ok-y.acts.now in
    let cut = three line word c.in_ok-word.rest.now x c.in_ok-x.rest.now y acts c.in_ok-word.ensures c.in_ok-x.ensures c.in_ok-y.ensures in
    elim c.then-ne.branch [
      | then-ne-via-then-ne w ↦ no_agent line word x y acts cut
          (λ e. both_ways (bytes_eq word (codes "agent")) (not-true (bytes_eq word (codes "agent"))
          (ap (λ xs. not (bytes_eq word xs)) (sym c.as_slice.ensures) ∙ sym w.if-ne.ensures)) ((bytes_decides word (codes "agent")).1 e))
      | then-ne-via-else-ne+then-is_empty w ↦ no_column line word x y acts cut (eqb-true (length x) 0 (sym w.if-is_empty.ensures))
      | then-ne-via-else-ne+else-is_empty+then-is_empty-2 w ↦ no_row line word x y acts cut (eqb-true (length y) 0 (sym w.if-is_empty-2.ensures))
      | then-ne-via-else-ne+else-is_empty+else-is_empty-2+then-is_empty-3 w ↦ no_acts line word x y acts cut (eqb-true (length acts) 0 (sym w.if-is_empty-3.ensures))
      | then-ne-via-else-ne+else-is_empty+else-is_empty-2+else-is_empty-3+then-is_some w ↦
          let more = some_found w.cut-else-is_empty-3.result _ _ (sym w.is_some.ensures ∙ w.if-is_some.true) w.cut-else-is_empty-3.ensures in
          more_parts line word x y acts cut more.0.0.now more.0.1.now more.1
    ]
