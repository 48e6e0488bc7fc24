-- A move more.
use Rattle.std.proofs.Common.{◌≡◌, ◌∙◌, ◌<◌, true, false, length, sym, arith}
use Rattle.std.specs.Prelude.{is_some}
use Rattle.plan_commands.proofs.DepsLemmas.{count-more, need-is}
use Rattle.plan_commands.proofs.deps_text.count_needs.Goals as goal
use Rattle.plan_commands.proofs.deps_text.count_needs.Goals.{then-is_some, else-is_some}

pub loop-k-preserved : goal.loop-k-preserved
loop-k-preserved c =
    let needs = c.args.part.now.needs in
    let k = c.loop-k.k in
    let within : k < length needs = omega arith in
    let more = count-more needs k c.need.result within (c.need.ensures.need ∙ need-is c.args.part.now.needs k within) in
    elim c.if-is_some.branch [
      | then-is_some w ↦
          let yes : is_some c.need.result ≡ true = sym c.is_some.ensures ∙ w.if-is_some.true in
          let step = rw yes at more in
          omega (arith, step, w.count-is)
      | else-is_some w ↦
          let no : is_some c.need.result ≡ false = sym c.is_some.ensures ∙ w.if-is_some.false in
          let step = rw no at more in
          omega (arith, step, w.count-is)
    ]
