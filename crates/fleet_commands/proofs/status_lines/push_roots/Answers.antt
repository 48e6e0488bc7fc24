-- One agent more, with a line or none.
use Rattle.std.proofs.Common.{◌≡◌, ◌++◌, [], ◌∷◌, rules, Bool, true, false, nat_lt, None, ap, ◌∙◌, arith}
use Rattle.std.specs.Prelude.{not, is_some, slice_index_or}
use Rattle.std.proofs.lemmas.Bool.Decides.{nat_tests}
use Rattle.fleet_commands.specs.Standing.{kept_count}
use Rattle.fleet_commands.specs.StatusText.{root_line}
use Rattle.fleet_commands.specs.declared.status_line.StatusLine.TheVariants.{Root}
use Rattle.fleet_commands.proofs.LineLemmas.{behind-more, both-hold, first-fails, line-there, line-absent, second-fails}
use Rattle.fleet_commands.proofs.status_lines.push_roots.Goals as goal
use Rattle.fleet_commands.proofs.status_lines.push_roots.Goals.{then-is_none+then-keeps-gt0+in_ok-push, then-is_none+else-keeps-gt0, else-is_none}

pub loop-agent-preserved : goal.loop-agent-preserved
loop-agent-preserved c =
    let n = c.loop-agent.agent in
    let a : Bool = not (is_some (slice_index_or c.args.waits.now n None)) in
    let b : Bool = nat_lt 0 (kept_count c.args.ends.now n) in
    let line = Root n (kept_count c.args.ends.now n) in
    record {
      lines = behind-more c.args.lines.now.items (root_line c.args.ends.now c.args.waits.now) n c.loop-agent.lines.items c.if-is_none.lines.items c.loop-agent.invariant.lines
          (elim c.if-is_none.branch [
            | then-is_none+then-keeps-gt0+in_ok-push w ↦
                let none : a ≡ true = (let is = w.if-is_none.true in let says = c.is_none.ensures in search rules) in
                let some : b ≡ true = (let more = w.if-keeps-gt0.true in let count = w.kept_count-keeps.ensures in grind (arith, nat_tests, more, count)) in
                line-there c.loop-agent.lines.items c.if-is_none.lines.items _ line (both-hold a b none some)
                (ap (λ v. v.items) w.lines-is ∙ w.in_ok-push.ensures.items ∙ ap (λ k. c.loop-agent.lines.items ++ Root n k ∷ []) w.kept_count-keeps.ensures)
            | then-is_none+else-keeps-gt0 w ↦
                let none : a ≡ true = (let is = w.if-is_none.true in let says = c.is_none.ensures in search rules) in
                let few : b ≡ false = (let more = w.if-keeps-gt0.false in let count = w.kept_count-keeps.ensures in grind (arith, nat_tests, more, count)) in
                line-absent c.loop-agent.lines.items c.if-is_none.lines.items _ line (second-fails a b none few) (ap (λ v. v.items) w.lines-is)
            | else-is_none w ↦
                let some : a ≡ false = (let is = w.if-is_none.false in let says = c.is_none.ensures in search rules) in
                line-absent c.loop-agent.lines.items c.if-is_none.lines.items _ line (first-fails a b some) (ap (λ v. v.items) w.lines-is)
          ]);
    }
