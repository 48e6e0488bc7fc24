use Rattle.std.proofs.Common.{◌+◌, ◌<◌, length, drop, sym, ap, ◌∙◌, arith}
use Rattle.std.proofs.lemmas.Bool.Decides.{nat_tests}
use Rattle.agent.specs.Decoding.{wrong_entry}
use Rattle.agent.specs.Code.Listing.{entries_of}
use Rattle.agent.proofs.SpellingLemmas.{wrong-later, wrong-here}
use Rattle.agent.proofs.entries.Entries.first_wrong.Goals as goal
use Rattle.agent.proofs.entries.Entries.first_wrong.Goals.{then-entry-eq0-via-then-entry-eq0, then-entry-eq0-via-else-entry-eq0+then-from-least}

pub returns-then-entry-eq0 : goal.returns-then-entry-eq0
returns-then-entry-eq0 c =
    let within : c.loop-at.at < length (entries_of c.args.self.now) = (let test = c.loop-at-test.true in let count = c.count-at-end.ensures in omega (arith, test, count)) in
    sym (c.loop-at.invariant.later ∙ wrong-here (entries_of c.args.self.now) c.loop-at.at c.loop-at.least c.entry-entry.result c.entry-entry.ensures within
    (elim c.then-entry-eq0.branch [
      | then-entry-eq0-via-then-entry-eq0 w ↦ (let none = w.if-entry-eq0.true in grind (arith, nat_tests, none))
      | then-entry-eq0-via-else-entry-eq0+then-from-least w ↦ (let less = w.if-from-least.true in let same = w.from.ensures in grind (arith, nat_tests, less, same))
    ]))

pub loop-at-preserved : goal.loop-at-preserved
loop-at-preserved c =
    let within : c.loop-at.at < length (entries_of c.args.self.now) = (let test = c.loop-at-test.true in let count = c.count-at-end.ensures in omega (arith, test, count)) in
    let inv = c.loop-at.invariant in
    let above = c.if-from-least.false in
    let same = c.from.ensures in
    let next = c.from-least.ensures in
    record {
      few = (let few = inv.few in omega (arith, few, above, same, next));
      most = omega (arith, next, c.entry-entry.type_inv);
      later = inv.later ∙ wrong-later (entries_of c.args.self.now) c.loop-at.at c.loop-at.least c.entry-entry.result c.entry-entry.ensures within
          c.if-entry-eq0.false (omega (arith, above, same))
          ∙ ap (λ n. wrong_entry (c.loop-at.at + 1) (n + 1) (drop (c.loop-at.at + 1) (entries_of c.args.self.now))) (sym next);
    }
