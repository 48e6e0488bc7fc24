-- What is kept is what passes the test, and the sort moves it.
use Rattle.std.proofs.Common.{rules}
use Rattle.std.proofs.lemmas.Fn.{filter_same}
use Rattle.checker.specs.declared.crowd.Walker.{Walker}
use Rattle.checker.specs.Code.Walking.{has_act}
use Rattle.checker.proofs.RowLemmas.{lined-up}
use Rattle.checker.proofs.block.line_up.Goals as goal

pub returns : goal.returns
returns c =
    lined-up c.args.courses.now c.args.step c.args.walkers.now.items c.retain.new.self.items c.sort_unstable_by_key.new.self.items
    (filter_same _ (λ (w : Walker). has_act c.args.courses.now c.args.step w.agent) _ (λ x b f' k. search rules) _ _ c.retain.ensures.filtered)
    c.sort_unstable_by_key.ensures.permutation
