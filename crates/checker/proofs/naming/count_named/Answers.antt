-- At the end just those are marked that are named.
use Rattle.std.proofs.Common.{length, ap, ◌∙◌}
use Rattle.std.proofs.lemmas.List.{at_drop_all}
use Rattle.checker.specs.AllFaults.{is_named}
use Rattle.checker.specs.Code.Marks.{count_of_marks}
use Rattle.checker.proofs.NameLemmas.{marks-named, marks-end}
use Rattle.checker.proofs.naming.count_named.Goals as goal

pub returns : goal.returns
returns c =
    let marks = c.loop-fault.marks.items in
    let faults = c.args.faults.now in
    c.count_marks.ensures ∙ ap (λ l. count_of_marks (length l) l) c.deref.ensures.value ∙ ap (λ n. count_of_marks n marks) c.loop-fault.invariant.0
    ∙ marks-named c.args.agents marks faults (λ k less. marks-end _ _ _ (at_drop_all (λ l. is_named l k) faults c.loop-fault.fault-index c.loop-fault-test.false) (c.loop-fault.invariant.1 k less))
