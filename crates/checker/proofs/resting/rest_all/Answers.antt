-- At the end all courses are rested.
use Rattle.std.proofs.Common.{[], map, arith, sym, ◌∙◌}
use Rattle.std.proofs.lemmas.List.{length-map, get_or-map, ext_get_or}
use Rattle.model.specs.Plan.{Course}
use Rattle.checker.specs.Code.Resting.{rested}
use Rattle.checker.proofs.resting.rest_all.Goals as goal

none : Course
none = record { start = record { x = 0; y = 0 }; acts = [] }

pub returns : goal.returns
returns c =
    let now = c.loop-index.invariant in
    let count = now.count in
    let past = c.loop-index-test.false in
    ext_get_or none c.loop-index.courses (map rested c.args.courses.now) (count ∙ sym (length-map c.args.courses.now rested))
    (λ k less. now.done k none (omega (arith, less, past, count)) ∙ sym (get_or-map rested c.args.courses.now k none none (omega (arith, less, count))))
