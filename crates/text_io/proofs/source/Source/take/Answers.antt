-- Taking moves the start of what is at hand.
use Rattle.std.proofs.Common.{◌+◌, ◌-◌, ◌≤◌, ◌++◌, take, drop, refl, sym, ap, ◌∙◌, arith, length-take}
use Rattle.std.proofs.lemmas.List.{take-append-drop}
use Rattle.text_io.specs.Source.{at_hand}
use Rattle.text_io.specs.Laws.Taking.{slice_range-later, Takes-at_hand}
use Rattle.text_io.proofs.source.Source.take.Goals as goal

pub returns-clause-rest : goal.returns-clause-rest
returns-clause-rest g c =
    let s = c.args.self.now in
    let ordered = s.ordered in
    let in_range : s.start + c.args.n ≤ s.end = omega (arith, length-take (s.end - s.start) (drop s.start s.piece)) in
    slice_range-later s.piece s.start s.end c.args.n in_range

pub returns-clause-takes : goal.returns-clause-takes
returns-clause-takes g c =
    let s = c.args.self.now in
    let ordered = s.ordered in
    let in_range : s.start + c.args.n ≤ s.end = omega (arith, length-take (s.end - s.start) (drop s.start s.piece)) in
    let rest = slice_range-later s.piece s.start s.end c.args.n in_range in
    Takes-at_hand g.R.Read.remaining s _ (take c.args.n (at_hand s)) refl refl
    (sym (take-append-drop c.args.n (at_hand s)) ∙ ap (λ l. take c.args.n (at_hand s) ++ l) (sym rest))
