-- The cell has its number, and is the last that was added.
use Rattle.std.proofs.Common.{◌≡◌, ◌++◌, ◌∷◌, [], length, inl, inr, arith, sym, ap, subst, ◌∙◌}
use Rattle.std.specs.Prelude.{◌⊎◌}
use Rattle.depgraph.specs.Code.Numbering.{AreNumbering}
use Rattle.depgraph.specs.Code.Numbers.{cells_by}
use Rattle.depgraph.proofs.NumberingLemmas.{cells_more, numbering_more}
use Rattle.depgraph.proofs.numbering.Numbering.add.Goals.{then-number-next+in_ok-push, else-number-next}
use Rattle.depgraph.proofs.numbering.Numbering.add.Goals as goal

pub returns-clause-numbering : goal.returns-clause-numbering
returns-clause-numbering c =
    let old = c.args.self.now in
    let now = c.if-number-next.self in
    let did = c.in_ok-number.ensures in
    let n = c.in_ok-number.number in
    let next = c.len-next.result in
    let long = c.len-next.ensures in
    let items = old.names.ok.0 in
    let count : next ≡ length old.names.items = omega (arith, long, items) in
    let tiles : now.tiles ≡ c.number_of.new.self = (elim c.if-number-next.branch [ then-number-next+in_ok-push w ↦ ap (λ s. s.tiles) w.self-is | else-number-next w ↦ ap (λ s. s.tiles) w.self-is ]) in
    let numbers : now.numbers ≡ old.numbers = (elim c.if-number-next.branch [ then-number-next+in_ok-push w ↦ ap (λ s. s.numbers) w.self-is | else-number-next w ↦ ap (λ s. s.numbers) w.self-is ]) in
    let added : ((n ≡ next) × (now.names.items ≡ old.names.items ++ c.args.cell ∷ [])) ⊎ ((n ≡ next → ⊥) × (now.names.items ≡ old.names.items)) = (elim c.if-number-next.branch [
      | then-number-next+in_ok-push w ↦ inl (w.if-number-next.true, ap (λ s. s.names.items) w.self-is ∙ w.in_ok-push.ensures.items)
      | else-number-next w ↦ inr (w.if-number-next.false, ap (λ s. s.names.items) w.self-is)
    ]) in
    subst (λ t. AreNumbering t now.names.items c.push-2.new.self.items) (sym tiles)
    (subst (AreNumbering c.number_of.new.self now.names.items) (sym (c.in_ok-push-2.ensures.items ∙ ap (λ v. v.items ++ n ∷ []) numbers))
    (numbering_more old.tiles c.number_of.new.self old.names.items now.names.items old.numbers.items c.args.cell n next c.requires.numbering did.tiles did.map c.requires.covered did.number
    did.others count did.size added))

pub returns-clause-cells : goal.returns-clause-cells
returns-clause-cells c =
    let old = c.args.self.now in
    let now = c.if-number-next.self in
    let did = c.in_ok-number.ensures in
    let n = c.in_ok-number.number in
    let next = c.len-next.result in
    let long = c.len-next.ensures in
    let items = old.names.ok.0 in
    let count : next ≡ length old.names.items = omega (arith, long, items) in
    let numbers : now.numbers ≡ old.numbers = (elim c.if-number-next.branch [ then-number-next+in_ok-push w ↦ ap (λ s. s.numbers) w.self-is | else-number-next w ↦ ap (λ s. s.numbers) w.self-is ]) in
    let added : ((n ≡ next) × (now.names.items ≡ old.names.items ++ c.args.cell ∷ [])) ⊎ ((n ≡ next → ⊥) × (now.names.items ≡ old.names.items)) = (elim c.if-number-next.branch [
      | then-number-next+in_ok-push w ↦ inl (w.if-number-next.true, ap (λ s. s.names.items) w.self-is ∙ w.in_ok-push.ensures.items)
      | else-number-next w ↦ inr (w.if-number-next.false, ap (λ s. s.names.items) w.self-is)
    ]) in
    ap (cells_by now.names.items) (c.in_ok-push-2.ensures.items ∙ ap (λ v. v.items ++ n ∷ []) numbers)
    ∙ cells_more old.tiles c.number_of.new.self old.names.items now.names.items old.numbers.items c.args.cell n next c.requires.numbering did.tiles did.map c.requires.covered did.number
    did.others count did.size added
