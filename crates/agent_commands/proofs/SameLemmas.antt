-- When two courses are the same.
use Rattle.std.proofs.Common.{◌≡◌, ◌∙◌, Bool, true, false, ◌&&◌, eqb, List, refl, sym, ap, ap₂}
use Rattle.std.proofs.lemmas.Bool.{eqb-true, true≢false}
use lib.Pointwise.{pointwise, pointwise_decides}
use denote.Enum.Bare.{sameb, same_true, true_same}
use Rattle.grid.specs.declared.cell.Cell.{Cell}
use Rattle.model.specs.declared.act.Act.{Act}
use Rattle.model.specs.contracts.act.Act.{the_type}
use Rattle.model.specs.Plan.{Course}

left_true : (s t : Bool) → true ≡ (s && t) → s ≡ true
left_true true t h = refl
left_true false t h = sym h

right_true : (s t : Bool) → true ≡ (s && t) → t ≡ true
right_true true t h = sym h
right_true false t h = absurd (true≢false h)

same_place : (a b : Cell) → true ≡ (eqb a.x b.x && eqb a.y b.y) → a ≡ b
same_place a b h = ap₂ (λ x y. record { x = x; y = y }) (eqb-true a.x b.x (left_true _ _ h)) (eqb-true a.y b.y (right_true _ _ h))

act_decides : (x y : Act) → (sameb the_type x y ≡ true → x ≡ y) × (x ≡ y → sameb the_type x y ≡ true)
act_decides x y = (same_true the_type tt x y, true_same the_type x y)

-- courses with one start are the same where the test of their acts says so
pub same_course : (one other : Course) (a b : Cell) (xs ys : List Act) (r : Bool) → a ≡ one.start → b ≡ other.start → xs ≡ one.acts → ys ≡ other.acts
    → true ≡ (eqb a.x b.x && eqb a.y b.y) → r ≡ pointwise (sameb the_type) xs ys → (r ≡ true → one ≡ other) × (one ≡ other → r ≡ true)
same_course one other a b xs ys r is_a is_b is_xs is_ys place told =
    let acts = pointwise_decides act_decides xs ys in (
      λ so. ap₂ (λ start acts. record { start = start; acts = acts }) (sym is_a ∙ same_place a b place ∙ is_b) (sym is_xs ∙ acts.0 (sym told ∙ so) ∙ is_ys),
      λ same. told ∙ acts.1 (is_xs ∙ ap (λ (c : Course). c.acts) same ∙ sym is_ys),
    )
