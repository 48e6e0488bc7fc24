-- The walk so far, and what is left of it, are the walk.
use Rattle.std.proofs.Common.{◌≡◌, ℕ, ◌+◌, eqb, get_or, ◌∷◌, drop, arith, inl, inr, sym, ap, subst, ◌∙◌}
use Rattle.std.specs.Prelude.{IsTrue, ◌&&◌}
use Rattle.std.proofs.lemmas.Bool.{and_parts, eqb-true, false≢true}
use Rattle.std.proofs.lemmas.List.{drop_more, drop_all}
use Rattle.grid.specs.declared.cell.Cell.{Cell}
use Rattle.walks.proofs.WalkLemmas.{GoesOn, straight-on, diagonal-on, goes_on-straight, goes_on-diagonal, goes_on-end}
use Rattle.walks.proofs.certificate.follows.Goals.{then-step4, else-step4+then-step8}
use Rattle.walks.proofs.certificate.follows.Goals as goal

cell_from : (u v : Cell) → u.x ≡ v.x → u.y ≡ v.y → u ≡ v
cell_from u v e f = ap {A = ℕ} {B = Cell} (λ x. record { x = x; y = u.y }) e ∙ ap {A = ℕ} {B = Cell} (λ y. record { x = v.x; y = y }) f

cell_from_tests : (u v : Cell) → IsTrue (eqb u.x v.x && eqb u.y v.y) → u ≡ v
cell_from_tests u v h = let both = and_parts (eqb u.x v.x) (eqb u.y v.y) h in cell_from u v (eqb-true u.x v.x both.0) (eqb-true u.y v.y both.1)

abbrev origin : Cell
origin = record { x = 0; y = 0 }

pub loop-next-preserved : goal.loop-next-preserved
loop-next-preserved c =
    let m = c.args.map.now in
    let now = c.loop-next.invariant in
    let start = c.args.start in
    let end = c.args.goal in
    let rest = c.args.rest.now in
    let i = c.loop-next.next-index in
    let next : Cell = get_or rest i origin in
    let after = drop (i + 1) rest in
    let before = subst (λ cells. GoesOn m start end (start ∷ rest) c.loop-next.straight c.loop-next.diagonal c.loop-next.last cells)
    (drop_more rest i origin c.loop-next-test.true) now.goes_on in
    elim c.if-step4.branch [
      | then-step4 w ↦
          let step = c.step4.ensures.0 w.if-step4.true in
          let onward = goes_on-straight m start end (start ∷ rest) c.loop-next.straight c.loop-next.diagonal c.loop-next.last next after step before in
          record {
            on = straight-on m c.loop-next.last next step;
            count = omega (arith, now.count, w.straight-is, w.diagonal-is);
            goes_on = subst (λ n. GoesOn m start end (start ∷ rest) n c.if-step4.diagonal next after) (sym w.straight-is)
                (subst (λ n. GoesOn m start end (start ∷ rest) (c.loop-next.straight + 1) n next after) (sym w.diagonal-is) onward);
          }
      | else-step4+then-step8 w ↦
          elim (w.step8.ensures.0 w.if-step8.true) [
            | inl straight ↦ absurd (false≢true (sym w.if-step4.false ∙ c.step4.ensures.1 straight))
            | inr step ↦
                let onward = goes_on-diagonal m start end (start ∷ rest) c.loop-next.straight c.loop-next.diagonal c.loop-next.last next after step before in
                record {
                  on = diagonal-on m c.loop-next.last next step;
                  count = omega (arith, now.count, w.straight-is, w.diagonal-is);
                  goes_on = subst (λ n. GoesOn m start end (start ∷ rest) n c.if-step4.diagonal next after) (sym w.straight-is)
                      (subst (λ n. GoesOn m start end (start ∷ rest) c.loop-next.straight n next after) (sym w.diagonal-is) onward);
                }
          ]
    ]

pub returns-then-eq : goal.returns-then-eq
returns-then-eq c =
    let m = c.args.map.now in
    let now = c.loop-next.invariant in
    let walk = c.args.start ∷ c.args.rest.now in
    let at_end = subst (λ cells. GoesOn m c.args.start c.args.goal walk c.loop-next.straight c.loop-next.diagonal c.loop-next.last cells)
    (drop_all c.loop-next.next-index c.args.rest.now (omega (arith, c.loop-next-test.false))) now.goes_on in
    let ends = goes_on-end m c.args.start c.args.goal walk c.loop-next.straight c.loop-next.diagonal c.loop-next.last
    c.args.length.straight c.args.length.diagonal now.on at_end in (
      λ e. let h = c.is_of.ensures.0 e in ends.0 (cell_from_tests c.loop-next.last c.args.goal (sym c.eq.ensures ∙ c.if-eq.true), h.0, h.1),
      λ whole. let h = ends.1 whole in c.is_of.ensures.1
          (h.1, h.2),
    )
