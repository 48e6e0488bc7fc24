-- At first all squares are blocked, and so none is a cell's.
use Rattle.std.proofs.Common.{◌≡◌, ◌+◌, ◌*◌, arith, rules, replicate, sym, ap, subst, ◌∙◌}
use Rattle.checker.specs.Code.Squares.{wide_of, IsLaid}
use Rattle.checker.proofs.SquareLemmas.{laid-none}
use Rattle.checker.proofs.board.board.Goals as goal

pub loop-row-init : goal.loop-row-init
loop-row-init c =
    let m = c.args.map.now in
    let count = (c.height.result + 2) * (c.width.result + 2) in
    let is : c.in_ok-squares.squares.items ≡ replicate count c.new.result = c.in_ok-squares.ensures.items_if_clones_equal (search rules) in
    let size : count ≡ (m.height + 2) * wide_of m =
    ap (λ h. (h + 2) * (c.width.result + 2)) c.height.ensures.height ∙ ap (λ w. (m.height + 2) * (w + 2)) c.width.ensures.width in
    let none : 0 ≡ 0 * m.width = omega arith in
    subst (IsLaid m c.in_ok-squares.squares.items) none
    (subst (λ squares. IsLaid m squares 0) (sym is) (laid-none m count c.new.result size c.new.ensures.ground c.new.ensures.mark))

pub lay_row-requires-clause-laid : goal.lay_row-requires-clause-laid
lay_row-requires-clause-laid c =
    subst (λ squares. IsLaid c.args.map.now squares (c.loop-row.row * c.args.map.now.width)) (sym c.deref_mut.ensures.value) c.loop-row.invariant

pub returns : goal.returns
returns c =
    let m = c.args.map.now in
    let height = c.height-row-end.ensures.height in
    let past = c.loop-row-test.false in
    let within = c.loop-row.auto.row-end in
    let all : c.loop-row.row ≡ m.height = omega (arith, past, within, height) in
    subst (λ n. IsLaid m c.loop-row.squares.items (n * m.width)) all c.loop-row.invariant
