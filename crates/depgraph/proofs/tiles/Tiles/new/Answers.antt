-- All is 0 at first.
use Rattle.std.proofs.Common.{ℕ, ◌≡◌, ◌+◌, ◌*◌, ◌/◌, length, get_or, replicate, inl, inr, ap, ◌∙◌, arith, rules}
use Rattle.std.proofs.lemmas.Bool.{cases_lt}
use Rattle.std.proofs.lemmas.List.{get_or-replicate, get_or_past, length-replicate}
use Rattle.depgraph.specs.declared.tiles.Tiles.{Tiles}
use Rattle.depgraph.specs.Code.Tiles.{place_of}
use Rattle.depgraph.proofs.tiles.Tiles.new.Goals as goal

zeros : (n i : ℕ) → get_or {A = ℕ} (replicate n 0) i 0 ≡ 0
zeros n i = elim (cases_lt i n) [
  | inl within ↦ get_or-replicate n i 0 0 within
  | inr past ↦ get_or_past (replicate n 0) i 0 (let long = length-replicate {A = ℕ} n 0 in omega (arith, long, past))
]

pub returns-clause-tiles : goal.returns-clause-tiles
returns-clause-tiles c =
    let parts : c.in_ok-vec.field-0.items ≡ replicate ((c.args.width / 16 + 1) * (c.args.height / 16 + 1)) 0 = c.in_ok-vec.ensures.items_if_clones_equal (search rules) in
    let numbers : c.in_ok-vec-2.field-0.items ≡ replicate 256 0 = c.in_ok-vec-2.ensures.items_if_clones_equal (search rules) in
    let none : (i : ℕ) → get_or c.in_ok-vec.field-0.items i 0 ≡ 0 = λ i. ap (λ l. get_or l i 0) parts ∙ zeros _ i in
    let long = ap length numbers ∙ length-replicate {A = ℕ} 256 0 in
    record {
      within = λ i. let is = none i in omega (arith, is, long);
      apart = λ i j some. let is = none i in absurd (omega (arith, is, some));
      first = λ i less. ap (λ l. get_or l i 0) numbers ∙ zeros 256 i;
      whole = omega (arith, long);
    }

pub returns-clause-none : goal.returns-clause-none
returns-clause-none c = λ cell.
    let numbers : c.in_ok-vec-2.field-0.items ≡ replicate 256 0 = c.in_ok-vec-2.ensures.items_if_clones_equal (search rules) in
    let t : Tiles = record { across = c.args.width / 16 + 1; parts = c.in_ok-vec.field-0; numbers = c.in_ok-vec-2.field-0 } in
    ap (λ l. get_or l (place_of t cell) 0) numbers ∙ zeros 256 (place_of t cell)
