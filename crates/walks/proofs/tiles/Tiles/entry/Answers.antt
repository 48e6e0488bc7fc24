-- The entry is that of the number of the cell at the place.
use Rattle.std.proofs.Common.{◌≡◌, ℕ, ◌/◌, ◌%◌, ◌^◌, ◌<◌, sym, subst}
use Rattle.walks.specs.Code.KeyParts.{IsKey}
use Rattle.walks.specs.Code.Rounding.{rounded}
use Rattle.walks.specs.Code.TileKeys.{number_at}
use Rattle.walks.proofs.TileLemmas.{number_rounds}
use Rattle.walks.proofs.tiles.Tiles.entry.Goals as goal

abbrev Rounds : ℕ → Type 0
Rounds n = (0 < n) × (n < 2 ^ 62) × IsKey n

rounds : (c : goal.After-rounded) → Rounds c.rounded.result
rounds c =
    let t = c.args.self.now in
    let x = c.args.place % t.width in
    let y = c.args.place / t.width in
    let is = c.number_at-number.ensures in
    let small : number_at t x y < 2 ^ 62 = subst (λ n. n < 2 ^ 62) is c.if-number-lt-NO_LENGTH.true in
    subst Rounds (sym (subst (λ n. c.rounded.result ≡ rounded n) is c.rounded.ensures)) (number_rounds t x y small)

pub length_of-requires-clause-some : goal.length_of-requires-clause-some
length_of-requires-clause-some c = (rounds c).0

pub length_of-requires-clause-limit : goal.length_of-requires-clause-limit
length_of-requires-clause-limit c = (rounds c).1

pub length_of-requires-clause-of_length : goal.length_of-requires-clause-of_length
length_of-requires-clause-of_length c = (rounds c).2
