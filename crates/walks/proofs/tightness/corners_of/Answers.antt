-- Each cell on the map is told by its character and its number, and none off it.
use Rattle.std.proofs.Common.{◌≡◌, ◌+◌, ◌*◌, ◌-◌, get_or, map, inl, inr, arith, ap, ◌∙◌}
use Rattle.std.proofs.lemmas.Bool.{cases_lt}
use Rattle.std.proofs.lemmas.List.{length-set, get_or-set_other}
use Rattle.grid.specs.Terrain.{terrain_of, character_of}
use Rattle.walks.specs.Code.Tightness.{corner_in, ground_of, number_of}
use Rattle.walks.specs.Code.TableEntries.{number_on}
use Rattle.walks.proofs.TileLemmas.{told_more}
use Rattle.walks.proofs.TightTables.{told_off, told_on}
use Rattle.walks.proofs.tightness.corners_of.Goals as goal

pub loop-i-preserved : goal.loop-i-preserved
loop-i-preserved c =
    let i = c.loop-i.i in
    let now = c.loop-i.invariant in
    let grounds = c.loop-i.corners.grounds in
    let chars = map character_of c.args.map.now.terrain in
    let first = c.args.y * c.width-width.result + c.args.left in
    let test = c.loop-i-test.true in
    let least = c.min.ensures in
    let strip = c.requires.strip.1 in
    let long = now.grounds in
    record {
      grounds = length-set grounds i c.grounds_of.result ∙ long;
      keys = now.keys;
      told = told_more grounds i c.grounds_of.result (λ k. number_of (ground_of (terrain_of (get_or chars (first + k) 0))))
          (omega (arith, long, test, least, strip)) now.told
          (c.grounds_of.ensures ∙ ap (λ l. number_of (ground_of (terrain_of (get_or l (first + i) 0)))) c.characters-characters.ensures);
      rest = λ k behind. get_or-set_other grounds i k c.grounds_of.result 0 (omega (arith, behind)) ∙ now.rest k (omega (arith, behind));
    }

pub returns-after-loop-i : goal.returns-after-loop-i
returns-after-loop-i c x least most =
    let m = c.args.map.now in
    let numbers = number_on c.args.entries.now m.width in
    let left = c.args.left in
    let y = c.args.y in
    let now = c.loop-i.invariant in
    let test = c.loop-i-test.false in
    let done = c.loop-i.auto.i-end in
    let end = c.min.ensures in
    let width = c.width-width.ensures.width in
    let row = c.if-y-height.true in
    let height = c.height-height.ensures.height in
    let corner = corner_in (record { grounds = c.loop-i.corners.grounds; keys = c.put_numbers.new.numbers }) (x - left) in
    elim (cases_lt x m.width) [
      | inl on ↦
          let first : y * c.width-width.result + left + (x - left) ≡ y * m.width + x = ap (λ w. y * w + left + (x - left)) width ∙ omega (arith, least) in
          told_on m numbers x y (y * c.width-width.result + left + (x - left)) corner c.width-width.ensures.map on
          (omega (arith, row, height)) first (now.told (x - left) (omega (arith, on, test, end, width, least, most)))
          (c.put_numbers.ensures.told (x - left) (omega (arith, on, end, width, least, most))
          ∙ ap (λ w. number_on c.args.entries.now w (left + (x - left)) y) width ∙ ap (λ i. number_on c.args.entries.now m.width i y) (let e : left + (x - left) ≡ x = omega (arith, least) in e))
      | inr off ↦ told_off m numbers x y corner (λ on. let column = on.0 in omega (arith, off, column)) (now.rest (x - left) (omega (arith, done, end, width, off, least)))
    ]

pub returns-else-y-height : goal.returns-else-y-height
returns-else-y-height c x least most =
    let below = c.if-y-height.false in
    let height = c.height-height.ensures.height in
    told_off c.args.map.now (number_on c.args.entries.now c.args.map.now.width) x c.args.y _ (λ on. let row = on.1 in omega (arith, below, height, row)) (c.blocked-corners.ensures (x - c.args.left))
