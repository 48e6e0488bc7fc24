-- The characters of two cells of the map are those of their terrain.
use Rattle.std.proofs.Common.{◌≡◌, ◌∙◌, ◌<◌, IsTrue, ap, arith, get_or, subst, sym}
use Rattle.grid.specs.Map.{AreJoined, terrain_at}
use Rattle.grid.specs.Code.Joining.{joins_by}
use Rattle.grid.proofs.JoiningLemmas.{joined-characters}
use Rattle.grid.proofs.joining.are_joined.Goals as goal

pub returns : goal.returns
returns c =
    let m = c.args.map.now in
    let from = c.args.from in
    let to = c.args.to in
    let i = c.place_of.result in
    let j = c.place_of-2.result in
    let to_in : (to.x < m.width) × (to.y < m.height) = (omega arith, omega arith) in
    let is : IsTrue c.joins.result ≡ AreJoined (terrain_at m from) (terrain_at m to) =
    ap IsTrue c.joins.ensures ∙ ap (λ l. IsTrue (joins_by (get_or l i 0) (get_or l j 0))) c.characters-characters.ensures
    ∙ joined-characters m c.width.ensures.map from to i j c.requires to_in c.place_of.ensures.place c.place_of-2.ensures.place in
    (λ h. subst (λ P. P) is h, λ h. subst (λ P. P) (sym is) h)
