-- Another cell's number stands elsewhere, and stays.
use Rattle.std.proofs.Common.{◌+◌, sym, ◌∙◌}
use Rattle.std.proofs.lemmas.List.{get_or-set_other}
use Rattle.depgraph.specs.Code.Tiles.{place_of}
use Rattle.depgraph.proofs.TileLemmas.{places_apart, still_covered}
use Rattle.depgraph.proofs.tiles.Tiles.number_of.Goals as goal

pub returns-then-known-eq0-clause-others : goal.returns-then-known-eq0-clause-others
returns-then-known-eq0-clause-others c = λ other covered differs.
    let old = c.args.self.now in
    let t = c.place_of.new.self in
    let cell = c.args.cell in
    let room = c.in_ok-place.ensures.room in
    let own = still_covered old t cell room.map c.requires.covered in
    let also = still_covered old t other room.map covered in
    get_or-set_other t.numbers.items c.in_ok-place.place (place_of t other) (c.args.next + 1) 0
    (λ same. differs (sym (places_apart t cell other room.tiles own also room.part (sym (same ∙ c.in_ok-place.ensures.place)))))
    ∙ room.kept other
