-- What one agent needs of a graph is what the timetable tells of it.
use Rattle.std.proofs.Common.{◌≡◌, ℕ, zero, suc, ◌+◌, ◌≤◌, List, [], ◌∷◌, length}
use Rattle.std.proofs.Common.{Some, None, inl, inr, arith, refl, sym, ap, subst, ◌∙◌}
use Rattle.std.specs.Prelude.{Option, option_map, slice_get}
use Rattle.std.specs.List.{AllByRecursion}
use Rattle.std.proofs.lemmas.Bool.{cases_Bool, cond-true, cond-false}
use Rattle.std.proofs.lemmas.List.{length-map}
use Rattle.std.proofs.lemmas.Option.{none-some, same_Some, slice_get-map, slice_get-get_or}
use Rattle.grid.specs.declared.cell.Cell.{Cell}
use Rattle.model.specs.Rules.{path_cell}
use Rattle.model.specs.Timetable.{Track, Timetable, same_cell, moves_after, moves, path, track_of}
use Rattle.model.specs.Laws.Tracks.{length-path}
use Rattle.depgraph.specs.AgentParts.{AgentPart, IsPartOf, IsOfGraph}
use Rattle.depgraph.specs.Graphs.{IsGraphed}

-- ---- how many moves there are

pub moves-within : (c : Cell) (cells : List Cell) (t : ℕ) → moves_after c cells t ≤ length cells
moves-within c [] t = omega arith
moves-within c (d ∷ cells) zero = omega arith
moves-within c (d ∷ cells) (suc t) = elim (cases_Bool (same_cell c d)) [
  | inl same ↦ (let is =
      cond-true (same_cell c d) (moves_after d cells t) (moves_after d cells t + 1) same in
      let rest = moves-within d cells t in omega (arith, is, rest))
  | inr other ↦ (let is =
      cond-false (same_cell c d) (moves_after d cells t) (moves_after d cells t + 1) other in
      let rest = moves-within d cells t in omega (arith, is, rest))
]

few_moves : (tracks : List Track) (i : ℕ) (track : Track)
    → AllByRecursion (λ t. length t.later ≤ 65535) tracks → slice_get tracks i ≡ Some track
    → moves track ≤ 65535
few_moves [] i track all is = absurd (none-some track is)
few_moves (first ∷ tracks) zero track all is =
    (let within = moves-within track.start track.later (length track.later) in
    let most = subst (λ t. length t.later ≤ 65535) (same_Some first track is) all.0 in
    omega (arith, within, most))
few_moves (first ∷ tracks) (suc i) track all is = few_moves tracks i track all.1 is

pub moves-limit : (tt : Timetable) (i : ℕ) (track : Track) → IsGraphed tt
    → track_of tt i ≡ Some track → moves track ≤ 65535
moves-limit tt i track graphed is = few_moves tt.tracks i track graphed.step_limit is

-- a graph tells no more moves
pub graphed-most : (table : Timetable) (i count : ℕ) → IsGraphed table
    → Some count ≡ option_map moves (track_of table i) → count ≤ 65535
graphed-most table i count graphed is = told (track_of table i) refl is
  where
    told : (o : Option Track) → track_of table i ≡ o → Some count ≡ option_map moves o
        → count ≤ 65535
    told None known same = absurd (none-some count (sym same))
    told (Some track) known same =
        (let most = moves-limit table i track graphed known in let one =
        same_Some count (moves track) same in omega (arith, most, one))

-- ---- a part of a timetable

module _ (tt : Timetable) (p : AgentPart) (is : IsPartOf tt p) where
  pub count-agents : length p.moves ≡ length tt.tracks
  count-agents = ap length is.all_moves ∙ length-map tt.tracks moves

  pub moves-told : (i : ℕ) → slice_get p.moves i ≡ option_map moves (track_of tt i)
  moves-told i = ap (λ l. slice_get l i) is.all_moves ∙ slice_get-map moves tt.tracks i

  pub own-moves : slice_get p.moves p.agent ≡ Some (moves is.track)
  own-moves = moves-told p.agent ∙ ap (option_map moves) is.is_track

  pub count-cells : length p.cells ≡ moves is.track + 1
  count-cells = ap length is.cells ∙ length-path is.track.start is.track.later

-- the cells of a path
pub cell-there : (track : Track) (cells : List Cell) (k : ℕ) → cells ≡ path track → k ≤ moves track
    → slice_get cells k ≡ Some (path_cell track k)
cell-there track cells k is most =
    let count = length-path track.start track.later in
    ap (λ l. slice_get l k) is ∙ slice_get-get_or (path track) k track.start
    (omega (arith, count, most))

-- ---- a part of a graph

pub few-agents : (p : AgentPart) → IsOfGraph p → length p.moves ≤ 10000
few-agents p of =
    (let count = count-agents of.0 p of.2 in let most = of.1.agent_limit in
    omega (arith, count, most))

pub told-most
    : (p : AgentPart) (i count : ℕ) → IsOfGraph p → Some count ≡ slice_get p.moves i → count ≤ 65535
told-most p i count of told = by (track_of of.0 i) refl (told ∙ moves-told of.0 p of.2 i) where
  by : (o : Option Track) → track_of of.0 i ≡ o → Some count ≡ option_map moves o → count ≤ 65535
  by None known same = absurd (none-some count (sym same))
  by (Some track) known same =
      (let most = moves-limit of.0 i track of.1 known in let one =
      same_Some count (moves track) same in omega (arith, most, one))

pub own-most : (p : AgentPart) → (of : IsOfGraph p) → moves of.2.track ≤ 65535
own-most p of = moves-limit of.0 p.agent of.2.track of.1 of.2.is_track

pub few-cells : (p : AgentPart) → IsOfGraph p → length p.cells ≤ 65536
few-cells p of =
    (let count = count-cells of.0 p of.2 in let most = own-most p of in
    omega (arith, count, most))
