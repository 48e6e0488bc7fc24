-- Where the agents of a plan start and come to rest, one after another.
use Rattle.std.proofs.Common.{◌≡◌, ◌∙◌, ℕ, zero, suc, ◌+◌, ◌≤◌, List, [], ◌∷◌, ◌++◌, length, take, Option, Some, None, arith, sym, ap}
use Rattle.std.specs.Option.{option_map}
use Rattle.std.proofs.Math.Seq.{take-nil}
use Rattle.std.specs.Prelude.{map, slice_get}
use Rattle.std.proofs.lemmas.Option.{none-some, same_Some}
use Rattle.grid.specs.declared.cell.Cell.{Cell}
use Rattle.model.specs.Costs.{cost}
use Rattle.model.specs.Laws.Tracks.{cell_at-start}
use Rattle.model.specs.Timetable.{Track, cell_at}
use Rattle.optimality.specs.declared.constraint.Ends.{Ends}
use Rattle.optimality.specs.Splitting.{ends_of}

-- those of one agent more
more : (tracks : List Track) (i : ℕ) (own : Ends) → Some own ≡ option_map ends_of (slice_get tracks i)
    → map ends_of (take (suc i) tracks) ≡ map ends_of (take i tracks) ++ own ∷ []
more [] i own is = absurd (none-some own (sym is))
more (track ∷ tracks) zero own is = ap (λ (e : Ends). e ∷ []) (sym (same_Some own (ends_of track) is))
more (track ∷ tracks) (suc i) own is = ap (λ (l : List Ends). ends_of track ∷ l) (more tracks i own is)

pub ends_more : (tracks : List Track) (i : ℕ) (own : Ends) → Some own ≡ option_map ends_of (slice_get tracks i)
    → map ends_of (take (i + 1) tracks) ≡ map ends_of (take i tracks) ++ own ∷ []
ends_more tracks i own is = let next : suc i ≡ i + 1 = omega arith in ap (λ k. map ends_of (take k tracks)) (sym next) ∙ more tracks i own is

-- past the last agent they are all
pub ends_all : (tracks : List Track) (i : ℕ) → length tracks ≤ i → map ends_of (take i tracks) ≡ map ends_of tracks
ends_all [] i past = ap (map ends_of) (take-nil i)
ends_all (track ∷ tracks) zero past = absurd (omega (arith, past))
ends_all (track ∷ tracks) (suc i) past = ap (λ (l : List Ends). ends_of track ∷ l) (ends_all tracks i (omega (arith, past)))

pub ends_past : (tracks : List Track) (i : ℕ) → None ≡ option_map ends_of (slice_get tracks i) → map ends_of (take i tracks) ≡ map ends_of tracks
ends_past [] i none = ap (map ends_of) (take-nil i)
ends_past (track ∷ tracks) zero none = absurd (none-some (ends_of track) none)
ends_past (track ∷ tracks) (suc i) none = ap (λ (l : List Ends). ends_of track ∷ l) (ends_past tracks i none)

-- an agent's ends are the cells at these times
pub ends_found : (o : Option Track) (start goal : Cell) (n : ℕ) → Some start ≡ option_map (λ track. cell_at track 0) o → Some n ≡ option_map cost o
    → Some goal ≡ option_map (λ track. cell_at track n) o → Some (record { start = start; goal = goal }) ≡ option_map ends_of o
ends_found None start goal n is_start is_cost is_goal = absurd (none-some start (sym is_start))
ends_found (Some track) start goal n is_start is_cost is_goal =
    let from : start ≡ track.start = same_Some start (cell_at track 0) is_start ∙ cell_at-start track.start track.later in
    let to : goal ≡ cell_at track (cost track) = same_Some goal (cell_at track n) is_goal ∙ ap (cell_at track) (same_Some n (cost track) is_cost) in
    ap (λ (c : Cell). Some (record { start = c; goal = goal })) from ∙ ap (λ (c : Cell). Some (record { start = track.start; goal = c })) to
