-- Agents with what they cost and at least, one after another.
use Rattle.std.proofs.Common.{◌≡◌, ◌∙◌, ℕ, ◌+◌, ◌≤◌, Bool, true, false, List, [], ◌∷◌, ◌++◌, length, Some, None, drop, ap, ap₂, arith, inl, inr, refl, sym}
use Rattle.std.specs.Prelude.{codes, max, nat_lt, option_map, slice_get}
use Rattle.std.proofs.lemmas.Bool.{lt-ltb}
use Rattle.std.proofs.lemmas.List.{at_drop_more, drop_all}
use Rattle.std.proofs.lemmas.Option.{get_or_from_slice_get, same_Some, slice_get_cases, slice_get_within}
use Rattle.model.specs.Costs.{cost}
use Rattle.model.specs.Timetable.{Track}
use Rattle.bounding.specs.Bounding.{greatest_bound}
use Rattle.ending.specs.declared.pieces.Piece.{Piece}
use Rattle.ending.specs.Pieces.{pieces_of, pieces_text}
use Rattle.check_commands.specs.BoundCommand.{agent_bound_json, costs_and_bounds, sums_json}
use Rattle.check_commands.specs.Code.Bounds.{object_text, objects_left}
use Rattle.check_commands.specs.VerdictText.{bounded_line}
use Rattle.ending.specs.Laws.Pieces.{SaysPiece}

pub greatest_more : (bounds : List ℕ) (bound : ℕ) → greatest_bound (bounds ++ bound ∷ []) ≡ max bound (greatest_bound bounds)
greatest_more [] bound = refl
greatest_more (first ∷ bounds) bound = let rest = greatest_more bounds bound in omega (arith, rest)

-- the next agent
pub pairs_more : (tracks : List Track) (bounds : List ℕ) (i cost_of bound : ℕ) → Some cost_of ≡ option_map cost (slice_get tracks i) → slice_get bounds i ≡ Some bound
    → costs_and_bounds (drop i tracks) (drop i bounds) ≡ (cost_of, bound) ∷ costs_and_bounds (drop (i + 1) tracks) (drop (i + 1) bounds)
pairs_more tracks bounds i cost_of bound costs is = elim (slice_get_cases tracks i).1 [
  | inl some ↦
      let track = some.0 in
      let own : cost_of ≡ cost track = same_Some cost_of (cost track) (costs ∙ ap (option_map cost) some.2) in
      let within = slice_get_within bounds i bound is in
      let tracks_at : drop i tracks ≡ track ∷ drop (i + 1) tracks = at_drop_more (λ l. l) tracks i track some.1 ∙ ap (λ t. t ∷ drop (i + 1) tracks) some.3 in
      let bounds_at : drop i bounds ≡ bound ∷ drop (i + 1) bounds
      = at_drop_more (λ l. l) bounds i 0 within ∙ ap (λ b. b ∷ drop (i + 1) bounds) (get_or_from_slice_get bounds i bound 0 is) in
      ap₂ costs_and_bounds tracks_at bounds_at ∙ ap (λ n. (n, bound) ∷ costs_and_bounds (drop (i + 1) tracks) (drop (i + 1) bounds)) (sym own)
  | inr past ↦ (let none : Some cost_of ≡ None = costs ∙ ap (option_map cost) past.1 in cc)
]

-- there is none where a list has ended
no_bounds : (tracks : List Track) → costs_and_bounds tracks [] ≡ []
no_bounds [] = refl
no_bounds (track ∷ tracks) = refl

pub past_bounds : (tracks : List Track) (bounds : List ℕ) (i : ℕ) → length bounds ≤ i → costs_and_bounds (drop i tracks) (drop i bounds) ≡ []
past_bounds tracks bounds i past = ap (costs_and_bounds (drop i tracks)) (drop_all i bounds past) ∙ no_bounds (drop i tracks)

pub past_tracks : (tracks : List Track) (bounds : List ℕ) (i : ℕ) → length tracks ≤ i → costs_and_bounds (drop i tracks) (drop i bounds) ≡ []
past_tracks tracks bounds i past = ap (λ l. costs_and_bounds l (drop i bounds)) (drop_all i tracks past)

pub no_cost : (tracks : List Track) (bounds : List ℕ) (i : ℕ) → None ≡ option_map cost (slice_get tracks i) → costs_and_bounds (drop i tracks) (drop i bounds) ≡ []
no_cost tracks bounds i none = elim (slice_get_cases tracks i).1 [
  | inl some ↦ (let bad : None ≡ Some (cost some.0) = none ∙ ap (option_map cost) some.2 in cc)
  | inr past ↦ past_tracks tracks bounds i past.0
]

pub object_more : (follows : Bool) (pair : ℕ × ℕ) (pairs : List (ℕ × ℕ)) → objects_left follows (pair ∷ pairs) ≡ object_text follows pair ++ objects_left true pairs
object_more false pair pairs = refl
object_more true pair pairs = refl

pub is_behind : (i : ℕ) → nat_lt 0 (i + 1) ≡ true
is_behind i = lt-ltb 0 (i + 1) (omega arith)

pub none_left : (follows : Bool) → objects_left follows [] ≡ []
none_left false = refl
none_left true = refl

-- ---- the pieces

pub sums-parts : (cost_of cost_bound most most_bound : ℕ) (end : List ℕ) (a b d e : Piece)
    → SaysPiece a (codes "{\"cost\":") cost_of → SaysPiece b (codes ",\"cost_bound\":") cost_bound
    → SaysPiece d (codes ",\"makespan\":") most → SaysPiece e (codes ",\"makespan_bound\":") most_bound
    → pieces_text (pieces_of (a ∷ b ∷ d ∷ e ∷ [])) ++ end ≡ sums_json cost_of cost_bound most most_bound ++ end
sums-parts cost_of cost_bound most most_bound end a b d e f g h i = rw (f.0, f.1, g.0, g.1, h.0, h.1, i.0, i.1) refl

pub bounded-json-parts : (agents cost_of most cost_bound most_bound : ℕ) (a b d e f : Piece)
    → SaysPiece a (codes "{\"accepted\":true,\"agents\":") agents → SaysPiece b (codes ",\"cost\":") cost_of → SaysPiece d (codes ",\"makespan\":") most
    → SaysPiece e (codes ",\"cost_bound\":") cost_bound → SaysPiece f (codes ",\"makespan_bound\":") most_bound
    → pieces_text (pieces_of (a ∷ b ∷ d ∷ e ∷ f ∷ [])) ++ codes "}\n" ≡ bounded_line true agents cost_of most cost_bound most_bound
bounded-json-parts agents cost_of most cost_bound most_bound a b d e f g h i j k = rw (g.0, g.1, h.0, h.1, i.0, i.1, j.0, j.1, k.0, k.1) refl

pub bounded-parts : (agents cost_of most cost_bound most_bound : ℕ) (a b d e f : Piece)
    → SaysPiece a (codes "accepted agents ") agents → SaysPiece b (codes " cost ") cost_of → SaysPiece d (codes " of ") cost_bound
    → SaysPiece e (codes " makespan ") most → SaysPiece f (codes " of ") most_bound
    → pieces_text (pieces_of (a ∷ b ∷ d ∷ e ∷ f ∷ [])) ++ codes "\n" ≡ bounded_line false agents cost_of most cost_bound most_bound
bounded-parts agents cost_of most cost_bound most_bound a b d e f g h i j k = rw (g.0, g.1, h.0, h.1, i.0, i.1, j.0, j.1, k.0, k.1) refl

pub object-pieces : (pair : ℕ × ℕ) (a b : Piece) → SaysPiece a (codes "{\"cost\":") pair.0 → SaysPiece b (codes ",\"bound\":") pair.1
    → pieces_text (pieces_of (a ∷ b ∷ [])) ++ codes "}" ≡ agent_bound_json pair
object-pieces pair a b f g = rw (f.0, f.1, g.0, g.1) refl
