-- A track that ends at rest is told by its path and the times of its moves.
use Rattle.std.proofs.Common.{◌≡◌, ℕ, zero, suc, ◌+◌, ◌-◌, ◌<◌, ◌⊎◌, true, false, List, [], ◌∷◌}
use Rattle.std.proofs.Common.{◌++◌, length, get_or, take, drop, replicate, Some, None, inl, inr}
use Rattle.std.proofs.Common.{arith, refl, sym, ap, subst, append_assoc, ◌∙◌}
use Rattle.std.specs.Prelude.{◌==◌, ◌&&◌, All}
use Rattle.std.proofs.lemmas.Bool.{cases_Bool, cond-true, cond-false, and_from, false≢true}
use Rattle.std.proofs.lemmas.Grind.{replicate_next}
use Rattle.std.proofs.lemmas.List.{ext_get_or}
use Rattle.std.proofs.lemmas.List.Elements.{All-get_or}
use Rattle.grid.specs.declared.cell.Cell.{Cell}
use Rattle.model.specs.Costs.{cost, cost_after, EndsAtRest}
use Rattle.model.specs.Timetable.{Track, same_cell}
use Rattle.model.specs.Laws.Tracks.{same_cell-same}
use Rattle.checker.specs.Checking.{cells_of}
use Rattle.depgraph.specs.Code.Arrivals.{entered, entry_times}
use Rattle.depgraph.specs.Code.Paths.{ArePaths, begin_of}
use Rattle.depgraph.specs.Code.Tracks.{later_by, track_by, tracks_from, tracks_by}
use Rattle.depgraph.proofs.ArrivalLemmas.{entered-stays, entered-moves, times-stays, times-moves, entered_path}
use Rattle.depgraph.proofs.PathLemmas.{no_track, own_path, own_times, begin_before}

-- the agent ends at rest: it costs as many steps as there are
abbrev RestsAtEnd : Cell → List Cell → Type 0
RestsAtEnd c cells = cost_after c cells ≡ length cells

rests_on : (c d : Cell) (cells : List Cell) → RestsAtEnd c (d ∷ cells) → (cost_after d cells == 0) && same_cell c d ≡ false
rests_on c d cells h = elim (cases_Bool ((cost_after d cells == 0) && same_cell c d)) [
  | inl both ↦ (let none = cond-true ((cost_after d cells == 0) && same_cell c d) 0 (cost_after d cells + 1) both in absurd (omega (arith, h, none)))
  | inr other ↦ other
]

rests_after : (c d : Cell) (cells : List Cell) → RestsAtEnd c (d ∷ cells) → RestsAtEnd d cells
rests_after c d cells h =
    let next = cond-false ((cost_after d cells == 0) && same_cell c d) 0 (cost_after d cells + 1) (rests_on c d cells h) in
    omega (arith, h, next)

-- an agent that waits has a move to come
waits_for : (c d : Cell) (cells : List Cell) → RestsAtEnd c (d ∷ cells) → same_cell c d ≡ true → 0 < length cells
waits_for c d [] h same = absurd (false≢true (sym (rests_on c d [] h) ∙ and_from (cost_after d [] == 0) (same_cell c d) refl same))
waits_for c d (e ∷ cells) h same = omega arith

replicate-more : (n : ℕ) (c : Cell) (cells : List Cell) → replicate (n + 1) c ++ cells ≡ replicate n c ++ c ∷ cells
replicate-more n c cells = ap (λ l. l ++ cells) (replicate_next n c) ∙ append_assoc (replicate n c) (c ∷ []) cells

pub later-told : (c : Cell) (cells : List Cell) (t waits : ℕ) → RestsAtEnd c cells → (waits ≡ 0) ⊎ (0 < length cells)
    → later_by c t (entered (Some c) cells) (entry_times (Some c) cells (t + waits + 1)) ≡ replicate waits c ++ cells
later-told c [] t waits h (inl none) = ap (λ n. replicate n c ++ []) (sym none)
later-told c [] t waits h (inr some) = absurd (omega (arith, some))
later-told c (d ∷ cells) t waits h some = elim (cases_Bool (same_cell c d)) [
  | inl same ↦
      let one : d ≡ c = sym (same_cell-same c d same) in
      let next : t + waits + 1 + 1 ≡ t + (waits + 1) + 1 = omega arith in
      ap (λ l. later_by c t l (entry_times (Some c) (d ∷ cells) (t + waits + 1))) (entered-stays c d cells same)
      ∙ ap (later_by c t (entered (Some d) cells)) (times-stays c d cells (t + waits + 1) same ∙ ap (entry_times (Some d) cells) next)
      ∙ ap (λ e. later_by c t (entered (Some e) cells) (entry_times (Some e) cells (t + (waits + 1) + 1))) one
      ∙ later-told c cells t (waits + 1) (subst (λ e. RestsAtEnd e cells) one (rests_after c d cells h)) (inr (waits_for c d cells h same))
      ∙ replicate-more waits c cells ∙ ap (λ e. replicate waits c ++ e ∷ cells) (sym one)
  | inr other ↦
      let gap : t + waits + 1 - t - 1 ≡ waits = omega arith in
      let next : t + waits + 1 + 1 ≡ t + waits + 1 + 0 + 1 = omega arith in
      ap (λ l. later_by c t l (entry_times (Some c) (d ∷ cells) (t + waits + 1))) (entered-moves c d cells other)
      ∙ ap (later_by c t (d ∷ entered (Some d) cells)) (times-moves c d cells (t + waits + 1) other)
      ∙ ap (λ n. replicate n c ++ d ∷ later_by d (t + waits + 1) (entered (Some d) cells) (entry_times (Some d) cells (t + waits + 1 + 1))) gap
      ∙ ap (λ l. replicate waits c ++ d ∷ l)
      (ap (λ n. later_by d (t + waits + 1) (entered (Some d) cells) (entry_times (Some d) cells n)) next
      ∙ later-told d cells (t + waits + 1) 0 (rests_after c d cells h) (inl refl))
]

pub track_told : (track : Track) → cost track ≡ length track.later → track_by (entered None (cells_of track)) (entry_times None (cells_of track) 0) ≡ track
track_told track h = ap (λ l. record { start = track.start; later = l }) (
    ap (λ n. later_by track.start 0 (entered (Some track.start) track.later) (entry_times (Some track.start) track.later n)) (omega arith)
    ∙ later-told track.start track.later 0 0 h (inl refl))

-- ---- all tracks

count_from : (begin : ℕ) (ends : List ℕ) (cells : List Cell) (times : List ℕ) → length (tracks_from begin ends cells times) ≡ length ends
count_from begin [] cells times = refl
count_from begin (end ∷ ends) cells times = ap suc (count_from end ends cells times)

-- where the part of an agent begins: at the end of the one before
abbrev begin_at : ℕ → List ℕ → ℕ → ℕ
begin_at begin ends zero = begin
begin_at begin ends (suc i) = get_or ends i 0

track_from : (begin : ℕ) (ends : List ℕ) (cells : List Cell) (times : List ℕ) (i : ℕ) (d : Track) → i < length ends
    → get_or (tracks_from begin ends cells times) i d
    ≡ track_by (take (get_or ends i 0 - begin_at begin ends i) (drop (begin_at begin ends i) cells)) (take (get_or ends i 0 - begin_at begin ends i) (drop (begin_at begin ends i) times))
track_from begin [] cells times i d less = absurd (omega (arith, less))
track_from begin (end ∷ ends) cells times zero d less = refl
track_from begin (end ∷ ends) cells times (suc zero) d less = track_from end ends cells times zero d (omega (arith, less))
track_from begin (end ∷ ends) cells times (suc (suc i)) d less = track_from end ends cells times (suc i) d (omega (arith, less))

begins : (tracks : List Track) (cells : List Cell) (times ends : List ℕ) (i : ℕ) → ArePaths tracks cells times ends → i < length tracks
    → begin_at 0 ends i ≡ begin_of tracks i
begins tracks cells times ends zero h less = refl
begins tracks cells times ends (suc i) h less =
    let next : i + 1 ≡ suc i = omega arith in
    begin_before tracks cells times ends i h (omega (arith, less)) ∙ ap (begin_of tracks) next

pub tracks_told : (tracks : List Track) (cells : List Cell) (times ends : List ℕ) → ArePaths tracks cells times ends → All EndsAtRest tracks
    → tracks_by cells times ends ≡ tracks
tracks_told tracks cells times ends h rest =
    let whole = count_from 0 ends cells times in
    let count = h.count in
    ext_get_or no_track (tracks_by cells times ends) tracks (whole ∙ count) (λ i less.
    let within : i < length tracks = omega (arith, less, whole, count) in
    let begin = begins tracks cells times ends i h within in
    track_from 0 ends cells times i no_track (omega (arith, less, whole))
    ∙ ap (λ b. track_by (take (get_or ends i 0 - b) (drop b cells)) (take (get_or ends i 0 - b) (drop b times))) begin
    ∙ ap (λ l. track_by l (take (get_or ends i 0 - begin_of tracks i) (drop (begin_of tracks i) times)))
    (own_path tracks cells times ends i no_track h within ∙ sym (entered_path (get_or tracks i no_track)))
    ∙ ap (track_by (entered None (cells_of (get_or tracks i no_track)))) (own_times tracks cells times ends i no_track h within)
    ∙ track_told (get_or tracks i no_track) (sym (All-get_or EndsAtRest tracks i no_track within rest)))
