-- The paths of agents in one list, with one agent more, and the part of one agent.
use Rattle.std.proofs.Common.{◌≡◌, ℕ, zero, suc, ◌+◌, ◌-◌, ◌<◌, List, [], ◌∷◌, ◌++◌, length, get_or, take, drop, Some, None, inl, inr, arith, refl, sym, ap, append_assoc, ◌∙◌}
use Rattle.std.specs.Prelude.{Option, option_map, slice_get}
use Rattle.std.proofs.Math.Seq.{drop-append_seam, take-append_seam}
use Rattle.std.proofs.lemmas.Bool.{cases_lt, cases_Bool, cond-true, cond-false}
use Rattle.std.proofs.lemmas.Option.{slice_get-get_or}
use Rattle.std.proofs.lemmas.List.{append-nil, length-append, take_more, drop_more, take_all, take-append-le, take-append-drop, get_or_push, get_or_append_left}
use Rattle.grid.specs.declared.cell.Cell.{Cell}
use Rattle.model.specs.Timetable.{Track, Timetable, Stands, cell_after, path}
use Rattle.model.specs.Laws.Needs.{stands-from}
use Rattle.model.specs.Laws.Tracks.{cell_at-start}
use Rattle.checker.specs.Checking.{cells_of}
use Rattle.depgraph.specs.Code.Arrivals.{is_new, entered, entry_times}
use Rattle.depgraph.specs.Code.Paths.{all_entered, all_times, ArePaths, begin_of}
use Rattle.depgraph.proofs.ArrivalLemmas.{entered_path}
use Rattle.depgraph.specs.Laws.Rising.{some_one}

pub no_track : Track
no_track = record { start = record { x = 0; y = 0 }; later = [] }

-- the cells of the track at a place, as a plan lends them
pub track_cells : (tracks : List Track) (n : ℕ) (cells : List Cell) → n < length tracks → Some cells ≡ option_map cells_of (slice_get tracks n) → cells ≡ cells_of (get_or tracks n no_track)
track_cells tracks n cells within told = some_one cells (cells_of (get_or tracks n no_track)) (told ∙ ap (option_map cells_of) (slice_get-get_or tracks n no_track within))

-- the cells along a track are those of its times
along : (c : Cell) (cells : List Cell) (t : ℕ) (d : Cell) → t < length (c ∷ cells) → cell_after c cells t ≡ get_or (c ∷ cells) t d
along c cells zero d less = cell_at-start c cells
along c [] (suc t) d less = absurd (omega (arith, less))
along c (e ∷ cells) (suc t) d less = along e cells t d (omega (arith, less))

pub cells_along : (tt : Timetable) (i t : ℕ) (d : Cell) → i < length tt.tracks → t < length (cells_of (get_or tt.tracks i no_track)) → Stands tt i t
    (get_or (cells_of (get_or tt.tracks i no_track)) t d)
cells_along tt i t d less inside =
    let track = get_or tt.tracks i no_track in
    stands-from tt i t (get_or (cells_of track) t d) track (slice_get-get_or tt.tracks i no_track less) (along track.start track.later t d inside)

pub all_entered-push : (tracks : List Track) (track : Track) → all_entered (tracks ++ track ∷ []) ≡ all_entered tracks ++ entered None (cells_of track)
all_entered-push [] track = append-nil (entered None (cells_of track))
all_entered-push (first ∷ tracks) track =
    ap (λ l. entered None (cells_of first) ++ l) (all_entered-push tracks track)
    ∙ sym (append_assoc (entered None (cells_of first)) (all_entered tracks) (entered None (cells_of track)))

pub all_times-push : (tracks : List Track) (track : Track) → all_times (tracks ++ track ∷ []) ≡ all_times tracks ++ entry_times None (cells_of track) 0
all_times-push [] track = append-nil (entry_times None (cells_of track) 0)
all_times-push (first ∷ tracks) track =
    ap (λ l. entry_times None (cells_of first) 0 ++ l) (all_times-push tracks track)
    ∙ sym (append_assoc (entry_times None (cells_of first) 0) (all_times tracks) (entry_times None (cells_of track) 0))

pub paths-more : (tracks : List Track) (track : Track) (cells more_cells : List Cell) (times more_times ends more_ends : List ℕ) → ArePaths tracks cells times ends
    → more_cells ≡ cells ++ entered None (cells_of track) → more_times ≡ times ++ entry_times None (cells_of track) 0
    → more_ends ≡ ends ++ length more_cells ∷ [] → ArePaths (tracks ++ track ∷ []) more_cells more_times more_ends
paths-more tracks track cells more_cells times more_times ends more_ends h are_cells are_times are_ends =
    let whole = length-append tracks (track ∷ []) in
    let count = h.count in
    let cells_now : more_cells ≡ all_entered (tracks ++ track ∷ []) = are_cells ∙ ap (λ l. l ++ entered None (cells_of track)) h.are_cells ∙ sym (all_entered-push tracks track) in
    record {
      are_cells = cells_now;
      are_times = are_times ∙ ap (λ l. l ++ entry_times None (cells_of track) 0) h.are_times ∙ sym (all_times-push tracks track);
      count = ap length are_ends ∙ length-append ends (length more_cells ∷ []) ∙ omega (arith, whole, count);
      are_ends = λ i less. elim (cases_lt i (length tracks)) [
        | inl before ↦
            ap (λ l. get_or l i 0) are_ends ∙ get_or_append_left ends (length more_cells ∷ []) 0 i (omega (arith, before, count)) ∙ h.are_ends i before
            ∙ ap (λ l. length (all_entered l)) (sym (take-append-le (i + 1) tracks (track ∷ []) (omega (arith, before))))
        | inr last ↦
            let is : length ends ≡ i = omega (arith, less, last, whole, count) in
            ap (λ l. get_or l i 0) are_ends ∙ get_or_push ends (length more_cells) 0 i is ∙ ap length cells_now
            ∙ ap (λ l. length (all_entered l)) (sym (take_all (i + 1) (tracks ++ track ∷ []) (omega (arith, less, last, whole))))
      ];
    }

-- ---- the part of one agent

pub all_entered-append : (front back : List Track) → all_entered (front ++ back) ≡ all_entered front ++ all_entered back
all_entered-append [] back = refl
all_entered-append (first ∷ front) back =
    ap (λ l. entered None (cells_of first) ++ l) (all_entered-append front back)
    ∙ sym (append_assoc (entered None (cells_of first)) (all_entered front) (all_entered back))

pub all_times-append : (front back : List Track) → all_times (front ++ back) ≡ all_times front ++ all_times back
all_times-append [] back = refl
all_times-append (first ∷ front) back =
    ap (λ l. entry_times None (cells_of first) 0 ++ l) (all_times-append front back)
    ∙ sym (append_assoc (entry_times None (cells_of first) 0) (all_times front) (all_times back))

same_length_from : (here : Option Cell) (cells : List Cell) (t : ℕ) → length (entry_times here cells t) ≡ length (entered here cells)
same_length_from here [] t = refl
same_length_from here (c ∷ cells) t = elim (cases_Bool (is_new here c)) [
  | inl new ↦ (
      let rest = same_length_from (Some c) cells (t + 1) in
      let left = ap length (cond-true (is_new here c) (t ∷ entry_times (Some c) cells (t + 1)) (entry_times (Some c) cells (t + 1)) new) in
      let right = ap length (cond-true (is_new here c) (c ∷ entered (Some c) cells) (entered (Some c) cells) new) in
      omega (arith, rest, left, right)
      )
  | inr old ↦ (
      let rest = same_length_from (Some c) cells (t + 1) in
      let left = ap length (cond-false (is_new here c) (t ∷ entry_times (Some c) cells (t + 1)) (entry_times (Some c) cells (t + 1)) old) in
      let right = ap length (cond-false (is_new here c) (c ∷ entered (Some c) cells) (entered (Some c) cells) old) in
      omega (arith, rest, left, right)
      )
]

pub same_length : (tracks : List Track) → length (all_times tracks) ≡ length (all_entered tracks)
same_length [] = refl
same_length (track ∷ tracks) =
    let own = same_length_from None (cells_of track) 0 in
    let rest = same_length tracks in
    let left = length-append (entry_times None (cells_of track) 0) (all_times tracks) in
    let right = length-append (entered None (cells_of track)) (all_entered tracks) in
    omega (arith, own, rest, left, right)

-- what stands between two places of a list that is three lists
pub middle : {X : Type 0} (front own back whole : List X) (begin end : ℕ) → whole ≡ front ++ (own ++ back) → begin ≡ length front → end ≡ length (front ++ own)
    → take (end - begin) (drop begin whole) ≡ own
middle front own back whole begin end is is_begin is_end =
    let long = length-append front own in
    let count : end - begin ≡ length own = omega (arith, is_begin, is_end, long) in
    ap (λ n. take n (drop begin whole)) count ∙ ap (λ n. take (length own) (drop n whole)) is_begin ∙ ap (λ l. take (length own) (drop (length front) l)) is
    ∙ ap (take (length own)) (drop-append_seam front (own ++ back)) ∙ take-append_seam own back

-- the tracks are those before one, that one, and those behind it
parted : (tracks : List Track) (i : ℕ) (d : Track) → i < length tracks → tracks ≡ take i tracks ++ (get_or tracks i d ∷ drop (i + 1) tracks)
parted tracks i d less = sym (take-append-drop i tracks) ∙ ap (λ l. take i tracks ++ l) (drop_more tracks i d less)

part_cells : (tracks : List Track) (i : ℕ) (d : Track) → i < length tracks
    → all_entered tracks ≡ all_entered (take i tracks) ++ (entered None (cells_of (get_or tracks i d)) ++ all_entered (drop (i + 1) tracks))
part_cells tracks i d less = ap all_entered (parted tracks i d less) ∙ all_entered-append (take i tracks) (get_or tracks i d ∷ drop (i + 1) tracks)

part_times : (tracks : List Track) (i : ℕ) (d : Track) → i < length tracks
    → all_times tracks ≡ all_times (take i tracks) ++ (entry_times None (cells_of (get_or tracks i d)) 0 ++ all_times (drop (i + 1) tracks))
part_times tracks i d less = ap all_times (parted tracks i d less) ∙ all_times-append (take i tracks) (get_or tracks i d ∷ drop (i + 1) tracks)

end_cells : (tracks : List Track) (i : ℕ) (d : Track) → i < length tracks
    → length (all_entered (take (i + 1) tracks)) ≡ length (all_entered (take i tracks) ++ entered None (cells_of (get_or tracks i d)))
end_cells tracks i d less = ap (λ l. length (all_entered l)) (take_more tracks i d less) ∙ ap length (all_entered-push (take i tracks) (get_or tracks i d))

pub own_path : (tracks : List Track) (cells : List Cell) (times ends : List ℕ) (i : ℕ) (d : Track) → ArePaths tracks cells times ends → i < length tracks
    → take (get_or ends i 0 - begin_of tracks i) (drop (begin_of tracks i) cells) ≡ path (get_or tracks i d)
own_path tracks cells times ends i d h less =
    middle (all_entered (take i tracks)) (entered None (cells_of (get_or tracks i d))) (all_entered (drop (i + 1) tracks)) cells (begin_of tracks i) (get_or ends i 0)
    (h.are_cells ∙ part_cells tracks i d less) refl (h.are_ends i less ∙ end_cells tracks i d less) ∙ entered_path (get_or tracks i d)

pub own_times : (tracks : List Track) (cells : List Cell) (times ends : List ℕ) (i : ℕ) (d : Track) → ArePaths tracks cells times ends → i < length tracks
    → take (get_or ends i 0 - begin_of tracks i) (drop (begin_of tracks i) times) ≡ entry_times None (cells_of (get_or tracks i d)) 0
own_times tracks cells times ends i d h less =
    let front = same_length (take i tracks) in
    let own = same_length_from None (cells_of (get_or tracks i d)) 0 in
    let by_times = length-append (all_times (take i tracks)) (entry_times None (cells_of (get_or tracks i d)) 0) in
    let by_cells = length-append (all_entered (take i tracks)) (entered None (cells_of (get_or tracks i d))) in
    let end = h.are_ends i less ∙ end_cells tracks i d less in
    middle (all_times (take i tracks)) (entry_times None (cells_of (get_or tracks i d)) 0) (all_times (drop (i + 1) tracks)) times (begin_of tracks i) (get_or ends i 0)
    (h.are_times ∙ part_times tracks i d less) (sym front) (omega (arith, end, by_cells, by_times, front, own))

-- an agent's path begins where that of the agent before it ends
pub begin_before : (tracks : List Track) (cells : List Cell) (times ends : List ℕ) (i : ℕ) → ArePaths tracks cells times ends → i + 1 < length tracks
    → get_or ends i 0 ≡ begin_of tracks (i + 1)
begin_before tracks cells times ends i h less = h.are_ends i (omega (arith, less))
