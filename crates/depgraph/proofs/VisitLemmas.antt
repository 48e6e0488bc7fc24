-- The visits of an agent are the entries of its path.
use Rattle.std.proofs.Common.{◌≡◌, ℕ, zero, suc, ◌+◌, ◌-◌, ◌<◌, ◌≤◌, false, List, ◌++◌, length, get_or, take, drop, Some, None, inl, inr, take-add, arith, refl, sym, ap, subst, ◌∙◌}
use Rattle.std.specs.Prelude.{slice_get}
use Rattle.std.proofs.lemmas.Bool.{cases_Bool, cases_lt}
use Rattle.std.proofs.lemmas.List.{get_or-take, get_or-drop, length-append, take_all, take_more}
use Rattle.std.proofs.lemmas.Option.{slice_get-get_or, slice_get_within, get_or_from_slice_get}
use Rattle.grid.specs.declared.cell.Cell.{Cell}
use Rattle.model.specs.Timetable.{Track, same_cell, cell_at, moves_before, path, step_of}
use Rattle.model.specs.Dependency.{IsVisit}
use Rattle.model.specs.Laws.Tracks.{same_cell-same, same_cell-true, moves-stay, moves-leave, moves-most, moves_at-start, cell-visit, length-path, visit_time, step-of_move}
use Rattle.checker.specs.Checking.{cells_of}
use Rattle.depgraph.specs.Code.Arrivals.{entered, entry_times}
use Rattle.depgraph.specs.Code.Entries.{begin_in, IsEntry, arrival_time}
use Rattle.depgraph.specs.Code.Paths.{all_entered, ArePaths, begin_of}
use Rattle.depgraph.proofs.ArrivalLemmas.{step-entered, entered_path}
use Rattle.depgraph.proofs.PathLemmas.{own_path, own_times, begin_before, all_entered-push, all_entered-append, no_track}

-- ---- the arrivals of one agent

-- the agent comes into a cell at the time, as the one with this index in its path
abbrev pub IsArrival : Track → ℕ → ℕ → Type 0
IsArrival track k s = (moves_before track s ≡ k) × ((before : ℕ) → s ≡ before + 1 → cell_at track before ≡ cell_at track s → ⊥)

-- who stands in a cell came into it
pub arrival : (track : Track) (t : ℕ) → (s : ℕ) × (s ≤ t) × IsArrival track (moves_before track t) s × (cell_at track s ≡ cell_at track t)
arrival track zero = (0, omega arith, (refl, λ before e same. omega (arith, e)), refl)
arrival track (suc t) = elim (cases_Bool (same_cell (cell_at track t) (cell_at track (suc t)))) [
  | inl stays ↦ (
      let same = same_cell-same (cell_at track t) (cell_at track (suc t)) stays in
      let came = arrival track t in
      let count = moves-stay track.start track.later t same in
      (came.0, (let most = came.1 in omega (arith, most)), (came.2.0 ∙ sym count, came.2.1), came.3 ∙ same)
      )
  | inr leaves ↦ (suc t, omega arith, (refl, λ before e same. parts t before leaves e same), refl)
] where
  parts : (t before : ℕ) → same_cell (cell_at track t) (cell_at track (suc t)) ≡ false → suc t ≡ before + 1 → cell_at track before ≡ cell_at track (suc t) → ⊥
  parts t before leaves e same =
      let one : before ≡ t = omega (arith, e) in
      let stays = same_cell-true (cell_at track t) (cell_at track (suc t)) (subst (λ n. cell_at track n ≡ cell_at track (suc t)) one same) in
      (let wrong = sym stays ∙ leaves in cc)

-- at a time after its start it comes in by a move
arrival-moves : (track : Track) (k s : ℕ) → IsArrival track k (suc s) → (moves_before track s + 1 ≡ k) × (step_of track (moves_before track s) ≡ s)
arrival-moves track k s h =
    let leaves : cell_at track s ≡ cell_at track (suc s) → ⊥ = h.1 s (omega arith) in
    let more = moves-leave track.start track.later s leaves in
    let is = h.0 in
    (omega (arith, more, is), step-of_move track.start track.later s leaves)

pub time_of_arrival : (track : Track) (k s : ℕ) → IsArrival track k s → s ≡ arrival_time track k
time_of_arrival track zero zero h = refl
time_of_arrival track (suc k) zero h = (let none = moves_at-start track.start track.later in let is = h.0 in absurd (omega (arith, none, is)))
time_of_arrival track zero (suc s) h = (let moved = (arrival-moves track 0 s h).0 in absurd (omega (arith, moved)))
time_of_arrival track (suc k) (suc s) h =
    let moved = arrival-moves track (suc k) s h in
    let count = moved.0 in
    let is : moves_before track s ≡ k = omega (arith, count) in
    let step = subst (λ n. step_of track n ≡ s) is moved.1 in
    omega (arith, step)

pub arrives : (track : Track) (k : ℕ) → k < length (path track) → IsArrival track k (arrival_time track k)
arrives track k less =
    let there = visit_time track.start track.later k less in
    let came = arrival track there.0 in
    let is = subst (λ n. IsArrival track n came.0) there.1 came.2 in
    subst (IsArrival track k) (time_of_arrival track k came.0 is) is

pub arrival-cell : (track : Track) (k s : ℕ) (d : Cell) → IsArrival track k s → get_or (path track) k d ≡ cell_at track s
arrival-cell track k s d h = ap (λ n. get_or (path track) n d) (sym h.0) ∙ cell-visit track.start track.later s d

pub entry_time : (track : Track) (k : ℕ) → k < length (path track) → get_or (entry_times None (cells_of track) 0) k 0 ≡ arrival_time track k
entry_time track zero less = refl
entry_time track (suc k) less =
    let long = length-path track.start track.later in
    get_or_from_slice_get (entry_times (Some track.start) track.later 1) k (1 + step_of track k) 0 (step-entered track.start track.later 1 k (omega (arith, less, long)))
    ∙ omega arith

-- ---- the entries of all agents

module _ (tracks : List Track) (cells : List Cell) (times ends : List ℕ) (h : ArePaths tracks cells times ends) where
  pub begin_is : (i : ℕ) → i < length tracks → begin_in ends i ≡ begin_of tracks i
  begin_is zero less = refl
  begin_is (suc i) less =
      let next : i + 1 ≡ suc i = omega arith in
      begin_before tracks cells times ends i h (omega (arith, less)) ∙ ap (begin_of tracks) next

  -- an agent's path ends where as many cells stand as its path has
  pub end_is : (i : ℕ) (track : Track) → slice_get tracks i ≡ Some track → get_or ends i 0 ≡ begin_of tracks i + length (path track)
  end_is i track is =
      let within = slice_get_within tracks i track is in
      let own = get_or_from_slice_get tracks i track track is in
      let last = h.are_ends i within in
      let more = ap (λ l. length (all_entered l)) (take_more tracks i track within) ∙ ap length (all_entered-push (take i tracks) (get_or tracks i track)) in
      let parts = length-append (all_entered (take i tracks)) (entered None (cells_of (get_or tracks i track))) in
      let long = ap length (ap (λ t. entered None (cells_of t)) own ∙ entered_path track) in
      omega (arith, last, more, parts, long)

  begin-rises : (i n : ℕ) → i + n ≤ length tracks → begin_of tracks i ≤ begin_of tracks (i + n)
  begin-rises i n most =
      let same : take (i + n) tracks ≡ take i tracks ++ take n (drop i tracks) = take-add i n tracks in
      let parts = ap (λ l. length (all_entered l)) same ∙ ap length (all_entered-append (take i tracks) (take n (drop i tracks))) in
      let long = length-append (all_entered (take i tracks)) (all_entered (take n (drop i tracks))) in
      omega (arith, parts, long)

  pub end_most : (i : ℕ) → i < length tracks → get_or ends i 0 ≤ length cells
  end_most i less =
      let last = h.are_ends i less in
      let next : i + 1 + (length tracks - (i + 1)) ≡ length tracks = omega (arith, less) in
      let rises = begin-rises (i + 1) (length tracks - (i + 1)) (omega (arith, less)) in
      let whole = ap (begin_of tracks) next ∙ ap (λ l. length (all_entered l)) (take_all (length tracks) tracks (omega arith)) in
      let all = ap length h.are_cells in
      omega (arith, last, rises, whole, all)

  pub entry-within : (i k e : ℕ) → IsEntry ends i k e → e < length cells
  entry-within i k e entry =
      let less = entry.is_agent in
      let count = h.count in
      let most = end_most i (omega (arith, less, count)) in
      let within = entry.within in
      omega (arith, most, within)

  -- the entries of an agent come before those of the agents behind it
  pub entry-before : (i j k l e f : ℕ) → i < j → IsEntry ends i k e → IsEntry ends j l f → e < f
  entry-before i j k l e f less own other =
      let count = h.count in
      let is_agent = own.is_agent in
      let is_other = other.is_agent in
      let end = h.are_ends i (omega (arith, is_agent, count)) in
      let next : i + 1 + (j - (i + 1)) ≡ j = omega (arith, less) in
      let rises = begin-rises (i + 1) (j - (i + 1)) (omega (arith, less, is_other, count)) in
      let same = ap (begin_of tracks) next in
      let begin = begin_is j (omega (arith, is_other, count)) in
      let a = own.within in
      let b = other.place in
      omega (arith, end, rises, same, begin, a, b)

  -- each entry is that of one agent and one index
  pub entry-one : (i j k l e : ℕ) → IsEntry ends i k e → IsEntry ends j l e → (i ≡ j) × (k ≡ l)
  entry-one i j k l e own other = elim (cases_lt i j) [
    | inl less ↦ (let wrong = entry-before i j k l e e less own other in absurd (omega (arith, wrong)))
    | inr not_less ↦ elim (cases_lt j i) [
      | inl less ↦ (let wrong = entry-before j i l k e e less other own in absurd (omega (arith, wrong)))
      | inr not_more ↦ (
          let one : i ≡ j = omega (arith, not_less, not_more) in
          let begin = ap (begin_in ends) one in
          let a = own.place in
          let b = other.place in
          (one, omega (arith, begin, a, b))
          )
    ]
  ]

  -- the cell and the time of an entry are those of the agent's arrival
  pub entry_own : (i k e : ℕ) (track : Track) (d : Cell) → slice_get tracks i ≡ Some track → IsEntry ends i k e
      → (k < length (path track)) × (get_or cells e d ≡ get_or (path track) k d) × (get_or times e 0 ≡ arrival_time track k)
  entry_own i k e track d is entry =
      let within = slice_get_within tracks i track is in
      let own = get_or_from_slice_get tracks i track track is in
      let begin = begin_is i within in
      let at = entry.place in
      let end = entry.within in
      let long = end_is i track is in
      let cells_there = own_path tracks cells times ends i track h within ∙ ap path own in
      let times_there = own_times tracks cells times ends i track h within ∙ ap (λ t. entry_times None (cells_of t) 0) own in
      let few : k < get_or ends i 0 - begin_of tracks i = omega (arith, begin, at, end) in
      let inside : k < length (path track) = omega (arith, begin, at, end, long) in
      let place : begin_of tracks i + k ≡ e = omega (arith, begin, at) in (
        inside,
        sym (ap (λ n. get_or cells n d) place) ∙ sym (get_or-drop (begin_of tracks i) cells k d) ∙ sym (get_or-take (get_or ends i 0 - begin_of tracks i) (drop (begin_of tracks i) cells) k d few)
            ∙ ap (λ l. get_or l k d) cells_there,
        sym (ap (λ n. get_or times n 0) place) ∙ sym (get_or-drop (begin_of tracks i) times k 0) ∙ sym (get_or-take (get_or ends i 0 - begin_of tracks i) (drop (begin_of tracks i) times) k 0 few)
            ∙ ap (λ l. get_or l k 0) times_there ∙ entry_time track k inside,
      )

  pub entry_track : (i k e : ℕ) → IsEntry ends i k e → (track : Track) × (slice_get tracks i ≡ Some track)
  entry_track i k e entry =
      let less = entry.is_agent in
      let count = h.count in
      (get_or tracks i no_track, slice_get-get_or tracks i no_track (omega (arith, less, count)))

  -- the entry of an index in a path
  pub entry_at : (i k : ℕ) (track : Track) → slice_get tracks i ≡ Some track → k < length (path track) → IsEntry ends i k (begin_in ends i + k)
  entry_at i k track is less =
      let within = slice_get_within tracks i track is in
      let begin = begin_is i within in
      let end = end_is i track is in
      let count = h.count in
      record { is_agent = omega (arith, within, count); place = refl; within = omega (arith, begin, end, less) }

  pub entry_visit : (number i k e : ℕ) (d : Cell) → IsEntry ends i k e → IsVisit (record { number = number; tracks = tracks }) i k (get_or times e 0) (get_or cells e d)
  entry_visit number i k e d entry =
      let found = entry_track i k e entry in
      let track = found.0 in
      let own = entry_own i k e track d found.1 entry in
      let came = subst (IsArrival track k) (sym own.2) (arrives track k own.0) in
      let cell = sym (own.1 ∙ arrival-cell track k (get_or times e 0) d came) in
      record { track = track; is_track = found.1; is_index = came.0; is_there = cell; comes = λ before e same. came.1 before e (same ∙ sym cell) }

  pub visit_entry : (number i k t : ℕ) (c d : Cell) → IsVisit (record { number = number; tracks = tracks }) i k t c
      → (e : ℕ) × IsEntry ends i k e × (get_or times e 0 ≡ t) × (get_or cells e d ≡ c)
  visit_entry number i k t c d v =
      let track = v.track in
      let is = v.is_track in
      let came : IsArrival track k t = (v.is_index, λ before e same. v.comes before e (same ∙ v.is_there)) in
      let most = moves-most track.start track.later t in
      let count = v.is_index in
      let long = length-path track.start track.later in
      let inside : k < length (path track) = omega (arith, most, count, long) in
      let entry = entry_at i k track is inside in
      let own = entry_own i k (begin_in ends i + k) track d is entry in
      (begin_in ends i + k, entry, own.2 ∙ sym (time_of_arrival track k t came), own.1 ∙ arrival-cell track k t d came ∙ v.is_there)

  -- each entry is somebody's
  pub entry_owner : (n e : ℕ) → n ≤ length tracks → e < begin_of tracks n → (i : ℕ) × (k : ℕ) × IsEntry ends i k e
  entry_owner zero e most less = absurd (omega (arith, less))
  entry_owner (suc n) e most less = elim (cases_lt e (begin_of tracks n)) [
    | inl before ↦ entry_owner n e (omega (arith, most)) before
    | inr last ↦ (
        let within : n < length tracks = omega (arith, most) in
        let begin = begin_is n within in
        let count = h.count in
        let next : n + 1 ≡ suc n = omega arith in
        let end = h.are_ends n within ∙ ap (begin_of tracks) next in
        (n, e - begin_of tracks n, record { is_agent = omega (arith, within, count); place = omega (arith, begin, last); within = omega (arith, end, less) })
        )
  ]

  pub owner : (e : ℕ) → e < length cells → (i : ℕ) × (k : ℕ) × IsEntry ends i k e
  owner e less =
      let all = ap length h.are_cells in
      let whole = ap (λ l. length (all_entered l)) (take_all (length tracks) tracks (omega arith)) in
      entry_owner (length tracks) e (omega arith) (omega (arith, less, all, whole))
