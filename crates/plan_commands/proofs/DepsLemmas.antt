-- What a route's needs come to as lines, and how many there are.
use Rattle.std.proofs.Common.{◌≡◌, ◌∙◌, ℕ, ◌+◌, ◌<◌, ◌≤◌, zero, suc, Bool, true, false, cond, List, [], ◌∷◌, ◌++◌, length, get_or, drop, take, Option, None, Some, refl, sym, ap, arith, zero-add}
use Rattle.std.specs.Prelude.{count_by, is_some, option_map, slice_get, sum_by}
use Rattle.std.proofs.lemmas.Grind.{flat_map-append}
use Rattle.std.proofs.lemmas.List.{at_drop_more, length-append}
use Rattle.std.proofs.lemmas.List.FromFn.{length-map-range_with_len}
use Rattle.std.proofs.lemmas.List.Sums.{count_by-le-length, sum_by-cons, sum_by-drop_more, sum_by_more}
use Rattle.std.proofs.lemmas.Option.{slice_get-get_or}
use Rattle.text_io.specs.Text.{line_feed, ended}
use Rattle.grid.specs.declared.cell.Cell.{Cell}
use Rattle.model.specs.Timetable.{Track, Timetable, moves, moves_after, same_cell}
use Rattle.model.specs.Dependency.{Need, need}
use Rattle.checker.specs.Checking.{steps_in}
use Rattle.depgraph.specs.Routes.{asked, asked_by}
use Rattle.plan_commands.specs.DepsText.{needs_of, need_lines, all_need_lines}
use Rattle.plan_commands.specs.Code.Dependencies.{need_text}

pub length-needs_of : (tt : Timetable) (agent : ℕ) (track : Track) → length (needs_of tt agent track) ≡ moves track
length-needs_of tt agent track = length-map-range_with_len (need tt agent track) 0 (moves track)

-- ---- lines

need-first : (agent move : ℕ) (o : Option Need) (needs : List (Option Need))
    → ended (need_lines agent move (o ∷ needs)) ≡ need_text agent move (option_map asked o) ++ ended (need_lines agent (move + 1) needs)
need-first agent move None needs = refl
need-first agent move (Some n) needs = refl

-- what is left of an agent's lines from a move on, by the need of that move
pub needs-next : (agent k : ℕ) (needs : List (Option Need)) → k < length needs
    → ended (need_lines agent k (drop k needs))
    ≡ need_text agent k (option_map asked (get_or needs k None)) ++ ended (need_lines agent (k + 1) (drop (k + 1) needs))
needs-next agent k needs lt =
    at_drop_more (λ ns. ended (need_lines agent k ns)) needs k None lt ∙ need-first agent k (get_or needs k None) (drop (k + 1) needs)

-- the need of a move, as a part tells it
pub need-is : (needs : List (Option Need)) (k : ℕ) → k < length needs → asked_by (slice_get needs k) ≡ option_map asked (get_or needs k None)
need-is needs k lt = ap asked_by (slice_get-get_or needs k None lt)

-- the lines of all agents from an agent on, by those of that agent
pub all-next : (tt : Timetable) (i : ℕ) (track : Track) → i < length tt.tracks
    → all_need_lines tt i (drop i tt.tracks)
    ≡ need_lines i 0 (needs_of tt i (get_or tt.tracks i track)) ++ all_need_lines tt (i + 1) (drop (i + 1) tt.tracks)
all-next tt i track lt = at_drop_more (all_need_lines tt i) tt.tracks i track lt

pub ended-append : (lines others : List (List ℕ)) → ended (lines ++ others) ≡ ended lines ++ ended others
ended-append lines others = flat_map-append (λ line. line ++ line_feed ∷ []) lines others

-- ---- how many

pub length-need_lines : (agent move : ℕ) (needs : List (Option Need)) → length (need_lines agent move needs) ≡ count_by is_some needs
length-need_lines agent move [] = refl
length-need_lines agent move (None ∷ needs) =
    length-need_lines agent (move + 1) needs ∙ sym (sum_by-cons (λ (p : Option Need). cond (is_some p) 1 0) None needs ∙ zero-add (count_by is_some needs))
length-need_lines agent move (Some n ∷ needs) =
    let others = length-need_lines agent (move + 1) needs in
    let cons = sum_by-cons (λ (p : Option Need). cond (is_some p) 1 0) (Some n) needs in
    omega (arith, others, cons)

one_more : (same : Bool) (m t : ℕ) → m ≤ t → cond same m (m + 1) ≤ suc t
one_more true m t h = omega arith
one_more false m t h = omega arith

moves-within : (c : Cell) (cells : List Cell) (t : ℕ) → moves_after c cells t ≤ t
moves-within c [] t = omega arith
moves-within c (d ∷ cells) zero = omega arith
moves-within c (d ∷ cells) (suc t) = one_more (same_cell c d) (moves_after d cells t) t (moves-within d cells t)

add-within : {a b c d : ℕ} → a ≤ c → b ≤ d → a + b ≤ c + d
add-within h k = omega arith

-- all moves are steps
pub moves-within_steps : (tracks : List Track) → sum_by moves tracks ≤ steps_in tracks
moves-within_steps [] = omega arith
moves-within_steps (track ∷ tracks) =
    let own : moves track ≤ length track.later = moves-within track.start track.later (length track.later) in
    let others = moves-within_steps tracks in
    rw (sum_by-cons moves track tracks) (add-within own others)

is_some-asked : (o : Option Need) → is_some (option_map asked o) ≡ is_some o
is_some-asked None = refl
is_some-asked (Some n) = refl

-- one more move is counted, if it has a need
pub count-more : (needs : List (Option Need)) (k : ℕ) (o : Option (ℕ × ℕ)) → k < length needs → o ≡ option_map asked (get_or needs k None)
    → count_by is_some (take (k + 1) needs) ≡ count_by is_some (take k needs) + cond (is_some o) 1 0
count-more needs k o within is =
    sum_by_more (λ (p : Option Need). cond (is_some p) 1 0) needs k None within
    ∙ ap (λ (b : Bool). count_by is_some (take k needs) + cond b 1 0) (sym (ap is_some is ∙ is_some-asked (get_or needs k None)))

-- a move has no more than one need
pub lines-within_moves : (tt : Timetable) (i : ℕ) (tracks : List Track) → length (all_need_lines tt i tracks) ≤ sum_by moves tracks
lines-within_moves tt i [] = omega arith
lines-within_moves tt i (track ∷ tracks) =
    let own = need_lines i 0 (needs_of tt i track) in
    omega (
      arith,
      length-append own (all_need_lines tt (i + 1) tracks),
      length-need_lines i 0 (needs_of tt i track),
      count_by-le-length is_some (needs_of tt i track),
      length-needs_of tt i track,
      sum_by-cons moves track tracks,
      lines-within_moves tt (i + 1) tracks,
    )

-- ---- an agent in the order of the loops

abbrev no_track : Track
no_track = record { start = record { x = 0; y = 0 }; later = [] }

-- the track of the agent with this number
abbrev pub track_at : Timetable → ℕ → Track
track_at tt i = get_or tt.tracks i no_track

pub is-track_at : (tt : Timetable) (i : ℕ) → i < length tt.tracks → slice_get tt.tracks i ≡ Some (track_at tt i)
is-track_at tt i within = slice_get-get_or tt.tracks i no_track within

-- the moves of the agents from an agent on
pub sum-next : (tt : Timetable) (i : ℕ) → i < length tt.tracks
    → sum_by moves (drop i tt.tracks) ≡ moves (track_at tt i) + sum_by moves (drop (i + 1) tt.tracks)
sum-next tt i within = sum_by-drop_more moves tt.tracks i no_track within

-- and their lines
pub lines-next : (tt : Timetable) (i : ℕ) → i < length tt.tracks
    → length (all_need_lines tt i (drop i tt.tracks))
    ≡ count_by is_some (needs_of tt i (track_at tt i)) + length (all_need_lines tt (i + 1) (drop (i + 1) tt.tracks))
lines-next tt i within =
    let own = need_lines i 0 (needs_of tt i (track_at tt i)) in
    ap length (all-next tt i no_track within) ∙ length-append own (all_need_lines tt (i + 1) (drop (i + 1) tt.tracks))
    ∙ ap (λ n. n + length (all_need_lines tt (i + 1) (drop (i + 1) tt.tracks))) (length-need_lines i 0 (needs_of tt i (track_at tt i)))

-- and the text of these
pub ended-next : (tt : Timetable) (i : ℕ) → i < length tt.tracks
    → ended (all_need_lines tt i (drop i tt.tracks))
    ≡ ended (need_lines i 0 (needs_of tt i (track_at tt i))) ++ ended (all_need_lines tt (i + 1) (drop (i + 1) tt.tracks))
ended-next tt i within =
    ap ended (all-next tt i no_track within)
    ∙ ended-append (need_lines i 0 (needs_of tt i (track_at tt i))) (all_need_lines tt (i + 1) (drop (i + 1) tt.tracks))
