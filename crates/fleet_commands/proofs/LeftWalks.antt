-- Where what is left of a course leads, and when.
use Rattle.std.proofs.Common.{◌≡◌, ◌≢◌, ◌∙◌, ℕ, ℤ, pos, negsuc, ◌-ℤ◌, zero, suc, ◌+◌, ◌-◌, ◌≤◌, eqb, List, [], ◌∷◌, drop, get_or, true, false, inl, inr, refl, ap, sym, arith}
use Rattle.std.specs.Prelude.{◌+ℤ◌, if◌then◌else◌, nat_abs, nat_lt}
use Rattle.std.proofs.Math.IntN.{+ℤ-neg_ℤ_cancel, +ℤ_comm, +ℤ_idr}
use Rattle.std.proofs.lemmas.Bool.{cases_Bool, cond-true, cond-false, ltb-false, ne_eqb, false≢true, true≢false}
use Rattle.model.specs.declared.act.Act.{Act}
use Rattle.model.specs.declared.act.Act.TheVariants.{N, E, S, W, Wait}
use Rattle.model.specs.Laws.Places.{same_place}
use Rattle.model.specs.Laws.Tracks.{cell-visit, length-path, moves-leave, moves-most, moves-stay, moves_at-start, visit_time}
use Rattle.model.specs.Plan.{Course, IsTrackOf, Position, moved, position_after, position_at, position_of}
use Rattle.model.specs.Rules.{path_cell}
use Rattle.model.specs.Timetable.{Track, cell_at, moves, moves_before}
use Rattle.continuing.specs.Adding.{changes_cell}
use Rattle.fleet_commands.specs.LeftPlan.{left_act, left_acts, left_course, made_behind}

-- where the first so many moves of these acts lead
abbrev pub lead : Position → List Act → ℕ → Position
lead p [] k = p
lead p (a ∷ acts) zero = p
lead p (a ∷ acts) (suc k) = if changes_cell a then lead (moved a p) acts k else lead p acts (suc k)

-- how many of the acts before a step are moves
abbrev pub made : List Act → ℕ → ℕ
made [] t = 0
made (a ∷ acts) zero = 0
made (a ∷ acts) (suc t) = if changes_cell a then made acts t + 1 else made acts t

wait-moved : (a : Act) (p : Position) → changes_cell a ≡ false → moved a p ≡ p
wait-moved N p waits = absurd (true≢false waits)
wait-moved E p waits = absurd (true≢false waits)
wait-moved S p waits = absurd (true≢false waits)
wait-moved W p waits = absurd (true≢false waits)
wait-moved Wait p waits = refl

lead-zero : (p : Position) (acts : List Act) → lead p acts 0 ≡ p
lead-zero p [] = refl
lead-zero p (a ∷ acts) = refl

lead-move : (p : Position) (a : Act) (acts : List Act) (k : ℕ) → changes_cell a ≡ true → lead p (a ∷ acts) (suc k) ≡ lead (moved a p) acts k
lead-move p a acts k moves = cond-true (changes_cell a) (lead (moved a p) acts k) (lead p acts (suc k)) moves

lead-wait : (p : Position) (a : Act) (acts : List Act) (k : ℕ) → changes_cell a ≡ false → lead p (a ∷ acts) k ≡ lead p acts k
lead-wait p a acts zero waits = sym (lead-zero p acts)
lead-wait p a acts (suc k) waits = cond-false (changes_cell a) (lead (moved a p) acts k) (lead p acts (suc k)) waits

made-move : (a : Act) (acts : List Act) (t : ℕ) → changes_cell a ≡ true → made (a ∷ acts) (suc t) ≡ made acts t + 1
made-move a acts t moves = cond-true (changes_cell a) (made acts t + 1) (made acts t) moves

made-wait : (a : Act) (acts : List Act) (t : ℕ) → changes_cell a ≡ false → made (a ∷ acts) (suc t) ≡ made acts t
made-wait a acts t waits = cond-false (changes_cell a) (made acts t + 1) (made acts t) waits

made-start : (acts : List Act) → made acts 0 ≡ 0
made-start [] = refl
made-start (a ∷ acts) = refl

-- so many moves lead where the acts lead by then
lead-made : (p : Position) (acts : List Act) (t : ℕ) → lead p acts (made acts t) ≡ position_after p acts t
lead-made p [] t = refl
lead-made p (a ∷ acts) zero = refl
lead-made p (a ∷ acts) (suc t) = elim (cases_Bool (changes_cell a)) [
  | inl moves ↦
      (let same : made acts t + 1 ≡ suc (made acts t) = omega arith in
      ap (lead p (a ∷ acts)) (made-move a acts t moves ∙ same) ∙ lead-move p a acts (made acts t) moves ∙ lead-made (moved a p) acts t)
  | inr waits ↦
      ap (lead p (a ∷ acts)) (made-wait a acts t waits) ∙ lead-wait p a acts (made acts t) waits ∙ lead-made p acts t
      ∙ ap (λ q. position_after q acts t) (sym (wait-moved a p waits))
]

-- ---- in place of the moves that are made, the agent waits

-- the first act of what is left, where moves are made already
waits-first : (m : ℕ) (a : Act) → left_act (suc m) a ≡ Wait
waits-first m a = cond-false (eqb (suc m) 0) a Wait (ne_eqb (suc m) 0 (λ none. omega (arith, none)))

behind-move : (m : ℕ) (a : Act) → changes_cell a ≡ true → made_behind (suc m) a ≡ m
behind-move m a moves = let less : suc m - 1 ≡ m = omega arith in cond-true (changes_cell a) (suc m - 1) (suc m) moves ∙ less

behind-wait : (m : ℕ) (a : Act) → changes_cell a ≡ false → made_behind m a ≡ m
behind-wait m a waits = cond-false (changes_cell a) (m - 1) m waits

behind-none : (a : Act) → made_behind 0 a ≡ 0
behind-none a = elim (cases_Bool (changes_cell a)) [ inl moves ↦ cond-true (changes_cell a) (0 - 1) 0 moves | inr waits ↦ cond-false (changes_cell a) (0 - 1) 0 waits ]

-- one act further
abbrev Further : (p : Position) (acts : List Act) (m t : ℕ) → Position
Further p acts m t = position_after (lead p acts m) (left_acts m acts) t

further-none : (p : Position) (a : Act) (acts : List Act) (t : ℕ) → Further p (a ∷ acts) 0 (suc t) ≡ Further (moved a p) acts 0 t
further-none p a acts t =
    ap (λ m. position_after (moved a p) (left_acts m acts) t) (behind-none a) ∙ ap (λ q. position_after q (left_acts 0 acts) t) (sym (lead-zero (moved a p) acts))

further-move : (p : Position) (a : Act) (acts : List Act) (m t : ℕ) → changes_cell a ≡ true → Further p (a ∷ acts) (suc m) (suc t) ≡ Further (moved a p) acts m t
further-move p a acts m t moves =
    let there = lead p (a ∷ acts) (suc m) in
    ap (λ b. position_after (moved b there) (left_acts (made_behind (suc m) a) acts) t) (waits-first m a)
    ∙ ap (λ n. position_after there (left_acts n acts) t) (behind-move m a moves)
    ∙ ap (λ q. position_after q (left_acts m acts) t) (lead-move p a acts m moves)

further-wait : (p : Position) (a : Act) (acts : List Act) (m t : ℕ) → changes_cell a ≡ false → Further p (a ∷ acts) (suc m) (suc t) ≡ Further p acts (suc m) t
further-wait p a acts m t waits =
    let there = lead p (a ∷ acts) (suc m) in
    ap (λ b. position_after (moved b there) (left_acts (made_behind (suc m) a) acts) t) (waits-first m a)
    ∙ ap (λ n. position_after there (left_acts n acts) t) (behind-wait (suc m) a waits)
    ∙ ap (λ q. position_after q (left_acts (suc m) acts) t) (lead-wait p a acts (suc m) waits)

-- as long as by the course no more moves are made, the agent stays where these lead
stays : (p : Position) (acts : List Act) (m t : ℕ) → made acts t ≤ m → Further p acts m t ≡ lead p acts m
stays p [] m t few = refl
stays p (a ∷ acts) m zero few = refl
stays p (a ∷ acts) zero (suc t) few = elim (cases_Bool (changes_cell a)) [
  | inl moves ↦ (let count = made-move a acts t moves in absurd (omega (arith, few, count)))
  | inr waits ↦
      (let count = made-wait a acts t waits in
      further-none p a acts t ∙ stays (moved a p) acts 0 t (omega (arith, few, count)) ∙ lead-zero (moved a p) acts ∙ wait-moved a p waits)
]
stays p (a ∷ acts) (suc m) (suc t) few = elim (cases_Bool (changes_cell a)) [
  | inl moves ↦
      (let count = made-move a acts t moves in
      further-move p a acts m t moves ∙ stays (moved a p) acts m t (omega (arith, few, count)) ∙ sym (lead-move p a acts m moves))
  | inr waits ↦
      (let count = made-wait a acts t waits in
      further-wait p a acts m t waits ∙ stays p acts (suc m) t (omega (arith, few, count)) ∙ sym (lead-wait p a acts (suc m) waits))
]

-- and from then on it is where the course has it
goes : (p : Position) (acts : List Act) (m t : ℕ) → m ≤ made acts t → Further p acts m t ≡ position_after p acts t
goes p [] m t many = refl
goes p (a ∷ acts) m zero many =
    let none : m ≡ 0 = omega (arith, many) in
    ap (lead p (a ∷ acts)) none
goes p (a ∷ acts) zero (suc t) many = further-none p a acts t ∙ goes (moved a p) acts 0 t (omega arith)
goes p (a ∷ acts) (suc m) (suc t) many = elim (cases_Bool (changes_cell a)) [
  | inl moves ↦ (let count = made-move a acts t moves in further-move p a acts m t moves ∙ goes (moved a p) acts m t (omega (arith, many, count)))
  | inr waits ↦
      (let count = made-wait a acts t waits in
      further-wait p a acts m t waits ∙ goes p acts (suc m) t (omega (arith, many, count)) ∙ ap (λ q. position_after q acts t) (sym (wait-moved a p waits)))
]

-- what is left out at the beginning is behind the agent
behind-drop : (p : Position) (acts : List Act) (from t : ℕ) → position_after (position_after p acts from) (drop from acts) t ≡ position_after p acts (from + t)
behind-drop p [] zero t = refl
behind-drop p [] (suc from) t = refl
behind-drop p (a ∷ acts) zero t = let same : t ≡ 0 + t = omega arith in ap (position_after p (a ∷ acts)) same
behind-drop p (a ∷ acts) (suc from) t =
    let same : suc (from + t) ≡ suc from + t = omega arith in
    behind-drop (moved a p) acts from t ∙ ap (position_after p (a ∷ acts)) same

-- ---- the moves of a course are those of its track

made-next : (acts : List Act) (t : ℕ) → made acts (suc t) ≡ (if changes_cell (get_or acts t Wait) then made acts t + 1 else made acts t)
made-next [] t = refl
made-next (a ∷ acts) zero = elim (cases_Bool (changes_cell a)) [
  | inl moves ↦
      (let start = made-start acts in
      made-move a acts 0 moves ∙ ap (λ n. n + 1) start ∙ sym (cond-true (changes_cell a) (0 + 1) 0 moves))
  | inr waits ↦ made-wait a acts 0 waits ∙ made-start acts ∙ sym (cond-false (changes_cell a) (0 + 1) 0 waits)
]
made-next (a ∷ acts) (suc t) =
    let b = changes_cell (get_or acts t Wait) in
    elim (cases_Bool (changes_cell a)) [
      | inl moves ↦
          (elim (cases_Bool b) [
            | inl leads ↦
                made-move a acts (suc t) moves ∙ ap (λ n. n + 1) (made-next acts t ∙ cond-true b (made acts t + 1) (made acts t) leads) ∙ ap (λ n. n + 1) (sym (made-move a acts t moves))
                ∙ sym (cond-true b (made (a ∷ acts) (suc t) + 1) (made (a ∷ acts) (suc t)) leads)
            | inr rests ↦
                made-move a acts (suc t) moves ∙ ap (λ n. n + 1) (made-next acts t ∙ cond-false b (made acts t + 1) (made acts t) rests) ∙ sym (made-move a acts t moves)
                ∙ sym (cond-false b (made (a ∷ acts) (suc t) + 1) (made (a ∷ acts) (suc t)) rests)
          ])
      | inr waits ↦
          (elim (cases_Bool b) [
            | inl leads ↦
                made-wait a acts (suc t) waits ∙ made-next acts t ∙ cond-true b (made acts t + 1) (made acts t) leads ∙ ap (λ n. n + 1) (sym (made-wait a acts t waits))
                ∙ sym (cond-true b (made (a ∷ acts) (suc t) + 1) (made (a ∷ acts) (suc t)) leads)
            | inr rests ↦
                made-wait a acts (suc t) waits ∙ made-next acts t ∙ cond-false b (made acts t + 1) (made acts t) rests ∙ sym (made-wait a acts t waits)
                ∙ sym (cond-false b (made (a ∷ acts) (suc t) + 1) (made (a ∷ acts) (suc t)) rests)
          ])
    ]

pub after-start : (p : Position) (acts : List Act) → position_after p acts 0 ≡ p
after-start p [] = refl
after-start p (a ∷ acts) = refl

pub position-next : (p : Position) (acts : List Act) (t : ℕ) → position_after p acts (suc t) ≡ moved (get_or acts t Wait) (position_after p acts t)
position-next p [] t = refl
position-next p (a ∷ acts) zero = after-start (moved a p) acts
position-next p (a ∷ acts) (suc t) = position-next (moved a p) acts t

-- a number to which nothing is added but 0 stays
no-shift : (n k : ℤ) → n +ℤ k ≡ n → k ≡ pos 0
no-shift n k e = sym (alone k) ∙ ap (λ m. m -ℤ n) (e ∙ sym (+ℤ_idr n)) ∙ alone (pos 0)
  where
    alone : (m : ℤ) → n +ℤ m -ℤ n ≡ m
    alone m = ap (λ s. s -ℤ n) (+ℤ_comm n m) ∙ +ℤ-neg_ℤ_cancel m n

-- a move leads away
pub leads-away : (a : Act) (p : Position) → changes_cell a ≡ true → moved a p ≢ p
leads-away N p moves e = let bad : negsuc 0 ≡ pos 0 = no-shift p.y (negsuc 0) (ap (λ q. q.y) e) in cc
leads-away E p moves e = let bad : pos 1 ≡ pos 0 = no-shift p.x (pos 1) (ap (λ q. q.x) e) in absurd (let one : 1 ≡ 0 = ap nat_abs bad in omega (arith, one))
leads-away S p moves e = let bad : pos 1 ≡ pos 0 = no-shift p.y (pos 1) (ap (λ q. q.y) e) in absurd (let one : 1 ≡ 0 = ap nat_abs bad in omega (arith, one))
leads-away W p moves e = let bad : negsuc 0 ≡ pos 0 = no-shift p.x (negsuc 0) (ap (λ q. q.x) e) in cc
leads-away Wait p moves e = absurd (false≢true moves)

module _ (course : Course) (track : Track) (is : IsTrackOf course track) where
  -- the acts before a step have as many moves as the track
  pub made-moves : (t : ℕ) → made course.acts t ≡ moves_before track t
  made-moves zero = made-start course.acts ∙ sym (moves_at-start track.start track.later)
  made-moves (suc t) =
      let act = get_or course.acts t Wait in
      let here = is.places t in
      let there = is.places (suc t) in
      let next = position-next (position_of course.start) course.acts t in
      elim (cases_Bool (changes_cell act)) [
        | inl moves ↦
            (let leaves : cell_at track t ≢ cell_at track (suc t)
            = λ same. leads-away act (position_at course t) moves (sym next ∙ sym there ∙ ap position_of (sym same) ∙ here) in
            made-next course.acts t ∙ cond-true (changes_cell act) (made course.acts t + 1) (made course.acts t) moves ∙ ap (λ n. n + 1) (made-moves t)
            ∙ sym (moves-leave track.start track.later t leaves))
        | inr waits ↦
            (let same : cell_at track t ≡ cell_at track (suc t)
            = same_place (cell_at track t) (cell_at track (suc t)) (here ∙ sym (wait-moved act (position_at course t) waits) ∙ sym next ∙ sym there) in
            made-next course.acts t ∙ cond-false (changes_cell act) (made course.acts t + 1) (made course.acts t) waits ∙ made-moves t
            ∙ sym (moves-stay track.start track.later t same))
      ]

  -- and so many moves lead to the cell of the path with that number
  lead-path : (k : ℕ) → k ≤ moves track → lead (position_of course.start) course.acts k ≡ position_of (path_cell track k)
  lead-path k within =
      let long = length-path track.start track.later in
      let time = visit_time track.start track.later k (omega (arith, within, long)) in
      let count : made course.acts time.0 ≡ k = made-moves time.0 ∙ time.1 in
      let cell : path_cell track k ≡ cell_at track time.0 = ap (path_cell track) (sym time.1) ∙ cell-visit track.start track.later time.0 track.start in
      ap (lead (position_of course.start) course.acts) (sym count) ∙ lead-made (position_of course.start) course.acts time.0 ∙ sym (is.places time.0) ∙ ap position_of (sym cell)

  module _ (begun from : ℕ) (within : begun ≤ moves track) (early : moves_before track from ≤ begun) where
    abbrev Left : Course
    Left = left_course track begun from course.acts

    led : lead (position_of course.start) course.acts begun ≡ position_of (path_cell track begun)
    led = lead-path begun within

    -- where the acts lead that are left, whether there is a move among them or not
    left-place : (t : ℕ) → position_at Left t ≡ Further (position_of course.start) course.acts begun (from + t)
    left-place t =
        let start = position_of course.start in
        let left = left_acts begun course.acts in
        let there = position_of (path_cell track begun) in
        let first = made-moves from in
        let stayed = stays start course.acts begun from (omega (arith, first, early)) in
        elim (cases_Bool (nat_lt begun (moves track))) [
          | inl less ↦
              ap (λ l. position_after there l t) (cond-true (nat_lt begun (moves track)) (drop from left) [] less)
              ∙ ap (λ q. position_after q (drop from left) t) (sym led ∙ sym stayed)
              ∙ behind-drop (lead start course.acts begun) left from t
          | inr all ↦
              (let count = made-moves (from + t) in
              let most = moves-most track.start track.later (from + t) in
              let few : moves track ≤ begun = ltb-false begun (moves track) all in
              ap (λ l. position_after there l t) (cond-false (nat_lt begun (moves track)) (drop from left) [] all)
              ∙ sym led ∙ sym (stays start course.acts begun (from + t) (omega (arith, count, most, few))))
        ]

    -- it waits where its begun moves lead, as long as the track makes no more
    pub left-waits : (t : ℕ) → moves_before track (from + t) ≤ begun → position_at Left t ≡ position_of (path_cell track begun)
    left-waits t few =
        let count = made-moves (from + t) in
        left-place t ∙ stays (position_of course.start) course.acts begun (from + t) (omega (arith, count, few)) ∙ led

    -- and goes then where the track goes, so many steps sooner
    pub left-goes : (t : ℕ) → begun ≤ moves_before track (from + t) → position_at Left t ≡ position_of (cell_at track (from + t))
    left-goes t many =
        let count = made-moves (from + t) in
        left-place t ∙ goes (position_of course.start) course.acts begun (from + t) (omega (arith, count, many)) ∙ sym (is.places (from + t))
