-- Who was last in a cell.
use Rattle.std.proofs.Common.{◌≡◌, ℕ, zero, suc, ◌+◌, ◌<◌, ◌≤◌, eqb, false, List, []}
use Rattle.std.proofs.Common.{◌∷◌, Some, None, inl, inr, arith, refl, sym, ap, subst, ◌∙◌}
use Rattle.std.specs.Prelude.{Option, MatchOption, slice_get}
use Rattle.std.proofs.lemmas.Bool.{cases_Bool, cond_both, cond-true, cond-false}
use Rattle.std.proofs.lemmas.Bool.{cases_lt, eqb-false, false≢true}
use Rattle.std.proofs.lemmas.Option.{same_Some, none-some}
use Rattle.grid.specs.declared.cell.Cell.{Cell}
use Rattle.model.specs.Timetable.{Track, Timetable, same_cell, cell_at, moves_before}
use Rattle.model.specs.Timetable.{moves, step_of, track_of, Stands, IsConflictFree}
use Rattle.model.specs.Dependency.{Need, Stand, stander_among, stander, stand_or, last_stand}
use Rattle.model.specs.Dependency.{moves_in, moves_to, need_by, need, IsLastStand, IsNeed}
use Rattle.model.specs.Laws.Options.{some-found}
use Rattle.model.specs.Laws.Tracks.{same_cell-same, same_cell-true, moves-leave}
use Rattle.model.specs.Laws.Tracks.{step-of_move, moving_step}

-- ---- standing

pub stands-track : (tt : Timetable) (i t : ℕ) (c : Cell) → Stands tt i t c → (track : Track)
    × (track_of tt i ≡ Some track) × (cell_at track t ≡ c)
stands-track tt i t c h = some-found (track_of tt i) (λ track. cell_at track t ≡ c) h

pub stands-from : (tt : Timetable) (i t : ℕ) (c : Cell) (track : Track) → track_of tt i ≡ Some track
    → cell_at track t ≡ c → Stands tt i t c
stands-from tt i t c track e h =
    subst (λ o. MatchOption o ⊥ (λ track. cell_at track t ≡ c)) (sym e) h

-- ---- who stands in a cell at a time

abbrev IsStander : List Track → ℕ → ℕ → Cell → Option ℕ → Type 0
IsStander tracks i t c o =
    MatchOption o ((n : ℕ) (track : Track) → slice_get tracks n ≡ Some track
    → cell_at track t ≡ c → ⊥)
    (λ j. (n : ℕ) × (track : Track) × (j ≡ i + n) × (slice_get tracks n ≡ Some track)
    × (cell_at track t ≡ c))

stander_later : (first : Track) (tracks : List Track) (i t : ℕ) (c : Cell) (o : Option ℕ)
    → same_cell (cell_at first t) c ≡ false
    → IsStander tracks (i + 1) t c o → IsStander (first ∷ tracks) i t c o
stander_later first tracks i t c (Some j) other h = (suc h.0, h.1, omega (arith, h.2), h.3, h.4)
stander_later first tracks i t c None other h = nobody where
  nobody : (n : ℕ) (track : Track) → slice_get (first ∷ tracks) n ≡ Some track
      → cell_at track t ≡ c → ⊥
  nobody zero track e at =
      false≢true (sym other ∙ same_cell-true (cell_at first t) c
      (ap (λ k. cell_at k t) (same_Some first track e) ∙ at))
  nobody (suc n) track e at = h n track e at

stander_is : (tracks : List Track) (i t : ℕ) (c : Cell)
    → IsStander tracks i t c (stander_among tracks i t c)
stander_is [] i t c = λ n track e at. none-some track e
stander_is (first ∷ tracks) i t c =
    cond_both (same_cell (cell_at first t) c) (Some i) (stander_among tracks (i + 1) t c)
    (IsStander (first ∷ tracks) i t c)
    (λ e. (0, first, omega arith, refl, same_cell-same (cell_at first t) c e))
    (λ e. stander_later first tracks i t c (stander_among tracks (i + 1) t c) e
    (stander_is tracks (i + 1) t c))

abbrev StandsOr : Timetable → ℕ → Cell → Option ℕ → Type 0
StandsOr tt t c o = MatchOption o ((j : ℕ) → Stands tt j t c → ⊥) (λ j. Stands tt j t c)

stands_or_by : (tt : Timetable) (t : ℕ) (c : Cell) (o : Option ℕ) → IsStander tt.tracks 0 t c o
    → StandsOr tt t c o
stands_or_by tt t c None h = λ j s. let k = stands-track tt j t c s in h j k.0 k.1 k.2
stands_or_by tt t c (Some j) h =
    let e : h.0 ≡ j = omega (arith, h.2) in
    subst (λ n. Stands tt n t c) e (stands-from tt h.0 t c h.1 h.3 h.4)

stander_stands : (tt : Timetable) (t : ℕ) (c : Cell) → StandsOr tt t c (stander tt t c)
stander_stands tt t c = stands_or_by tt t c (stander tt t c) (stander_is tt.tracks 0 t c)

-- ---- the last before a time

-- before the time it is the last who stood in the cell, or nobody did
abbrev pub IsLastBelow : Timetable → Cell → ℕ → Option Stand → Type 0
IsLastBelow tt c end o =
    MatchOption o ((r j : ℕ) → r < end → Stands tt j r c → ⊥)
    (λ s. Stands tt s.agent s.time c × (s.time < end)
    × ((r j : ℕ) → s.time < r → r < end → Stands tt j r c → ⊥))

last_next : (tt : Timetable) (c : Cell) (t : ℕ) (o : Option ℕ) (before : Option Stand)
    → StandsOr tt t c o → IsLastBelow tt c t before
    → IsLastBelow tt c (t + 1) (stand_or t o before)
last_next tt c t (Some j) before h k =
    (h, omega arith, λ r l past below s. omega (arith, past, below))
last_next tt c t None None h k = λ r j below s. elim (cases_lt r t) [
  | inl earlier ↦ k r j earlier s
  | inr most ↦ let e : r ≡ t = omega (arith, most, below) in h j (subst (λ n. Stands tt j n c) e s)
]
last_next tt c t None (Some last) h k = (
  k.0,
  omega (arith, k.1),
  λ r j past below s. elim (cases_lt r t) [
    | inl earlier ↦ k.2 r j past earlier s
    | inr most ↦ let e : r ≡ t = omega (arith, most, below) in
        h j (subst (λ n. Stands tt j n c) e s)
  ],
)

pub last_stand-is
    : (tt : Timetable) (c : Cell) (t : ℕ) → IsLastBelow tt c (t + 1) (last_stand tt c t)
last_stand-is tt c zero =
    last_next tt c 0 (stander tt 0 c) None (stander_stands tt 0 c)
    (λ r j below s. omega (arith, below))
last_stand-is tt c (suc t) =
    let before = subst (λ n. IsLastBelow tt c n (last_stand tt c t)) (omega arith)
    (last_stand-is tt c t) in
    last_next tt c (suc t) (stander tt (suc t) c) (last_stand tt c t)
    (stander_stands tt (suc t) c) before

pub up_to : (tab : Timetable) (c : Cell) (t : ℕ) (o : Option Stand) → IsLastBelow tab c (t + 1) o
    → IsLastStand tab c t o
up_to tab c t None h = λ r j most s. h r j (omega (arith, most)) s
up_to tab c t (Some last) h =
    (h.0, omega (arith, h.1), λ r j past most s. h.2 r j past (omega (arith, most)) s)

-- ---- the need of a move

pub is_need : (tab : Timetable) (i k : ℕ) (track : Track) → k < moves track
    → IsNeed tab i track k (need tab i track k)
is_need tab i k track h =
    let some-found = moving_step track.start track.later k h in
    let t = some-found.0 in
    let one : t + 1 ≡ suc t = omega arith in
    let step : step_of track k ≡ t = ap (step_of track) (sym some-found.1)
    ∙ step-of_move track.start track.later t some-found.2 in
    record {
      step = t;
      last = last_stand tab (cell_at track (t + 1)) t;
      is_step = some-found.1;
      leaves = λ e. some-found.2 (e ∙ ap (cell_at track) one);
      is_last = up_to tab (cell_at track (t + 1)) t _ (last_stand-is tab (cell_at track (t + 1)) t);
      asks = ap (λ n. need_by tab i (last_stand tab (cell_at track (n + 1)) n)) step;
    }

-- Of a move that waits: another agent was the last in the cell that it enters, and left it no later
-- than the move is planned.
pub record AwaitsAnother (tt : Timetable) (i : ℕ) (track : Track) (k : ℕ) (n : Need) : Type 0 where
  pub to : Track
  pub time : ℕ
  pub step : ℕ
  pub is_to : track_of tt n.agent ≡ Some to
  pub is_step : moves_before track step ≡ k
  pub leaves : cell_at track step ≡ cell_at track (step + 1) → ⊥
  pub there : cell_at to time ≡ cell_at track (step + 1)
  pub in_time : time ≤ step
  pub left : cell_at to time ≡ cell_at to (suc time) → ⊥
  pub count : n.count ≡ moves_before to time + 1
  pub other : n.agent ≡ i → ⊥

pub awaits : (tt : Timetable) (i : ℕ) (track : Track) (k : ℕ) (n : Need) → IsConflictFree tt
    → track_of tt i ≡ Some track → k < moves track
    → need tt i track k ≡ Some n → AwaitsAnother tt i track k n
awaits tt i track k n free there less asks = by_last is.last is.is_last (sym is.asks ∙ asks) where
  is : IsNeed tt i track k (need tt i track k)
  is = is_need tt i k track less

  by_stand
      : (st : Stand) → Stands tt st.agent st.time (cell_at track (is.step + 1)) → st.time ≤ is.step
      → ((r j : ℕ) → st.time < r → r ≤ is.step → Stands tt j r (cell_at track (is.step + 1)) → ⊥)
      → eqb st.agent i ≡ false
      → Some (record { agent = st.agent; count = moves_to tt st.agent (st.time + 1) }) ≡ Some n
      → AwaitsAnother tt i track k n
  by_stand st stands in_time none other same = record {
    to = some-found.0;
    time = st.time;
    step = is.step;
    is_to = ap (track_of tt) (sym agent) ∙ some-found.1;
    is_step = is.is_step;
    leaves = is.leaves;
    there = some-found.2;
    in_time = in_time;
    left = left;
    count =
        sym count ∙ ap (λ o. moves_in o (st.time + 1)) some-found.1
        ∙ ap (moves_before some-found.0) one ∙ moves-leave some-found.0.start some-found.0.later
        st.time left;
    other = λ e. eqb-false st.agent i other (agent ∙ e);
  } where
    same_need : record { agent = st.agent; count = moves_to tt st.agent (st.time + 1) } ≡ n
    same_need = same_Some _ n same

    agent : st.agent ≡ n.agent
    agent = ap (λ x. x.agent) same_need

    count : moves_to tt st.agent (st.time + 1) ≡ n.count
    count = ap (λ x. x.count) same_need

    one : st.time + 1 ≡ suc st.time
    one = omega arith

    some-found : (to : Track) × (track_of tt st.agent ≡ Some to)
        × (cell_at to st.time ≡ cell_at track (is.step + 1))
    some-found = stands-track tt st.agent st.time (cell_at track (is.step + 1)) stands

    left : cell_at some-found.0 st.time ≡ cell_at some-found.0 (suc st.time) → ⊥
    left stays =
        let later = stands-from tt st.agent (suc st.time) (cell_at track (is.step + 1)) some-found.0
        some-found.1 (sym stays ∙ some-found.2) in
        elim (cases_lt (suc st.time) (is.step + 1)) [
          | inl before ↦ none (suc st.time) st.agent (omega arith) (omega (arith, before)) later
          | inr past ↦
              let now : suc st.time ≡ is.step + 1 = omega (arith, in_time, past) in
              eqb-false st.agent i other
              (free st.agent i (is.step + 1) (cell_at track (is.step + 1))
              (subst (λ t. Stands tt st.agent t (cell_at track (is.step + 1))) now later)
              (stands-from tt i (is.step + 1) (cell_at track (is.step + 1)) track there refl))
        ]

  by_last : (o : Option Stand) → IsLastStand tt (cell_at track (is.step + 1)) is.step o
      → need_by tt i o ≡ Some n → AwaitsAnother tt i track k n
  by_last None last e = absurd (none-some n e)
  by_last (Some st) last e = elim (cases_Bool (eqb st.agent i)) [
    | inl own ↦ absurd (none-some n (sym (cond-true (eqb st.agent i) None _ own) ∙ e))
    | inr other ↦ by_stand st last.0 last.1 last.2 other
        (sym (cond-false (eqb st.agent i) None _ other) ∙ e)
  ]
