-- A visit that was begun has every earlier visit of its cell left.
use Rattle.std.proofs.Common.{◌≡◌, ℕ, zero, suc, ◌+◌, ◌<◌, ◌≤◌, eqb, false, get_or, Some, None, inl, inr, arith, sym, ap, subst, ◌∙◌}
use Rattle.std.specs.Prelude.{Option}
use Rattle.std.proofs.lemmas.Bool.{cases_Bool, cases_lt, cases_order, cond-false, eqb-true, eqb-false, false≢true}
use Rattle.std.proofs.lemmas.Option.{same_Some}
use Rattle.grid.specs.declared.cell.Cell.{Cell}
use Rattle.model.specs.Timetable.{Track, Timetable, same_cell, cell_at, moves_before, path, step_of, track_of, Stands, IsConflictFree}
use Rattle.model.specs.Dependency.{Need, Stand, need_by, IsMet, last_stand, moves_in}
use Rattle.model.specs.Safety.{HaveNeedsMet, MayBeIn}
use Rattle.model.specs.Laws.Tracks.{same_cell-same, same_cell-true, moves-leave, moves-rise, cell-visit, visit_time, step-of_move}
use Rattle.model.specs.Laws.Needs.{stands-track, stands-from, IsLastBelow, last_stand-is}

-- what has to be shown: the visit of the agent i at the time t is left, where l is in the same cell at the time s, later, and has begun that visit
abbrev IsLeft : Timetable → (begun finished : ℕ → ℕ) → ℕ → Type 0
IsLeft tt begun finished s =
    (l i t : ℕ) (c : Cell) (tl ti : Track) → track_of tt l ≡ Some tl → track_of tt i ≡ Some ti → (l ≡ i → ⊥) → t < s
    → cell_at ti t ≡ c → cell_at tl s ≡ c → moves_before tl s ≤ begun l → moves_before ti t < finished i

-- by the agent that was last in the cell
left_by_last : (tt : Timetable) (begun finished : ℕ → ℕ) → IsConflictFree tt → HaveNeedsMet tt begun finished → (s : ℕ)
    → ((r : ℕ) → r < s + 1 → IsLeft tt begun finished r)
    → (l i t : ℕ) (c : Cell) (tl ti : Track) → track_of tt l ≡ Some tl → track_of tt i ≡ Some ti → (l ≡ i → ⊥) → t < s + 1
    → cell_at ti t ≡ c → cell_at tl (s + 1) ≡ c → moves_before tl s ≤ begun l
    → (o : Option Stand) → IsLastBelow tt c (s + 1) o → IsMet finished (need_by tt l o) → moves_before ti t < finished i
left_by_last tt begun finished free kept s earlier l i t c tl ti el ei apart less at_i at_l most None last met =
    absurd (last t i less (stands-from tt i t c ti ei at_i))
left_by_last tt begun finished free kept s earlier l i t c tl ti el ei apart less at_i at_l most (Some st) last met =
    let j = st.agent in
    let r = st.time in
    let stood = stands-track tt j r c last.0 in
    let tj = stood.0 in
    let since : t ≤ r = elim (cases_lt r t) [ inl past ↦ absurd (last.2 t i past less (stands-from tt i t c ti ei at_i)) | inr h ↦ h ] in
    let before = earlier r last.1 in
    elim (cases_Bool (eqb j l)) [
      | inl own ↦
          let same : j ≡ l = eqb-true j l own in
          let at_r = subst (λ n. Stands tt n r c) same last.0 in
          let k = stands-track tt l r c at_r in
          let track : k.0 ≡ tl = same_Some k.0 tl (sym k.1 ∙ el) in
          let cell : cell_at tl r ≡ c = ap (λ n. cell_at n r) (sym track) ∙ k.2 in
          before l i t c tl ti el ei apart (strictly r at_r since) at_i cell
          (let rise = moves-rise tl.start tl.later r s (omega (arith, last.1)) in omega (arith, rise, most))
      | inr other ↦
          let count : moves_in (track_of tt j) (r + 1) ≤ finished j
          = subst (λ (n : Option Need). IsMet finished n) (cond-false (eqb j l) None _ other) met in
          let gone : cell_at tj r ≡ cell_at tj (suc r) → ⊥ = λ e. stays j tj stood.1 other r last.1 (λ n m. last.2 n m) (sym e ∙ stood.2) in
          let leaves = moves-leave tj.start tj.later r gone in
          let one : r + 1 ≡ suc r = omega arith in
          let counted : moves_before tj (suc r) ≤ finished j
          = subst (λ n. moves_before tj n ≤ finished j) one (subst (λ o. moves_in o (r + 1) ≤ finished j) stood.1 count) in
          elim (cases_Bool (eqb j i)) [
            | inl mine ↦
                let same : j ≡ i = eqb-true j i mine in
                let track : tj ≡ ti = same_Some tj ti (sym stood.1 ∙ ap (track_of tt) same ∙ ei) in
                let done_i : moves_before ti (suc r) ≤ finished i
                = subst (λ k. moves_before k (suc r) ≤ finished i) track (subst (λ n. moves_before tj (suc r) ≤ finished n) same counted) in
                let leaves_i : moves_before ti (suc r) ≡ moves_before ti r + 1
                = subst (λ k. moves_before k (suc r) ≡ moves_before k r + 1) track leaves in
                let rise = moves-rise ti.start ti.later t r since in
                omega (arith, done_i, leaves_i, rise)
            | inr neither ↦
                let order = kept.order j tj stood.1 in
                before j i t c tj ti stood.1 ei (eqb-false j i neither) (strictly_by j r last.0 (eqb-false j i neither) since) at_i stood.2
                (omega (arith, counted, leaves, order))
          ]
    ] where
      strictly_by : (j r : ℕ) → Stands tt j r c → (j ≡ i → ⊥) → t ≤ r → t < r
      strictly_by j r at_r others since =
          elim (cases_lt t r) [
            | inl h ↦ h
            | inr past ↦ absurd (let e : r ≡ t = omega (arith, since, past) in
                others (free j i t c (subst (λ n. Stands tt j n c) e at_r) (stands-from tt i t c ti ei at_i)))
          ]

      strictly : (r : ℕ) → Stands tt l r c → t ≤ r → t < r
      strictly r at_r since = strictly_by l r at_r apart since

      stays : (j : ℕ) (tj : Track) → track_of tt j ≡ Some tj → eqb j l ≡ false → (r : ℕ) → r < s + 1
          → ((n m : ℕ) → r < n → n < s + 1 → Stands tt m n c → ⊥) → cell_at tj (suc r) ≡ c → ⊥
      stays j tj ej other r below nobody at_next =
          let there = stands-from tt j (suc r) c tj ej at_next in
          elim (cases_lt (suc r) (s + 1)) [
            | inl within ↦ nobody (suc r) j (omega arith) within there
            | inr past ↦
                let e : suc r ≡ s + 1 = omega (arith, below, past) in
                eqb-false j l other (free j l (s + 1) c (subst (λ n. Stands tt j n c) e there) (stands-from tt l (s + 1) c tl el at_l))
          ]

left_next : (tt : Timetable) (begun finished : ℕ → ℕ) → IsConflictFree tt → HaveNeedsMet tt begun finished → (s : ℕ)
    → ((r : ℕ) → r < s + 1 → IsLeft tt begun finished r) → IsLeft tt begun finished (s + 1)
left_next tt begun finished free kept s earlier l i t c tl ti el ei apart less at_i at_l most =
    let one : s + 1 ≡ suc s = omega arith in
    let at_suc : cell_at tl (suc s) ≡ c = subst (λ n. cell_at tl n ≡ c) one at_l in
    let most_suc : moves_before tl (suc s) ≤ begun l = subst (λ n. moves_before tl n ≤ begun l) one most in
    let rise = moves-rise tl.start tl.later s (suc s) (omega arith) in
    elim (cases_Bool (same_cell (cell_at tl s) c)) [
      | inl stays ↦
          let at_s = same_cell-same (cell_at tl s) c stays in
          elim (cases_lt t s) [
            | inl within ↦ earlier s (omega arith) l i t c tl ti el ei apart within at_i at_s (omega (arith, rise, most_suc))
            | inr past ↦ absurd (
                let e : s ≡ t = omega (arith, less, past) in
                apart (free l i t c (subst (λ n. Stands tt l n c) e (stands-from tt l s c tl el at_s)) (stands-from tt i t c ti ei at_i)))
          ]
      | inr enters ↦
          let moves_now : cell_at tl s ≡ cell_at tl (suc s) → ⊥ = λ e. false≢true (sym enters ∙ same_cell-true (cell_at tl s) c (e ∙ at_suc)) in
          let leaves = moves-leave tl.start tl.later s moves_now in
          let k = moves_before tl s in
          let step : step_of tl k ≡ s = step-of_move tl.start tl.later s moves_now in
          let met = kept.met l tl k el (omega (arith, leaves, most_suc)) in
          let at_step = subst (λ n. IsMet finished (need_by tt l (last_stand tt (cell_at tl (n + 1)) n))) step met in
          let at_cell = subst (λ x. IsMet finished (need_by tt l (last_stand tt x s))) at_l at_step in
          left_by_last tt begun finished free kept s earlier l i t c tl ti el ei apart less at_i at_l (omega (arith, rise, most_suc))
          (last_stand tt c s) (last_stand-is tt c s) at_cell
    ]

left_below : (tt : Timetable) (begun finished : ℕ → ℕ) → IsConflictFree tt → HaveNeedsMet tt begun finished → (bound s : ℕ) → s < bound
    → IsLeft tt begun finished s
left_below tt begun finished free kept zero s below = λ l i t c tl ti el ei apart less. omega (arith, below)
left_below tt begun finished free kept (suc bound) zero below = λ l i t c tl ti el ei apart less at_i at_l most. omega (arith, less)
left_below tt begun finished free kept (suc bound) (suc s) below =
    let one : s + 1 ≡ suc s = omega arith in
    subst (IsLeft tt begun finished) one
    (left_next tt begun finished free kept s (λ r less. left_below tt begun finished free kept bound r (omega (arith, below, less))))

left_all : (tt : Timetable) (begun finished : ℕ → ℕ) → IsConflictFree tt → HaveNeedsMet tt begun finished → (s : ℕ) → IsLeft tt begun finished s
left_all tt begun finished free kept s = left_below tt begun finished free kept (suc s) s (omega arith)

-- ---- two agents

apart_by : (tt : Timetable) (begun finished : ℕ → ℕ) → IsConflictFree tt → HaveNeedsMet tt begun finished → (l i s t : ℕ) (c : Cell) (tl ti : Track)
    → track_of tt l ≡ Some tl → track_of tt i ≡ Some ti → (l ≡ i → ⊥) → t < s → cell_at ti t ≡ c → cell_at tl s ≡ c
    → moves_before tl s ≤ begun l → finished i ≤ moves_before ti t → ⊥
apart_by tt begun finished free kept l i s t c tl ti el ei apart less at_i at_l most least =
    let left = left_all tt begun finished free kept s l i t c tl ti el ei apart less at_i at_l most in
    omega (arith, left, least)

pub inside-apart : (tt : Timetable) (begun finished : ℕ → ℕ) → IsConflictFree tt → HaveNeedsMet tt begun finished → (i j : ℕ) (c : Cell)
    → MayBeIn tt begun finished i c → MayBeIn tt begun finished j c → i ≡ j
inside-apart tt begun finished free kept i j c p q =
    let ti = p.0 in
    let tj = q.0 in
    let at_i = visit_time ti.start ti.later p.1 p.3 in
    let at_j = visit_time tj.start tj.later q.1 q.3 in
    let cell_i : cell_at ti at_i.0 ≡ c = sym (cell-visit ti.start ti.later at_i.0 ti.start) ∙ ap (λ n. get_or (path ti) n ti.start) at_i.1 ∙ p.4 in
    let cell_j : cell_at tj at_j.0 ≡ c = sym (cell-visit tj.start tj.later at_j.0 tj.start) ∙ ap (λ n. get_or (path tj) n tj.start) at_j.1 ∙ q.4 in
    elim (cases_Bool (eqb i j)) [
      | inl same ↦ eqb-true i j same
      | inr other ↦ elim (cases_order at_i.0 at_j.0) [
        | inl together ↦ free i j at_j.0 c (subst (λ n. Stands tt i n c) together (stands-from tt i at_i.0 c ti p.2 cell_i)) (stands-from tt j at_j.0 c tj q.2 cell_j)
        | inr (inl first) ↦ absurd (apart_by tt begun finished free kept j i at_j.0 at_i.0 c tj ti q.2 p.2 (λ e. eqb-false i j other (sym e)) first cell_i cell_j
            (omega (arith, at_j.1, q.6)) (omega (arith, at_i.1, p.5)))
        | inr (inr second) ↦ absurd (apart_by tt begun finished free kept i j at_i.0 at_j.0 c ti tj p.2 q.2 (eqb-false i j other) second cell_j cell_i
            (omega (arith, at_i.1, p.6)) (omega (arith, at_j.1, q.5)))
      ]
    ]
