-- What lists keep of a graph for one agent.
use Rattle.std.proofs.Common.{◌≡◌, ℕ, suc, ◌+◌, ◌-◌, ◌<◌, ◌≤◌, List, [], ◌∷◌, length, get_or, map, take, drop, Some, None, inl, inr, arith, refl, sym, ap, subst, ◌∙◌}
use Rattle.std.specs.Prelude.{◌==◌, Option, option_map, slice_get}
use Rattle.std.specs.List.{range_with_len}
use Rattle.std.proofs.lemmas.Bool.{cases_Bool, cond-true, cond-false}
use Rattle.std.proofs.lemmas.List.{length-map, get_or-map, ext_get_or, take_all, take-map, drop-map, length-drop, length-take-le, get_or-take, get_or-drop}
use Rattle.std.proofs.lemmas.List.FromFn.{get_or-map-range_with_len, length-map-range_with_len}
use Rattle.std.proofs.lemmas.Option.{none-some, same_Some, slice_get-get_or, slice_get-map, slice_get_past}
use Rattle.grid.specs.declared.cell.Cell.{Cell}
use Rattle.model.specs.declared.visit.Visit.{Visit}
use Rattle.model.specs.Dependency.{Need, need}
use Rattle.model.specs.Timetable.{Track, Timetable, moves, path, track_of}
use Rattle.depgraph.specs.declared.waiting.Wait.{Wait}
use Rattle.depgraph.specs.AgentParts.{IsPartOf}
use Rattle.depgraph.specs.Routes.{asked_by}
use Rattle.depgraph.specs.Code.Entries.{begin_in, IsEntry}
use Rattle.depgraph.specs.Code.Keeping.{AreKeptVisits, asked_of}
use Rattle.depgraph.specs.Code.Numbers.{no_cell, cells_by, AreKnown}
use Rattle.depgraph.specs.Code.Paths.{all_entered, all_times}
use Rattle.depgraph.specs.Code.Shares.{count_in, counts_by, need_told, needs_told, part_by, entries_among, HasShare}
use Rattle.depgraph.specs.Code.Waits.{no_wait}
use Rattle.depgraph.proofs.KeptLemmas.{kept_need, kept_moves, kept_route, entry_inside, ends_count}
use Rattle.depgraph.proofs.NumberLemmas.{length-cells_by, get_or-cells_by}
use Rattle.depgraph.proofs.PathLemmas.{no_track, own_path}
use Rattle.depgraph.proofs.VisitLemmas.{begin_is}

-- ---- how many moves each agent makes

pub length-counts : (ends : List ℕ) → length (counts_by ends) ≡ length ends
length-counts ends = length-map-range_with_len (count_in ends) 0 (length ends)

pub count-told : (ends : List ℕ) (i : ℕ) → i < length ends → slice_get (counts_by ends) i ≡ Some (count_in ends i)
count-told ends i less =
    let long = length-counts ends in
    slice_get-get_or (counts_by ends) i 0 (omega (arith, less, long)) ∙ ap Some (get_or-map-range_with_len (count_in ends) 0 (length ends) i i 0 less (omega arith))

pub no-count : (ends : List ℕ) (i : ℕ) → length ends ≤ i → slice_get (counts_by ends) i ≡ None
no-count ends i past = (let long = length-counts ends in slice_get_past (counts_by ends) i (omega (arith, past, long)))

-- ---- what stands behind the first

pub second : {X : Type 0} (xs : List X) (n : ℕ) → slice_get (drop 1 xs) n ≡ slice_get xs (n + 1)
second [] n = refl
second (x ∷ xs) n = (let next : suc n ≡ n + 1 = omega arith in ap (slice_get (x ∷ xs)) next)

-- ---- cells with numbers of their own

pub same-cells : (names own : List Cell) (numbers own_numbers : List ℕ) → own ≡ take (length numbers) (cells_by names numbers) → own_numbers ≡ map (λ n. n) (range_with_len 0 (length numbers))
    → (cells_by own own_numbers ≡ cells_by names numbers) × AreKnown own own_numbers
same-cells names own numbers own_numbers are_own are_numbers =
    let n = length numbers in
    let cells = cells_by names numbers in
    let long = length-cells_by names numbers in
    let all : own ≡ cells = are_own ∙ take_all n cells (omega (arith, long)) in
    let count = ap length are_numbers ∙ length-map-range_with_len (λ k. k) 0 n in
    let wide = ap length all in
    let at : (e : ℕ) → e < length own_numbers → get_or own_numbers e 0 ≡ e = λ e less.
    ap (λ l. get_or l e 0) are_numbers ∙ get_or-map-range_with_len (λ k. k) 0 n e e 0 (omega (arith, less, count)) (omega arith) in
    let many = length-cells_by own own_numbers in (
      ext_get_or no_cell (cells_by own own_numbers) own (omega (arith, many, count, wide, long))
          (λ e less. get_or-cells_by own own_numbers e (omega (arith, less, many)) ∙ ap (λ k. get_or own k no_cell) (at e (omega (arith, less, many)))) ∙ all,
      λ e less. (let is = at e less in omega (arith, is, less, count, wide, long)),
    )

-- ---- what a wait asks for

untold : (o : Option Need) (w : Wait) → asked_by (Some o) ≡ asked_of w → o ≡ need_told w
untold o w is = elim (cases_Bool (w.count == 0)) [
  | inl none ↦ nobody o (is ∙ cond-true (w.count == 0) None (Some (w.agent, w.count)) none) ∙ sym (cond-true (w.count == 0) None (Some (record { agent = w.agent; count = w.count })) none)
  | inr some ↦ somebody o (is ∙ cond-false (w.count == 0) None (Some (w.agent, w.count)) some) ∙ sym (cond-false (w.count == 0) None (Some (record { agent = w.agent; count = w.count })) some)
] where
  nobody : (p : Option Need) → asked_by (Some p) ≡ None → p ≡ None
  nobody None e = refl
  nobody (Some n) e = absurd (none-some _ (sym e))

  somebody : (p : Option Need) → asked_by (Some p) ≡ Some (w.agent, w.count) → p ≡ Some (record { agent = w.agent; count = w.count })
  somebody None e = absurd (none-some _ e)
  somebody (Some n) e = ap {A = ℕ × ℕ} {B = Option Need} (λ t. Some (record { agent = t.0; count = t.1 })) (same_Some (n.agent, n.count) (w.agent, w.count) e)

-- ---- the share of an agent in what a graph keeps

module _ (tt : Timetable) (names : List Cell) (numbers times ends : List ℕ) (needs : List Wait) (visits : List Visit) (visit_ends : List ℕ)
    (h : AreKeptVisits tt (cells_by names numbers) times ends needs visits visit_ends) (i : ℕ) (less : i < length ends) where
  abbrev track : Track
  track = get_or tt.tracks i no_track

  is_track : track_of tt i ≡ Some track
  is_track = (kept_moves tt (cells_by names numbers) times ends needs visits visit_ends h i less).1

  share-begins : begin_in ends i < get_or ends i 0
  share-begins = (let some = (kept_moves tt (cells_by names numbers) times ends needs visits visit_ends h i less).0 in omega (arith, some))

  count : get_or ends i 0 - begin_in ends i - 1 ≡ moves track
  count = (kept_moves tt (cells_by names numbers) times ends needs visits visit_ends h i less).2

  last : IsEntry ends i (get_or ends i 0 - begin_in ends i - 1) (get_or ends i 0 - 1)
  last = (let some = share-begins in record { is_agent = less; place = omega (arith, some); within = omega (arith, some) })

  share-ends : (get_or ends i 0 ≤ length numbers) × (get_or ends i 0 ≤ length needs)
  share-ends =
      let inside = entry_inside tt (cells_by names numbers) times ends needs visits visit_ends h i _ _ last in
      let cells = inside.0 in
      let waits = inside.2 in
      let long = length-cells_by names numbers in
      (omega (arith, cells, long), omega (arith, waits))

  abbrev own_numbers : List ℕ
  own_numbers = entries_among ends i numbers

  abbrev own_needs : List Wait
  own_needs = entries_among ends i needs

  own_cells : cells_by names own_numbers ≡ path track
  own_cells =
      let name : ℕ → Cell = λ n. get_or names n no_cell in
      let within : i < length tt.tracks = (let all = ends_count tt (cells_by names numbers) times ends needs visits visit_ends h in omega (arith, less, all)) in
      sym (take-map name (get_or ends i 0 - begin_in ends i) (drop (begin_in ends i) numbers))
      ∙ ap (take (get_or ends i 0 - begin_in ends i)) (sym (drop-map name (begin_in ends i) numbers))
      ∙ ap (λ l. take (get_or ends i 0 - begin_in ends i) (drop (begin_in ends i) l)) h.are_cells
      ∙ ap (λ b. take (get_or ends i 0 - b) (drop b (all_entered tt.tracks))) (begin_is tt.tracks (all_entered tt.tracks) (all_times tt.tracks) ends h.line.paths i within)
      ∙ own_path tt.tracks (all_entered tt.tracks) (all_times tt.tracks) ends i no_track h.line.paths within

  length-own : {X : Type 0} (xs : List X) → get_or ends i 0 ≤ length xs → length (take (get_or ends i 0 - begin_in ends i) (drop (begin_in ends i) xs)) ≡ get_or ends i 0 - begin_in ends i
  length-own xs within =
      let rest = length-drop (begin_in ends i) xs in
      let some = share-begins in
      length-take-le (get_or ends i 0 - begin_in ends i) (drop (begin_in ends i) xs) (omega (arith, rest, within, some))

  get_or-own : {X : Type 0} (xs : List X) (k : ℕ) (d : X) → k < get_or ends i 0 - begin_in ends i
      → get_or (take (get_or ends i 0 - begin_in ends i) (drop (begin_in ends i) xs)) k d ≡ get_or xs (begin_in ends i + k) d
  get_or-own xs k d before = get_or-take (get_or ends i 0 - begin_in ends i) (drop (begin_in ends i) xs) k d before ∙ get_or-drop (begin_in ends i) xs k d

  all_moves : counts_by ends ≡ map moves tt.tracks
  all_moves =
      let long = length-counts ends in
      let tracks = length-map tt.tracks moves in
      let all = ends_count tt (cells_by names numbers) times ends needs visits visit_ends h in
      ext_get_or 0 (counts_by ends) (map moves tt.tracks) (omega (arith, long, tracks, all))
      (λ j within. (let one : j < length ends = omega (arith, within, long) in
      get_or-map-range_with_len (count_in ends) 0 (length ends) j j 0 one (omega arith)
      ∙ (kept_moves tt (cells_by names numbers) times ends needs visits visit_ends h j one).2
      ∙ sym (get_or-map moves tt.tracks j no_track 0 (omega (arith, one, all)))))

  own_count : length (needs_told own_needs) ≡ moves track
  own_count =
      let long = length-own needs share-ends.1 in
      let told = length-map (drop 1 own_needs) need_told in
      let rest = length-drop 1 own_needs in
      let c = count in
      omega (arith, long, told, rest, c)

  own_need : (k : ℕ) → k < moves track → slice_get (needs_told own_needs) k ≡ Some (need tt i track k)
  own_need k before =
      let c = count in
      let b = begin_in ends i in
      let e = begin_in ends i + (k + 1) in
      let long = length-own needs share-ends.1 in
      let some = share-begins in
      let entry : IsEntry ends i (k + 1) e = record { is_agent = less; place = refl; within = omega (arith, before, c, some) } in
      let wait = get_or needs e no_wait in
      let route = kept_route tt (cells_by names numbers) times ends needs visits visit_ends h i track is_track in
      slice_get-map need_told (drop 1 own_needs) k
      ∙ ap (option_map need_told) (second own_needs k ∙ slice_get-get_or own_needs (k + 1) no_wait (omega (arith, before, c, long))
      ∙ ap Some (get_or-own needs (k + 1) no_wait (omega (arith, before, c))))
      ∙ ap Some (sym (untold (need tt i track k) wait
      (ap asked_by (sym (route.needs k before)) ∙ kept_need tt (cells_by names numbers) times ends needs visits visit_ends h i k e entry)))

  pub share-part : (number : ℕ) → number ≡ tt.number → IsPartOf tt (part_by number i names own_numbers own_needs ends)
  share-part number same = record {
    track = track;
    is_track = is_track;
    number = same;
    all_moves = all_moves;
    cells = own_cells;
    need_count = own_count;
    needs = own_need;
  }

  pub has_share : (number : ℕ) → number ≡ tt.number → AreKnown names numbers → HasShare number i names numbers needs ends
  has_share number same known = record {
    is_agent = less;
    numbers_end = share-ends.0;
    needs_end = share-ends.1;
    share = record {
      of_graph = (tt, h.graphed, share-part number same);
      known = λ k within. (
          let long = length-own numbers share-ends.0 in
          let ends_at = share-ends.0 in
          let some = share-begins in
          let at = get_or-own numbers k 0 (omega (arith, within, long)) in
          let is = known (begin_in ends i + k) (omega (arith, within, long, ends_at, some)) in
          omega (arith, at, is)
          );
      rising = λ j within. (let some = (kept_moves tt (cells_by names numbers) times ends needs visits visit_ends h j within).0 in omega (arith, some));
    };
  }

-- what holds of four lists holds of the same lists when they are lent
pub share-lent : {A B C D : Type 0} (R : A → B → C → D → Type 0) {a given_a : A} {b given_b : B} {c given_c : C} {d given_d : D} → given_a ≡ a → given_b ≡ b → given_c ≡ c → given_d ≡ d
    → R a b c d → R given_a given_b given_c given_d
share-lent R {a = a} {given_a = given_a} {b = b} {given_b = given_b} {c = c} {given_c = given_c} {d = d} {given_d = given_d} p q r s x =
    subst (λ w. R given_a given_b given_c w) (sym s) (subst (λ z. R given_a given_b z d) (sym r) (subst (λ y. R given_a y c d) (sym q) (subst (λ v. R v b c d) (sym p) x)))
