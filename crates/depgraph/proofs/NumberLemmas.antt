-- One number more, and the numbers of the arrivals.
use Rattle.std.proofs.Common.{◌≡◌, ℕ, suc, ◌+◌, ◌<◌, ◌≤◌, List, [], ◌∷◌, ◌++◌, length, get_or, Some, inl, inr, arith, refl, sym, ap, subst, ◌∙◌}
use Rattle.std.specs.Prelude.{slice_get}
use Rattle.std.proofs.lemmas.Bool.{cases_lt}
use Rattle.std.proofs.lemmas.List.{length-append, length-map, map-append, get_or-map, get_or_push, get_or_append_left}
use Rattle.std.proofs.lemmas.Option.{slice_get-get_or, slice_get_within, get_or_from_slice_get}
use Rattle.grid.specs.declared.cell.Cell.{Cell}
use Rattle.depgraph.specs.declared.placing.Arrival.{Arrival}
use Rattle.depgraph.specs.Code.Numbers.{no_cell, cells_by, AreKnown, AreDistinct, HasNumber, AreNumbered, AreListed}
use Rattle.depgraph.specs.Code.Schedules.{entry_in, AreTaken}

-- ---- one number more

module _ (cells names new : List Cell) (numbers : List ℕ) (cell : Cell) (n : ℕ) where
  kept-name : HasNumber names new cell n → (m : ℕ) (c : Cell) → slice_get names m ≡ Some c → slice_get new m ≡ Some c
  kept-name h m c at = elim h.grown [
    | inl added ↦ (
        let within = slice_get_within names m c at in
        let long = length-append names (cell ∷ []) in
        ap (λ l. slice_get l m) added.1 ∙ slice_get-get_or (names ++ cell ∷ []) m no_cell (omega (arith, within, long))
        ∙ ap Some (get_or_append_left names (cell ∷ []) no_cell m within ∙ get_or_from_slice_get names m c no_cell at)
        )
    | inr stays ↦ ap (λ l. slice_get l m) stays.1 ∙ at
  ]

  new-last : HasNumber names new cell n → (m : ℕ) → m < length new → length names ≤ m → m ≡ n
  new-last h m less past = elim h.grown [
    | inl added ↦ (
        let is = added.0 in
        let long = ap length added.1 ∙ length-append names (cell ∷ []) in
        omega (arith, is, long, less, past)
        )
    | inr stays ↦ (let long = ap length stays.1 in absurd (omega (arith, long, less, past)))
  ]

  new-few : HasNumber names new cell n → length new ≤ length names + 1
  new-few h = elim h.grown [
    | inl added ↦ (let long = ap length added.1 ∙ length-append names (cell ∷ []) in omega (arith, long))
    | inr stays ↦ (let long = ap length stays.1 in omega (arith, long))
  ]

  pub numbered-next : AreNumbered cells names numbers → HasNumber names new cell n → AreDistinct new → cell ≡ get_or cells (length numbers) no_cell
      → AreNumbered cells new (numbers ++ n ∷ [])
  numbered-next was h distinct is_cell =
      let longer = length-append numbers (n ∷ []) in
      let before : (e : ℕ) → e < length numbers → get_or (numbers ++ n ∷ []) e 0 ≡ get_or numbers e 0 = λ e less. get_or_append_left numbers (n ∷ []) 0 e less in
      let last : get_or (numbers ++ n ∷ []) (length numbers) 0 ≡ n = get_or_push numbers n 0 (length numbers) refl in
      record {
        distinct = distinct;
        named = λ e less. elim (cases_lt e (length numbers)) [
          | inl earlier ↦ ap (slice_get new) (before e earlier) ∙ kept-name h (get_or numbers e 0) (get_or cells e no_cell) (was.named e earlier)
          | inr end ↦ (
              let one : length numbers ≡ e = omega (arith, less, end, longer) in
              subst (λ q. slice_get new (get_or (numbers ++ n ∷ []) q 0) ≡ Some (get_or cells q no_cell)) one (ap (slice_get new) last ∙ h.is_at ∙ ap Some is_cell)
              )
        ];
        occurs = λ m less. elim (cases_lt m (length names)) [
          | inl old ↦ (
              let found = was.occurs m old in
              let within = found.1 in
              (found.0, omega (arith, within, longer), before found.0 found.1 ∙ found.2)
              )
          | inr fresh ↦ (length numbers, omega (arith, longer), last ∙ sym (new-last h m less fresh))
        ];
        few = (let some = new-few h in let was_few = was.few in omega (arith, some, was_few, longer));
      }

-- ---- the cells with these numbers

pub length-cells_by : (names : List Cell) (numbers : List ℕ) → length (cells_by names numbers) ≡ length numbers
length-cells_by names numbers = length-map numbers (λ n. get_or names n no_cell)

pub get_or-cells_by : (names : List Cell) (numbers : List ℕ) (e : ℕ) → e < length numbers → get_or (cells_by names numbers) e no_cell ≡ get_or names (get_or numbers e 0) no_cell
get_or-cells_by names numbers e less = get_or-map (λ n. get_or names n no_cell) numbers e 0 no_cell less

pub are_known : (cells names : List Cell) (numbers : List ℕ) → AreNumbered cells names numbers → AreKnown names numbers
are_known cells names numbers h e less = slice_get_within names (get_or numbers e 0) (get_or cells e no_cell) (h.named e less)

-- names that are added change no cell
same_cells : (names new : List Cell) (numbers : List ℕ) → ((n : ℕ) → n < length names → get_or new n no_cell ≡ get_or names n no_cell) → AreKnown names numbers
    → cells_by new numbers ≡ cells_by names numbers
same_cells names new [] same known = refl
same_cells names new (n ∷ numbers) same known =
    ap (λ c. c ∷ cells_by new numbers) (same n (known 0 (omega arith)))
    ∙ ap (λ l. get_or names n no_cell ∷ l) (same_cells names new numbers same (λ e less. known (suc e) (omega (arith, less))))

-- one cell more
module _ (names new : List Cell) (numbers : List ℕ) (cell : Cell) (n : ℕ) (was : AreNumbered (cells_by names numbers) names numbers) (h : HasNumber names new cell n) where
  pub cells-next : cells_by new (numbers ++ n ∷ []) ≡ cells_by names numbers ++ cell ∷ []
  cells-next =
      map-append {A = ℕ} {B = Cell} (λ m. get_or new m no_cell) numbers (n ∷ [])
      ∙ ap {A = List Cell} (λ l. l ++ get_or new n no_cell ∷ []) (same_cells names new numbers old (are_known (cells_by names numbers) names numbers was))
      ∙ ap (λ c. cells_by names numbers ++ c ∷ []) (get_or_from_slice_get new n cell no_cell h.is_at) where
        old : (m : ℕ) → m < length names → get_or new m no_cell ≡ get_or names m no_cell
        old m less = get_or_from_slice_get new m (get_or names m no_cell) no_cell (kept-name (cells_by names numbers) names new numbers cell n h m (get_or names m no_cell)
            (slice_get-get_or names m no_cell less))

  pub numbered-more : AreDistinct new → AreNumbered (cells_by new (numbers ++ n ∷ [])) new (numbers ++ n ∷ [])
  numbered-more distinct =
      subst (λ l. AreNumbered l new (numbers ++ n ∷ [])) (sym cells-next) (numbered-next (cells_by names numbers ++ cell ∷ []) names new numbers cell n before h distinct last) where
        before : AreNumbered (cells_by names numbers ++ cell ∷ []) names numbers
        before = record {
          distinct = was.distinct;
          named = λ e less. was.named e less ∙ ap Some (sym (get_or_append_left (cells_by names numbers) (cell ∷ []) no_cell e
              (let long = length-cells_by names numbers in omega (arith, less, long))));
          occurs = was.occurs;
          few = was.few;
        }

        last : cell ≡ get_or (cells_by names numbers ++ cell ∷ []) (length numbers) no_cell
        last = sym (get_or_push (cells_by names numbers) cell no_cell (length numbers) (length-cells_by names numbers))

  pub names_more : n ≡ length names → new ≡ names ++ cell ∷ []
  names_more next = elim h.grown [ inl added ↦ added.1 | inr stays ↦ (let less = stays.0 in absurd (omega (arith, less, next))) ]

  pub names_same : (n ≡ length names → ⊥) → new ≡ names
  names_same other = elim h.grown [ inl added ↦ absurd (other added.0) | inr stays ↦ stays.1 ]

-- ---- the numbers of the arrivals

-- where each entry has an arrival
pub are_listed : (cells names : List Cell) (numbers ends : List ℕ) (arrivals : List Arrival) (taken : List ℕ) → AreNumbered cells names numbers → length numbers ≡ length cells
    → AreTaken numbers ends arrivals taken → ((p : ℕ) → p < length arrivals → entry_in ends arrivals p < length cells)
    → ((e : ℕ) → e < length cells → (p : ℕ) × (p < length arrivals) × (entry_in ends arrivals p ≡ e)) → AreListed cells ends arrivals names taken
are_listed cells names numbers ends arrivals taken h count t inside place =
    let many = t.count in
    let named : (p : ℕ) → p < length taken → slice_get names (get_or taken p 0) ≡ Some (get_or cells (entry_in ends arrivals p) no_cell) = λ p less.
    let within = inside p (omega (arith, less, many)) in
    ap (slice_get names) (t.each p (omega (arith, less, many))) ∙ h.named (entry_in ends arrivals p) (omega (arith, within, count)) in
    record {
      distinct = h.distinct;
      named = named;
      known = λ p less. slice_get_within names (get_or taken p 0) (get_or cells (entry_in ends arrivals p) no_cell) (named p less);
      occurs = λ n less. (
          let found = h.occurs n less in
          let within = found.1 in
          let at = place found.0 (omega (arith, within, count)) in
          let in_p = at.1 in
          (at.0, omega (arith, in_p, many), t.each at.0 at.1 ∙ ap (λ e. get_or numbers e 0) at.2 ∙ found.2)
          );
    }
