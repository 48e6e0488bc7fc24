-- Where an agent's drive went, by the agent's deeds: along its path, as far as its tape says.
use Rattle.std.proofs.Common.{◌≡◌, ℕ, ◌+◌, ◌*◌, ◌%◌, ◌/◌, ◌≤◌, Bool, true, false, List, [], ◌∷◌, ◌++◌, length, take, drop, Some, None, Result, Err, inl, inr, refl, sym, ap, subst, ◌∙◌, arith}
use Rattle.std.specs.Prelude.{◌==◌, ◌⊎◌, Option, if◌then◌else◌}
use Rattle.std.proofs.lemmas.Bool.{cond-true, cond-false, eq-eqb, ne_eqb, eqb-true, eqb-false, false≢true}
use Rattle.std.proofs.lemmas.List.{take_more, length-take-le, take-append-drop}
use Rattle.grid.specs.declared.cell.Cell.{Cell}
use Rattle.model.specs.declared.held.Held.{Held}
use Rattle.model.specs.declared.held.Held.TheVariants.{At, Between}
use Rattle.model.specs.Rules.{path_cell}
use Rattle.model.specs.Safety.{IsBeginningOf}
use Rattle.model.specs.Timetable.{Track, Timetable, moves, path}
use Rattle.model.specs.Laws.Tracks.{first_cell, length-path}
use Rattle.agent.specs.States.{State, is_on_the_way, finished_moves, begun_moves, held_by_tape}
use Rattle.agent.specs.States.{next_cell, start_refusal, finish_refusal, Answers}
use Rattle.agent.specs.States.{IsHeard}
use Rattle.agent.specs.declared.refusal.HearFault.{HearFault}
use Rattle.agent.specs.declared.refusal.Refusal.{Refusal}
use Rattle.agent.specs.declared.refusal.Refusal.TheVariants.{Broken, AlreadyMoving}
use Rattle.fleet.specs.Deeds.{Deed, opens, starts, finishes, says, tells, hears, holds, looks, ends, stops, ends_starting, ends_finishing, Does, DoesAll}
use Rattle.fleet.specs.Fleets.{fresh}
use Rattle.fleet.specs.FleetSafety.{walked_on, walked_through, walked}
use Rattle.fleet.proofs.KnowsLemmas.{none_if, finish-begins}
use Rattle.fleet.proofs.LeadingOn.{heard-same, heard-broken}
use Rattle.fleet.proofs.WithinLemmas.{stays}

-- The drive was told of so many moves: of those that are begun, or of all but the last, whose record was stored when its write failed.
pub record IsWalked (track : Track) (s : State) (cells : List Cell) : Type 0 where
  pub told : ℕ
  pub few : told ≤ moves track
  pub is : cells ≡ take (told + 1) (path track)
  pub so_far : (told ≡ begun_moves s) ⊎ ((told + 1 ≡ begun_moves s) × (s.records % 2 ≡ 1) × (s.broken ≡ true))

long : (track : Track) → length (path track) ≡ moves track + 1
long track = length-path track.start track.later

-- one cell more of the path
next-walked : (track : Track) (n : ℕ) (cells : List Cell) → n + 1 ≤ moves track → cells ≡ take (n + 1) (path track) → cells ++ path_cell track (n + 1) ∷ [] ≡ take (n + 1 + 1) (path track)
next-walked track n cells more is =
    ap (λ l. l ++ path_cell track (n + 1) ∷ []) is
    ∙ sym (take_more (path track) (n + 1) track.start (let size = long track in omega (arith, more, size)))

pub walked-first : (track : Track) (s : State) → s ≡ fresh → IsWalked track s (track.start ∷ [])
walked-first track s is = record {
  told = 0;
  few = omega arith;
  is = sym (take_more (path track) 0 track.start (let size = long track in omega (arith, size)) ∙ ap (λ c. c ∷ []) (first_cell track.start track.later track.start));
  so_far = inl (sym (ap begun_moves is));
}

module _ (table : Timetable) (i : ℕ) (track : Track) (old : State) (within : old.records ≤ 2 * moves track) (cells : List Cell) (was : IsWalked track old cells) where
  same-walked : (new : State) → new.records ≡ old.records → new.broken ≡ old.broken → IsWalked track new cells
  same-walked new records broken = record {
    told = was.told;
    few = was.few;
    is = was.is;
    so_far = elim was.so_far [
      | inl all ↦ inl (all ∙ ap (λ n. (n + 1) / 2) (sym records))
      | inr (one, odd, failed) ↦ inr (one ∙ ap (λ n. (n + 1) / 2) (sym records), ap (λ n. n % 2) records ∙ odd, broken ∙ failed)
    ];
  }

  stays-walked : (new : State) → new ≡ old → IsWalked track new cells
  stays-walked new same = same-walked new (ap (λ s. s.records) same) (ap (λ s. s.broken) same)

  -- who isn't broken was told of all that is begun
  told-all : old.broken ≡ false → was.told ≡ begun_moves old
  told-all whole = elim was.so_far [
    | inl all ↦ all
    | inr (one, odd, failed) ↦ absurd (false≢true (sym whole ∙ failed))
  ]

  -- ---- a start

  module _ (new : State) (limit : new.records ≤ 2 * moves track) where
    starts-walked : (answer : Result Cell Refusal) → Answers (start_refusal table i track old) old new (next_cell track old) answer
        → IsWalked track new (walked_on (starts answer) cells)
    starts-walked answer gives = by (start_refusal table i track old) refl gives where
      by : (o : Option Refusal) → start_refusal table i track old ≡ o → Answers o old new (next_cell track old) answer → IsWalked track new (walked_on (starts answer) cells)
      by (Some why) is refuses = subst (λ a. IsWalked track new (walked_on (starts a) cells)) (sym refuses.0) (stays-walked new refuses.1)
      by None is stores =
          let first = none_if old.broken Broken _ is in
          let second = none_if (is_on_the_way old) AlreadyMoving _ first.1 in
          let odd = eqb-false (old.records % 2) 1 second.0 in
          let half : old.records % 2 ≡ 0 = grind (arith, odd) in
          let all = told-all first.0 in
          let at_rest : finished_moves old ≡ was.told = grind (arith, half, all) in
          elim stores.outcome [
            | inl good ↦ (
                let more = good.1 in
                let most : was.told + 1 ≤ moves track = grind (arith, half, all, more, limit) in
                let begun : was.told + 1 ≡ begun_moves new = grind (arith, half, all, more) in
                subst (λ a. IsWalked track new (walked_on (starts a) cells)) (sym good.0)
                (record {
                  told = was.told + 1;
                  few = most;
                  is = ap (λ n. cells ++ path_cell track (n + 1) ∷ []) at_rest ∙ next-walked track was.told cells most was.is;
                  so_far = inl begun;
                })
                )
            | inr bad ↦ (
                let kept : IsWalked track new cells = elim bad.1 [
                  | inl same ↦ record { told = was.told; few = was.few; is = was.is; so_far = inl (all ∙ ap (λ n. (n + 1) / 2) (sym same)) }
                  | inr more ↦ record {
                    told = was.told;
                    few = was.few;
                    is = was.is;
                    so_far = inr (grind (arith, half, all, more), grind (arith, half, more), bad.2);
                  }
                ] in
                subst (λ a. IsWalked track new (walked_on (starts a) cells)) (sym bad.0) kept
                )
          ]

  -- ---- a finish

  finishes-walked : (new : State) (answer : Result Cell Refusal) (c : Cell) → Answers (finish_refusal old) old new c answer → IsWalked track new cells
  finishes-walked new answer c gives = by (finish_refusal old) refl gives where
    begun : begun_moves new ≡ begun_moves old
    begun = finish-begins old new c answer gives

    by : (o : Option Refusal) → finish_refusal old ≡ o → Answers o old new c answer → IsWalked track new cells
    by (Some why) is refuses = stays-walked new refuses.1
    by None is stores = record {
      told = was.told;
      few = was.few;
      is = was.is;
      so_far = inl (told-all (none_if old.broken Broken _ is).0 ∙ sym begun);
    }

  -- ---- an opened tape

  opens-walked : (new : State) (what : Held) (count : ℕ) → what ≡ held_by_tape track old → count ≡ finished_moves old → new ≡ record { records = old.records; heard = []; broken = false }
      → IsWalked track new (walked_on (opens what count) cells)
  opens-walked new what count held_is count_is new_is = by (is_on_the_way old) refl where
    records : new.records ≡ old.records
    records = ap (λ s. s.records) new_is

    size : length cells ≡ was.told + 1
    size = ap length was.is ∙ length-take-le (was.told + 1) (path track) (let most = was.few in let all = long track in omega (arith, most, all))

    at : Cell
    at = path_cell track (finished_moves old)

    to : Cell
    to = path_cell track (finished_moves old + 1)

    all-told : was.told ≡ begun_moves old → IsWalked track new cells
    all-told all = record { told = was.told; few = was.few; is = was.is; so_far = inl (all ∙ ap (λ n. (n + 1) / 2) (sym records)) }

    by : (b : Bool) → is_on_the_way old ≡ b → IsWalked track new (walked_on (opens what count) cells)
    by false way =
        let odd = eqb-false (old.records % 2) 1 way in
        let stands : what ≡ At at = held_is ∙ ap (λ b. if b then Between at to else At at) way in
        subst (λ w. IsWalked track new (walked_on (opens w count) cells)) (sym stands) (elim was.so_far [
          | inl all ↦ all-told all
          | inr (one, is_odd, failed) ↦ absurd (odd is_odd)
        ])
    by true way =
        let odd = eqb-true (old.records % 2) 1 way in
        let moving : what ≡ Between at to = held_is ∙ ap (λ b. if b then Between at to else At at) way in
        subst (λ w. IsWalked track new (walked_on (opens w count) cells)) (sym moving) (elim was.so_far [
          | inl all ↦ (
              let other : length cells ≡ count + 1 → ⊥ = λ e. grind (arith, e, size, count_is, all, odd) in
              subst (IsWalked track new) (sym (cond-false (length cells == count + 1) (cells ++ to ∷ []) cells (ne_eqb (length cells) (count + 1) other))) (all-told all)
              )
          | inr (one, is_odd, failed) ↦ (
              let told_is : finished_moves old ≡ was.told = grind (arith, odd, one) in
              let same : length cells ≡ count + 1 = omega (arith, size, count_is, told_is) in
              let most : was.told + 1 ≤ moves track = grind (arith, one, within) in
              subst (IsWalked track new) (sym (cond-true (length cells == count + 1) (cells ++ to ∷ []) cells (eq-eqb (length cells) (count + 1) same)))
              (record {
                told = was.told + 1;
                few = most;
                is = ap (λ n. cells ++ path_cell track (n + 1) ∷ []) told_is ∙ next-walked track was.told cells most was.is;
                so_far = inl (one ∙ ap (λ n. (n + 1) / 2) (sym records));
              })
              )
        ])

  -- ---- what is heard

  heard-walked : (new : State) (bytes : List ℕ) (answer : Result (ℕ × ℕ) HearFault) → IsHeard table old new bytes answer → IsWalked track new cells
  heard-walked new bytes answer heard = same-walked new (heard-same table old new bytes answer heard) (heard-broken table old new bytes answer heard)

  -- ---- every deed

  pub walks-on : (deed : Deed) (new : State) → Does table i track old deed new → IsWalked track new (walked_on deed cells)
  walks-on (opens what count) new does = opens-walked new what count does.0 does.1 does.2
  walks-on (starts answer) new does = starts-walked new (stays table i track old within (starts answer) new does) answer does
  walks-on (finishes answer) new does = finishes-walked new answer _ does
  walks-on (says answer) new does = stays-walked new does.1
  walks-on (tells answer) new does = stays-walked new does.1
  walks-on (hears bytes answer) new does = heard-walked new bytes answer does
  walks-on (holds what count) new does = stays-walked new does.2
  walks-on (looks begun most count) new does = stays-walked new does.2
  walks-on ends new does = stays-walked new does
  walks-on stops new does = stays-walked new does
  walks-on ends_starting new does = starts-walked new (stays table i track old within ends_starting new does) (Err _) does
  walks-on ends_finishing new does = finishes-walked new _ _ does

-- all deeds, one after another
walks-all : (table : Timetable) (i : ℕ) (track : Track) (old new : State) (cells : List Cell) (deeds : List Deed) → old.records ≤ 2 * moves track → IsWalked track old cells
    → DoesAll table i track old deeds new → IsWalked track new (walked_through deeds cells)
walks-all table i track old new cells [] within was all = subst (λ s. IsWalked track s cells) (sym all) was
walks-all table i track old new cells (deed ∷ deeds) within was all =
    walks-all table i track all.0 new (walked_on deed cells) deeds (stays table i track old within deed all.0 all.1)
    (walks-on table i track old within cells was deed all.0 all.1) all.2

-- so a walk is a beginning of its path
pub walks-path : (table : Timetable) (i : ℕ) (track : Track) (new : State) (deeds : List Deed) → DoesAll table i track fresh deeds new → IsBeginningOf (walked track deeds) (path track)
walks-path table i track new deeds all =
    let walks = walks-all table i track fresh new (track.start ∷ []) deeds (omega arith) (walked-first track fresh refl) all in
    let rest = drop (walks.told + 1) (path track) in
    (rest, sym (ap (λ l. l ++ rest) walks.is ∙ take-append-drop (walks.told + 1) (path track)))
