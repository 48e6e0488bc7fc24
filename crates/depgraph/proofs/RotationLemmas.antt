-- Who moves in a step arrives at the time after it, and the visit before in that cell tells into whose cell it moves.
use Rattle.std.proofs.Common.{◌≡◌, ℕ, ◌+◌, ◌<◌, List, length, get_or, Some, inl, inr, arith, refl, sym, ap, ◌∙◌}
use Rattle.std.specs.Prelude.{◌==◌}
use Rattle.std.proofs.lemmas.Bool.{cond-false, ne_eqb}
use Rattle.std.proofs.lemmas.Option.{same_Some, none-some}
use Rattle.grid.specs.declared.cell.Cell.{Cell}
use Rattle.model.specs.declared.visit.Visit.{Visit}
use Rattle.model.specs.Timetable.{Track, Timetable, cell_at, moves_before, track_of}
use Rattle.model.specs.Dependency.{Stand, moves_in, moves_to, MovesInto}
use Rattle.model.specs.Laws.Needs.{IsLastBelow, stands-from}
use Rattle.depgraph.specs.declared.waiting.Wait.{Wait}
use Rattle.depgraph.specs.Visits.{IsVisitTo}
use Rattle.depgraph.specs.Code.Keeping.{AreKeptVisits}
use Rattle.depgraph.specs.Code.Paths.{all_entered, all_times}
use Rattle.depgraph.specs.Code.Schedules.{entry_in}
use Rattle.depgraph.specs.Code.Turning.{AreLaid}
use Rattle.depgraph.specs.Code.Waits.{no_wait, wait_of}
use Rattle.depgraph.proofs.KeptLemmas.{arrives_at, place_of, before_of, before_is, looked_up}
use Rattle.depgraph.proofs.PositionLemmas.{arrival-visit, visit-arrival}
use Rattle.depgraph.proofs.WaitLemmas.{same_place, nobody-before, last-visit}

-- what finds the rotations knows all that a graph keeps
abbrev pub kept : (tt : Timetable) (ends : List ℕ) (waits : List Wait) (ahead : List ℕ) (l : AreLaid tt ends waits ahead)
    → AreKeptVisits tt (all_entered tt.tracks) (all_times tt.tracks) ends waits l.visits l.visit_ends
kept tt ends waits ahead l = record {
  graphed = l.graphed;
  are_cells = refl;
  are_times = refl;
  arrivals = l.arrivals;
  step_ends = l.step_ends;
  line = l.line;
  placing = l.placing;
  are_needs = l.are_waits;
}

module _ (tt : Timetable) (cells : List Cell) (times ends : List ℕ) (needs : List Wait) (visits : List Visit) (visit_ends : List ℕ) (h : AreKeptVisits tt cells times ends needs visits visit_ends) where
  -- the visit and the cell of an arrival
  abbrev pub visit_of : ℕ → Visit
  visit_of p = arrives_at tt cells times ends needs visits visit_ends h p

  abbrev pub cell_in : ℕ → Cell
  cell_in p = place_of tt cells times ends needs visits visit_ends h p

  pub is_visit : (p : ℕ) → p < length h.arrivals → IsVisitTo tt (cell_in p) (visit_of p)
  is_visit p less = arrival-visit tt.number tt.tracks ends h.arrivals h.step_ends h.line p less

  -- who moves in a step arrives at the time after it
  pub mover-arrival : (i s : ℕ) (track : Track) → track_of tt i ≡ Some track → (cell_at track s ≡ cell_at track (s + 1) → ⊥)
      → (p : ℕ) × (p < length h.arrivals) × ((visit_of p).agent ≡ i) × ((visit_of p).time ≡ s + 1) × (cell_in p ≡ cell_at track (s + 1)) × ((visit_of p).index ≡ moves_before track (s + 1))
  mover-arrival i s track is moves =
      let v : Visit = record { agent = i; index = moves_before track (s + 1); time = s + 1 } in
      let c = cell_at track (s + 1) in
      let visit : IsVisitTo tt c v = record {
        track = track;
        is_track = is;
        is_index = refl;
        is_there = refl;
        comes = λ before e same. (let one : before ≡ s = omega (arith, e) in moves (sym (ap (cell_at track) one) ∙ same));
      } in
      let found = visit-arrival tt.number tt.tracks ends h.arrivals h.step_ends h.line v c visit in
      (found.0, found.1, ap (λ x. x.agent) found.2, ap (λ x. x.time) found.2, found.3, ap (λ x. x.index) found.2)

  pub not_own : (i s : ℕ) → MovesInto tt s i i → ⊥
  not_own i s into = into.moves (sym (into.into ∙ ap (λ t. cell_at t s) (same_Some into.to into.from (sym into.is_to ∙ into.is_from))))

  -- who arrives after the visit of another waits for that one's next move
  pub waits-for : (q p : ℕ) → p < length h.arrivals → before_of tt cells times ends needs visits visit_ends h p ≡ Some (visit_of q) → ((visit_of q).agent ≡ (visit_of p).agent → ⊥)
      → get_or needs (entry_in ends h.arrivals p) no_wait ≡ record { agent = (visit_of q).agent; count = (visit_of q).index + 1 }
  waits-for q p less before other =
      let v = visit_of q in
      looked_up tt cells times ends needs visits visit_ends h p less ∙ ap (wait_of (visit_of p).agent) before
      ∙ cond-false (v.agent == (visit_of p).agent) no_wait (record { agent = v.agent; count = v.index + 1 }) (ne_eqb v.agent (visit_of p).agent other)

  -- who moves into a cell comes after the visit of who stands there
  pub into-after : (i j s p : ℕ) → p < length h.arrivals → (visit_of p).agent ≡ i → (visit_of p).time ≡ s + 1 → MovesInto tt s i j
      → (q : ℕ) × (q < length h.arrivals) × ((visit_of q).agent ≡ j) × ((visit_of q).index ≡ moves_to tt j s) × (before_of tt cells times ends needs visits visit_ends h p ≡ Some (visit_of q))
  into-after i j s p less agent time into =
      let own = is_visit p less in
      let is_track = same_Some own.track into.from (sym own.is_track ∙ ap (track_of tt) agent ∙ into.is_from) in
      let c = cell_at into.to s in
      let cell : cell_in p ≡ c = sym own.is_there ∙ ap (cell_at own.track) time ∙ ap (λ k. cell_at k (s + 1)) is_track ∙ into.into in
      let st : Stand = record { agent = j; time = s } in
      let last : IsLastBelow tt c (s + 1) (Some st) = (stands-from tt j s c into.to into.is_to refl, omega arith, λ r k past under stands. absurd (omega (arith, past, under))) in
      elim (before_is tt cells times ends needs visits visit_ends h p less) [
        | inl none ↦ absurd (none-some st (sym (nobody-before tt.number tt.tracks ends h.arrivals h.step_ends h.line visits visit_ends h.placing h.graphed.conflict_free
            p s c (Some st) less time cell last none.0)))
        | inr some ↦ (
            let is = last-visit tt.number tt.tracks ends h.arrivals h.step_ends h.line visits visit_ends h.placing h.graphed.conflict_free some.0 p s c st some.1 less time cell last some.2 in
            (some.0, some.1, is.0, is.1, some.3)
            )
      ]

  -- and who comes after the visit of another that leaves in the same step moves into the cell where that one stands
  pub after-into : (q p s : ℕ) → q < length h.arrivals → p < length h.arrivals → (visit_of p).time ≡ s + 1 → cell_in q ≡ cell_in p → (visit_of q).index ≡ moves_to tt (visit_of q).agent s
      → MovesInto tt s (visit_of p).agent (visit_of q).agent
  after-into q p s in_q in_p time cell last =
      let own = is_visit p in_p in
      let other = is_visit q in_q in
      let told = last ∙ ap (λ o. moves_in o s) other.is_track in
      let stays = same_place other.track (visit_of q).time s (other.is_index ∙ told) in
      let there = ap (cell_at own.track) (sym time) ∙ own.is_there in
      record {
        from = own.track;
        to = other.track;
        is_from = own.is_track;
        is_to = other.is_track;
        moves = λ same. own.comes s time (same ∙ there);
        into = there ∙ sym cell ∙ sym other.is_there ∙ stays;
      }
