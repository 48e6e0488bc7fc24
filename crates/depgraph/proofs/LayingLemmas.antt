-- The paths of a checked plan, what their moves wait for, and their visits tell its timetable.
use Rattle.std.proofs.Common.{◌≡◌, ℕ, ◌+◌, ◌<◌, List, length, get_or, refl, sym, ap, subst, ◌∙◌, arith}
use Rattle.grid.specs.declared.cell.Cell.{Cell}
use Rattle.model.specs.declared.visit.Visit.{Visit}
use Rattle.model.specs.Timetable.{Track, Timetable}
use Rattle.plan_text.specs.Limits.{most_acts}
use Rattle.checker.specs.Checking.{Checked, IsChecked}
use Rattle.depgraph.specs.declared.placing.Arrival.{Arrival}
use Rattle.depgraph.specs.declared.waiting.Wait.{Wait}
use Rattle.depgraph.specs.Graphs.{IsGraphed}
use Rattle.depgraph.specs.Code.Entries.{AreFew}
use Rattle.depgraph.specs.Code.Following.{AreEntries, AreFollowed}
use Rattle.depgraph.specs.Code.Keeping.{AreKeptVisits}
use Rattle.depgraph.specs.Code.Laying.{AreFound, AreLaidOut}
use Rattle.depgraph.specs.Code.Links.{all_links}
use Rattle.depgraph.specs.Code.Numbers.{cells_by, AreNumbered, AreListed}
use Rattle.depgraph.specs.Code.Paths.{all_entered, all_times, ArePaths}
use Rattle.depgraph.specs.Code.Placing.{IsTimeline, AreSortedVisits, IsPlacing}
use Rattle.depgraph.specs.Code.Schedules.{AreTaken}
use Rattle.depgraph.specs.Code.Tracks.{timetable_by, tracks_by}
use Rattle.depgraph.specs.Code.Turning.{AreLaid}
use Rattle.depgraph.specs.Code.Waits.{AreWaits, AreAhead}
use Rattle.depgraph.proofs.BeforeLemmas.{are_blocks, visit-time}
use Rattle.depgraph.proofs.EntryLemmas.{are_entries}
use Rattle.depgraph.proofs.FewLemmas.{are_few, few_times}
use Rattle.depgraph.proofs.FollowedLemmas.{followed_waits}
use Rattle.depgraph.proofs.LinkLemmas.{are_ahead}
use Rattle.depgraph.proofs.NumberLemmas.{length-cells_by, are_known, are_listed}
use Rattle.depgraph.proofs.PlacedLemmas.{is_placing, some_placing}
use Rattle.depgraph.proofs.ScheduleLemmas.{arrival-within, position, same_count, schedule, step_ends_by, taken_by}
use Rattle.depgraph.proofs.TrackLemmas.{tracks_told}

pub graphed : (checked : Checked) → IsChecked checked → IsGraphed checked.timetable
graphed checked h = record {
  conflict_free = h.conflict_free;
  swap_free = h.swap_free;
  at_rest = h.at_rest;
  agent_limit = h.agent_limit;
  step_limit = h.step_limit;
  all_steps_limit = h.all_steps_limit;
}

-- All arrivals of these paths by time, each with the number of its cell.
record IsScheduled (tracks : List Track) (names : List Cell) (numbers ends : List ℕ) : Type 0 where
  arrivals : List Arrival
  step_ends : List ℕ
  line : IsTimeline tracks ends arrivals step_ends
  listed : List ℕ
  taken : AreTaken numbers ends arrivals listed
  named : AreListed (all_entered tracks) ends arrivals names listed

-- The visits of these paths stand in their places, by a schedule of all arrivals.
pub record IsBuilt (tracks : List Track) (names : List Cell) (ends : List ℕ) (visits : List Visit) (visit_ends : List ℕ) : Type 0 where
  pub arrivals : List Arrival
  pub step_ends : List ℕ
  pub line : IsTimeline tracks ends arrivals step_ends
  pub placing : IsPlacing tracks ends arrivals visits visit_ends
  pub named : placing.names ≡ names

told : (tt : Timetable) (number : ℕ) (cells : List Cell) (times ends : List ℕ) → IsGraphed tt → number ≡ tt.number
    → ArePaths tt.tracks cells times ends → timetable_by number cells times ends ≡ tt
told tt number cells times ends is same h =
    ap {A = ℕ} {B = Timetable} (λ n. record { number = n; tracks = tracks_by cells times ends }) same
    ∙ ap {A = List Track} {B = Timetable} (λ l. record { number = tt.number; tracks = l }) (tracks_told tt.tracks cells times ends h is.at_rest)

module _ (tt : Timetable) (is : IsGraphed tt) (names : List Cell) (numbers times ends : List ℕ) (n : AreNumbered (cells_by names numbers) names numbers)
    (h : ArePaths tt.tracks (cells_by names numbers) times ends) where
  numbered : AreNumbered (all_entered tt.tracks) names numbers
  numbered = subst (λ l. AreNumbered l names numbers) h.are_cells n

  number_count : length numbers ≡ length (all_entered tt.tracks)
  number_count = sym (length-cells_by names numbers) ∙ ap length h.are_cells

  paths : ArePaths tt.tracks (all_entered tt.tracks) (all_times tt.tracks) ends
  paths = subst (λ l. ArePaths tt.tracks (all_entered tt.tracks) l ends) h.are_times (subst (λ l. ArePaths tt.tracks l times ends) h.are_cells h)

  pub few : AreFew (all_entered tt.tracks) ends
  few = are_few tt.tracks (all_entered tt.tracks) (all_times tt.tracks) ends paths is.agent_limit is.step_limit is.all_steps_limit

  pub time_count : length numbers ≡ length times
  time_count =
      number_count ∙ sym (same_count tt.tracks (all_entered tt.tracks) (all_times tt.tracks) ends paths) ∙ ap length (sym h.are_times)

  known_time : (e : ℕ) → e < length (all_times tt.tracks) → get_or (all_times tt.tracks) e 0 < most_acts + 1
  known_time e less = (let early = few_times tt.tracks e is.step_limit less in omega (arith, early))

  pub entries : AreEntries times ends numbers (length names)
  entries =
      let tracks = tt.tracks in
      subst (λ l. AreEntries l ends numbers (length names)) (sym h.are_times)
      (are_entries tt.number tracks (all_entered tracks) (all_times tracks) ends paths is.conflict_free names numbers numbered (time_count ∙ ap length h.are_times) few
      (λ e less. let early = known_time e less in omega (arith, early)))

  -- ---- the visits

  scheduled : IsScheduled tt.tracks names numbers ends
  scheduled =
      let tracks = tt.tracks in
      let cells = all_entered tracks in
      let all = all_times tracks in
      let limit = most_acts + 1 in
      let s = schedule tracks cells all ends paths limit known_time in
      let e = step_ends_by all limit in
      let t = taken_by numbers ends s.0 in
      record {
        arrivals = s.0;
        step_ends = e.0;
        line = record {
          few = few;
          paths = paths;
          schedule = s.1;
          times_few = (let same = e.1 in omega (arith, same));
          within = λ d less. (let early = known_time d less in let same = e.1 in omega (arith, early, same));
          time_end = λ u less. (let same = e.1 in e.2 u (omega (arith, less, same)));
        };
        listed = t.0;
        taken = t.1;
        named = are_listed cells names numbers ends s.0 t.0 numbered number_count t.1 (λ p less. arrival-within tracks cells all ends s.0 p paths s.1 less)
            (position tracks cells all ends s.0 limit paths s.1 known_time);
      }

  pub built : (visits : List Visit) (visit_ends : List ℕ) → AreSortedVisits times ends numbers visits visit_ends → length visit_ends ≡ length names
      → IsBuilt tt.tracks names ends visits visit_ends
  built visits visit_ends sorted long =
      let tracks = tt.tracks in
      let cells = all_entered tracks in
      let s = scheduled in
      let placed = is_placing tt.number tracks ends s.arrivals s.step_ends s.line is.conflict_free numbers s.listed visits visit_ends (length names)
      (names, s.named, s.taken.count, refl) s.taken (number_count ∙ sym (same_count tracks cells (all_times tracks) ends paths)) (are_known cells names numbers numbered)
      (subst (λ l. AreSortedVisits l ends numbers visits visit_ends) h.are_times sorted) long in
      record { arrivals = s.arrivals; step_ends = s.step_ends; line = s.line; placing = placed.0; named = placed.1 }

  some_built : (visits : List Visit) × (visit_ends : List ℕ) × IsBuilt tt.tracks names ends visits visit_ends
  some_built =
      let s = scheduled in
      let placed = some_placing tt.tracks ends s.arrivals names s.listed s.named s.taken.count in
      (placed.0, placed.1, record { arrivals = s.arrivals; step_ends = s.step_ends; line = s.line; placing = placed.2; named = placed.3 })

  -- ---- what was found along the times

  module _ (waits : List Wait) (f : AreFollowed times ends numbers waits) where
    module _ (visits : List Visit) (visit_ends : List ℕ) (b : IsBuilt tt.tracks names ends visits visit_ends) where
      are_waits : AreWaits ends visits visit_ends waits
      are_waits =
          followed_waits tt.number tt.tracks ends b.arrivals b.step_ends b.line visits visit_ends b.placing is.conflict_free numbers
          (subst (λ l. AreNumbered (all_entered tt.tracks) l numbers) (sym b.named) numbered) number_count waits
          (subst (λ l. AreFollowed l ends numbers waits) h.are_times f)

      are_ahead_of : AreAhead (all_times tt.tracks) ends visits visit_ends (all_links times ends waits)
      are_ahead_of =
          let tracks = tt.tracks in
          subst (λ l. AreAhead (all_times tracks) ends visits visit_ends (all_links l ends waits)) (sym h.are_times)
          (are_ahead (all_times tracks) ends visits visit_ends waits
          (are_blocks tt.number tracks ends b.arrivals b.step_ends b.line visits visit_ends b.placing is.conflict_free) are_waits
          (visit-time tt.number tracks ends b.arrivals b.step_ends b.line visits visit_ends b.placing is.conflict_free))

      laid : AreLaid tt ends waits (all_links times ends waits)
      laid = record {
        graphed = is;
        arrivals = b.arrivals;
        step_ends = b.step_ends;
        line = b.line;
        visits = visits;
        visit_ends = visit_ends;
        placing = b.placing;
        are_waits = are_waits;
        are_ahead = are_ahead_of;
      }

      abbrev kept : AreKeptVisits tt (cells_by names numbers) times ends waits visits visit_ends
      kept = record {
        graphed = is;
        are_cells = h.are_cells;
        are_times = h.are_times;
        arrivals = b.arrivals;
        step_ends = b.step_ends;
        line = b.line;
        placing = b.placing;
        are_needs = are_waits;
      }

      pub laid_out : (number : ℕ) → number ≡ tt.number → AreLaidOut tt number names numbers times ends waits visits visit_ends
      laid_out number same = record {
        told = told tt number (cells_by names numbers) times ends is same h;
        kept = kept;
        named = b.named;
        distinct = n.distinct;
        known = are_known (cells_by names numbers) names numbers n;
        laid = laid;
      }

    pub found : (number : ℕ) → number ≡ tt.number → AreFound tt number names numbers times ends waits
    found number same =
        let v = some_built in
        record {
          told = told tt number (cells_by names numbers) times ends is same h;
          kept = record { visits = v.0; visit_ends = v.1; kept = kept v.0 v.1 v.2 };
          known = are_known (cells_by names numbers) names numbers n;
          laid = laid v.0 v.1 v.2;
        }

-- ---- the same lists, lent

-- what holds of three lists holds of the same lists when they are lent
pub lent : {A B C : Type 0} (R : A → B → C → Type 0) (a given_a : A) (b given_b : B) (c given_c : C) → given_a ≡ a → given_b ≡ b → given_c ≡ c → R a b c → R given_a given_b given_c
lent R a given_a b given_b c given_c p q r x = subst (λ z. R given_a given_b z) (sym r) (subst (λ y. R given_a y c) (sym q) (subst (λ w. R w b c) (sym p) x))
