-- A fleet is safe, since each begun move has its need met by what is finished.
use Rattle.std.proofs.Common.{◌≡◌, ℕ, ◌+◌, ◌*◌, ◌%◌, ◌≤◌, Bool, true, false, length, Some, None, inl, inr, refl, sym, subst, arith}
use Rattle.std.specs.Prelude.{Option, MatchOption, if◌then◌else◌}
use Rattle.std.proofs.lemmas.Bool.{eqb-true}
use Rattle.grid.specs.declared.cell.Cell.{Cell}
use Rattle.model.specs.declared.held.Held.TheVariants.{At, Between}
use Rattle.model.specs.Rules.{path_cell}
use Rattle.model.specs.Safety.{IsIn, HaveNeedsMet, MayBeIn}
use Rattle.model.specs.Timetable.{Track, Timetable, moves, path, track_of}
use Rattle.model.specs.Laws.Tracks.{length-path}
use Rattle.agent.specs.States.{State, is_on_the_way, finished_moves, begun_moves, held_by_tape}
use Rattle.fleet.specs.Fleets.{Log, spoken, deeds_of, IsHonest}
use Rattle.fleet.specs.FleetSafety.{HoldsBy, IsMovingBy, IsFleetSafe}
use Rattle.fleet.proofs.FleetLemmas.{IsOf}
use Rattle.fleet.proofs.KnowsLemmas.{Finished, Knows}
use Rattle.fleet.proofs.WalkLemmas.{walks-path}

abbrev pub Begun : (ℕ → State) → ℕ → ℕ
Begun states j = begun_moves (states j)

module _ (table : Timetable) (log : Log) (states : ℕ → State) (fleet : IsOf IsHonest table log states) (knows : Knows table (spoken log) states)
    (apart : (i j : ℕ) (c : Cell) → HaveNeedsMet table (Begun states) (Finished states) → MayBeIn table (Begun states) (Finished states) i c
    → MayBeIn table (Begun states) (Finished states) j c → i ≡ j) where
  met : HaveNeedsMet table (Begun states) (Finished states)
  met = record {
    order = λ i track there. grind arith;
    met = λ i track k there less. knows.begun i track k there less;
  }

  -- what an agent holds lies between the last move that it has finished and the last that it has begun
  in-path : (i : ℕ) (track : Track) (c : Cell) → track_of table i ≡ Some track → IsIn c (held_by_tape track (states i)) → MayBeIn table (Begun states) (Finished states) i c
  in-path i track c there inside = by (is_on_the_way (states i)) refl inside where
    s : State
    s = states i

    size : length (path track) ≡ moves track + 1
    size = length-path track.start track.later

    within : s.records ≤ 2 * moves track
    within = knows.within i track there

    at : Cell
    at = path_cell track (finished_moves s)

    to : Cell
    to = path_cell track (finished_moves s + 1)

    finished : at ≡ c → MayBeIn table (Begun states) (Finished states) i c
    finished e = (track, finished_moves s, there, grind (arith, size, within), e, omega arith, grind arith)

    by : (b : Bool) → is_on_the_way s ≡ b → IsIn c (if b then Between at to else At at) → MayBeIn table (Begun states) (Finished states) i c
    by false way e = finished e
    by true way (inl e) = finished e
    by true way (inr e) =
        let odd = eqb-true (s.records % 2) 1 way in
        (track, finished_moves s + 1, there, grind (arith, size, within, odd), e, omega arith, grind (arith, odd))

  held-in : (i : ℕ) (c : Cell) → HoldsBy table states i c → MayBeIn table (Begun states) (Finished states) i c
  held-in i c holds = by (track_of table i) refl holds where
    by : (o : Option Track) → track_of table i ≡ o → MatchOption o ⊥ (λ track. IsIn c (held_by_tape track (states i))) → MayBeIn table (Begun states) (Finished states) i c
    by None none never = absurd never
    by (Some track) there inside = in-path i track c there inside

  moving-holds : (i : ℕ) (u v : Cell) → IsMovingBy table states i u v → HoldsBy table states i u × HoldsBy table states i v
  moving-holds i u v = by (track_of table i) where
    by : (o : Option Track) → MatchOption o ⊥ (λ track. held_by_tape track (states i) ≡ Between u v)
        → MatchOption o ⊥ (λ track. IsIn u (held_by_tape track (states i))) × MatchOption o ⊥ (λ track. IsIn v (held_by_tape track (states i)))
    by None never = absurd never
    by (Some track) between = (subst (IsIn u) (sym between) (inl refl), subst (IsIn v) (sym between) (inr refl))

  pub safe-fleet : IsFleetSafe table log states
  safe-fleet = record {
    apart = λ i j c first second. apart i j c met (held-in i c first) (held-in j c second);
    no_exchange = λ i j u v first second.
        apart i j u met (held-in i u (moving-holds i u v first).0) (held-in j u (moving-holds j v u second).1);
    walks = λ i track there. walks-path table i track (states i) (deeds_of log i) (fleet.own i track there);
  }
