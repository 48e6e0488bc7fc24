-- What an agent's next move needs, by where all are.
use Rattle.std.proofs.Common.{◌≡◌, ℕ, ◌<◌, ◌≤◌, List, length, Some, None, arith, refl, sym, ap, subst, ◌∙◌}
use Rattle.std.specs.Prelude.{Option, MatchOption, IfSome, ⊤, option_map, unwrap_or, slice_get}
use Rattle.std.proofs.lemmas.Option.{same_Some, none-some, slice_get_within}
use Rattle.model.specs.Completion.{history_after}
use Rattle.depgraph.specs.Routes.{Route, IsRouteOf, asked, asked_by, need_at}
use Rattle.model.specs.Dependency.{Need, IsMet, WaitsFor, need}
use Rattle.model.specs.History.{known}
use Rattle.model.specs.Timetable.{Track, Timetable, moves, track_of, IsConflictFree}
use Rattle.executor.specs.declared.ending.Standing.{Standing}
use Rattle.executor.specs.Code.Leading.{EndingState, finished_in, told_in, Teaches, TeachesNeed, NeedsNext, Awaits}
use Rattle.model.specs.Laws.Needs.{awaits}

-- a need is of an agent that there is, and asks for at least one move, all of which it has
pub need-there : (tab : Timetable) (i k : ℕ) (track : Track) (n : Need) → IsConflictFree tab → track_of tab i ≡ Some track → k < moves track → need tab i track k ≡ Some n
    → (n.agent < length tab.tracks) × (0 < n.count)
need-there tab i k track n free there less asks =
    let a = awaits tab i track k n free there less asks in
    (slice_get_within tab.tracks n.agent a.to a.is_to, (let count = a.count in omega (arith, count)))

-- what a route says of a need is the need
pub need-known : (tab : Timetable) (i k : ℕ) (track : Track) (route : Route) → IsRouteOf tab i track route → k < moves track
    → need_at route k ≡ option_map asked (need tab i track k)
need-known tab i k track route is less = ap asked_by (is.needs k less)

pub asked-some : (o : Option Need) (j n : ℕ) → option_map asked o ≡ Some (j, n) → o ≡ Some (record { agent = j; count = n })
asked-some None j n e = absurd (none-some (j, n) e)
asked-some (Some m) j n e =
    let same = same_Some (asked m) (j, n) e in
    ap {A = ℕ} {B = Option Need} (λ k. Some (record { agent = k; count = m.count })) (ap (λ p. p.0) same)
    ∙ ap {A = ℕ} {B = Option Need} (λ k. Some (record { agent = j; count = k })) (ap (λ p. p.1) same)

pub asked-none : (o : Option Need) → option_map asked o ≡ None → o ≡ None
asked-none None e = refl
asked-none (Some m) e = absurd (none-some (asked m) (sym e))

-- how many moves one has finished that stands there
pub finished-is : (standings : List Standing) (i : ℕ) (x : Standing) → slice_get standings i ≡ Some x → finished_in standings i ≡ x.done
finished-is standings i x there = ap (λ o. unwrap_or (option_map (λ s. s.done) o) 0) there

pub told-is : (standings : List Standing) (i : ℕ) (x : Standing) → slice_get standings i ≡ Some x → told_in standings i ≡ x.told
told-is standings i x there = ap (λ o. unwrap_or (option_map (λ s. s.told) o) 0) there

-- whoever is asked by a need is there, for at least one move
pub asked-there : (s : EndingState) (i : ℕ) (o : Option (ℕ × ℕ)) → IsConflictFree s.timetable → length s.agents ≡ length s.timetable.tracks → NeedsNext s i o
    → IfSome o (λ pair. (pair.0 < length s.agents) × (0 < pair.1))
asked-there s i None free count needs = tt
asked-there s i (Some pair) free count needs =
    let asks = asked-some (need s.timetable i needs.0 (finished_in s.standings i)) pair.0 pair.1 (sym needs.3) in
    let there = need-there s.timetable i (finished_in s.standings i) needs.0 _ free needs.1 needs.2 asks in
    let within = there.0 in
    (omega (arith, within, count), there.1)

-- a need that isn't met, and one that is
pub waits-from : (s : EndingState) (i j n : ℕ) → NeedsNext s i (Some (j, n)) → finished_in s.standings j < n → WaitsFor s.timetable (finished_in s.standings) i j
waits-from s i j n needs unmet = record {
  track = needs.0;
  count = n;
  is_track = needs.1;
  left = needs.2;
  asks = asked-some (need s.timetable i needs.0 (finished_in s.standings i)) j n (sym needs.3);
  unmet = unmet;
}

pub met-from : (s : EndingState) (i : ℕ) (o : Option (ℕ × ℕ)) → NeedsNext s i o → MatchOption o ⊤ (λ pair. pair.1 ≤ finished_in s.standings pair.0) → Awaits s i None
met-from s i None needs met track there =
    let same = same_Some needs.0 track (sym needs.1 ∙ there) in
    let none = asked-none (need s.timetable i needs.0 (finished_in s.standings i)) (sym needs.3) in
    subst (λ t. IsMet (finished_in s.standings) (need s.timetable i t (finished_in s.standings i))) same (subst (IsMet (finished_in s.standings)) (sym none) tt)
met-from s i (Some pair) needs met track there =
    let same = same_Some needs.0 track (sym needs.1 ∙ there) in
    let some = asked-some (need s.timetable i needs.0 (finished_in s.standings i)) pair.0 pair.1 (sym needs.3) in
    subst (λ t. IsMet (finished_in s.standings) (need s.timetable i t (finished_in s.standings i))) same (subst (IsMet (finished_in s.standings)) (sym some) met)

pub met-is : (s : EndingState) (i j n : ℕ) → NeedsNext s i (Some (j, n)) → Awaits s i None → n ≤ finished_in s.standings j
met-is s i j n needs met =
    subst (IsMet (finished_in s.standings)) (asked-some (need s.timetable i needs.0 (finished_in s.standings i)) j n (sym needs.3)) (met needs.0 needs.1)

-- an agent that is told what its next move needs
pub teaches-need : (s t : EndingState) (i : ℕ) (o : Option (ℕ × ℕ)) → NeedsNext s i o → MatchOption o ⊤ (λ pair. Teaches s t i pair.0 pair.1) → TeachesNeed s t i
teaches-need s t i o needs teaches v h begins was track there =
    let same = same_Some needs.0 track (sym needs.1 ∙ there) in
    subst (λ x. IsMet (known v t.timetable (history_after v t.timetable h t.events) i) (need s.timetable i x (finished_in s.standings i))) same
    (by_pair (need s.timetable i needs.0 (finished_in s.standings i)) o needs.3 teaches)
  where
    by_pair : (m : Option Need) (p : Option (ℕ × ℕ)) → p ≡ option_map asked m → MatchOption p ⊤ (λ pair. Teaches s t i pair.0 pair.1)
        → IsMet (known v t.timetable (history_after v t.timetable h t.events) i) m
    by_pair None p f k = tt
    by_pair (Some n) p f k = (subst (λ x. MatchOption x ⊤ (λ pair. Teaches s t i pair.0 pair.1)) f k) v h begins was
