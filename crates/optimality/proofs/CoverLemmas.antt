-- Which plans are still to be judged while a tree is read.
use Rattle.std.proofs.Common.{◌≡◌, ◌∙◌, ℕ, zero, suc, ◌≤◌, ◌⊎◌, List, [], ◌∷◌, ◌++◌, length, map, Some, inl, inr, arith, refl, sym, ap, subst}
use Rattle.std.specs.Prelude.{slice_get, sum}
use Rattle.std.proofs.lemmas.Bool.{cases_Bool, cond-false, cond-true}
use Rattle.std.proofs.lemmas.List.Sums.{sum_by-cons}
use Rattle.std.proofs.lemmas.Option.{none-some, same_Some}
use Rattle.grid.specs.Map.{Grid}
use Rattle.model.specs.Costs.{cost, greatest_of, sum_of}
use Rattle.model.specs.Plan.{IsTimetableOf, IsValid, Plan}
use Rattle.model.specs.Timetable.{IsConflictFree, IsSwapFree, Timetable, Track, track_of}
use Rattle.optimality.specs.declared.constraint.Constraint.{Constraint}
use Rattle.optimality.specs.declared.constraint.Demand.{Demand}
use Rattle.optimality.specs.declared.constraint.Ends.{Ends}
use Rattle.optimality.specs.declared.constraint.Objective.{Objective}
use Rattle.optimality.specs.declared.constraint.Objective.TheVariants.{Cost, Makespan}
use Rattle.optimality.specs.declared.node.Node.{Node}
use Rattle.optimality.specs.Constraints.{MeetsAll, MeetsDemands, constraints_of, concerns}
use Rattle.optimality.specs.Judging.{AreAtLeast, AreLeast, BoundHolds, Covers, FallsUnder, LeafIsLow, LeafStands, Subtree, children, greatest_number, objective_of, objective_value, root}
use Rattle.optimality.specs.Splitting.{IsNode, ends_of, first_demands, second_demands}
use Rattle.optimality.proofs.SplittingLemmas.{one_child}
use Rattle.optimality.proofs.WalkerLemmas.{agent_walks}

abbrev done : Unit {0}
done = tt

-- ---- what is asked

meets_both : (table : Timetable) (a b : List Demand) → MeetsDemands table a → MeetsDemands table b → MeetsDemands table (a ++ b)
meets_both table [] b left right = right
meets_both table (d ∷ a) b left right = (left.0, meets_both table a b left.1 right)

-- an agent walks as it is asked
asked_met : (table : Timetable) (k : ℕ) (track : Track) → track_of table k ≡ Some track → (demands : List Demand) → MeetsDemands table demands → MeetsAll (constraints_of demands k) track
asked_met table k track there [] meets = done
asked_met table k track there (d ∷ demands) meets =
    let rest = asked_met table k track there demands meets.1 in
    elim (cases_Bool (concerns d.whom k)) [
      | inl is ↦ subst (λ (asked : List Constraint). MeetsAll asked track)
          (sym (cond-true (concerns d.whom k) (d.constraint ∷ constraints_of demands k) (constraints_of demands k) is)) (meets.0 k track there is, rest)
      | inr not ↦ subst (λ (asked : List Constraint). MeetsAll asked track)
          (sym (cond-false (concerns d.whom k) (d.constraint ∷ constraints_of demands k) (constraints_of demands k) not)) rest
    ]

-- ---- all agents together

-- each agent costs its number at least
abbrev CostMore : List ℕ → List Track → Type 0
CostMore numbers tracks = (k n : ℕ) (track : Track) → slice_get numbers k ≡ Some n → slice_get tracks k ≡ Some track → n ≤ cost track

sums : (numbers : List ℕ) (tracks : List Track) → length numbers ≡ length tracks → CostMore numbers tracks → sum numbers ≤ sum_of tracks
sums [] tracks count more = omega arith
sums (n ∷ numbers) [] count more = absurd (omega (arith, count))
sums (n ∷ numbers) (track ∷ tracks) count more =
    let own = more 0 n track refl refl in
    let rest = sums numbers tracks (omega (arith, count)) (λ k a b is at. more (suc k) a b is at) in
    let all = sum_by-cons (λ k. k) n numbers in
    omega (arith, own, rest, all)

greatest : (numbers : List ℕ) (tracks : List Track) → length numbers ≡ length tracks → CostMore numbers tracks → greatest_number numbers ≤ greatest_of tracks
greatest [] tracks count more = omega arith
greatest (n ∷ numbers) [] count more = absurd (omega (arith, count))
greatest (n ∷ numbers) (track ∷ tracks) count more =
    let own = more 0 n track refl refl in
    let rest = greatest numbers tracks (omega (arith, count)) (λ k a b is at. more (suc k) a b is at) in
    omega (arith, own, rest)

together : (objective : Objective) (numbers : List ℕ) (table : Timetable) → length numbers ≡ length table.tracks → CostMore numbers table.tracks
    → objective_of objective numbers ≤ objective_value objective table
together Cost numbers table count more = sums numbers table.tracks count more
together Makespan numbers table count more = greatest numbers table.tracks count more

length_ends : (tracks : List Track) → length (map ends_of tracks) ≡ length tracks
length_ends [] = refl
length_ends (track ∷ tracks) = omega (arith, length_ends tracks)

end_at : (tracks : List Track) (k : ℕ) (track : Track) → slice_get tracks k ≡ Some track → slice_get (map ends_of tracks) k ≡ Some (ends_of track)
end_at [] k track there = absurd (none-some track there)
end_at (one ∷ tracks) zero track there = ap (λ (it : Track). Some (ends_of it)) (same_Some one track there)
end_at (one ∷ tracks) (suc k) track there = end_at tracks k track there

-- no plan under a leaf that stands costs less than the bound
under_leaf : (m : Grid) (ends : List Ends) (objective : Objective) (bound : ℕ) (demands : List Demand) (p : Plan) (table : Timetable) → IsValid m p → IsTimetableOf p table
    → map ends_of table.tracks ≡ ends → LeafStands m ends objective bound demands → MeetsDemands table demands → bound ≤ objective_value objective table
under_leaf m ends objective bound demands p table valid is same leaf meets =
    let are = leaf.1 in
    let count : length leaf.0 ≡ length table.tracks = are.count ∙ ap length (sym same) ∙ length_ends table.tracks in
    let most = leaf.2 in
    let all = together objective leaf.0 table count (λ k n track number there.
    are.each k n (ends_of track) number (ap (λ (e : List Ends). slice_get e k) (sym same) ∙ end_at table.tracks k track there) track
    (agent_walks m p table.tracks valid is.tracks k track there) (asked_met table k track there demands meets)) in
    omega (arith, most, all)

-- ---- nodes that are due

-- a plan that falls under a node falls under one of its children
falls_on : (table : Timetable) (ends : List Ends) (n : Node) (here : Subtree) (due : List Subtree)
    → MeetsDemands table (first_demands n) ⊎ MeetsDemands table (second_demands ends n) → FallsUnder table (here ∷ due) → FallsUnder table (children ends n here ++ due)
falls_on table ends n here due (inl first) (inl meets) = inl (meets_both table here.demands (first_demands n) meets first)
falls_on table ends n here due (inr second) (inl meets) = inr (inl (meets_both table here.demands (second_demands ends n) meets second))
falls_on table ends n here due child (inr later) = inr (inr later)

pub at_root : (m : Grid) (ends : List Ends) (objective : Objective) (bound : ℕ) → Covers m ends objective bound (root ∷ [])
at_root m ends objective bound = λ p table valid is same. inr (inl done)

pub split : ((m : Grid) (p : Plan) (table : Timetable) → IsValid m p → IsTimetableOf p table → IsConflictFree table)
    → ((m : Grid) (p : Plan) (table : Timetable) → IsValid m p → IsTimetableOf p table → IsSwapFree table)
    → (m : Grid) (ends : List Ends) (objective : Objective) (bound : ℕ) (here : Subtree) (due : List Subtree) (n : Node) → IsNode n
    → Covers m ends objective bound (here ∷ due) → Covers m ends objective bound (children ends n here ++ due)
split free unswapped m ends objective bound here due n is_node covers = λ p table valid is same. elim (covers p table valid is same) [
  | inl holds ↦ inl holds
  | inr under ↦ inr (falls_on table ends n here due (one_child ends table n (free m p table valid is) (unswapped m p table valid is) same is_node) under)
]

pub leaf : (m : Grid) (ends : List Ends) (objective : Objective) (bound : ℕ) (here : Subtree) (due : List Subtree) → LeafStands m ends objective bound here.demands
    → Covers m ends objective bound (here ∷ due) → Covers m ends objective bound due
leaf m ends objective bound here due stands covers = λ p table valid is same. elim (covers p table valid is same) [
  | inl holds ↦ inl holds
  | inr under ↦ elim under [
    | inl meets ↦ inl (under_leaf m ends objective bound here.demands p table valid is same stands meets)
    | inr later ↦ inr later
  ]
]

pub whole : (m : Grid) (ends : List Ends) (objective : Objective) (bound : ℕ) → Covers m ends objective bound [] → BoundHolds m ends objective bound
whole m ends objective bound covers = λ p table valid is same. elim (covers p table valid is same) [ inl holds ↦ holds | inr under ↦ absurd under ]

-- ---- leaves

-- numbers that are no greater, one by one
abbrev AreNoGreater : List ℕ → List ℕ → Type 0
AreNoGreater some others = (k a b : ℕ) → slice_get some k ≡ Some a → slice_get others k ≡ Some b → a ≤ b

no_greater : (objective : Objective) (some others : List ℕ) → length some ≡ length others → AreNoGreater some others
    → objective_of objective some ≤ objective_of objective others
no_greater Cost [] others count each = omega arith
no_greater Cost (a ∷ some) [] count each = absurd (omega (arith, count))
no_greater Cost (a ∷ some) (b ∷ others) count each =
    let own = each 0 a b refl refl in
    let rest = no_greater Cost some others (omega (arith, count)) (λ k x y is at. each (suc k) x y is at) in
    omega (arith, own, rest, sum_by-cons (λ k. k) a some, sum_by-cons (λ k. k) b others)
no_greater Makespan [] others count each = omega arith
no_greater Makespan (a ∷ some) [] count each = absurd (omega (arith, count))
no_greater Makespan (a ∷ some) (b ∷ others) count each =
    let own = each 0 a b refl refl in
    let rest = no_greater Makespan some others (omega (arith, count)) (λ k x y is at. each (suc k) x y is at) in
    omega (arith, own, rest)

-- where there is an agent with a number, it has ends too
end_there : (numbers : List ℕ) (ends : List Ends) → length numbers ≡ length ends → (k n : ℕ) → slice_get numbers k ≡ Some n
    → (own : Ends) × (slice_get ends k ≡ Some own)
end_there [] ends count k n is = absurd (none-some n is)
end_there (a ∷ numbers) [] count k n is = absurd (omega (arith, count))
end_there (a ∷ numbers) (e ∷ ends) count zero n is = (e, refl)
end_there (a ∷ numbers) (e ∷ ends) count (suc k) n is = end_there numbers ends (omega (arith, count)) k n is

-- what is least is no less than what is at least
below_least : (m : Grid) (ends : List Ends) (objective : Objective) (demands : List Demand) (numbers others : List ℕ) → AreAtLeast m ends demands numbers
    → AreLeast m ends demands others → objective_of objective numbers ≤ objective_of objective others
below_least m ends objective demands numbers others at least =
    let count = at.count in
    let same = least.count in
    no_greater objective numbers others (omega (arith, count, same)) (λ k a b number other.
    let own = end_there numbers ends count k a number in
    let fits = least.each k b own.0 other own.1 in
    let more = at.each k a own.0 number own.1 fits.track fits.walker fits.meets in
    let is = fits.costs in
    omega (arith, more, is))

at_least : (m : Grid) (ends : List Ends) (demands : List Demand) (numbers : List ℕ) → AreLeast m ends demands numbers → AreAtLeast m ends demands numbers
at_least m ends demands numbers are = record { count = are.count; each = λ k n own number there. (are.each k n own number there).least }

pub not_both : (m : Grid) (ends : List Ends) (objective : Objective) (bound least : ℕ) (demands : List Demand) → LeafStands m ends objective bound demands
    → LeafIsLow m ends objective bound demands least → ⊥
not_both m ends objective bound least demands stands low =
    let most = below_least m ends objective demands stands.0 low.0 stands.1 low.1 in
    let over = stands.2 in
    let is = low.2 in
    let under = low.3 in
    omega (arith, most, over, is, under)

pub one_low : (m : Grid) (ends : List Ends) (objective : Objective) (bound least other : ℕ) (demands : List Demand) → LeafIsLow m ends objective bound demands least
    → LeafIsLow m ends objective bound demands other → least ≡ other
one_low m ends objective bound least other demands low again =
    let most = below_least m ends objective demands low.0 again.0 (at_least m ends demands low.0 low.1) again.1 in
    let back = below_least m ends objective demands again.0 low.0 (at_least m ends demands again.0 again.1) low.1 in
    let is = low.2 in
    let also = again.2 in
    omega (arith, most, back, is, also)
