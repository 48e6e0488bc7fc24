-- What is asked, and what was found under it.
use Rattle.std.proofs.Common.{◌≡◌, ◌∙◌, ℕ, zero, suc, ◌+◌, ◌<◌, ◌≤◌, Bool, true, false, cond, List}
use Rattle.std.proofs.Common.{[], ◌∷◌, ◌++◌, length, take, Some, arith, refl, sym, ap, subst, inl}
use Rattle.std.proofs.Common.{inr, append-nil, get_or, length-append, length-take}
use Rattle.std.specs.List.{AllByRecursion}
use Rattle.std.specs.Prelude.{◌-◌, ◌⊎◌, if◌then◌else◌, nat_lt, slice_get}
use Rattle.std.proofs.Math.Seq.{take-length, take-suc}
use Rattle.std.proofs.lemmas.Bool.{cond-false, cond-true, ltb-false}
use Rattle.std.proofs.lemmas.Option.{none-some, same_Some}
use Rattle.grid.specs.Map.{Grid}
use Rattle.least_costs.specs.GoalView.{GoalView}
use Rattle.model.specs.Timetable.{Track}
use Rattle.optimality.specs.declared.constraint.Constraint.{Constraint}
use Rattle.optimality.specs.declared.constraint.Demand.{Demand}
use Rattle.optimality.specs.declared.constraint.Ends.{Ends}
use Rattle.optimality.specs.Constraints.{MeetsAll, constraints_of, concerns}
use Rattle.optimality.specs.Splitting.{goal_of}
use Rattle.optimality.specs.Walkers.{CostsAtLeast}
use Rattle.proof_check.specs.declared.trail.Kept.{Kept}
use Rattle.proof_check.specs.Code.Rising.{RisesTo}
use Rattle.proof_check.specs.Code.Trails.{AreKeptWithin, AreTables, HoldsKept, IsTrail, asked_numbers}
use Rattle.proof_check.proofs.RisingLemmas.{all_front, all_push, rising-front, rising-last, rising-more, rising-push}

-- ---- what is asked of an agent

-- one demand more
pub constraints_of-push : (demands : List Demand) (d : Demand) (k : ℕ)
    → constraints_of (demands ++ d ∷ []) k ≡ (if concerns d.whom k then constraints_of demands k ++ d.constraint ∷ [] else constraints_of demands k)
constraints_of-push [] d k = refl
constraints_of-push (e ∷ demands) d k = go (concerns e.whom k) (concerns d.whom k) (constraints_of demands k) (constraints_of (demands ++ d ∷ []) k) (constraints_of-push demands d k)
  where
    go : (a b : Bool) (before after : List Constraint) → after ≡ cond b (before ++ d.constraint ∷ []) before
        → cond a (e.constraint ∷ after) after ≡ cond b (cond a (e.constraint ∷ before) before ++ d.constraint ∷ []) (cond a (e.constraint ∷ before) before)
    go true true before after is = ap (λ l. e.constraint ∷ l) is
    go true false before after is = ap (λ l. e.constraint ∷ l) is
    go false true before after is = is
    go false false before after is = is

-- ---- a loop over demands

next_taken : (demands : List Demand) (i : ℕ) (d : Demand) → i < length demands → take (i + 1) demands ≡ take i demands ++ get_or demands i d ∷ []
next_taken demands i d more = let next : suc i ≡ i + 1 = omega arith in ap (λ n. take n demands) (sym next) ∙ take-suc demands i d more

module _ (demands : List Demand) (i k : ℕ) (any : Demand) (before after : List Constraint) (more : i < length demands) (so_far : before ≡ constraints_of (take i demands) k) where
  abbrev next : Demand
  next = get_or demands i any

  -- a demand that concerns the agent
  pub asked_more : concerns next.whom k ≡ true → after ≡ before ++ next.constraint ∷ [] → after ≡ constraints_of (take (i + 1) demands) k
  asked_more concerned added =
      added ∙ ap (λ (l : List Constraint). l ++ next.constraint ∷ []) so_far
      ∙ sym (cond-true (concerns next.whom k) (constraints_of (take i demands) k ++ next.constraint ∷ []) (constraints_of (take i demands) k) concerned)
      ∙ sym (constraints_of-push (take i demands) next k)
      ∙ ap (λ (l : List Demand). constraints_of l k) (sym (next_taken demands i any more))

  -- one that doesn't
  pub asked_same : concerns next.whom k ≡ false → after ≡ before → after ≡ constraints_of (take (i + 1) demands) k
  asked_same concerned same =
      same ∙ so_far
      ∙ sym (cond-false (concerns next.whom k) (constraints_of (take i demands) k ++ next.constraint ∷ []) (constraints_of (take i demands) k) concerned)
      ∙ sym (constraints_of-push (take i demands) next k)
      ∙ ap (λ (l : List Demand). constraints_of l k) (sym (next_taken demands i any more))

meets_by : (b : Bool) (track : Track) (c : Constraint) (more fewer : List Constraint) → (MeetsAll more track → MeetsAll fewer track)
    → MeetsAll (cond b (c ∷ more) more) track → MeetsAll (cond b (c ∷ fewer) fewer) track
meets_by true track c more fewer rest meets = (meets.0, rest meets.1)
meets_by false track c more fewer rest meets = rest meets

-- who walks as all demands ask walks as the first of them do
meets_fewer : (track : Track) (k : ℕ) (demands : List Demand) (n : ℕ) → MeetsAll (constraints_of demands k) track → MeetsAll (constraints_of (take n demands) k) track
meets_fewer track k [] zero meets = tt
meets_fewer track k [] (suc n) meets = tt
meets_fewer track k (d ∷ demands) zero meets = tt
meets_fewer track k (d ∷ demands) (suc n) meets =
    meets_by (concerns d.whom k) track d.constraint (constraints_of demands k) (constraints_of (take n demands) k) (meets_fewer track k demands n) meets

-- so what holds under the first demands holds under all
pub at_least_more : (m : Grid) (own : Ends) (demands : List Demand) (k n cost : ℕ) → CostsAtLeast m own (constraints_of (take n demands) k) cost
    → CostsAtLeast m own (constraints_of demands k) cost
at_least_more m own demands k n cost least = λ track walker meets. least track walker (meets_fewer track k demands n meets)

-- ---- demands that change behind those that count

-- the first so many demands are the same
abbrev pub AreSameBelow : ℕ → List Demand → List Demand → Type 0
AreSameBelow count demands others = (a : ℕ) → a ≤ count → take a demands ≡ take a others

taken_front : (demands more : List Demand) (count : ℕ) → count ≤ length demands → AreSameBelow count demands (take count demands ++ more)
taken_front demands more count most zero few = refl
taken_front [] more count most (suc a) few = absurd (omega (arith, most, few))
taken_front (d ∷ demands) more zero most (suc a) few = absurd (omega (arith, few))
taken_front (d ∷ demands) more (suc count) most (suc a) few = ap (λ l. d ∷ l) (taken_front demands more count (omega (arith, most)) a (omega (arith, few)))

-- what stands in front of a place stays
pub same_front : (demands more others : List Demand) (count : ℕ) → count ≤ length demands → others ≡ take count demands ++ more → AreSameBelow count demands others
same_front demands more others count most is = λ a few. taken_front demands more count most a few ∙ ap (take a) (sym is)

kept_on : (m : Grid) (ends : List Ends) (demands others : List Demand) (count : ℕ) (kept : List Kept) → AreSameBelow count demands others
    → RisesTo (asked_numbers kept) count → AllByRecursion (HoldsKept m ends demands) kept → AllByRecursion (HoldsKept m ends others) kept
kept_on m ends demands others count [] same rising hold = tt
kept_on m ends demands others count (k ∷ kept) same rising hold = (
  λ own there. subst (λ (l : List Demand). CostsAtLeast m own (constraints_of l k.agent) k.cost) (same k.asked rising.0) (hold.0 own there),
  kept_on m ends demands others count kept same rising.2 hold.1,
)

-- what was kept holds under other demands that begin alike
pub trail_on : (m : Grid) (ends : List Ends) (demands others : List Demand) (count : ℕ) (kept : List Kept) → AreSameBelow count demands others
    → count ≤ length others → AreKeptWithin m ends demands count kept → IsTrail m ends others kept
trail_on m ends demands others count kept same few are = record {
  rising = rising-more (asked_numbers kept) count (length others) are.rising few;
  hold = kept_on m ends demands others count kept same are.rising are.hold;
}

-- ---- more that is kept, and less

asked-push : (kept : List Kept) (k : Kept) → asked_numbers (kept ++ k ∷ []) ≡ asked_numbers kept ++ k.asked ∷ []
asked-push [] k = refl
asked-push (j ∷ kept) k = ap (λ l. j.asked ∷ l) (asked-push kept k)

-- without the last
pub kept_front : (m : Grid) (ends : List Ends) (demands : List Demand) (count : ℕ) (kept : List Kept) (last : Kept) → AreKeptWithin m ends demands count (kept ++ last ∷ [])
    → AreKeptWithin m ends demands count kept
kept_front m ends demands count kept last are =
    let rising = subst (λ l. RisesTo l count) (asked-push kept last) are.rising in
    record {
      rising = rising-more (asked_numbers kept) last.asked count (rising-front (asked_numbers kept) last.asked count rising)
          (rising-last (asked_numbers kept) last.asked count rising);
      hold = all_front (HoldsKept m ends demands) kept last are.hold;
    }

-- where the last was found under few enough, all were
pub kept_within : (m : Grid) (ends : List Ends) (demands : List Demand) (most count : ℕ) (kept : List Kept) (last : Kept)
    → AreKeptWithin m ends demands most (kept ++ last ∷ []) → last.asked ≤ count → AreKeptWithin m ends demands count (kept ++ last ∷ [])
kept_within m ends demands most count kept last are few =
    let rising = subst (λ l. RisesTo l most) (asked-push kept last) are.rising in
    record {
      rising = subst (λ l. RisesTo l count) (sym (asked-push kept last))
          (rising-push (asked_numbers kept) last.asked count (rising-front (asked_numbers kept) last.asked most rising) few);
      hold = are.hold;
    }

-- one more that was found under all that is asked
pub kept_push : (m : Grid) (ends : List Ends) (demands : List Demand) (kept : List Kept) (one : Kept) → IsTrail m ends demands kept → one.asked ≡ length demands
    → HoldsKept m ends demands one → IsTrail m ends demands (kept ++ one ∷ [])
kept_push m ends demands kept one are all holds = record {
  rising = subst (λ l. RisesTo l (length demands)) (sym (asked-push kept one))
      (rising-push (asked_numbers kept) one.asked (length demands) (subst (RisesTo (asked_numbers kept)) (sym all) are.rising) (omega (arith, all)));
  hold = all_push (HoldsKept m ends demands) kept one are.hold holds;
}

-- nothing is kept
pub kept_none : (m : Grid) (ends : List Ends) (demands : List Demand) (count : ℕ) → AreKeptWithin m ends demands count []
kept_none m ends demands count = record { rising = tt; hold = tt }

-- ---- tables

pub table_at : (m : Grid) (ends : List Ends) (tables : List GoalView) → AreTables m ends tables → (k : ℕ) (own : Ends) (table : GoalView)
    → slice_get ends k ≡ Some own → slice_get tables k ≡ Some table → table ≡ record { map = m; goal = own.goal }
table_at m [] tables are k own table there is = absurd (none-some own there)
table_at m (one ∷ ends) tables are zero own table there is =
    sym (same_Some (record { map = m; goal = one.goal }) table (ap (λ (l : List GoalView). slice_get l 0) (sym are.1) ∙ is))
    ∙ ap (λ (e : Ends). record { map = m; goal = e.goal }) (same_Some one own there)
table_at m (one ∷ ends) tables are (suc k) own table there is =
    table_at m ends are.0 are.2 k own table there (ap (λ (l : List GoalView). slice_get l (suc k)) (sym are.1) ∙ is)

-- one table more
pub tables_push : (m : Grid) (ends : List Ends) (tables : List GoalView) (own : Ends) → AreTables m ends tables
    → AreTables m (ends ++ own ∷ []) (tables ++ record { map = m; goal = own.goal } ∷ [])
tables_push m [] tables own are = ([], ap (λ (l : List GoalView). l ++ record { map = m; goal = own.goal } ∷ []) are, refl)
tables_push m (one ∷ ends) tables own are =
    (are.0 ++ record { map = m; goal = own.goal } ∷ [], ap (λ (l : List GoalView). l ++ record { map = m; goal = own.goal } ∷ []) are.1, tables_push m ends are.0 own are.2)

-- ---- the last

last_is : (kept : List Kept) (last : Kept) (n : ℕ) → length kept ≡ n + 1 → slice_get kept n ≡ Some last → (front : List Kept) × (kept ≡ front ++ last ∷ [])
last_is [] last n count is = absurd (omega (arith, count))
last_is (k ∷ []) last zero count is = ([], ap (λ (l : Kept). l ∷ []) (same_Some k last is))
last_is (k ∷ []) last (suc n) count is = absurd (omega (arith, count))
last_is (k ∷ j ∷ kept) last zero count is = absurd (omega (arith, count))
last_is (k ∷ j ∷ kept) last (suc n) count is =
    let rest = last_is (j ∷ kept) last n (omega (arith, count)) is in (k ∷ rest.0, ap (λ (l : List Kept). k ∷ l) rest.1)

-- the last was found under few enough demands
pub past_within : (kept : List Kept) (last : Kept) (count : ℕ) → Some last ≡ slice_get kept (length kept - 1) → nat_lt count last.asked ≡ false
    → (kept ≡ []) ⊎ ((front : List Kept) × (one : Kept) × (kept ≡ front ++ one ∷ []) × (one.asked ≤ count))
past_within [] last count is few = inl refl
past_within (k ∷ kept) last count is few =
    let all = last_is (k ∷ kept) last (length (k ∷ kept) - 1) (omega arith) (sym is) in inr (all.0, last, all.1, ltb-false count last.asked few)

-- in either case all were
pub trail_within : (m : Grid) (ends : List Ends) (demands : List Demand) (count : ℕ) (kept : List Kept)
    → (kept ≡ []) ⊎ ((front : List Kept) × (one : Kept) × (kept ≡ front ++ one ∷ []) × (one.asked ≤ count)) → IsTrail m ends demands kept
    → AreKeptWithin m ends demands count kept
trail_within m ends demands count kept (inl none) are = subst (AreKeptWithin m ends demands count) (sym none) (kept_none m ends demands count)
trail_within m ends demands count kept (inr some) are =
    subst (AreKeptWithin m ends demands count) (sym some.2)
    (kept_within m ends demands (length demands) count some.0 some.1 (subst (AreKeptWithin m ends demands (length demands)) some.2 are) some.3)

-- ---- ends

pub goal_at : (ends : List Ends) (k : ℕ) (own : Ends) → slice_get ends k ≡ Some own → own.goal ≡ goal_of ends k
goal_at [] k own there = absurd (none-some own there)
goal_at (one ∷ ends) zero own there = ap (λ (e : Ends). e.goal) (sym (same_Some one own there))
goal_at (one ∷ ends) (suc k) own there = goal_at ends k own there

pub goal_past : (ends : List Ends) (k : ℕ) → length ends ≤ k → record { x = 0; y = 0 } ≡ goal_of ends k
goal_past [] k past = refl
goal_past (one ∷ ends) zero past = absurd (omega (arith, past))
goal_past (one ∷ ends) (suc k) past = goal_past ends k (omega (arith, past))

-- ---- back where fewer demands were made

pub trail_taken : (m : Grid) (ends : List Ends) (demands others : List Demand) (count : ℕ) (kept : List Kept) → count ≤ length demands → others ≡ take count demands
    → AreKeptWithin m ends demands count kept → IsTrail m ends others kept
trail_taken m ends demands others count kept few is are =
    let most : count ≤ length others = omega (arith, few, ap length is, length-take count demands) in
    trail_on m ends demands others count kept (same_front demands [] others count few (is ∙ sym (append-nil (take count demands)))) most are

-- what is kept of an agent holds under all that is asked of it
pub known_holds : (m : Grid) (ends : List Ends) (demands : List Demand) (kept : Kept) (agent : ℕ) (own : Ends) → kept.agent ≡ agent → HoldsKept m ends demands kept
    → slice_get ends agent ≡ Some own → CostsAtLeast m own (constraints_of demands agent) kept.cost
known_holds m ends demands kept agent own is holds there =
    let least = holds own (ap (slice_get ends) is ∙ there) in
    subst (λ k. CostsAtLeast m own (constraints_of demands k) kept.cost) is (at_least_more m own demands kept.agent kept.asked kept.cost least)

-- the table of the next agent
pub tables_next : (m : Grid) (ends : List Ends) (tables : List GoalView) (i : ℕ) (any : Ends) → i < length ends → AreTables m (take i ends) tables
    → AreTables m (take (i + 1) ends) (tables ++ record { map = m; goal = (get_or ends i any).goal } ∷ [])
tables_next m ends tables i any more are =
    let next : suc i ≡ i + 1 = omega arith in
    subst (λ (l : List Ends). AreTables m l (tables ++ record { map = m; goal = (get_or ends i any).goal } ∷ []))
    (sym (take-suc ends i any more) ∙ ap (λ n. take n ends) next) (tables_push m (take i ends) tables (get_or ends i any) are)

-- what is so by an agent's table and by what is asked of it is so on the map
pub of_agent : (P : GoalView → Ends → List Constraint → Type 0) (m : Grid) (ends : List Ends) (tables : List GoalView) (k : ℕ) (own it : Ends) (table : GoalView)
    (asked due : List Constraint) → AreTables m ends tables → slice_get ends k ≡ Some own → slice_get ends k ≡ Some it → slice_get tables k ≡ Some table
    → asked ≡ due → P table it asked → P (record { map = m; goal = own.goal }) own due
of_agent P m ends tables k own it table asked due are there its of is holds =
    let same : it ≡ own = same_Some it own (sym its ∙ there) in
    let view = table_at m ends tables are k own table there of in
    subst (P (record { map = m; goal = own.goal }) own) is
    (subst (λ (e : Ends). P (record { map = m; goal = own.goal }) e asked) same (subst (λ (v : GoalView). P v it asked) view holds))

-- more is asked
pub trail_added : (m : Grid) (ends : List Ends) (demands others more : List Demand) (kept : List Kept) → others ≡ demands ++ more → IsTrail m ends demands kept
    → IsTrail m ends others kept
trail_added m ends demands others more kept is are =
    let all = take-length demands in
    let front : others ≡ take (length demands) demands ++ more = is ∙ ap (λ (l : List Demand). l ++ more) (sym all) in
    let few : length demands ≤ length others = omega (arith, ap length is, length-append demands more) in
    trail_on m ends demands others (length demands) kept (same_front demands more others (length demands) (omega arith) front) few are
