-- How far a search has come, and what its steps come to.
use Rattle.std.specs.Prelude.{◌≡◌, ℕ, ◌+◌, ◌<◌, ◌≤◌, ◌⊎◌, Bool, false}
use Rattle.std.specs.Prelude.{List, [], ◌∷◌, ◌++◌, Some, reverse, slice_get}
use Rattle.grid.specs.declared.cell.Cell.{Cell}
use Rattle.model.specs.Costs.{cost}
use Rattle.model.specs.Timetable.{Track, cell_at}
use Rattle.optimality.specs.declared.constraint.Constraint.{Constraint}
use Rattle.optimality.specs.Constraints.{MeetsAll}
use Rattle.optimality.specs.Walkers.{IsAgentWalk}
use Rattle.least_costs.specs.declared.expand.Beside.{Beside}
use Rattle.least_costs.specs.declared.expand.Query.{Query}
use Rattle.least_costs.specs.declared.frontier.Frontier.{Frontier}
use Rattle.least_costs.specs.declared.seek.Advance.{Advance}
use Rattle.least_costs.specs.declared.seek.Advance.TheVariants.{On, Arrived, Exhausted}
use Rattle.least_costs.specs.declared.states.State.{State}
use Rattle.least_costs.specs.Code.Ruling.{AreRules}
use Rattle.least_costs.specs.Code.States.{HasState}
use Rattle.least_costs.specs.Code.Tables.{IsEstimate}
use Rattle.least_costs.specs.GoalView.{GoalView}

-- what is looked for
pub record Wanted : Type 0 where
  pub goal : GoalView
  pub start : Cell
  pub asked : List Constraint
  pub highest : ℕ

abbrev pub wanted : GoalView → Query → Wanted
wanted g q = record { goal = g; start = q.start; asked = q.asked.now; highest = q.highest }

-- a walk to the goal that is as it is asked and costs no more than may be
pub record IsWanted (w : Wanted) (track : Track) : Type 0 where
  pub walker : IsAgentWalk w.goal.map (record { start = w.start; goal = w.goal.goal }) track
  pub meets : MeetsAll w.asked track
  pub within : cost track ≤ w.highest

-- there is none
abbrev pub IsUnwalked : Wanted → Type 0
IsUnwalked w = (track : Track) → IsWanted w track → ⊥

-- each costs so much at least
abbrev pub AllCost : Wanted → ℕ → Type 0
AllCost w n = (track : Track) → IsWanted w track → n ≤ cost track

-- what is known before a search
pub record IsPosed (g : GoalView) (q : Query) : Type 0 where
  pub rules : AreRules q.asked.now q.rules.now
  pub lowest : (track : Track) → MeetsAll q.asked.now track → cell_at track (cost track) ≡ g.goal
      → q.lowest ≤ cost track
  pub some : (track : Track) → IsWanted (wanted g q) track → 0 < cost track
  pub fits : q.highest < 4294967295

-- the search has reached the cell at the time
abbrev pub HasReached : Frontier → Cell → ℕ → Type 0
HasReached f c t =
    HasState f.closed c t ⊎ HasState f.waiting.items c t ⊎ HasState f.next.items c t
    ⊎ HasState f.after.items c t

-- each walk that is in the cell at the time goes on, and where it is then is reached
abbrev pub AllGoOn : Wanted → Frontier → Cell → ℕ → Type 0
AllGoOn w f c t =
    (track : Track) → IsWanted w track → t < cost track → cell_at track t ≡ c → (t + 1 < cost track)
    × HasReached f (cell_at track (t + 1)) (t + 1)

-- the cell is so many steps from the goal at least, or the greatest number stands for a way that
-- isn't open
abbrev pub IsLookedAt : GoalView → Beside → Type 0
IsLookedAt g b = IsEstimate g b.cell b.steps ⊎ (b.steps ≡ 4294967295)

-- no walk that takes the step comes to rest by it
abbrev pub PassesOn : Wanted → ℕ → (u v : Cell) → Type 0
PassesOn w t u v =
    (track : Track) → IsWanted w track → t < cost track → cell_at track t ≡ u
    → cell_at track (t + 1) ≡ v → t + 1 < cost track

-- each walk that takes the step goes on, and where it is then is reached
abbrev pub IsOffered : Wanted → Frontier → ℕ → (u v : Cell) → Type 0
IsOffered w f t u v =
    (track : Track) → IsWanted w track → t < cost track → cell_at track t ≡ u
    → cell_at track (t + 1) ≡ v
    → (t + 1 < cost track) × HasReached f (cell_at track (t + 1)) (t + 1)

-- walks through these states cost so much at least
abbrev pub AllThrough : Wanted → List State → ℕ → Type 0
AllThrough w states n =
    (k : ℕ) (s : State) (track : Track) → slice_get states k ≡ Some s → IsWanted w track
    → s.time < cost track → cell_at track s.time ≡ s.cell → n ≤ cost track

-- from the one frontier the search came to the other: it has reached no less, and what waits waits
-- rightly
pub record HasComeOn (w : Wanted) (budget : ℕ) (old new : Frontier) : Type 0 where
  pub closed : new.closed ≡ old.closed
  pub keeps : (track : Track) (t : ℕ) → IsWanted w track → t < cost track
      → HasReached old (cell_at track t) t → HasReached new (cell_at track t) t
  pub next : AllThrough w old.next.items (budget + 1) → AllThrough w new.next.items (budget + 1)
  pub after : AllThrough w old.after.items (budget + 2) → AllThrough w new.after.items (budget + 2)

-- walks are looked for that cost no more than the budget: each begins where something is reached,
-- goes on from each closed state, and costs more where another state waits for that
pub record IsCostSearch (w : Wanted) (budget : ℕ) (f : Frontier) : Type 0 where
  pub begins
      : (track : Track) → IsWanted w track → (0 < cost track) × HasReached f (cell_at track 0) 0
  pub closed : (k : ℕ) (s : State) → slice_get f.closed k ≡ Some s → AllGoOn w f s.cell s.time
  pub next : AllThrough w f.next.items (budget + 1)
  pub after : AllThrough w f.after.items (budget + 2)

-- what came of going on
abbrev pub HasGoneOn : Wanted → ℕ → Frontier → Advance → Type 0
HasGoneOn w budget f On = IsCostSearch w budget f
HasGoneOn w budget f (Arrived from) = Unit {0}
HasGoneOn w budget f Exhausted = IsCostSearch w budget f × (f.waiting.items ≡ [])

-- a state was put behind those that were there
abbrev pub IsPutBehind : List State → List State → State → Type 0
IsPutBehind old new s = new ≡ old ++ s ∷ []

-- a state through which walks cost so much at least was put where it waits
pub record HasPut (old new : Frontier) (s : State) (through budget : ℕ) : Type 0 where
  pub closed : new.closed ≡ old.closed
  pub put : (IsPutBehind old.waiting.items new.waiting.items s × (new.next ≡ old.next)
      × (new.after ≡ old.after))
      ⊎ (IsPutBehind old.next.items new.next.items s × (budget + 1 ≤ through)
      × (new.waiting ≡ old.waiting) × (new.after ≡ old.after))
      ⊎ (IsPutBehind old.after.items new.after.items s × (budget + 2 ≤ through)
      × (new.waiting ≡ old.waiting) × (new.next ≡ old.next))

-- or it was left out, since walks through it cost too much
abbrev pub IsPutOff : Frontier → Frontier → State → (through budget highest : ℕ) → Type 0
IsPutOff old new s through budget highest =
    HasPut old new s through budget ⊎ ((new ≡ old) × (highest < through))

-- what waited for the next budget waits for this one, the first last, and the rest one closer
pub record IsRaised (old new : Frontier) (is_any : Bool) : Type 0 where
  pub closed : new.closed ≡ old.closed
  pub waiting : new.waiting.items ≡ reverse old.next.items
  pub next : new.next.items ≡ old.after.items
  pub after : new.after.items ≡ []
  pub none : is_any ≡ false → (old.next.items ≡ []) × (old.after.items ≡ [])
