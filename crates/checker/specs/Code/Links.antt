-- Which agents take the same step, and which the opposite one.
use Rattle.std.specs.Prelude.{◌≡◌, ℕ, ◌+◌, ◌<◌, ◌≤◌, ◌&&◌, Bool, List}
use Rattle.std.specs.Prelude.{length, get_or, Option, MatchOption, None, Some, slice_get}
use Rattle.std.specs.Ordering.{int_eq}
use Rattle.checker.specs.declared.places.Step.{Step}
use Rattle.checker.specs.declared.links.Link.{Link}
use Rattle.checker.specs.Code.Places.{reversed, step_in}

-- both begin in one place, and both end in one
abbrev pub same_step : Step → Step → Bool
same_step a b =
    (int_eq a.from.x b.from.x && int_eq a.from.y b.from.y)
    && (int_eq a.to.x b.to.x && int_eq a.to.y b.to.y)

-- the first agent from a number on that takes the step, if one does
abbrev pub IsFirstFrom : List Step → ℕ → Step → Option ℕ → Type 0
IsFirstFrom steps i step answer =
    MatchOption answer ((k : ℕ) → i ≤ k → slice_get steps k ≡ Some step → ⊥)
    (λ j. (i ≤ j) × (slice_get steps j ≡ Some step)
    × ((k : ℕ) → i ≤ k → k < j → slice_get steps k ≡ Some step → ⊥))

-- the links are those of the agent: who is the next that takes the opposite step, and who the next
-- that takes the same
pub record IsLink (steps : List Step) (i : ℕ) (link : Link) : Type 0 where
  pub opposite : IsFirstFrom steps (i + 1) (reversed (step_in steps i)) link.opposite
  pub same : IsFirstFrom steps (i + 1) (step_in steps i) link.same

-- the links of an agent; where there is no such agent, anything may stand for them
abbrev pub link_in : List Link → ℕ → Link
link_in links i = get_or links i (record { opposite = None; same = None })

-- each agent from the number on has its links
pub record AreLinked (steps : List Step) (first : ℕ) (links : List Link) : Type 0 where
  pub count : length links ≡ length steps
  pub each : (i : ℕ) → first ≤ i → i < length steps → IsLink steps i (link_in links i)
