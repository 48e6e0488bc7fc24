-- The faults that were found up to a key.
use Rattle.std.specs.Prelude.{◌≡◌, ℕ, ◌+◌, ◌<◌, ◌⊎◌, List, length, take, Some, slice_get}
use Rattle.grid.specs.Map.{Grid}
use Rattle.model.specs.declared.plan_fault.PlanFault.{PlanFault}
use Rattle.model.specs.Plan.{Plan, HasPlanFault, Key, key_of, IsBefore}
use Rattle.checker.specs.AllFaults.{IsFaultTold}
use Rattle.checker.specs.declared.listing.Listing.{Listing}

-- the key of these four numbers
abbrev pub key_with : (time rank first second : ℕ) → Key
key_with time rank first second =
    record { time = time; rank = rank; first = first; second = second }

-- all faults that are told and come before the key, each once
pub record AreFaultsBefore (m : Grid) (p : Plan) (key : Key)
    (faults : List PlanFault) : Type 0 where
  pub each : (n : ℕ) (fault : PlanFault) → slice_get faults n ≡ Some fault → HasPlanFault m p fault
      × IsFaultTold p fault × IsBefore (key_of fault) key
  pub all : (fault : PlanFault) → HasPlanFault m p fault → IsFaultTold p fault
      → IsBefore (key_of fault) key → (n : ℕ) × (slice_get faults n ≡ Some fault)
  pub rising : (a b : ℕ) (f g : PlanFault) → slice_get faults a ≡ Some f
      → slice_get faults b ≡ Some g → a < b → IsBefore (key_of f) (key_of g)

-- the listing has the first of all faults before the key; it may have been left at an earlier key,
-- where it was full already
pub record IsListedTo (m : Grid) (p : Plan) (key : Key) (listing : Listing) : Type 0 where
  pub reached : Key
  pub found : List PlanFault
  pub before : AreFaultsBefore m p reached found
  pub first : listing.faults.items ≡ take (listing.most + 1) found
  pub far : (reached ≡ key) ⊎ (listing.most < length found)
