-- The conflicts of one agent, followed along its links.
use Rattle.std.proofs.Common.{◌≡◌, ℕ, ◌+◌, ◌-◌, ◌<◌, List, [], ◌∷◌, ◌++◌, length, take, None, Some, arith, refl, sym, subst}
use Rattle.std.specs.Prelude.{Option, slice_get, unwrap_or}
use Rattle.std.proofs.lemmas.Option.{slice_get_within, get_or_from_slice_get}
use Rattle.grid.specs.Map.{Grid}
use Rattle.model.specs.declared.plan_fault.PlanFault.{PlanFault}
use Rattle.model.specs.Plan.{Plan, HasPlanFault, key_of}
use Rattle.checker.specs.AllFaults.{IsFaultTold}
use Rattle.checker.specs.declared.conflict.Conflict.{Conflict}
use Rattle.checker.specs.declared.conflict.Conflict.TheVariants.{Vertex, Swap}
use Rattle.checker.specs.declared.listing.Listing.{Listing}
use Rattle.checker.specs.declared.places.Step.{Step}
use Rattle.checker.specs.Code.Known.{key_with, IsListedTo}
use Rattle.checker.specs.Code.Links.{IsFirstFrom}
use Rattle.checker.specs.Code.Places.{reversed, step_in}
use Rattle.checker.specs.Code.Rows.{fault_between, key_in, IsConflictRow}
use Rattle.checker.proofs.KnownLemmas.{listed-skip, listed-push}
use Rattle.checker.proofs.RankLemmas.{row-only, part-gap, rest-gap}

-- the row of an agent at a time and of a rank, whose faults are with those that take a step
module _ (m : Grid) (p : Plan) (t r i : ℕ) (steps : List Step) (q : Step) (fault : ℕ → PlanFault) (is : (j : ℕ) → key_of (fault j) ≡ key_with t r i j)
    (has : (j : ℕ) → i < j → slice_get steps j ≡ Some q → HasPlanFault m p (fault j) × IsFaultTold p (fault j))
    (only : (f : PlanFault) → HasPlanFault m p f → IsFaultTold p f → key_of f ≡ key_with t r i (key_of f).second → (i < (key_of f).second) × (slice_get steps (key_of f).second ≡ Some q)) where
  row-begin : (l : Listing) → IsListedTo m p (key_with t r i 0) l → IsListedTo m p (key_with t r i (i + 1)) l
  row-begin l h =
      listed-skip m p (key_with t r i 0) (key_with t r i (i + 1)) l h
      (part-gap m p t r i 0 (i + 1) (omega arith) (λ f own told at past before. (let later = (only f own told at).0 in omega (arith, later, before))))

  row-more : (from j : ℕ) (old new : Listing) → i < from → IsFirstFrom steps from q (Some j) → IsListedTo m p (key_with t r i from) old → new.most ≡ old.most
      → new.faults.items ≡ take (old.most + 1) (old.faults.items ++ fault j ∷ []) → IsListedTo m p (key_with t r i (j + 1)) new
  row-more from j old new less first h most items =
      let past = first.0 in
      let own = has j (omega (arith, less, past)) first.1 in
      listed-push m p (key_with t r i from) (key_with t r i (j + 1)) old new (fault j) h most items
      (row-only m p t r i from j (fault j) own.0 own.1 (is j) past (λ f other told at after before. first.2 (key_of f).second after before (only f other told at).1))

  row-end : (from : ℕ) (l : Listing) → IsFirstFrom steps from q None → IsListedTo m p (key_with t r i from) l → IsListedTo m p (key_with t r (i + 1) 0) l
  row-end from l none h =
      listed-skip m p (key_with t r i from) (key_with t r (i + 1) 0) l h
      (rest-gap m p t r i from (λ f own told at past. none (key_of f).second past (only f own told at).1))

module _ (m : Grid) (p : Plan) (steps : List Step) (i : ℕ) where
  pub follow-begin : (conflict : Conflict) (l : Listing) → IsConflictRow m p steps conflict i → IsListedTo m p (key_in conflict i 0) l → IsListedTo m p (key_in conflict i (i + 1)) l
  follow-begin (Vertex t c) l row h = row-begin m p t 1 i steps (reversed (step_in steps i)) (fault_between (Vertex t c) i) (λ j. refl) row.has row.only l h
  follow-begin (Swap s) l row h = row-begin m p (s + 1) 2 i steps (reversed (step_in steps i)) (fault_between (Swap s) i) (λ j. refl) row.has row.only l h

  pub follow-more : (conflict : Conflict) (from j : ℕ) (old new : Listing) → IsConflictRow m p steps conflict i → i < from → IsFirstFrom steps from (reversed (step_in steps i)) (Some j)
      → IsListedTo m p (key_in conflict i from) old → new.most ≡ old.most → new.faults.items ≡ take (old.most + 1) (old.faults.items ++ fault_between conflict i j ∷ [])
      → IsListedTo m p (key_in conflict i (j + 1)) new
  follow-more (Vertex t c) from j old new row less first h most items =
      row-more m p t 1 i steps (reversed (step_in steps i)) (fault_between (Vertex t c) i) (λ j. refl) row.has row.only from j old new less first h most items
  follow-more (Swap s) from j old new row less first h most items =
      row-more m p (s + 1) 2 i steps (reversed (step_in steps i)) (fault_between (Swap s) i) (λ j. refl) row.has row.only from j old new less first h most items

  pub follow-end : (conflict : Conflict) (from : ℕ) (l : Listing) → IsConflictRow m p steps conflict i → IsFirstFrom steps from (reversed (step_in steps i)) None
      → IsListedTo m p (key_in conflict i from) l → IsListedTo m p (key_in conflict (i + 1) 0) l
  follow-end (Vertex t c) from l row none h = row-end m p t 1 i steps (reversed (step_in steps i)) (fault_between (Vertex t c) i) (λ j. refl) row.has row.only from l none h
  follow-end (Swap s) from l row none h = row-end m p (s + 1) 2 i steps (reversed (step_in steps i)) (fault_between (Swap s) i) (λ j. refl) row.has row.only from l none h

-- ---- the next agent comes later

pub follow-within : (steps : List Step) (from j : ℕ) (q : Step) (o : Option ℕ) → o ≡ Some j → IsFirstFrom steps from q o → (j < length steps) × (slice_get steps j ≡ Some q)
follow-within steps from j q o e h = let first = subst (IsFirstFrom steps from q) e h in (slice_get_within steps j q first.1, first.1)

pub follow-smaller : (steps : List Step) (j : ℕ) (q : Step) (next o : Option ℕ) → next ≡ Some j → j < length steps → IsFirstFrom steps (j + 1) q o
    → length steps - unwrap_or o (length steps) < length steps - unwrap_or next (length steps)
follow-smaller steps j q next o e less h = subst (λ a. length steps - unwrap_or o (length steps) < length steps - unwrap_or a (length steps)) (sym e) (smaller o h) where
  smaller : (o : Option ℕ) → IsFirstFrom steps (j + 1) q o → length steps - unwrap_or o (length steps) < length steps - j
  smaller None h = omega (arith, less)
  smaller (Some k) h = let later = h.0 in omega (arith, later, less)

pub step-is : (steps : List Step) (j : ℕ) (q : Step) → slice_get steps j ≡ Some q → step_in steps j ≡ q
step-is steps j q at = get_or_from_slice_get steps j q _ at
