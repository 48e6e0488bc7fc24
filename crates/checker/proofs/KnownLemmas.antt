-- What is listed up to a key, further on, and one fault more.
use Rattle.std.proofs.Common.{◌≡◌, ◌+◌, ◌<◌, ◌≤◌, List, [], ◌∷◌, ◌++◌, length, take, Some, inl, inr, arith, refl, sym, ap, subst, ◌∙◌}
use Rattle.std.specs.Prelude.{◌⊎◌}
use Rattle.std.proofs.lemmas.List.{length-take}
use Rattle.grid.specs.Map.{Grid}
use Rattle.model.specs.declared.plan_fault.PlanFault.{PlanFault}
use Rattle.model.specs.Plan.{Plan, HasPlanFault, Key, key_of, IsBefore}
use Rattle.checker.specs.AllFaults.{IsFaultTold}
use Rattle.checker.specs.declared.listing.Listing.{Listing}
use Rattle.checker.specs.Code.Known.{AreFaultsBefore, IsListedTo}
use Rattle.checker.proofs.ItemLemmas.{which_pushed, kept_pushed, last_pushed, within_items, take_pushed, take_full}

-- no fault lies between the two keys
pub record IsGap (m : Grid) (p : Plan) (from to : Key) : Type 0 where
  pub grows : (key : Key) → IsBefore key from → IsBefore key to
  pub none : (f : PlanFault) → HasPlanFault m p f → IsFaultTold p f → IsBefore (key_of f) to → IsBefore (key_of f) from

-- just this fault lies between the two keys
pub record IsOnly (m : Grid) (p : Plan) (from : Key) (fault : PlanFault) (to : Key) : Type 0 where
  pub has : HasPlanFault m p fault
  pub told : IsFaultTold p fault
  pub grows : (key : Key) → IsBefore key from → IsBefore key to
  pub after : (key : Key) → IsBefore key from → IsBefore key (key_of fault)
  pub before : IsBefore (key_of fault) to
  pub only : (f : PlanFault) → HasPlanFault m p f → IsFaultTold p f → IsBefore (key_of f) to → IsBefore (key_of f) from ⊎ (f ≡ fault)

-- ---- lists of all before a key

pub before-skip : (m : Grid) (p : Plan) (from to : Key) (faults : List PlanFault) → AreFaultsBefore m p from faults → IsGap m p from to → AreFaultsBefore m p to faults
before-skip m p from to faults h gap = record {
  each = λ n f at. (let own = h.each n f at in (own.0, own.1, gap.grows (key_of f) own.2));
  all = λ f has told less. h.all f has told (gap.none f has told less);
  rising = h.rising;
}

pub before-push : (m : Grid) (p : Plan) (from to : Key) (faults : List PlanFault) (fault : PlanFault) → AreFaultsBefore m p from faults → IsOnly m p from fault to
    → AreFaultsBefore m p to (faults ++ fault ∷ [])
before-push m p from to faults fault h one = record {
  each = λ n f at. elim (which_pushed faults fault n f at) [
    | inl old ↦ (let own = h.each n f old in (own.0, own.1, one.grows (key_of f) own.2))
    | inr new ↦ subst (λ g. HasPlanFault m p g × IsFaultTold p g × IsBefore (key_of g) to) (sym new.1) (one.has, one.told, one.before)
  ];
  all = λ f has told less. elim (one.only f has told less) [
    | inl old ↦ (let at = h.all f has told old in (at.0, kept_pushed faults (fault ∷ []) at.0 f at.1))
    | inr same ↦ (let at = last_pushed faults fault in (at.0, at.1 ∙ ap Some (sym same)))
  ];
  rising = λ a b f g at_a at_b less. elim (which_pushed faults fault b g at_b) [
    | inl old_b ↦ (elim (which_pushed faults fault a f at_a) [
      | inl old_a ↦ h.rising a b f g old_a old_b less
      | inr new_a ↦ absurd (let past = within_items faults b g old_b in let last = new_a.0 in omega (arith, past, last, less))
    ])
    | inr new_b ↦ (elim (which_pushed faults fault a f at_a) [
      | inl old_a ↦ subst (λ k. IsBefore (key_of f) (key_of k)) (sym new_b.1) (one.after (key_of f) (h.each a f old_a).2)
      | inr new_a ↦ absurd (let last = new_b.0 in let also = new_a.0 in omega (arith, last, also, less))
    ])
  ];
}

-- ---- what is listed

pub listed-skip : (m : Grid) (p : Plan) (from to : Key) (listing : Listing) → IsListedTo m p from listing → IsGap m p from to → IsListedTo m p to listing
listed-skip m p from to listing h gap = elim h.far [
  | inl there ↦ record {
    reached = to;
    found = h.found;
    first = h.first;
    far = inl refl;
    before = before-skip m p from to h.found (subst (λ k. AreFaultsBefore m p k h.found) there h.before) gap;
  }
  | inr full ↦ record { reached = h.reached; found = h.found; before = h.before; first = h.first; far = inr full }
]

pub listed-push : (m : Grid) (p : Plan) (from to : Key) (old new : Listing) (fault : PlanFault) → IsListedTo m p from old → new.most ≡ old.most
    → new.faults.items ≡ take (old.most + 1) (old.faults.items ++ fault ∷ []) → IsOnly m p from fault to → IsListedTo m p to new
listed-push m p from to old new fault h most items one = elim h.far [
  | inl there ↦ record {
    reached = to;
    found = h.found ++ fault ∷ [];
    far = inl refl;
    before = before-push m p from to h.found fault (subst (λ k. AreFaultsBefore m p k h.found) there h.before) one;
    first = items ∙ ap (λ l. take (old.most + 1) (l ++ fault ∷ [])) h.first ∙ take_pushed (old.most + 1) h.found fault
        ∙ ap (λ n. take (n + 1) (h.found ++ fault ∷ [])) (sym most);
  }
  | inr full ↦ record {
    reached = h.reached;
    found = h.found;
    before = h.before;
    far = inr (omega (arith, full, most));
    first = items ∙ ap (λ l. take (old.most + 1) (l ++ fault ∷ [])) h.first ∙ take_full (old.most + 1) h.found fault (omega (arith, full))
        ∙ ap (λ n. take (n + 1) h.found) (sym most);
  }
]

-- a listing has no more than one more than are wanted
pub listed-few : (m : Grid) (p : Plan) (key : Key) (listing : Listing) → IsListedTo m p key listing → length listing.faults.items ≤ listing.most + 1
listed-few m p key listing h = let count = ap length h.first ∙ length-take (listing.most + 1) h.found in omega (arith, count)

-- a full one may stop anywhere
pub listed-full : (m : Grid) (p : Plan) (from to : Key) (listing : Listing) → IsListedTo m p from listing → listing.most < length listing.faults.items → IsListedTo m p to listing
listed-full m p from to listing h full =
    let count = ap length h.first ∙ length-take (listing.most + 1) h.found in
    record { reached = h.reached; found = h.found; before = h.before; first = h.first; far = inr (omega (arith, count, full)) }

-- another that has the same
pub listed-same : (m : Grid) (p : Plan) (key : Key) (old new : Listing) → IsListedTo m p key old → new ≡ old → IsListedTo m p key new
listed-same m p key old new h e = subst (IsListedTo m p key) (sym e) h
