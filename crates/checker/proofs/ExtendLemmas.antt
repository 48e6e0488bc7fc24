-- The list of all faults from a beginning of it: key by key, there is a fault or none.
use Rattle.std.proofs.Common.{◌≡◌, ℕ, zero, suc, ◌+◌, ◌-◌, ◌<◌, ◌≤◌, Bool, List, [], ◌∷◌, ◌++◌, length, take, min, inl, inr, arith, refl, sym, subst, ap, ◌∙◌}
use Rattle.std.specs.Prelude.{◌↔◌, IsTrue}
use Rattle.std.proofs.lemmas.Bool.{cases_lt}
use Rattle.std.proofs.lemmas.List.{append-nil, append_assoc, length-take, take-take, take-append-le}
use Rattle.grid.specs.Map.{Grid}
use Rattle.model.specs.declared.plan_fault.PlanFault.{PlanFault}
use Rattle.model.specs.Plan.{Plan, Key, key_of, longest_of}
use Rattle.checker.specs.AllFaults.{AreAllFaults, count_of_named, AreFirstFaults}
use Rattle.checker.specs.declared.listing.Listing.{Listing}
use Rattle.checker.specs.Code.Known.{key_with, AreFaultsBefore, IsListedTo}
use Rattle.checker.proofs.KeyLemmas.{before_trans, in_next_time}
use Rattle.checker.proofs.SameFaults.{fault_agents, told-time}
use Rattle.checker.proofs.KnownLemmas.{IsGap, before-skip, before-push}
use Rattle.checker.proofs.RankLemmas.{row-only, part-gap, rest-gap, rank-gap, last-rank-gap}
use Rattle.checker.proofs.DecideLemmas.{fault-known}

-- all faults before the key, which begin with these
pub record AreFurther (m : Grid) (p : Plan) (faults : List PlanFault) (key : Key) : Type 0 where
  pub rest : List PlanFault
  pub before : AreFaultsBefore m p key (faults ++ rest)

module _ (m : Grid) (p : Plan) where
  here : (key : Key) (faults : List PlanFault) → AreFaultsBefore m p key faults → AreFurther m p faults key
  here key faults h = record { rest = []; before = subst (AreFaultsBefore m p key) (sym (append-nil faults)) h }

  then : (from to : Key) (faults : List PlanFault) → AreFurther m p faults from → ((more : List PlanFault) → AreFaultsBefore m p from more → AreFurther m p more to) → AreFurther m p faults to
  then from to faults first later =
      let second = later (faults ++ first.rest) first.before in
      record { rest = first.rest ++ second.rest; before = subst (AreFaultsBefore m p to) (append_assoc faults first.rest second.rest) second.before }

  skip : (from to : Key) (faults : List PlanFault) → IsGap m p from to → AreFaultsBefore m p from faults → AreFurther m p faults to
  skip from to faults gap h = here to faults (before-skip m p from to faults h gap)

  -- one key on
  second : (t r i j : ℕ) (faults : List PlanFault) → r < 3 → AreFaultsBefore m p (key_with t r i j) faults → AreFurther m p faults (key_with t r i (j + 1))
  second t r i j faults few h = elim (fault-known m p t r i j few) [
    | inl own ↦ record {
      rest = own.0 ∷ [];
      before = before-push m p (key_with t r i j) (key_with t r i (j + 1)) faults own.0 h
          (row-only m p t r i j j own.0 own.1 own.2 own.3 (omega arith) (λ f has told is past less. omega (arith, past, less)));
    }
    | inr none ↦ skip (key_with t r i j) (key_with t r i (j + 1)) faults (part-gap m p t r i j (j + 1) (omega arith) (λ f has told is past less.
        none (f, has, told, is ∙ (let at : (key_of f).second ≡ j = omega (arith, past, less) in ap (key_with t r i) at)))) h
  ]

  seconds : (d t r i j n : ℕ) (faults : List PlanFault) → n ≡ j + d → r < 3 → AreFaultsBefore m p (key_with t r i j) faults → AreFurther m p faults (key_with t r i n)
  seconds zero t r i j n faults e few h = let same : j ≡ n = omega (arith, e) in here (key_with t r i n) faults (subst (λ k. AreFaultsBefore m p (key_with t r i k) faults) same h)
  seconds (suc d) t r i j n faults e few h =
      then (key_with t r i (j + 1)) (key_with t r i n) faults (second t r i j faults few h) (λ more now. seconds d t r i (j + 1) n more (omega (arith, e)) few now)

  row : (t r i j : ℕ) (faults : List PlanFault) → r < 3 → AreFaultsBefore m p (key_with t r i j) faults → AreFurther m p faults (key_with t r (i + 1) 0)
  row t r i j faults few h =
      let agents = length p.courses in
      then (key_with t r i (j + agents)) (key_with t r (i + 1) 0) faults (seconds agents t r i j (j + agents) faults refl few h)
      (λ more now. skip (key_with t r i (j + agents)) (key_with t r (i + 1) 0) more
      (rest-gap m p t r i (j + agents) (λ f has told is past. (let own = (fault_agents m p f has).second in omega (arith, own, past)))) now)

  rows : (d t r i n : ℕ) (faults : List PlanFault) → n ≡ i + d → r < 3 → AreFaultsBefore m p (key_with t r i 0) faults → AreFurther m p faults (key_with t r n 0)
  rows zero t r i n faults e few h = let same : i ≡ n = omega (arith, e) in here (key_with t r n 0) faults (subst (λ k. AreFaultsBefore m p (key_with t r k 0) faults) same h)
  rows (suc d) t r i n faults e few h =
      then (key_with t r (i + 1) 0) (key_with t r n 0) faults (row t r i 0 faults few h) (λ more now. rows d t r (i + 1) n more (omega (arith, e)) few now)

  rank : (t r i : ℕ) (faults : List PlanFault) → r < 3 → AreFaultsBefore m p (key_with t r i 0) faults → AreFurther m p faults (key_with t (r + 1) 0 0)
  rank t r i faults few h =
      let agents = length p.courses in
      then (key_with t r (i + agents) 0) (key_with t (r + 1) 0 0) faults (rows agents t r i (i + agents) faults refl few h)
      (λ more now. skip (key_with t r (i + agents) 0) (key_with t (r + 1) 0 0) more (rank-gap m p t r (i + agents) (omega arith)) now)

  ranks : (d t r : ℕ) (faults : List PlanFault) → 3 ≡ r + d → AreFaultsBefore m p (key_with t r 0 0) faults → AreFurther m p faults (key_with t 3 0 0)
  ranks zero t r faults e h = let same : r ≡ 3 = omega (arith, e) in here (key_with t 3 0 0) faults (subst (λ k. AreFaultsBefore m p (key_with t k 0 0) faults) same h)
  ranks (suc d) t r faults e h =
      then (key_with t (r + 1) 0 0) (key_with t 3 0 0) faults (rank t r 0 faults (omega (arith, e)) h) (λ more now. ranks d t (r + 1) more (omega (arith, e)) now)

  to-next-time : (t d r : ℕ) (faults : List PlanFault) → 3 ≡ r + d → AreFaultsBefore m p (key_with t r 0 0) faults → AreFurther m p faults (key_with (t + 1) 0 0 0)
  to-next-time t d r faults e h =
      then (key_with t 3 0 0) (key_with (t + 1) 0 0 0) faults (ranks d t r faults e h)
      (λ more now. skip (key_with t 3 0 0) (key_with (t + 1) 0 0 0) more (last-rank-gap m p t) now)

  times : (d t n : ℕ) (faults : List PlanFault) → n ≡ t + d → AreFaultsBefore m p (key_with t 0 0 0) faults → AreFurther m p faults (key_with n 0 0 0)
  times zero t n faults e h = let same : t ≡ n = omega (arith, e) in here (key_with n 0 0 0) faults (subst (λ k. AreFaultsBefore m p (key_with k 0 0 0) faults) same h)
  times (suc d) t n faults e h =
      then (key_with (t + 1) 0 0 0) (key_with n 0 0 0) faults (to-next-time t 3 0 faults refl h) (λ more now. times d (t + 1) n more (omega (arith, e)) now)

  -- past all ranks of a time
  past-gap : (t r i j : ℕ) → 3 ≤ r → IsGap m p (key_with t r i j) (key_with (t + 1) 0 0 0)
  past-gap t r i j past = record {
    grows = λ key h. elim h [ inl less ↦ inl (omega (arith, less)) | inr at ↦ inl (let e = at.0 in omega (arith, e)) ];
    none = λ f has told less. elim (in_next_time (key_of f) t 0 less) [
      | inl before ↦ before_trans (key_of f) (key_with t 0 0 0) (key_with t r i j) before (inr (refl, inl (omega (arith, past))))
      | inr at ↦ inr (at.0, inl (let own = (fault_agents m p f has).rank in omega (arith, own, past)))
    ];
  }

  to-time : (t r i j : ℕ) (faults : List PlanFault) → AreFaultsBefore m p (key_with t r i j) faults → AreFurther m p faults (key_with (t + 1) 0 0 0)
  to-time t r i j faults h = elim (cases_lt r 3) [
    | inr past ↦ skip (key_with t r i j) (key_with (t + 1) 0 0 0) faults (past-gap t r i j past) h
    | inl few ↦ then (key_with t r (i + 1) 0) (key_with (t + 1) 0 0 0) faults (row t r i j faults few h)
        (λ more now. then (key_with t (r + 1) 0 0) (key_with (t + 1) 0 0 0) more (rank t r (i + 1) more few now)
        (λ others later. to-next-time t (3 - (r + 1)) (r + 1) others (omega (arith, few)) later))
  ]

  all-from : (t : ℕ) (faults : List PlanFault) → longest_of p.courses < t → AreFaultsBefore m p (key_with t 0 0 0) faults → AreAllFaults m p faults
  all-from t faults past h = record {
    each = λ n f at. (let own = h.each n f at in (own.0, own.1));
    all = λ f has told. h.all f has told (inl (let time = told-time p f told in omega (arith, time, past)));
    rising = h.rising;
  }

  -- from any key there is a list of all faults that begins with those before the key
  all-further : (key : Key) (faults : List PlanFault) → AreFaultsBefore m p key faults → (rest : List PlanFault) × AreAllFaults m p (faults ++ rest)
  all-further key faults h =
      let most = longest_of p.courses in
      let later = key.time + 1 + (most + 1) in
      let further = then (key_with (key.time + 1) 0 0 0) (key_with later 0 0 0) faults (to-time key.time key.rank key.first key.second faults h)
      (λ more now. times (most + 1) (key.time + 1) later more refl now) in
      (further.rest, all-from later (faults ++ further.rest) (omega arith) further.before)

  -- what is listed at the end
  all-listed : (l : Listing) → IsListedTo m p (key_with (longest_of p.courses + 1) 0 0 0) l → (all : List PlanFault) × AreAllFaults m p all × (l.faults.items ≡ take (l.most + 1) all)
  all-listed l h = elim h.far [
    | inl there ↦ (h.found, all-from (longest_of p.courses + 1) h.found (omega arith) (subst (λ k. AreFaultsBefore m p k h.found) there h.before), h.first)
    | inr full ↦ (
        let further = all-further h.reached h.found h.before in
        (h.found ++ further.0, further.1, h.first ∙ sym (take-append-le (l.most + 1) h.found further.0 (omega (arith, full))))
        )
  ]

  pub first-listed : (most agents : ℕ) (more : Bool) (listed : List PlanFault) (l : Listing) → IsListedTo m p (key_with (longest_of p.courses + 1) 0 0 0) l → l.most ≡ most
      → (IsTrue more ↔ (l.most < length l.faults.items)) → listed ≡ take most l.faults.items → agents ≡ count_of_named (length p.courses) listed
      → AreFirstFaults m p most listed more agents
  first-listed most agents more listed l h same full is named =
      let found = all-listed l h in
      let all = found.0 in
      let count : length l.faults.items ≡ min (l.most + 1) (length all) = ap length found.2 ∙ length-take (l.most + 1) all in
      record {
        all = all;
        are_all = found.1;
        first = is ∙ ap (take most) found.2 ∙ take-take most (l.most + 1) all (omega (arith, same));
        is_more = (
          λ e. (let less = full.0 e in omega (arith, less, count, same)),
          λ less. full.1 (omega (arith, less, count, same)),
        );
        named = named;
      }
