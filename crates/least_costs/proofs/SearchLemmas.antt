-- From a state of a reach to the next ones.
use Rattle.std.proofs.Common.{◌≡◌, ◌∙◌, ℕ, zero, suc, ◌+◌, ◌<◌, ◌≤◌, ◌⊎◌, Bool, List, [], ◌∷◌, ◌++◌, Some, inl, inr, arith, refl, sym, ap, subst}
use Rattle.std.specs.Prelude.{slice_get}
use Rattle.std.proofs.lemmas.Bool.{cases_lt}
use Rattle.std.proofs.lemmas.Option.{none-some}
use Rattle.grid.specs.declared.cell.Cell.{Cell}
use Rattle.model.specs.Costs.{cost}
use Rattle.model.specs.Laws.Tracks.{cell_at-start}
use Rattle.model.specs.Timetable.{Track, cell_at}
use Rattle.least_costs.specs.declared.frontier.Frontier.{Frontier}
use Rattle.least_costs.specs.declared.states.State.{State}
use Rattle.least_costs.specs.Code.Searching.{AllCost, AllThrough, AllGoOn, HasPut, IsOffered, IsRaised, IsCostSearch, IsUnwalked, IsWanted, HasReached, HasComeOn, PassesOn, Wanted}
use Rattle.least_costs.specs.Code.States.{HasState}
use Rattle.least_costs.proofs.ListLemmas.{get-added}
use Rattle.least_costs.proofs.TrackLemmas.{CostLaw, waits_on}
use Rattle.least_costs.proofs.StateLemmas.{has_last, has_more, has_or_last, has_reversed, none_has}

-- what is known follows list by list
pub knows_by : (f g : Frontier) (c : Cell) (t : ℕ) → (HasState f.closed c t → HasReached g c t) → (HasState f.waiting.items c t → HasReached g c t)
    → (HasState f.next.items c t → HasReached g c t) → (HasState f.after.items c t → HasReached g c t) → HasReached f c t → HasReached g c t
knows_by f g c t closed waiting next after (inl is) = closed is
knows_by f g c t closed waiting next after (inr (inl is)) = waiting is
knows_by f g c t closed waiting next after (inr (inr (inl is))) = next is
knows_by f g c t closed waiting next after (inr (inr (inr is))) = after is

-- the lists of states are the same, but that what waits has one more
same_has : (old new : List State) (c : Cell) (t : ℕ) → new ≡ old → HasState old c t → HasState new c t
same_has old new c t same is = subst (λ l. HasState l c t) (sym same) is

behind_has : (old new : List State) (s : State) (c : Cell) (t : ℕ) → new ≡ old ++ s ∷ [] → HasState old c t → HasState new c t
behind_has old new s c t same is = subst (λ l. HasState l c t) (sym same) (has_more old s c t is)

pub put_keeps : (old new : Frontier) (s : State) (through budget : ℕ) → HasPut old new s through budget → (c : Cell) (t : ℕ) → HasReached old c t → HasReached new c t
put_keeps old new s through budget has c t = by has.put
  where
    closed : HasState old.closed c t → HasReached new c t
    closed is = inl (same_has old.closed new.closed c t has.closed is)

    by : (new.waiting.items ≡ old.waiting.items ++ s ∷ []) × (new.next ≡ old.next) × (new.after ≡ old.after)
        ⊎ (new.next.items ≡ old.next.items ++ s ∷ []) × (budget + 1 ≤ through) × (new.waiting ≡ old.waiting) × (new.after ≡ old.after)
        ⊎ (new.after.items ≡ old.after.items ++ s ∷ []) × (budget + 2 ≤ through) × (new.waiting ≡ old.waiting) × (new.next ≡ old.next) → HasReached old c t → HasReached new c t
    by (inl p) = knows_by old new c t closed
        (λ is. inr (inl (behind_has old.waiting.items new.waiting.items s c t p.0 is)))
        (λ is. inr (inr (inl (same_has old.next.items new.next.items c t (ap (λ v. v.items) p.1) is))))
        (λ is. inr (inr (inr (same_has old.after.items new.after.items c t (ap (λ v. v.items) p.2) is))))
    by (inr (inl p)) = knows_by old new c t closed
        (λ is. inr (inl (same_has old.waiting.items new.waiting.items c t (ap (λ v. v.items) p.2) is)))
        (λ is. inr (inr (inl (behind_has old.next.items new.next.items s c t p.0 is))))
        (λ is. inr (inr (inr (same_has old.after.items new.after.items c t (ap (λ v. v.items) p.3) is))))
    by (inr (inr p)) = knows_by old new c t closed
        (λ is. inr (inl (same_has old.waiting.items new.waiting.items c t (ap (λ v. v.items) p.2) is)))
        (λ is. inr (inr (inl (same_has old.next.items new.next.items c t (ap (λ v. v.items) p.3) is))))
        (λ is. inr (inr (inr (behind_has old.after.items new.after.items s c t p.0 is))))

pub put_knows : (old new : Frontier) (s : State) (through budget : ℕ) → HasPut old new s through budget → HasReached new s.cell s.time
put_knows old new s through budget has = by has.put
  where
    at_end : (before now : List State) → now ≡ before ++ s ∷ [] → HasState now s.cell s.time
    at_end before now same = subst (λ l. HasState l s.cell s.time) (sym same) (has_last before s)

    by : (new.waiting.items ≡ old.waiting.items ++ s ∷ []) × (new.next ≡ old.next) × (new.after ≡ old.after)
        ⊎ (new.next.items ≡ old.next.items ++ s ∷ []) × (budget + 1 ≤ through) × (new.waiting ≡ old.waiting) × (new.after ≡ old.after)
        ⊎ (new.after.items ≡ old.after.items ++ s ∷ []) × (budget + 2 ≤ through) × (new.waiting ≡ old.waiting) × (new.next ≡ old.next) → HasReached new s.cell s.time
    by (inl p) = inr (inl (at_end old.waiting.items new.waiting.items p.0))
    by (inr (inl p)) = inr (inr (inl (at_end old.next.items new.next.items p.0)))
    by (inr (inr p)) = inr (inr (inr (at_end old.after.items new.after.items p.0)))

module _ (w : Wanted) where
  -- walks through a state cost so much at least
  abbrev pub CostsThrough : State → ℕ → Type 0
  CostsThrough s n = (track : Track) → IsWanted w track → s.time < cost track → cell_at track s.time ≡ s.cell → n ≤ cost track

  pub through_less : (states : List State) (n m : ℕ) → n ≤ m → AllThrough w states m → AllThrough w states n
  through_less states n m less all k s track at is before there = let most = all k s track at is before there in omega (arith, less, most)

  pub through_more : (states : List State) (s : State) (n : ℕ) → CostsThrough s n → AllThrough w states n → AllThrough w (states ++ s ∷ []) n
  through_more states s n one all k it track at is before there = elim (get-added states s k it at) [
    | inl same ↦
        one track is (subst (λ (u : State). u.time < cost track) (sym same) before) (subst (λ (u : State). cell_at track u.time ≡ u.cell) (sym same) there)
    | inr old ↦ all k it track old is before there
  ]

  pub through_none : (n : ℕ) → AllThrough w [] n
  through_none n k s track at is before there = absurd (none-some s at)

  -- ---- from one frontier to another

  pub stays_put : (b : ℕ) (f : Frontier) → HasComeOn w b f f
  stays_put b f = record {
    closed = refl;
    keeps = λ track t is before known. known;
    next = λ all. all;
    after = λ all. all;
  }

  pub leads_on : (b : ℕ) (f g h : Frontier) → HasComeOn w b f g → HasComeOn w b g h → HasComeOn w b f h
  leads_on b f g h first second = record {
    closed = second.closed ∙ first.closed;
    keeps = λ track t is before known. second.keeps track t is before (first.keeps track t is before known);
    next = λ all. second.next (first.next all);
    after = λ all. second.after (first.after all);
  }

  pub put_leads : (old new : Frontier) (s : State) (through b : ℕ) → CostsThrough s through → HasPut old new s through b → HasComeOn w b old new
  put_leads old new s through b costs has = record {
    closed = has.closed;
    keeps = λ track t is before known. put_keeps old new s through b has (cell_at track t) t known;
    next = next has.put;
    after = after has.put;
  }
    where
      enough : (n : ℕ) → n ≤ through → CostsThrough s n
      enough n most track is before there = let all = costs track is before there in omega (arith, most, all)

      by_items : (before now : List State) (n : ℕ) → now ≡ before → AllThrough w before n → AllThrough w now n
      by_items before now n same all = subst (λ l. AllThrough w l n) (sym same) all

      added : (before now : List State) (n : ℕ) → now ≡ before ++ s ∷ [] → n ≤ through → AllThrough w before n → AllThrough w now n
      added before now n same most all = subst (λ l. AllThrough w l n) (sym same) (through_more before s n (enough n most) all)

      next : (new.waiting.items ≡ old.waiting.items ++ s ∷ []) × (new.next ≡ old.next) × (new.after ≡ old.after)
          ⊎ (new.next.items ≡ old.next.items ++ s ∷ []) × (b + 1 ≤ through) × (new.waiting ≡ old.waiting) × (new.after ≡ old.after)
          ⊎ (new.after.items ≡ old.after.items ++ s ∷ []) × (b + 2 ≤ through) × (new.waiting ≡ old.waiting) × (new.next ≡ old.next)
          → AllThrough w old.next.items (b + 1) → AllThrough w new.next.items (b + 1)
      next (inl p) = by_items old.next.items new.next.items (b + 1) (ap (λ v. v.items) p.1)
      next (inr (inl p)) = added old.next.items new.next.items (b + 1) p.0 p.1
      next (inr (inr p)) = by_items old.next.items new.next.items (b + 1) (ap (λ v. v.items) p.3)

      after : (new.waiting.items ≡ old.waiting.items ++ s ∷ []) × (new.next ≡ old.next) × (new.after ≡ old.after)
          ⊎ (new.next.items ≡ old.next.items ++ s ∷ []) × (b + 1 ≤ through) × (new.waiting ≡ old.waiting) × (new.after ≡ old.after)
          ⊎ (new.after.items ≡ old.after.items ++ s ∷ []) × (b + 2 ≤ through) × (new.waiting ≡ old.waiting) × (new.next ≡ old.next)
          → AllThrough w old.after.items (b + 2) → AllThrough w new.after.items (b + 2)
      after (inl p) = by_items old.after.items new.after.items (b + 2) (ap (λ v. v.items) p.2)
      after (inr (inl p)) = by_items old.after.items new.after.items (b + 2) (ap (λ v. v.items) p.3)
      after (inr (inr p)) = added old.after.items new.after.items (b + 2) p.0 p.1

  -- ---- a step

  pub goes_still : (b : ℕ) (f g : Frontier) (c : Cell) (t : ℕ) → HasComeOn w b f g → AllGoOn w f c t → AllGoOn w g c t
  goes_still b f g c t leads goes track is before at =
      let both = goes track is before at in (both.0, leads.keeps track (t + 1) is both.0 both.1)

  pub offered_still : (b : ℕ) (f g : Frontier) (t : ℕ) (u v : Cell) → HasComeOn w b f g → IsOffered w f t u v → IsOffered w g t u v
  offered_still b f g t u v leads offered track is before at next =
      let both = offered track is before at next in (both.0, leads.keeps track (t + 1) is both.0 both.1)

  -- it leads too far
  pub too_far : (f : Frontier) (t : ℕ) (u v : Cell) (through : ℕ) → ((track : Track) → IsWanted w track → t + 1 ≤ cost track → cell_at track (t + 1) ≡ v → through ≤ cost track)
      → w.highest < through → IsOffered w f t u v
  too_far f t u v through costs far track is before at next =
      let least = costs track is (omega (arith, before)) next in absurd (omega (arith, least, far, is.within))

  -- it is put there
  pub put_offered : (f g : Frontier) (s : State) (through b t : ℕ) (u v : Cell) → PassesOn w t u v → HasPut f g s through b → s.cell ≡ v → s.time ≡ t + 1 → IsOffered w g t u v
  put_offered f g s through b t u v goes has there time track is before at next = (
    goes track is before at next,
    subst (λ c. HasReached g c (t + 1)) (there ∙ sym next) (subst (HasReached g s.cell) time (put_knows f g s through b has)),
  )

  -- when a step comes to rest

  pub elsewhere : (t : ℕ) (u v : Cell) → (v ≡ w.goal.goal → ⊥) → PassesOn w t u v
  elsewhere t u v other track is before at next = elim (cases_lt (t + 1) (cost track)) [
    | inl more ↦ more
    | inr most ↦
        let last : cost track ≡ t + 1 = omega (arith, before, most) in
        absurd (other (sym next ∙ ap (cell_at track) (sym last) ∙ is.walker.to_goal))
  ]

  pub rests_later : (t lowest : ℕ) (u v : Cell) → ((track : Track) → IsWanted w track → lowest ≤ cost track) → t + 1 < lowest → PassesOn w t u v
  rests_later t lowest u v all less track is before at next = let most = all track is in omega (arith, most, less)

  pub waits : CostLaw → (t : ℕ) (u v : Cell) → u ≡ w.goal.goal → PassesOn w t u v
  waits law t u v there track is before at next = elim (cases_lt (t + 1) (cost track)) [
    | inl more ↦ more
    | inr most ↦
        let last : t + 1 ≡ cost track = omega (arith, before, most) in
        absurd (waits_on law track w.goal.goal t is.walker.to_goal (at ∙ there) last)
  ]

  -- it is forbidden
  pub ruled_out : (f : Frontier) (t : ℕ) (u v : Cell) → ((track : Track) → IsWanted w track → cell_at track t ≡ u → cell_at track (t + 1) ≡ v → ⊥) → IsOffered w f t u v
  ruled_out f t u v never track is before at next = absurd (never track is at next)

  -- ---- the reach

  pub searches_on : (b : ℕ) (f g : Frontier) → IsCostSearch w b f → ((track : Track) (t : ℕ) → IsWanted w track → t < cost track → HasReached f (cell_at track t) t → HasReached g (cell_at track t) t)
      → ((k : ℕ) (s : State) → slice_get g.closed k ≡ Some s → (slice_get f.closed k ≡ Some s) ⊎ AllGoOn w g s.cell s.time)
      → AllThrough w g.next.items (b + 1) → AllThrough w g.after.items (b + 2) → IsCostSearch w b g
  searches_on b f g reach keeps closed next after = record {
    begins = λ track is. (let both = reach.begins track is in (both.0, keeps track 0 is both.0 both.1));
    closed = λ k s at. elim (closed k s at) [
      | inl old ↦ (λ track is before there. (let both = reach.closed k s old track is before there in (both.0, keeps track (s.time + 1) is both.0 both.1)))
      | inr new ↦ new
    ];
    next = next;
    after = after;
  }

  -- it begins
  pub begun : (b : ℕ) (f : Frontier) → f.closed ≡ [] → HasState f.waiting.items w.start 0 → f.next.items ≡ [] → f.after.items ≡ []
      → ((track : Track) → IsWanted w track → 0 < cost track) → IsCostSearch w b f
  begun b f closed waiting next after some = record {
    begins = λ track is. (
      some track is,
      inr (inl (subst (λ c. HasState f.waiting.items c 0) (sym (cell_at-start track.start track.later ∙ is.walker.from_start)) waiting)),
    );
    closed = λ k s at. absurd (none-some s (subst (λ l. slice_get l k ≡ Some s) closed at));
    next = subst (λ l. AllThrough w l (b + 1)) (sym next) (through_none (b + 1));
    after = subst (λ l. AllThrough w l (b + 2)) (sym after) (through_none (b + 2));
  }

  -- a state was taken from those that wait
  pub record IsTaken (f g : Frontier) (s : State) : Type 0 where
    pub waiting : f.waiting.items ≡ g.waiting.items ++ s ∷ []
    pub next : g.next.items ≡ f.next.items
    pub after : g.after.items ≡ f.after.items

  known_or_taken : (f g : Frontier) (s : State) → IsTaken f g s → (c : Cell) (t : ℕ) → (HasState f.closed c t → HasState g.closed c t) → HasReached f c t
      → HasReached g c t ⊎ ((s.cell ≡ c) × (s.time ≡ t))
  known_or_taken f g s taken c t closed (inl is) = inl (inl (closed is))
  known_or_taken f g s taken c t closed (inr (inl is)) = elim (has_or_last g.waiting.items s c t (subst (λ l. HasState l c t) taken.waiting is)) [
    | inl old ↦ inl (inr (inl old))
    | inr last ↦ inr last
  ]
  known_or_taken f g s taken c t closed (inr (inr (inl is))) = inl (inr (inr (inl (subst (λ l. HasState l c t) (sym taken.next) is))))
  known_or_taken f g s taken c t closed (inr (inr (inr is))) = inl (inr (inr (inr (subst (λ l. HasState l c t) (sym taken.after) is))))

  knows_at : (f : Frontier) (s : State) (c : Cell) (t : ℕ) → s.cell ≡ c → s.time ≡ t → HasReached f s.cell s.time → HasReached f c t
  knows_at f s c t cell time known = subst (λ d. HasReached f d t) cell (subst (HasReached f s.cell) time known)

  -- nothing more is known of it
  pub taken_seen : (b : ℕ) (f g : Frontier) (s : State) → IsCostSearch w b f → IsTaken f g s → g.closed ≡ f.closed → HasState f.closed s.cell s.time → IsCostSearch w b g
  taken_seen b f g s reach taken same seen =
      searches_on b f g reach keeps
      (λ k it at. inl (subst (λ l. slice_get l k ≡ Some it) same at))
      (subst (λ l. AllThrough w l (b + 1)) (sym taken.next) reach.next)
      (subst (λ l. AllThrough w l (b + 2)) (sym taken.after) reach.after)
    where
      keeps : (track : Track) (t : ℕ) → IsWanted w track → t < cost track → HasReached f (cell_at track t) t → HasReached g (cell_at track t) t
      keeps track t is before known = elim (known_or_taken f g s taken (cell_at track t) t (λ has. subst (λ l. HasState l (cell_at track t) t) (sym same) has) known) [
        | inl still ↦ still
        | inr last ↦ knows_at g s (cell_at track t) t last.0 last.1 (inl (subst (λ l. HasState l s.cell s.time) (sym same) seen))
      ]

  -- walks through it cost too much
  pub taken_dear : (b through : ℕ) (f g : Frontier) (s : State) → IsCostSearch w b f → IsTaken f g s → g.closed ≡ f.closed → CostsThrough s through → w.highest < through → IsCostSearch w b g
  taken_dear b through f g s reach taken same costs dear =
      searches_on b f g reach keeps
      (λ k it at. inl (subst (λ l. slice_get l k ≡ Some it) same at))
      (subst (λ l. AllThrough w l (b + 1)) (sym taken.next) reach.next)
      (subst (λ l. AllThrough w l (b + 2)) (sym taken.after) reach.after)
    where
      keeps : (track : Track) (t : ℕ) → IsWanted w track → t < cost track → HasReached f (cell_at track t) t → HasReached g (cell_at track t) t
      keeps track t is before known = elim (known_or_taken f g s taken (cell_at track t) t (λ has. subst (λ l. HasState l (cell_at track t) t) (sym same) has) known) [
        | inl still ↦ still
        | inr last ↦
            let most = costs track is (subst (λ n. n < cost track) (sym last.1) before) (ap (cell_at track) last.1 ∙ sym last.0) in
            absurd (omega (arith, most, dear, is.within))
      ]

  -- it waits for longer
  pub taken_put : (b through : ℕ) (f g h : Frontier) (s : State) → IsCostSearch w b f → IsTaken f g s → g.closed ≡ f.closed → CostsThrough s through → HasPut g h s through b → IsCostSearch w b h
  taken_put b through f g h s reach taken same costs has =
      searches_on b f h reach keeps
      (λ k it at. inl (subst (λ l. slice_get l k ≡ Some it) (has.closed ∙ same) at))
      (leads.next (subst (λ l. AllThrough w l (b + 1)) (sym taken.next) reach.next))
      (leads.after (subst (λ l. AllThrough w l (b + 2)) (sym taken.after) reach.after))
    where
      leads : HasComeOn w b g h
      leads = put_leads g h s through b costs has

      keeps : (track : Track) (t : ℕ) → IsWanted w track → t < cost track → HasReached f (cell_at track t) t → HasReached h (cell_at track t) t
      keeps track t is before known = elim (known_or_taken f g s taken (cell_at track t) t (λ old. subst (λ l. HasState l (cell_at track t) t) (sym same) old) known) [
        | inl still ↦ put_keeps g h s through b has (cell_at track t) t still
        | inr last ↦ knows_at h s (cell_at track t) t last.0 last.1 (put_knows g h s through b has)
      ]

  -- it is closed, and the reach went on from it
  pub taken_on : (b : ℕ) (f g h : Frontier) (s : State) → IsCostSearch w b f → IsTaken f g s → g.closed ≡ f.closed ++ s ∷ [] → HasComeOn w b g h → AllGoOn w h s.cell s.time → IsCostSearch w b h
  taken_on b f g h s reach taken same leads goes =
      searches_on b f h reach keeps
      (λ k it at. elim (get-added f.closed s k it (subst (λ l. slice_get l k ≡ Some it) (leads.closed ∙ same) at)) [
        | inl new ↦ inr (subst (λ (x : State). AllGoOn w h x.cell x.time) new goes)
        | inr old ↦ inl old
      ])
      (leads.next (subst (λ l. AllThrough w l (b + 1)) (sym taken.next) reach.next))
      (leads.after (subst (λ l. AllThrough w l (b + 2)) (sym taken.after) reach.after))
    where
      keeps : (track : Track) (t : ℕ) → IsWanted w track → t < cost track → HasReached f (cell_at track t) t → HasReached h (cell_at track t) t
      keeps track t is before known = leads.keeps track t is before
          (elim (known_or_taken f g s taken (cell_at track t) t (λ old. subst (λ l. HasState l (cell_at track t) t) (sym same) (has_more f.closed s (cell_at track t) t old)) known) [
            | inl still ↦ still
            | inr last ↦ knows_at g s (cell_at track t) t last.0 last.1 (inl (subst (λ l. HasState l s.cell s.time) (sym same) (has_last f.closed s)))
          ])

  -- a walk has a state that isn't closed, before it rests
  abbrev pub IsLeft : Frontier → Track → Type 0
  IsLeft f track = (t : ℕ) × (t < cost track) × (HasState f.waiting.items (cell_at track t) t ⊎ HasState f.next.items (cell_at track t) t ⊎ HasState f.after.items (cell_at track t) t)

  pub is_left : (b : ℕ) (f : Frontier) → IsCostSearch w b f → (track : Track) → IsWanted w track → IsLeft f track
  is_left b f reach track is = go (cost track) 0 (reach.begins track is).0 (omega arith) (reach.begins track is).1
    where
      go : (n t : ℕ) → t < cost track → cost track ≤ t + n → HasReached f (cell_at track t) t → IsLeft f track
      go zero t before fuel known = absurd (omega (arith, before, fuel))
      go (suc n) t before fuel (inl closed) =
          let goes = subst (AllGoOn w f closed.1.cell) closed.4 (reach.closed closed.0 closed.1 closed.2) in
          let both = goes track is before (sym closed.3) in
          go n (t + 1) both.0 (omega (arith, fuel)) both.1
      go (suc n) t before fuel (inr left) = (t, before, left)

  pub exhausted : (b : ℕ) (f : Frontier) → IsCostSearch w b f → f.waiting.items ≡ [] → AllCost w (b + 1)
  exhausted b f reach none track is = by left.2
    where
      left : IsLeft f track
      left = is_left b f reach track is

      t : ℕ
      t = left.0

      through : (states : List State) (n : ℕ) → AllThrough w states n → HasState states (cell_at track t) t → n ≤ cost track
      through states n all has = all has.0 has.1 track has.2 is (subst (λ k. k < cost track) (sym has.4) left.1) (ap (cell_at track) has.4 ∙ sym has.3)

      more : (n m : ℕ) → n + 2 ≤ m → n + 1 ≤ m
      more n m h = omega (arith, h)

      by : HasState f.waiting.items (cell_at track t) t ⊎ HasState f.next.items (cell_at track t) t ⊎ HasState f.after.items (cell_at track t) t → b + 1 ≤ cost track
      by (inl waiting) = absurd (none_has (cell_at track t) t (subst (λ l. HasState l (cell_at track t) t) none waiting))
      by (inr (inl next)) = through f.next.items (b + 1) reach.next next
      by (inr (inr after)) = more b (cost track) (through f.after.items (b + 2) reach.after after)

  pub unreached : (b : ℕ) (f : Frontier) → IsCostSearch w b f → f.waiting.items ≡ [] → f.next.items ≡ [] → f.after.items ≡ [] → IsUnwalked w
  unreached b f reach waiting next after track is = by left.2
    where
      left : IsLeft f track
      left = is_left b f reach track is

      none : (states : List State) → states ≡ [] → HasState states (cell_at track left.0) left.0 → ⊥
      none states same has = none_has (cell_at track left.0) left.0 (subst (λ l. HasState l (cell_at track left.0) left.0) same has)

      by : HasState f.waiting.items (cell_at track left.0) left.0 ⊎ HasState f.next.items (cell_at track left.0) left.0 ⊎ HasState f.after.items (cell_at track left.0) left.0 → ⊥
      by (inl has) = none f.waiting.items waiting has
      by (inr (inl has)) = none f.next.items next has
      by (inr (inr has)) = none f.after.items after has

  pub raised : (b : ℕ) (f g : Frontier) (any : Bool) → IsCostSearch w b f → f.waiting.items ≡ [] → IsRaised f g any → IsCostSearch w (b + 1) g
  raised b f g any reach none is = record {
    begins = λ track wanted. (let both = reach.begins track wanted in (both.0, keeps (cell_at track 0) 0 both.1));
    closed = λ k s at track wanted before there. (let both = reach.closed k s (subst (λ l. slice_get l k ≡ Some s) is.closed at) track wanted before there in
        (both.0, keeps (cell_at track (s.time + 1)) (s.time + 1) both.1));
    next = subst (λ l. AllThrough w l (b + 1 + 1)) (sym is.next) (through_less f.after.items (b + 1 + 1) (b + 2) (omega arith) reach.after);
    after = subst (λ l. AllThrough w l (b + 1 + 2)) (sym is.after) (through_none (b + 1 + 2));
  }
    where
      keeps : (c : Cell) (t : ℕ) → HasReached f c t → HasReached g c t
      keeps c t = knows_by f g c t
          (λ has. inl (subst (λ l. HasState l c t) (sym is.closed) has))
          (λ has. absurd (none_has c t (subst (λ l. HasState l c t) none has)))
          (λ has. inr (inl (subst (λ l. HasState l c t) (sym is.waiting) (has_reversed f.next.items c t has))))
          (λ has. inr (inr (inl (subst (λ l. HasState l c t) (sym is.next) has))))
