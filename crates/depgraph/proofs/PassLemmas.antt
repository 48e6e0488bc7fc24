-- The pass along the times: one arrival more, and one time more.
use Rattle.std.proofs.Common.{◌≡◌, ◌≢◌, ℕ, ◌+◌, ◌<◌, ◌≤◌, ◌^◌, List, length, get_or, set, replicate, Some, None, true, inl, inr, arith, refl, sym, ap, subst, ◌∙◌}
use Rattle.std.specs.Prelude.{◌==◌, ◌⊎◌, Option}
use Rattle.std.proofs.lemmas.Bool.{cases_lt, cases_eq, cases_Bool, cond-true, eq-eqb, false≢true}
use Rattle.std.proofs.lemmas.List.{length-set, get_or-set_same, get_or-set_other, get_or-replicate, get_or_past, length-replicate}
use Rattle.std.proofs.lemmas.Option.{same_Some}
use Rattle.depgraph.specs.declared.placing.Arrival.{Arrival}
use Rattle.depgraph.specs.declared.waiting.Wait.{Wait}
use Rattle.depgraph.specs.declared.following.Meetings.{Meetings}
use Rattle.depgraph.specs.declared.following.Coming.{Coming}
use Rattle.depgraph.specs.declared.following.Pass.{Pass}
use Rattle.depgraph.specs.Code.Entries.{IsEntry}
use Rattle.depgraph.specs.Code.Following.{IsLastIn, IsFollowed, AreFollowed, IsMeeting, wait_after}
use Rattle.depgraph.specs.Code.Meetings.{AreMeetings, IsComing, AllComing, HasAll, IsPassDone, NobodyComes, coming_at, entry_by, noted}
use Rattle.depgraph.specs.Code.Schedules.{entry_of_arrival}
use Rattle.depgraph.specs.Code.Waits.{no_wait}

-- all entries are the same
pub get_or-all : {X : Type 0} (n i : ℕ) (x : X) → get_or (replicate n x) i x ≡ x
get_or-all {X} n i x = elim (cases_lt i n) [
  | inl less ↦ get_or-replicate n i x x less
  | inr past ↦ (let long = length-replicate {A = X} n x in get_or_past (replicate n x) i x (omega (arith, past, long)))
]

noted-fresh : (i : ℕ) (o : Option Arrival) → noted i o no_wait ≡ wait_after i o
noted-fresh i None = refl
noted-fresh i (Some a) = refl

module _ (m : Meetings) where
  abbrev Entry : ℕ → ℕ → ℕ → Type 0
  Entry i k e = IsEntry m.ends.now i k e

  abbrev number : ℕ → ℕ
  number e = get_or m.numbers.now e 0

  abbrev time : ℕ → ℕ
  time e = get_or m.times.now e 0

  abbrev Meets : ℕ → Type 0
  Meets e = IsMeeting m.numbers.now m.shared.items e

  abbrev Last : ℕ → ℕ → Option Arrival → Type 0
  Last n t o = IsLastIn m.times.now m.ends.now m.numbers.now n t o

  abbrev Followed : List Wait → ℕ → ℕ → Type 0
  Followed waits i e = IsFollowed m.times.now m.ends.now m.numbers.now waits i e

  abbrev by : Coming → ℕ
  by c = entry_by m.ends.now c

  abbrev was_last : List (Option Arrival) → ℕ → Option Arrival
  was_last last n = get_or last n None

  abbrev the_arrival : ℕ → ℕ → Arrival
  the_arrival i k = record { agent = i; index = k }

  -- an arrival of the time was noted, as the last in its cell
  record IsNew (t n : ℕ) (last : List (Option Arrival)) (waits : List Wait) : Type 0 where
    agent : ℕ
    index : ℕ
    at : ℕ
    entry : Entry agent index at
    there : number at ≡ n
    now : time at ≡ t
    is_last : was_last last n ≡ Some (the_arrival agent index)
    followed : Followed waits agent at

  -- so many of those who come at a time were noted
  pub record AreTaken (t : ℕ) (comings : List Coming) (a : ℕ) (last : List (Option Arrival)) (waits : List Wait) : Type 0 where
    pub last_count : length last ≡ length m.shared.items
    pub wait_count : length waits ≡ length m.times.now
    cell : (n : ℕ) → get_or m.shared.items n true ≡ true → Last n t (was_last last n) ⊎ IsNew t n last waits
    done : (i k e : ℕ) → Entry i k e → Meets e → time e < t → Followed waits i e
    later : (e : ℕ) → e < length m.times.now → (Meets e → t < time e) → get_or waits e no_wait ≡ no_wait
    now : (i k e : ℕ) → Entry i k e → Meets e → time e ≡ t → Last (number e) t (was_last last (number e)) → get_or waits e no_wait ≡ no_wait
    entered : (b : ℕ) → b < a → (was_last last (coming_at comings b).number ≡ Some (coming_at comings b).arrival)
        × Followed waits (coming_at comings b).arrival.agent (by (coming_at comings b))

  module _ (h : AreMeetings m) where
    pub taken-none : (p : Pass) (comings : List Coming) → IsPassDone m p → AreTaken p.time comings 0 p.last.items p.waits.items
    taken-none p comings d = record {
      last_count = d.last_count;
      wait_count = d.wait_count;
      cell = λ n shared. inl (d.last n shared);
      done = d.done;
      later = λ e less after. d.rest e less (λ meets. (let more = after meets in omega (arith, more)));
      now = λ i k e entry meets is last. d.rest e (h.entries.inside i k e entry) (λ again. omega (arith, is));
      entered = λ b less. absurd (omega (arith, less));
    }

    followed-same : (old new : List Wait) (i e : ℕ) → get_or new e no_wait ≡ get_or old e no_wait → Followed old i e → Followed new i e
    followed-same old new i e same f = elim f [ inl before ↦ inl (before.0, before.1, same ∙ before.2) | inr alone ↦ inr (alone.0, same ∙ alone.1) ]

    -- entries at one time in one cell are one
    one_entry : (i j k l d e t : ℕ) → Entry i k d → Entry j l e → number d ≡ number e → time d ≡ t → time e ≡ t → (d ≡ e) × (i ≡ j) × (k ≡ l)
    one_entry i j k l d e t own other cell now also =
        let same = h.entries.apart i j k l d e own other cell (now ∙ sym also) in
        let one = h.entries.one i j k l e (subst (Entry i k) same own) other in
        (same, one.0, one.1)

    -- ---- one arrival more

    module _ (t : ℕ) (comings : List Coming) (a : ℕ) (last : List (Option Arrival)) (waits : List Wait) (st : AreTaken t comings a last waits)
        (sound : AllComing m t comings) (within : a < length comings) where
      abbrev c : Coming
      c = coming_at comings a

      abbrev e : ℕ
      e = by c

      abbrev is : IsComing m t c
      is = sound a within

      shared : get_or m.shared.items c.number true ≡ true
      shared = subst (λ n. get_or m.shared.items n true ≡ true) is.number is.meets

      pub enter-agent : c.arrival.agent < length m.ends.now
      enter-agent = is.entry.is_agent

      pub enter-entry : e < length waits
      enter-entry = (let inside = h.entries.inside c.arrival.agent c.arrival.index e is.entry in let count = st.wait_count in omega (arith, inside, count))

      pub enter-number : c.number < length last
      enter-number =
          let inside = h.entries.inside c.arrival.agent c.arrival.index e is.entry in
          let count = h.entries.count in
          let known = h.entries.known e (omega (arith, inside, count)) in
          let own = is.number in
          let size = st.last_count in
          omega (arith, known, own, size)

      pub enter-left : (b : Arrival) → was_last last c.number ≡ Some b → (b.agent ≡ c.arrival.agent → ⊥) → b.index + 1 < 2 ^ 16
      enter-left b there other = elim (st.cell c.number shared) [
        | inl before ↦ (
            let found = subst (Last c.number t) there before in
            let sooner = found.2 in
            let now = is.time in
            h.entries.left b.agent c.arrival.agent b.index c.arrival.index (entry_of_arrival m.ends.now b) e found.0 is.entry (found.1 ∙ sym is.number) (omega (arith, sooner, now)) other
            )
        | inr new ↦ (
            let one = one_entry new.agent c.arrival.agent new.index c.arrival.index new.at e t new.entry is.entry (new.there ∙ sym is.number) new.now is.time in
            let same = same_Some b (the_arrival new.agent new.index) (sym there ∙ new.is_last) in
            absurd (other (ap (λ x. x.agent) same ∙ one.1))
            )
      ]

      module _ (new_last : List (Option Arrival)) (new : List Wait) (lasts : new_last ≡ set last c.number (Some c.arrival)) (long : length new ≡ length waits)
          (own : get_or new e no_wait ≡ noted c.arrival.agent (was_last last c.number) (get_or waits e no_wait))
          (others : (d : ℕ) → d ≢ e → get_or new d no_wait ≡ get_or waits d no_wait) where
        last-here : was_last new_last c.number ≡ Some c.arrival
        last-here = ap (λ l. was_last l c.number) lasts ∙ get_or-set_same last c.number (Some c.arrival) None enter-number

        last-there : (n : ℕ) → n ≢ c.number → was_last new_last n ≡ was_last last n
        last-there n other = ap (λ l. was_last l n) lasts ∙ get_or-set_other last c.number n (Some c.arrival) None other

        kept : (i d : ℕ) → d ≢ e → Followed waits i d → Followed new i d
        kept i d other f = followed-same waits new i d (others d other) f

        own_followed : Followed new c.arrival.agent e
        own_followed = elim (st.cell c.number shared) [
          | inl before ↦ (
              let own_last = subst (λ n. Last n t (was_last last n)) (sym is.number) before in
              let fresh = st.now c.arrival.agent c.arrival.index e is.entry is.meets is.time own_last in
              inl (
                was_last last c.number,
                subst (λ u. Last (number e) u (was_last last c.number)) (sym is.time) (subst (λ n. Last n t (was_last last c.number)) (sym is.number) before),
                own ∙ ap (noted c.arrival.agent (was_last last c.number)) fresh ∙ noted-fresh c.arrival.agent (was_last last c.number),
              )
              )
          | inr found ↦ (
              let one = one_entry found.agent c.arrival.agent found.index c.arrival.index found.at e t found.entry is.entry (found.there ∙ sym is.number) found.now is.time in
              let old = get_or waits e no_wait in
              let asked : Wait = record { agent = found.agent; count = found.index + 1 } in
              let same : get_or new e no_wait ≡ old =
              own ∙ ap (λ o. noted c.arrival.agent o old) found.is_last ∙ cond-true (found.agent == c.arrival.agent) old asked (eq-eqb found.agent c.arrival.agent one.1) in
              followed-same waits new c.arrival.agent e same (subst (λ i. Followed waits i e) one.1 (subst (Followed waits found.agent) one.0 found.followed))
              )
        ]

        -- an entry of another cell is another
        apart : (d n : ℕ) → number d ≡ n → n ≢ c.number → d ≢ e
        apart d n there other same = other (sym there ∙ ap number same ∙ is.number)

        pub taken-more : AreTaken t comings (a + 1) new_last new
        taken-more = record {
          last_count = ap length lasts ∙ length-set last c.number (Some c.arrival) ∙ st.last_count;
          wait_count = long ∙ st.wait_count;
          cell = λ n is_shared. elim (cases_eq n c.number) [
            | inl same ↦ inr (record {
              agent = c.arrival.agent;
              index = c.arrival.index;
              at = e;
              entry = is.entry;
              there = is.number ∙ sym same;
              now = is.time;
              is_last = ap (was_last new_last) same ∙ last-here;
              followed = own_followed;
            })
            | inr other ↦ elim (st.cell n is_shared) [
              | inl before ↦ inl (subst (Last n t) (sym (last-there n other)) before)
              | inr found ↦ inr (record {
                agent = found.agent;
                index = found.index;
                at = found.at;
                entry = found.entry;
                there = found.there;
                now = found.now;
                is_last = last-there n other ∙ found.is_last;
                followed = kept found.agent found.at (apart found.at n found.there other) found.followed;
              })
            ]
          ];
          done = λ i k d entry meets sooner. kept i d (λ same. (let at = ap time same in let now = is.time in omega (arith, sooner, at, now))) (st.done i k d entry meets sooner);
          later = λ d less after.
              others d (λ same. (let more = after (subst Meets (sym same) is.meets) in let at = ap time same in let now = is.time in omega (arith, more, at, now))) ∙ st.later d less after;
          now = λ i k d entry meets at before. elim (cases_eq (number d) c.number) [
            | inl same ↦ (
                let here = subst (Last c.number t) last-here (subst (λ n. Last n t (was_last new_last n)) same before) in
                let sooner = here.2 in
                let now = is.time in
                absurd (omega (arith, sooner, now))
                )
            | inr other ↦
                others d (apart d (number d) refl other) ∙ st.now i k d entry meets at (subst (Last (number d) t) (last-there (number d) other) before)
          ];
          entered = λ b sooner. elim (cases_lt b a) [
            | inl before ↦ (
                let was = st.entered b before in
                let d = coming_at comings b in
                let came = sound b (omega (arith, before, within)) in
                elim (cases_eq d.number c.number) [
                  | inl same ↦ (
                      let one = one_entry d.arrival.agent c.arrival.agent d.arrival.index c.arrival.index (by d) e t came.entry is.entry (came.number ∙ same ∙ sym is.number) came.time is.time in (
                        ap (was_last new_last) same ∙ last-here ∙ ap Some (sym (ap (λ i. the_arrival i d.arrival.index) one.1 ∙ ap (the_arrival c.arrival.agent) one.2)),
                        subst (λ i. Followed new i (by d)) (sym one.1) (subst (Followed new c.arrival.agent) (sym one.0) own_followed),
                      )
                      )
                  | inr other ↦ (last-there d.number other ∙ was.0, kept d.arrival.agent (by d) (apart (by d) d.number came.number other) was.1)
                ]
                )
            | inr end ↦ (
                let one : a ≡ b = omega (arith, sooner, end) in
                subst (λ q. (was_last new_last (coming_at comings q).number ≡ Some (coming_at comings q).arrival) × Followed new (coming_at comings q).arrival.agent (by (coming_at comings q))) one
                (last-here, own_followed)
                )
          ];
        }

    -- ---- one time more

    -- the last arrival is still the last, where nobody comes at the time
    last-later : (n t : ℕ) (o : Option Arrival) → Last n t o → ((i k e : ℕ) → Entry i k e → number e ≡ n → time e ≡ t → ⊥) → Last n (t + 1) o
    last-later n t None before none = λ i k e entry there sooner. elim (cases_lt (time e) t) [
      | inl earlier ↦ before i k e entry there earlier
      | inr not_earlier ↦ none i k e entry there (omega (arith, sooner, not_earlier))
    ]
    last-later n t (Some a) before none = (
      before.0,
      before.1,
      (let sooner = before.2 in omega (arith, sooner)),
      λ i k e entry there sooner. elim (cases_lt (time e) t) [
        | inl earlier ↦ before.3 i k e entry there earlier
        | inr not_earlier ↦ absurd (none i k e entry there (omega (arith, sooner, not_earlier)))
      ],
    )

    pub done-next : (t : ℕ) (comings : List Coming) (a : ℕ) (p : Pass) → AreTaken t comings a p.last.items p.waits.items → length comings ≤ a → HasAll m t comings → p.time ≡ t + 1 → IsPassDone m p
    done-next t comings a p st whole all is = record {
      last_count = st.last_count;
      wait_count = st.wait_count;
      last = λ n shared. subst (λ u. Last n u (was_last p.last.items n)) (sym is) (elim (st.cell n shared) [
        | inl before ↦ last-later n t (was_last p.last.items n) before (λ i k e entry there now. (
            let meets : Meets e = subst (λ q. get_or m.shared.items q true ≡ true) (sym there) shared in
            let came = taken i k e entry meets now in
            let found = subst (Last n t) (ap (was_last p.last.items) (sym there) ∙ came.0) before in
            let sooner = found.2 in
            let place = entry.place in
            let same = ap time place in
            omega (arith, sooner, same, now)
            ))
        | inr new ↦ subst (Last n (t + 1)) (sym new.is_last) (
          subst (Entry new.agent new.index) new.entry.place new.entry,
          ap number (sym new.entry.place) ∙ new.there,
          (let same = ap time new.entry.place in let now = new.now in omega (arith, same, now)),
          λ i k e entry there sooner. (let same = ap time new.entry.place in let now = new.now in omega (arith, same, now, sooner)),
        )
      ]);
      done = λ i k e entry meets sooner. elim (cases_lt (time e) t) [
        | inl earlier ↦ st.done i k e entry meets earlier
        | inr not_earlier ↦ (taken i k e entry meets (omega (arith, sooner, not_earlier, is))).1
      ];
      rest = λ e less after. st.later e less (λ meets. (let more = after meets in omega (arith, more, is)));
    } where
      -- who comes at the time was noted
      taken : (i k e : ℕ) → Entry i k e → Meets e → time e ≡ t → (was_last p.last.items (number e) ≡ Some (the_arrival i k)) × Followed p.waits.items i e
      taken i k e entry meets now =
          let at = all i k e entry meets now in
          let inside = at.1 in
          let was = st.entered at.0 (omega (arith, inside, whole)) in
          let own = subst (λ c. (was_last p.last.items c.number ≡ Some c.arrival) × Followed p.waits.items c.arrival.agent (by c)) at.2 was in
          (own.0, subst (Followed p.waits.items i) (sym entry.place) own.1)

    -- once all times are gone through, each move is told what it waits for
    pub all-followed : (p : Pass) → IsPassDone m p → NobodyComes m p.time → AreFollowed m.times.now m.ends.now m.numbers.now p.waits.items
    all-followed p d end = record {
      count = d.wait_count;
      each = λ i k e entry. elim (cases_Bool (get_or m.shared.items (number e) true)) [
        | inl meets ↦ d.done i k e entry meets (end i k e entry meets)
        | inr alone ↦ inr (
          λ j l f other same sooner. h.shared.own j i l k f e other entry same (ap (λ n. get_or m.shared.items n true) same ∙ alone),
          d.rest e (h.entries.inside i k e entry) (λ meets. absurd (false≢true (sym alone ∙ meets))),
        )
      ];
    }

    pub done-start : (p : Pass) (a b : ℕ) → p.time ≡ 0 → p.last.items ≡ replicate a None → p.waits.items ≡ replicate b no_wait → a ≡ length m.shared.items → b ≡ length m.times.now → IsPassDone m p
    done-start p a b start lasts none shared all = record {
      last_count = ap length lasts ∙ length-replicate {A = Option Arrival} a None ∙ shared;
      wait_count = ap length none ∙ length-replicate {A = Wait} b no_wait ∙ all;
      last = λ n is_shared. subst (Last n p.time) (sym (ap (λ l. was_last l n) lasts ∙ get_or-all a n None)) (λ i k e entry there sooner. omega (arith, sooner, start));
      done = λ i k e entry meets sooner. absurd (omega (arith, sooner, start));
      rest = λ e less after. ap (λ l. get_or l e no_wait) none ∙ get_or-all b e no_wait;
    }
