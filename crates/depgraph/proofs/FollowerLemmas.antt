-- Agents under way, and who of them come into shared cells at the times of a block.
use Rattle.std.proofs.Common.{◌≡◌, ℕ, zero, suc, ◌+◌, ◌-◌, ◌<◌, ◌≤◌, ◌^◌, List, [], ◌∷◌, ◌++◌, length, get_or, set, true, inl, inr, arith, refl, sym, ap, subst, ◌∙◌}
use Rattle.std.specs.Prelude.{◌⊎◌, Bool}
use Rattle.std.specs.List.{filter}
use Rattle.std.proofs.lemmas.Bool.{cases_lt, cases_eq, cases_Bool, cond-true, cond-false, lt-ltb}
use Rattle.std.proofs.lemmas.List.{length-set, length-append, get_or-set_same, get_or-set_other, get_or_push, get_or_append_left}
use Rattle.std.specs.Cmp.Derive.{both_true}
use Rattle.depgraph.specs.declared.following.Meetings.{Meetings}
use Rattle.depgraph.specs.declared.following.Follower.{Follower}
use Rattle.depgraph.specs.declared.following.Coming.{Coming}
use Rattle.depgraph.specs.Code.Entries.{begin_in, IsEntry}
use Rattle.depgraph.specs.Code.Following.{IsMeeting}
use Rattle.depgraph.specs.Code.Meetings.{AreMeetings, IsNextMeeting, IsComing, AllComing}
use Rattle.depgraph.specs.Code.Meetings.{IsInComings, AreAdded, ComesNextAt, AreAllUnderWay}
use Rattle.depgraph.specs.Code.Meetings.{NobodyComes, block_times, coming_at, coming_by, list_at}
use Rattle.depgraph.specs.Code.Meetings.{entry_next, follower_at, is_under_way, no_coming}
use Rattle.depgraph.specs.Code.Meetings.{no_follower}

-- ---- elements that pass a test

kept-each : {X : Type 0} (test : X → Bool) (xs : List X) (d : X) (b : ℕ) → b < length (filter test xs) → (j : ℕ) × (j < length xs) × (get_or (filter test xs) b d ≡ get_or xs j d)
kept-each test [] d b less = absurd (omega (arith, less))
kept-each {X} test (y ∷ xs) d b less = elim (cases_Bool (test y)) [
  | inl passes ↦ subst (λ l. b < length l → (j : ℕ) × (j < length (y ∷ xs)) × (get_or l b d ≡ get_or (y ∷ xs) j d)) (sym (cond-true (test y) (y ∷ filter test xs) (filter test xs) passes))
      (more (λ k inside. kept-each test xs d k inside) b) less
  | inr fails ↦ subst (λ l. b < length l → (j : ℕ) × (j < length (y ∷ xs)) × (get_or l b d ≡ get_or (y ∷ xs) j d)) (sym (cond-false (test y) (y ∷ filter test xs) (filter test xs) fails))
      (λ within. (let old = kept-each test xs d b within in (suc old.0, (let j = old.1 in omega (arith, j)), old.2))) less
] where
  more : ((k : ℕ) → k < length (filter test xs) → (j : ℕ) × (j < length xs) × (get_or (filter test xs) k d ≡ get_or xs j d)) → (b : ℕ) → b < length (y ∷ filter test xs)
      → (j : ℕ) × (j < length (y ∷ xs)) × (get_or (y ∷ filter test xs) b d ≡ get_or (y ∷ xs) j d)
  more rest zero within = (0, omega arith, refl)
  more rest (suc k) within = (let old = rest k (omega (arith, within)) in (suc old.0, (let j = old.1 in omega (arith, j)), old.2))

kept-all : {X : Type 0} (test : X → Bool) (xs : List X) (d : X) (j : ℕ) → j < length xs → test (get_or xs j d) ≡ true
    → (b : ℕ) × (b < length (filter test xs)) × (get_or (filter test xs) b d ≡ get_or xs j d)
kept-all test [] d j less passes = absurd (omega (arith, less))
kept-all test (y ∷ xs) d zero less passes =
    subst (λ l. (b : ℕ) × (b < length l) × (get_or l b d ≡ y)) (sym (cond-true (test y) (y ∷ filter test xs) (filter test xs) passes)) (0, omega arith, refl)
kept-all test (y ∷ xs) d (suc j) less passes =
    let old = kept-all test xs d j (omega (arith, less)) passes in
    elim (cases_Bool (test y)) [
      | inl own ↦ subst (λ l. (b : ℕ) × (b < length l) × (get_or l b d ≡ get_or xs j d)) (sym (cond-true (test y) (y ∷ filter test xs) (filter test xs) own))
          (suc old.0, (let b = old.1 in omega (arith, b)), old.2)
      | inr fails ↦ subst (λ l. (b : ℕ) × (b < length l) × (get_or l b d ≡ get_or xs j d)) (sym (cond-false (test y) (y ∷ filter test xs) (filter test xs) fails)) old
    ]

module _ (m : Meetings) where
  abbrev Entry : ℕ → ℕ → ℕ → Type 0
  Entry i k e = IsEntry m.ends.now i k e

  abbrev time : ℕ → ℕ
  time e = get_or m.times.now e 0

  abbrev Meets : ℕ → Type 0
  Meets e = IsMeeting m.numbers.now m.shared.items e

  abbrev end_of : ℕ → ℕ
  end_of i = get_or m.ends.now i 0

  -- an agent's entries before one are in the block, as far as they are in its times
  pub record AreAddedTo (t agent entry : ℕ) (old new : List (List Coming)) : Type 0 where
    pub count : length new ≡ length old
    pub sound : (s : ℕ) → s < block_times → AllComing m (t + s) (list_at old s) → AllComing m (t + s) (list_at new s)
    pub kept : (s : ℕ) (c : Coming) → s < block_times → IsInComings (list_at old s) c → IsInComings (list_at new s) c
    pub own : (k e s : ℕ) → s < block_times → Entry agent k e → e < entry → Meets e → time e ≡ t + s → IsInComings (list_at new s) (coming_by m agent k e)

  -- an agent comes next to an entry, which leads into a shared cell
  pub record ComesTo (t agent entry : ℕ) : Type 0 where
    pub after : begin_in m.ends.now agent ≤ entry
    pub within : entry ≤ end_of agent
    pub meets : entry < end_of agent → Meets entry
    pub later : entry < end_of agent → t ≤ time entry

  module _ (h : AreMeetings m) where
    -- the entry at a place of an agent's path
    entry-here : (i e : ℕ) → i < length m.ends.now → begin_in m.ends.now i ≤ e → e < end_of i → Entry i (e - begin_in m.ends.now i) e
    entry-here i e agent after within = record { is_agent = agent; place = omega (arith, after); within = within }

    pub end-within : (i : ℕ) → i < length m.ends.now → begin_in m.ends.now i < end_of i → end_of i ≤ length m.times.now
    end-within i agent some =
        let inside = h.entries.inside i (end_of i - 1 - begin_in m.ends.now i) (end_of i - 1) (entry-here i (end_of i - 1) agent (omega (arith, some)) (omega (arith, some))) in
        omega (arith, inside, some)

    -- ---- who is under way

    pub under-way-kept : (t : ℕ) (old new : List Follower) → new ≡ filter (is_under_way m.ends.now) old → AreAllUnderWay m t old → AreAllUnderWay m t new
    under-way-kept t old new is all = subst (AreAllUnderWay m t) (sym is) (record {
      at = λ b less. (let was = kept-each (is_under_way m.ends.now) old no_follower b less in subst (ComesNextAt m t) (sym was.2) (all.at was.0 was.1));
      all = λ i k e entry meets after. (
          let found = all.all i k e entry meets after in
          let f = follower_at old found.0 in
          let at = all.at found.0 found.1 in
          let own = subst (λ j. Entry j k e) (sym found.2) entry in
          let not_before : entry_next m f ≤ e = (elim (cases_lt e (entry_next m f)) [
            | inl before ↦ (let sooner = at.before k e own before meets in absurd (omega (arith, sooner, after)))
            | inr past ↦ past
          ]) in
          let within = own.within in
          let passes : is_under_way m.ends.now f ≡ true = both_true (lt-ltb f.agent (length m.ends.now) at.agent)
          (lt-ltb f.index (end_of f.agent - begin_in m.ends.now f.agent) (omega (arith, not_before, within))) in
          let now = kept-all (is_under_way m.ends.now) old no_follower found.0 found.1 passes in
          (now.0, now.1, ap (λ g. g.agent) now.2 ∙ found.2)
          );
    })

    -- where nobody is under way, nobody comes any more
    pub past-none : (t : ℕ) (followers : List Follower) → length followers ≡ 0 → AreAllUnderWay m t followers → NobodyComes m t
    past-none t followers none all i k e entry meets = elim (cases_lt (time e) t) [
      | inl sooner ↦ sooner
      | inr later ↦ (let found = all.all i k e entry meets later in let inside = found.1 in absurd (omega (arith, inside, none)))
    ]

    -- nor at a time that no path has
    pub past-all : (t : ℕ) → 65536 ≤ t → NobodyComes m t
    past-all t end i k e entry meets = (let early = h.entries.early e (h.entries.inside i k e entry) in omega (arith, early, end))

    -- an agent at its first shared cell
    pub at-first : (agent next : ℕ) → agent < length m.ends.now → IsNextMeeting m (begin_in m.ends.now agent) (end_of agent) next
        → ComesNextAt m 0 (record { agent = agent; index = next - begin_in m.ends.now agent })
    at-first agent next is_agent n =
        let after = n.after in
        let within = n.within in
        let place : begin_in m.ends.now agent + (next - begin_in m.ends.now agent) ≡ next = omega (arith, after) in
        record {
          agent = is_agent;
          within = omega (arith, after, within);
          before = λ k e entry before meets. (let at = entry.place in absurd (n.none e (omega (arith, at)) (omega (arith, before, place)) meets));
          meets = λ less. subst Meets (sym place) (n.meets (omega (arith, less, place)));
          later = λ less. omega arith;
        }

    pub all-first : (followers : List Follower) → length m.ends.now ≤ length followers → length followers ≤ length m.ends.now
        → ((b : ℕ) → b < length followers → ComesNextAt m 0 (follower_at followers b) × ((follower_at followers b).agent ≡ b)) → AreAllUnderWay m 0 followers
    all-first followers many few each = record {
      at = λ b less. (each b less).0;
      all = λ i k e entry meets after. (let agent = entry.is_agent in let less : i < length followers = omega (arith, agent, many) in (i, less, (each i less).1));
    }

    -- ---- one agent's entries in a block

    pub added-none : (t : ℕ) (f : Follower) (block : List (List Coming)) → ComesNextAt m t f → AreAddedTo t f.agent (entry_next m f) block block
    added-none t f block at = record {
      count = refl;
      sound = λ s less was. was;
      kept = λ s c less was. was;
      own = λ k e s less entry before meets now. (let sooner = at.before k e entry before meets in absurd (omega (arith, sooner, now)));
    }

    pub comes-first : (t : ℕ) (f : Follower) → ComesNextAt m t f → ComesTo t f.agent (entry_next m f)
    comes-first t f at = record { after = omega arith; within = at.within; meets = at.meets; later = at.later }

    -- the entry to which an agent comes
    pub entry-of_comer : (t agent entry : ℕ) → agent < length m.ends.now → ComesTo t agent entry → entry < end_of agent → Entry agent (entry - begin_in m.ends.now agent) entry
    entry-of_comer t agent entry is_agent at less = entry-here agent entry is_agent at.after less

    pub comer-inside : (t agent entry : ℕ) → agent < length m.ends.now → ComesTo t agent entry → entry < end_of agent
        → (entry < length m.times.now) × (entry < length m.numbers.now) × (entry - begin_in m.ends.now agent < 2 ^ 16) × (length m.times.now < 2 ^ 32)
    comer-inside t agent entry is_agent at less =
        let own = entry-of_comer t agent entry is_agent at less in
        let inside = h.entries.inside agent (entry - begin_in m.ends.now agent) entry own in
        let count = h.entries.count in
        (inside, omega (arith, inside, count), h.entries.few agent (entry - begin_in m.ends.now agent) entry own, h.entries.all)

    -- how far an agent has come in its path
    pub come-few : (t agent entry : ℕ) → agent < length m.ends.now → ComesTo t agent entry → entry - begin_in m.ends.now agent < 2 ^ 32
    come-few t agent entry is_agent at =
        let within = at.within in
        elim (cases_lt (begin_in m.ends.now agent) (end_of agent)) [
          | inl some ↦ (let most = end-within agent is_agent some in let all = h.entries.all in omega (arith, within, most, all))
          | inr none ↦ omega (arith, within, none)
        ]

    module _ (t agent entry next : ℕ) (old now : List (List Coming)) (is_agent : agent < length m.ends.now) (at : ComesTo t agent entry) (less : entry < end_of agent)
        (soon : time entry < t + block_times) (n : IsNextMeeting m (entry + 1) (end_of agent) next) where
      own_entry : Entry agent (entry - begin_in m.ends.now agent) entry
      own_entry = entry-of_comer t agent entry is_agent at less

      -- an entry before the next one is that at hand, or was before it
      before-next : (k e : ℕ) → Entry agent k e → e < next → Meets e → (e < entry) ⊎ (e ≡ entry)
      before-next k e other before meets = elim (cases_lt e entry) [
        | inl sooner ↦ inl sooner
        | inr not_sooner ↦ elim (cases_eq e entry) [
          | inl same ↦ inr same
          | inr apart ↦ absurd (n.none e (later_of e not_sooner apart) before meets)
        ]
      ] where
        later_of : (e : ℕ) → entry ≤ e → (e ≡ entry → ⊥) → entry + 1 ≤ e
        later_of e past apart = elim (cases_lt entry e) [
          | inl more ↦ omega (arith, more)
          | inr not_more ↦ absurd (apart (omega (arith, past, not_more)))
        ]

      pub comes-next : ComesTo t agent next
      comes-next =
          let after = n.after in
          let begun = at.after in
          let within = n.within in
          record {
            after = omega (arith, after, begun);
            within = within;
            meets = n.meets;
            later = λ more. (
                let up = h.entries.rising agent (entry - begin_in m.ends.now agent) (next - begin_in m.ends.now agent) entry next own_entry
                (entry-here agent next is_agent (omega (arith, after, begun)) more) (omega (arith, after)) in
                let sooner = at.later less in
                omega (arith, up, sooner)
                );
          }

      pub before-more : ((k e : ℕ) → Entry agent k e → e < entry → Meets e → time e < t + block_times) → (k e : ℕ) → Entry agent k e → e < next → Meets e → time e < t + block_times
      before-more was k e other before meets = elim (before-next k e other before meets) [
        | inl sooner ↦ was k e other sooner meets
        | inr same ↦ (let is = ap time same in omega (arith, is, soon))
      ]

      -- the list of the time at hand gets one more
      module _ (new : List (List Coming)) (count : length now ≡ block_times)
          (added : new ≡ set now (time entry - t) (list_at now (time entry - t) ++ coming_by m agent (entry - begin_in m.ends.now agent) entry ∷ [])) where
        abbrev s0 : ℕ
        s0 = time entry - t

        abbrev coming : Coming
        coming = coming_by m agent (entry - begin_in m.ends.now agent) entry

        in_block : s0 < length now
        in_block = (let sooner = at.later less in omega (arith, sooner, soon, count))

        here : list_at new s0 ≡ list_at now s0 ++ coming ∷ []
        here = ap (λ b. list_at b s0) added ∙ get_or-set_same now s0 (list_at now s0 ++ coming ∷ []) [] in_block

        there : (s : ℕ) → (s ≡ s0 → ⊥) → list_at new s ≡ list_at now s
        there s other = ap (λ b. list_at b s) added ∙ get_or-set_other now s0 s (list_at now s0 ++ coming ∷ []) [] other

        is_in : IsInComings (list_at new s0) coming
        is_in =
            let long = length-append (list_at now s0) (coming ∷ []) in
            let size = ap length here in
            (length (list_at now s0), omega (arith, long, size), ap (λ l. coming_at l (length (list_at now s0))) here ∙ get_or_push (list_at now s0) coming no_coming (length (list_at now s0)) refl)

        still : (s : ℕ) (c : Coming) → IsInComings (list_at now s) c → IsInComings (list_at new s) c
        still s c was = elim (cases_eq s s0) [
          | inl same ↦ (
              let old = subst (λ q. IsInComings (list_at now q) c) same was in
              let long = length-append (list_at now s0) (coming ∷ []) in
              let size = ap length here in
              let inside = old.1 in
              subst (λ q. IsInComings (list_at new q) c) (sym same) (
                old.0,
                omega (arith, long, size, inside),
                ap (λ l. coming_at l old.0) here ∙ get_or_append_left (list_at now s0) (coming ∷ []) no_coming old.0 inside ∙ old.2,
              )
              )
          | inr other ↦ subst (λ l. IsInComings l c) (sym (there s other)) was
        ]

        -- who comes at the time of the block
        is_coming : IsComing m (t + s0) coming
        is_coming =
            let place = own_entry.place in
            let sooner = at.later less in
            record {
              entry = subst (Entry agent (entry - begin_in m.ends.now agent)) place own_entry;
              number = ap (λ q. get_or m.numbers.now q 0) (sym place);
              time = (let is = ap time place in omega (arith, is, sooner));
              meets = subst Meets place (at.meets less);
            }

        sound-more : (s : ℕ) → AllComing m (t + s) (list_at now s) → AllComing m (t + s) (list_at new s)
        sound-more s was = elim (cases_eq s s0) [
          | inl same ↦ subst (λ q. AllComing m (t + q) (list_at new q)) (sym same) (subst (AllComing m (t + s0)) (sym here) (λ p inside. elim (cases_lt p (length (list_at now s0))) [
            | inl before ↦ subst (IsComing m (t + s0)) (sym (get_or_append_left (list_at now s0) (coming ∷ []) no_coming p before)) (subst (λ q. AllComing m (t + q) (list_at now q)) same was p before)
            | inr end ↦ (
                let long = length-append (list_at now s0) (coming ∷ []) in
                let one : p ≡ length (list_at now s0) = omega (arith, inside, end, long) in
                subst (IsComing m (t + s0)) (sym (get_or_push (list_at now s0) coming no_coming p (sym one))) is_coming
                )
          ]))
          | inr other ↦ subst (AllComing m (t + s)) (sym (there s other)) was
        ]

        pub added-more : AreAddedTo t agent entry old now → AreAddedTo t agent next old new
        added-more was = record {
          count = ap length added ∙ length-set now s0 (list_at now s0 ++ coming ∷ []) ∙ was.count;
          sound = λ s within before. sound-more s (was.sound s within before);
          kept = λ s c within before. still s c (was.kept s c within before);
          own = λ k e s within other before meets is. elim (before-next k e other before meets) [
            | inl sooner ↦ still s (coming_by m agent k e) (was.own k e s within other sooner meets is)
            | inr same ↦ (
                let one : s ≡ s0 = (let at_e = ap time same in omega (arith, at_e, is)) in
                let index = (h.entries.one agent agent k (entry - begin_in m.ends.now agent) entry (subst (Entry agent k) same other) own_entry).1 in
                subst (λ q. IsInComings (list_at new q) (coming_by m agent k e)) (sym one)
                (subst (IsInComings (list_at new s0)) (sym (ap (λ q. coming_by m agent k q) same ∙ ap (λ q. coming_by m agent q entry) index)) is_in)
                )
          ];
        }

    -- ---- past the block

    module _ (t agent entry : ℕ) (is_agent : agent < length m.ends.now) (at : ComesTo t agent entry)
        (before : (k e : ℕ) → Entry agent k e → e < entry → Meets e → time e < t + block_times) (end : (entry < end_of agent) → t + block_times ≤ time entry) where
      pub at-next : ComesNextAt m (t + block_times) (record { agent = agent; index = entry - begin_in m.ends.now agent })
      at-next =
          let after = at.after in
          let place : begin_in m.ends.now agent + (entry - begin_in m.ends.now agent) ≡ entry = omega (arith, after) in
          let within = at.within in
          record {
            agent = is_agent;
            within = omega (arith, place, within);
            before = λ k e other sooner meets. before k e other (omega (arith, sooner, place)) meets;
            meets = λ less. subst Meets (sym place) (at.meets (omega (arith, less, place)));
            later = λ less. (let past = end (omega (arith, less, place)) in let same = ap time place in omega (arith, past, same));
          }

      pub added-all : (old new : List (List Coming)) → AreAddedTo t agent entry old new → AreAdded m t agent old new
      added-all old new was = record {
        count = was.count;
        sound = was.sound;
        kept = was.kept;
        own = λ k e s within other meets is. elim (cases_lt e entry) [
          | inl sooner ↦ was.own k e s within other sooner meets is
          | inr not_sooner ↦ (
              let inside = other.within in
              let past = end (omega (arith, not_sooner, inside)) in
              elim (cases_lt entry e) [
                | inl later ↦ (
                    let up = h.entries.rising agent (entry - begin_in m.ends.now agent) k entry e (entry-here agent entry is_agent at.after (omega (arith, not_sooner, inside))) other later in
                    absurd (omega (arith, up, past, is, within))
                    )
                | inr not_later ↦ (
                    let same : e ≡ entry = omega (arith, not_sooner, not_later) in
                    let at_e = ap time same in
                    absurd (omega (arith, at_e, past, is, within))
                    )
              ]
              )
        ];
      }
