-- What the rules keep: an agent begins a move only when it stands, has one left, and knows that the
-- need of that move is met.
use Rattle.std.proofs.Common.{◌≡◌, ℕ, ◌+◌, ◌<◌, ◌≤◌, eqb, Bool, true, false, cond, []}
use Rattle.std.proofs.Common.{◌∷◌, Some, None, inl, inr, arith, refl, sym, ap, subst, ◌∙◌}
use Rattle.std.specs.Prelude.{Option, ◌&&◌, ◌⊎◌, nat_lt}
use Rattle.std.proofs.lemmas.Bool.{cases_Bool, cases_lt, cond-true, cond-false, and_parts}
use Rattle.std.proofs.lemmas.Bool.{eqb-true, eqb-false, ltb-false, false≢true}
use Rattle.model.specs.declared.version.Version.{Version}
use Rattle.model.specs.declared.event.Event.{Event}
use Rattle.model.specs.declared.event.Event.TheVariants.{Start, Finish, Say, Deliver, Restart, Tear}
use Rattle.model.specs.declared.why.Why.TheVariants.{Broken, AlreadyMoving, AtEnd, Waits, NotMoving}
use Rattle.model.specs.Timetable.{Track, Timetable, moves, track_of}
use Rattle.model.specs.Dependency.{Need, need, IsMet}
use Rattle.model.specs.History.{Answer, refused, History, Happening, armed_of}
use Rattle.model.specs.History.{is_broken, is_begun, is_ended, starts_of, finishes_of}
use Rattle.model.specs.History.{kept_starts, done, is_moving, known}
use Rattle.model.specs.Rules.{unless_waiting, start_answer, finish_answer, agent_answer}
use Rattle.model.specs.Rules.{agent_of, answer_by, answer, IsRun}
use Rattle.model.specs.Laws.Histories.{done-next, known-done}

-- ---- what an answer says of the agent

begun_if : (b m e : Bool) (a : Option ℕ) (rest : Answer)
    → is_begun (cond b (refused Broken)
    (cond m (refused AlreadyMoving) (cond e (refused AtEnd) rest))) a ≡ true
    → (b ≡ false) × (m ≡ false) × (e ≡ false) × (is_begun rest a ≡ true)
begun_if true m e a rest h = absurd (false≢true h)
begun_if false true e a rest h = absurd (false≢true h)
begun_if false false true a rest h = absurd (false≢true h)
begun_if false false false a rest h = (refl, refl, refl, h)

begun_unless : (known : ℕ → ℕ) (o : Option Need) (a : Option ℕ) (r : Answer)
    → is_begun (unless_waiting known o r) a ≡ true → IsMet known o
begun_unless known None a r e = tt
begun_unless known (Some n) a r e =
    elim (cases_Bool (nat_lt (known n.agent) n.count)) [
      | inl less ↦ absurd
          (false≢true (ap (λ x. is_begun x a)
          (sym (cond-true (nat_lt (known n.agent) n.count) (refused (Waits n.agent n.count))
          r less)) ∙ e))
      | inr most ↦ ltb-false (known n.agent) n.count most
    ]

-- a move is begun only by an agent that isn't broken, stands, has a move left, and knows that its
-- need is met
pub start-begun : (v : Version) (tab : Timetable) (h : History) (i : ℕ) (track : Track)
    (a : Option ℕ) → is_begun (start_answer v tab h i track) a ≡ true
    → (is_broken h i ≡ false) × (is_moving h i ≡ false) × (eqb (done h i) (moves track) ≡ false)
    × IsMet (known v tab h i) (need tab i track (done h i))
start-begun v tab h i track a e =
    let parts = begun_if (is_broken h i) (is_moving h i) (eqb (done h i) (moves track)) a _ e in (
      parts.0,
      parts.1,
      parts.2,
      begun_unless (known v tab h i) (need tab i track (done h i)) a _ parts.3,
    )

ended_if : (b m : Bool) (a : Option ℕ) (rest : Answer)
    → is_ended (cond b (refused Broken) (cond m rest (refused NotMoving))) a ≡ true
    → (b ≡ false) × (m ≡ true)
ended_if true m a rest h = absurd (false≢true h)
ended_if false true a rest h = (refl, refl)
ended_if false false a rest h = absurd (false≢true h)

-- a move is finished only by an agent that isn't broken and is moving
pub finish-ended : (h : History) (i : ℕ) (track : Track) (a : Option ℕ)
    → is_ended (finish_answer h i track) a ≡ true → (is_broken h i ≡ false) × (is_moving h i ≡ true)
finish-ended h i track a e = ended_if (is_broken h i) (is_moving h i) a _ e

-- the answer to an agent that there is
pub answer-is : (v : Version) (tab : Timetable) (h : History) (e : Event) (track : Track)
    → track_of tab (agent_of e) ≡ Some track → answer v tab h e ≡ agent_answer v tab h e track
answer-is v tab h e track there = ap (answer_by v tab h e) there

-- ---- progress

-- an agent has begun what it has finished and at most one move more, and no move without its need
-- met
pub record Progress (tab : Timetable) (h : History) (i : ℕ) (track : Track) : Type 0 where
  pub low : done h i ≤ kept_starts h i
  pub high : kept_starts h i ≤ done h i + 1
  pub limit : kept_starts h i ≤ moves track
  pub met : (k : ℕ) → k < kept_starts h i → IsMet (done h) (need tab i track k)

pub is_met-rise : (first then : ℕ → ℕ) (o : Option Need) → ((j : ℕ) → first j ≤ then j)
    → IsMet first o → IsMet then o
is_met-rise first then None h m = tt
is_met-rise first then (Some n) h m = let k = h n.agent in omega (arith, k, m)

-- a happening by which the agent begins s moves and finishes f
carry : (tab : Timetable) (h : History) (i : ℕ) (track : Track) (now : Happening) (s f : ℕ)
    → starts_of now.event now.answer i (armed_of h i) ≡ s
    → finishes_of now.event now.answer i (armed_of h i) ≡ f → Progress tab h i track
    → done h i + f ≤ kept_starts h i + s → kept_starts h i + s ≤ done h i + f + 1
    → kept_starts h i + s ≤ moves track
    → ((k : ℕ) → kept_starts h i ≤ k → k < kept_starts h i + s
    → IsMet (done h) (need tab i track k))
    → Progress tab (now ∷ h) i track
carry tab h i track now s f es ef was low high limit met = record {
  low = omega (arith, es, ef, low);
  high = omega (arith, es, ef, high);
  limit = omega (arith, es, limit);
  met =
      λ k less. is_met-rise (done h) (done (now ∷ h)) (need tab i track k) (done-next now h)
      (elim (cases_lt k (kept_starts h i)) [
        | inl before ↦ was.met k before
        | inr new ↦ met k new (omega (arith, es, less))
      ]);
}

carry_same : (tab : Timetable) (h : History) (i : ℕ) (track : Track) (now : Happening)
    → starts_of now.event now.answer i (armed_of h i) ≡ 0
    → finishes_of now.event now.answer i (armed_of h i) ≡ 0 → Progress tab h i track
    → Progress tab (now ∷ h) i track
carry_same tab h i track now es ef was =
    let low = was.low in
    let high = was.high in
    let limit = was.limit in
    carry tab h i track now 0 0 es ef was (omega (arith, low)) (omega (arith, high))
    (omega (arith, limit)) (λ k least less. absurd (omega (arith, least, less)))

-- an agent that isn't moving has finished all that it has begun
pub level : (h : History) (i : ℕ) → done h i ≤ kept_starts h i → kept_starts h i ≤ done h i + 1
    → is_moving h i ≡ false → kept_starts h i ≡ done h i
level h i low high still =
    let stands = eqb-false (kept_starts h i) (done h i + 1) still in
    elim (cases_lt (done h i) (kept_starts h i)) [
      | inl less ↦ absurd (stands (omega (arith, less, high)))
      | inr most ↦ omega (arith, most, low)
    ]

-- an agent that isn't moving, and isn't at its end, has room for a move
pub room_left : (tab : Timetable) (h : History) (i : ℕ) (track : Track) → Progress tab h i track
    → is_moving h i ≡ false → eqb (done h i) (moves track) ≡ false
    → kept_starts h i + 1 ≤ moves track
room_left tab h i track was still left =
    let same = level h i was.low was.high still in
    let limit = was.limit in
    elim (cases_lt (kept_starts h i) (moves track)) [
      | inl less ↦ omega (arith, less)
      | inr most ↦ absurd
          (eqb-false (done h i) (moves track) left (omega (arith, most, limit, same)))
    ]

-- what r, the answer to the agent j, is where j is i
pub answer-at : (v : Version) (tab : Timetable) (h : History) (of : ℕ → Event) (i j : ℕ)
    (track : Track) (r : Answer) → track_of tab i ≡ Some track → agent_of (of i) ≡ i
    → j ≡ i → r ≡ answer v tab h (of j) → r ≡ agent_answer v tab h (of i) track
answer-at v tab h of i j track r there own same e =
    e ∙ ap (λ n. answer v tab h (of n)) same ∙ answer-is v tab h (of i) track
    (ap (track_of tab) own ∙ there)

-- a happening begins no move of the agent, or just its next, and then the need of that move is met
pub begun_now : (v : Version) (tab : Timetable) (h : History) (i : ℕ) (track : Track)
    → track_of tab i ≡ Some track → Progress tab h i track
    → (e : Event) (r : Answer) → r ≡ answer v tab h e
    → (starts_of e r i (armed_of h i) ≡ 0)
    ⊎ ((starts_of e r i (armed_of h i) ≡ 1) × (finishes_of e r i (armed_of h i) ≡ 0)
    × (is_moving h i ≡ false) × (eqb (done h i) (moves track) ≡ false)
    × IsMet (known v tab h i) (need tab i track (done h i)))
begun_now v tab h i track there was (Start j) r by_rules =
    let a = armed_of h i in
    elim (cases_Bool (eqb j i && is_begun r a)) [
      | inr unkept ↦ inl (cond-false _ 1 0 unkept)
      | inl kept ↦
          let both = and_parts (eqb j i) (is_begun r a) kept in
          let r_is = answer-at v tab h (λ n. Start n) i j track r there refl
          (eqb-true j i both.0) by_rules in
          let facts = start-begun v tab h i track a (ap (λ x. is_begun x a) (sym r_is) ∙ both.1) in
          inr (cond-true _ 1 0 kept, refl, facts.1, facts.2, facts.3)
    ]
begun_now v tab h i track there was (Finish j) r by_rules = inl refl
begun_now v tab h i track there was (Say j) r by_rules = inl refl
begun_now v tab h i track there was (Deliver j m) r by_rules = inl refl
begun_now v tab h i track there was (Restart j) r by_rules = inl refl
begun_now v tab h i track there was (Tear j n) r by_rules = inl refl

progress_next : (v : Version) (tab : Timetable) (h : History) (i : ℕ) (track : Track)
    → track_of tab i ≡ Some track → Progress tab h i track
    → (e : Event) (r : Answer) → r ≡ answer v tab h e
    → Progress tab (record { event = e; answer = r } ∷ h) i track
progress_next v tab h i track there was (Start j) r by_rules =
    let now : Happening = record { event = Start j; answer = r } in
    elim (begun_now v tab h i track there was (Start j) r by_rules) [
      | inl none ↦ carry_same tab h i track now none refl was
      | inr begun ↦
          let low = was.low in
          let even = level h i was.low was.high begun.2 in
          carry tab h i track now 1 0 begun.0 refl was (omega (arith, low)) (omega (arith, even))
          (room_left tab h i track was begun.2 begun.3)
          (λ k least less.
          let k_is : done h i ≡ k = omega (arith, least, less, even) in
          subst (λ n. IsMet (done h) (need tab i track n)) k_is
          (is_met-rise (known v tab h i) (done h) (need tab i track (done h i))
          (known-done v tab h i) begun.4))
    ]
progress_next v tab h i track there was (Finish j) r by_rules =
    let a = armed_of h i in
    let now : Happening = record { event = Finish j; answer = r } in
    elim (cases_Bool (eqb j i && is_ended r a)) [
      | inr unkept ↦ carry_same tab h i track now refl (cond-false _ 1 0 unkept) was
      | inl kept ↦
          let both = and_parts (eqb j i) (is_ended r a) kept in
          let r_is = answer-at v tab h (λ n. Finish n) i j track r there refl
          (eqb-true j i both.0) by_rules in
          let facts = finish-ended h i track a (ap (λ x. is_ended x a) (sym r_is) ∙ both.1) in
          let moves_now = eqb-true (kept_starts h i) (done h i + 1) facts.1 in
          let high = was.high in
          let limit = was.limit in
          carry tab h i track now 0 1 refl (cond-true _ 1 0 kept) was (omega (arith, moves_now))
          (omega (arith, high)) (omega (arith, limit))
          (λ k least less. absurd (omega (arith, least, less)))
    ]
progress_next v tab h i track there was (Say j) r by_rules =
    carry_same tab h i track (record { event = Say j; answer = r }) refl refl was
progress_next v tab h i track there was (Deliver j m) r by_rules =
    carry_same tab h i track (record { event = Deliver j m; answer = r }) refl refl was
progress_next v tab h i track there was (Restart j) r by_rules =
    carry_same tab h i track (record { event = Restart j; answer = r }) refl refl was
progress_next v tab h i track there was (Tear j n) r by_rules =
    carry_same tab h i track (record { event = Tear j n; answer = r }) refl refl was

pub progress : (v : Version) (tab : Timetable) (h : History) (i : ℕ) (track : Track)
    → track_of tab i ≡ Some track → IsRun v tab h → Progress tab h i track
progress v tab [] i track there run =
    record {
      low = omega arith;
      high = omega arith;
      limit = omega arith;
      met = λ k less. absurd (omega (arith, less));
    }
progress v tab (now ∷ h) i track there run =
    progress_next v tab h i track there (progress v tab h i track there run.1) now.event
    now.answer run.0

-- ---- a number that names no agent

none_now : (v : Version) (tab : Timetable) (h : History) (i : ℕ) → track_of tab i ≡ None
    → (e : Event) (r : Answer) → r ≡ answer v tab h e
    → (starts_of e r i (armed_of h i) ≡ 0) × (finishes_of e r i (armed_of h i) ≡ 0)
none_now v tab h i none (Start j) r by_rules = (
  elim (cases_Bool (eqb j i && is_begun r (armed_of h i))) [
    | inr unkept ↦ cond-false _ 1 0 unkept
    | inl kept ↦ (
        let both = and_parts (eqb j i) (is_begun r (armed_of h i)) kept in
        let refusal = by_rules ∙ ap (answer_by v tab h (Start j))
        (ap (track_of tab) (eqb-true j i both.0) ∙ none) in
        absurd (false≢true (ap (λ x. is_begun x (armed_of h i)) (sym refusal) ∙ both.1)))
  ],
  refl,
)
none_now v tab h i none (Finish j) r by_rules = (
  refl,
  elim (cases_Bool (eqb j i && is_ended r (armed_of h i))) [
    | inr unkept ↦ cond-false _ 1 0 unkept
    | inl kept ↦ (
        let both = and_parts (eqb j i) (is_ended r (armed_of h i)) kept in
        let refusal = by_rules ∙ ap (answer_by v tab h (Finish j))
        (ap (track_of tab) (eqb-true j i both.0) ∙ none) in
        absurd (false≢true (ap (λ x. is_ended x (armed_of h i)) (sym refusal) ∙ both.1)))
  ],
)
none_now v tab h i none (Say j) r by_rules = (refl, refl)
none_now v tab h i none (Deliver j m) r by_rules = (refl, refl)
none_now v tab h i none (Restart j) r by_rules = (refl, refl)
none_now v tab h i none (Tear j n) r by_rules = (refl, refl)

-- nothing is begun or finished under it
none_ever : (v : Version) (tab : Timetable) (h : History) (i : ℕ) → track_of tab i ≡ None
    → IsRun v tab h → (kept_starts h i ≡ 0) × (done h i ≡ 0)
none_ever v tab [] i none run = (refl, refl)
none_ever v tab (now ∷ h) i none run =
    let before = none_ever v tab h i none run.1 in
    let here = none_now v tab h i none now.event now.answer run.0 in
    (omega (arith, before.0, here.0), omega (arith, before.1, here.1))

-- under every number what is finished was begun, and at most one move more
pub in_step : (v : Version) (tab : Timetable) (h : History) (i : ℕ) → IsRun v tab h
    → (done h i ≤ kept_starts h i) × (kept_starts h i ≤ done h i + 1)
in_step v tab h i run = by_track (track_of tab i) refl where
  by_track : (o : Option Track) → track_of tab i ≡ o → (done h i ≤ kept_starts h i)
      × (kept_starts h i ≤ done h i + 1)
  by_track (Some track) there =
      let went = progress v tab h i track there run in (went.low, went.high)
  by_track None none =
      let never = none_ever v tab h i none run in
      (omega (arith, never.0, never.1), omega (arith, never.0, never.1))
