-- A deed by one timetable is one by another that shares the moves which its agent has begun, or it may be left out.
use Rattle.std.proofs.Common.{◌≡◌, ℕ, zero, suc, ◌+◌, ◌/◌, ◌%◌, ◌≤◌, ◌<◌, Bool, true, false, List, [], length, nat_lt, Some, None, Result, Ok, Err, inl, inr, refl, sym, ap, subst, ◌∙◌, arith}
use Rattle.std.specs.Prelude.{◌⊎◌, ◌==◌, ◌||◌, Option, option_map, if◌then◌else◌, nat_le, MatchOption}
use Rattle.std.specs.List.{list_any}
use Rattle.std.proofs.lemmas.Bool.{cases_lt, cond-true, cond-false, eqb-true, ne_eqb, eq-eqb, false≢true}
use Rattle.grid.specs.declared.cell.Cell.{Cell}
use Rattle.model.specs.declared.held.Held.TheVariants.{At, Between}
use Rattle.model.specs.declared.msg_fault.MsgFault.{MsgFault}
use Rattle.model.specs.Dependency.{Need, need}
use Rattle.model.specs.Messages.{Message, IsMessage, whole_message, IsTold}
use Rattle.model.specs.Rules.{path_cell}
use Rattle.model.specs.Timetable.{Track, Timetable, moves_before, moves, step_of, track_of}
use Rattle.model.specs.Laws.Tracks.{moves_at-start, moves-leave, moves-rise, moving_step, step-of_move, cell-visit}
use Rattle.agent.specs.Counters.{known_in}
use Rattle.agent.specs.declared.counters.Counter.{Counter}
use Rattle.agent.specs.Decoding.{any_fault}
use Rattle.agent.specs.States.{State, begun_moves, is_on_the_way, finished_moves, held_by_tape}
use Rattle.agent.specs.States.{waits_for, start_refusal, finish_refusal, next_cell, Stores, Answers}
use Rattle.agent.specs.States.{IsSaid, IsToldBy, Keeps, Refuses, bytes_refusal, names_nobody}
use Rattle.agent.specs.States.{tells_too_many, message_refusal, telling_refusal, IsTaken, IsHeard}
use Rattle.agent.specs.Tellings.{Telling, BytesTell}
use Rattle.agent.specs.declared.refusal.HearFault.{HearFault}
use Rattle.agent.specs.declared.refusal.HearFault.TheVariants as fault
use Rattle.agent.specs.declared.refusal.Refusal.{Refusal}
use Rattle.agent.specs.declared.refusal.Refusal.TheVariants.{Broken, AlreadyMoving, AtEnd, Waits, NotMoving, StoreFailed}
use Rattle.agent.specs.declared.refusal.TellFault.{TellFault}
use Rattle.agent.specs.declared.refusal.TellFault.TheVariants as teller
use Rattle.continuing.specs.Continuing.{AgreesUpTo}
use Rattle.continuing.specs.Laws.Agreeing.{moves-along, same-move, along, need-same}
use Rattle.fleet.specs.Deeds.{Deed, opens, starts, finishes, says, tells, hears, holds, looks, ends, stops, ends_starting, ends_finishing, Does}
use Rattle.fleet.specs.OwnPlans.{end_of_moves, SharesMoves, MayBeLeftOut, StandsAs}

-- what the bytes that are heard have to be: the timetable has nothing against what they tell
abbrev pub IsFine : Timetable → Deed → Type 0
IsFine last (hears bytes answer) = (t : Telling) → BytesTell bytes t → telling_refusal last t ≡ None
IsFine last _ = Unit {0}

one-failure : (answer : Result Cell Refusal) → answer ≡ Err StoreFailed → answer ≡ Err Broken → ⊥
one-failure answer failed broken = cc

-- ---- the ends of moves

end-moves : (track : Track) (n : ℕ) → n ≤ moves track → moves_before track (end_of_moves track n) ≡ n
end-moves track zero most = moves_at-start track.start track.later
end-moves track (suc k) most =
    let found = moving_step track.start track.later k (omega (arith, most)) in
    let t = found.0 in
    let step : step_of track k ≡ t = ap (step_of track) (sym found.1) ∙ step-of_move track.start track.later t found.2 in
    let one : step_of track k + 1 ≡ suc t = omega (arith, step) in
    let more = moves-leave track.start track.later t found.2 in
    ap (moves_before track) one ∙ more ∙ (let before = found.1 in omega (arith, before))

pub end-rises : (track : Track) (m n : ℕ) → m ≤ n → n ≤ moves track → end_of_moves track m ≤ end_of_moves track n
end-rises track m n less most = elim (cases_lt (end_of_moves track n) (end_of_moves track m)) [
  | inl past ↦
      let rise = moves-rise track.start track.later (end_of_moves track n) (end_of_moves track m) (omega (arith, past)) in
      let here = end-moves track n most in
      let there = end-moves track m (omega (arith, less, most)) in
      let same : m ≡ n = omega (arith, rise, here, there, less) in
      let ends = ap (end_of_moves track) same in
      let stops = ap (end_of_moves track) same in
      absurd (omega (arith, past, ends))
  | inr before ↦ before
]

-- ---- halves

begun-standing : (s : State) → is_on_the_way s ≡ false → begun_moves s ≡ finished_moves s
begun-standing s stands =
    let even : s.records % 2 ≡ 1 → ⊥ = λ e. false≢true (sym stands ∙ eq-eqb (s.records % 2) 1 e) in
    let half : s.records % 2 ≡ 0 = grind (arith, even) in
    omega (arith, half)

begun-moving : (s : State) → is_on_the_way s ≡ true → begun_moves s ≡ finished_moves s + 1
begun-moving s on_way = let odd = eqb-true (s.records % 2) 1 on_way in omega (arith, odd)

finished-begun : (s : State) → finished_moves s ≤ begun_moves s
finished-begun s = omega arith

-- ---- one agent by two timetables

module _ (last by : Timetable) (i : ℕ) (track other : Track) (there : track_of by i ≡ Some track) (now : track_of last i ≡ Some other) where
  -- the cells to which shared moves lead
  path-same : (n : ℕ) → SharesMoves last by i track n → (m : ℕ) → m ≤ n → path_cell track m ≡ path_cell other m
  path-same n shares m less =
      let t = end_of_moves track m in
      let early = end-rises track m n less shares.has in
      let follows = along (end_of_moves track n) by last shares.agrees i track other there now in
      let here = end-moves track m (let most = shares.has in omega (arith, less, most)) in
      let also : moves_before other t ≡ m = moves-along (end_of_moves track n) track other follows t early ∙ here in
      ap (path_cell track) (sym here) ∙ cell-visit track.start track.later t track.start ∙ sym (follows t early)
      ∙ sym (cell-visit other.start other.later t other.start) ∙ ap (path_cell other) also

  held-same : (s : State) (n : ℕ) → SharesMoves last by i track n → begun_moves s ≤ n → held_by_tape track s ≡ held_by_tape other s
  held-same s n shares begun = by_way (is_on_the_way s) refl where
    k : ℕ
    k = finished_moves s

    here : path_cell track k ≡ path_cell other k
    here = path-same n shares k (let most = finished-begun s in omega (arith, most, begun))

    by_way : (b : Bool) → is_on_the_way s ≡ b
        → (if b then Between (path_cell track k) (path_cell track (k + 1)) else At (path_cell track k)) ≡ (if b then Between (path_cell other k) (path_cell other (k + 1)) else At (path_cell other k))
    by_way true on_way =
        ap (λ u. Between u (path_cell track (k + 1))) here
        ∙ ap (Between (path_cell other k)) (path-same n shares (k + 1) (let more = begun-moving s on_way in omega (arith, more, begun)))
    by_way false stands = ap At here

  -- a move that is shared is refused by neither or by both
  module _ (k : ℕ) (shares : SharesMoves last by i track (k + 1)) where
    shared : AgreesUpTo (step_of track k + 1) by last
    shared = (let one : k + 1 ≡ suc k = omega arith in subst (λ n. AgreesUpTo (end_of_moves track n) by last) one shares.agrees)

    left : k < moves track
    left = (let most = shares.has in omega (arith, most))

    pub goes-on-there : k < moves other
    goes-on-there = (same-move (step_of track k + 1) track other k (along (step_of track k + 1) by last shared i track other there now) left (omega arith)).less

    pub needs-same : need last i other k ≡ need by i track k
    needs-same = need-same (step_of track k + 1) by last shared i k track other there now left (omega arith)

  -- ---- deeds

  module _ (old twin : State) (stands_as : StandsAs old twin) (before : List (List ℕ)) where
    pub records-same : old.records ≡ twin.records
    records-same = elim stands_as [ inl same ↦ ap (λ s. s.records) same | inr same ↦ ap (λ s. s.records) same ]

    -- nothing but the one write that failed is apart
    pub whole-same : old.broken ≡ false → old ≡ twin
    whole-same whole = elim stands_as [ inl same ↦ same | inr same ↦ absurd (false≢true (sym whole ∙ ap (λ s. s.broken) same)) ]

    stays-as : (new : State) → new ≡ old → StandsAs new twin
    stays-as new same = subst (λ s. StandsAs s twin) (sym same) stands_as

    abbrev Outcome : Deed → State → Type 0
    Outcome deed new = ((t : State) × Does last i other twin deed t × StandsAs new t) ⊎ (MayBeLeftOut before deed × StandsAs new twin)

    held-there : (new : State) → SharesMoves last by i track (begun_moves new) → new.records ≡ old.records → held_by_tape track old ≡ held_by_tape other twin
    held-there new shares same =
        held-same old (begun_moves new) shares (omega (arith, same))
        ∙ ap (λ r. held_by_tape other (record { records = r; heard = old.heard; broken = old.broken })) records-same

    finished-there : finished_moves old ≡ finished_moves twin
    finished-there = ap (λ r. r / 2) records-same

    -- ---- starts

    abbrev StartsThere : State → Result Cell Refusal → Type 0
    StartsThere new answer = (t : State) × Answers (start_refusal last i other twin) twin t (next_cell other twin) answer × StandsAs new t

    abbrev Started : State → Result Cell Refusal → Type 0
    Started new answer = StartsThere new answer ⊎ (MayBeLeftOut before (starts answer) × StandsAs new twin)

    refused-left : (new : State) (answer : Result Cell Refusal) (why : Refusal) → MayBeLeftOut before (starts (Err why)) → (answer ≡ Err why) × (new ≡ old) → Started new answer
    refused-left new answer why may refuses = inr (subst (λ a. MayBeLeftOut before (starts a)) (sym refuses.0) may, stays-as new refuses.1)

    module _ (new : State) (shares : SharesMoves last by i track (begun_moves new)) (answer : Result Cell Refusal) (whole : old.broken ≡ false) where
      abbrev k : ℕ
      k = finished_moves old

      same : old ≡ twin
      same = whole-same whole

      -- the record of the move was written
      begins : is_on_the_way old ≡ false → waits_for old.heard (need by i track k) ≡ None → new.records ≡ old.records + 1 → Stores old new (next_cell track old) answer → StartsThere new answer
      begins stands free more stores = (
        new,
        subst (λ s. Answers (start_refusal last i other s) s new (next_cell other s) answer) same
            (subst (λ o. Answers o old new (next_cell other old) answer) (sym none) (subst (λ c. Stores old new c answer) cell stores)),
        inl refl,
      ) where
        begun : begun_moves new ≡ k + 1
        begun = (let standing = begun-standing old stands in let odd : old.records % 2 ≡ 1 → ⊥ = λ e. false≢true (sym stands ∙ eq-eqb (old.records % 2) 1 e) in
            let half : old.records % 2 ≡ 0 = grind (arith, odd) in omega (arith, more, half))

        moved : SharesMoves last by i track (k + 1)
        moved = subst (SharesMoves last by i track) begun shares

        cell : next_cell track old ≡ next_cell other old
        cell = path-same (k + 1) moved (k + 1) (omega arith)

        less : k < moves other
        less = goes-on-there k moved

        none : start_refusal last i other old ≡ None
        none =
            cond-false old.broken _ _ whole
            ∙ cond-false (is_on_the_way old) _ _ stands
            ∙ cond-false (k == moves other) _ _ (ne_eqb k (moves other) (λ e. omega (arith, e, less)))
            ∙ ap (waits_for old.heard) (needs-same k moved)
            ∙ free

      tries : is_on_the_way old ≡ false → waits_for old.heard (need by i track k) ≡ None → Stores old new (next_cell track old) answer → Started new answer
      tries stands free stores = elim stores.outcome [
        | inl good ↦ inl (begins stands free good.1 stores)
        | inr bad ↦ elim bad.1 [
          | inl none ↦ inr (subst (λ a. MayBeLeftOut before (starts a)) (sym bad.0) tt, inr (failed none stores.heard bad.2))
          | inr written ↦ inl (begins stands free written stores)
        ]
      ] where
        failed : new.records ≡ old.records → new.heard ≡ old.heard → new.broken ≡ true → new ≡ record twin { broken = true }
        failed records heard broken =
            let r : new.records ≡ twin.records = records ∙ ap (λ s. s.records) same in
            let h : new.heard ≡ twin.heard = heard ∙ ap (λ s. s.heard) same in
            ap {A = ℕ} {B = State} (λ n. record { records = n; heard = new.heard; broken = new.broken }) r
            ∙ ap {A = List Counter} {B = State} (λ l. record { records = twin.records; heard = l; broken = new.broken }) h
            ∙ ap {B = State} (λ b. record { records = twin.records; heard = twin.heard; broken = b }) broken

      waits : is_on_the_way old ≡ false → (n : Option Need) → need by i track k ≡ n → Answers (waits_for old.heard n) old new (next_cell track old) answer → Started new answer
      waits stands None none answers = tries stands (ap (waits_for old.heard) none) answers
      waits stands (Some n) some answers = by_known (nat_lt (known_in old.heard n.agent) n.count) refl answers where
        by_known : (b : Bool) → nat_lt (known_in old.heard n.agent) n.count ≡ b
            → Answers (if b then Some (Waits n.agent n.count) else None) old new (next_cell track old) answer → Started new answer
        by_known true waits_still refuses = refused-left new answer (Waits n.agent n.count) tt refuses
        by_known false known stores =
            tries stands (ap (waits_for old.heard) some ∙ cond-false (nat_lt (known_in old.heard n.agent) n.count) (Some (Waits n.agent n.count)) None known) stores

      left-off : is_on_the_way old ≡ false → (b : Bool)
          → Answers (if b then Some AtEnd else waits_for old.heard (need by i track k)) old new (next_cell track old) answer → Started new answer
      left-off stands true refuses = refused-left new answer AtEnd tt refuses
      left-off stands false answers = waits stands (need by i track k) refl answers

      on-way : (b : Bool) → is_on_the_way old ≡ b
          → Answers (if b then Some AlreadyMoving else (if k == moves track then Some AtEnd else waits_for old.heard (need by i track k))) old new (next_cell track old) answer
          → Started new answer
      on-way true moving refuses = inl (
        old,
        subst (λ s. Answers (start_refusal last i other s) s old (next_cell other s) answer) same
            (subst (λ o. Answers o old old (next_cell other old) answer) (sym refusal) (refuses.0, refl)),
        inl refuses.1,
      ) where
        refusal : start_refusal last i other old ≡ Some AlreadyMoving
        refusal = cond-false old.broken _ _ whole ∙ cond-true (is_on_the_way old) _ _ moving
      on-way false stands answers = left-off stands (k == moves track) answers

    start-by : (new : State) (answer : Result Cell Refusal) → SharesMoves last by i track (begun_moves new)
        → Answers (start_refusal by i track old) old new (next_cell track old) answer → Started new answer
    start-by new answer shares answers = by_broken old.broken refl answers where
      by_broken : (b : Bool) → old.broken ≡ b
          → Answers (if b then Some Broken
          else (if is_on_the_way old then Some AlreadyMoving
          else (if finished_moves old == moves track then Some AtEnd
          else waits_for old.heard (need by i track (finished_moves old))))) old new (next_cell track old) answer → Started new answer
      by_broken true broken refuses = refused-left new answer Broken tt refuses
      by_broken false whole rest = on-way new shares answer whole (is_on_the_way old) refl rest

    -- ---- finishes

    abbrev Finished : State → Result Cell Refusal → Type 0
    Finished new answer =
        ((t : State) × Answers (finish_refusal twin) twin t (next_cell other twin) answer × StandsAs new t) ⊎ ((answer ≡ Err Broken) × StandsAs new twin)

    finish-by : (new : State) (answer : Result Cell Refusal) → SharesMoves last by i track (begun_moves new)
        → Answers (finish_refusal old) old new (next_cell track old) answer → Finished new answer
    finish-by new answer shares answers = by_broken old.broken refl answers where
      ends-it : old.broken ≡ false → (b : Bool) → is_on_the_way old ≡ b → Answers (if b then None else Some NotMoving) old new (next_cell track old) answer → Finished new answer
      ends-it whole true moving stores =
          let none : finish_refusal old ≡ None = cond-false old.broken _ _ whole ∙ cond-true (is_on_the_way old) _ _ moving in
          let begun : finished_moves old + 1 ≤ begun_moves new = within stores.outcome in
          let cell : next_cell track old ≡ next_cell other old = path-same (begun_moves new) shares (finished_moves old + 1) begun in
          inl (
            new,
            subst (λ s. Answers (finish_refusal s) s new (next_cell other s) answer) (whole-same whole)
                (subst (λ o. Answers o old new (next_cell other old) answer) (sym none) (subst (λ c. Stores old new c answer) cell stores)),
            inl refl,
          )
        where
          odd : old.records % 2 ≡ 1
          odd = eqb-true (old.records % 2) 1 moving

          within : ((answer ≡ Ok (next_cell track old)) × (new.records ≡ old.records + 1) × (new.broken ≡ old.broken))
              ⊎ ((answer ≡ Err StoreFailed) × ((new.records ≡ old.records) ⊎ (new.records ≡ old.records + 1)) × (new.broken ≡ true))
              → finished_moves old + 1 ≤ begun_moves new
          within (inl good) = (let e = good.1 in omega (arith, odd, e))
          within (inr bad) = elim bad.1 [ inl e ↦ omega (arith, odd, e) | inr e ↦ omega (arith, odd, e) ]
      ends-it whole false stands refuses =
          let refusal : finish_refusal old ≡ Some NotMoving = cond-false old.broken _ _ whole ∙ cond-false (is_on_the_way old) _ _ stands in
          inl (
            old,
            subst (λ s. Answers (finish_refusal s) s old (next_cell other s) answer) (whole-same whole)
                (subst (λ o. Answers o old old (next_cell other old) answer) (sym refusal) (refuses.0, refl)),
            inl refuses.1,
          )

      by_broken : (b : Bool) → old.broken ≡ b → Answers (if b then Some Broken else (if is_on_the_way old then None else Some NotMoving)) old new (next_cell track old) answer → Finished new answer
      by_broken true broken refuses = inr (refuses.0, stays-as new refuses.1)
      by_broken false whole rest = ends-it whole (is_on_the_way old) refl rest

    -- ---- messages

    says-by : (new : State) (answer : Result (List ℕ) Refusal) → by.number ≡ last.number → IsSaid by i old answer → new ≡ old → Outcome (says answer) new
    says-by new (Ok bytes) number said stays =
        let spelled = subst (λ n. IsMessage n i (finished_moves old) bytes) number said.1 in
        inl (old, subst (λ s. IsSaid last i s (Ok bytes) × (old ≡ s)) (whole-same said.0) ((said.0, spelled), refl), inl stays)
    says-by new (Err why) number said stays = inr (tt, stays-as new stays)

    tells-by : (new : State) (answer : Result (List ℕ) TellFault) → by.number ≡ last.number → length by.tracks ≡ length last.tracks → IsToldBy by i old answer → new ≡ old → Outcome (tells answer) new
    tells-by new (Ok bytes) number agents told stays =
        let spelled = subst (λ n. IsTold n (whole_message (length last.tracks) i (finished_moves old) (known_in old.heard)) bytes) number
        (subst (λ n. IsTold by.number (whole_message n i (finished_moves old) (known_in old.heard)) bytes) agents told.1) in
        inl (old, subst (λ s. IsToldBy last i s (Ok bytes) × (old ≡ s)) (whole-same told.0) ((told.0, spelled), refl), inl stays)
    tells-by new (Err teller.Broken) number agents told stays = inr (tt, stays-as new stays)
    tells-by new (Err teller.OutOfMemory) number agents told stays =
        inl (old, subst (λ s. (s.broken ≡ false) × (old ≡ s)) (whole-same told) (told, refl), inl stays)

    -- ---- what is heard

    -- why a message is not heard that the last timetable has nothing against
    abbrev refusal_left : Message → Option HearFault
    refusal_left message = if tells_too_many by message then Some fault.TooMany else None

    refusal-by : by.number ≡ last.number → length by.tracks ≡ length last.tracks → (t : Telling) → telling_refusal last t ≡ None → telling_refusal by t ≡ refusal_left t.message
    refusal-by number agents t fine =
        let first = if-none (t.plan == last.number) (message_refusal last t.message) fault.WrongPlan fine in
        let second = unless-none (names_nobody last t.message) (if tells_too_many last t.message then Some fault.TooMany else None) fault.NoSuchAgent first.1 in
        cond-true (t.plan == by.number) (message_refusal by t.message) (Some fault.WrongPlan) (ap (λ n. t.plan == n) number ∙ first.0)
        ∙ cond-false (names_nobody by t.message) (Some fault.NoSuchAgent) (refusal_left t.message)
        (ap (λ n. nat_le n t.message.sender || list_any (λ entry. nat_le n entry.agent) t.message.entries) agents ∙ second)
      where
        if-none : (b : Bool) (o : Option HearFault) (why : HearFault) → (if b then o else Some why) ≡ None → (b ≡ true) × (o ≡ None)
        if-none true o why e = (refl, e)
        if-none false o why e = absurd cc

        unless-none : (b : Bool) (o : Option HearFault) (why : HearFault) → (if b then Some why else o) ≡ None → b ≡ false
        unless-none true o why e = absurd cc
        unless-none false o why e = refl

    abbrev Hearing : Timetable → State → State → List ℕ → Result (ℕ × ℕ) HearFault → Option HearFault → Type 0
    Hearing table s t bytes answer o = MatchOption o ((u : Telling) × BytesTell bytes u × IsTaken table s t u answer) (Refuses s t answer)

    hears-by : (new : State) (bytes : List ℕ) (answer : Result (ℕ × ℕ) HearFault) → by.number ≡ last.number → length by.tracks ≡ length last.tracks
        → ((t : Telling) → BytesTell bytes t → telling_refusal last t ≡ None) → IsHeard by old new bytes answer → Outcome (hears bytes answer) new
    hears-by new bytes answer number agents fine heard = by_broken old.broken refl heard where
      -- by the last timetable, from here
      heard-there : (t : State) → old.broken ≡ false → IsHeard last old t bytes answer → new ≡ t → Outcome (hears bytes answer) new
      heard-there t whole is_heard same = inl (t, subst (λ s. IsHeard last s t bytes answer) (whole-same whole) is_heard, inl same)

      refused-left_out : (why : HearFault) → MayBeLeftOut before (hears bytes (Err why)) → Refuses old new answer why → Outcome (hears bytes answer) new
      refused-left_out why may refuses = inr (subst (λ a. MayBeLeftOut before (hears bytes a)) (sym refuses.0) may, stays-as new refuses.1)

      by_taking : (u : Telling) → BytesTell bytes u → old.broken ≡ false → any_fault bytes ≡ None → (b : Bool) → tells_too_many by u.message ≡ b
          → MatchOption (if b then Some fault.TooMany else None) (Keeps old new u.message answer) (Refuses old new answer) → Outcome (hears bytes answer) new
      by_taking u telling whole none true many refuses = refused-left_out fault.TooMany tt refuses
      by_taking u telling whole none false few keeps =
          let taken : IsTaken last old new u answer = subst (λ o. MatchOption o (Keeps old new u.message answer) (Refuses old new answer)) (sym (fine u telling)) keeps in
          let refusal : bytes_refusal old bytes ≡ None = cond-false old.broken _ _ whole ∙ ap (option_map fault.Message) none in
          heard-there new whole (subst (Hearing last old new bytes answer) (sym refusal) (u, telling, taken)) refl

      by_bytes : old.broken ≡ false → (o : Option MsgFault) → any_fault bytes ≡ o → Hearing by old new bytes answer (option_map fault.Message o) → Outcome (hears bytes answer) new
      by_bytes whole (Some bad) some refuses =
          let refusal : bytes_refusal old bytes ≡ Some (fault.Message bad) = cond-false old.broken _ _ whole ∙ ap (option_map fault.Message) some in
          heard-there old whole (subst (Hearing last old old bytes answer) (sym refusal) (refuses.0, refl)) refuses.1
      by_bytes whole None none takes =
          by_taking takes.0 takes.1 whole none (tells_too_many by takes.0.message) refl
          (subst (λ o. MatchOption o (Keeps old new takes.0.message answer) (Refuses old new answer)) (refusal-by number agents takes.0 (fine takes.0 takes.1)) takes.2)

      by_broken : (b : Bool) → old.broken ≡ b → Hearing by old new bytes answer (if b then Some fault.Broken else option_map fault.Message (any_fault bytes)) → Outcome (hears bytes answer) new
      by_broken true broken refuses = refused-left_out fault.Broken tt refuses
      by_broken false whole rest = by_bytes whole (any_fault bytes) refl rest

    -- ---- every deed

    pub deed-by : (deed : Deed) (new : State) → SharesMoves last by i track (begun_moves new) → IsFine last deed → Does by i track old deed new
        → ((t : State) × Does last i other twin deed t × StandsAs new t) ⊎ (MayBeLeftOut before deed × StandsAs new twin)
    deed-by (opens what count) new shares fine does =
        let fresh : State = record { records = twin.records; heard = []; broken = false } in
        inl (
          fresh,
          (does.0 ∙ held-there new shares (ap (λ s. s.records) does.2), does.1 ∙ finished-there, refl),
          inl (does.2 ∙ ap {B = State} (λ r. record { records = r; heard = []; broken = false }) records-same),
        )
    deed-by (starts answer) new shares fine does = start-by new answer shares does
    deed-by (finishes answer) new shares fine does = elim (finish-by new answer shares does) [
      | inl goes ↦ inl goes
      | inr gone ↦ inr (subst (λ a. MayBeLeftOut before (finishes a)) (sym gone.0) tt, gone.1)
    ]
    deed-by (says answer) new shares fine does = says-by new answer (sym shares.agrees.number) does.0 does.1
    deed-by (tells answer) new shares fine does = tells-by new answer (sym shares.agrees.number) (sym shares.agrees.agents) does.0 does.1
    deed-by (hears bytes answer) new shares fine does = hears-by new bytes answer (sym shares.agrees.number) (sym shares.agrees.agents) fine does
    deed-by (holds what count) new shares fine does =
        inl (twin, (does.0 ∙ held-there new shares (ap (λ s. s.records) does.2), does.1 ∙ finished-there, refl), stays-as new does.2)
    deed-by (looks begun most count) new shares fine does = inr (tt, stays-as new does.2)
    deed-by ends new shares fine does = inl (twin, refl, stays-as new does)
    deed-by stops new shares fine does = inl (twin, refl, stays-as new does)
    deed-by ends_starting new shares fine does = elim (start-by new (Err StoreFailed) shares does) [
      | inl goes ↦ inl goes
      | inr gone ↦ inr (tt, gone.1)
    ]
    deed-by ends_finishing new shares fine does = elim (finish-by new (Err StoreFailed) shares does) [
      | inl goes ↦ inl goes
      | inr gone ↦ absurd (one-failure (Err StoreFailed) refl gone.0)
    ]
