-- Agents that wait for one another while all are brought to their ends.
use Rattle.std.proofs.Common.{◌≡◌, ℕ, zero, suc, ◌+◌, ◌-◌, ◌*◌, ◌<◌, ◌≤◌, List, [], ◌∷◌, ◌++◌, length, take, Some, None, inl, inr, arith, refl, sym, ap, subst, ◌∙◌}
use Rattle.std.specs.Prelude.{Option, slice_get}
use Rattle.std.proofs.Math.Nat.{suc-mul}
use Rattle.std.proofs.lemmas.Bool.{cases_lt, cases_eq}
use Rattle.std.proofs.lemmas.List.{length-append, length-take-le}
use Rattle.std.proofs.lemmas.Option.{same_Some, none-some, slice_get_within}
use Rattle.model.specs.Dependency.{WaitsFor, need}
use Rattle.model.specs.Timetable.{Track, moves, track_of, IsConflictFree, IsSwapFree}
use Rattle.model.specs.Laws.Needs.{awaits}
use Rattle.model.specs.Laws.Waits.{last-within, twice, rotation}
use Rattle.executor.specs.Code.Leading.{EndingState, finished_in, LeadsOn, IsOf, HasLeft, HasMoved}
use Rattle.executor.specs.Code.Waiting.{HasNoRotation, IsWaiting, last_of, HaveRisen, moves_left, way_left, GoesNearer}
use Rattle.executor.proofs.LeadLemmas.{get-front, get-last}

-- ---- lists

take-get : {X : Type 0} (l : List X) (n k : ℕ) (x : X) → slice_get (take n l) k ≡ Some x → (slice_get l k ≡ Some x) × (k < n)
take-get [] zero k x there = absurd (none-some x there)
take-get [] (suc n) k x there = absurd (none-some x there)
take-get (y ∷ l) zero k x there = absurd (none-some x there)
take-get (y ∷ l) (suc n) zero x there = (there, omega arith)
take-get (y ∷ l) (suc n) (suc k) x there = (let rest = take-get l n k x there in let less = rest.1 in (rest.0, omega (arith, less)))

pub last-there : (agent : ℕ) (waiting : List ℕ) → slice_get (agent ∷ waiting) (length waiting) ≡ Some (last_of agent waiting)
last-there agent [] = refl
last-there agent (j ∷ waiting) = last-there j waiting

pub last-more : (agent : ℕ) (waiting : List ℕ) (j : ℕ) → last_of agent (waiting ++ j ∷ []) ≡ j
last-more agent [] j = refl
last-more agent (i ∷ waiting) j = last-more i waiting j

-- ---- moves that are left

moves_left-same : (tracks : List Track) (first : ℕ) (old new : ℕ → ℕ) → ((k : ℕ) → first ≤ k → new k ≡ old k) → moves_left tracks first new ≡ moves_left tracks first old
moves_left-same [] first old new same = refl
moves_left-same (track ∷ tracks) first old new same =
    let rest = moves_left-same tracks (first + 1) old new (λ k most. same k (omega (arith, most))) in
    let here = same first (omega arith) in
    omega (arith, rest, here)

moves_left-less : (tracks : List Track) (first i at : ℕ) (track : Track) (old new : ℕ → ℕ) → at ≡ first + i → slice_get tracks i ≡ Some track
    → old at < moves track → new at ≡ old at + 1 → ((k : ℕ) → (k ≡ at → ⊥) → new k ≡ old k) → moves_left tracks first old ≡ suc (moves_left tracks first new)
moves_left-less [] first i at track old new place there less own others = absurd (none-some track there)
moves_left-less (head ∷ tracks) first zero at track old new place there less own others =
    let rest = moves_left-same tracks (first + 1) old new (λ k most. others k (λ e. omega (arith, e, most, place))) in
    let here : at ≡ first = omega (arith, place) in
    let grown = subst (λ n. new n ≡ old n + 1) here own in
    let left = subst (λ t. old first < moves t) (sym (same_Some head track there)) (subst (λ n. old n < moves track) here less) in
    omega (arith, rest, grown, left)
moves_left-less (head ∷ tracks) first (suc i) at track old new place there less own others =
    let rest = moves_left-less tracks (first + 1) i at track old new (omega (arith, place)) there less own others in
    let here = others first (λ e. omega (arith, e, place)) in
    omega (arith, rest, here)

-- ---- chains

module _ (s : EndingState) (free : IsConflictFree s.timetable) (unswapped : IsSwapFree s.timetable) (still : HasNoRotation s.timetable) (agent : ℕ) (waiting : List ℕ)
    (chain : IsWaiting s agent waiting) where
  -- none comes twice
  once : (p q i : ℕ) → p < q → slice_get (agent ∷ waiting) p ≡ Some i → slice_get (agent ∷ waiting) q ≡ Some i → ⊥
  once p q i less first second =
      let turns = twice s.timetable (finished_in s.standings) free unswapped (agent ∷ waiting) chain.waits p q i less first second in
      still turns.0 turns.1 turns.2

  there-all : agent < length s.timetable.tracks → (place i : ℕ) → slice_get (agent ∷ waiting) place ≡ Some i → i < length s.timetable.tracks
  there-all within zero i there = subst (λ n. n < length s.timetable.tracks) (same_Some agent i there) within
  there-all within (suc place) i there = (let left = chain.left place i there in slice_get_within s.timetable.tracks i left.0 left.1)

  -- and so they are not more than there are
  pub chain-short : agent < length s.timetable.tracks → length waiting < length s.timetable.tracks
  chain-short within = elim (cases_lt (length waiting) (length s.timetable.tracks)) [
    | inl less ↦ less
    | inr past ↦ absurd (
        let turns = rotation s.timetable (finished_in s.standings) free unswapped (agent ∷ waiting) chain.waits (there-all within) (omega (arith, past)) in
        still turns.0 turns.1 turns.2)
  ]

  -- whom the last one waits for is one more
  pub chain-more : (j : ℕ) → WaitsFor s.timetable (finished_in s.standings) (last_of agent waiting) j → IsWaiting s agent (waiting ++ j ∷ [])
  chain-more j w = record {
    waits = λ place i k here next.
        elim (cases_lt (place + 1) (length (agent ∷ waiting))) [
          | inl less ↦ chain.waits place i k (sym (get-front (agent ∷ waiting) (j ∷ []) place (omega (arith, less))) ∙ here) (sym (get-front (agent ∷ waiting) (j ∷ []) (place + 1) less) ∙ next)
          | inr past ↦
              let within = slice_get_within (agent ∷ (waiting ++ j ∷ [])) (place + 1) k next in
              let count = length-append waiting (j ∷ []) in
              let at : place ≡ length waiting = omega (arith, past, within, count) in
              let end : place + 1 ≡ length (agent ∷ waiting) = omega (arith, at) in
              let is_last = same_Some (last_of agent waiting) i (sym (last-there agent waiting) ∙ ap (slice_get (agent ∷ waiting)) (sym at)
              ∙ sym (get-front (agent ∷ waiting) (j ∷ []) place (omega (arith, at))) ∙ here) in
              let is_j = same_Some j k (sym (get-last (agent ∷ waiting) j) ∙ ap (slice_get (agent ∷ (waiting ++ j ∷ []))) (sym end) ∙ next) in
              subst (λ n. WaitsFor s.timetable (finished_in s.standings) n k) is_last (subst (WaitsFor s.timetable (finished_in s.standings) (last_of agent waiting)) is_j w)
        ];
    left = λ place i there.
        elim (cases_lt place (length waiting)) [
          | inl less ↦ chain.left place i (sym (get-front waiting (j ∷ []) place less) ∙ there)
          | inr past ↦
              let within = slice_get_within (waiting ++ j ∷ []) place i there in
              let count = length-append waiting (j ∷ []) in
              let at : place ≡ length waiting = omega (arith, past, within, count) in
              let is_j = same_Some j i (sym (get-last waiting j) ∙ ap (slice_get (waiting ++ j ∷ [])) (sym at) ∙ there) in
              subst (HasLeft s) is_j (left-too j w)
        ];
  } where
    left-too : (j : ℕ) → (w : WaitsFor s.timetable (finished_in s.standings) (last_of agent waiting) j) → HasLeft s j
    left-too j w =
        let a = awaits s.timetable (last_of agent waiting) w.track (finished_in s.standings (last_of agent waiting)) (record { agent = j; count = w.count }) free w.is_track w.left w.asks in
        let within = last-within s.timetable (last_of agent waiting) w.track (finished_in s.standings (last_of agent waiting)) (record { agent = j; count = w.count }) a in
        let count = a.count in
        let unmet = w.unmet in
        (a.to, a.is_to, omega (arith, within, count, unmet))

  -- the last one has moved, and the others wait on
  pub chain-fewer : (new : EndingState) → IsOf s new → HasMoved (last_of agent waiting) s.standings new.standings → IsWaiting new agent (take (length waiting - 1) waiting)
  chain-fewer new same moved = record {
    waits = λ place i j here next.
        let first = in_front place i here (omega arith) in
        let second = before place j next in
        let w = chain.waits place i j first (second.0) in
        still-waits i j w (apart place i first (let less = second.1 in omega (arith, less))) (apart (place + 1) j second.0 second.1);
    left = λ place i there.
        let is = take-get waiting (length waiting - 1) place i there in
        let left = chain.left place i is.0 in
        let less = is.1 in
        let other = apart (suc place) i is.0 (omega (arith, less)) in
        let stays = moved.others i other in
        let left_then = left.2 in
        (left.0, ap (λ t. track_of t i) same.timetable ∙ left.1, omega (arith, left_then, stays));
  } where
    in_front : (place i : ℕ) → slice_get (agent ∷ take (length waiting - 1) waiting) place ≡ Some i → zero ≤ place → slice_get (agent ∷ waiting) place ≡ Some i
    in_front zero i here any = here
    in_front (suc place) i here any = (take-get waiting (length waiting - 1) place i here).0

    before : (place j : ℕ) → slice_get (agent ∷ take (length waiting - 1) waiting) (place + 1) ≡ Some j → (slice_get (agent ∷ waiting) (place + 1) ≡ Some j) × (place + 1 < length waiting)
    before place j next =
        let one : place + 1 ≡ suc place = omega arith in
        let is = take-get waiting (length waiting - 1) place j (ap (slice_get (agent ∷ take (length waiting - 1) waiting)) (sym one) ∙ next) in
        let less = is.1 in
        (ap (slice_get (agent ∷ waiting)) one ∙ is.0, omega (arith, less))

    apart : (place i : ℕ) → slice_get (agent ∷ waiting) place ≡ Some i → place < length waiting → i ≡ last_of agent waiting → ⊥
    apart place i here less same_agent = once place (length waiting) i less here (last-there agent waiting ∙ ap {A = ℕ} {B = Option ℕ} (λ n. Some n) (sym same_agent))

    still-waits : (i j : ℕ) → WaitsFor s.timetable (finished_in s.standings) i j → (i ≡ last_of agent waiting → ⊥) → (j ≡ last_of agent waiting → ⊥)
        → WaitsFor new.timetable (finished_in new.standings) i j
    still-waits i j w apart_i apart_j =
        let own = moved.others i apart_i in
        let its = moved.others j apart_j in
        let left = w.left in
        let unmet = w.unmet in
        subst (λ t. WaitsFor t (finished_in new.standings) i j) (sym same.timetable) (record {
          track = w.track;
          count = w.count;
          is_track = w.is_track;
          left = omega (arith, left, own);
          asks = ap (need s.timetable i w.track) own ∙ w.asks;
          unmet = omega (arith, unmet, its);
        })

-- ---- the way that is left

pub nearer-more : (s new : EndingState) (waiting more : List ℕ) → new.timetable ≡ s.timetable → ((k : ℕ) → finished_in new.standings k ≡ finished_in s.standings k)
    → length more ≡ length waiting + 1 → length waiting < length s.timetable.tracks → way_left new more < way_left s waiting
nearer-more s new waiting more table same count less =
    let left = moves_left-same s.timetable.tracks 0 (finished_in s.standings) (finished_in new.standings) (λ k most. same k) in
    let product = ap (λ n. n * (length s.timetable.tracks + 1)) left in
    subst (λ t. moves_left t.tracks 0 (finished_in new.standings) * (length t.tracks + 1) + (length t.tracks - length more) < way_left s waiting) (sym table)
    (omega (arith, product, count, less))

pub nearer-moved : (s new : EndingState) (waiting fewer : List ℕ) (i : ℕ) → IsOf s new → HasMoved i s.standings new.standings → HasLeft s i
    → length waiting < length s.timetable.tracks → length waiting ≤ length fewer + 1 → way_left new fewer < way_left s waiting
nearer-moved s new waiting fewer i same moved left short count =
    let less = moves_left-less s.timetable.tracks 0 i i left.0 (finished_in s.standings) (finished_in new.standings) (omega arith) left.1 left.2 moved.own moved.others in
    let product = ap (λ n. n * (length s.timetable.tracks + 1)) less ∙ suc-mul (moves_left s.timetable.tracks 0 (finished_in new.standings)) (length s.timetable.tracks + 1) in
    subst (λ t. moves_left t.tracks 0 (finished_in new.standings) * (length t.tracks + 1) + (length t.tracks - length fewer) < way_left s waiting) (sym same.timetable)
    (omega (arith, product, short, count))

-- ---- what stays so

pub risen-moved : (s new : EndingState) (i : ℕ) → HasMoved i s.standings new.standings → HaveRisen s new
risen-moved s new i moved k = elim (cases_eq k i) [
  | inl own ↦
      let grown = moved.own in
      let now = ap (finished_in new.standings) own in
      let was = ap (finished_in s.standings) own in
      omega (arith, grown, now, was)
  | inr apart ↦ (let stays = moved.others k apart in omega (arith, stays))
]

-- the element at the end is the last one
pub last-is : (agent : ℕ) (waiting : List ℕ) (x : ℕ) → slice_get waiting (length waiting - 1) ≡ Some x → x ≡ last_of agent waiting
last-is agent [] x there = absurd (none-some x there)
last-is agent (j ∷ waiting) x there =
    let end : length (j ∷ waiting) - 1 ≡ length waiting = omega arith in
    same_Some x (last_of j waiting) (sym there ∙ ap (slice_get (j ∷ waiting)) end ∙ last-there j waiting)

pub none-last : (waiting : List ℕ) → slice_get waiting (length waiting - 1) ≡ None → waiting ≡ []
none-last [] none = refl
none-last (j ∷ waiting) none =
    let end : length (j ∷ waiting) - 1 ≡ length waiting = omega arith in
    absurd (none-some (last_of j waiting) (sym none ∙ ap (slice_get (j ∷ waiting)) end ∙ last-there j waiting))

-- one step on by one that waits for another
pub waits-nearer : (s : EndingState) → IsConflictFree s.timetable → IsSwapFree s.timetable → HasNoRotation s.timetable → (agent : ℕ) (waiting : List ℕ)
    → IsWaiting s agent waiting → agent < length s.timetable.tracks → (j : ℕ) → WaitsFor s.timetable (finished_in s.standings) (last_of agent waiting) j
    → GoesNearer agent s s waiting (waiting ++ j ∷ [])
waits-nearer s free unswapped still agent waiting chain there j w = record {
  same = record { timetable = refl; agents = refl };
  count = refl;
  leads = λ v h begins was. was;
  risen = λ k. omega arith;
  chain = chain-more s free unswapped still agent waiting chain j w;
  nearer = nearer-more s s waiting (waiting ++ j ∷ []) refl (λ k. refl) (length-append waiting (j ∷ [])) (chain-short s free unswapped still agent waiting chain there);
}

-- and by one that moves
pub moves-nearer : (s new : EndingState) → IsConflictFree s.timetable → IsSwapFree s.timetable → HasNoRotation s.timetable → (agent : ℕ) (waiting : List ℕ)
    → IsWaiting s agent waiting → agent < length s.timetable.tracks → HasLeft s (last_of agent waiting)
    → IsOf s new → LeadsOn s new → HasMoved (last_of agent waiting) s.standings new.standings
    → GoesNearer agent s new waiting (take (length waiting - 1) waiting)
moves-nearer s new free unswapped still agent waiting chain there left same leads moved = record {
  same = same;
  count = moved.count;
  leads = leads;
  risen = risen-moved s new (last_of agent waiting) moved;
  chain = chain-fewer s free unswapped still agent waiting chain new same moved;
  nearer = nearer-moved s new waiting (take (length waiting - 1) waiting) (last_of agent waiting) same moved left
      (chain-short s free unswapped still agent waiting chain there)
      (let count = length-take-le (length waiting - 1) waiting (omega arith) in omega (arith, count));
}
