-- What the tape of an agent keeps, and what a write of the due record does to it.
use Rattle.std.proofs.Common.{◌≡◌, ℕ, zero, suc, ◌+◌, ◌*◌, ◌/◌, ◌-◌, ◌<◌, ◌≤◌, ◌++◌, Bool, true, false, List, [], ◌∷◌, length, take, drop, Some, None, inl, inr, refl, sym, ap, subst, ◌∙◌, arith}
use Rattle.std.specs.Prelude.{◌⊎◌, ◌==◌, slice_get}
use Rattle.std.proofs.Math.Nat.{mul-div-le, lt-mul-div-succ, mul-add-div, mul-div_cancel_left, div-eq_of_lt}
use Rattle.std.proofs.Math.Seq.{drop-append_seam}
use Rattle.std.proofs.lemmas.Bool.{cases_lt, cases_Bool, cond-true, cond-false, eq-eqb, true≢false}
use Rattle.std.proofs.lemmas.List.{take-append-le, drop-append-le, drop-take, length-drop, length-take-le, length-append, take_all}
use Rattle.std.proofs.lemmas.Option.{same_Some, none-some, slice_get-get_or}
use Rattle.grid.specs.declared.cell.Cell.{Cell}
use Rattle.model.specs.History.{record_length}
use Rattle.model.specs.Timetable.{Track, Timetable, moves, path, track_of}
use Rattle.model.specs.Rules.{path_cell}
use Rattle.model.specs.Laws.Tracks.{length-path}
use Rattle.agent.specs.Owning.{IsOwn, HasTapeRoom}
use Rattle.agent.specs.Records.{due_record, record_at}
use Rattle.agent.specs.States.{State, finished_moves, is_on_the_way, start_refusal, finish_refusal}
use Rattle.agent.specs.Tape.{TapeState, whole_records, MayRead, MayWrite, IsWrite}
use Rattle.depgraph.specs.AgentParts.{AgentPart, IsPartOf, IsOfGraph}
use Rattle.depgraph.specs.Laws.AgentParts.{own-moves, own-most}

-- ---- how many moves there are

-- an agent makes few moves
pub few-needs : (p : AgentPart) → IsOfGraph p → length p.needs ≤ 65535
few-needs p of = (let few = own-most p of in let count = of.2.need_count in omega (arith, few, count))

-- a number below twice the moves is small
pub few_records : (p : AgentPart) (number : ℕ) → IsOfGraph p → number < 2 * length p.needs → number < 2 * 65535
few_records p number of less = (let few = few-needs p of in omega (arith, less, few))

-- how many moves the agent makes, by either list of its part
pub own-count : (p : AgentPart) → IsOfGraph p → slice_get p.moves p.agent ≡ Some (length p.needs)
own-count p of = own-moves of.0 p of.2 ∙ ap Some (sym of.2.need_count)

-- the track of an agent is that of its part
pub same-track : (tt : Timetable) (p : AgentPart) → (is : IsPartOf tt p) → (track : Track) → track_of tt p.agent ≡ Some track → is.track ≡ track
same-track tt p is track there = same_Some is.track track (sym is.is_track ∙ there)

-- ---- reads and writes that a tape allows

pub may-read : (t : TapeState) (n : ℕ) → n < whole_records t → MayRead t (record_length * n)
may-read t n less = (let whole = mul-div-le (length t.contents) 10 in omega (arith, less, whole))

pub may-write : (t : TapeState) (count : ℕ) → HasTapeRoom count t → whole_records t < 2 * count → MayWrite t (record_length * whole_records t)
may-write t count size less =
    let whole = mul-div-le (length t.contents) 10 in
    let next = lt-mul-div-succ (length t.contents) {b = 10} (omega arith) in
    let room = size.room in
    record {
      within = omega (arith, whole);
      past = omega (arith, next);
      room = omega (arith, less, room);
    }

-- ---- records behind records

take_take : (n m : ℕ) (xs : List ℕ) → n ≤ m → take n (take m xs) ≡ take n xs
take_take zero m xs most = refl
take_take (suc n) zero xs most = absurd (omega (arith, most))
take_take (suc n) (suc m) [] most = refl
take_take (suc n) (suc m) (x ∷ xs) most = ap (λ r. x ∷ r) (take_take n m xs (omega (arith, most)))

module _ (contents tail : List ℕ) (q : ℕ) (fits : 10 * q ≤ length contents) where
  front : length (take (10 * q) contents) ≡ 10 * q
  front = length-take-le (10 * q) contents fits

  -- the earlier records stay
  pub earlier-stays : (n : ℕ) → n < q → record_at (take (10 * q) contents ++ tail) n ≡ record_at contents n
  earlier-stays n less =
      let m = 10 * q - 10 * n in
      let sum : 10 * q ≡ 10 * n + m = omega (arith, less) in
      let part : drop (10 * n) (take (10 * q) contents) ≡ take m (drop (10 * n) contents) =
      ap (λ k. drop (10 * n) (take k contents)) sum ∙ drop-take (10 * n) m contents in
      let count = length-drop (10 * n) (take (10 * q) contents) in
      let many = front in
      ap (take 10) (drop-append-le (10 * n) (take (10 * q) contents) tail (omega (arith, less, many)))
      ∙ take-append-le 10 (drop (10 * n) (take (10 * q) contents)) tail (omega (arith, count, many, less))
      ∙ ap (take 10) part
      ∙ take_take 10 m (drop (10 * n) contents) (omega (arith, less))

  -- a whole record behind them is the next
  pub next-is : length tail ≡ 10 → record_at (take (10 * q) contents ++ tail) q ≡ tail
  next-is ten =
      ap (λ k. take 10 (drop k (take (10 * q) contents ++ tail))) (sym front)
      ∙ ap (take 10) (drop-append_seam (take (10 * q) contents) tail)
      ∙ take_all 10 tail (omega (arith, ten))

  pub count-after : length (take (10 * q) contents ++ tail) ≡ 10 * q + length tail
  count-after = length-append (take (10 * q) contents) tail ∙ ap (λ n. n + length tail) front

-- ---- a write of the due record

module _ (p : AgentPart) (t u : TapeState) (own : IsOwn p t)
    (succeeds : Bool) (write : IsWrite t u (record_length * whole_records t) (due_record p.number p.agent (whole_records t)) succeeds) where
  abbrev q : ℕ
  q = whole_records t

  abbrev due : List ℕ
  due = due_record p.number p.agent q

  fits : 10 * q ≤ length t.contents
  fits = mul-div-le (length t.contents) 10

  -- with so many bytes behind the old records there is none more
  count-short : (tail : List ℕ) → u.contents ≡ take (10 * q) t.contents ++ tail → length tail < 10 → whole_records u ≡ q
  count-short tail is less =
      ap (λ c. length c / 10) is ∙ ap (λ n. n / 10) (count-after t.contents tail q fits) ∙ mul-add-div {m = 10} (omega arith) q (length tail)
      ∙ (let none = div-eq_of_lt less in omega (arith, none))

  count-due : u.contents ≡ take (10 * q) t.contents ++ due → whole_records u ≡ q + 1
  count-due is =
      ap (λ c. length c / 10) is ∙ ap (λ n. n / 10) (count-after t.contents due q fits) ∙ mul-add-div {m = 10} (omega arith) q 10

  earlier-due : (tail : List ℕ) → u.contents ≡ take (10 * q) t.contents ++ tail → (n : ℕ) → n < q → record_at u.contents n ≡ due_record p.number p.agent n
  earlier-due tail is n less = ap (λ c. record_at c n) is ∙ earlier-stays t.contents tail q fits n less ∙ own.due n less

  own-short : (tail : List ℕ) → u.contents ≡ take (10 * q) t.contents ++ tail → length tail < 10 → IsOwn p u
  own-short tail is less = record {
    size = record {
      room = subst (λ r. 2 * record_length * length p.needs ≤ r) (sym write.room) own.size.room;
      limit = subst (λ n. n ≤ 2 * length p.needs) (sym (count-short tail is less)) own.size.limit;
    };
    due = λ n within. earlier-due tail is n (subst (λ m. n < m) (count-short tail is less) within);
  }

  own-due : q < 2 * length p.needs → u.contents ≡ take (10 * q) t.contents ++ due → IsOwn p u
  own-due less is = record {
    size = record {
      room = subst (λ r. 2 * record_length * length p.needs ≤ r) (sym write.room) own.size.room;
      limit = (let count = count-due is in omega (arith, count, less));
    };
    due = λ n within. elim (cases_lt n q) [
      | inl before ↦ earlier-due due is n before
      | inr not_before ↦ (
          let count = count-due is in
          let last : q ≡ n = omega (arith, count, within, not_before) in
          subst (λ m. record_at u.contents m ≡ due_record p.number p.agent m) last (ap (λ c. record_at c q) is ∙ next-is t.contents due q fits refl)
          )
    ];
  }

  -- the tape is still the agent's, and has one record more or the same
  pub own-after : q < 2 * length p.needs → IsOwn p u
  own-after less = elim (cases_Bool succeeds) [
    | inl good ↦ own-due less (write.stores good)
    | inr bad ↦ (let torn = write.tears bad in elim torn.2 [
      | inl short ↦ own-short torn.0 torn.1 short
      | inr all ↦ own-due less (torn.1 ∙ ap (λ r. take (10 * q) t.contents ++ r) all)
    ])
  ]

  pub count-stored : succeeds ≡ true → whole_records u ≡ q + 1
  count-stored good = count-due (write.stores good)

  pub count-torn : succeeds ≡ false → (whole_records u ≡ q) ⊎ (whole_records u ≡ q + 1)
  count-torn bad = (let torn = write.tears bad in elim torn.2 [
    | inl short ↦ inl (count-short torn.0 torn.1 short)
    | inr all ↦ inr (count-due (torn.1 ∙ ap (λ r. take (10 * q) t.contents ++ r) all))
  ])

-- the same over a tape, for the write that the code makes
pub own-written : {T : Type 0} (seen : T → TapeState) (may_write : T → ℕ → List ℕ → Bool → T → Type 0)
    → ((t u : T) (at : ℕ) (bytes : List ℕ) (succeeds : Bool) → MayWrite (seen t) at → length bytes ≡ record_length → may_write t at bytes succeeds u → IsWrite (seen t) (seen u) at bytes succeeds)
    → (p : AgentPart) (tape after : T) → IsOwn p (seen tape) → whole_records (seen tape) < 2 * length p.needs
    → (plan agent number : ℕ) (bytes : List ℕ) (succeeds : Bool) → plan ≡ p.number → agent ≡ p.agent → number ≡ whole_records (seen tape) → bytes ≡ due_record plan agent number
    → may_write tape (record_length * number) bytes succeeds after → IsOwn p (seen after)
own-written seen may_write writes p tape after own less plan agent number bytes succeeds is_plan is_agent is_number is_bytes written =
    let due = due_record p.number p.agent (whole_records (seen tape)) in
    let same = is_bytes ∙ ap (λ n. due_record n agent number) is_plan ∙ ap (λ n. due_record p.number n number) is_agent ∙ ap (due_record p.number p.agent) is_number in
    let whole = subst (λ n. may_write tape (record_length * n) due succeeds after) is_number (subst (λ b. may_write tape (record_length * number) b succeeds after) same written) in
    own-after p (seen tape) (seen after) own succeeds
    (writes tape after (record_length * whole_records (seen tape)) due succeeds (may-write (seen tape) (length p.needs) own.size less) refl whole) less

-- a write that succeeds makes one record more
pub record-more : {T : Type 0} (seen : T → TapeState) (may_write : T → ℕ → List ℕ → Bool → T → Type 0)
    → ((t u : T) (at : ℕ) (bytes : List ℕ) (succeeds : Bool) → MayWrite (seen t) at → length bytes ≡ record_length → may_write t at bytes succeeds u → IsWrite (seen t) (seen u) at bytes succeeds)
    → (p : AgentPart) (tape after : T) → IsOwn p (seen tape) → whole_records (seen tape) < 2 * length p.needs
    → may_write tape (record_length * whole_records (seen tape)) (due_record p.number p.agent (whole_records (seen tape))) true after
    → whole_records (seen after) ≡ whole_records (seen tape) + 1
record-more seen may_write writes p tape after own less wrote =
    count-stored p (seen tape) (seen after) own true
    (writes tape after (record_length * whole_records (seen tape)) _ true (may-write (seen tape) (length p.needs) own.size less) refl wrote) refl

-- ---- a start that is not refused

-- an agent that is not at its end has room for a record
pub start-room : (tt : Timetable) (i : ℕ) (track : Track) (s : State) → start_refusal tt i track s ≡ None → s.records ≤ 2 * moves track → s.records < 2 * moves track
start-room tt i track s none limit = elim (cases_Bool s.broken) [
  | inl broken ↦ absurd (none-some _ (sym none ∙ cond-true s.broken _ _ broken))
  | inr whole ↦ elim (cases_Bool (is_on_the_way s)) [
    | inl moving ↦ absurd (none-some _ (sym none ∙ cond-false s.broken _ _ whole ∙ cond-true (is_on_the_way s) _ _ moving))
    | inr still ↦ elim (cases_Bool (finished_moves s == moves track)) [
      | inl end ↦ absurd (none-some _ (sym none ∙ cond-false s.broken _ _ whole ∙ cond-false (is_on_the_way s) _ _ still ∙ cond-true (finished_moves s == moves track) _ _ end))
      | inr more ↦ elim (cases_lt s.records (2 * moves track)) [
        | inl less ↦ less
        | inr not_less ↦ (
            let all : s.records ≡ 2 * moves track = omega (arith, limit, not_less) in
            absurd (true≢false (sym (eq-eqb (finished_moves s) (moves track) (ap (λ n. n / 2) all ∙ mul-div_cancel_left (moves track) (omega arith))) ∙ more))
            )
      ]
    ]
  ]
]

pub finish-none : (s : State) → s.broken ≡ false → is_on_the_way s ≡ true → finish_refusal s ≡ None
finish-none s whole moving = cond-false s.broken _ _ whole ∙ cond-true (is_on_the_way s) _ _ moving
