-- A start or a finish by an agent that is where the history leaves it: the answer is that of the rules, and the agent is where they leave it.
use Rattle.std.proofs.Common.{◌≡◌, ℕ, ◌+◌, ◌*◌, ◌/◌, ◌≤◌, ◌++◌, Bool, false, List, ◌∷◌, length, take, Some, None, Result, inl, inr, refl, sym, ap, subst, ◌∙◌, arith}
use Rattle.std.specs.Prelude.{◌==◌, Option, if◌then◌else◌, is_ok}
use Rattle.std.proofs.Math.Nat.{mul-div-le, mul-add-div, div-eq_of_lt}
use Rattle.std.proofs.lemmas.Bool.{cases_lt, eq-eqb, ne_eqb, true≢false}
use Rattle.std.proofs.lemmas.List.{length-append, length-take-le}
use Rattle.grid.specs.declared.cell.Cell.{Cell}
use Rattle.model.specs.declared.version.Version.{Version}
use Rattle.model.specs.declared.event.Event.{Event}
use Rattle.model.specs.declared.event.Event.TheVariants.{Start, Finish}
use Rattle.model.specs.History.{Answer, History, moving, arrived, is_store_failed, armed_of, messages}
use Rattle.model.specs.Messages.{Message}
use Rattle.model.specs.Rules.{start_answer, finish_answer, IsRun}
use Rattle.model.specs.Timetable.{Track, Timetable}
use Rattle.agent.specs.Agents.{AgentOn, Moves, state_of}
use Rattle.agent.specs.Counters.{is_heard_of}
use Rattle.agent.specs.Records.{due_record}
use Rattle.agent.specs.States.{start_refusal, finish_refusal, next_cell}
use Rattle.agent.specs.Tape.{TapeState, whole_records, IsTorn}
use Rattle.agent.specs.declared.refusal.Refusal.{Refusal}
use Rattle.agent.specs.declared.counted_tape.CountedTape.{CountedTape}
use Rattle.agent.specs.Replies.{answered}
use Rattle.agent.specs.CountedTape.{counted_state, counted_armed, counted_writes, whole-counted, CountsFor}
use Rattle.depgraph.specs.AgentParts.{IsPartOf}
use Rattle.fleet.specs.Members.{IsLeftBy}
use Rattle.fleet.specs.Laws.Storing.{IsQuiet, quiet-start, quiet-finish, IsStoring, start-stores, finish-stores, ComesOut, GoesBy, start-goes, finish-goes}
use Rattle.executor.specs.Hearing.{heard_of_after, has_heard_of}
use Rattle.executor.specs.Standing.{IsMember}

-- ---- what a torn write adds

-- so many bytes behind the whole records are one record more exactly where they are all ten
pub torn-records : (old new : TapeState) (bytes : List ℕ) (n : ℕ) → n ≤ 10 → length bytes ≡ 10
    → new.contents ≡ take (10 * whole_records old) old.contents ++ take n bytes
    → whole_records new ≡ whole_records old + (if n == 10 then 1 else 0)
torn-records old new bytes n most ten is =
    let q = whole_records old in
    let fits = mul-div-le (length old.contents) 10 in
    let front = length-take-le (10 * q) old.contents fits in
    let back = length-take-le n bytes (omega (arith, most, ten)) in
    let count : length new.contents ≡ 10 * q + n = ap length is ∙ length-append (take (10 * q) old.contents) (take n bytes) ∙ ap (λ k. k + length (take n bytes)) front ∙ ap (λ k. 10 * q + k) back in
    ap (λ k. k / 10) count ∙ mul-add-div {m = 10} (omega arith) q n ∙ ap (λ k. q + k) (tenth n most)
  where
    tenth : (n : ℕ) → n ≤ 10 → n / 10 ≡ (if n == 10 then 1 else 0)
    tenth n most = elim (cases_lt n 10) [
      | inl less ↦ div-eq_of_lt less ∙ sym (ap (λ b. if b then 1 else 0) (ne_eqb n 10 (λ same. omega (arith, less, same))))
      | inr all ↦ (let same : n ≡ 10 = omega (arith, most, all) in ap (λ k. k / 10) same ∙ sym (ap (λ b. if b then 1 else 0) (eq-eqb n 10 same)))
    ]

-- ---- whose records a tape counts

-- a tape that is the same
pub same_tape : (t u : CountedTape) → u ≡ t → CountsFor t.plan t.agent u
same_tape t u same = record { plan_is = ap (λ x. x.plan) same; agent_is = ap (λ x. x.agent) same }

-- one that was written or armed goes on counting those of the agent
pub counts_on : (a b : AgentOn CountedTape) → CountsFor a.part.number a.part.agent a.tape → b.part ≡ a.part → CountsFor a.tape.plan a.tape.agent b.tape
    → CountsFor b.part.number b.part.agent b.tape
counts_on a b is part whose = record {
  plan_is = whose.plan_is ∙ is.plan_is ∙ sym (ap (λ p. p.number) part);
  agent_is = whose.agent_is ∙ is.agent_is ∙ sym (ap (λ p. p.agent) part);
}

-- ---- how the write of a counting tape comes out

module _ (v : Version) (table : Timetable) (h : History) (i : ℕ) (track : Track) (a b : AgentOn CountedTape) (is : IsMember v table h i a) (answer : Result Cell Refusal) where
  abbrev due : List ℕ
  due = due_record a.part.number a.part.agent (whole_records (counted_state a.tape))

  abbrev TornBy : Option ℕ → Type 0
  TornBy tear = IsTorn tear (counted_armed b.tape) (counted_state a.tape) (counted_state b.tape) (10 * whole_records (counted_state a.tape)) due (is_ok answer)

  -- it is written where the tape counts the next record
  place : 10 * whole_records (counted_state a.tape) ≡ 10 * a.tape.records
  place = ap (λ n. 10 * n) (whole-counted a.tape)

  is_due : due ≡ due_record a.tape.plan a.tape.agent a.tape.records
  is_due = ap (due_record a.part.number a.part.agent) (whole-counted a.tape) ∙ ap (λ p. due_record p a.part.agent a.tape.records) (sym is.counts.plan_is)
      ∙ ap (λ k. due_record a.tape.plan k a.tape.records) (sym is.counts.agent_is)

  torn-by : Moves counted_state counted_writes table track None a b answer → (tear : Option ℕ) → counted_armed a.tape ≡ tear → TornBy tear
  torn-by moves tear armed = subst TornBy armed (moves.tape.due place is_due)

  -- as the tape was armed
  comes-out : Moves counted_state counted_writes table track None a b answer → (tear : Option ℕ) → counted_armed a.tape ≡ tear
      → ComesOut tear (state_of counted_state a) (state_of counted_state b) (next_cell track (state_of counted_state a)) answer
  comes-out moves None unarmed = elim moves.state.outcome [
    | inl good ↦ (good.0, good.1, moves.state.heard, good.2)
    | inr bad ↦ absurd (true≢false (sym (torn-by moves None unarmed).0 ∙ ap is_ok bad.0))
  ]
  comes-out moves (Some n) armed = elim moves.state.outcome [
    | inl good ↦ absurd (true≢false (sym (ap is_ok good.0) ∙ (torn-by moves (Some n) armed).0))
    | inr bad ↦ (
      bad.0,
      torn-records (counted_state a.tape) (counted_state b.tape) due n (a.tape.in_record n armed) refl (torn-by moves (Some n) armed).2,
      moves.state.heard,
      bad.2,
    )
  ]

  goes-by : (o : Option Refusal) → Moves counted_state counted_writes table track o a b answer
      → GoesBy o (armed_of h i) (state_of counted_state a) (state_of counted_state b) (next_cell track (state_of counted_state a)) answer
  goes-by None moves =
      subst (λ tear. ComesOut tear (state_of counted_state a) (state_of counted_state b) (next_cell track (state_of counted_state a)) answer) is.armed
      (comes-out moves (counted_armed a.tape) refl)
  goes-by (Some why) moves = moves.state

  -- what the tape is then armed with, and whose records it counts
  leaves : (o : Option Refusal) (of : Cell → Answer) → ((c : Cell) → is_store_failed (of c) ≡ false) → ((why : Refusal) → o ≡ Some why → IsQuiet why) → Moves counted_state counted_writes table track o
      a b answer
      → (counted_armed b.tape ≡ (if is_store_failed (answered of answer) then None else counted_armed a.tape)) × CountsFor a.tape.plan a.tape.agent b.tape
  leaves (Some why) of fine quiet moves = (
    ap counted_armed moves.tape ∙ sym (ap (λ t. if t then None else counted_armed a.tape) (ap is_store_failed (ap (answered of) moves.state.0) ∙ (quiet why refl).1)),
    same_tape a.tape b.tape moves.tape,
  )
  leaves None of fine quiet moves = (by (counted_armed a.tape) refl, moves.tape.whose) where
    by : (tear : Option ℕ) → counted_armed a.tape ≡ tear → counted_armed b.tape ≡ (if is_store_failed (answered of answer) then None else counted_armed a.tape)
    by None unarmed =
        let out = comes-out moves None unarmed in
        (torn-by moves None unarmed).1 ∙ sym unarmed ∙ sym (ap (λ t. if t then None else counted_armed a.tape)
        (ap is_store_failed (ap (answered of) out.0) ∙ fine (next_cell track (state_of counted_state a))))
    by (Some n) armed =
        let out = comes-out moves (Some n) armed in
        (torn-by moves (Some n) armed).1 ∙ sym (ap (λ t. if t then None else counted_armed a.tape) (ap is_store_failed (ap (answered of) out.0)))

  -- so it is a member where the state of one stands
  member-goes : (event : Event) (of : Cell → Answer) → IsStoring event of i
      → ((r : Answer) (ms : List Message) (j : ℕ) (before : Bool) → heard_of_after event r ms i j before ≡ before)
      → (o : Option Refusal) → ((why : Refusal) → o ≡ Some why → IsQuiet why) → Moves counted_state counted_writes table track o a b answer
      → b.heard ≡ a.heard → IsLeftBy v table (record { event = event; answer = answered of answer } ∷ h) i (state_of counted_state b)
      → IsMember v table (record { event = event; answer = answered of answer } ∷ h) i b
  member-goes event of storing heard_of o quiet moves same stands =
      let left = leaves o of storing.fine quiet moves in
      record {
        part = subst (IsPartOf table) (sym moves.part) is.part;
        id = ap (λ p. p.agent) moves.part ∙ is.id;
        stands = stands;
        counts = counts_on a b is.counts moves.part left.1;
        armed = left.0 ∙ ap (λ x. if is_store_failed (answered of answer) then None else x) is.armed ∙ sym (storing.armed (answered of answer) (armed_of h i));
        heard_of = λ j. ap (λ l. is_heard_of l j) same ∙ is.heard_of j ∙ sym (heard_of (answered of answer) (messages v table h) j (has_heard_of v table h i j));
      }

  same-heard : (o : Option Refusal) → Moves counted_state counted_writes table track o a b answer → b.heard ≡ a.heard
  same-heard None moves = moves.state.heard
  same-heard (Some why) moves = ap (λ s. s.heard) moves.state.1

  module _ (run : IsRun v table h) where
    pub start-member : Moves counted_state counted_writes table track (start_refusal table i track (state_of counted_state a)) a b answer
        → (answered moving answer ≡ start_answer v table h i track) × IsMember v table (record { event = Start i; answer = answered moving answer } ∷ h) i b
    start-member moves =
        let o = start_refusal table i track (state_of counted_state a) in
        let goes = start-goes v table h run i track (state_of counted_state a) (state_of counted_state b) is.stands answer (goes-by o moves) in
        (goes.0, member-goes (Start i) moving (start-stores i) (λ r ms j before. refl) o (quiet-start table i track (state_of counted_state a)) moves (same-heard o moves) goes.1)

    pub finish-member : Moves counted_state counted_writes table track (finish_refusal (state_of counted_state a)) a b answer
        → (answered arrived answer ≡ finish_answer h i track) × IsMember v table (record { event = Finish i; answer = answered arrived answer } ∷ h) i b
    finish-member moves =
        let o = finish_refusal (state_of counted_state a) in
        let goes = finish-goes v table h run i track (state_of counted_state a) (state_of counted_state b) is.stands answer (goes-by o moves) in
        (goes.0, member-goes (Finish i) arrived (finish-stores i) (λ r ms j before. refl) o (quiet-finish (state_of counted_state a)) moves (same-heard o moves) goes.1)
