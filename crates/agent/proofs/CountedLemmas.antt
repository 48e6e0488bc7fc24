-- The bytes of a tape that counts records.
use Rattle.std.proofs.Common.{◌≡◌, ℕ, ◌+◌, ◌-◌, ◌*◌, ◌/◌, ◌%◌, ◌<◌, ◌≤◌, zero, suc, inl, inr, true}
use Rattle.std.proofs.Common.{false, List, [], ◌++◌, length, take, get_or, Some, None, refl, sym}
use Rattle.std.proofs.Common.{ap, subst, ◌∙◌, arith, add-one, append-nil}
use Rattle.std.specs.Prelude.{◌⊎◌}
use Rattle.std.proofs.Math.Seq.{take-append-add}
use Rattle.std.proofs.lemmas.Bool.{cases_lt, true≢false}
use Rattle.std.proofs.lemmas.List.{get_or-take, get_or_append_left, get_or-append_right, length-take-le, take-append-le, take-take, take_all}
use Rattle.agent.specs.Records.{due_record}
use Rattle.agent.specs.DueRecords.{due_records, length-due_records}
use Rattle.agent.specs.CountedTape.{counted_bytes, counted_state, counted_armed, CountsFor, IsCountedWrite}
use Rattle.agent.specs.Tape.{HasFailed, IsTorn}
use Rattle.agent.specs.declared.counted_tape.CountedTape.{CountedTape}

-- one record more
pub due_records_more : (plan agent n : ℕ) → due_records plan agent (n + 1) ≡ due_records plan agent n ++ due_record plan agent n
due_records_more plan agent n = ap (due_records plan agent) (add-one n)

-- whole records and none of the next one
pub whole_bytes : (plan agent n : ℕ) → counted_bytes plan agent n 0 ≡ due_records plan agent n
whole_bytes plan agent n = append-nil (due_records plan agent n)

-- all bytes of the next record are one record more
pub full_bytes : (plan agent n : ℕ) → due_records plan agent n ++ due_record plan agent n ≡ counted_bytes plan agent (n + 1) 0
full_bytes plan agent n = sym (whole_bytes plan agent (n + 1) ∙ due_records_more plan agent n)

-- the bytes before a place behind the whole records
pub kept_behind : (plan agent n torn at more : ℕ) → at ≡ 10 * n + more → more ≤ torn → take at (counted_bytes plan agent n torn) ≡ counted_bytes plan agent n more
kept_behind plan agent n torn at more place within =
    let counted = length-due_records plan agent n in
    let rest = take torn (due_record plan agent n) in
    let front = due_records plan agent n in
    let behind : at ≡ length front + more = omega (arith, counted, place) in
    ap (λ k. take k (front ++ rest)) behind ∙ take-append-add front rest more ∙ ap (λ r. front ++ r) (take-take more torn (due_record plan agent n) within)

-- and before one within the last whole record
pub kept_within : (plan agent n torn at more : ℕ) → at ≡ 10 * n + more → more ≤ 10 → take at (counted_bytes plan agent (n + 1) torn) ≡ counted_bytes plan agent n more
kept_within plan agent n torn at more place within =
    let counted = length-due_records plan agent (n + 1) in
    let before = length-due_records plan agent n in
    let front = due_records plan agent n in
    let behind : at ≡ length front + more = omega (arith, before, place) in
    take-append-le at (due_records plan agent (n + 1)) (take torn (due_record plan agent (n + 1))) (omega (arith, counted, place, within))
    ∙ ap (take at) (due_records_more plan agent n) ∙ ap (λ k. take k (front ++ due_record plan agent n)) behind ∙ take-append-add front (due_record plan agent n) more

-- the whole records alone
pub kept_whole : (plan agent n torn : ℕ) → take (10 * n) (counted_bytes plan agent n torn) ≡ due_records plan agent n
kept_whole plan agent n torn = kept_behind plan agent n torn (10 * n) 0 (omega arith) (omega arith) ∙ whole_bytes plan agent n

-- a byte of whole records stands in the record at its place
byte_of_whole : (plan agent n at : ℕ) → at < 10 * n → get_or (due_records plan agent n) at 0 ≡ get_or (due_record plan agent (at / 10)) (at % 10) 0
byte_of_whole plan agent zero at within = absurd (omega (arith, within))
byte_of_whole plan agent (suc n) at within =
    (let counted = length-due_records plan agent n in
    let front = due_records plan agent n in
    let last = due_record plan agent n in
    elim (cases_lt at (10 * n)) [
      | inl before ↦ get_or_append_left front last 0 at (omega (arith, counted, before)) ∙ byte_of_whole plan agent n at before
      | inr behind ↦ (
          let here : n ≡ at / 10 = omega (arith, within, behind) in
          let place : at - 10 * n ≡ at % 10 = omega (arith, within, behind) in
          get_or-append_right front last (10 * n) at 0 counted behind ∙ (ap (λ p. get_or last p 0) place ∙ ap (λ k. get_or (due_record plan agent k) (at % 10) 0) here)
          )
    ])

-- and so does one of a beginning of the next
pub byte_of_record : (plan agent n torn at : ℕ) → torn < 10 → at < 10 * n + torn → get_or (counted_bytes plan agent n torn) at 0 ≡ get_or (due_record plan agent (at / 10)) (at % 10) 0
byte_of_record plan agent n torn at part within =
    (let counted = length-due_records plan agent n in
    let front = due_records plan agent n in
    let rest = take torn (due_record plan agent n) in
    elim (cases_lt at (10 * n)) [
      | inl before ↦ get_or_append_left front rest 0 at (omega (arith, counted, before)) ∙ byte_of_whole plan agent n at before
      | inr behind ↦ (
          let here : n ≡ at / 10 = omega (arith, part, within, behind) in
          let place : at - 10 * n ≡ at % 10 = omega (arith, part, within, behind) in
          get_or-append_right front rest (10 * n) at 0 counted behind
          ∙ get_or-take torn (due_record plan agent n) (at - 10 * n) 0 (omega (arith, within, behind))
          ∙ (ap (λ p. get_or (due_record plan agent n) p 0) place ∙ ap (λ k. get_or (due_record plan agent k) (at % 10) 0) here)
          )
    ])

-- the bytes before a place at which a record may be written
pub kept : (plan agent n torn at : ℕ) → torn < 10 → at ≤ 10 * n + torn → 10 * n + torn < at + 10 → take at (counted_bytes plan agent n torn) ≡ counted_bytes plan agent (at / 10) (at % 10)
kept plan agent n torn at part within past =
    elim (cases_lt at (10 * n)) [
      | inl before ↦ (
          let here : n ≡ at / 10 + 1 = omega (arith, part, before, past) in
          ap (λ k. take at (counted_bytes plan agent k torn)) here ∙ kept_within plan agent (at / 10) torn at (at % 10) (omega arith) (omega arith)
          )
      | inr behind ↦ (
          let here : n ≡ at / 10 = omega (arith, part, within, behind) in
          kept_behind plan agent n torn at (at % 10) (omega (arith, here)) (omega (arith, within, behind, here)) ∙ ap (λ k. counted_bytes plan agent k (at % 10)) here
          )
    ]

-- so many bytes of the next record behind the whole ones
pub torn_behind : (plan agent n torn stored : ℕ) → stored ≤ 10
    → counted_bytes plan agent (n + stored / 10) (stored % 10) ≡ take (10 * n) (counted_bytes plan agent n torn) ++ take stored (due_record plan agent n)
torn_behind plan agent n torn stored most =
    by_part (cases_lt stored 10) ∙ sym (ap (λ f. f ++ take stored (due_record plan agent n)) (kept_whole plan agent n torn))
  where
    by_part : (stored < 10) ⊎ (10 ≤ stored) → counted_bytes plan agent (n + stored / 10) (stored % 10) ≡ due_records plan agent n ++ take stored (due_record plan agent n)
    by_part (inl less) = (let none : n + stored / 10 ≡ n = omega (arith, less) in let all : stored % 10 ≡ stored = omega (arith, less) in
        ap (λ k. counted_bytes plan agent k (stored % 10)) none ∙ ap (counted_bytes plan agent n) all)
    by_part (inr full) = (let one : n + stored / 10 ≡ n + 1 = omega (arith, full, most) in let none : stored % 10 ≡ 0 = omega (arith, full, most) in
        ap (λ k. counted_bytes plan agent k (stored % 10)) one ∙ ap (counted_bytes plan agent (n + 1)) none ∙ sym (full_bytes plan agent n)
        ∙ sym (ap (λ r. due_records plan agent n ++ r) (take_all stored (due_record plan agent n) full)))

-- the next record behind the whole ones
pub stored_behind : (plan agent n torn : ℕ) → counted_bytes plan agent (n + 1) 0 ≡ take (10 * n) (counted_bytes plan agent n torn) ++ due_record plan agent n
stored_behind plan agent n torn = sym (ap (λ f. f ++ due_record plan agent n) (kept_whole plan agent n torn) ∙ full_bytes plan agent n)

-- ---- what a write leaves

-- other bytes than are due
pub refused : (t u : CountedTape) (at : ℕ) (bytes : List ℕ) → (at ≡ 10 * t.records → bytes ≡ due_record t.plan t.agent t.records → ⊥)
    → (counted_state u).contents ≡ take at (counted_state t).contents → (counted_state u).room ≡ (counted_state t).room
    → HasFailed (counted_state t).failures (counted_state u).failures → CountsFor t.plan t.agent u → IsCountedWrite t at bytes false u
refused t u at bytes other contents room failed whose = record {
  written = record {
    room = room;
    stores = λ good. absurd (true≢false (sym good));
    tears = λ bad. ([], contents ∙ sym (append-nil (take at (counted_state t).contents)), inl (omega arith));
    counts = λ good. absurd (true≢false (sym good));
    fails = λ bad. failed;
  };
  due = λ place is. absurd (other place is);
  whose = whose;
}

-- the record that is due, where the tape was armed
pub torn : (t u : CountedTape) (at n : ℕ) (bytes : List ℕ) → at ≡ 10 * t.records → bytes ≡ due_record t.plan t.agent t.records → counted_armed t ≡ Some n → n ≤ 10
    → (counted_state u).contents ≡ take (10 * t.records) (counted_state t).contents ++ take n (due_record t.plan t.agent t.records)
    → counted_armed u ≡ None → (counted_state u).room ≡ (counted_state t).room
    → HasFailed (counted_state t).failures (counted_state u).failures → CountsFor t.plan t.agent u → IsCountedWrite t at bytes false u
torn t u at n bytes place is armed most contents disarmed room failed whose =
    let kept = contents ∙ ap (λ r. take (10 * t.records) (counted_state t).contents ++ take n r) (sym is) ∙ ap (λ k. take k (counted_state t).contents ++ take n bytes) (sym place) in
    record {
      written = record {
        room = room;
        stores = λ good. absurd (true≢false (sym good));
        tears = λ bad. (
          take n bytes,
          kept,
          elim (cases_lt n 10) [
            | inl less ↦ inl (let count = ap length is in let counted = length-take-le n bytes (omega (arith, count, most)) in omega (arith, counted, less))
            | inr all ↦ inr (take_all n bytes (let count = ap length is in omega (arith, count, all)))
          ],
        );
        counts = λ good. absurd (true≢false (sym good));
        fails = λ bad. failed;
      };
      due = λ _ _. subst (λ o. IsTorn o (counted_armed u) (counted_state t) (counted_state u) at bytes false) (sym armed) (refl, disarmed, kept);
      whose = whose;
    }

-- and where it was not
pub stored : (t u : CountedTape) (at : ℕ) (bytes : List ℕ) → at ≡ 10 * t.records → bytes ≡ due_record t.plan t.agent t.records → counted_armed t ≡ None
    → (counted_state u).contents ≡ take (10 * t.records) (counted_state t).contents ++ due_record t.plan t.agent t.records
    → counted_armed u ≡ None → (counted_state u).room ≡ (counted_state t).room
    → (counted_state u).failures ≡ (counted_state t).failures → CountsFor t.plan t.agent u → IsCountedWrite t at bytes true u
stored t u at bytes place is unarmed contents still room count whose =
    let kept = contents ∙ ap (λ r. take (10 * t.records) (counted_state t).contents ++ r) (sym is) ∙ ap (λ k. take k (counted_state t).contents ++ bytes) (sym place) in
    record {
      written = record {
        room = room;
        stores = λ good. kept;
        tears = λ bad. absurd (true≢false bad);
        counts = λ good. count;
        fails = λ bad. absurd (true≢false bad);
      };
      due = λ _ _. subst (λ o. IsTorn o (counted_armed u) (counted_state t) (counted_state u) at bytes true) (sym unarmed) (refl, still);
      whose = whose;
    }
