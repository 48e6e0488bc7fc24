use Rattle.std.proofs.Common.{◌≡◌, ℕ, List, ◌-◌, length, take, drop, sym, ap, subst, ◌∙◌, arith}
use Rattle.std.proofs.lemmas.List.{take_all, length-drop}
use Rattle.model.specs.Messages.{IsTold}
use Rattle.agent.specs.Decoding.{entries_in, wrong_entry}
use Rattle.agent.specs.Tellings.{IsInRange, IsWhole}
use Rattle.agent.proofs.ToldLemmas.{told-spelled, read_of, read-whole}
use Rattle.agent.proofs.message.read_told.Goals as goal

-- what was taken is all that stands behind the head
all_behind : (bytes : List ℕ) → take (length bytes - 10) (drop 10 bytes) ≡ drop 10 bytes
all_behind bytes = (let count = length-drop 10 bytes in take_all (length bytes - 10) (drop 10 bytes) (omega (arith, count)))

whole : (c : goal.After-from_be_bytes-in-None) → IsWhole (read_of c.args.bytes.now c.from_be_bytes-in-None.result c.from_be_bytes.result)
whole c =
    let bytes = c.args.bytes.now in
    let same = all_behind bytes in
    read-whole bytes c.from_be_bytes-in-None.result c.from_be_bytes.result c.from_be_bytes-count.result (λ i. omega (arith, c.type_inv.bytes i)) c.from_be_bytes-in-None.type_inv
    c.from_be_bytes.type_inv c.from_be_bytes-count.type_inv
    (let count = ap length same in let length_is = c.if-spelled-count.false in omega (arith, count, length_is)) (ap (λ l. wrong_entry 0 0 (entries_in l)) (sym same) ∙ sym c.in-None.ensures)

pub invariant_of-result : goal.invariant_of-result
invariant_of-result c =
    subst (λ l. IsWhole (record { plan = c.from_be_bytes-in-None.result; message = record { sender = c.from_be_bytes.result; entries = entries_in l } }))
    (sym (all_behind c.args.bytes.now)) (whole c)

pub returns-in-None-clause-in_range : goal.returns-in-None-clause-in_range
returns-in-None-clause-in_range c =
    subst (λ l. IsInRange (record { plan = c.from_be_bytes-in-None.result; message = record { sender = c.from_be_bytes.result; entries = entries_in l } }))
    (sym (all_behind c.args.bytes.now)) (whole c).in_range

pub returns-in-None-clause-reads : goal.returns-in-None-clause-reads
returns-in-None-clause-reads c =
    let bytes = c.args.bytes.now in
    subst (λ l. IsTold c.from_be_bytes-in-None.result (record { sender = c.from_be_bytes.result; entries = entries_in l }) bytes)
    (sym (all_behind bytes))
    (record {
      spelled = told-spelled bytes c.from_be_bytes-in-None.result c.from_be_bytes.result c.from_be_bytes-count.result c.requires.magic c.requires.version (λ i. omega (arith, c.type_inv.bytes i))
          (let enough = c.if-bytes-lt-HEAD_LENGTH.false in omega (arith, enough))
          (let count = ap length (all_behind bytes) in let length_is = c.if-spelled-count.false in omega (arith, count, length_is))
          (let count = c.from_be_bytes-count.ensures in omega (arith, count))
          (let from = c.from_be_bytes.ensures in omega (arith, from))
          (let plan = c.from_be_bytes-in-None.ensures in omega (arith, plan));
      rising = (whole c).rising;
    })
