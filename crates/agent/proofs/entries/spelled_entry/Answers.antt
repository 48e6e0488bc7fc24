use Rattle.std.proofs.Common.{◌≡◌, ℕ, ◌+◌, ◌*◌, Some, ap, ◌∙◌, arith}
use Rattle.std.specs.Prelude.{Option}
use Rattle.model.specs.declared.entry.Entry.{Entry}
use Rattle.agent.proofs.SpellingLemmas.{count-in, entry_from, entry-at, part-at}
use Rattle.agent.proofs.entries.spelled_entry.Goals as goal

pub prove-unreachable-requires : goal.prove-unreachable-requires
prove-unreachable-requires c = (let count = count-in c.args.bytes.now in let less = c.requires in omega (arith, count, less))

pub overflow_mul-spelled : goal.overflow_mul-spelled
overflow_mul-spelled c = (let count = count-in c.args.bytes.now in let less = c.requires in omega (arith, count, less))

pub overflow_mul-spelled-2 : goal.overflow_mul-spelled-2
overflow_mul-spelled-2 c = (let count = count-in c.args.bytes.now in let less = c.requires in omega (arith, count, less))

pub overflow_add-spelled : goal.overflow_add-spelled
overflow_add-spelled c = (let count = count-in c.args.bytes.now in let less = c.requires in omega (arith, count, less))

pub slice_bounds-spelled-end : goal.slice_bounds-spelled-end
slice_bounds-spelled-end c = (let count = count-in c.args.bytes.now in let less = c.requires in omega (arith, count, less))

pub returns : goal.returns
returns c =
    let bytes = c.args.bytes.now in
    let at = c.args.at in
    let first = part-at bytes at 0 (6 * at) (omega arith) (omega arith) in
    let second = part-at bytes at 1 (6 * at + 1) (omega arith) (omega arith) in
    let third = part-at bytes at 2 (6 * at + 2) (omega arith) (omega arith) in
    let fourth = part-at bytes at 3 (6 * at + 3) (omega arith) (omega arith) in
    let fifth = part-at bytes at 4 (6 * at + 4) (omega arith) (omega arith) in
    let sixth = part-at bytes at 5 (6 * at + 5) (omega arith) (omega arith) in
    let agent_spelled = c.from_be_bytes.ensures in
    let done_spelled = c.from_be_bytes-2.ensures in
    let agent : (entry_from bytes (6 * at)).agent ≡ c.from_be_bytes.result = omega (arith, agent_spelled, first, second) in
    let done : (entry_from bytes (6 * at)).done ≡ c.from_be_bytes-2.result = omega (arith, done_spelled, third, fourth, fifth, sixth) in
    entry-at bytes at c.requires
    ∙ ap {A = ℕ} {B = Option Entry} (λ n. Some (record { agent = n; done = (entry_from bytes (6 * at)).done })) agent
    ∙ ap {A = ℕ} {B = Option Entry} (λ n. Some (record { agent = c.from_be_bytes.result; done = n })) done
