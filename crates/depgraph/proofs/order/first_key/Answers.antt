-- The digits of the parts stand side by side.
use Rattle.std.proofs.Common.{◌≡◌, ℕ, ◌+◌, ◌*◌, ◌%◌, ◌<◌, bit_or, arith, refl, ap, ◌∙◌}
use Rattle.std.proofs.lemmas.Grind.{or_after_shift}
use Rattle.std.proofs.lemmas.Nat.{or_shifted}
use Rattle.depgraph.proofs.order.first_key.Goals as goal

packed : (time agent number : ℕ) → time < 65536 → agent < 65536 → number < 4294967296
    → bit_or (bit_or (time * 281474976710656 % 18446744073709551616) (agent * 4294967296 % 18446744073709551616)) number ≡ (time * 65536 + agent) * 4294967296 + number
packed time agent number few_times few_agents few =
    let small : agent * 4294967296 % 18446744073709551616 ≡ agent * 4294967296 = omega (arith, few_agents) in
    let both = or_after_shift time 281474976710656 18446744073709551616 (agent * 4294967296 % 18446744073709551616) refl (omega (arith, small, few_agents)) (omega (arith, few_times)) in
    let sum : time * 281474976710656 + agent * 4294967296 ≡ (time * 65536 + agent) * 4294967296 = omega arith in
    ap (λ x. bit_or x number) (both ∙ ap (λ x. time * 281474976710656 + x) small ∙ sum) ∙ or_shifted (time * 65536 + agent) 32 number few

pub returns : goal.returns
returns c =
    let time = c.from.ensures in
    let agent = c.from-2.ensures in
    let number = c.from-3.ensures in
    let few_agents : c.args.agent < 65536 = omega (arith, c.ranges.agent) in
    let few : c.args.number < 4294967296 = omega (arith, c.ranges.number) in
    ap (λ x. bit_or (bit_or (x * 281474976710656 % 18446744073709551616) (c.from-2.result * 4294967296 % 18446744073709551616)) c.from-3.result) time
    ∙ ap (λ x. bit_or (bit_or (c.args.time * 281474976710656 % 18446744073709551616) (x * 4294967296 % 18446744073709551616)) c.from-3.result) agent
    ∙ ap (bit_or (bit_or (c.args.time * 281474976710656 % 18446744073709551616) (c.args.agent * 4294967296 % 18446744073709551616))) number
    ∙ packed c.args.time c.args.agent c.args.number c.requires few_agents few
