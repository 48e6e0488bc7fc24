-- The greatest power times the greatest part bounds the product.
use Rattle.std.proofs.Common.{◌≡◌, ℕ, ◌*◌, ◌^◌, ◌<◌, ◌≤◌, arith}
use Rattle.std.proofs.lemmas.Nat.{mul-le}
use Rattle.std.proofs.Math.Nat.{pow-le-pow_right}
use Rattle.scenario.proofs.agreement.scaled.Goals as goal

product_le : (decimals exponent power part wide : ℕ) → decimals ≤ 12 → exponent ≡ decimals → power ≡ 10 ^ exponent
    → part ≤ 4194304 → wide ≡ part → power * wide ≤ 10 ^ 12 * 4194304
product_le decimals exponent power part wide few same is small equal =
    let least : exponent ≤ 12 = omega arith in
    let some : 0 < 10 = omega arith in
    let powers : 10 ^ exponent ≤ 10 ^ 12 = pow-le-pow_right some least in
    mul-le power wide (10 ^ 12) 4194304 (omega arith) (omega arith)

product : (c : goal.After-from-2) → c.pow.result * c.from-2.result ≤ 10 ^ 12 * 4194304
product c =
    product_le c.args.decimals c.from.result c.pow.result c.args.part c.from-2.result
    c.requires.decimals_limit c.from.ensures c.pow.ensures c.requires.part_limit c.from-2.ensures

pub overflow_mul-result : goal.overflow_mul-result
overflow_mul-result c = let bound = product c in omega arith

pub returns-clause-fits : goal.returns-clause-fits
returns-clause-fits c = let bound = product c in omega arith
