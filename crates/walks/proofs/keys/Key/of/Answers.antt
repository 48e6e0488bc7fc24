use Rattle.std.proofs.Common.{◌≡◌, ℕ, ◌^◌, ◌<◌, arith, sym, subst}
use Rattle.std.specs.Prelude.{Option}
use Rattle.scenario.specs.declared.length.Length.{Length}
use Rattle.walks.specs.Code.KeyParts.{IsKey, number_of_entry}
use Rattle.walks.proofs.KeyNumbers.{entry_most, entry_key}
use Rattle.walks.proofs.keys.Key.of.Goals as goal

key_by : (v : ℕ) (e : Option Length) → v ≡ number_of_entry e → v < 2 ^ 62 → IsKey v
key_by v e is less = subst IsKey (sym is) (entry_key e (omega (arith, is, less)))

pub invariant_of-result : goal.invariant_of-result
invariant_of-result c =
    let is = c.number_of.ensures in
    let most = entry_most c.args.entry in
    record { limit = omega (arith, is, most); of_length = λ some less. key_by c.number_of.result c.args.entry is less }
