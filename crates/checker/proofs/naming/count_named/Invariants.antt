-- Who is marked was named before; the rest can only add to them.
use Rattle.std.proofs.Common.{◌≡◌, ◌<◌, ℕ, false, length, get_or, drop}
use Rattle.std.specs.Prelude.{◌||◌}
use Rattle.checker.specs.AllFaults.{is_named}
use Rattle.checker.proofs.naming.count_named.Given as goal

abbrev pub invariant-loop-fault : goal.invariant-loop-fault
invariant-loop-fault l =
    (length l.marks.items ≡ l.agents) × ((k : ℕ) → k < l.agents → (get_or l.marks.items k false || is_named (drop l.fault-index l.faults) k) ≡ is_named l.faults k)
