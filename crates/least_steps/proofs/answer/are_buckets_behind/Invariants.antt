use Rattle.std.proofs.Common.{◌≡◌, ℕ, ◌<◌, Global, Some, Vec}
use Rattle.std.specs.Prelude.{slice_get}
use Rattle.least_steps.specs.declared.open_list.Open.{Open}
use Rattle.least_steps.specs.Code.Waiting.{AreBehind}
use Rattle.least_steps.proofs.answer.are_buckets_behind.Given as goal

abbrev pub invariant-loop-bucket : goal.invariant-loop-bucket
invariant-loop-bucket l = (k : ℕ) (b : Vec Open Global) → k < l.bucket-index → slice_get l.buckets k ≡ Some b → AreBehind l.reached l.goal b.items
