use Rattle.std.proofs.Common.{◌≡◌, ◌+◌, ◌*◌, ◌%◌, ◌<◌, ℕ, length, get_or}
use Rattle.depgraph.specs.Code.Entries.{begin_in}
use Rattle.depgraph.specs.Code.Orders.{first_of}
use Rattle.depgraph.proofs.order.order_of.Given as goal

abbrev pub invariant-loop-n : goal.invariant-loop-n
invariant-loop-n l = record {
  begin : l.begin ≡ begin_in l.visit_ends l.n;
  count : length l.firsts.items ≡ l.n;
  keys : (k : ℕ) → k < l.n → get_or l.firsts.items k 0 ≡ first_of l.visits l.visit_ends k * 4294967296 + k;
}

abbrev pub invariant-loop-first : goal.invariant-loop-first
invariant-loop-first l = record {
  count : length l.order.items ≡ l.first-index;
  numbers : (k : ℕ) → k < l.first-index → get_or l.order.items k 0 ≡ get_or l.first-items k 0 % 4294967296;
}
