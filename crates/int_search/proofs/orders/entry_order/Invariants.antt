use Rattle.std.specs.declared.cmp.Ordering.{Ordering}
use Rattle.int_search.specs.Vectors.{suffix}
use Rattle.int_search.specs.Orders.{IsEntryOrder}
use Rattle.int_search.proofs.orders.entry_order.Given as goal

-- the order of all entries is that of what is left
abbrev pub invariant-loop-k : goal.invariant-loop-k
invariant-loop-k l = (o : Ordering) → IsEntryOrder (suffix l.a l.k l.size) (suffix l.b l.k l.size) o → IsEntryOrder (suffix l.a 0 l.size) (suffix l.b 0 l.size) o
