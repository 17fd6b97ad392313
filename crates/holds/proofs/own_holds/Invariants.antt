-- `holds::own_holds`: `own` counts the live holds of who's that the loop passed.
use mathlib.Core.Path.{◌≡◌}
use Rattle.base.specs.Count.{count_to}
use Rattle.table.specs.Table.{own_at}
use Rattle.mem.specs.Mem.{table_in}
use Rattle.holds.proofs.own_holds.Given as goal

abbrev pub invariant-loop-n : goal.invariant-loop-n
invariant-loop-n l = l.own ≡ count_to (own_at (table_in l.mem) l.who) l.n
