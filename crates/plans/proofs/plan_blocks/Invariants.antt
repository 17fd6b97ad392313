-- `plans::plan_blocks`: the plan and the count, of the first i blocks.
use mathlib.Core.Path.{◌≡◌}
use lib.ListN.{length}
use Rattle.arena.specs.Fields.{file}
use Rattle.plans.specs.Plan.{absent_to, Places}
use Rattle.plans.proofs.plan_blocks.Given as goal

abbrev pub invariant-loop-i : goal.invariant-loop-i
invariant-loop-i l = (length l.plan ≡ length l.initial.plan) × (l.lacking ≡ absent_to l.arena (file l.which l.name) l.pos l.i) × Places l.arena (file l.which l.name) l.pos l.plan l.i
