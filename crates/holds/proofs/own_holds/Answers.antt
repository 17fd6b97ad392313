-- `holds::own_holds`: `own` counts the live holds of who's that the loop passed.
use mathlib.Core.Path.{◌≡◌, sym, ap, ◌∙◌}
use mathlib.Core.Bool.{not, ◌&&◌}
use native.Mathlib.Omega.{arith}
use lib.Dec.{eqb}
use Rattle.base.proofs.Finds.{count_yes, count_no}
use Rattle.base.proofs.Counts.{count_to-none, count_to-le}
use Rattle.table.specs.declared.Hold.{Hold}
use Rattle.table.specs.Table.{own_at, own_holds}
use Rattle.mem.specs.Mem.{table_in}
use Rattle.holds.proofs.own_holds.Goals as goal
use Rattle.holds.proofs.own_holds.Goals.{then-h-who, else-h-who}

pub loop-n-init : goal.loop-n-init
loop-n-init c = sym (count_to-none _ 0 (λ j l. absurd (omega arith)))

pub overflow_add-own : goal.overflow_add-own
overflow_add-own c = omega (arith, count_to-le (own_at (table_in c.args.mem.now) c.args.who) c.loop-n.n)

pub loop-n-preserved : goal.loop-n-preserved
loop-n-preserved c =
    let i = c.loop-n.invariant in
    let e = ap (λ (h : Hold). not (eqb h.stamp 0) && eqb h.owner c.args.who) (sym c.hold_at-h.ensures) in
    elim c.if-h-who.branch [ then-h-who w ↦ count_yes _ _ _ _ i (e ∙ w.if-h-who.true) w.own-is | else-h-who w ↦ count_no _ _ _ _ i (e ∙ w.if-h-who.false) w.own-is ]

pub returns : goal.returns
unfolding own_holds
returns c = let e : c.loop-n.n ≡ 32 = omega arith in rw e at c.loop-n.invariant
