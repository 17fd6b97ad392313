-- `holds::find_hold`: no hold that the loop passed has the stamp.
use mathlib.Core.Path.{sym, ap, ◌∙◌}
use native.Mathlib.Omega.{arith}
use borrow.Author.Tests.{eq-eqb}
use Rattle.base.proofs.Finds.{search-hit, search-none}
use Rattle.table.specs.declared.Hold.{Hold}
use Rattle.table.specs.Table.{hold_of}
use Rattle.holds.proofs.find_hold.Goals as goal

pub returns-then-hold_at-stamp : goal.returns-then-hold_at-stamp
unfolding hold_of
returns-then-hold_at-stamp c =
    search-hit _ 32 _ c.loop-n-test.true c.loop-n.invariant (eq-eqb _ _ (sym (ap (λ (h : Hold). h.stamp) c.hold_at.ensures) ∙ c.if-hold_at-stamp.true))

pub returns : goal.returns
unfolding hold_of
returns c = search-none _ 32 (λ j l. c.loop-n.invariant j (omega arith))
