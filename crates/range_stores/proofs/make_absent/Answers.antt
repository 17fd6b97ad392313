-- `range_stores::make_absent`: the definition's two cases, and the place in the plan.
use mathlib.Core.Path.{◌≡◌, refl, sym, ◌∙◌}
use native.Mathlib.Omega.{arith}
use lib.ListN.{get_or}
use Rattle.arena.specs.Fields.{file}
use Rattle.range_stores.proofs.Makes.{make-old, make-new}
use Rattle.range_stores.proofs.make_absent.Goals as goal

pub returns-then-plan-i-gt0 : goal.returns-then-plan-i-gt0
returns-then-plan-i-gt0 c =
    let m = make-old c.args.arena.now (file 1 c.args.name.now) c.args.q c.args.plan.now c.args.i c.requires.i_value.0 c.if-plan-i-gt0.true in
    (m.0, (c.requires.i_value.1.0, m.1))

pub returns : goal.returns
returns c =
    let z : get_or c.args.plan.now c.args.i 0 ≡ 0 = omega (arith, c.if-plan-i-gt0.false) in
    make-new c.args.arena.now (file 1 c.args.name.now) c.args.q c.args.plan.now c.args.i c.requires.i_value.0 c.requires.q_bound.1.1.1 c.requires.q_bound.0 z c.next_free-k.result
    c.next_free-k.ensures (omega (arith, c.next_free-k.ensures, c.requires.i_value.1.1 (sym c.requires.i_value.0 ∙ z))) _ _ refl c.write_new.ensures
