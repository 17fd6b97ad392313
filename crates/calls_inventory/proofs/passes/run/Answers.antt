-- `calls_inventory::passes::run`: turn after turn, each nearer to the end. In its midst the pass stays one over the output that it began with.
use mathlib.Core.Path.{refl, ◌∙◌}
use Rattle.calls_inventory.proofs.Turns.{nearer}
use Rattle.calls_inventory.proofs.passes.run.Goals as goal

pub loop-now-init : goal.loop-now-init
loop-now-init c = (c.requires.empty_table_value.1, refl, λ o m. m)

pub turn-now-requires : goal.turn-now-requires
turn-now-requires c =
    let u = c.requires.under in
    let i = c.loop-now.invariant in record { led = c.requires.led; empty_table_value = (c.requires.empty_table_value.0, i.0); under = record { out = u.out; midst = i.2 u.out u.midst } }

pub returns-then-now : goal.returns-then-now
returns-then-now c = λ o m. (c.turn-now.ensures o (c.loop-now.invariant.2 o m)).over c.if-now.true

pub loop-now-smaller : goal.loop-now-smaller
loop-now-smaller c =
    let u = c.requires.under in
    nearer c.args.out.now _ _ u.midst ((c.turn-now.ensures u.out (c.loop-now.invariant.2 u.out u.midst)).on c.if-now.false).1

pub loop-now-preserved : goal.loop-now-preserved
loop-now-preserved c =
    let i = c.loop-now.invariant in (
      c.turn-now.auto.slot ∙ i.0,
      c.turn-now.auto.out ∙ i.1,
      λ o m. ((c.turn-now.ensures o (i.2 o m)).on c.if-now.false).0,
    )
