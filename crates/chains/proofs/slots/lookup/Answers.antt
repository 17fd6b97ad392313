-- `chains::slots::lookup`: the slots before k were passed.
use Rattle.std.proofs.lemmas.Result.{err_from_is_err_and}
use Rattle.base.proofs.Tells.{number-ne}
use mathlib.Core.Path.{refl}
use Prim.Native.Nat.{◌<◌}
use mathlib.Core.Path.{sym, ◌∙◌}
use native.Mathlib.Omega.{arith}
use Rattle.base.proofs.Outs.{went-is, went-has}
use Rattle.structs.specs.Layout.{entry_of}
use Rattle.chains.proofs.Lookups.{slot-named, look_none, look-miss, look-ends, look_at_lem, look-all}
use Rattle.chains.proofs.slots.lookup.Goals as goal

pub loop-k-init : goal.loop-k-init
loop-k-init c = (c.requires.slot_len, look_none _ _ _)

pub named_slot-requires : goal.named_slot-requires
named_slot-requires c = record { led = c.requires.led; end_value = (c.end_of-end.ensures.0, (c.end_of-end.ensures.1, (omega arith, c.loop-k.invariant.0))) }

pub returns-in_err-named_slot : goal.returns-in_err-named_slot
returns-in_err-named_slot c =
    let p = err_from_is_err_and c.from_residual.result c.from_residual.ensures.1 in
    rw (p.1, p.2) (look-ends _ c.args.rec c.args.name.now _ c.args.rec.blocks _ _ (omega (arith, c.loop-k-test.true, c.index-n.ensures)) c.loop-k.invariant.1 (number-ne c.in_err-named_slot.field-0.0) (slot-named _ _ _ c.in_err-named_slot.ensures))

pub slice_bounds-is_named-end : goal.slice_bounds-is_named-end
slice_bounds-is_named-end c = omega (arith, went-has c.in_ok-named_slot.ensures refl)

pub returns-then-is_named : goal.returns-then-is_named
unfolding entry_of
returns-then-is_named c =
    let g = slot-named _ _ _ c.in_ok-named_slot.ensures in
    let z = refl in
    let l : c.loop-k.k < c.args.rec.blocks = omega (arith, c.loop-k-test.true, c.index-n.ensures) in
    look_at_lem _ c.args.rec c.args.name.now _ c.args.rec.blocks _ _ l c.loop-k.invariant.1 g z (sym c.is_named.ensures ∙ c.if-is_named.true) (λ _. went-is g z, omega (arith, l))

pub loop-k-preserved : goal.loop-k-preserved
unfolding entry_of
loop-k-preserved c =
    let g = slot-named _ _ _ c.in_ok-named_slot.ensures in
    let z = refl in
    (went-has g z, look-miss _ c.args.rec c.args.name.now _ _ c.loop-k.invariant.1 (went-is g z) (sym c.is_named.ensures ∙ c.if-is_named.false))

pub returns : goal.returns
returns c =
    look-all _ c.args.rec c.args.name.now _ _ _ c.loop-k.invariant.1 (omega arith) c.loop-k-test.false c.index-n.ensures (λ h. absurd (omega (arith, c.index-n.ensures)), omega (arith, c.index-n.ensures))
