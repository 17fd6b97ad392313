-- `folders::slots::lookup`: the slots before k were passed.
use Rattle.std.proofs.lemmas.Result.{err_from_is_err_and}
use Rattle.base.proofs.Tells.{number-ne}
use mathlib.Core.Path.{refl}
use Prim.Native.Nat.{◌<◌}
use mathlib.Core.Path.{sym, ◌∙◌}
use Rattle.base.proofs.Outs.{went-is, went-has}
use Rattle.structs.specs.Layout.{entry_of}
use Rattle.table.specs.Table.{row_at}
use Rattle.mem.specs.Mem.{table_in}
use Rattle.chains.proofs.Lookups.{look_none, look-miss, look-ends, look_at_lem, look-all}
use native.Mathlib.Omega.{arith}
use Rattle.folders.proofs.slots.lookup.Goals as goal

pub loop-k-init : goal.loop-k-init
loop-k-init c =
    (c.requires.1.1, look_none _ _ _)

pub slot_at-requires : goal.slot_at-requires
slot_at-requires c =
    (c.requires.0, (c.requires.1.0, (omega arith, c.loop-k.invariant.0)))

pub returns-in_err-slot_at : goal.returns-in_err-slot_at
returns-in_err-slot_at c =
    let p = err_from_is_err_and c.from_residual.result c.from_residual.ensures.1 in
    rw (p.1, p.2) (look-ends _ (row_at (table_in c.args.mem.now) c.args.i).rec c.args.name.now _ (row_at (table_in c.args.mem.now) c.args.i).rec.blocks _ _ (omega (arith, c.loop-k-test.true, c.index-n.ensures, c.blocks_at.ensures)) c.loop-k.invariant.1 (number-ne c.in_err-slot_at.field-0.0) c.in_err-slot_at.ensures)

pub slice_bounds-is_named-end : goal.slice_bounds-is_named-end
slice_bounds-is_named-end c = omega (arith, went-has c.in_ok-slot_at.ensures refl)

pub returns-then-is_named : goal.returns-then-is_named
unfolding entry_of
returns-then-is_named c =
    let g = c.in_ok-slot_at.ensures in
    let z = refl in
    let l : c.loop-k.k < (row_at (table_in c.args.mem.now) c.args.i).rec.blocks = omega (arith, c.loop-k-test.true, c.index-n.ensures, c.blocks_at.ensures) in
    look_at_lem _ (row_at (table_in c.args.mem.now) c.args.i).rec c.args.name.now _ (row_at (table_in c.args.mem.now) c.args.i).rec.blocks _ _ l c.loop-k.invariant.1 g z (sym c.is_named.ensures ∙ c.if-is_named.true) (λ _. went-is g z, omega (arith, l))

pub loop-k-preserved : goal.loop-k-preserved
unfolding entry_of
loop-k-preserved c =
    let g = c.in_ok-slot_at.ensures in
    let z = refl in
    (went-has g z, look-miss _ (row_at (table_in c.args.mem.now) c.args.i).rec c.args.name.now _ _ c.loop-k.invariant.1 (went-is g z) (sym c.is_named.ensures ∙ c.if-is_named.false))

pub returns : goal.returns
returns c =
    let e = c.index-n.ensures ∙ c.blocks_at.ensures in
    look-all _ (row_at (table_in c.args.mem.now) c.args.i).rec c.args.name.now _ _ _ c.loop-k.invariant.1 (omega arith) c.loop-k-test.false e (λ h. absurd (omega (arith, e)), omega (arith, e))
