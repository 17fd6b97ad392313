-- `calls_move::plan_found`: by what the lookup of the new name found.
use Rattle.std.proofs.lemmas.Result.{err_from_is_err_and}
use Rattle.base.proofs.Tells.{number-ne}
use mathlib.Core.Path.{refl}
use mathlib.Core.Path.{◌∙◌}
use Prim.Native.Nat.{◌<◌}
use Rattle.base.proofs.Outs.{went-has}
use Rattle.calls_move.proofs.Decisions.{found-stop, found-there, found-free}
use native.Mathlib.Omega.{arith}
use Rattle.calls_move.proofs.plan_found.Goals as goal

pub returns-in_err-place : goal.returns-in_err-place
returns-in_err-place c =
    let p = err_from_is_err_and c.from_residual.result c.from_residual.ensures.1 in
    rw (p.1, p.2) (found-stop c.args.arena.now c.args.mem.now c.args.i c.args.j c.args.old.now c.args.name.now _ c.rec_at-rec.ensures c.in_err-place.ensures (number-ne c.in_err-place.field-0.0))

pub u32_at-new-requires : goal.u32_at-new-requires
u32_at-new-requires c =
    omega (arith, c.lookup.auto.slot ∙ c.requires.whole.1.1.1.1)

pub plan_named-requires : goal.plan_named-requires
plan_named-requires c = record { led = c.requires.led; whole = (c.requires.whole.0, (c.requires.whole.1.0, (c.requires.whole.1.1.0, c.lookup.auto.slot ∙ c.requires.whole.1.1.1.1))) }

pub returns-then-place-index : goal.returns-then-place-index
returns-then-place-index c =
    let b : c.in_ok-place.place < c.rec_at-rec.result.blocks = omega (arith, c.if-place-index.true, c.index.ensures) in
    found-there c.args.arena.now c.args.mem.now c.args.i c.args.j c.args.old.now c.args.name.now _ c.rec_at-rec.ensures c.in_ok-place.ensures
    c.lookup.new.slot _ refl b ((went-has c.in_ok-place.ensures refl).0 b) c.u32_at-new.ensures (c.plan_named.ensures c.args.name.now _)

pub plan_free-requires : goal.plan_free-requires
plan_free-requires c =
    let p = c.requires in record { led = p.led; whole = (p.whole.0, (p.whole.1.0, (p.whole.1.1.0, (p.whole.1.1.1.0, c.lookup.auto.slot ∙ p.whole.1.1.1.1)))) }

pub returns : goal.returns
returns c =
    found-free c.args.arena.now c.args.mem.now c.args.i c.args.j c.args.old.now c.args.name.now _ c.rec_at-rec.ensures c.in_ok-place.ensures refl
    (omega (arith, c.if-place-index.false, c.index.ensures)) c.plan_free.ensures
