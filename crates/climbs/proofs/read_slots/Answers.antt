-- `climbs::read_slots`: the slots before k could be read.
use Rattle.std.proofs.lemmas.Result.{err_from_is_err_and}
use Rattle.base.proofs.Tells.{number-ne}
use mathlib.Core.Path.{refl}
use Rattle.base.proofs.Outs.{went-has}
use Rattle.chains.proofs.Lookups.{slot-named}
use Rattle.climbs.proofs.Types.{read_none, read-ends, read_more, read_all}
use native.Mathlib.Omega.{arith}
use borrow.Author.Rules.{rules}
use Rattle.climbs.proofs.read_slots.Goals as goal

pub loop-k-init : goal.loop-k-init
loop-k-init c = (search rules, read_none _ _)

pub named_slot-requires : goal.named_slot-requires
named_slot-requires c =
    let e = c.end_of-end.ensures in record { led = c.requires.led; end_value = (e.0, (e.1, (omega (arith, c.requires.whole.1.1, c.loop-k-test.true), c.loop-k.invariant.0))) }

pub returns-in_err-named_slot : goal.returns-in_err-named_slot
returns-in_err-named_slot c =
    let p = err_from_is_err_and c.from_residual.result c.from_residual.ensures.1 in
    rw (p.1, p.2) (read-ends _ _ c.args.d _ c.rec_at-rec.ensures _ c.loop-k.invariant.1 (slot-named _ _ _ c.in_err-named_slot.ensures) c.args.n c.loop-k-test.true (number-ne c.in_err-named_slot.field-0.0))

pub loop-k-preserved : goal.loop-k-preserved
loop-k-preserved c =
    (went-has c.in_ok-named_slot.ensures refl, read_more _ _ c.args.d _ c.rec_at-rec.ensures _ c.loop-k.invariant.1 (slot-named _ _ _ c.in_ok-named_slot.ensures) refl)

pub returns : goal.returns
returns c =
    read_all _ c.args.d _ c.args.n c.loop-k.invariant.1 c.loop-k.auto.k-end c.loop-k-test.false
