-- `path_parts::find_namer`: the later slots before k were passed.
use Rattle.std.proofs.lemmas.Result.{err_from_is_err_and}
use Rattle.base.proofs.Tells.{number-ne}
use mathlib.Core.Path.{refl}
use mathlib.Core.Path.{◌∙◌}
use native.Mathlib.Omega.{arith}
use Rattle.base.proofs.Outs.{went-is, went-has}
use Rattle.path_parts.proofs.Namers.{namer-none, namer-miss, namer-ends, namer-at, namer-all}
use Rattle.path_parts.proofs.find_namer.Goals as goal

pub loop-k-init : goal.loop-k-init
loop-k-init c = (c.requires.slot_len, namer-none _ _ _)

pub slot_bytes-requires : goal.slot_bytes-requires
slot_bytes-requires c =
    let i = c.loop-k.invariant in
    let e = c.end_of-end.ensures in
    let n = c.later_slots-n.ensures.1 in record { led = c.requires.led; end_value = (e.0, (e.1, (omega (arith, n, c.loop-k-test.true), i.0))) }

pub returns-in_err-slot_bytes : goal.returns-in_err-slot_bytes
returns-in_err-slot_bytes c =
    let p = err_from_is_err_and c.from_residual.result c.from_residual.ensures.1 in
    rw (p.1, p.2) (let i = c.loop-k.invariant in
    let n = c.later_slots-n.ensures.0 in
    let t = c.loop-k-test.true in
    namer-ends c.args.arena.now c.args.rec c.args.x _ _ (omega (arith, n, t)) i.1 c.in_err-slot_bytes.ensures _ _ (number-ne c.in_err-slot_bytes.field-0.0))

pub u32_at-requires : goal.u32_at-requires
u32_at-requires c = omega (arith, went-has c.in_ok-slot_bytes.ensures refl)

pub returns-then-u32_at-x : goal.returns-then-u32_at-x
returns-then-u32_at-x c =
    let i = c.loop-k.invariant in
    let n = c.later_slots-n.ensures.0 in
    let t = c.loop-k-test.true in
    let g = c.in_ok-slot_bytes.ensures in
    namer-at c.args.arena.now c.args.rec c.args.x _ _ (omega (arith, n, t)) i.1 g refl c.u32_at.ensures c.if-u32_at-x.true

pub loop-k-preserved : goal.loop-k-preserved
loop-k-preserved c =
    let i = c.loop-k.invariant in
    let g = c.in_ok-slot_bytes.ensures in
    (went-has g refl, namer-miss c.args.arena.now c.args.rec c.args.x _ _ i.1 (went-is g refl) (λ e. c.if-u32_at-x.false (c.u32_at.ensures ∙ e)))

pub returns : goal.returns
returns c =
    let i = c.loop-k.invariant in
    namer-all c.args.arena.now c.args.rec c.args.x _ _ _ _ i.1 c.loop-k.auto.k-end c.loop-k-test.false c.later_slots-n.ensures.0
