-- `calls_path::measure`: what is known of the climb after the turns so far.
use Rattle.std.proofs.lemmas.Result.{err_from_is_err_and}
use Rattle.base.proofs.Tells.{number-ne}
use mathlib.Core.Path.{refl}
use mathlib.Core.Path.{◌≡◌, sym, ◌∙◌}
use native.Mathlib.Omega.{arith}
use Rattle.base.proofs.Outs.{went-is, went-has, went-not}
use Rattle.calls_path.proofs.Measures.{meta-says, climb-starts, climb-on, climb-stuck, climb-ends}
use Rattle.calls_path.proofs.measure.Goals as goal

pub loop-n-init : goal.loop-n-init
loop-n-init c = climb-starts _ _ _ _ c.requires.whole.1

pub shape_of-marks-then-at-eq-ROOT : goal.shape_of-marks-then-at-eq-ROOT
shape_of-marks-then-at-eq-ROOT c = c.loop-n.invariant.room ∙ sym c.requires.whole.1

pub returns-then-at-eq-ROOT : goal.returns-then-at-eq-ROOT
returns-then-at-eq-ROOT c = climb-ends _ _ _ c.loop-n.invariant (λ z. absurd (z c.if-at-eq-ROOT.true)) c.measured_end.ensures

pub mark-requires : goal.mark-requires
mark-requires c = (c.loop-n.invariant.room, c.loop-n-test.true)

pub step_up-requires : goal.step_up-requires
step_up-requires c = record { led = c.requires.led; whole = c.requires.whole.0 }

pub shape_of-marks-in_err-up : goal.shape_of-marks-in_err-up
shape_of-marks-in_err-up c = c.mark.auto.marks ∙ c.loop-n.invariant.room ∙ sym c.requires.whole.1

pub returns-in_err-up : goal.returns-in_err-up
returns-in_err-up c =
    let p = err_from_is_err_and c.from_residual.result c.from_residual.ensures.1 in
    rw (p.1, p.2) (climb-stuck _ _ _ c.loop-n.invariant (meta-says c.args.mem.now) _ _ _ _
    c.loop-n-test.true c.if-at-eq-ROOT.false (went-not c.in_err-up.ensures (number-ne c.in_err-up.field-0.0)) (number-ne c.in_err-up.field-0.0))

pub overflow_add-bytes : goal.overflow_add-bytes
overflow_add-bytes c = omega (arith, went-has c.in_ok-up.ensures refl)

pub overflow_add-bytes-in-loop-n : goal.overflow_add-bytes-in-loop-n
overflow_add-bytes-in-loop-n c = omega (arith, went-has c.in_ok-up.ensures refl, c.loop-n.invariant.small, c.loop-n.invariant.few)

pub loop-n-preserved : goal.loop-n-preserved
loop-n-preserved c =
    climb-on _ _ _ c.loop-n.invariant c.mark.ensures _ _ _ c.loop-n-test.true c.if-at-eq-ROOT.false
    (went-is c.in_ok-up.ensures refl) (went-has c.in_ok-up.ensures refl)

pub shape_of-marks : goal.shape_of-marks
shape_of-marks c = c.loop-n.invariant.room ∙ sym c.requires.whole.1

pub returns : goal.returns
returns c =
    let q : c.loop-n.n ≡ 4096 = omega (arith, c.loop-n-test.false, c.loop-n.invariant.few) in
    climb-ends _ _ _ c.loop-n.invariant (λ z. q) (rw q c.measured_end-2.ensures)
