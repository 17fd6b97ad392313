-- `mend_plan::wanted_by`: the fate tells which records are stored.
use mathlib.Core.Path.{◌≡◌, refl, ap, ◌∙◌}
use Prim.Native.Nat.{◌<◌}
use native.Mathlib.Omega.{arith}
use Rattle.base.specs.Count.{sum_to}
use Rattle.mending.specs.Room.{wanted_to}
use Rattle.mend_plan.proofs.Rooms.{wanted-yes, wanted-no}
use Rattle.mend_plan.proofs.wanted_by.Goals as goal
use Rattle.mend_plan.proofs.wanted_by.Goals.{then-work-id-ne0+then-work-id, else-work-id-ne0, else-work-id-ne0-via-then-work-id-ne0+else-work-id, else-work-id-ne0-via-else-work-id-ne0}

pub loop-id-init : goal.loop-id-init
unfolding wanted_to sum_to
loop-id-init c = (omega arith, λ a m F P. refl)

pub loop-id-preserved : goal.loop-id-preserved
loop-id-preserved c =
    let t : c.loop-id.id < c.args.n = omega arith in (
      elim c.if-work-id-ne0.branch [
        | then-work-id-ne0+then-work-id w ↦ omega (arith, w.lacks-c.ensures.0, w.c-is, c.loop-id.invariant.0)
        | else-work-id-ne0 w ↦ omega (arith, w.c-is, c.loop-id.invariant.0)
      ],
      λ a m F P. elim c.if-work-id-ne0.branch [
        | then-work-id-ne0+then-work-id w ↦ wanted-yes a c.args.work.now c.args.n c.loop-id.id m F t c.loop-id.c c.if-work-id-ne0.c _ (c.loop-id.invariant.1 a m F P) w.if-work-id-ne0.true w.if-work-id.true (w.lacks-c.ensures.1 a P) w.c-is
        | else-work-id-ne0 w ↦ wanted-no a c.args.work.now c.args.n c.loop-id.id m F t c.loop-id.c c.if-work-id-ne0.c 0 (c.loop-id.invariant.1 a m F P) (λ d e. elim w.else-work-id-ne0.branch [
          | else-work-id-ne0-via-then-work-id-ne0+else-work-id v ↦ e v.if-work-id.false
          | else-work-id-ne0-via-else-work-id-ne0 v ↦ d v.if-work-id-ne0.false
        ]) w.c-is
      ],
    )

pub returns : goal.returns
returns c =
    let e : c.loop-id.id ≡ c.args.n = omega arith in
    λ a m F P. c.loop-id.invariant.1 a m F P ∙ ap (wanted_to a) e
