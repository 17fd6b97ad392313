-- `plans::plan_blocks`: the plan and the count, of the first i blocks.
use mathlib.Core.Path.{◌≡◌, refl, ap, ◌∙◌}
use mathlib.Core.Bool.{not}
use Prim.Native.Nat.{ℕ, ◌+◌, ◌/◌}
use native.Mathlib.Omega.{arith}
use lib.ListN.{length-set}
use lib.Dec.{eqb}
use Rattle.base.specs.Count.{count_to, sum_to}
use Rattle.base.proofs.Counts.{count_to-le, bit_le}
use Rattle.arena.specs.Fields.{file}
use Rattle.files.specs.Read.{present}
use Rattle.plans.specs.Plan.{absent_to}
use Rattle.plans.proofs.Plans.{absent_more, places-more}
use Rattle.plans.proofs.plan_blocks.Goals as goal

pub loop-i-init : goal.loop-i-init
unfolding count_to sum_to
loop-i-init c = (refl, refl, λ j l. absurd (omega arith))

pub block_at-c-requires : goal.block_at-c-requires
block_at-c-requires c = c.requires.led

pub overflow_cast-plan : goal.overflow_cast-plan
overflow_cast-plan c = omega (arith, c.block_at-c.ensures.1)

pub bounds-plan-i : goal.bounds-plan-i
bounds-plan-i c = omega (arith, c.loop-i.invariant.0)

pub one-requires : goal.one-requires
one-requires c = tt

pub byte-lacking-requires : goal.byte-lacking-requires
byte-lacking-requires c = tt

pub overflow_add-lacking : goal.overflow_add-lacking
overflow_add-lacking c =
    omega (arith, c.byte-lacking.ensures, c.one.ensures, bit_le (eqb c.block_at-c.result 0), c.loop-i.invariant.1, count_to-le (λ j. not (present c.args.arena.now (file c.args.which c.args.name.now) (c.args.pos / 480 + j))) c.loop-i.i)

pub loop-i-preserved : goal.loop-i-preserved
loop-i-preserved c =
    let f = file c.args.which c.args.name.now in (
      simp length-set c.loop-i.invariant.0,
      absent_more c.args.arena.now f c.args.pos c.loop-i.i _ c.block_at-c.ensures.0 _ _ c.loop-i.invariant.1 (ap (λ (x : ℕ). c.loop-i.lacking + x) (c.byte-lacking.ensures ∙ c.one.ensures)),
      places-more c.args.arena.now f c.args.pos c.loop-i.i _ c.block_at-c.ensures.0 c.loop-i.plan (omega (arith, c.loop-i.invariant.0)) c.loop-i.invariant.2,
    )

pub shape_of-plan : goal.shape_of-plan
shape_of-plan c = c.loop-i.invariant.0

pub returns : goal.returns
returns c =
    let e : c.loop-i.i ≡ c.args.k = omega arith in record { value = c.loop-i.invariant.1 ∙ ap (absent_to c.args.arena.now (file c.args.which c.args.name.now) c.args.pos) e; places = λ j h. c.loop-i.invariant.2 j (omega arith) }
