-- `mend_plan::plan_ids`: an id after the other.
use mathlib.Core.Path.{◌≡◌, ◌∙◌, subst}
use native.Mathlib.Omega.{arith}
use Rattle.mend_plan.specs.Plan.{Fated}
use Rattle.mend_plan.proofs.plan_ids.Goals as goal

pub plan_id-requires : goal.plan_id-requires
plan_id-requires c = record { led = c.requires.led; loaded = (c.requires.loaded.0, (c.requires.loaded.1, omega (arith, c.ids-id-end.ensures.by_index _ c.requires.loaded.0.1))); arena_value = (c.requires.arena_value.0, c.loop-id.invariant) }

pub returns : goal.returns
returns c =
    subst (Fated c.args.arena.now c.loop-id.work) (let e = c.ids-id-end.ensures.by_index c.args.arena.now c.requires.loaded.0.1 in let q : c.loop-id.id ≡ c.ids-id-end.result = omega arith in q ∙ e) c.loop-id.invariant
