-- `mend_plan::find_places`: the plan from the first block on.
use mathlib.Core.Path.{◌∙◌}
use Rattle.mend_plan.proofs.Rooms.{all_placed}
use Rattle.mend_plan.proofs.find_places.Goals as goal

pub returns : goal.returns
returns c =
    all_placed c.args.arena.now c.plan_blocks.new.plan (c.plan_blocks.auto.plan ∙ c.requires.places_len) c.plan_blocks.ensures.places
