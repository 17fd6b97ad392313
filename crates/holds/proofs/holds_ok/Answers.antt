-- `holds::holds_ok`: the test of each hold, one after the other.
use mathlib.Core.Path.{refl, ◌∙◌}
use Rattle.std.proofs.Common.{rules, tests}
use Rattle.std.proofs.lemmas.Iterator.{YieldsList-from_range}
use Rattle.std.proofs.lemmas.Iterator.Search.{all_from_yields_List}
use Rattle.table.specs.Formed.{hold_ok, holds_ok}
use Rattle.mem.specs.Mem.{table_in}
use Rattle.holds.proofs.Ranges.{all_below}
use Rattle.holds.proofs.holds_ok.Goals as goal

pub returns : goal.returns
unfolding holds_ok
returns c =
    let t = table_in c.args.mem.now in
    all_from_yields_List (hold_ok t) _ _ _ c.all.ensures.ran (YieldsList-from_range 0 32 32 refl refl) (λ x b q k. search (rules, tests)) ∙ all_below (hold_ok t) 32
