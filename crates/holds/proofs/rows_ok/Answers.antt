-- `holds::rows_ok`: the test of each row, one after the other.
use mathlib.Core.Path.{refl, ◌∙◌}
use Rattle.std.proofs.Common.{rules, tests}
use Rattle.std.proofs.lemmas.Iterator.{YieldsList-from_range}
use Rattle.std.proofs.lemmas.Iterator.Search.{all_from_yields_List}
use Rattle.table.specs.Formed.{row_ok, rows_ok}
use Rattle.mem.specs.Mem.{table_in}
use Rattle.holds.proofs.Ranges.{all_below}
use Rattle.holds.proofs.rows_ok.Goals as goal

pub returns : goal.returns
unfolding rows_ok
returns c =
    let t = table_in c.args.mem.now in
    all_from_yields_List (row_ok t) _ _ _ c.all.ensures.ran (YieldsList-from_range 0 34 34 refl refl) (λ x b q k. search (rules, tests)) ∙ all_below (row_ok t) 34
