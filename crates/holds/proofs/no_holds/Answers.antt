-- `holds::no_holds`: the test of each hold, one after the other.
use mathlib.Core.Path.{refl, ◌∙◌}
use mathlib.Core.Bool.{Bool}
use Prim.Native.Nat.{ℕ}
use lib.Dec.{eqb}
use Rattle.std.proofs.Common.{rules, tests}
use Rattle.std.proofs.lemmas.Iterator.{YieldsList-from_range}
use Rattle.std.proofs.lemmas.Iterator.Search.{all_from_yields_List}
use Rattle.table.specs.Table.{hold_at, no_holds}
use Rattle.mem.specs.Mem.{table_in}
use Rattle.holds.proofs.Ranges.{all_below}
use Rattle.holds.proofs.no_holds.Goals as goal

pub returns : goal.returns
unfolding no_holds
returns c =
    let t = table_in c.args.mem.now in
    let free : ℕ → Bool = λ i. eqb (hold_at t i).stamp 0 in
    all_from_yields_List free _ _ _ c.all.ensures.ran (YieldsList-from_range 0 32 32 refl refl) (λ x b q k. search (rules, tests)) ∙ all_below free 32
