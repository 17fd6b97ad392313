-- `holds::owners_ok`: the test of each owner, one after the other.
use mathlib.Core.Path.{refl, ap, ◌∙◌}
use mathlib.Core.Bool.{Bool}
use Prim.Native.Nat.{ℕ, suc}
use native.Mathlib.Omega.{arith}
use lib.Dec.{leb}
use Rattle.std.proofs.Common.{rules, tests}
use Rattle.std.proofs.lemmas.Iterator.{YieldsList-from_range}
use Rattle.std.proofs.lemmas.Iterator.Search.{all_from_yields_List}
use Rattle.table.specs.Table.{own_holds}
use Rattle.table.specs.Formed.{owners_ok}
use Rattle.mem.specs.Mem.{table_in}
use Rattle.holds.proofs.Ranges.{all_in-range}
use Rattle.holds.proofs.owners_ok.Goals as goal

pub returns : goal.returns
unfolding owners_ok
returns c =
    let t = table_in c.args.mem.now in
    let few : ℕ → Bool = λ w. leb (own_holds t w) 8 in
    all_from_yields_List few _ _ _ c.all.ensures.ran (YieldsList-from_range 1 5 4 refl refl) (λ x b q k. search (rules, tests))
    ∙ all_in-range few (λ i. few (suc i)) 1 4 (λ i. ap few (omega arith))
