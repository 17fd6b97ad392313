-- There is an arena that can be mended, and is left as it is: what format leaves of 16 blocks of zeros.
use mathlib.Core.Path.{◌≡◌}
use mathlib.Core.List.{List}
use Prim.Native.Nat.{ℕ}
use Rattle.base.specs.Out.{done}
use Rattle.table.specs.Table.{empty_table}
use Rattle.sequences.specs.Pairs.{pair}
use Rattle.sequences.proofs.Example.{some-fresh}
use Rattle.mending.specs.Mendable.{Mendable}
use Rattle.mending.specs.Mend.{call_mend}
use Rattle.mending.specs.Promises.{MendIdle}
use Rattle.mending.proofs.Tables.{empty_holds}
use Rattle.mending.proofs.Idle.{mend-idle}
use Rattle.deaths.specs.Deaths.{Dies}
use Rattle.deaths.proofs.Recoveries.{dies}
use Rattle.deaths.proofs.Sequences.{empty-lasting}

pub some-mended : (a : List ℕ) × Mendable a × (call_mend a empty_table ≡ done a)
unfolding MendIdle Dies
some-mended =
    let a = some-fresh.0 in
    let P = some-fresh.1 in
    (a, (dies (pair a empty_table) P (empty-lasting a)).mendable, mend-idle a empty_table P.typed.bytes P.passes empty_holds)
