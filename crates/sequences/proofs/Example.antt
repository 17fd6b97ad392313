-- There is a pair that passes: what format leaves of 16 blocks of zeros.
use mathlib.Core.Path.{◌≡◌, refl}
use mathlib.Core.Bool.{true}
use mathlib.Core.List.{List}
use Prim.Native.Nat.{ℕ}
use lib.ListN.{replicate}
use Rattle.table.specs.Zero.{zero_time}
use Rattle.table.specs.Table.{empty_table}
use Rattle.arena.specs.Blocks.{legal}
use Rattle.files_laws.proofs.Bounds.{named-meta, named-node}
use Rattle.sequences.specs.Pairs.{Pair, pair, Passed}
use Rattle.table_bytes.proofs.Empty.{zero-fits}
use Rattle.image.proofs.Zeros.{zero_arena}
use Rattle.sequences.proofs.Fresh.{format-goes}

blocks-16 : legal (zero_arena 8192) ≡ true
unfolding legal
blocks-16 = refl

-- at time 0, with a file name of zeros
pub some-fresh : (b : List ℕ) × Passed (pair b empty_table)
some-fresh =
    let x = format-goes (zero_arena 8192) zero_time (replicate 16 0) zero-fits.atime (named-node (replicate 16 0) named-meta.size named-meta.bytes) blocks-16 in
    (x.0, x.2.passes)

pub some-passed : (p : Pair) × Passed p
some-passed = (pair some-fresh.0 empty_table, some-fresh.1)
