-- `table_bytes::put_empty`: zeros, then the stamp.
use mathlib.Core.Path.{refl, sym}
use native.Mathlib.Omega.{arith}
use lib.Seq.{length-take-le}
use Rattle.table_bytes.proofs.Empty.{empty-put}
use Rattle.table_bytes.proofs.put_empty.Goals as goal

pub slice_bounds-clear-end-2 : goal.slice_bounds-clear-end-2
slice_bounds-clear-end-2 c = sym (length-take-le _ _ (omega arith))

pub returns : goal.returns
returns c =
    empty-put c.args.out.now _ _ _ c.requires c.clear.ensures refl c.put_u64.ensures
