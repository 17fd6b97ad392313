-- `utf8::put_name`: the front becomes the name, and then the rest zeros.
use mathlib.Core.Path.{sym}
use native.Mathlib.Omega.{arith}
use lib.Seq.{length-take-le}
use Rattle.utf8.proofs.Names.{name-laid}
use Rattle.utf8.proofs.put_name.Goals as goal

pub slice_bounds-copy-end-2 : goal.slice_bounds-copy-end-2
slice_bounds-copy-end-2 c = sym (length-take-le _ _ (omega arith))

pub copy-requires : goal.copy-requires
copy-requires c = length-take-le _ _ (omega arith)

pub returns : goal.returns
returns c =
    name-laid c.args.name.now c.args.out.now _ _ c.copy.ensures c.requires.0 c.requires.1 (c.fill.ensures.after (λ y e. e))
