-- `files::read::read_part`: the bytes of a block that is there, or zeros.
use mathlib.Core.Path.{ap, ◌∙◌}
use mathlib.Core.List.{List}
use Prim.Native.Nat.{ℕ, ◌+◌, ◌%◌}
use native.Mathlib.Omega.{arith}
use lib.ListN.{length}
use Rattle.base.specs.Parts.{part}
use Rattle.arena.specs.Fields.{file}
use Rattle.overlay.proofs.Views.{length-blk_of}
use Rattle.files.proofs.Runs.{read-block, read-zeros}
use Rattle.files.proofs.read.read_part.Goals as goal

pub returns-then-k-arena : goal.returns-then-k-arena
returns-then-k-arena c =
    c.clear.ensures ∙ read-zeros _ _ c.requires.fine.0 (file c.args.which c.args.name.now) c.args.p _ _ c.find_data-k.ensures c.requires.p_bound.1 c.if-k-arena.true

pub slice_bounds-copy-end : goal.slice_bounds-copy-end
slice_bounds-copy-end c =
    omega (arith, ap length c.block-b.ensures, length-blk_of _ _ c.requires.fine.0 _ c.if-k-arena.false)

pub returns : goal.returns
returns c =
    let p = c.args.p in
    c.copy.ensures
    ∙ ap (λ (x : List ℕ). part x (24 + p % 480) (24 + p % 480 + length c.args.out.now)) c.block-b.ensures
    ∙ read-block _ _ c.requires.fine.0 (file c.args.which c.args.name.now) p _ _ c.find_data-k.ensures c.requires.p_bound.1 c.if-k-arena.false
