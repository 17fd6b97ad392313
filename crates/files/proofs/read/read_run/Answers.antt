-- `files::read::read_run`: the first `got` bytes are the file's.
use mathlib.Core.Path.{◌≡◌, ap, ◌∙◌}
use Prim.Native.Nat.{◌+◌}
use native.Mathlib.Omega.{arith}
use lib.ListN.{length}
use Rattle.base.proofs.Parts.{run_more, run-all}
use Rattle.base.specs.Parts.{part, tab}
use Rattle.base.proofs.Lists.{stored-none, length_part}
use Rattle.arena.specs.Fields.{file}
use Rattle.overlay.specs.View.{view}
use Rattle.files.specs.Read.{byte_at}
use Rattle.files.proofs.read.read_run.Goals as goal

pub loop-got-init : goal.loop-got-init
loop-got-init c = (omega arith, stored-none _ _)

pub least-m-requires : goal.least-m-requires
least-m-requires c = tt

pub slice_bounds-read_part-end : goal.slice_bounds-read_part-end
slice_bounds-read_part-end c = omega (arith, c.loop-got.invariant.1.size)

pub read_part-requires : goal.read_part-requires
read_part-requires c =
    let g = c.loop-got.got in record { fine = c.requires.fine; p_bound = (omega arith, omega (arith, length_part c.loop-got.out g (g + c.least-m.result) (omega arith) (omega (arith, c.loop-got.invariant.1.size)))) }

pub loop-got-preserved : goal.loop-got-preserved
loop-got-preserved c =
    let g = c.loop-got.got in
    let m = c.least-m.result in
    let f = byte_at (view c.args.arena.now c.args.work.now) (file c.args.which c.args.name.now) in
    let n : length (part c.loop-got.out g (g + m)) ≡ m = length_part c.loop-got.out g (g + m) (omega arith) (omega (arith, c.loop-got.invariant.1.size)) ∙ omega arith in
    (omega arith, run_more _ f c.args.pos _ _ g m (omega arith) (◌∙◌ {b = tab f (c.args.pos + g) (length (part c.loop-got.out g (g + m)))} c.read_part.ensures (ap (tab f (c.args.pos + g)) n)) c.loop-got.invariant.1)

pub returns : goal.returns
returns c = run-all _ _ _ _ _ (omega arith) c.loop-got.invariant.1
