-- `calls_sync::decide`: the counting has a copy of the memory.
use mathlib.Core.Path.{sym, ap, subst}
use native.Mathlib.Omega.{arith}
use Rattle.mem.specs.Mem.{Whole}
use Rattle.steps.proofs.Ends.{started}
use Rattle.calls_sync.proofs.Syncs.{decided-start}
use Rattle.mem.specs.State.{fs_at}
use Rattle.calls_sync.proofs.decide.Goals as goal

pub copy-requires : goal.copy-requires
copy-requires c = sym c.requires.1.size

pub try_rows-requires : goal.try_rows-requires
try_rows-requires c =
    (started _ _ 10 c.requires.0 (omega arith) (omega arith) c.begin.ensures, subst Whole (sym c.copy.ensures) c.requires.1)

pub returns : goal.returns
returns c = decided-start (ap (fs_at c.args.arena.now) c.copy.ensures) c.try_rows.ensures
