-- `files::read::read_run`: the first `got` bytes are the file's.
use Prim.Native.Nat.{◌+◌, ◌-◌, ◌≤◌}
use lib.ListN.{length}
use Rattle.base.proofs.Lists.{Stored}
use Rattle.arena.specs.Fields.{file}
use Rattle.overlay.specs.View.{view}
use Rattle.files.specs.Read.{byte_at}
use Rattle.files.proofs.read.read_run.Given as goal

abbrev pub invariant-loop-got : goal.invariant-loop-got
invariant-loop-got l = (l.got ≤ l.total) × Stored (length l.initial.out) (λ j. byte_at (view l.arena l.work) (file l.which l.name) (l.pos + j)) l.out l.got

abbrev pub decreases-loop-got : goal.decreases-loop-got
decreases-loop-got l = l.total - l.got
