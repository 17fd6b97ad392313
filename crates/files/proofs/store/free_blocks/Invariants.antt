-- `files::store::free_blocks`: after k turns the view is the definition's at k.
use mathlib.Core.Path.{◌≡◌}
use lib.ListN.{length}
use Rattle.base.specs.Search.{pick}
use Rattle.arena.specs.Fields.{file}
use Rattle.overlay.specs.View.{view}
use Rattle.overlay.specs.Steps.{Changed}
use Rattle.files.specs.Store.{clear_to, is_of, is_past}
use Rattle.files.proofs.store.free_blocks.Given as goal

abbrev pub invariant-loop-k : goal.invariant-loop-k
invariant-loop-k l = (length l.work ≡ length l.initial.work) × Changed l.arena l.initial.work l.work (clear_to (pick l.all (is_of (file l.which l.name)) (is_past (file l.which l.name) l.len)) (view l.arena l.initial.work) l.k) 0
