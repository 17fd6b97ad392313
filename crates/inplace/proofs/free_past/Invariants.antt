-- `inplace::free_past`: after k turns the arena is the definition's at k.
use mathlib.Core.Path.{◌≡◌}
use Rattle.arena.specs.Fields.{file}
use Rattle.files.specs.Store.{clear_to, is_past}
use Rattle.inplace.proofs.free_past.Given as goal

abbrev pub invariant-loop-k : goal.invariant-loop-k
invariant-loop-k l = l.arena ≡ clear_to (is_past (file l.which l.name) l.len) l.initial.arena l.k
