-- `inplace::drop_file`: after k turns the arena is the definition's at k.
use mathlib.Core.Path.{◌≡◌}
use Rattle.arena.specs.Fields.{file}
use Rattle.files.specs.Store.{clear_to, is_of}
use Rattle.inplace.proofs.drop_file.Given as goal

abbrev pub invariant-loop-k : goal.invariant-loop-k
invariant-loop-k l = l.arena ≡ clear_to (is_of (file l.which l.name)) l.initial.arena l.k
