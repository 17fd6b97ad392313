-- `range_stores::fill_down`: the blocks from block i on are one write of the last bytes.
use Rattle.arena.specs.Fields.{file}
use Rattle.range_stores.proofs.Falls.{falls_to, FilledFrom}
use Rattle.range_stores.proofs.fill_down.Given as goal

abbrev pub invariant-loop-i : goal.invariant-loop-i
invariant-loop-i l = FilledFrom l.initial.arena (file 1 l.name) l.src l.dst l.n (falls_to l.dst l.n l.i) l.arena
