-- `utf8::valid`: what is left to read, read from where the loop stands, gives what all of it gives from the start.
use mathlib.Core.Path.{◌≡◌}
use lib.ListN.{drop}
use Rattle.utf8.specs.declared.State.TheVariants.{Whole}
use Rattle.utf8.specs.Utf8.{after}
use Rattle.utf8.proofs.valid.Given as goal

abbrev pub invariant-loop-b : goal.invariant-loop-b
invariant-loop-b l = after l.at (drop l.b-index l.s) ≡ after Whole l.s
