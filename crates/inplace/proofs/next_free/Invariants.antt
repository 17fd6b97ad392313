-- `inplace::next_free`: no block below k is free.
use Prim.Native.Nat.{◌≤◌}
use Rattle.arena.specs.Places.{free_of}
use Rattle.inplace.proofs.next_free.Given as goal

abbrev pub invariant-loop-k : goal.invariant-loop-k
invariant-loop-k l = l.k ≤ free_of l.arena
