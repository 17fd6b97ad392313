-- `run_from`: each turn moves on, and writes no more than a line.
use mathlib.Core.Path.{◌≡◌}
use Prim.Native.Nat.{◌*◌, ◌-◌, ◌≤◌}
use lib.ListN.{length}
use Rattle.replay_lib.proofs.run_from.Given as goal

abbrev pub invariant-loop-at : goal.invariant-loop-at
invariant-loop-at l = (l.from ≤ l.at) × (l.w ≤ 512 * (l.at - l.from)) × (l.w ≤ length l.initial.text) × (length l.desk ≡ length l.initial.desk) × (length l.arena ≡ length l.initial.arena) × (length l.text ≡ length l.initial.text)

abbrev pub decreases-loop-at : goal.decreases-loop-at
decreases-loop-at l = length l.script - l.at
