-- `put_digits`: the place goes down, and what is written keeps the length.
use Rattle.std.proofs.Common.{◌≡◌, ◌<◌, ◌≤◌, length}
use Rattle.script.proofs.text.put_digits.Given as goal

abbrev pub invariant-loop-i : goal.invariant-loop-i
invariant-loop-i l = (0 < l.i) × (l.i ≤ 21) × (length l.digits ≡ length l.initial.digits)

abbrev pub decreases-loop-i : goal.decreases-loop-i
decreases-loop-i l = l.i
