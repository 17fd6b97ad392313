-- `replay::play`: each run leaves less of the script.
use Rattle.std.proofs.Common.{◌≡◌, length}
use Rattle.replay_lib.specs.Steps.{to_go}
use Rattle.replay.proofs.play.Given as goal

abbrev pub invariant-loop-desk : goal.invariant-loop-desk
invariant-loop-desk g l =
    (length l.desk ≡ length l.initial.desk) × (length l.arena ≡ length l.initial.arena) × (length l.text ≡ length l.initial.text)

abbrev pub decreases-loop-desk : goal.decreases-loop-desk
decreases-loop-desk g l = to_go (length l.script) l.desk
