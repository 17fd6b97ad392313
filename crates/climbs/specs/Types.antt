-- The type rules of move, as the code's functions have them.
use Rattle.std.specs.Prelude.{ℕ, ◌≤◌, leb}
use Rattle.base.specs.Out.{Out, guard}
use Rattle.base.specs.Reasons.{dir_not_empty}
use Rattle.structs.specs.Types.{move_verdict_of}
use Rattle.structs.specs.declared.DiskINode.{DiskINode}
use Rattle.sefs.specs.State.{Fs}
use Rattle.sefs.specs.Nodes.{rec_at}
use Rattle.sefs.specs.Move.{read_slots, judge}

-- the types that the table of verdicts has
abbrev pub Typed : DiskINode → Type 0
Typed r = (1 ≤ r.kind) × (r.kind ≤ 4)

unfoldable pub if_empty : Fs → ℕ → Out Fs
if_empty s d = guard (leb (rec_at s d).blocks 2) dir_not_empty (read_slots s d (rec_at s d).blocks)

unfoldable pub judge_rows : Fs → ℕ → ℕ → Out Fs
judge_rows s c d = judge (move_verdict_of (rec_at s c).kind (rec_at s d).kind) s d
