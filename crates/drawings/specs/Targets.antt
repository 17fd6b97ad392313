-- Order 7: "following symlinks whose content is the target".
use Rattle.std.specs.Prelude.{◌≡◌, true, List, ℕ, ◌-◌, ◌≤◌, ◌<◌, length, Some}
use Rattle.base.specs.Out.{done}
use Rattle.table.specs.declared.Handle.{Handle}
use Rattle.table.specs.Table.{row_at, live_row}
use Rattle.sefs.specs.Ask.{start}
use Rattle.sefs.specs.Contents.{call_read}
use Rattle.walk.specs.Walk.{Spot, part_in, is_link}
use Rattle.walk.specs.Symlinks.{LinkAt}
use Rattle.sequences.specs.Pairs.{Pair, Passed}

-- from a passed pair: what anybody reads of the symlink, from its start and with room to spare, is the target that a walk finds there, where it fits
-- the room left. With `FollowsCall`: who reads `t` through a handle on the symlink walks `t/q` by walking `l/q`
unfoldable pub ContentIsTarget : Type 0
ContentIsTarget = (p : Pair) (v : ℕ) (g : Handle) (i : ℕ) (room : ℕ) (b : List ℕ) (at node : Spot) (l target : List ℕ) (all : ℕ) → Passed p
    → part_in (start p.arena p.table) at.rec l ≡ done node → is_link node.rec ≡ true
    → live_row p.table v g ≡ Some i → (row_at p.table i).id ≡ node.id
    → call_read p.arena p.table v g 0 all ≡ done target → length target < all → length target ≤ room - length b
    → LinkAt (start p.arena p.table) room b at l target
