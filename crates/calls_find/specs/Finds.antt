-- Root and find, in the parts that the code has.
use Rattle.std.specs.Prelude.{◌≡◌, List, ℕ}
use Rattle.base.specs.Out.{Out, ensure, ◌>>=◌}
use Rattle.base.specs.Reasons.{table_full}
use Rattle.structs.specs.declared.DiskINode.{DiskINode}
use Rattle.table.specs.declared.Table.{Table}
use Rattle.table.specs.declared.Added.{Added}
use Rattle.table.specs.Table.{can_hold}
use Rattle.sefs.specs.Ask.{start, good_name}
use Rattle.sefs.specs.Open.{hold_node}
use Rattle.calls.specs.Answers.{out_of, got_of, held_table}
use Rattle.calls.specs.declared.HeldReply.{HeldReply}
use Rattle.finds.specs.Parts.{find_folder, find_id}

-- a call that makes a hold answers what its outcome says, with the outcome's table
abbrev pub Gives : Table → Out Added → HeldReply → Type 0
Gives t o r = (out_of r.answer ≡ got_of o) × (r.table ≡ held_table t o)

-- ---- 16, then the opening

unfoldable pub give_node : List ℕ → Table → ℕ → ℕ → Out Added
give_node a t w id = do
  _ ← ensure (can_hold t w) table_full
  hold_node (start a t) w id

-- ---- find, once the handle's row is known

unfoldable pub find_ask : DiskINode → List ℕ → Out Unit
find_ask r name = do
  _ ← good_name name
  find_folder r name

unfoldable pub find_in : List ℕ → DiskINode → List ℕ → Out ℕ
find_in a r name = do
  _ ← find_ask r name
  find_id a r name

-- the node that the name leads to
unfoldable pub give_named : List ℕ → Table → ℕ → DiskINode → List ℕ → Out Added
give_named a t w r name = do
  id ← find_in a r name
  give_node a t w id
