-- Order 10, said of runs of `dz_inventory`, on any bytes.
use Rattle.std.specs.Prelude.{◌≡◌, List, ◌≢◌, ℕ}
use Rattle.base.specs.Out.{done, refused}
use Rattle.sequences.specs.Calls.{inventory}
use Rattle.inventory.specs.Inventory.{stored_tree, call_inventory}
use Rattle.inventory.specs.Promises.{Delivered}
use Rattle.linked.specs.Images.{Image, Places}
use Rattle.linked.specs.Tested.{Ran}
use Rattle.linked.specs.Drawings.{GaveBytes}

-- `delivers`: a run that answers 0 has laid a text over its output's start, and the word says how long it is: "each slot from 2 on of each folder
-- reached from root is listed exactly once, in slot order, a folder's contents right after its own line. Bytes after the text stay."
unfoldable pub RunDelivers : Type 0
RunDelivers = (s u : Image) (x y : Places) (room n : ℕ) → Ran (inventory room) s x u y n → n ≡ 0
    → (t : List ℕ) × (call_inventory s.arena room ≡ done t) × Delivered (stored_tree s.arena) t × GaveBytes t x y n

-- "Refusals: 1, 2; 18 if the checker fails it; 20 if the text doesn't fit": any other number, but for 255, is the definition's, and output and word are
-- as they were
unfoldable pub RunRefuses : Type 0
RunRefuses = (s u : Image) (x y : Places) (room n : ℕ) → Ran (inventory room) s x u y n → n ≢ 0 → n ≢ 255
    → (call_inventory s.arena room ≡ refused n) × (y ≡ x)
