-- The theorems: where the call is done, the list is as promised; and every node but root is on it.
use mathlib.Core.Path.{◌≡◌, sym, ap, ◌∙◌}
use mathlib.Core.Bool.{true, false, not}
use mathlib.Core.List.{List}
use mathlib.Core.Logic.{◌≢◌}
use Prim.Native.Nat.{ℕ, ◌<◌}
use lib.Dec.{eqb, ltb}
use lib.ListN.{get_or-replicate}
use borrow.Author.Tests.{ne_eqb, eqb-false, not-true}
use Rattle.std.specs.Prelude.{None}
use Rattle.base.proofs.Bools.{and_parts}
use Rattle.base.proofs.Finds.{search-none}
use Rattle.structs.specs.Layout.{record_of}
use Rattle.table.specs.Table.{empty_table, off_row, row_at, is_row, row_of}
use Rattle.table.specs.Zero.{zero_row}
use Rattle.table.specs.declared.Row.{Row}
use Rattle.sefs.specs.Nodes.{no_row}
use Rattle.rules.specs.Image.{is_node, ids_in, is_open, stored_bytes, rec_by, rec_of}
use Rattle.rules.specs.Tests.{checked}
use Rattle.rules.proofs.Check.{check-pass}
use Rattle.tree.specs.Tree.{any, Tidy}
use Rattle.image.proofs.Images.{fair}
use Rattle.inventory.specs.Visits.{visits}
use Rattle.inventory.specs.Inventory.{stored_tree, text}
use Rattle.inventory.specs.Promises.{Delivers, Everyone}
use Rattle.inventory.proofs.Calls.{call-done}
use Rattle.inventory.proofs.Orders.{in_order}
use Rattle.inventory.proofs.Once.{due-once}
use Rattle.inventory.proofs.Due.{only-due, node-due}

-- what the checker passes with an empty table is tidy
pub tidy : (a : List ℕ) → checked a empty_table ≡ 0 → Tidy any (stored_tree a)
tidy a e = (fair a empty_table (check-pass a empty_table e)).tidy

pub delivers : Delivers
unfolding Delivers text
delivers a room t e =
    let C = call-done a room t e in
    let I = tidy a C.passes in
    record {
      list = visits (stored_tree a);
      lines = C.is;
      once = due-once (stored_tree a) I;
      only = only-due (stored_tree a);
      order = in_order (stored_tree a) I;
    }

-- no row of the empty table has a node's id: records are the stored ones, and nothing is open
pub empty-id : (i : ℕ) → i < 34 → (row_at empty_table i).id ≡ 0
empty-id i l = ap (λ (r : Row). r.id) (get_or-replicate 34 i zero_row off_row l)

empty-row : (id : ℕ) → id ≢ 0 → row_of empty_table id ≡ None
unfolding row_of
empty-row id n = sym (search-none (is_row empty_table id) 34 (λ j l. ne_eqb (row_at empty_table j).id id (λ e. n (sym e ∙ empty-id j l))))

pub stored-record : (a : List ℕ) (id : ℕ) → id ≢ 0 → rec_of a empty_table id ≡ record_of (stored_bytes a id)
unfolding rec_of
stored-record a id n = ap (rec_by a empty_table id) (empty-row id n)

node-shut : (a : List ℕ) (id : ℕ) → is_node a id ≡ true → is_open empty_table id ≡ false
unfolding is_node is_open
node-shut a id n =
    let z : id ≢ 0 = eqb-false id 0 (not-true (eqb id 0) (and_parts _ _ (and_parts (ltb id (ids_in a)) _ n).1).0) in
    ap (λ f. not (no_row f)) (empty-row id z)

pub everyone : Everyone
unfolding Everyone
everyone a e id n d = node-due (stored_tree a) (tidy a e) (node-shut a) id n d
