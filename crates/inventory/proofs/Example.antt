-- A small tree, computed: root (node 2) has a file `a b` (node 3, two names) and a folder `w` (node 4), which has `\` (node 3 again).
-- The list is then 3 lines: `3 1 2 /a\20b`, `4 2 2 /w`, `3 1 2 /w/\5c`.
use mathlib.Core.Path.{◌≡◌, refl}
use mathlib.Core.Bool.{◌&&◌}
use mathlib.Core.List.{List, [], ◌∷◌}
use Prim.Native.Nat.{ℕ}
use lib.Dec.{eqb, ltb}
use Rattle.base.specs.Search.{pick, lowest}
use Rattle.structs.specs.Layout.{join}
use Rattle.structs.specs.declared.DiskEntry.{DiskEntry}
use Rattle.utf8.specs.Names.{zero_at}
use Rattle.tree.specs.Tree.{Tree}
use Rattle.inventory.specs.Text.{digits, decimal, is_escaped, escape_byte, escape, path_to, line}
use Rattle.inventory.specs.Visits.{join_to, visits_to, visits, node_line, lines_of}

abbrev slot : ℕ → List ℕ → ℕ → DiskEntry
slot id name kind = record { id = id; name = name; kind = kind }

abbrev root_slot : ℕ → DiskEntry
root_slot k = pick (eqb k 2) (slot 3 (97 ∷ 32 ∷ 98 ∷ 0 ∷ []) 1) (slot 4 (119 ∷ 0 ∷ []) 2)

abbrev small : Tree
small = record {
  ids = 1024;
  node = λ i. ltb 1 i && ltb i 5;
  kind = λ i. pick (eqb i 3) 1 2;
  links = λ i. pick (eqb i 2) 3 2;
  blocks = λ i. pick (eqb i 2) 4 3;
  size = λ i. 0;
  long = λ i. 0;
  slot = λ i k. pick (eqb i 2) (root_slot k) (slot 3 (92 ∷ 0 ∷ []) 1);
  opened = λ i. eqb i 9;
}

pub small-text : lines_of small (visits small)
    ≡ 51 ∷ 32 ∷ 49 ∷ 32 ∷ 50 ∷ 32 ∷ 47 ∷ 97 ∷ 92 ∷ 50 ∷ 48 ∷ 98 ∷ 10
    ∷ 52 ∷ 32 ∷ 50 ∷ 32 ∷ 50 ∷ 32 ∷ 47 ∷ 119 ∷ 10
    ∷ 51 ∷ 32 ∷ 49 ∷ 32 ∷ 50 ∷ 32 ∷ 47 ∷ 119 ∷ 47 ∷ 92 ∷ 53 ∷ 99 ∷ 10 ∷ []
unfolding lines_of node_line visits visits_to join_to line join decimal digits path_to escape escape_byte is_escaped zero_at lowest
small-text = refl
