-- What holds of an image in the middle of a call, and the words in which the laws of the steps are said.
use Rattle.std.specs.Prelude.{true, List, ◌≡◌, ◌≢◌, ℕ, ◌≤◌, ◌<◌}
use Rattle.le.specs.Le.{Bytes}
use Rattle.table.specs.declared.Table.{Table}
use Rattle.table.specs.Table.{row_at}
use Rattle.table_bytes.specs.Fits.{TableFits}
use Rattle.files.specs.Read.{length_of}
use Rattle.sefs.specs.State.{Meta}
use Rattle.sefs.specs.Nodes.{node_file}
use Rattle.sefs.specs.Folders.{dots_entry}
use Rattle.rules.specs.Image.{stored_super, stored_maps, ids_in, is_node, rec_of, is_open, is_folder_at, slot_in}
use Rattle.utf8.specs.Names.{name_of}
use Rattle.rules.specs.Rules.{Rule1, Rule3, Rule4, Rule5}
use Rattle.table_laws.specs.Rules.{Formed}
use Rattle.tree.specs.Tree.{Tree, Spelling, Spelt, Tidy}
use Rattle.tree.specs.Moves.{turned}

-- ---- superblock and maps

abbrev pub stored_meta : List ℕ → Meta
stored_meta a = record { super = stored_super a; maps = stored_maps a }

-- ---- admission, handles, rows

-- row i is in use
pub record Used (t : Table) (i : ℕ) : Type 0 where
  pub below : i < 34
  pub node : (row_at t i).id ≢ 0

-- ---- an image's tree

abbrev pub tree_of : List ℕ → Table → Tree
tree_of a t = record {
  ids = ids_in a;
  node = is_node a;
  kind = λ i. (rec_of a t i).kind;
  links = λ i. (rec_of a t i).nlinks;
  blocks = λ i. (rec_of a t i).blocks;
  size = λ i. (rec_of a t i).size;
  long = λ i. length_of a (node_file (rec_of a t i));
  slot = λ i k. slot_in a (rec_of a t i) k;
  opened = is_open t;
}

-- an image's later names are spelt so
abbrev pub Spells : Spelling → List ℕ → Table → Type 0
Spells style a t = (i k : ℕ) → is_folder_at a t i ≡ true → 2 ≤ k → k < (rec_of a t i).blocks → Spelt style (name_of (slot_in a (rec_of a t i) k).name)

-- ---- how an image's tree is looked at: as it is, or, from a folder's slot to its `..`, as it will be (folder c goes from folder f to folder g);
-- and how its later names are spelt

pub data Look : Type 0 where
  plain : Spelling → Look
  turning : Spelling → (c f g : ℕ) → Look

abbrev pub look : Look → Tree → Tree
look (plain style) v = v
look (turning style c f g) v = turned c f g (dots_entry g) v

abbrev pub style_of : Look → Spelling
style_of (plain style) = style
style_of (turning style c f g) = style

-- ---- what holds of the image in the middle of a call too: all rules but that the table is well formed, and rules 6 to 8 of its tree as it is
-- looked at

pub record Fairly (k : Look) (a : List ℕ) (t : Table) : Type 0 where
  pub rule1 : Rule1 a
  pub rule3 : Rule3 a
  pub rule4 : Rule4 a t
  pub rule5 : Rule5 a t
  pub tidy : Tidy (style_of k) (look k (tree_of a t))

abbrev pub Fair : Spelling → List ℕ → Table → Type 0
Fair style a t = Fairly (plain style) a t

-- ---- in the middle of a call: the table is well formed but for the call's own rows

pub record Amid (k : Look) (own : ℕ → Type 0) (a : List ℕ) (t : Table) : Type 0 where
  pub fair : Fairly k a t
  pub formed : Formed own t
  pub bytes : Bytes a
  pub fits : TableFits t

abbrev pub Midway : Spelling → (ℕ → Type 0) → List ℕ → Table → Type 0
Midway style own a t = Amid (plain style) own a t
