-- What an arena has of a node that is made: its own file, and its folder's with a slot more.
use mathlib.Core.Path.{◌≡◌, refl, sym, ◌∙◌, subst}
use mathlib.Core.Bool.{true, false}
use mathlib.Core.List.{List, [], ◌∷◌}
use mathlib.Core.Logic.{◌≢◌}
use Prim.Native.Nat.{ℕ, ◌+◌, ◌*◌, ◌<◌}
use Rattle.structs.specs.Constants.{type_dir}
use Rattle.structs.specs.Types.{is_folder}
use Rattle.structs.specs.declared.DiskEntry.{DiskEntry}
use Rattle.structs.specs.declared.DiskINode.{DiskINode}
use Rattle.arena.specs.Fields.{file}
use Rattle.files.specs.Read.{there, length_of}
use Rattle.files_laws.specs.Laws.{Kept}
use Rattle.sefs.specs.State.{Meta}
use Rattle.sefs.specs.Meta.{meta_file}
use Rattle.sefs.specs.Nodes.{node_file}
use Rattle.sefs.specs.Folders.{entry}
use Rattle.rules.specs.Image.{stored_super, stored_maps, is_node, stored_bytes, slot_in}
use Rattle.rules.specs.Rules.{Rule1}
use Rattle.image.proofs.Appends.{slot_kept}

-- the new node's file: empty, or a folder's with its two slots
pub record Young (f : List ℕ) (kind id up : ℕ) (b : List ℕ) : Type 0 where
  pub exists : there b (file 1 f) ≡ true
  pub empty : is_folder kind ≡ false → length_of b (file 1 f) ≡ 0
  pub size : is_folder kind ≡ true → length_of b (file 1 f) ≡ 528
  pub dot : is_folder kind ≡ true → (r : DiskINode) → r.file ≡ f → slot_in b r 0 ≡ entry id (46 ∷ []) type_dir
  pub dots : is_folder kind ≡ true → (r : DiskINode) → r.file ≡ f → slot_in b r 1 ≡ entry up (46 ∷ 46 ∷ []) type_dir

-- the folder's file: the slots that it had, and e
pub record Housed (a : List ℕ) (s : DiskINode) (e : DiskEntry) (b : List ℕ) : Type 0 where
  pub exists : there b (node_file s) ≡ true
  pub long : length_of b (node_file s) ≡ 264 * (s.blocks + 1)
  pub slots : (r : DiskINode) → r.file ≡ s.file → (k : ℕ) → k < s.blocks → slot_in b r k ≡ slot_in a s k
  pub new : (r : DiskINode) → r.file ≡ s.file → slot_in b r s.blocks ≡ e

-- they stay so where the file is kept
pub young-kept : (f : List ℕ) (kind id up : ℕ) (b c : List ℕ) → Young f kind id up b → Kept b c (file 1 f) → Young f kind id up c
young-kept f kind id up b c Y K = record {
  exists = K.exists ∙ Y.exists;
  empty = λ z. K.long ∙ Y.empty z;
  size = λ z. K.long ∙ Y.size z;
  dot = λ z r q. slot_kept b c r r refl (subst (λ (g : List ℕ). Kept b c (file 1 g)) (sym q) K) 0 ∙ Y.dot z r q;
  dots = λ z r q. slot_kept b c r r refl (subst (λ (g : List ℕ). Kept b c (file 1 g)) (sym q) K) 1 ∙ Y.dots z r q;
}

pub housed-kept : (a : List ℕ) (s : DiskINode) (e : DiskEntry) (b c : List ℕ) → Housed a s e b → Kept b c (node_file s) → Housed a s e c
housed-kept a s e b c H K = record {
  exists = K.exists ∙ H.exists;
  long = K.long ∙ H.long;
  slots = λ r q k l. slot_kept b c r r refl (subst (λ (g : List ℕ). Kept b c (file 1 g)) (sym q) K) k ∙ H.slots r q k l;
  new = λ r q. slot_kept b c r r refl (subst (λ (g : List ℕ). Kept b c (file 1 g)) (sym q) K) s.blocks ∙ H.new r q;
}

-- superblock and maps as in memory, records as they were stored, the two files, and the others as they were
pub record Bred (a : List ℕ) (m : Meta) (f : List ℕ) (kind id up : ℕ) (s : DiskINode) (e : DiskEntry) (b : List ℕ) : Type 0 where
  pub fine : Rule1 b
  pub super : stored_super b ≡ m.super
  pub maps : stored_maps b ≡ m.maps
  pub long : length_of b meta_file ≡ 131072 * m.super.groups
  pub stored : (k : ℕ) → is_node a k ≡ true → stored_bytes b k ≡ stored_bytes a k
  pub young : Young f kind id up b
  pub housed : Housed a s e b
  pub others : (g : List ℕ) → g ≢ f → g ≢ s.file → Kept a b (file 1 g)
