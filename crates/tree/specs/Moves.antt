-- A folder goes to another folder, without bytes: order 2, "`..` must name the new parent" and "a folder can't go into itself or below". Then a
-- tidy tree stays so.
use Rattle.std.specs.Prelude.{◌≡◌, Bool, true, false, ◌&&◌, [], ◌∷◌, ◌≢◌, ℕ, ◌+◌, ◌*◌, ◌-◌, ◌≤◌, ◌<◌, eqb}
use Rattle.base.specs.Search.{pick}
use Rattle.structs.specs.Constants.{type_dir}
use Rattle.structs.specs.Types.{is_folder}
use Rattle.structs.specs.declared.DiskEntry.{DiskEntry}
use Rattle.utf8.specs.Names.{name_of, zero_at, EndedAt, has_slash}
use Rattle.tree.specs.Tree.{Spelling, Tree, folder_at, up, Lives, Tidy}

-- where the folder's new slot stands: at the target's end, or in the place of an empty folder's, which goes
pub data Spot : Type 0 where
  end : Spot
  over : ℕ → Spot

-- how many slots, and how many folders, the target loses
abbrev pub lost : Spot → ℕ
lost end = 0
lost (over d) = 1

-- whether x is the folder that goes
abbrev pub goes : Spot → ℕ → Bool
goes end x = false
goes (over d) x = eqb d x

-- w is v, but for folder c, which has gone from slot p of folder f to slot k of folder g, as e
pub record Moves (v w : Tree) (f p g k c : ℕ) (o : Spot) (e : DiskEntry) : Type 0 where
  pub ids : w.ids ≡ v.ids
  pub node : (i : ℕ) → w.node i ≡ v.node i
  pub kind : (i : ℕ) → v.node i ≡ true → w.kind i ≡ v.kind i
  pub size : (i : ℕ) → v.node i ≡ true → w.size i ≡ v.size i
  pub opened : (i : ℕ) → v.node i ≡ true → v.opened i ≡ true → w.opened i ≡ true
  pub blocks : (i : ℕ) → folder_at v i ≡ true → i ≢ f → i ≢ g → w.blocks i ≡ v.blocks i
  pub long : (i : ℕ) → v.node i ≡ true → i ≢ f → i ≢ g → w.long i ≡ v.long i
  pub slots : (i : ℕ) → folder_at v i ≡ true → i ≢ f → i ≢ g → (j : ℕ) → j < v.blocks i → (i ≡ c → j ≢ 1) → w.slot i j ≡ v.slot i j
  -- the moved folder's `..`
  pub dots : (w.slot c 1).id ≡ g
  pub dots-name : name_of (w.slot c 1).name ≡ 46 ∷ 46 ∷ []
  pub dots-kind : (w.slot c 1).kind ≡ type_dir
  -- the source: the last slot takes the place of the one that goes
  pub still : (j : ℕ) → j + 1 < v.blocks f → j ≢ p → w.slot f j ≡ v.slot f j
  pub moved : p + 1 < v.blocks f → w.slot f p ≡ v.slot f (v.blocks f - 1)
  pub fewer : w.blocks f + 1 ≡ v.blocks f
  pub shorter : w.long f ≡ 264 * w.blocks f
  -- the target
  pub new : w.slot g k ≡ e
  pub same : (j : ℕ) → j < w.blocks g → j ≢ k → w.slot g j ≡ v.slot g j
  pub more : w.blocks g + lost o ≡ v.blocks g + 1
  pub longer : w.long g ≡ 264 * w.blocks g
  -- links: `..` names the source once less and the target once more
  pub links : (i : ℕ) → v.node i ≡ true → i ≢ f → i ≢ g → goes o i ≡ false → w.links i ≡ v.links i
  pub from : w.links f + 1 ≡ v.links f
  pub to : w.links g + lost o ≡ v.links g + 1
  pub none : (i : ℕ) → goes o i ≡ true → w.links i ≡ 0

-- slot k of folder g names another folder, d, which is empty and open
pub record Over (v : Tree) (g k c d : ℕ) : Type 0 where
  pub later : 2 ≤ k
  pub inside : k < v.blocks g
  pub names : (v.slot g k).id ≡ d
  pub folder : is_folder (v.kind d) ≡ true
  pub small : v.blocks d ≤ 2
  pub opened : v.opened d ≡ true
  pub apart : d ≢ c

abbrev pub Takes : Tree → ℕ → ℕ → ℕ → Spot → Type 0
Takes v g k c end = k ≡ v.blocks g
Takes v g k c (over d) = Over v g k c d

-- it may go there
pub record MayMove (v : Tree) (f p g k c : ℕ) (o : Spot) (e : DiskEntry) : Type 0 where
  pub source : Lives v f
  pub target : Lives v g
  pub apart : f ≢ g
  pub later : 2 ≤ p
  pub inside : p < v.blocks f
  pub names : (v.slot f p).id ≡ c
  pub folder : is_folder (v.kind c) ≡ true
  -- the climb from the target does not meet it
  pub avoids : (n : ℕ) → up v g n ≢ c
  pub id : e.id ≡ c
  pub kind : e.kind ≡ v.kind c
  pub ended : EndedAt e.name (zero_at e.name)
  pub some : name_of e.name ≢ []
  pub no-dot : name_of e.name ≢ 46 ∷ []
  pub no-dots : name_of e.name ≢ 46 ∷ 46 ∷ []
  pub no_slash : has_slash (name_of e.name) ≡ false
  pub fresh : (j : ℕ) → 2 ≤ j → j < v.blocks g → j ≢ k → name_of (v.slot g j).name ≢ name_of e.name
  pub takes : Takes v g k c o

unfoldable pub MovesTidy : Type 0
MovesTidy = (style : Spelling) (v w : Tree) (f p g k c : ℕ) (o : Spot) (e : DiskEntry) → Tidy style v → MayMove v f p g k c o e → Moves v w f p g k c o e → Tidy style w

-- ---- between the slots' move and the end, a tree as it will be: folder c, which goes from folder f to folder g, has e for its `..`, and they have
-- their links

abbrev pub turned : ℕ → ℕ → ℕ → DiskEntry → Tree → Tree
turned c f g e v = record {
  ids = v.ids;
  node = v.node;
  kind = v.kind;
  links = λ i. pick (eqb i f) (v.links i - 1) (pick (eqb i g) (v.links i + 1) (v.links i));
  blocks = v.blocks;
  size = v.size;
  long = v.long;
  slot = λ i k. pick (eqb i c && eqb k 1) e (v.slot i k);
  opened = v.opened;
}
