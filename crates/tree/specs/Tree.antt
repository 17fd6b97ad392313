-- Rules 6 to 8 without bytes: a tree of nodes by id, each with its type, links and slots.
use Rattle.std.specs.Prelude.{◌≡◌, Bool, true, false, ◌&&◌, List, [], ◌∷◌, ◌≢◌, ◌⊎◌, ℕ, zero, suc, ◌+◌, ◌*◌, ◌-◌, ◌≤◌, ◌<◌, eqb}
use Rattle.base.specs.Count.{sum_to, count_to}
use Rattle.base.specs.Search.{pick}
use Rattle.structs.specs.Constants.{type_dir}
use Rattle.structs.specs.Types.{is_folder}
use Rattle.structs.specs.declared.DiskEntry.{DiskEntry}
use Rattle.utf8.specs.Names.{name_of, zero_at, EndedAt, has_slash}

pub record Tree : Type 0 where
  pub ids : ℕ
  pub node : ℕ → Bool
  pub kind : ℕ → ℕ
  pub links : ℕ → ℕ
  pub blocks : ℕ → ℕ
  pub size : ℕ → ℕ
  pub long : ℕ → ℕ
  pub slot : ℕ → ℕ → DiskEntry
  pub opened : ℕ → Bool

abbrev pub folder_at : Tree → ℕ → Bool
folder_at v i = v.node i && is_folder (v.kind i)

-- how many later slots of folder f name x, and how many of all folders
unfoldable pub names_of : Tree → ℕ → ℕ → ℕ
names_of v f x = count_to (λ j. eqb (v.slot f (2 + j)).id x) (v.blocks f - 2)

unfoldable pub all_names : Tree → ℕ → ℕ
all_names v x = sum_to (λ f. pick (folder_at v f) (names_of v f x) 0) v.ids

unfoldable pub subs_of : Tree → ℕ → ℕ
subs_of v f = count_to (λ j. is_folder (v.slot f (2 + j)).kind) (v.blocks f - 2)

abbrev pub parent : Tree → ℕ → ℕ
parent v i = (v.slot i 1).id

unfoldable pub up : Tree → ℕ → ℕ → ℕ
up v i zero = i
up v i (suc n) = parent v (up v i n)

-- ---- how later names are spelt: in any way that rule 6 passes, or (order 4) without a slash as well

pub data Spelling : Type 0 where
  any : Spelling
  slashless : Spelling

abbrev pub Spelt : Spelling → List ℕ → Type 0
Spelt any name = Unit
Spelt slashless name = has_slash name ≡ false

-- ---- the rules

pub record LaterIn (style : Spelling) (v : Tree) (e : DiskEntry) : Type 0 where
  pub ended : EndedAt e.name (zero_at e.name)
  pub some : name_of e.name ≢ []
  pub no-dot : name_of e.name ≢ 46 ∷ []
  pub no-dots : name_of e.name ≢ 46 ∷ 46 ∷ []
  pub spelt : Spelt style (name_of e.name)
  pub node : v.node e.id ≡ true
  pub kind : v.kind e.id ≡ e.kind

pub record FolderIn (style : Spelling) (v : Tree) (i : ℕ) : Type 0 where
  pub blocks : 2 ≤ v.blocks i
  pub length : v.long i ≡ 264 * v.blocks i
  pub dot : name_of (v.slot i 0).name ≡ 46 ∷ []
  pub own : (v.slot i 0).id ≡ i
  pub dot-kind : (v.slot i 0).kind ≡ type_dir
  pub dots : name_of (v.slot i 1).name ≡ 46 ∷ 46 ∷ []
  pub dots-kind : (v.slot i 1).kind ≡ type_dir
  pub later : (k : ℕ) → 2 ≤ k → k < v.blocks i → LaterIn style v (v.slot i k)
  pub distinct : (j k : ℕ) → 2 ≤ j → j < k → k < v.blocks i → name_of (v.slot i j).name ≢ name_of (v.slot i k).name

pub record LinkedIn (v : Tree) (i : ℕ) : Type 0 where
  pub links : v.links i ≡ 2 + subs_of v i
  pub root : i ≡ 2 → all_names v i ≡ 0
  pub once : i ≢ 2 → all_names v i ≡ 1

pub record RemovedIn (v : Tree) (i : ℕ) : Type 0 where
  pub apart : i ≢ 2
  pub opened : v.opened i ≡ true
  pub links : v.links i ≡ 0
  pub unnamed : all_names v i ≡ 0
  pub slots : v.blocks i ≡ 2

-- a folder with links
pub record Lives (v : Tree) (i : ℕ) : Type 0 where
  pub folder : folder_at v i ≡ true
  pub links : v.links i ≢ 0

pub record NamedBy (v : Tree) (d i : ℕ) : Type 0 where
  pub at : ℕ
  pub later : 2 ≤ at
  pub inside : at < v.blocks d
  pub is : (v.slot d at).id ≡ i

pub record Tidy (style : Spelling) (v : Tree) : Type 0 where
  pub below : (i : ℕ) → v.node i ≡ true → i < v.ids
  pub two : Lives v 2
  pub folder : (i : ℕ) → folder_at v i ≡ true → FolderIn style v i
  pub sized : (i : ℕ) → v.node i ≡ true → folder_at v i ≡ false → v.long i ≡ v.size i
  pub other : (i : ℕ) → v.node i ≡ true → folder_at v i ≡ false → v.links i ≡ all_names v i
  pub unnamed : (i : ℕ) → v.node i ≡ true → folder_at v i ≡ false → v.links i ≡ 0 → v.opened i ≡ true
  pub either : (i : ℕ) → folder_at v i ≡ true → LinkedIn v i ⊎ RemovedIn v i
  pub root : parent v 2 ≡ 2
  pub parents : (i : ℕ) → Lives v i → i ≢ 2 → folder_at v (parent v i) ≡ true
  pub names : (i : ℕ) → Lives v i → i ≢ 2 → NamedBy v (parent v i) i
  pub climbs : (i : ℕ) → Lives v i → (n : ℕ) × (up v i n ≡ 2)
