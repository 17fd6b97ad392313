-- Order 11's reason: "When the host dies, holds vanish while their nodes stay marked used." Whatever calls came before, and whoever held what: the
-- arena that is left can be mended, and every name leads where it led. (The host dies between two calls; what a cut within one leaves is order 12's.)
use Rattle.std.specs.Prelude.{◌≡◌, true, false, not, ◌&&◌, List, ◌≢◌, ℕ, ◌*◌, ◌%◌, eqb, length}
use Rattle.base.specs.Out.{done, Ok}
use Rattle.base.specs.Reasons.{no_device_space}
use Rattle.le.specs.Le.{Bytes}
use Rattle.structs.specs.Fits.{TimeFits}
use Rattle.structs.specs.Types.{is_folder}
use Rattle.structs.specs.declared.Timespec.{Timespec}
use Rattle.table.specs.declared.Table.{Table}
use Rattle.table.specs.Table.{empty_table}
use Rattle.files_laws.specs.Laws.{Kept, lacking}
use Rattle.sefs.specs.Create.{call_format}
use Rattle.sefs.specs.Meta.{meta_file}
use Rattle.sefs.specs.Nodes.{node_file}
use Rattle.rules.specs.Image.{is_node, rec_of}
use Rattle.sequences.specs.Pairs.{Pair, pair, Passed}
use Rattle.sequences.specs.Calls.{Call, Fits, next}
use Rattle.sequences.specs.Promises.{Along}
use Rattle.mending.specs.Mendable.{rec_in, Mendable}
use Rattle.mending.specs.Mend.{call_mend}
use Rattle.mending.specs.Lasts.{Lasting}
use Rattle.mending.specs.Promises.{way}

-- ---- what the calls keep, and a pair that merely passes need not have. The one is `Lasting`: type, file and slots don't wait in memory

-- each node's record has its arena blocks: to store it takes none
unfoldable pub Backed : List ℕ → Type 0
Backed a = (id : ℕ) → is_node a id ≡ true → lacking a meta_file (128 * id) 112 ≡ 0

-- the other goes without the maps: each stored record with a type has them, a node's or one that a node has left. (Ids 0 and 1024g+1 have no record.)
unfoldable pub Stocked : List ℕ → Type 0
Stocked a = (id : ℕ) → id ≢ 0 → id % 1024 ≢ 1 → (rec_in a id).kind ≢ 0 → lacking a meta_file (128 * id) 112 ≡ 0

-- ---- after the death

-- node id in arena b, with no table, is what it was in the pair: its links and a file's size too, which may have stood in memory alone. (Mode, owners
-- and times since the last store are lost.)
pub record AsItWas (p : Pair) (b : List ℕ) (id : ℕ) : Type 0 where
  pub kind : (rec_in b id).kind ≡ (rec_of p.arena p.table id).kind
  pub links : (rec_in b id).nlinks ≡ (rec_of p.arena p.table id).nlinks
  pub size : is_folder (rec_of p.arena p.table id).kind ≡ false → (rec_in b id).size ≡ (rec_of p.arena p.table id).size
  pub blocks : is_folder (rec_of p.arena p.table id).kind ≡ true → (rec_in b id).blocks ≡ (rec_of p.arena p.table id).blocks
  pub file : (rec_in b id).file ≡ (rec_of p.arena p.table id).file
  pub bytes : Kept p.arena b (node_file (rec_of p.arena p.table id))

pub record Recovered (p : Pair) (b : List ℕ) : Type 0 where
  pub passes : Passed (pair b empty_table)
  -- every name leads where it led before the death
  pub names : (l : List (List ℕ)) → way b empty_table 2 l ≡ way p.arena p.table 2 l
  -- what had no name any more is gone, and nothing else
  pub nodes : (id : ℕ) → is_node b id ≡ (is_node p.arena id && not (eqb (rec_of p.arena p.table id).nlinks 0))
  pub each : (id : ℕ) → is_node b id ≡ true → AsItWas p b id

-- the host dies: the table is the empty one. The mender is done, or a record that lacks a block meets 17
pub record Survives (p : Pair) : Type 0 where
  pub mendable : Mendable p.arena
  pub mends : Ok (Recovered p) (λ n. (n ≡ no_device_space) × (Backed p.arena → ⊥)) (call_mend p.arena empty_table)

-- the mender is done
abbrev pub Recovers : Pair → Type 0
Recovers p = (d : List ℕ) × (call_mend p.arena empty_table ≡ done d) × Recovered p d

-- ---- one pair; and one call

unfoldable pub Dies : Type 0
Dies = (p : Pair) → Passed p → Lasting p.arena p.table → Survives p

-- what is stored has a type where it lasts, so its blocks too
unfoldable pub StockedBacked : Type 0
StockedBacked = (p : Pair) → Passed p → Lasting p.arena p.table → Stocked p.arena → Backed p.arena

unfoldable pub KeepsLasting : Type 0
KeepsLasting = (p : Pair) (c : Call) → Passed p → Fits c → Lasting p.arena p.table → Lasting (next c p).arena (next c p).table

unfoldable pub KeepsStocked : Type 0
KeepsStocked = (p : Pair) (c : Call) → Passed p → Fits c → Stocked p.arena → Stocked (next c p).arena

unfoldable pub FreshStocked : Type 0
FreshStocked = (a : List ℕ) (time : Timespec) (file : List ℕ) → Bytes a → TimeFits time → length file ≡ 16 → Bytes file
    → (b : List ℕ) → call_format a time file ≡ done b → Stocked b

-- the mender keeps it, on any arena and with any table
unfoldable pub MendStocked : Type 0
MendStocked = (a b : List ℕ) (t : Table) → Stocked a → call_mend a t ≡ done b → Stocked b

-- ---- any sequence

-- from a passed pair whose open nodes have stored what lasts (an empty table, or one just synced, has)
unfoldable pub AfterDeathFrom : Type 0
AfterDeathFrom = (p : Pair) (l : List Call) → Passed p → Lasting p.arena p.table → Along (λ c q. Fits c) p l → Along (λ c q. Survives (next c q)) p l

-- where the records have their blocks, too, the mender is done, always
unfoldable pub AfterDeathStocked : Type 0
AfterDeathStocked = (p : Pair) (l : List Call) → Passed p → Lasting p.arena p.table → Stocked p.arena → Along (λ c q. Fits c) p l → Along (λ c q. Recovers (next c q)) p l

-- so from a fresh image
unfoldable pub AfterDeath : Type 0
AfterDeath = (a : List ℕ) (time : Timespec) (file : List ℕ) → Bytes a → TimeFits time → length file ≡ 16 → Bytes file
    → (b : List ℕ) → call_format a time file ≡ done b → (l : List Call) → Along (λ c q. Fits c) (pair b empty_table) l
    → Along (λ c q. Recovers (next c q)) (pair b empty_table) l

-- ---- any number of deaths

-- a pair that a format, calls and deaths have led to, with each death mended
pub data Lived : Pair → Type 0 where
  formats : (a : List ℕ) (time : Timespec) (file b : List ℕ) → Bytes a → TimeFits time → length file ≡ 16 → Bytes file → call_format a time file ≡ done b → Lived (pair b empty_table)
  calls : {p : Pair} (c : Call) → Lived p → Fits c → Lived (next c p)
  deaths : {p : Pair} {b : List ℕ} → Lived p → call_mend p.arena empty_table ≡ done b → Lived (pair b empty_table)

-- the checker passes it, and should its host die, the mender is done
unfoldable pub AlwaysRecovers : Type 0
AlwaysRecovers = (p : Pair) → Lived p → Passed p × Recovers p
