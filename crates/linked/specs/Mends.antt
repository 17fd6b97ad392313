-- Order 11, said of runs of `dz_mend`: on any bytes, and where a host has died that ran any functions before.
use Rattle.std.specs.Prelude.{◌≡◌, List, ◌≢◌, ℕ, ℤ}
use contract.Lifetimes.{Lfts}
use Rattle.base.specs.Out.{refused}
use Rattle.le.specs.Le.{Bytes}
use Rattle.structs.specs.Fits.{TimeFits}
use Rattle.table.specs.Table.{empty_table}
use Rattle.table_bytes.specs.Layout.{table_of, bytes_of_table}
use Rattle.rules.specs.Tests.{checked}
use Rattle.mending.specs.Mend.{call_mend}
use Rattle.mending.specs.Promises.{Mended}
use Rattle.edge_words.specs.Words.{time_of}
use Rattle.edge.proofs.dz_format.Reads as dz-format
use Rattle.edge.proofs.dz_mend.Reads as dz-mend
use Rattle.sequences.specs.Pairs.{pair}
use Rattle.sequences.specs.Calls.{Call, mend}
use Rattle.deaths.specs.Deaths.{Recovered, Lived}
use Rattle.linked.specs.Images.{◌&◌, Slice, ReadSlice, Image, pair_of, Same, Trusted, Places}
use Rattle.linked.specs.Tested.{Ran}
use Rattle.linked.specs.Linked.{Functions, Runs}

-- ---- on any bytes

-- `mend-passes`, `is-mended`: after a run that answers 0 the checker passes, with the table, of which no byte has changed; and every name leads where
-- it led
pub record MendDid (s u : Image) : Type 0 where
  pub passes : checked u.arena (table_of u.table) ≡ 0
  pub mended : Mended s.arena u.arena
  pub table : u.table ≡ s.table

unfoldable pub RunMends : Type 0
RunMends = (s u : Image) (x y : Places) → Bytes s.arena → Ran mend s x u y 0 → MendDid s u

-- so arena and table pass together (of the arguments, what their types give): who kept chains makes them anew (`ChainsOwn`), and goes on as an owner
unfoldable pub MendTrusts : Type 0
MendTrusts = (κs : Lfts 2) (a a' : Slice) (t : ReadSlice) → Bytes a.now → Bytes t.now → dz-mend.Learnt κs (a & t & tt) 0 (a' & t & tt) → Trusted a'.now t.now

-- `mend-again`: a second run answers 0 too, and changes no byte
unfoldable pub RunMendsAgain : Type 0
RunMendsAgain = (s u v : Image) (x y z w : Places) (n : ℕ) → Bytes s.arena → Ran mend s x u y 0 → Ran mend u z v w n → n ≢ 255 → (n ≡ 0) × Same u v

-- "Refusals: 1, 2, 3; 24 ..; 18 ..; then 17": any other number, but for 255, is the definition's, and no byte has changed
unfoldable pub RunMendRefuses : Type 0
RunMendRefuses = (s u : Image) (x y : Places) (n : ℕ) → Ran mend s x u y n → n ≢ 0 → n ≢ 255 → (call_mend s.arena (table_of s.table) ≡ refused n) × Same s u

-- ---- a host that dies. What it has is `Lived` after a format that answers 0, and any runs keep that

unfoldable pub FormatLives : Type 0
FormatLives = (κs : Lfts 3) (a a' t t' : Slice) (file : ReadSlice) (sec nsec : ℤ) → Bytes a.now → TimeFits (time_of sec nsec) → Bytes file.now
    → dz-format.Learnt κs (a & t & sec & nsec & file & tt) 0 (a' & t' & sec & nsec & file & tt) → Lived (pair a'.now (table_of t'.now))

unfoldable pub RunsLive : Functions → (Image → Type 0) → Type 0
RunsLive R I = (s v : Image) (l : List Call) → Runs R s l v → I s → Lived (pair_of s) → Lived (pair_of v)

-- `always-recovers`: the host dies at v, and the arena is there still. `dz_mend` on it, with the bytes of the empty table, answers 0, all is as it was, and
-- the same may happen again
unfoldable pub RunRecovers : Type 0
RunRecovers = (v s u : Image) (x y : Places) (n : ℕ) → Lived (pair_of v) → s.arena ≡ v.arena → s.table ≡ bytes_of_table empty_table → Ran mend s x u y n
    → (n ≡ 0) × Recovered (pair_of v) u.arena × Lived (pair_of u)
