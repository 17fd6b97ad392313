-- Order 12, said of runs: which create the theorems of crates/cuts speak of, and what `dz_open`, `dz_check` and `dz_mend` answer on the arena that a cut
-- of it leaves. (The cuts are of the definition's stores; how the function that is linked writes its bytes is not said.)
use Rattle.std.specs.Prelude.{◌≡◌, List, ◌≢◌, ℕ, ◌<◌, ◌≤◌}
use contract.Lifetimes.{Lfts}
use Rattle.base.specs.Reasons.{wrong_fs}
use Rattle.structs.specs.declared.Timespec.{Timespec}
use Rattle.table.specs.declared.Handle.{Handle}
use Rattle.table.specs.Table.{empty_table}
use Rattle.table_bytes.specs.Layout.{bytes_of_table}
use Rattle.sefs.specs.Create.{Given}
use Rattle.edge.proofs.dz_open.Reads as dz-open
use Rattle.edge.proofs.dz_check.Reads as dz-check
use Rattle.sequences.specs.Calls.{create, sync, mend, Fits}
use Rattle.cuts.specs.Creates.{Birth, before_parent}
use Rattle.cuts.specs.Premise.{NoneDirty, Creation, OfCuts}
use Rattle.cuts.specs.Traces.{Phase, AtPhase}
use Rattle.cuts.specs.Answers.{failing}
use Rattle.linked.specs.Images.{◌&◌, Slice, ReadSlice, Image, pair_of, Same, Places}
use Rattle.linked.specs.Tested.{Ran}
use Rattle.linked.specs.Linked.{Functions}

module _ (R : Functions) (I : Image → Type 0) where
  -- `after-sync`: "just after sync" no row is dirty
  unfoldable pub RunSyncs : Type 0
  RunSyncs = (s u : Image) (x y : Places) → I s → R sync s x u y 0 → NoneDirty (pair_of u).table

  -- `every-create`: a create that answers 0 there is one that the theorems speak of, and its arena is the one that all of the stores leave
  unfoldable pub RunCreates : Type 0
  RunCreates = (s u : Image) (x y : Places) (w : ℕ) (h : Handle) (name : List ℕ) (kind mode : ℕ) (time : Timespec) (uuid : List ℕ) → I s → NoneDirty (pair_of s).table
      → Fits (create w h name kind mode time uuid) → R (create w h name kind mode time uuid) s x u y 0
      → (c : Birth) × (g : Given) × Creation (pair_of s) c g × (c.name ≡ name) × (u.arena ≡ g.arena)

-- `cut-opens`: open answers 0 to each cut, and leaves the bytes of the empty table
unfoldable pub RunCutOpens : Type 0
RunCutOpens = OfCuts (λ a c n b. (κs : Lfts 2) (s : ReadSlice) (t t' : Slice) (r : ℕ) → s.now ≡ b → dz-open.Learnt κs (s & t & tt) r (s & t' & tt) → r ≢ 255
    → (r ≡ 0) × (t'.now ≡ bytes_of_table empty_table))

-- `cut-fails`: with these the check answers the rule of the cut's phase
unfoldable pub RunCutFails : Type 0
RunCutFails = OfCuts (λ a c n b. (κs : Lfts 3) (s t : ReadSlice) (out out' : Slice) (r : ℕ) → s.now ≡ b → t.now ≡ bytes_of_table empty_table
    → dz-check.Learnt κs (s & t & out & tt) r (s & t & out' & tt) → r ≢ 255 → (f : Phase) → AtPhase c n f → r ≡ failing a c f)

-- `mender-refuses`: and between two stores the mender answers 18, and no byte has changed
unfoldable pub RunCutRefused : Type 0
RunCutRefused = OfCuts (λ a c n b. 0 < n → n ≤ before_parent c → (s u : Image) (x y : Places) (r : ℕ) → s.arena ≡ b → s.table ≡ bytes_of_table empty_table
    → Ran mend s x u y r → (r ≡ wrong_fs) × Same s u)
