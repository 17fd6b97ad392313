-- What open, the checker and order 11's mender say of a cut: with no node open, so with the empty table.
use Rattle.std.specs.Prelude.{◌≡◌, Bool, true, ◌&&◌, List, ◌≢◌, ◌⊎◌, ℕ, ◌<◌, ◌≤◌}
use Rattle.base.specs.Decides.{same}
use Rattle.base.specs.Out.{done, refused}
use Rattle.base.specs.Reasons.{wrong_fs}
use Rattle.base.specs.Search.{pick}
use Rattle.structs.specs.Types.{is_type}
use Rattle.table.specs.Table.{empty_table}
use Rattle.sefs.specs.Create.{Given}
use Rattle.sefs.specs.Open.{call_open}
use Rattle.rules.specs.Image.{is_node, is_folder_at}
use Rattle.rules.specs.Rules.{Rule3, Rule5, Folder}
use Rattle.rules.specs.Tests.{checked}
use Rattle.mending.specs.Mendable.{rec_in, Mendable}
use Rattle.mending.specs.Mend.{call_mend}
use Rattle.sequences.specs.Pairs.{Pair, Passed}
use Rattle.cuts.specs.Creates.{Birth, grows, before_parent}
use Rattle.cuts.specs.Premise.{NoneDirty, Creation, OfCuts}
use Rattle.cuts.specs.Traces.{Phase, begun, lengthened, filed, slotted, counted, mapped, recorded, ended, AtPhase}

-- ---- open: every cut can be opened

unfoldable pub CutOpens : Type 0
CutOpens = OfCuts (λ a c n b. call_open b ≡ done empty_table)

-- ---- the checker: the lowest rule that fails

-- the id's old record claims the new node's file, and passes rule 5 as the new one would: an earlier node had the id and the file's name
abbrev pub claims_file : List ℕ → Birth → Bool
claims_file a c = same (rec_in a c.id).file c.child.file && is_type (rec_in a c.id).kind

-- 3 while the metadata file is too long or unused is wrong; 5 while the file is stray, unless the old record claims it; 6 while the parent is longer than its record says. Before the
-- first store and after the last it says the same: a pass, or 7 where a node was open that has no name, since nobody holds it now
unfoldable pub failing : List ℕ → Birth → Phase → ℕ
failing a c begun = checked a empty_table
failing a c lengthened = 3
failing a c filed = pick (grows c) 3 5
failing a c slotted = pick (grows c) 3 5
failing a c counted = 3
failing a c mapped = pick (claims_file a c) 6 5
failing a c recorded = 6
failing a c ended = checked a empty_table

-- it says so of each cut
unfoldable pub CutFails : Type 0
CutFails = OfCuts (λ a c n b. (s : Phase) → AtPhase c n s → checked b empty_table ≡ failing a c s)

-- every node has links
abbrev pub AllLinked : List ℕ → Type 0
AllLinked a = (id : ℕ) → is_node a id ≡ true → (rec_in a id).nlinks ≢ 0

-- what it says with no node open, of a pair that passes and is synced: a pass where every node has links; and 7 where one has none, which was removed
-- and open
unfoldable pub PassOrSeven : Type 0
PassOrSeven = (p : Pair) → Passed p → NoneDirty p.table
    → ((checked p.arena empty_table ≡ 0) × AllLinked p.arena) ⊎ ((checked p.arena empty_table ≡ 7) × (AllLinked p.arena → ⊥))

-- and the finished create changes nothing of it
unfoldable pub SameCheck : Type 0
SameCheck = (p : Pair) (c : Birth) (g : Given) → Creation p c g → checked g.arena empty_table ≡ checked p.arena empty_table

-- ---- the mender, which asks for rules 1 to 6, "sizes of non-folders aside"

-- what fails of them between two stores, by the rule that the checker names: rule 3, rule 5, or what rule 6 asks of the parent
pub data BrokenRule (c : Birth) (b : List ℕ) : ℕ → Type 0 where
  superblock : (Rule3 b → ⊥) → BrokenRule c b 3
  files : (Rule5 b empty_table → ⊥) → BrokenRule c b 5
  folder : is_folder_at b empty_table c.up ≡ true → (Folder b empty_table c.up → ⊥) → BrokenRule c b 6

-- so it is between any two stores
unfoldable pub Breaks : Type 0
Breaks = OfCuts (λ a c n b. 0 < n → n ≤ before_parent c → (s : Phase) → AtPhase c n s → BrokenRule c b (failing a c s))

-- and the arena cannot be mended
unfoldable pub Unmended : Type 0
Unmended = OfCuts (λ a c n b. 0 < n → n ≤ before_parent c → Mendable b → ⊥)

-- so the mender answers 18
unfoldable pub MenderRefuses : Type 0
MenderRefuses = OfCuts (λ a c n b. 0 < n → n ≤ before_parent c → call_mend b empty_table ≡ refused wrong_fs)

-- before the first and after the last it does not: what it asks for is there
unfoldable pub MenderTakes : Type 0
MenderTakes = OfCuts (λ a c n b. (n ≡ 0) ⊎ (before_parent c < n) → Mendable b)
