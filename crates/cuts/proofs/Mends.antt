-- What the mender says: 18 to each cut between two stores, since a rule fails for which it asks.
use mathlib.Core.Path.{◌≡◌, sym, subst}
use mathlib.Core.Logic.{⊎_elim}
use Prim.Native.Nat.{ℕ, ◌<◌}
use Rattle.base.proofs.Sames.{decided-no}
use Rattle.table_laws.proofs.Keeps.{empty-formed}
use Rattle.sefs.specs.Ask.{admit, admit_arena}
use Rattle.mending.specs.Mendable.{Mendable, mendable}
use Rattle.mending.specs.Mend.{call_mend}
use Rattle.mending.specs.Promises.{MendableDecides}
use Rattle.mending.proofs.Tables.{empty_holds}
use Rattle.mending.proofs.Tests.{mendable-decides}
use Rattle.sequences.specs.Pairs.{pair}
use Rattle.cuts.specs.Creates.{before_parent}
use Rattle.cuts.specs.Cuts.{OnlyTraces}
use Rattle.cuts.specs.Traces.{Phases}
use Rattle.cuts.specs.Answers.{BrokenRule, superblock, files, folder, failing, Breaks, Unmended, MenderRefuses, MenderTakes}
use Rattle.cuts.proofs.Synced as synced
use Rattle.cuts.proofs.SoFar.{only-traces}
use Rattle.cuts.proofs.FindsNew.{after-passed, after-synced}
use Rattle.cuts.proofs.Fails.{phases, breaks}
use Rattle.cuts.proofs.SameCheck.{first}

pub unmended : Unmended
unfolding Unmended Breaks Phases
unmended p c g B n b h o l M = let s = phases c n in not (failing p.arena c s.0) (breaks p c g B n b h o l s.0 s.1)
  where
    not : (r : ℕ) → BrokenRule c b r → ⊥
    not r (superblock x) = x M.rule3
    not r (files x) = x M.rule5
    not r (folder d x) = x (M.folder c.up d)

pub mender-refuses : MenderRefuses
unfolding MenderRefuses Unmended MendableDecides OnlyTraces call_mend admit admit_arena
mender-refuses p c g B n b h o l =
    let F = (only-traces p c g B n b h).fine in
    rw (F.length, F.sound, empty-formed, empty_holds, decided-no (mendable b) (mendable-decides b) (unmended p c g B n b h o l))

pub mender-takes : MenderTakes
unfolding MenderTakes
mender-takes p c g B n b h o =
    ⊎_elim
    (λ (e : n ≡ 0). subst Mendable (sym (first p c g B n b h e)) (synced.mendable p B.passed B.synced))
    (λ (l : before_parent c < n). synced.mendable (pair b g.table) (after-passed p c g B n b h l) (after-synced p c g B n b h l))
    o
