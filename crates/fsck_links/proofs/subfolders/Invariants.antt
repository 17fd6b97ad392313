-- `fsck_links::subfolders`: no more than the slots passed.
use mathlib.Core.Path.{◌≡◌}
use Prim.Native.Nat.{◌≤◌, ◌-◌}
use lib.ListN.{length}
use Rattle.base.specs.Count.{count_to}
use Rattle.structs.specs.Types.{is_folder}
use Rattle.rules.specs.Image.{later_slot}
use Rattle.fsck_links.proofs.subfolders.Given as goal

abbrev pub invariant-loop-k : goal.invariant-loop-k
invariant-loop-k l = (l.k - 2 ≤ l.k-end - 2) × ((l.c ≤ l.k) × ((length l.slot ≡ 264) × (l.c ≡ count_to (λ j. is_folder (later_slot l.arena l.rec j).kind) (l.k - 2))))
