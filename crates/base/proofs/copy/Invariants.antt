-- `base::copy`: before turn i the first i bytes are those of src.
use lib.ListN.{length, get_or}
use Rattle.base.proofs.Lists.{Stored}
use Rattle.base.proofs.copy.Given as goal

abbrev pub invariant-loop-i : goal.invariant-loop-i
invariant-loop-i l = Stored (length l.initial.dst) (λ j. get_or l.src j 0) l.dst l.i
