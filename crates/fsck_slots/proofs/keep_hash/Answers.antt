-- `fsck_slots::keep_hash`: past the end nothing is kept.
use mathlib.Core.Path.{sym}
use native.Mathlib.Omega.{arith}
use lib.Seq.{set_out}
use Rattle.fsck_slots.proofs.keep_hash.Goals as goal

pub returns-else-j-lt7680 : goal.returns-else-j-lt7680
returns-else-j-lt7680 c =
    sym (set_out c.args.hashes.now c.args.j c.args.h (omega (arith, c.requires)))
