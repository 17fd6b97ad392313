-- `fsck::check_on`: the length first; the chains' workspace is zero.
use mathlib.Core.Path.{refl, sym, ◌∙◌}
use native.Mathlib.Omega.{arith}
use lib.ListN.{get_or-replicate}
use Rattle.mem.specs.Mem.{table_in}
use Rattle.fsck.proofs.Verdicts.{verdict-length}
use Rattle.fsck.proofs.check_on.Goals as goal

pub returns-then-not-legal : goal.returns-then-not-legal
returns-then-not-legal c =
    let s = c.args in
    sym (verdict-length s.arena.now (table_in s.mem.now) (sym c.legal.ensures ∙ c.if-not-legal.true))

pub check_in-requires : goal.check_in-requires
check_in-requires c = record { arena_value = (sym c.legal.ensures ∙ c.if-not-legal.false, (refl, c.requires)); by_index = λ h m. get_or-replicate 8192 h 0 0 (omega arith) }

pub returns : goal.returns
returns c = c.check_in.ensures
