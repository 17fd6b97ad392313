-- `structs::put_rest`: five fields, one after another.
use native.Mathlib.Omega.{arith}
use Rattle.structs.specs.Layout.{record_fields}
use Rattle.structs.proofs.Joins.{laid-first, laid_next, laid-last}
use Rattle.structs.proofs.Layouts.{length-time_bytes}
use borrow.Author.Rules.{rules}
use Rattle.structs.proofs.put_rest.Goals as goal

pub returns : goal.returns
unfolding record_fields
returns c =
    (laid-first 16 _ _ _ _ _ _ (length-time_bytes _) c.put_timespec.auto.s c.put_timespec.ensures
    (laid_next 16 16 _ _ _ _ _ _ (length-time_bytes _) c.put_timespec-2.auto.s c.put_timespec-2.ensures
    (laid_next 32 16 _ _ _ _ _ _ (length-time_bytes _) c.put_timespec-3.auto.s c.put_timespec-3.ensures
    (laid_next 48 16 _ _ _ _ _ _ (search rules) c.put_bytes.auto.s c.put_bytes.ensures
    (laid-last _ _ _ _ (omega arith) c.put_bytes-2.ensures))))).is
