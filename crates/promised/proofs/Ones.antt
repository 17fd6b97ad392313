-- What the check's contract says of its result has one solution. (The calls' `Ones` stand beside them.)
use mathlib.Core.Path.{◌≡◌, sym, ◌∙◌}
use mathlib.Core.List.{List}
use Prim.Native.Nat.{ℕ}
use Rattle.table.specs.declared.Table.{Table}
use Rattle.fsck.specs.Verdicts.{verdict_of}
use Rattle.fsck.specs.declared.Verdict.{Verdict}

pub check-one : (a : List ℕ) (t : Table) (r s : Verdict) → r ≡ verdict_of a t → s ≡ verdict_of a t → r ≡ s
check-one a t r s p q = p ∙ sym q
