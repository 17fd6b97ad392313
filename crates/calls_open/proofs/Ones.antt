-- What the call's contract says of its result has one solution.
use mathlib.Core.Path.{◌≡◌}
use mathlib.Core.List.{List}
use Prim.Native.Nat.{ℕ}
use Rattle.table.specs.Table.{empty_table}
use Rattle.sefs.specs.Open.{call_open}
use Rattle.calls.specs.Answers.{Replies}
use Rattle.base.specs.declared.reasons.Reason.{Reason}
use Rattle.calls.specs.declared.Reply.{Reply}
use Rattle.calls.proofs.Answers.{replies-one}

pub open-one : (a : List ℕ) (r s : Reply Reason) → Replies empty_table (call_open a) r → Replies empty_table (call_open a) s → r ≡ s
open-one a r s p q = replies-one empty_table (call_open a) r s p q
