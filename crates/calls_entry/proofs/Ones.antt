-- What the call's contract says of its result and of the output has one solution.
use mathlib.Core.Path.{◌≡◌}
use mathlib.Core.List.{List}
use Prim.Native.Nat.{ℕ}
use lib.ListN.{length}
use Rattle.std.specs.Prelude.{Result}
use Rattle.base.specs.declared.reasons.Reason.{Reason}
use Rattle.table.specs.declared.Table.{Table}
use Rattle.table.specs.declared.Handle.{Handle}
use Rattle.sefs.specs.Read.{call_entry}
use Rattle.calls.specs.Answers.{answer_of, Lays}
use Rattle.calls.proofs.Answers.{lays_one}

-- an answer, and the output that was `out`
module _ (a : List ℕ) (t : Table) (who : ℕ) (h : Handle) (k : ℕ) (out : List ℕ) where
  pub get-entry-one : (r s : Result Unit Reason) (o w : List ℕ) → Lays answer_of (call_entry a t who h k (length out)) out o r → Lays answer_of (call_entry a t who h k (length out)) out w s → (r ≡ s) × (o ≡ w)
  get-entry-one r s o w p q = lays_one answer_of (call_entry a t who h k (length out)) out o w r s p q
