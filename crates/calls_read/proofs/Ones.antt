-- What the call's contract says of its result and of the output has one solution.
use mathlib.Core.Path.{◌≡◌}
use mathlib.Core.List.{List}
use Prim.Native.Nat.{ℕ}
use lib.ListN.{length}
use Rattle.std.specs.Prelude.{Result}
use Rattle.base.specs.declared.reasons.Reason.{Reason}
use Rattle.table.specs.declared.Table.{Table}
use Rattle.table.specs.declared.Handle.{Handle}
use Rattle.sefs.specs.Contents.{call_read}
use Rattle.calls.specs.Answers.{taken_of, Lays}
use Rattle.calls.proofs.Answers.{lays_one}

-- an answer, and the output that was `out`
module _ (a : List ℕ) (t : Table) (who : ℕ) (h : Handle) (place : ℕ) (out : List ℕ) where
  abbrev Reads : Result ℕ Reason → List ℕ → Type 0
  Reads r o = Lays taken_of (call_read a t who h place (length out)) out o r

  pub read_one : (r s : Result ℕ Reason) (o w : List ℕ) → Reads r o → Reads s w → (r ≡ s) × (o ≡ w)
  read_one r s o w p q = lays_one taken_of (call_read a t who h place (length out)) out o w r s p q
