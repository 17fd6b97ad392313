-- What the call's contract says of its result and of the output has one solution.
use mathlib.Core.Path.{◌≡◌}
use mathlib.Core.List.{List}
use Prim.Native.Nat.{ℕ}
use lib.ListN.{length}
use Rattle.std.specs.Prelude.{Result}
use Rattle.base.specs.declared.reasons.Reason.{Reason}
use Rattle.calls.specs.Answers.{taken_of, Lays}
use Rattle.calls.proofs.Answers.{lays_one}
use Rattle.inventory.specs.Inventory.{call_inventory}

-- an answer, and the output that was `out`
module _ (a out : List ℕ) where
  abbrev Lists : Result ℕ Reason → List ℕ → Type 0
  Lists r o = Lays taken_of (call_inventory a (length out)) out o r

  pub inventory-one : (r s : Result ℕ Reason) (o w : List ℕ) → Lists r o → Lists s w → (r ≡ s) × (o ≡ w)
  inventory-one r s o w p q = lays_one taken_of (call_inventory a (length out)) out o w r s p q
