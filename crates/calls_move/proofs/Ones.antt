-- What a call's contract says of its result has one solution.
use mathlib.Core.Path.{◌≡◌}
use mathlib.Core.List.{List}
use Prim.Native.Nat.{ℕ}
use Rattle.table.specs.declared.Table.{Table}
use Rattle.table.specs.declared.Handle.{Handle}
use Rattle.sefs.specs.Move.{call_move}
use Rattle.base.specs.declared.reasons.Reason.{Reason}
use Rattle.calls.specs.declared.Reply.{Reply}
use Rattle.steps.specs.Ends.{Returned}
use Rattle.steps.proofs.Ends.{returned-one}

pub move-one : (a b c : List ℕ) (t : Table) (who : ℕ) (h : Handle) (old : List ℕ) (target : Handle) (name : List ℕ) (r s : Reply Reason)
    → Returned t (call_move a t who h old target name) a b r → Returned t (call_move a t who h old target name) a c s → (r ≡ s) × (b ≡ c)
move-one a b c t who h old target name r s p q = returned-one t (call_move a t who h old target name) p q
