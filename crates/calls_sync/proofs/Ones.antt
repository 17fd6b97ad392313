-- What the call's contract says of its result, and of the arena afterwards, has one solution.
use mathlib.Core.Path.{◌≡◌, sym, ◌∙◌}
use mathlib.Core.List.{List}
use Prim.Native.Nat.{ℕ}
use Rattle.table.specs.declared.Table.{Table}
use Rattle.sefs.specs.Close.{call_sync}
use Rattle.base.specs.declared.reasons.Reason.{Reason}
use Rattle.calls.specs.declared.Reply.{Reply}
use Rattle.calls.proofs.Answers.{said-one}
use Rattle.steps.specs.Ends.{Returned}

pub sync-one : (a : List ℕ) (t : Table) (b c : List ℕ) (r s : Reply Reason) → Returned t (call_sync a t) a b r → Returned t (call_sync a t) a c s → (b ≡ c) × (r ≡ s)
sync-one a t b c r s p q = (p.arena ∙ sym q.arena, said-one r s (p.answer ∙ sym q.answer))
