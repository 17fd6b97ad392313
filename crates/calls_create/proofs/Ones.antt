-- What the call's contract says of its result has one solution.
use mathlib.Core.Path.{◌≡◌, sym, ◌∙◌}
use mathlib.Core.List.{List}
use Prim.Native.Nat.{ℕ}
use Rattle.structs.specs.declared.Timespec.{Timespec}
use Rattle.table.specs.declared.Table.{Table}
use Rattle.table.specs.declared.Handle.{Handle}
use Rattle.sefs.specs.Create.{call_create}
use Rattle.calls.specs.declared.HeldReply.{HeldReply}
use Rattle.calls.proofs.Answers.{said_held-one}
use Rattle.calls_create.specs.Held.{ReturnedHeld}

-- the answer with its table, and the arena afterwards
pub create-one : (a : List ℕ) (t : Table) (who : ℕ) (h : Handle) (name : List ℕ) (kind mode : ℕ) (time : Timespec) (file : List ℕ) (b c : List ℕ) (r s : HeldReply)
    → ReturnedHeld t (call_create a t who h name kind mode time file) a b r → ReturnedHeld t (call_create a t who h name kind mode time file) a c s → (r ≡ s) × (b ≡ c)
create-one a t who h name kind mode time file b c r s p q = (said_held-one r s (p.answer ∙ sym q.answer), p.arena ∙ sym q.arena)
