-- What the call's contract says of its result and of the link buffer has one solution.
use mathlib.Core.Path.{◌≡◌, sym, ◌∙◌}
use mathlib.Core.List.{List}
use Prim.Native.Nat.{ℕ}
use lib.ListN.{length}
use Rattle.base.specs.Parts.{paste}
use Rattle.table.specs.declared.Table.{Table}
use Rattle.table.specs.declared.Handle.{Handle}
use Rattle.calls.specs.declared.HeldReply.{HeldReply}
use Rattle.calls_find.specs.Finds.{Gives}
use Rattle.walk.specs.Walk.{call_walk}
use Rattle.calls_find.proofs.Ones.{gives_one}

pub walk-one : (a : List ℕ) (t : Table) (who : ℕ) (h : Handle) (path links b c : List ℕ) (r s : HeldReply)
    → Gives t (call_walk a t who h path (length links)).end r → b ≡ paste links 0 (call_walk a t who h path (length links)).links
    → Gives t (call_walk a t who h path (length links)).end s → c ≡ paste links 0 (call_walk a t who h path (length links)).links → (r ≡ s) × (b ≡ c)
walk-one a t who h path links b c r s p e q f = (gives_one t (call_walk a t who h path (length links)).end r s p q, e ∙ sym f)
