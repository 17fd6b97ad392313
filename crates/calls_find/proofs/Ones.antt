-- What a call's contract says of its result has one solution.
use mathlib.Core.Path.{◌≡◌, sym, ◌∙◌}
use mathlib.Core.List.{List}
use Prim.Native.Nat.{ℕ}
use Rattle.base.specs.Out.{Out}
use Rattle.table.specs.declared.Table.{Table}
use Rattle.table.specs.declared.Handle.{Handle}
use Rattle.table.specs.declared.Added.{Added}
use Rattle.sefs.specs.Open.{call_root, call_find}
use Rattle.calls.specs.declared.HeldReply.{HeldReply}
use Rattle.calls.proofs.Answers.{out-one}
use Rattle.calls_find.specs.Finds.{Gives}

pub gives_one : (t : Table) (o : Out Added) (r s : HeldReply) → Gives t o r → Gives t o s → r ≡ s
gives_one t o r s p q = λ x. record { answer = out-one r.answer s.answer (p.0 ∙ sym q.0) x; table = (p.1 ∙ sym q.1) x }

pub root-one : (a : List ℕ) (t : Table) (who : ℕ) (r s : HeldReply) → Gives t (call_root a t who) r → Gives t (call_root a t who) s → r ≡ s
root-one a t who r s p q = gives_one t (call_root a t who) r s p q

pub find-one : (a : List ℕ) (t : Table) (who : ℕ) (h : Handle) (name : List ℕ) (r s : HeldReply) → Gives t (call_find a t who h name) r → Gives t (call_find a t who h name) s → r ≡ s
find-one a t who h name r s p q = gives_one t (call_find a t who h name) r s p q
