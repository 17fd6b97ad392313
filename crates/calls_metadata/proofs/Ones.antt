-- What a call's contract says of its result has one solution.
use mathlib.Core.Path.{◌≡◌, sym, ◌∙◌}
use mathlib.Core.List.{List}
use Prim.Native.Nat.{ℕ}
use Rattle.structs.specs.declared.Timespec.{Timespec}
use Rattle.table.specs.declared.Table.{Table}
use Rattle.table.specs.declared.Handle.{Handle}
use Rattle.sefs.specs.Read.{call_metadata, call_set}
use Rattle.std.specs.Prelude.{Result}
use Rattle.base.specs.declared.reasons.Reason.{Reason}
use Rattle.sefs.specs.declared.Metadata.{Metadata}
use Rattle.calls.specs.Answers.{out_of, Replies}
use Rattle.calls.specs.declared.Reply.{Reply}
use Rattle.calls.proofs.Answers.{replies-one, out-one}

module _ (a : List ℕ) (t : Table) (who : ℕ) (h : Handle) where
  pub metadata-one : (r s : Result Metadata Reason) → out_of r ≡ call_metadata a t who h → out_of s ≡ call_metadata a t who h → r ≡ s
  metadata-one r s p q = out-one r s (p ∙ sym q)

  pub set-metadata-one : (mode uid gid : ℕ) (atime mtime ctime : Timespec) (r s : Reply Reason)
      → Replies t (call_set a t who h mode uid gid atime mtime ctime) r → Replies t (call_set a t who h mode uid gid atime mtime ctime) s → r ≡ s
  set-metadata-one mode uid gid atime mtime ctime r s p q = replies-one t (call_set a t who h mode uid gid atime mtime ctime) r s p q
