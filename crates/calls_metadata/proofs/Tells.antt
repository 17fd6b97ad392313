-- What metadata and set metadata answer.
use mathlib.Core.Path.{◌≡◌, refl, sym, ◌∙◌, ap}
use mathlib.Core.Bool.{true, ◌&&◌}
use mathlib.Core.List.{List}
use Prim.Native.Nat.{ℕ, ◌<◌}
use native.Mathlib.Omega.{arith}
use lib.Dec.{ltb, leb}
use Rattle.std.specs.Prelude.{Result, Ok, Err}
use Rattle.base.specs.Told.{code}
use Rattle.base.specs.declared.reasons.Reason.{Reason}
use Rattle.base.proofs.Tells.{number-ne}
use Rattle.base.specs.Out.{Out, done, refused, bind, answer, Went, well, ill}
use Rattle.base.proofs.Outs.{went-is, went-not}
use Rattle.structs.specs.declared.DiskINode.{DiskINode}
use Rattle.structs.specs.declared.Timespec.{Timespec}
use Rattle.table.specs.declared.Table.{Table}
use Rattle.table.specs.declared.Handle.{Handle}
use Rattle.table.specs.Table.{row_at, take_row}
use Rattle.sefs.specs.Ask.{admit, by_handle, known}
use Rattle.sefs.specs.Read.{metadata_of, changed, call_metadata, call_set}
use Rattle.calls.specs.Answers.{after_of, Replies}
use Rattle.calls.specs.declared.Reply.{Reply}
use Rattle.calls.proofs.Answers.{after-done, after-refused, done-after, refused-after}
use Rattle.calls.proofs.Asks.{asks-ensure, asked-not, asked-done}
use Rattle.calls_metadata.specs.Tell.{told, metadata_in, set_in}

module _ (id : ℕ) (r : DiskINode) (n : ℕ) (e : n ≡ answer (known r)) where
  pub told-stop : (n ≡ 0 → ⊥) → told id r ≡ refused n
  unfolding told
  told-stop z = rw (asked-not (known r) n e z)

  pub told-next : n ≡ 0 → told id r ≡ done (metadata_of id r)
  unfolding told
  told-next z = rw (asked-done (known r) (asks-ensure (ltb 0 r.kind && leb r.kind 4) 19 (omega arith)) n e z)

-- ---- arena and table, and then the rest

module _ (a : List ℕ) (t : Table) (who : ℕ) (h : Handle) where
  metadata-is : call_metadata a t who h ≡ bind (admit a t) (λ _. metadata_in t who h)
  unfolding call_metadata metadata_in told
  metadata-is = refl

  pub metadata-refused : {n : ℕ} → admit a t ≡ refused n → call_metadata a t who h ≡ refused n
  metadata-refused q = metadata-is ∙ rw q

  pub metadata-admitted : admit a t ≡ done tt → call_metadata a t who h ≡ metadata_in t who h
  metadata-admitted q = metadata-is ∙ rw q

  module _ (mode uid gid : ℕ) (atime mtime ctime : Timespec) where
    set_is : call_set a t who h mode uid gid atime mtime ctime ≡ bind (admit a t) (λ _. set_in t who h mode uid gid atime mtime ctime)
    unfolding call_set set_in
    set_is = refl

    pub set-refused : {n : ℕ} → admit a t ≡ refused n → call_set a t who h mode uid gid atime mtime ctime ≡ refused n
    set-refused q = set_is ∙ rw q

    pub set-admitted : admit a t ≡ done tt → call_set a t who h mode uid gid atime mtime ctime ≡ set_in t who h mode uid gid atime mtime ctime
    set-admitted q = set_is ∙ rw q

-- ---- by the handle's row

module _ {P : Type 0} (t : Table) (who : ℕ) (h : Handle) {i n : ℕ} (g : Went (by_handle t who h) i P n) where
  pub metadata-stop : (n ≡ 0 → ⊥) → metadata_in t who h ≡ refused n
  unfolding metadata_in
  metadata-stop z = rw (went-not g z)

  pub metadata-next : n ≡ 0 → metadata_in t who h ≡ told (row_at t i).id (row_at t i).rec
  unfolding metadata_in
  metadata-next z = rw (went-is g z)

  module _ (mode uid gid : ℕ) (atime mtime ctime : Timespec) where
    pub set-stop : (n ≡ 0 → ⊥) → set_in t who h mode uid gid atime mtime ctime ≡ refused n
    unfolding set_in
    set-stop z = rw (went-not g z)

    pub set_next : n ≡ 0 → set_in t who h mode uid gid atime mtime ctime ≡ done (take_row t i (row_at t i).id (changed (row_at t i).rec mode uid gid atime mtime ctime) true)
    unfolding set_in
    set_next z = rw (went-is g z)

above : {r : ℕ} → 0 < r → r ≡ 0 → ⊥
above l z = omega arith

-- what set metadata answers, by the table that memory has afterwards; v is the one that it had
pub settled : (f : Table → Out Table) {v t u : Table} (n : Result Unit Reason) {x : Reply Reason} → v ≡ t → Went (f v) u Unit (code n) → x ≡ after_of t u n → Replies t (f t) x
settled f {t = t} {u = u} (Ok tt) {x = x} e g k = done-after t (f t) x u (sym (ap f e) ∙ went-is g refl) (k ∙ sym (after-done t u))
settled f {t = t} {u = u} (Err r) {x = x} e g k = refused-after t (f t) x r (sym (ap f e) ∙ went-not g (number-ne r)) (k ∙ sym (after-refused t u r))
