-- Order 1 for the code: "what was written is what is read, all other bytes stay". A write that answers done, and then a read, on any arena
-- and table.
use mathlib.Core.Path.{◌≡◌, refl, sym, ap, ◌∙◌}
use mathlib.Core.List.{List}
use mathlib.Core.Logic.{◌≢◌}
use Prim.Native.Nat.{ℕ}
use lib.ListN.{length}
use Rattle.base.specs.Out.{Out, done, refused}
use Rattle.base.specs.Parts.{paste}
use Rattle.std.specs.Prelude.{Some}
use Rattle.base.proofs.Bools.{true-false}
use Rattle.le.specs.Le.{Bytes}
use Rattle.table.specs.Table.{live_row}
use Rattle.table.specs.declared.Table.{Table}
use Rattle.table.specs.declared.Handle.{Handle}
use Rattle.sefs.specs.Create.{After}
use Rattle.sefs.specs.Contents.{call_read, call_write}
use Rattle.sefs_laws.specs.Contents.{file_at, WrittenRead, ReadOther}
use Rattle.sefs_laws.proofs.Contents.{written_read, read-other}
use Rattle.std.specs.Prelude.{Result, Ok}
use Rattle.base.specs.declared.reasons.Reason.{Reason}
use Rattle.calls.specs.Answers.{out_of, taken_of, laid, Lays}
use Rattle.calls.proofs.Answers.{out-one}
use Rattle.calls.specs.declared.Reply.{Reply}
use Rattle.steps.specs.Ends.{Returned}
use Rattle.promised.proofs.Calls.{is_done}

-- what is there afterwards
abbrev left : List ℕ → Reply Reason → After
left b r = record { arena = b; table = r.table }

-- a call that answers done has left what its definition says
did : (t : Table) (o : Out After) (a b : List ℕ) (r : Reply Reason) → Returned t o a b r → r.answer ≡ Ok tt → o ≡ done (left b r)
unfolding is_done
did t (done x) a b r R e = λ i. done (record { arena = sym R.arena i; table = (sym R.answer i).1 })
did t (refused n) a b r R e = absurd (true-false refl (ap is_done (sym (ap out_of e) ∙ ap (λ (q : Out Unit × Table). q.0) R.answer)))

module _ (a b : List ℕ) (t : Table) (w : ℕ) (h : Handle) (place : ℕ) (src : List ℕ) (r : Reply Reason) (A : Bytes a) (S : Bytes src)
    (R : Returned t (call_write a t w h place src) a b r) (e : r.answer ≡ Ok tt) where
  -- as many bytes from the same place on: they are those that were written
  pub write_read : (out now : List ℕ) (s : Result ℕ Reason) → length out ≡ length src → Lays taken_of (call_read b r.table w h place (length out)) out now s
      → (s ≡ Ok (length src)) × (now ≡ paste out 0 src)
  unfolding WrittenRead
  write_read out now s n L =
      let o : call_read b r.table w h place (length out) ≡ done src =
      ap (call_read b r.table w h place) n ∙ written_read a t w h place src (left b r) A S (did t (call_write a t w h place src) a b r R e) in
      (out-one s (Ok (length src)) (L.0 ∙ ap taken_of o), L.1 ∙ ap (laid out) o)

  -- through anybody's handle g on another file: what was to be read before
  pub write-read-other : (v : ℕ) (g : Handle) (i j at : ℕ) → live_row t w h ≡ Some i → live_row t v g ≡ Some j → file_at t i ≢ file_at t j
      → (out now : List ℕ) (s : Result ℕ Reason) → Lays taken_of (call_read b r.table v g at (length out)) out now s → Lays taken_of (call_read a t v g at (length out)) out now s
  unfolding ReadOther
  write-read-other v g i j at l k d out now s L =
      let o : call_read b r.table v g at (length out) ≡ call_read a t v g at (length out) =
      read-other a t v w h g i j place src (left b r) at (length out) A S l k d (did t (call_write a t w h place src) a b r R e) in
      (L.0 ∙ ap taken_of o, L.1 ∙ ap (laid out) o)
