-- What the listings' contracts say of the result, of the place and of the output has one solution.
use mathlib.Core.Path.{◌≡◌, sym, ◌∙◌}
use mathlib.Core.Bool.{Bool}
use mathlib.Core.List.{List}
use Prim.Native.Nat.{ℕ}
use lib.ListN.{length}
use Rattle.std.specs.Prelude.{Result}
use Rattle.base.specs.declared.reasons.Reason.{Reason}
use Rattle.table.specs.declared.Table.{Table}
use Rattle.table.specs.declared.Handle.{Handle}
use Rattle.sefs.specs.Read.{call_listing}
use Rattle.calls.specs.Answers.{listed_of, Lays}
use Rattle.calls.proofs.Answers.{lays_one}
use Rattle.verdicts.specs.Starts.{start_of}
use Rattle.calls_list.specs.Place.{list_at, Moves, ListsAt}
use Rattle.calls_list.specs.declared.Place.{Place}
use Rattle.calls_list.specs.declared.Moved.{Moved}

-- an answer, the place that was `place` and the output that was `out`
pub list-one : (a : List ℕ) (t : Table) (who : ℕ) (place : Place) (out : List ℕ) (r s : Result ℕ Reason) (p q : Place) (o w : List ℕ) → ListsAt a t who place out p o r → ListsAt a t who place out q w s → (p ≡ q) × ((r ≡ s) × (o ≡ w))
list-one a t who place out r s p q o w x y = (x.0 ∙ sym y.0, lays_one listed_of (list_at a t who place (length out)) out o w r s x.1 y.1)

-- the same from a slot on by its number; and with the slot that comes next
module _ (a : List ℕ) (t : Table) (who : ℕ) (h : Handle) (k : ℕ) (out : List ℕ) where
  pub list-from-one : (r s : Result ℕ Reason) (o w : List ℕ) → Lays listed_of (call_listing a t who h k (length out)) out o r → Lays listed_of (call_listing a t who h k (length out)) out w s → (r ≡ s) × (o ≡ w)
  list-from-one r s o w p q = lays_one listed_of (call_listing a t who h k (length out)) out o w r s p q

  pub list-on-one : (dots : Bool) (r s : Moved) (o w : List ℕ) → Moves dots k (call_listing a t who h (start_of dots k) (length out)) out o r → Moves dots k (call_listing a t who h (start_of dots k) (length out)) out w s → (r ≡ s) × (o ≡ w)
  list-on-one dots r s o w p q =
      let l = lays_one listed_of (call_listing a t who h (start_of dots k) (length out)) out o w r.answer s.answer p.1 q.1 in
      (λ x. record { answer = l.0 x; next = (p.0 ∙ sym q.0) x }, l.1)
