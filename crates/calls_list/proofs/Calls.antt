-- The call, once arena and table are known.
use mathlib.Core.Path.{◌≡◌, sym, ◌∙◌}
use mathlib.Core.List.{List}
use Prim.Native.Nat.{ℕ}
use Rattle.base.specs.Out.{done, refused, Went}
use Rattle.structs.specs.declared.DiskINode.{DiskINode}
use Rattle.table.specs.declared.Table.{Table}
use Rattle.table.specs.declared.Handle.{Handle}
use Rattle.table.specs.Table.{row_at}
use Rattle.sefs.specs.Ask.{admit, by_handle}
use Rattle.sefs.specs.Read.{call_listing}
use Rattle.calls.proofs.Asks.{call-stop, call_next}
use Rattle.list_slots.specs.List.{list_in}

pub listing-refused : (a : List ℕ) (t : Table) (who : ℕ) (h : Handle) (next room : ℕ) {n : ℕ} → admit a t ≡ refused n → call_listing a t who h next room ≡ refused n
unfolding call_listing
listing-refused a t who h next room q = rw q

module _ {P : Type 0} (a : List ℕ) (t : Table) (who : ℕ) (h : Handle) (q : admit a t ≡ done tt) (next room row r : ℕ) (g : Went (by_handle t who h) row P r) where
  pub listing-dead : (r ≡ 0 → ⊥) → call_listing a t who h next room ≡ refused r
  unfolding call_listing list_in
  listing-dead z = call-stop a t who h q (λ i. list_in a (row_at t i).rec next room) row r g z

  pub listing-goes : (w : DiskINode) → r ≡ 0 → w ≡ (row_at t row).rec → list_in a w next room ≡ call_listing a t who h next room
  unfolding call_listing list_in
  listing-goes w z e = sym (call_next a t who h q (λ i. list_in a (row_at t i).rec next room) row r g z ∙ rw (← e))
