-- The call close, in its parts.
use mathlib.Core.Path.{◌≡◌, refl, sym, ◌∙◌}
use mathlib.Core.Bool.{Bool, true, false, not, ◌&&◌}
use mathlib.Core.List.{List}
use Prim.Native.Nat.{ℕ}
use Rattle.base.specs.Out.{Out, done, refused, bind, Went}
use borrow.Author.Tests.{ltb-true, ne_eqb}
use native.Mathlib.Omega.{arith}
use Rattle.base.proofs.Bools.{and_parts}
use Rattle.base.proofs.Outs.{went-is, went-not}
use Rattle.table.specs.declared.Table.{Table}
use Rattle.table.specs.declared.Handle.{Handle}
use lib.Dec.{ltb}
use Rattle.table.specs.Table.{row_at, close_hold, free_row_at}
use Rattle.sefs.specs.State.{Fs}
use Rattle.sefs.specs.Nodes.{drop_node, sync_row}
use Rattle.sefs.specs.Ask.{admit, by_handle, start}
use Rattle.sefs.specs.Meta.{load_meta}
use Rattle.sefs.specs.Create.{After, after}
use Rattle.sefs.specs.Close.{close_steps, call_close}
use Rattle.mem.specs.Mem.{table_in, meta_in, Tabled}
use Rattle.steps.specs.Ends.{Rest, on, ending, Ended, went}
use Rattle.steps.proofs.Ends.{rest-off}
use Rattle.mem.specs.State.{fs_at}

pub close-refused : (a : List ℕ) (t : Table) (who : ℕ) (h : Handle) {n : ℕ} → admit a t ≡ refused n → call_close a t who h ≡ refused n
unfolding call_close
close-refused a t who h q = rw q

-- once arena and table are known: the handle's row, and the rest
module _ (a : List ℕ) (t : Table) (who : ℕ) (h : Handle) (q : admit a t ≡ done tt) {i n : ℕ} {P : Type 0} (g : Went (by_handle t who h) i P n) where
  close-is : call_close a t who h ≡ bind (by_handle t who h) (λ i. ending (close_steps (start a (close_hold t h.hold).table) (close_hold t h.hold).last i))
  unfolding call_close
  close-is = rw q

  pub close-not : {e : Out After} {Q : Type 0} → (n ≡ 0 → ⊥) → Rest (call_close a t who h) e Q n
  close-not z = rest-off z (close-is ∙ rw (went-not g z))

  -- the table without the hold, and whether it was its row's last; the memory d has it, with superblock and maps
  pub close_at : {Q : Type 0} (last : Bool) (u : Table) (d : List ℕ) → close_hold t h.hold ≡ record { last = last; table = u } → meta_in d ≡ load_meta a → table_in d ≡ u → n ≡ 0 → Q → Rest (call_close a t who h) (ending (close_steps (fs_at a d) last i)) Q 0
  close_at last u d k m e z p = on (close-is ∙ rw (went-is g z, k, ← e, ← m)) p

-- the row's last hold: its node is dropped
pub steps-last : (s : Fs) (last : Bool) (i : ℕ) → last ≡ true → ending (close_steps s last i) ≡ ending (drop_node s i)
unfolding close_steps
steps-last s last i e = rw e

-- another hold keeps the row
pub steps-kept : (s : Fs) (last : Bool) (i : ℕ) → last ≡ false → ending (close_steps s last i) ≡ done (after s)
unfolding close_steps
steps-kept s last i e = rw e

-- a clean row that has a link is only cleared
is-clean : (b : Bool) → not b ≡ true → b ≡ false
is-clean true e = sym e
is-clean false e = refl

pub drop-stored : (a b m d : List ℕ) (i : ℕ) → not (row_at (table_in m) i).dirty && ltb 0 (row_at (table_in m) i).rec.nlinks ≡ true → b ≡ a → Tabled m d (free_row_at (table_in m) i) → Ended (ending (drop_node (fs_at a m) i)) a b (table_in d) 0
unfolding drop_node sync_row
drop-stored a b m d i e k c =
    let p = and_parts (not (row_at (table_in m) i).dirty) (ltb 0 (row_at (table_in m) i).rec.nlinks) e in
    let n = ne_eqb (row_at (table_in m) i).rec.nlinks 0 (λ z. let l = ltb-true 0 (row_at (table_in m) i).rec.nlinks p.1 in omega (arith, l, z)) in
    went (rw (is-clean (row_at (table_in m) i).dirty p.0, n, k, c.table))
