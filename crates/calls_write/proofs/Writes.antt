-- The call: its questions and its plan, and what its stores leave.
use mathlib.Core.Path.{◌≡◌, sym, ◌∙◌}
use mathlib.Core.Bool.{false}
use mathlib.Core.List.{List}
use Prim.Native.Nat.{ℕ, ◌+◌, ◌≤◌, ◌<◌}
use native.Mathlib.Nat.{le_refl}
use lib.ListN.{length}
use borrow.Author.Tests.{lt-ltb, le-ltb}
use Rattle.base.specs.Out.{Out, done, refused, bind, Went}
use Rattle.base.proofs.Outs.{went-is, went-has, went-not}
use Rattle.le.specs.Le.{Bytes}
use Rattle.structs.specs.declared.DiskINode.{DiskINode}
use Rattle.table.specs.declared.Table.{Table}
use Rattle.table.specs.declared.Handle.{Handle}
use Rattle.table.specs.Table.{row_at}
use Rattle.files.specs.Read.{there}
use Rattle.files.specs.Store.{touched, put_file}
use Rattle.files_laws.proofs.Put.{put_is, put-upto, put_all}
use Rattle.sefs.specs.Ask.{start, admit}
use Rattle.sefs.specs.Nodes.{node_file}
use Rattle.sefs.specs.Create.{After}
use Rattle.sefs.specs.Contents.{resize_steps, write_steps, call_write}
use Rattle.mem.specs.Mem.{table_in}
use Rattle.steps.specs.Ends.{Rest, on, ending, Ended, went}
use Rattle.steps.proofs.Ends.{rest-off}
use Rattle.sizes.specs.Sizes.{ask_end, Reached, Sized}
use Rattle.sizes.proofs.Asked.{end-split}
use Rattle.plans.specs.Plan.{Planned, Decided}
use Rattle.plans.proofs.Decides.{decided-can, decided-not}

-- a missing file is the first that the steps meet
steps-missing : (a : List ℕ) (t : Table) (place : ℕ) (src : List ℕ) (i : ℕ) → there a (node_file (row_at t i).rec) ≡ false → ending (write_steps (start a t) i place src) ≡ refused 19
unfolding write_steps put_file
steps-missing a t place src i e = rw e

write-is : (a : List ℕ) (t : Table) (who : ℕ) (h : Handle) (place : ℕ) (src : List ℕ) → call_write a t who h place src ≡ bind (ask_end a t who h (place + length src)) (λ i. ending (write_steps (start a t) i place src))
unfolding call_write
write-is a t who h place src = end-split a t who h (place + length src) (λ i. ending (write_steps (start a t) i place src)) (steps-missing a t place src)

-- ---- before any store

module _ (a : List ℕ) (t : Table) (who : ℕ) (h : Handle) (place n : ℕ) where
  -- arena or table are refused
  pub write-unadmitted : {r : ℕ} → admit a t ≡ refused r → (r ≡ 0 → ⊥) → (e : Out After) (P : Type 0) (src : List ℕ) → Rest (call_write a t who h place src) e P r
  unfolding call_write
  write-unadmitted q z e P src = rest-off z (rw q)

  module _ {R : Type 0} {i r : ℕ} (g : Went (ask_end a t who h (place + n)) i R r) where
    asked : r ≡ 0 → (src : List ℕ) → length src ≡ n → call_write a t who h place src ≡ ending (write_steps (start a t) i place src)
    asked z src size = write-is a t who h place src ∙ rw (size, went-is g z)

    -- a question is
    pub write-off : (r ≡ 0 → ⊥) → (e : Out After) (P : Type 0) (src : List ℕ) → length src ≡ n → Rest (call_write a t who h place src) e P r
    write-off z e P src size = rest-off z (write-is a t who h place src ∙ rw (size, went-not g z))

    module _ {s : ℕ} {plan : List ℕ} (w : DiskINode) (is : w ≡ (row_at t i).rec) (D : Decided a (node_file w) place n plan s) (z : r ≡ 0) where
      -- the free blocks are too few
      pub write-full : (s ≡ 0 → ⊥) → (e : Out After) (P : Type 0) (src : List ℕ) → length src ≡ n → Rest (call_write a t who h place src) e P s
      unfolding write_steps
      write-full y e P src size = rest-off y (asked z src size ∙ rw (← is, decided-not D y src size))

      -- nothing refuses the call any more
      pub write-on : s ≡ 0 → (src : List ℕ) → length src ≡ n → Rest (call_write a t who h place src) (ending (write_steps (start a t) i place src)) (R × Planned a (node_file (row_at t i).rec) place n plan) 0
      write-on y src size = on (asked z src size) (went-has g z, rw (← is) (decided-can D y))

-- ---- the stores

module _ (a d m : List ℕ) (i k pos : ℕ) (src : List ℕ) (R : Reached a (table_in m) i k (pos + length src)) (e : put_file a (node_file (row_at (table_in m) i).rec) pos src ≡ done d) where
  -- where the bytes were written, the node is as ready as it was
  pub put-reached : Bytes a → Bytes src → Reached d (table_in m) i k (pos + length src)
  put-reached h s =
      let f = node_file (row_at (table_in m) i).rec in
      let U = put-upto a f pos src R.exists R.range (touched pos (length src)) d (le_refl (touched pos (length src))) (sym (put_all a f pos src R.exists R.range) ∙ e) in
      record {
        row = R.row;
        range = R.range;
        fine = (put_is a f pos src d e).keeps h s R.fine;
        exists = U.exists;
        head = R.head ∙ sym U.head;
      }

  -- the end is not above the size
  pub wrote-inside : pos + length src ≤ (row_at (table_in m) i).rec.size → Ended (ending (write_steps (start a (table_in m)) i pos src)) a d (table_in m) 0
  unfolding write_steps
  wrote-inside l = went (rw (e, le-ltb (row_at (table_in m) i).rec.size (pos + length src) l))

  -- it is: length and size become it
  pub wrote-past : (b n : List ℕ) → (row_at (table_in m) i).rec.size < pos + length src → Sized d b m n i (pos + length src) → Ended (ending (write_steps (start a (table_in m)) i pos src)) a b (table_in n) 0
  unfolding write_steps resize_steps
  wrote-past b n l S = went (rw (e, lt-ltb (row_at (table_in m) i).rec.size (pos + length src) l, S.arena, S.table))
