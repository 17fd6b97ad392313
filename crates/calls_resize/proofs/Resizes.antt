-- The call: its questions, and then its one step.
use mathlib.Core.Path.{◌≡◌, ◌∙◌}
use mathlib.Core.Bool.{false}
use mathlib.Core.List.{List}
use Prim.Native.Nat.{ℕ}
use Rattle.base.specs.Out.{done, refused, bind}
use Rattle.table.specs.declared.Table.{Table}
use Rattle.table.specs.declared.Handle.{Handle}
use Rattle.table.specs.Table.{row_at}
use Rattle.files.specs.Read.{there}
use Rattle.files.specs.Store.{cut_file}
use Rattle.sefs.specs.Ask.{start}
use Rattle.sefs.specs.Nodes.{node_file}
use Rattle.sefs.specs.Contents.{resize_steps, call_resize}
use Rattle.mem.specs.Mem.{table_in}
use Rattle.steps.specs.Ends.{ending, Ended, went}
use Rattle.sizes.specs.Sizes.{ask_end, Sized}
use Rattle.sizes.proofs.Asked.{end-split}

-- a missing file is the first that the steps meet
steps-missing : (a : List ℕ) (t : Table) (n i : ℕ) → there a (node_file (row_at t i).rec) ≡ false → ending (resize_steps (start a t) i n) ≡ refused 19
unfolding resize_steps cut_file
steps-missing a t n i e = rw e

resize-is : (a : List ℕ) (t : Table) (who : ℕ) (h : Handle) (n : ℕ) → call_resize a t who h n ≡ bind (ask_end a t who h n) (λ i. ending (resize_steps (start a t) i n))
unfolding call_resize
resize-is a t who h n = end-split a t who h n (λ i. ending (resize_steps (start a t) i n)) (steps-missing a t n)

pub resize-not : (a : List ℕ) (t : Table) (who : ℕ) (h : Handle) (n : ℕ) {r : ℕ} → ask_end a t who h n ≡ refused r → call_resize a t who h n ≡ refused r
resize-not a t who h n e = resize-is a t who h n ∙ rw e

pub resized : (a b m d : List ℕ) (who : ℕ) (h : Handle) (n i : ℕ) → ask_end a (table_in m) who h n ≡ done i → Sized a b m d i n → Ended (call_resize a (table_in m) who h n) a b (table_in d) 0
unfolding resize_steps
resized a b m d who h n i e S = went (resize-is a (table_in m) who h n ∙ rw (e, S.arena, S.table))
