-- Modes that are calls of order 1: allocate is a resize, and a zero range is a write of zeros.
use mathlib.Core.Path.{◌≡◌, refl, sym, ap, ap₂, ◌∙◌}
use mathlib.Core.Bool.{Bool, true, false}
use mathlib.Core.List.{List}
use Prim.Native.Nat.{ℕ, ◌+◌, ◌≤◌, ◌<◌}
use lib.ListN.{replicate, length-replicate}
use lib.Dec.{ltb, leb}
use borrow.Author.Tests.{lt-ltb, leb-true}
use Rattle.base.specs.Out.{Out, done, refused, ensure, bind}
use Rattle.base.specs.Search.{pick}
use Rattle.std.specs.Prelude.{Some}
use Rattle.base.proofs.Outs.{bind_assoc}
use Rattle.structs.specs.Constants.{type_file}
use Rattle.structs.specs.declared.DiskINode.{DiskINode}
use Rattle.table.specs.declared.Table.{Table}
use Rattle.table.specs.declared.Handle.{Handle}
use Rattle.table.specs.Table.{row_at, live_row}
use Rattle.arena.specs.Fields.{File}
use Rattle.files.specs.Store.{longest}
use Rattle.sefs.specs.State.{Fs, with_arena}
use Rattle.sefs.specs.Nodes.{node_file, rec_at}
use Rattle.sefs.specs.Ask.{admit, an_owner, by_handle, start}
use Rattle.sefs.specs.Create.{After, after}
use Rattle.sefs.specs.Contents.{has_contents, not_too_big, resize_steps, call_resize, write_steps, call_write}
use Rattle.sefs_laws.specs.Contents.{size_at}
use Rattle.pieces.specs.Pieces.{write_zeros}
use Rattle.pieces.specs.Counts.{ZerosPut}
use Rattle.ranges.specs.Ranges.{plain_file, grow_steps, zero_steps, zero_range_steps, call_fallocate}
use Rattle.ranges.specs.Laws.{AllocateIsResize, ZeroIsWrite}
use Rattle.pieces.proofs.Runs.{zeros-put}
use Rattle.ranges.proofs.Asks.{one-contents}

-- ---- what both ask

-- a call's questions of a row, an end in range, and its steps
abbrev asks : (DiskINode → Out Unit) → List ℕ → Table → ℕ → Handle → ℕ → (ℕ → Out Fs) → Out After
asks kind a t w h end steps =
    bind (admit a t) (λ _. bind (by_handle t w h) (λ i. bind (kind (row_at t i).rec) (λ _. bind (not_too_big end) (λ _. bind (steps i) (λ s. done (after s))))))

-- of a file both ask the same, so the steps decide
same-call : (a : List ℕ) (t : Table) (w : ℕ) (h : Handle) (i end : ℕ) (S T : ℕ → Out Fs) → live_row t w h ≡ Some i → (row_at t i).rec.kind ≡ type_file → (end ≤ longest → S i ≡ T i)
    → asks plain_file a t w h end S ≡ asks has_contents a t w h end T
unfolding plain_file by_handle
same-call a t w h i end S T l k e = rw l (go (admit a t) (an_owner w))
  where
    go : (o p : Out Unit)
        → bind o (λ _. bind (bind p (λ _. done i)) (λ i. bind (plain_file (row_at t i).rec) (λ _. bind (not_too_big end) (λ _. bind (S i) (λ s. done (after s))))))
        ≡ bind o (λ _. bind (bind p (λ _. done i)) (λ i. bind (has_contents (row_at t i).rec) (λ _. bind (not_too_big end) (λ _. bind (T i) (λ s. done (after s))))))
    go (refused n) p = refl
    go (done x) (refused n) = refl
    go (done x) (done y) = rw (k, one-contents (row_at t i).rec k) (small (leb end longest) refl)
      where
        small : (b : Bool) → leb end longest ≡ b → bind (ensure b 22) (λ _. bind (S i) (λ s. done (after s))) ≡ bind (ensure b 22) (λ _. bind (T i) (λ s. done (after s)))
        small true y = ap (λ (o : Out Fs). bind o (λ s. done (after s))) (e (leb-true end longest y))
        small false n = refl

-- ---- allocate

pub allocate-is-resize : AllocateIsResize
unfolding AllocateIsResize call_fallocate call_resize grow_steps
allocate-is-resize a t w h i from len l k g =
    same-call a t w h i (from + len) (λ i. grow_steps (start a t) i (from + len)) (λ i. resize_steps (start a t) i (from + len)) l k
    (λ _. ap (λ (b : Bool). pick b (resize_steps (start a t) i (from + len)) (done (start a t))) (lt-ltb (size_at t i) (from + len) g))

-- ---- zero range

-- a zero range's steps are a write's
zero-steps : (s : Fs) (i from len : ℕ) → from + len ≤ longest → 0 < len → zero_range_steps s i from len ≡ write_steps s i from (replicate len 0)
unfolding zero_range_steps zero_steps grow_steps write_steps ZerosPut
zero-steps s i from len range some =
    let f : File = node_file (rec_at s i) in
    bind_assoc (write_zeros s.arena f from len) _ _
    ∙ ap₂ (λ (o : Out (List ℕ)) (n : ℕ). bind o (λ a. pick (ltb (rec_at s i).size (from + n)) (resize_steps (with_arena s a) i (from + n)) (done (with_arena s a))))
    (zeros-put s.arena f from len range some) (sym (length-replicate {A = ℕ} len 0))

pub zero-is-write : ZeroIsWrite
unfolding ZeroIsWrite call_fallocate call_write
zero-is-write a t w h i from len l k some =
    same-call a t w h i (from + len) (λ i. zero_range_steps (start a t) i from len) (λ i. write_steps (start a t) i from (replicate len 0)) l k (λ r. zero-steps (start a t) i from len r some)
    ∙ ap (λ (n : ℕ). asks has_contents a t w h (from + n) (λ i. write_steps (start a t) i from (replicate len 0))) (sym (length-replicate {A = ℕ} len 0))
