-- Steps in a row, on the state that the three slices are.
use mathlib.Core.Path.{◌≡◌, sym, ap}
use mathlib.Core.Bool.{true}
use mathlib.Core.List.{List}
use Prim.Native.Nat.{ℕ, ◌+◌, ◌≤◌}
use native.Mathlib.Omega.{arith}
use Rattle.base.specs.Out.{Out, done, bind, Went, well, ill}
use Rattle.base.proofs.Outs.{went-next, went-weaken}
use Rattle.overlay.specs.View.{view, Fine}
use Rattle.overlay.specs.Steps.{Did, went, stopped}
use Rattle.structs.specs.declared.DiskINode.{DiskINode}
use Rattle.table.specs.Table.{row_at, take_row}
use Rattle.sefs.specs.State.{Fs, with_arena}
use Rattle.sefs.specs.Records.{with_links, with_blocks}
use Rattle.sefs.specs.Nodes.{rec_at, set_rec}
use Rattle.mem.specs.Mem.{table_in, Tabled, Whole}
use Rattle.mem.specs.State.{fs_of, Ready, Still, Stepped}
use Rattle.folders.specs.Steps.{Blocked, Linked}

-- ---- chains

-- the next step after one that was done
pub stepped-next : {o : Out Fs} {a w u t n l : List ℕ} {k r : ℕ} (f : Fs → Out Fs) (j m : ℕ) → o ≡ done (fs_of a u n) → Still a w u n j
    → Stepped (f (fs_of a u n)) a u t l k r → j + k ≤ m → Stepped (bind o f) a w t l m r
stepped-next f j m e s g h = went-next f e (went-weaken (λ x. record { fine = x.fine; whole = x.whole; room = omega (arith, x.room, s.room) }) g)

-- at most so many blocks are at most more
pub stepped-more : {o : Out Fs} {a w u n : List ℕ} {k r : ℕ} (m : ℕ) → k ≤ m → Stepped o a w u n k r → Stepped o a w u n m r
stepped-more m h g = went-weaken (λ x. record { fine = x.fine; whole = x.whole; room = omega (arith, x.room) }) g

-- what can be stored after a step that was done
pub still-ready : {a w u n : List ℕ} {k : ℕ} → Still a w u n k → Ready a u n
still-ready s = record { fine = s.fine; whole = s.whole }

-- a step that changes the memory alone
pub mem-stepped : {o : Out Fs} {a w n : List ℕ} {r : ℕ} (k : ℕ) → Fine a w → Went o (fs_of a w n) (Whole n) r → Stepped o a w w n k r
mem-stepped k f g = went-weaken (λ h. record { fine = f; whole = h; room = omega arith }) g

-- a step of the workspace alone
pub did-stepped : {o : Out (List ℕ)} {a w u : List ℕ} {k r : ℕ} (m : List ℕ) → Whole m → Did o a w u k r → Stepped (bind o (λ x. done (with_arena (fs_of a w m) x))) a w u m k r
unfolding fs_of
did-stepped {a = a} {w = w} m h (went e c) = well (rw e (ap (λ (x : List ℕ). done (with_arena (fs_of a w m) x)) (sym c.is))) (record { fine = c.fine; whole = h; room = c.room })
did-stepped m h (stopped l e) = ill l (rw e)

-- ---- a record changed

same-state : {m n : List ℕ} (i : ℕ) (a w : List ℕ) (f : DiskINode → DiskINode) → Tabled m n (take_row (table_in m) i (row_at (table_in m) i).id (f (row_at (table_in m) i).rec) true)
    → fs_of a w n ≡ set_rec (fs_of a w m) i (f (rec_at (fs_of a w m) i))
unfolding fs_of
same-state {m} i a w f t = λ x. record { arena = view a w; table = t.table x; meta = t.meta x }

-- the memory with another number in row i's record
pub blocked : {m n : List ℕ} {i x : ℕ} → Tabled m n (take_row (table_in m) i (row_at (table_in m) i).id (with_blocks (row_at (table_in m) i).rec x) true) → Blocked m n i x
blocked {i = i} {x = x} t = record { is = λ a w. same-state i a w (λ r. with_blocks r x) t; whole = t.whole }

pub linked : {m n : List ℕ} {i x : ℕ} → Tabled m n (take_row (table_in m) i (row_at (table_in m) i).id (with_links (row_at (table_in m) i).rec x) true) → Linked m n i x
linked {i = i} {x = x} t = record { is = λ a w. same-state i a w (λ r. with_links r x) t; whole = t.whole }
