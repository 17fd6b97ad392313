-- What every mode of order 13's call keeps, piece by piece: P, where a write into row i's file keeps it, and a new size of the row.
use mathlib.Core.Bool.{Bool, true, false}
use mathlib.Core.List.{List}
use Prim.Native.Nat.{ℕ, zero, suc, ◌+◌, ◌-◌, min}
use lib.Dec.{eqb, ltb}
use lib.ListN.{replicate}
use Rattle.base.specs.Out.{Out, done, Ok, went, said}
use Rattle.base.specs.Search.{pick}
use Rattle.base.proofs.Outs.{ok-bind, ok-weaken}
use Rattle.table.specs.declared.Table.{Table}
use Rattle.files.specs.Store.{put_file}
use Rattle.pieces.specs.Pieces.{pieces, piece_len, rising, falling, zeros_to, write_zeros, copy_piece, down_to, copy_down, up_to, copy_up}
use Rattle.pieces.proofs.Pieces.{read-says}
use Rattle.sefs.specs.State.{Fs, with_arena}
use Rattle.sefs.specs.Nodes.{node_file, rec_at}
use Rattle.sefs.specs.Contents.{resize_steps}
use Rattle.sefs_laws.proofs.Rows.{Any, Leaves, Changes, Fills, put-any, leaves-resize}
use Rattle.ranges.specs.Ranges.{grow_steps, zero_steps, punch_steps, zero_range_steps, collapse_steps, insert_steps, mode_steps}
use Rattle.ranges.specs.declared.FallocateMode.{FallocateMode}
use Rattle.ranges.specs.declared.FallocateMode.TheVariants.{Allocate, PunchHoleKeepSize, ZeroRange, ZeroRangeKeepSize, CollapseRange, InsertRange, Unknown}

-- either way
pub ok-pick : {A : Type 0} {Q : A → Type 0} {R : ℕ → Type 0} (b : Bool) (m o : Out A) → Ok Q R m → Ok Q R o → Ok Q R (pick b m o)
ok-pick true m o x y = x
ok-pick false m o x y = y

module _ (R : ℕ → Type 0) (space : R 17) (stuck : R 19) (P : List ℕ → Table → Type 0) (i : ℕ)
    (put : (s : Fs) (pos : ℕ) (src : List ℕ) → P s.arena s.table → Ok (λ b. P b s.table) R (put_file s.arena (node_file (rec_at s i)) pos src))
    (size : (s : Fs) (n : ℕ) → P s.arena s.table → Ok (λ (d : Fs). P d.arena d.table) R (resize_steps s i n)) where
  abbrev Goes : Out Fs → Type 0
  Goes o = Ok (λ (d : Fs). P d.arena d.table) R o

  abbrev Filled : Fs → Out (List ℕ) → Type 0
  Filled s o = Ok (λ b. P b s.table) R o

  -- ---- the pieces

  zeros : (s : Fs) (pos n k : ℕ) → P s.arena s.table → Filled s (zeros_to s.arena (node_file (rec_at s i)) pos n k)
  unfolding zeros_to
  zeros s pos n zero h = went h
  zeros s pos n (suc k) h = ok-bind (zeros s pos n k h) λ d g. put (with_arena s d) (pos + rising k) (replicate (piece_len n k) 0) g

  piece : (s : Fs) (src dst n : ℕ) → P s.arena s.table → Filled s (copy_piece s.arena (node_file (rec_at s i)) src dst n)
  unfolding copy_piece
  piece s src dst n h = ok-bind (read-says R space s.arena (node_file (rec_at s i)) src n (λ _. stuck) (λ _. stuck)) λ l _. put s dst l h

  down : (s : Fs) (src dst n k : ℕ) → P s.arena s.table → Filled s (down_to s.arena (node_file (rec_at s i)) src dst n k)
  unfolding down_to
  down s src dst n zero h = went h
  down s src dst n (suc k) h = ok-bind (down s src dst n k h) λ d g. piece (with_arena s d) (src + rising k) (dst + rising k) (piece_len n k) g

  up : (s : Fs) (src dst n k : ℕ) → P s.arena s.table → Filled s (up_to s.arena (node_file (rec_at s i)) src dst n k)
  unfolding up_to
  up s src dst n zero h = went h
  up s src dst n (suc k) h = ok-bind (up s src dst n k h) λ d g. piece (with_arena s d) (src + falling n k) (dst + falling n k) (piece_len n k) g

  -- ---- the modes

  zero-goes : (s : Fs) (pos n : ℕ) → P s.arena s.table → Goes (zero_steps s i pos n)
  unfolding zero_steps write_zeros
  zero-goes s pos n h = ok-bind (zeros s pos n (pieces n) h) λ d g. went g

  grow-goes : (s : Fs) (end : ℕ) → P s.arena s.table → Goes (grow_steps s i end)
  unfolding grow_steps
  grow-goes s end h = ok-pick (ltb (rec_at s i).size end) (resize_steps s i end) (done s) (size s end h) (went h)

  punch-goes : (s : Fs) (from len : ℕ) → P s.arena s.table → Goes (punch_steps s i from len)
  unfolding punch_steps
  punch-goes s from len h = zero-goes s (min from (rec_at s i).size) (min (from + len) (rec_at s i).size - min from (rec_at s i).size) h

  zero-range-goes : (s : Fs) (from len : ℕ) → P s.arena s.table → Goes (zero_range_steps s i from len)
  unfolding zero_range_steps
  zero-range-goes s from len h = ok-bind (zero-goes s from len h) λ d g. grow-goes d (from + len) g

  collapse-goes : (s : Fs) (from len : ℕ) → P s.arena s.table → Goes (collapse_steps s i from len)
  unfolding collapse_steps copy_down
  collapse-goes s from len h =
      let m : ℕ = (rec_at s i).size - (from + len) in
      ok-bind (ok-pick (eqb len 0) (done s.arena) _ (went h) (down s (from + len) from m (pieces m) h)) λ d g. size (with_arena s d) ((rec_at s i).size - len) g

  insert-goes : (s : Fs) (from len : ℕ) → P s.arena s.table → Goes (insert_steps s i from len)
  unfolding insert_steps copy_up
  insert-goes s from len h =
      let m : ℕ = (rec_at s i).size - from in
      ok-bind (ok-pick (eqb len 0) (done s.arena) _ (went h) (up s from (from + len) m (pieces m) h)) λ d g.
      ok-bind (zero-goes (with_arena s d) from len g) λ e k. size e ((rec_at e i).size + len) k

  -- a number that is no mode gets to no step; here it says 6
  pub goes-mode : R 6 → (mode : FallocateMode) (s : Fs) (from len : ℕ) → P s.arena s.table → Ok (λ (d : Fs). P d.arena d.table) R (mode_steps mode s i from len)
  goes-mode none (Allocate true) s from len h = went h
  goes-mode none (Allocate false) s from len h = grow-goes s (from + len) h
  goes-mode none PunchHoleKeepSize s from len h = punch-goes s from len h
  goes-mode none ZeroRange s from len h = zero-range-goes s from len h
  goes-mode none ZeroRangeKeepSize s from len h = punch-goes s from len h
  goes-mode none CollapseRange s from len h = collapse-goes s from len h
  goes-mode none InsertRange s from len h = insert-goes s from len h
  goes-mode none Unknown s from len h = said none

-- where row i's file may be filled
pub leaves-mode : (P : List ℕ → Table → Type 0) (i : ℕ) → Fills P i → Changes P → (mode : FallocateMode) (s : Fs) (from len : ℕ) → P s.arena s.table → Leaves P (mode_steps mode s i from len)
leaves-mode P i fills change =
    goes-mode Any tt tt P i
    (λ s pos src h. ok-weaken (λ b p. fills s.arena b s.table p.others h) (λ n r. r) (put-any s.arena (node_file (rec_at s i)) pos src))
    (leaves-resize P i fills change) tt
