-- Each mode of order 13's call moves file length and size together, so the image stays fair.
use mathlib.Core.Path.{◌≡◌, refl, sym, ◌∙◌, subst}
use mathlib.Core.Bool.{Bool, true, false}
use mathlib.Core.List.{List}
use Prim.Native.Nat.{ℕ, ◌+◌, ◌-◌, ◌<◌, ◌≤◌, min}
use native.Mathlib.Omega.{arith}
use lib.Dec.{eqb, ltb}
use borrow.Author.Tests.{ltb-false}
use Rattle.base.specs.Out.{Out, done, Ok, went}
use Rattle.base.specs.Search.{pick}
use Rattle.base.proofs.Outs.{ok-bind, ok-weaken}
use Rattle.base.proofs.Bools.{true-false}
use Rattle.structs.specs.Types.{is_folder}
use Rattle.arena.specs.Fields.{File}
use Rattle.table.specs.Table.{row_at, take_row}
use Rattle.files.specs.Read.{there, length_of}
use Rattle.files_laws.specs.Laws.{CutRefused}
use Rattle.files_laws.proofs.Cut.{cut-law}
use Rattle.pieces.specs.Pieces.{write_zeros}
use Rattle.pieces.proofs.Pieces.{FilledTo, fill_none, fill-then, Blanked, zeros_law, up-law, down-law}
use Rattle.sefs.specs.State.{Fs, with_arena}
use Rattle.sefs.specs.Records.{with_size}
use Rattle.sefs.specs.Nodes.{node_file, rec_at}
use Rattle.sefs.specs.Contents.{resize_steps}
use Rattle.ranges.specs.Ranges.{fits_mode, grow_steps, zero_steps, punch_steps, zero_range_steps, collapse_steps, insert_steps, mode_steps}
use Rattle.ranges.specs.declared.FallocateMode.{FallocateMode}
use Rattle.ranges.specs.declared.FallocateMode.TheVariants.{Allocate, PunchHoleKeepSize, ZeroRange, ZeroRangeKeepSize, CollapseRange, InsertRange, Unknown}
use Rattle.ranges.proofs.Modes.{insert-starts, collapse-ends}
use Rattle.tree.specs.Tree.{Spelling}
use Rattle.image.specs.Midway.{Used, Midway}
use Rattle.image.proofs.Metas.{kept_then}
use Rattle.image.proofs.Contents.{RewrittenFile, sized-none, sized_set, rewritten-mid, is-there, long-is}
use Rattle.sequences.proofs.RangeSteps.{ok-pick}
use Rattle.files_laws.specs.Laws as laws

module _ {style : Spelling} {own : ℕ → Type 0} (s : Fs) (M : Midway style own s.arena s.table) (i : ℕ) (used : Used s.table i) (no-dir : is_folder (rec_at s i).kind ≡ false) where
  abbrev a : List ℕ
  a = s.arena

  abbrev f : File
  f = node_file (rec_at s i)

  abbrev size : ℕ
  size = (rec_at s i).size

  here : there s.arena (node_file (rec_at s i)) ≡ true
  here = is-there s M i used no-dir

  long : length_of s.arena (node_file (rec_at s i)) ≡ (rec_at s i).size
  long = long-is s M i used no-dir

  abbrev Goes : Out Fs → Type 0
  Goes o = Ok (λ (d : Fs). Midway style own d.arena d.table) (λ r. r ≡ 17) o

  -- where the file is filled and then cut
  cut-mid : (top : ℕ) (d : List ℕ) (n : ℕ) → FilledTo a f top d → Goes (resize_steps (with_arena s d) i n)
  unfolding resize_steps
  cut-mid top d n F =
      ok-bind (ok-weaken (λ c C. C) (λ r q. why q) (cut-law d f n)) λ c C.
      let B : RewrittenFile s.arena (node_file (rec_at s i)) n c = record {
        size = C.size ∙ F.size;
        bytes = C.bytes F.bytes;
        sound = C.keeps F.bytes F.keeps;
        exists = C.exists;
        long = C.long;
        others = λ g m. kept_then a d c g (F.files g m) (C.others g m);
      } in
      went (rewritten-mid a s.table M i used no-dir n c B
      (take_row s.table i (row_at s.table i).id (with_size (rec_at s i) n) true) (sized_set a s.table M i used n C.range))
    where
      why : {r : ℕ} → CutRefused d (node_file (rec_at s i)) n r → r ≡ 17
      why (laws.missing q) = absurd (true-false (F.exists ∙ here) q)
      why (laws.far _ _) = refl

  -- where it is filled below its size alone
  filled-mid : (top : ℕ) (d : List ℕ) → top ≤ size → FilledTo a f top d → Midway style own d s.table
  filled-mid top d l F =
      let e : length_of d f ≡ size = omega (arith, long, F.grew, F.most) in
      rewritten-mid a s.table M i used no-dir size d
      (record { size = F.size; bytes = F.bytes; sound = F.keeps; exists = F.exists ∙ here; long = e; others = F.files })
      s.table (sized-none a s.table M i used)

  none : there s.arena (node_file (rec_at s i)) ≡ false → ◌≡◌ {A = ℕ} 19 17
  none q = absurd (true-false here q)

  zeros-mid : (pos n : ℕ) → Ok (Blanked a f pos n (pos + n)) (λ r. r ≡ 17) (write_zeros a f pos n)
  zeros-mid pos n = zeros_law a f pos n M.bytes M.fair.rule1.sound (λ r. r ≡ 17) refl none

  punch-mid : (from len : ℕ) → Goes (punch_steps s i from len)
  unfolding punch_steps zero_steps
  punch-mid from len =
      ok-bind (zeros-mid (min from size) (min (from + len) size - min from size)) λ d Z.
      went (filled-mid (min from size + (min (from + len) size - min from size)) d (omega arith) Z.filled)

  grow-mid : (top : ℕ) (d : List ℕ) (end : ℕ) → top ≤ end → FilledTo a f top d → Goes (grow_steps (with_arena s d) i end)
  unfolding grow_steps
  grow-mid top d end l F = go (ltb size end) refl
    where
      go : (b : Bool) → ltb (rec_at s i).size end ≡ b → Ok (λ (d : Fs). Midway style own d.arena d.table) (λ r. r ≡ 17) (pick b (resize_steps (with_arena s d) i end) (done (with_arena s d)))
      go true e = cut-mid top d end F
      go false e = went (filled-mid top d (omega (arith, ltb-false (rec_at s i).size end e)) F)

  zero-range-mid : (from len : ℕ) → Goes (zero_range_steps s i from len)
  unfolding zero_range_steps zero_steps
  zero-range-mid from len =
      ok-bind {P = λ (x : Fs). (d : List ℕ) × (x ≡ with_arena s d) × FilledTo s.arena (node_file (rec_at s i)) (from + len) d}
      (ok-bind (zeros-mid from len) λ d Z. went (d, refl, Z.filled)) λ x X.
      subst (λ (y : Fs). Ok (λ (d : Fs). Midway style own d.arena d.table) (λ r. r ≡ 17) (grow_steps y i (from + len))) (sym X.1) (grow-mid (from + len) X.0 (from + len) (omega arith) X.2)

  still : (top : ℕ) → FilledTo a f top a
  still top = fill_none a f top M.bytes M.fair.rule1.sound

  collapse-mid : (from len : ℕ) → from + len < size → Goes (collapse_steps s i from len)
  unfolding collapse_steps
  collapse-mid from len l =
      ok-bind {P = λ d. FilledTo s.arena (node_file (rec_at s i)) (from + (size - (from + len))) d}
      (ok-pick (eqb len 0) (done a) _ (went (still (from + (size - (from + len)))))
      (ok-weaken (λ d C. C.filled) (λ r q. q)
      (down-law a f (from + len) from (size - (from + len)) M.bytes M.fair.rule1.sound (λ r. r ≡ 17) refl none (λ g. absurd (omega (arith, long))) (omega arith)))) λ d F.
      cut-mid (from + (size - (from + len))) d (size - len) F

  insert-mid : (from len : ℕ) → from < size → Goes (insert_steps s i from len)
  unfolding insert_steps zero_steps
  insert-mid from len l =
      ok-bind {P = λ d. FilledTo s.arena (node_file (rec_at s i)) (from + len + (size - from)) d}
      (ok-pick (eqb len 0) (done a) _ (went (still (from + len + (size - from))))
      (ok-weaken (λ d C. C.filled) (λ r q. q)
      (up-law a f from (from + len) (size - from) M.bytes M.fair.rule1.sound (λ r. r ≡ 17) refl none (λ g. absurd (omega (arith, long))) (omega arith)))) λ d F.
      ok-bind {P = λ (x : Fs). (e : List ℕ) × (x ≡ with_arena s e) × FilledTo s.arena (node_file (rec_at s i)) (from + len + (size - from)) e}
      (ok-bind (zeros_law d f from len F.bytes F.keeps (λ r. r ≡ 17) refl (λ q. none (sym F.exists ∙ q))) λ e Z.
      went (e, refl, fill-then a f (from + len + (size - from)) (from + len) (from + len + (size - from)) d e (omega arith) (omega arith) F Z.filled)) λ x X.
      subst (λ (y : Fs). Ok (λ (d : Fs). Midway style own d.arena d.table) (λ r. r ≡ 17) (resize_steps y i ((rec_at y i).size + len))) (sym X.1)
      (cut-mid (from + len + (size - from)) X.0 (size + len) X.2)

  -- where the mode has been asked for, it leaves the image fair, or says 17
  pub mode-mid : (mode : FallocateMode) (from len : ℕ) → fits_mode mode (rec_at s i).size from len ≡ done tt
      → Ok (λ (d : Fs). Midway style own d.arena d.table) (λ r. r ≡ 17) (mode_steps mode s i from len)
  mode-mid (Allocate true) from len fit = went M
  mode-mid (Allocate false) from len fit = grow-mid 0 a (from + len) (omega arith) (still 0)
  mode-mid PunchHoleKeepSize from len fit = punch-mid from len
  mode-mid ZeroRange from len fit = zero-range-mid from len
  mode-mid ZeroRangeKeepSize from len fit = punch-mid from len
  mode-mid CollapseRange from len fit = collapse-mid from len (collapse-ends size from len fit)
  mode-mid InsertRange from len fit = insert-mid from len (insert-starts size from len fit)
  mode-mid Unknown from len fit = absurd (let x : ◌≡◌ {A = ℕ} 0 1 = cc in omega arith)
