-- 17 and 19 of the whole call, by counting.
use mathlib.Core.Path.{◌≡◌, refl, sym, ap, ◌∙◌, subst}
use mathlib.Core.Bool.{Bool, true, false, ◌||◌}
use mathlib.Core.List.{List}
use Prim.Native.Nat.{ℕ, zero, suc, ◌+◌, ◌*◌, ◌-◌, ◌/◌, ◌≤◌, ◌<◌, min}
use native.Mathlib.Omega.{arith}
use lib.ListN.{replicate}
use lib.Dec.{eqb, ltb, leb}
use borrow.Author.Tests.{le-leb, lt-leb, leb-true, leb-false, ltb-true, ltb-false, eqb-true}
use Rattle.base.specs.Out.{Out, done, refused, bind, answer, Ok, went, said}
use Rattle.base.specs.Search.{pick}
use Rattle.base.proofs.Bools.{true-false}
use Rattle.base.proofs.Outs.{ok-bind, ok-weaken, ok-done}
use Rattle.le.specs.Le.{Bytes}
use Rattle.table.specs.declared.Table.{Table}
use Rattle.table.specs.declared.Handle.{Handle}
use Rattle.table.specs.Table.{row_at}
use Rattle.arena.specs.Fields.{File}
use Rattle.arena.specs.Places.{free_count}
use Rattle.files.specs.Read.{there, length_of}
use Rattle.files.specs.Store.{longest, put_file, cut_file}
use Rattle.files.proofs.Runs.{read-missing}
use Rattle.files_laws.specs.Laws.{lacking, CutRefused}
use Rattle.files_laws.proofs.Bounds.{length-fits}
use Rattle.files_laws.proofs.Cut.{cut-law}
use Rattle.files_laws.proofs.Put.{put-missing}
use Rattle.sefs.specs.State.{Fs, with_arena}
use Rattle.sefs.specs.Nodes.{node_file, rec_at}
use Rattle.sefs.specs.Ask.{start}
use Rattle.sefs.specs.Create.{after}
use Rattle.sefs.specs.Contents.{resize_steps}
use Rattle.sefs_laws.specs.Contents.{file_at, size_at}
use Rattle.sefs_laws.proofs.Rows.{Any}
use Rattle.pieces.specs.Pieces.{pieces, piece_len, rising, falling, zeros_to, write_zeros, copy_piece, down_to, copy_down, up_to, copy_up}
use Rattle.ranges.specs.Ranges.{fits_mode, grow_steps, zero_steps, punch_steps, zero_range_steps, collapse_steps, insert_steps, mode_steps, call_fallocate}
use Rattle.pieces.specs.Counts.{ByRoom, ShortUp}
use Rattle.ranges.specs.Says.{questions, AsksFirst, blocks_wanted, BlocksDecide, says_on, looks, FallocateSays}
use Rattle.ranges.specs.declared.FallocateMode.{FallocateMode}
use Rattle.ranges.specs.declared.FallocateMode.TheVariants.{Allocate, PunchHoleKeepSize, ZeroRange, ZeroRangeKeepSize, CollapseRange, InsertRange, Unknown}
use Rattle.ranges.proofs.Asks.{call-is, asked-law}
use Rattle.ranges.proofs.Modes.{collapse-ends, insert-starts}
use Rattle.ranges.proofs.Solid.{collapse-fits}
use Rattle.pieces.proofs.Counts.{TookBlocks, NoRoom, zeros-take, down-take, insert-take, short-up, short_says, short-says}
use Rattle.files_laws.specs.Laws as laws

-- ---- an outcome's number: v is 0 where it is done, and its reason where it is not

abbrev Told : {A : Type 0} → ℕ → Out A → Type 0
Told v o = Ok (λ _. 0 ≡ v) (λ r. (r ≡ v) × (0 < r)) o

told-answer : {A : Type 0} (v : ℕ) {o : Out A} → Told v o → answer o ≡ v
told-answer v (went e) = e
told-answer v (said e) = e.0

told-stuck : {A : Type 0} {o : Out A} → o ≡ refused 19 → Told 19 o
told-stuck e = subst (Told 19) (sym e) (said {n = 19} (refl, omega arith))

told-full : {A : Type 0} {o : Out A} → o ≡ refused 17 → Told 17 o
told-full e = subst (Told 17) (sym e) (said {n = 17} (refl, omega arith))

full-told : (a : List ℕ) (f : File) (pos n r : ℕ) → NoRoom a f pos n r → (r ≡ ByRoom a f pos n) × (0 < r)
full-told a f pos n r F = (F.0 ∙ sym (ap (λ (b : Bool). pick b 0 17) (lt-leb (lacking a f pos n) (free_count a) F.1)), omega (arith, F.0))

took-told : {a : List ℕ} {f : File} {pos n : ℕ} {d : List ℕ} → TookBlocks a f pos n d → 0 ≡ ByRoom a f pos n
took-told {a} {f} {pos} {n} T = sym (ap (λ (b : Bool). pick b 0 17) (le-leb (lacking a f pos n) (free_count a) (omega (arith, T.free))))

-- ---- a missing file

copy-missing : (a : List ℕ) (f : File) (src dst n : ℕ) → there a f ≡ false → copy_piece a f src dst n ≡ refused 19
unfolding copy_piece
copy-missing a f src dst n e = rw (read-missing a f src n e) refl

module _ (a : List ℕ) (f : File) (none : there a f ≡ false) where
  zeros-none : (pos n k : ℕ) → zeros_to a f pos n (suc k) ≡ refused 19
  unfolding zeros_to
  zeros-none pos n zero = put-missing a f (pos + rising 0) (replicate (piece_len n 0) 0) none
  zeros-none pos n (suc k) = ap (λ (o : Out (List ℕ)). bind o (λ d. put_file d f (pos + rising (suc k)) (replicate (piece_len n (suc k)) 0))) (zeros-none pos n k)

  down-none : (src dst n k : ℕ) → down_to a f src dst n (suc k) ≡ refused 19
  unfolding down_to
  down-none src dst n zero = copy-missing a f (src + rising 0) (dst + rising 0) (piece_len n 0) none
  down-none src dst n (suc k) = ap (λ (o : Out (List ℕ)). bind o (λ d. copy_piece d f (src + rising (suc k)) (dst + rising (suc k)) (piece_len n (suc k)))) (down-none src dst n k)

  up_none : (src dst n k : ℕ) → up_to a f src dst n (suc k) ≡ refused 19
  unfolding up_to
  up_none src dst n zero = copy-missing a f (src + falling n 0) (dst + falling n 0) (piece_len n 0) none
  up_none src dst n (suc k) = ap (λ (o : Out (List ℕ)). bind o (λ d. copy_piece d f (src + falling n (suc k)) (dst + falling n (suc k)) (piece_len n (suc k)))) (up_none src dst n k)

  -- one piece at least
  some-pieces : (n : ℕ) → 0 < n → pieces n ≡ suc (pieces n - 1)
  some-pieces n l = omega arith

  zeros-missing : (pos n : ℕ) → 0 < n → write_zeros a f pos n ≡ refused 19
  unfolding write_zeros
  zeros-missing pos n l = ap (zeros_to a f pos n) (some-pieces n l) ∙ zeros-none pos n (pieces n - 1)

  down-missing : (src dst n : ℕ) → 0 < n → copy_down a f src dst n ≡ refused 19
  unfolding copy_down
  down-missing src dst n l = ap (down_to a f src dst n) (some-pieces n l) ∙ down-none src dst n (pieces n - 1)

  up-missing : (src dst n : ℕ) → 0 < n → copy_up a f src dst n ≡ refused 19
  unfolding copy_up
  up-missing src dst n l = ap (up_to a f src dst n) (some-pieces n l) ∙ up_none src dst n (pieces n - 1)

-- no zeros are no step
no-zeros : (a : List ℕ) (f : File) (pos n : ℕ) → n ≡ 0 → write_zeros a f pos n ≡ done a
unfolding write_zeros zeros_to
no-zeros a f pos n e = subst (λ (m : ℕ). zeros_to a f pos m (pieces m) ≡ done a) (sym e) refl

-- ---- the steps

module _ (i n : ℕ) where
  -- the length is set
  goes : (s : Fs) (v : ℕ) → there s.arena (node_file (rec_at s i)) ≡ true → n ≤ longest → 0 ≡ v → Told v (resize_steps s i n)
  unfolding resize_steps
  goes s v y l e = ok-bind (ok-weaken (λ c C. C) (λ r q. absurd (why q)) (cut-law s.arena (node_file (rec_at s i)) n)) λ c C. went e
    where
      why : {r : ℕ} → CutRefused s.arena (node_file (rec_at s i)) n r → ⊥
      why (laws.missing q) = true-false y q
      why (laws.far _ g) = omega arith

  cut-missing : (s : Fs) → there s.arena (node_file (rec_at s i)) ≡ false → resize_steps s i n ≡ refused 19
  unfolding resize_steps cut_file
  cut-missing s e = rw e refl

  cut-far : (s : Fs) → there s.arena (node_file (rec_at s i)) ≡ true → longest < n → resize_steps s i n ≡ refused 17
  unfolding resize_steps cut_file
  cut-far s e l = rw (e, lt-leb n longest l) refl

  grow-told : (s : Fs) (v : ℕ) → there s.arena (node_file (rec_at s i)) ≡ true → n ≤ longest → 0 ≡ v → Told v (grow_steps s i n)
  unfolding grow_steps
  grow-told s v y l e = go (ltb (rec_at s i).size n)
    where
      go : (b : Bool) → Told v (pick b (resize_steps s i n) (done s))
      go true = goes s v y l e
      go false = went e

  grow-missing : (s : Fs) → there s.arena (node_file (rec_at s i)) ≡ false → Told (pick (ltb (rec_at s i).size n) 19 0) (grow_steps s i n)
  unfolding grow_steps
  grow-missing s e = go (ltb (rec_at s i).size n)
    where
      go : (b : Bool) → Told (pick b 19 0) (pick b (resize_steps s i n) (done s))
      go true = told-stuck (cut-missing s e)
      go false = went refl

-- the number of the whole call, where all is asked, of row i
abbrev whole : List ℕ → Table → ℕ → FallocateMode → ℕ → ℕ → ℕ
whole a t i mode from len = pick (there a (file_at t i)) (says_on mode a (file_at t i) (size_at t i) from len) (pick (looks mode (size_at t i) from len) 19 0)

module _ (a : List ℕ) (t : Table) (i from len : ℕ) (bytes-a : Bytes a) (ends : from + len ≤ longest) where
  abbrev f : File
  f = file_at t i

  abbrev size : ℕ
  size = size_at t i

  abbrev s : Fs
  s = start a t

  -- the part of the range below the size
  abbrev low : ℕ
  low = min from (size_at t i)

  abbrev high : ℕ
  high = min (from + len) (size_at t i)

  -- how many bytes there are from the range's end on, and from its start on
  abbrev after-it : ℕ
  after-it = size_at t i - (from + len)

  abbrev from-it : ℕ
  from-it = size_at t i - from

  -- what it says where the file is there, and where it is missing
  abbrev Says : FallocateMode → Type 0
  Says mode = (there a (file_at t i) ≡ true → Told (says_on mode a (file_at t i) (size_at t i) from len) (mode_steps mode (start a t) i from len))
      × (there a (file_at t i) ≡ false → Told (pick (looks mode (size_at t i) from len) 19 0) (mode_steps mode (start a t) i from len))

  allocate-says : (keep : Bool) → Says (Allocate keep)
  allocate-says true = (λ _. went refl, λ _. went refl)
  allocate-says false = (λ y. grow-told i (from + len) s 0 y ends refl, λ e. grow-missing i (from + len) s e)

  punch-there : there a f ≡ true → Told (says_on PunchHoleKeepSize a f size from len) (punch_steps s i from len)
  unfolding punch_steps zero_steps
  punch-there y = ok-bind (ok-weaken (λ d T. T) (full-told a f low (high - low)) (zeros-take a f y low (high - low) (omega arith))) λ d T. went (took-told T)

  punch-missing : there a f ≡ false → Told (pick (looks PunchHoleKeepSize size from len) 19 0) (punch_steps s i from len)
  unfolding punch_steps zero_steps
  punch-missing e = go (ltb low high) refl
    where
      go : (b : Bool) → ltb low high ≡ b → Told (pick b 19 0) (bind (write_zeros a (file_at t i) low (high - low)) (λ d. done (with_arena (start a t) d)))
      go true q = told-stuck (rw (zeros-missing a f e low (high - low) (omega (arith, ltb-true low high q))) refl)
      go false q = rw (no-zeros a f low (high - low) (omega (arith, ltb-false low high q))) (went refl)

  zero-there : there a f ≡ true → Told (ByRoom a f from len) (zero_range_steps s i from len)
  unfolding zero_range_steps zero_steps
  zero-there y =
      ok-bind {P = λ (x : Fs). (x.table ≡ t) × TookBlocks a f from len x.arena}
      (ok-bind (ok-weaken (λ d T. T) (full-told a f from len) (zeros-take a f y from len ends)) λ d T. went (refl, T)) λ x Z.
      subst (λ (u : Table). Told (ByRoom a f from len) (grow_steps (record { arena = x.arena; table = u; meta = x.meta }) i (from + len))) (sym Z.0)
      (grow-told i (from + len) (record { arena = x.arena; table = t; meta = x.meta }) (ByRoom a f from len) Z.1.exists ends (took-told Z.1))

  zero-missing : there a f ≡ false → Told (pick (looks ZeroRange size from len) 19 0) (zero_range_steps s i from len)
  unfolding zero_range_steps zero_steps
  zero-missing e = go (ltb 0 len) refl
    where
      go : (b : Bool) → ltb 0 len ≡ b → Told (pick (b || ltb (size_at t i) (from + len)) 19 0)
          (bind (bind (write_zeros a (file_at t i) from len) (λ d. done (with_arena (start a t) d))) (λ x. grow_steps x i (from + len)))
      go true q = told-stuck (rw (zeros-missing a f e from len (ltb-true 0 len q)) refl)
      go false q = rw (no-zeros a f from len (omega (arith, ltb-false 0 len q))) (grow-missing i (from + len) s e)

  above : (b : Bool) (r : ℕ) → r ≡ pick b 19 17 → 0 < r
  above true r e = omega arith
  above false r e = omega arith

  -- what a collapse's copy says of a short file is a reason
  short-above : (src dst r : ℕ) → r ≡ short_says a f src dst → 0 < r
  short-above src dst r e = above (leb (lacking a f dst (128 * ((length_of a f - src) / 128))) (free_count a)) r e

  collapse-there : from + len < size → there a f ≡ true → Told (says_on CollapseRange a f size from len) (collapse_steps s i from len)
  unfolding collapse_steps
  collapse-there l y = go (eqb len 0) refl
    where
      empty : len ≡ 0 → (b : Bool) → leb (size_at t i) longest ≡ b → Told (pick b 0 17) (resize_steps (start a t) i (size_at t i - len))
      empty z true q = goes i (size - len) s 0 y (omega (arith, leb-true size longest q)) refl
      empty z false q = told-full (cut-far i (size - len) s y (omega (arith, leb-false size longest q)))

      copies : (b : Bool) → leb (size_at t i) (length_of a (file_at t i)) ≡ b
          → Told (pick b (ByRoom a (file_at t i) from after-it) (short_says a (file_at t i) (from + len) from))
          (bind (copy_down a (file_at t i) (from + len) from after-it) (λ d. resize_steps (with_arena (start a t) d) i (size_at t i - len)))
      copies true m =
          let z : size_at t i ≤ length_of a (file_at t i) = leb-true size (length_of a f) m in
          let k : length_of a (file_at t i) ≤ longest = length-fits a f bytes-a in
          ok-bind (ok-weaken (λ d T. T) (full-told a f from after-it) (down-take a f y (from + len) from after-it (omega arith) (omega arith))) λ d T.
          goes i (size - len) (with_arena s d) (ByRoom a f from after-it) T.exists (omega arith) (took-told T)
      copies false m =
          ok-bind (ok-weaken {Q = λ _. ⊥} (λ d never. never) (λ r e. (e, short-above (from + len) from r e))
          (short-says a f (from + len) from after-it bytes-a y (omega arith) (omega arith) (omega (arith, leb-false size (length_of a f) m)))) λ d never. absurd never

      go : (k : Bool) → eqb len 0 ≡ k
          → Told (pick k (pick (leb (size_at t i) longest) 0 17) (pick (leb (size_at t i) (length_of a (file_at t i))) (ByRoom a (file_at t i) from after-it) (short_says a (file_at t i) (from + len) from)))
          (bind (pick k (done a) (copy_down a (file_at t i) (from + len) from after-it)) (λ d. resize_steps (with_arena (start a t) d) i (size_at t i - len)))
      go true q = empty (eqb-true len 0 q) (leb size longest) refl
      go false q = copies (leb size (length_of a f)) refl

  collapse-missing : from + len < size → there a f ≡ false → Told 19 (collapse_steps s i from len)
  unfolding collapse_steps
  collapse-missing l e = go (eqb len 0)
    where
      go : (k : Bool) → Told 19 (bind (pick k (done a) (copy_down a (file_at t i) (from + len) from (size_at t i - (from + len)))) (λ d. resize_steps (with_arena (start a t) d) i (size_at t i - len)))
      go true = told-stuck (cut-missing i (size - len) s e)
      go false = told-stuck (rw (down-missing a f e (from + len) from (size - (from + len)) (omega arith)) refl)

  -- an insert's zeros, and the new length
  abbrev tail : Fs → Out Fs
  tail x = bind (bind (write_zeros x.arena (node_file (rec_at x i)) from len) (λ d. done (with_arena x d))) (λ y. resize_steps y i ((rec_at y i).size + len))

  insert-there : from < size → size + len ≤ longest → there a f ≡ true → Told (says_on InsertRange a f size from len) (insert_steps s i from len)
  unfolding insert_steps zero_steps ShortUp
  insert-there l range y = go (eqb len 0) refl
    where
      empty : len ≡ 0 → Told 0 (tail (start a t))
      empty z = rw (no-zeros a f from len z) (goes i (size + len) s 0 y range refl)

      copies : (b : Bool) → leb (size_at t i) (length_of a (file_at t i)) ≡ b
          → Told (pick b (ByRoom a (file_at t i) from (len + from-it)) 19) (bind (copy_up a (file_at t i) from (from + len) from-it) (λ d. tail (with_arena (start a t) d)))
      copies true m =
          let z : size_at t i ≤ length_of a (file_at t i) = leb-true size (length_of a f) m in
          ok-bind (ok-weaken (λ d Z. Z) (full-told a f from (len + from-it)) (insert-take a f from len from-it y (omega arith) (omega arith))) λ d Z.
          ok-bind {P = λ (x : Fs). (x.table ≡ t) × TookBlocks a f from (len + from-it) x.arena} (ok-bind (ok-weaken (λ e T. T) (full-told a f from (len + from-it)) Z) λ e T. went (refl, T)) λ x X.
          subst (λ (u : Table). Told (ByRoom a f from (len + from-it)) (resize_steps (record { arena = x.arena; table = u; meta = x.meta }) i ((row_at u i).rec.size + len))) (sym X.0)
          (goes i (size + len) (record { arena = x.arena; table = t; meta = x.meta }) (ByRoom a f from (len + from-it)) X.1.exists range (took-told X.1))
      copies false m = told-stuck (rw (short-up a f from (from + len) from-it y (omega arith) (omega (arith, leb-false size (length_of a f) m))) refl)

      go : (k : Bool) → eqb len 0 ≡ k
          → Told (pick k 0 (pick (leb (size_at t i) (length_of a (file_at t i))) (ByRoom a (file_at t i) from (len + from-it)) 19))
          (bind (pick k (done a) (copy_up a (file_at t i) from (from + len) from-it)) (λ d. tail (with_arena (start a t) d)))
      go true q = empty (eqb-true len 0 q)
      go false q = copies (leb size (length_of a f)) refl

  insert-missing : from < size → there a f ≡ false → Told 19 (insert_steps s i from len)
  unfolding insert_steps zero_steps
  insert-missing l e = go (eqb len 0) refl
    where
      go : (k : Bool) → eqb len 0 ≡ k → Told 19 (bind (pick k (done a) (copy_up a (file_at t i) from (from + len) (size_at t i - from))) (λ d. tail (with_arena (start a t) d)))
      go true q = told-stuck (rw (no-zeros a f from len (eqb-true len 0 q)) (cut-missing i (size + len) s e))
      go false q = told-stuck (rw (up-missing a f e from (from + len) (size - from) (omega arith)) refl)

  -- ---- the call

  mode-says : (mode : FallocateMode) → fits_mode mode size from len ≡ done tt → Says mode
  mode-says (Allocate keep) fit = allocate-says keep
  mode-says PunchHoleKeepSize fit = (punch-there, punch-missing)
  mode-says ZeroRangeKeepSize fit = (punch-there, punch-missing)
  mode-says ZeroRange fit = (zero-there, zero-missing)
  mode-says CollapseRange fit = let l = collapse-ends size from len fit in (collapse-there l, collapse-missing l)
  mode-says InsertRange fit = let l = insert-starts size from len fit in (insert-there l (collapse-fits size from len fit).1, insert-missing l)
  mode-says Unknown fit = absurd (let z : ◌≡◌ {A = ℕ} 0 1 = cc in omega arith)

  steps-told : (mode : FallocateMode) → fits_mode mode size from len ≡ done tt → Told (whole a t i mode from len) (mode_steps mode s i from len)
  steps-told mode fit = go (there a f) refl
    where
      go : (b : Bool) → there a (file_at t i) ≡ b → Told (pick b (says_on mode a f size from len) (pick (looks mode size from len) 19 0)) (mode_steps mode s i from len)
      go true y = (mode-says mode fit).0 y
      go false n = (mode-says mode fit).1 n

-- the call, where its questions are answered so
call_by : (a : List ℕ) (t : Table) (w : ℕ) (h : Handle) (mode : FallocateMode) (from len : ℕ) (o : Out ℕ) → questions a t w h mode from len ≡ o
    → call_fallocate a t w h mode from len ≡ bind o (λ i. bind (mode_steps mode (start a t) i from len) (λ s. done (after s)))
call_by a t w h mode from len o e = call-is a t w h mode from len ∙ ap (λ (q : Out ℕ). bind q (λ i. bind (mode_steps mode (start a t) i from len) (λ s. done (after s)))) e

call-told : (a : List ℕ) (t : Table) (w : ℕ) (h : Handle) (mode : FallocateMode) (from len i : ℕ) → Bytes a → questions a t w h mode from len ≡ done i
    → Told (whole a t i mode from len) (call_fallocate a t w h mode from len)
call-told a t w h mode from len i b e =
    let Q = ok-done (subst (Ok _ Any) e (asked-law a t w h mode from len)) in
    subst (Told (whole a t i mode from len)) (sym (call_by a t w h mode from len (done i) e)) (ok-bind (steps-told a t i from len b Q.1 mode Q.2) λ s z. went z)

pub fallocate-says : FallocateSays
unfolding FallocateSays
fallocate-says a t w h mode from len i b e = told-answer (whole a t i mode from len) (call-told a t w h mode from len i b e)

pub asks-first : AsksFirst
unfolding AsksFirst
asks-first a t w h mode from len r e = call_by a t w h mode from len (refused r) e

-- ---- a file that is as long as its size

-- the number is that of the blocks alone
says-wanted : (mode : FallocateMode) (a : List ℕ) (f : File) (size from len : ℕ) → length_of a f ≡ size → size ≤ longest
    → says_on mode a f size from len ≡ pick (leb (blocks_wanted mode a f size from len) (free_count a)) 0 17
says-wanted (Allocate keep) a f size from len e l = rw (le-leb 0 (free_count a) (omega arith)) refl
says-wanted PunchHoleKeepSize a f size from len e l = refl
says-wanted ZeroRangeKeepSize a f size from len e l = refl
says-wanted ZeroRange a f size from len e l = refl
says-wanted CollapseRange a f size from len e l = rw (le-leb size (length_of a f) (omega arith), le-leb size longest l) (go (eqb len 0))
  where
    go : (k : Bool) → pick k 0 (ByRoom a f from (size - (from + len))) ≡ pick (leb (pick k 0 (lacking a f from (size - (from + len)))) (free_count a)) 0 17
    go true = rw (le-leb 0 (free_count a) (omega arith)) refl
    go false = refl
says-wanted InsertRange a f size from len e l = rw (le-leb size (length_of a f) (omega arith)) (go (eqb len 0))
  where
    go : (k : Bool) → pick k 0 (ByRoom a f from (len + (size - from))) ≡ pick (leb (pick k 0 (lacking a f from (len + (size - from)))) (free_count a)) 0 17
    go true = rw (le-leb 0 (free_count a) (omega arith)) refl
    go false = refl
says-wanted Unknown a f size from len e l = rw (le-leb 0 (free_count a) (omega arith)) refl

by_blocks : {A : Type 0} (n free : ℕ) (o : Out A) → Told (pick (leb n free) 0 17) o → Ok (λ _. n ≤ free) (λ r. (r ≡ 17) × (free < n)) o
by_blocks n free o T = go (leb n free) refl T
  where
    go : (b : Bool) → leb n free ≡ b → Told (pick b 0 17) o → Ok (λ _. n ≤ free) (λ r. (r ≡ 17) × (free < n)) o
    go true q T = ok-weaken (λ _ _. leb-true n free q) (λ r z. absurd (omega (arith, z.0, z.1))) T
    go false q T = ok-weaken (λ _ z. absurd (let y : 0 ≡ 17 = z in omega arith)) (λ r z. (z.0, leb-false n free q)) T

pub blocks-decide : BlocksDecide
unfolding BlocksDecide
blocks-decide a t w h mode from len i b e y long =
    let n : ℕ = blocks_wanted mode a (file_at t i) (size_at t i) from len in
    let v : whole a t i mode from len ≡ pick (leb (blocks_wanted mode a (file_at t i) (size_at t i) from len) (free_count a)) 0 17 =
    rw y (says-wanted mode a (file_at t i) (size_at t i) from len long (omega (arith, long, length-fits a (file_at t i) b))) in
    by_blocks n (free_count a) (call_fallocate a t w h mode from len) (subst (λ (k : ℕ). Told k (call_fallocate a t w h mode from len)) v (call-told a t w h mode from len i b e))
