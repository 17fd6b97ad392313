-- Bytes that are stored block by block, rising: zeros, and bytes that move towards the start.
use mathlib.Core.Path.{◌≡◌, refl, sym, ap, ap₂, ◌∙◌, subst}
use mathlib.Core.Bool.{true}
use mathlib.Core.List.{List}
use Prim.Native.Nat.{ℕ, zero, suc, ◌+◌, ◌*◌, ◌-◌, ◌/◌, ◌%◌, ◌≤◌, ◌<◌}
use native.Mathlib.Omega.{arith}
use lib.ListN.{length, take, get_or, replicate, length-replicate}
use lib.Dec.{ltb}
use lib.Seq.{ext_get_or}
use borrow.Author.Tests.{le-ltb, ltb-true}
use Rattle.base.specs.Out.{done}
use Rattle.base.specs.Parts.{part, tab}
use Rattle.base.specs.Search.{pick}
use Rattle.base.proofs.Lists.{length_part, get_d_part, length-tab, get_or-tab, tab-cong, tab-zeros}
use Rattle.base.proofs.Outs.{bind-is-done}
use Rattle.le.specs.Le.{le_put}
use Rattle.arena.specs.Blocks.{blk, put_blk, blocks}
use Rattle.arena.specs.Fields.{File, number_of, seal}
use Rattle.arena.specs.Places.{free_of, head_of}
use Rattle.files.specs.Read.{there, length_of, byte_at}
use Rattle.files.specs.Store.{longest, write_blk, raise, lo, hi, put_block, put_to, touched, put_file}
use Rattle.files_laws.proofs.Put.{touched-is, put-upto, put_next, put-starts}
use Rattle.files_laws.proofs.Views.{byte-in}
use Rattle.pieces.specs.Counts.{ZerosPut, DownPut}
use Rattle.pieces.specs.Pieces.{zeros_to, write_zeros, copy_down}
use Rattle.pieces.proofs.Runs.{zeros-put, down-put}
use Rattle.chains.specs.Led.{block_at}
use Rattle.plans.specs.Plan.{Planned, byte_by, InArena}
use Rattle.plans.proofs.Planned.{plan-holds, plan-room, put_first}
use Rattle.plans.proofs.Puts.{put-turn, put_whole}
use Rattle.range_stores.specs.Moves.{Movable, Readable}
use Rattle.range_stores.proofs.Sources.{readable_of, source-long, source-covers, source_in, read-later}

-- ---- parts of a run

-- the bytes from one up to another
tab-part : (f : ℕ → ℕ) (s n x y : ℕ) → x ≤ y → y ≤ n → part (tab f s n) x y ≡ tab f (s + x) (y - x)
tab-part f s n x y g l =
    let size : length (part (tab f s n) x y) ≡ y - x = length_part (tab f s n) x y g (omega (arith, length-tab f s n)) in
    ext_get_or 0 (part (tab f s n) x y) (tab f (s + x) (y - x)) (size ∙ sym (length-tab f (s + x) (y - x))) (λ i h.
    get_d_part (tab f s n) x y i (omega arith)
    ∙ get_or-tab f s n (x + i) (omega arith)
    ∙ ap f (let e : s + (x + i) ≡ s + x + i = omega arith in e)
    ∙ sym (get_or-tab f (s + x) (y - x) i (omega arith)))

zeros-part : (n x y : ℕ) → x ≤ y → y ≤ n → part (replicate n 0) x y ≡ replicate (y - x) 0
zeros-part n x y g l = ap (λ (b : List ℕ). part b x y) (sym (tab-zeros 0 n)) ∙ tab-part (λ _. 0) 0 n x y g l ∙ tab-zeros (0 + x) (y - x)

zeros-take : (n m : ℕ) → m ≤ n → take {A = ℕ} m (replicate n 0) ≡ replicate m 0
zeros-take n m l =
    let e : m ≡ m - 0 = omega arith in
    ap (λ (i : ℕ). take {A = ℕ} i (replicate n 0)) e ∙ zeros-part n 0 m (omega arith) l ∙ ap (λ (i : ℕ). replicate {A = ℕ} i 0) (sym e)

-- the part of a block that is covered: both ends lie in the run
within : (pos n q : ℕ) → pos ≤ 480 * q + 480 → 480 * q ≤ pos + n
    → (lo pos q ≤ hi pos n q) × ((hi pos n q - pos ≤ n) × (hi pos n q - pos - (lo pos q - pos) ≡ hi pos n q - lo pos q))
within pos n q a b = (omega arith, (omega arith, omega arith))

-- the same, as the code has the ends
spans : (dst n q s e : ℕ) → dst ≤ 480 * q + 480 → 480 * q ≤ dst + n → s ≡ lo dst q → e ≡ hi dst n q
    → (dst ≤ s) × ((s ≤ e) × ((e ≤ dst + n) × ((480 * q ≤ s) × (e ≤ 480 * q + 480))))
spans dst n q s e low high is at = (omega arith, (omega arith, (omega arith, (omega arith, omega arith))))

fits_in : (src dst n q s e len k : ℕ) → src + n ≤ longest → dst + n ≤ longest → src + n ≤ 480 * (src / 480 + k)
    → dst ≤ s → s ≤ e → e ≤ dst + n → 480 * q ≤ s → e ≤ 480 * q + 480 → len ≡ e - s
    → ((src / 480 ≤ (src + (s - dst)) / 480) × ((src + (s - dst) + len ≤ longest) × (src + (s - dst) + len ≤ 480 * (src / 480 + k)))) × ((s - 480 * q + len ≤ 480) × (q < 4294967296))
fits_in src dst n q s e len k far range covers a b c d g size = ((omega arith, (omega arith, omega arith)), (omega arith, omega arith))

-- what is moved into one block: where it is read, and that it fits
pub part-fits : (src dst n q s e len k : ℕ) → src + n ≤ longest → dst + n ≤ longest → src + n ≤ 480 * (src / 480 + k)
    → dst ≤ 480 * q + 480 → 480 * q ≤ dst + n → s ≡ lo dst q → e ≡ hi dst n q → len ≡ e - s
    → ((src / 480 ≤ (src + (s - dst)) / 480) × ((src + (s - dst) + len ≤ longest) × (src + (s - dst) + len ≤ 480 * (src / 480 + k)))) × ((s - 480 * q + len ≤ 480) × (q < 4294967296))
part-fits src dst n q s e len k far range covers low high is at size =
    let w = spans dst n q s e low high is at in fits_in src dst n q s e len k far range covers w.0 w.1.0 w.1.1.0 w.1.1.1.0 w.1.1.1.1 size

-- bytes that were read are written
pub read-moves : (d : List ℕ) (f : File) (source : List ℕ) (first p q off k : ℕ) (r b : List ℕ) → r ≡ tab (byte_by d source first) p k → write_blk d f q off r ≡ done b
    → write_blk d f q off (tab (byte_by d source first) p k) ≡ done b
read-moves d f source first p q off k r b e h = ap (write_blk d f q off) (sym e) ∙ h

-- and from where to where, as the definitions have it
pub part-moves : (d : List ℕ) (f : File) (source : List ℕ) (src dst n q s e len : ℕ) (b : List ℕ) → s ≡ lo dst q → e ≡ hi dst n q → len ≡ e - s
    → write_blk d f q (s - 480 * q) (tab (byte_by d source (src / 480)) (src + (s - dst)) len) ≡ done b
    → write_blk d f q (lo dst q - 480 * q) (tab (byte_by d source (src / 480)) (src + (lo dst q - dst)) (hi dst n q - lo dst q)) ≡ done b
part-moves d f source src dst n q s e len b is at size h =
    ap₂ (λ (i m : ℕ). write_blk d f q (i - 480 * q) (tab (byte_by d source (src / 480)) (src + (i - dst)) m)) (sym is) (ap₂ (λ (x y : ℕ). x - y) (sym at) (sym is) ∙ sym size) ∙ h

zeros-cut : (pos n q : ℕ) → pos ≤ 480 * q + 480 → 480 * q ≤ pos + n
    → part (replicate n 0) (lo pos q - pos) (hi pos (length {A = ℕ} (replicate n 0)) q - pos) ≡ take (hi pos n q - lo pos q) (replicate 480 0)
zeros-cut pos n q low high =
    let w = within pos n q low high in
    ap (λ (m : ℕ). part (replicate n 0) (lo pos q - pos) (hi pos m q - pos)) (length-replicate {A = ℕ} n 0)
    ∙ zeros-part n (lo pos q - pos) (hi pos n q - pos) (omega arith) w.1.0
    ∙ ap (λ (m : ℕ). replicate {A = ℕ} m 0) w.1.1
    ∙ sym (zeros-take 480 (hi pos n q - lo pos q) (omega arith))

-- those of n zeros that fall into a block, as the code cuts them from 480
pub zeros-block : (d : List ℕ) (f : File) (pos n q s e : ℕ) (b : List ℕ) → pos ≤ 480 * q + 480 → 480 * q ≤ pos + n → s ≡ lo pos q → e ≡ hi pos n q
    → write_blk d f q (s - 480 * q) (take (e - s) (replicate 480 0)) ≡ done b → put_block d f pos (replicate n 0) q ≡ done b
unfolding put_block
zeros-block d f pos n q s e b low high is at h =
    ap₂ (λ (i : ℕ) (l : List ℕ). write_blk d f q i l) (ap (λ (i : ℕ). i - 480 * q) (sym is))
    (zeros-cut pos n q low high ∙ ap₂ (λ (x y : ℕ). take {A = ℕ} (y - x) (replicate 480 0)) (sym is) (sym at)) ∙ h

-- none are written
pub zero-zeros : (a : List ℕ) (f : File) (pos n : ℕ) → n ≡ 0 → write_zeros a f pos n ≡ done a
unfolding write_zeros zeros_to
zero-zeros a f pos n e = ap (write_zeros a f pos) e

-- ---- block by block, by the plan

module _ (a : List ℕ) (f : File) (pos n : ℕ) (l : List ℕ) (size : length l ≡ n) (was : there a f ≡ true) (range : pos + n ≤ longest) (plan : List ℕ) (P : Planned a f pos n plan) where
  planned : Planned a f pos (length l) plan
  planned = subst (λ (m : ℕ). Planned a f pos m plan) (sym size) P

  touched-l : (i : ℕ) → i < touched pos n → i < touched pos (length l)
  touched-l i t = subst (λ (m : ℕ). i < touched pos m) (sym size) t

  module _ (i : ℕ) (d : List ℕ) (t : i < touched pos n) (e : put_to a f pos l i ≡ done d) where
    -- the plan holds for the next block, and there is a free one where it has to be made
    pub run_holds : (c : ℕ) → c ≡ get_or plan i 0 → (c ≡ block_at d f (pos / 480 + i)) × (c ≡ 0 → free_of d < blocks d)
    run_holds c h = (plan-holds a f pos l was (omega arith) plan planned i d (touched-l i t) e c h, plan-room a f pos l was (omega arith) plan planned i d (touched-l i t) e c h)

    -- one block more
    pub run-turn : (b : List ℕ) (from : ℕ) → put_block d f pos l (pos / 480 + i) ≡ done b → from ≤ free_of d → (put_to a f pos l (i + 1) ≡ done b) × (from ≤ free_of b)
    run-turn = put-turn a f pos l was (omega arith) i d (touched-l i t) e

  -- all of them
  pub run-whole : (i : ℕ) (d : List ℕ) → i ≡ touched pos n → put_to a f pos l i ≡ done d → put_file a f pos l ≡ done d
  run-whole i d h e = put_whole a f pos l was (omega arith) i d (h ∙ ap (touched pos) (sym size)) e

-- n zeros: the length is raised first
pub zeros-first : (a : List ℕ) (f : File) (pos n k : ℕ) (d : List ℕ) → there a f ≡ true → k ≡ head_of a f
    → d ≡ pick (ltb (number_of (blk a k)) (pos + n)) (put_blk a k (seal (le_put (blk a k) 20 4 (pos + n)))) a → put_to a f pos (replicate n 0) 0 ≡ done d
zeros-first a f pos n k d was at e =
    put_first a f pos (replicate n 0) k d was at
    (subst (λ (m : ℕ). d ≡ pick (ltb (number_of (blk a k)) (pos + m)) (put_blk a k (seal (le_put (blk a k) 20 4 (pos + m)))) a) (sym (length-replicate {A = ℕ} n 0)) e)

-- and all blocks are n zeros in pieces
pub zeros-whole : (a : List ℕ) (f : File) (pos n : ℕ) (plan : List ℕ) → there a f ≡ true → pos + n ≤ longest → (n ≡ 0 → ⊥) → Planned a f pos n plan
    → (i : ℕ) (d : List ℕ) → i ≡ touched pos n → put_to a f pos (replicate n 0) i ≡ done d → write_zeros a f pos n ≡ done d
unfolding ZerosPut
zeros-whole a f pos n plan was range some P i d h e =
    zeros-put a f pos n range (omega arith) ∙ run-whole a f pos n (replicate n 0) (length-replicate {A = ℕ} n 0) was range plan P i d h e

-- ---- towards the start

-- a length that suffices is not raised
pub raise-none : (a : List ℕ) (f : File) (len : ℕ) → len ≤ length_of a f → raise a f len ≡ a
unfolding raise
raise-none a f len g = rw (le-ltb (length_of a f) len g)

module _ (a : List ℕ) (f : File) (pos : ℕ) (l : List ℕ) (was : there a f ≡ true) (range : pos + length l ≤ longest) (long : pos + length l ≤ length_of a f) where
  -- blocks that are still to come have the bytes that they had
  ahead : (i : ℕ) (d : List ℕ) → i ≤ touched pos (length l) → put_to a f pos l i ≡ done d → (p : ℕ) → pos / 480 + i ≤ p / 480 → byte_at d f p ≡ byte_at a f p
  unfolding put_to
  ahead zero d t e p g = ap (λ (x : List ℕ). byte_at x f p) (let z : d ≡ a = cc (raise-none a f (pos + length l) long) in z)
  ahead (suc i) d t e p g =
      let B = bind-is-done (put_to a f pos l i) (λ c. put_block c f pos l (pos / 480 + i)) d e in
      let W = put_next a f pos l was range i B.0 d t B.1 B.2 in
      byte-in d f p ∙ W.apart (p / 480) (p % 480) (λ z. omega arith) (omega arith) ∙ sym (byte-in B.0 f p) ∙ ahead i B.0 (omega arith) B.1 p (omega arith)

-- the bytes from src on, as they are before any store; k places of them are lent
module _ {a : List ℕ} {f : File} {h src dst n : ℕ} {plan source : List ℕ} (M : Movable a f h src dst n plan source) (down : dst ≤ src) {k : ℕ} (is : k ≡ touched src n) where
  abbrev moved : List ℕ
  moved = tab (byte_at a f) src n

  size : length moved ≡ n
  size = length-tab (byte_at a f) src n

  R : Readable a f src n source
  R = readable_of a a f src n source M.read (λ q y. (y, refl)) (λ p. refl)

  -- no length is raised
  pub down-starts : put_to a f dst moved 0 ≡ done a
  down-starts = put-starts a f dst moved ∙ ap done (raise-none a f (dst + length moved) (omega (arith, size, M.long)))

  -- the places that are lent: as many as are read, for all the bytes, and in the arena
  pub down-long : length (take k source) ≡ k
  down-long = source-long R is

  pub down-covers : src + n ≤ 480 * (src / 480 + length (take k source))
  down-covers = source-covers R is M.some

  pub down-in : (d : List ℕ) → length d ≡ length a → InArena d (take k source)
  down-in = source_in R is

  module _ (i : ℕ) (d : List ℕ) (t : i < touched dst n) (e : put_to a f dst moved i ≡ done d) where
    -- where the next block is, and that there is a free one where it has to be made
    pub down-found : (c : ℕ) → c ≡ get_or plan i 0 → (c ≡ block_at d f (dst / 480 + i)) × (c ≡ 0 → free_of d < blocks d)
    down-found = run_holds a f dst n moved size M.exists M.range plan M.plan i d t e

    in-run : i < touched dst (length moved)
    in-run = subst (λ (m : ℕ). i < touched dst m) (sym size) t

    meets : lo dst (dst / 480 + i) < hi dst n (dst / 480 + i)
    meets = ltb-true (lo dst (dst / 480 + i)) (hi dst n (dst / 480 + i)) (touched-is dst n i t)

    -- a byte that is read now is the one that was there
    still : (p : ℕ) → 480 * (dst / 480 + i) ≤ p → src ≤ p → p < src + n → byte_by d (take k source) (src / 480) p ≡ byte_at a f p
    still p low g l =
        let U = put-upto a f dst moved M.exists (omega (arith, size, M.range)) i d (omega (arith, in-run)) e in
        read-later R is d p g l
        (λ y. (U.rest (p / 480) (λ _. omega arith) ∙ y, U.place (p / 480) (λ _. omega arith)))
        (ahead a f dst moved M.exists (omega (arith, size, M.range)) (omega (arith, size, M.long)) i d (omega (arith, in-run)) e p (omega arith))

    block-moves : (b : List ℕ)
        → write_blk d f (dst / 480 + i) (lo dst (dst / 480 + i) - 480 * (dst / 480 + i))
        (tab (byte_by d (take k source) (src / 480)) (src + (lo dst (dst / 480 + i) - dst)) (hi dst n (dst / 480 + i) - lo dst (dst / 480 + i))) ≡ done b
        → put_block d f dst moved (dst / 480 + i) ≡ done b
    unfolding put_block
    block-moves b g =
        let w = within dst n (dst / 480 + i) (omega (arith, meets)) (omega (arith, meets)) in
        ap (write_blk d f (dst / 480 + i) (lo dst (dst / 480 + i) - 480 * (dst / 480 + i)))
        (ap (λ (m : ℕ). part moved (lo dst (dst / 480 + i) - dst) (hi dst m (dst / 480 + i) - dst)) size
        ∙ tab-part (byte_at a f) src n (lo dst (dst / 480 + i) - dst) (hi dst n (dst / 480 + i) - dst) (omega (arith, meets)) w.1.0
        ∙ ap (tab (byte_at a f) (src + (lo dst (dst / 480 + i) - dst))) w.1.1
        ∙ sym (tab-cong (byte_by d (take k source) (src / 480)) (byte_at a f) (src + (lo dst (dst / 480 + i) - dst)) (src + (lo dst (dst / 480 + i) - dst))
        (hi dst n (dst / 480 + i) - lo dst (dst / 480 + i)) (λ j m.
        still (src + (lo dst (dst / 480 + i) - dst) + j) (omega arith) (omega arith) (omega (arith, meets)))))
        ∙ g

    -- one block more
    pub down_turn : (b : List ℕ) (from : ℕ)
        → write_blk d f (dst / 480 + i) (lo dst (dst / 480 + i) - 480 * (dst / 480 + i))
        (tab (byte_by d (take k source) (src / 480)) (src + (lo dst (dst / 480 + i) - dst)) (hi dst n (dst / 480 + i) - lo dst (dst / 480 + i))) ≡ done b
        → from ≤ free_of d → (put_to a f dst moved (i + 1) ≡ done b) × (from ≤ free_of b)
    down_turn b from g l = run-turn a f dst n moved size M.exists M.range plan M.plan i d t e b from (block-moves b g) l

  -- all of them are the copy
  pub down-whole : (i : ℕ) (d : List ℕ) → i ≡ touched dst n → put_to a f dst moved i ≡ done d → copy_down a f src dst n ≡ done d
  unfolding DownPut
  down-whole i d g e =
      down-put a f src dst n M.exists down M.some M.range M.long ∙ run-whole a f dst n moved size M.exists M.range plan M.plan i d g e
