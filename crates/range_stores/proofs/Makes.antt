-- Blocks that are made of zeros before bytes move up, and the plan that is kept up to date.
use mathlib.Core.Path.{◌≡◌, refl, sym, ap, ap₂, ◌∙◌, subst}
use mathlib.Core.Bool.{Bool, true}
use mathlib.Core.List.{List, []}
use mathlib.Core.Logic.{⊎_elim}
use Prim.Native.Nat.{ℕ, zero, suc, ◌+◌, ◌*◌, ◌-◌, ◌/◌, ◌≤◌, ◌<◌}
use native.Mathlib.Nat.{eq-or-lt_of_le, le_of_suc-le-suc}
use native.Mathlib.Numerals.{add-one}
use native.Mathlib.Decide.{ℕ_discrete}
use native.Mathlib.Omega.{arith}
use lib.ListN.{length, get_or, set}
use lib.Seq.{get_or-set_same, get_or-set_other, set-get_or}
use borrow.Author.Tests.{lt-ltb}
use Rattle.base.specs.Out.{Out, done, bind}
use Rattle.base.specs.Parts.{paste}
use Rattle.base.specs.Search.{pick}
use Rattle.base.proofs.Lists.{paste-own}
use Rattle.base.proofs.Outs.{bind-is-done}
use Rattle.arena.specs.Blocks.{put_blk, blocks}
use Rattle.arena.specs.Fields.{File, seal, fresh}
use Rattle.arena.specs.Places.{free_of}
use Rattle.arena.proofs.Fresh.{length-fresh}
use Rattle.files.specs.Read.{there, length_of}
use Rattle.files.specs.Store.{longest, claim, raise, touched}
use Rattle.files_laws.proofs.Steps.{name-size}
use Rattle.pieces.specs.Made.{made_blk, made_piece, made_to}
use Rattle.pieces.specs.Pieces.{pieces, piece_len, falling}
use Rattle.pieces.proofs.Fronts.{made_again}
use Rattle.pieces.proofs.Pieces.{piece-in}
use Rattle.pieces.proofs.Ups.{made-wrote, made-finds, made_at}
use Rattle.chains.specs.Led.{block_at}
use Rattle.plans.specs.Plan.{Places}
use Rattle.plans.proofs.Plans.{touched-some, block-there, block-gone}
use Rattle.range_stores.specs.Moves.{IsDone, UpToDate, PieceMakable}
use Rattle.range_stores.proofs.Runs.{raise-none}

-- ---- one block

module _ (a : List ℕ) (f : File) (q : ℕ) (plan : List ℕ) (i : ℕ) (is : get_or plan i 0 ≡ block_at a f q) where
  -- it is there: nothing changes
  pub make-old : 0 < get_or plan i 0 → (made_blk a f q ≡ done a) × (plan ≡ set plan i (block_at a f q))
  make-old l = (made_again a f q (block-there a f q (get_or plan i 0) is l).0, sym (ap (set plan i) (sym is) ∙ set-get_or plan i 0))

  -- the lowest free block becomes it, and its place is noted
  pub make-new : there a f ≡ true → q < 4294967296 → get_or plan i 0 ≡ 0 → (k : ℕ) → k ≡ free_of a → k < blocks a → (d none : List ℕ) → none ≡ []
      → d ≡ put_blk a k (seal (paste (fresh 2 f q) (24 + 0) none)) → (made_blk a f q ≡ done d) × ((k ≤ free_of d) × (set plan i (k + 1) ≡ set plan i (block_at d f q)))
  unfolding made_blk claim
  make-new was small z k free l d none e h =
      let size : length (fresh 2 f q) ≡ 512 = length-fresh 2 f q (name-size a f was) in
      let gone = block-gone a f q (get_or plan i 0) is z in
      let same : d ≡ put_blk a (free_of a) (seal (fresh 2 f q)) =
      h ∙ ap₂ (λ (j : ℕ) (b : List ℕ). put_blk a j (seal b)) free (ap (paste (fresh 2 f q) 24) e ∙ paste-own (fresh 2 f q) 24 24 (omega arith) (omega arith)) in
      let m : made_blk a f q ≡ done d = rw (gone, lt-ltb (free_of a) (blocks a) (omega arith)) (ap done (sym same)) in
      let W = made-wrote a f q was small d m in
      let at : block_at d f q ≡ suc k = ap₂ (λ (t : Bool) (j : ℕ). pick t (suc j) 0) W.here (made_at a f q was small d m gone ∙ sym free) in
      (m, (omega (arith, W.used), ap (set plan i) (let x : k + 1 ≡ block_at d f q = omega arith in x)))

-- a plan that begins with block `first`
noted : (a d : List ℕ) (f : File) (q first : ℕ) (plan : List ℕ) → there a f ≡ true → q < 4294967296 → made_blk a f q ≡ done d → first ≤ q → q - first < length plan
    → UpToDate a d f first plan (set plan (q - first) (block_at d f q))
noted a d f q first plan was small e low high i h =
    let W = made-wrote a f q was small d e in
    elim (ℕ_discrete i (q - first)) [
      | yes x ↦
          ap (λ (j : ℕ). get_or (set plan (q - first) (block_at d f q)) j 0) x
          ∙ get_or-set_same plan (q - first) (block_at d f q) 0 high
          ∙ ap (block_at d f) (let y : q ≡ first + i = omega arith in y)
      | no x ↦
          let y : (first + i ≡ q → ⊥) = (λ z. x (omega arith)) in
          get_or-set_other plan (q - first) i (block_at d f q) 0 x ∙ h ∙ ap₂ (λ (t : Bool) (k : ℕ). pick t (suc k) 0) (sym (W.rest (first + i) y)) (sym (W.place (first + i) y))
    ]

-- ---- a piece

module _ {a : List ℕ} {f : File} {pos n first from : ℕ} {plan : List ℕ} (P : PieceMakable a f pos n first from plan) where
  abbrev z : ℕ
  z = (pos + n - 1) / 480

  two : (d : List ℕ) × (made_blk a f (pos / 480) ≡ done d) × (made_blk d f z ≡ done P.goes.0)
  unfolding made_piece
  two = bind-is-done (made_blk a f (pos / 480)) (λ d. made_blk d f z) P.goes.0 P.goes.1

  -- an absent block finds a free one: its first
  pub piece-room : block_at a f (pos / 480) ≡ 0 → free_of a < blocks a
  piece-room e = made-finds a f (pos / 480) two.0 two.1 (block-gone a f (pos / 480) 0 (sym e) refl)

  -- once its first block is made
  module _ {d : List ℕ} (e : made_blk a f (pos / 480) ≡ done d) {now : List ℕ} (h : now ≡ set plan (pos / 480 - first) (block_at d f (pos / 480))) where
    -- its file is there
    pub piece-there : there d f ≡ true
    piece-there = (made-wrote a f (pos / 480) P.exists (omega (arith, P.range)) d e).exists ∙ P.exists

    -- its last finds a free one too, and the plan has where it is
    pub piece-room-next : block_at d f z ≡ 0 → free_of d < blocks d
    piece-room-next g =
        let s : two.0 ≡ d = cc two.1 in
        made-finds d f z P.goes.0 (subst (λ (x : List ℕ). made_blk x f z ≡ done P.goes.0) s two.2) (block-gone d f z 0 (sym g) refl)

    first-noted : UpToDate a d f first plan now
    first-noted i x = ap (λ (l : List ℕ). get_or l i 0) h
        ∙ noted a d f (pos / 480) first plan P.exists (omega (arith, P.range)) e P.low (omega (arith, P.high, P.low, P.some)) i x

    pub piece-end : get_or now (z - first) 0 ≡ block_at d f z
    piece-end =
        let x : first + (z - first) ≡ z = omega (arith, P.low, P.some) in
        first-noted (z - first) (P.end ∙ ap (block_at a f) (sym x)) ∙ ap (block_at d f) x

    -- and then its second
    pub piece-made : {b : List ℕ} → made_blk d f z ≡ done b → {is : List ℕ} → is ≡ set now (z - first) (block_at b f z) → length now ≡ length plan
        → (made_piece a f pos n ≡ done b) × UpToDate a b f first plan is
    unfolding made_piece
    piece-made {b} m {is} s size = (
      rw e m,
      λ i x. ap (λ (l : List ℕ). get_or l i 0) s
          ∙ noted d b f z first now piece-there (omega (arith, P.range)) m (omega (arith, P.low, P.some)) (omega (arith, P.high, P.low, P.some)) i (first-noted i x),
    )

-- ---- all pieces

module _ (a : List ℕ) (f : File) (dst n : ℕ) where
  -- the length suffices
  pub made-starts : dst + n ≤ length_of a f → made_to a f dst n 0 ≡ done a
  unfolding made_to
  made-starts l = ap done (raise-none a f (dst + n) l)

  -- one piece more, where the code has it
  pub made_more : (k : ℕ) (d : List ℕ) (pos len : ℕ) (b : List ℕ) → pos ≡ dst + falling n k → len ≡ piece_len n k → made_to a f dst n k ≡ done d → made_piece d f pos len ≡ done b
      → made_to a f dst n (k + 1) ≡ done b
  unfolding made_to
  made_more k d pos len b at size e h = rw (add-one, e) (ap₂ (made_piece d f) (sym at) (sym size) ∙ h)

  -- with its length raised already
  pub made-raised : dst + n ≤ length_of (raise a f (dst + n)) f → (k : ℕ) → made_to (raise a f (dst + n)) f dst n k ≡ made_to a f dst n k
  unfolding made_to
  made-raised l zero = ap done (raise-none (raise a f (dst + n)) f (dst + n) l)
  made-raised l (suc k) = ap (λ (o : Out (List ℕ)). bind o (λ d. made_piece d f (dst + falling n k) (piece_len n k))) (made-raised l k)

  -- where all go, the first do
  before : (m k : ℕ) → k ≤ m → IsDone (made_to a f dst n m) → IsDone (made_to a f dst n k)
  unfolding made_to
  before zero k l g = subst (λ (i : ℕ). IsDone (made_to a f dst n i)) (let e : zero ≡ k = omega arith in e) g
  before (suc m) k l g =
      ⊎_elim
      (λ e. subst (λ (i : ℕ). IsDone (made_to a f dst n i)) (sym e) g)
      (λ h. let B = bind-is-done (made_to a f dst n m) (λ d. made_piece d f (dst + falling n m) (piece_len n m)) g.0 g.1 in before m k (le_of_suc-le-suc h) (B.0, B.1))
      (eq-or-lt_of_le l)

  -- so does the next piece
  pub piece-goes : IsDone (made_to a f dst n (pieces n)) → (k : ℕ) (d : List ℕ) → k < pieces n → made_to a f dst n k ≡ done d → IsDone (made_piece d f (dst + falling n k) (piece_len n k))
  unfolding made_to
  piece-goes g k d l e =
      let N = before (pieces n) (suc k) l g in
      (N.0, sym (ap (λ (o : Out (List ℕ)). bind o (λ x. made_piece x f (dst + falling n k) (piece_len n k))) e) ∙ N.1)

-- where a piece lies in the run
piece-lies : (dst n k pos len : ℕ) → 128 * k < n → pos ≡ dst + falling n k → len ≡ piece_len n k → (dst ≤ pos) × ((0 < len) × (pos + len ≤ dst + n))
piece-lies dst n k pos len w at size = (omega arith, (omega arith, omega arith))

-- its start and its length, as the code has them
pub piece-ends : (dst n k s : ℕ) → k < pieces n → s ≡ falling n k → (dst + s ≡ dst + falling n k) × (n - 128 * k - s ≡ piece_len n k)
piece-ends dst n k s l e = let w : 128 * k < n = piece-in n k l in (omega arith, omega arith)

-- a part of a run has its first and its last block among those that the run touches
part-touched : (dst n pos len : ℕ) → dst ≤ pos → 0 < len → pos + len ≤ dst + n
    → (dst / 480 + (pos / 480 - dst / 480) ≡ pos / 480) × ((pos / 480 - dst / 480 < touched dst n) × ((pos + len - 1) / 480 - dst / 480 < touched dst n))
part-touched dst n pos len low some end = let t = touched-some dst n (λ z. omega arith) in (omega arith, (omega arith, omega arith))

-- what a piece is given
module _ (d : List ℕ) (f : File) (dst n : ℕ) (plan : List ℕ) (most : blocks d ≤ 4096) (was : there d f ≡ true) (range : dst + n ≤ longest) (few : touched dst n ≤ length plan)
    (P : Places d f dst plan (touched dst n)) where
  part-makable : (pos len from : ℕ) → dst ≤ pos → 0 < len → pos + len ≤ dst + n → from ≤ free_of d → IsDone (made_piece d f pos len) → PieceMakable d f pos len (dst / 480) from plan
  part-makable pos len from low some end used goes =
      let t = part-touched dst n pos len low some end in
      let x : dst / 480 + ((pos + len - 1) / 480 - dst / 480) ≡ (pos + len - 1) / 480 = omega arith in
      record {
        most = most;
        exists = was;
        some = some;
        range = omega arith;
        low = omega arith;
        high = omega (arith, t.1.1);
        start = P (pos / 480 - dst / 480) t.1.0 ∙ ap (block_at d f) t.0;
        end = P ((pos + len - 1) / 480 - dst / 480) t.1.1 ∙ ap (block_at d f) x;
        used = used;
        goes = goes;
      }

  -- for piece k
  pub piece-makable : (k from pos len : ℕ) → pos ≡ dst + falling n k → len ≡ piece_len n k → from ≤ free_of d → k < pieces n → IsDone (made_piece d f (dst + falling n k) (piece_len n k))
      → PieceMakable d f pos len (dst / 480) from plan
  piece-makable k from pos len at size used l goes =
      let p = piece-lies dst n k pos len (piece-in n k l) at size in
      part-makable pos len from p.0 p.1.0 p.1.1 used
      (subst (λ (i : ℕ). IsDone (made_piece d f i len)) (sym at) (subst (λ (i : ℕ). IsDone (made_piece d f (dst + falling n k) i)) (sym size) goes))

-- a piece's file stays there
stays-there : (d : List ℕ) (f : File) (pos n : ℕ) (b : List ℕ) → there d f ≡ true → pos + n ≤ longest → made_piece d f pos n ≡ done b → there b f ≡ true
unfolding made_piece
stays-there d f pos n b was range e =
    let B = bind-is-done (made_blk d f (pos / 480)) (λ x. made_blk x f ((pos + n - 1) / 480)) b e in
    let W = made-wrote d f (pos / 480) was (omega arith) B.0 B.1 in
    (made-wrote B.0 f ((pos + n - 1) / 480) (W.exists ∙ was) (omega arith) b B.2).exists ∙ W.exists ∙ was

-- the same for piece k
pub piece-stays : (d : List ℕ) (f : File) (dst n k pos len : ℕ) (b : List ℕ) → there d f ≡ true → dst + n ≤ longest → k < pieces n → pos ≡ dst + falling n k → len ≡ piece_len n k
    → made_piece d f pos len ≡ done b → there b f ≡ true
piece-stays d f dst n k pos len b was range l at size e = let p = piece-lies dst n k pos len (piece-in n k l) at size in stays-there d f pos len b was (omega (arith, p.1.1)) e
