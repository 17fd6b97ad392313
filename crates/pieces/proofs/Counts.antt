-- What the pieces will answer: each takes the blocks that it lacks, so all of them together take those that the whole part lacks.
use mathlib.Core.Path.{◌≡◌, refl, sym, ap, ◌∙◌, subst}
use mathlib.Core.Bool.{Bool, true, ◌||◌}
use mathlib.Core.List.{List}
use mathlib.Core.Logic.{⊎_elim}
use Prim.Native.Nat.{ℕ, zero, suc, ◌+◌, ◌*◌, ◌-◌, ◌/◌, ◌≤◌, ◌<◌, min, max}
use native.Mathlib.Nat.{le_refl, eq-or-lt_of_le, le_of_suc-le-suc}
use native.Mathlib.Omega.{arith}
use lib.ListN.{length, replicate, length-replicate}
use lib.Dec.{leb}
use borrow.Author.Tests.{le-leb, lt-leb, le-ltb}
use Rattle.base.specs.Out.{Out, refused, bind, answer, Ok, went, said}
use Rattle.base.specs.Search.{pick}
use Rattle.base.proofs.Bools.{true-false}
use Rattle.base.proofs.Outs.{ok-bind, ok-weaken}
use Rattle.base.proofs.Sames.{or_no}
use Rattle.le.specs.Le.{Bytes}
use Rattle.arena.specs.Fields.{File}
use Rattle.arena.specs.Places.{free_count}
use Rattle.files.specs.Read.{there, length_of, present}
use Rattle.files.specs.Store.{longest, lo, hi, put_file}
use Rattle.files.proofs.Runs.{read_short}
use Rattle.files_laws.specs.Laws.{lacking, PutRefused, ReadRefused}
use Rattle.files_laws.proofs.Bounds.{length-fits}
use Rattle.files_laws.proofs.Put.{put-law}
use Rattle.files_laws.proofs.Reading.{read-law}
use Rattle.pieces.specs.Pieces.{pieces, piece_len, rising, falling, zeros_to, write_zeros, copy_piece, down_to, copy_down, up_to, copy_up}
use Rattle.pieces.specs.Counts.{ByRoom, ZerosNeed, DownNeeds, UpNeeds, InsertNeeds, ShortUp, ShortDown}
use Rattle.files_laws.proofs.Lacking.{Beside, beside-after, beside-before, Gained, gained-next, lacking-zero, lacking-beside, lacking-part}
use Rattle.pieces.proofs.Pieces.{piece-in, pieces-all}
use Rattle.files_laws.specs.Laws as laws

-- ---- one piece

-- m bytes from pos on were stored: they took the blocks that they lacked
pub record TookBlocks (a : List ℕ) (f : File) (pos m : ℕ) (d : List ℕ) : Type 0 where
  pub exists : there d f ≡ true
  pub block : Gained a f pos m d
  pub free : free_count d + lacking a f pos m ≡ free_count a
  pub grew : length_of a f ≤ length_of d f
  pub most : length_of d f ≤ max (length_of a f) (pos + m)

-- or n bytes from pos on lack too many
abbrev pub NoRoom : List ℕ → File → ℕ → ℕ → ℕ → Type 0
NoRoom a f pos n r = (r ≡ 17) × (free_count a < lacking a f pos n)

took-none : (a : List ℕ) (f : File) (pos m : ℕ) → m ≡ 0 → there a f ≡ true → TookBlocks a f pos m a
took-none a f pos m e y = record {
  exists = y;
  block = λ q. sym (ap (λ (x : Bool). present a f q || x) (le-ltb (lo pos q) (hi pos m q) (omega arith)) ∙ or_no (present a f q));
  free = omega (arith, ap (lacking a f pos) e, lacking-zero a f pos);
  grew = le_refl (length_of a f);
  most = omega arith;
}

-- one write, and one copy
put-takes : (a : List ℕ) (f : File) (pos n : ℕ) (src : List ℕ) → length src ≡ n → there a f ≡ true → pos + n ≤ longest → Ok (TookBlocks a f pos n) (NoRoom a f pos n) (put_file a f pos src)
put-takes a f pos n src s y range =
    subst (λ (m : ℕ). Ok (TookBlocks a f pos m) (NoRoom a f pos m) (put_file a f pos src)) s
    (ok-weaken (λ d P. record { exists = P.exists; block = P.block; free = P.free; grew = omega (arith, P.long); most = omega (arith, P.long) }) (λ r q. why q) (put-law a f pos src))
  where
    why : {r : ℕ} → PutRefused a f pos (length src) r → NoRoom a f pos (length src) r
    why (laws.missing e) = absurd (true-false y e)
    why (laws.far _ g) = absurd (omega arith)
    why (laws.full _ _ g) = (refl, g)

copy-takes : (a : List ℕ) (f : File) (src pos n : ℕ) → there a f ≡ true → pos + n ≤ longest → src + n ≤ length_of a f → Ok (TookBlocks a f pos n) (NoRoom a f pos n) (copy_piece a f src pos n)
unfolding copy_piece
copy-takes a f src pos n y range l = ok-bind (ok-weaken (λ b X. X) (λ r q. why q) (read-law a f src n)) (λ b X. put-takes a f pos n b X.size y range)
  where
    why : {r : ℕ} → ReadRefused a f src n r → NoRoom a f pos n r
    why (laws.missing e) = absurd (true-false y e)
    why (laws.short _ g) = absurd (omega arith)

-- one after another: bytes beside those that were stored
then : {a d : List ℕ} {f : File} {pos m p n at k : ℕ} {o : Out (List ℕ)} → Beside pos m p n at k → max (pos + m) (p + n) ≤ at + k → TookBlocks a f pos m d
    → Ok (TookBlocks d f p n) (NoRoom d f p n) o → Ok (TookBlocks a f at k) (NoRoom a f at k) o
then {a} {d} {f} {pos} {m} {p} {n} {at} {k} B ends T = ok-weaken next (λ r F. (F.0, omega (arith, F.1, T.free, both)))
  where
    both : lacking a f pos m + lacking d f p n ≡ lacking a f at k
    both = lacking-beside a d f pos m p n at k B T.block

    next : (e : List ℕ) → TookBlocks d f p n e → TookBlocks a f at k e
    next e S = record {
      exists = S.exists;
      block = gained-next a d e f pos m p n at k B T.block S.block;
      free = omega (arith, S.free, T.free, both);
      grew = omega (arith, S.grew, T.grew);
      most = omega (arith, S.most, T.most);
    }

-- as a part of a longer one
part_of : {a : List ℕ} {f : File} {at k : ℕ} {o : Out (List ℕ)} (from top : ℕ) → from ≤ at → at + k ≤ from + top
    → Ok (TookBlocks a f at k) (NoRoom a f at k) o → Ok (TookBlocks a f at k) (NoRoom a f from top) o
part_of {a} {f} {at} {k} from top low high = ok-weaken (λ d T. T) (λ r F. (F.0, omega (arith, F.1, lacking-part a f at k from top low high)))

-- ---- all pieces

-- what is answered where there is room, and where there is not
by-room : (a : List ℕ) (f : File) (pos n : ℕ) {o : Out (List ℕ)} → Ok (TookBlocks a f pos n) (NoRoom a f pos n) o → answer o ≡ ByRoom a f pos n
by-room a f pos n (went T) = ap (λ (t : Bool). pick t 0 17) (sym (le-leb (lacking a f pos n) (free_count a) (omega (arith, T.free))))
by-room a f pos n (said F) = F.0 ∙ ap (λ (t : Bool). pick t 0 17) (sym (lt-leb (lacking a f pos n) (free_count a) F.1))

-- the piece that is taken after k others is beside them: rising, and falling
rises : (pos n k : ℕ) → 128 * k < n → Beside pos (min n (128 * k)) (pos + rising k) (piece_len n k) pos (min n (128 * suc k))
rises pos n k w = beside-after pos (min n (128 * k)) (pos + rising k) (piece_len n k) (min n (128 * suc k)) (omega arith) (omega arith)

falls : (pos n k : ℕ) → 128 * k < n → Beside (pos + (n - 128 * k)) (min n (128 * k)) (pos + falling n k) (piece_len n k) (pos + falling n k) (min n (128 * suc k))
falls pos n k w = beside-before (pos + (n - 128 * k)) (min n (128 * k)) (pos + falling n k) (piece_len n k) (min n (128 * suc k)) (omega arith) (omega arith)

module _ (a : List ℕ) (f : File) (y : there a f ≡ true) where
  zeros-to : (pos n : ℕ) → pos + n ≤ longest → (k : ℕ) → k ≤ pieces n → Ok (TookBlocks a f pos (min n (128 * k))) (NoRoom a f pos n) (zeros_to a f pos n k)
  unfolding zeros_to
  zeros-to pos n r zero l = went (took-none a f pos (min n (128 * 0)) (omega arith) y)
  zeros-to pos n r (suc k) l =
      let w : 128 * k < n = piece-in n k l in
      ok-bind (zeros-to pos n r k (omega arith)) λ d T.
      part_of pos n (omega arith) (omega arith)
      (then (rises pos n k w) (omega arith) T (put-takes d f (pos + rising k) (piece_len n k) (replicate (piece_len n k) 0) (length-replicate {A = ℕ} (piece_len n k) 0) T.exists (omega arith)))

  -- n zeros take what one write of them would, or there is no room for all
  pub zeros-take : (pos n : ℕ) → pos + n ≤ longest → Ok (TookBlocks a f pos n) (NoRoom a f pos n) (write_zeros a f pos n)
  unfolding write_zeros
  zeros-take pos n r =
      let e : min n (128 * pieces n) ≡ n = omega (arith, pieces-all n) in
      subst (λ (m : ℕ). Ok (TookBlocks a f pos m) (NoRoom a f pos n) (zeros_to a f pos n (pieces n))) e (zeros-to pos n r (pieces n) (le_refl (pieces n)))

  -- those within the first m bytes, where these can be read
  down_to_lem : (src dst n m : ℕ) → (0 < m → dst + m ≤ longest) → (0 < m → src + m ≤ length_of a f) → (k : ℕ) → k ≤ pieces n → min n (128 * k) ≤ m
      → Ok (TookBlocks a f dst (min n (128 * k))) (NoRoom a f dst m) (down_to a f src dst n k)
  unfolding down_to
  down_to_lem src dst n m r s zero l g = went (took-none a f dst (min n (128 * 0)) (omega arith) y)
  down_to_lem src dst n m r s (suc k) l g =
      let w : 128 * k < n = piece-in n k l in
      ok-bind (down_to_lem src dst n m r s k (omega arith) (omega arith)) λ d T.
      part_of dst m (omega arith) (omega arith)
      (then (rises dst n k w) (omega arith) T (copy-takes d f (src + rising k) (dst + rising k) (piece_len n k) T.exists (omega (arith, r (omega arith))) (omega (arith, T.grew, s (omega arith)))))

  -- and so does a copy, rising and falling
  pub down-take : (src dst n : ℕ) → dst + n ≤ longest → src + n ≤ length_of a f → Ok (TookBlocks a f dst n) (NoRoom a f dst n) (copy_down a f src dst n)
  unfolding copy_down
  down-take src dst n r s =
      let e : min n (128 * pieces n) ≡ n = omega (arith, pieces-all n) in
      subst (λ (m : ℕ). Ok (TookBlocks a f dst m) (NoRoom a f dst n) (down_to a f src dst n (pieces n))) e (down_to_lem src dst n n (λ _. r) (λ _. s) (pieces n) (le_refl (pieces n)) (omega arith))

  up-to : (src dst n : ℕ) → dst + n ≤ longest → src + n ≤ length_of a f → (k : ℕ) → k ≤ pieces n
      → Ok (TookBlocks a f (dst + (n - 128 * k)) (min n (128 * k))) (NoRoom a f dst n) (up_to a f src dst n k)
  unfolding up_to
  up-to src dst n r s zero l = went (took-none a f (dst + (n - 128 * 0)) (min n (128 * 0)) (omega arith) y)
  up-to src dst n r s (suc k) l =
      let w : 128 * k < n = piece-in n k l in
      ok-bind (up-to src dst n r s k (omega arith)) λ d T.
      part_of dst n (omega arith) (omega arith)
      (then (falls dst n k w) (omega arith) T (copy-takes d f (src + falling n k) (dst + falling n k) (piece_len n k) T.exists (omega arith) (omega (arith, T.grew))))

  up-take : (src dst n : ℕ) → dst + n ≤ longest → src + n ≤ length_of a f → Ok (TookBlocks a f dst n) (NoRoom a f dst n) (copy_up a f src dst n)
  unfolding copy_up
  up-take src dst n r s =
      let e : min n (128 * pieces n) ≡ n = omega (arith, pieces-all n) in
      let z : dst + (n - 128 * pieces n) ≡ dst = omega (arith, pieces-all n) in
      subst (λ (p : ℕ). Ok (TookBlocks a f p n) (NoRoom a f dst n) (up_to a f src dst n (pieces n))) z
      (subst (λ (m : ℕ). Ok (TookBlocks a f (dst + (n - 128 * pieces n)) m) (NoRoom a f dst n) (up_to a f src dst n (pieces n))) e (up-to src dst n r s (pieces n) (le_refl (pieces n))))

pub zeros-need : ZerosNeed
unfolding ZerosNeed
zeros-need a f pos n y r = by-room a f pos n (zeros-take a f y pos n r)

pub down-needs : DownNeeds
unfolding DownNeeds
down-needs a f src dst n y r s = by-room a f dst n (down-take a f y src dst n r s)

pub up-needs : UpNeeds
unfolding UpNeeds
up-needs a f src dst n y r s = by-room a f dst n (up-take a f y src dst n r s)

-- an insert's zeros after its copy
pub insert-take : (a : List ℕ) (f : File) (from len n : ℕ) → there a f ≡ true → from + len + n ≤ longest → from + n ≤ length_of a f
    → Ok (λ d. Ok (TookBlocks a f from (len + n)) (NoRoom a f from (len + n)) (write_zeros d f from len)) (NoRoom a f from (len + n)) (copy_up a f from (from + len) n)
insert-take a f from len n y r s =
    ok-weaken (λ d T. then (beside-before (from + len) n from len (len + n) refl refl) (omega arith) T (zeros-take d f T.exists from len (omega arith))) (λ r F. F)
    (part_of from (len + n) (omega arith) (omega arith) (up-take a f y from (from + len) n (omega arith) s))

pub insert-needs : InsertNeeds
unfolding InsertNeeds
insert-needs a f from len n y r s = by-room a f from (len + n) (ok-bind (insert-take a f from len n y r s) λ d T. T)

-- ---- files that are shorter than their size

-- falling, the first piece is short
short-to : (a : List ℕ) (f : File) (src dst n : ℕ) → there a f ≡ true → 0 < n → length_of a f < src + n → (k : ℕ) → up_to a f src dst n (suc k) ≡ refused 19
unfolding up_to copy_piece
short-to a f src dst n y some l zero =
    ap (λ (o : Out (List ℕ)). bind o (λ b. put_file a f (dst + falling n 0) b)) (read_short a f (src + falling n 0) (piece_len n 0) y (omega arith))
short-to a f src dst n y some l (suc k) =
    ap (λ (o : Out (List ℕ)). bind o (λ d. copy_piece d f (src + falling n (suc k)) (dst + falling n (suc k)) (piece_len n (suc k)))) (short-to a f src dst n y some l k)

pub short-up : ShortUp
unfolding ShortUp copy_up
short-up a f src dst n y some l =
    let e : pieces n ≡ suc (pieces n - 1) = omega arith in
    ap (up_to a f src dst n) e ∙ short-to a f src dst n y some l (pieces n - 1)

-- rising, k pieces can be read, and the next is short
module _ (a : List ℕ) (f : File) (src dst n k : ℕ) (y : there a f ≡ true) (ahead : dst ≤ src) (range : length_of a f ≤ longest) (some : 0 < n) (short : length_of a f < src + n)
    (is : k ≡ (length_of a f - src) / 128) where
  abbrev Says : ℕ → Type 0
  Says r = r ≡ pick (leb (lacking a f dst (128 * k)) (free_count a)) 19 17

  sticks : (d : List ℕ) → TookBlocks a f dst (min n (128 * k)) d → Ok (λ _. ⊥) Says (copy_piece d f (src + rising k) (dst + rising k) (piece_len n k))
  unfolding copy_piece
  sticks d T =
      let e : min n (128 * k) ≡ 128 * k = omega arith in
      rw (read_short d f (src + rising k) (piece_len n k) T.exists (omega (arith, T.most)))
      (said {n = 19} (sym (ap (λ (t : Bool). pick t 19 17) (le-leb (lacking a f dst (128 * k)) (free_count a) (omega (arith, T.free, ap (lacking a f dst) e))))))

  down-sticks : (j : ℕ) → k < j → Ok {A = List ℕ} (λ _. ⊥) Says (down_to a f src dst n j)
  unfolding down_to
  down-sticks zero l = absurd (omega arith)
  down-sticks (suc j) l =
      ⊎_elim
      (λ e. subst (λ (i : ℕ). Ok (λ _. ⊥) Says (down_to a f src dst n (suc i))) e first)
      (λ m. ok-bind (down-sticks j m) (λ d never. absurd never))
      (eq-or-lt_of_le (le_of_suc-le-suc l))
    where
      first : Ok {A = List ℕ} (λ _. ⊥) Says (down_to a f src dst n (suc k))
      first =
          ok-bind
          (ok-weaken (λ d T. T) (λ r F. F.0 ∙ sym (ap (λ (t : Bool). pick t 19 17) (lt-leb (lacking a f dst (128 * k)) (free_count a) F.1)))
          (down_to_lem a f y src dst n (128 * k) (λ more. omega arith) (λ more. omega arith) k (omega arith) (omega arith)))
          sticks

-- what a collapse's copy says then
abbrev pub short_says : List ℕ → File → ℕ → ℕ → ℕ
short_says a f src dst = pick (leb (lacking a f dst (128 * ((length_of a f - src) / 128))) (free_count a)) 19 17

pub short-says : (a : List ℕ) (f : File) (src dst n : ℕ) → Bytes a → there a f ≡ true → dst ≤ src → 0 < n → length_of a f < src + n
    → Ok (λ _. ⊥) (λ r. r ≡ short_says a f src dst) (copy_down a f src dst n)
unfolding copy_down
short-says a f src dst n b y ahead some l = down-sticks a f src dst n ((length_of a f - src) / 128) y ahead (length-fits a f b) some l refl (pieces n) (omega arith)

said-is : {o : Out (List ℕ)} {v : ℕ} → Ok (λ _. ⊥) (λ r. r ≡ v) o → answer o ≡ v
said-is (went never) = absurd never
said-is (said e) = e

pub short-down : ShortDown
unfolding ShortDown
short-down a f src dst n b y ahead some l = said-is (short-says a f src dst n b y ahead some l)
