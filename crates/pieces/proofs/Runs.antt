-- Rising pieces are one write, of zeros and of a copy towards the start: arena for arena.
use mathlib.Core.Path.{◌≡◌, sym, ap, ap₂, ◌∙◌, subst}
use mathlib.Core.Bool.{true}
use mathlib.Core.List.{List, ◌∷◌, ◌++◌}
use Prim.Native.Nat.{ℕ, zero, suc, ◌+◌, ◌*◌, ◌-◌, ◌≤◌, ◌<◌, min}
use native.Mathlib.Omega.{arith}
use lib.ListN.{length, replicate, length-replicate, replicate-append-replicate}
use Rattle.base.specs.Out.{Out, done, bind, Ok}
use Rattle.base.specs.Parts.{tab}
use Rattle.base.proofs.Lists.{length-tab, tab-cong}
use Rattle.base.proofs.Outs.{ok-done}
use Rattle.arena.specs.Fields.{File}
use Rattle.files.specs.Read.{there, length_of, byte_at}
use Rattle.files.specs.Store.{longest, put_file}
use Rattle.files.proofs.Runs.{read_done}
use Rattle.files_laws.specs.Laws.{Put}
use Rattle.files_laws.proofs.Put.{put-law}
use Rattle.pieces.specs.Pieces.{pieces, piece_len, rising, zeros_to, write_zeros, copy_piece, down_to, copy_down}
use Rattle.pieces.specs.Counts.{ZerosPut, DownPut}
use Rattle.pieces.proofs.Pieces.{piece-in}
use Rattle.files_laws.proofs.Stored.{bind-where}
use Rattle.files_laws.proofs.Joined.{put-join}

-- ---- zeros

-- x zeros and then y are x + y
zeros-join : (a : List ℕ) (f : File) (pos x y : ℕ) → 0 < x → 0 < y → pos + x + y ≤ longest
    → bind (put_file a f pos (replicate x 0)) (λ d. put_file d f (pos + x) (replicate y 0)) ≡ put_file a f pos (replicate (x + y) 0)
zeros-join a f pos x y some more range =
    let n : length {A = ℕ} (replicate x 0) ≡ x = length-replicate {A = ℕ} x 0 in
    let m : length {A = ℕ} (replicate y 0) ≡ y = length-replicate {A = ℕ} y 0 in
    ap (λ (i : ℕ). bind (put_file a f pos (replicate x 0)) (λ d. put_file d f (pos + i) (replicate y 0))) (sym n)
    ∙ sym (put-join a f pos (replicate x 0) (replicate y 0) (omega arith) (omega arith) (omega arith))
    ∙ ap (put_file a f pos) (replicate-append-replicate {A = ℕ} x y 0)

-- the first pieces are one write
zeros-run : (a : List ℕ) (f : File) (pos n : ℕ) → pos + n ≤ longest → (k : ℕ) → suc k ≤ pieces n → zeros_to a f pos n (suc k) ≡ put_file a f pos (replicate (min n (128 * suc k)) 0)
unfolding zeros_to
zeros-run a f pos n range zero l =
    ap₂ (λ (p m : ℕ). put_file a f p (replicate m 0)) (let e : pos + rising 0 ≡ pos = omega arith in e) (let e : piece_len n 0 ≡ min n (128 * 1) = omega arith in e)
zeros-run a f pos n range (suc k) l =
    let w : 128 * suc k < n = piece-in n (suc k) l in
    ap₂ (λ (o : Out (List ℕ)) (p : ℕ). bind o (λ d. put_file d f (pos + p) (replicate (piece_len n (suc k)) 0))) (zeros-run a f pos n range k (omega arith))
    (let e : rising (suc k) ≡ min n (128 * suc k) = omega arith in e)
    ∙ zeros-join a f pos (min n (128 * suc k)) (piece_len n (suc k)) (omega arith) (omega arith) (omega arith)
    ∙ ap (λ (m : ℕ). put_file a f pos (replicate m 0)) (let e : min n (128 * suc k) + piece_len n (suc k) ≡ min n (128 * suc (suc k)) = omega arith in e)

pub zeros-put : ZerosPut
unfolding ZerosPut write_zeros
zeros-put a f pos n range some =
    let e : pieces n ≡ suc (pieces n - 1) = omega arith in
    ap (zeros_to a f pos n) e
    ∙ zeros-run a f pos n range (pieces n - 1) (omega arith)
    ∙ ap (λ (m : ℕ). put_file a f pos (replicate m 0)) (let z : min n (128 * suc (pieces n - 1)) ≡ n = omega arith in z)

-- ---- a copy towards the start

-- n bytes and then m after them
pub tab-join : (f : ℕ → ℕ) (s n m : ℕ) → tab f s n ++ tab f (s + n) m ≡ tab f s (n + m)
unfolding tab
tab-join f s zero m = ap₂ (tab f) (let e : s + 0 ≡ s = omega arith in e) (let e : m ≡ 0 + m = omega arith in e)
tab-join f s (suc n) m =
    ap (λ (l : List ℕ). f s ∷ l) (ap (λ (x : ℕ). tab f (suc s) n ++ tab f x m) (let e : s + suc n ≡ suc s + n = omega arith in e) ∙ tab-join f (suc s) n m)
    ∙ ap (tab f s) (let e : suc (n + m) ≡ suc n + m = omega arith in e)

module _ (a : List ℕ) (f : File) (src dst n : ℕ) (y : there a f ≡ true) (ahead : dst ≤ src) (range : dst + n ≤ longest) (long : src + n ≤ length_of a f) where
  -- the first m bytes, as they are before any store
  abbrev firsts : ℕ → List ℕ
  firsts m = tab (byte_at a f) src m

  -- they are stored, and the k after them are read as they were
  next-read : (x k : ℕ) (d : List ℕ) → x + k ≤ n → put_file a f dst (firsts x) ≡ done d → copy_piece d f (src + x) (dst + x) k ≡ put_file d f (dst + x) (tab (byte_at a f) (src + x) k)
  unfolding copy_piece
  next-read x k d in-n e =
      let P : Put a f dst (firsts x) d = ok-done (subst (Ok (Put a f dst (firsts x)) _) e (put-law a f dst (firsts x))) in
      let s : length (firsts x) ≡ x = length-tab (byte_at a f) src x in
      ap (λ (o : Out (List ℕ)). bind o (put_file d f (dst + x))) (read_done d f (src + x) k P.exists (omega (arith, P.long)))
      ∙ ap (put_file d f (dst + x)) (tab-cong (byte_at d f) (byte_at a f) (src + x) (src + x) k (λ i l. P.outside (src + x + i) (λ g. omega arith)))

  next-run : (x k : ℕ) → 0 < x → 0 < k → x + k ≤ n → bind (put_file a f dst (firsts x)) (λ d. copy_piece d f (src + x) (dst + x) k) ≡ put_file a f dst (firsts (x + k))
  next-run x k some more in-n =
      let s : length (firsts x) ≡ x = length-tab (byte_at a f) src x in
      let t : length (tab (byte_at a f) (src + x) k) ≡ k = length-tab (byte_at a f) (src + x) k in
      bind-where (put_file a f dst (firsts x)) (λ d e. next-read x k d in-n e)
      ∙ ap (λ (i : ℕ). bind (put_file a f dst (firsts x)) (λ d. put_file d f (dst + i) (tab (byte_at a f) (src + x) k))) (sym s)
      ∙ sym (put-join a f dst (firsts x) (tab (byte_at a f) (src + x) k) (omega arith) (omega arith) (omega arith))
      ∙ ap (put_file a f dst) (tab-join (byte_at a f) src x k)

  -- the first pieces are one write
  down_run : (k : ℕ) → suc k ≤ pieces n → down_to a f src dst n (suc k) ≡ put_file a f dst (firsts (min n (128 * suc k)))
  unfolding down_to copy_piece
  down_run zero l =
      let s : src + rising 0 ≡ src = omega arith in
      let t : dst + rising 0 ≡ dst = omega arith in
      let m : piece_len n 0 ≡ min n (128 * 1) = omega arith in
      ap₂ (λ (i j : ℕ). copy_piece a f i j (piece_len n 0)) s t
      ∙ ap (λ (o : Out (List ℕ)). bind o (put_file a f dst)) (read_done a f src (piece_len n 0) y (omega arith))
      ∙ ap (λ (i : ℕ). put_file a f dst (firsts i)) m
  down_run (suc k) l =
      let w : 128 * suc k < n = piece-in n (suc k) l in
      ap₂ (λ (o : Out (List ℕ)) (p : ℕ). bind o (λ d. copy_piece d f (src + p) (dst + p) (piece_len n (suc k)))) (down_run k (omega arith))
      (let e : rising (suc k) ≡ min n (128 * suc k) = omega arith in e)
      ∙ next-run (min n (128 * suc k)) (piece_len n (suc k)) (omega arith) (omega arith) (omega arith)
      ∙ ap (λ (m : ℕ). put_file a f dst (firsts m)) (let e : min n (128 * suc k) + piece_len n (suc k) ≡ min n (128 * suc (suc k)) = omega arith in e)

pub down-put : DownPut
unfolding DownPut copy_down
down-put a f src dst n y ahead some range long =
    let e : pieces n ≡ suc (pieces n - 1) = omega arith in
    ap (down_to a f src dst n) e
    ∙ down_run a f src dst n y ahead range long (pieces n - 1) (omega arith)
    ∙ ap (λ (m : ℕ). put_file a f dst (tab (byte_at a f) src m)) (let z : min n (128 * suc (pieces n - 1)) ≡ n = omega arith in z)
