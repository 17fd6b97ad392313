-- What zeros and copies in pieces do: the stores go into one file, and each byte afterwards is 0, or one that was there before the first piece.
use mathlib.Core.Path.{◌≡◌, refl, sym, ap, ◌∙◌, subst}
use mathlib.Core.Bool.{true, false}
use mathlib.Core.List.{List}
use mathlib.Core.Logic.{◌≢◌, ◌⊎◌, inl, inr, ⊎_elim}
use Prim.Native.Nat.{ℕ, zero, suc, ◌+◌, ◌*◌, ◌-◌, ◌≤◌, ◌<◌, min, max}
use native.Mathlib.Omega.{arith}
use lib.ListN.{length, get_or, replicate, length-replicate}
use Rattle.base.specs.Out.{Ok, went}
use Rattle.base.specs.Parts.{Outside}
use Rattle.base.proofs.Bools.{true-false}
use Rattle.base.proofs.Numbers.{lt-or-le}
use Rattle.base.proofs.Outs.{ok-bind, ok-weaken}
use Rattle.base.proofs.Parts.{get_or-zero-list}
use Rattle.le.specs.Le.{Bytes}
use Rattle.arena.specs.Fields.{File}
use Rattle.sound.specs.Sound.{sound}
use Rattle.files.specs.Read.{there, length_of, byte_at, read_file}
use Rattle.files.specs.Store.{put_file}
use Rattle.files_laws.specs.Laws.{Kept, Put, PutRefused, Read, ReadRefused}
use Rattle.files_laws.proofs.Bounds.{read-bytes}
use Rattle.files_laws.proofs.Put.{put-law}
use Rattle.files_laws.proofs.Reading.{read-law}
use Rattle.files_laws.proofs.Views.{kept_refl, kept_next}
use Rattle.pieces.specs.Pieces.{pieces, piece_len, rising, falling, zeros_to, write_zeros, copy_piece, down_to, copy_down, up_to, copy_up}
use Rattle.files_laws.specs.Laws as laws

-- ---- stores into file f alone, up to `top` at the most

pub record FilledTo (a : List ℕ) (f : File) (top : ℕ) (d : List ℕ) : Type 0 where
  pub files : (g : File) → f ≢ g → Kept a d g
  pub exists : there d f ≡ there a f
  pub size : length d ≡ length a
  pub bytes : Bytes d
  pub keeps : sound d ≡ true
  pub grew : length_of a f ≤ length_of d f
  pub most : length_of d f ≤ max (length_of a f) top
  -- where the file is missing nothing was stored
  pub missing : there a f ≡ false → d ≡ a

-- no store, one more, and some after others
pub fill_none : (a : List ℕ) (f : File) (top : ℕ) → Bytes a → sound a ≡ true → FilledTo a f top a
fill_none a f top b s = record { files = λ g _. kept_refl a g; exists = refl; size = refl; bytes = b; keeps = s; grew = omega arith; most = omega arith; missing = λ _. refl }

pub fill-put : (a : List ℕ) (f : File) (top : ℕ) (d : List ℕ) (pos : ℕ) (src e : List ℕ) → FilledTo a f top d → Bytes src → pos + length src ≤ top → Put d f pos src e → FilledTo a f top e
fill-put a f top d pos src e F b l P = record {
  files = λ g n. kept_next (F.files g n) (P.others g n);
  exists = P.exists ∙ sym P.was ∙ F.exists;
  size = P.size ∙ F.size;
  bytes = P.bytes F.bytes b;
  keeps = P.keeps F.bytes b F.keeps;
  grew = omega (arith, P.long, F.grew);
  most = omega (arith, P.long, F.most);
  missing = λ m. absurd (true-false (sym F.exists ∙ P.was) m);
}

pub fill-then : (a : List ℕ) (f : File) (x y z : ℕ) (d e : List ℕ) → x ≤ z → y ≤ z → FilledTo a f x d → FilledTo d f y e → FilledTo a f z e
fill-then a f x y z d e l m F G = record {
  files = λ g n. kept_next (F.files g n) (G.files g n);
  exists = G.exists ∙ F.exists;
  size = G.size ∙ F.size;
  bytes = G.bytes;
  keeps = G.keeps;
  grew = omega (arith, F.grew, G.grew);
  most = omega (arith, F.most, G.most);
  missing = λ n. G.missing (F.exists ∙ n) ∙ F.missing n;
}

-- ---- n bytes in pieces

-- a piece lies within them
pub piece-in : (n k : ℕ) → suc k ≤ pieces n → 128 * k < n
piece-in n k l = omega arith

-- all of them are in a piece
pub pieces-all : (n : ℕ) → n ≤ 128 * pieces n
pieces-all n = omega arith

module _ (R : ℕ → Type 0) (space : R 17) where
  -- a piece's write and its read, with the reasons that they may have
  pub put-says : (d : List ℕ) (f : File) (pos : ℕ) (src : List ℕ) → (there d f ≡ false → R 19) → Ok (Put d f pos src) R (put_file d f pos src)
  put-says d f pos src none = ok-weaken (λ e P. P) (λ r q. why q) (put-law d f pos src)
    where
      why : {r : ℕ} → PutRefused d f pos (length src) r → R r
      why (laws.missing e) = none e
      why (laws.far _ _) = space
      why (laws.full _ _ _) = space

  pub read-says : (d : List ℕ) (f : File) (pos n : ℕ) → (there d f ≡ false → R 19) → (length_of d f < pos + n → R 19) → Ok (Read d f pos n) R (read_file d f pos n)
  read-says d f pos n none low = ok-weaken (λ e P. P) (λ r q. why q) (read-law d f pos n)
    where
      why : {r : ℕ} → ReadRefused d f pos n r → R r
      why (laws.missing e) = none e
      why (laws.short _ l) = low l

-- ---- zeros

-- the first m bytes from pos on are zeros, and all else is as it was
pub record Blanked (a : List ℕ) (f : File) (pos m top : ℕ) (d : List ℕ) : Type 0 where
  pub filled : FilledTo a f top d
  pub inside : (p : ℕ) → pos ≤ p → p < pos + m → byte_at d f p ≡ 0
  pub outside : (p : ℕ) → Outside p pos m → byte_at d f p ≡ byte_at a f p

bytes-zeros : (n : ℕ) → Bytes (replicate n 0)
bytes-zeros n i = subst (λ (x : ℕ). x < 256) (sym (get_or-zero-list n i)) (omega arith)

module _ (a : List ℕ) (f : File) (pos n : ℕ) (bytes-a : Bytes a) (fine : sound a ≡ true) where
  blank-next : (k : ℕ) (d e : List ℕ) → suc k ≤ pieces n → Blanked a f pos (min n (128 * k)) (pos + n) d
      → Put d f (pos + rising k) (replicate (piece_len n k) 0) e → Blanked a f pos (min n (128 * suc k)) (pos + n) e
  blank-next k d e l B P =
      let z : length {A = ℕ} (replicate (piece_len n k) 0) ≡ piece_len n k = length-replicate {A = ℕ} (piece_len n k) 0 in
      let w : 128 * k < n = piece-in n k l in
      record {
        filled = fill-put a f (pos + n) d (pos + rising k) (replicate (piece_len n k) 0) e B.filled (bytes-zeros (piece_len n k)) (omega arith) P;
        inside = λ p g m. ⊎_elim
            (λ x. P.outside p (λ y. absurd (omega arith)) ∙ B.inside p g (omega arith))
            (λ x. P.inside p x (omega arith) ∙ get_or-zero-list (piece_len n k) (p - (pos + rising k)))
            (lt-or-le p (pos + rising k));
        outside = λ p g. ⊎_elim
            (λ x. P.outside p (λ y. absurd (omega arith)) ∙ B.outside p (inl x))
            (λ x. P.outside p (λ y. omega arith) ∙ B.outside p (inr (omega arith)))
            g;
      }

  module _ (R : ℕ → Type 0) (space : R 17) (none : there a f ≡ false → R 19) where
    zeros-to : (k : ℕ) → k ≤ pieces n → Ok (Blanked a f pos (min n (128 * k)) (pos + n)) R (zeros_to a f pos n k)
    unfolding zeros_to
    zeros-to zero l = went (record { filled = fill_none a f (pos + n) bytes-a fine; inside = λ p g m. absurd (omega arith); outside = λ p g. refl })
    zeros-to (suc k) l =
        ok-bind (zeros-to k (omega arith)) λ d B.
        ok-weaken (λ e P. blank-next k d e l B P) (λ r q. q)
        (put-says R space d f (pos + rising k) (replicate (piece_len n k) 0) (λ e. none (sym B.filled.exists ∙ e)))

    pub zeros_law : Ok (Blanked a f pos n (pos + n)) R (write_zeros a f pos n)
    unfolding write_zeros
    zeros_law =
        let e : min n (128 * pieces n) ≡ n = omega (arith, pieces-all n) in
        ok-weaken (λ d B. subst (λ (m : ℕ). Blanked a f pos m (pos + n) d) e B) (λ r q. q) (zeros-to (pieces n) (omega arith))

-- ---- copies

-- of the bytes from src on, those from the lo-th up to the hi-th stand from dst on too, and all else is as it was
pub record Copied (a : List ℕ) (f : File) (src dst lo hi top : ℕ) (d : List ℕ) : Type 0 where
  pub filled : FilledTo a f top d
  pub inside : (j : ℕ) → lo ≤ j → j < hi → byte_at d f (dst + j) ≡ byte_at a f (src + j)
  pub outside : (p : ℕ) → (dst + lo ≤ p → dst + hi ≤ p) → byte_at d f p ≡ byte_at a f p

-- before the first piece
pub copied_none : (a : List ℕ) (f : File) (src dst lo top : ℕ) → Bytes a → sound a ≡ true → Copied a f src dst lo lo top a
copied_none a f src dst lo top b s = record { filled = fill_none a f top b s; inside = λ j g m. absurd (omega arith); outside = λ p g. refl }

-- where they don't move
pub copied-still : (a : List ℕ) (f : File) (src dst hi top : ℕ) → src ≡ dst → Bytes a → sound a ≡ true → Copied a f src dst 0 hi top a
copied-still a f src dst hi top e b s = record { filled = fill_none a f top b s; inside = λ j g m. ap (λ (x : ℕ). byte_at a f (x + j)) (sym e); outside = λ p g. refl }

-- a piece: m bytes from src on stand from dst on
pub record Pieced (d : List ℕ) (f : File) (src dst m : ℕ) (e : List ℕ) : Type 0 where
  pub fill : (a : List ℕ) (top : ℕ) → dst + m ≤ top → FilledTo a f top d → FilledTo a f top e
  pub inside : (j : ℕ) → j < m → byte_at e f (dst + j) ≡ byte_at d f (src + j)
  pub outside : (p : ℕ) → (dst ≤ p → dst + m ≤ p) → byte_at e f p ≡ byte_at d f p

-- it is a read and a write
pub pieced : (d : List ℕ) (f : File) (src dst m : ℕ) (l e : List ℕ) → Bytes d → Read d f src m l → Put d f dst l e → Pieced d f src dst m e
pieced d f src dst m l e b X P = record {
  fill = λ a top g F. fill-put a f top d dst l e F (read-bytes d f src m l b X) (omega (arith, X.size)) P;
  inside = λ j g. P.inside (dst + j) (omega arith) (omega (arith, X.size)) ∙ ap (λ (i : ℕ). get_or l i 0) (let q : dst + j - dst ≡ j = omega arith in q) ∙ X.byte j g;
  outside = λ p g. P.outside p (λ y. omega (arith, X.size, g y));
}

piece-law : (R : ℕ → Type 0) → R 17 → (d : List ℕ) (f : File) (src dst m : ℕ) → Bytes d → (there d f ≡ false → R 19) → (length_of d f < src + m → R 19)
    → Ok (Pieced d f src dst m) R (copy_piece d f src dst m)
unfolding copy_piece
piece-law R space d f src dst m b none low =
    ok-bind (read-says R space d f src m none low) λ l X. ok-weaken (λ e P. pieced d f src dst m l e b X P) (λ r q. q) (put-says R space d f dst l none)

module _ (a : List ℕ) (f : File) (src dst n : ℕ) (bytes-a : Bytes a) (fine : sound a ≡ true) where
  -- rising, towards the start
  pub down-next : (k : ℕ) (d e : List ℕ) → dst ≤ src → suc k ≤ pieces n → Copied a f src dst 0 (min n (128 * k)) (dst + n) d
      → Pieced d f (src + rising k) (dst + rising k) (piece_len n k) e → Copied a f src dst 0 (min n (128 * suc k)) (dst + n) e
  down-next k d e ahead l C P =
      let w : 128 * k < n = piece-in n k l in
      record {
        filled = P.fill a (dst + n) (omega arith) C.filled;
        inside = λ j g m. ⊎_elim
            (λ x. P.outside (dst + j) (λ y. absurd (omega arith)) ∙ C.inside j g (omega arith))
            (λ x. fresh j x m)
            (lt-or-le j (rising k));
        outside = λ p g. P.outside p (λ y. omega (arith, g (omega arith))) ∙ C.outside p (λ y. omega (arith, g y));
      }
    where
      fresh : (j : ℕ) → rising k ≤ j → j < min n (128 * suc k) → byte_at e f (dst + j) ≡ byte_at a f (src + j)
      fresh j x m =
          ap (byte_at e f) (let q : dst + j ≡ dst + rising k + (j - rising k) = omega arith in q)
          ∙ P.inside (j - rising k) (omega arith)
          ∙ ap (byte_at d f) (let q : src + rising k + (j - rising k) ≡ src + j = omega arith in q)
          ∙ C.outside (src + j) (λ y. omega arith)

  -- falling, towards the end
  up_next : (k : ℕ) (d e : List ℕ) → src ≤ dst → suc k ≤ pieces n → Copied a f src dst (n - 128 * k) n (dst + n) d
      → Pieced d f (src + falling n k) (dst + falling n k) (piece_len n k) e → Copied a f src dst (n - 128 * suc k) n (dst + n) e
  up_next k d e ahead l C P =
      let w : 128 * k < n = piece-in n k l in
      record {
        filled = P.fill a (dst + n) (omega arith) C.filled;
        inside = λ j g m. ⊎_elim
            (λ x. fresh w j g x)
            (λ x. P.outside (dst + j) (λ y. omega arith) ∙ C.inside j x m)
            (lt-or-le j (n - 128 * k));
        outside = λ p g. P.outside p (λ y. omega (arith, g y)) ∙ C.outside p (λ y. omega (arith, g (omega arith)));
      }
    where
      fresh : 128 * k < n → (j : ℕ) → n - 128 * suc k ≤ j → j < n - 128 * k → byte_at e f (dst + j) ≡ byte_at a f (src + j)
      fresh w j x m =
          ap (byte_at e f) (let q : dst + j ≡ dst + falling n k + (j - falling n k) = omega arith in q)
          ∙ P.inside (j - falling n k) (omega arith)
          ∙ ap (byte_at d f) (let q : src + falling n k + (j - falling n k) ≡ src + j = omega arith in q)
          ∙ C.outside (src + j) (λ y. absurd (omega arith))

  module _ (R : ℕ → Type 0) (space : R 17) (none : there a f ≡ false → R 19) (low : length_of a f < src + n → R 19) where
    down_to_lem : dst ≤ src → (k : ℕ) → k ≤ pieces n → Ok (Copied a f src dst 0 (min n (128 * k)) (dst + n)) R (down_to a f src dst n k)
    unfolding down_to
    down_to_lem ahead zero l = went (subst (λ (m : ℕ). Copied a f src dst 0 m (dst + n) a) (let q : 0 ≡ min n (128 * 0) = omega arith in q) (copied_none a f src dst 0 (dst + n) bytes-a fine))
    down_to_lem ahead (suc k) l =
        ok-bind (down_to_lem ahead k (omega arith)) λ d C.
        let w : 128 * k < n = piece-in n k l in
        ok-weaken (λ e P. down-next k d e ahead l C P) (λ r q. q)
        (piece-law R space d f (src + rising k) (dst + rising k) (piece_len n k) C.filled.bytes (λ e. none (sym C.filled.exists ∙ e)) (λ s. low (omega (arith, C.filled.grew))))

    pub down-law : dst ≤ src → Ok (Copied a f src dst 0 n (dst + n)) R (copy_down a f src dst n)
    unfolding copy_down
    down-law ahead =
        let e : min n (128 * pieces n) ≡ n = omega (arith, pieces-all n) in
        ok-weaken (λ d C. subst (λ (m : ℕ). Copied a f src dst 0 m (dst + n) d) e C) (λ r q. q) (down_to_lem ahead (pieces n) (omega arith))

    up-to : src ≤ dst → (k : ℕ) → k ≤ pieces n → Ok (Copied a f src dst (n - 128 * k) n (dst + n)) R (up_to a f src dst n k)
    unfolding up_to
    up-to ahead zero l = went (subst (λ (m : ℕ). Copied a f src dst m n (dst + n) a) (let q : n ≡ n - 128 * 0 = omega arith in q) (copied_none a f src dst n (dst + n) bytes-a fine))
    up-to ahead (suc k) l =
        ok-bind (up-to ahead k (omega arith)) λ d C.
        let w : 128 * k < n = piece-in n k l in
        ok-weaken (λ e P. up_next k d e ahead l C P) (λ r q. q)
        (piece-law R space d f (src + falling n k) (dst + falling n k) (piece_len n k) C.filled.bytes (λ e. none (sym C.filled.exists ∙ e)) (λ s. low (omega (arith, C.filled.grew))))

    pub up-law : src ≤ dst → Ok (Copied a f src dst 0 n (dst + n)) R (copy_up a f src dst n)
    unfolding copy_up
    up-law ahead =
        let e : n - 128 * pieces n ≡ 0 = omega (arith, pieces-all n) in
        ok-weaken (λ d C. subst (λ (m : ℕ). Copied a f src dst m n (dst + n) d) e C) (λ r q. q) (up-to ahead (pieces n) (omega arith))
