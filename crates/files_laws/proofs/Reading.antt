-- What a read gives, and what a read after a store gives.
use mathlib.Core.Path.{◌≡◌, sym, ap, ◌∙◌}
use mathlib.Core.Bool.{true}
use mathlib.Core.List.{List}
use mathlib.Core.Logic.{⊎_elim}
use Prim.Native.Nat.{ℕ, ◌+◌, ◌-◌, ◌≤◌, ◌<◌}
use native.Mathlib.Omega.{arith}
use lib.ListN.{length, get_or, replicate}
use lib.Dec.{leb}
use borrow.Author.Tests.{leb-true, leb-false}
use Rattle.base.proofs.Outs.{ok-test}
use Rattle.base.specs.Out.{done, refused, Ok, went}
use Rattle.base.proofs.Numbers.{lt-or-le}
use Rattle.base.proofs.Lists.{length-tab, get_or-tab, tab-cong, tab-get_or, tab-zeros}
use Rattle.arena.specs.Fields.{File}
use Rattle.sound.specs.Sound.{sound}
use Rattle.files.specs.Read.{there, length_of, byte_at, read_file}
use Rattle.files.proofs.Runs.{read-missing, read_short, read_done}
use Rattle.files_laws.specs.Laws.{Put, Cut, Drop, Read, ReadRefused, missing, short}
use Rattle.files_laws.proofs.Parts.{sound-inside}

module _ (a : List ℕ) (f : File) (pos n : ℕ) where
  -- a read gives the bytes, or the file is missing, or too short for it
  pub read-law : Ok (Read a f pos n) (ReadRefused a f pos n) (read_file a f pos n)
  unfolding read_file
  read-law =
      ok-test (there a f) 19 (λ e. missing e)
      (λ e. ok-test (leb (pos + n) (length_of a f)) 19 (λ g. short e (leb-false (pos + n) (length_of a f) g))
      (λ l. went (record { was = e; range = leb-true (pos + n) (length_of a f) l; size = length-tab (byte_at a f) pos n; byte = λ i m. get_or-tab (byte_at a f) pos n i m })))

-- the same bytes in two arenas
same_read : (a a' : List ℕ) (f : File) (pos n : ℕ) → there a f ≡ true → there a' f ≡ true → pos + n ≤ length_of a f → pos + n ≤ length_of a' f
    → ((i : ℕ) → i < n → byte_at a' f (pos + i) ≡ byte_at a f (pos + i)) → read_file a' f pos n ≡ read_file a f pos n
same_read a a' f pos n t t' l l' h =
    read_done a' f pos n t' l' ∙ ap done (tab-cong (byte_at a' f) (byte_at a f) pos pos n h) ∙ sym (read_done a f pos n t l)

-- ---- after put

module _ (a : List ℕ) (f : File) (pos : ℕ) (src a' : List ℕ) (P : Put a f pos src a') where
  -- what was written is read back
  pub put-read : read_file a' f pos (length src) ≡ done src
  put-read =
      read_done a' f pos (length src) P.exists (omega (arith, P.long))
      ∙ ap done (tab-cong (byte_at a' f) (λ i. get_or src i 0) pos 0 (length src)
      (λ i l. P.inside (pos + i) (omega arith) (omega arith) ∙ ap (λ (j : ℕ). get_or src j 0) (let e : pos + i - pos ≡ 0 + i = omega arith in e))
      ∙ tab-get_or src)

  -- a run apart from it reads as it did
  pub put-read-apart : (at n : ℕ) → at + n ≤ length_of a f → (at < pos + length src → at + n ≤ pos) → read_file a' f at n ≡ read_file a f at n
  put-read-apart at n l h =
      same_read a a' f at n P.was P.exists l (omega (arith, P.long))
      (λ i m. P.outside (at + i) (λ g. ⊎_elim (λ x. absurd (omega (arith, h x))) (λ x. omega arith) (lt-or-le at (pos + length src))))

-- ---- after cut

module _ (a : List ℕ) (f : File) (len : ℕ) (a' : List ℕ) (C : Cut a f len a') where
  -- up to the cut it reads as it did
  pub cut-read : (at n : ℕ) → at + n ≤ length_of a f → at + n ≤ len → read_file a' f at n ≡ read_file a f at n
  cut-read at n l m = same_read a a' f at n C.was C.exists l (omega (arith, C.long)) (λ i x. C.below (at + i) (omega arith))

  -- a read beyond the cut is short
  pub cut-read-short : (at n : ℕ) → len < at + n → read_file a' f at n ≡ refused 19
  cut-read-short at n l = read_short a' f at n C.exists (omega (arith, C.long))

  -- a longer file reads as zeros past its old end
  pub cut-read-zeros : sound a ≡ true → (at n : ℕ) → length_of a f ≤ at → at + n ≤ len → read_file a' f at n ≡ done (replicate n 0)
  cut-read-zeros ok at n l m =
      read_done a' f at n C.exists (omega (arith, C.long))
      ∙ ap done (tab-cong (byte_at a' f) (λ i. 0) at at n (λ i x. C.below (at + i) (omega arith) ∙ (sound-inside a ok f).past (at + i) (omega arith)) ∙ tab-zeros at n)

-- ---- after drop

pub drop-read : (a : List ℕ) (f : File) (a' : List ℕ) → Drop a f a' → (pos n : ℕ) → read_file a' f pos n ≡ refused 19
drop-read a f a' D pos n = read-missing a' f pos n D.gone
