-- The check, and a block with its check.
use mathlib.Core.Path.{◌≡◌, refl, sym, ap, ◌∙◌}
use mathlib.Core.List.{List}
use mathlib.Core.Logic.{⊎_elim}
use Prim.Native.Nat.{ℕ, ◌+◌, ◌*◌, ◌-◌, ◌≤◌, ◌<◌}
use native.Mathlib.Nat.{mul-le-mul_left, mul-zero}
use native.Mathlib.Omega.{arith}
use lib.ListN.{length, get_or, set}
use lib.Seq.{ext_get_or}
use Rattle.base.specs.Count.{sum_to}
use Rattle.base.proofs.Counts.{sum_to-le, sum_to-cong, sum_to-zero}
use Rattle.base.proofs.Lists.{get_or-paste-in}
use Rattle.base.proofs.Numbers.{lt-or-le}
use Rattle.le.specs.Le.{Bytes, le_of, le_bytes, le_at, le_put}
use Rattle.le.proofs.Laws.{length-le_bytes, length-le_put, get_or-le_put-out, le_at-le_put-fits, le_put-bytes, le_put-le_at}
use Rattle.arena.specs.Fields.{File, file_of, number_of, stored_check, check_of, seal, is_head, zeros}
use Rattle.arena.proofs.Fields.{Same24, number-cong, file-cong, head-cong}
use Rattle.arena.proofs.Fresh.{length-zeros, get_or-zeros, zeros-bytes}

-- ---- the check

most-is : sum_to (λ i. (i + 1) * 255) 508 ≡ 32967930
unfolding sum_to
most-is = refl

-- "at most 32,967,930"
pub check-most : (b : List ℕ) → Bytes b → check_of b ≤ 32967930
unfolding check_of
check-most b h = rw (sym most-is) (sum_to-le (λ i. (i + 1) * get_or b i 0) (λ i. (i + 1) * 255) 508 (λ j l. mul-le-mul_left (j + 1) (omega (arith, h j))))

-- it looks at the first 508 bytes
pub check-cong : (b c : List ℕ) → ((j : ℕ) → j < 508 → get_or b j 0 ≡ get_or c j 0) → check_of b ≡ check_of c
unfolding check_of
check-cong b c h = sum_to-cong (λ i. (i + 1) * get_or b i 0) (λ i. (i + 1) * get_or c i 0) 508 (λ j l. ap (λ (x : ℕ). (j + 1) * x) (h j l))

-- ---- sealed

module _ (b : List ℕ) (size : length b ≡ 512) where
  pub length-seal : length (seal b) ≡ 512
  unfolding seal
  length-seal = length-le_put b 508 4 (check_of b) (omega arith) ∙ size

  -- all but the check stays
  pub get_or-seal : (j : ℕ) → j < 508 → get_or (seal b) j 0 ≡ get_or b j 0
  unfolding seal
  get_or-seal j l = get_or-le_put-out b 508 4 (check_of b) (omega arith) j (λ g. absurd (omega arith))

  pub check-seal : check_of (seal b) ≡ check_of b
  check-seal = check-cong (seal b) b get_or-seal

  pub seal-bytes : Bytes b → Bytes (seal b)
  unfolding seal
  seal-bytes h = le_put-bytes b 508 4 (check_of b) (omega arith) h

  -- the check that is stored is the check
  pub seal-right : Bytes b → stored_check (seal b) ≡ check_of (seal b)
  unfolding seal
  seal-right h = le_at-le_put-fits b 508 4 (check_of b) (omega arith) (omega (arith, check-most b h)) ∙ sym check-seal

  seal-24 : Same24 (seal b) b
  seal-24 j l = get_or-seal j (omega arith)

  pub seal-number : number_of (seal b) ≡ number_of b
  seal-number = number-cong (seal b) b length-seal size seal-24

  pub seal-file : file_of (seal b) ≡ file_of b
  seal-file = file-cong (seal b) b length-seal size seal-24

  pub seal-head : (f : File) → is_head f (seal b) ≡ is_head f b
  seal-head = head-cong (seal b) b length-seal size seal-24

  -- a block whose check is right is sealed already
  pub seal-own : Bytes b → stored_check b ≡ check_of b → seal b ≡ b
  unfolding seal
  seal-own h e = ap (le_put b 508 4) (sym e) ∙ le_put-le_at b 508 4 (omega arith) h

-- blocks that agree before the check are sealed the same
pub seal-cong : (b c : List ℕ) → length b ≡ 512 → length c ≡ 512 → ((j : ℕ) → j < 508 → get_or b j 0 ≡ get_or c j 0) → seal b ≡ seal c
unfolding seal le_put
seal-cong b c lb lc h =
    let n = length-le_bytes 4 (check_of b) in
    let m = length-le_bytes 4 (check_of c) in
    let e : check_of b ≡ check_of c = check-cong b c h in
    ext_get_or 0 _ _ (length-seal b lb ∙ sym (length-seal c lc))
    (λ j l. ⊎_elim
    (λ low. get_or-seal b lb j low ∙ h j low ∙ sym (get_or-seal c lc j low))
    (λ (g : 508 ≤ j).
    let i : ℕ = j - 508 in
    let q : 508 + i ≡ j = omega arith in
    let k : i < 4 = omega (arith, length-seal b lb) in
    ap (λ (x : ℕ). get_or (seal b) x 0) (sym q)
    ∙ get_or-paste-in b 508 (le_bytes 4 (check_of b)) (omega arith) i (omega arith)
    ∙ ap (λ (v : ℕ). get_or (le_bytes 4 v) i 0) e
    ∙ sym (get_or-paste-in c 508 (le_bytes 4 (check_of c)) (omega arith) i (omega arith))
    ∙ ap (λ (x : ℕ). get_or (seal c) x 0) q)
    (lt-or-le j 508))

-- sealed twice is sealed once
pub seal-seal : (b : List ℕ) → length b ≡ 512 → seal (seal b) ≡ seal b
seal-seal b size = seal-cong (seal b) b (length-seal b size) size (get_or-seal b size)

-- a block of zeros is sealed
check-zeros : check_of zeros ≡ 0
unfolding check_of
check-zeros = sum_to-cong (λ i. (i + 1) * get_or zeros i 0) (λ i. 0) 508 (λ j l. rw (get_or-zeros j) (mul-zero (j + 1))) ∙ sum_to-zero 508

stored-zeros : stored_check zeros ≡ 0
unfolding le_at le_of zeros
stored-zeros = refl

pub zeros-right : stored_check zeros ≡ check_of zeros
zeros-right = stored-zeros ∙ sym check-zeros

pub seal-zeros : seal zeros ≡ zeros
seal-zeros = seal-own zeros length-zeros zeros-bytes zeros-right

-- course example: "Arena block with only byte 0 = 2: check 2"
pub check-two : check_of (set zeros 0 2) ≡ 2
unfolding check_of sum_to zeros
check-two = refl
