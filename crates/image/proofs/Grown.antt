-- The maps with one group more: the bits before are as they were, and of the new ones every bit is set but that of the map's own block.
use mathlib.Core.Path.{◌≡◌, refl, sym, ap, ◌∙◌}
use mathlib.Core.Bool.{true, false}
use mathlib.Core.List.{List, ◌++◌}
use mathlib.Core.Logic.{◌≢◌}
use Prim.Native.Nat.{ℕ, zero, suc, ◌+◌, ◌*◌, ◌/◌, ◌%◌, ◌<◌}
use native.Mathlib.Omega.{arith}
use lib.ListN.{length, get_or, get_or-replicate, get_or-append}
use lib.Seq.{get_or-append-add}
use Rattle.maps.specs.Maps.{bit_of, bit_at}
use Rattle.sefs.specs.Meta.{new_map}

full-bit : (k : ℕ) → k < 8 → bit_of 255 k ≡ true
unfolding bit_of
full-bit zero l = refl
full-bit (suc zero) l = refl
full-bit (suc (suc zero)) l = refl
full-bit (suc (suc (suc zero))) l = refl
full-bit (suc (suc (suc (suc zero)))) l = refl
full-bit (suc (suc (suc (suc (suc zero))))) l = refl
full-bit (suc (suc (suc (suc (suc (suc zero)))))) l = refl
full-bit (suc (suc (suc (suc (suc (suc (suc zero))))))) l = refl
full-bit (suc (suc (suc (suc (suc (suc (suc (suc k)))))))) l = absurd (omega arith)

first_bit_lem : (k : ℕ) → k < 8 → k ≢ 1 → bit_of 253 k ≡ true
unfolding bit_of
first_bit_lem zero l n = refl
first_bit_lem (suc zero) l n = absurd (n refl)
first_bit_lem (suc (suc zero)) l n = refl
first_bit_lem (suc (suc (suc zero))) l n = refl
first_bit_lem (suc (suc (suc (suc zero)))) l n = refl
first_bit_lem (suc (suc (suc (suc (suc zero))))) l n = refl
first_bit_lem (suc (suc (suc (suc (suc (suc zero)))))) l n = refl
first_bit_lem (suc (suc (suc (suc (suc (suc (suc zero))))))) l n = refl
first_bit_lem (suc (suc (suc (suc (suc (suc (suc (suc k)))))))) l n = absurd (omega arith)

byte-bit : (j k : ℕ) → j < 128 → k < 8 → 8 * j + k ≢ 1 → bit_of (get_or new_map j 0) k ≡ true
byte-bit zero k l m n = first_bit_lem k m (λ e. n (omega arith))
byte-bit (suc j) k l m n = ap (λ (x : ℕ). bit_of x k) (get_or-replicate 127 j 255 0 (omega arith)) ∙ full-bit k m

module _ (m : List ℕ) (g : ℕ) (long : length m ≡ 128 * g) where
  pub grown-before : (i : ℕ) → i < 1024 * g → bit_at (m ++ new_map) i ≡ bit_at m i
  unfolding bit_at
  grown-before i l = ap (λ (x : ℕ). bit_of x (i % 8)) (get_or-append m new_map 0 (i / 8) (omega arith))

  byte-new : (j : ℕ) → get_or (m ++ new_map) (128 * g + j) 0 ≡ get_or new_map j 0
  byte-new j = ap (λ (n : ℕ). get_or (m ++ new_map) (n + j) 0) (sym long) ∙ get_or-append-add m new_map j 0

  pub grown-own : bit_at (m ++ new_map) (1024 * g + 1) ≡ false
  unfolding bit_at bit_of
  grown-own =
      ap (λ (k : ℕ). bit_of (get_or (m ++ new_map) k 0) ((1024 * g + 1) % 8)) (let z : (1024 * g + 1) / 8 ≡ 128 * g + 0 = omega arith in z)
      ∙ ap (λ (k : ℕ). bit_of (get_or (m ++ new_map) (128 * g + 0) 0) k) (let z : (1024 * g + 1) % 8 ≡ 1 = omega arith in z)
      ∙ ap (λ (x : ℕ). bit_of x 1) (byte-new 0)

  pub grown-set : (j : ℕ) → j < 1024 → j ≢ 1 → bit_at (m ++ new_map) (1024 * g + j) ≡ true
  unfolding bit_at
  grown-set j l n =
      ap (λ (k : ℕ). bit_of (get_or (m ++ new_map) k 0) ((1024 * g + j) % 8)) (let z : (1024 * g + j) / 8 ≡ 128 * g + j / 8 = omega arith in z)
      ∙ ap (λ (k : ℕ). bit_of (get_or (m ++ new_map) (128 * g + j / 8) 0) k) (let z : (1024 * g + j) % 8 ≡ j % 8 = omega arith in z)
      ∙ ap (λ (x : ℕ). bit_of x (j % 8)) (byte-new (j / 8))
      ∙ byte-bit (j / 8) (j % 8) (omega arith) (omega arith) (λ e. n (omega arith))
