-- A number's digits laid from the last to the first.
use mathlib.Core.Path.{◌≡◌, refl, sym, ap, ap₂, ◌∙◌}
use mathlib.Core.List.{List, [], ◌∷◌, ◌++◌, append-nil, append_assoc}
use Prim.Native.Nat.{ℕ, ◌+◌, ◌-◌, ◌/◌, ◌%◌, ◌≤◌, ◌<◌}
use native.Mathlib.Omega.{arith}
use lib.ListN.{length, set, length-set, length-append}
use Rattle.base.specs.Parts.{paste}
use Rattle.inventory.specs.Text.{decimal}
use Rattle.inventory_lines.proofs.Pastes.{paste_none, lay-before}
use Rattle.inventory_lines.proofs.Decimals.{decimal-low, decimal-high, length-low, length_high, length_some}

-- r is a with the last digits of n laid over it: those of m are left, and e is the place of their last
pub record Behind (a : List ℕ) (at n : ℕ) (r : List ℕ) (m e : ℕ) : Type 0 where
  pub rest : List ℕ
  pub spelt : decimal n ≡ decimal m ++ rest
  pub laid : r ≡ paste a (e + 1) rest
  pub place : e + 1 ≡ at + length (decimal m)
  pub size : length r ≡ length a

pub behind-none : (a : List ℕ) (at n e : ℕ) → e + 1 ≡ at + length (decimal n) → Behind a at n a n e
behind-none a at n e h = record {
  rest = [];
  spelt = sym (append-nil (decimal n));
  laid = paste_none a (e + 1);
  place = h;
  size = refl;
}

module _ (a : List ℕ) (at n : ℕ) (r : List ℕ) (m e : ℕ) (room : at + length (decimal n) ≤ length a) (B : Behind a at n r m e) where
  pub behind-fits : e + 1 + length B.rest ≤ length a
  behind-fits = omega (arith, B.place, ap length B.spelt ∙ length-append (decimal m) B.rest)

  pub behind_more : (v : ℕ) → 10 ≤ m → v ≡ 48 + m % 10 → Behind a at n (set r e v) (m / 10) (e - 1)
  behind_more v h q =
      let k : e + 1 ≡ at + (length (decimal (m / 10)) + 1) = B.place ∙ ap (λ (i : ℕ). at + i) (length_high m h) in
      let z : e ≡ e - 1 + 1 = omega (arith, k, length_some (m / 10)) in
      record {
        rest = v ∷ B.rest;
        spelt = B.spelt ∙ ap (λ (l : List ℕ). l ++ B.rest) (decimal-high m h) ∙ append_assoc (decimal (m / 10)) ((48 + m % 10) ∷ []) B.rest ∙ ap (λ (d : ℕ). decimal (m / 10) ++ (d ∷ B.rest)) (sym q);
        laid = ap (λ (l : List ℕ). set l e v) B.laid ∙ lay-before a e v B.rest behind-fits ∙ ap (λ (i : ℕ). paste a i (v ∷ B.rest)) z;
        place = omega (arith, k, z);
        size = length-set r e v ∙ B.size;
      }

  pub behind-all : (v : ℕ) → m < 10 → v ≡ 48 + m → set r e v ≡ paste a at (decimal n)
  behind-all v h q =
      let z : e ≡ at = omega (arith, B.place, length-low m h) in
      let s : v ∷ B.rest ≡ decimal n = ap (λ (d : ℕ). d ∷ B.rest) q ∙ sym (B.spelt ∙ ap (λ (l : List ℕ). l ++ B.rest) (decimal-low m h)) in
      ap (λ (l : List ℕ). set l e v) B.laid ∙ lay-before a e v B.rest behind-fits ∙ ap₂ (paste a) z s
