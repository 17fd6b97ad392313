-- The sum of one byte more.
use mathlib.Core.Path.{◌≡◌, refl, sym, ap₂, ◌∙◌}
use mathlib.Core.List.{List}
use Prim.Native.Nat.{ℕ, ◌+◌, ◌*◌, ◌%◌}
use native.Mathlib.Numerals.{add-one}
use lib.ListN.{get_or}
use Rattle.sums.specs.Sum.{sum_of}

module _ (l : List ℕ) (i : ℕ) where
  at_more : sum_of l (i + 1) ≡ (sum_of l i * 257 + get_or l i 0 + 1) % 4294967291
  unfolding sum_of
  at_more = rw (add-one i)

  pub sum_more : (h b : ℕ) → h ≡ sum_of l i → b ≡ get_or l i 0 → (h * 257 + b + 1) % 4294967291 ≡ sum_of l (i + 1)
  sum_more h b p q = ap₂ (λ (x y : ℕ). (x * 257 + y + 1) % 4294967291) p q ∙ sym at_more

pub sum_none : (l : List ℕ) → ◌≡◌ {A = ℕ} 0 (sum_of l 0)
unfolding sum_of
sum_none l = refl
