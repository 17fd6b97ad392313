-- Two lists of 4,096 numbers in one: what was lent as one half and comes back.
use mathlib.Core.Path.{◌≡◌, sym, ap, ◌∙◌}
use mathlib.Core.List.{List}
use Prim.Native.Nat.{ℕ, ◌+◌}
use native.Mathlib.Omega.{arith}
use lib.ListN.{length}
use Rattle.base.specs.Parts.{part, back, paste}
use Rattle.base.proofs.Lists.{length-paste, part-paste, part-paste-other}
use Rattle.base.proofs.Parts.{back-paste}

module _ (w h : List ℕ) (size : length w ≡ 8192) (half : length h ≡ 4096) where
  pub low-size : length (back w 0 4096 h) ≡ 8192
  low-size = ap length (back-paste w h 0 4096 half) ∙ length-paste w 0 h (omega arith) ∙ size

  pub low-low : part (back w 0 4096 h) 0 4096 ≡ h
  low-low =
      ap (λ (x : List ℕ). part x 0 4096) (back-paste w h 0 4096 half)
      ∙ ap (λ (n : ℕ). part (paste w 0 h) 0 (0 + n)) (sym half) ∙ part-paste w 0 h (omega arith)

  pub low-high : part (back w 4096 8192 h) 0 4096 ≡ part w 0 4096
  low-high = ap (λ (x : List ℕ). part x 0 4096) (back-paste w h 4096 4096 half) ∙ part-paste-other w 4096 h (omega arith) 0 4096 (λ l. omega arith)

  pub high-high : part (back w 4096 8192 h) 4096 8192 ≡ h
  high-high =
      ap (λ (x : List ℕ). part x 4096 8192) (back-paste w h 4096 4096 half)
      ∙ ap (λ (n : ℕ). part (paste w 4096 h) 4096 (4096 + n)) (sym half) ∙ part-paste w 4096 h (omega arith)
