-- The structures at a place of a longer list: what was written there is read there, what was read there and is written again changes nothing,
-- and only their own bytes change. One law each, for all three structures.
use mathlib.Core.Path.{◌≡◌, sym, ap, ◌∙◌}
use mathlib.Core.List.{List}
use Prim.Native.Nat.{ℕ, ◌+◌, ◌≤◌}
use native.Mathlib.Omega.{arith}
use lib.ListN.{length, get_or}
use Rattle.base.specs.Parts.{part, paste}
use Rattle.base.proofs.Lists.{part-paste, get_or-paste-out}
use Rattle.structs.specs.declared.SuperBlock.{SuperBlock}
use Rattle.structs.specs.Layout.{super_of, super_bytes}
use Rattle.structs.specs.Fits.{SuperFits}
use Rattle.structs.proofs.Layouts.{length-super_bytes, super_of-super_bytes}

-- n bytes laid over l from s on: what stands there, and what stands elsewhere
pub part-written : (n : ℕ) (l : List ℕ) (s : ℕ) (b : List ℕ) → length b ≡ n → s + n ≤ length l → part (paste l s b) s (s + n) ≡ b
part-written n l s b e h = ap (λ (k : ℕ). part (paste l s b) s (s + k)) (sym e) ∙ part-paste l s b (omega arith)

pub only-own : (n : ℕ) (l : List ℕ) (s : ℕ) (b : List ℕ) → length b ≡ n → s + n ≤ length l → (i : ℕ) → (s ≤ i → s + n ≤ i) → get_or (paste l s b) i 0 ≡ get_or l i 0
only-own n l s b e h i o = get_or-paste-out l s b (omega arith) i (λ g. omega (arith, o g))

pub super-written : (l : List ℕ) (s : ℕ) (b : SuperBlock) → SuperFits b → s + 16 ≤ length l → super_of (part (paste l s (super_bytes b)) s (s + 16)) ≡ b
super-written l s b F h = ap super_of (part-written 16 l s (super_bytes b) (length-super_bytes b) h) ∙ super_of-super_bytes b F
