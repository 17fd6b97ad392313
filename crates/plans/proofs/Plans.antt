-- The plan: which blocks a run touches, where each is, and how many are absent.
use mathlib.Core.Path.{◌≡◌, refl, sym, ap, ◌∙◌}
use mathlib.Core.Bool.{Bool, true, false, not}
use mathlib.Core.List.{List}
use Prim.Native.Nat.{ℕ, zero, suc, ◌+◌, ◌*◌, ◌-◌, ◌/◌, ◌≤◌, ◌<◌}
use native.Mathlib.Decide.{ℕ_discrete}
use native.Mathlib.Omega.{arith}
use lib.ListN.{length, get_or, set}
use lib.Seq.{get_or-set_same, get_or-set_other}
use lib.Dec.{eqb}
use borrow.Author.Tests.{eq-eqb, ne_eqb, ltb-true}
use Rattle.base.specs.Count.{bit}
use Rattle.base.specs.Search.{pick}
use Rattle.base.proofs.Counts.{count_to-more}
use Rattle.arena.specs.Fields.{File}
use Rattle.arena.specs.Places.{data_of}
use Rattle.files.specs.Read.{present}
use Rattle.files.specs.Store.{lo, hi, touched}
use Rattle.files_laws.proofs.Put.{touched-is}
use Rattle.chains.specs.Led.{block_at}
use Rattle.plans.specs.Plan.{absent_to, Places}

pub touched-some : (pos n : ℕ) → (n ≡ 0 → ⊥) → (pos + n - 1) / 480 + 1 - pos / 480 ≡ touched pos n
unfolding touched
touched-some pos zero z = absurd (z refl)
touched-some pos (suc n) z = ap (λ (x : ℕ). x / 480 + 1 - pos / 480) (let e : pos + suc n - 1 ≡ pos + n = omega arith in e)

pub touched_none : (pos n : ℕ) → n ≡ 0 → 0 ≡ touched pos n
unfolding touched
touched_none pos n e = sym (ap (touched pos) e)

-- a block that is touched has a byte of the run
pub touched-lies : (pos n i : ℕ) → i < touched pos n → (pos ≤ 480 * (pos / 480 + i) + 480) × (480 * (pos / 480 + i) ≤ pos + n)
touched-lies pos n i l = let h = ltb-true (lo pos (pos / 480 + i)) (hi pos n (pos / 480 + i)) (touched-is pos n i l) in (omega arith, omega arith)

-- ---- where a block is

module _ (a : List ℕ) (f : File) (q c : ℕ) (is : c ≡ block_at a f q) where
  pub block-there : 0 < c → (present a f q ≡ true) × (data_of a f q ≡ c - 1)
  block-there l = go (present a f q) (sym is)
    where
      go : (b : Bool) → pick b (suc (data_of a f q)) 0 ≡ c → (b ≡ true) × (data_of a f q ≡ c - 1)
      go true e = (refl, omega arith)
      go false e = absurd (omega arith)

  pub block-gone : c ≡ 0 → present a f q ≡ false
  block-gone z = go (present a f q) (sym is)
    where
      go : (b : Bool) → pick b (suc (data_of a f q)) 0 ≡ c → b ≡ false
      go true e = absurd (omega arith)
      go false e = refl

  block-bit : bit (eqb c 0) ≡ bit (not (present a f q))
  block-bit = go (present a f q) (sym is)
    where
      go : (b : Bool) → pick b (suc (data_of a f q)) 0 ≡ c → bit (eqb c 0) ≡ bit (not b)
      go true e = ap bit (ne_eqb c 0 (λ z. omega arith))
      go false e = ap bit (eq-eqb c 0 (sym e))

-- ---- one block more

module _ (a : List ℕ) (f : File) (pos i c : ℕ) (is : c ≡ block_at a f (pos / 480 + i)) where
  pub places-more : (plan : List ℕ) → i < length plan → Places a f pos plan i → Places a f pos (set plan i c) (i + 1)
  places-more plan l P j h = elim (ℕ_discrete j i) [
    | yes e ↦ ap (λ (x : ℕ). get_or (set plan i c) x 0) e ∙ get_or-set_same plan i c 0 l ∙ is ∙ ap (λ (x : ℕ). block_at a f (pos / 480 + x)) (sym e)
    | no e ↦ get_or-set_other plan i j c 0 e ∙ P j (omega arith)
  ]

  pub absent_more : (m n : ℕ) → m ≡ absent_to a f pos i → n ≡ m + bit (eqb c 0) → n ≡ absent_to a f pos (i + 1)
  absent_more m n e q = omega (arith, count_to-more (λ j. not (present a f (pos / 480 + j))) i, block-bit a f (pos / 480 + i) c is)
