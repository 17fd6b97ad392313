-- The parts of a text: the first ends at the first slash, and the others are those of what comes after it.
use mathlib.Core.Path.{◌≡◌, refl, sym, ap}
use mathlib.Core.Bool.{true, false}
use mathlib.Core.List.{List, [], ◌∷◌}
use Prim.Native.Nat.{ℕ, zero, suc, ◌<◌}
use native.Mathlib.Omega.{arith}
use lib.ListN.{length, get_or, take, drop}
use lib.Dec.{eqb}
use lib.Seq.{take-nil}
use mathlib.Core.Logic.{⊎_elim}
use Rattle.base.proofs.Bools.{bool_cases}
use Rattle.base.proofs.Searches.{First, lowest-first, lowest-here, first-is}
use Rattle.utf8.specs.Names.{first_at}
use Rattle.walk.specs.Walk.{slash, is_slash, onto, cut}

-- the first slash after another byte is one place further
first-slash : (b : ℕ) (l : List ℕ) → is_slash b ≡ true → first_at slash (b ∷ l) ≡ 0
first-slash b l e = sym (lowest-here (λ j. eqb (get_or (b ∷ l) j 0) slash) (suc (length l)) 0 (omega arith) (λ j h. absurd (omega arith)) e)

first-later : (b : ℕ) (l : List ℕ) → is_slash b ≡ false → first_at slash (b ∷ l) ≡ suc (first_at slash l)
first-later b l e =
    let F = lowest-first (λ j. eqb (get_or l j 0) slash) (length l) in
    sym (first-is (λ j. eqb (get_or (b ∷ l) j 0) slash) (suc (length l)) (suc (first_at slash l)) (record { most = omega (arith, F.most); before = before F; hit = λ h. F.hit (omega arith) }))
  where
    before : First (λ j. eqb (get_or l j 0) slash) (length l) (first_at slash l) → (j : ℕ) → j < suc (first_at slash l) → eqb (get_or (b ∷ l) j 0) slash ≡ false
    before F zero h = e
    before F (suc j) h = F.before j (omega arith)

pub cut-none : cut [] ≡ []
unfolding cut
cut-none = refl

-- the first part, with a byte before it
abbrev begins : List ℕ → List (List ℕ)
begins l = take (first_at slash l) l ∷ cut (drop (suc (first_at slash l)) l)

begins-slash : (b : ℕ) (l : List ℕ) → is_slash b ≡ true → cut (b ∷ l) ≡ begins (b ∷ l)
unfolding cut
begins-slash b l e = rw (e, first-slash b l e)

begins-later : (b : ℕ) (l : List ℕ) → is_slash b ≡ false → onto b (cut l) ≡ (b ∷ take (first_at slash l) l) ∷ cut (drop (suc (first_at slash l)) l) → cut (b ∷ l) ≡ begins (b ∷ l)
unfolding cut
begins-later b l e h = rw (e, first-later b l e) h

last_byte : (b : ℕ) → onto b (cut []) ≡ (b ∷ take (first_at slash []) []) ∷ cut (drop (suc (first_at slash [])) [])
unfolding cut
last_byte b = rw (take-nil (first_at slash []))

pub cut-first : (b : ℕ) (l : List ℕ) → cut (b ∷ l) ≡ take (first_at slash (b ∷ l)) (b ∷ l) ∷ cut (drop (suc (first_at slash (b ∷ l))) (b ∷ l))
cut-first b [] = ⊎_elim (begins-slash b []) (λ e. begins-later b [] e (last_byte b)) (bool_cases (is_slash b))
cut-first b (c ∷ l) = ⊎_elim (begins-slash b (c ∷ l)) (λ e. begins-later b (c ∷ l) e (ap (onto b) (cut-first c l))) (bool_cases (is_slash b))
