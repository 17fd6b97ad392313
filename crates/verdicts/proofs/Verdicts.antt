-- The table of move verdicts: its rule is one test over all sixteen entries, which antt computes.
use mathlib.Core.Path.{◌≡◌, refl, ap, ap₂, ◌∙◌}
use mathlib.Core.Bool.{Bool, true}
use mathlib.Core.List.{List, [], ◌∷◌}
use Prim.Native.Nat.{ℕ, zero, suc, ◌+◌, ◌*◌, ◌-◌, ◌/◌, ◌%◌, ◌≤◌, ◌<◌}
use native.Mathlib.Omega.{arith}
use lib.Dec.{eqb}
use lib.ListN.{get_or}
use borrow.Author.Tests.{eqb-true}
use Rattle.base.specs.Count.{all_to}
use Rattle.base.proofs.Counts.{all_to-true}
use Rattle.structs.specs.declared.MoveVerdict.{MoveVerdict}
use Rattle.structs.specs.declared.MoveVerdict.TheVariants.{Allowed, NotDir, IsDir, IfEmpty}
use Rattle.structs.specs.Types.{move_verdict_of}

abbrev pub verdicts : List ℕ
verdicts = 0 ∷ 2 ∷ 0 ∷ 0 ∷ 1 ∷ 3 ∷ 1 ∷ 1 ∷ 0 ∷ 2 ∷ 0 ∷ 0 ∷ 0 ∷ 2 ∷ 0 ∷ 0 ∷ []

-- an entry's meaning, as the code matches on it
abbrev pub meant : ℕ → MoveVerdict
meant zero = Allowed
meant (suc zero) = NotDir
meant (suc (suc zero)) = IsDir
meant (suc (suc (suc n))) = IfEmpty

abbrev number : MoveVerdict → ℕ
number Allowed = 0
number NotDir = 1
number IsDir = 2
number IfEmpty = 3

meant-number : (v : MoveVerdict) → meant (number v) ≡ v
meant-number Allowed = refl
meant-number NotDir = refl
meant-number IsDir = refl
meant-number IfEmpty = refl

abbrev right : ℕ → Bool
right k = eqb (get_or verdicts k 0) (number (move_verdict_of (k / 4 + 1) (k % 4 + 1)))

-- the rule, over the whole table
rule : all_to right 16 ≡ true
unfolding all_to move_verdict_of
rule = refl

pub verdict-at : (m r : ℕ) → (1 ≤ m) × (m ≤ 4) → (1 ≤ r) × (r ≤ 4) → meant (get_or verdicts ((m - 1) * 4 + (r - 1)) 0) ≡ move_verdict_of m r
verdict-at m r p q =
    let k : ℕ = (m - 1) * 4 + (r - 1) in
    let l : k < 16 = omega (arith, p.0, p.1, q.0, q.1) in
    let a : k / 4 + 1 ≡ m = omega (arith, p.0, p.1, q.0, q.1) in
    let b : k % 4 + 1 ≡ r = omega (arith, p.0, p.1, q.0, q.1) in
    ap meant (eqb-true (get_or verdicts k 0) (number (move_verdict_of (k / 4 + 1) (k % 4 + 1))) (all_to-true right 16 rule k l))
    ∙ meant-number (move_verdict_of (k / 4 + 1) (k % 4 + 1)) ∙ ap₂ move_verdict_of a b

pub meant-rest : (x : ℕ) → (x ≡ 0 → ⊥) → (x ≡ 1 → ⊥) → (x ≡ 2 → ⊥) → IfEmpty ≡ meant x
meant-rest zero a b c = absurd (a refl)
meant-rest (suc zero) a b c = absurd (b refl)
meant-rest (suc (suc zero)) a b c = absurd (c refl)
meant-rest (suc (suc (suc n))) a b c = refl
