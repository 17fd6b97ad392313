-- The verdict, rule by rule.
use mathlib.Core.Path.{◌≡◌, refl, ◌∙◌}
use mathlib.Core.Bool.{Bool, true, false}
use mathlib.Core.List.{List, [], ◌∷◌}
use mathlib.Core.Logic.{◌≢◌, ⊎_elim}
use Prim.Native.Nat.{ℕ, ◌≤◌}
use native.Mathlib.Omega.{arith}
use lib.Dec.{eqb}
use borrow.Author.Tests.{eq-eqb, ne_eqb}
use Rattle.base.specs.Search.{pick}
use Rattle.table.specs.declared.Table.{Table}
use Rattle.table.specs.Formed.{well_formed}
use Rattle.arena.specs.Blocks.{blk, blocks, legal}
use Rattle.arena.specs.Fields.{is_free}
use Rattle.base.proofs.Bools.{and_parts}
use Rattle.base.proofs.Counts.{count_to-le}
use Rattle.base.proofs.Finds.{eq-cases}
use Rattle.sound.specs.Sound.{sound}
use Rattle.rules.specs.Tests.{test1, test2, test3, test4, test5, folders_allowed, sizes_allowed, test6, test7, test8, checked}
use Rattle.base.specs.Decides.{first_fail}
use Rattle.arena.specs.Places.{free_count}
use Rattle.structs.specs.declared.SuperBlock.{SuperBlock}
use Rattle.mem.specs.Mem as memory
use Rattle.rules.specs.Image.{node_count}
use Rattle.fsck_read.specs.Loaded.{Of}
use Rattle.fsck.specs.declared.Verdict.{Verdict}
use Rattle.fsck.specs.declared.Verdict.TheVariants.{Pass, Fail}
use Rattle.fsck.specs.Verdicts.{pass_of, verdict_of, links_verdict, files_verdict, meta_verdict}

-- the lowest that fails of six tests, from number 3 on
from-three : (p : Verdict) (b3 b4 b5 b6 b7 b8 : Bool)
    → pick (eqb (first_fail 3 (b3 ∷ b4 ∷ b5 ∷ b6 ∷ b7 ∷ b8 ∷ [])) 0) p (Fail (first_fail 3 (b3 ∷ b4 ∷ b5 ∷ b6 ∷ b7 ∷ b8 ∷ [])))
    ≡ pick b3 (pick b4 (pick b5 (pick b6 (pick b7 (pick b8 p (Fail 8)) (Fail 7)) (Fail 6)) (Fail 5)) (Fail 4)) (Fail 3)
unfolding first_fail
from-three p false b4 b5 b6 b7 b8 = refl
from-three p true false b5 b6 b7 b8 = refl
from-three p true true false b6 b7 b8 = refl
from-three p true true true false b7 b8 = refl
from-three p true true true true false b8 = refl
from-three p true true true true true false = refl
from-three p true true true true true true = refl

module _ (a : List ℕ) (t : Table) where
  pub six-folders : folders_allowed a t ≡ false → test6 a t ≡ false
  unfolding test6
  six-folders e = rw e

  pub six-sizes : folders_allowed a t ≡ true → test6 a t ≡ sizes_allowed a t
  unfolding test6
  six-sizes e = rw e

  pub six-first : test6 a t ≡ true → folders_allowed a t ≡ true
  unfolding test6
  six-first e = (and_parts (folders_allowed a t) (sizes_allowed a t) e).0

  pub links-seven : test7 a t ≡ false → links_verdict a t ≡ Fail 7
  unfolding links_verdict
  links-seven e = rw e

  pub links-eight : test7 a t ≡ true → test8 a t ≡ false → links_verdict a t ≡ Fail 8
  unfolding links_verdict
  links-eight e f = rw (e, f)

  pub links-pass : test7 a t ≡ true → test8 a t ≡ true → links_verdict a t ≡ pass_of a
  unfolding links_verdict
  links-pass e f = rw (e, f)

  pub files-five : test5 a t ≡ false → files_verdict a t ≡ Fail 5
  unfolding files_verdict
  files-five e = rw e

  pub files-six : test5 a t ≡ true → test6 a t ≡ false → files_verdict a t ≡ Fail 6
  unfolding files_verdict
  files-six e f = rw (e, f)

  pub files-on : test5 a t ≡ true → test6 a t ≡ true → files_verdict a t ≡ links_verdict a t
  unfolding files_verdict
  files-on e f = rw (e, f)

  pub meta-three : test3 a ≡ false → meta_verdict a t ≡ Fail 3
  unfolding meta_verdict
  meta-three e = rw e

  pub meta-four : test3 a ≡ true → test4 a t ≡ false → meta_verdict a t ≡ Fail 4
  unfolding meta_verdict
  meta-four e f = rw (e, f)

  pub meta-on : test3 a ≡ true → test4 a t ≡ true → meta_verdict a t ≡ files_verdict a t
  unfolding meta_verdict
  meta-on e f = rw (e, f)

  pub verdict-length : legal a ≡ false → verdict_of a t ≡ Fail 1
  unfolding verdict_of checked test1 first_fail
  verdict-length e = rw e

  pub verdict-sound : legal a ≡ true → sound a ≡ false → verdict_of a t ≡ Fail 1
  unfolding verdict_of checked test1 first_fail
  verdict-sound e f = rw (e, f)

  pub verdict-table : legal a ≡ true → sound a ≡ true → well_formed t ≡ false → verdict_of a t ≡ Fail 2
  unfolding verdict_of checked test1 test2 first_fail
  verdict-table e f g = rw (e, f, g)

  pub verdict-on : legal a ≡ true → sound a ≡ true → well_formed t ≡ true → verdict_of a t ≡ meta_verdict a t
  unfolding verdict_of checked test1 test2 first_fail meta_verdict files_verdict links_verdict
  verdict-on e f g = rw (e, f, g) (from-three (pass_of a) (test3 a) (test4 a t) (test5 a t) (test6 a t) (test7 a t) (test8 a t))

-- the three counts, as the code has them
pub pass-is : (a m : List ℕ) (b : SuperBlock) (n f : ℕ) → Of a m → n ≡ node_count a → b ≡ memory.super_in m → f ≡ free_count a → Pass n b.unused f ≡ pass_of a
unfolding pass_of
pass-is a m b n f o p q r = rw (p, q, o.super, r)

pub free-most : (a : List ℕ) → free_count a ≤ blocks a
unfolding free_count
free-most a = count_to-le (λ k. is_free (blk a k)) (blocks a)

-- ---- what a verdict says

pub verdict-passes : (a : List ℕ) (t : Table) (x y z : ℕ) → verdict_of a t ≡ Pass x y z → checked a t ≡ 0
unfolding verdict_of
verdict-passes a t x y z v =
    ⊎_elim (λ e. e) (λ d. absurd (let f : Fail (checked a t) ≡ Pass x y z = rw (ne_eqb (checked a t) 0 d) at v in let w : ◌≡◌ {A = ℕ} 0 1 = cc in omega arith)) (eq-cases (checked a t) 0)

pub verdict-fails : (a : List ℕ) (t : Table) (k : ℕ) → verdict_of a t ≡ Fail k → (k ≢ 0) × (checked a t ≡ k)
unfolding verdict_of pass_of
verdict-fails a t k v =
    ⊎_elim
    (λ e. absurd (let f : pass_of a ≡ Fail k = rw (eq-eqb (checked a t) 0 e) at v in let w : ◌≡◌ {A = ℕ} 0 1 = cc in omega arith))
    (λ d. let f : Fail (checked a t) ≡ Fail k = rw (ne_eqb (checked a t) 0 d) at v in let g : checked a t ≡ k = cc in (λ q. d (g ∙ q), g))
    (eq-cases (checked a t) 0)
