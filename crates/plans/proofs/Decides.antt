-- What the count of the plan's absent blocks decides.
use mathlib.Core.Path.{◌≡◌, refl, sym, ap, ◌∙◌, subst}
use mathlib.Core.Bool.{true}
use mathlib.Core.List.{List}
use Prim.Native.Nat.{ℕ, ◌≤◌, ◌<◌}
use native.Mathlib.Omega.{arith}
use lib.ListN.{length}
use Rattle.base.specs.Out.{refused}
use Rattle.arena.specs.Blocks.{blocks}
use Rattle.arena.specs.Fields.{File}
use Rattle.arena.specs.Places.{free_count}
use Rattle.files.specs.Read.{there}
use Rattle.files.specs.Store.{touched, put_file}
use Rattle.files_laws.specs.Laws.{lacking}
use Rattle.files_laws.proofs.Put.{put_full}
use Rattle.files_laws.proofs.Many.{lacking-many}
use Rattle.plans.specs.Plan.{absent_to, Places, Planned, Decided, can, cannot}

module _ (a : List ℕ) (f : File) (pos n : ℕ) (was : there a f ≡ true) where
  full : (plan : List ℕ) → free_count a < lacking a f pos n → Decided a f pos n plan 17
  full plan l = cannot {r = 17} (omega arith) (λ src e. put_full a f pos src was (subst (λ (x : ℕ). free_count a < lacking a f pos x) (sym e) l))

  pub too_many : (plan : List ℕ) (k : ℕ) → k ≡ touched pos n → blocks a < k → Decided a f pos n plan 17
  too_many plan k e l = full plan (lacking-many a f pos n (omega arith))

  module _ (plan : List ℕ) (k m free : ℕ) (touches : k ≡ touched pos n) (counts : m ≡ absent_to a f pos k) (frees : free ≡ free_count a) where
    lacks : m ≡ lacking a f pos n
    unfolding lacking
    lacks = counts ∙ ap (absent_to a f pos) touches

    pub too_few : free < m → Decided a f pos n plan 17
    too_few l = full plan (omega (arith, lacks))

    pub enough : m ≤ free → k ≤ length plan → Places a f pos plan k → Decided a f pos n plan 0
    enough l h P = can (record {
      few = omega arith;
      room = omega (arith, lacks);
      places = λ i x. P i (omega arith);
    })

pub decided-can : {a : List ℕ} {f : File} {pos n : ℕ} {plan : List ℕ} {r : ℕ} → Decided a f pos n plan r → r ≡ 0 → Planned a f pos n plan
decided-can (can p) z = p
decided-can (cannot l e) z = absurd (omega arith)

pub decided-not : {a : List ℕ} {f : File} {pos n : ℕ} {plan : List ℕ} {r : ℕ} → Decided a f pos n plan r → (r ≡ 0 → ⊥) → (src : List ℕ) → length src ≡ n → put_file a f pos src ≡ refused r
decided-not (can p) z src e = absurd (z refl)
decided-not (cannot l h) z src e = h src e
