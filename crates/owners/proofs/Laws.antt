-- The chains by themselves.
use mathlib.Core.Path.{◌≡◌, refl, ◌∙◌}
use mathlib.Core.Bool.{true, false}
use mathlib.Core.List.{List}
use Prim.Native.Nat.{ℕ}
use native.Mathlib.Omega.{arith}
use lib.ListN.{length}
use Rattle.base.specs.Out.{well, ill}
use Rattle.arena.specs.Blocks.{blocks, legal}
use Rattle.sound.specs.Chain.{Chains, firsts, nexts}
use Rattle.edge.proofs.Laws.{sized-is, sized-not}
use Rattle.owners.specs.Builds.{Builds}

module _ (a c : List ℕ) where
  pub built-size : (length c ≡ 8192 → ⊥) → Builds a c c 255
  built-size z = record { went = ill {r = 255} (omega arith) (sized-not 8192 c _ z); kept = λ _. refl }

  pub built-not : length c ≡ 8192 → legal a ≡ false → Builds a c c 1
  built-not n f = record { went = ill {r = 1} (omega arith) (sized-is 8192 c _ n ∙ rw f); kept = λ _. refl }

  pub built : (d : List ℕ) → length c ≡ 8192 → legal a ≡ true → length d ≡ length c → Chains a (firsts d) (nexts d) (blocks a) → Builds a c d 0
  built d n f m k = record { went = well (sized-is 8192 c _ n ∙ rw f) (record { size = m ∙ n; chains = k }); kept = λ z. absurd (z refl) }
