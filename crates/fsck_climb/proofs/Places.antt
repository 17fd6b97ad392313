-- Which folders have a place.
use mathlib.Core.Path.{◌≡◌, refl, ap}
use mathlib.Core.Bool.{true, false, not}
use mathlib.Core.List.{List}
use mathlib.Core.Logic.{◌≢◌}
use Prim.Native.Nat.{ℕ}
use lib.Dec.{eqb}
use borrow.Author.Tests.{eq-eqb, ne_eqb}
use Rattle.base.proofs.Bools.{or-first, or-second, true-false}
use Rattle.table.specs.declared.Table.{Table}
use Rattle.rules.specs.Image.{named}
use Rattle.fsck_climb.specs.Way.{has_place}

module _ (a : List ℕ) (t : Table) where
  pub place-root : has_place a t 2 ≡ true
  unfolding has_place
  place-root = or-first (not (eqb (named a t 2) 0)) (eq-eqb 2 2 refl)

  module _ (id : ℕ) where
    pub place-named : named a t id ≢ 0 → has_place a t id ≡ true
    unfolding has_place
    place-named n = or-second (eqb id 2) (ap not (ne_eqb (named a t id) 0 n))

    pub place_none : id ≢ 2 → named a t id ≡ 0 → has_place a t id ≡ false
    unfolding has_place
    place_none n z = rw (ne_eqb id 2 n, eq-eqb (named a t id) 0 z) refl

    pub named-place : has_place a t id ≡ true → id ≢ 2 → named a t id ≢ 0
    named-place p n z = true-false p (place_none n z)
