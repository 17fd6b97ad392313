-- "Places reserved for each editor": four owners with at most 8 holds each leave a hold free for one who has fewer than 8.
use Prim.Native.Nat.{ℕ, ◌+◌, ◌<◌, ◌≤◌}
use native.Mathlib.Omega.{arith}
use mathlib.Core.Path.{◌≡◌, refl, ap, subst}
use mathlib.Core.Bool.{Bool, true, not}
use mathlib.Core.Logic.{⊎_elim}
use lib.Dec.{eqb}
use borrow.Author.Tests.{eqb-true, eqb-false, not-true, not-false, eq-eqb}
use Rattle.base.specs.Count.{bit, count_to}
use Rattle.base.proofs.Bools.{and_both, bool_cases}
use Rattle.base.proofs.Counts.{sum_to-le, sum_to-add}
use Rattle.base.proofs.Finds.{count_to-room}
use Rattle.base.proofs.Numbers.{lt-or-le}
use Rattle.base.proofs.Searches.{lowest-hit}
use Rattle.table.specs.declared.Table.{Table}
use Rattle.table.specs.Table.{hold_at, own_at, own_holds}
use Rattle.table_laws.specs.Rules.{Owner, Formed}

-- a hold that is free
pub record Spare (t : Table) : Type 0 where
  pub at : ℕ
  pub is-hold : at < 32
  pub free : (hold_at t at).stamp ≡ 0

-- an owner is one of four: what holds of each of them holds of him
each : (P : ℕ → Type 0) → P 1 → P 2 → P 3 → P 4 → (w : ℕ) → Owner w → P w
each P a b c d w o =
    ⊎_elim
    (λ l. let e : 1 ≡ w = omega (arith, o.least) in subst P e a)
    (λ l. ⊎_elim
    (λ m. let e : 2 ≡ w = omega arith in subst P e b)
    (λ m. ⊎_elim (λ n. let e : 3 ≡ w = omega arith in subst P e c) (λ n. let e : 4 ≡ w = omega (arith, o.most) in subst P e d) (lt-or-le w 4))
    (lt-or-le w 3))
    (lt-or-le w 2)

module _ {own : ℕ → Type 0} (t : Table) (y : Formed own t) where
  abbrev live : ℕ → Bool
  live i = not (eqb (hold_at t i).stamp 0)

  -- each live hold is one of the four's
  abbrev owners : ℕ → ℕ
  owners i = (bit (own_at t 1 i) + bit (own_at t 2 i)) + (bit (own_at t 3 i) + bit (own_at t 4 i))

  of_one : (i : ℕ) → i < 32 → live i ≡ true → 1 ≤ owners i
  of_one i l e =
      let is : (w : ℕ) → (hold_at t i).owner ≡ w → bit (own_at t w i) ≡ 1 = λ w q. ap bit (and_both e (eq-eqb _ w q)) in
      each (λ w. (hold_at t i).owner ≡ w → 1 ≤ owners i)
      (λ q. omega (arith, is 1 q)) (λ q. omega (arith, is 2 q)) (λ q. omega (arith, is 3 q)) (λ q. omega (arith, is 4 q))
      (hold_at t i).owner (y.owned i l (eqb-false _ 0 (not-true _ e))) refl

  of-all : (i : ℕ) → i < 32 → bit (live i) ≤ owners i
  of-all i l = ⊎_elim (λ e. omega (arith, of_one i l e, ap bit e)) (λ e. omega (arith, ap bit e)) (bool_cases (live i))

  -- so there are no more of them than the four have
  all-owned : count_to live 32 ≤ (own_holds t 1 + own_holds t 2) + (own_holds t 3 + own_holds t 4)
  unfolding count_to own_holds
  all-owned =
      omega (
        arith,
        sum_to-le (λ i. bit (live i)) owners 32 of-all,
        sum_to-add (λ i. bit (own_at t 1 i) + bit (own_at t 2 i)) (λ i. bit (own_at t 3 i) + bit (own_at t 4 i)) 32,
        sum_to-add (λ i. bit (own_at t 1 i)) (λ i. bit (own_at t 2 i)) 32,
        sum_to-add (λ i. bit (own_at t 3 i)) (λ i. bit (own_at t 4 i)) 32,
      )

  -- "32 live holds needs no test"
  few-live : (w : ℕ) → Owner w → own_holds t w < 8 → count_to live 32 < 32
  few-live w o =
      let one : own_holds t 1 ≤ 8 = y.few 1 (record { least = omega arith; most = omega arith }) in
      let two : own_holds t 2 ≤ 8 = y.few 2 (record { least = omega arith; most = omega arith }) in
      let three : own_holds t 3 ≤ 8 = y.few 3 (record { least = omega arith; most = omega arith }) in
      let four : own_holds t 4 ≤ 8 = y.few 4 (record { least = omega arith; most = omega arith }) in
      each (λ v. own_holds t v < 8 → count_to live 32 < 32)
      (λ l. omega (arith, all-owned, two, three, four))
      (λ l. omega (arith, all-owned, one, three, four))
      (λ l. omega (arith, all-owned, one, two, four))
      (λ l. omega (arith, all-owned, one, two, three))
      w o

  pub spare-hold : (w : ℕ) → Owner w → own_holds t w < 8 → Spare t
  spare-hold w o l =
      let k = count_to-room live 32 (few-live w o l) in
      record { at = _; is-hold = k; free = eqb-true _ 0 (not-false _ (not-true _ (lowest-hit (λ i. not (live i)) 32 k))) }
