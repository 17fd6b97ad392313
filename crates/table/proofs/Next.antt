-- The row that comes next by rising id, found in one pass.
use Prim.Native.Nat.{ℕ, ◌+◌, ◌<◌, ◌≤◌}
use mathlib.Core.Path.{◌≡◌, refl, ap, ◌∙◌}
use mathlib.Core.Bool.{Bool, true, false, not, ◌&&◌, ◌||◌}
use mathlib.Core.Logic.{⊎_elim}
use native.Mathlib.Omega.{arith}
use lib.Dec.{ltb, eqb}
use borrow.Author.Count.{below_more}
use borrow.Author.Tests.{lt-ltb, le-ltb, ltb-true, eqb-true, eq-eqb}
use Rattle.base.specs.Search.{lowest, found_below}
use Rattle.base.proofs.Bools.{and_parts, and_both, and-false, or_cases, or-first, or-second, true-false}
use Rattle.base.proofs.Counts.{all_to-all, all_to-false}
use Rattle.base.proofs.Numbers.{lt-or-le}
use Rattle.base.proofs.Searches.{lowest-here, lowest-none}
use Rattle.table.specs.Table.{row_at, between, is_next, next_row}
use Rattle.table.specs.declared.Table.{Table}

-- of the first n numbers, none is above `after`
pub record NoneAbove (f : ℕ → ℕ) (after n best : ℕ) : Type 0 where
  pub is : best ≡ 34
  pub all : (j : ℕ) → j < n → f j ≤ after

-- or `least` is the lowest above it, and first stands at `best`
pub record Nearest (f : ℕ → ℕ) (after n best least : ℕ) : Type 0 where
  pub in34 : best < 34
  pub in-n : best < n
  pub is : f best ≡ least
  pub above : after < least
  pub low : (j : ℕ) → j < n → after < f j → least ≤ f j
  pub first : (j : ℕ) → j < best → after < f j → least < f j

pub data Best (f : ℕ → ℕ) (after n best least : ℕ) : Type 0 where
  none : NoneAbove f after n best → Best f after n best least
  some : Nearest f after n best least → Best f after n best least

module _ (f : ℕ → ℕ) (after : ℕ) where
  pub best_none : (least : ℕ) → Best f after 0 34 least
  best_none least = none (record { is = refl; all = λ j l. absurd (omega arith) })

  -- the test that the loop makes
  abbrev better : ℕ → ℕ → ℕ → Bool
  better id best least = ltb after id && (eqb best 34 || ltb id least)

  first-here : (n best least : ℕ) → Best f after n best least → (eqb best 34 || ltb (f n) least) ≡ true → (j : ℕ) → j < n → after < f j → f n < f j
  first-here n best least (none b) e j l a = absurd (omega (arith, b.all j l))
  first-here n best least (some b) e j l a =
      ⊎_elim (λ q. absurd (omega (arith, b.in34, eqb-true best 34 q))) (λ q. omega (arith, b.low j l a, ltb-true (f n) least q)) (or_cases (eqb best 34) (ltb (f n) least) e)

  pub best-take : (n best least : ℕ) → n < 34 → Best f after n best least → better (f n) best least ≡ true → (k m : ℕ) → k ≡ n → m ≡ f n → Best f after (n + 1) k m
  best-take n best least l b e k m ek em =
      let p = and_parts (ltb after (f n)) (eqb best 34 || ltb (f n) least) e in
      let first = first-here n best least b p.1 in
      rw (ek, em)
      (some (record {
        in34 = l;
        in-n = omega arith;
        is = refl;
        above = ltb-true _ _ p.0;
        low = below_more (λ (j : ℕ). after < f j → f n ≤ f j) n (λ j m a. omega (arith, first j m a)) (λ a. omega arith);
        first = first;
      }))

  best-still : (n best least : ℕ) → Best f after n best least → better (f n) best least ≡ false → Best f after (n + 1) best least
  best-still n best least (none b) e =
      none (record {
        is = b.is;
        all = below_more (λ (j : ℕ). f j ≤ after) n b.all
            (⊎_elim (λ (a : after < f n). absurd (true-false (and_both (lt-ltb _ _ a) (or-first (ltb (f n) least) (eq-eqb _ _ b.is))) e)) (λ g. g) (lt-or-le after (f n)));
      })
  best-still n best least (some b) e =
      some (record {
        in34 = b.in34;
        in-n = omega (arith, b.in-n);
        is = b.is;
        above = b.above;
        low = below_more (λ (j : ℕ). after < f j → least ≤ f j) n b.low
            (λ a. ⊎_elim (λ (c : f n < least). absurd (true-false (and_both (lt-ltb _ _ a) (or-second (eqb best 34) (lt-ltb _ _ c))) e)) (λ g. g) (lt-or-le (f n) least));
        first = b.first;
      })

  pub best-keep : (n best least : ℕ) → Best f after n best least → better (f n) best least ≡ false → (k m : ℕ) → k ≡ best → m ≡ least → Best f after (n + 1) k m
  best-keep n best least b e k m ek em = rw (ek, em) (best-still n best least b e)

module _ (t : Table) (after : ℕ) where
  abbrev id : ℕ → ℕ
  id j = (row_at t j).id

  not-next : (i : ℕ) → id i ≤ after → is_next t after i ≡ false
  unfolding is_next
  not-next i h = rw (le-ltb after (id i) h)

  -- a lower id lies between
  passed : (i j : ℕ) → j < 34 → after < id j → id j < id i → is_next t after i ≡ false
  unfolding is_next
  passed i j l a h =
      let b : between after (id i) (id j) ≡ true = and_both (lt-ltb _ _ a) (lt-ltb _ _ h) in
      rw (all_to-false (λ k. not (between after (id i) (id k))) 34 j l (ap not b)) (and-false (ltb after (id i)))

  -- an id above that one, with none between
  pub is-next : (i : ℕ) → after < id i → ((j : ℕ) → j < 34 → after < id j → id i ≤ id j) → is_next t after i ≡ true
  unfolding is_next
  is-next i a h =
      and_both (lt-ltb _ _ a)
      (all_to-all (λ k. not (between after (id i) (id k))) 34
      (λ j l. ap not (out j l)))
    where
      out : (j : ℕ) → j < 34 → between after (id i) (id j) ≡ false
      out j l = ⊎_elim (λ (b : after < id j). rw (le-ltb (id j) (id i) (h j l b)) (and-false (ltb after (id j)))) (λ g. rw (le-ltb after (id j) g)) (lt-or-le after (id j))

  best-lowest : (best least : ℕ) → Best id after 34 best least → best ≡ lowest (is_next t after) 34
  best-lowest best least (none b) = b.is ∙ lowest-none (is_next t after) 34 (λ j l. not-next j (b.all j l))
  best-lowest best least (some b) =
      lowest-here (is_next t after) 34 best b.in34
      (λ j l. ⊎_elim
      (λ (a : after < id j). passed j best b.in34 (omega (arith, b.is, b.above)) (omega (arith, b.is, b.first j l a)))
      (λ g. not-next j g)
      (lt-or-le after (id j)))
      (is-next best (omega (arith, b.is, b.above)) (λ j l a. omega (arith, b.is, b.low j l a)))

  pub best-next : (n best least : ℕ) → n ≤ 34 → 34 ≤ n → Best id after n best least → found_below best 34 ≡ next_row t after
  unfolding next_row
  best-next n best least lo hi b =
      let e : n ≡ 34 = omega arith in
      ap (λ (m : ℕ). found_below m 34) (best-lowest best least (rw e at b))
