-- What each range of lead bytes asks.
use mathlib.Core.Path.{◌≡◌, refl}
use mathlib.Core.Bool.{true, false}
use Prim.Native.Nat.{ℕ, ◌≤◌, ◌<◌}
use native.Mathlib.Omega.{arith}
use lib.Dec.{leb}
use borrow.Author.Tests.{le-leb, lt-leb, ne_eqb}
use Rattle.base.proofs.Bools.{and-false}
use Rattle.utf8.specs.declared.State.TheVariants.{Whole, Wants, Wrong}
use Rattle.utf8.specs.Utf8.{within, lead}

-- ---- a byte in a range, below it, above it

pub within_in : (lo hi b : ℕ) → lo ≤ b → b ≤ hi → within lo hi b ≡ true
unfolding within
within_in lo hi b h k = rw (le-leb lo b h, le-leb b hi k)

pub within-under : (lo hi b : ℕ) → b < lo → within lo hi b ≡ false
unfolding within
within-under lo hi b h = rw (lt-leb lo b h)

pub within-over : (lo hi b : ℕ) → hi < b → within lo hi b ≡ false
unfolding within
within-over lo hi b h = rw (lt-leb b hi h) (and-false (leb lo b))

-- ---- the ranges, in order

pub lead-00 : (b : ℕ) → b ≤ 0x7F → lead b ≡ Whole
unfolding lead
lead-00 b k = rw (within_in 0x00 0x7F b (omega arith) k)

pub lead-80 : (b : ℕ) → 0x80 ≤ b → b ≤ 0xC1 → lead b ≡ Wrong
unfolding lead
lead-80 b h k =
    rw (
      within-over 0x00 0x7F b (omega arith),
      within-under 0xC2 0xDF b (omega arith),
      ne_eqb b 0xE0 (λ e. omega arith),
      within-under 0xE1 0xEC b (omega arith),
      ne_eqb b 0xED (λ e. omega arith),
      within-under 0xEE 0xEF b (omega arith),
      ne_eqb b 0xF0 (λ e. omega arith),
      within-under 0xF1 0xF3 b (omega arith),
      ne_eqb b 0xF4 (λ e. omega arith),
    )

pub lead-C2 : (b : ℕ) → 0xC2 ≤ b → b ≤ 0xDF → lead b ≡ Wants 0x80 0xBF 0
unfolding lead
lead-C2 b h k = rw (within-over 0x00 0x7F b (omega arith), within_in 0xC2 0xDF b h k)

pub lead-E0 : lead 0xE0 ≡ Wants 0xA0 0xBF 1
unfolding lead within
lead-E0 = refl

pub lead-E1 : (b : ℕ) → 0xE1 ≤ b → b ≤ 0xEC → lead b ≡ Wants 0x80 0xBF 1
unfolding lead
lead-E1 b h k =
    rw (within-over 0x00 0x7F b (omega arith), within-over 0xC2 0xDF b (omega arith), ne_eqb b 0xE0 (λ e. omega arith), within_in 0xE1 0xEC b h k)

pub lead-ED : lead 0xED ≡ Wants 0x80 0x9F 1
unfolding lead within
lead-ED = refl

pub lead-EE : (b : ℕ) → 0xEE ≤ b → b ≤ 0xEF → lead b ≡ Wants 0x80 0xBF 1
unfolding lead
lead-EE b h k =
    rw (
      within-over 0x00 0x7F b (omega arith),
      within-over 0xC2 0xDF b (omega arith),
      ne_eqb b 0xE0 (λ e. omega arith),
      within-over 0xE1 0xEC b (omega arith),
      ne_eqb b 0xED (λ e. omega arith),
      within_in 0xEE 0xEF b h k,
    )

pub lead-F0 : lead 0xF0 ≡ Wants 0x90 0xBF 2
unfolding lead within
lead-F0 = refl

pub lead-F1 : (b : ℕ) → 0xF1 ≤ b → b ≤ 0xF3 → lead b ≡ Wants 0x80 0xBF 2
unfolding lead
lead-F1 b h k =
    rw (
      within-over 0x00 0x7F b (omega arith),
      within-over 0xC2 0xDF b (omega arith),
      ne_eqb b 0xE0 (λ e. omega arith),
      within-over 0xE1 0xEC b (omega arith),
      ne_eqb b 0xED (λ e. omega arith),
      within-over 0xEE 0xEF b (omega arith),
      ne_eqb b 0xF0 (λ e. omega arith),
      within_in 0xF1 0xF3 b h k,
    )

pub lead-F4 : lead 0xF4 ≡ Wants 0x80 0x8F 2
unfolding lead within
lead-F4 = refl

pub lead-F5 : (b : ℕ) → 0xF5 ≤ b → lead b ≡ Wrong
unfolding lead
lead-F5 b h =
    rw (
      within-over 0x00 0x7F b (omega arith),
      within-over 0xC2 0xDF b (omega arith),
      ne_eqb b 0xE0 (λ e. omega arith),
      within-over 0xE1 0xEC b (omega arith),
      ne_eqb b 0xED (λ e. omega arith),
      within-over 0xEE 0xEF b (omega arith),
      ne_eqb b 0xF0 (λ e. omega arith),
      within-over 0xF1 0xF3 b (omega arith),
      ne_eqb b 0xF4 (λ e. omega arith),
    )
