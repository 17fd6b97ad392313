-- Where the backward copy is 000's, and where it isn't.
use mathlib.Core.Path.{◌≡◌, refl, sym, ap, ◌∙◌}
use mathlib.Core.List.{List}
use mathlib.Core.Logic.{◌⊎◌, ⊎_elim}
use Prim.Native.Nat.{ℕ, zero, suc, ◌+◌, ◌*◌, ◌-◌, ◌%◌, ◌≤◌, min}
use native.Mathlib.Omega.{arith}
use borrow.Author.Tests.{le-leb, lt-leb}
use Rattle.base.specs.Out.{Out, done, refused, bind}
use Rattle.arena.specs.Fields.{File}
use Rattle.pieces.specs.Pieces.{pieces, piece_len, falling, up_to, copy_up}
use Rattle.pieces.specs.AsRust.{rust_place, rust_up_to, AsRust, TooLow, BreaksOff}

-- a place that isn't below 0
place_is : (at n k : ℕ) → min n 128 + 128 * k ≤ at + n → rust_place at n k ≡ done (at + n - min n 128 - 128 * k)
place_is at n k l = rw (le-leb (min n 128 + 128 * k) (at + n) l) refl

same_place : (at n k : ℕ) → (n ≤ 128) ⊎ (n % 128 ≡ 0) → suc k ≤ pieces n → rust_place at n k ≡ done (at + falling n k)
same_place at n k h l =
    place_is at n k (⊎_elim (λ x. omega arith) (λ x. omega arith) h)
    ∙ ap done (let e : at + n - min n 128 - 128 * k ≡ at + falling n k = ⊎_elim (λ x. omega arith) (λ x. omega arith) h in e)

same-to : (a : List ℕ) (f : File) (src dst n k : ℕ) → (n ≤ 128) ⊎ (n % 128 ≡ 0) → k ≤ pieces n → up_to a f src dst n k ≡ rust_up_to a f src dst n k
unfolding up_to rust_up_to
same-to a f src dst n zero h l = refl
same-to a f src dst n (suc k) h l = rw (same_place src n k h l, same_place dst n k h l, same-to a f src dst n k h (omega arith)) refl

pub as-rust : AsRust
unfolding AsRust copy_up
as-rust a f src dst n h = same-to a f src dst n (pieces n) h (omega arith)

pub too-low : TooLow
unfolding TooLow
too-low at n m r = record {
  right = omega arith;
  low = λ l. place_is at n (pieces n - 1) (omega arith) ∙ ap done (let e : at + n - min n 128 - 128 * (pieces n - 1) ≡ at - (128 - n % 128) = omega arith in e);
  breaks = λ l. rw (lt-leb (min n 128 + 128 * (pieces n - 1)) (at + n) (omega arith)) refl;
}

pub breaks-off : BreaksOff
unfolding BreaksOff TooLow rust_up_to
breaks-off a f src dst n d m r l e =
    let k : pieces n ≡ suc (pieces n - 1) = omega arith in
    never (rust_up_to a f src dst n (pieces n - 1)) (sym (stops (pieces n - 1) ((too-low src n m r).breaks l)) ∙ ap (rust_up_to a f src dst n) (sym k) ∙ e)
  where
    stops : (j : ℕ) → rust_place src n j ≡ refused 19 → rust_up_to a f src dst n (suc j) ≡ bind (rust_up_to a f src dst n j) (λ _. refused 19)
    stops j q = rw q refl

    never : (o : Out (List ℕ)) → bind {B = List ℕ} o (λ _. refused 19) ≡ done d → ⊥
    never (done x) z = let q : ◌≡◌ {A = ℕ} 0 1 = cc in omega arith
    never (refused x) z = let q : ◌≡◌ {A = ℕ} 0 1 = cc in omega arith

-- ---- 300 bytes to move from 128 on: three pieces, of 128, 128 and 44 bytes. 000 takes the last from 44, and not from 128

three : pieces 300 ≡ 3
three = refl

rest-is : piece_len 300 2 ≡ 44
rest-is = refl

ours : 128 + falling 300 2 ≡ 128
ours = refl

theirs : rust_place 128 300 2 ≡ done 44
theirs = refl

-- 129 bytes from 0 on: two pieces, of 128 bytes and of 1. 000 would take the last from -127

off : rust_place 0 129 1 ≡ refused 19
off = refl
