-- The laws of little-endian numbers, each once for every width.
use mathlib.Core.Path.{◌≡◌, refl, sym, ap, ap₂, ◌∙◌}
use mathlib.Core.List.{List, [], ◌∷◌, ◌++◌}
use Prim.Native.Nat.{ℕ, zero, suc, ◌+◌, ◌*◌, ◌/◌, ◌%◌, ◌^◌, ◌-◌, ◌≤◌, ◌<◌}
use native.Mathlib.Nat.{zero-add, suc-add, mul_assoc, mul_comm, pow-suc, pow-succ', div-one, mod-one, one-mul, mod-eq_of_lt, div-div-eq-div-mul, one-le-pow, pow-le-pow_right}
use native.Mathlib.Omega.{arith}
use lib.Arith.{mod-mul}
use lib.ListN.{length, get_or, drop, set, length-take}
use Rattle.base.proofs.Parts.{part_join, part-part, part-one, part-all, paste_all, paste-whole}
use Rattle.base.specs.Parts.{part, paste}
use Rattle.base.proofs.Lists.{length_part, length-paste, part-paste, paste-paste, paste-own, get_or-paste-out, set-paste}
use Rattle.le.specs.Le.{Bytes, le_of, le_bytes, le_at, le_put}

-- ---- a list and its number

-- the number of two lists joined: the second counts from its place on
pub le_of-append : (l m : List ℕ) → le_of (l ++ m) ≡ le_of l + 256 ^ length l * le_of m
unfolding le_of
le_of-append [] m = sym (zero-add _ ∙ one-mul (le_of m))
le_of-append (b ∷ l) m =
    let P : ℕ = 256 ^ length l in
    let e : 256 ^ suc (length l) * le_of m ≡ 256 * (P * le_of m) = ap (λ (x : ℕ). x * le_of m) (pow-succ' 256 (length l)) ∙ mul_assoc 256 P (le_of m) in
    omega (arith, le_of-append l m, e)

pub length-le_bytes : (n v : ℕ) → length (le_bytes n v) ≡ n
unfolding le_bytes
length-le_bytes zero v = refl
length-le_bytes (suc n) v = ap suc (length-le_bytes n (v / 256))

pub le_bytes-append : (m n v : ℕ) → le_bytes (m + n) v ≡ le_bytes m v ++ le_bytes n (v / 256 ^ m)
unfolding le_bytes
le_bytes-append zero n v = rw zero-add (ap (le_bytes n) (sym (div-one v)))
le_bytes-append (suc m) n v =
    rw suc-add
    (ap (λ (l : List ℕ). v % 256 ∷ l)
    (le_bytes-append m n (v / 256) ∙ ap (λ (x : ℕ). le_bytes m (v / 256) ++ le_bytes n x) (div-div-eq-div-mul v 256 (256 ^ m) ∙ ap (λ (x : ℕ). v / x) (sym (pow-succ' 256 m)))))

-- ---- round trips of a list and its number

mod-suc : (n v : ℕ) → v % 256 ^ suc n ≡ v % 256 + 256 * (v / 256 % 256 ^ n)
mod-suc n v =
    ap (λ (x : ℕ). v % x) (pow-suc 256 n) ∙ mod-mul v {m = 256 ^ n} {c = 256} (one-le-pow n 256 (omega arith)) (omega arith) ∙ omega arith

-- the n lowest bytes of a number, read again
pub le_of-le_bytes : (n v : ℕ) → le_of (le_bytes n v) ≡ v % 256 ^ n
unfolding le_of le_bytes
le_of-le_bytes zero v = sym (mod-one v)
le_of-le_bytes (suc n) v = omega (arith, le_of-le_bytes n (v / 256), mod-suc n v)

pub le_of-fits : (n v : ℕ) → v < 256 ^ n → le_of (le_bytes n v) ≡ v
le_of-fits n v h = le_of-le_bytes n v ∙ mod-eq_of_lt h

-- they are the bytes of what those n bytes can say
pub le_bytes-mod : (n v : ℕ) → le_bytes n (v % 256 ^ n) ≡ le_bytes n v
unfolding le_bytes
le_bytes-mod zero v = refl
le_bytes-mod (suc n) v =
    ap₂ (λ (b : ℕ) (l : List ℕ). b ∷ l) (let e : v % 256 ^ suc n % 256 ≡ v % 256 = omega (arith, mod-suc n v) in e)
    (ap (le_bytes n) (let e : v % 256 ^ suc n / 256 ≡ v / 256 % 256 ^ n = omega (arith, mod-suc n v) in e) ∙ le_bytes-mod n (v / 256))

pub le_bytes-bytes : (n v : ℕ) → Bytes (le_bytes n v)
unfolding le_bytes
le_bytes-bytes zero v i = omega arith
le_bytes-bytes (suc n) v zero = omega arith
le_bytes-bytes (suc n) v (suc i) = le_bytes-bytes n (v / 256) i

pub le_of-below : (l : List ℕ) → Bytes l → le_of l < 256 ^ length l
unfolding le_of
le_of-below [] h = omega arith
le_of-below (b ∷ l) h = omega (arith, h 0, le_of-below l (λ i. h (suc i)), pow-succ' 256 (length l))

-- bytes, from their number
pub le_bytes-le_of : (l : List ℕ) → Bytes l → le_bytes (length l) (le_of l) ≡ l
unfolding le_of le_bytes
le_bytes-le_of [] h = refl
le_bytes-le_of (b ∷ l) h =
    let lo : b < 256 = h 0 in
    ap₂ (λ (b : ℕ) (l : List ℕ). b ∷ l) (let e : (b + 256 * le_of l) % 256 ≡ b = omega arith in e)
    (ap (le_bytes (length l)) (let e : (b + 256 * le_of l) / 256 ≡ le_of l = omega arith in e) ∙ le_bytes-le_of l (λ i. h (suc i)))

-- ---- numbers in a list

-- a number of m + n bytes is two: the law by which each width is read as two of the half
pub le_at-join : (l : List ℕ) (s m n : ℕ) → s + m ≤ length l → le_at l s (m + n) ≡ le_at l s m + 256 ^ m * le_at l (s + m) n
unfolding le_at
le_at-join l s m n h =
    let e : length (part l s (s + m)) ≡ m = length_part l s (s + m) (omega arith) h ∙ omega arith in
    ap le_of (part_join l s m n) ∙ le_of-append (part l s (s + m)) (part l (s + m) (s + m + n))
    ∙ ap (λ (k : ℕ). le_of (part l s (s + m)) + 256 ^ k * le_of (part l (s + m) (s + m + n))) e

-- one byte is its own number
pub le_at-one : (l : List ℕ) (s : ℕ) → s < length l → le_at l s 1 ≡ get_or l s 0
unfolding le_at le_of
le_at-one l s h = ap le_of (part-one l s h) ∙ omega arith

-- a number in a part
pub le_at-part : (l : List ℕ) (t e s n : ℕ) → t + (s + n) ≤ e → le_at (part l t e) s n ≡ le_at l (t + s) n
unfolding le_at
le_at-part l t e s n h = ap le_of (part-part l t e s (s + n) h ∙ ap (part l (t + s)) (let q : t + (s + n) ≡ t + s + n = omega arith in q))

pub le_at-below : (l : List ℕ) (s n : ℕ) → Bytes l → le_at l s n < 256 ^ n
unfolding le_at
le_at-below l s n h =
    let k : length (part l s (s + n)) ≤ n = omega (arith, length-take (s + n - s) (drop s l)) in
    omega (arith, le_of-below (part l s (s + n)) (part-all (λ x. x < 256) l (omega arith) h s (s + n)), pow-le-pow_right {n = 256} (omega arith) k)

-- ---- numbers laid over a list
module _ (l : List ℕ) (s n v : ℕ) (fits : s + n ≤ length l) where
  room : s + length (le_bytes n v) ≤ length l
  room = omega (arith, length-le_bytes n v)

  pub length-le_put : length (le_put l s n v) ≡ length l
  unfolding le_put
  length-le_put = length-paste l s (le_bytes n v) room

  -- bytes outside stay
  pub get_or-le_put-out : (i : ℕ) → (s ≤ i → s + n ≤ i) → get_or (le_put l s n v) i 0 ≡ get_or l i 0
  unfolding le_put
  get_or-le_put-out i h = get_or-paste-out l s (le_bytes n v) room i (λ g. omega (arith, h g, length-le_bytes n v))

  -- what is read where v was written: v, as far as n bytes hold it
  pub le_at-le_put : le_at (le_put l s n v) s n ≡ v % 256 ^ n
  unfolding le_at le_put
  le_at-le_put =
      ap (λ (k : ℕ). le_of (part (paste l s (le_bytes n v)) s (s + k))) (sym (length-le_bytes n v))
      ∙ ap le_of (part-paste l s (le_bytes n v) room) ∙ le_of-le_bytes n v

  pub le_at-le_put-fits : v < 256 ^ n → le_at (le_put l s n v) s n ≡ v
  le_at-le_put-fits h = le_at-le_put ∙ mod-eq_of_lt h

  pub le_put-bytes : Bytes l → Bytes (le_put l s n v)
  unfolding le_put
  le_put-bytes h = paste_all (λ x. x < 256) l s (le_bytes n v) room h (le_bytes-bytes n v)

-- what was read, written where it was read
pub le_put-le_at : (l : List ℕ) (s n : ℕ) → s + n ≤ length l → Bytes l → le_put l s n (le_at l s n) ≡ l
unfolding le_at le_put
le_put-le_at l s n k h =
    let p : List ℕ = part l s (s + n) in
    let e : length p ≡ n = length_part l s (s + n) (omega arith) k ∙ omega arith in
    ap (paste l s) (ap (λ (j : ℕ). le_bytes j (le_of p)) (sym e) ∙ le_bytes-le_of p (part-all (λ x. x < 256) l (omega arith) h s (s + n)))
    ∙ paste-own l s (s + n) (omega arith) k

-- one byte
pub le_put-one : (l : List ℕ) (s v : ℕ) → s < length l → v < 256 → set l s v ≡ le_put l s 1 v
unfolding le_put le_bytes
le_put-one l s v h k = set-paste l s v h ∙ ap (λ (b : ℕ). paste l s (b ∷ [])) (let e : v ≡ v % 256 = omega arith in e)

-- the m lower bytes and the n after them: the law by which each width is written as two of the half
pub le_put-join : (l : List ℕ) (s m n v : ℕ) → s + m + n ≤ length l → le_put (le_put l s m (v % 256 ^ m)) (s + m) n (v / 256 ^ m) ≡ le_put l s (m + n) v
unfolding le_put
le_put-join l s m n v h =
    ap (λ (b : List ℕ). paste (paste l s b) (s + m) (le_bytes n (v / 256 ^ m))) (le_bytes-mod m v)
    ∙ ap (λ (k : ℕ). paste (paste l s (le_bytes m v)) (s + k) (le_bytes n (v / 256 ^ m))) (sym (length-le_bytes m v))
    ∙ paste-paste l s (le_bytes m v) (le_bytes n (v / 256 ^ m)) (omega (arith, length-le_bytes m v, length-le_bytes n (v / 256 ^ m)))
    ∙ ap (paste l s) (sym (le_bytes-append m n v))

-- ---- as the code has it: two of the half width

pub read-two : (n : ℕ) (l : List ℕ) (s low high : ℕ) → s + n ≤ length l → low ≡ le_at l s n → high ≡ le_at l (s + n) n → low + high * 256 ^ n ≡ le_at l s (n + n)
read-two n l s low high h e f =
    ap₂ (λ (a b : ℕ). a + b) e (ap (λ (x : ℕ). x * 256 ^ n) f ∙ mul_comm (le_at l (s + n) n) (256 ^ n)) ∙ sym (le_at-join l s n n h)

pub write_two :
    (n : ℕ) (l a b : List ℕ) (s v : ℕ) → s + n + n ≤ length l → a ≡ le_put l s n (v % 256 ^ n) → b ≡ le_put a (s + n) n (v / 256 ^ n) → b ≡ le_put l s (n + n) v
write_two n l a b s v h e f = f ∙ ap (λ (x : List ℕ). le_put x (s + n) n (v / 256 ^ n)) e ∙ le_put-join l s n n v h

-- numbers of n bytes that are equal have the same bytes
pub le_at-same : (l m : List ℕ) (s t n : ℕ) → Bytes l → Bytes m → s + n ≤ length l → t + n ≤ length m → le_at l s n ≡ le_at m t n → part l s (s + n) ≡ part m t (t + n)
unfolding le_at
le_at-same l m s t n p q h k e =
    let a : length (part l s (s + n)) ≡ n = length_part l s (s + n) (omega arith) h ∙ omega arith in
    let b : length (part m t (t + n)) ≡ n = length_part m t (t + n) (omega arith) k ∙ omega arith in
    sym (le_bytes-le_of (part l s (s + n)) (part-all (λ x. x < 256) l (omega arith) p s (s + n)))
    ∙ ap₂ le_bytes (a ∙ sym b) e
    ∙ le_bytes-le_of (part m t (t + n)) (part-all (λ x. x < 256) m (omega arith) q t (t + n))

-- a number put into a buffer of its own width
pub le_put-whole : (d : List ℕ) (n v : ℕ) → length d ≡ n → le_put d 0 n v ≡ le_bytes n v
unfolding le_put
le_put-whole d n v e = paste-whole d (le_bytes n v) (e ∙ sym (length-le_bytes n v))
