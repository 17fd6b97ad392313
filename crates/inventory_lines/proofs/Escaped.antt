-- A name escaped, byte by byte.
use mathlib.Core.Path.{◌≡◌, refl, sym, ap, ◌∙◌}
use mathlib.Core.Bool.{true, false}
use mathlib.Core.List.{List, [], ◌∷◌, ◌++◌, append-nil, append_assoc}
use Prim.Native.Nat.{ℕ, ◌+◌, ◌/◌, ◌%◌, ◌≤◌, ◌<◌}
use native.Mathlib.Numerals.{add-one}
use native.Mathlib.Omega.{arith}
use lib.ListN.{length, get_or, take, drop, take-append-drop, length-append}
use lib.Seq.{take-suc, take_all}
use Rattle.inventory.specs.Text.{hex_digit, is_escaped, escape_byte, escape}

pub byte-escaped : (b : ℕ) → is_escaped b ≡ true → escape_byte b ≡ 92 ∷ hex_digit (b / 16) ∷ hex_digit (b % 16) ∷ []
unfolding escape_byte
byte-escaped b e = rw e

pub byte-kept : (b : ℕ) → is_escaped b ≡ false → escape_byte b ≡ b ∷ []
unfolding escape_byte
byte-kept b e = rw e

pub size-escaped : (b : ℕ) → is_escaped b ≡ true → length (escape_byte b) ≡ 3
size-escaped b e = ap length (byte-escaped b e)

pub size-kept : (b : ℕ) → is_escaped b ≡ false → length (escape_byte b) ≡ 1
size-kept b e = ap length (byte-kept b e)

escape-append : (l m : List ℕ) → escape (l ++ m) ≡ escape l ++ escape m
unfolding escape
escape-append [] m = refl
escape-append (b ∷ l) m = ap (λ (x : List ℕ). escape_byte b ++ x) (escape-append l m) ∙ sym (append_assoc (escape_byte b) (escape l) (escape m))

escape-one : (b : ℕ) → escape (b ∷ []) ≡ escape_byte b
unfolding escape
escape-one b = append-nil (escape_byte b)

-- one byte more, as a loop counts
pub escape-more : (l : List ℕ) (i : ℕ) → i < length l → escape (take (i + 1) l) ≡ escape (take i l) ++ escape_byte (get_or l i 0)
escape-more l i h =
    ap (λ (n : ℕ). escape (take n l)) (add-one i)
    ∙ ap escape (take-suc l i 0 h)
    ∙ escape-append (take i l) (get_or l i 0 ∷ [])
    ∙ ap (λ (x : List ℕ). escape (take i l) ++ x) (escape-one (get_or l i 0))

pub escape-all : (l : List ℕ) (i : ℕ) → length l ≤ i → escape (take i l) ≡ escape l
escape-all l i h = ap escape (take_all i l h)

-- a byte more has room where the whole name has
pub escape-room : (l : List ℕ) (i : ℕ) → i < length l → length (escape (take i l)) + length (escape_byte (get_or l i 0)) ≤ length (escape l)
escape-room l i h =
    let x = ap length (escape-more l i h) ∙ length-append (escape (take i l)) (escape_byte (get_or l i 0)) in
    let y = ap length (ap escape (sym (take-append-drop (i + 1) l)) ∙ escape-append (take (i + 1) l) (drop (i + 1) l)) ∙ length-append (escape (take (i + 1) l)) (escape (drop (i + 1) l)) in
    omega (arith, x, y)
