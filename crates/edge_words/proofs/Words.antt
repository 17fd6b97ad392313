-- Words: those stored one after another over all of a slice are what the slice has; and a time's.
use mathlib.Core.Path.{◌≡◌, refl, ◌∙◌, ap}
use mathlib.Core.List.{List, [], ◌∷◌}
use Prim.Native.Nat.{ℕ, ◌+◌}
use native.Mathlib.Numerals.{add-one}
use native.Mathlib.Omega.{arith}
use lib.IntN.{ℤ}
use lib.ListN.{length, set}
use mir.Syntax.{w64}
use mir.Val.{SFits, to_z, of_z}
use mir.ValLaws.{to_z-of_z}
use Rattle.structs.specs.declared.Timespec.{Timespec}
use Rattle.edge_words.specs.Words.{time_of, puts}

set-under : (x w s : ℕ) (l : List ℕ) → set (x ∷ l) (s + 1) w ≡ x ∷ set l s w
set-under x w s l = rw (add-one s)

puts-under : (x s : ℕ) (l ws : List ℕ) → puts (x ∷ l) (s + 1) ws ≡ x ∷ puts l s ws
unfolding puts
puts-under x s l [] = refl
puts-under x s l (w ∷ ws) = ap (λ (m : List ℕ). puts m (s + 1 + 1) ws) (set-under x w s l) ∙ puts-under x (s + 1) (set l s w) ws

pub puts-all : (ws l : List ℕ) → length l ≡ length ws → puts l 0 ws ≡ ws
unfolding puts
puts-all [] [] e = refl
puts-all [] (y ∷ l) e = absurd (omega arith)
puts-all (w ∷ ws) [] e = absurd (omega arith)
puts-all (w ∷ ws) (y ∷ l) e = puts-under w 0 l ws ∙ ap (λ (m : List ℕ). w ∷ m) (puts-all ws l (omega arith))

-- ---- a time: a signed local holds bits, so what a callee is given is read back from them

pub time-is : {t : Timespec} {sec nsec : ℤ} → SFits w64 sec → SFits w64 nsec → t ≡ time_of (to_z w64 (of_z w64 sec)) (to_z w64 (of_z w64 nsec)) → t ≡ time_of sec nsec
time-is {sec = sec} {nsec = nsec} f g e = e ∙ (λ x. time_of (to_z-of_z w64 sec f x) (to_z-of_z w64 nsec g x))
