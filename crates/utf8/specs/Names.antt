-- Names: document 01's verdict on a caller's name, the name that a slot holds, and when the two are one.
use Rattle.std.specs.Prelude.{◌≡◌, Bool, ◌||◌, not, List, [], ◌∷◌, ◌++◌, ℕ, ◌-◌, ◌<◌, eqb, ltb, length, get_or, take, replicate}
use Rattle.base.specs.Search.{lowest, pick}
use Rattle.base.specs.Decides.{same}
use Rattle.utf8.specs.declared.NameVerdict.{NameVerdict}
use Rattle.utf8.specs.declared.NameVerdict.TheVariants.{Good, Slashed, Bad}
use Rattle.utf8.specs.declared.StoredName.{StoredName}
use Rattle.utf8.specs.declared.StoredName.TheVariants.{Ended, Broken}
use Rattle.utf8.specs.Grammar.{Octets}
use Rattle.utf8.specs.Utf8.{utf8}

-- the place of the first byte b, or the length where there is none
abbrev pub first_at : ℕ → List ℕ → ℕ
first_at b l = lowest (λ i. eqb (get_or l i 0) b) (length l)

unfoldable pub zero_at : List ℕ → ℕ
zero_at l = first_at 0 l

unfoldable pub has_zero : List ℕ → Bool
has_zero l = ltb (zero_at l) (length l)

-- "a name with a slash": byte 47
unfoldable pub has_slash : List ℕ → Bool
has_slash l = ltb (first_at 47 l) (length l)

-- the bytes before it: "ended by a zero"
abbrev pub name_of : List ℕ → List ℕ
name_of s = take (zero_at s) s

-- ---- a caller's name

-- order 4: "good, bad, or good but with a slash". "BadName: zero byte inside, or not UTF-8"; a good one is long or not: "NameTooLong: over 255
-- bytes"
unfoldable pub name_verdict : List ℕ → NameVerdict
name_verdict l = pick (has_zero l || not (utf8 l)) Bad (pick (has_slash l) (Slashed (ltb 255 (length l))) (Good (ltb 255 (length l))))

-- the same as statements: what a name must be so as not to be bad, and what a new name must be as well
pub record GoodName (l : List ℕ) : Type 0 where
  pub no_zero : (j : ℕ) → j < length l → get_or l j 0 ≡ 0 → ⊥
  pub octets : Octets l

abbrev pub NoSlash : List ℕ → Type 0
NoSlash l = (j : ℕ) → j < length l → get_or l j 0 ≡ 47 → ⊥

-- document 01's reason where names are looked at first, or 0: 5
abbrev pub early_reason : NameVerdict → ℕ
early_reason (Good long) = 0
early_reason (Slashed long) = 0
early_reason Bad = 5

-- the same for a new name: "5 also for a slash"
abbrev pub new_reason : NameVerdict → ℕ
new_reason (Good long) = 0
new_reason (Slashed long) = 5
new_reason Bad = 5

-- "the empty name means `.`"
abbrev pub asked : List ℕ → List ℕ
asked [] = 46 ∷ []
asked (b ∷ l) = b ∷ l

-- exactly `.`, exactly `..`
unfoldable pub is_dot : List ℕ → Bool
is_dot l = same l (46 ∷ [])

unfoldable pub is_dots : List ℕ → Bool
is_dots l = same l (46 ∷ 46 ∷ [])

-- removals and move refuse "`.`, `..`, empty"
unfoldable pub is_special : List ℕ → Bool
is_special l = eqb (length l) 0 || (is_dot l || is_dots l)

-- ---- a stored name: "name of 256 bytes ended by a zero"

-- its length; or it has no zero or is not UTF-8
unfoldable pub stored_name : List ℕ → StoredName
stored_name s = pick (has_zero s) (pick (utf8 (name_of s)) (Ended (zero_at s)) Broken) Broken

-- the same as a statement: k is the place of the zero that ends the name in s
pub record EndedAt (s : List ℕ) (k : ℕ) : Type 0 where
  pub inside : k < length s
  pub zero : get_or s k 0 ≡ 0
  pub good : GoodName (take k s)

-- the bytes before the first zero are the name that is asked for
unfoldable pub is_named : List ℕ → List ℕ → Bool
is_named s name = same (name_of s) (asked name)

-- the 256 bytes of a name: the name, and then zeros
unfoldable pub name_bytes : List ℕ → List ℕ
name_bytes name = name ++ replicate (256 - length name) 0
