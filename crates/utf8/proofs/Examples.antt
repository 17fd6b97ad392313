-- Examples, computed: document 01's names of 255 and 256 bytes, and the sequences of RFC 3629, section 7.
use mathlib.Core.Path.{◌≡◌, refl}
use mathlib.Core.Bool.{true, false}
use mathlib.Core.List.{[], ◌∷◌}
use lib.ListN.{replicate}
use Rattle.base.specs.Search.{lowest}
use Rattle.base.specs.Decides.{same}
use Rattle.utf8.specs.declared.NameVerdict.TheVariants.{Good, Slashed}
use Rattle.utf8.specs.declared.StoredName.TheVariants.{Ended}
use Rattle.utf8.specs.Utf8.{within, lead, tail, step, after, utf8}
use Rattle.utf8.specs.Names.{zero_at, has_zero, has_slash, name_verdict, stored_name, is_named, name_bytes}

-- "Name of 255 accepted, 256 refused"
accepted : name_verdict (replicate 255 97) ≡ Good false
unfolding name_verdict has_zero has_slash zero_at lowest utf8 after step lead tail within
accepted = refl

refused : name_verdict (replicate 256 97) ≡ Good true
unfolding name_verdict has_zero has_slash zero_at lowest utf8 after step lead tail within
refused = refl

-- order 4: `a/b` is good but with a slash
slashed : name_verdict (97 ∷ 47 ∷ 98 ∷ []) ≡ Slashed false
unfolding name_verdict has_zero has_slash zero_at lowest utf8 after step lead tail within
slashed = refl

-- a name that a slot holds
stored : stored_name (name_bytes (65 ∷ [])) ≡ Ended 1
unfolding stored_name name_bytes has_zero zero_at lowest utf8 after step lead tail within
stored = refl

-- the empty name asks for `.`
dot : is_named (name_bytes (46 ∷ [])) [] ≡ true
unfolding is_named same name_bytes zero_at lowest
dot = refl

-- U+0041 U+2262 U+0391 U+002E
alpha : utf8 (0x41 ∷ 0xE2 ∷ 0x89 ∷ 0xA2 ∷ 0xCE ∷ 0x91 ∷ 0x2E ∷ []) ≡ true
unfolding utf8 after step lead tail within
alpha = refl

-- U+D55C U+AD6D U+C5B4
korean : utf8 (0xED ∷ 0x95 ∷ 0x9C ∷ 0xEA ∷ 0xB5 ∷ 0xAD ∷ 0xEC ∷ 0x96 ∷ 0xB4 ∷ []) ≡ true
unfolding utf8 after step lead tail within
korean = refl

-- U+65E5 U+672C U+8A9E
japanese : utf8 (0xE6 ∷ 0x97 ∷ 0xA5 ∷ 0xE6 ∷ 0x9C ∷ 0xAC ∷ 0xE8 ∷ 0xAA ∷ 0x9E ∷ []) ≡ true
unfolding utf8 after step lead tail within
japanese = refl

-- U+FEFF U+233B4
chinese : utf8 (0xEF ∷ 0xBB ∷ 0xBF ∷ 0xF0 ∷ 0xA3 ∷ 0x8E ∷ 0xB4 ∷ []) ≡ true
unfolding utf8 after step lead tail within
chinese = refl
