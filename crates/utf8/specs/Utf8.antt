-- RFC 3629 as a test that reads one byte after another, in the shape of the code: lead bytes sorted by ranges,
-- with the narrower ranges of the second byte after E0, ED, F0 and F4.
use Rattle.std.specs.Prelude.{Bool, true, false, ◌&&◌, List, [], ◌∷◌, ℕ, ◌-◌, leb, eqb}
use Rattle.base.specs.Search.{pick}
use Rattle.utf8.specs.declared.State.{State}
use Rattle.utf8.specs.declared.State.TheVariants.{Whole, Wants, Wrong}

-- b is one of lo..=hi
unfoldable pub within : ℕ → ℕ → ℕ → Bool
within lo hi b = leb lo b && leb b hi

-- what a lead byte asks: nothing, or a byte of a range and then more tails
unfoldable pub lead : ℕ → State
lead b =
    pick (within 0x00 0x7F b) Whole
    (pick (within 0xC2 0xDF b) (Wants 0x80 0xBF 0)
    (pick (eqb b 0xE0) (Wants 0xA0 0xBF 1)
    (pick (within 0xE1 0xEC b) (Wants 0x80 0xBF 1)
    (pick (eqb b 0xED) (Wants 0x80 0x9F 1)
    (pick (within 0xEE 0xEF b) (Wants 0x80 0xBF 1)
    (pick (eqb b 0xF0) (Wants 0x90 0xBF 2)
    (pick (within 0xF1 0xF3 b) (Wants 0x80 0xBF 2)
    (pick (eqb b 0xF4) (Wants 0x80 0x8F 2)
    Wrong))))))))

-- one byte more inside a character
unfoldable pub tail : ℕ → ℕ → ℕ → ℕ → State
tail low high more b = pick (within low high b) (pick (eqb more 0) Whole (Wants 0x80 0xBF (more - 1))) Wrong

-- one byte more
unfoldable pub step : State → ℕ → State
step Whole b = lead b
step (Wants low high more) b = tail low high more b
step Wrong b = Wrong

-- all bytes of a list more
unfoldable pub after : State → List ℕ → State
after s [] = s
after s (b ∷ l) = after (step s b) l

abbrev pub is_whole : State → Bool
is_whole Whole = true
is_whole (Wants low high more) = false
is_whole Wrong = false

-- a sequence of octets is UTF-8: it ends between two characters
unfoldable pub utf8 : List ℕ → Bool
utf8 l = is_whole (after Whole l)
