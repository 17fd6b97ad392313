-- RFC 3629, section 4, "Syntax of UTF-8 Byte Sequences": a constructor for each alternative of its grammar. A byte is its number.
use Rattle.std.specs.Prelude.{List, [], ◌∷◌, ◌++◌, ℕ, ◌≤◌}

-- %xLO-HI
pub record Range (lo hi b : ℕ) : Type 0 where
  pub low : lo ≤ b
  pub high : b ≤ hi

-- UTF8-tail = %x80-BF
pub data Tail : ℕ → Type 0 where
  utf8-tail : {b : ℕ} → Range 0x80 0xBF b → Tail b

-- UTF8-char = UTF8-1 / UTF8-2 / UTF8-3 / UTF8-4
pub data Char : List ℕ → Type 0 where
  -- UTF8-1 = %x00-7F
  utf8-1 : {a : ℕ} → Range 0x00 0x7F a → Char (a ∷ [])
  -- UTF8-2 = %xC2-DF UTF8-tail
  utf8-2 : {a b : ℕ} → Range 0xC2 0xDF a → Tail b → Char (a ∷ b ∷ [])
  -- UTF8-3 = %xE0 %xA0-BF UTF8-tail
  utf8-3-E0 : {b c : ℕ} → Range 0xA0 0xBF b → Tail c → Char (0xE0 ∷ b ∷ c ∷ [])
  --        / %xE1-EC 2( UTF8-tail )
  utf8-3-E1 : {a b c : ℕ} → Range 0xE1 0xEC a → Tail b → Tail c → Char (a ∷ b ∷ c ∷ [])
  --        / %xED %x80-9F UTF8-tail
  utf8-3-ED : {b c : ℕ} → Range 0x80 0x9F b → Tail c → Char (0xED ∷ b ∷ c ∷ [])
  --        / %xEE-EF 2( UTF8-tail )
  utf8-3-EE : {a b c : ℕ} → Range 0xEE 0xEF a → Tail b → Tail c → Char (a ∷ b ∷ c ∷ [])
  -- UTF8-4 = %xF0 %x90-BF 2( UTF8-tail )
  utf8-4-F0 : {b c d : ℕ} → Range 0x90 0xBF b → Tail c → Tail d → Char (0xF0 ∷ b ∷ c ∷ d ∷ [])
  --        / %xF1-F3 3( UTF8-tail )
  utf8-4-F1 : {a b c d : ℕ} → Range 0xF1 0xF3 a → Tail b → Tail c → Tail d → Char (a ∷ b ∷ c ∷ d ∷ [])
  --        / %xF4 %x80-8F 2( UTF8-tail )
  utf8-4-F4 : {b c d : ℕ} → Range 0x80 0x8F b → Tail c → Tail d → Char (0xF4 ∷ b ∷ c ∷ d ∷ [])

-- UTF8-octets = *( UTF8-char )
pub data Octets : List ℕ → Type 0 where
  no_char : Octets []
  a-char : {c l : List ℕ} → Char c → Octets l → Octets (c ++ l)
