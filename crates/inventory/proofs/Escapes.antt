-- Escaped names and paths can be read back.
use mathlib.Core.Path.{◌≡◌, refl, sym, ap, ◌∙◌, subst}
use mathlib.Core.Bool.{Bool, true, false, ◌||◌}
use mathlib.Core.List.{List, [], ◌∷◌, ◌++◌, append_assoc, append-nil, nil≢cons, head-eq_of_cons-eq, tail-eq_of_cons-eq}
use mathlib.Core.Logic.{◌≢◌, ◌⊎◌, inl, inr, ⊎_elim}
use Prim.Native.Nat.{ℕ, zero, suc, ◌+◌, ◌/◌, ◌%◌, ◌≤◌, ◌<◌}
use native.Mathlib.Omega.{arith}
use lib.Dec.{eqb, ltb}
use lib.ListN.{length, get_or}
use borrow.Author.Tests.{ltb-true, ltb-false, lt-ltb, le-ltb, eq-eqb, eqb-true}
use Rattle.base.proofs.Bools.{bool_cases, or_cases, or-first, or-second, true-false}
use Rattle.base.proofs.Numbers.{lt-or-le}
use Rattle.base.proofs.Sames.{test-fails}
use Rattle.base.specs.Search.{pick}
use Rattle.utf8.specs.Names.{NoSlash}
use Rattle.inventory.specs.Text.{hex_digit, is_escaped, escape_byte, escape, path_to}
use Rattle.inventory.specs.Promises.{Hex, number, letter, EscapedAs, end, stays, becomes, NamesEscaped, Escapes, Unbroken, path_of, Plain, named, Paths}

-- ---- one byte

pub escape-nil : escape [] ≡ []
unfolding escape
escape-nil = refl

escape-yes : (b : ℕ) (l : List ℕ) → is_escaped b ≡ true → escape (b ∷ l) ≡ 92 ∷ hex_digit (b / 16) ∷ hex_digit (b % 16) ∷ escape l
unfolding escape escape_byte
escape-yes b l e = rw e

escape-no : (b : ℕ) (l : List ℕ) → is_escaped b ≡ false → escape (b ∷ l) ≡ b ∷ escape l
unfolding escape escape_byte
escape-no b l e = rw e

-- a byte that stays is 33 or more, and no backslash
stays-high : (b : ℕ) → is_escaped b ≡ false → 33 ≤ b
unfolding is_escaped
stays-high b e = ltb-false b 33 (test-fails (ltb b 33) (λ h. true-false (or-first _ h) e))

stays-not : (b : ℕ) → is_escaped b ≡ false → b ≢ 127
unfolding is_escaped
stays-not b e h = true-false (or-second (ltb b 33) (or-first (eqb b 92) (eq-eqb b 127 h))) e

stays-other : (b : ℕ) → is_escaped b ≡ false → b ≢ 92
unfolding is_escaped
stays-other b e h = true-false (or-second (ltb b 33) (or-second (eqb b 127) (eq-eqb b 92 h))) e

-- and what becomes an escape is one of the bytes named
escaped-is : (b : ℕ) → is_escaped b ≡ true → (b < 33) ⊎ (b ≡ 127) ⊎ (b ≡ 92)
unfolding is_escaped
escaped-is b e =
    ⊎_elim
    (λ h. inl (ltb-true b 33 h))
    (λ h. inr (⊎_elim (λ g. inl (eqb-true b 127 g)) (λ g. inr (eqb-true b 92 g)) (or_cases (eqb b 127) (eqb b 92) h)))
    (or_cases (ltb b 33) (eqb b 127 || eqb b 92) e)

escaped-low : (b : ℕ) → (b < 33) ⊎ (b ≡ 127) ⊎ (b ≡ 92) → b < 128
escaped-low b h = ⊎_elim (λ l. omega (arith, l)) (λ g. ⊎_elim (λ e. omega (arith, e)) (λ e. omega (arith, e)) g) h

-- more after both
on : {l m : List ℕ} (x : List ℕ) → l ≡ m → l ++ x ≡ m ++ x
on x e = ap (λ l. l ++ x) e

-- ---- digits

hex-low : (d : ℕ) → d < 10 → hex_digit d ≡ 48 + d
hex-low d l = ap (λ (t : Bool). pick t (48 + d) (87 + d)) (lt-ltb d 10 l)

hex-high : (d : ℕ) → 10 ≤ d → hex_digit d ≡ 87 + d
hex-high d l = ap (λ (t : Bool). pick t (48 + d) (87 + d)) (le-ltb d 10 l)

hex-least : (d : ℕ) → 48 ≤ hex_digit d
hex-least d = ⊎_elim (λ (l : d < 10). omega (arith, hex-low d l)) (λ (l : 10 ≤ d). omega (arith, hex-high d l)) (lt-or-le d 10)

hex-is : (d : ℕ) → d < 16 → Hex (hex_digit d) d
hex-is d h =
    ⊎_elim
    (λ (l : d < 10). let e = hex-low d l in number (omega (arith, e)) (omega (arith, e)) e)
    (λ (l : 10 ≤ d). let e = hex-high d l in letter (omega (arith, e)) (omega (arith, e)) e)
    (lt-or-le d 10)

hex-one : (d e : ℕ) → d < 16 → e < 16 → hex_digit d ≡ hex_digit e → d ≡ e
hex-one d e x y h =
    ⊎_elim
    (λ (l : d < 10). ⊎_elim (λ (m : e < 10). omega (arith, hex-low d l, hex-low e m, h)) (λ (m : 10 ≤ e). omega (arith, hex-low d l, hex-high e m, h)) (lt-or-le e 10))
    (λ (l : 10 ≤ d). ⊎_elim (λ (m : e < 10). omega (arith, hex-high d l, hex-low e m, h)) (λ (m : 10 ≤ e). omega (arith, hex-high d l, hex-high e m, h)) (lt-or-le e 10))
    (lt-or-le d 10)

byte_one : (b c : ℕ) → is_escaped b ≡ true → is_escaped c ≡ true → hex_digit (b / 16) ≡ hex_digit (c / 16) → hex_digit (b % 16) ≡ hex_digit (c % 16) → b ≡ c
byte_one b c x y h g =
    let u = escaped-low b (escaped-is b x) in
    let v = escaped-low c (escaped-is c y) in
    let p = hex-one (b / 16) (c / 16) (omega arith) (omega arith) h in
    let q = hex-one (b % 16) (c % 16) (omega arith) (omega arith) g in
    omega (arith, p, q)

-- the first byte of two names that are escaped alike, and what is left of them
first : (b c : ℕ) (n m x y : List ℕ) → escape (b ∷ n) ++ x ≡ escape (c ∷ m) ++ y → (b ≡ c) × (escape n ++ x ≡ escape m ++ y)
first b c n m x y e =
    ⊎_elim
    (λ h. ⊎_elim
    (λ g.
    let q : 92 ∷ hex_digit (b / 16) ∷ hex_digit (b % 16) ∷ (escape n ++ x) ≡ 92 ∷ hex_digit (c / 16) ∷ hex_digit (c % 16) ∷ (escape m ++ y)
    = on x (sym (escape-yes b n h)) ∙ e ∙ on y (escape-yes c m g) in
    let t = tail-eq_of_cons-eq q in
    let u = tail-eq_of_cons-eq t in
    (byte_one b c h g (head-eq_of_cons-eq t) (head-eq_of_cons-eq u), tail-eq_of_cons-eq u))
    (λ g.
    let q : 92 ∷ hex_digit (b / 16) ∷ hex_digit (b % 16) ∷ (escape n ++ x) ≡ c ∷ (escape m ++ y) = on x (sym (escape-yes b n h)) ∙ e ∙ on y (escape-no c m g) in
    absurd (stays-other c g (sym (head-eq_of_cons-eq q))))
    (bool_cases (is_escaped c)))
    (λ h. ⊎_elim
    (λ g.
    let q : b ∷ (escape n ++ x) ≡ 92 ∷ hex_digit (c / 16) ∷ hex_digit (c % 16) ∷ (escape m ++ y) = on x (sym (escape-no b n h)) ∙ e ∙ on y (escape-yes c m g) in
    absurd (stays-other b h (head-eq_of_cons-eq q)))
    (λ g.
    let q : b ∷ (escape n ++ x) ≡ c ∷ (escape m ++ y) = on x (sym (escape-no b n h)) ∙ e ∙ on y (escape-no c m g) in
    (head-eq_of_cons-eq q, tail-eq_of_cons-eq q))
    (bool_cases (is_escaped c)))
    (bool_cases (is_escaped b))

-- ---- how a name is escaped

pub names-escaped : NamesEscaped
unfolding NamesEscaped
names-escaped [] = subst (EscapedAs []) (sym escape-nil) end
names-escaped (b ∷ n) =
    ⊎_elim
    (λ e.
    let w = escaped-is b e in
    let low = escaped-low b w in
    subst (EscapedAs (b ∷ n)) (sym (escape-yes b n e)) (becomes w (hex-is (b / 16) (omega arith)) (hex-is (b % 16) (omega arith)) (omega arith) (names-escaped n)))
    (λ e. subst (EscapedAs (b ∷ n)) (sym (escape-no b n e)) (stays (stays-high b e) (stays-not b e) (stays-other b e) (names-escaped n)))
    (bool_cases (is_escaped b))

-- ---- names, up to a byte s that no name has and that ends them

-- no byte of l is s
abbrev pub Without : ℕ → List ℕ → Type 0
Without s l = (j : ℕ) → j < length l → get_or l j 0 ≡ s → ⊥

-- nothing, or s first
data Stop (s : ℕ) : List ℕ → Type 0 where
  over : Stop s []
  mark : {l : List ℕ} → Stop s (s ∷ l)

stop-head : (s : ℕ) (x : List ℕ) (h : ℕ) (r : List ℕ) → Stop s x → s ≢ h → x ≡ h ∷ r → ⊥
stop-head s x h r over n e = nil≢cons e
stop-head s x h r mark n e = n (head-eq_of_cons-eq e)

pub without-tail : (s b : ℕ) (l : List ℕ) → Without s (b ∷ l) → Without s l
without-tail s b l F j h e = F (suc j) (omega arith) e

pub without-head : (s b : ℕ) (l : List ℕ) → Without s (b ∷ l) → s ≢ b
without-head s b l F e = F 0 (omega arith) (sym e)

module _ (s : ℕ) (other : s ≢ 92) where
  -- an escaped byte does not begin with s
  starts : (c : ℕ) (m y x : List ℕ) → s ≢ c → Stop s x → x ≡ escape (c ∷ m) ++ y → ⊥
  starts c m y x n X e =
      ⊎_elim
      (λ h. stop-head s x 92 _ X other (e ∙ on y (escape-yes c m h)))
      (λ h. stop-head s x c _ X n (e ∙ on y (escape-no c m h)))
      (bool_cases (is_escaped c))

  split : (n m x y : List ℕ) → Without s n → Without s m → Stop s x → Stop s y → escape n ++ x ≡ escape m ++ y → (n ≡ m) × (x ≡ y)
  split [] [] x y F G X Y e = (refl, on x (sym escape-nil) ∙ e ∙ on y escape-nil)
  split [] (c ∷ m) x y F G X Y e = absurd (starts c m y x (without-head s c m G) X (on x (sym escape-nil) ∙ e))
  split (b ∷ n) [] x y F G X Y e = absurd (starts b n x y (without-head s b n F) Y (sym (e ∙ on y escape-nil)))
  split (b ∷ n) (c ∷ m) x y F G X Y e =
      let h = first b c n m x y e in
      let r = split n m x y (without-tail s b n F) (without-tail s c m G) X Y h.1 in
      (λ i. h.0 i ∷ r.0 i, r.1)

-- ---- a name

escape-some : (c : ℕ) (m x : List ℕ) → [] ≡ escape (c ∷ m) ++ x → ⊥
escape-some c m x e =
    ⊎_elim (λ h. nil≢cons (e ∙ on x (escape-yes c m h))) (λ h. nil≢cons (e ∙ on x (escape-no c m h))) (bool_cases (is_escaped c))

-- x is [], and stands as it does in `first`
escape-one : (l m x : List ℕ) → x ≡ [] → escape l ++ x ≡ escape m ++ x → l ≡ m
escape-one [] [] x z e = refl
escape-one [] (c ∷ m) x z e = absurd (escape-some c m x (sym z ∙ on x (sym escape-nil) ∙ e))
escape-one (b ∷ l) [] x z e = absurd (escape-some b l x (sym z ∙ on x (sym escape-nil) ∙ sym e))
escape-one (b ∷ l) (c ∷ m) x z e =
    let h = first b c l m x x e in
    let r = escape-one l m x z h.1 in
    λ i. h.0 i ∷ r i

pub escapes : Escapes
unfolding Escapes
escapes l m e = escape-one l m [] refl (on [] e)

-- ---- a path

-- a slash before each name
abbrev flat : List (List ℕ) → List ℕ
flat [] = []
flat (n ∷ ns) = 47 ∷ (escape n ++ flat ns)

path-flat : (p : List ℕ) (ns : List (List ℕ)) → path_of p ns ≡ p ++ flat ns
unfolding path_of path_to
path-flat p [] = sym (append-nil p)
path-flat p (n ∷ ns) = path-flat (p ++ (47 ∷ escape n)) ns ∙ append_assoc p (47 ∷ escape n) (flat ns)

flat-stop : (ns : List (List ℕ)) → Stop 47 (flat ns)
flat-stop [] = over
flat-stop (n ∷ ns) = mark

flat-one : (ns ms : List (List ℕ)) → Plain ns → Plain ms → flat ns ≡ flat ms → ns ≡ ms
flat-one [] [] N M e = refl
flat-one [] (m ∷ ms) N M e = absurd (nil≢cons e)
flat-one (n ∷ ns) [] N M e = absurd (nil≢cons (sym e))
flat-one (n ∷ ns) (m ∷ ms) (named F N) (named G M) e =
    let r = split 47 (λ h. omega (arith, h)) n m (flat ns) (flat ms) F G (flat-stop ns) (flat-stop ms) (tail-eq_of_cons-eq e) in
    let t = flat-one ns ms N M r.1 in
    λ i. r.0 i ∷ t i

pub paths : Paths
unfolding Paths
paths ns ms N M e = flat-one ns ms N M (sym (path-flat [] ns) ∙ e ∙ path-flat [] ms)

-- ---- no space, no newline

abbrev High : List ℕ → Type 0
High l = (i : ℕ) → i < length l → 33 ≤ get_or l i 0

high-more : (h : ℕ) (l : List ℕ) → 33 ≤ h → High l → High (h ∷ l)
high-more h l x H zero m = x
high-more h l x H (suc i) m = H i (omega arith)

high : (l : List ℕ) → High (escape l)
high [] = subst High (sym escape-nil) (λ i h. absurd (omega arith))
high (b ∷ l) =
    ⊎_elim
    (λ e. subst High (sym (escape-yes b l e))
    (high-more 92 (hex_digit (b / 16) ∷ hex_digit (b % 16) ∷ escape l) (omega arith)
    (high-more (hex_digit (b / 16)) (hex_digit (b % 16) ∷ escape l) (omega (arith, hex-least (b / 16)))
    (high-more (hex_digit (b % 16)) (escape l) (omega (arith, hex-least (b % 16))) (high l)))))
    (λ e. subst High (sym (escape-no b l e)) (high-more b (escape l) (stays-high b e) (high l)))
    (bool_cases (is_escaped b))

pub unbroken : Unbroken
unfolding Unbroken
unbroken = high

-- ---- no slash

pub without_more : (s h : ℕ) (l : List ℕ) → h ≢ s → Without s l → Without s (h ∷ l)
without_more s h l x F zero m e = x e
without_more s h l x F (suc i) m e = F i (omega arith) e

pub escape-without : (l : List ℕ) → NoSlash l → Without 47 (escape l)
escape-without [] F = subst (Without 47) (sym escape-nil) (λ i h. absurd (omega arith))
escape-without (b ∷ l) F =
    let R = escape-without l (without-tail 47 b l F) in
    ⊎_elim
    (λ e. subst (Without 47) (sym (escape-yes b l e))
    (without_more 47 92 (hex_digit (b / 16) ∷ hex_digit (b % 16) ∷ escape l) (λ h. omega (arith, h))
    (without_more 47 (hex_digit (b / 16)) (hex_digit (b % 16) ∷ escape l) (λ h. omega (arith, h, hex-least (b / 16)))
    (without_more 47 (hex_digit (b % 16)) (escape l) (λ h. omega (arith, h, hex-least (b % 16))) R))))
    (λ e. subst (Without 47) (sym (escape-no b l e)) (without_more 47 b (escape l) (λ h. without-head 47 b l F (sym h)) R))
    (bool_cases (is_escaped b))

-- the last slash splits a path in one way
pub has-mark : (s : ℕ) (q t : List ℕ) → Without s (q ++ (s ∷ t)) → ⊥
has-mark s [] t F = F 0 (omega arith) refl
has-mark s (c ∷ q) t F = has-mark s q t (without-tail s c (q ++ (s ∷ t)) F)

pub last-mark : (s : ℕ) (p q l m : List ℕ) → Without s l → Without s m → p ++ (s ∷ l) ≡ q ++ (s ∷ m) → (p ≡ q) × (l ≡ m)
last-mark s [] [] l m F G e = (refl, tail-eq_of_cons-eq e)
last-mark s [] (c ∷ q) l m F G e = absurd (has-mark s q m (subst (Without s) (tail-eq_of_cons-eq e) F))
last-mark s (c ∷ p) [] l m F G e = absurd (has-mark s p l (subst (Without s) (sym (tail-eq_of_cons-eq e)) G))
last-mark s (c ∷ p) (d ∷ q) l m F G e =
    let h = head-eq_of_cons-eq e in
    let r = last-mark s p q l m F G (tail-eq_of_cons-eq e) in
    (λ i. h i ∷ r.0 i, r.1)
