-- A line is read back, and a text line by line.
use mathlib.Core.Path.{◌≡◌, refl, sym, ap, ◌∙◌, subst}
use mathlib.Core.List.{List, [], ◌∷◌, ◌++◌, append_assoc, nil≢cons, head-eq_of_cons-eq, tail-eq_of_cons-eq}
use mathlib.Core.Logic.{◌≢◌}
use Prim.Native.Nat.{ℕ, ◌<◌}
use native.Mathlib.Omega.{arith}
use Rattle.structs.specs.Layout.{join}
use Rattle.utf8.specs.Names.{name_of}
use Rattle.tree.specs.Tree.{Tree}
use Rattle.inventory.specs.Text.{decimal, escape, path_to, line}
use Rattle.inventory.specs.Visits.{Visit, visits, node_line, lines_of}
use Rattle.inventory.specs.Inventory.{stored_tree, text}
use Rattle.inventory.specs.Promises.{ReachedBy, root, down, Due, Each, none, more, Digit, Decimals, Unbroken, Lines, items_of, Texts}
use Rattle.inventory.proofs.Numbers.{more-some, decimals, decimal-one}
use Rattle.inventory.proofs.Escapes.{Without, without-tail, without-head, without_more, unbroken, last-mark}
use Rattle.inventory.proofs.Due.{only-due}

-- ---- a byte s that ends a part

-- the first s splits a text in one way
first-mark : (s : ℕ) (l m x y : List ℕ) → Without s l → Without s m → l ++ (s ∷ x) ≡ m ++ (s ∷ y) → (l ≡ m) × (x ≡ y)
first-mark s [] [] x y F G e = (refl, tail-eq_of_cons-eq e)
first-mark s [] (c ∷ m) x y F G e = absurd (without-head s c m G (head-eq_of_cons-eq e))
first-mark s (c ∷ l) [] x y F G e = absurd (without-head s c l F (sym (head-eq_of_cons-eq e)))
first-mark s (c ∷ l) (d ∷ m) x y F G e =
    let h = head-eq_of_cons-eq e in
    let r = first-mark s l m x y (without-tail s c l F) (without-tail s d m G) (tail-eq_of_cons-eq e) in
    (λ i. h i ∷ r.0 i, r.1)

without-nil : (s : ℕ) → Without s []
without-nil s j h e = omega arith

without-append : (s : ℕ) (l m : List ℕ) → Without s l → Without s m → Without s (l ++ m)
without-append s [] m F G = G
without-append s (c ∷ l) m F G = without_more s c (l ++ m) (λ e. without-head s c l F (sym e)) (without-append s l m (without-tail s c l F) G)

digits-without : (s : ℕ) (l : List ℕ) → s < 48 → Each Digit l → Without s l
digits-without s [] h none = without-nil s
digits-without s (c ∷ l) h (more d D) = without_more s c l (λ e. omega (arith, e, d.0)) (digits-without s l h D)

-- ---- a line, and what comes after it

line_on : (i k n : ℕ) (p x : List ℕ) → line i k n p ++ x ≡ decimal i ++ (32 ∷ (decimal k ++ (32 ∷ (decimal n ++ (32 ∷ (p ++ (10 ∷ x)))))))
unfolding line join
line_on i k n p x =
    append_assoc (decimal i) (32 ∷ (decimal k ++ (32 ∷ (decimal n ++ (32 ∷ (p ++ (10 ∷ []))))))) x
    ∙ ap (λ (l : List ℕ). decimal i ++ (32 ∷ l)) (append_assoc (decimal k) (32 ∷ (decimal n ++ (32 ∷ (p ++ (10 ∷ []))))) x
    ∙ ap (λ (l : List ℕ). decimal k ++ (32 ∷ l)) (append_assoc (decimal n) (32 ∷ (p ++ (10 ∷ []))) x
    ∙ ap (λ (l : List ℕ). decimal n ++ (32 ∷ l)) (append_assoc p (10 ∷ []) x)))

number-without : (n : ℕ) → Without 32 (decimal n)
unfolding Decimals
number-without n = digits-without 32 (decimal n) (omega arith) (decimals n).digits

number_read : (n m : ℕ) (x y : List ℕ) → decimal n ++ (32 ∷ x) ≡ decimal m ++ (32 ∷ y) → (n ≡ m) × (x ≡ y)
number_read n m x y e = let r = first-mark 32 (decimal n) (decimal m) x y (number-without n) (number-without m) e in (decimal-one n m r.0, r.1)

line_read : (i k n j m o : ℕ) (p q x y : List ℕ) → line i k n p ++ x ≡ line j m o q ++ y → (i ≡ j) × (k ≡ m) × (n ≡ o) × (p ++ (10 ∷ x) ≡ q ++ (10 ∷ y))
line_read i k n j m o p q x y e =
    let r = number_read i j _ _ (sym (line_on i k n p x) ∙ e ∙ line_on j m o q y) in
    let s = number_read k m _ _ r.1 in
    let t = number_read n o _ _ s.1 in
    (r.0, s.0, t.0, t.1)

pub lines : Lines
unfolding Lines
lines i k n j m o p q e =
    let r = line_read i k n j m o p q [] [] (ap (λ (l : List ℕ). l ++ []) e) in
    (r.0, r.1, r.2, (last-mark 10 p q [] [] (without-nil 10) (without-nil 10) r.3).0)

-- ---- no path has a newline

path-without : (p name : List ℕ) → Without 10 p → Without 10 (path_to p name)
unfolding path_to Unbroken
path-without p name F = without-append 10 p (47 ∷ escape name) F (without_more 10 47 (escape name) (λ e. omega (arith, e)) (λ j h e. omega (arith, e, unbroken name j h)))

reached-without : (v : Tree) (f : ℕ) (p : List ℕ) → ReachedBy v f p → Without 10 p
reached-without v f p root = without-nil 10
reached-without v f p (down {f = g} {p = q} k R x y a d w) = subst (Without 10) (sym w) (path-without q (name_of (v.slot g k).name) (reached-without v g q R))

due-without : (v : Tree) (x : Visit) → Due v x → Without 10 x.path
due-without v x D = subst (Without 10) (sym D.path) (path-without D.at (name_of (v.slot x.folder x.slot).name) (reached-without v x.folder D.at D.reached))

-- ---- a text

-- its first byte is a digit
digit-first : (l x r : List ℕ) (c : ℕ) → Each Digit l → l ≢ [] → l ++ x ≡ c ∷ r → Digit c
digit-first [] x r c D n e = absurd (n refl)
digit-first (d ∷ l) x r c (more h D) n e = subst Digit (head-eq_of_cons-eq e) h

line_first : (i k n : ℕ) (p x r : List ℕ) (c : ℕ) → line i k n p ++ x ≡ c ∷ r → Digit c
unfolding Decimals
line_first i k n p x r c e = digit-first (decimal i) _ r c (decimals i).digits (decimals i).some (sym (line_on i k n p x) ∙ e)

pub lines-first : (v : Tree) (l : List Visit) (c : ℕ) (r : List ℕ) → lines_of v l ≡ c ∷ r → Digit c
unfolding lines_of node_line
lines-first v [] c r e = absurd (nil≢cons e)
lines-first v (x ∷ l) c r e = line_first _ _ _ _ _ r c e

line-some : (i k n : ℕ) (p x : List ℕ) → line i k n p ++ x ≢ []
line-some i k n p x e = more-some (decimal i) 32 _ (sym (line_on i k n p x) ∙ e)

text-read : (v w : Tree) (l m : List Visit) → Each (Due v) l → Each (Due w) m → lines_of v l ≡ lines_of w m → items_of v l ≡ items_of w m
unfolding lines_of node_line
text-read v w [] [] none none e = refl
text-read v w [] (y ∷ m) none D e = absurd (line-some _ _ _ _ _ (sym e))
text-read v w (x ∷ l) [] D none e = absurd (line-some _ _ _ _ _ e)
text-read v w (x ∷ l) (y ∷ m) (more c C) (more d D) e =
    let r = line_read _ _ _ _ _ _ x.path y.path (lines_of v l) (lines_of w m) e in
    let s = first-mark 10 x.path y.path (lines_of v l) (lines_of w m) (due-without v x c) (due-without w y d) r.3 in
    let t = text-read v w l m C D s.1 in
    λ i. record { id = r.0 i; kind = r.1 i; links = r.2 i; path = s.0 i } ∷ t i

pub texts : Texts
unfolding Texts text
texts a b e = text-read (stored_tree a) (stored_tree b) (visits (stored_tree a)) (visits (stored_tree b)) (only-due (stored_tree a)) (only-due (stored_tree b)) e
