-- Walking p/q is walking p and then q from there; the parts of a good text are names.
use mathlib.Core.Path.{◌≡◌, refl, sym, ap, ◌∙◌, subst}
use mathlib.Core.Bool.{Bool, true, false, not, true≢false}
use mathlib.Core.List.{List, [], ◌∷◌, ◌++◌}
use mathlib.Core.Logic.{◌≢◌, ◌⊎◌, inl, inr, ⊎_elim}
use Prim.Native.Nat.{ℕ, zero, suc, ◌<◌}
use native.Mathlib.Omega.{arith}
use lib.ListN.{length, get_or, drop}
use lib.Dec.{eqb, ltb}
use borrow.Author.Tests.{ltb-true, eqb-false}
use Rattle.base.specs.Out.{Out, done, refused}
use Rattle.base.specs.Count.{bit}
use Rattle.base.specs.Decides.{same}
use Rattle.base.specs.Search.{pick}
use Rattle.base.proofs.Bools.{bool_cases, and_parts, or_cases}
use Rattle.base.proofs.Counts.{all_to-true}
use Rattle.base.proofs.Sames.{same_true, test-fails}
use Rattle.utf8.specs.Names.{NoSlash, name_verdict, early_reason}
use Rattle.sefs.specs.State.{Fs}
use Rattle.walk.specs.Walk.{slash, is_slash, after_root, part_at, split, good_text, onto, cut, parts_of, Spot, enter, or_stop, most_links, walk_on, walk_text, walk_in}
use Rattle.walk.specs.Laws.{and_then, Joins, IsPart, PartsGood}
use Rattle.walk.proofs.Cuts.{cut-first}
use Rattle.walk.proofs.Walks.{walk-join}

-- ---- what a good text is

-- a part begins at place i
abbrev pub Begins : List ℕ → ℕ → Type 0
Begins l i = (i < length l) × (is_slash (get_or l i 0) ≡ false)

-- and after each slash
abbrev pub SingleSlashes : List ℕ → Type 0
SingleSlashes l = (j : ℕ) → j < length l → is_slash (get_or l j 0) ≡ true → Begins l (suc j)

part-begins : (l : List ℕ) (i : ℕ) → part_at l i ≡ true → Begins l i
part-begins l i e =
    let h = and_parts (ltb i (length l)) (not (is_slash (get_or l i 0))) e in
    (ltb-true i (length l) h.0, test-fails (is_slash (get_or l i 0)) (λ t. true≢false (sym h.1 ∙ ap not t)))

pub split-says : (l : List ℕ) → split l ≡ true → Begins l 0 × SingleSlashes l
unfolding split
split-says l e =
    let h = and_parts (part_at l 0) _ e in
    (part-begins l 0 h.0, λ j b t. ⊎_elim (λ n. absurd (true≢false (sym n ∙ ap not t))) (part-begins l (suc j)) (or_cases _ (part_at l (suc j)) (all_to-true _ (length l) h.1 j b)))

pub good-says : (l : List ℕ) → good_text l ≡ true → (l ≡ slash ∷ []) ⊎ (split (after_root l) ≡ true)
unfolding good_text
good-says l e =
    ⊎_elim (λ h. inl (same_true l (slash ∷ []) h)) inr
    (or_cases (same l (slash ∷ [])) (split (after_root l)) (and_parts (eqb (early_reason (name_verdict l)) 0) _ e).1)

-- ---- the parts of p/q

-- a byte before parts, of which there is at least one
onto-join : (t : Bool) (b : ℕ) (ps qs : List (List ℕ)) {p : List ℕ} {rs : List (List ℕ)} → ps ≡ p ∷ rs
    → pick t ([] ∷ (ps ++ qs)) (onto b (ps ++ qs)) ≡ pick t ([] ∷ ps) (onto b ps) ++ qs
onto-join true b ps qs e = refl
onto-join false b ps qs e = rw e

-- p is not empty and does not end in a slash
pub cut-join : (b : ℕ) (l q : List ℕ) → is_slash (get_or (b ∷ l) (length l) 0) ≡ false → cut ((b ∷ l) ++ (slash ∷ q)) ≡ cut (b ∷ l) ++ cut q
unfolding cut
cut-join b [] q e = rw e refl
cut-join b (c ∷ l) q e =
    ap (λ (ps : List (List ℕ)). pick (is_slash b) ([] ∷ ps) (onto b ps)) (cut-join c l q e)
    ∙ onto-join (is_slash b) b (cut (c ∷ l)) (cut q) (cut-first c l)

split-join : (p q : List ℕ) → split p ≡ true → cut (p ++ (slash ∷ q)) ≡ cut p ++ cut q
split-join [] q e = absurd (omega (arith, (split-says [] e).0.0))
split-join (b ∷ l) q e = cut-join b l q (test-fails _ (λ t. omega (arith, ((split-says (b ∷ l) e).1 (length l) (omega arith) t).0)))

-- a text that another follows is no lone slash
good-split : (p q : List ℕ) → good_text p ≡ true → good_text (p ++ (slash ∷ q)) ≡ true → split (after_root p) ≡ true
good-split p q g h = ⊎_elim (λ e. absurd (double (subst (λ (x : List ℕ). good_text (x ++ (slash ∷ q)) ≡ true) e h))) (λ e. e) (good-says p g)
  where
    double : good_text (slash ∷ slash ∷ q) ≡ true → ⊥
    double e =
        ⊎_elim (λ x. let z : suc (suc (length q)) ≡ 1 = ap length x in omega arith) (λ x. true≢false (split-says (slash ∷ q) x).0.1)
        (good-says (slash ∷ slash ∷ q) e)

head-join : (b : ℕ) (l q : List ℕ) → split (after_root (b ∷ l)) ≡ true → parts_of ((b ∷ l) ++ (slash ∷ q)) ≡ parts_of (b ∷ l) ++ cut q
head-join b l q = go (is_slash b)
  where
    go : (t : Bool) → split (drop (bit t) (b ∷ l)) ≡ true → cut (drop (bit t) (b ∷ (l ++ (slash ∷ q)))) ≡ cut (drop (bit t) (b ∷ l)) ++ cut q
    go true e = split-join l q e
    go false e = split-join (b ∷ l) q e

pub parts_join : (p q : List ℕ) → good_text p ≡ true → good_text (p ++ (slash ∷ q)) ≡ true → parts_of (p ++ (slash ∷ q)) ≡ parts_of p ++ cut q
parts_join [] q g h = absurd (omega (arith, (split-says [] (good-split [] q g h)).0.0))
parts_join (b ∷ l) q g h = head-join b l q (good-split (b ∷ l) q g h)

-- p/q begins where p does
pub enter-join : (s : Fs) (at : Spot) (p q : List ℕ) → good_text p ≡ true → good_text (p ++ (slash ∷ q)) ≡ true → enter s at (p ++ (slash ∷ q)) ≡ enter s at p
unfolding enter
enter-join s at [] q g h = absurd (omega (arith, (split-says [] (good-split [] q g h)).0.0))
enter-join s at (b ∷ l) q g h = rw (g, h) refl

pub text-join : (s : Fs) (room k : ℕ) (b : List ℕ) (at : Spot) (p q : List ℕ) → good_text p ≡ true → good_text (p ++ (slash ∷ q)) ≡ true
    → walk_text s room k b at (p ++ (slash ∷ q)) ≡ and_then (walk_text s room k b at p) (λ c j to. walk_on s room j c to (cut q))
text-join s room k b at p q g h = rw (enter-join s at p q g h, parts_join p q g h) (go (enter s at p))
  where
    go : (o : Out Spot) → or_stop b k o (λ to. walk_on s room k b to (parts_of p ++ cut q)) ≡ and_then (or_stop b k o (λ to. walk_on s room k b to (parts_of p))) (λ c j to. walk_on s room j c to (cut q))
    go (refused n) = refl
    go (done to) = walk-join s room k b to (parts_of p) (cut q)

pub joins : Joins
unfolding Joins walk_in
joins s room at p q g h = text-join s room most_links [] at p q g h

-- ---- each part of a good text is a name

abbrev Names : List (List ℕ) → Type 0
Names ps = (i : ℕ) → i < length ps → IsPart (get_or ps i [])

names-none : Names (cut [])
unfolding cut
names-none i h = absurd (omega arith)

names-cons : (p : List ℕ) (ps : List (List ℕ)) → IsPart p → Names ps → Names (p ∷ ps)
names-cons p ps n ns zero h = n
names-cons p ps n ns (suc i) h = ns i (omega arith)

byte-name : (b : ℕ) (p : List ℕ) → is_slash b ≡ false → NoSlash p → IsPart (b ∷ p)
byte-name b p e n = (λ x. let z : suc (length p) ≡ 0 = ap length x in omega arith, go)
  where
    go : NoSlash (b ∷ p)
    go zero h = eqb-false b slash e
    go (suc j) h = n j (omega arith)

onto-names : (b : ℕ) (ps : List (List ℕ)) → is_slash b ≡ false → Names ps → Names (onto b ps)
onto-names b [] e ns = names-cons (b ∷ []) [] (byte-name b [] e (λ j h. absurd (omega arith))) ns
onto-names b (p ∷ ps) e ns = names-cons (b ∷ p) ps (byte-name b p e (ns 0 (omega arith)).1) (λ i h. ns (suc i) (omega arith))

after-byte : (b : ℕ) (l : List ℕ) → is_slash b ≡ false → Names (cut l) → Names (cut (b ∷ l))
unfolding cut
after-byte b l e ns = rw e (onto-names b (cut l) e ns)

after-slash : (b c : ℕ) (l : List ℕ) → is_slash b ≡ false → is_slash c ≡ true → Names (cut l) → Names (cut (b ∷ c ∷ l))
unfolding cut
after-slash b c l e f ns = rw (e, f) (names-cons (b ∷ []) (cut l) (byte-name b [] e (λ j h. absurd (omega arith))) ns)

pub single-tail : (b : ℕ) (l : List ℕ) → SingleSlashes (b ∷ l) → SingleSlashes l
single-tail b l a j h t = let s = a (suc j) (omega arith) t in (omega arith, s.1)

cut-names : (l : List ℕ) → Begins l 0 → SingleSlashes l → Names (cut l)
cut-names [] s a = absurd (omega (arith, s.0))
cut-names (b ∷ []) s a = after-byte b [] s.1 names-none
cut-names (b ∷ c ∷ l) s a =
    ⊎_elim (λ t. after-slash b c l s.1 t (let u = a 1 (omega arith) t in cut-names l (omega arith, u.1) (single-tail c l (single-tail b (c ∷ l) a))))
    (λ f. after-byte b (c ∷ l) s.1 (cut-names (c ∷ l) (omega arith, f) (single-tail b (c ∷ l) a)))
    (bool_cases (is_slash c))

pub parts-good : PartsGood
unfolding PartsGood
parts-good l g =
    ⊎_elim (λ e. subst (λ (x : List ℕ). Names (parts_of x)) (sym e) names-none)
    (λ e. let h = split-says (after_root l) e in cut-names (after_root l) h.0 h.1)
    (good-says l g)
