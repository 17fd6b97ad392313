-- Good texts: one that begins with a part, and what may come after a slash.
use mathlib.Core.Path.{◌≡◌, refl, sym, ap, ◌∙◌, subst}
use mathlib.Core.Bool.{Bool, true, false, not, ◌||◌, true≢false}
use mathlib.Core.List.{List, [], ◌∷◌, ◌++◌}
use mathlib.Core.Logic.{◌≢◌, ⊎_elim}
use Prim.Native.Nat.{ℕ, zero, suc, ◌-◌, ◌≤◌, ◌<◌}
use native.Mathlib.Omega.{arith}
use lib.ListN.{length, get_or, drop, length-append, get_or-append}
use lib.Dec.{T, eqb, ltb}
use borrow.Author.Tests.{lt-ltb, eqb-true, ne_eqb}
use Rattle.base.specs.Count.{bit}
use Rattle.base.specs.Decides.{same}
use Rattle.base.specs.Search.{lowest, pick}
use Rattle.base.proofs.Bools.{bool_cases, and_both, and_parts, or-first, or-second}
use Rattle.base.proofs.Counts.{all_to-all}
use Rattle.base.proofs.Sames.{decided-yes}
use Rattle.utf8.specs.declared.State.{State}
use Rattle.utf8.specs.declared.State.TheVariants.{Whole, Wants, Wrong}
use Rattle.utf8.specs.declared.NameVerdict.{NameVerdict}
use Rattle.utf8.specs.declared.NameVerdict.TheVariants.{Good, Slashed}
use Rattle.utf8.specs.Utf8.{within, lead, tail, step, after, is_whole, utf8}
use Rattle.utf8.specs.Names.{NoSlash, GoodName, has_zero, zero_at, has_slash, name_verdict, early_reason}
use Rattle.utf8.proofs.Leads.{within-under}
use Rattle.utf8.proofs.Grammar.{utf8-decides}
use Rattle.utf8.proofs.Names.{verdict-is, early-good}
use Rattle.walk.specs.Walk.{slash, is_slash, from_root, after_root, part_at, split, good_text, cut}
use Rattle.walk.specs.Laws.{IsPart}
use Rattle.walk.specs.Symlinks.{GoodJoins}
use Rattle.walk.proofs.Chains.{plain-cut}
use Rattle.walk.proofs.Joins.{Begins, SingleSlashes, split-says, good-says, single-tail}

-- ---- a part, and what comes after it

part-byte : (c : ℕ) (l : List ℕ) → NoSlash (c ∷ l) → is_slash c ≡ false
part-byte c l bare = ne_eqb c slash (λ e. bare 0 (omega arith) e)

pub part_cut : (l q : List ℕ) → NoSlash l → cut (l ++ (slash ∷ q)) ≡ l ∷ cut q
unfolding cut
part_cut [] q bare = refl
part_cut (c ∷ l) q bare = rw (part-byte c l bare, part_cut l q (λ j h e. bare (suc j) (omega arith) e)) refl

pub part-here : (l m : List ℕ) → IsPart l → from_root (l ++ m) ≡ false
part-here [] m n = absurd (n.0 refl)
part-here (c ∷ l) m n = part-byte c l n.1

pub part-alone : (l : List ℕ) → IsPart l → cut l ≡ l ∷ []
part-alone [] n = absurd (n.0 refl)
part-alone (c ∷ l) n = plain-cut c l n.1

-- ---- the bytes of what comes after a slash: no zero, and UTF-8

abbrev NoZero : List ℕ → Type 0
NoZero l = (j : ℕ) → j < length l → get_or l j 0 ≡ 0 → ⊥

tail-zero : (p m : List ℕ) → NoZero (p ++ m) → NoZero m
tail-zero [] m z = z
tail-zero (b ∷ p) m z = tail-zero p m (λ j h e. z (suc j) (omega arith) e)

join-zero : (p m : List ℕ) → NoZero p → NoZero m → NoZero (p ++ m)
join-zero [] m y z j h e = z j h e
join-zero (b ∷ p) m y z zero h e = y 0 (omega arith) e
join-zero (b ∷ p) m y z (suc j) h e = join-zero p m (λ i l. y (suc i) (omega arith)) z j (omega arith) e

-- inside a character no byte below 128 is wanted
data High : State → Type 0 where
  whole : High Whole
  wrong : High Wrong
  wants : {low high more : ℕ} → 128 ≤ low → High (Wants low high more)

high-pick : (b : Bool) {s u : State} → High s → High u → High (pick b s u)
high-pick true x y = x
high-pick false x y = y

high-wants : (low high more : ℕ) → 128 ≤ low → High (Wants low high more)
high-wants low high more l = wants l

high-lead : (b : ℕ) → High (lead b)
unfolding lead
high-lead b =
    high-pick (within 0x00 0x7F b) whole
    (high-pick (within 0xC2 0xDF b) (high-wants 0x80 0xBF 0 (omega arith))
    (high-pick (eqb b 0xE0) (high-wants 0xA0 0xBF 1 (omega arith))
    (high-pick (within 0xE1 0xEC b) (high-wants 0x80 0xBF 1 (omega arith))
    (high-pick (eqb b 0xED) (high-wants 0x80 0x9F 1 (omega arith))
    (high-pick (within 0xEE 0xEF b) (high-wants 0x80 0xBF 1 (omega arith))
    (high-pick (eqb b 0xF0) (high-wants 0x90 0xBF 2 (omega arith))
    (high-pick (within 0xF1 0xF3 b) (high-wants 0x80 0xBF 2 (omega arith))
    (high-pick (eqb b 0xF4) (high-wants 0x80 0x8F 2 (omega arith))
    wrong))))))))

high-step : (s : State) (b : ℕ) → High (step s b)
unfolding step tail
high-step Whole b = high-lead b
high-step (Wants low high more) b = high-pick (within low high b) (high-pick (eqb more 0) whole (high-wants 0x80 0xBF (more - 1) (omega arith))) wrong
high-step Wrong b = wrong

high_after : (s : State) (l : List ℕ) → High s → High (after s l)
unfolding after
high_after s [] x = x
high_after s (b ∷ l) x = high_after (step s b) l (high-step s b)

after-join : (s : State) (l m : List ℕ) → after s (l ++ m) ≡ after (after s l) m
unfolding after
after-join s [] m = refl
after-join s (b ∷ l) m = after-join (step s b) l m

wrong_stays : (l : List ℕ) → after Wrong l ≡ Wrong
unfolding after step
wrong_stays [] = refl
wrong_stays (b ∷ l) = wrong_stays l

-- so a slash is a character
slash-after : (s : State) (q : List ℕ) → High s → is_whole (after s (slash ∷ q)) ≡ true → is_whole (after Whole (slash ∷ q)) ≡ true
unfolding after step tail
slash-after Whole q x e = e
slash-after Wrong q x e = absurd (true≢false (sym e ∙ ap is_whole (wrong_stays q)))
slash-after (Wants low high more) q (wants h) e =
    absurd (true≢false (sym e ∙ (ap (λ (b : Bool). is_whole (after (pick b (pick (eqb more 0) Whole (Wants 0x80 0xBF (more - 1))) Wrong) q)) (within-under low high slash (omega arith)) ∙ ap is_whole (wrong_stays q))))

whole_is : (s : State) → is_whole s ≡ true → s ≡ Whole
whole_is Whole e = refl
whole_is (Wants low high more) e = absurd (true≢false (sym e))
whole_is Wrong e = absurd (true≢false (sym e))

tail-utf8 : (p q : List ℕ) → utf8 (p ++ (slash ∷ q)) ≡ true → utf8 (slash ∷ q) ≡ true
unfolding utf8
tail-utf8 p q e = slash-after (after Whole p) q (high_after Whole p whole) (sym (ap is_whole (after-join Whole p (slash ∷ q))) ∙ e)

join-utf8 : (p m : List ℕ) → utf8 p ≡ true → utf8 m ≡ true → utf8 (p ++ m) ≡ true
unfolding utf8
join-utf8 p m e f = ap is_whole (after-join Whole p m) ∙ (ap (λ (s : State). is_whole (after s m)) (whole_is (after Whole p) e) ∙ f)

is-utf8 : {l : List ℕ} → GoodName l → utf8 l ≡ true
is-utf8 {l} g = decided-yes (utf8-decides l) g.octets

good-by : (l : List ℕ) → NoZero l → utf8 l ≡ true → GoodName l
good-by l z u = record { no_zero = z; octets = (utf8-decides l).right (subst T (sym u) tt) }

tail-good : (p q : List ℕ) → GoodName (p ++ (slash ∷ q)) → GoodName (slash ∷ q)
tail-good p q g = good-by (slash ∷ q) (tail-zero p (slash ∷ q) g.no_zero) (tail-utf8 p q (is-utf8 g))

join-good : (p m : List ℕ) → GoodName p → GoodName m → GoodName (p ++ m)
join-good p m g h = good-by (p ++ m) (join-zero p m g.no_zero h.no_zero) (join-utf8 p m (is-utf8 g) (is-utf8 h))

-- ---- its parts: one begins after each slash

split-is : (l : List ℕ) → Begins l 0 → SingleSlashes l → split l ≡ true
unfolding split
split-is l b a =
    and_both (part-is l 0 b)
    (all_to-all (λ i. not (is_slash (get_or l i 0)) || part_at l (suc i)) (length l) (λ i h. ⊎_elim
    (λ t. or-second (not (is_slash (get_or l i 0))) (part-is l (suc i) (a i h t)))
    (λ f. or-first (part_at l (suc i)) (ap not f))
    (bool_cases (is_slash (get_or l i 0)))))
  where
    part-is : (l : List ℕ) (i : ℕ) → Begins l i → part_at l i ≡ true
    part-is l i b = and_both (lt-ltb i (length l) b.0) (ap not b.1)

front-begins : (p m : List ℕ) (i : ℕ) → Begins p i → Begins (p ++ m) i
front-begins p m i b = (omega (arith, length-append p m, b.0), ap is_slash (get_or-append p m 0 i b.0) ∙ b.1)

tail-single : (p m : List ℕ) → SingleSlashes (p ++ m) → SingleSlashes m
tail-single [] m a = a
tail-single (b ∷ p) m a = tail-single p m (single-tail b (p ++ m) a)

join-single : (p m : List ℕ) → SingleSlashes p → SingleSlashes m → SingleSlashes (p ++ m)
join-single [] m a c j h t = c j h t
join-single (b ∷ p) m a c zero h t = front-begins (b ∷ p) m 1 (a 0 (omega arith) t)
join-single (b ∷ p) m a c (suc j) h t = let x = join-single p m (single-tail b p a) c j (omega arith) t in (omega (arith, x.0), x.1)

-- ---- a good text

good-name : (l : List ℕ) → good_text l ≡ true → GoodName l
unfolding good_text
good-name l e = early-good l (eqb-true (early_reason (name_verdict l)) 0 (and_parts (eqb (early_reason (name_verdict l)) 0) (same l (slash ∷ []) || split (after_root l)) e).0)

good-is : (l : List ℕ) → GoodName l → split (after_root l) ≡ true → good_text l ≡ true
unfolding good_text
good-is l g e = and_both (ap (λ (v : NameVerdict). eqb (early_reason v) 0) (verdict-is l g) ∙ by (has_slash l) (ltb 255 (length l))) (or-second (same l (slash ∷ [])) e)
  where
    by : (b long : Bool) → eqb (early_reason (pick b (Slashed long) (Good long))) 0 ≡ true
    by true long = refl
    by false long = refl

-- after its first slash, if it is not the first byte
rest-single : (p q : List ℕ) → p ≢ [] → good_text (p ++ (slash ∷ q)) ≡ true → SingleSlashes (slash ∷ q)
rest-single [] q some g = absurd (some refl)
rest-single (c ∷ p) q some g =
    ⊎_elim (λ e. let z : suc (length (p ++ (slash ∷ q))) ≡ 1 = ap length e in absurd (omega (arith, length-append p (slash ∷ q)))) (go (is_slash c)) (good-says ((c ∷ p) ++ (slash ∷ q)) g)
  where
    go : (t : Bool) → split (drop (bit t) (c ∷ (p ++ (slash ∷ q)))) ≡ true → SingleSlashes (slash ∷ q)
    go true e = tail-single p (slash ∷ q) (split-says (p ++ (slash ∷ q)) e).1
    go false e = tail-single (c ∷ p) (slash ∷ q) (split-says ((c ∷ p) ++ (slash ∷ q)) e).1

after-root-join : (p m : List ℕ) → split (after_root p) ≡ true → after_root (p ++ m) ≡ after_root p ++ m
after-root-join [] m e = absurd (omega (arith, (split-says [] e).0.0))
after-root-join (b ∷ l) m e = go (is_slash b)
  where
    go : (t : Bool) → drop (bit t) ((b ∷ l) ++ m) ≡ drop (bit t) (b ∷ l) ++ m
    go true = refl
    go false = refl

-- a lone slash is one
pub root-text : good_text (slash ∷ []) ≡ true
unfolding good_text same name_verdict has_zero zero_at lowest utf8 after step lead within has_slash
root-text = refl

pub good-joins : GoodJoins
unfolding GoodJoins
good-joins p q target some g h lone =
    let s : split (after_root target) ≡ true = ⊎_elim (λ e. absurd (lone e)) (λ e. e) (good-says target h) in
    let a = split-says (after_root target) s in
    good-is (target ++ (slash ∷ q)) (join-good target (slash ∷ q) (good-name target h) (tail-good p q (good-name (p ++ (slash ∷ q)) g)))
    (ap split (after-root-join target (slash ∷ q) s)
    ∙ split-is (after_root target ++ (slash ∷ q)) (front-begins (after_root target) (slash ∷ q) 0 a.0) (join-single (after_root target) (slash ∷ q) a.1 (rest-single p q some g)))

-- and `/q` is good
pub root-good : (p q : List ℕ) → p ≢ [] → good_text (p ++ (slash ∷ q)) ≡ true → good_text (slash ∷ q) ≡ true
root-good p q some g =
    let a = rest-single p q some g in
    let b = a 0 (omega arith) refl in
    good-is (slash ∷ q) (tail-good p q (good-name (p ++ (slash ∷ q)) g)) (split-is q (omega (arith, b.0), b.1) (single-tail slash q a))
