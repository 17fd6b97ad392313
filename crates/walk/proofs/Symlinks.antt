-- A symlink that is followed.
use mathlib.Core.Path.{◌≡◌, refl, sym, ap, ◌∙◌}
use mathlib.Core.Bool.{Bool, true, false}
use mathlib.Core.List.{List, [], ◌∷◌, ◌++◌, append_assoc}
use mathlib.Core.Logic.{◌≢◌}
use Prim.Native.Nat.{ℕ, suc}
use native.Mathlib.Omega.{arith}
use Rattle.base.specs.Out.{Out, done, refused, bind, ensure}
use Rattle.base.specs.Search.{pick}
use Rattle.sefs.specs.State.{Fs}
use Rattle.walk.specs.Walk.{slash, good_text, from_root, cut, parts_of, Spot, at_root, met, along, enter, Walked, walked, or_stop, walk_on, walk_text}
use Rattle.walk.specs.Laws.{Chain, here, on, and_then, IsPart}
use Rattle.walk.specs.Symlinks.{LinkAt, FollowsParts, FollowsLast, Front, no_front, root-front, text-front, FollowsText, FollowsRoot, FollowsName, GoodJoins}
use Rattle.walk.proofs.Cuts.{cut-none}
use Rattle.walk.proofs.Chains.{plain-parts}
use Rattle.walk.proofs.Walks.{along-none, along-link, along-on, walk_end, walk-bad, walk-follow, walk-join}
use Rattle.walk.proofs.Joins.{parts_join, enter-join, text-join}
use Rattle.walk.proofs.Texts.{part_cut, part-here, part-alone, root-text, good-joins, root-good}

-- ---- by parts

meets-link : (s : Fs) (room : ℕ) (b : List ℕ) {from at : Spot} {ps : List (List ℕ)} (l target : List ℕ) (qs : List (List ℕ)) → Chain s from ps at → (L : LinkAt s room b at l target)
    → along s from (ps ++ (l ∷ qs)) ≡ done (met at L.node.rec qs)
meets-link s room b {from} l target qs here L = along-link s from l qs L.named L.link
meets-link s room b {from} l target qs (on {p = p} {ps = ps} e f c) L = along-on s from p (ps ++ (l ∷ qs)) e f ∙ meets-link s room b l target qs c L

pub follows-parts : FollowsParts
unfolding FollowsParts
follows-parts s room k b from at ps l target qs c L = go (enter s at target) refl
  where
    m : along s from (ps ++ (l ∷ qs)) ≡ done (met at L.node.rec qs)
    m = meets-link s room b l target qs c L

    go : (o : Out Spot) → enter s at target ≡ o
        → walk_on s room (suc k) b from (ps ++ (l ∷ qs)) ≡ and_then (or_stop (b ++ target) k o (λ to. walk_on s room k (b ++ target) to (parts_of target))) (λ c j to. walk_on s room j c to qs)
    go (refused n) e = walk-bad s room b from (ps ++ (l ∷ qs)) m k L.holds e
    go (done to) e = walk-follow s room b from (ps ++ (l ∷ qs)) m k L.holds e ∙ walk-join s room k (b ++ target) to (parts_of target) qs

-- a walk along no parts stands where it is
then-none : (s : Fs) (room : ℕ) (x : Walked Spot) → and_then x (λ c j to. walk_on s room j c to []) ≡ x
then-none s room x = go x.links x.left x.end
  where
    go : (b : List ℕ) (k : ℕ) (o : Out Spot) → or_stop b k o (λ to. walk_on s room k b to []) ≡ walked b k o
    go b k (done to) = walk_end s room k b to [] (along-none s to)
    go b k (refused n) = refl

pub follows-last : FollowsLast
unfolding FollowsLast FollowsParts
follows-last s room k b from at ps l target c L = follows-parts s room k b from at ps l target [] c L ∙ then-none s room (walk_text s room k (b ++ target) at target)

-- ---- a text and its front

-- a text that was entered is good
entered : (s : Fs) (from : Spot) (d : List ℕ) (to : Spot) → enter s from d ≡ done to → good_text d ≡ true
unfolding enter
entered s from d to = go (good_text d)
  where
    go : (b : Bool) → bind (ensure b 5) (λ _. pick (from_root d) (at_root s) (done from)) ≡ done to → b ≡ true
    go true e = refl
    go false e = absurd (let z : ◌≡◌ {A = ℕ} 0 1 = cc in omega arith)

-- the front's parts lead to the folder, and then come the parts of what is after it
record PastFront (s : Fs) (from at : Spot) (text rest : List ℕ) : Type 0 where
  start : Spot
  parts : List (List ℕ)
  chain : Chain s start parts at
  goes : (room k : ℕ) (b : List ℕ) → walk_text s room k b from text ≡ walk_on s room k b start (parts ++ cut rest)

front_goes : (s : Fs) (from : Spot) {p : List ℕ} {at : Spot} (rest : List ℕ) → from_root rest ≡ false → Front s from p at → good_text (p ++ rest) ≡ true → PastFront s from at (p ++ rest) rest
unfolding enter
front_goes s from rest rel no_front g = record { start = from; parts = []; chain = here; goes = λ room k b. rw (g, rel) refl }
front_goes s from {at = at} rest rel (root-front e) g = record { start = at; parts = []; chain = here; goes = λ room k b. rw (g, e) refl }
front_goes s from rest rel (text-front d {to = to} e c) g =
    let j : (d ++ (slash ∷ [])) ++ rest ≡ d ++ (slash ∷ rest) = append_assoc d (slash ∷ []) rest in
    let h : good_text (d ++ (slash ∷ rest)) ≡ true = ap good_text (sym j) ∙ g in
    let x : good_text d ≡ true = entered s from d to e in
    record {
      start = to;
      parts = parts_of d;
      chain = c;
      goes = λ room k b. ap (walk_text s room k b from) j ∙ go room k b (enter-join s from d rest x h ∙ e) (parts_join d rest x h);
    }
  where
    go : (room k : ℕ) (b : List ℕ) → enter s from (d ++ (slash ∷ rest)) ≡ done to → parts_of (d ++ (slash ∷ rest)) ≡ parts_of d ++ cut rest
        → walk_text s room k b from (d ++ (slash ∷ rest)) ≡ walk_on s room k b to (parts_of d ++ cut rest)
    go room k b y z = rw (y, z) refl

-- ---- by texts

-- a link, a slash and more: the target, and then the rest
goes-link : (s : Fs) (room k : ℕ) (b : List ℕ) (from at : Spot) (p l q target : List ℕ) → Front s from p at → LinkAt s room b at l target → IsPart l → good_text (p ++ (l ++ (slash ∷ q))) ≡ true
    → walk_text s room (suc k) b from (p ++ (l ++ (slash ∷ q))) ≡ and_then (walk_text s room k (b ++ target) at target) (λ c j to. walk_on s room j c to (cut q))
unfolding FollowsParts
goes-link s room k b from at p l q target F L n g =
    let G = front_goes s from (l ++ (slash ∷ q)) (part-here l (slash ∷ q) n) F g in
    G.goes room (suc k) b
    ∙ ap (λ (ps : List (List ℕ)). walk_on s room (suc k) b G.start (G.parts ++ ps)) (part_cut l q n.1)
    ∙ follows-parts s room k b G.start at G.parts l target (cut q) G.chain L

-- a text that ends in a part is not empty
some-front : (p l : List ℕ) → l ≢ [] → p ++ l ≢ []
some-front [] l some e = some e
some-front (b ∷ p) l some e = let z : ◌≡◌ {A = ℕ} 0 1 = cc in omega arith

-- the front and the link, before the slash
front-good : (p l q : List ℕ) → good_text (p ++ (l ++ (slash ∷ q))) ≡ true → good_text ((p ++ l) ++ (slash ∷ q)) ≡ true
front-good p l q g = ap good_text (append_assoc p l (slash ∷ q)) ∙ g

pub follows-text : FollowsText
unfolding FollowsText GoodJoins
follows-text s room k b from at p l q target F L n g h lone =
    goes-link s room k b from at p l q target F L n g
    ∙ sym (text-join s room k (b ++ target) at target q h (good-joins (p ++ l) q target (some-front p l n.0) (front-good p l q g) h lone))

-- `/` and then q is `/q`
after-root : (s : Fs) (room k : ℕ) (c : List ℕ) (at : Spot) (q : List ℕ) → good_text (slash ∷ []) ≡ true → good_text (slash ∷ q) ≡ true
    → and_then (walk_text s room k c at (slash ∷ [])) (λ c j to. walk_on s room j c to (cut q)) ≡ walk_text s room k c at (slash ∷ q)
unfolding enter
after-root s room k c at q lone g = rw (lone, g) (go (at_root s))
  where
    go : (o : Out Spot) → and_then (or_stop c k o (λ to. walk_on s room k c to (cut []))) (λ c j to. walk_on s room j c to (cut q)) ≡ or_stop c k o (λ to. walk_on s room k c to (cut q))
    go (refused n) = refl
    go (done to) = ap (λ (x : Walked Spot). and_then x (λ c j to. walk_on s room j c to (cut q))) (ap (walk_on s room k c to) cut-none ∙ walk_end s room k c to [] (along-none s to))

pub follows-root : FollowsRoot
unfolding FollowsRoot
follows-root s room k b from at p l q F L n g =
    goes-link s room k b from at p l q (slash ∷ []) F L n g
    ∙ after-root s room k (b ++ (slash ∷ [])) at q root-text (root-good (p ++ l) q (some-front p l n.0) (front-good p l q g))

pub follows-name : FollowsName
unfolding FollowsName FollowsLast
follows-name s room k b from at p l target F L n g =
    let G = front_goes s from l (plain-parts l n.0 n.1).0 F g in
    G.goes room (suc k) b
    ∙ ap (λ (ps : List (List ℕ)). walk_on s room (suc k) b G.start (G.parts ++ ps)) (part-alone l n)
    ∙ follows-last s room k b G.start at G.parts l target G.chain L
