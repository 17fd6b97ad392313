-- The chains lead to what a search of all blocks finds.
use mathlib.Core.Path.{◌≡◌, refl, sym, ap, ap₂, ◌∙◌, subst}
use mathlib.Core.Bool.{Bool, true, false, ◌&&◌, not, true≢false}
use mathlib.Core.List.{List}
use mathlib.Core.Logic.{⊎_elim, ◌⊎◌, inl, inr, ◌≢◌}
use Prim.Native.Nat.{ℕ, suc, ◌+◌, ◌-◌, ◌≤◌, ◌<◌, zero-le}
use native.Mathlib.Nat.{eq-or-lt_of_le, zero-add}
use native.Mathlib.Omega.{arith}
use native.Mathlib.Decide.{ℕ_discrete}
use lib.Dec.{eqb, ltb}
use lib.ListN.{length, get_or, set, take, drop}
use lib.Seq.{get_or-set_same, get_or-set_other, take-set-lt, take-set-le, drop-set-lt, drop-set-add}
use borrow.Author.Tests.{eq-eqb, ne_eqb, eqb-true, lt-ltb, le-ltb, ltb-true}
use Rattle.base.proofs.Sames.{last_one, all_to-and, and-true}
use Rattle.base.specs.Count.{all_to}
use Rattle.base.specs.Search.{lowest, last}
use Rattle.base.proofs.Bools.{and_parts, true-false}
use Rattle.base.proofs.Counts.{all_to-true, all_to-cong}
use Rattle.base.proofs.Lists.{length_part, get_d_part}
use Rattle.base.proofs.Numbers.{lt-or-le}
use Rattle.base.proofs.Searches.{lowest-first, lowest-here, last-is, last-no, last-yes}
use Rattle.arena.specs.Blocks.{blk, blocks}
use Rattle.arena.specs.Fields.{File, tag_of, number_of, file_of, is_free, is_head}
use Rattle.arena.specs.Places.{head_of, data_of}
use Rattle.arena.proofs.Fields.{head-is, head-own, data_is, data-own, free_own, free-not}
use Rattle.arena.proofs.Places.{head_first}
use Rattle.sound.specs.Sound.{block_sound, layout, head_once, data_once, within, under, sound_at, sound}
use Rattle.sound.specs.Chain.{is_key, hash_key, hash_of, in_bucket, Chains, firsts, nexts, alone}
use Rattle.sound.proofs.Sounds.{used_sound}

-- ---- keys and buckets

-- a block with a key is in the bucket of that key's hash
pub key-bucket : (a : List ℕ) (head : Bool) (f : File) (q j : ℕ) → is_key head f q (blk a j) ≡ true → in_bucket a (hash_key head f.which f.name q) j ≡ true
unfolding in_bucket hash_of hash_key
key-bucket a true f q j e =
    let H = head-is f (blk a j) e in
    rw (free-not (blk a j) (λ z. absurd (omega (arith, H.tag))), eq-eqb (tag_of (blk a j)) 1 H.tag)
    (eq-eqb _ _ (ap (λ (g : File). hash_key true g.which g.name q) H.of))
key-bucket a false f q j e =
    let D = data_is f q (blk a j) e in
    rw (free-not (blk a j) (λ z. absurd (omega (arith, D.tag))), ne_eqb (tag_of (blk a j)) 1 (λ z. absurd (omega (arith, D.tag))))
    (eq-eqb _ _ (ap₂ (λ (g : File) (n : ℕ). hash_key false g.which g.name n) D.of D.number))

pub in-hash : (a : List ℕ) (h j : ℕ) → in_bucket a h j ≡ true → (is_free (blk a j) ≡ false) × (hash_of (blk a j) ≡ h)
unfolding in_bucket
in-hash a h j e =
    let p = and_parts (not (is_free (blk a j))) (eqb (hash_of (blk a j)) h) e in
    (off (is_free (blk a j)) p.0, eqb-true _ _ p.1)
  where
    off : (b : Bool) → not b ≡ true → b ≡ false
    off true x = absurd (true≢false (sym x))
    off false x = refl

-- ---- a walk along a chain

-- at c: no block from c on has the key, and c leads to a block of the bucket
pub record Walk (a : List ℕ) (head : Bool) (f : File) (q k c : ℕ) : Type 0 where
  pub most : c ≤ k
  pub on : (j : ℕ) → c ≡ suc j → in_bucket a (hash_key head f.which f.name q) j ≡ true
  pub after : (j : ℕ) → c ≤ j → j < k → is_key head f q (blk a j) ≡ false

module _ (a : List ℕ) (head : Bool) (f : File) (q k : ℕ) where
  h : ℕ
  h = hash_key head f.which f.name q

  -- what is not in the bucket does not have the key
  no_key : (j : ℕ) → in_bucket a (hash_key head f.which f.name q) j ≡ false → is_key head f q (blk a j) ≡ false
  no_key j e = go (is_key head f q (blk a j)) refl
    where
      go : (t : Bool) → is_key head f q (blk a j) ≡ t → is_key head f q (blk a j) ≡ false
      go true x = absurd (true-false (key-bucket a head f q j x) e)
      go false x = x

  pub walk_start : (c : ℕ) → c ≡ last (in_bucket a (hash_key head f.which f.name q)) k → Walk a head f q k c
  walk_start c e =
      let L = last-is (in_bucket a (hash_key head f.which f.name q)) k in
      record {
        most = omega (arith, L.most);
        on = λ j x. L.hit j (sym e ∙ x);
        after = λ j g l. no_key j (L.after j (omega arith) l);
      }

  -- the block at c does not have the key: on to the one before it in the bucket
  pub walk-on : (c d : ℕ) {r : Bool} → 0 < c → Walk a head f q k c → r ≡ is_key head f q (blk a (c - 1)) → r ≡ false
      → (is_free (blk a (c - 1)) ≡ false → d ≡ last (in_bucket a (hash_of (blk a (c - 1)))) (c - 1)) → Walk a head f q k d × (d < c)
  walk-on c d pos W test miss e =
      let i : ℕ = c - 1 in
      let I = in-hash a (hash_key head f.which f.name q) (c - 1) (W.on (c - 1) (omega arith)) in
      let d-is : d ≡ last (in_bucket a (hash_key head f.which f.name q)) (c - 1) = e I.0 ∙ ap (λ (x : ℕ). last (in_bucket a x) (c - 1)) I.1 in
      let L = last-is (in_bucket a (hash_key head f.which f.name q)) (c - 1) in (
        record {
          most = omega (arith, L.most, W.most);
          on = λ j x. L.hit j (sym d-is ∙ x);
          after = λ j g l. ⊎_elim
              (λ below. no_key j (L.after j (omega arith) below))
              (λ up. ⊎_elim (λ (x : c - 1 ≡ j). subst (λ (y : ℕ). is_key head f q (blk a y) ≡ false) x (sym test ∙ miss)) (λ x. W.after j (omega arith) l) (eq-or-lt_of_le up))
              (lt-or-le j (c - 1));
        },
        omega (arith, L.most),
      )

  pub walk-found : (c : ℕ) {r : Bool} → 0 < c → Walk a head f q k c → r ≡ is_key head f q (blk a (c - 1)) → r ≡ true → c ≡ last (λ j. is_key head f q (blk a j)) k
  walk-found c pos W test hit =
      last_one (λ j. is_key head f q (blk a j)) k c (record {
        most = W.most;
        hit = λ j x. let y : c - 1 ≡ j = omega arith in subst (λ (i : ℕ). is_key head f q (blk a i) ≡ true) y (sym test ∙ hit);
        after = W.after;
      })

  pub walk_end : (c : ℕ) → c ≤ 0 → Walk a head f q k c → 0 ≡ last (λ j. is_key head f q (blk a j)) k
  walk_end c z W =
      last_one (λ j. is_key head f q (blk a j)) k 0 (record {
        most = zero-le;
        hit = λ j x. absurd (omega arith);
        after = λ j g l. W.after j (omega arith) l;
      })

-- ---- a block more

pub chains-none : (a first next : List ℕ) → ((h : ℕ) → h < 4096 → get_or first h 0 ≡ 0) → Chains a first next 0
unfolding last
chains-none a first next z = record { starts = z; links = λ j l. absurd (omega arith) }

-- a free block joins no chain
pub chains-skip : (a first next : List ℕ) (k : ℕ) → Chains a first next k → tag_of (blk a k) ≡ 0 → Chains a first next (k + 1)
unfolding in_bucket
chains-skip a first next k C t =
    let free : is_free (blk a k) ≡ true = free_own (blk a k) t in
    record {
      starts = λ h l. C.starts h l ∙ sym (last-no (in_bucket a h) k (rw free refl));
      links = λ j l used. C.links j (below free j l used) used;
    }
  where
    below : is_free (blk a k) ≡ true → (j : ℕ) → j < k + 1 → is_free (blk a j) ≡ false → j < k
    below free j l used =
        ⊎_elim (λ (x : j ≡ k). absurd (true-false free (subst (λ (i : ℕ). is_free (blk a i) ≡ false) x used))) (λ m. m) (eq-or-lt_of_le (let y : j ≤ k = omega arith in y))

chains-more : (a first next : List ℕ) (k h : ℕ) → Chains a first next k → tag_of (blk a k) ≢ 0 → h ≡ hash_of (blk a k) → h < 4096 → length first ≡ 4096 → k < length next
    → Chains a (set first h (k + 1)) (set next k (get_or first h 0)) (k + 1)
unfolding in_bucket
chains-more a first next k h C t e hl lf ln =
    let used : is_free (blk a k) ≡ false = free-not (blk a k) t in
    record {
      starts = λ i l. elim (ℕ_discrete i h) [
        | yes x ↦ subst (λ (y : ℕ). get_or (set first h (k + 1)) y 0 ≡ last (in_bucket a y) (k + 1)) (sym x)
            (get_or-set_same first h (k + 1) 0 (omega arith) ∙ sym (last-yes (in_bucket a h) k (rw used (eq-eqb (hash_of (blk a k)) h (sym e)))))
        | no x ↦ get_or-set_other first h i (k + 1) 0 x ∙ C.starts i l ∙ sym (last-no (in_bucket a i) k (rw used (ne_eqb (hash_of (blk a k)) i (λ y. x (sym y ∙ sym e)))))
      ];
      links = λ j l u. ⊎_elim
          (λ (x : j ≡ k). subst (λ (y : ℕ). get_or (set next k (get_or first h 0)) y 0 ≡ last (in_bucket a (hash_of (blk a y))) y) (sym x)
          (get_or-set_same next k (get_or first h 0) 0 ln ∙ C.starts h hl ∙ ap (λ (y : ℕ). last (in_bucket a y) k) e))
          (λ m. get_or-set_other next k j (get_or first h 0) 0 (omega arith) ∙ C.links j m u)
          (eq-or-lt_of_le (let y : j ≤ k = omega arith in y));
    }

chains-as : (a f g n m : List ℕ) (k : ℕ) → g ≡ f → m ≡ n → Chains a f n k → Chains a g m k
chains-as a f g n m k e d C = subst (λ (x : List ℕ). Chains a x m k) (sym e) (subst (λ (y : List ℕ). Chains a f y k) (sym d) C)

-- ---- both in one array

pub length-firsts : (c : List ℕ) → length c ≡ 8192 → length (firsts c) ≡ 4096
length-firsts c n = length_part c 0 4096 (omega arith) (omega arith)

pub length-nexts : (c : List ℕ) → length c ≡ 8192 → length (nexts c) ≡ 4096
length-nexts c n = length_part c 4096 8192 (omega arith) (omega arith)

pub get_or-firsts : (c : List ℕ) (h : ℕ) → h < 4096 → get_or (firsts c) h 0 ≡ get_or c h 0
get_or-firsts c h l = get_d_part c 0 4096 h l ∙ ap (λ (i : ℕ). get_or c i 0) (zero-add h)

-- what `insert` does to each half
insert-halves : (c : List ℕ) (k h v w : ℕ) → h < 4096 → k < 4096
    → (firsts (set (set c (4096 + k) v) h w) ≡ set (firsts c) h w) × (nexts (set (set c (4096 + k) v) h w) ≡ set (nexts c) k v)
insert-halves c k h v w hl kl = (
  take-set-lt 4096 (set c (4096 + k) v) h w hl ∙ ap (λ (x : List ℕ). set x h w) (take-set-le 4096 c (4096 + k) v (omega arith)),
  ap (take 4096) (drop-set-lt 4096 (set c (4096 + k) v) h w hl ∙ drop-set-add 4096 c k v) ∙ take-set-lt 4096 (drop 4096 c) k v kl,
)

-- and so block k joins the chains
pub chains-insert : (a c d : List ℕ) (k h : ℕ) → Chains a (firsts c) (nexts c) k → tag_of (blk a k) ≢ 0 → h ≡ hash_of (blk a k) → h < 4096 → k < 4096 → length c ≡ 8192
    → d ≡ set (set c (4096 + k) (get_or c h 0)) h (k + 1) → Chains a (firsts d) (nexts d) (k + 1)
chains-insert a c d k h C t e hl kl lc x =
    let H = insert-halves c k h (get_or c h 0) (k + 1) hl kl in
    chains-as a _ _ _ _ (k + 1)
    (ap firsts x ∙ H.0)
    (ap nexts x ∙ H.1 ∙ ap (λ (v : ℕ). set (nexts c) k v) (sym (get_or-firsts c h hl)))
    (chains-more a (firsts c) (nexts c) k h C t e hl (length-firsts c lc) (omega (arith, length-nexts c lc)))

-- ---- block k is the lowest with its key where none before it has it

small : (t : ℕ) → t ≢ 0 → t < 3 → (t ≡ 1) ⊎ (t ≡ 2)
small t n l = elim (ℕ_discrete t 1) [ yes e ↦ inl e | no ne ↦ inr (omega arith) ]

-- the key of a block
abbrev pub own_key : List ℕ → ℕ → ℕ → Bool
own_key a k j = is_key (eqb (tag_of (blk a k)) 1) (file_of (blk a k)) (number_of (blk a k)) (blk a j)

module _ (a : List ℕ) (k : ℕ) (l : k < blocks a) (n0 : tag_of (blk a k) ≢ 0) (n3 : tag_of (blk a k) < 3) where
  own : own_key a k k ≡ true
  own = ⊎_elim
      (λ (e : tag_of (blk a k) ≡ 1). rw (eq-eqb (tag_of (blk a k)) 1 e) (head-own (file_of (blk a k)) (blk a k) (record { tag = e; of = refl })))
      (λ (e : tag_of (blk a k) ≡ 2). rw (ne_eqb (tag_of (blk a k)) 1 (λ z. absurd (omega arith))) (data-own (file_of (blk a k)) (number_of (blk a k)) (blk a k) (record { tag = e; number = refl; of = refl })))
      (small (tag_of (blk a k)) n0 n3)

  key-place : (t : Bool) → eqb (tag_of (blk a k)) 1 ≡ t → lowest (own_key a k) (blocks a) ≡ lowest (λ j. is_key t (file_of (blk a k)) (number_of (blk a k)) (blk a j)) (blocks a)
  key-place t e = ap (λ (t : Bool). lowest (λ j. is_key t (file_of (blk a k)) (number_of (blk a k)) (blk a j)) (blocks a)) e

  once_is : (head_once a k && data_once a k) ≡ eqb (lowest (own_key a k) (blocks a)) k
  unfolding head_once data_once head_of data_of
  once_is = ⊎_elim
      (λ (e : tag_of (blk a k) ≡ 1).
      let t : eqb (tag_of (blk a k)) 1 ≡ true = eq-eqb (tag_of (blk a k)) 1 e in
      let u : eqb (tag_of (blk a k)) 2 ≡ false = ne_eqb (tag_of (blk a k)) 2 (λ z. absurd (omega arith)) in
      rw (key-place true t, t, u) (and-true _))
      (λ (e : tag_of (blk a k) ≡ 2).
      let t : eqb (tag_of (blk a k)) 1 ≡ false = ne_eqb (tag_of (blk a k)) 1 (λ z. absurd (omega arith)) in
      rw (key-place false t, t, eq-eqb (tag_of (blk a k)) 2 e) refl)
      (small (tag_of (blk a k)) n0 n3)

  pub once-seen : (c : ℕ) → c ≡ last (own_key a k) k → 0 < c → (head_once a k && data_once a k) ≡ false
  once-seen c e pos =
      let L = last-is (own_key a k) k in
      let G = lowest-first (own_key a k) (blocks a) in
      let hit : own_key a k (c - 1) ≡ true = L.hit (c - 1) (omega arith) in
      once_is ∙ ne_eqb (lowest (own_key a k) (blocks a)) k (λ x. true-false hit (G.before (c - 1) (omega (arith, L.most))))

  pub once-new : (c : ℕ) → c ≡ last (own_key a k) k → c ≤ 0 → (head_once a k && data_once a k) ≡ true
  once-new c e z =
      let L = last-is (own_key a k) k in
      once_is ∙ eq-eqb (lowest (own_key a k) (blocks a)) k (sym (lowest-here (own_key a k) (blocks a) k l (λ j m. L.after j (omega arith) m) own))

-- ---- what the code answers at block k

pub alone-free : (a : List ℕ) (k : ℕ) → tag_of (blk a k) ≡ 0 → alone a k ≡ block_sound (blk a k)
unfolding alone head_once data_once
alone-free a k t = rw t (and-true (block_sound (blk a k)))

pub alone-bad : (a : List ℕ) (k : ℕ) → tag_of (blk a k) ≢ 0 → layout (blk a k) ≡ false → alone a k ≡ false
unfolding alone
alone-bad a k n e = rw (used_sound (blk a k) n, e) refl

pub layout-tag : (b : List ℕ) → layout b ≡ true → tag_of b < 3
unfolding layout
layout-tag b e = ltb-true (tag_of b) 3 (and_parts (ltb (tag_of b) 3) _ e).0

pub alone-used : (a : List ℕ) (k : ℕ) → tag_of (blk a k) ≢ 0 → layout (blk a k) ≡ true → alone a k ≡ (head_once a k && data_once a k)
unfolding alone
alone-used a k n e = rw (used_sound (blk a k) n, e) refl

-- ---- heads

-- a block that is alone is the one head of its file
alone-head : (a : List ℕ) (f : File) (j : ℕ) → alone a j ≡ true → is_head f (blk a j) ≡ true → head_of a f ≡ j
unfolding alone head_once
alone-head a f j e h =
    let H = head-is f (blk a j) h in
    let p = and_parts (block_sound (blk a j)) _ e in
    let o : head_once a j ≡ true = (and_parts (head_once a j) (data_once a j) p.1).0 in
    let o2 : eqb (head_of a (file_of (blk a j))) j ≡ true = rw (eq-eqb (tag_of (blk a j)) 1 H.tag) at o in
    ap (head_of a) (sym H.of) ∙ eqb-true _ _ o2

module _ (a : List ℕ) (all : all_to (alone a) (blocks a) ≡ true) (f : File) (c : ℕ) (is : c ≡ last (λ j. is_key true f 0 (blk a j)) (blocks a)) where
  pub found-head : 0 < c → (head_of a f ≡ c - 1) × (c - 1 < blocks a)
  found-head pos =
      let L = last-is (λ j. is_key true f 0 (blk a j)) (blocks a) in
      let l : c - 1 < blocks a = omega (arith, L.most) in
      (alone-head a f (c - 1) (all_to-true (alone a) (blocks a) all (c - 1) l) (L.hit (c - 1) (omega arith)), l)

  pub no-head : c ≡ 0 → blocks a ≤ head_of a f
  no-head z =
      let L = last-is (λ j. is_key true f 0 (blk a j)) (blocks a) in
      let H = head_first a f in
      ⊎_elim (λ l. absurd (true-false (H.hit l) (L.after (head_of a f) (omega arith) l))) (λ g. g) (lt-or-le (head_of a f) (blocks a))

-- a block that is no data block is under nothing
pub under-not : (a : List ℕ) (k : ℕ) → tag_of (blk a k) ≢ 2 → under a k ≡ true
unfolding under
under-not a k n = rw (ne_eqb (tag_of (blk a k)) 2 n) refl

pub under_none : (a : List ℕ) (k : ℕ) → tag_of (blk a k) ≡ 2 → blocks a ≤ head_of a (file_of (blk a k)) → under a k ≡ false
unfolding under
under_none a k t g = rw (eq-eqb (tag_of (blk a k)) 2 t, le-ltb (head_of a (file_of (blk a k))) (blocks a) g) refl

pub under-found : (a : List ℕ) (k j : ℕ) → tag_of (blk a k) ≡ 2 → head_of a (file_of (blk a k)) ≡ j → j < blocks a → under a k ≡ within (blk a k) (number_of (blk a j))
unfolding under
under-found a k j t e l = rw (eq-eqb (tag_of (blk a k)) 2 t, e, lt-ltb j (blocks a) l) refl

-- ---- the two passes are the definition

sound-split : (a : List ℕ) (k : ℕ) → sound_at a k ≡ (alone a k && under a k)
unfolding sound_at alone
sound-split a k = go (block_sound (blk a k)) (head_once a k) (data_once a k) (under a k)
  where
    go : (x y z w : Bool) → (x && (y && (z && w))) ≡ ((x && (y && z)) && w)
    go true true z w = refl
    go true false z w = refl
    go false y z w = refl

pub sound-is : (a : List ℕ) → sound a ≡ (all_to (alone a) (blocks a) && all_to (under a) (blocks a))
unfolding sound
sound-is a = all_to-cong (λ k. sound_at a k) (λ k. alone a k && under a k) (blocks a) (λ k _. sound-split a k) ∙ all_to-and (alone a) (under a) (blocks a)
