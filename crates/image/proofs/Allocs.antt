-- An id is allocated, from superblock and maps in memory: the lowest set bit is cleared; where none is set a group comes first, and the metadata
-- file gets longer. 17 is the one reason.
use mathlib.Core.Path.{refl, ◌≡◌, sym, ap, ◌∙◌, subst}
use Rattle.sefs_laws.proofs.Clear.{clear}
use mathlib.Core.Bool.{Bool, true, false, not, ◌&&◌}
use mathlib.Core.List.{List, ◌++◌}
use mathlib.Core.Logic.{◌≢◌, ⊎_elim}
use Prim.Native.Nat.{ℕ, zero, suc, ◌+◌, ◌*◌, ◌-◌, ◌/◌, ◌%◌, ◌≤◌, ◌<◌}
use native.Mathlib.Omega.{arith}
use lib.Dec.{eqb, ltb}
use lib.ListN.{length, replicate, length-append, length-replicate, get_or-replicate, get_or-eq_default}
use borrow.Author.Tests.{lt-ltb, le-ltb, ltb-true, ltb-false, eq-eqb, ne_eqb}
use Rattle.base.specs.Count.{bit, count_to}
use Rattle.base.specs.Out.{Out, done, bind, Ok, went}
use Rattle.base.specs.Search.{pick, lowest}
use Rattle.base.proofs.Outs.{ok-bind, ok-weaken, ok-test}
use Rattle.base.proofs.Bools.{and-false, true-false}
use Rattle.base.proofs.Counts.{sum_to-join, sum_to-one, count_to-cong, count_to-change}
use Rattle.base.proofs.Finds.{eq-cases, count_to-some, test_at, test-no, test-yes}
use Rattle.base.proofs.Numbers.{lt-or-le}
use Rattle.base.proofs.Searches.{lowest-first}
use Rattle.le.specs.Le.{Bytes}
use Rattle.structs.proofs.Joins.{bytes-append}
use Rattle.structs.specs.Constants.{sefs_magic}
use Rattle.maps.specs.Maps.{bit_at, with_bit, set_bits}
use Rattle.maps.proofs.Bits.{length-with_bit, with_bit-bytes, bit_at-with_bit-same, bit_at-with_bit-other, set_bits-with_bit, set_bits-le}
use Rattle.arena.specs.Fields.{file}
use Rattle.sound.specs.Sound.{sound}
use Rattle.files.specs.Read.{there, length_of, byte_at}
use Rattle.files.specs.Store.{cut_file}
use Rattle.files_laws.specs.Laws.{Kept, Cut, CutRefused}
use Rattle.files_laws.proofs.Cut.{cut-law}
use Rattle.sefs.specs.State.{Fs, Meta, with_arena, with_meta}
use Rattle.sefs.specs.Meta.{meta_file, ids, first_bit, super_with, new_map, grown, add_group, Allocated, take_bit, alloc_block}
use Rattle.image.proofs.Metas.{kept_same, node-other}
use Rattle.image.proofs.Grown.{grown-before, grown-own, grown-set}
use Rattle.files_laws.specs.Laws as laws

-- ---- superblock and maps in memory

-- what rules 3 and 4 say of them
pub record Sane (m : Meta) : Type 0 where
  pub magic : m.super.magic ≡ sefs_magic
  pub some : 1 ≤ m.super.groups
  pub few : m.super.groups ≤ 4
  pub blocks : m.super.blocks ≡ ids m
  pub unused : m.super.unused ≡ set_bits m.maps (ids m)
  pub long : length m.maps ≡ 128 * m.super.groups
  pub bytes : Bytes m.maps
  pub none : bit_at m.maps 0 ≡ false
  pub owns : (g : ℕ) → g < m.super.groups → bit_at m.maps (1024 * g + 1) ≡ false

-- the ids that are nodes by them
abbrev pub node_in : Meta → ℕ → Bool
node_in m k = ltb k (ids m) && (not (eqb k 0) && (not (eqb (k % 1024) 1) && not (bit_at m.maps k)))

-- n is m, with id taken, the lowest that was free; there may be a group more
pub record Taken (m n : Meta) (id : ℕ) : Type 0 where
  pub sane : Sane n
  pub more : m.super.groups ≤ n.super.groups
  pub inside : id < ids n
  pub some : id ≢ 0
  pub apart : id % 1024 ≢ 1
  pub clear : bit_at n.maps id ≡ false
  pub free : id < ids m → bit_at m.maps id ≡ true
  pub first : (k : ℕ) → k < id → k < ids m → bit_at m.maps k ≡ false
  pub others : (k : ℕ) → k ≢ id → k < ids m → bit_at n.maps k ≡ bit_at m.maps k
  pub past : (k : ℕ) → k ≢ id → ids m ≤ k → k < ids n → k % 1024 ≢ 1 → bit_at n.maps k ≡ true

module _ (m n : Meta) (id : ℕ) (K : Taken m n id) where
  pub taken_is : node_in n id ≡ true
  taken_is = rw (lt-ltb id (ids n) K.inside, ne_eqb id 0 K.some, ne_eqb (id % 1024) 1 K.apart, K.clear)

  pub taken-new : node_in m id ≡ false
  taken-new =
      ⊎_elim
      (λ l. rw (lt-ltb id (ids m) l, ne_eqb id 0 K.some, ne_eqb (id % 1024) 1 K.apart, K.free l))
      (λ l. rw (le-ltb id (ids m) l))
      (lt-or-le id (ids m))

  -- every other id is a node where it was one
  pub taken-same : (k : ℕ) → k ≢ id → node_in n k ≡ node_in m k
  taken-same k d =
      ⊎_elim
      (λ l. rw (lt-ltb k (ids m) l, lt-ltb k (ids n) (omega (arith, K.more)), K.others k d l))
      (λ l. rw (le-ltb k (ids m) l) (beyond l))
      (lt-or-le k (ids m))
    where
      rest : ids m ≤ k → k < ids n → (b : Bool) → eqb (k % 1024) 1 ≡ b → (not b && not (bit_at n.maps k)) ≡ false
      rest l h true e = refl
      rest l h false e = ap not (K.past k d l h (λ z. true-false (eq-eqb (k % 1024) 1 z) e))

      beyond : ids m ≤ k → node_in n k ≡ false
      beyond l =
          ⊎_elim
          (λ h. rw (lt-ltb k (ids n) h, rest l h (eqb (k % 1024) 1) refl) (and-false (not (eqb k 0))))
          (λ h. rw (le-ltb k (ids n) h))
          (lt-or-le k (ids n))

-- ---- the lowest set bit is cleared

abbrev pub without : Meta → Meta
without m = record { super = super_with m.super m.super.blocks (m.super.unused - 1) m.super.groups; maps = with_bit m.maps (first_bit m) false }

module _ (m : Meta) (S : Sane m) (found : first_bit m < ids m) where
  abbrev at : ℕ
  at = first_bit m

  is_set : bit_at m.maps at ≡ true
  unfolding first_bit
  is_set = (test_at (bit_at m.maps) (ids m) (lt-ltb (lowest (bit_at m.maps) (ids m)) (ids m) found)).1

  inside : at / 8 < length m.maps
  inside = omega (arith, S.long)

  not-clear : (k : ℕ) → bit_at m.maps k ≡ false → k ≢ at
  not-clear k e q = true-false (ap (bit_at m.maps) q ∙ is_set) e

  other : (k : ℕ) → k ≢ at → bit_at (with_bit m.maps at false) k ≡ bit_at m.maps k
  other k d = bit_at-with_bit-other m.maps at false inside k d

  pub unused-some : 0 < m.super.unused
  unfolding set_bits
  unused-some = omega (arith, S.unused, count_to-some (bit_at m.maps) (ids m) at found is_set)

  pub bit-taken : Taken m (without m) (first_bit m)
  unfolding first_bit
  bit-taken = record {
    sane = record {
      magic = S.magic;
      some = S.some;
      few = S.few;
      blocks = S.blocks;
      unused = omega (arith, S.unused, unused-some, set_bits-with_bit m.maps at false inside (ids m) found, ap bit is_set);
      long = length-with_bit m.maps at false inside ∙ S.long;
      bytes = with_bit-bytes m.maps at false inside S.bytes;
      none = other 0 (not-clear 0 S.none) ∙ S.none;
      owns = λ g l. other (1024 * g + 1) (not-clear (1024 * g + 1) (S.owns g l)) ∙ S.owns g l;
    };
    more = omega arith;
    inside = found;
    some = λ z. not-clear 0 S.none (sym z);
    apart = λ z. let e : at ≡ 1024 * (at / 1024) + 1 = omega arith in not-clear (1024 * (at / 1024) + 1) (S.owns (at / 1024) (omega arith)) (sym e);
    clear = bit_at-with_bit-same m.maps at false inside;
    free = λ l. is_set;
    first = λ k l h. (lowest-first (bit_at m.maps) (ids m)).before k l;
    others = λ k d l. other k d;
    past = λ k d l h z. absurd (omega arith);
  }

-- ---- a group more

module _ (m : Meta) (S : Sane m) (few : m.super.groups < 4) where
  abbrev n : Meta
  n = grown m.super m.maps

  abbrev g : ℕ
  g = m.super.groups

  new-bit : (j : ℕ) → j < 1024 → bit_at (m.maps ++ new_map) (1024 * g + j) ≡ not (eqb j 1)
  new-bit j l =
      ⊎_elim
      (λ (e : j ≡ 1). ap (λ (x : ℕ). bit_at (m.maps ++ new_map) (1024 * g + x)) e ∙ grown-own m.maps g S.long ∙ sym (ap not (eq-eqb j 1 e)))
      (λ d. grown-set m.maps g S.long j l d ∙ sym (ap not (ne_eqb j 1 d)))
      (eq-cases j 1)

  -- all bits of a new map are set but one
  new-count : count_to (λ j. not (eqb j 1)) 1024 ≡ 1023
  unfolding count_to
  new-count =
      let c = count_to-change (λ j. true) (λ j. not (eqb j 1)) 1024 1 (omega arith) (λ j d. sym (ap not (ne_eqb j 1 d))) in
      omega (arith, c, sum_to-one 1024)

  counts : set_bits (m.maps ++ new_map) (ids n) ≡ set_bits m.maps (ids m) + 1023
  unfolding set_bits count_to
  counts =
      ap (count_to (bit_at (m.maps ++ new_map))) (let z : 1024 * (g + 1) ≡ 1024 * g + 1024 = omega arith in z)
      ∙ sum_to-join (λ i. bit (bit_at (m.maps ++ new_map) i)) (1024 * g) 1024
      ∙ omega (
        arith,
        count_to-cong (bit_at (m.maps ++ new_map)) (bit_at m.maps) (1024 * g) (grown-before m.maps g S.long),
        count_to-cong (λ j. bit_at (m.maps ++ new_map) (1024 * g + j)) (λ j. not (eqb j 1)) 1024 new-bit,
        new-count,
      )

  map-bytes : Bytes new_map
  map-bytes zero = omega arith
  map-bytes (suc j) =
      ⊎_elim
      (λ l. rw (get_or-replicate {A = ℕ} 127 j 255 0 l) (omega arith))
      (λ h. rw (get_or-eq_default {A = ℕ} (replicate 127 255) 0 {n = j} (omega (arith, length-replicate {A = ℕ} 127 255))) (omega arith))
      (lt-or-le j 127)

  grown-sane : Sane n
  grown-sane = record {
    magic = S.magic;
    some = omega arith;
    few = omega arith;
    blocks = omega (arith, S.blocks);
    unused = omega (arith, S.unused, counts);
    long = length-append m.maps new_map ∙ omega (arith, S.long, length-replicate {A = ℕ} 127 255);
    bytes = bytes-append m.maps new_map S.bytes map-bytes;
    none = grown-before m.maps g S.long 0 (omega (arith, S.some)) ∙ S.none;
    owns = λ k l. ⊎_elim
        (λ h. grown-before m.maps g S.long (1024 * k + 1) (omega arith) ∙ S.owns k h)
        (λ h. ap (λ (x : ℕ). bit_at (m.maps ++ new_map) (1024 * x + 1)) (let z : k ≡ g = omega arith in z) ∙ grown-own m.maps g S.long)
        (lt-or-le k g);
  }

  grown-found : first_bit n < ids n
  unfolding first_bit
  grown-found = ltb-true (lowest (bit_at n.maps) (ids n)) (ids n) (test-yes (bit_at n.maps) (ids n) (1024 * g + 0) (omega arith) (grown-set m.maps g S.long 0 (omega arith) (λ e. omega arith)))

  -- where no bit was set, the first is a new one
  grown-taken : ids m ≤ first_bit m → Taken m (without n) (first_bit n)
  unfolding first_bit
  grown-taken full =
      let K = bit-taken n grown-sane grown-found in
      let clear : (k : ℕ) → k < ids m → bit_at m.maps k ≡ false = test-no (bit_at m.maps) (ids m) (le-ltb (lowest (bit_at m.maps) (ids m)) (ids m) full) in
      record {
        sane = K.sane;
        more = omega arith;
        inside = K.inside;
        some = K.some;
        apart = K.apart;
        clear = K.clear;
        free = λ l. absurd (true-false (is_set n grown-sane grown-found) (grown-before m.maps g S.long (first_bit n) l ∙ clear (first_bit n) l));
        first = λ k l h. clear k h;
        others = λ k d l. K.others k d (omega arith) ∙ grown-before m.maps g S.long k l;
        past = λ k d l h z. K.others k d h ∙ ap (bit_at (m.maps ++ new_map)) (let e : k ≡ 1024 * g + (k - 1024 * g) = omega arith in e)
            ∙ grown-set m.maps g S.long (k - 1024 * g) (omega arith) (λ e. z (omega arith));
      }

-- ---- the metadata file gets longer

-- arena b is a, but for its metadata file: that has length n, and the bytes that it had
pub record Longer (a b : List ℕ) (n : ℕ) : Type 0 where
  pub size : length b ≡ length a
  pub bytes : Bytes a → Bytes b
  pub keeps : Bytes a → sound a ≡ true → sound b ≡ true
  pub exists : there b meta_file ≡ true
  pub long : length_of b meta_file ≡ n
  pub below : (p : ℕ) → p < length_of a meta_file → byte_at b meta_file p ≡ byte_at a meta_file p
  pub files : (f : List ℕ) → Kept a b (file 1 f)

longer-same : (a : List ℕ) (n : ℕ) → there a meta_file ≡ true → length_of a meta_file ≡ n → Longer a a n
longer-same a n e l = record { size = refl; bytes = λ b. b; keeps = λ b s. s; exists = e; long = l; below = λ p h. refl; files = λ f. kept_same a (file 1 f) }

longer-cut : (a b : List ℕ) (n : ℕ) → length_of a meta_file ≤ n → Cut a meta_file n b → Longer a b n
longer-cut a b n l C = record {
  size = C.size;
  bytes = C.bytes;
  keeps = C.keeps;
  exists = C.exists;
  long = C.long;
  below = λ p h. C.below p (omega arith);
  files = λ f. C.others (file 1 f) (node-other f);
}

cut-meta : (a : List ℕ) (n : ℕ) → there a meta_file ≡ true → Ok (Cut a meta_file n) (λ r. r ≡ 17) (cut_file a meta_file n)
cut-meta a n e = ok-weaken (λ b C. C) (λ r q. why q) (cut-law a meta_file n)
  where
    why : {r : ℕ} → CutRefused a meta_file n r → r ≡ 17
    why (laws.missing q) = absurd (true-false e q)
    why (laws.far _ _) = refl

-- ---- the step

pub record Allocates (s : Fs) (m : Meta) (x : Allocated) : Type 0 where
  pub arena : List ℕ
  pub meta : Meta
  pub is : x.state ≡ with_meta (with_arena s arena) meta
  pub longer : Longer s.arena arena (131072 * meta.super.groups)
  pub taken : Taken m meta x.id

module _ (s : Fs) (m : Meta) (known : s.meta ≡ done m) (S : Sane m) (exists : there s.arena meta_file ≡ true) (long : length_of s.arena meta_file ≡ 131072 * m.super.groups) where
  -- the state is as it was, or has a group more
  record Ready (x : Fs) : Type 0 where
    pub arena : List ℕ
    pub meta : Meta
    pub is : x ≡ with_meta (with_arena s arena) meta
    pub longer : Longer s.arena arena (131072 * meta.super.groups)
    pub found : first_bit meta < ids meta
    pub sane : Sane meta
    pub taken : Taken m (without meta) (first_bit meta)

  group-law : ids m ≤ first_bit m → Ok Ready (λ r. r ≡ 17) (add_group s m)
  unfolding add_group
  group-law full =
      ok-test (ltb m.super.groups 4) 17 (λ e. refl) λ few.
      rw (
        lt-ltb (m.super.blocks + 1024) 4294967296 (omega (arith, S.blocks, S.few)),
        lt-ltb (m.super.unused + 1023) 4294967296 (omega (arith, S.unused, S.few, set_bits-le m.maps (ids m))),
      )
      (ok-bind (cut-meta s.arena (131072 * (m.super.groups + 1)) exists) λ b C.
      let l : m.super.groups < 4 = ltb-true m.super.groups 4 few in
      went (record {
        arena = b;
        meta = grown m.super m.maps;
        is = refl;
        longer = longer-cut s.arena b (131072 * (m.super.groups + 1)) (omega (arith, long)) C;
        found = grown-found m S l;
        sane = grown-sane m S l;
        taken = grown-taken m S l full;
      }))

  ready-law : Ok Ready (λ r. r ≡ 17) (pick (ltb (first_bit m) (ids m)) (done s) (add_group s m))
  ready-law = go (ltb (first_bit m) (ids m)) refl
    where
      go : (b : Bool) → ltb (first_bit m) (ids m) ≡ b → Ok Ready (λ r. r ≡ 17) (pick b (done s) (add_group s m))
      go true e =
          let l : first_bit m < ids m = ltb-true (first_bit m) (ids m) e in
          went (record {
            arena = s.arena;
            meta = m;
            is = ap (λ (o : Out Meta). record { arena = s.arena; table = s.table; meta = o }) known;
            longer = longer-same s.arena (131072 * m.super.groups) exists long;
            found = l;
            sane = S;
            taken = bit-taken m S l;
          })
      go false e = group-law (ltb-false (first_bit m) (ids m) e)

  pub alloc_law : Ok (Allocates s m) (λ r. r ≡ 17) (alloc_block s)
  unfolding alloc_block take_bit
  alloc_law =
      subst (λ (o : Out Meta). Ok (Allocates s m) (λ r. r ≡ 17) (bind o (λ n. bind (pick (ltb (first_bit n) (ids n)) (done s) (add_group s n)) (λ x. bind x.meta (λ k. take_bit x k))))) (sym known)
      (ok-bind ready-law λ x R.
      subst (λ (y : Fs). Ok (Allocates s m) (λ r. r ≡ 17) (bind y.meta (λ k. take_bit y k))) (sym R.is)
      (rw (lt-ltb 0 R.meta.super.unused (unused-some R.meta R.sane R.found))
      (went (record { arena = R.arena; meta = without R.meta; is = refl; longer = R.longer; taken = R.taken }))))
