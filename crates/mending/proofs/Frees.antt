-- "Files go first": what the first n turns leave, of which none is refused.
use mathlib.Core.Path.{◌≡◌, refl, sym, ap, ◌∙◌, subst}
use mathlib.Core.Bool.{Bool, true, false, not, ◌||◌}
use mathlib.Core.List.{List}
use mathlib.Core.Logic.{◌≢◌, ⊎_elim}
use Prim.Native.Nat.{ℕ, zero, suc, ◌+◌, ◌*◌, ◌/◌, ◌≤◌, ◌<◌}
use native.Mathlib.Omega.{arith}
use lib.ListN.{length}
use borrow.Author.Tests.{lt-ltb, ne_eqb}
use Rattle.base.specs.Count.{bit, sum_to, count_to}
use Rattle.base.specs.Out.{done, guard, Ok, went}
use Rattle.base.specs.Out as outs
use Rattle.base.specs.Search.{pick}
use Rattle.base.proofs.Outs.{ok-bind}
use Rattle.base.proofs.Bools.{true-false, and_both}
use Rattle.base.proofs.Counts.{sum_to-suc, count_to-le, count_to-cong, count_to-none}
use Rattle.base.proofs.Sames.{test-fails}
use Rattle.base.proofs.Finds.{count_to-suc}
use Rattle.base.proofs.Numbers.{below_suc}
use Rattle.le.specs.Le.{Bytes}
use Rattle.structs.specs.declared.SuperBlock.{SuperBlock}
use Rattle.maps.specs.Maps.{bit_at, with_bit, set_bits}
use Rattle.maps.proofs.Bits.{length-with_bit, with_bit-bytes, bit_at-with_bit-same, bit_at-with_bit-other, set_bits-with_bit, set_bits-le}
use Rattle.arena.specs.Blocks.{blk, blocks}
use Rattle.arena.specs.Fields.{File, file, number_of, zeros}
use Rattle.arena.specs.Places.{free_count}
use Rattle.sound.specs.Sound.{sound}
use Rattle.files.specs.Read.{there}
use Rattle.files.specs.Store.{drop_file, is_of, clear_all}
use Rattle.files_laws.specs.Laws.{Kept, Drop, own_count}
use Rattle.files_laws.proofs.Clears.{clear-size, clear-each}
use Rattle.files_laws.proofs.Steps.{zeros-stranger}
use Rattle.files_laws.proofs.Drop.{drop-done, of-file}
use Rattle.files_laws.proofs.Parts.{file-cases}
use Rattle.sefs.specs.State.{Fs, Meta}
use Rattle.sefs.specs.Meta.{meta_file, ids, is_used, super_with, free_block}
use Rattle.sefs.specs.Nodes.{node_file}
use Rattle.rules.specs.Image.{stored_super, stored_maps, ids_in, is_node}
use Rattle.image.specs.Midway.{stored_meta}
use Rattle.image.proofs.Metas.{length-maps_to, bytes-maps_to, kept_same, kept_then, node-other}
use Rattle.image.proofs.Freed.{node-clear}
use Rattle.mending.specs.Mendable.{rec_in, Mendable}
use Rattle.mending.specs.Mend.{lost, free_one, free_to}
use Rattle.mending.specs.Room.{given_back_to}
use Rattle.mending.proofs.Fates.{node-zero, lost-says}

-- the superblock with n more unused
abbrev pub more : SuperBlock → ℕ → SuperBlock
more b n = super_with b b.blocks (b.unused + n) b.groups

-- ---- blocks that are given back

back_none : (a : List ℕ) → given_back_to a 0 ≡ 0
unfolding given_back_to sum_to
back_none a = refl

pub back_more : (a : List ℕ) (n : ℕ) (b : Bool) → lost a n ≡ b → given_back_to a (suc n) ≡ given_back_to a n + pick b (own_count a (node_file (rec_in a n))) 0
unfolding given_back_to
back_more a n b e =
    sum_to-suc (λ id. pick (lost a id) (own_count a (node_file (rec_in a id))) 0) n
    ∙ ap (λ (c : Bool). given_back_to a n + pick c (own_count a (node_file (rec_in a n))) 0) e

own-none : (g : File) → is_of g zeros ≡ false
unfolding is_of
own-none g = λ z. (zeros-stranger g).head z || (zeros-stranger g).block (number_of zeros) z

-- a file that goes takes no block of another
own-kept : (a : List ℕ) (f g : File) → f ≢ g → own_count (clear_all (is_of f) a) g ≡ own_count a g
unfolding own_count
own-kept a f g d =
    ap (λ (n : ℕ). count_to (λ k. is_of g (blk (clear_all (is_of f) a) k)) (n / 512)) (clear-size (is_of f) a)
    ∙ count_to-cong (λ k. is_of g (blk (clear_all (is_of f) a) k)) (λ k. is_of g (blk a k)) (blocks a)
    (clear-each (is_of f) a (λ x c. is_of g x ≡ is_of g c)
    (λ c e. own-none g ∙ sym (test-fails (is_of g c) (λ x. d (sym (of-file f c e) ∙ of-file g c x))))
    (λ c e. refl))

-- what a file that goes leaves
dropped : (a : List ℕ) (f : File) → there a f ≡ true → (d : List ℕ) → drop_file a f ≡ done d → clear_all (is_of f) a ≡ d
unfolding drop_file
dropped a f e d q = ap (outs.kept a) (sym (ap (λ (b : Bool). guard b 19 (done (clear_all (is_of f) a))) e) ∙ q)

-- ---- the first n turns

-- m is what is in memory after them
pub record Freed (a : List ℕ) (n : ℕ) (s : Fs) : Type 0 where
  pub m : Meta
  pub meta : s.meta ≡ done m
  pub super : m.super ≡ more (stored_super a) (count_to (lost a) n)
  pub long : length m.maps ≡ 128 * (stored_super a).groups
  pub maps-bytes : Bytes a → Bytes m.maps
  pub clear : (i : ℕ) → (i < n → lost a i ≡ false) → bit_at m.maps i ≡ bit_at (stored_maps a) i
  pub set : (i : ℕ) → i < n → lost a i ≡ true → bit_at m.maps i ≡ true
  pub count : set_bits m.maps (ids_in a) ≡ set_bits (stored_maps a) (ids_in a) + count_to (lost a) n
  -- the arena
  pub size : length s.arena ≡ length a
  pub bytes : Bytes a → Bytes s.arena
  pub keeps : sound s.arena ≡ true
  pub free : free_count s.arena ≡ free_count a + given_back_to a n
  -- its files
  pub metas : Kept a s.arena meta_file
  pub kept : (id : ℕ) → is_node a id ≡ true → (lost a id ≡ true → n ≤ id) → Kept a s.arena (node_file (rec_in a id))
  pub own : (id : ℕ) → is_node a id ≡ true → (lost a id ≡ true → n ≤ id) → own_count s.arena (node_file (rec_in a id)) ≡ own_count a (node_file (rec_in a id))
  pub gone : (id : ℕ) → id < n → lost a id ≡ true → there s.arena (node_file (rec_in a id)) ≡ false
  pub others : (f : List ℕ) → there s.arena (file 1 f) ≡ true → there a (file 1 f) ≡ true

length-maps : (a : List ℕ) → length (stored_maps a) ≡ 128 * (stored_super a).groups
unfolding stored_maps
length-maps a = length-maps_to a (stored_super a).groups

bytes-maps : (a : List ℕ) → Bytes a → Bytes (stored_maps a)
unfolding stored_maps
bytes-maps a B = bytes-maps_to a B (stored_super a).groups

module _ (a : List ℕ) (M : Mendable a) where
  at-start : (s : Fs) → s.meta ≡ done (stored_meta a) → s.arena ≡ a → Freed a 0 s
  at-start s f e = subst (Freed a 0) (λ z. record { arena = sym e z; table = s.table; meta = s.meta }) bare
    where
      none : count_to (lost a) 0 ≡ 0
      none = count_to-none (lost a) 0 (λ j l. absurd (omega arith))

      same : (stored_super a).unused ≡ (stored_super a).unused + count_to (lost a) 0
      same = omega (arith, none)

      bare : Freed a 0 (record { arena = a; table = s.table; meta = s.meta })
      bare = record {
        m = stored_meta a;
        meta = f;
        super = λ z. super_with (stored_super a) (stored_super a).blocks (same z) (stored_super a).groups;
        long = length-maps a;
        maps-bytes = bytes-maps a;
        clear = λ i h. refl;
        set = λ i l. absurd (omega arith);
        count = omega (arith, none);
        size = refl;
        bytes = λ B. B;
        keeps = M.rule1.sound;
        free = omega (arith, back_none a);
        metas = kept_same a meta_file;
        kept = λ id n h. kept_same a (node_file (rec_in a id));
        own = λ id n h. refl;
        gone = λ id l. absurd (omega arith);
        others = λ g h. h;
      }

  -- the nodes' files are distinct
  pub file-apart : (i j : ℕ) → is_node a i ≡ true → is_node a j ≡ true → i ≢ j → node_file (rec_in a i) ≢ node_file (rec_in a j)
  file-apart i j n k d e = d (M.rule5.distinct i j n k (ap (λ (f : File). f.name) e))

  module _ (n : ℕ) (below : n < ids_in a) (s : Fs) (F : Freed a n s) where
    one_more_lem : (b : Bool) → lost a n ≡ b → count_to (lost a) (suc n) ≡ count_to (lost a) n + bit b
    one_more_lem b e = count_to-suc (lost a) n ∙ ap (λ (c : Bool). count_to (lost a) n + bit c) e

    -- ---- n stays, or is no node

    skips : lost a n ≡ false → Freed a (suc n) s
    skips e =
        let same : count_to (lost a) (suc n) ≡ count_to (lost a) n = one_more_lem false e ∙ omega arith in
        record {
          m = F.m;
          meta = F.meta;
          super = F.super ∙ (λ z. more (stored_super a) (sym same z));
          long = F.long;
          maps-bytes = F.maps-bytes;
          clear = λ i h. F.clear i (λ l. h (omega arith));
          set = below_suc (λ i. lost a i ≡ true → bit_at F.m.maps i ≡ true) n F.set (λ x. absurd (true-false x e));
          count = F.count ∙ ap (λ (k : ℕ). set_bits (stored_maps a) (ids_in a) + k) (sym same);
          size = F.size;
          bytes = F.bytes;
          keeps = F.keeps;
          free = F.free ∙ omega (arith, back_more a n false e);
          metas = F.metas;
          kept = λ id x h. F.kept id x (λ y. let q = h y in omega arith);
          own = λ id x h. F.own id x (λ y. let q = h y in omega arith);
          gone = below_suc (λ id. lost a id ≡ true → there s.arena (node_file (rec_in a id)) ≡ false) n F.gone (λ x. absurd (true-false x e));
          others = F.others;
        }

    -- ---- or goes

    module _ (e : lost a n ≡ true) where
      node : is_node a n ≡ true
      node = (lost-says a n e).0

      bit-clear : bit_at F.m.maps n ≡ false
      bit-clear = F.clear n (λ l. absurd (omega arith)) ∙ node-clear a n node

      groups : F.m.super.groups ≡ (stored_super a).groups
      groups = ap (λ (b : SuperBlock). b.groups) F.super

      used : is_used F.m n ≡ true
      unfolding is_used
      used = and_both (ap not (ne_eqb n 0 (node-zero a n node))) (and_both (lt-ltb n (ids F.m) (omega (arith, groups))) (ap not bit-clear))

      unused : F.m.super.unused ≡ (stored_super a).unused + count_to (lost a) n
      unused = ap (λ (b : SuperBlock). b.unused) F.super

      room : F.m.super.unused + 1 < 4294967296
      room = omega (arith, unused, M.rule3.unused, set_bits-le (stored_maps a) (ids_in a), M.rule3.few, count_to-le (lost a) n)

      inside : n / 8 < length F.m.maps
      inside = omega (arith, F.long)

      there-still : there s.arena (node_file (rec_in a n)) ≡ true
      there-still = (F.kept n node (λ _. omega arith)).exists ∙ M.rule5.own n node

      -- a node whose file is still there is another
      apart : (id : ℕ) → (lost a id ≡ true → suc n ≤ id) → n ≢ id
      apart id h q = let y = h (ap (lost a) (sym q) ∙ e) in omega arith

      abbrev super : SuperBlock
      super = super_with F.m.super F.m.super.blocks (F.m.super.unused + 1) F.m.super.groups

      abbrev maps : List ℕ
      maps = with_bit F.m.maps n true

      module _ (d : List ℕ) (is : clear_all (is_of (node_file (rec_in a n))) s.arena ≡ d) (D : Drop s.arena (node_file (rec_in a n)) d) where
        freed : Freed a (suc n) (record { arena = d; table = s.table; meta = done (record { super = super; maps = maps }) })
        freed =
            let more-one : count_to (lost a) (suc n) ≡ count_to (lost a) n + 1 = one_more_lem true e in
            record {
              m = record { super = super; maps = maps };
              meta = refl;
              super =
                  (λ z. super_with (F.super z) (F.super z).blocks ((F.super z).unused + 1) (F.super z).groups)
                  ∙ (let q : (stored_super a).unused + count_to (lost a) n + 1 ≡ (stored_super a).unused + count_to (lost a) (suc n) = omega (arith, more-one) in
                  λ z. super_with (stored_super a) (stored_super a).blocks (q z) (stored_super a).groups);
              long = length-with_bit F.m.maps n true inside ∙ F.long;
              maps-bytes = λ B. with_bit-bytes F.m.maps n true inside (F.maps-bytes B);
              clear = λ i h.
                  let d : i ≢ n = λ q. true-false (ap (lost a) q ∙ e) (h (omega arith)) in
                  bit_at-with_bit-other F.m.maps n true inside i d ∙ F.clear i (λ l. h (omega arith));
              set = below_suc (λ i. lost a i ≡ true → bit_at maps i ≡ true) n
                  (λ i l x. bit_at-with_bit-other F.m.maps n true inside i (λ q. omega arith) ∙ F.set i l x)
                  (λ x. bit_at-with_bit-same F.m.maps n true inside);
              count =
                  let w = set_bits-with_bit F.m.maps n true inside (ids_in a) below in
                  let z : bit (bit_at F.m.maps n) ≡ 0 = ap bit bit-clear in
                  omega (arith, w, z, F.count, more-one);
              size = D.size ∙ F.size;
              bytes = λ B. D.bytes (F.bytes B);
              keeps = D.keeps F.keeps;
              free =
                  let x = D.free in
                  let y = F.own n node (λ _. omega arith) in
                  let z : given_back_to a (suc n) ≡ given_back_to a n + own_count a (node_file (rec_in a n)) = back_more a n true e in
                  omega (arith, x, y, z, F.free);
              metas = kept_then a s.arena d meta_file F.metas (D.others meta_file (λ q. node-other (rec_in a n).file (sym q)));
              kept = λ id x h.
                  kept_then a s.arena d (node_file (rec_in a id)) (F.kept id x (λ y. let q = h y in omega arith))
                  (D.others (node_file (rec_in a id)) (file-apart n id node x (apart id h)));
              own = λ id x h.
                  ap (λ (c : List ℕ). own_count c (node_file (rec_in a id))) (sym is)
                  ∙ own-kept s.arena (node_file (rec_in a n)) (node_file (rec_in a id)) (file-apart n id node x (apart id h))
                  ∙ F.own id x (λ y. let q = h y in omega arith);
              gone = below_suc (λ id. lost a id ≡ true → there d (node_file (rec_in a id)) ≡ false) n
                  (λ id l x.
                  (D.others (node_file (rec_in a id)) (file-apart n id node (lost-says a id x).0 (λ q. omega arith))).exists ∙ F.gone id l x)
                  (λ x. D.gone);
              others = λ g h. ⊎_elim
                  (λ (q : node_file (rec_in a n) ≡ file 1 g). absurd (true-false h (ap (there d) (sym q) ∙ D.gone)))
                  (λ q. F.others g (sym (D.others (file 1 g) q).exists ∙ h))
                  (file-cases (node_file (rec_in a n)) (file 1 g));
            }

      goes : Ok (Freed a (suc n)) (λ r. ⊥) (free_one a s n)
      unfolding free_one free_block
      goes =
          let x = drop-done s.arena (node_file (rec_in a n)) there-still in
          rw (F.meta, used, lt-ltb (F.m.super.unused + 1) 4294967296 room, x.1)
          (went (freed x.0 (dropped s.arena (node_file (rec_in a n)) there-still x.0 x.1) x.2))

    turn : (b : Bool) → lost a n ≡ b → Ok (Freed a (suc n)) (λ r. ⊥) (pick b (free_one a s n) (done s))
    turn true e = goes e
    turn false e = went (skips e)

  pub free_law : (s : Fs) → s.meta ≡ done (stored_meta a) → s.arena ≡ a → (n : ℕ) → n ≤ ids_in a → Ok (Freed a n) (λ r. ⊥) (free_to a s n)
  unfolding free_to
  free_law s f e zero l = went (at-start s f e)
  free_law s f e (suc n) l = ok-bind (free_law s f e n (omega arith)) λ d F. turn n (omega arith) d F (lost a n) refl
