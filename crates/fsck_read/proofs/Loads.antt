-- Rule 3: superblock and maps, as they come to memory.
use mathlib.Core.Path.{◌≡◌, refl, sym, ap, ap₂, ◌∙◌, subst}
use mathlib.Core.Bool.{Bool, true, false, ◌&&◌}
use mathlib.Core.List.{List, [], ◌∷◌, ◌++◌}
use mathlib.Core.Logic.{⊎_elim}
use Prim.Native.Nat.{ℕ, suc, ◌+◌, ◌*◌, ◌-◌, ◌≤◌, ◌<◌}
use native.Mathlib.Numerals.{add-one}
use native.Mathlib.Omega.{arith}
use lib.Dec.{eqb, leb}
use lib.ListN.{length, get_or, set, length-set}
use lib.Seq.{get_or-set_same}
use borrow.Author.Tests.{eq-eqb, eqb-true, leb-true}
use Rattle.base.specs.Parts.{part, back, paste}
use Rattle.base.specs.Search.{pick}
use Rattle.base.proofs.Bools.{bool_cases, and_parts, same_bool}
use Rattle.base.proofs.Counts.{count_to-cong}
use Rattle.base.proofs.Lists.{length_part, length-tab, length-paste, get_or-paste-out, part-paste-other, set-paste}
use Rattle.base.proofs.Parts.{part-part, part_join, back-paste}
use Rattle.structs.specs.Constants.{sefs_magic}
use Rattle.structs.specs.Fits.{SuperFits}
use Rattle.structs.specs.Layout.{super_bytes}
use Rattle.structs.specs.declared.SuperBlock.{SuperBlock}
use Rattle.structs.proofs.Layouts.{length-super_bytes}
use Rattle.structs.proofs.Places.{part-written}
use Rattle.maps.specs.Maps.{bit_at, set_bits}
use Rattle.files.specs.Read.{there, length_of, byte_at}
use Rattle.files_laws.proofs.Views.{length_none}
use Rattle.sefs.specs.Meta.{meta_file, map_at}
use Rattle.mem.specs.Mem.{table_in, memory_size}
use Rattle.mem.specs.Mem as memory
use Rattle.mem.proofs.Mems.{table_kept, super-put, bit_in}
use Rattle.rules.specs.Image.{run, stored_super, maps_to, stored_maps, ids_in}
use Rattle.rules.specs.Tests.{test3}
use Rattle.fsck_read.specs.Loaded.{Loaded, Of, super_fine, Mapped, Put}

-- ---- the superblock by itself

module _ (b : SuperBlock) (len : ℕ) where
  -- what it says
  pub super-says : super_fine b len ≡ true → (0 < b.groups) × ((b.groups ≤ 4) × (len ≡ 131072 * b.groups))
  unfolding super_fine
  super-says e =
      let p = and_parts (eqb b.magic sefs_magic) _ e in
      let q = and_parts (leb 1 b.groups) _ p.1 in
      let r = and_parts (leb b.groups 4) _ q.1 in
      let s = and_parts (eqb len (131072 * b.groups)) _ r.1 in
      (leb-true 1 b.groups q.0, (leb-true b.groups 4 r.0, eqb-true len (131072 * b.groups) s.0))

-- ---- the superblock in memory

pub put_is : (m d p : List ℕ) (b : SuperBlock) → length m ≡ memory_size → SuperFits b → 0 < b.groups → b.groups ≤ 4
    → d ≡ set m 4402 1 → p ≡ paste d 4403 (super_bytes b) → Put m p b
put_is m d p b size F some few e f =
    let u : List ℕ = 1 ∷ [] in
    let d-is : d ≡ paste m 4402 u = e ∙ set-paste m 4402 1 (omega arith) in
    let size-d : length d ≡ memory_size = subst (λ (x : List ℕ). length x ≡ memory_size) (sym e) (length-set m 4402 1 ∙ size) in
    let mark : get_or d 4402 0 ≡ 1 = subst (λ (x : List ℕ). get_or x 4402 0 ≡ 1) (sym e) (get_or-set_same m 4402 1 0 (omega arith)) in
    let fit : 4403 + length (super_bytes b) ≤ length d = omega (arith, length-super_bytes b) in
    let s : memory.super_in (paste d 4403 (super_bytes b)) ≡ b = super-put d d b size-d refl mark F some few in
    subst (λ (x : List ℕ). Put m x b) (sym f) (record {
      loaded = record {
        whole = record {
          size = length-paste d 4403 (super_bytes b) fit ∙ size-d;
          some = λ _. subst (λ (x : SuperBlock). 0 < x.groups) (sym s) some;
          few = λ _. subst (λ (x : SuperBlock). x.groups ≤ 4) (sym s) few;
        };
        read = get_or-paste-out d 4403 (super_bytes b) fit 4402 (λ l. absurd (omega arith)) ∙ mark;
      };
      super = s;
      front = part-paste-other d 4403 (super_bytes b) fit 0 4402 (λ l. omega arith)
          ∙ ap (λ (x : List ℕ). part x 0 4402) d-is ∙ part-paste-other m 4402 u (omega arith) 0 4402 (λ l. omega arith);
      maps = part-paste-other d 4403 (super_bytes b) fit 4419 memory_size (λ l. absurd (omega (arith, length-super_bytes b)))
          ∙ ap (λ (x : List ℕ). part x 4419 memory_size) d-is ∙ part-paste-other m 4402 u (omega arith) 4419 memory_size (λ l. absurd (omega arith));
    })

-- ---- the maps in memory

pub mapped-none : (a m : List ℕ) → length m ≡ memory_size → Mapped a m m 0
unfolding maps_to
mapped-none a m e = record { size = e; front = refl; maps = refl }

pub mapped-more : (a m d l : List ℕ) (g o : ℕ) → o ≡ 4419 + 128 * g → g < 4 → Mapped a m d g → l ≡ run a meta_file (map_at g) (length (part d o (o + 128))) → Mapped a m (back d o (o + 128) l) (g + 1)
unfolding maps_to
mapped-more a m d l g o at few M q =
    let n : length (part d o (o + 128)) ≡ 128 = length_part d o (o + 128) (omega arith) (omega (arith, M.size)) ∙ omega arith in
    let l-is : l ≡ run a meta_file (map_at g) 128 = q ∙ ap (run a meta_file (map_at g)) n in
    let nl : length l ≡ 128 = ap length l-is ∙ length-tab (byte_at a meta_file) (map_at g) 128 in
    let b : back d o (o + 128) l ≡ paste d o l = back-paste d l o 128 nl in
    let fit : o + length l ≤ length d = omega (arith, M.size) in
    let u : 4419 + 128 * (g + 1) ≡ 4419 + (128 * g + 128) = omega arith in
    let v : 4419 + 128 * g + 128 ≡ o + 128 = omega arith in
    subst (λ (x : List ℕ). Mapped a m x (g + 1)) (sym b) (record {
      size = length-paste d o l fit ∙ M.size;
      front = part-paste-other d o l fit 0 4419 (λ _. omega arith) ∙ M.front;
      maps = ap (part (paste d o l) 4419) u
          ∙ part_join (paste d o l) 4419 (128 * g) 128
          ∙ ap₂ (λ (x y : List ℕ). x ++ y)
          (part-paste-other d o l fit 4419 (4419 + 128 * g) (λ _. omega arith) ∙ M.maps)
          (ap₂ (part (paste d o l)) (sym at) v ∙ part-written 128 d o l nl (omega (arith, M.size)) ∙ l-is)
          ∙ sym (ap (maps_to a) (add-one g));
    })

-- ---- rule 3

eqb-sym : (x y : ℕ) → eqb x y ≡ eqb y x
eqb-sym x y = same_bool (eqb x y) (eqb y x) (λ e. eq-eqb y x (sym (eqb-true x y e))) (λ e. eq-eqb x y (sym (eqb-true y x e)))

-- the superblock's part, and the count
test3-is : (a : List ℕ) → test3 a ≡ (super_fine (stored_super a) (length_of a meta_file) && eqb (stored_super a).unused (set_bits (stored_maps a) (ids_in a)))
unfolding test3 super_fine
test3-is a =
    go (eqb (stored_super a).magic sefs_magic) (leb 1 (stored_super a).groups) (leb (stored_super a).groups 4) (eqb (length_of a meta_file) (131072 * (stored_super a).groups))
    (eqb (stored_super a).blocks (1024 * (stored_super a).groups)) (eqb (stored_super a).unused (set_bits (stored_maps a) (ids_in a)))
  where
    go : (p q r s t u : Bool) → (p && (q && (r && (s && (t && u))))) ≡ ((p && (q && (r && (s && t)))) && u)
    go true true true true t u = refl
    go true true true false t u = refl
    go true true false s t u = refl
    go true false r s t u = refl
    go false q r s t u = refl

module _ (a : List ℕ) (n : ℕ) (is : n ≡ pick (there a meta_file) (suc (length_of a meta_file)) 0) where
  -- one more than the length, or both are 0
  size_of : n - 1 ≡ length_of a meta_file
  size_of = ⊎_elim
      (λ (t : there a meta_file ≡ true). let e : n ≡ suc (length_of a meta_file) = is ∙ ap (λ (x : Bool). pick x (suc (length_of a meta_file)) 0) t in omega arith)
      (λ (t : there a meta_file ≡ false). let e : n ≡ 0 = is ∙ ap (λ (x : Bool). pick x (suc (length_of a meta_file)) 0) t in omega (arith, length_none a meta_file t))
      (bool_cases (there a meta_file))

  -- no room for a superblock
  pub three-short : n < 17 → false ≡ test3 a
  three-short l = ⊎_elim
      (λ e. let s = super-says (stored_super a) (length_of a meta_file) e in absurd (omega (arith, size_of, s.0, s.1.1)))
      (λ e. sym (test3-is a ∙ ap (λ (x : Bool). x && eqb (stored_super a).unused (set_bits (stored_maps a) (ids_in a))) e))
      (bool_cases (super_fine (stored_super a) (length_of a meta_file)))

  module _ (b : SuperBlock) (b-is : b ≡ stored_super a) where
    fine-is : super_fine b (n - 1) ≡ super_fine (stored_super a) (length_of a meta_file)
    fine-is = ap₂ super_fine b-is size_of

    pub three-super : super_fine b (n - 1) ≡ false → false ≡ test3 a
    three-super e = sym (test3-is a ∙ ap (λ (x : Bool). x && eqb (stored_super a).unused (set_bits (stored_maps a) (ids_in a))) (sym fine-is ∙ e))

    module _ (g : ℕ) (g-is : g ≡ b.groups) (m d p : List ℕ) (M : Mapped a m d g) (P : Put d p b) (few : g ≤ 4) where
      maps-are : part p 4419 (4419 + 128 * g) ≡ maps_to a g
      maps-are =
          let z : (x : List ℕ) → part (part x 4419 memory_size) 0 (128 * g) ≡ part x 4419 (4419 + 128 * g) = λ x. part-part x 4419 memory_size 0 (128 * g) (omega arith) in
          sym (z p) ∙ ap (λ (x : List ℕ). part x 0 (128 * g)) P.maps ∙ z d ∙ M.maps

      groups-are : g ≡ (stored_super a).groups
      groups-are = g-is ∙ ap (λ (x : SuperBlock). x.groups) b-is

      super-maps : Of a p
      unfolding memory.maps_in stored_maps
      super-maps = record {
        super = P.super ∙ b-is;
        maps = ap (λ (x : ℕ). part p 4419 (4419 + 128 * x)) (ap (λ (x : SuperBlock). x.groups) P.super ∙ sym g-is) ∙ maps-are ∙ ap (maps_to a) groups-are;
      }

      table : table_in p ≡ table_in m
      table =
          let z : (x : List ℕ) → part (part x 0 4419) 0 4402 ≡ part x 0 4402 = λ x. part-part x 0 4419 0 4402 (omega arith) in
          table_kept m p (P.front ∙ sym (z d) ∙ ap (λ (x : List ℕ). part x 0 4402) M.front ∙ z m)

      -- what later rules are given
      pub three-given : (Loaded p × Of a p) × (table_in p ≡ table_in m)
      three-given = ((P.loaded, super-maps), table)

      pub three-count : (k r : ℕ) → super_fine b (n - 1) ≡ true → r ≡ g → k ≡ set_bits (part p 4419 memory_size) (1024 * r) → eqb k b.unused ≡ test3 a
      unfolding set_bits stored_maps
      three-count k r e rg c =
          let f : k ≡ set_bits (stored_maps a) (ids_in a) =
          c ∙ ap (λ (x : ℕ). set_bits (part p 4419 memory_size) (1024 * x)) rg
          ∙ count_to-cong (bit_at (part p 4419 memory_size)) (bit_at (part p 4419 (4419 + 128 * g))) (1024 * g) (λ i l. bit_in p g i few l)
          ∙ ap₂ (λ (x : List ℕ) (y : ℕ). set_bits x (1024 * y)) (maps-are ∙ ap (maps_to a) groups-are) groups-are
          in
          ap₂ eqb f (ap (λ (x : SuperBlock). x.unused) b-is) ∙ eqb-sym (set_bits (stored_maps a) (ids_in a)) (stored_super a).unused
          ∙ sym (test3-is a ∙ ap (λ (x : Bool). x && eqb (stored_super a).unused (set_bits (stored_maps a) (ids_in a))) (sym fine-is ∙ e))
