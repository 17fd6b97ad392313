-- Superblock and maps are stored: then the arena has those of memory, and every record and node file as before. 17 is the one reason.
use mathlib.Core.Path.{◌≡◌, refl, sym, ap, ◌∙◌, subst}
use mathlib.Core.Bool.{true}
use mathlib.Core.List.{List, ◌++◌}
use mathlib.Core.Logic.{◌≢◌, ⊎_elim}
use Prim.Native.Nat.{ℕ, zero, suc, ◌+◌, ◌*◌, ◌-◌, ◌%◌, ◌≤◌, ◌<◌}
use native.Mathlib.Omega.{arith}
use lib.ListN.{length, get_or, length-append}
use Rattle.base.specs.Out.{done, Ok, went}
use Rattle.base.proofs.Outs.{ok-bind, ok-weaken}
use Rattle.base.specs.Parts.{tab, part}
use Rattle.base.proofs.Bools.{true-false}
use Rattle.base.proofs.Lists.{length-tab, length_part, tab-cong, tab-get_or}
use Rattle.base.proofs.Parts.{part_join, part-all, part-whole}
use Rattle.base.proofs.Numbers.{lt-or-le}
use Rattle.le.specs.Le.{Bytes}
use Rattle.structs.specs.Fits.{SuperFits}
use Rattle.structs.specs.Layout.{super_of, super_bytes}
use Rattle.structs.proofs.Joins.{bytes-append}
use Rattle.structs.proofs.Layouts.{length-super_bytes, super_of-super_bytes, super_bytes-bytes}
use Rattle.structs.specs.declared.SuperBlock.{SuperBlock}
use Rattle.arena.specs.Fields.{File, file}
use Rattle.sound.specs.Sound.{sound}
use Rattle.files.specs.Read.{there, length_of, byte_at}
use Rattle.files.specs.Store.{put_file}
use Rattle.files_laws.specs.Laws.{Put, PutRefused, Kept}
use Rattle.files_laws.proofs.Put.{put-law}
use Rattle.sefs.specs.State.{Fs, Meta}
use Rattle.sefs.specs.Meta.{meta_file, map_at, store_maps, sync_meta}
use Rattle.rules.specs.Image.{run, stored_super, maps_to, stored_maps, stored_bytes}
use Rattle.image.proofs.Slots.{run-bytes}
use Rattle.files_laws.specs.Laws as laws

-- ---- the maps of an arena

pub length-maps_to : (a : List ℕ) (n : ℕ) → length (maps_to a n) ≡ 128 * n
unfolding maps_to
length-maps_to a zero = refl
length-maps_to a (suc n) = length-append (maps_to a n) (run a meta_file (map_at n) 128) ∙ omega (arith, length-maps_to a n, length-tab (byte_at a meta_file) (map_at n) 128)

pub bytes-maps_to : (a : List ℕ) → Bytes a → (n : ℕ) → Bytes (maps_to a n)
unfolding maps_to
bytes-maps_to a b zero = λ i. omega arith
bytes-maps_to a b (suc n) = bytes-append (maps_to a n) (run a meta_file (map_at n) 128) (bytes-maps_to a b n) (run-bytes a meta_file (map_at n) 128 b)

-- ---- stores inside the metadata file

pub kept_same : (a : List ℕ) (f : File) → Kept a a f
kept_same a f = record { exists = refl; long = refl; block = λ q. refl; byte = λ p. refl }

pub kept_then : (a b c : List ℕ) (f : File) → Kept a b f → Kept b c f → Kept a c f
kept_then a b c f x y = record { exists = y.exists ∙ x.exists; long = y.long ∙ x.long; block = λ q. y.block q ∙ x.block q; byte = λ p. y.byte p ∙ x.byte p }

-- b is a but for bytes inside the metadata file
pub record Within (a b : List ℕ) : Type 0 where
  pub size : length b ≡ length a
  pub bytes : Bytes b
  pub sound : sound b ≡ true
  pub there : there b meta_file ≡ true
  pub long : length_of b meta_file ≡ length_of a meta_file
  pub files : (f : List ℕ) → Kept a b (file 1 f)

pub node-other : (f : List ℕ) → meta_file ≢ file 1 f
node-other f e = let z : ◌≡◌ {A = ℕ} 0 1 = ap (λ (g : File). g.which) e in omega arith

module _ (a b : List ℕ) (W : Within a b) (pos : ℕ) (src : List ℕ) (B : Bytes src) (end : pos + length src ≤ length_of a meta_file) where
  within-put : Ok (Put b meta_file pos src) (λ r. r ≡ 17) (put_file b meta_file pos src)
  within-put = ok-weaken (λ b P. P) (λ r e. why e) (put-law b meta_file pos src)
    where
      why : {r : ℕ} → PutRefused b meta_file pos (length src) r → r ≡ 17
      why (laws.missing e) = absurd (true-false W.there e)
      why (laws.far _ _) = refl
      why (laws.full _ _ _) = refl

  within-then : (c : List ℕ) → Put b meta_file pos src c → Within a c
  within-then c P = record {
    size = P.size ∙ W.size;
    bytes = P.bytes W.bytes B;
    sound = P.keeps W.bytes B W.sound;
    there = P.exists;
    long = P.long ∙ (let l = W.long in omega arith);
    files = λ f. kept_then a b c (file 1 f) (W.files f) (P.others (file 1 f) (node-other f));
  }

-- what was put is there
pub put-run : (a b : List ℕ) (f : File) (pos n : ℕ) (src : List ℕ) → length src ≡ n → Put a f pos src b → run b f pos n ≡ src
put-run a b f pos n src long P =
    tab-cong (byte_at b f) (λ i. get_or src i 0) pos 0 n
    (λ i l. P.inside (pos + i) (omega arith) (omega (arith, long)) ∙ ap (λ (j : ℕ). get_or src j 0) (let e : pos + i - pos ≡ 0 + i = omega arith in e))
    ∙ ap (tab (λ i. get_or src i 0) 0) (sym long) ∙ tab-get_or src

-- ---- the first n maps

pub record MapsPut (a maps : List ℕ) (n : ℕ) (b : List ℕ) : Type 0 where
  pub within : Within a b
  pub inside : (g : ℕ) → g < n → run b meta_file (map_at g) 128 ≡ part maps (128 * g) (128 * g + 128)
  pub outside : (p : ℕ) → ((g : ℕ) → map_at g ≤ p → map_at g + 128 ≤ p) → byte_at b meta_file p ≡ byte_at a meta_file p

maps-law : (a maps : List ℕ) (k : ℕ) → Within a a → Bytes maps → length maps ≡ 128 * k → length_of a meta_file ≡ 131072 * k → (n : ℕ) → n ≤ k
    → Ok (MapsPut a maps n) (λ r. r ≡ 17) (store_maps a maps n)
unfolding store_maps
maps-law a maps k W B long len zero l = went (record { within = W; inside = λ g m. absurd (omega arith); outside = λ p h. refl })
maps-law a maps k W B long len (suc n) l =
    ok-bind (maps-law a maps k W B long len n (omega arith)) λ b M.
    ok-weaken (λ c P. next b M c P) (λ r e. e) (within-put a b M.within (map_at n) src src-bytes src-end)
  where
    src : List ℕ
    src = part maps (128 * n) (128 * n + 128)

    src-long : length (part maps (128 * n) (128 * n + 128)) ≡ 128
    src-long = length_part maps (128 * n) (128 * n + 128) (omega arith) (omega arith) ∙ omega arith

    src-bytes : Bytes (part maps (128 * n) (128 * n + 128))
    src-bytes = part-all (λ x. x < 256) maps (omega arith) B (128 * n) (128 * n + 128)

    src-end : map_at n + length (part maps (128 * n) (128 * n + 128)) ≤ length_of a meta_file
    src-end = omega (arith, src-long)

    next : (b : List ℕ) → MapsPut a maps n b → (c : List ℕ) → Put b meta_file (map_at n) (part maps (128 * n) (128 * n + 128)) c → MapsPut a maps (suc n) c
    next b M c P = record {
      within = within-then a b M.within (map_at n) (part maps (128 * n) (128 * n + 128)) src-bytes src-end c P;
      inside = λ g m. ⊎_elim
          (λ (d : g < n).
          tab-cong (byte_at c meta_file) (byte_at b meta_file) (map_at g) (map_at g) 128 (λ i q. P.outside (map_at g + i) (λ z. absurd (omega arith)))
          ∙ M.inside g d)
          (λ (d : n ≤ g).
          let e : g ≡ n = omega arith in
          subst (λ (x : ℕ). run c meta_file (map_at x) 128 ≡ part maps (128 * x) (128 * x + 128)) (sym e)
          (put-run b c meta_file (map_at n) 128 (part maps (128 * n) (128 * n + 128)) src-long P))
          (lt-or-le g n);
      outside = λ p h. P.outside p (λ z. omega (arith, src-long, h n z)) ∙ M.outside p h;
    }

-- ---- superblock and maps

pub record MetaPut (a : List ℕ) (m : Meta) (b : List ℕ) : Type 0 where
  pub within : Within a b
  pub super : stored_super b ≡ m.super
  pub maps : stored_maps b ≡ m.maps
  pub stored : (id : ℕ) → id ≢ 0 → id % 1024 ≢ 1 → stored_bytes b id ≡ stored_bytes a id

-- what can be stored
pub record MetaFits (a : List ℕ) (m : Meta) : Type 0 where
  pub fits : SuperFits m.super
  pub some : 1 ≤ m.super.groups
  pub bytes : Bytes m.maps
  pub long : length m.maps ≡ 128 * m.super.groups
  pub end : length_of a meta_file ≡ 131072 * m.super.groups

module _ (a : List ℕ) (m : Meta) (W : Within a a) (F : MetaFits a m) where
  abbrev k : ℕ
  k = m.super.groups

  abbrev src : List ℕ
  src = super_bytes m.super

  src-end : 0 + length src ≤ length_of a meta_file
  src-end = omega (arith, length-super_bytes m.super, F.end, F.some)

  module _ (b : List ℕ) (P : Put a meta_file 0 src b) (c : List ℕ) (M : MapsPut b m.maps k c) where
    Wb : Within a b
    Wb = within-then a a W 0 src (super_bytes-bytes m.super) src-end b P

    c-super : stored_super c ≡ m.super
    unfolding stored_super
    c-super =
        ap super_of
        (tab-cong (byte_at c meta_file) (byte_at b meta_file) 0 0 16 (λ i l. M.outside (0 + i) (λ g z. absurd (omega arith)))
        ∙ put-run a b meta_file 0 16 src (length-super_bytes m.super) P)
        ∙ super_of-super_bytes m.super F.fits

    c-maps_to : (n : ℕ) → n ≤ k → maps_to c n ≡ part m.maps 0 (0 + 128 * n)
    unfolding maps_to
    c-maps_to zero l = refl
    c-maps_to (suc n) l =
        ap (λ (x : List ℕ). x ++ run c meta_file (map_at n) 128) (c-maps_to n (omega arith))
        ∙ ap (λ (x : List ℕ). part m.maps 0 (0 + 128 * n) ++ x) (M.inside n (omega arith))
        ∙ ap (λ (j : ℕ). part m.maps 0 (0 + 128 * n) ++ part m.maps j (j + 128)) (let e : 128 * n ≡ 0 + 128 * n = omega arith in e)
        ∙ sym (part_join m.maps 0 (128 * n) 128)
        ∙ ap (λ (j : ℕ). part m.maps 0 (0 + j)) (let e : 128 * n + 128 ≡ 128 * suc n = omega arith in e)

    c-maps : stored_maps c ≡ m.maps
    unfolding stored_maps
    c-maps =
        ap (λ (x : SuperBlock). maps_to c x.groups) c-super ∙ c-maps_to k (omega arith)
        ∙ part-whole m.maps (0 + 128 * k) (F.long ∙ omega arith)

    meta-put : MetaPut a m c
    unfolding stored_bytes
    meta-put = record {
      within = record {
        size = M.within.size ∙ Wb.size;
        bytes = M.within.bytes;
        sound = M.within.sound;
        there = M.within.there;
        long = M.within.long ∙ Wb.long;
        files = λ f. kept_then a b c (file 1 f) (Wb.files f) (M.within.files f);
      };
      super = c-super;
      maps = c-maps;
      stored = λ id z o. tab-cong (byte_at c meta_file) (byte_at a meta_file) (128 * id) (128 * id) 112 (λ i l.
          M.outside (128 * id + i) (λ g q. ⊎_elim (λ w. absurd (o (let e : id ≡ 1024 * g + 1 = omega arith in omega arith))) (λ w. w) (lt-or-le (128 * id + i) (map_at g + 128)))
          ∙ P.outside (128 * id + i) (λ q. let y : 1 ≤ id = ⊎_elim (λ w. absurd (z (omega arith))) (λ w. w) (lt-or-le id 1) in omega (arith, length-super_bytes m.super)));
    }

  pub sync-meta-law : (s : Fs) → s.arena ≡ a → s.meta ≡ done m
      → Ok (λ (d : Fs). (d.table ≡ s.table) × (d.meta ≡ s.meta) × MetaPut a m d.arena) (λ r. r ≡ 17) (sync_meta s)
  unfolding sync_meta
  sync-meta-law s e f =
      rw (f, e)
      (ok-bind (within-put a a W 0 src (super_bytes-bytes m.super) src-end) λ b P.
      ok-bind (maps-law b m.maps k (same b P) F.bytes F.long ((V2 b P).long ∙ F.end) k (omega arith)) λ c M.
      went (refl, refl, meta-put b P c M))
    where
      V2 : (b : List ℕ) → Put a meta_file 0 (super_bytes m.super) b → Within a b
      V2 b P = within-then a a W 0 (super_bytes m.super) (super_bytes-bytes m.super) src-end b P

      same : (b : List ℕ) → Put a meta_file 0 (super_bytes m.super) b → Within b b
      same b P = let v = V2 b P in record { size = refl; bytes = v.bytes; sound = v.sound; there = v.there; long = refl; files = λ f. kept_same b (file 1 f) }
