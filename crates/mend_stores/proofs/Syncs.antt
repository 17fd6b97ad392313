-- "then superblock, then maps": their blocks are there, so nothing refuses them; and all steps together.
use mathlib.Core.Path.{◌≡◌, refl, sym, ap, ◌∙◌}
use mathlib.Core.List.{List}
use Prim.Native.Nat.{ℕ, ◌+◌, ◌*◌, ◌≤◌, ◌<◌}
use native.Mathlib.Numerals.{add-one}
use native.Mathlib.Omega.{arith}
use lib.ListN.{length}
use Rattle.base.specs.Out.{Out, done, bind}
use Rattle.base.specs.Parts.{part}
use Rattle.base.proofs.Outs.{bind_assoc}
use Rattle.le.specs.Le.{Bytes}
use Rattle.structs.specs.Layout.{super_bytes}
use Rattle.table.specs.declared.Table.{Table}
use Rattle.arena.proofs.Blocks.{legal-is}
use Rattle.files.specs.Read.{length_of}
use Rattle.files.specs.Store.{put_file}
use Rattle.files_laws.specs.Laws.{Put}
use Rattle.files_laws.proofs.Put.{put_is}
use Rattle.sefs.specs.State.{Fs}
use Rattle.sefs.specs.Meta.{meta_file, map_at, store_maps, sync_meta}
use Rattle.sefs.specs.Ask.{start}
use Rattle.rules.specs.Image.{stored_super, ids_in}
use Rattle.mem.specs.Mem.{super_in, maps_in}
use Rattle.nodes.proofs.Bytes.{meta-is, map-part, super-part}
use Rattle.fsck_read.specs.Loaded.{Loaded}
use Rattle.mending.specs.Mend.{free_to, store_to, mend_steps}
use Rattle.mending.proofs.Backs.{map-here, super-here}
use Rattle.mending.proofs.Stores.{lacking-none, put-here}
use Rattle.mend_stores.specs.Stores.{state_of, Storable, PutInMeta, Begun, StoredTo, MetaHasBlocks}
use Rattle.mend_stores.proofs.Frees.{groups-same}
use Rattle.mend_stores.proofs.Records.{begun-mendable, stored_is}

-- ---- each of them can be stored

module _ (d m places : List ℕ) (from : ℕ) (B : MetaHasBlocks d m places from) where
  some : 0 < (super_in m).groups
  some = B.loaded.whole.some B.loaded.read

  few : (super_in m).groups ≤ 4
  few = B.loaded.whole.few B.loaded.read

  pub super-storable : Storable d places 0 16 from
  super-storable = record {
    most = B.most;
    exists = B.exists;
    long = omega (arith, B.long, few);
    below = omega (arith, B.long, some);
    room = omega (arith, lacking-none d meta_file 0 16 B.super);
    placed = B.placed;
    used = B.used;
  }

  pub map-storable : (g : ℕ) → g < (super_in m).groups → Storable d places (map_at g) 128 from
  map-storable g l = record {
    most = B.most;
    exists = B.exists;
    long = omega (arith, B.long, few);
    below = omega (arith, B.long);
    room = omega (arith, lacking-none d meta_file (map_at g) 128 (B.maps g l));
    placed = B.placed;
    used = B.used;
  }

  -- and after one the next
  pub backed-next : (x after : List ℕ) (pos : ℕ) (src : List ℕ) (at : ℕ) → pos + length src ≤ length_of d meta_file → PutInMeta d x after pos src at → MetaHasBlocks x m after at
  backed-next x after pos src at end W =
      let P : Put d meta_file pos src x = put_is d meta_file pos src x W.put in
      record {
        loaded = B.loaded;
        most = omega (arith, P.size, B.most);
        exists = P.exists;
        long = P.long ∙ (let l = B.long in omega arith);
        super = λ q e. put-here d meta_file pos src x P q (B.super q e);
        maps = λ g l q e. put-here d meta_file pos src x P q (B.maps g l q e);
        placed = W.placed;
        used = W.used;
      }

-- ---- the maps

pub maps_none : (a maps : List ℕ) → store_maps a maps 0 ≡ done a
unfolding store_maps
maps_none a maps = refl

-- one more, whose bytes stand in memory
pub maps-more : (a d e m : List ℕ) (g pos : ℕ) (src : List ℕ) → g < (super_in m).groups → pos ≡ map_at g → src ≡ part m (4419 + 128 * g) (4419 + 128 * g + 128)
    → store_maps a (maps_in m) g ≡ done d → put_file d meta_file pos src ≡ done e → store_maps a (maps_in m) (g + 1) ≡ done e
unfolding store_maps
maps-more a d e m g pos src l at is h p =
    rw add-one
    (ap (λ (o : Out (List ℕ)). bind o (λ x. put_file x meta_file (map_at g) (part (maps_in m) (128 * g) (128 * g + 128)))) h
    ∙ (λ z. put_file d meta_file (sym at z) ((map-part m g l ∙ sym is) z))
    ∙ p)

-- ---- superblock and maps

pub sync-does : (a d e m : List ℕ) (src : List ℕ) (n : ℕ) → Loaded m → Bytes m → src ≡ part m 4403 4419 → n ≡ (super_in m).groups → put_file a meta_file 0 src ≡ done d → store_maps d (maps_in m) n ≡ done e
    → (t : Table) → sync_meta (state_of a t m) ≡ done (state_of e t m)
unfolding sync_meta
sync-does a d e m src n L B is all p h t =
    let q : put_file a meta_file 0 (super_bytes (super_in m)) ≡ done d = ap (put_file a meta_file 0) (super-part m B L.whole.size ∙ sym is) ∙ p in
    let r : store_maps d (maps_in m) (super_in m).groups ≡ done e = ap (store_maps d (maps_in m)) (sym all) ∙ h in
    rw (meta-is m L.read, q, r) refl

-- ---- all of them: c is the arena once the files are gone, d once the records are stored

module _ (a m c work : List ℕ) (n : ℕ) (first : List ℕ) (B : Begun a m c work first n) (d places : List ℕ) (from : ℕ) (S : StoredTo a d m places n from) where
  pub backed-first : MetaHasBlocks d m places from
  backed-first =
      let M = begun-mendable a m c work n first B in
      let R = stored_is a m c work n first B n d places from S (omega (arith, B.all)) in
      let same : (super_in m).groups ≡ (stored_super a).groups = omega (arith, groups-same a M n c m B.freed (omega (arith, B.all))) in
      record {
        loaded = B.freed.loaded;
        most = omega (arith, R.size, (legal-is a M.rule1.length).most);
        exists = R.there;
        long = R.long ∙ M.rule3.length ∙ ap (λ (x : ℕ). 131072 * x) (sym same);
        super = λ q e. R.here q (super-here a M q e);
        maps = λ g l q e. R.here q (map-here a M g (omega (arith, same)) q e);
        placed = S.placed;
        used = S.used;
      }

  pub mend-does : (e : List ℕ) → ((t : Table) → sync_meta (state_of d t m) ≡ done (state_of e t m)) → (t : Table) → bind (mend_steps a (start a t)) (λ s. done s.arena) ≡ done e
  unfolding mend_steps
  mend-does e h t =
      let x : bind (free_to a (start a t) (ids_in a)) (λ s. store_to a s (ids_in a)) ≡ done (state_of d t m) = ap (λ (k : ℕ). bind (free_to a (start a t) (ids_in a)) (λ s. store_to a s k)) (sym B.all) ∙ S.steps t in
      ap (λ (o : Out Fs). bind o (λ s. done s.arena))
      (sym (bind_assoc (free_to a (start a t) (ids_in a)) (λ s. store_to a s (ids_in a)) sync_meta) ∙ ap (λ (o : Out Fs). bind o sync_meta) x ∙ h t)
