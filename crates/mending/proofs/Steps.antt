-- The steps together: each is done, but for 17 where the changed records lack more blocks than there are; superblock and maps never lack one. And so
-- the reasons of the call.
use mathlib.Core.Path.{◌≡◌, refl, sym, ap, ◌∙◌, subst}
use mathlib.Core.Bool.{true}
use mathlib.Core.List.{List, ◌++◌}
use Prim.Native.Nat.{ℕ, zero, suc, ◌+◌, ◌*◌, ◌≤◌, ◌<◌}
use native.Mathlib.Omega.{arith}
use lib.ListN.{length}
use borrow.Author.Tests.{lt-ltb}
use Rattle.base.specs.Out.{Out, done, bind, Ok, went}
use Rattle.base.specs.Parts.{part}
use Rattle.base.proofs.Bools.{true-T}
use Rattle.base.proofs.Lists.{length_part}
use Rattle.base.proofs.Outs.{ok-bind, ok-weaken}
use Rattle.base.proofs.Sames.{decided-yes}
use Rattle.structs.specs.Layout.{super_bytes}
use Rattle.structs.specs.declared.SuperBlock.{SuperBlock}
use Rattle.structs.proofs.Layouts.{length-super_bytes}
use Rattle.table.specs.declared.Table.{Table}
use Rattle.table.specs.Formed.{well_formed}
use Rattle.arena.specs.Blocks.{legal}
use Rattle.arena.specs.Places.{free_count}
use Rattle.sound.specs.Sound.{sound}
use Rattle.table.specs.Table.{no_holds}
use Rattle.files.specs.Read.{there, present, read_file}
use Rattle.files.specs.Store.{longest, put_file}
use Rattle.files.proofs.Runs.{read_done}
use Rattle.files_laws.specs.Laws.{touches, lacking}
use Rattle.files_laws.proofs.Put.{put-done}
use Rattle.sefs.specs.State.{Fs, Meta}
use Rattle.sefs.specs.Meta.{meta_file, map_at, load_maps, load_meta, store_maps, sync_meta}
use Rattle.sefs.specs.Ask.{admit_arena, admit, start}
use Rattle.sefs_laws.proofs.Says.{ensure-asks}
use Rattle.rules.specs.Image.{stored_super, maps_to, stored_maps, ids_in}
use Rattle.image.specs.Midway.{stored_meta}
use Rattle.mending.specs.Mendable.{Mendable, mendable}
use Rattle.mending.specs.Mend.{mend_steps, call_mend}
use Rattle.mending.specs.Room.{wanted, given_back}
use Rattle.mending.specs.Promises.{MendableDecides, MayRefuse, MendReasons, MendFull}
use Rattle.mending.specs.Promises as may
use Rattle.mending.proofs.Backs.{map-here, super-here}
use Rattle.mending.proofs.Tests.{mendable-decides}
use Rattle.mending.proofs.Frees.{Freed, free_law}
use Rattle.mending.proofs.Stores.{Stored, lacking-none, put-here, meta-there, store-law}

-- what the metadata file keeps, through every store
pub record BlocksStay (a x : List ℕ) : Type 0 where
  pub exists : there x meta_file ≡ true
  pub here : (q : ℕ) → present a meta_file q ≡ true → present x meta_file q ≡ true

-- n bytes whose blocks are there are written
pub put-goes : (a x : List ℕ) → BlocksStay a x → (pos n : ℕ) (src : List ℕ) → length src ≡ n → pos + n ≤ longest → ((q : ℕ) → touches pos n q ≡ true → present a meta_file q ≡ true)
    → (y : List ℕ) × (put_file x meta_file pos src ≡ done y) × BlocksStay a y
put-goes a x H pos n src len end h =
    let none : lacking x meta_file pos (length src) ≡ 0 = ap (lacking x meta_file pos) len ∙ lacking-none x meta_file pos n (λ q e. H.here q (h q e)) in
    let r = put-done x meta_file pos src H.exists (omega (arith, len)) (omega (arith, none)) in
    (r.0, r.1, record { exists = r.2.exists; here = λ q e. put-here x meta_file pos src r.0 r.2 q (H.here q e) })

-- all steps are done
pub record Done (a : List ℕ) (d : Fs) : Type 0 where
  pub s : Fs
  pub u : Fs
  pub freed : Freed a (ids_in a) s
  pub stored : Stored a s.arena s.meta (ids_in a) u
  pub synced : sync_meta u ≡ done d

-- 17, and the blocks that are lacking are more than there will be
abbrev pub Fails : List ℕ → ℕ → Type 0
Fails a r = (r ≡ 17) × (free_count a + given_back a < wanted a)

module _ (a : List ℕ) (M : Mendable a) where
  -- ---- superblock and maps are loaded

  maps-read : (n : ℕ) → n ≤ (stored_super a).groups → load_maps a n ≡ done (maps_to a n)
  unfolding load_maps maps_to
  maps-read zero l = refl
  maps-read (suc n) l =
      ap (λ (o : Out (List ℕ)). bind o (λ m. bind (read_file a meta_file (map_at n) 128) (λ x. done (m ++ x)))) (maps-read n (omega arith))
      ∙ ap (λ (o : Out (List ℕ)). bind o (λ x. done (maps_to a n ++ x))) (read_done a meta_file (map_at n) 128 (meta-there a M) (omega (arith, M.rule3.length)))

  pub meta-loaded : load_meta a ≡ done (stored_meta a)
  unfolding load_meta stored_super stored_maps
  meta-loaded =
      rw (
        read_done a meta_file 0 16 (meta-there a M) (omega (arith, M.rule3.length, M.rule3.some)),
        lt-ltb 0 (stored_super a).groups M.rule3.some,
        lt-ltb (stored_super a).groups 5 (omega (arith, M.rule3.few)),
        maps-read (stored_super a).groups (omega arith),
      )

  -- ---- and stored

  maps-go : (maps : List ℕ) → length maps ≡ 128 * (stored_super a).groups → (x : List ℕ) → BlocksStay a x → (n : ℕ) → n ≤ (stored_super a).groups
      → (y : List ℕ) × (store_maps x maps n ≡ done y) × BlocksStay a y
  unfolding store_maps
  maps-go maps long x H zero l = (x, refl, H)
  maps-go maps long x H (suc n) l =
      let r = maps-go maps long x H n (omega arith) in
      let len : length (part maps (128 * n) (128 * n + 128)) ≡ 128 = length_part maps (128 * n) (128 * n + 128) (omega arith) (omega arith) ∙ omega arith in
      let p = put-goes a r.0 r.2 (map_at n) 128 (part maps (128 * n) (128 * n + 128)) len (omega (arith, M.rule3.few)) (map-here a M n (omega arith)) in
      (p.0, ap (λ (o : Out (List ℕ)). bind o (λ d. put_file d meta_file (map_at n) (part maps (128 * n) (128 * n + 128)))) r.1 ∙ p.1, p.2)

  pub sync-goes : (s : Fs) (m : Meta) → s.meta ≡ done m → m.super.groups ≡ (stored_super a).groups → length m.maps ≡ 128 * (stored_super a).groups → BlocksStay a s.arena
      → (d : Fs) × (sync_meta s ≡ done d)
  unfolding sync_meta
  sync-goes s m f g long H =
      let p = put-goes a s.arena H 0 16 (super_bytes m.super) (length-super_bytes m.super) (omega arith) (super-here a M) in
      let r = maps-go m.maps long p.0 p.2 m.super.groups (omega (arith, g)) in
      (record { arena = r.0; table = s.table; meta = s.meta }, rw (f, p.1, r.1) refl)

  -- ---- all steps

  pub steps-law : (s : Fs) → s.meta ≡ done (stored_meta a) → s.arena ≡ a → Ok (Done a) (Fails a) (mend_steps a s)
  unfolding mend_steps
  steps-law s f e =
      ok-bind (ok-weaken (λ x F. F) (λ n r. absurd r) (free_law a M s f e (ids_in a) (omega arith))) λ x F.
      ok-bind (ok-weaken (λ u S. S) (λ n r. (r.0, let y = r.1 in omega (arith, y, F.free))) (store-law a M x F (ids_in a) (omega arith))) λ u S.
      let r = sync-goes u F.m (S.meta ∙ F.meta) (ap (λ (b : SuperBlock). b.groups) F.super) F.long (record { exists = S.there; here = S.here }) in
      subst (Ok (Done a) (Fails a)) (sym r.1) (went (record { s = x; u = u; freed = F; stored = S; synced = r.1 }))

-- ---- the reasons

-- what a call that is done has found and done
pub record Worked (a : List ℕ) (t : Table) (b : List ℕ) : Type 0 where
  pub mendable : Mendable a
  pub formed : well_formed t ≡ true
  pub bare : no_holds t ≡ true
  pub state : Fs
  pub steps : Done a state
  pub is : state.arena ≡ b

pub call-law : (a : List ℕ) (t : Table) → Ok (Worked a t) MayRefuse (call_mend a t)
unfolding call_mend admit admit_arena MendableDecides
call-law a t =
    ok-bind
    (ok-bind (ok-bind (ensure-asks {R = MayRefuse} (legal a) 1 may.length) λ _ _. ensure-asks {R = MayRefuse} (sound a) 2 may.unsound) λ _ _.
    ensure-asks {R = MayRefuse} (well_formed t) 3 may.unformed) λ _ w.
    ok-bind (ensure-asks {R = MayRefuse} (no_holds t) 24 may.held) λ _ h.
    ok-bind (ensure-asks {R = MayRefuse} (mendable a) 18 may.unfit) λ _ e.
    let M = (mendable-decides a).right (true-T (mendable a) e) in
    ok-bind (ok-weaken (λ d D. D) (λ n r. subst MayRefuse (sym r.0) may.full) (steps-law a M (start a t) (meta-loaded a M) refl)) λ d D.
    went (record { mendable = M; formed = w; bare = h; state = d; steps = D; is = refl })

pub mend-reasons : MendReasons
unfolding MendReasons
mend-reasons a t = ok-weaken (λ b W. tt) (λ n r. r) (call-law a t)

-- ---- "then 17"

pub mend-full : MendFull
unfolding MendFull MendableDecides call_mend admit admit_arena
mend-full a t w none M =
    rw (M.rule1.length, M.rule1.sound, w, none, decided-yes (mendable-decides a) M)
    (ok-bind (steps-law a M (start a t) (meta-loaded a M) refl) λ d D. went (let x = D.stored.free in let y = D.freed.free in omega (arith, x, y)))
