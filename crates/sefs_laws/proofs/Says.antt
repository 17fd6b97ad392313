-- Which reasons a step can give: R holds of each. A step that only reads needs R of 19; one that stores, of 17 too.
use mathlib.Core.Bool.{Bool, true, false, not, ◌&&◌}
use mathlib.Core.List.{List}
use Prim.Native.Nat.{ℕ, zero, suc, ◌+◌, ◌-◌, ◌≤◌}
use native.Mathlib.Omega.{arith}
use lib.Dec.{eqb, ltb, leb}
use lib.ListN.{length}
use borrow.Author.Tests.{leb-true}
use Rattle.structs.specs.Layout.{super_of, record_of, entry_of}
use Rattle.structs.specs.Types.{is_folder, is_type}
use Rattle.utf8.specs.Names.{stored_name, is_named}
use Rattle.base.specs.Out.{Out, done, bind, guard, ensure, Ok, went, said}
use Rattle.base.proofs.Outs.{ok-bind, ok-weaken}
use Rattle.base.specs.Search.{pick}
use Rattle.std.specs.Prelude.{Option, Some, None}
use Rattle.structs.specs.declared.DiskINode.{DiskINode}
use Rattle.structs.specs.declared.DiskEntry.{DiskEntry}
use Rattle.structs.specs.declared.Timespec.{Timespec}
use Rattle.arena.specs.Fields.{File, file}
use Rattle.table.specs.declared.Table.{Table}
use Rattle.table.specs.Table.{row_at, row_of, free_row, row_used}
use Rattle.table.specs.Formed.{well_formed}
use Rattle.arena.specs.Blocks.{legal, blocks}
use Rattle.arena.specs.Places.{free_of}
use Rattle.sound.specs.Sound.{sound}
use Rattle.files.specs.Read.{there, read_file}
use Rattle.files.specs.Store.{longest, put_file, cut_file, make_file, claim, drop_file}
use Rattle.files_laws.specs.Laws.{PutRefused, CutRefused, DropRefused, ReadRefused}
use Rattle.files_laws.proofs.Put.{put-law}
use Rattle.files_laws.proofs.Cut.{cut-law}
use Rattle.files_laws.proofs.Drop.{drop-law}
use Rattle.files_laws.proofs.Reading.{read-law}
use Rattle.sefs.specs.State.{Fs, Meta, with_arena}
use Rattle.sefs.specs.Records.{new_record, with_blocks}
use Rattle.sefs.specs.Meta.{ids, first_bit, is_used, Allocated, load_maps, load_meta, store_maps, sync_meta, add_group, take_bit, alloc_block, free_block}
use Rattle.sefs.specs.Nodes.{Opened, set_rec, node_file, rec_at, no_row, open_in, open_at, load_node, get_node, new_node, store_row, sync_row, free_node, drop_node, release}
use Rattle.sefs.specs.Slots.{is_ended, slot_bytes, slot_at, look_to, lookup, or_not_found, find_slot}
use Rattle.sefs.specs.Folders.{put_slot, dirent_init, dirent_append, dirent_remove, dirent_node_remove, nlinks_inc, nlinks_dec, unlink_folder}
use Rattle.sefs.specs.Move.{record_by, record_on, dots_of}
use Rattle.sefs.specs.Contents.{has_contents, not_too_big, read_bytes, resize_steps, write_steps}
use Rattle.sefs.specs.Ask.{admit_arena, admit, live_folder, or_exists}
use mathlib.Core.Path.{refl, ◌≡◌, sym, subst}
use Rattle.files_laws.specs.Laws as laws

-- what is refused is R
abbrev pub Says : {A : Type 0} → (ℕ → Type 0) → Out A → Type 0
Says R o = Ok (λ _. Unit) R o

pub says-done : {A : Type 0} {R : ℕ → Type 0} {x : A} → Says R (done x)
says-done = went tt

-- a test that passes, and one that may not
pub ensure-yes : {R : ℕ → Type 0} {b : Bool} (n : ℕ) → b ≡ true → Says R (ensure b n)
ensure-yes {R} n e = subst (λ (x : Bool). Says R (ensure x n)) (sym e) says-done

pub ensure-asks : {R : ℕ → Type 0} (b : Bool) (n : ℕ) → R n → Ok (λ _. b ≡ true) R (ensure b n)
ensure-asks true n r = went refl
ensure-asks false n r = said r

-- an outcome that is known
pub is-done : {A : Type 0} {Q : A → Type 0} {R : ℕ → Type 0} {o : Out A} {x : A} → o ≡ done x → Q x → Ok Q R o
is-done {Q = Q} {R = R} e q = subst (Ok Q R) (sym e) (went q)

pub says_is : {A : Type 0} {R : ℕ → Type 0} {o : Out A} {x : A} → o ≡ done x → Says R o
says_is e = is-done e tt

-- the same, with what it is
pub ok-is : {A : Type 0} {R : ℕ → Type 0} {o : Out A} {x : A} → o ≡ done x → Ok (λ y. y ≡ x) R o
ok-is e = is-done e refl

pub says_then : {A B : Type 0} {R : ℕ → Type 0} {m : Out A} {f : A → Out B} → Says R m → ((a : A) → Says R (f a)) → Says R (bind m f)
says_then s k = ok-bind s (λ a _. k a)

pub says-guard : {A : Type 0} {R : ℕ → Type 0} (b : Bool) (n : ℕ) {m : Out A} → R n → Says R m → Says R (guard b n m)
says-guard true n r s = s
says-guard false n r s = said r

pub says-ensure : {R : ℕ → Type 0} (b : Bool) (n : ℕ) → R n → Says R (ensure b n)
says-ensure true n r = went tt
says-ensure false n r = said r

pub says-pick : {A : Type 0} {R : ℕ → Type 0} (b : Bool) (m o : Out A) → Says R m → Says R o → Says R (pick b m o)
says-pick true m o s u = s
says-pick false m o s u = u

-- ---- steps that read

module _ (R : ℕ → Type 0) (stuck : R 19) where
  pub says-read : (a : List ℕ) (f : File) (pos n : ℕ) → Says R (read_file a f pos n)
  says-read a f pos n = ok-weaken (λ l _. tt) (λ r e. why e) (read-law a f pos n)
    where
      why : {r : ℕ} → ReadRefused a f pos n r → R r
      why (laws.missing _) = stuck
      why (laws.short _ _) = stuck

  pub says-maps : (a : List ℕ) (n : ℕ) → Says R (load_maps a n)
  unfolding load_maps
  says-maps a zero = says-done
  says-maps a (suc n) = says_then (says-maps a n) λ m. says_then (says-read a _ _ _) λ l. says-done

  pub says-meta : (a : List ℕ) → Says R (load_meta a)
  unfolding load_meta
  says-meta a =
      says_then (says-read a _ _ _) λ l.
      says-guard (ltb 0 (super_of l).groups && ltb (super_of l).groups 5) 19 stuck (says_then (says-maps a _) λ m. says-done)

  pub says-open : (s : Fs) (id : ℕ) (r : DiskINode) (dirty : Bool) (f : Option ℕ) → Says R (open_in s id r dirty f)
  says-open s id r dirty (Some i) = says-done
  says-open s id r dirty None = said stuck

  says-load : (s : Fs) (id : ℕ) → Says R (load_node s id)
  unfolding load_node
  says-load s id =
      says_then (says-read _ _ _ _) λ l.
      says-guard (leb (record_of l).kind 4) 19 stuck
      (says-guard (there s.arena (node_file (record_of l))) 19 stuck (says-open s id (record_of l) false (free_row s.table)))

  says_at : (s : Fs) (id : ℕ) (f : Option ℕ) → Says R (open_at s id f)
  says_at s id (Some i) = says-done
  says_at s id None = says-load s id

  pub says-node : (s : Fs) (id : ℕ) → Says R s.meta → Says R (get_node s id)
  unfolding get_node
  says-node s id m = says_then m λ x. says-guard (is_used x id) 19 stuck (says_at s id (row_of s.table id))

  pub says-slot-bytes : (a : List ℕ) (r : DiskINode) (k : ℕ) → Says R (slot_bytes a r k)
  unfolding slot_bytes
  says-slot-bytes a r k = says_then (says-read _ _ _ _) λ l. says-guard (leb (entry_of l).kind 4) 19 stuck says-done

  pub says_slot : (a : List ℕ) (r : DiskINode) (k : ℕ) → Says R (slot_at a r k)
  unfolding slot_at
  says_slot a r k = says_then (says-slot-bytes a r k) λ l. says-guard (is_ended (stored_name (entry_of l).name)) 19 stuck says-done

  -- a folder above another, whose id is in slot 1
  pub says-record : (s : Fs) (id : ℕ) → Says R s.meta → Says R (record_on s id)
  unfolding record_on
  says-record s id h = says_then h λ m. says-guard (is_used m id) 19 stuck (go (row_of s.table id))
    where
      go : (f : Option ℕ) → Says R (record_by s id f)
      go (Some i) = says-done
      go None = says_then (says-read _ _ _ _) λ l. says-done

  pub says-dots : (s : Fs) (r : DiskINode) → Says R (dots_of s r)
  unfolding dots_of
  says-dots s r = says-guard (is_folder r.kind) 19 stuck (says_then (says-slot-bytes _ _ _) λ l. says-done)

  says-look : (a : List ℕ) (r : DiskINode) (name : List ℕ) (n : ℕ) → Says R (look_to a r name n)
  unfolding look_to
  says-look a r name zero = says-done
  says-look a r name (suc n) =
      says_then (says-look a r name n) λ k.
      says-pick (ltb k n) (done k) (bind (slot_at a r n) (λ e. done (pick (is_named e.name name) n (suc n)))) says-done
      (says_then (says_slot a r n) λ e. says-done)

  pub says-lookup : (a : List ℕ) (r : DiskINode) (name : List ℕ) → Says R (lookup a r name)
  unfolding lookup
  says-lookup a r name = says_then (says-look a r name _) λ k. says-done

  says-found : R 11 → (f : Option ℕ) → Says R (or_not_found f)
  says-found none (Some k) = says-done
  says-found none None = said none

  pub says-find : R 11 → (a : List ℕ) (r : DiskINode) (name : List ℕ) → Says R (find_slot a r name)
  unfolding find_slot
  says-find none a r name = says_then (says-lookup a r name) λ f. says_then (says-found none f) λ k. says_then (says_slot a r k) λ e. says-done

-- ---- steps that store, or change what is in memory

-- superblock and maps, where a step needs them, stick or are there
abbrev pub Sane : (ℕ → Type 0) → Fs → Type 0
Sane R s = Says R s.meta

abbrev pub Goes : (ℕ → Type 0) → Out Fs → Type 0
Goes R o = Ok (Sane R) R o

abbrev pub Opens : (ℕ → Type 0) → Out Opened → Type 0
Opens R o = Ok (λ x. Sane R x.state) R o

pub goes-pick : {R : ℕ → Type 0} (b : Bool) (m o : Out Fs) → Goes R m → Goes R o → Goes R (pick b m o)
goes-pick true m o s u = s
goes-pick false m o s u = u

pub goes-guard : {A : Type 0} {Q : A → Type 0} {R : ℕ → Type 0} (b : Bool) (n : ℕ) {m : Out A} → R n → Ok Q R m → Ok Q R (guard b n m)
goes-guard true n r s = s
goes-guard false n r s = said r

pub says-make : {R : ℕ → Type 0} → R 17 → (a : List ℕ) (f : File) → Says R (make_file a f)
unfolding make_file claim
says-make space a f = says-guard (ltb (free_of a) (blocks a)) 17 space says-done

module _ (R : ℕ → Type 0) (space : R 17) (stuck : R 19) where
  says-put : (a : List ℕ) (f : File) (pos : ℕ) (src : List ℕ) → Says R (put_file a f pos src)
  says-put a f pos src = ok-weaken (λ l _. tt) (λ r e. why e) (put-law a f pos src)
    where
      why : {r : ℕ} → PutRefused a f pos (length src) r → R r
      why (laws.missing _) = stuck
      why (laws.far _ _) = space
      why (laws.full _ _ _) = space

  pub says-cut : (a : List ℕ) (f : File) (len : ℕ) → Says R (cut_file a f len)
  says-cut a f len = ok-weaken (λ l _. tt) (λ r e. why e) (cut-law a f len)
    where
      why : {r : ℕ} → CutRefused a f len r → R r
      why (laws.missing _) = stuck
      why (laws.far _ _) = space

  says-drop : (a : List ℕ) (f : File) → Says R (drop_file a f)
  says-drop a f = ok-weaken (λ l _. tt) (λ r e. why e) (drop-law a f)
    where
      why : {r : ℕ} → DropRefused a f r → R r
      why (laws.missing _) = stuck

  says-store-maps : (a maps : List ℕ) (n : ℕ) → Says R (store_maps a maps n)
  unfolding store_maps
  says-store-maps a maps zero = says-done
  says-store-maps a maps (suc n) = says_then (says-store-maps a maps n) λ d. says-put _ _ _ _

  pub goes-meta : (s : Fs) → Sane R s → Goes R (sync_meta s)
  unfolding sync_meta
  goes-meta s h = ok-bind h λ m _. ok-bind (says-put _ _ _ _) λ a _. ok-bind (says-store-maps _ _ _) λ d _. went h

  goes-group : (s : Fs) (m : Meta) → Goes R (add_group s m)
  unfolding add_group
  goes-group s m =
      goes-guard (ltb m.super.groups 4) 17 space
      (goes-guard (ltb (m.super.blocks + 1024) 4294967296 && ltb (m.super.unused + 1023) 4294967296) 19 stuck
      (ok-bind (says-cut _ _ _) λ a _. went says-done))

  opens-alloc : (s : Fs) → Sane R s → Ok (λ (n : Allocated). Sane R n.state) R (alloc_block s)
  unfolding alloc_block take_bit
  opens-alloc s h =
      ok-bind h λ m _.
      ok-bind (goes-pick (ltb (first_bit m) (ids m)) (done s) (add_group s m) (went h) (goes-group s m)) λ u k.
      ok-bind k λ x _. goes-guard (ltb 0 x.super.unused) 19 stuck (went says-done)

  goes-free : (s : Fs) (id : ℕ) → Sane R s → Goes R (free_block s id)
  unfolding free_block
  goes-free s id h =
      ok-bind h λ m _. goes-guard (is_used m id) 19 stuck (goes-guard (ltb (m.super.unused + 1) 4294967296) 19 stuck (went says-done))

  -- ---- nodes

  goes-open : (s : Fs) (id : ℕ) (r : DiskINode) (dirty : Bool) (f : Option ℕ) → Sane R s → Opens R (open_in s id r dirty f)
  goes-open s id r dirty (Some i) h = went h
  goes-open s id r dirty None h = said stuck

  goes_load : (s : Fs) (id : ℕ) → Sane R s → Opens R (load_node s id)
  unfolding load_node
  goes_load s id h =
      ok-bind (says-read R stuck _ _ _ _) λ l _.
      goes-guard (leb (record_of l).kind 4) 19 stuck
      (goes-guard (there s.arena (node_file (record_of l))) 19 stuck (goes-open s id (record_of l) false (free_row s.table) h))

  goes_at : (s : Fs) (id : ℕ) (f : Option ℕ) → Sane R s → Opens R (open_at s id f)
  goes_at s id (Some i) h = went h
  goes_at s id None h = goes_load s id h

  pub goes-node : (s : Fs) (id : ℕ) → Sane R s → Opens R (get_node s id)
  unfolding get_node
  goes-node s id h = ok-bind h λ m _. goes-guard (is_used m id) 19 stuck (goes_at s id (row_of s.table id) h)

  pub goes-new : (s : Fs) (kind mode : ℕ) (time : Timespec) (name : List ℕ) → Sane R s → Opens R (new_node s kind mode time name)
  unfolding new_node
  goes-new s kind mode time name h =
      ok-bind (opens-alloc s h) λ n k.
      goes-guard (not (eqb n.id 0) && no_row (row_of n.state.table n.id)) 19 stuck
      (ok-bind (says-make space n.state.arena (file 1 name)) λ a _.
      goes-open (with_arena n.state a) n.id (new_record kind mode time name) true (free_row n.state.table) k)

  goes-store : (s : Fs) (i : ℕ) → Sane R s → Goes R (store_row s i)
  unfolding store_row
  goes-store s i h = ok-bind (says-put _ _ _ _) λ a _. went h

  pub goes-sync : (s : Fs) (i : ℕ) → Sane R s → Goes R (sync_row s i)
  unfolding sync_row
  goes-sync s i h = goes-pick (row_at s.table i).dirty (store_row s i) (done s) (goes-store s i h) (went h)

  goes-free-node : (s : Fs) (i : ℕ) → Sane R s → Goes R (free_node s i)
  unfolding free_node
  goes-free-node s i h =
      ok-bind (goes-free s _ h) λ u k. ok-bind (goes-meta u k) λ v l. ok-bind (says-drop _ _) λ a _. went l

  pub goes-drop : (s : Fs) (i : ℕ) → Sane R s → Goes R (drop_node s i)
  unfolding drop_node
  goes-drop s i h =
      ok-bind (goes-sync s i h) λ u k.
      ok-bind (goes-pick (eqb (rec_at u i).nlinks 0) (free_node u i) (done u) (goes-free-node u i k) (went k)) λ v l. went l

  pub goes-release : (s : Fs) (i : ℕ) → Sane R s → Goes R (release s i)
  unfolding release
  goes-release s i h = goes-pick (row_used s.table i) (done s) (drop_node s i) (went h) (goes-drop s i h)

  -- ---- folders

  pub goes-slot : (s : Fs) (i k : ℕ) (l : List ℕ) → Sane R s → Goes R (put_slot s i k l)
  unfolding put_slot
  goes-slot s i k l h = ok-bind (says-put _ _ _ _) λ a _. went h

  pub goes-init : (s : Fs) (i parent : ℕ) → Sane R s → Goes R (dirent_init s i parent)
  unfolding dirent_init
  goes-init s i parent h = ok-bind (goes-slot (set_rec s i (with_blocks (rec_at s i) 2)) i 0 _ h) λ u k. goes-slot u i 1 _ k

  pub goes-append : (s : Fs) (i : ℕ) (e : DiskEntry) → Sane R s → Goes R (dirent_append s i e)
  unfolding dirent_append
  goes-append s i e h = ok-bind (goes-slot s i _ _ h) λ u k. went k

  pub goes-remove : (s : Fs) (i k : ℕ) → Sane R s → Goes R (dirent_remove s i k)
  unfolding dirent_remove
  goes-remove s i k h =
      goes-guard (ltb 0 (rec_at s i).blocks) 19 stuck
      (ok-bind (says-slot-bytes R stuck _ _ _) λ l _.
      ok-bind (goes-pick (eqb k ((rec_at s i).blocks - 1)) (done s) (put_slot s i k l) (went h) (goes-slot s i k l h)) λ u g.
      ok-bind (says-cut _ _ _) λ a _. went g)

  pub goes-dec : (s : Fs) (i : ℕ) → Sane R s → Goes R (nlinks_dec s i)
  unfolding nlinks_dec
  goes-dec s i h = goes-guard (ltb 0 (rec_at s i).nlinks) 19 stuck (went h)

  goes-unlink-folder : (s : Fs) (i c : ℕ) → Sane R s → Goes R (unlink_folder s i c)
  unfolding unlink_folder
  goes-unlink-folder s i c h = ok-bind (goes-dec s c h) λ u k. goes-dec u i k

  pub goes-node-remove : (s : Fs) (i c k : ℕ) → Sane R s → Goes R (dirent_node_remove s i c k)
  unfolding dirent_node_remove
  goes-node-remove s i c k h =
      ok-bind (goes-remove s i k h) λ u g.
      ok-bind (goes-dec u c g) λ v l.
      ok-bind (goes-pick (is_folder (rec_at v c).kind) (unlink_folder v i c) (done v) (goes-unlink-folder v i c l) (went l)) λ w m.
      goes-release w c m

pub goes-inc : {R : ℕ → Type 0} → R 15 → (s : Fs) (i : ℕ) → Sane R s → Goes R (nlinks_inc s i)
unfolding nlinks_inc
goes-inc many s i h = goes-guard (ltb (rec_at s i).nlinks 65535) 15 many (went h)

-- ---- a file's own bytes

pub says-contents : {R : ℕ → Type 0} → R 19 → R 21 → (r : DiskINode) → Says R (has_contents r)
unfolding has_contents
says-contents stuck none r = says_then (says-ensure (leb r.kind 4) 19 stuck) λ _. says-ensure (is_type r.kind && not (is_folder r.kind)) 21 none

pub says-bytes : {R : ℕ → Type 0} → R 19 → (a : List ℕ) (f : File) (place n : ℕ) → Says R (read_bytes a f place n)
unfolding read_bytes
says-bytes stuck a f place n = says-guard (there a f) 19 stuck says-done

-- an end that is in range, or 22
pub says-end : {R : ℕ → Type 0} → R 22 → (end : ℕ) → Ok (λ _. end ≤ longest) R (not_too_big end)
says-end {R} big end = go (leb end longest) refl
  where
    go : (b : Bool) → leb end longest ≡ b → Ok (λ _. end ≤ longest) R (ensure b 22)
    go true e = went (leb-true end longest e)
    go false e = said big

-- in range a length needs no block
pub says-resize : {R : ℕ → Type 0} → R 19 → (s : Fs) (i n : ℕ) → n ≤ longest → Says R (resize_steps s i n)
unfolding resize_steps
says-resize {R} stuck s i n l = says_then (ok-weaken (λ a _. tt) (λ r e. why e) (cut-law s.arena (node_file (rec_at s i)) n)) λ a. says-done
  where
    why : {r : ℕ} → CutRefused s.arena (node_file (rec_at s i)) n r → R r
    why (laws.missing _) = stuck
    why (laws.far _ g) = absurd (omega arith)

pub says_write : {R : ℕ → Type 0} → R 17 → R 19 → (s : Fs) (i place : ℕ) (bytes : List ℕ) → place + length bytes ≤ longest → Says R (write_steps s i place bytes)
unfolding write_steps
says_write {R} space stuck s i place bytes l =
    says_then (says-put R space stuck _ _ _ _) λ a.
    says-pick (ltb (rec_at s i).size (place + length bytes)) (resize_steps (with_arena s a) i (place + length bytes)) (done (with_arena s a)) (says-resize stuck (with_arena s a) i (place + length bytes) l) says-done

-- ---- what every call asks first

module _ {R : ℕ → Type 0} (one : R 1) (two : R 2) where
  pub says-arena : (a : List ℕ) → Says R (admit_arena a)
  unfolding admit_arena
  says-arena a = says_then (says-ensure (legal a) 1 one) λ _. says-ensure (sound a) 2 two

  pub says-admit : R 3 → (a : List ℕ) (t : Table) → Says R (admit a t)
  unfolding admit
  says-admit three a t = says_then (says-arena a) λ _. says-ensure (well_formed t) 3 three

pub says-live : {R : ℕ → Type 0} → R 19 → R 7 → R 8 → (r : DiskINode) → Says R (live_folder r)
unfolding live_folder
says-live stuck seven eight r =
    says_then (says-ensure (is_type r.kind) 19 stuck) λ _.
    says_then (says-ensure (is_folder r.kind) 7 seven) λ _. says-ensure (ltb 0 r.nlinks) 8 eight

pub says-exists : {R : ℕ → Type 0} → R 12 → (f : Option ℕ) → Says R (or_exists f)
says-exists twelve (Some k) = said twelve
says-exists twelve None = says-done
