-- Format on an arena of zeros: eight stores, each with room, and what the arena is then.
use mathlib.Core.Path.{◌≡◌, refl, sym, ap, ◌∙◌, subst}
use mathlib.Core.Bool.{true, false, not}
use mathlib.Core.List.{List, [], ◌∷◌}
use mathlib.Core.Logic.{◌≢◌, ⊎_elim}
use Prim.Native.Nat.{ℕ, ◌+◌, ◌/◌, ◌≤◌}
use native.Mathlib.Omega.{arith}
use lib.ListN.{length, length-replicate}
use Rattle.base.specs.Out.{done, bind}
use Rattle.base.proofs.Counts.{count_to-le}
use Rattle.base.proofs.Lists.{tab-cong}
use Rattle.base.proofs.Parts.{part-whole}
use Rattle.le.specs.Le.{Bytes}
use Rattle.structs.specs.Constants.{type_dir}
use Rattle.structs.specs.Layout.{super_bytes, record_bytes, entry_bytes}
use Rattle.structs.proofs.Layouts.{length-super_bytes, super_bytes-bytes, length-record_bytes, record_bytes-bytes, length-entry_bytes, entry_bytes-bytes}
use Rattle.structs.specs.declared.DiskEntry.{DiskEntry}
use Rattle.structs.specs.declared.DiskINode.{DiskINode}
use Rattle.structs.specs.declared.Timespec.{Timespec}
use Rattle.arena.specs.Fields.{File, file}
use Rattle.arena.specs.Places.{free_count}
use Rattle.sound.specs.Sound.{sound}
use Rattle.files.specs.Read.{there, length_of, present, byte_at}
use Rattle.files.specs.Store.{longest, touched, put_file, cut_file, make_file}
use Rattle.files_laws.specs.Laws.{Named, Put, Cut, Make, Kept, lacking}
use Rattle.files_laws.proofs.Put.{put-done}
use Rattle.files_laws.proofs.Cut.{cut-done}
use Rattle.files_laws.proofs.Make.{make-done}
use Rattle.files_laws.proofs.Bounds.{named-meta}
use Rattle.files_laws.proofs.Parts.{file-cases}
use Rattle.files_laws.proofs.Views.{kept_next}
use Rattle.sefs.specs.Records.{new_record, with_links, with_blocks}
use Rattle.sefs.specs.Meta.{meta_file, store_maps, sync_meta}
use Rattle.sefs.specs.Nodes.{store_row, sync_row}
use Rattle.sefs.specs.Folders.{entry, put_slot, dirent_init, nlinks_inc}
use Rattle.sefs.specs.Create.{format_steps}
use Rattle.rules.specs.Image.{run, slot_in}
use Rattle.image.proofs.Zeros.{zero_arena, zero-bytes, zero-sound, zero-none, zero-free}
use Rattle.image.proofs.Metas.{node-other, put-run}
use Rattle.image.proofs.Appends.{slot_kept, put-long, slot-before, slot-new}
use Rattle.image.proofs.Inits.{dot-fits, dots-fits}
use Rattle.image.proofs.Roots.{root_map, length-root_map, root_map-bytes, root_super, new-root}

-- the root's record and its two slots
abbrev pub root_record : Timespec → List ℕ → DiskINode
root_record time name = with_links (with_blocks (new_record type_dir 493 time name) 2) 2

abbrev pub dot_slot : DiskEntry
dot_slot = entry 2 (46 ∷ []) type_dir

abbrev pub dots_slot : DiskEntry
dots_slot = entry 2 (46 ∷ 46 ∷ []) type_dir

-- ---- the stores of format, in their order

module _ (z a b c d e f g h : List ℕ) (time : Timespec) (name : List ℕ)
    (e1 : make_file z meta_file ≡ done a)
    (e2 : cut_file a meta_file 131072 ≡ done b)
    (e3 : make_file b (file 1 name) ≡ done c)
    (e4 : put_file c (file 1 name) 0 (entry_bytes dot_slot) ≡ done d)
    (e5 : put_file d (file 1 name) 264 (entry_bytes dots_slot) ≡ done e)
    (e6 : put_file e meta_file 0 (super_bytes root_super) ≡ done f)
    (e7 : put_file f meta_file 128 root_map ≡ done g)
    (e8 : put_file g meta_file 256 (record_bytes (root_record time name)) ≡ done h) where
  steps-are : bind (format_steps z time name) (λ s. done s.arena) ≡ done h
  unfolding format_steps dirent_init put_slot nlinks_inc sync_meta store_maps sync_row store_row
  steps-are = rw (e1, e2, new-root b c time name e3, e4, e5, e6, part-whole root_map 128 length-root_map, e7, e8)

-- ---- one store: room, and what it leaves of the files

module _ (a : List ℕ) (f : File) (pos n : ℕ) (src : List ℕ) (long : length src ≡ n) where
  -- it needs no more blocks than it touches
  few : lacking a f pos (length src) ≤ touched pos n
  unfolding lacking
  few = subst (λ (k : ℕ). lacking a f pos (length src) ≤ touched pos k) long (count_to-le (λ i. not (present a f (pos / 480 + i))) (touched pos (length src)))

  -- it can be done where as many blocks are free as it touches
  put-goes : there a f ≡ true → pos + n ≤ longest → touched pos n ≤ free_count a → (b : List ℕ) × (put_file a f pos src ≡ done b) × Put a f pos src b
  put-goes y l room = put-done a f pos src y (omega (arith, long)) (omega (arith, few))

  module _ (b : List ℕ) (P : Put a f pos src b) where
    -- what it leaves free
    free-left : free_count a ≤ free_count b + touched pos n
    free-left = omega (arith, few, P.free)

    -- the same files are there
    there-same : (g : File) → there b g ≡ there a g
    there-same g =
        ⊎_elim (λ (e : f ≡ g). subst (λ (x : File). there b x ≡ there a x) e (P.exists ∙ sym P.was)) (λ d. (P.others g d).exists) (file-cases f g)

    -- bytes before it are as they were
    put-before : (q m : ℕ) → q + m ≤ pos → run b f q m ≡ run a f q m
    put-before q m l = tab-cong (byte_at b f) (byte_at a f) q q m (λ i k. P.outside (q + i) (λ g. absurd (omega arith)))

-- ---- a fresh image: what its files are

pub record Made (n : ℕ) (time : Timespec) (name b : List ℕ) : Type 0 where
  pub size : length b ≡ n
  pub bytes : Bytes b
  pub sound : sound b ≡ true
  pub super : run b meta_file 0 16 ≡ super_bytes root_super
  pub maps : run b meta_file 128 128 ≡ root_map
  pub stored : run b meta_file 256 112 ≡ record_bytes (root_record time name)
  pub end : length_of b meta_file ≡ 131072
  pub own : there b (file 1 name) ≡ true
  pub long : length_of b (file 1 name) ≡ 528
  pub dot : slot_in b (root_record time name) 0 ≡ dot_slot
  pub dots : slot_in b (root_record time name) 1 ≡ dots_slot
  pub others : (f : List ℕ) → f ≢ name → there b (file 1 f) ≡ false

-- what holds after each store once both files are there: k blocks or more are free
record Partway (n k : ℕ) (name a : List ℕ) : Type 0 where
  size : length a ≡ n
  bytes : Bytes a
  sound : sound a ≡ true
  room : k ≤ free_count a
  meta : there a meta_file ≡ true
  node : there a (file 1 name) ≡ true
  others : (f : List ℕ) → f ≢ name → there a (file 1 f) ≡ false

-- a store of that kind that is done
record Stored (n k : ℕ) (name a : List ℕ) (f : File) (pos : ℕ) (src : List ℕ) : Type 0 where
  to : List ℕ
  is : put_file a f pos src ≡ done to
  put : Put a f pos src to
  partway : Partway n k name to

module _ (n j k : ℕ) (name a : List ℕ) (B : Partway n (j + k) name a) (f : File) (pos m : ℕ) (src : List ℕ) (long : length src ≡ m) (t : touched pos m ≤ j) (h : Bytes src) where
  partway-put : (b : List ℕ) → Put a f pos src b → Partway n k name b
  partway-put b P = record {
    size = P.size ∙ B.size;
    bytes = P.bytes B.bytes h;
    sound = P.keeps B.bytes h B.sound;
    room = omega (arith, B.room, free-left a f pos m src long b P);
    meta = there-same a f pos m src long b P meta_file ∙ B.meta;
    node = there-same a f pos m src long b P (file 1 name) ∙ B.node;
    others = λ g d. there-same a f pos m src long b P (file 1 g) ∙ B.others g d;
  }

  partway-goes : there a f ≡ true → pos + m ≤ longest → Stored n k name a f pos src
  partway-goes y l = let x = put-goes a f pos m src long y l (omega (arith, B.room)) in record { to = x.0; is = x.1; put = x.2; partway = partway-put x.0 x.2 }

module _ (n : ℕ) (enough : 16 ≤ n / 512) (time : Timespec) (name : List ℕ) (N : Named (file 1 name)) where
  abbrev z : List ℕ
  z = zero_arena n

  abbrev node : File
  node = file 1 name

  -- ---- the two files are made

  module _ (a b c : List ℕ) (A : Make z meta_file a) (B : Cut a meta_file 131072 b) where
    no-file : (f : List ℕ) → there b (file 1 f) ≡ false
    no-file f = (B.others (file 1 f) (node-other f)).exists ∙ (A.others (file 1 f) (node-other f)).exists ∙ zero-none n (file 1 f)

    module _ (C : Make b node c) where
      meta-kept : Kept b c meta_file
      meta-kept = C.others meta_file (λ e. node-other name (sym e))

      partway : Partway n 14 name c
      partway = record {
        size = C.size ∙ B.size ∙ A.size ∙ length-replicate {A = ℕ} n 0;
        bytes = C.bytes (B.bytes (A.bytes (zero-bytes n)));
        sound = C.keeps (B.bytes (A.bytes (zero-bytes n))) (B.keeps (A.bytes (zero-bytes n)) (A.keeps (zero-bytes n) (zero-sound n) (zero-none n meta_file))) (no-file name);
        room = omega (arith, C.free, B.free, A.free, zero-free n, length-replicate {A = ℕ} n 0);
        meta = meta-kept.exists ∙ B.exists;
        node = C.exists;
        others = λ f d. (C.others (file 1 f) (λ e. d (sym (ap (λ (g : File). g.name) e)))).exists ∙ no-file f;
      }

      partway_end : length_of c meta_file ≡ 131072
      partway_end = meta-kept.long ∙ B.long

      partway-empty : length_of c node ≡ 0
      partway-empty = C.long (no-file name)

  -- ---- what is put

  record-long : length (record_bytes (root_record time name)) ≡ 112
  record-long = length-record_bytes (root_record time name) N.size named-meta.size

  record-bytes : Bytes (record_bytes (root_record time name))
  record-bytes = record_bytes-bytes (root_record time name) N.bytes named-meta.bytes

  dot-long : length (entry_bytes dot_slot) ≡ 264
  dot-long = length-entry_bytes dot_slot (dot-fits 2 (omega arith)).name

  dot-bytes : Bytes (entry_bytes dot_slot)
  dot-bytes = entry_bytes-bytes dot_slot (dot-fits 2 (omega arith)).name_bytes

  dots-long : length (entry_bytes dots_slot) ≡ 264
  dots-long = length-entry_bytes dots_slot (dots-fits 2 (omega arith)).name

  dots-bytes : Bytes (entry_bytes dots_slot)
  dots-bytes = entry_bytes-bytes dots_slot (dots-fits 2 (omega arith)).name_bytes

  -- ---- what it leaves: slots, superblock, map and record

  module _ (c d e f g h : List ℕ) (end : length_of c meta_file ≡ 131072) (empty : length_of c node ≡ 0) (S : Partway n 14 name c)
      (D : Put c node 0 (entry_bytes dot_slot) d)
      (E : Put d node 264 (entry_bytes dots_slot) e)
      (F : Put e meta_file 0 (super_bytes root_super) f)
      (G : Put f meta_file 128 root_map g)
      (H : Put g meta_file 256 (record_bytes (root_record time name)) h) where
    node_kept : Kept e h node
    node_kept = kept_next (kept_next (F.others node (node-other name)) (G.others node (node-other name))) (H.others node (node-other name))

    meta-before : Kept c e meta_file
    meta-before = kept_next (D.others meta_file (λ q. node-other name (sym q))) (E.others meta_file (λ q. node-other name (sym q)))

    slot_same : (k : ℕ) → slot_in h (root_record time name) k ≡ slot_in e (root_record time name) k
    slot_same = slot_kept e h (root_record time name) (root_record time name) refl node_kept

    made : Partway n 8 name h → Made n time name h
    made B = record {
      size = B.size;
      bytes = B.bytes;
      sound = B.sound;
      super = put-before g meta_file 256 112 _ record-long h H 0 16 (omega arith) ∙ put-before f meta_file 128 128 root_map length-root_map g G 0 16 (omega arith) ∙ put-run e f meta_file 0 16 _ (length-super_bytes root_super) F;
      maps = put-before g meta_file 256 112 _ record-long h H 128 128 (omega arith) ∙ put-run f g meta_file 128 128 root_map length-root_map G;
      stored = put-run g h meta_file 256 112 _ record-long H;
      end = H.long ∙ omega (arith, G.long, F.long, meta-before.long, end, record-long, length-root_map, length-super_bytes root_super);
      own = B.node;
      long = node_kept.long ∙ put-long d name 1 dots_slot (dots-fits 2 (omega arith)) D.exists e E (put-long c name 0 dot_slot (dot-fits 2 (omega arith)) S.node d D empty);
      dot = slot_same 0 ∙ slot-before d name 1 dots_slot (dots-fits 2 (omega arith)) D.exists e E (root_record time name) (root_record time name) refl refl 0 (omega arith)
          ∙ slot-new c name 0 dot_slot (dot-fits 2 (omega arith)) S.node d D (root_record time name) refl;
      dots = slot_same 1 ∙ slot-new d name 1 dots_slot (dots-fits 2 (omega arith)) D.exists e E (root_record time name) refl;
      others = B.others;
    }

  -- ---- each store has room

  -- the first three are done
  record Started : Type 0 where
    first : List ℕ
    second : List ℕ
    third : List ℕ
    one : make_file z meta_file ≡ done first
    two : cut_file first meta_file 131072 ≡ done second
    three : make_file second node ≡ done third
    is-partway : Partway n 14 name third
    end : length_of third meta_file ≡ 131072
    empty : length_of third node ≡ 0

  started : Started
  started =
      let x = make-done z meta_file named-meta (omega (arith, zero-free n, length-replicate {A = ℕ} n 0)) in
      let y = cut-done x.0 meta_file 131072 x.2.exists (omega arith) in
      let w = make-done y.0 node N (omega (arith, zero-free n, length-replicate {A = ℕ} n 0, x.2.free, y.2.free)) in
      record {
        first = x.0;
        second = y.0;
        third = w.0;
        one = x.1;
        two = y.1;
        three = w.1;
        is-partway = partway x.0 y.0 w.0 x.2 y.2 w.2;
        end = partway_end x.0 y.0 w.0 x.2 y.2 w.2;
        empty = partway-empty x.0 y.0 w.0 x.2 y.2 w.2;
      }

  -- and the five puts, each with as many blocks left as the next ones touch
  put-dot : (a : List ℕ) → Partway n 14 name a → Stored n 13 name a node 0 (entry_bytes dot_slot)
  unfolding touched
  put-dot a B = partway-goes n 1 13 name a B node 0 264 (entry_bytes dot_slot) dot-long (omega arith) dot-bytes B.node (omega arith)

  put-dots : (a : List ℕ) → Partway n 13 name a → Stored n 11 name a node 264 (entry_bytes dots_slot)
  unfolding touched
  put-dots a B = partway-goes n 2 11 name a B node 264 264 (entry_bytes dots_slot) dots-long (omega arith) dots-bytes B.node (omega arith)

  put-super : (a : List ℕ) → Partway n 11 name a → Stored n 10 name a meta_file 0 (super_bytes root_super)
  unfolding touched
  put-super a B = partway-goes n 1 10 name a B meta_file 0 16 (super_bytes root_super) (length-super_bytes root_super) (omega arith) (super_bytes-bytes root_super) B.meta (omega arith)

  put_map : (a : List ℕ) → Partway n 10 name a → Stored n 9 name a meta_file 128 root_map
  unfolding touched
  put_map a B = partway-goes n 1 9 name a B meta_file 128 128 root_map length-root_map (omega arith) root_map-bytes B.meta (omega arith)

  put_record : (a : List ℕ) → Partway n 9 name a → Stored n 8 name a meta_file 256 (record_bytes (root_record time name))
  unfolding touched
  put_record a B = partway-goes n 1 8 name a B meta_file 256 112 (record_bytes (root_record time name)) record-long (omega arith) record-bytes B.meta (omega arith)

  -- so format is done
  pub format-done : (h : List ℕ) × (bind (format_steps (zero_arena n) time name) (λ s. done s.arena) ≡ done h) × Made n time name h
  format-done =
      let S = started in
      let D = put-dot S.third S.is-partway in
      let E = put-dots D.to D.partway in
      let F = put-super E.to E.partway in
      let G = put_map F.to F.partway in
      let H = put_record G.to G.partway in (
        H.to,
        steps-are z S.first S.second S.third D.to E.to F.to G.to H.to time name S.one S.two S.three D.is E.is F.is G.is H.is,
        made S.third D.to E.to F.to G.to H.to S.end S.empty S.is-partway D.put E.put F.put G.put H.put H.partway,
      )
