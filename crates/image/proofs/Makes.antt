-- A node is made: it has an id that was no node's and that no row has, an empty file, and a row with its record, dirty. 17 is the one reason.
use mathlib.Core.Path.{◌≡◌, refl, sym, ap, ◌∙◌, subst}
use mathlib.Core.Bool.{true, false, not, ◌&&◌}
use mathlib.Core.List.{List}
use mathlib.Core.Logic.{◌≢◌}
use Prim.Native.Nat.{ℕ, ◌*◌, ◌<◌}
use lib.Dec.{eqb}
use lib.ListN.{length}
use borrow.Author.Tests.{ne_eqb}
use Rattle.base.specs.Out.{done, bind, guard, Ok, went}
use Rattle.base.proofs.Outs.{ok-bind, ok-weaken}
use Rattle.base.proofs.Bools.{true-false}
use Rattle.base.proofs.Finds.{search-none}
use Rattle.std.specs.Prelude.{Some, None}
use Rattle.le.specs.Le.{Bytes}
use Rattle.structs.specs.declared.DiskINode.{DiskINode}
use Rattle.structs.specs.declared.Timespec.{Timespec}
use Rattle.arena.specs.Fields.{File, file}
use Rattle.sound.specs.Sound.{sound}
use Rattle.table.specs.Table.{row_at, is_row, row_of, free_row, take_row}
use Rattle.files.specs.Read.{there, length_of, byte_at}
use Rattle.files.specs.Store.{make_file}
use Rattle.files_laws.specs.Laws.{Named, Kept, Make, MakeRefused}
use Rattle.files_laws.proofs.Make.{make-law}
use Rattle.sefs.specs.State.{Fs, Meta, with_arena}
use Rattle.sefs.specs.Records.{new_record}
use Rattle.sefs.specs.Meta.{meta_file}
use Rattle.sefs.specs.Nodes.{Opened, open_in, no_row, new_node}
use Rattle.image.proofs.Metas.{kept_then, node-other}
use Rattle.image.proofs.Appends.{file-apart}
use Rattle.image.proofs.Allocs.{Sane, node_in, Taken, taken-new, Longer, alloc_law}
use Rattle.files_laws.specs.Laws as laws

-- ---- an arena in the middle: its metadata file has length n, and the bytes that it had in a

pub record Ground (a : List ℕ) (n : ℕ) (b : List ℕ) : Type 0 where
  pub size : length b ≡ length a
  pub bytes : Bytes b
  pub sound : sound b ≡ true
  pub exists : there b meta_file ≡ true
  pub long : length_of b meta_file ≡ n
  pub below : (p : ℕ) → p < length_of a meta_file → byte_at b meta_file p ≡ byte_at a meta_file p

-- it stays so where the metadata file is kept
pub ground-kept : (a : List ℕ) (n : ℕ) (b c : List ℕ) → Ground a n b → length c ≡ length b → Bytes c → sound c ≡ true → Kept b c meta_file → Ground a n c
ground-kept a n b c G s h k K = record {
  size = s ∙ G.size;
  bytes = h;
  sound = k;
  exists = K.exists ∙ G.exists;
  long = K.long ∙ G.long;
  below = λ p l. K.byte p ∙ G.below p l;
}

-- ---- the step

pub record Makes (s : Fs) (m : Meta) (r : DiskINode) (o : Opened) : Type 0 where
  pub arena : List ℕ
  pub meta : Meta
  pub id : ℕ
  pub is : o.state ≡ record { arena = arena; table = take_row s.table o.row id r true; meta = done meta }
  pub free : free_row s.table ≡ Some o.row
  pub none : row_of s.table id ≡ None
  pub taken : Taken m meta id
  pub ground : Ground s.arena (131072 * meta.super.groups) arena
  pub exists : there arena (file 1 r.file) ≡ true
  pub empty : length_of arena (file 1 r.file) ≡ 0
  pub others : (f : List ℕ) → f ≢ r.file → Kept s.arena arena (file 1 f)

make-file : (a : List ℕ) (f : File) → Named f → Ok (Make a f) (λ r. r ≡ 17) (make_file a f)
make-file a f N = ok-weaken (λ b M. M) (λ r q. why q) (make-law a f N)
  where
    why : {r : ℕ} → MakeRefused a r → r ≡ 17
    why (laws.full _) = refl

module _ (s : Fs) (m : Meta) (known : s.meta ≡ done m) (S : Sane m) (exists : there s.arena meta_file ≡ true) (long : length_of s.arena meta_file ≡ 131072 * m.super.groups)
    (bytes : Bytes s.arena) (fine : sound s.arena ≡ true)
    (nodes : (j : ℕ) → j < 34 → (row_at s.table j).id ≢ 0 → node_in m (row_at s.table j).id ≡ true)
    (i : ℕ) (free : free_row s.table ≡ Some i)
    (name : List ℕ) (N : Named (file 1 name)) (new : there s.arena (file 1 name) ≡ false) where
  -- an id that is taken has no row
  no-row : (n : Meta) (id : ℕ) → Taken m n id → row_of s.table id ≡ None
  unfolding row_of
  no-row n id K =
      sym (search-none (is_row s.table id) 34 (λ j l. ne_eqb (row_at s.table j).id id (λ e.
      true-false (ap (node_in m) (sym e) ∙ nodes j l (λ z. K.some (sym e ∙ z))) (taken-new m n id K))))

  made : (n : Meta) (id : ℕ) (r : DiskINode) → r.file ≡ name → Taken m n id → (b : List ℕ) → Longer s.arena b (131072 * n.super.groups) → (c : List ℕ) → Make b (file 1 name) c
      → Makes s m r (record { state = record { arena = c; table = take_row s.table i id r true; meta = done n }; row = i })
  made n id r q K b L c M =
      let w : there b (file 1 name) ≡ false = (L.files name).exists ∙ new in
      let o : Kept b c meta_file = M.others meta_file (λ e. node-other name (sym e)) in
      record {
        arena = c;
        meta = n;
        id = id;
        is = refl;
        free = free;
        none = no-row n id K;
        taken = K;
        ground = ground-kept s.arena (131072 * n.super.groups) b c
            (record { size = L.size; bytes = L.bytes bytes; sound = L.keeps bytes fine; exists = L.exists; long = L.long; below = L.below })
            M.size (M.bytes (L.bytes bytes)) (M.keeps (L.bytes bytes) (L.keeps bytes fine) w) o;
        exists = ap (λ (f : List ℕ). there c (file 1 f)) q ∙ M.exists;
        empty = ap (λ (f : List ℕ). length_of c (file 1 f)) q ∙ M.long w;
        others = λ f d. kept_then s.arena b c (file 1 f) (L.files f) (M.others (file 1 f) (file-apart name f (λ e. d (sym (q ∙ e)))));
      }

  pub new-node-law : (kind mode : ℕ) (time : Timespec) → Ok (Makes s m (new_record kind mode time name)) (λ r. r ≡ 17) (new_node s kind mode time name)
  unfolding new_node
  new-node-law kind mode time =
      ok-bind (alloc_law s m known S exists long) λ x A.
      subst (λ (y : Fs). Ok (Makes s m (new_record kind mode time name)) (λ r. r ≡ 17)
      (guard (not (eqb x.id 0) && no_row (row_of y.table x.id)) 19 (bind (make_file y.arena (file 1 name)) (λ a. open_in (with_arena y a) x.id (new_record kind mode time name) true (free_row y.table)))))
      (sym A.is)
      (rw (ne_eqb x.id 0 A.taken.some, no-row A.meta x.id A.taken)
      (ok-bind (make-file A.arena (file 1 name) N) λ c M.
      rw free (went (made A.meta x.id (new_record kind mode time name) refl A.taken A.arena A.longer c M))))
