-- A folder's first two slots are put into a file that is empty: `.` with its own id, `..` with its parent's. 17 is the one reason.
use mathlib.Core.Path.{◌≡◌, refl, sym, ◌∙◌, subst}
use mathlib.Core.Bool.{true}
use mathlib.Core.List.{List, [], ◌∷◌}
use mathlib.Core.Logic.{◌≢◌}
use Prim.Native.Nat.{ℕ, zero, suc, ◌*◌, ◌^◌, ◌<◌}
use native.Mathlib.Omega.{arith}
use lib.ListN.{length, get_or}
use Rattle.base.specs.Out.{Ok, went, bind, done}
use Rattle.base.specs.Search.{lowest}
use Rattle.base.proofs.Outs.{ok-bind, ok-weaken}
use Rattle.le.specs.Le.{Bytes}
use Rattle.structs.specs.Constants.{type_dir}
use Rattle.structs.specs.Fits.{EntryFits}
use Rattle.structs.specs.Layout.{entry_bytes}
use Rattle.structs.specs.declared.DiskEntry.{DiskEntry}
use Rattle.structs.specs.declared.DiskINode.{DiskINode}
use Rattle.utf8.specs.Utf8.{within, lead, tail, step, after, utf8}
use Rattle.utf8.specs.Names.{zero_at, has_zero, has_slash, name_of, name_bytes, name_verdict}
use Rattle.utf8.proofs.Names.{name_of-name_bytes}
use Rattle.arena.specs.Fields.{File, file}
use Rattle.sound.specs.Sound.{sound}
use Rattle.table.specs.declared.Row.{Row}
use Rattle.table.specs.Table.{row_at}
use Rattle.table_laws.proofs.Rows.{row_here}
use Rattle.files.specs.Read.{there, length_of}
use Rattle.files.specs.Store.{put_file}
use Rattle.files_laws.specs.Laws.{Put, Kept}
use Rattle.sefs.specs.State.{Fs, with_arena}
use Rattle.sefs.specs.Records.{with_blocks}
use Rattle.sefs.specs.Nodes.{node_file, rec_at, id_at, set_rec}
use Rattle.sefs.specs.Folders.{entry, put_slot, dirent_init}
use Rattle.rules.specs.Image.{slot_in}
use Rattle.image.proofs.Metas.{kept_then}
use Rattle.image.proofs.Appends.{slot-put, entry-bytes, put-long, slot-before, slot-new}
use Rattle.image.proofs.NewNames.{good-name, entry-fits}

-- ---- the two names

pub dot-name : name_of (name_bytes (46 ∷ [])) ≡ 46 ∷ []
unfolding name_verdict has_zero has_slash zero_at lowest within lead tail step after utf8
dot-name = name_of-name_bytes (46 ∷ []) (good-name (46 ∷ []) refl).0 (omega arith)

pub dots-name : name_of (name_bytes (46 ∷ 46 ∷ [])) ≡ 46 ∷ 46 ∷ []
unfolding name_verdict has_zero has_slash zero_at lowest within lead tail step after utf8
dots-name = name_of-name_bytes (46 ∷ 46 ∷ []) (good-name (46 ∷ 46 ∷ []) refl).0 (omega arith)

-- their slots fit
pub dot-fits : (id : ℕ) → id < 2 ^ 32 → EntryFits (entry id (46 ∷ []) type_dir)
dot-fits id l = entry-fits id (46 ∷ []) type_dir l (omega arith) (omega arith) byte
  where
    byte : (i : ℕ) → get_or (46 ∷ []) i 0 < 256
    byte zero = omega arith
    byte (suc i) = omega arith

pub dots-fits : (id : ℕ) → id < 2 ^ 32 → EntryFits (entry id (46 ∷ 46 ∷ []) type_dir)
dots-fits id l = entry-fits id (46 ∷ 46 ∷ []) type_dir l (omega arith) (omega arith) byte
  where
    byte : (i : ℕ) → get_or (46 ∷ 46 ∷ []) i 0 < 256
    byte zero = omega arith
    byte (suc zero) = omega arith
    byte (suc (suc i)) = omega arith

-- ---- the slots

-- file f, empty before, has the two slots, and every other file is as it was
pub record Laid (a f : List ℕ) (id up : ℕ) (c : List ℕ) : Type 0 where
  pub size : length c ≡ length a
  pub bytes : Bytes a → Bytes c
  pub keeps : Bytes a → sound a ≡ true → sound c ≡ true
  pub exists : there c (file 1 f) ≡ true
  pub long : length_of c (file 1 f) ≡ 528
  pub dot : (r : DiskINode) → r.file ≡ f → slot_in c r 0 ≡ entry id (46 ∷ []) type_dir
  pub dots : (r : DiskINode) → r.file ≡ f → slot_in c r 1 ≡ entry up (46 ∷ 46 ∷ []) type_dir
  pub others : (g : File) → file 1 f ≢ g → Kept a c g

module _ (a f : List ℕ) (id up : ℕ) (own : id < 2 ^ 32) (small : up < 2 ^ 32) (was : there a (file 1 f) ≡ true) (none : length_of a (file 1 f) ≡ 0) where
  abbrev e : DiskEntry
  e = entry id (46 ∷ []) type_dir

  abbrev g : DiskEntry
  g = entry up (46 ∷ 46 ∷ []) type_dir

  E : EntryFits e
  E = dot-fits id own

  G : EntryFits g
  G = dots-fits up small

  laid : (b : List ℕ) → Put a (file 1 f) (264 * 0) (entry_bytes e) b → (c : List ℕ) → Put b (file 1 f) (264 * 1) (entry_bytes g) c → Laid a f id up c
  laid b P c Q =
      let x : Bytes (entry_bytes e) = entry-bytes a f 0 e E was in
      let y : Bytes (entry_bytes g) = entry-bytes b f 1 g G P.exists in
      record {
        size = Q.size ∙ P.size;
        bytes = λ h. Q.bytes (P.bytes h x) y;
        keeps = λ h k. Q.keeps (P.bytes h x) y (P.keeps h x k);
        exists = Q.exists;
        long = put-long b f 1 g G P.exists c Q (put-long a f 0 e E was b P none);
        dot = λ r q. slot-before b f 1 g G P.exists c Q r r q q 0 (omega arith) ∙ slot-new a f 0 e E was b P r q;
        dots = λ r q. slot-new b f 1 g G P.exists c Q r q;
        others = λ h d. kept_then a b c h (P.others h d) (Q.others h d);
      }

-- ---- the step

-- what it leaves: the row says two slots, dirty, and its file has them
pub record Begun (s : Fs) (i up : ℕ) (d : Fs) : Type 0 where
  pub arena : List ℕ
  pub is : d ≡ with_arena (set_rec s i (with_blocks (rec_at s i) 2)) arena
  pub laid : Laid s.arena (rec_at s i).file (id_at s i) up arena

-- the two stores, in any state
slots-law : (s : Fs) (i up : ℕ) → id_at s i < 2 ^ 32 → up < 2 ^ 32 → there s.arena (node_file (rec_at s i)) ≡ true → length_of s.arena (node_file (rec_at s i)) ≡ 0
    → Ok (λ (d : Fs). (c : List ℕ) × (d ≡ with_arena s c) × Laid s.arena (rec_at s i).file (id_at s i) up c) (λ r. r ≡ 17)
    (bind (put_slot s i 0 (entry_bytes (entry (id_at s i) (46 ∷ []) type_dir))) (λ d. put_slot d i 1 (entry_bytes (entry up (46 ∷ 46 ∷ []) type_dir))))
unfolding put_slot
slots-law s i up own small was none =
    ok-bind {P = λ (x : Fs). (b : List ℕ) × (Put s.arena (node_file (rec_at s i)) (264 * 0) (entry_bytes (entry (id_at s i) (46 ∷ []) type_dir)) b) × (x ≡ with_arena s b)}
    (ok-bind (slot-put s.arena (rec_at s i).file 0 (entry (id_at s i) (46 ∷ []) type_dir) (dot-fits (id_at s i) own) was) λ b P. went (b, P, refl))
    λ x q. second x q.0 q.1 q.2
  where
    second : (x : Fs) (b : List ℕ) → Put s.arena (node_file (rec_at s i)) (264 * 0) (entry_bytes (entry (id_at s i) (46 ∷ []) type_dir)) b → x ≡ with_arena s b
        → Ok (λ (d : Fs). (c : List ℕ) × (d ≡ with_arena s c) × Laid s.arena (rec_at s i).file (id_at s i) up c) (λ r. r ≡ 17)
        (bind (put_file x.arena (node_file (rec_at x i)) (264 * 1) (entry_bytes (entry up (46 ∷ 46 ∷ []) type_dir))) (λ a. done (with_arena x a)))
    second x b P q =
        subst (λ (x : Fs). Ok (λ (d : Fs). (c : List ℕ) × (d ≡ with_arena s c) × Laid s.arena (rec_at s i).file (id_at s i) up c) (λ r. r ≡ 17)
        (bind (put_file x.arena (node_file (rec_at x i)) (264 * 1) (entry_bytes (entry up (46 ∷ 46 ∷ []) type_dir))) (λ a. done (with_arena x a)))) (sym q)
        (ok-bind (slot-put b (rec_at s i).file 1 (entry up (46 ∷ 46 ∷ []) type_dir) (dots-fits up small) P.exists) λ c Q.
        went (c, refl, laid s.arena (rec_at s i).file (id_at s i) up own small was none b P c Q))

pub init-law : (s : Fs) (i up : ℕ) → i < length s.table.rows → id_at s i < 2 ^ 32 → up < 2 ^ 32 → there s.arena (node_file (rec_at s i)) ≡ true
    → length_of s.arena (node_file (rec_at s i)) ≡ 0 → Ok (Begun s i up) (λ r. r ≡ 17) (dirent_init s i up)
unfolding dirent_init
init-law s i up inside own small was none =
    ok-weaken (λ d L. record { arena = L.0; is = L.1; laid = subst (λ (w : Row). Laid s.arena w.rec.file w.id up L.0) here L.2 }) (λ r e. e)
    (slots-law (set_rec s i (with_blocks (rec_at s i) 2)) i up
    (subst (λ (w : Row). w.id < 2 ^ 32) (sym here) own)
    small
    (subst (λ (w : Row). there s.arena (node_file w.rec) ≡ true) (sym here) was)
    (subst (λ (w : Row). length_of s.arena (node_file w.rec) ≡ 0) (sym here) none))
  where
    here : row_at (set_rec s i (with_blocks (rec_at s i) 2)).table i ≡ record { id = id_at s i; dirty = true; rec = with_blocks (rec_at s i) 2 }
    here = row_here s.table i (record { id = id_at s i; dirty = true; rec = with_blocks (rec_at s i) 2 }) inside
