-- Every slot of a folder can be read.
use mathlib.Core.Bool.{true}
use mathlib.Core.Path.{◌≡◌, refl, sym, ap, ◌∙◌}
use mathlib.Core.List.{List, [], ◌∷◌}
use mathlib.Core.Logic.{⊎_elim}
use Prim.Native.Nat.{ℕ, zero, suc, ◌+◌, ◌*◌, ◌≤◌, ◌<◌}
use native.Mathlib.Omega.{arith}
use lib.ListN.{length, get_or-eq_default}
use lib.Seq.{length-take-le}
use Rattle.base.specs.Out.{done}
use Rattle.base.proofs.Numbers.{lt-or-le}
use Rattle.base.proofs.Lists.{length-tab, get_or-tab}
use Rattle.base.proofs.Tests.{decides-leb}
use Rattle.base.proofs.Sames.{decided-yes}
use Rattle.le.specs.Le.{Bytes}
use Rattle.structs.specs.Layout.{entry_of}
use Rattle.structs.proofs.Layouts.{entry_of-fits}
use Rattle.structs.specs.declared.DiskINode.{DiskINode}
use Rattle.structs.specs.declared.DiskEntry.{DiskEntry}
use Rattle.utf8.specs.Utf8.{within, lead, tail, step, after, utf8}
use Rattle.utf8.specs.Names.{name_of, zero_at, stored_name}
use Rattle.utf8.proofs.Names.{zero_at-le, stored-ended, stored_is}
use Rattle.table.specs.declared.Table.{Table}
use Rattle.arena.specs.Fields.{File}
use Rattle.files.specs.Read.{byte_at, read_file}
use Rattle.files.proofs.Runs.{read_done}
use Rattle.files_laws.proofs.Bounds.{byte_fits}
use Rattle.sefs.specs.Nodes.{node_file}
use Rattle.sefs.specs.Slots.{is_ended, slot_bytes, slot_at}
use Rattle.rules.specs.Image.{run, rec_of, is_folder_at, slot_in}
use Rattle.rules.specs.Rules.{Allowed, Folder, Later}
use Rattle.rules.proofs.Folders.{folder-node}

-- ---- slots

-- bytes of a file are bytes
pub run-bytes : (a : List ℕ) (f : File) (pos n : ℕ) → Bytes a → Bytes (run a f pos n)
run-bytes a f pos n b i =
    ⊎_elim
    (λ l. rw (get_or-tab (byte_at a f) pos n i l) (byte_fits a f (pos + i) b))
    (λ g. rw (get_or-eq_default (run a f pos n) 0 {n = i} (omega (arith, length-tab (byte_at a f) pos n))) (omega arith))
    (lt-or-le i n)

-- a stored name that is known to be short and good is ended
name-ended : (s n : List ℕ) → name_of s ≡ n → length n < length s → utf8 n ≡ true → is_ended (stored_name s) ≡ true
name-ended s n e l u =
    let z : zero_at s ≡ length n = sym (length-take-le (zero_at s) s (zero_at-le s)) ∙ ap length e in
    ap is_ended (stored-ended s (zero_at s) refl (omega arith) (ap utf8 e ∙ u))

dot_good : utf8 (46 ∷ []) ≡ true
unfolding within lead tail step after utf8
dot_good = refl

dots-good : utf8 (46 ∷ 46 ∷ []) ≡ true
unfolding within lead tail step after utf8
dots-good = refl

-- what a slot's bytes are
abbrev pub slot_run : List ℕ → DiskINode → ℕ → List ℕ
slot_run a r k = run a (node_file r) (264 * k) 264

-- slot k of a folder of the image can be read, and is named
pub record Readable (e : DiskEntry) : Type 0 where
  pub least : 1 ≤ e.kind
  pub most : e.kind ≤ 4
  pub ended : is_ended (stored_name e.name) ≡ true

module _ (a : List ℕ) (t : Table) (A : Allowed a t) (b : Bytes a) (id : ℕ) (f : is_folder_at a t id ≡ true) where
  abbrev r : DiskINode
  r = rec_of a t id

  F : Folder a t id
  F = A.rule6.folder id f

  -- a stored name, with the zeros after it, has 256 bytes
  pub name-long : (k : ℕ) → length (slot_in a (rec_of a t id) k).name ≡ 256
  unfolding slot_in
  name-long k = (entry_of-fits (slot_run a r k) (run-bytes a (node_file r) (264 * k) 264 b) (length-tab (byte_at a (node_file r)) (264 * k) 264)).name

  pub slot-fine : (k : ℕ) → k < r.blocks → Readable (slot_in a r k)
  slot-fine zero l = record {
    least = omega (arith, F.dot-kind);
    most = omega (arith, F.dot-kind);
    ended = name-ended (slot_in a r 0).name (46 ∷ []) F.dot (omega (arith, name-long 0)) dot_good;
  }
  slot-fine (suc zero) l = record {
    least = omega (arith, F.dots-kind);
    most = omega (arith, F.dots-kind);
    ended = name-ended (slot_in a r 1).name (46 ∷ 46 ∷ []) F.dots (omega (arith, name-long 1)) dots-good;
  }
  slot-fine (suc (suc j)) l =
      let L : Later a t (slot_in a r (suc (suc j))) = F.later (suc (suc j)) (omega arith) l in
      record {
        least = omega (arith, L.kind, A.rule5.least (slot_in a r (suc (suc j))).id L.node);
        most = omega (arith, L.kind, A.rule5.most (slot_in a r (suc (suc j))).id L.node);
        ended = ap is_ended (stored_is (slot_in a r (suc (suc j))).name (zero_at (slot_in a r (suc (suc j))).name) L.ended);
      }

  pub slot-bytes-is : (k : ℕ) → k < r.blocks → slot_bytes a r k ≡ done (slot_run a r k)
  unfolding slot_bytes slot_in
  slot-bytes-is k l =
      let e : read_file a (node_file r) (264 * k) 264 ≡ done (slot_run a r k) =
      read_done a (node_file r) (264 * k) 264 (A.rule5.own id (folder-node a t id f)) (omega (arith, F.length)) in
      rw (e, decided-yes (decides-leb (entry_of (slot_run a r k)).kind 4) (slot-fine k l).most)

  pub slot_is : (k : ℕ) → k < r.blocks → slot_at a r k ≡ done (slot_in a r k)
  unfolding slot_at slot_in
  slot_is k l = rw (slot-bytes-is k l, (slot-fine k l).ended)
