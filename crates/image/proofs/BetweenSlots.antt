-- The first two steps of a move between folders: the slot is put at the end of the one and removed from the other.
use Rattle.tree.specs.Tree.{Spelling}
use mathlib.Core.Path.{◌≡◌, refl, sym, ap, ◌∙◌, subst}
use mathlib.Core.Bool.{true}
use mathlib.Core.List.{List}
use mathlib.Core.Logic.{◌≢◌}
use Prim.Native.Nat.{ℕ, ◌+◌, ◌*◌, ◌-◌, ◌≤◌, ◌<◌}
use native.Mathlib.Omega.{arith}
use Rattle.base.specs.Out.{done, Ok}
use Rattle.base.proofs.Outs.{ok-weaken}
use Rattle.structs.specs.Layout.{entry_bytes}
use Rattle.structs.specs.declared.DiskEntry.{DiskEntry}
use Rattle.arena.specs.Fields.{file}
use Rattle.table.specs.declared.Row.{Row}
use Rattle.table.specs.Table.{row_at, take_row}
use Rattle.files.specs.Read.{there}
use Rattle.files_laws.specs.Laws.{Put, Kept}
use Rattle.sefs.specs.State.{Fs, with_arena}
use Rattle.sefs.specs.Records.{with_blocks}
use Rattle.sefs.specs.Nodes.{node_file, rec_at, id_at, set_rec}
use Rattle.sefs.specs.Slots.{Slot, slot_bytes}
use Rattle.sefs.specs.Folders.{dirent_remove}
use Rattle.sefs.specs.Move.{Replaced, renamed}
use Rattle.rules.specs.Image.{run, rec_of}
use Rattle.image.proofs.Resets.{reset-apart}
use Rattle.image.proofs.Appends.{Appended, slot_kept, put_small}
use Rattle.image.proofs.Removes.{Gone, RemovedAt, remove-law}
use Rattle.image.proofs.Moving.{Moving, owns}
use Rattle.image.proofs.Movings.{slot_read, live-there, live-long, live-kind, moves-fits, moves-files}
use Rattle.tree.proofs.Trees.{at}
use Rattle.image.proofs.Counts.{Counts, counts-none, counts-blocks}
use Rattle.image.proofs.Carries.{Carried, put-bytes, put-sound, put-from, carried-slot}

-- the counts of slots before
abbrev pub slots_of : Fs → ℕ → ℕ
slots_of s x = (rec_of s.arena s.table x).blocks

abbrev pub links_of : Fs → ℕ → ℕ
links_of s x = (rec_of s.arena s.table x).nlinks

-- after both steps
pub record Carrying (own : ℕ → Type 0) (s : Fs) (i j : ℕ) (old : Slot) (name : List ℕ) (r : Replaced) (x : Fs) : Type 0 where
  pub files : Carried s.arena (rec_at s i).file ((rec_at s i).blocks - 1) old.place (rec_at s j).file (rec_at s j).blocks (rec_at s j).blocks ((rec_at s j).blocks + 1) (renamed old.entry name) x.arena
  pub rows : Counts (owns own r) s.arena s.table (at (id_at s i) ((rec_at s i).blocks - 1) (at (id_at s j) ((rec_at s j).blocks + 1) (slots_of s))) (links_of s) x.table
  pub meta : x.meta ≡ s.meta

module _ {style : Spelling} {own : ℕ → Type 0} (s : Fs) (i j : ℕ) (old : Slot) (name : List ℕ) (r : Replaced) (M : Moving style own s i j old name r) (apart : id_at s i ≢ id_at s j) where
  abbrev e : DiskEntry
  e = renamed old.entry name

  module _ (b : List ℕ) (P : Put s.arena (node_file (rec_at s j)) (264 * (rec_at s j).blocks) (entry_bytes (renamed old.entry name)) b) where
    -- after the first
    abbrev x1 : Fs
    x1 = set_rec (with_arena s b) j (with_blocks (rec_at s j) ((rec_at s j).blocks + 1))

    row-i : row_at x1.table i ≡ row_at s.table i
    row-i = reset-apart s.table M.mid.formed j M.to.used (with_blocks (rec_at s j) ((rec_at s j).blocks + 1)) i (λ q. apart (ap (λ (x : ℕ). id_at s x) q))

    is-i : there s.arena (file 1 (rec_at s i).file) ≡ true
    is-i = live-there s M.mid i M.from

    is-j : there s.arena (file 1 (rec_at s j).file) ≡ true
    is-j = live-there s M.mid j M.to

    below : old.place ≤ (rec_at s i).blocks - 1
    below = omega (arith, M.inside)

    B : Kept s.arena b (file 1 (rec_at s i).file)
    B = put-from s.arena (rec_at s i).file ((rec_at s i).blocks - 1) old.place (rec_at s j).file (rec_at s j).blocks e (moves-files s i j old name r M apart) M.mid.bytes M.mid.fair.rule1.sound
        is-i is-j (moves-fits s i j old name r M) (live-long s M.mid j M.to) below b P

    last : slot_bytes b (rec_at s i) ((rec_at s i).blocks - 1) ≡ done (run b (node_file (rec_at s i)) (264 * ((rec_at s i).blocks - 1)) 264)
    last =
        slot_read b (rec_at s i) ((rec_at s i).blocks - 1) (B.exists ∙ is-i) (omega (arith, B.long, live-long s M.mid i M.from, M.inside))
        (subst (λ (x : DiskEntry). x.kind ≤ 4) (sym (slot_kept s.arena b (rec_at s i) (rec_at s i) refl B ((rec_at s i).blocks - 1)))
        (live-kind s M.mid i M.from ((rec_at s i).blocks - 1) (omega (arith, M.later, M.inside)) (omega (arith, M.inside))))

    first : Counts (owns own r) s.arena s.table (at (id_at s j) ((rec_at s j).blocks + 1) (slots_of s)) (links_of s) x1.table
    first =
        counts-blocks s.arena s.table (slots_of s) (links_of s) s.table (counts-none s.arena s.table M.mid) j M.to.used ((rec_at s j).blocks + 1)
        (put_small s.arena (rec_at s j).file (rec_at s j).blocks e (moves-fits s i j old name r M) is-j b P)

    carries : (x : Fs) → RemovedAt x1 i old.place x → Carrying own s i j old name r x
    carries x R = subst (Carrying own s i j old name r) (sym R.is) (record {
      files = carried-slot s.arena (rec_at s i).file ((rec_at s i).blocks - 1) old.place (rec_at s j).file (rec_at s j).blocks e (moves-files s i j old name r M apart) M.mid.bytes M.mid.fair.rule1.sound
          is-i is-j (moves-fits s i j old name r M) (live-long s M.mid j M.to) below b P R.arena
          (subst (λ (y : Row). Gone b y.rec.file (y.rec.blocks - 1) old.place R.arena) row-i R.gone);
      rows = subst (λ (y : Row). Counts (owns own r) s.arena s.table (at (id_at s i) (y.rec.blocks - 1) (at (id_at s j) ((rec_at s j).blocks + 1) (slots_of s))) (links_of s)
          (take_row x1.table i (row_at x1.table i).id (with_blocks (row_at x1.table i).rec ((row_at x1.table i).rec.blocks - 1)) true)) row-i
          (counts-blocks s.arena s.table (at (id_at s j) ((rec_at s j).blocks + 1) (slots_of s)) (links_of s) x1.table first i M.from.used ((row_at x1.table i).rec.blocks - 1)
          (omega (arith, (first.fits.rows i M.from.used.below).rec.blocks)));
      meta = refl;
    })

    removes : Ok (Carrying own s i j old name r) (λ n. n ≡ 17) (dirent_remove x1 i old.place)
    removes =
        ok-weaken (λ x R. carries x R) (λ n q. q)
        (remove-law x1 i old.place (subst (λ (y : Row). old.place < y.rec.blocks) (sym row-i) M.inside)
        (put-bytes s.arena (rec_at s i).file ((rec_at s i).blocks - 1) old.place (rec_at s j).file (rec_at s j).blocks e (moves-files s i j old name r M apart) M.mid.bytes M.mid.fair.rule1.sound
        is-i is-j (moves-fits s i j old name r M) (live-long s M.mid j M.to) below b P)
        (put-sound s.arena (rec_at s i).file ((rec_at s i).blocks - 1) old.place (rec_at s j).file (rec_at s j).blocks e (moves-files s i j old name r M apart) M.mid.bytes M.mid.fair.rule1.sound
        is-i is-j (moves-fits s i j old name r M) (live-long s M.mid j M.to) below b P)
        (subst (λ (y : Row). there b (node_file y.rec) ≡ true) (sym row-i) (B.exists ∙ is-i))
        (subst (λ (y : Row). slot_bytes b y.rec (y.rec.blocks - 1) ≡ done (run b (node_file y.rec) (264 * (y.rec.blocks - 1)) 264)) (sym row-i) last))

  -- the second step, after the first
  pub carry-law : (x : Fs) → Appended s j (renamed old.entry name) x → Ok (Carrying own s i j old name r) (λ n. n ≡ 17) (dirent_remove x i old.place)
  carry-law x A = subst (λ (y : Fs). Ok (Carrying own s i j old name r) (λ n. n ≡ 17) (dirent_remove y i old.place)) (sym A.is) (removes A.arena A.put)
