-- A slot is written over a slot of a file that it lies in: other slots, every file's length and the metadata are as they were.
use mathlib.Core.Path.{◌≡◌, refl, sym, ap, ◌∙◌, subst}
use mathlib.Core.Bool.{true, false}
use mathlib.Core.List.{List}
use mathlib.Core.Logic.{◌≢◌, ⊎_elim}
use Prim.Native.Nat.{ℕ, ◌+◌, ◌*◌, ◌≤◌, ◌<◌}
use native.Mathlib.Omega.{arith}
use lib.ListN.{length}
use Rattle.base.specs.Out.{Ok, went}
use Rattle.base.proofs.Outs.{ok-bind}
use Rattle.base.proofs.Bools.{bool_cases, true-false}
use Rattle.base.proofs.Finds.{eq-cases}
use Rattle.base.proofs.Lists.{tab-cong}
use Rattle.base.proofs.Numbers.{lt-or-le}
use Rattle.base.proofs.Sames.{same_true, same-own}
use Rattle.base.specs.Decides.{same}
use Rattle.structs.specs.Fits.{EntryFits}
use Rattle.structs.specs.Layout.{entry_of, entry_bytes}
use Rattle.structs.specs.declared.DiskEntry.{DiskEntry}
use Rattle.structs.specs.declared.DiskINode.{DiskINode}
use Rattle.arena.specs.Fields.{file}
use Rattle.table.specs.declared.Table.{Table}
use Rattle.files.specs.Read.{there, length_of, byte_at}
use Rattle.files_laws.specs.Laws.{Put, Kept}
use Rattle.sefs.specs.Meta.{meta_file}
use Rattle.sefs.specs.State.{Fs, with_arena}
use Rattle.sefs.specs.Nodes.{node_file, rec_at}
use Rattle.sefs.specs.Folders.{put_slot}
use Rattle.rules.specs.Image.{rec_of, is_open, slot_in}
use Rattle.image.proofs.Metas.{kept_same}
use Rattle.image.specs.Midway.{tree_of}
use Rattle.image.proofs.Resets.{recs-kept, nodes-kept, ids-kept}
use Rattle.image.proofs.Appends.{file-apart, slot_kept, slot-put, entry-long, put-meta, slot-new}
use Rattle.tree.proofs.Renaming.{with_slots}

module _ (a : List ℕ) (f : List ℕ) (n : ℕ) (e : DiskEntry) (F : EntryFits e) (is : there a (file 1 f) ≡ true) (inside : 264 * n + 264 ≤ length_of a (file 1 f))
    (b : List ℕ) (P : Put a (file 1 f) (264 * n) (entry_bytes e) b) where
  -- this file, or another
  either : (Q : List ℕ → Type 0) → Q f → ((g : List ℕ) → f ≢ g → Q g) → (g : List ℕ) → Q g
  either Q own else g =
      ⊎_elim
      (λ (q : same f g ≡ true). subst Q (same_true f g q) own)
      (λ (q : same f g ≡ false). else g (λ z. true-false (same-own f g z) q))
      (bool_cases (same f g))

  pub long_same : (g : List ℕ) → length_of b (file 1 g) ≡ length_of a (file 1 g)
  long_same =
      either (λ (g : List ℕ). length_of b (file 1 g) ≡ length_of a (file 1 g))
      (P.long ∙ omega (arith, entry-long a f n e F is))
      (λ g d. (P.others (file 1 g) (file-apart f g d)).long)

  -- a slot of another file, or another slot
  pub slot-else : (r : DiskINode) (j : ℕ) → (r.file ≡ f → j ≢ n) → slot_in b r j ≡ slot_in a r j
  unfolding slot_in
  slot-else r j d =
      ap entry_of (tab-cong (byte_at b (node_file r)) (byte_at a (node_file r)) (264 * j) (264 * j) 264 (λ i l. byte i l r.file refl))
    where
      past : (i : ℕ) → i < 264 → r.file ≡ f → 264 * n ≤ 264 * j + i → 264 * n + length (entry_bytes e) ≤ 264 * j + i
      past i l q g = let m : n < j = ⊎_elim (λ w. w) (λ w. absurd (d q (omega arith))) (lt-or-le n j) in omega (arith, entry-long a f n e F is)

      byte : (i : ℕ) → i < 264 → (g : List ℕ) → r.file ≡ g → byte_at b (file 1 g) (264 * j + i) ≡ byte_at a (file 1 g) (264 * j + i)
      byte i l =
          either (λ (g : List ℕ). r.file ≡ g → byte_at b (file 1 g) (264 * j + i) ≡ byte_at a (file 1 g) (264 * j + i))
          (λ q. P.outside (264 * j + i) (past i l q))
          (λ g m q. (P.others (file 1 g) (file-apart f g m)).byte (264 * j + i))

  -- what the slot keeps of the one that was there, all slots keep
  pub slot-field : {X : Type 0} (q : DiskEntry → X) (o : DiskINode) → o.file ≡ f → q e ≡ q (slot_in a o n) → (r : DiskINode) (j : ℕ) → q (slot_in b r j) ≡ q (slot_in a r j)
  slot-field {X} q o z h r j =
      ⊎_elim
      (λ (w : j ≡ n). subst (λ (m : ℕ). q (slot_in b r m) ≡ q (slot_in a r m)) (sym w) (either (λ (g : List ℕ). r.file ≡ g → q (slot_in b r n) ≡ q (slot_in a r n))
      (λ m. ap q (slot-new a f n e F is b P r m) ∙ h ∙ ap q (slot_kept a a o r (z ∙ sym m) (kept_same a (node_file r)) n))
      (λ g m w. ap q (slot-else r n (λ x. absurd (m (sym x ∙ w))))) r.file refl))
      (λ w. ap q (slot-else r j (λ m. w)))
      (eq-cases j n)

  -- the image's tree has other slots, and is else as it was
  pub tree-slots : (t : Table) → tree_of b t ≡ with_slots (tree_of a t) (tree_of b t).slot
  tree-slots t =
      λ x. record {
        ids = ids-kept a b K x;
        node = λ i. nodes-kept a b K i x;
        kind = λ i. (recs i x).kind;
        links = λ i. (recs i x).nlinks;
        blocks = λ i. (recs i x).blocks;
        size = λ i. (recs i x).size;
        long = λ i. long i x;
        slot = λ i k. slot_in b (rec_of b t i) k;
        opened = is_open t;
      }
    where
      K : Kept a b meta_file
      K = put-meta a f n e F is b P

      recs : (i : ℕ) → rec_of b t i ≡ rec_of a t i
      recs = recs-kept a b t (put-meta a f n e F is b P)

      long : (i : ℕ) → length_of b (node_file (rec_of b t i)) ≡ length_of a (node_file (rec_of a t i))
      long i = ap (λ (r : DiskINode). length_of b (node_file r)) (recs-kept a b t (put-meta a f n e F is b P) i) ∙ long_same (rec_of a t i).file

-- ---- the step

pub record Overwritten (s : Fs) (i k : ℕ) (e : DiskEntry) (d : Fs) : Type 0 where
  pub arena : List ℕ
  pub put : Put s.arena (node_file (rec_at s i)) (264 * k) (entry_bytes e) arena
  pub is : d ≡ with_arena s arena

pub overwrite-law : (s : Fs) (i k : ℕ) (e : DiskEntry) → EntryFits e → there s.arena (node_file (rec_at s i)) ≡ true → Ok (Overwritten s i k e) (λ r. r ≡ 17) (put_slot s i k (entry_bytes e))
unfolding put_slot
overwrite-law s i k e F h = ok-bind (slot-put s.arena (rec_at s i).file k e F h) λ b P. went (record { arena = b; put = P; is = refl })
