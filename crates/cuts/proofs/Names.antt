-- The new name is absent until the parent's record is stored. (Of the other names: Finds.)
use mathlib.Core.Path.{◌≡◌, refl, sym, ap, ◌∙◌, subst}
use mathlib.Core.Bool.{Bool, true, false}
use mathlib.Core.List.{List}
use Prim.Native.Nat.{ℕ, ◌+◌, ◌*◌, ◌≤◌, ◌<◌, ◌^◌}
use native.Mathlib.Omega.{arith}
use Rattle.base.specs.Out.{Out, done, refused, bind}
use Rattle.base.specs.Reasons.{entry_not_found}
use Rattle.base.specs.Search.{pick}
use Rattle.std.specs.Prelude.{Option}
use Rattle.base.proofs.Lists.{tab-cong}
use Rattle.structs.specs.Fits.{RecordFits}
use Rattle.structs.specs.Layout.{record_of}
use Rattle.structs.specs.Types.{is_folder}
use Rattle.structs.specs.declared.DiskINode.{DiskINode}
use Rattle.structs.proofs.Layouts.{record_of-record_bytes}
use Rattle.arena.specs.Fields.{File, file}
use Rattle.files.specs.Read.{length_of, byte_at, read_file}
use Rattle.files.proofs.Runs.{read_done}
use Rattle.files_laws.proofs.Bounds.{length-fits}
use Rattle.sefs.specs.Records.{with_blocks}
use Rattle.sefs.specs.Nodes.{node_file}
use Rattle.sefs.specs.Slots.{slot_at, or_not_found, find_slot}
use Rattle.sefs.specs.Create.{Given}
use Rattle.image.proofs.Records.{links-fit, blocks-fit}
use Rattle.sequences.specs.Pairs.{Pair}
use Rattle.mending.specs.Mendable.{rec_in}
use Rattle.mending.proofs.Tables.{rec-stored}
use Rattle.mending.proofs.Lookups.{Alike, lookup-same}
use Rattle.cuts.specs.Stores.{cut_after}
use Rattle.cuts.specs.Creates.{Birth, new_parent, create_stores, before_parent}
use Rattle.cuts.specs.Premise.{Creation}
use Rattle.cuts.specs.Cuts.{look_in, Absent, KeepsParent, OldSlots, KeepsFolder, OnlyTraces}
use Rattle.cuts.proofs.Facts.{Known, known}
use Rattle.cuts.proofs.SoFar.{only-traces, keeps-folder}
use Rattle.cuts.proofs.Keeps.{keeps-parent}

module _ (p : Pair) (c : Birth) (g : Given) (B : Creation p c g) where
  abbrev a : List ℕ
  a = p.arena

  K : Known p.arena c
  K = known p c g B

  abbrev f : File
  f = node_file c.parent

  -- ---- the parent's record, before and after

  pub rec-a : rec_in a c.up ≡ c.parent
  rec-a = rec-stored a c.up K.up-some ∙ ap record_of (sym K.clean) ∙ record_of-record_bytes c.parent K.fits

  parent-fits : RecordFits (new_parent c)
  parent-fits =
      let l : 264 * c.parent.blocks ≤ 4294967295 =
      subst (λ (k : ℕ). k ≤ 4294967295) K.long (length-fits p.arena (node_file c.parent) B.passed.typed.bytes) in
      links-fit (with_blocks c.parent (c.parent.blocks + 1)) _ (blocks-fit c.parent (c.parent.blocks + 1) K.fits (omega arith))
      (links (is_folder c.child.kind) K.fits.nlinks K.few)
    where
      links : (x : Bool) → c.parent.nlinks < 2 ^ 16 → (x ≡ true → c.parent.nlinks < 65535) → c.parent.nlinks + pick x 1 0 < 65536
      links true l f = let m = f refl in omega arith
      links false l f = omega arith

  module _ (n : ℕ) (b : List ℕ) (h : cut_after n (create_stores c) p.arena ≡ done b) where
    pub rec-b : n ≤ before_parent c → rec_in b c.up ≡ c.parent
    unfolding KeepsParent
    rec-b l =
        rec-stored b c.up K.up-some ∙ ap record_of ((keeps-parent p c g B n b h).until l ∙ sym K.clean)
        ∙ record_of-record_bytes c.parent K.fits

    pub rec-parent : before_parent c < n → rec_in b c.up ≡ new_parent c
    unfolding KeepsParent
    rec-parent l =
        rec-stored b c.up K.up-some ∙ ap record_of ((keeps-parent p c g B n b h).after l)
        ∙ record_of-record_bytes (new_parent c) parent-fits

    -- ---- its file

    parent-b : OldSlots p.arena c b
    unfolding KeepsFolder
    parent-b = keeps-folder p c g B n b h

    long-b : 264 * c.parent.blocks ≤ length_of b (node_file c.parent)
    unfolding OnlyTraces
    long-b = omega (arith, (only-traces p c g B n b h).folder-long)

    pub alike : (r : DiskINode) → r.file ≡ c.parent.file → Alike b a r c.parent c.parent.blocks
    alike r e k l =
        ap (λ (x : List ℕ). read_file b (file 1 x) (264 * k) 264) e
        ∙ read_done b f (264 * k) 264 parent-b.exists (omega (arith, long-b))
        ∙ ap (λ (x : List ℕ). done x) (tab-cong (byte_at b f) (byte_at a f) (264 * k) (264 * k) 264 (λ j m. parent-b.bytes (264 * k + j) (omega arith)))
        ∙ sym (read_done a f (264 * k) 264 K.was (omega (arith, K.long)))

    gone : n ≤ before_parent c → look_in b c.up c.name ≡ refused entry_not_found
    unfolding find_slot
    gone l =
        ap (λ (r : DiskINode). find_slot b r c.name) (rec-b l)
        ∙ ap (λ (o : Out (Option ℕ)). bind o (λ f. bind (or_not_found f) (λ k. bind (slot_at b c.parent k) (λ e. done (record { place = k; entry = e })))))
        (lookup-same b a c.parent c.parent c.name refl (alike c.parent refl) ∙ K.free)

pub absent : Absent
unfolding Absent
absent p c g B n b h l = gone p c g B n b h l
