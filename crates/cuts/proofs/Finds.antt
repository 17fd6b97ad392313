-- Every earlier name: the lookup answers in a cut what it did before.
use mathlib.Core.Path.{◌≡◌, refl, sym, ap, ◌∙◌, subst}
use mathlib.Core.Bool.{Bool, true, false}
use mathlib.Core.List.{List, [], ◌∷◌}
use mathlib.Core.Logic.{◌≢◌, ◌⊎◌, ⊎_elim}
use Prim.Native.Nat.{ℕ, suc, ◌≤◌, ◌<◌}
use native.Mathlib.Omega.{arith}
use lib.Dec.{ltb}
use borrow.Author.Tests.{lt-ltb, le-ltb, ltb-true}
use Rattle.base.specs.Out.{Out, done, refused, bind}
use Rattle.base.specs.Search.{pick, found_below}
use Rattle.std.specs.Prelude.{Some, None}
use Rattle.base.proofs.Bools.{and_parts}
use Rattle.base.proofs.Finds.{eq-cases}
use Rattle.base.proofs.Numbers.{lt-or-le}
use Rattle.base.proofs.Sames.{decided-no}
use Rattle.structs.specs.declared.DiskEntry.{DiskEntry}
use Rattle.structs.specs.declared.DiskINode.{DiskINode}
use Rattle.utf8.specs.Names.{asked, is_named, name_bytes}
use Rattle.utf8.proofs.Names.{named-decides, name_of-name_bytes}
use Rattle.sefs.specs.Slots.{slot_at, look_to, lookup, find_slot}
use Rattle.sefs.specs.Create.{Given}
use Rattle.rules.specs.Image.{is_node, is_folder_at}
use Rattle.sequences.specs.Pairs.{Pair}
use Rattle.mending.specs.Mendable.{rec_in}
use Rattle.mending.proofs.Lookups.{Alike, slot_same, look-same, slot_of, find-same, find-kept}
use Rattle.cuts.specs.Stores.{cut_after}
use Rattle.cuts.specs.Creates.{Birth, new_parent, naming, create_stores, before_parent}
use Rattle.cuts.specs.Premise.{Creation}
use Rattle.cuts.specs.Cuts.{look_in, KeepsNames}
use Rattle.cuts.proofs.Facts.{known}
use Rattle.cuts.proofs.Names.{alike, rec-a, rec-b, rec-parent}
use Rattle.cuts.proofs.FindsNew.{slot-b, no-dot}
use Rattle.cuts.proofs.Records.{rec-else, file-kept}

-- a slot more, with another name
module _ (x y : List ℕ) (r s : DiskINode) (name : List ℕ) (h : Alike x y r s s.blocks) where
  abbrev n : ℕ
  n = s.blocks

  find-more : (e : DiskEntry) → slot_at x r n ≡ done e → is_named e.name name ≡ false → r.blocks ≡ suc n → find_slot x r name ≡ find_slot y s name
  unfolding find_slot lookup look_to found_below
  find-more e f d q =
      ap (λ (j : ℕ). bind (bind (look_to x r name j) (λ k. done (found_below k j))) (slot_of x r)) q
      ∙ ap (λ (o : Out ℕ). bind (bind (bind o next) (λ k. done (found_below k (suc n)))) (slot_of x r)) (look-same x y r s name n h)
      ∙ go (look_to y s name n)
    where
      next : ℕ → Out ℕ
      next k = pick (ltb k n) (done k) (bind (slot_at x r n) (λ e. done (pick (is_named e.name name) n (suc n))))

      go : (o : Out ℕ) → bind (bind (bind o next) (λ k. done (found_below k (suc n)))) (slot_of x r) ≡ bind (bind o (λ k. done (found_below k n))) (slot_of y s)
      go (refused m) = refl
      go (done k) = at (ltb k n) refl
        where
          at : (b : Bool) → ltb k n ≡ b → bind (bind (next k) (λ k. done (found_below k (suc n)))) (slot_of x r) ≡ slot_of y s (pick (ltb k n) (Some k) None)
          at true t = let l = ltb-true k n t in rw (t, lt-ltb k (suc n) (omega arith), slot_same x y r s k (h k l))
          at false t = rw (t, f, d, le-ltb (suc n) (suc n) (omega arith))

module _ (p : Pair) (c : Birth) (g : Given) (B : Creation p c g) (n : ℕ) (b : List ℕ) (h : cut_after n (create_stores c) p.arena ≡ done b) where
  abbrev a : List ℕ
  a = p.arena

  -- the new slot's name is no other
  other : before_parent c < n → (name : List ℕ) → name ≢ c.name → is_named (name_bytes c.name) name ≡ false
  other l name d =
      let K = known p c g B in
      decided-no (is_named (name_bytes c.name) name) (named-decides (name_bytes c.name) name)
      (λ e. not name d (sym (name_of-name_bytes c.name K.good.0 K.short) ∙ e))
    where
      not : (name : List ℕ) → name ≢ c.name → c.name ≢ asked name
      not [] d e = no-dot p c g B n b h l e
      not (x ∷ m) d e = d (sym e)

  -- in the parent, until its record is stored and after it
  until : n ≤ before_parent c → (name : List ℕ) → look_in b c.up name ≡ look_in p.arena c.up name
  until l name =
      ap (λ (r : DiskINode). find_slot b r name) (rec-b p c g B n b h l)
      ∙ find-same b a c.parent c.parent name refl (alike p c g B n b h c.parent refl)
      ∙ ap (λ (r : DiskINode). find_slot a r name) (sym (rec-a p c g B))

  after : before_parent c < n → (name : List ℕ) → name ≢ c.name → look_in b c.up name ≡ look_in p.arena c.up name
  after l name d =
      ap (λ (r : DiskINode). find_slot b r name) (rec-parent p c g B n b h l)
      ∙ find-more b a (new_parent c) c.parent name (alike p c g B n b h (new_parent c) refl)
      (naming c) (slot-b p c g B n b h l) (other l name d) (omega arith)
      ∙ ap (λ (r : DiskINode). find_slot a r name) (sym (rec-a p c g B))

  -- in another folder
  else : (f : ℕ) (name : List ℕ) → is_node p.arena f ≡ true → f ≢ c.up → look_in b f name ≡ look_in p.arena f name
  else f name m d =
      let r : DiskINode = rec_in a f in
      ap (λ (x : DiskINode). find_slot b x name) (rec-else p c g B n b h f m d)
      ∙ find-kept b a r r name refl refl (file-kept p c g B n b h f m d)

  names-b : (f : ℕ) (name : List ℕ) → is_node p.arena f ≡ true → (f ≢ c.up) ⊎ (name ≢ c.name) → look_in b f name ≡ look_in p.arena f name
  names-b f name m o =
      ⊎_elim
      (λ (d : f ≢ c.up). else f name m d)
      (λ (d : name ≢ c.name). ⊎_elim
      (λ (e : f ≡ c.up).
      subst (λ (i : ℕ). look_in b i name ≡ look_in a i name) (sym e)
      (⊎_elim (λ l. after l name d) (λ l. until l name) (lt-or-le (before_parent c) n)))
      (λ (q : f ≢ c.up). else f name m q)
      (eq-cases f c.up))
      o

pub keeps-names : KeepsNames
unfolding KeepsNames is_folder_at
keeps-names p c g B n b h f name dir o = names-b p c g B n b h f name (and_parts (is_node p.arena f) _ dir).0 o
