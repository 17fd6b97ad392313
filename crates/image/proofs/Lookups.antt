-- A lookup in a folder reads every slot that it has to, and the slot that it finds names a node.
use mathlib.Core.Path.{refl, ◌≡◌, sym, ap, ◌∙◌, subst}
use mathlib.Core.Bool.{Bool, true, false, cond}
use mathlib.Core.List.{List, [], ◌∷◌}
use mathlib.Core.Logic.{◌≢◌, ⊎_elim}
use Prim.Native.Nat.{ℕ, zero, suc, ◌≤◌, ◌<◌}
use native.Mathlib.Omega.{arith}
use lib.Dec.{ltb}
use lib.ListN.{length}
use Rattle.base.specs.Out.{Out, done, bind, Ok, went, said}
use Rattle.base.proofs.Outs.{ok-bind}
use Rattle.base.proofs.Bools.{true-T}
use Rattle.base.proofs.Finds.{eq-cases}
use Rattle.base.proofs.Sames.{decided-yes}
use Rattle.base.proofs.Tests.{decides-same}
use Rattle.base.proofs.Searches.{lowest-hit, at-found}
use Rattle.base.specs.Search.{pick, lowest, found_below}
use Rattle.std.specs.Prelude.{Option, Some, None}
use Rattle.le.specs.Le.{Bytes}
use Rattle.structs.specs.declared.DiskINode.{DiskINode}
use Rattle.structs.specs.declared.DiskEntry.{DiskEntry}
use Rattle.utf8.specs.Names.{name_of, asked, is_named, is_dots}
use Rattle.utf8.proofs.Names.{named-decides}
use Rattle.table.specs.declared.Table.{Table}
use Rattle.sefs.specs.Slots.{slot_at, look_to, lookup, or_not_found, find_slot, Slot}
use Rattle.rules.specs.Image.{is_node, rec_of, is_folder_at, slot_in, parent_of}
use Rattle.rules.specs.Rules.{Allowed}
use Rattle.rules.proofs.Folders.{folder-node}
use Rattle.sefs_laws.proofs.Says.{ok-is}
use Rattle.image.proofs.Slots.{slot_is}
use Rattle.image.proofs.Images.{fair, root-node}

-- ---- the search

pick-cond : (b : Bool) (m n : ℕ) → pick b m n ≡ cond b m n
pick-cond true m n = refl
pick-cond false m n = refl

-- a search that looks at one thing more
pub search-next : {A : Type 0} (q : A → Bool) (n k : ℕ) (b : Bool) (o : Out A) (x : A) → o ≡ done x
    → pick b (done k) (bind o (λ e. done (pick (q e) n (suc n)))) ≡ done (cond b k (cond (q x) n (suc n)))
search-next q n k true o x e = refl
search-next {A} q n k false o x e = ap (λ (m : Out A). bind m (λ e. done (pick (q e) n (suc n)))) e ∙ ap done (pick-cond (q x) n (suc n))

-- a slot that was found
pub record Hit (a : List ℕ) (r : DiskINode) (name : List ℕ) (s : Slot) : Type 0 where
  pub inside : s.place < r.blocks
  pub is : s.entry ≡ slot_in a r s.place
  pub named : is_named (slot_in a r s.place).name name ≡ true

module _ (a : List ℕ) (t : Table) (A : Allowed a t) (b : Bytes a) (id : ℕ) (f : is_folder_at a t id ≡ true) (name : List ℕ) where
  abbrev r : DiskINode
  r = rec_of a t id

  abbrev p : ℕ → Bool
  p k = is_named (slot_in a r k).name name

  -- a lookup is the search for the lowest slot with the name
  pub look_is : (n : ℕ) → n ≤ (rec_of a t id).blocks → look_to a (rec_of a t id) name n ≡ done (lowest (λ k. is_named (slot_in a (rec_of a t id) k).name name) n)
  unfolding look_to lowest
  look_is zero l = refl
  look_is (suc n) l =
      ap (λ (o : Out ℕ). bind o (λ k. pick (ltb k n) (done k) (bind (slot_at a r n) (λ e. done (pick (is_named e.name name) n (suc n)))))) (look_is n (omega arith))
      ∙ search-next (λ (e : DiskEntry). is_named e.name name) n (lowest p n) (ltb (lowest p n) n) (slot_at a r n) (slot_in a r n) (slot_is a t A b id f n (omega arith))

  pub lookup-is : lookup a (rec_of a t id) name ≡ done (found_below (lowest (λ k. is_named (slot_in a (rec_of a t id) k).name name) (rec_of a t id).blocks) (rec_of a t id).blocks)
  unfolding lookup
  lookup-is = ap (λ (o : Out ℕ). bind o (λ k. done (found_below k r.blocks))) (look_is r.blocks (omega arith))

  -- the slot with the name, or 11
  pub find-law : Ok (Hit a (rec_of a t id) name) (λ n. n ≡ 11) (find_slot a (rec_of a t id) name)
  unfolding find_slot
  find-law =
      ok-bind (ok-is lookup-is) λ g e.
      ok-bind (found g e) λ k h.
      ok-bind (ok-is (slot_is a t A b id f k h.0)) λ x q. went (record { inside = h.0; is = q; named = h.1 })
    where
      found : (g : Option ℕ) → g ≡ found_below (lowest p r.blocks) r.blocks → Ok (λ k. (k < r.blocks) × (p k ≡ true)) (λ n. n ≡ 11) (or_not_found g)
      found (Some k) e =
          let q = at-found (lowest p r.blocks) r.blocks k (sym e) in
          went (q.1, subst (λ (j : ℕ). p j ≡ true) (sym q.0) (lowest-hit p r.blocks (omega arith)))
      found None e = said refl

-- ---- what a slot that has a name names

asked-dots : (name : List ℕ) → asked name ≡ 46 ∷ 46 ∷ [] → name ≡ 46 ∷ 46 ∷ []
asked-dots [] e = absurd (let z : ◌≡◌ {A = ℕ} 1 2 = ap length e in omega arith)
asked-dots (x ∷ l) e = e

module _ (a : List ℕ) (t : Table) (A : Allowed a t) (id : ℕ) (f : is_folder_at a t id ≡ true) (name : List ℕ) where
  -- the parent of a folder with links is a node
  parent-node : (rec_of a t id).nlinks ≢ 0 → is_node a (slot_in a (rec_of a t id) 1).id ≡ true
  unfolding parent_of
  parent-node n =
      ⊎_elim
      (λ (e : id ≡ 2).
      subst (λ (k : ℕ). is_node a k ≡ true) (sym (ap (parent_of a t) e ∙ A.rule8.root (subst (λ (k : ℕ). (rec_of a t k).nlinks ≢ 0) e n))) (root-node a t (fair a t A)))
      (λ d. folder-node a t (parent_of a t id) (A.rule8.folder id f n d).parent)
      (eq-cases id 2)

  pub slot-node : (is_dots name ≡ true → (rec_of a t id).nlinks ≢ 0) → (k : ℕ) → k < (rec_of a t id).blocks → is_named (slot_in a (rec_of a t id) k).name name ≡ true → is_node a (slot_in a (rec_of a t id) k).id ≡ true
  unfolding is_dots
  slot-node up zero l e = subst (λ (k : ℕ). is_node a k ≡ true) (sym (A.rule6.folder id f).own) (folder-node a t id f)
  slot-node up (suc zero) l e =
      let q : name_of (slot_in a (rec_of a t id) 1).name ≡ asked name = (named-decides (slot_in a (rec_of a t id) 1).name name).right (true-T _ e) in
      parent-node (up (decided-yes (decides-same name (46 ∷ 46 ∷ [])) (asked-dots name (sym q ∙ (A.rule6.folder id f).dots))))
  slot-node up (suc (suc j)) l e = ((A.rule6.folder id f).later (suc (suc j)) (omega arith) l).node
