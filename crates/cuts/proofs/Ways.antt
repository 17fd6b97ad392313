-- Every list of names that led to a node leads from root to the same one: at each name the lookup is what it was.
use mathlib.Core.Path.{◌≡◌, refl, sym, ap, ◌∙◌, subst}
use mathlib.Core.Bool.{Bool, true}
use mathlib.Core.List.{List, [], ◌∷◌}
use mathlib.Core.Logic.{◌≢◌, ◌⊎◌, inl, inr, ⊎_elim}
use Prim.Native.Nat.{ℕ}
use native.Mathlib.Omega.{arith}
use Rattle.base.specs.Out.{Out, done, refused, bind, ensure, Ok}
use Rattle.base.specs.Reasons.{not_dir, entry_not_found}
use Rattle.std.specs.Prelude.{Option}
use Rattle.base.proofs.Bools.{and_both}
use Rattle.base.proofs.Finds.{eq-cases}
use Rattle.base.proofs.Outs.{bind-is-done, ok-done}
use Rattle.structs.specs.Types.{is_folder}
use Rattle.structs.specs.declared.DiskINode.{DiskINode}
use Rattle.table.specs.Table.{empty_table}
use Rattle.sefs.specs.Create.{Given}
use Rattle.sefs.specs.Slots.{Slot, find_slot}
use Rattle.rules.specs.Image.{rec_of, is_folder_at}
use Rattle.mending.specs.Mendable.{rec_in}
use Rattle.mending.specs.Promises.{way}
use Rattle.mending.proofs.Lookups.{slot_of}
use Rattle.sequences.specs.Pairs.{Pair}
use Rattle.sequences.proofs.Passing.{allowed}
use Rattle.deaths.proofs.Recoveries.{Good, leads, two_good}
use Rattle.cuts.specs.Stores.{cut_after}
use Rattle.cuts.specs.Creates.{Birth, create_stores}
use Rattle.cuts.specs.Premise.{Creation}
use Rattle.cuts.specs.Cuts.{KeepsNames, KeepsWays}
use Rattle.cuts.proofs.Orders.{ensured}
use Rattle.cuts.proofs.Facts.{known}
use Rattle.cuts.proofs.Synced.{rec-synced, lasting}
use Rattle.cuts.proofs.Names.{rec-a}
use Rattle.cuts.proofs.Records.{rec-like}
use Rattle.cuts.proofs.Finds.{keeps-names}

module _ (p : Pair) (c : Birth) (g : Given) (B : Creation p c g) (n : ℕ) (b : List ℕ) (h : cut_after n (create_stores c) p.arena ≡ done b) where
  abbrev a : List ℕ
  a = p.arena

  -- a node that names can lead to
  abbrev Reachable : ℕ → Type 0
  Reachable = Good a p.table (allowed p B.passed) B.passed.typed.bytes (lasting p B.passed B.synced)

  rec : (id : ℕ) → Reachable id → rec_of p.arena p.table id ≡ rec_in p.arena id
  rec id G = rec-synced p B.passed B.synced id G.node

  -- what was found is none of the new name
  found-else : (id : ℕ) (name : List ℕ) (s : Slot) → find_slot p.arena (rec_in p.arena id) name ≡ done s → (id ≢ c.up) ⊎ (name ≢ c.name)
  unfolding find_slot
  found-else id name s e = ⊎_elim (λ (u : id ≡ c.up). inr (λ m. clash (new u m))) (λ u. inl u) (eq-cases id c.up)
    where
      -- the new name, looked up in the parent
      new : id ≡ c.up → name ≡ c.name → ◌≡◌ {A = Out Slot} (refused entry_not_found) (done s)
      new u m =
          sym (ap (λ (o : Out (Option ℕ)). bind o (slot_of a c.parent)) (known p c g B).free)
          ∙ sym (ap (λ (r : DiskINode). find_slot a r c.name) (ap (rec_in a) u ∙ rec-a p c g B))
          ∙ ap (find_slot a (rec_in a id)) (sym m)
          ∙ e

      clash : ◌≡◌ {A = Out Slot} (refused entry_not_found) (done s) → ⊥
      clash q = let z : ◌≡◌ {A = ℕ} 0 1 = cc in omega (arith, z)

  -- from a node that names can lead to
  kept_from : (id : ℕ) → Reachable id → (l : List (List ℕ)) (x : ℕ) → way p.arena empty_table id l ≡ done x → way b empty_table id l ≡ done x
  unfolding way KeepsNames is_folder_at
  kept_from id G [] x e = e
  kept_from id G (name ∷ l) x e =
      let v = bind-is-done (ensure (is_folder (rec_in a id).kind) not_dir) _ x e in
      let f : is_folder (rec_in a id).kind ≡ true = ensured (is_folder (rec_in a id).kind) not_dir v.0 v.1 in
      let u = bind-is-done (find_slot a (rec_in a id) name) (λ s. way a empty_table s.entry.id l) x v.2 in
      let same = keeps-names p c g B n b h id name (and_both G.node f) (found-else id name u.0 u.1) in
      let next : Reachable u.0.entry.id =
      ok-done (subst (λ (o : Out Slot). Ok (λ (s : Slot). Reachable s.entry.id) (λ _. Unit) o) (ap (λ (r : DiskINode). find_slot a r name) (rec id G) ∙ u.1)
      (leads a p.table _ _ _ id G (ap (λ (r : DiskINode). is_folder r.kind) (rec id G) ∙ f) name)) in
      ap (λ (k : ℕ). bind (ensure (is_folder k) not_dir) (λ _. on (find_slot b (rec_in b id) name))) (rec-like p c g B n b h (λ r. r.kind) refl id G.node)
      ∙ ap (λ (t : Bool). bind (ensure t not_dir) (λ _. on (find_slot b (rec_in b id) name))) f
      ∙ ap on (same ∙ u.1)
      ∙ kept_from u.0.entry.id next l x u.2
    where
      on : Out Slot → Out ℕ
      on o = bind o (λ s. way b empty_table s.entry.id l)

pub keeps-ways : KeepsWays
unfolding KeepsWays
keeps-ways p c g B n b h l id e = kept_from p c g B n b h 2 (two_good p.arena p.table _ _ _) l id e
