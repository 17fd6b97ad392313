-- Rule 7: its test decides it.
use mathlib.Core.Path.{◌≡◌, refl}
use mathlib.Core.Bool.{Bool, true, false, not, ◌||◌}
use mathlib.Core.List.{List}
use mathlib.Core.Logic.{◌≢◌, ◌⊎◌}
use Prim.Native.Nat.{ℕ, ◌+◌}
use lib.Dec.{eqb}
use Rattle.base.specs.Decides.{Decides}
use Rattle.base.specs.Search.{pick}
use Rattle.base.proofs.Bools.{and_both, and_parts, true-false}
use Rattle.base.proofs.Sames.{test-fails}
use Rattle.base.proofs.Tests.{decides-true, decides-iff, decides_eqb, decides_and, decides-if, decides-all}
use Rattle.structs.specs.Types.{is_folder}
use Rattle.table.specs.declared.Table.{Table}
use Rattle.rules.specs.Image.{ids_in, is_node, rec_of, is_open, is_folder_at, named, subfolders}
use Rattle.rules.specs.Rules.{Linked, Loose, Removed, Rule7}
use Rattle.rules.specs.Tests.{test7, named_due, loose, removed, linked, links_allowed}
use Rattle.rules.proofs.General.{decides-ne, decides_or, decides-pick}
use Rattle.rules.proofs.Files.{node-below}
use Rattle.rules.proofs.Folders.{folder-node}

pick-equal : (b : Bool) (n x y : ℕ) → eqb n (pick b x y) ≡ pick b (eqb n x) (eqb n y)
pick-equal true n x y = refl
pick-equal false n x y = refl

decides-times : (id n : ℕ) → Decides (eqb n (pick (eqb id 2) 0 1)) ((id ≡ 2 → n ≡ 0) × (id ≢ 2 → n ≡ 1))
decides-times id n = rw (pick-equal (eqb id 2) n 0 1) (decides-pick (decides_eqb id 2) (decides_eqb n 0) (decides_eqb n 1))

module _ (a : List ℕ) (t : Table) where
  pub decides-due : (id : ℕ) → Decides (named_due a t id) ((id ≡ 2 → named a t id ≡ 0) × (id ≢ 2 → named a t id ≡ 1))
  unfolding named_due
  decides-due id = decides-times id (named a t id)

  pub decides-loose : (id : ℕ) → Decides (loose a t id (rec_of a t id)) ((id ≢ 2) × Loose a t id)
  unfolding loose
  decides-loose id =
      decides_and (decides-ne id 2)
      (decides-iff (λ p. record { unnamed = p.0; slots = p.1 }) (λ r. (r.unnamed, r.slots))
      (decides_and (decides_eqb (named a t id) 0) (decides_eqb (rec_of a t id).blocks 2)))

  decides-linked : (id : ℕ) → Decides (linked a t id (rec_of a t id)) (Linked a t id)
  unfolding linked
  decides-linked id =
      decides-iff (λ p. record { links = p.0; root = p.1.0; once = p.1.1 }) (λ r. (r.links, (r.root, r.once)))
      (decides_and (decides_eqb (rec_of a t id).nlinks (2 + subfolders a (rec_of a t id))) (decides-due id))

  decides-removed : (id : ℕ) → Decides (removed a t id (rec_of a t id)) (Removed a t id)
  unfolding removed
  decides-removed id =
      decides-iff
      (λ p. record { apart = p.1.1.0; opened = p.0; links = p.1.0; loose = p.1.1.1 })
      (λ r. (r.opened, (r.links, (r.apart, r.loose))))
      (decides_and (decides-true (is_open t id)) (decides_and (decides_eqb (rec_of a t id).nlinks 0) (decides-loose id)))

  -- what the test asks of a node
  Asked : ℕ → Type 0
  Asked id =
      is_node a id ≡ true
      → (is_folder (rec_of a t id).kind ≡ true → Linked a t id ⊎ Removed a t id)
      × ((is_folder (rec_of a t id).kind ≡ true → ⊥) → ((rec_of a t id).nlinks ≡ named a t id) × ((rec_of a t id).nlinks ≡ 0 → is_open t id ≡ true))

  decides-links : (id : ℕ) → Decides (not (is_node a id) || links_allowed a t id (rec_of a t id)) (Asked id)
  unfolding links_allowed Asked
  decides-links id =
      decides-if (decides-true (is_node a id))
      (decides-pick (decides-true (is_folder (rec_of a t id).kind)) (decides_or (decides-linked id) (decides-removed id))
      (decides_and (decides_eqb (rec_of a t id).nlinks (named a t id)) (decides-if (decides_eqb (rec_of a t id).nlinks 0) (decides-true (is_open t id)))))

  pub decides-7 : Decides (test7 a t) (Rule7 a t)
  unfolding test7 Asked is_folder_at
  decides-7 =
      decides-iff
      (λ p.
      let node : (id : ℕ) → Asked id = λ id e. p id (node-below a id e) e in
      record {
        other = λ id e n. ((node id e).1 (λ f. true-false (and_both e f) n)).0;
        unnamed = λ id e n. ((node id e).1 (λ f. true-false (and_both e f) n)).1;
        folder = λ id e. (node id (folder-node a t id e)).0 (and_parts (is_node a id) _ e).1;
      })
      (λ r id l e. (
        λ f. r.folder id (and_both e f),
        λ n. let o : is_folder_at a t id ≡ false = test-fails _ (λ x. n (and_parts (is_node a id) _ x).1) in (r.other id e o, r.unnamed id e o),
      ))
      (decides-all (ids_in a) (λ id. not (is_node a id) || links_allowed a t id (rec_of a t id)) Asked (λ id l. decides-links id))
