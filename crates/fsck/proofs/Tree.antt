-- Where rule 7's test holds, a folder has a place just where it has links: so rule 8 of each folder that has a place is rule 8.
use mathlib.Core.Path.{◌≡◌, refl, sym, ap, subst, ◌∙◌}
use mathlib.Core.Bool.{Bool, true, not, ◌&&◌, ◌||◌}
use mathlib.Core.List.{List}
use mathlib.Core.Logic.{⊎_elim}
use Prim.Native.Nat.{ℕ}
use native.Mathlib.Omega.{arith}
use native.Mathlib.Decide.{ℕ_discrete}
use lib.Dec.{eqb}
use borrow.Author.Tests.{eq-eqb, ne_eqb}
use Rattle.base.proofs.Bools.{bool_cases, or-first, or-second, true-T}
use Rattle.base.proofs.Counts.{all_to-all, all_to-cong}
use Rattle.base.proofs.Sames.{decided-yes}
use Rattle.table.specs.declared.Table.{Table}
use Rattle.rules.specs.Image.{ids_in, rec_of, is_folder_at}
use Rattle.rules.specs.Rules.{Rule7}
use Rattle.rules.specs.Tests.{test7, test8, named_due, loose, rooted, tree_allowed}
use Rattle.rules.proofs.Links.{decides-due, decides-loose, decides-7}
use Rattle.fsck_links.specs.Counts.{names_fine, folders_named}
use Rattle.fsck_climb.specs.Way.{has_place, all_rooted}
use Rattle.fsck_climb.proofs.Places.{place-root, place-named, place_none}

module _ (a : List ℕ) (t : Table) (seven : test7 a t ≡ true) where
  rule7 : Rule7 a t
  rule7 = (decides-7 a t).right (true-T _ seven)

  named-folder : (id : ℕ) → is_folder_at a t id ≡ true → (named_due a t id || loose a t id (rec_of a t id)) ≡ true
  named-folder id f =
      ⊎_elim
      (λ l. or-first _ (decided-yes (decides-due a t id) (l.root, l.once)))
      (λ r. or-second (named_due a t id) (decided-yes (decides-loose a t id) (r.apart, r.loose)))
      (rule7.folder id f)

  pub seven-named : folders_named a t ≡ true
  unfolding folders_named names_fine
  seven-named =
      all_to-all (names_fine a t) (ids_in a)
      (λ id l. ⊎_elim (λ f. or-second (not (is_folder_at a t id)) (named-folder id f)) (λ f. or-first _ (ap not f)) (bool_cases (is_folder_at a t id)))

  place-links : (id : ℕ) → is_folder_at a t id ≡ true → has_place a t id ≡ not (eqb (rec_of a t id).nlinks 0)
  place-links id f =
      ⊎_elim
      (λ l.
      let p : has_place a t id ≡ true =
      elim (ℕ_discrete id 2) [
        | yes e ↦ subst (λ (x : ℕ). has_place a t x ≡ true) (sym e) (place-root a t)
        | no n ↦ place-named a t id (λ z. omega (arith, l.once n))
      ]
      in
      p ∙ sym (ap not (ne_eqb (rec_of a t id).nlinks 0 (λ z. omega (arith, l.links)))))
      (λ r. place_none a t id r.apart r.loose.unnamed ∙ sym (ap not (eq-eqb (rec_of a t id).nlinks 0 r.links)))
      (rule7.folder id f)

  pub rooted-eight : all_rooted a t ≡ test8 a t
  unfolding all_rooted test8 tree_allowed
  rooted-eight =
      all_to-cong (λ id. not (is_folder_at a t id && has_place a t id) || rooted a t id) (tree_allowed a t) (ids_in a)
      (λ id l. ⊎_elim
      (λ f. ap (λ (b : Bool). not (is_folder_at a t id && b) || rooted a t id) (place-links id f))
      (λ f. rw f refl)
      (bool_cases (is_folder_at a t id)))
