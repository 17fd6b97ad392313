-- The test of what can be mended decides the statement. A folder that the test finds rooted reaches node 2 in as many steps as there are ids; by the
-- statement a way up leads through folders that stand.
use mathlib.Core.Path.{◌≡◌, refl, sym, subst}
use mathlib.Core.Bool.{true, not, ◌||◌}
use mathlib.Core.List.{List}
use mathlib.Core.Logic.{◌≢◌, ◌⊎◌, inl, inr, ⊎_elim}
use Prim.Native.Nat.{ℕ}
use Rattle.base.specs.Decides.{Decides}
use Rattle.base.proofs.Bools.{true-T}
use Rattle.base.proofs.Finds.{eq-cases}
use Rattle.base.proofs.Sames.{decided-yes}
use Rattle.base.proofs.Tests.{decides-true, decides-iff, decides_and, decides-if, decides-all}
use Rattle.table.specs.Table.{empty_table}
use Rattle.rules.specs.Image.{ids_in, is_folder_at, parent_of}
use Rattle.rules.specs.Rules.{Loose}
use Rattle.rules.specs.Tests.{rooted}
use Rattle.rules.proofs.General.{decides_or}
use Rattle.rules.proofs.Metadata.{decides-1, decides-3, decides-4}
use Rattle.rules.proofs.Files.{decides-5}
use Rattle.rules.proofs.Folders.{folder-below, decides-folders}
use Rattle.rules.proofs.Links.{decides-due, decides-loose}
use Rattle.rules.proofs.Climbs.{parent-full, reaches, decides-root, decides-rooted, root-folder}
use Rattle.mending.specs.Mendable.{times_named, Standing, place_fits, mendable}
use Rattle.mending.specs.Promises.{MendableDecides}

-- ---- one folder

-- what the test asks of a folder's place
Place : List ℕ → ℕ → Type 0
Place a id =
    (((id ≡ 2 → times_named a id ≡ 0) × (id ≢ 2 → times_named a id ≡ 1)) × (rooted a empty_table id ≡ true))
    ⊎ ((id ≢ 2) × Loose a empty_table id)

decides-place : (a : List ℕ) (id : ℕ) → Decides (place_fits a id) (Place a id)
unfolding place_fits Place
decides-place a id = decides_or (decides_and (decides-due a empty_table id) (decides-true (rooted a empty_table id))) (decides-loose a empty_table id)

-- the root's
root-says : (a : List ℕ) → Place a 2 → (times_named a 2 ≡ 0) × (parent_of a empty_table 2 ≡ 2)
unfolding Place
root-says a = ⊎_elim (λ p. (p.0.0 refl, (decides-root a empty_table).right (true-T _ p.1))) (λ o. absurd (o.0 refl))

root-placed : (a : List ℕ) → times_named a 2 ≡ 0 → parent_of a empty_table 2 ≡ 2 → Place a 2
unfolding Place
root-placed a u e = inl ((λ _. u, λ d. absurd (d refl)), decided-yes (decides-root a empty_table) e)

-- another's
other-says : (a : List ℕ) (id : ℕ) → id ≢ 2 → Place a id → Standing a id ⊎ Loose a empty_table id
unfolding Place
other-says a id d =
    ⊎_elim
    (λ p. inl (record { once = p.0.1 d; rooted = ((decides-rooted a empty_table id d).right (true-T _ p.1)).0 }))
    (λ o. inr o.1)

-- a folder on the way up
record Upper (a : List ℕ) (id : ℕ) : Type 0 where
  folder : is_folder_at a empty_table id ≡ true
  stands : id ≢ 2 → Standing a id

module _ (a : List ℕ) (other : (id : ℕ) → is_folder_at a empty_table id ≡ true → id ≢ 2 → Standing a id ⊎ Loose a empty_table id) where
  -- a folder that names another isn't loose
  parent-upper : (id : ℕ) → Upper a id → id ≢ 2 → Upper a (parent_of a empty_table id)
  parent-upper id u d =
      let R = (u.stands d).rooted in
      record { folder = R.parent; stands = λ n. ⊎_elim (λ (s : Standing a (parent_of a empty_table id)). s) (λ o. absurd (parent-full a empty_table id R o)) (other (parent_of a empty_table id) R.parent n) }

  other-placed : (id : ℕ) → is_folder_at a empty_table id ≡ true → id ≢ 2 → Place a id
  unfolding Place
  other-placed id f d =
      ⊎_elim
      (λ (s : Standing a id). inl (
        (λ e. absurd (d e), λ _. s.once),
        decided-yes (decides-rooted a empty_table id d)
            (s.rooted, reaches a empty_table (Upper a) (λ i u. u.folder) parent-upper id (record { folder = f; stands = λ _. s }) s.rooted.climbs),
      ))
      (λ (o : Loose a empty_table id). inr (d, o))
      (other id f d)

-- ---- all of it

pub mendable-decides : MendableDecides
unfolding MendableDecides mendable
mendable-decides a =
    decides-iff
    (λ p.
    let each : (id : ℕ) → is_folder_at a empty_table id ≡ true → Place a id = λ id f. p.1.1.1.1.1 id (folder-below a empty_table id f) f in
    let two = root-says a (each 2 (root-folder a empty_table p.1.0 p.1.1.0 p.1.1.1.0)) in
    record {
      rule1 = p.0;
      rule3 = p.1.0;
      rule4 = p.1.1.0;
      rule5 = p.1.1.1.0;
      folder = p.1.1.1.1.0;
      unnamed = two.0;
      root = two.1;
      other = λ id f d. other-says a id d (each id f);
    })
    (λ M. (
      M.rule1,
      (
        M.rule3,
        (
          M.rule4,
          (
            M.rule5,
            (
              M.folder,
              λ id l f. ⊎_elim (λ e. subst (Place a) (sym e) (root-placed a M.unnamed M.root)) (λ d. other-placed a M.other id f d) (eq-cases id 2),
            ),
          ),
        ),
      ),
    ))
    (decides_and (decides-1 a)
    (decides_and (decides-3 a)
    (decides_and (decides-4 a empty_table)
    (decides_and (decides-5 a empty_table)
    (decides_and (decides-folders a empty_table)
    (decides-all (ids_in a) (λ id. not (is_folder_at a empty_table id) || place_fits a id) (λ id. is_folder_at a empty_table id ≡ true → Place a id)
    (λ id l. decides-if (decides-true (is_folder_at a empty_table id)) (decides-place a id))))))))
