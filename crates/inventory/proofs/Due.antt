-- Nothing else stands in the list: each line is due. And where the checker passes the arena, every node but root has a line.
use mathlib.Core.Path.{◌≡◌, refl, sym, ◌∙◌, subst}
use mathlib.Core.Bool.{Bool, true, false}
use mathlib.Core.List.{List, [], ◌++◌}
use mathlib.Core.Logic.{◌≢◌, ⊎_elim}
use Prim.Native.Nat.{ℕ, zero, suc, ◌+◌, ◌-◌, ◌≤◌, ◌<◌}
use native.Mathlib.Omega.{arith}
use Rattle.base.specs.Count.{sum_to}
use Rattle.base.specs.Search.{pick}
use Rattle.base.proofs.Bools.{bool_cases, true-false, and_parts}
use Rattle.base.proofs.Counts.{sum_to-suc}
use Rattle.base.proofs.Finds.{eq-cases}
use Rattle.structs.specs.Types.{is_folder}
use Rattle.utf8.specs.Names.{name_of}
use Rattle.tree.specs.Tree.{Spelling, Tree, folder_at, names_of, all_names, parent, up, Lives, Tidy}
use Rattle.tree.proofs.Trees.{up_first, none-removed, parent-lives}
use Rattle.inventory.specs.Text.{path_to}
use Rattle.inventory.specs.Visits.{Visit, visit, join_to, slot_visits, visits_to, visits}
use Rattle.inventory.specs.Promises.{ReachedBy, root, down, Due, Each, none, more}
use Rattle.inventory.proofs.Levels.{up_start}
use Rattle.inventory.proofs.Orders.{visits-more}
use Rattle.inventory.proofs.Once.{named-at}

-- ---- each line

each_append : {P : Visit → Type 0} {l m : List Visit} → Each P l → Each P m → Each P (l ++ m)
each_append none M = M
each_append (more p L) M = more p (each_append L M)

each-join : {P : Visit → Type 0} (l : ℕ → List Visit) (n : ℕ) → ((j : ℕ) → j < n → Each P (l j)) → Each P (join_to l n)
unfolding join_to
each-join l zero h = none
each-join l (suc n) h = each_append (each-join l n (λ j x. h j (omega arith))) (h n (omega arith))

visits-none : (v : Tree) (f : ℕ) (p : List ℕ) → visits_to v 0 f p ≡ []
unfolding visits_to
visits-none v f p = refl

-- of any tree, however deep one looks
visits-due : (v : Tree) (n f : ℕ) (p : List ℕ) → ReachedBy v f p → Each (Due v) (visits_to v n f p)
visits-due v zero f p R = subst (Each (Due v)) (sym (visits-none v f p)) none
visits-due v (suc n) f p R =
    subst (Each (Due v)) (sym (visits-more v n f p))
    (each-join (λ j. slot_visits v (visits_to v n) f p (2 + j)) (v.blocks f - 2) (λ j l.
    let k : ℕ = 2 + j in
    more (record { at = p; reached = R; later = omega arith; inside = omega arith; path = refl })
    (⊎_elim
    (λ (d : is_folder (v.kind (v.slot f (2 + j)).id) ≡ true).
    subst (λ (b : Bool). Each (Due v) (pick b (visits_to v n (v.slot f (2 + j)).id (visit v f p (2 + j)).path) [])) (sym d)
    (visits-due v n (v.slot f (2 + j)).id (visit v f p (2 + j)).path (down (2 + j) R (omega arith) (omega arith) refl d refl)))
    (λ (d : is_folder (v.kind (v.slot f (2 + j)).id) ≡ false).
    subst (λ (b : Bool). Each (Due v) (pick b (visits_to v n (v.slot f (2 + j)).id (visit v f p (2 + j)).path) [])) (sym d) none)
    (bool_cases (is_folder (v.kind (v.slot f (2 + j)).id))))))

pub only-due : (v : Tree) → Each (Due v) (visits v)
unfolding visits
only-due v = visits-due v v.ids 2 [] root

-- ---- every folder with links is reached

folder-kind : (v : Tree) (i : ℕ) → folder_at v i ≡ true → is_folder (v.kind i) ≡ true
folder-kind v i f = (and_parts (v.node i) (is_folder (v.kind i)) f).1

sum-none : (f : ℕ → ℕ) → sum_to f 0 ≡ 0
unfolding sum_to
sum-none f = refl

pick_some : (b : Bool) (n : ℕ) → pick b n 0 ≢ 0 → (b ≡ true) × (1 ≤ n)
pick_some true zero h = absurd (h refl)
pick_some true (suc n) h = (refl, omega arith)
pick_some false n h = absurd (h refl)

-- a sum that is not 0 has a part that is not
sum-some : (f : ℕ → ℕ) (n : ℕ) → sum_to f n ≢ 0 → (i : ℕ) × (f i ≢ 0)
sum-some f zero h = absurd (h (sum-none f))
sum-some f (suc n) h =
    ⊎_elim
    (λ (z : f n ≡ 0). sum-some f n (λ q. h (let e = sum_to-suc f n in omega (arith, e, z, q))))
    (λ z. (n, z))
    (eq-cases (f n) 0)

-- who is named, is named by some folder
some-folder : (v : Tree) (c : ℕ) → all_names v c ≢ 0 → (f : ℕ) × (folder_at v f ≡ true) × (1 ≤ names_of v f c)
unfolding all_names
some-folder v c h =
    let w = sum-some (λ f. pick (folder_at v f) (names_of v f c) 0) v.ids h in
    let g = pick_some (folder_at v w.0) (names_of v w.0 c) w.1 in
    (w.0, g.0, g.1)

module _ (v : Tree) {style : Spelling} (I : Tidy style v) where
  climbed : (n c : ℕ) → Lives v c → up v c n ≡ 2 → (p : List ℕ) × ReachedBy v c p
  climbed zero c l e = ([], subst (λ (i : ℕ). ReachedBy v i []) (sym (sym (up_start v c) ∙ e)) root)
  climbed (suc n) c l e =
      ⊎_elim
      (λ (z : c ≡ 2). ([], subst (λ (i : ℕ). ReachedBy v i []) (sym z) root))
      (λ z.
      let R = climbed n (parent v c) (parent-lives v I c l) (sym (up_first v c n) ∙ e) in
      let N = I.names c l z in
      (path_to R.0 (name_of (v.slot (parent v c) N.at).name), down N.at R.1 N.later N.inside N.is (folder-kind v c l.folder) refl))
      (eq-cases c 2)

  lives-reached : (c : ℕ) → Lives v c → (p : List ℕ) × ReachedBy v c p
  lives-reached c l = let w = I.climbs c l in climbed w.0 c l w.1

  -- a folder with a later slot has links
  slot-lives : (f k : ℕ) → folder_at v f ≡ true → 2 ≤ k → k < v.blocks f → Lives v f
  slot-lives f k F x y = record { folder = F; links = λ z. omega (arith, (none-removed v I f F z).slots, x, y) }

  -- a later slot of a folder is due
  pub slot_due : (f k : ℕ) → folder_at v f ≡ true → 2 ≤ k → k < v.blocks f → (p : List ℕ) × Due v (visit v f p k)
  slot_due f k F x y = let R = lives-reached f (slot-lives f k F x y) in (R.0, record { at = R.0; reached = R.1; later = x; inside = y; path = refl })

  names-due : (f k c : ℕ) → folder_at v f ≡ true → 2 ≤ k → k < v.blocks f → (v.slot f k).id ≡ c → (x : Visit) × Due v x × ((v.slot x.folder x.slot).id ≡ c)
  names-due f k c F x y e = let D = slot_due f k F x y in (visit v f D.0 k, D.1, e)

  -- each node but root, where none is open
  pub node-due : ((i : ℕ) → v.node i ≡ true → v.opened i ≡ false) → (c : ℕ) → v.node c ≡ true → c ≢ 2 → (x : Visit) × Due v x × ((v.slot x.folder x.slot).id ≡ c)
  node-due shut c N z =
      ⊎_elim
      (λ (F : folder_at v c ≡ true).
      let l : Lives v c = record { folder = F; links = λ q. true-false (none-removed v I c F q).opened (shut c N) } in
      let n = I.names c l z in
      names-due (parent v c) n.at c (I.parents c l z) n.later n.inside n.is)
      (λ (F : folder_at v c ≡ false).
      let w = some-folder v c (λ q. true-false (I.unnamed c N F (I.other c N F ∙ q)) (shut c N)) in
      let s = named-at v w.0 c w.2 in
      names-due w.0 s.0 c w.1 s.1 s.2 s.3)
      (bool_cases (folder_at v c))
