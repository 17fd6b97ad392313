-- Nodes without links may go, and every other node is as it was: a tidy tree stays so. Nobody names such a node, and it names nobody.
use mathlib.Core.Path.{◌≡◌, refl, sym, ap, ◌∙◌, subst}
use mathlib.Core.Bool.{Bool, true, false, not, ◌&&◌}
use mathlib.Core.Logic.{inl, inr, ⊎_elim}
use Prim.Native.Nat.{ℕ, zero, suc, ◌+◌, ◌*◌, ◌-◌, ◌≤◌, ◌<◌}
use native.Mathlib.Omega.{arith}
use lib.Dec.{eqb}
use Rattle.base.specs.Count.{sum_to, count_to}
use Rattle.base.specs.Search.{pick}
use Rattle.base.proofs.Bools.{bool_cases, true-false, and_both, and_parts, and-false}
use Rattle.base.proofs.Counts.{sum_to-cong, count_to-cong}
use Rattle.structs.specs.Types.{is_folder}
use Rattle.structs.specs.declared.DiskEntry.{DiskEntry}
use Rattle.tree.specs.Tree.{Spelling, Tree, folder_at, names_of, all_names, subs_of, parent, up, LaterIn, FolderIn, LinkedIn, RemovedIn, Lives, NamedBy, Tidy}
use Rattle.tree.specs.Moves.{turned}
use Rattle.tree.proofs.Trees.{pick-like, folder-is, none-removed, parent-lives}
use Rattle.tree.proofs.Ways.{slot_counts, names-part}

-- w is v without the nodes that go
pub record Stays (gone : ℕ → Bool) (v w : Tree) : Type 0 where
  pub ids : w.ids ≡ v.ids
  pub node : (i : ℕ) → w.node i ≡ (v.node i && not (gone i))
  pub kind : (i : ℕ) → w.node i ≡ true → w.kind i ≡ v.kind i
  pub links : (i : ℕ) → w.node i ≡ true → w.links i ≡ v.links i
  pub blocks : (i : ℕ) → w.node i ≡ true → w.blocks i ≡ v.blocks i
  pub size : (i : ℕ) → w.node i ≡ true → w.size i ≡ v.size i
  pub long : (i : ℕ) → w.node i ≡ true → w.long i ≡ v.long i
  pub slot : (i : ℕ) → folder_at w i ≡ true → (k : ℕ) → k < v.blocks i → w.slot i k ≡ v.slot i k

-- the same as they will be
pub stays-turned : (c f g : ℕ) (e : DiskEntry) {gone : ℕ → Bool} {v w : Tree} → Stays gone v w → Stays gone (turned c f g e v) (turned c f g e w)
stays-turned c f g e R = record {
  ids = R.ids;
  node = R.node;
  kind = R.kind;
  links = λ i n x. pick (eqb i f) (R.links i n x - 1) (pick (eqb i g) (R.links i n x + 1) (R.links i n x));
  blocks = R.blocks;
  size = R.size;
  long = R.long;
  slot = λ i h k l x. pick (eqb i c && eqb k 1) e (R.slot i h k l x);
}

module _ (gone : ℕ → Bool) (v w : Tree) {style : Spelling} (I : Tidy style v) (loose : (i : ℕ) → gone i ≡ true → v.node i ≡ true → v.links i ≡ 0) (R : Stays gone v w)
    (opens : (i : ℕ) → w.node i ≡ true → v.links i ≡ 0 → v.opened i ≡ true → w.opened i ≡ true) where
  was : (i : ℕ) → w.node i ≡ true → v.node i ≡ true
  was i n = (and_parts (v.node i) (not (gone i)) (sym (R.node i) ∙ n)).0

  stays : (i : ℕ) → v.node i ≡ true → gone i ≡ false → w.node i ≡ true
  stays i n g = R.node i ∙ and_both n (ap not g)

  folder-same : (i : ℕ) → gone i ≡ false → folder_at w i ≡ folder_at v i
  folder-same i g =
      ⊎_elim
      (λ (n : v.node i ≡ true). λ x. (stays i n g ∙ sym n) x && is_folder (R.kind i (stays i n g) x))
      (λ (n : v.node i ≡ false). ap (λ (b : Bool). b && is_folder (w.kind i)) (R.node i ∙ ap (λ (b : Bool). b && not (gone i)) n) ∙ ap (λ (b : Bool). b && is_folder (v.kind i)) (sym n))
      (bool_cases (v.node i))

  folder-gone : (i : ℕ) → gone i ≡ true → folder_at w i ≡ false
  folder-gone i g = ap (λ (b : Bool). b && is_folder (w.kind i)) (R.node i ∙ ap (λ (b : Bool). v.node i && not b) g ∙ and-false (v.node i))

  not-gone : (i : ℕ) → w.node i ≡ true → gone i ≡ false
  not-gone i n = ⊎_elim (λ (g : gone i ≡ true). absurd (true-false n (R.node i ∙ ap (λ (b : Bool). v.node i && not b) g ∙ and-false (v.node i)))) (λ g. g) (bool_cases (gone i))

  back : (i : ℕ) → folder_at w i ≡ true → folder_at v i ≡ true
  back i f = sym (folder-same i (not-gone i (folder-is w i f))) ∙ f

  lives-stays : (i : ℕ) → Lives v i → gone i ≡ false
  lives-stays i l = ⊎_elim (λ (g : gone i ≡ true). absurd (l.links (loose i g (folder-is v i l.folder)))) (λ g. g) (bool_cases (gone i))

  -- ---- counts

  names_same : (f x : ℕ) → folder_at w f ≡ true → names_of w f x ≡ names_of v f x
  unfolding names_of
  names_same f x d =
      ap (λ (m : ℕ). count_to (λ j. eqb (w.slot f (2 + j)).id x) (m - 2)) (R.blocks f (folder-is w f d))
      ∙ count_to-cong (λ j. eqb (w.slot f (2 + j)).id x) (λ j. eqb (v.slot f (2 + j)).id x) (v.blocks f - 2) (λ j l. ap (λ (s : DiskEntry). eqb s.id x) (R.slot f d (2 + j) (omega arith)))

  subs-same : (f : ℕ) → folder_at w f ≡ true → subs_of w f ≡ subs_of v f
  unfolding subs_of
  subs-same f d =
      ap (λ (m : ℕ). count_to (λ j. is_folder (w.slot f (2 + j)).kind) (m - 2)) (R.blocks f (folder-is w f d))
      ∙ count_to-cong (λ j. is_folder (w.slot f (2 + j)).kind) (λ j. is_folder (v.slot f (2 + j)).kind) (v.blocks f - 2) (λ j l. ap (λ (s : DiskEntry). is_folder s.kind) (R.slot f d (2 + j) (omega arith)))

  names-none : (f x : ℕ) → gone f ≡ true → folder_at v f ≡ true → names_of v f x ≡ 0
  unfolding names_of count_to sum_to
  names-none f x g d = ap (λ (m : ℕ). count_to (λ j. eqb (v.slot f (2 + j)).id x) (m - 2)) (none-removed v I f d (loose f g (folder-is v f d))).slots

  all-names : (x : ℕ) → all_names w x ≡ all_names v x
  unfolding all_names
  all-names x =
      ap (sum_to (λ f. pick (folder_at w f) (names_of w f x) 0)) R.ids
      ∙ sum_to-cong (λ f. pick (folder_at w f) (names_of w f x) 0) (λ f. pick (folder_at v f) (names_of v f x) 0) v.ids (λ f l.
      ⊎_elim
      (λ (g : gone f ≡ true). ap (λ (b : Bool). pick b (names_of w f x) 0) (folder-gone f g) ∙ zeroes f g (folder_at v f) refl)
      (λ (g : gone f ≡ false). pick-like (folder_at w f) (λ d. names_same f x d) ∙ ap (λ (b : Bool). pick b (names_of v f x) 0) (folder-same f g))
      (bool_cases (gone f)))
    where
      zeroes : (f : ℕ) → gone f ≡ true → (b : Bool) → folder_at v f ≡ b → 0 ≡ pick b (names_of v f x) 0
      zeroes f g true d = sym (names-none f x g d)
      zeroes f g false d = refl

  -- who goes is not named
  unnamed : (x : ℕ) → gone x ≡ true → v.node x ≡ true → all_names v x ≡ 0
  unnamed x g n =
      ⊎_elim
      (λ (f : folder_at v x ≡ true). (none-removed v I x f (loose x g n)).unnamed)
      (λ (f : folder_at v x ≡ false). sym (I.other x n f) ∙ loose x g n)
      (bool_cases (folder_at v x))

  -- ---- slots

  later : (i k : ℕ) → folder_at v i ≡ true → 2 ≤ k → k < v.blocks i → LaterIn style v (v.slot i k) → LaterIn style w (v.slot i k)
  later i k f x y L =
      let id : ℕ = (v.slot i k).id in
      let g : gone (v.slot i k).id ≡ false = ⊎_elim
      (λ (g : gone (v.slot i k).id ≡ true). absurd (omega (arith, unnamed (v.slot i k).id g L.node, slot_counts v i k (v.slot i k).id x y refl, names-part v I (v.slot i k).id i f)))
      (λ g. g) (bool_cases (gone (v.slot i k).id)) in
      let n : w.node (v.slot i k).id ≡ true = stays (v.slot i k).id L.node g in
      record { ended = L.ended; some = L.some; no-dot = L.no-dot; no-dots = L.no-dots; spelt = L.spelt; node = n; kind = R.kind (v.slot i k).id n ∙ L.kind }

  folder-in : (i : ℕ) → folder_at w i ≡ true → FolderIn style w i
  folder-in i f =
      let g : folder_at v i ≡ true = back i f in
      let F = I.folder i g in
      let b = R.blocks i (folder-is w i f) in
      let s : (k : ℕ) → k < v.blocks i → w.slot i k ≡ v.slot i k = R.slot i f in
      record {
        blocks = omega (arith, F.blocks, b);
        length = R.long i (folder-is w i f) ∙ F.length ∙ ap (λ (m : ℕ). 264 * m) (sym b);
        dot = rw (s 0 (omega (arith, F.blocks))) F.dot;
        own = rw (s 0 (omega (arith, F.blocks))) F.own;
        dot-kind = rw (s 0 (omega (arith, F.blocks))) F.dot-kind;
        dots = rw (s 1 (omega (arith, F.blocks))) F.dots;
        dots-kind = rw (s 1 (omega (arith, F.blocks))) F.dots-kind;
        later = λ k x y. let l : k < v.blocks i = omega (arith, b) in rw (s k l) (later i k g x l (F.later k x l));
        distinct = λ j k x y z. let l : k < v.blocks i = omega (arith, b) in rw (s j (omega arith), s k l) (F.distinct j k x y l);
      }

  -- ---- parents

  lived : (i : ℕ) → Lives w i → Lives v i
  lived i l = record { folder = back i l.folder; links = λ z. l.links (R.links i (folder-is w i l.folder) ∙ z) }

  live : (i : ℕ) → Lives v i → Lives w i
  live i l =
      let g = lives-stays i l in
      record { folder = folder-same i g ∙ l.folder; links = λ z. l.links (sym (R.links i (stays i (folder-is v i l.folder) g)) ∙ z) }

  parent-same : (i : ℕ) → Lives v i → parent w i ≡ parent v i
  parent-same i l = ap (λ (s : DiskEntry). s.id) (R.slot i (live i l).folder 1 (omega (arith, (I.folder i l.folder).blocks)))

  up_same : (i : ℕ) → Lives v i → (n : ℕ) → (up w i n ≡ up v i n) × Lives v (up v i n)
  unfolding up
  up_same i l zero = (refl, l)
  up_same i l (suc n) =
      let q = up_same i l n in
      (ap (parent w) q.0 ∙ parent-same (up v i n) q.1, parent-lives v I (up v i n) q.1)

  pub stays-tidy : Tidy style w
  stays-tidy = record {
    below = λ i n. subst (λ (m : ℕ). i < m) (sym R.ids) (I.below i (was i n));
    two = live 2 I.two;
    folder = folder-in;
    sized = λ i n f. R.long i n ∙ I.sized i (was i n) (sym (folder-same i (not-gone i n)) ∙ f) ∙ sym (R.size i n);
    other = λ i n f. R.links i n ∙ I.other i (was i n) (sym (folder-same i (not-gone i n)) ∙ f) ∙ sym (all-names i);
    unnamed = λ i n f z.
        let e : v.links i ≡ 0 = sym (R.links i n) ∙ z in
        opens i n e (I.unnamed i (was i n) (sym (folder-same i (not-gone i n)) ∙ f) e);
    either = λ i f.
        let n = folder-is w i f in
        ⊎_elim
        (λ (L : LinkedIn v i). inl (record { links = R.links i n ∙ L.links ∙ ap (λ (z : ℕ). 2 + z) (sym (subs-same i f)); root = λ z. all-names i ∙ L.root z; once = λ z. all-names i ∙ L.once z }))
        (λ (L : RemovedIn v i). inr (record { apart = L.apart; opened = opens i n L.links L.opened; links = R.links i n ∙ L.links; unnamed = all-names i ∙ L.unnamed; slots = R.blocks i n ∙ L.slots }))
        (I.either i (back i f));
    root = parent-same 2 I.two ∙ I.root;
    parents = λ i l n. let o = lived i l in ap (folder_at w) (parent-same i o) ∙ (live (parent v i) (parent-lives v I i o)).folder;
    names = λ i l n.
        let o = lived i l in
        let N = I.names i o n in
        let p = live (parent v i) (parent-lives v I i o) in
        subst (λ (p : ℕ). NamedBy w p i) (sym (parent-same i o))
        (record { at = N.at; later = N.later; inside = omega (arith, N.inside, R.blocks (parent v i) (folder-is w (parent v i) p.folder)); is = ap (λ (s : DiskEntry). s.id) (R.slot (parent v i) p.folder N.at N.inside) ∙ N.is });
    climbs = λ i l. let o = lived i l in let q = I.climbs i o in (q.0, (up_same i o q.0).0 ∙ q.1);
  }
