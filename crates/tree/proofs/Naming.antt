-- A folder gets one slot more, at its end, that names a node: a file, or a folder without links whose `..` is that folder. Links rise by what is
-- named: the node's by one, or by two where it is a folder, and then the folder's own by one. A tidy tree stays so.
use mathlib.Core.Path.{◌≡◌, refl, sym, ap, ◌∙◌, subst}
use mathlib.Core.Bool.{Bool, true, false, ◌&&◌}
use mathlib.Core.List.{[], ◌∷◌}
use mathlib.Core.Logic.{◌≢◌, ◌⊎◌, inl, inr, ⊎_elim}
use Prim.Native.Nat.{ℕ, zero, suc, ◌+◌, ◌*◌, ◌-◌, ◌≤◌, ◌<◌}
use native.Mathlib.Omega.{arith}
use lib.Dec.{eqb}
use borrow.Author.Tests.{eq-eqb, ne_eqb}
use Rattle.base.specs.Count.{bit, sum_to, count_to}
use Rattle.base.specs.Search.{pick}
use Rattle.base.proofs.Bools.{bool_cases, true-false}
use Rattle.base.proofs.Counts.{sum_to-change, count_to-more, count_to-cong}
use Rattle.base.proofs.Finds.{eq-cases}
use Rattle.base.proofs.Numbers.{lt-or-le}
use Rattle.structs.specs.Types.{is_folder}
use Rattle.structs.specs.declared.DiskEntry.{DiskEntry}
use Rattle.utf8.specs.Names.{name_of, zero_at, EndedAt, has_slash}
use Rattle.tree.proofs.Trees.{spelt-new, pick-like, folder-is, lives-linked, none-removed, parent-lives, up_first}
use Rattle.tree.specs.Tree.{Spelling, Tree, folder_at, names_of, all_names, subs_of, parent, up, LaterIn, FolderIn, LinkedIn, RemovedIn, Lives, NamedBy, Tidy}

-- w is v, with slot e for node c at the end of folder d
pub record Names (v w : Tree) (d c : ℕ) (e : DiskEntry) : Type 0 where
  pub ids : w.ids ≡ v.ids
  pub node : (i : ℕ) → w.node i ≡ v.node i
  pub kind : (i : ℕ) → v.node i ≡ true → w.kind i ≡ v.kind i
  pub opened : (i : ℕ) → v.node i ≡ true → v.opened i ≡ true → w.opened i ≡ true
  pub slots : (i : ℕ) → folder_at v i ≡ true → (k : ℕ) → k < v.blocks i → w.slot i k ≡ v.slot i k
  pub blocks : (i : ℕ) → folder_at v i ≡ true → i ≢ d → w.blocks i ≡ v.blocks i
  pub size : (i : ℕ) → v.node i ≡ true → w.size i ≡ v.size i
  pub long : (i : ℕ) → v.node i ≡ true → i ≢ d → w.long i ≡ v.long i
  pub more : w.blocks d ≡ v.blocks d + 1
  pub longer : w.long d ≡ 264 * (v.blocks d + 1)
  pub new : w.slot d (v.blocks d) ≡ e
  pub links : (i : ℕ) → v.node i ≡ true → i ≢ c → i ≢ d → w.links i ≡ v.links i
  pub child : w.links c ≡ v.links c + 1 + bit (is_folder (v.kind c))
  pub own : w.links d ≡ v.links d + bit (is_folder (v.kind c))

-- such a slot may come
pub record May (v : Tree) (d c : ℕ) (e : DiskEntry) : Type 0 where
  pub lives : Lives v d
  pub node : v.node c ≡ true
  pub apart : c ≢ d
  pub id : e.id ≡ c
  pub kind : e.kind ≡ v.kind c
  pub ended : EndedAt e.name (zero_at e.name)
  pub some : name_of e.name ≢ []
  pub no-dot : name_of e.name ≢ 46 ∷ []
  pub no-dots : name_of e.name ≢ 46 ∷ 46 ∷ []
  pub no_slash : has_slash (name_of e.name) ≡ false
  pub fresh : (k : ℕ) → 2 ≤ k → k < v.blocks d → name_of (v.slot d k).name ≢ name_of e.name
  pub loose : is_folder (v.kind c) ≡ true → v.links c ≡ 0
  pub under : is_folder (v.kind c) ≡ true → parent v c ≡ d

-- two slots name nobody
pub none-subs : (v : Tree) (i : ℕ) → v.blocks i ≡ 2 → subs_of v i ≡ 0
unfolding subs_of count_to sum_to
none-subs v i z = ap (λ (m : ℕ). count_to (λ j. is_folder (v.slot i (2 + j)).kind) (m - 2)) z

module _ (v w : Tree) (d c : ℕ) (e : DiskEntry) {style : Spelling} (I : Tidy style v) (R : Names v w d c e) (P : May v d c e) where
  abbrev dir : Bool
  dir = is_folder (v.kind c)

  folder-same : (i : ℕ) → folder_at w i ≡ folder_at v i
  folder-same i =
      ap (λ (b : Bool). b && is_folder (w.kind i)) (R.node i)
      ∙ ⊎_elim
      (λ (n : v.node i ≡ true). ap (λ (k : ℕ). v.node i && is_folder k) (R.kind i n))
      (λ (n : v.node i ≡ false). rw n refl)
      (bool_cases (v.node i))

  back : (i : ℕ) → folder_at w i ≡ true → folder_at v i ≡ true
  back i f = sym (folder-same i) ∙ f

  c-folder : folder_at v c ≡ dir
  c-folder = ap (λ (b : Bool). b && dir) P.node

  two_blocks : 2 ≤ v.blocks d
  two_blocks = (I.folder d P.lives.folder).blocks

  last-is : 2 + (v.blocks d - 2) ≡ v.blocks d
  last-is = omega (arith, two_blocks)

  -- ---- counts

  count-other : (q : DiskEntry → Bool) (i : ℕ) → folder_at v i ≡ true → i ≢ d → count_to (λ j. q (w.slot i (2 + j))) (w.blocks i - 2) ≡ count_to (λ j. q (v.slot i (2 + j))) (v.blocks i - 2)
  count-other q i f n =
      ap (λ (m : ℕ). count_to (λ j. q (w.slot i (2 + j))) (m - 2)) (R.blocks i f n)
      ∙ count_to-cong (λ j. q (w.slot i (2 + j))) (λ j. q (v.slot i (2 + j))) (v.blocks i - 2) (λ j l. ap q (R.slots i f (2 + j) (omega arith)))

  count-own : (q : DiskEntry → Bool) → count_to (λ j. q (w.slot d (2 + j))) (w.blocks d - 2) ≡ count_to (λ j. q (v.slot d (2 + j))) (v.blocks d - 2) + bit (q e)
  count-own q =
      ap (λ (m : ℕ). count_to (λ j. q (w.slot d (2 + j))) m) (let z : w.blocks d - 2 ≡ v.blocks d - 2 + 1 = omega (arith, R.more, two_blocks) in z)
      ∙ count_to-more (λ j. q (w.slot d (2 + j))) (v.blocks d - 2)
      ∙ ap (λ (m : ℕ). m + bit (q (w.slot d (2 + (v.blocks d - 2)))))
      (count_to-cong (λ j. q (w.slot d (2 + j))) (λ j. q (v.slot d (2 + j))) (v.blocks d - 2) (λ j l. ap q (R.slots d P.lives.folder (2 + j) (omega arith))))
      ∙ ap (λ (x : DiskEntry). count_to (λ j. q (v.slot d (2 + j))) (v.blocks d - 2) + bit (q x)) (ap (w.slot d) last-is ∙ R.new)

  names-other : (i x : ℕ) → folder_at v i ≡ true → i ≢ d → names_of w i x ≡ names_of v i x
  unfolding names_of
  names-other i x f n = count-other (λ s. eqb s.id x) i f n

  names-own : (x : ℕ) → names_of w d x ≡ names_of v d x + bit (eqb c x)
  unfolding names_of
  names-own x = count-own (λ s. eqb s.id x) ∙ ap (λ (y : ℕ). count_to (λ j. eqb (v.slot d (2 + j)).id x) (v.blocks d - 2) + bit (eqb y x)) P.id

  subs-other : (i : ℕ) → folder_at v i ≡ true → i ≢ d → subs_of w i ≡ subs_of v i
  unfolding subs_of
  subs-other i f n = count-other (λ s. is_folder s.kind) i f n

  subs-own : subs_of w d ≡ subs_of v d + bit dir
  unfolding subs_of
  subs-own = count-own (λ s. is_folder s.kind) ∙ ap (λ (y : ℕ). count_to (λ j. is_folder (v.slot d (2 + j)).kind) (v.blocks d - 2) + bit (is_folder y)) P.kind

  all-names : (x : ℕ) → all_names w x ≡ all_names v x + bit (eqb c x)
  unfolding all_names
  all-names x =
      let f : ℕ → ℕ = λ i. pick (folder_at v i) (names_of v i x) 0 in
      let g : ℕ → ℕ = λ i. pick (folder_at w i) (names_of w i x) 0 in
      let h = sum_to-change (λ i. pick (folder_at v i) (names_of v i x) 0) (λ i. pick (folder_at w i) (names_of w i x) 0) v.ids d (I.below d (folder-is v d P.lives.folder))
      (λ i n. sym (ap (λ (b : Bool). pick b (names_of w i x) 0) (folder-same i) ∙ pick-like (folder_at v i) (λ y. names-other i x y n))) in
      let at-v : pick (folder_at v d) (names_of v d x) 0 ≡ names_of v d x = ap (λ (b : Bool). pick b (names_of v d x) 0) P.lives.folder in
      let at-w : pick (folder_at w d) (names_of w d x) 0 ≡ names_of w d x = ap (λ (b : Bool). pick b (names_of w d x) 0) (folder-same d ∙ P.lives.folder) in
      ap (sum_to (λ i. pick (folder_at w i) (names_of w i x) 0)) R.ids ∙ omega (arith, h, at-v, at-w, names-own x)

  names-else : (x : ℕ) → x ≢ c → all_names w x ≡ all_names v x
  names-else x n = omega (arith, all-names x, ap bit (ne_eqb c x (λ z. n (sym z))))

  names-child : all_names w c ≡ all_names v c + 1
  names-child = omega (arith, all-names c, ap bit (eq-eqb c c refl))

  -- ---- slots

  later_same : (s : DiskEntry) → LaterIn style v s → LaterIn style w s
  later_same s L = record {
    ended = L.ended;
    some = L.some;
    no-dot = L.no-dot;
    no-dots = L.no-dots;
    spelt = L.spelt;
    node = R.node s.id ∙ L.node;
    kind = R.kind s.id L.node ∙ L.kind;
  }

  later-new : LaterIn style w e
  later-new = record {
    ended = P.ended;
    some = P.some;
    no-dot = P.no-dot;
    no-dots = P.no-dots;
    spelt = spelt-new style (name_of e.name) P.no_slash;
    node = ap w.node P.id ∙ R.node c ∙ P.node;
    kind = ap w.kind P.id ∙ R.kind c P.node ∙ sym P.kind;
  }

  folder-else : (i : ℕ) → folder_at v i ≡ true → i ≢ d → FolderIn style w i
  folder-else i f n =
      let F = I.folder i f in
      let b = R.blocks i f n in
      let s : (k : ℕ) → k < v.blocks i → w.slot i k ≡ v.slot i k = R.slots i f in
      record {
        blocks = omega (arith, F.blocks, b);
        length = R.long i (folder-is v i f) n ∙ F.length ∙ ap (λ (m : ℕ). 264 * m) (sym b);
        dot = rw (s 0 (omega (arith, F.blocks))) F.dot;
        own = rw (s 0 (omega (arith, F.blocks))) F.own;
        dot-kind = rw (s 0 (omega (arith, F.blocks))) F.dot-kind;
        dots = rw (s 1 (omega (arith, F.blocks))) F.dots;
        dots-kind = rw (s 1 (omega (arith, F.blocks))) F.dots-kind;
        later = λ k x y. let l : k < v.blocks i = omega (arith, b) in rw (s k l) (later_same (v.slot i k) (F.later k x l));
        distinct = λ j k x y z. let l : k < v.blocks i = omega (arith, b) in rw (s j (omega arith), s k l) (F.distinct j k x y l);
      }

  folder-own : FolderIn style w d
  folder-own =
      let f : folder_at v d ≡ true = P.lives.folder in
      let F = I.folder d f in
      let b = R.more in
      let s : (k : ℕ) → k < v.blocks d → w.slot d k ≡ v.slot d k = R.slots d f in
      record {
        blocks = omega (arith, F.blocks, b);
        length = R.longer ∙ ap (λ (m : ℕ). 264 * m) (sym b);
        dot = rw (s 0 (omega (arith, F.blocks))) F.dot;
        own = rw (s 0 (omega (arith, F.blocks))) F.own;
        dot-kind = rw (s 0 (omega (arith, F.blocks))) F.dot-kind;
        dots = rw (s 1 (omega (arith, F.blocks))) F.dots;
        dots-kind = rw (s 1 (omega (arith, F.blocks))) F.dots-kind;
        later = λ k x y. ⊎_elim
            (λ (l : k < v.blocks d). rw (s k l) (later_same (v.slot d k) (F.later k x l)))
            (λ (l : v.blocks d ≤ k). let q : k ≡ v.blocks d = omega (arith, b) in subst (LaterIn style w) (sym (ap (w.slot d) q ∙ R.new)) later-new)
            (lt-or-le k (v.blocks d));
        distinct = λ j k x y z. ⊎_elim
            (λ (l : k < v.blocks d). rw (s j (omega arith), s k l) (F.distinct j k x y l))
            (λ (l : v.blocks d ≤ k).
            let q : k ≡ v.blocks d = omega (arith, b) in
            let m : j < v.blocks d = omega arith in
            subst (λ (y : DiskEntry). name_of (w.slot d j).name ≢ name_of y.name) (sym (ap (w.slot d) q ∙ R.new))
            (subst (λ (y : DiskEntry). name_of y.name ≢ name_of e.name) (sym (s j m)) (P.fresh j x m)))
            (lt-or-le k (v.blocks d));
      }

  -- ---- links

  file-child : (i : ℕ) → folder_at v i ≡ false → i ≡ c → bit dir ≡ 0
  file-child i f q = ap bit (sym c-folder ∙ ap (folder_at v) (sym q) ∙ f)

  not_own : (i : ℕ) → folder_at v i ≡ false → i ≢ d
  not_own i f q = true-false (ap (folder_at v) q ∙ P.lives.folder) f

  linked-own : LinkedIn w d
  linked-own =
      let L = lives-linked v I d P.lives in
      let n = names-else d (λ z. P.apart (sym z)) in
      record { links = omega (arith, R.own, L.links, subs-own); root = λ z. n ∙ L.root z; once = λ z. n ∙ L.once z }

  linked-child : dir ≡ true → LinkedIn w c
  linked-child y =
      let f : folder_at v c ≡ true = c-folder ∙ y in
      let D = none-removed v I c f (P.loose y) in
      record {
        links = omega (arith, R.child, D.links, ap bit y, subs-other c f P.apart, none-subs v c D.slots);
        root = λ z. absurd (D.apart z);
        once = λ z. omega (arith, names-child, D.unnamed);
      }

  either : (i : ℕ) → folder_at v i ≡ true → LinkedIn w i ⊎ RemovedIn w i
  either i f =
      ⊎_elim
      (λ (q : i ≡ d). inl (subst (LinkedIn w) (sym q) linked-own))
      (λ n. ⊎_elim
      (λ (q : i ≡ c). inl (subst (LinkedIn w) (sym q) (linked-child (sym c-folder ∙ ap (folder_at v) (sym q) ∙ f))))
      (λ m.
      let l = R.links i (folder-is v i f) m n in
      ⊎_elim
      (λ (L : LinkedIn v i). inl (record { links = l ∙ L.links ∙ ap (λ (z : ℕ). 2 + z) (sym (subs-other i f n)); root = λ z. names-else i m ∙ L.root z; once = λ z. names-else i m ∙ L.once z }))
      (λ (L : RemovedIn v i). inr (record { apart = L.apart; opened = R.opened i (folder-is v i f) L.opened; links = l ∙ L.links; unnamed = names-else i m ∙ L.unnamed; slots = R.blocks i f n ∙ L.slots }))
      (I.either i f))
      (eq-cases i c))
      (eq-cases i d)

  -- ---- parents

  parent-same : (i : ℕ) → folder_at v i ≡ true → parent w i ≡ parent v i
  parent-same i f = ap (λ (s : DiskEntry). s.id) (R.slots i f 1 (omega (arith, (I.folder i f).blocks)))

  -- a folder with links had them, or is the one that is named now
  lived : (i : ℕ) → Lives w i → Lives v i ⊎ ((i ≡ c) × (dir ≡ true))
  lived i l =
      let f : folder_at v i ≡ true = back i l.folder in
      ⊎_elim
      (λ (z : v.links i ≡ 0). ⊎_elim
      (λ (q : i ≡ c). inr (q, sym c-folder ∙ ap (folder_at v) (sym q) ∙ f))
      (λ n. absurd (l.links (R.links i (folder-is v i f) n (λ q. P.lives.links (ap v.links (sym q) ∙ z)) ∙ z)))
      (eq-cases i c))
      (λ n. inl (record { folder = f; links = n }))
      (eq-cases (v.links i) 0)

  blocks-le : (i : ℕ) → folder_at v i ≡ true → v.blocks i ≤ w.blocks i
  blocks-le i f =
      ⊎_elim
      (λ (q : i ≡ d). subst (λ (j : ℕ). v.blocks j ≤ w.blocks j) (sym q) (omega (arith, R.more)))
      (λ n. omega (arith, R.blocks i f n))
      (eq-cases i d)

  up_same : (i : ℕ) → Lives v i → (n : ℕ) → (up w i n ≡ up v i n) × Lives v (up v i n)
  unfolding up
  up_same i l zero = (refl, l)
  up_same i l (suc n) =
      let q = up_same i l n in
      (ap (parent w) q.0 ∙ parent-same (up v i n) q.1.folder, parent-lives v I (up v i n) q.1)

  reaches : (i : ℕ) → Lives v i → (n : ℕ) × (up w i n ≡ 2)
  reaches i l = let q = I.climbs i l in (q.0, (up_same i l q.0).0 ∙ q.1)

  parent-child : dir ≡ true → parent w c ≡ d
  parent-child y = parent-same c (c-folder ∙ y) ∙ P.under y

  old-parents : (i : ℕ) → Lives v i → i ≢ 2 → folder_at w (parent w i) ≡ true
  old-parents i l n = ap (folder_at w) (parent-same i l.folder) ∙ folder-same (parent v i) ∙ I.parents i l n

  old-names : (i : ℕ) → Lives v i → i ≢ 2 → NamedBy w (parent w i) i
  old-names i l n =
      let k = I.names i l n in
      let f : folder_at v (parent v i) ≡ true = I.parents i l n in
      subst (λ (p : ℕ). NamedBy w p i) (sym (parent-same i l.folder))
      (record { at = k.at; later = k.later; inside = omega (arith, k.inside, blocks-le (parent v i) f); is = ap (λ (s : DiskEntry). s.id) (R.slots (parent v i) f k.at k.inside) ∙ k.is })

  new-names : NamedBy w d c
  new-names = record { at = v.blocks d; later = two_blocks; inside = omega (arith, R.more); is = ap (λ (s : DiskEntry). s.id) R.new ∙ P.id }

  root-lives : Lives w 2
  root-lives = record {
    folder = folder-same 2 ∙ I.two.folder;
    links = ⊎_elim (λ (L : LinkedIn w 2). λ z. omega (arith, L.links)) (λ (L : RemovedIn w 2). absurd (L.apart refl)) (either 2 I.two.folder);
  }

  pub names-tidy : Tidy style w
  names-tidy = record {
    below = λ i n. subst (λ (m : ℕ). i < m) (sym R.ids) (I.below i (sym (R.node i) ∙ n));
    two = root-lives;
    folder = λ i f. ⊎_elim (λ (q : i ≡ d). subst (FolderIn style w) (sym q) folder-own) (λ n. folder-else i (back i f) n) (eq-cases i d);
    sized = λ i n f.
        let g : folder_at v i ≡ false = sym (folder-same i) ∙ f in
        let m : v.node i ≡ true = sym (R.node i) ∙ n in
        R.long i m (not_own i g) ∙ I.sized i m g ∙ sym (R.size i m);
    other = λ i n f.
        let g : folder_at v i ≡ false = sym (folder-same i) ∙ f in
        let m : v.node i ≡ true = sym (R.node i) ∙ n in
        ⊎_elim
        (λ (q : i ≡ c). subst (λ (j : ℕ). w.links j ≡ all_names w j) (sym q)
        (omega (arith, R.child, file-child i g q, names-child, I.other c P.node (ap (folder_at v) (sym q) ∙ g))))
        (λ z. R.links i m z (not_own i g) ∙ I.other i m g ∙ sym (names-else i z))
        (eq-cases i c);
    unnamed = λ i n f z.
        let g : folder_at v i ≡ false = sym (folder-same i) ∙ f in
        let m : v.node i ≡ true = sym (R.node i) ∙ n in
        ⊎_elim
        (λ (q : i ≡ c). absurd (let y : w.links c ≡ 0 = ap w.links (sym q) ∙ z in omega (arith, R.child)))
        (λ y. R.opened i m (I.unnamed i m g (sym (R.links i m y (not_own i g)) ∙ z)))
        (eq-cases i c);
    either = λ i f. either i (back i f);
    root = parent-same 2 I.two.folder ∙ I.root;
    parents = λ i l n. ⊎_elim
        (λ o. old-parents i o n)
        (λ (q : (i ≡ c) × (dir ≡ true)). ap (λ (j : ℕ). folder_at w (parent w j)) q.0 ∙ ap (folder_at w) (parent-child q.1) ∙ folder-same d ∙ P.lives.folder)
        (lived i l);
    names = λ i l n. ⊎_elim
        (λ o. old-names i o n)
        (λ (q : (i ≡ c) × (dir ≡ true)). subst (λ (j : ℕ). NamedBy w (parent w j) j) (sym q.0) (subst (λ (p : ℕ). NamedBy w p c) (sym (parent-child q.1)) new-names))
        (lived i l);
    climbs = λ i l. ⊎_elim
        (λ o. reaches i o)
        (λ (q : (i ≡ c) × (dir ≡ true)).
        let r = reaches d P.lives in
        (suc r.0, up_first w i r.0 ∙ ap (λ (j : ℕ). up w j r.0) (ap (parent w) q.0 ∙ parent-child q.1) ∙ r.1))
        (lived i l);
  }
