-- A folder loses a later slot, over which its last is copied: a file's, or that of a folder with two slots. Links fall by what was named. Where the
-- node has none left, it is open. A tidy tree stays so.
use mathlib.Core.Path.{◌≡◌, refl, sym, ap, ◌∙◌, subst}
use mathlib.Core.Bool.{Bool, true, false, ◌&&◌}
use mathlib.Core.Logic.{◌≢◌, ◌⊎◌, inl, inr, ⊎_elim}
use Prim.Native.Nat.{ℕ, zero, suc, ◌+◌, ◌*◌, ◌-◌, ◌≤◌, ◌<◌}
use native.Mathlib.Omega.{arith}
use lib.Dec.{eqb}
use borrow.Author.Tests.{eq-eqb, ne_eqb}
use Rattle.base.specs.Count.{bit, sum_to, count_to}
use Rattle.base.specs.Search.{pick}
use Rattle.base.proofs.Bools.{bool_cases, true-false}
use Rattle.base.proofs.Counts.{sum_to-change, count_to-more, count_to-cong, count_to-change}
use Rattle.base.proofs.Finds.{eq-cases}
use Rattle.base.proofs.Numbers.{lt-or-le}
use Rattle.structs.specs.Types.{is_folder}
use Rattle.structs.specs.declared.DiskEntry.{DiskEntry}
use Rattle.tree.proofs.Trees.{pick-like, folder-is, lives-linked, parent-lives, names-differ}
use Rattle.tree.specs.Tree.{Spelling, Tree, folder_at, names_of, all_names, subs_of, parent, up, LaterIn, FolderIn, LinkedIn, RemovedIn, Lives, NamedBy, Tidy}
use Rattle.tree.proofs.Naming.{none-subs}

-- w is v without slot k of folder d, which named node c
pub record Unnames (v w : Tree) (d c k : ℕ) : Type 0 where
  pub ids : w.ids ≡ v.ids
  pub node : (i : ℕ) → w.node i ≡ v.node i
  pub kind : (i : ℕ) → v.node i ≡ true → w.kind i ≡ v.kind i
  pub opened : (i : ℕ) → v.node i ≡ true → v.opened i ≡ true → w.opened i ≡ true
  pub slots : (i : ℕ) → folder_at v i ≡ true → i ≢ d → (j : ℕ) → j < v.blocks i → w.slot i j ≡ v.slot i j
  pub blocks : (i : ℕ) → folder_at v i ≡ true → i ≢ d → w.blocks i ≡ v.blocks i
  pub size : (i : ℕ) → v.node i ≡ true → w.size i ≡ v.size i
  pub long : (i : ℕ) → v.node i ≡ true → i ≢ d → w.long i ≡ v.long i
  pub still : (j : ℕ) → j + 1 < v.blocks d → j ≢ k → w.slot d j ≡ v.slot d j
  pub moved : k + 1 < v.blocks d → w.slot d k ≡ v.slot d (v.blocks d - 1)
  pub fewer : w.blocks d + 1 ≡ v.blocks d
  pub shorter : w.long d ≡ 264 * w.blocks d
  pub links : (i : ℕ) → v.node i ≡ true → i ≢ c → i ≢ d → w.links i ≡ v.links i
  pub child : w.links c + 1 + bit (is_folder (v.kind c)) ≡ v.links c
  pub own : w.links d + bit (is_folder (v.kind c)) ≡ v.links d
  pub held : w.links c ≡ 0 → w.opened c ≡ true

-- such a slot may go
pub record MayGo (v : Tree) (d c k : ℕ) : Type 0 where
  pub lives : Lives v d
  pub later : 2 ≤ k
  pub inside : k < v.blocks d
  pub names : (v.slot d k).id ≡ c
  pub small : is_folder (v.kind c) ≡ true → v.blocks c ≤ 2

-- one element goes, and the last takes its place
pub count-swap : (p q : ℕ → Bool) (m k : ℕ) → k ≤ m → ((j : ℕ) → j < m → j ≢ k → q j ≡ p j) → (k < m → q k ≡ p m) → count_to q m + bit (p k) ≡ count_to p (m + 1)
count-swap p q m k l same last =
    ⊎_elim
    (λ (s : k < m).
    let r : ℕ → Bool = λ j. pick (eqb j k) (p m) (p j) in
    let off : (j : ℕ) → j ≢ k → p j ≡ pick (eqb j k) (p m) (p j) = λ j n. sym (ap (λ (b : Bool). pick b (p m) (p j)) (ne_eqb j k n)) in
    let on : pick (eqb k k) (p m) (p k) ≡ p m = ap (λ (b : Bool). pick b (p m) (p k)) (eq-eqb k k refl) in
    let c = count_to-change p (λ j. pick (eqb j k) (p m) (p j)) m k s off in
    let e : count_to q m ≡ count_to (λ j. pick (eqb j k) (p m) (p j)) m = count_to-cong q (λ j. pick (eqb j k) (p m) (p j)) m (λ j h.
    ⊎_elim (λ (z : j ≡ k). subst (λ (x : ℕ). q x ≡ pick (eqb x k) (p m) (p x)) (sym z) (last s ∙ sym on)) (λ z. same j h z ∙ off j z) (eq-cases j k)) in
    omega (arith, c, e, ap bit on, count_to-more p m))
    (λ (s : m ≤ k).
    let z : k ≡ m = omega arith in
    let e : count_to q m ≡ count_to p m = count_to-cong q p m (λ j h. same j h (λ y. omega arith)) in
    omega (arith, e, ap (λ (x : ℕ). bit (p x)) z, count_to-more p m))
    (lt-or-le k m)

module _ (v w : Tree) (d c k : ℕ) {style : Spelling} (I : Tidy style v) (R : Unnames v w d c k) (P : MayGo v d c k) where
  abbrev dir : Bool
  dir = is_folder (v.kind c)

  F : FolderIn style v d
  F = I.folder d P.lives.folder

  L : LaterIn style v (v.slot d k)
  L = F.later k P.later P.inside

  node-c : v.node c ≡ true
  node-c = ap v.node (sym P.names) ∙ L.node

  kind-c : v.kind c ≡ (v.slot d k).kind
  kind-c = ap v.kind (sym P.names) ∙ L.kind

  c-folder : folder_at v c ≡ dir
  c-folder = ap (λ (b : Bool). b && dir) node-c

  apart : c ≢ d
  apart q = omega (arith, P.later, P.inside, ap v.blocks q, P.small (sym c-folder ∙ ap (folder_at v) q ∙ P.lives.folder))

  folder-same : (i : ℕ) → folder_at w i ≡ folder_at v i
  folder-same i =
      ap (λ (b : Bool). b && is_folder (w.kind i)) (R.node i)
      ∙ ⊎_elim
      (λ (n : v.node i ≡ true). ap (λ (x : ℕ). v.node i && is_folder x) (R.kind i n))
      (λ (n : v.node i ≡ false). rw n refl)
      (bool_cases (v.node i))

  back : (i : ℕ) → folder_at w i ≡ true → folder_at v i ≡ true
  back i f = sym (folder-same i) ∙ f

  -- ---- counts

  count-other : (q : DiskEntry → Bool) (i : ℕ) → folder_at v i ≡ true → i ≢ d → count_to (λ j. q (w.slot i (2 + j))) (w.blocks i - 2) ≡ count_to (λ j. q (v.slot i (2 + j))) (v.blocks i - 2)
  count-other q i f n =
      ap (λ (m : ℕ). count_to (λ j. q (w.slot i (2 + j))) (m - 2)) (R.blocks i f n)
      ∙ count_to-cong (λ j. q (w.slot i (2 + j))) (λ j. q (v.slot i (2 + j))) (v.blocks i - 2) (λ j l. ap q (R.slots i f n (2 + j) (omega arith)))

  count-own : (q : DiskEntry → Bool) → count_to (λ j. q (w.slot d (2 + j))) (w.blocks d - 2) + bit (q (v.slot d k)) ≡ count_to (λ j. q (v.slot d (2 + j))) (v.blocks d - 2)
  count-own q =
      let m : ℕ = w.blocks d - 2 in
      let at : 2 + (k - 2) ≡ k = omega (arith, P.later) in
      let end : 2 + (w.blocks d - 2) ≡ v.blocks d - 1 = omega (arith, P.later, P.inside, R.fewer) in
      ap (λ (x : ℕ). count_to (λ j. q (w.slot d (2 + j))) (w.blocks d - 2) + bit (q (v.slot d x))) (sym at)
      ∙ count-swap (λ j. q (v.slot d (2 + j))) (λ j. q (w.slot d (2 + j))) (w.blocks d - 2) (k - 2) (omega (arith, P.later, P.inside, R.fewer))
      (λ j l n. ap q (R.still (2 + j) (omega (arith, R.fewer)) (λ z. n (omega arith))))
      (λ l. ap q (ap (w.slot d) at ∙ R.moved (omega (arith, P.later, R.fewer)) ∙ ap (v.slot d) (sym end)))
      ∙ ap (λ (x : ℕ). count_to (λ j. q (v.slot d (2 + j))) x) (let z : w.blocks d - 2 + 1 ≡ v.blocks d - 2 = omega (arith, P.later, P.inside, R.fewer) in z)

  names-other : (i x : ℕ) → folder_at v i ≡ true → i ≢ d → names_of w i x ≡ names_of v i x
  unfolding names_of
  names-other i x f n = count-other (λ s. eqb s.id x) i f n

  names-own : (x : ℕ) → names_of w d x + bit (eqb c x) ≡ names_of v d x
  unfolding names_of
  names-own x = ap (λ (y : ℕ). count_to (λ j. eqb (w.slot d (2 + j)).id x) (w.blocks d - 2) + bit (eqb y x)) (sym P.names) ∙ count-own (λ s. eqb s.id x)

  subs-other : (i : ℕ) → folder_at v i ≡ true → i ≢ d → subs_of w i ≡ subs_of v i
  unfolding subs_of
  subs-other i f n = count-other (λ s. is_folder s.kind) i f n

  subs-own : subs_of w d + bit dir ≡ subs_of v d
  unfolding subs_of
  subs-own = ap (λ (y : ℕ). count_to (λ j. is_folder (w.slot d (2 + j)).kind) (w.blocks d - 2) + bit (is_folder y)) kind-c ∙ count-own (λ s. is_folder s.kind)

  all-names : (x : ℕ) → all_names w x + bit (eqb c x) ≡ all_names v x
  unfolding all_names
  all-names x =
      let h = sum_to-change (λ i. pick (folder_at v i) (names_of v i x) 0) (λ i. pick (folder_at w i) (names_of w i x) 0) v.ids d (I.below d (folder-is v d P.lives.folder))
      (λ i n. sym (ap (λ (b : Bool). pick b (names_of w i x) 0) (folder-same i) ∙ pick-like (folder_at v i) (λ y. names-other i x y n))) in
      let at-v : pick (folder_at v d) (names_of v d x) 0 ≡ names_of v d x = ap (λ (b : Bool). pick b (names_of v d x) 0) P.lives.folder in
      let at-w : pick (folder_at w d) (names_of w d x) 0 ≡ names_of w d x = ap (λ (b : Bool). pick b (names_of w d x) 0) (folder-same d ∙ P.lives.folder) in
      ap (λ (m : ℕ). sum_to (λ i. pick (folder_at w i) (names_of w i x) 0) m + bit (eqb c x)) R.ids ∙ omega (arith, h, at-v, at-w, names-own x)

  names-else : (x : ℕ) → x ≢ c → all_names w x ≡ all_names v x
  names-else x n = omega (arith, all-names x, ap bit (ne_eqb c x (λ z. n (sym z))))

  names-child : all_names w c + 1 ≡ all_names v c
  names-child = omega (arith, all-names c, ap bit (eq-eqb c c refl))

  -- ---- slots

  later_same : (s : DiskEntry) → LaterIn style v s → LaterIn style w s
  later_same s N = record {
    ended = N.ended;
    some = N.some;
    no-dot = N.no-dot;
    no-dots = N.no-dots;
    spelt = N.spelt;
    node = R.node s.id ∙ N.node;
    kind = R.kind s.id N.node ∙ N.kind;
  }

  folder-else : (i : ℕ) → folder_at v i ≡ true → i ≢ d → FolderIn style w i
  folder-else i f n =
      let G = I.folder i f in
      let b = R.blocks i f n in
      let s : (j : ℕ) → j < v.blocks i → w.slot i j ≡ v.slot i j = R.slots i f n in
      record {
        blocks = omega (arith, G.blocks, b);
        length = R.long i (folder-is v i f) n ∙ G.length ∙ ap (λ (m : ℕ). 264 * m) (sym b);
        dot = rw (s 0 (omega (arith, G.blocks))) G.dot;
        own = rw (s 0 (omega (arith, G.blocks))) G.own;
        dot-kind = rw (s 0 (omega (arith, G.blocks))) G.dot-kind;
        dots = rw (s 1 (omega (arith, G.blocks))) G.dots;
        dots-kind = rw (s 1 (omega (arith, G.blocks))) G.dots-kind;
        later = λ j x y. let l : j < v.blocks i = omega (arith, b) in rw (s j l) (later_same (v.slot i j) (G.later j x l));
        distinct = λ h j x y z. let l : j < v.blocks i = omega (arith, b) in rw (s h (omega arith), s j l) (G.distinct h j x y l);
      }

  first : (j : ℕ) → j < 2 → w.slot d j ≡ v.slot d j
  first j l = R.still j (omega (arith, P.later, P.inside)) (λ z. omega (arith, P.later))

  -- the slot that stands at j now stood at another place
  record Was (j : ℕ) : Type 0 where
    at : ℕ
    later : 2 ≤ at
    inside : at < v.blocks d
    is : w.slot d j ≡ v.slot d at
    how : ((j ≡ k) × (at + 1 ≡ v.blocks d)) ⊎ ((j ≢ k) × (at ≡ j))

  was : (j : ℕ) → 2 ≤ j → j < w.blocks d → Was j
  was j x y =
      ⊎_elim
      (λ (z : j ≡ k). record {
        at = v.blocks d - 1;
        later = omega (arith, P.later, R.fewer);
        inside = omega (arith, R.fewer);
        is = ap (w.slot d) z ∙ R.moved (omega (arith, R.fewer));
        how = inl (z, omega (arith, R.fewer));
      })
      (λ z. record { at = j; later = x; inside = omega (arith, R.fewer); is = R.still j (omega (arith, R.fewer)) z; how = inr (z, refl) })
      (eq-cases j k)

  folder-own : FolderIn style w d
  folder-own = record {
    blocks = omega (arith, P.later, P.inside, R.fewer);
    length = R.shorter;
    dot = rw (first 0 (omega arith)) F.dot;
    own = rw (first 0 (omega arith)) F.own;
    dot-kind = rw (first 0 (omega arith)) F.dot-kind;
    dots = rw (first 1 (omega arith)) F.dots;
    dots-kind = rw (first 1 (omega arith)) F.dots-kind;
    later = λ j x y. let s = was j x y in subst (LaterIn style w) (sym s.is) (later_same (v.slot d s.at) (F.later s.at s.later s.inside));
    distinct = λ h j x y z.
        let s = was h x (omega arith) in
        let t = was j (omega arith) z in
        let n : s.at ≢ t.at = λ q. ⊎_elim
        (λ (a : (h ≡ k) × (s.at + 1 ≡ v.blocks d)). ⊎_elim
        (λ (b : (j ≡ k) × (t.at + 1 ≡ v.blocks d)). omega (arith, a.0, b.0))
        (λ (b : (j ≢ k) × (t.at ≡ j)). omega (arith, a.1, b.1, R.fewer))
        t.how)
        (λ (a : (h ≢ k) × (s.at ≡ h)). ⊎_elim
        (λ (b : (j ≡ k) × (t.at + 1 ≡ v.blocks d)). omega (arith, a.1, b.1, R.fewer))
        (λ (b : (j ≢ k) × (t.at ≡ j)). omega (arith, a.1, b.1))
        t.how)
        s.how in
        rw (s.is, t.is) (names-differ v d F s.at t.at n s.later t.later s.inside t.inside);
  }

  -- ---- links

  file-child : (i : ℕ) → folder_at v i ≡ false → i ≡ c → bit dir ≡ 0
  file-child i f q = ap bit (sym c-folder ∙ ap (folder_at v) (sym q) ∙ f)

  not_own : (i : ℕ) → folder_at v i ≡ false → i ≢ d
  not_own i f q = true-false (ap (folder_at v) q ∙ P.lives.folder) f

  linked-own : LinkedIn w d
  linked-own =
      let N = lives-linked v I d P.lives in
      let n = names-else d (λ z. apart (sym z)) in
      record { links = omega (arith, R.own, N.links, subs-own); root = λ z. n ∙ N.root z; once = λ z. n ∙ N.once z }

  removed-child : dir ≡ true → RemovedIn w c
  removed-child y =
      let f : folder_at v c ≡ true = c-folder ∙ y in
      let two : v.blocks c ≡ 2 = omega (arith, (I.folder c f).blocks, P.small y) in
      let N : LinkedIn v c = ⊎_elim (λ h. h) (λ (h : RemovedIn v c). absurd (omega (arith, h.unnamed, names-child))) (I.either c f) in
      let n : c ≢ 2 = λ z. omega (arith, N.root z, names-child) in
      let z : w.links c ≡ 0 = omega (arith, R.child, N.links, ap bit y, none-subs v c two) in
      record {
        apart = n;
        opened = R.held z;
        links = z;
        unnamed = omega (arith, N.once n, names-child);
        slots = R.blocks c f apart ∙ two;
      }

  either : (i : ℕ) → folder_at v i ≡ true → LinkedIn w i ⊎ RemovedIn w i
  either i f =
      ⊎_elim
      (λ (q : i ≡ d). inl (subst (LinkedIn w) (sym q) linked-own))
      (λ n. ⊎_elim
      (λ (q : i ≡ c). inr (subst (RemovedIn w) (sym q) (removed-child (sym c-folder ∙ ap (folder_at v) (sym q) ∙ f))))
      (λ m.
      let l = R.links i (folder-is v i f) m n in
      ⊎_elim
      (λ (N : LinkedIn v i). inl (record { links = l ∙ N.links ∙ ap (λ (z : ℕ). 2 + z) (sym (subs-other i f n)); root = λ z. names-else i m ∙ N.root z; once = λ z. names-else i m ∙ N.once z }))
      (λ (N : RemovedIn v i). inr (record { apart = N.apart; opened = R.opened i (folder-is v i f) N.opened; links = l ∙ N.links; unnamed = names-else i m ∙ N.unnamed; slots = R.blocks i f n ∙ N.slots }))
      (I.either i f))
      (eq-cases i c))
      (eq-cases i d)

  -- ---- parents

  parent-same : (i : ℕ) → folder_at v i ≡ true → parent w i ≡ parent v i
  parent-same i f =
      ⊎_elim
      (λ (q : i ≡ d). subst (λ (j : ℕ). parent w j ≡ parent v j) (sym q) (ap (λ (s : DiskEntry). s.id) (first 1 (omega arith))))
      (λ n. ap (λ (s : DiskEntry). s.id) (R.slots i f n 1 (omega (arith, (I.folder i f).blocks))))
      (eq-cases i d)

  lived : (i : ℕ) → Lives w i → Lives v i × (i ≢ c)
  lived i l =
      let f : folder_at v i ≡ true = back i l.folder in
      let n : i ≢ c = λ q. l.links (ap w.links q ∙ (removed-child (sym c-folder ∙ ap (folder_at v) (sym q) ∙ f)).links) in (
        record {
          folder = f;
          links = ⊎_elim
              (λ (q : i ≡ d). subst (λ (j : ℕ). v.links j ≢ 0) (sym q) P.lives.links)
              (λ m. λ z. l.links (R.links i (folder-is v i f) n m ∙ z))
              (eq-cases i d);
        },
        n,
      )

  up_same : (i : ℕ) → Lives v i → (n : ℕ) → (up w i n ≡ up v i n) × Lives v (up v i n)
  unfolding up
  up_same i l zero = (refl, l)
  up_same i l (suc n) =
      let q = up_same i l n in
      (ap (parent w) q.0 ∙ parent-same (up v i n) q.1.folder, parent-lives v I (up v i n) q.1)

  -- a folder that names i, and does not lose that slot, names it still
  names-still : (p i : ℕ) → folder_at v p ≡ true → i ≢ c → NamedBy v p i → NamedBy w p i
  names-still p i f n N =
      ⊎_elim
      (λ (q : p ≡ d). subst (λ (x : ℕ). NamedBy w x i) (sym q) (own (subst (λ (x : ℕ). NamedBy v x i) q N)))
      (λ m. record { at = N.at; later = N.later; inside = omega (arith, N.inside, R.blocks p f m); is = ap (λ (s : DiskEntry). s.id) (R.slots p f m N.at N.inside) ∙ N.is })
      (eq-cases p d)
    where
      own : NamedBy v d i → NamedBy w d i
      own B =
          let not-k : B.at ≢ k = λ z. n (sym B.is ∙ ap (λ (x : ℕ). (v.slot d x).id) z ∙ P.names) in
          ⊎_elim
          (λ (l : B.at + 1 < v.blocks d). record { at = B.at; later = B.later; inside = omega (arith, R.fewer); is = ap (λ (s : DiskEntry). s.id) (R.still B.at l not-k) ∙ B.is })
          (λ (l : v.blocks d ≤ B.at + 1).
          let z : B.at ≡ v.blocks d - 1 = omega (arith, B.inside) in
          let m : k + 1 < v.blocks d = ⊎_elim (λ y. y) (λ y. absurd (not-k (omega (arith, P.inside)))) (lt-or-le (k + 1) (v.blocks d)) in
          record { at = k; later = P.later; inside = omega (arith, R.fewer); is = ap (λ (s : DiskEntry). s.id) (R.moved m) ∙ ap (λ (x : ℕ). (v.slot d x).id) (sym z) ∙ B.is })
          (lt-or-le (B.at + 1) (v.blocks d))

  root-lives : Lives w 2
  root-lives = record {
    folder = folder-same 2 ∙ I.two.folder;
    links = ⊎_elim (λ (N : LinkedIn w 2). λ z. omega (arith, N.links)) (λ (N : RemovedIn w 2). absurd (N.apart refl)) (either 2 I.two.folder);
  }

  pub unnames-tidy : Tidy style w
  unnames-tidy = record {
    below = λ i n. subst (λ (m : ℕ). i < m) (sym R.ids) (I.below i (sym (R.node i) ∙ n));
    two = root-lives;
    folder = λ i f. ⊎_elim (λ (q : i ≡ d). subst (FolderIn style w) (sym q) folder-own) (λ n. folder-else i (back i f) n) (eq-cases i d);
    sized = λ i n f.
        let g : folder_at v i ≡ false = sym (folder-same i) ∙ f in
        let m : v.node i ≡ true = sym (R.node i) ∙ n in
        R.long i m (not_own i g) ∙ I.sized i m g ∙ sym (R.size i m);
    other = λ i n f.
        let g : folder_at v i ≡ false = sym (folder-same i) ∙ f in
        let m : v.node i ≡ true = sym (R.node i) ∙ n in
        ⊎_elim
        (λ (q : i ≡ c). subst (λ (j : ℕ). w.links j ≡ all_names w j) (sym q)
        (omega (arith, R.child, file-child i g q, names-child, I.other c node-c (ap (folder_at v) (sym q) ∙ g))))
        (λ z. R.links i m z (not_own i g) ∙ I.other i m g ∙ sym (names-else i z))
        (eq-cases i c);
    unnamed = λ i n f z.
        let g : folder_at v i ≡ false = sym (folder-same i) ∙ f in
        let m : v.node i ≡ true = sym (R.node i) ∙ n in
        ⊎_elim
        (λ (q : i ≡ c). ap w.opened q ∙ R.held (ap w.links (sym q) ∙ z))
        (λ y. R.opened i m (I.unnamed i m g (sym (R.links i m y (not_own i g)) ∙ z)))
        (eq-cases i c);
    either = λ i f. either i (back i f);
    root = parent-same 2 I.two.folder ∙ I.root;
    parents = λ i l n. let o = lived i l in ap (folder_at w) (parent-same i o.0.folder) ∙ folder-same (parent v i) ∙ I.parents i o.0 n;
    names = λ i l n. let o = lived i l in
        subst (λ (p : ℕ). NamedBy w p i) (sym (parent-same i o.0.folder)) (names-still (parent v i) i (I.parents i o.0 n) o.1 (I.names i o.0 n));
    climbs = λ i l. let o = lived i l in let q = I.climbs i o.0 in (q.0, (up_same i o.0 q.0).0 ∙ q.1);
  }
