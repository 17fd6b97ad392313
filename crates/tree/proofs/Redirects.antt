-- A folder of a tree gets a slot for a file: one more at its end, or in the place of another file's slot with that name, which is named once less.
-- A tidy tree stays so.
use mathlib.Core.Path.{◌≡◌, refl, sym, ap, ◌∙◌, subst}
use mathlib.Core.Bool.{Bool, true, false, ◌&&◌}
use mathlib.Core.Logic.{◌≢◌, inl, inr, ⊎_elim}
use Prim.Native.Nat.{ℕ, zero, suc, ◌+◌, ◌*◌, ◌-◌, ◌≤◌, ◌<◌}
use native.Mathlib.Omega.{arith}
use lib.Dec.{eqb}
use borrow.Author.Tests.{eq-eqb, ne_eqb}
use Rattle.base.specs.Count.{bit, count_to}
use Rattle.base.specs.Search.{pick}
use Rattle.base.proofs.Bools.{true-false, and-false}
use Rattle.base.proofs.Counts.{sum_to-change, count_to-cong, count_to-change}
use Rattle.base.proofs.Finds.{eq-cases}
use Rattle.structs.specs.Types.{is_folder}
use Rattle.structs.specs.declared.DiskEntry.{DiskEntry}
use Rattle.utf8.specs.Names.{name_of, zero_at, EndedAt}
use Rattle.tree.specs.Tree.{Spelling, Spelt, Tree, folder_at, names_of, all_names, subs_of, parent, up, LaterIn, FolderIn, LinkedIn, RemovedIn, Lives, NamedBy, Tidy}
use Rattle.tree.proofs.Trees.{folder-is, at, at_here, at-else}
use Rattle.tree.proofs.Naming.{May, names-tidy}

-- the tree whose folder f has l slots, the k-th of them e, and whose nodes have links as L says
abbrev pub onto : Tree → ℕ → ℕ → ℕ → DiskEntry → (ℕ → ℕ) → Tree
onto v f k l e L = record {
  ids = v.ids;
  node = v.node;
  kind = v.kind;
  links = L;
  blocks = at f l v.blocks;
  size = v.size;
  long = at f (264 * l) v.long;
  slot = λ i m. pick (eqb i f && eqb m k) e (v.slot i m);
  opened = v.opened;
}

module _ (v : Tree) (f k l : ℕ) (e : DiskEntry) (L : ℕ → ℕ) where
  pub onto-here : (onto v f k l e L).slot f k ≡ e
  onto-here = ap (λ (b : Bool). pick (b && eqb k k) e (v.slot f k)) (eq-eqb f f refl) ∙ ap (λ (b : Bool). pick b e (v.slot f k)) (eq-eqb k k refl)

  pub onto-apart : (i m : ℕ) → i ≢ f → (onto v f k l e L).slot i m ≡ v.slot i m
  onto-apart i m d = ap (λ (b : Bool). pick (b && eqb m k) e (v.slot i m)) (ne_eqb i f d)

  pub onto-other : (i m : ℕ) → m ≢ k → (onto v f k l e L).slot i m ≡ v.slot i m
  onto-other i m d = ap (λ (b : Bool). pick (eqb i f && b) e (v.slot i m)) (ne_eqb m k d) ∙ ap (λ (b : Bool). pick b e (v.slot i m)) (and-false (eqb i f))

  onto-split : (Q : DiskEntry → Type 0) (i m : ℕ) → (i ≡ f → m ≡ k → Q e) → Q (v.slot i m) → Q ((onto v f k l e L).slot i m)
  onto-split Q i m h g =
      ⊎_elim
      (λ (x : i ≡ f). ⊎_elim
      (λ (y : m ≡ k). subst Q (sym ((λ z. (onto v f k l e L).slot (x z) (y z)) ∙ onto-here)) (h x y))
      (λ d. subst Q (sym (onto-other i m d)) g)
      (eq-cases m k))
      (λ d. subst Q (sym (onto-apart i m d)) g)
      (eq-cases i f)

-- ---- one slot more

module _ (v : Tree) (f c : ℕ) (e : DiskEntry) {style : Spelling} (I : Tidy style v) (P : May v f c e) (file : is_folder (v.kind c) ≡ false) where
  pub longer-tidy : Tidy style (onto v f (v.blocks f) (v.blocks f + 1) e (at c (v.links c + 1) v.links))
  longer-tidy =
      names-tidy v (onto v f (v.blocks f) (v.blocks f + 1) e (at c (v.links c + 1) v.links)) f c e I
      (record {
        ids = refl;
        node = λ i. refl;
        kind = λ i n. refl;
        opened = λ i n o. o;
        slots = λ i g m x. ⊎_elim
            (λ (q : i ≡ f). onto-other v f (v.blocks f) (v.blocks f + 1) e (at c (v.links c + 1) v.links) i m (λ z. omega (arith, ap v.blocks q)))
            (onto-apart v f (v.blocks f) (v.blocks f + 1) e (at c (v.links c + 1) v.links) i m)
            (eq-cases i f);
        blocks = λ i g. at-else f (v.blocks f + 1) v.blocks i;
        size = λ i n. refl;
        long = λ i n. at-else f (264 * (v.blocks f + 1)) v.long i;
        more = at_here f (v.blocks f + 1) v.blocks;
        longer = at_here f (264 * (v.blocks f + 1)) v.long;
        new = onto-here v f (v.blocks f) (v.blocks f + 1) e (at c (v.links c + 1) v.links);
        links = λ i n d z. at-else c (v.links c + 1) v.links i d;
        child = at_here c (v.links c + 1) v.links ∙ omega (arith, ap bit file);
        own = at-else c (v.links c + 1) v.links f (λ q. P.apart (sym q)) ∙ omega (arith, ap bit file);
      })
      P

-- ---- a file's slot in the place of another's

-- slot k of folder f, which names file d, may name file c
pub record Turns (v : Tree) (f k d c : ℕ) (e : DiskEntry) : Type 0 where
  pub folder : folder_at v f ≡ true
  pub later : 2 ≤ k
  pub inside : k < v.blocks f
  pub names : (v.slot f k).id ≡ d
  pub old : is_folder (v.kind d) ≡ false
  pub held : v.opened d ≡ true
  pub node : v.node c ≡ true
  pub new : is_folder (v.kind c) ≡ false
  pub apart : c ≢ d
  pub id : e.id ≡ c
  pub kind : e.kind ≡ v.kind c
  pub ended : EndedAt e.name (zero_at e.name)
  pub name : name_of e.name ≡ name_of (v.slot f k).name

module _ (v : Tree) (f k d c : ℕ) (e : DiskEntry) {style : Spelling} (I : Tidy style v) (P : Turns v f k d c e) (L : ℕ → ℕ)
    (more : L c ≡ v.links c + 1) (less : L d + 1 ≡ v.links d) (else : (i : ℕ) → i ≢ c → i ≢ d → L i ≡ v.links i) where
  abbrev w : Tree
  w = onto v f k (v.blocks f) e L

  split : (Q : DiskEntry → Type 0) (i m : ℕ) → (i ≡ f → m ≡ k → Q e) → Q (v.slot i m) → Q (w.slot i m)
  split = onto-split v f k (v.blocks f) e L

  F : FolderIn style v f
  F = I.folder f P.folder

  S : LaterIn style v (v.slot f k)
  S = F.later k P.later P.inside

  blocks-same : (i : ℕ) → w.blocks i ≡ v.blocks i
  blocks-same i =
      ⊎_elim
      (λ (q : i ≡ f). ap (at f (v.blocks f) v.blocks) q ∙ at_here f (v.blocks f) v.blocks ∙ ap v.blocks (sym q))
      (at-else f (v.blocks f) v.blocks i)
      (eq-cases i f)

  long_same : (i : ℕ) → w.long i ≡ v.long i
  long_same i =
      ⊎_elim
      (λ (q : i ≡ f). ap (at f (264 * v.blocks f) v.long) q ∙ at_here f (264 * v.blocks f) v.long ∙ sym F.length ∙ ap v.long (sym q))
      (at-else f (264 * v.blocks f) v.long i)
      (eq-cases i f)

  -- a folder is neither of the two
  not-c : (i : ℕ) → folder_at v i ≡ true → i ≢ c
  not-c i g q = true-false (sym (ap (folder_at v) q) ∙ g) (ap (λ (b : Bool). v.node c && b) P.new ∙ and-false (v.node c))

  not-d : (i : ℕ) → folder_at v i ≡ true → i ≢ d
  not-d i g q = true-false (sym (ap (folder_at v) q) ∙ g) (ap (λ (b : Bool). v.node d && b) P.old ∙ and-false (v.node d))

  -- ---- names and kinds of slots

  name-same : (i m : ℕ) → name_of (w.slot i m).name ≡ name_of (v.slot i m).name
  name-same i m = split (λ (s : DiskEntry). name_of s.name ≡ name_of (v.slot i m).name) i m (λ x y. P.name ∙ λ z. name_of (v.slot (sym x z) (sym y z)).name) refl

  kind-same : (i m : ℕ) → is_folder (w.slot i m).kind ≡ is_folder (v.slot i m).kind
  kind-same i m =
      split (λ (s : DiskEntry). is_folder s.kind ≡ is_folder (v.slot i m).kind) i m
      (λ x y. ap is_folder P.kind ∙ P.new ∙ sym P.old ∙ ap (λ (n : ℕ). is_folder (v.kind n)) (sym P.names) ∙ ap is_folder S.kind ∙ λ z. is_folder (v.slot (sym x z) (sym y z)).kind) refl

  first-same : (i m : ℕ) → m < 2 → w.slot i m ≡ v.slot i m
  first-same i m x = onto-other v f k (v.blocks f) e L i m (λ z. omega (arith, P.later))

  folder-in : (i : ℕ) → folder_at v i ≡ true → FolderIn style w i
  folder-in i g =
      let G = I.folder i g in
      let b = blocks-same i in
      record {
        blocks = omega (arith, G.blocks);
        length = long_same i ∙ G.length ∙ ap (λ (n : ℕ). 264 * n) (sym b);
        dot = name-same i 0 ∙ G.dot;
        own = ap (λ (s : DiskEntry). s.id) (first-same i 0 (omega arith)) ∙ G.own;
        dot-kind = ap (λ (s : DiskEntry). s.kind) (first-same i 0 (omega arith)) ∙ G.dot-kind;
        dots = name-same i 1 ∙ G.dots;
        dots-kind = ap (λ (s : DiskEntry). s.kind) (first-same i 1 (omega arith)) ∙ G.dots-kind;
        later = λ m x y.
            let O = G.later m x (omega arith) in
            split (LaterIn style w) i m
            (λ q z. record {
              ended = P.ended;
              some = λ h. S.some (sym P.name ∙ h);
              no-dot = λ h. S.no-dot (sym P.name ∙ h);
              no-dots = λ h. S.no-dots (sym P.name ∙ h);
              spelt = subst (Spelt style) (sym P.name) S.spelt;
              node = ap v.node P.id ∙ P.node;
              kind = ap v.kind P.id ∙ sym P.kind;
            })
            (record { ended = O.ended; some = O.some; no-dot = O.no-dot; no-dots = O.no-dots; spelt = O.spelt; node = O.node; kind = O.kind });
        distinct = λ j m x y z h. G.distinct j m x y (omega arith) (sym (name-same i j) ∙ h ∙ name-same i m);
      }

  -- ---- counts

  subs-same : (i : ℕ) → subs_of w i ≡ subs_of v i
  unfolding subs_of
  subs-same i =
      ap (λ (m : ℕ). count_to (λ j. is_folder (w.slot i (2 + j)).kind) (m - 2)) (blocks-same i)
      ∙ count_to-cong (λ j. is_folder (w.slot i (2 + j)).kind) (λ j. is_folder (v.slot i (2 + j)).kind) (v.blocks i - 2) (λ j x. kind-same i (2 + j))

  names-other : (i x : ℕ) → i ≢ f → names_of w i x ≡ names_of v i x
  unfolding names_of
  names-other i x n =
      ap (λ (m : ℕ). count_to (λ j. eqb (w.slot i (2 + j)).id x) (m - 2)) (blocks-same i)
      ∙ count_to-cong (λ j. eqb (w.slot i (2 + j)).id x) (λ j. eqb (v.slot i (2 + j)).id x) (v.blocks i - 2)
      (λ j y. ap (λ (s : DiskEntry). eqb s.id x) (onto-apart v f k (v.blocks f) e L i (2 + j) n))

  names-own : (x : ℕ) → names_of w f x + bit (eqb d x) ≡ names_of v f x + bit (eqb c x)
  unfolding names_of
  names-own x =
      let at-k : 2 + (k - 2) ≡ k = omega (arith, P.later) in
      let h = count_to-change (λ j. eqb (v.slot f (2 + j)).id x) (λ j. eqb (w.slot f (2 + j)).id x) (v.blocks f - 2) (k - 2) (omega (arith, P.later, P.inside))
      (λ j n. sym (ap (λ (s : DiskEntry). eqb s.id x) (onto-other v f k (v.blocks f) e L f (2 + j) (λ z. n (omega arith))))) in
      let was : bit (eqb (v.slot f (2 + (k - 2))).id x) ≡ bit (eqb d x) = ap (λ (m : ℕ). bit (eqb (v.slot f m).id x)) at-k ∙ ap (λ (n : ℕ). bit (eqb n x)) P.names in
      let is : bit (eqb (w.slot f (2 + (k - 2))).id x) ≡ bit (eqb c x) =
      ap (λ (m : ℕ). bit (eqb (w.slot f m).id x)) at-k ∙ ap (λ (s : DiskEntry). bit (eqb s.id x)) (onto-here v f k (v.blocks f) e L) ∙ ap (λ (n : ℕ). bit (eqb n x)) P.id in
      let z : count_to (λ j. eqb (w.slot f (2 + j)).id x) (w.blocks f - 2) ≡ count_to (λ j. eqb (w.slot f (2 + j)).id x) (v.blocks f - 2) =
      ap (λ (m : ℕ). count_to (λ j. eqb (w.slot f (2 + j)).id x) (m - 2)) (blocks-same f) in
      omega (arith, h, was, is, z)

  all-names : (x : ℕ) → all_names w x + bit (eqb d x) ≡ all_names v x + bit (eqb c x)
  unfolding all_names
  all-names x =
      let h = sum_to-change (λ i. pick (folder_at v i) (names_of v i x) 0) (λ i. pick (folder_at v i) (names_of w i x) 0) v.ids f (I.below f (folder-is v f P.folder))
      (λ i n. sym (ap (λ (m : ℕ). pick (folder_at v i) m 0) (names-other i x n))) in
      let was : pick (folder_at v f) (names_of v f x) 0 ≡ names_of v f x = ap (λ (b : Bool). pick b (names_of v f x) 0) P.folder in
      let is : pick (folder_at v f) (names_of w f x) 0 ≡ names_of w f x = ap (λ (b : Bool). pick b (names_of w f x) 0) P.folder in
      omega (arith, h, was, is, names-own x)

  names-else : (x : ℕ) → x ≢ c → x ≢ d → all_names w x ≡ all_names v x
  names-else x n m = omega (arith, all-names x, ap bit (ne_eqb c x (λ z. n (sym z))), ap bit (ne_eqb d x (λ z. m (sym z))))

  -- ---- parents

  parent-same : (i : ℕ) → parent w i ≡ parent v i
  parent-same i = ap (λ (s : DiskEntry). s.id) (first-same i 1 (omega arith))

  up_same : (i n : ℕ) → up w i n ≡ up v i n
  unfolding up
  up_same i zero = refl
  up_same i (suc n) = ap (parent w) (up_same i n) ∙ parent-same (up v i n)

  lived : (i : ℕ) → Lives w i → Lives v i
  lived i x = record { folder = x.folder; links = λ z. x.links (else i (not-c i x.folder) (not-d i x.folder) ∙ z) }

  pub turned-tidy : Tidy style (onto v f k (v.blocks f) e L)
  turned-tidy = record {
    below = I.below;
    two = record { folder = I.two.folder; links = λ z. I.two.links (sym (else 2 (not-c 2 I.two.folder) (not-d 2 I.two.folder)) ∙ z) };
    folder = folder-in;
    sized = λ i n g. at-else f (264 * v.blocks f) v.long i (λ q. true-false P.folder (ap (folder_at v) (sym q) ∙ g)) ∙ I.sized i n g;
    other = λ i n g. ⊎_elim
        (λ (q : i ≡ c). subst (λ (j : ℕ). L j ≡ all_names w j) (sym q)
        (omega (arith, more, all-names c, I.other c P.node (ap (folder_at v) (sym q) ∙ g), ap bit (eq-eqb c c refl), ap bit (ne_eqb d c (λ z. P.apart (sym z))))))
        (λ m. ⊎_elim
        (λ (q : i ≡ d). subst (λ (j : ℕ). L j ≡ all_names w j) (sym q)
        (omega (arith, less, all-names d, I.other d (ap v.node (sym q) ∙ n) (ap (folder_at v) (sym q) ∙ g), ap bit (eq-eqb d d refl), ap bit (ne_eqb c d P.apart))))
        (λ z. else i m z ∙ I.other i n g ∙ sym (names-else i m z))
        (eq-cases i d))
        (eq-cases i c);
    unnamed = λ i n g z. ⊎_elim
        (λ (q : i ≡ c). absurd (omega (arith, more, ap L q)))
        (λ m. ⊎_elim
        (λ (q : i ≡ d). ap v.opened q ∙ P.held)
        (λ y. I.unnamed i n g (sym (else i m y) ∙ z))
        (eq-cases i d))
        (eq-cases i c);
    either = λ i g.
        let m = not-c i g in
        let n = not-d i g in
        let a = names-else i m n in
        ⊎_elim
        (λ (N : LinkedIn v i). inl (record { links = else i m n ∙ N.links ∙ ap (λ (z : ℕ). 2 + z) (sym (subs-same i)); root = λ z. a ∙ N.root z; once = λ z. a ∙ N.once z }))
        (λ (N : RemovedIn v i). inr (record { apart = N.apart; opened = N.opened; links = else i m n ∙ N.links; unnamed = a ∙ N.unnamed; slots = blocks-same i ∙ N.slots }))
        (I.either i g);
    root = parent-same 2 ∙ I.root;
    parents = λ i x n. ap (folder_at v) (parent-same i) ∙ I.parents i (lived i x) n;
    names = λ i x n.
        let N = I.names i (lived i x) n in
        subst (λ (p : ℕ). NamedBy w p i) (sym (parent-same i))
        (record {
          at = N.at;
          later = N.later;
          inside = omega (arith, N.inside, blocks-same (parent v i));
          is = split (λ (s : DiskEntry). s.id ≡ i) (parent v i) N.at (λ y z. absurd (not-d i x.folder (sym N.is ∙ (λ h. (v.slot (y h) (z h)).id) ∙ P.names))) N.is;
        });
    climbs = λ i x. let q = I.climbs i (lived i x) in (q.0, up_same i q.0 ∙ q.1);
  }
