-- The law of a folder's move: counts, slots, links, and the way up. Who climbed through the folder now climbs by its new parent, whose own way
-- does not meet it.
use mathlib.Core.Path.{◌≡◌, refl, sym, ap, ◌∙◌, subst}
use mathlib.Core.Bool.{Bool, true, false, ◌&&◌}
use mathlib.Core.Logic.{◌≢◌, ◌⊎◌, inl, inr, ⊎_elim}
use Prim.Native.Nat.{ℕ, zero, suc, ◌+◌, ◌*◌, ◌-◌, ◌≤◌, ◌<◌}
use native.Mathlib.Omega.{arith}
use lib.Dec.{eqb}
use borrow.Author.Tests.{eq-eqb, ne_eqb, eqb-true, eqb-false}
use Rattle.base.specs.Count.{bit, sum_to, count_to}
use Rattle.base.specs.Search.{pick}
use Rattle.base.proofs.Bools.{bool_cases, true-false}
use Rattle.base.proofs.Counts.{sum_to-change, count_to-more, count_to-cong, count_to-change}
use Rattle.base.proofs.Finds.{eq-cases}
use Rattle.base.proofs.Numbers.{lt-or-le}
use Rattle.structs.specs.Types.{is_folder}
use Rattle.structs.specs.declared.DiskEntry.{DiskEntry}
use Rattle.utf8.specs.Names.{name_of}
use Rattle.tree.specs.Tree.{Spelling, Tree, folder_at, names_of, all_names, subs_of, parent, up, LaterIn, FolderIn, LinkedIn, RemovedIn, Lives, NamedBy, Tidy}
use Rattle.tree.specs.Moves.{Spot, end, over, lost, goes, Moves, Takes, MayMove, MovesTidy}
use Rattle.tree.proofs.Trees.{spelt-new, at, at_here, at-else, pick-like, folder-is, names-differ, lives-linked, parent-lives, up_first}
use Rattle.tree.proofs.Unnaming.{count-swap}
use Rattle.tree.proofs.Ways.{slot_counts, names-part, one_parent, not_own}

-- ---- the folder that goes

module _ (v : Tree) (f p g k c : ℕ) (o : Spot) (e : DiskEntry) {style : Spelling} (I : Tidy style v) (P : MayMove v f p g k c o e) where
  record Goes (d : ℕ) : Type 0 where
    node : v.node d ≡ true
    folder : folder_at v d ≡ true
    two : v.blocks d ≡ 2
    not_f : d ≢ f
    not-g : d ≢ g
    not-c : d ≢ c
    opened : v.opened d ≡ true

  gone : (d : ℕ) → goes o d ≡ true → Goes d
  gone d q = go o P.takes q
    where
      go : (o : Spot) → Takes v g k c o → goes o d ≡ true → Goes d
      go end t q = absurd (true-false q refl)
      go (over x) t q =
          let z : x ≡ d = eqb-true x d q in
          let L = (I.folder g P.target.folder).later k t.later t.inside in
          let n : v.node d ≡ true = ap v.node (sym z ∙ sym t.names) ∙ L.node in
          let h : folder_at v d ≡ true = λ y. n y && (ap (λ (m : ℕ). is_folder (v.kind m)) (sym z) ∙ t.folder) y in
          let two : v.blocks d ≡ 2 = omega (arith, (I.folder d h).blocks, t.small, ap v.blocks z) in
          record {
            node = n;
            folder = h;
            two = two;
            not_f = λ y. omega (arith, two, ap v.blocks y, P.later, P.inside);
            not-g = λ y. omega (arith, two, ap v.blocks y, t.later, t.inside);
            not-c = λ y. t.apart (z ∙ y);
            opened = ap v.opened (sym z) ∙ t.opened;
          }

  pub gone-apart : (d : ℕ) → goes o d ≡ true → (d ≢ f) × (d ≢ g)
  gone-apart d q = let D = gone d q in (D.not_f, D.not-g)

module _ (v w : Tree) (f p g k c : ℕ) (o : Spot) (e : DiskEntry) {style : Spelling} (I : Tidy style v) (P : MayMove v f p g k c o e) (R : Moves v w f p g k c o e) where
  F : FolderIn style v f
  F = I.folder f P.source.folder

  G : FolderIn style v g
  G = I.folder g P.target.folder

  S : LaterIn style v (v.slot f p)
  S = F.later p P.later P.inside

  node-c : v.node c ≡ true
  node-c = ap v.node (sym P.names) ∙ S.node

  kind-c : v.kind c ≡ (v.slot f p).kind
  kind-c = ap v.kind (sym P.names) ∙ S.kind

  folder-c : folder_at v c ≡ true
  folder-c = λ x. node-c x && P.folder x

  C : FolderIn style v c
  C = I.folder c folder-c

  folder-same : (i : ℕ) → folder_at w i ≡ folder_at v i
  folder-same i =
      ap (λ (b : Bool). b && is_folder (w.kind i)) (R.node i)
      ∙ ⊎_elim
      (λ (n : v.node i ≡ true). ap (λ (x : ℕ). v.node i && is_folder x) (R.kind i n))
      (λ (n : v.node i ≡ false). rw n refl)
      (bool_cases (v.node i))

  back : (i : ℕ) → folder_at w i ≡ true → folder_at v i ≡ true
  back i h = sym (folder-same i) ∙ h

  -- ---- the slot of the target

  place : Takes v g k c o → (2 ≤ k) × (k < w.blocks g)
  place t = go o t R.more
    where
      go : (o : Spot) → Takes v g k c o → w.blocks g + lost o ≡ v.blocks g + 1 → (2 ≤ k) × (k < w.blocks g)
      go end t m = (omega (arith, G.blocks, t), omega (arith, t))
      go (over d) t m = (t.later, omega (arith, t.inside))

  within : (j : ℕ) → j < w.blocks g → j ≢ k → j < v.blocks g
  within j l n = go o P.takes R.more
    where
      go : (o : Spot) → Takes v g k c o → w.blocks g + lost o ≡ v.blocks g + 1 → j < v.blocks g
      go end t m = ⊎_elim (λ x. x) (λ (x : v.blocks g ≤ j). absurd (n (omega (arith, t)))) (lt-or-le j (v.blocks g))
      go (over d) t m = omega arith

  k-later : 2 ≤ k
  k-later = (place P.takes).0

  k-inside : k < w.blocks g
  k-inside = (place P.takes).1

  stays-f : goes o f ≡ false
  stays-f = ⊎_elim (λ (q : goes o f ≡ true). absurd ((gone v f p g k c o e I P f q).not_f refl)) (λ q. q) (bool_cases (goes o f))

  stays-g : goes o g ≡ false
  stays-g = ⊎_elim (λ (q : goes o g ≡ true). absurd ((gone v f p g k c o e I P g q).not-g refl)) (λ q. q) (bool_cases (goes o g))

  -- ---- the moved folder is another than the two

  lives-c : Lives v c
  lives-c =
      let some = slot_counts v f p c P.later P.inside P.names in
      record {
        folder = folder-c;
        links = λ z. ⊎_elim
            (λ (L : LinkedIn v c). omega (arith, L.links))
            (λ (L : RemovedIn v c). omega (arith, L.unnamed, some, names-part v I c f P.source.folder))
            (I.either c folder-c);
      }

  under : (c ≢ 2) × (f ≡ parent v c)
  under = one_parent v I c lives-c f p P.source.folder P.later P.inside P.names

  not_f : c ≢ f
  not_f q = not_own v I c lives-c under.0 (sym (q ∙ under.1))

  not-g : c ≢ g
  unfolding up
  not-g q = P.avoids 0 (sym q)

  -- ---- counts

  count-else : (q : DiskEntry → Bool) (i : ℕ) → folder_at v i ≡ true → i ≢ f → i ≢ g → count_to (λ j. q (w.slot i (2 + j))) (w.blocks i - 2) ≡ count_to (λ j. q (v.slot i (2 + j))) (v.blocks i - 2)
  count-else q i h n m =
      ap (λ (x : ℕ). count_to (λ j. q (w.slot i (2 + j))) (x - 2)) (R.blocks i h n m)
      ∙ count_to-cong (λ j. q (w.slot i (2 + j))) (λ j. q (v.slot i (2 + j))) (v.blocks i - 2) (λ j l. ap q (R.slots i h n m (2 + j) (omega arith) (λ y z. omega arith)))

  count-from : (q : DiskEntry → Bool) → count_to (λ j. q (w.slot f (2 + j))) (w.blocks f - 2) + bit (q (v.slot f p)) ≡ count_to (λ j. q (v.slot f (2 + j))) (v.blocks f - 2)
  count-from q =
      let at_p : 2 + (p - 2) ≡ p = omega (arith, P.later) in
      let last : 2 + (w.blocks f - 2) ≡ v.blocks f - 1 = omega (arith, P.later, P.inside, R.fewer) in
      ap (λ (x : ℕ). count_to (λ j. q (w.slot f (2 + j))) (w.blocks f - 2) + bit (q (v.slot f x))) (sym at_p)
      ∙ count-swap (λ j. q (v.slot f (2 + j))) (λ j. q (w.slot f (2 + j))) (w.blocks f - 2) (p - 2) (omega (arith, P.later, P.inside, R.fewer))
      (λ j l n. ap q (R.still (2 + j) (omega (arith, R.fewer)) (λ z. n (omega arith))))
      (λ l. ap q (ap (w.slot f) at_p ∙ R.moved (omega (arith, P.later, R.fewer)) ∙ ap (v.slot f) (sym last)))
      ∙ ap (λ (x : ℕ). count_to (λ j. q (v.slot f (2 + j))) x) (let z : w.blocks f - 2 + 1 ≡ v.blocks f - 2 = omega (arith, P.later, P.inside, R.fewer) in z)

  -- what the target loses
  losing : (DiskEntry → Bool) → Spot → ℕ
  losing q end = 0
  losing q (over d) = bit (q (v.slot g k))

  count-to : (q : DiskEntry → Bool) → count_to (λ j. q (w.slot g (2 + j))) (w.blocks g - 2) + losing q o ≡ count_to (λ j. q (v.slot g (2 + j))) (v.blocks g - 2) + bit (q e)
  unfolding losing
  count-to q = go o P.takes R.more
    where
      at-k : 2 + (k - 2) ≡ k
      at-k = omega (arith, k-later)

      same : (j : ℕ) → 2 + j < w.blocks g → j ≢ k - 2 → q (w.slot g (2 + j)) ≡ q (v.slot g (2 + j))
      same j l n = ap q (R.same (2 + j) l (λ z. n (omega arith)))

      is : q (w.slot g (2 + (k - 2))) ≡ q e
      is = ap q (ap (w.slot g) at-k ∙ R.new)

      go : (o : Spot) → Takes v g k c o → w.blocks g + lost o ≡ v.blocks g + 1
          → count_to (λ j. q (w.slot g (2 + j))) (w.blocks g - 2) + losing q o ≡ count_to (λ j. q (v.slot g (2 + j))) (v.blocks g - 2) + bit (q e)
      go end t m =
          let n : w.blocks g - 2 ≡ k - 2 + 1 = omega (arith, G.blocks, t) in
          let z : v.blocks g - 2 ≡ k - 2 = omega (arith, t) in
          let a = count_to-more (λ j. q (w.slot g (2 + j))) (k - 2) in
          let b = count_to-cong (λ j. q (w.slot g (2 + j))) (λ j. q (v.slot g (2 + j))) (k - 2) (λ j l. same j (omega (arith, t, G.blocks)) (λ y. omega arith)) in
          omega (arith, ap (count_to (λ j. q (w.slot g (2 + j)))) n, ap (count_to (λ j. q (v.slot g (2 + j)))) z, a, b, ap bit is)
      go (over d) t m =
          let h = count_to-change (λ j. q (v.slot g (2 + j))) (λ j. pick (eqb j (k - 2)) (q e) (q (v.slot g (2 + j)))) (v.blocks g - 2) (k - 2) (omega (arith, t.later, t.inside))
          (λ j n. sym (ap (λ (b : Bool). pick b (q e) (q (v.slot g (2 + j)))) (ne_eqb j (k - 2) n))) in
          let here : pick (eqb (k - 2) (k - 2)) (q e) (q (v.slot g (2 + (k - 2)))) ≡ q e = ap (λ (b : Bool). pick b (q e) (q (v.slot g (2 + (k - 2))))) (eq-eqb (k - 2) (k - 2) refl) in
          let b = count_to-cong (λ j. q (w.slot g (2 + j))) (λ j. pick (eqb j (k - 2)) (q e) (q (v.slot g (2 + j)))) (w.blocks g - 2) (λ j l. ⊎_elim
          (λ (z : j ≡ k - 2). subst (λ (x : ℕ). q (w.slot g (2 + x)) ≡ pick (eqb x (k - 2)) (q e) (q (v.slot g (2 + x)))) (sym z) (is ∙ sym here))
          (λ z. same j (omega arith) z ∙ sym (ap (λ (b : Bool). pick b (q e) (q (v.slot g (2 + j)))) (ne_eqb j (k - 2) z)))
          (eq-cases j (k - 2))) in
          let n : w.blocks g - 2 ≡ v.blocks g - 2 = omega arith in
          let u : bit (q (v.slot g (2 + (k - 2)))) ≡ bit (q (v.slot g k)) = ap (λ (x : ℕ). bit (q (v.slot g x))) at-k in
          omega (arith, b, ap (count_to (λ j. pick (eqb j (k - 2)) (q e) (q (v.slot g (2 + j))))) n, h, ap bit here, u)

  names-else : (i x : ℕ) → folder_at v i ≡ true → i ≢ f → i ≢ g → names_of w i x ≡ names_of v i x
  unfolding names_of
  names-else i x h n m = count-else (λ s. eqb s.id x) i h n m

  names-from : (x : ℕ) → names_of w f x + bit (eqb c x) ≡ names_of v f x
  unfolding names_of
  names-from x = ap (λ (y : ℕ). count_to (λ j. eqb (w.slot f (2 + j)).id x) (w.blocks f - 2) + bit (eqb y x)) (sym P.names) ∙ count-from (λ s. eqb s.id x)

  names-to : (x : ℕ) → names_of w g x + bit (goes o x) ≡ names_of v g x + bit (eqb c x)
  unfolding names_of losing
  names-to x = omega (arith, count-to (λ s. eqb s.id x), was o P.takes, ap (λ (y : ℕ). bit (eqb y x)) P.id)
    where
      was : (o : Spot) → Takes v g k c o → losing (λ s. eqb s.id x) o ≡ bit (goes o x)
      was end t = refl
      was (over d) t = ap (λ (y : ℕ). bit (eqb y x)) t.names

  subs-else : (i : ℕ) → folder_at v i ≡ true → i ≢ f → i ≢ g → subs_of w i ≡ subs_of v i
  unfolding subs_of
  subs-else i h n m = count-else (λ s. is_folder s.kind) i h n m

  subs-from : subs_of w f + 1 ≡ subs_of v f
  unfolding subs_of
  subs-from = omega (arith, count-from (λ s. is_folder s.kind), ap (λ (y : ℕ). bit (is_folder y)) kind-c, ap bit P.folder)

  subs-to : subs_of w g + lost o ≡ subs_of v g + 1
  unfolding subs_of losing
  subs-to = omega (arith, count-to (λ s. is_folder s.kind), was o P.takes, ap (λ (y : ℕ). bit (is_folder y)) P.kind, ap bit P.folder)
    where
      was : (o : Spot) → Takes v g k c o → losing (λ s. is_folder s.kind) o ≡ lost o
      was end t = refl
      was (over d) t =
          let L = G.later k t.later t.inside in
          ap bit (ap is_folder (sym L.kind) ∙ ap (λ (y : ℕ). is_folder (v.kind y)) t.names ∙ t.folder)

  all-names : (x : ℕ) → all_names w x + bit (goes o x) ≡ all_names v x
  unfolding all_names
  all-names x =
      let of-v : ℕ → ℕ = λ i. pick (folder_at v i) (names_of v i x) 0 in
      let of-w : ℕ → ℕ = λ i. pick (folder_at w i) (names_of w i x) 0 in
      let one = sum_to-change (λ i. pick (folder_at v i) (names_of v i x) 0) (at f (names_of w f x) (λ i. pick (folder_at v i) (names_of v i x) 0)) v.ids f (I.below f (folder-is v f P.source.folder))
      (λ i n. sym (at-else f (names_of w f x) (λ i. pick (folder_at v i) (names_of v i x) 0) i n)) in
      let two = sum_to-change (at f (names_of w f x) (λ i. pick (folder_at v i) (names_of v i x) 0)) (λ i. pick (folder_at w i) (names_of w i x) 0) v.ids g (I.below g (folder-is v g P.target.folder))
      (λ i m. ⊎_elim
      (λ (n : i ≡ f). subst (λ (y : ℕ). at f (names_of w f x) (λ i. pick (folder_at v i) (names_of v i x) 0) y ≡ pick (folder_at w y) (names_of w y x) 0) (sym n)
      (at_here f (names_of w f x) (λ i. pick (folder_at v i) (names_of v i x) 0) ∙ sym w-f))
      (λ n. at-else f (names_of w f x) (λ i. pick (folder_at v i) (names_of v i x) 0) i n
      ∙ sym (ap (λ (b : Bool). pick b (names_of w i x) 0) (folder-same i) ∙ pick-like (folder_at v i) (λ y. names-else i x y n m)))
      (eq-cases i f)) in
      let at_f : pick (folder_at v f) (names_of v f x) 0 ≡ names_of v f x = ap (λ (b : Bool). pick b (names_of v f x) 0) P.source.folder in
      let at_g : pick (folder_at v g) (names_of v g x) 0 ≡ names_of v g x = ap (λ (b : Bool). pick b (names_of v g x) 0) P.target.folder in
      let w-g : pick (folder_at w g) (names_of w g x) 0 ≡ names_of w g x = ap (λ (b : Bool). pick b (names_of w g x) 0) (folder-same g ∙ P.target.folder) in
      let all : sum_to (λ i. pick (folder_at w i) (names_of w i x) 0) w.ids ≡ sum_to (λ i. pick (folder_at w i) (names_of w i x) 0) v.ids = ap (sum_to (λ i. pick (folder_at w i) (names_of w i x) 0)) R.ids in
      omega (
        arith,
        all,
        one,
        two,
        at_here f (names_of w f x) (λ i. pick (folder_at v i) (names_of v i x) 0),
        at-else f (names_of w f x) (λ i. pick (folder_at v i) (names_of v i x) 0) g (λ z. P.apart (sym z)),
        at_f,
        at_g,
        w-g,
        names-from x,
        names-to x,
      )
    where
      w-f : pick (folder_at w f) (names_of w f x) 0 ≡ names_of w f x
      w-f = ap (λ (b : Bool). pick b (names_of w f x) 0) (folder-same f ∙ P.source.folder)

  names_same : (x : ℕ) → goes o x ≡ false → all_names w x ≡ all_names v x
  names_same x q = omega (arith, all-names x, ap bit q)

  -- ---- slots

  later_same : (s : DiskEntry) → LaterIn style v s → LaterIn style w s
  later_same s N = record {
    ended = N.ended;
    some = N.some;
    no-dot = N.no-dot;
    no-dots = N.no-dots;
    spelt = N.spelt;
    node = R.node s.id ∙ N.node;
    kind = R.kind s.id N.node ∙ N.kind;
  }

  later-new : LaterIn style w e
  later-new = record {
    ended = P.ended;
    some = P.some;
    no-dot = P.no-dot;
    no-dots = P.no-dots;
    spelt = spelt-new style (name_of e.name) P.no_slash;
    node = ap w.node P.id ∙ R.node c ∙ node-c;
    kind = ap w.kind P.id ∙ R.kind c node-c ∙ sym P.kind;
  }

  -- the first two slots, but for the moved folder's `..`
  first : (i : ℕ) → folder_at v i ≡ true → (j : ℕ) → j < 2 → (i ≡ c → j ≢ 1) → w.slot i j ≡ v.slot i j
  first i h j l n =
      ⊎_elim
      (λ (q : i ≡ f). subst (λ (x : ℕ). w.slot x j ≡ v.slot x j) (sym q) (R.still j (omega (arith, P.later, P.inside)) (λ z. omega (arith, P.later))))
      (λ m. ⊎_elim
      (λ (q : i ≡ g). subst (λ (x : ℕ). w.slot x j ≡ v.slot x j) (sym q) (R.same j (omega (arith, k-inside, k-later)) (λ z. omega (arith, k-later))))
      (λ r. R.slots i h m r j (omega (arith, (I.folder i h).blocks)) n)
      (eq-cases i g))
      (eq-cases i f)

  -- the slot that stands at j of the source now stood at another place
  record Was (j : ℕ) : Type 0 where
    at : ℕ
    later : 2 ≤ at
    inside : at < v.blocks f
    is : w.slot f j ≡ v.slot f at
    how : ((j ≡ p) × (at + 1 ≡ v.blocks f)) ⊎ ((j ≢ p) × (at ≡ j))

  was : (j : ℕ) → 2 ≤ j → j < w.blocks f → Was j
  was j x y =
      ⊎_elim
      (λ (z : j ≡ p). record {
        at = v.blocks f - 1;
        later = omega (arith, P.later, R.fewer);
        inside = omega (arith, R.fewer);
        is = ap (w.slot f) z ∙ R.moved (omega (arith, R.fewer));
        how = inl (z, omega (arith, R.fewer));
      })
      (λ z. record { at = j; later = x; inside = omega (arith, R.fewer); is = R.still j (omega (arith, R.fewer)) z; how = inr (z, refl) })
      (eq-cases j p)

  dots-of : (i : ℕ) → folder_at v i ≡ true → (name_of (w.slot i 1).name ≡ name_of (v.slot i 1).name) × ((w.slot i 1).kind ≡ (v.slot i 1).kind)
  dots-of i h =
      ⊎_elim
      (λ (q : i ≡ c). subst (λ (x : ℕ). (name_of (w.slot x 1).name ≡ name_of (v.slot x 1).name) × ((w.slot x 1).kind ≡ (v.slot x 1).kind)) (sym q) (R.dots-name ∙ sym C.dots, R.dots-kind ∙ sym C.dots-kind))
      (λ n. let s = first i h 1 (omega arith) (λ z. absurd (n z)) in (ap (λ (s : DiskEntry). name_of s.name) s, ap (λ (s : DiskEntry). s.kind) s))
      (eq-cases i c)

  folder-by : (i : ℕ) → folder_at v i ≡ true → 2 ≤ w.blocks i → w.long i ≡ 264 * w.blocks i → ((j : ℕ) → 2 ≤ j → j < w.blocks i → LaterIn style w (w.slot i j))
      → ((h j : ℕ) → 2 ≤ h → h < j → j < w.blocks i → name_of (w.slot i h).name ≢ name_of (w.slot i j).name) → FolderIn style w i
  folder-by i h two long later distinct =
      let H = I.folder i h in
      let s = first i h 0 (omega arith) (λ y z. omega arith) in
      let d = dots-of i h in
      record {
        blocks = two;
        length = long;
        dot = ap (λ (s : DiskEntry). name_of s.name) s ∙ H.dot;
        own = ap (λ (s : DiskEntry). s.id) s ∙ H.own;
        dot-kind = ap (λ (s : DiskEntry). s.kind) s ∙ H.dot-kind;
        dots = d.0 ∙ H.dots;
        dots-kind = d.1 ∙ H.dots-kind;
        later = later;
        distinct = distinct;
      }

  folder-from : FolderIn style w f
  folder-from =
      folder-by f P.source.folder (omega (arith, P.later, P.inside, R.fewer)) R.shorter
      (λ j x y. let s = was j x y in subst (LaterIn style w) (sym s.is) (later_same (v.slot f s.at) (F.later s.at s.later s.inside)))
      (λ h j x y z.
      let s = was h x (omega arith) in
      let t = was j (omega arith) z in
      let n : s.at ≢ t.at = λ q. ⊎_elim
      (λ (a : (h ≡ p) × (s.at + 1 ≡ v.blocks f)). ⊎_elim
      (λ (b : (j ≡ p) × (t.at + 1 ≡ v.blocks f)). omega (arith, a.0, b.0))
      (λ (b : (j ≢ p) × (t.at ≡ j)). omega (arith, a.1, b.1, R.fewer))
      t.how)
      (λ (a : (h ≢ p) × (s.at ≡ h)). ⊎_elim
      (λ (b : (j ≡ p) × (t.at + 1 ≡ v.blocks f)). omega (arith, a.1, b.1, R.fewer))
      (λ (b : (j ≢ p) × (t.at ≡ j)). omega (arith, a.1, b.1))
      t.how)
      s.how in
      rw (s.is, t.is) (names-differ v f F s.at t.at n s.later t.later s.inside t.inside))

  -- a slot of the target is the new one or an old one
  target-later : (j : ℕ) → 2 ≤ j → j < w.blocks g → LaterIn style w (w.slot g j)
  target-later j x y =
      ⊎_elim
      (λ (q : j ≡ k). subst (LaterIn style w) (sym (ap (w.slot g) q ∙ R.new)) later-new)
      (λ n. subst (LaterIn style w) (sym (R.same j y n)) (later_same (v.slot g j) (G.later j x (within j y n))))
      (eq-cases j k)

  target-new : (j : ℕ) → 2 ≤ j → j < w.blocks g → j ≢ k → name_of (w.slot g j).name ≢ name_of (w.slot g k).name
  target-new j x y n z = P.fresh j x (within j y n) n (ap (λ (s : DiskEntry). name_of s.name) (sym (R.same j y n)) ∙ z ∙ ap (λ (s : DiskEntry). name_of s.name) R.new)

  target-differ : (h j : ℕ) → 2 ≤ h → h < j → j < w.blocks g → name_of (w.slot g h).name ≢ name_of (w.slot g j).name
  target-differ h j x y z q =
      ⊎_elim
      (λ (a : h ≡ k). target-new j (omega arith) z (λ b. omega arith) (sym q ∙ ap (λ (m : ℕ). name_of (w.slot g m).name) a))
      (λ a. ⊎_elim
      (λ (b : j ≡ k). target-new h x (omega arith) a (q ∙ ap (λ (m : ℕ). name_of (w.slot g m).name) b))
      (λ b. G.distinct h j x y (within j z b) (ap (λ (s : DiskEntry). name_of s.name) (sym (R.same h (omega arith) a)) ∙ q ∙ ap (λ (s : DiskEntry). name_of s.name) (R.same j z b)))
      (eq-cases j k))
      (eq-cases h k)

  folder-else : (i : ℕ) → folder_at v i ≡ true → i ≢ f → i ≢ g → FolderIn style w i
  folder-else i h n m =
      let H = I.folder i h in
      let b = R.blocks i h n m in
      let s : (j : ℕ) → 2 ≤ j → j < v.blocks i → w.slot i j ≡ v.slot i j = λ j x y. R.slots i h n m j y (λ z q. omega arith) in
      folder-by i h (omega (arith, H.blocks, b)) (R.long i (folder-is v i h) n m ∙ H.length ∙ ap (λ (x : ℕ). 264 * x) (sym b))
      (λ j x y. let l : j < v.blocks i = omega (arith, b) in subst (LaterIn style w) (sym (s j x l)) (later_same (v.slot i j) (H.later j x l)))
      (λ a j x y z. let l : j < v.blocks i = omega (arith, b) in rw (s a x (omega arith), s j (omega arith) l) (H.distinct a j x y l))

  folder-in : (i : ℕ) → folder_at v i ≡ true → FolderIn style w i
  folder-in i h =
      ⊎_elim
      (λ (q : i ≡ f). subst (FolderIn style w) (sym q) folder-from)
      (λ n. ⊎_elim
      (λ (q : i ≡ g). subst (FolderIn style w) (sym q) (folder-by g P.target.folder (omega (arith, k-later, k-inside)) R.longer target-later target-differ))
      (λ m. folder-else i h n m)
      (eq-cases i g))
      (eq-cases i f)

  -- ---- links

  linked : (i : ℕ) → Lives v i → goes o i ≡ false → w.links i ≡ 2 + subs_of w i → LinkedIn w i
  linked i l q e = let L = lives-linked v I i l in record { links = e; root = λ z. names_same i q ∙ L.root z; once = λ z. names_same i q ∙ L.once z }

  removed : (i : ℕ) → goes o i ≡ true → RemovedIn w i
  removed i q =
      let D = gone v f p g k c o e I P i q in
      let n = all-names i in
      let b = ap bit q in
      let L : LinkedIn v i = ⊎_elim (λ x. x) (λ (x : RemovedIn v i). absurd (omega (arith, x.unnamed, n, b))) (I.either i D.folder) in
      let a : i ≢ 2 = λ z. omega (arith, L.root z, n, b) in
      record { apart = a; opened = R.opened i D.node D.opened; links = R.none i q; unnamed = omega (arith, L.once a, n, b); slots = R.blocks i D.folder D.not_f D.not-g ∙ D.two }

  either : (i : ℕ) → folder_at v i ≡ true → LinkedIn w i ⊎ RemovedIn w i
  either i h =
      ⊎_elim
      (λ (q : goes o i ≡ true). inr (removed i q))
      (λ (q : goes o i ≡ false). ⊎_elim
      (λ (z : i ≡ f). inl (subst (LinkedIn w) (sym z) (linked f P.source stays-f (omega (arith, R.from, (lives-linked v I f P.source).links, subs-from)))))
      (λ n. ⊎_elim
      (λ (z : i ≡ g). inl (subst (LinkedIn w) (sym z) (linked g P.target stays-g (omega (arith, R.to, (lives-linked v I g P.target).links, subs-to)))))
      (λ m.
      let l = R.links i (folder-is v i h) n m q in
      ⊎_elim
      (λ (N : LinkedIn v i). inl (record { links = l ∙ N.links ∙ ap (λ (z : ℕ). 2 + z) (sym (subs-else i h n m)); root = λ z. names_same i q ∙ N.root z; once = λ z. names_same i q ∙ N.once z }))
      (λ (N : RemovedIn v i). inr (record { apart = N.apart; opened = R.opened i (folder-is v i h) N.opened; links = l ∙ N.links; unnamed = names_same i q ∙ N.unnamed; slots = R.blocks i h n m ∙ N.slots }))
      (I.either i h))
      (eq-cases i g))
      (eq-cases i f))
      (bool_cases (goes o i))

  -- ---- parents

  parent-same : (i : ℕ) → folder_at v i ≡ true → i ≢ c → parent w i ≡ parent v i
  parent-same i h n = ap (λ (s : DiskEntry). s.id) (first i h 1 (omega arith) (λ z. absurd (n z)))

  -- a folder with links had them
  lived : (i : ℕ) → Lives w i → Lives v i × (goes o i ≡ false)
  lived i l =
      let h : folder_at v i ≡ true = back i l.folder in
      let q : goes o i ≡ false = ⊎_elim (λ (q : goes o i ≡ true). absurd (l.links (R.none i q))) (λ q. q) (bool_cases (goes o i)) in (
        record {
          folder = h;
          links = ⊎_elim
              (λ (z : i ≡ f). subst (λ (x : ℕ). v.links x ≢ 0) (sym z) P.source.links)
              (λ n. ⊎_elim
              (λ (z : i ≡ g). subst (λ (x : ℕ). v.links x ≢ 0) (sym z) P.target.links)
              (λ m. λ z. l.links (R.links i (folder-is v i h) n m q ∙ z))
              (eq-cases i g))
              (eq-cases i f);
        },
        q,
      )

  -- who names another folder names it still
  names-still : (d i : ℕ) → folder_at v d ≡ true → i ≢ c → goes o i ≡ false → NamedBy v d i → NamedBy w d i
  names-still d i h n q N =
      ⊎_elim
      (λ (z : d ≡ f). subst (λ (x : ℕ). NamedBy w x i) (sym z) (of-source (subst (λ (x : ℕ). NamedBy v x i) z N)))
      (λ m. ⊎_elim
      (λ (z : d ≡ g). subst (λ (x : ℕ). NamedBy w x i) (sym z) (of-target (subst (λ (x : ℕ). NamedBy v x i) z N)))
      (λ r. record { at = N.at; later = N.later; inside = omega (arith, N.inside, R.blocks d h m r); is = ap (λ (s : DiskEntry). s.id) (R.slots d h m r N.at N.inside (λ y z. omega (arith, N.later))) ∙ N.is })
      (eq-cases d g))
      (eq-cases d f)
    where
      of-source : NamedBy v f i → NamedBy w f i
      of-source B =
          let not-p : B.at ≢ p = λ z. n (sym B.is ∙ ap (λ (x : ℕ). (v.slot f x).id) z ∙ P.names) in
          ⊎_elim
          (λ (l : B.at + 1 < v.blocks f). record { at = B.at; later = B.later; inside = omega (arith, R.fewer); is = ap (λ (s : DiskEntry). s.id) (R.still B.at l not-p) ∙ B.is })
          (λ (l : v.blocks f ≤ B.at + 1).
          let z : B.at ≡ v.blocks f - 1 = omega (arith, B.inside) in
          let m : p + 1 < v.blocks f = ⊎_elim (λ y. y) (λ y. absurd (not-p (omega (arith, P.inside)))) (lt-or-le (p + 1) (v.blocks f)) in
          record { at = p; later = P.later; inside = omega (arith, R.fewer); is = ap (λ (s : DiskEntry). s.id) (R.moved m) ∙ ap (λ (x : ℕ). (v.slot f x).id) (sym z) ∙ B.is })
          (lt-or-le (B.at + 1) (v.blocks f))

      not-k : (o : Spot) → Takes v g k c o → goes o i ≡ false → (B : NamedBy v g i) → B.at ≢ k
      not-k end t q B z = omega (arith, B.inside, t)
      not-k (over d) t q B z = eqb-false d i q (sym t.names ∙ ap (λ (x : ℕ). (v.slot g x).id) (sym z) ∙ B.is)

      of-target : NamedBy v g i → NamedBy w g i
      of-target B =
          let l : B.at < w.blocks g = holds o R.more B.inside in
          record { at = B.at; later = B.later; inside = l; is = ap (λ (s : DiskEntry). s.id) (R.same B.at l (not-k o P.takes q B)) ∙ B.is }
        where
          holds : (o : Spot) → w.blocks g + lost o ≡ v.blocks g + 1 → B.at < v.blocks g → B.at < w.blocks g
          holds end m x = omega arith
          holds (over d) m x = omega arith

  -- ---- the way up

  -- where it does not meet the moved folder, it is as it was
  up_same : (i : ℕ) → Lives v i → ((n : ℕ) → up v i n ≢ c) → (n : ℕ) → (up w i n ≡ up v i n) × Lives v (up v i n)
  unfolding up
  up_same i l a zero = (refl, l)
  up_same i l a (suc n) =
      let q = up_same i l a n in
      (ap (parent w) q.0 ∙ parent-same (up v i n) q.1.folder (a n), parent-lives v I (up v i n) q.1)

  target-climbs : (n : ℕ) × (up w g n ≡ 2)
  target-climbs = let q = I.climbs g P.target in (q.0, (up_same g P.target P.avoids q.0).0 ∙ q.1)

  moved-climbs : (n : ℕ) × (up w c n ≡ 2)
  moved-climbs = let q = target-climbs in (suc q.0, up_first w c q.0 ∙ ap (λ (x : ℕ). up w x q.0) R.dots ∙ q.1)

  reaches : (n i : ℕ) → Lives v i → up v i n ≡ 2 → (m : ℕ) × (up w i m ≡ 2)
  unfolding up
  reaches zero i l z = (0, z)
  reaches (suc n) i l z =
      ⊎_elim
      (λ (q : i ≡ c). subst (λ (x : ℕ). (m : ℕ) × (up w x m ≡ 2)) (sym q) moved-climbs)
      (λ q.
      let r = reaches n (parent v i) (parent-lives v I i l) (sym (up_first v i n) ∙ z) in
      (suc r.0, up_first w i r.0 ∙ ap (λ (x : ℕ). up w x r.0) (parent-same i l.folder q) ∙ r.1))
      (eq-cases i c)

  root-lives : Lives w 2
  root-lives = record {
    folder = folder-same 2 ∙ I.two.folder;
    links = ⊎_elim (λ (L : LinkedIn w 2). λ z. omega (arith, L.links)) (λ (L : RemovedIn w 2). absurd (L.apart refl)) (either 2 I.two.folder);
  }

  -- a file is none of the folders
  file-not : (i x : ℕ) → folder_at v i ≡ false → folder_at v x ≡ true → i ≢ x
  file-not i x h y q = true-false (ap (folder_at v) q ∙ y) h

  file-stays : (i : ℕ) → folder_at v i ≡ false → goes o i ≡ false
  file-stays i h = ⊎_elim (λ (q : goes o i ≡ true). absurd (true-false (gone v f p g k c o e I P i q).folder h)) (λ q. q) (bool_cases (goes o i))

  tidy : Tidy style w
  tidy = record {
    below = λ i n. subst (λ (m : ℕ). i < m) (sym R.ids) (I.below i (sym (R.node i) ∙ n));
    two = root-lives;
    folder = λ i h. folder-in i (back i h);
    sized = λ i n h.
        let y : folder_at v i ≡ false = sym (folder-same i) ∙ h in
        let m : v.node i ≡ true = sym (R.node i) ∙ n in
        R.long i m (file-not i f y P.source.folder) (file-not i g y P.target.folder) ∙ I.sized i m y ∙ sym (R.size i m);
    other = λ i n h.
        let y : folder_at v i ≡ false = sym (folder-same i) ∙ h in
        let m : v.node i ≡ true = sym (R.node i) ∙ n in
        let q = file-stays i y in
        R.links i m (file-not i f y P.source.folder) (file-not i g y P.target.folder) q ∙ I.other i m y ∙ sym (names_same i q);
    unnamed = λ i n h z.
        let y : folder_at v i ≡ false = sym (folder-same i) ∙ h in
        let m : v.node i ≡ true = sym (R.node i) ∙ n in
        R.opened i m (I.unnamed i m y (sym (R.links i m (file-not i f y P.source.folder) (file-not i g y P.target.folder) (file-stays i y)) ∙ z));
    either = λ i h. either i (back i h);
    root = parent-same 2 I.two.folder (λ q. under.0 (sym q)) ∙ I.root;
    parents = λ i l n. ⊎_elim
        (λ (q : i ≡ c). ap (λ (x : ℕ). folder_at w (parent w x)) q ∙ ap (folder_at w) R.dots ∙ folder-same g ∙ P.target.folder)
        (λ q. let u = (lived i l).0 in ap (folder_at w) (parent-same i u.folder q) ∙ folder-same (parent v i) ∙ I.parents i u n)
        (eq-cases i c);
    names = λ i l n. ⊎_elim
        (λ (q : i ≡ c). subst (λ (x : ℕ). NamedBy w (parent w x) x) (sym q) (subst (λ (x : ℕ). NamedBy w x c) (sym R.dots)
        (record { at = k; later = k-later; inside = k-inside; is = ap (λ (s : DiskEntry). s.id) R.new ∙ P.id })))
        (λ q. let u = lived i l in
        subst (λ (x : ℕ). NamedBy w x i) (sym (parent-same i u.0.folder q)) (names-still (parent v i) i (I.parents i u.0 n) q u.1 (I.names i u.0 n)))
        (eq-cases i c);
    climbs = λ i l. let u = (lived i l).0 in let q = I.climbs i u in reaches q.0 i u q.1;
  }

pub moves-tidy : MovesTidy
unfolding MovesTidy
moves-tidy style v w f p g k c o e I P R = tidy v w f p g k c o e I P R
