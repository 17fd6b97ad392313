-- Files of a tree have other sizes, with the lengths to them; folders are as they were. A tidy tree stays so.
use mathlib.Core.Path.{◌≡◌, refl, sym, ap, ◌∙◌, subst}
use mathlib.Core.Bool.{true, false}
use mathlib.Core.Logic.{inl, inr, ⊎_elim}
use Prim.Native.Nat.{ℕ, zero, suc, ◌+◌, ◌-◌}
use lib.Dec.{eqb}
use Rattle.base.specs.Count.{sum_to, count_to}
use Rattle.structs.specs.Types.{is_folder}
use Rattle.structs.specs.declared.DiskEntry.{DiskEntry}
use Rattle.tree.specs.Tree.{Spelling, Tree, folder_at, names_of, all_names, subs_of, parent, up, LaterIn, FolderIn, LinkedIn, RemovedIn, Lives, NamedBy, Tidy}
use Rattle.tree.proofs.Trees.{pick-like, parent-lives}

-- the tree with other sizes, lengths and slots
abbrev pub with_contents : Tree → (ℕ → ℕ) → (ℕ → ℕ) → (ℕ → ℕ → DiskEntry) → Tree
with_contents v sizes longs slots = record {
  ids = v.ids;
  node = v.node;
  kind = v.kind;
  links = v.links;
  blocks = v.blocks;
  size = sizes;
  long = longs;
  slot = slots;
  opened = v.opened;
}

module _ (v : Tree) (z l : ℕ → ℕ) (s : ℕ → ℕ → DiskEntry) {style : Spelling} (I : Tidy style v)
    (long : (i : ℕ) → folder_at v i ≡ true → l i ≡ v.long i)
    (slot : (i : ℕ) → folder_at v i ≡ true → (k : ℕ) → s i k ≡ v.slot i k)
    (sized : (i : ℕ) → v.node i ≡ true → folder_at v i ≡ false → l i ≡ z i) where
  abbrev w : Tree
  w = with_contents v z l s

  names_same : (f x : ℕ) → folder_at v f ≡ true → names_of w f x ≡ names_of v f x
  unfolding names_of
  names_same f x d = λ y. count_to (λ j. eqb (slot f d (2 + j) y).id x) (v.blocks f - 2)

  all_same : (x : ℕ) → all_names w x ≡ all_names v x
  unfolding all_names
  all_same x = λ y. sum_to (λ f. pick-like (folder_at v f) (names_same f x) y) v.ids

  subs-same : (f : ℕ) → folder_at v f ≡ true → subs_of w f ≡ subs_of v f
  unfolding subs_of
  subs-same f d = λ y. count_to (λ j. is_folder (slot f d (2 + j) y).kind) (v.blocks f - 2)

  parent-same : (i : ℕ) → folder_at v i ≡ true → parent w i ≡ parent v i
  parent-same i d = ap (λ (e : DiskEntry). e.id) (slot i d 1)

  lived : (i : ℕ) → Lives w i → Lives v i
  lived i x = record { folder = x.folder; links = x.links }

  up_same : (i : ℕ) → Lives v i → (n : ℕ) → (up w i n ≡ up v i n) × Lives v (up v i n)
  unfolding up
  up_same i x zero = (refl, x)
  up_same i x (suc n) =
      let q = up_same i x n in
      (ap (parent w) q.0 ∙ parent-same (up v i n) q.1.folder, parent-lives v I (up v i n) q.1)

  later_same : (e : DiskEntry) → LaterIn style v e → LaterIn style w e
  later_same e L = record { ended = L.ended; some = L.some; no-dot = L.no-dot; no-dots = L.no-dots; spelt = L.spelt; node = L.node; kind = L.kind }

  folder-same : (i : ℕ) → folder_at v i ≡ true → FolderIn style w i
  folder-same i d =
      let F = I.folder i d in
      let e : (k : ℕ) → s i k ≡ v.slot i k = slot i d in
      record {
        blocks = F.blocks;
        length = long i d ∙ F.length;
        dot = rw (e 0) F.dot;
        own = rw (e 0) F.own;
        dot-kind = rw (e 0) F.dot-kind;
        dots = rw (e 1) F.dots;
        dots-kind = rw (e 1) F.dots-kind;
        later = λ k x y. rw (e k) (later_same (v.slot i k) (F.later k x y));
        distinct = λ j k x y h. rw (e j, e k) (F.distinct j k x y h);
      }

  pub contents-tidy : Tidy style (with_contents v z l s)
  contents-tidy = record {
    below = I.below;
    two = record { folder = I.two.folder; links = I.two.links };
    folder = folder-same;
    sized = sized;
    other = λ i n f. I.other i n f ∙ sym (all_same i);
    unnamed = I.unnamed;
    either = λ i d. ⊎_elim
        (λ (h : LinkedIn v i). inl (record { links = h.links ∙ ap (λ (n : ℕ). 2 + n) (sym (subs-same i d)); root = λ q. all_same i ∙ h.root q; once = λ q. all_same i ∙ h.once q }))
        (λ (h : RemovedIn v i). inr (record { apart = h.apart; opened = h.opened; links = h.links; unnamed = all_same i ∙ h.unnamed; slots = h.slots }))
        (I.either i d);
    root = parent-same 2 I.two.folder ∙ I.root;
    parents = λ i x n. let o = lived i x in ap (folder_at v) (parent-same i o.folder) ∙ I.parents i o n;
    names = λ i x n.
        let o = lived i x in
        let N = I.names i o n in
        subst (λ (p : ℕ). NamedBy w p i) (sym (parent-same i o.folder))
        (record { at = N.at; later = N.later; inside = N.inside; is = ap (λ (e : DiskEntry). e.id) (slot (parent v i) (I.parents i o n) N.at) ∙ N.is });
    climbs = λ i x. let o = lived i x in let q = I.climbs i o in (q.0, (up_same i o q.0).0 ∙ q.1);
  }
