-- Slots get other names: links, parents and climbs are as they were, so a tree stays tidy where its folders' names are good. And one slot of a
-- folder gets a new name; where another had that name, it gets the old one.
use mathlib.Core.Path.{◌≡◌, refl, sym, ap, ◌∙◌, subst}
use mathlib.Core.Bool.{true}
use mathlib.Core.List.{List, [], ◌∷◌}
use mathlib.Core.Logic.{◌≢◌, inl, inr, ⊎_elim}
use Prim.Native.Nat.{ℕ, zero, suc, ◌+◌, ◌-◌, ◌≤◌, ◌<◌}
use native.Mathlib.Omega.{arith}
use lib.Dec.{eqb}
use Rattle.base.specs.Count.{sum_to, count_to}
use Rattle.base.specs.Search.{pick}
use Rattle.base.proofs.Finds.{eq-cases}
use Rattle.structs.specs.Types.{is_folder}
use Rattle.structs.specs.declared.DiskEntry.{DiskEntry}
use Rattle.utf8.specs.Names.{name_of, zero_at, EndedAt}
use Rattle.tree.proofs.Unnaming.{Unnames}
use Rattle.tree.specs.Tree.{Spelling, Spelt, Tree, folder_at, names_of, all_names, subs_of, parent, up, LaterIn, FolderIn, LinkedIn, RemovedIn, Lives, NamedBy, Tidy}
use Rattle.tree.proofs.Trees.{names-differ}

-- the tree with other slots
abbrev pub with_slots : Tree → (ℕ → ℕ → DiskEntry) → Tree
with_slots v s = record { ids = v.ids; node = v.node; kind = v.kind; links = v.links; blocks = v.blocks; size = v.size; long = v.long; slot = s; opened = v.opened }

-- a name that a later slot may have
pub record Title (style : Spelling) (l : List ℕ) : Type 0 where
  pub ended : EndedAt l (zero_at l)
  pub some : name_of l ≢ []
  pub no-dot : name_of l ≢ 46 ∷ []
  pub no-dots : name_of l ≢ 46 ∷ 46 ∷ []
  pub spelt : Spelt style (name_of l)

module _ (v : Tree) (s : ℕ → ℕ → DiskEntry) (ids : (i j : ℕ) → (s i j).id ≡ (v.slot i j).id) (kinds : (i j : ℕ) → (s i j).kind ≡ (v.slot i j).kind) where
  abbrev w : Tree
  w = with_slots v s

  names_same : (f x : ℕ) → names_of w f x ≡ names_of v f x
  unfolding names_of
  names_same f x = λ y. count_to (λ j. eqb (ids f (2 + j) y) x) (v.blocks f - 2)

  all_same : (x : ℕ) → all_names w x ≡ all_names v x
  unfolding all_names
  all_same x = λ y. sum_to (λ f. pick (folder_at v f) (names_same f x y) 0) v.ids

  subs-same : (f : ℕ) → subs_of w f ≡ subs_of v f
  unfolding subs_of
  subs-same f = λ y. count_to (λ j. is_folder (kinds f (2 + j) y)) (v.blocks f - 2)

  up_same : (i n : ℕ) → up w i n ≡ up v i n
  unfolding up
  up_same i zero = refl
  up_same i (suc n) = ap (parent w) (up_same i n) ∙ ids (up v i n) 1

  -- a slot with such a name, as another was
  pub later-titled : {style : Spelling} (i j : ℕ) → LaterIn style v (v.slot i j) → Title style (s i j).name → LaterIn style (with_slots v s) (s i j)
  later-titled i j L N = record {
    ended = N.ended;
    some = N.some;
    no-dot = N.no-dot;
    no-dots = N.no-dots;
    spelt = N.spelt;
    node = ap v.node (ids i j) ∙ L.node;
    kind = ap v.kind (ids i j) ∙ L.kind ∙ sym (kinds i j);
  }

  pub titled-tidy : {style : Spelling} → Tidy style v → ((i : ℕ) → folder_at v i ≡ true → FolderIn style (with_slots v s) i) → Tidy style (with_slots v s)
  titled-tidy I folders = record {
    below = I.below;
    two = record { folder = I.two.folder; links = I.two.links };
    folder = folders;
    sized = I.sized;
    other = λ i n f. I.other i n f ∙ sym (all_same i);
    unnamed = I.unnamed;
    either = λ i f. ⊎_elim
        (λ (N : LinkedIn v i). inl (record { links = N.links ∙ ap (λ (z : ℕ). 2 + z) (sym (subs-same i)); root = λ z. all_same i ∙ N.root z; once = λ z. all_same i ∙ N.once z }))
        (λ (N : RemovedIn v i). inr (record { apart = N.apart; opened = N.opened; links = N.links; unnamed = all_same i ∙ N.unnamed; slots = N.slots }))
        (I.either i f);
    root = ids 2 1 ∙ I.root;
    parents = λ i l n. ap (folder_at v) (ids i 1) ∙ I.parents i (lived i l) n;
    names = λ i l n. subst (λ (p : ℕ). NamedBy w p i) (sym (ids i 1)) (still (parent v i) i (I.names i (lived i l) n));
    climbs = λ i l. let q = I.climbs i (lived i l) in (q.0, up_same i q.0 ∙ q.1);
  }
    where
      lived : (i : ℕ) → Lives w i → Lives v i
      lived i l = record { folder = l.folder; links = l.links }

      still : (p i : ℕ) → NamedBy v p i → NamedBy w p i
      still p i N = record { at = N.at; later = N.later; inside = N.inside; is = ids p N.at ∙ N.is }

-- ---- one slot

-- slot k of folder d has another name; slot other, if there is one, has its old name; all else is as it was
pub record Retitles (style : Spelling) (v : Tree) (s : ℕ → ℕ → DiskEntry) (d k other : ℕ) : Type 0 where
  pub ids : (i j : ℕ) → (s i j).id ≡ (v.slot i j).id
  pub kinds : (i j : ℕ) → (s i j).kind ≡ (v.slot i j).kind
  pub else : (i : ℕ) → folder_at v i ≡ true → i ≢ d → (j : ℕ) → s i j ≡ v.slot i j
  pub still : (j : ℕ) → j ≢ k → j ≢ other → s d j ≡ v.slot d j
  pub given : other < v.blocks d → (s d other).name ≡ (v.slot d k).name
  pub title : Title style (s d k).name
  pub fresh : (j : ℕ) → 2 ≤ j → j < v.blocks d → j ≢ other → name_of (v.slot d j).name ≢ name_of (s d k).name
  pub later : 2 ≤ k
  pub inside : k < v.blocks d
  pub other-later : 2 ≤ other
  pub apart : other ≢ k

module _ (v : Tree) (s : ℕ → ℕ → DiskEntry) (d k other : ℕ) {style : Spelling} (I : Tidy style v) (dir : folder_at v d ≡ true) (R : Retitles style v s d k other) where
  F : FolderIn style v d
  F = I.folder d dir

  title-of : (j : ℕ) → 2 ≤ j → j < v.blocks d → Title style (v.slot d j).name
  title-of j x y = let L = F.later j x y in record { ended = L.ended; some = L.some; no-dot = L.no-dot; no-dots = L.no-dots; spelt = L.spelt }

  -- what a later slot's name is now
  data Now (j : ℕ) : Type 0 where
    new : j ≡ k → Now j
    old : j ≡ other → (s d j).name ≡ (v.slot d k).name → Now j
    same : j ≢ k → j ≢ other → s d j ≡ v.slot d j → Now j

  now : (j : ℕ) → j < v.blocks d → Now j
  now j l =
      ⊎_elim
      (λ (e : j ≡ k). new e)
      (λ n. ⊎_elim
      (λ (e : j ≡ other). old e (ap (λ (x : ℕ). (s d x).name) e ∙ R.given (omega arith)))
      (λ m. same n m (R.still j n m))
      (eq-cases j other))
      (eq-cases j k)

  later : (j : ℕ) → 2 ≤ j → j < v.blocks d → LaterIn style (with_slots v s) (s d j)
  later j x y = later-titled v s R.ids R.kinds d j (F.later j x y) (go (now j y))
    where
      go : Now j → Title style (s d j).name
      go (new e) = subst (λ (z : ℕ). Title style (s d z).name) (sym e) R.title
      go (old e q) = subst (Title style) (sym q) (title-of k R.later R.inside)
      go (same n m q) = subst (λ (z : DiskEntry). Title style z.name) (sym q) (title-of j x y)

  -- the new name is not another's
  not_new : (j : ℕ) → j ≢ k → 2 ≤ j → j < v.blocks d → name_of (s d j).name ≢ name_of (s d k).name
  not_new j n x y = go (now j y)
    where
      go : Now j → name_of (s d j).name ≢ name_of (s d k).name
      go (new e) = absurd (n e)
      go (old e q) = λ z. R.fresh k R.later R.inside (λ o. R.apart (sym o)) (ap name_of (sym q) ∙ z)
      go (same _ m q) = λ z. R.fresh j x y m (ap (λ (e : DiskEntry). name_of e.name) (sym q) ∙ z)

  differ : (h j : ℕ) → h ≢ j → 2 ≤ h → 2 ≤ j → h < v.blocks d → j < v.blocks d → name_of (s d h).name ≢ name_of (s d j).name
  differ h j n x y p q = go (now h p) (now j q)
    where
      go : Now h → Now j → name_of (s d h).name ≢ name_of (s d j).name
      go (new e) m = λ z. not_new j (λ o. n (e ∙ sym o)) y q (sym z ∙ ap (λ (m : ℕ). name_of (s d m).name) e)
      go (old m _) (new e) = λ z. not_new h (λ o. n (o ∙ sym e)) x p (z ∙ ap (λ (m : ℕ). name_of (s d m).name) e)
      go (same m _ _) (new e) = λ z. not_new h (λ o. n (o ∙ sym e)) x p (z ∙ ap (λ (m : ℕ). name_of (s d m).name) e)
      go (old e _) (old o _) = absurd (n (e ∙ sym o))
      go (old e c) (same m _ o) = λ z. names-differ v d F k j (λ g. m (sym g)) R.later y R.inside q (ap name_of (sym c) ∙ z ∙ ap (λ (g : DiskEntry). name_of g.name) o)
      go (same m _ o) (old e c) = λ z. names-differ v d F h k m x R.later p R.inside (ap (λ (g : DiskEntry). name_of g.name) (sym o) ∙ z ∙ ap name_of c)
      go (same _ _ c) (same _ _ o) = λ z. names-differ v d F h j n x y p q (ap (λ (g : DiskEntry). name_of g.name) (sym c) ∙ z ∙ ap (λ (g : DiskEntry). name_of g.name) o)

  first : (j : ℕ) → j < 2 → s d j ≡ v.slot d j
  first j l = R.still j (λ e. omega (arith, R.later)) (λ e. omega (arith, R.other-later))

  folders : (i : ℕ) → folder_at v i ≡ true → FolderIn style (with_slots v s) i
  folders i f = ⊎_elim (λ (e : i ≡ d). subst (FolderIn style (with_slots v s)) (sym e) own) (λ n. others n) (eq-cases i d)
    where
      own : FolderIn style (with_slots v s) d
      own = record {
        blocks = F.blocks;
        length = F.length;
        dot = rw (first 0 (omega arith)) F.dot;
        own = rw (first 0 (omega arith)) F.own;
        dot-kind = rw (first 0 (omega arith)) F.dot-kind;
        dots = rw (first 1 (omega arith)) F.dots;
        dots-kind = rw (first 1 (omega arith)) F.dots-kind;
        later = later;
        distinct = λ h j x y z. differ h j (λ e. omega arith) x (omega arith) (omega arith) z;
      }

      others : i ≢ d → FolderIn style (with_slots v s) i
      others n =
          let G = I.folder i f in
          let e : (j : ℕ) → s i j ≡ v.slot i j = R.else i f n in
          record {
            blocks = G.blocks;
            length = G.length;
            dot = rw (e 0) G.dot;
            own = rw (e 0) G.own;
            dot-kind = rw (e 0) G.dot-kind;
            dots = rw (e 1) G.dots;
            dots-kind = rw (e 1) G.dots-kind;
            later = λ j x y. let L = G.later j x y in rw (e j) (record { ended = L.ended; some = L.some; no-dot = L.no-dot; no-dots = L.no-dots; spelt = L.spelt; node = L.node; kind = L.kind });
            distinct = λ h j x y z. rw (e h, e j) (G.distinct h j x y z);
          }

  pub retitled-tidy : Tidy style (with_slots v s)
  retitled-tidy = titled-tidy v s R.ids R.kinds I folders

-- the slot that goes may have been another
pub unnames-slots : (v x : Tree) (s m : ℕ → ℕ → DiskEntry) (d c k : ℕ) → ((i j : ℕ) → (i ≡ d → j ≢ k) → s i j ≡ m i j) → Unnames (with_slots v m) x d c k → Unnames (with_slots v s) x d c k
unnames-slots v x s m d c k like R = record {
  ids = R.ids;
  node = R.node;
  kind = R.kind;
  opened = R.opened;
  slots = λ i f n j l. R.slots i f n j l ∙ sym (like i j (λ e. absurd (n e)));
  blocks = R.blocks;
  size = R.size;
  long = R.long;
  still = λ j l n. R.still j l n ∙ sym (like d j (λ e. n));
  moved = λ l. R.moved l ∙ sym (like d (v.blocks d - 1) (λ e z. omega arith));
  fewer = R.fewer;
  shorter = R.shorter;
  links = R.links;
  child = R.child;
  own = R.own;
  held = R.held;
}
