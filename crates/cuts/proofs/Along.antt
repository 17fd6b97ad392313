-- An invariant that each store of a create keeps holds of each cut.
use mathlib.Core.Path.{◌≡◌, refl, sym, ap, ◌∙◌, subst}
use mathlib.Core.Bool.{Bool, true, false}
use mathlib.Core.List.{List, [], ◌∷◌, ◌++◌}
use mathlib.Core.Logic.{⊎_elim}
use Prim.Native.Nat.{ℕ, zero, suc, ◌+◌, ◌*◌, ◌≤◌, ◌<◌, min}
use native.Mathlib.Omega.{arith}
use lib.ListN.{length, take}
use borrow.Author.Tests.{lt-ltb, le-ltb}
use Rattle.base.specs.Out.{done}
use Rattle.base.specs.Search.{pick}
use Rattle.base.proofs.Numbers.{lt-or-le}
use Rattle.base.proofs.Outs.{bind-is-done}
use Rattle.structs.specs.Types.{is_folder}
use Rattle.sefs.specs.Meta.{meta_file}
use Rattle.sefs.specs.Nodes.{node_file}
use Rattle.sefs.specs.Folders.{dots_entry}
use Rattle.cuts.specs.Stores.{Store, super, map, node, slot, long, make, after_store, after_stores, cut_after}
use Rattle.cuts.specs.Creates.{Birth, grows, new_parent, naming, group_stores, file_stores, dot_stores, slot_stores, meta_stores, map_stores, node_stores, parent_stores, create_stores, before_file, before_dots, before_slot, before_super, before_map, before_node, before_parent, is_stored}
use Rattle.cuts.proofs.Steps.{done-is, dot_entry}
use Rattle.cuts.proofs.Counts.{count, one-group, two-dots}
use Rattle.cuts.proofs.Stores.{group_map, maps-count}

-- the store that comes after k others leads from I k to I (k + 1)
abbrev pub Goes : (ℕ → List ℕ → Type 0) → ℕ → Store → Type 0
Goes I k s = (x y : List ℕ) → after_store s x ≡ done y → I k x → I (suc k) y

-- each of a list has P, with its number; the first has number k
abbrev AllAt : (ℕ → Store → Type 0) → ℕ → List Store → Type 0
AllAt P k [] = Unit
AllAt P k (s ∷ l) = P k s × AllAt P (suc k) l

all-at-join : (P : ℕ → Store → Type 0) (k : ℕ) (l m : List Store) → AllAt P k l → AllAt P (k + length l) m → AllAt P k (l ++ m)
all-at-join P k [] m x y = subst (λ (j : ℕ). AllAt P j m) (let e : k + 0 ≡ k = omega arith in e) y
all-at-join P k (s ∷ l) m x y =
    let e : k + suc (length l) ≡ suc k + length l = omega arith in
    (x.0, all-at-join P (suc k) l m x.1 (subst (λ (j : ℕ). AllAt P j m) e y))

along : (I : ℕ → List ℕ → Type 0) (k n : ℕ) (l : List Store) (a b : List ℕ) → AllAt (Goes I) k l → I k a → after_stores (take n l) a ≡ done b
    → I (k + min n (length l)) b
unfolding after_stores
along I k zero l a b x i e =
    let q : k ≡ k + min 0 (length l) = omega arith in
    subst (λ (d : List ℕ). I (k + min 0 (length l)) d) (done-is e) (subst (λ (j : ℕ). I j a) q i)
along I k (suc n) [] a b x i e =
    let q : k ≡ k + min (suc n) 0 = omega arith in
    subst (λ (d : List ℕ). I (k + min (suc n) 0) d) (done-is e) (subst (λ (j : ℕ). I j a) q i)
along I k (suc n) (s ∷ l) a b x i e =
    let z = bind-is-done (after_store s a) (after_stores (take n l)) b e in
    let q : suc k + min n (length l) ≡ k + min (suc n) (suc (length l)) = omega arith in
    subst (λ (j : ℕ). I j b) q (along I (suc k) n l z.0 b x.1 (x.0 a z.0 z.1 i) z.2)

-- ---- the stores of a create, each with its number

pub record Numbered (P : ℕ → Store → Type 0) (c : Birth) : Type 0 where
  pub group : before_file c ≡ 1 → grows c ≡ true → P 0 (long meta_file (131072 * c.after.super.groups))
  pub file : P (before_file c) (make (node_file c.child))
  pub dot : length (dot_stores c) ≡ 2 → is_folder c.child.kind ≡ true → P (before_dots c) (slot (node_file c.child) 0 (dot_entry c.id))
  pub dots : length (dot_stores c) ≡ 2 → is_folder c.child.kind ≡ true → P (before_dots c + 1) (slot (node_file c.child) 1 (dots_entry c.up))
  pub slot : P (before_slot c) (slot (node_file c.parent) c.parent.blocks (naming c))
  pub super : P (before_super c) (super c.after.super)
  pub maps : (g : ℕ) → g < c.after.super.groups → P (before_map c g) (map g (group_map c.after.maps g))
  pub up : P (before_parent c) (node c.up (new_parent c))
  pub node : P (before_node c) (node c.id c.child)

module _ (P : ℕ → Store → Type 0) where
  move : (j k : ℕ) (s : Store) → j ≡ k → P j s → P k s
  move j k s e x = subst (λ (i : ℕ). P i s) e x

  maps-at : (k : ℕ) (maps : List ℕ) (n : ℕ) → ((g : ℕ) → g < n → P (k + g) (map g (group_map maps g))) → AllAt P k (map_stores maps n)
  unfolding map_stores
  maps-at k maps zero h = tt
  maps-at k maps (suc n) h =
      all-at-join P k (map_stores maps n) (map n (group_map maps n) ∷ []) (maps-at k maps n (λ g l. h g (omega arith)))
      (move (k + n) (k + length (map_stores maps n)) _ (omega (arith, maps-count maps n)) (h n (omega arith)), tt)

  module _ (c : Birth) (N : Numbered P c) where
    abbrev l5 : List Store
    l5 = node_stores c ++ parent_stores c

    abbrev l4 : List Store
    l4 = meta_stores c ++ l5

    abbrev maps : List Store
    maps = map_stores c.after.maps c.after.super.groups

    group_at : (b : Bool) → grows c ≡ b → AllAt P 0 (pick b (long meta_file (131072 * c.after.super.groups) ∷ []) [])
    group_at true e = (N.group (one-group c e) e, tt)
    group_at false e = tt

    dots-at : (b : Bool) → is_folder c.child.kind ≡ b
        → AllAt P (before_dots c) (pick b (slot (node_file c.child) 0 (dot_entry c.id) ∷ slot (node_file c.child) 1 (dots_entry c.up) ∷ []) [])
    dots-at true e =
        let two = two-dots c e in
        (N.dot two e, (move (before_dots c + 1) (suc (before_dots c)) _ (omega arith) (N.dots two e), tt))
    dots-at false e = tt

    at : (j k : ℕ) (l : List Store) → j ≡ k → AllAt P j l → AllAt P k l
    at j k l e x = subst (λ (i : ℕ). AllAt P i l) e x

    last : AllAt P (before_node c) l5
    last = (N.node, (move (before_parent c) (suc (before_node c)) _ (omega arith) N.up, tt))

    metas : AllAt P (before_super c) l4
    metas = (
      N.super,
      all-at-join P (suc (before_super c)) maps l5
          (maps-at (suc (before_super c)) c.after.maps c.after.super.groups
          (λ g l. move (before_map c g) (suc (before_super c) + g) _ (omega arith) (N.maps g l)))
          (at (before_node c) (suc (before_super c) + length maps) l5 (omega (arith, maps-count c.after.maps c.after.super.groups)) last),
    )

    numbered : AllAt P 0 (create_stores c)
    unfolding create_stores
    numbered =
        let l3 : List Store = slot_stores c ++ l4 in
        let l2 : List Store = dot_stores c ++ l3 in
        all-at-join P 0 (group_stores c) (file_stores c ++ l2) (group_at (grows c) refl)
        (at (before_file c) (0 + before_file c) (file_stores c ++ l2) (omega arith) (
          N.file,
          at (before_dots c) (suc (before_file c)) l2 (omega arith)
              (all-at-join P (before_dots c) (dot_stores c) l3 (dots-at (is_folder c.child.kind) refl)
              (N.slot, at (before_super c) (suc (before_slot c)) l4 (omega arith) metas)),
        ))

-- an invariant that each store keeps holds of each cut; cuts beyond the last store are the same
pub at_cut : (I : ℕ → List ℕ → Type 0) (c : Birth) → Numbered (Goes I) c → (a : List ℕ) → I 0 a
    → (n : ℕ) (b : List ℕ) → cut_after n (create_stores c) a ≡ done b → I (min n (before_parent c + 1)) b
unfolding cut_after
at_cut I c N a i n b h =
    subst (λ (j : ℕ). I j b) (let q : 0 + min n (length (create_stores c)) ≡ min n (before_parent c + 1) = omega (arith, count c) in q)
    (along I 0 n (create_stores c) a b (numbered (Goes I) c N) i h)

-- ---- a value that one store changes

-- it is u up to store K, and v after it
pub record Turns {A : Type 0} (F : List ℕ → A) (u v : A) (K n : ℕ) (x : List ℕ) : Type 0 where
  pub until : n ≤ K → F x ≡ u
  pub after : K < n → F x ≡ v

pub turn-same : {A : Type 0} {F : List ℕ → A} {u v : A} {K : ℕ} (n : ℕ) (x y : List ℕ) → (n ≡ K → u ≡ v) → F y ≡ F x
    → Turns F u v K n x → Turns F u v K (suc n) y
turn-same {K = K} n x y d e T = record {
  until = λ l. e ∙ T.until (omega arith);
  after = λ l. ⊎_elim (λ (q : K < n). e ∙ T.after q) (λ (q : n ≤ K). let z : n ≡ K = omega arith in e ∙ T.until q ∙ d z) (lt-or-le K n);
}

pub turn-here : {A : Type 0} {F : List ℕ → A} {u v : A} {K : ℕ} (n : ℕ) (y : List ℕ) → K ≤ n → F y ≡ v → Turns F u v K (suc n) y
turn-here n y l e = record { until = λ q. absurd (omega arith); after = λ q. e }

-- as a choice, for any number of stores
pub turned : {A : Type 0} {F : List ℕ → A} {u v : A} {K : ℕ} (m n : ℕ) (b : List ℕ) → K < m → Turns F u v K (min n m) b → F b ≡ pick (is_stored K n) v u
turned {u = u} {v = v} {K = K} m n b l T =
    ⊎_elim
    (λ (q : K < n). T.after (omega arith) ∙ ap (λ (x : Bool). pick x v u) (sym (lt-ltb K n q)))
    (λ (q : n ≤ K). T.until (omega arith) ∙ ap (λ (x : Bool). pick x v u) (sym (le-ltb K n q)))
    (lt-or-le K n)

-- and the choice, once the number is known
pub is-stored : {A : Type 0} {x : A} (u v : A) (k n : ℕ) → x ≡ pick (is_stored k n) v u → k < n → x ≡ v
is-stored u v k n e l = e ∙ ap (λ (z : Bool). pick z v u) (lt-ltb k n l)

pub not-stored : {A : Type 0} {x : A} (u v : A) (k n : ℕ) → x ≡ pick (is_stored k n) v u → n ≤ k → x ≡ u
not-stored u v k n e l = e ∙ ap (λ (z : Bool). pick z v u) (le-ltb k n l)
