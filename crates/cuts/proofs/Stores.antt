-- Stores one after another: of two lists, of the maps of all groups, and the first few of a list.
use mathlib.Core.Path.{◌≡◌, refl, sym, ap, ◌∙◌}
use mathlib.Core.List.{List, [], ◌∷◌, ◌++◌}
use mathlib.Core.Logic.{⊎_elim}
use Prim.Native.Nat.{ℕ, zero, suc, ◌*◌, ◌+◌, ◌≤◌, ◌<◌}
use native.Mathlib.Omega.{arith}
use lib.ListN.{length, length-append, take}
use lib.Seq.{take_all, take-append-le}
use Rattle.base.specs.Out.{Out, done, refused, bind}
use Rattle.base.specs.Parts.{part}
use Rattle.base.proofs.Numbers.{lt-or-le}
use Rattle.base.proofs.Outs.{bind_done, bind-is-done}
use Rattle.structs.specs.Layout.{super_bytes}
use Rattle.structs.specs.declared.SuperBlock.{SuperBlock}
use Rattle.files.specs.Store.{put_file}
use Rattle.sefs.specs.Meta.{meta_file, map_at, store_maps}
use Rattle.cuts.specs.Stores.{Store, super, map, after_store, after_stores, cut_after}
use Rattle.cuts.specs.Creates.{map_stores}

-- group n's of all the maps
abbrev pub group_map : List ℕ → ℕ → List ℕ
group_map maps n = part maps (128 * n) (128 * n + 128)

pub maps-count : (maps : List ℕ) (n : ℕ) → length (map_stores maps n) ≡ n
unfolding map_stores
maps-count maps zero = refl
maps-count maps (suc n) = length-append (map_stores maps n) (map n (group_map maps n) ∷ []) ∙ omega (arith, maps-count maps n)

-- a list and then another
all_append : (l m : List Store) (a : List ℕ) → after_stores (l ++ m) a ≡ bind (after_stores l a) (after_stores m)
unfolding after_stores
all_append [] m a = refl
all_append (s ∷ l) m a = step (after_store s a) (λ b. all_append l m b)
  where
    step : (o : Out (List ℕ)) → ((b : List ℕ) → after_stores (l ++ m) b ≡ bind (after_stores l b) (after_stores m))
        → bind o (after_stores (l ++ m)) ≡ bind (bind o (after_stores l)) (after_stores m)
    step (done b) h = h b
    step (refused n) h = refl

pub all_then : (l m : List Store) (a b c : List ℕ) → after_stores l a ≡ done b → after_stores m b ≡ done c → after_stores (l ++ m) a ≡ done c
all_then l m a b c e f = all_append l m a ∙ ap (λ (o : Out (List ℕ)). bind o (after_stores m)) e ∙ f

-- what 000's loop over the groups stores
pub maps-all : (a maps : List ℕ) (n : ℕ) → after_stores (map_stores maps n) a ≡ store_maps a maps n
unfolding after_stores after_store map_stores store_maps
maps-all a maps zero = refl
maps-all a maps (suc n) =
    all_append (map_stores maps n) last a ∙ ap (λ (o : Out (List ℕ)). bind o (after_stores last)) (maps-all a maps n) ∙ one (store_maps a maps n)
  where
    last : List Store
    last = map n (group_map maps n) ∷ []

    one : (o : Out (List ℕ)) → bind o (after_stores last) ≡ bind o (λ d. put_file d meta_file (map_at n) (group_map maps n))
    one (done b) = bind_done (put_file b meta_file (map_at n) (group_map maps n))
    one (refused r) = refl

-- the first k of the maps' stores are those of k groups
take-maps : (maps : List ℕ) (k n : ℕ) → k ≤ n → take k (map_stores maps n) ≡ map_stores maps k
unfolding map_stores
take-maps maps k zero l = ap (λ (j : ℕ). take j (map_stores maps 0)) e ∙ ap (map_stores maps) (sym e)
  where
    e : k ≡ 0
    e = omega arith
take-maps maps k (suc n) l =
    ⊎_elim
    (λ (q : n < k).
    let e : k ≡ suc n = omega arith in
    take_all k (map_stores maps (suc n)) (omega (arith, maps-count maps (suc n))) ∙ ap (map_stores maps) (sym e))
    (λ (q : k ≤ n). take-append-le k (map_stores maps n) (map n (group_map maps n) ∷ []) (omega (arith, maps-count maps n)) ∙ take-maps maps k n q)
    (lt-or-le n k)

-- the superblock, and then map by map
pub map-by-map : (a x maps : List ℕ) (b : SuperBlock) (n : ℕ) → put_file a meta_file 0 (super_bytes b) ≡ done x
    → (k : ℕ) → k ≤ n → cut_after (suc k) (super b ∷ map_stores maps n) a ≡ store_maps x maps k
unfolding cut_after after_stores after_store
map-by-map a x maps b n e k l =
    ap (λ (m : List Store). bind (put_file a meta_file 0 (super_bytes b)) (after_stores m)) (take-maps maps k n l)
    ∙ ap (λ (o : Out (List ℕ)). bind o (after_stores (map_stores maps k))) e ∙ maps-all x maps k

-- where all the stores can be done, so can the first n
pub cut-some : (n : ℕ) (l : List Store) (a c : List ℕ) → after_stores l a ≡ done c → (b : List ℕ) × (cut_after n l a ≡ done b)
unfolding cut_after after_stores
cut-some zero l a c e = (a, refl)
cut-some (suc n) [] a c e = (a, refl)
cut-some (suc n) (s ∷ l) a c e =
    let x = bind-is-done (after_store s a) (after_stores l) c e in
    let y = cut-some n l x.0 c x.2 in
    (y.0, ap (λ (o : Out (List ℕ)). bind o (after_stores (take n l))) x.1 ∙ y.1)
