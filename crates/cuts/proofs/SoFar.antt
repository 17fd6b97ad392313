-- All that a cut has changed, byte by byte; all else is as it was.
use mathlib.Core.Path.{◌≡◌, refl, sym, ap, ◌∙◌, subst}
use mathlib.Core.Bool.{Bool, true, false}
use mathlib.Core.List.{List, [], ◌∷◌}
use mathlib.Core.Logic.{◌≢◌, ◌⊎◌, inl, inr, ⊎_elim}
use Prim.Native.Nat.{ℕ, zero, suc, ◌+◌, ◌*◌, ◌-◌, ◌%◌, ◌≤◌, ◌<◌, min}
use native.Mathlib.Omega.{arith}
use lib.ListN.{length, get_or}
use borrow.Author.Tests.{lt-ltb, le-ltb, ltb-false}
use Rattle.base.specs.Count.{bit}
use Rattle.base.specs.Out.{done}
use Rattle.base.specs.Parts.{tab, Outside}
use Rattle.base.specs.Search.{pick}
use Rattle.base.proofs.Bools.{bool_cases, true-false}
use Rattle.base.proofs.Lists.{tab-cong}
use Rattle.base.proofs.Numbers.{lt-or-le}
use Rattle.base.proofs.Parts.{part-all}
use Rattle.le.specs.Le.{Bytes}
use Rattle.structs.specs.Constants.{type_dir}
use Rattle.structs.specs.Fits.{EntryFits}
use Rattle.structs.specs.Layout.{super_bytes, record_bytes, entry_bytes}
use Rattle.structs.specs.Types.{is_folder}
use Rattle.structs.proofs.Layouts.{length-super_bytes, super_bytes-bytes, record_bytes-bytes, length-entry_bytes, entry_bytes-bytes}
use Rattle.arena.specs.Fields.{File, file}
use Rattle.files.specs.Read.{there, length_of, byte_at}
use Rattle.files.specs.Store.{put_file}
use Rattle.files_laws.specs.Laws.{Kept}
use Rattle.files_laws.proofs.Bounds.{legal-same}
use Rattle.files_laws.proofs.Parts.{sound-inside}
use Rattle.files_laws.proofs.Views.{length_none}
use Rattle.sefs.specs.Meta.{meta_file, map_at}
use Rattle.sefs.specs.Nodes.{node_file}
use Rattle.sefs.specs.Folders.{dots_entry}
use Rattle.sefs.specs.Create.{Given}
use Rattle.rules.specs.Image.{run, stored_bytes}
use Rattle.rules.specs.Rules.{Allowed, Rule1}
use Rattle.rules.proofs.Files.{node-below}
use Rattle.image.proofs.Metas.{kept_same, kept_then, node-other, put-run}
use Rattle.image.proofs.NewNames.{entry-fits}
use Rattle.image.proofs.Stores.{node-apart}
use Rattle.sequences.specs.Pairs.{Pair}
use Rattle.sequences.proofs.Passing.{allowed}
use Rattle.cuts.specs.Stores.{Store, super, map, node, slot, long, make, after_store, cut_after}
use Rattle.cuts.specs.Creates.{Birth, grows, new_parent, naming, dot_stores, create_stores, before_file, before_dots, before_slot, before_super, before_map, before_node, before_parent, is_stored}
use Rattle.cuts.specs.Premise.{Creation}
use Rattle.cuts.specs.Cuts.{SoFar, OnlyTraces, OldSlots, KeepsFolder, KeepsOthers}
use Rattle.cuts.proofs.Stores.{group_map}
use Rattle.cuts.proofs.Steps.{dot_entry}
use Rattle.cuts.proofs.Spares.{put_is, cut-is, make-is, Spares, spare-one, Else, kept-one}
use Rattle.cuts.proofs.Facts.{Known, known, new-id, map-long}
use Rattle.cuts.proofs.Counts.{one-group, two-dots}
use Rattle.cuts.proofs.Along.{Goes, Numbered, at_cut, Turns, turn-same, turn-here, turned, is-stored}

-- ---- parts of the metadata file do not overlap

pub record-map : (id i : ℕ) → id % 1024 ≢ 1 → (128 * id + 112 ≤ map_at i) ⊎ (map_at i + 128 ≤ 128 * id)
record-map id i d =
    ⊎_elim
    (λ (q : id < 1024 * i + 1). inl (omega arith))
    (λ (q : 1024 * i + 1 ≤ id). ⊎_elim
    (λ (w : id < 1024 * i + 2). absurd (d (let e : id ≡ 1024 * i + 1 = omega arith in omega arith)))
    (λ w. inr (omega arith))
    (lt-or-le id (1024 * i + 2)))
    (lt-or-le id (1024 * i + 1))

flip : {P Q : Type 0} → P ⊎ Q → Q ⊎ P
flip o = ⊎_elim (λ x. inr x) (λ x. inl x) o

pub positive : (id : ℕ) → id ≢ 0 → 1 ≤ id
positive id d = ⊎_elim (λ (q : id < 1). absurd (d (omega arith))) (λ q. q) (lt-or-le id 1)

pub apart-ids : (x y : ℕ) → x ≢ y → (128 * y + 112 ≤ 128 * x) ⊎ (128 * x + 112 ≤ 128 * y)
apart-ids x y d =
    ⊎_elim
    (λ (q : x < y). inr (omega arith))
    (λ (q : y ≤ x). ⊎_elim (λ (w : y < x). inl (omega arith)) (λ (w : x ≤ y). absurd (d (omega arith))) (lt-or-le y x))
    (lt-or-le x y)

-- where the len bytes from pos on and the n from x on do not overlap, byte j of the first is none of the others
elsewhere : (pos len x n j : ℕ) → j < len → (pos + len ≤ x) ⊎ (x + n ≤ pos) → x ≤ pos + j → x + n ≤ pos + j
elsewhere pos len x n j l o z = ⊎_elim (λ q. absurd (omega arith)) (λ q. omega arith) o

-- ---- how many of two stores are done

stored-dots : (x : Bool) (k n : ℕ) (s t : Store) → min (n - k) (length (pick x (s ∷ t ∷ []) [])) ≡ pick x (bit (is_stored k n) + bit (is_stored (k + 1) n)) 0
stored-dots false k n s t = omega arith
stored-dots true k n s t =
    ⊎_elim
    (λ (q : k < n). ⊎_elim
    (λ (r : k + 1 < n). omega (arith, ap bit (lt-ltb k n q), ap bit (lt-ltb (k + 1) n r)))
    (λ (r : n ≤ k + 1). omega (arith, ap bit (lt-ltb k n q), ap bit (le-ltb (k + 1) n r)))
    (lt-or-le (k + 1) n))
    (λ (q : n ≤ k). omega (arith, ap bit (le-ltb k n q), ap bit (le-ltb (k + 1) n (omega arith))))
    (lt-or-le k n)

-- ---- bytes that one store changes

-- len bytes of a file from pos on: u until store K, and v after it
abbrev Reads : File → ℕ → ℕ → List ℕ → List ℕ → ℕ → ℕ → List ℕ → Type 0
Reads f pos len u v K = Turns (λ x. run x f pos len) u v K

spared : {u v : List ℕ} {K : ℕ} (f : File) (pos len : ℕ) (s : Store) (k : ℕ) → k ≢ K → ((j : ℕ) → j < len → Spares f (pos + j) s)
    → Goes (Reads f pos len u v K) k s
spared f pos len s k d h x y e =
    turn-same k x y (λ q. absurd (d q)) (tab-cong (byte_at y f) (byte_at x f) pos pos len (λ j l. spare-one s x y f (pos + j) (h j l) e))

written : {u v : List ℕ} {K : ℕ} (f : File) (pos len : ℕ) (x y : List ℕ) → length v ≡ len → put_file x f pos v ≡ done y → Reads f pos len u v K (suc K) y
written {v = v} {K = K} f pos len x y m e = turn-here K y (omega arith) (put-run x y f pos len v m (put_is x y f pos v e))

-- ---- all of a create

module _ (p : Pair) (c : Birth) (g : Given) (B : Creation p c g) where
  abbrev a : List ℕ
  a = p.arena

  A : Allowed p.arena p.table
  A = allowed p B.passed

  K : Known p.arena c
  K = known p c g B

  abbrev child : File
  child = node_file c.child

  abbrev parent : File
  parent = node_file c.parent

  -- the parent's slots before
  abbrev slots : ℕ
  slots = c.parent.blocks

  abbrev groups : ℕ
  groups = c.after.super.groups

  up_apart : c.up % 1024 ≢ 1
  up_apart = node-apart a c.up K.up

  files-apart : child ≢ parent
  files-apart e = true-false K.was (ap (there a) (sym e) ∙ K.absent)

  -- ---- the slots' bytes

  dot-fits : EntryFits (dot_entry c.id)
  dot-fits = entry-fits c.id (46 ∷ []) type_dir (omega (arith, K.taken.inside, K.taken.sane.few)) (omega arith) (omega arith) one
    where
      one : Bytes (46 ∷ [])
      one zero = omega arith
      one (suc i) = omega arith

  dots-fits : EntryFits (dots_entry c.up)
  dots-fits = entry-fits c.up (46 ∷ 46 ∷ []) type_dir (omega (arith, node-below a c.up K.up, A.rule3.few)) (omega arith) (omega arith) two
    where
      two : Bytes (46 ∷ 46 ∷ [])
      two zero = omega arith
      two (suc zero) = omega arith
      two (suc (suc i)) = omega arith

  pub naming-fits : EntryFits (naming c)
  naming-fits =
      entry-fits c.id c.name c.child.kind (omega (arith, K.taken.inside, K.taken.sane.few)) (omega (arith, K.child-kind.1))
      K.short K.name-bytes

  -- ---- parts of the metadata file

  -- len bytes from pos on, which none but store S changes
  module _ (pos len : ℕ) {u v : List ℕ} {S : ℕ} (late : before_super c ≤ S) (end : pos + len ≤ 131072 * groups) where
    in-meta : Goes (Reads meta_file pos len u v S) (before_super c) (super c.after.super)
        → ((i : ℕ) → i < groups → Goes (Reads meta_file pos len u v S) (before_map c i) (map i (group_map c.after.maps i)))
        → Goes (Reads meta_file pos len u v S) (before_node c) (node c.id c.child)
        → Goes (Reads meta_file pos len u v S) (before_parent c) (node c.up (new_parent c))
        → Numbered (Goes (Reads meta_file pos len u v S)) c
    in-meta s m x y =
        let other : (f : List ℕ) → file 1 f ≢ meta_file = λ f e. node-other f (sym e) in
        record {
          group = λ one _. spared meta_file pos len _ 0 (λ e. omega arith) (λ j l. inr (refl, omega arith));
          file = spared meta_file pos len _ (before_file c) (λ e. omega arith) (λ j l. (K.child-named, inl (other c.child.file)));
          dot = λ two _. spared meta_file pos len _ (before_dots c) (λ e. omega arith) (λ j l. inl (other c.child.file));
          dots = λ two _. spared meta_file pos len _ (before_dots c + 1) (λ e. omega arith) (λ j l. inl (other c.child.file));
          slot = spared meta_file pos len _ (before_slot c) (λ e. omega arith) (λ j l. inl (other c.parent.file));
          super = s;
          maps = m;
          up = y;
          node = x;
        }

    -- they are elsewhere than what another store writes
    super-else : before_super c ≢ S → 16 ≤ pos → Goes (Reads meta_file pos len u v S) (before_super c) (super c.after.super)
    super-else d l =
        spared meta_file pos len _ (before_super c) d (λ j m. inr (refl, λ z. omega (arith, length-super_bytes c.after.super)))

    map-else : (i : ℕ) → i < groups → before_map c i ≢ S → (pos + len ≤ map_at i) ⊎ (map_at i + 128 ≤ pos)
        → Goes (Reads meta_file pos len u v S) (before_map c i) (map i (group_map c.after.maps i))
    map-else i l d o =
        spared meta_file pos len _ (before_map c i) d
        (λ j m. inr (refl, λ z. omega (arith, map-long p c g B i l, elsewhere pos len (map_at i) 128 j m o z)))

    node-else : before_node c ≢ S → (pos + len ≤ 128 * c.id) ⊎ (128 * c.id + 112 ≤ pos)
        → Goes (Reads meta_file pos len u v S) (before_node c) (node c.id c.child)
    node-else d o =
        spared meta_file pos len _ (before_node c) d (λ j m. inr (refl, λ z. omega (arith, K.child-long, elsewhere pos len (128 * c.id) 112 j m o z)))

    up-else : before_parent c ≢ S → (pos + len ≤ 128 * c.up) ⊎ (128 * c.up + 112 ≤ pos)
        → Goes (Reads meta_file pos len u v S) (before_parent c) (node c.up (new_parent c))
    up-else d o =
        spared meta_file pos len _ (before_parent c) d (λ j m. inr (refl, λ z. omega (arith, K.parent-long, elsewhere pos len (128 * c.up) 112 j m o z)))

  super-each : Numbered (Goes (Reads meta_file 0 16 (run a meta_file 0 16) (super_bytes c.after.super) (before_super c))) c
  unfolding after_store
  super-each =
      let e : 0 + 16 ≤ 131072 * groups = omega (arith, K.taken.sane.some) in
      in-meta 0 16 (omega arith) e
      (λ x y q _. written meta_file 0 16 x y (length-super_bytes c.after.super) q)
      (λ i l. map-else 0 16 (omega arith) e i l (λ z. omega arith) (inl (omega arith)))
      (node-else 0 16 (omega arith) e (λ z. omega arith) (inl (omega (arith, positive c.id K.taken.some))))
      (up-else 0 16 (omega arith) e (λ z. omega arith) (inl (omega (arith, positive c.up K.up-some))))

  module _ (i : ℕ) (l : i < groups) where
    abbrev Map : ℕ → List ℕ → Type 0
    Map = Reads meta_file (map_at i) 128 (run a meta_file (map_at i) 128) (group_map c.after.maps i) (before_map c i)

    own-map : (k : ℕ) → i ≡ k → Goes Map (before_map c k) (map k (group_map c.after.maps k))
    unfolding after_store
    own-map k e =
        subst (λ (k : ℕ). Goes Map (before_map c k) (map k (group_map c.after.maps k))) e
        (λ x y q _. written meta_file (map_at i) 128 x y (map-long p c g B i l) q)

    map_each : Numbered (Goes Map) c
    map_each =
        let late : before_super c ≤ before_map c i = omega arith in
        let e : map_at i + 128 ≤ 131072 * groups = omega arith in
        in-meta (map_at i) 128 late e
        (super-else (map_at i) 128 late e (λ z. omega arith) (omega arith))
        (λ k m. ⊎_elim
        (λ (q : k < i). map-else (map_at i) 128 late e k m (λ z. omega arith) (inr (omega arith)))
        (λ (q : i ≤ k). ⊎_elim
        (λ (w : i < k). map-else (map_at i) 128 late e k m (λ z. omega arith) (inl (omega arith)))
        (λ (w : k ≤ i). own-map k (omega arith))
        (lt-or-le i k))
        (lt-or-le k i))
        (node-else (map_at i) 128 late e (λ z. omega arith) (flip (record-map c.id i K.taken.apart)))
        (up-else (map_at i) 128 late e (λ z. omega arith) (flip (record-map c.up i up_apart)))

  module _ (id : ℕ) (r : List ℕ) (some : id ≢ 0) (apart : id % 1024 ≢ 1) (below : id < 1024 * groups) (S : ℕ) (late : before_node c ≤ S) where
    abbrev R : ℕ → List ℕ → Type 0
    R = Reads meta_file (128 * id) 112 (run a meta_file (128 * id) 112) r S

    record-each : Goes R (before_node c) (node c.id c.child) → Goes R (before_parent c) (node c.up (new_parent c)) → Numbered (Goes R) c
    record-each x y =
        in-meta (128 * id) 112 (omega arith) (omega arith)
        (super-else (128 * id) 112 (omega arith) (omega arith) (λ z. omega arith) (omega (arith, positive id some)))
        (λ i l. map-else (128 * id) 112 (omega arith) (omega arith) i l (λ z. omega arith) (record-map id i apart))
        x y

  node-each : Numbered (Goes (Reads meta_file (128 * c.id) 112 (run a meta_file (128 * c.id) 112) (record_bytes c.child) (before_node c))) c
  unfolding after_store
  node-each =
      record-each c.id (record_bytes c.child) K.taken.some K.taken.apart K.taken.inside (before_node c) (omega arith)
      (λ x y q _. written meta_file (128 * c.id) 112 x y K.child-long q)
      (up-else (128 * c.id) 112 (omega arith) (omega (arith, K.taken.inside)) (λ z. omega arith)
      (apart-ids c.up c.id (λ e. new-id p c g B c.up K.up (sym e))))

  up-each : Numbered (Goes (Reads meta_file (128 * c.up) 112 (run a meta_file (128 * c.up) 112) (record_bytes (new_parent c)) (before_parent c))) c
  unfolding after_store
  up-each =
      let below : c.up < 1024 * groups = omega (arith, node-below a c.up K.up, K.taken.more) in
      record-each c.up (record_bytes (new_parent c)) K.up-some up_apart below (before_parent c) (omega arith)
      (node-else (128 * c.up) 112 (omega arith) (omega arith) (λ z. omega arith)
      (apart-ids c.id c.up (new-id p c g B c.up K.up)))
      (λ x y q _. written meta_file (128 * c.up) 112 x y K.parent-long q)

  -- ---- the metadata file's length

  more : c.before.super.groups ≤ groups
  more = omega (arith, K.old, K.taken.more)

  level : before_file c ≡ 0 → c.before.super.groups ≡ groups
  level e = ⊎_elim
      (λ (q : grows c ≡ true). absurd (omega (arith, one-group c q)))
      (λ (q : grows c ≡ false). let m = ltb-false c.before.super.groups groups q in omega (arith, more))
      (bool_cases (grows c))

  abbrev Longs : ℕ → List ℕ → Type 0
  Longs = Turns (λ x. length_of x meta_file) (131072 * c.before.super.groups) (131072 * groups) 0

  inside : (x y : List ℕ) (pos : ℕ) (src : List ℕ) (k : ℕ) → 0 < k → pos + length src ≤ 131072 * groups
      → put_file x meta_file pos src ≡ done y → Longs k x → Longs (suc k) y
  inside x y pos src k l m e T =
      turn-here k y (omega arith)
      ((put_is x y meta_file pos src e).long ∙ (let q = T.after l in omega arith))

  long-each : Numbered (Goes Longs) c
  unfolding after_store
  long-each =
      let other : child ≢ meta_file = λ e. node-other c.child.file (sym e) in
      let same : (s : Store) (k : ℕ) → Else meta_file s → (k ≡ 0 → c.before.super.groups ≡ groups) → Goes Longs k s =
      λ s k m d x y e. turn-same k x y (λ z. ap (λ (i : ℕ). 131072 * i) (d z)) (kept-one s x y meta_file m e).long in
      record {
        group = λ one _ x y e T. turn-here 0 y (omega arith) (cut-is x y meta_file _ e).long;
        file = same (make child) (before_file c) (K.child-named, other) level;
        dot = λ two _. same (slot child 0 (dot_entry c.id)) (before_dots c) other (λ z. omega arith);
        dots = λ two _. same (slot child 1 (dots_entry c.up)) (before_dots c + 1) other (λ z. omega arith);
        slot = same (slot parent slots (naming c)) (before_slot c) (λ e. node-other c.parent.file (sym e)) (λ z. omega arith);
        super = λ x y. inside x y 0 (super_bytes c.after.super) (before_super c) (omega arith)
            (omega (arith, length-super_bytes c.after.super, K.taken.sane.some));
        maps = λ i l x y. inside x y (map_at i) (group_map c.after.maps i) (before_map c i) (omega arith) (omega (arith, map-long p c g B i l));
        up = λ x y. inside x y (128 * c.up) (record_bytes (new_parent c)) (before_parent c) (omega arith)
            (omega (arith, K.parent-long, node-below a c.up K.up, K.taken.more));
        node = λ x y. inside x y (128 * c.id) (record_bytes c.child) (before_node c) (omega arith)
            (omega (arith, K.child-long, K.taken.inside));
      }

  -- ---- the new file

  module _ (I : ℕ → List ℕ → Type 0) (same : (k : ℕ) (x y : List ℕ) → (k < before_file c) ⊎ (before_slot c ≤ k) → Kept x y child → I k x → I (suc k) y) where
    in-child : Goes I (before_file c) (make child) → (length (dot_stores c) ≡ 2 → Goes I (before_dots c) (slot child 0 (dot_entry c.id)))
        → (length (dot_stores c) ≡ 2 → Goes I (before_dots c + 1) (slot child 1 (dots_entry c.up))) → Numbered (Goes I) c
    in-child f d e =
        let m : meta_file ≢ child = node-other c.child.file in
        let rest : (s : Store) (k : ℕ) → Else child s → (k < before_file c) ⊎ (before_slot c ≤ k) → Goes I k s =
        λ s k z o x y q i. same k x y o (kept-one s x y child z q) i in
        record {
          group = λ one _. rest _ 0 m (inl (omega arith));
          file = f;
          dot = λ two _. d two;
          dots = λ two _. e two;
          slot = rest _ (before_slot c) (λ z. files-apart (sym z)) (inr (omega arith));
          super = rest _ (before_super c) m (inr (omega arith));
          maps = λ i l. rest _ (before_map c i) m (inr (omega arith));
          up = rest _ (before_parent c) m (inr (omega arith));
          node = rest _ (before_node c) m (inr (omega arith));
        }

  dot-long : length (entry_bytes (dot_entry c.id)) ≡ 264
  dot-long = length-entry_bytes (dot_entry c.id) dot-fits.name

  dots-long : length (entry_bytes (dots_entry c.up)) ≡ 264
  dots-long = length-entry_bytes (dots_entry c.up) dots-fits.name

  -- it is there
  there-each : Numbered (Goes (Turns (λ x. there x child) false true (before_file c))) c
  unfolding after_store
  there-each =
      in-child (Turns (λ x. there x child) false true (before_file c))
      (λ k x y o k2 T. turn-same k x y (λ e. absurd (⊎_elim (λ z. omega arith) (λ z. omega arith) o)) k2.exists T)
      (λ x y e T. turn-here (before_file c) y (omega arith) (make-is x y child K.child-named e).exists)
      (λ two x y e T. turn-here (before_dots c) y (omega arith) (put_is x y child 0 _ e).exists)
      (λ two x y e T. turn-here (before_dots c + 1) y (omega arith) (put_is x y child 264 _ e).exists)

  -- and so long
  record Length (k : ℕ) (x : List ℕ) : Type 0 where
    is : length_of x child ≡ 264 * min (k - before_dots c) (length (dot_stores c))
    absent : k ≤ before_file c → there x child ≡ false

  length-each : Numbered (Goes Length) c
  unfolding after_store
  length-each =
      in-child Length
      (λ k x y o k2 L. record {
        is = k2.long ∙ L.is ∙ ⊎_elim (λ (z : k < before_file c). omega arith) (λ (z : before_slot c ≤ k). omega arith) o;
        absent = λ l. k2.exists ∙ L.absent (omega arith);
      })
      (λ x y e L. record { is = (make-is x y child K.child-named e).long (L.absent (omega arith)) ∙ omega arith; absent = λ l. absurd (omega arith) })
      (λ two x y e L. record { is = (put_is x y child 0 _ e).long ∙ (let q = L.is in omega (arith, dot-long)); absent = λ l. absurd (omega arith) })
      (λ two x y e L. record { is = (put_is x y child 264 _ e).long ∙ (let q = L.is in omega (arith, dots-long)); absent = λ l. absurd (omega arith) })

  -- a new folder's slots
  slots-each : (pos : ℕ) (v : List ℕ) (S : ℕ) → before_file c < S → S < before_slot c
      → (length (dot_stores c) ≡ 2 → Goes (Reads child pos 264 (run a child pos 264) v S) (before_dots c) (slot child 0 (dot_entry c.id)))
      → (length (dot_stores c) ≡ 2 → Goes (Reads child pos 264 (run a child pos 264) v S) (before_dots c + 1) (slot child 1 (dots_entry c.up)))
      → Numbered (Goes (Reads child pos 264 (run a child pos 264) v S)) c
  slots-each pos v S lo hi d e =
      in-child (Reads child pos 264 (run a child pos 264) v S)
      (λ k x y o k2 T. turn-same k x y (λ z. absurd (⊎_elim (λ q. omega arith) (λ q. omega arith) o))
      (tab-cong (byte_at y child) (byte_at x child) pos pos 264 (λ j l. k2.byte (pos + j))) T)
      (spared child pos 264 (make child) (before_file c) (λ z. omega arith) (λ j l. (K.child-named, inr refl)))
      d e

  -- ---- the parent's file

  module _ {Val : Type 0} (F : List ℕ → Val) (u v : Val) (same : (x y : List ℕ) → Kept x y parent → F y ≡ F x) where
    in-parent : Goes (Turns F u v (before_slot c)) (before_slot c) (slot parent slots (naming c))
        → Numbered (Goes (Turns F u v (before_slot c))) c
    in-parent here =
        let m : meta_file ≢ parent = node-other c.parent.file in
        let rest : (s : Store) (k : ℕ) → Else parent s → k ≢ before_slot c → Goes (Turns F u v (before_slot c)) k s =
        λ s k z d x y e T. turn-same k x y (λ q. absurd (d q)) (same x y (kept-one s x y parent z e)) T in
        record {
          group = λ one _. rest _ 0 m (λ z. omega arith);
          file = rest (make child) (before_file c) (K.child-named, files-apart) (λ z. omega arith);
          dot = λ two _. rest _ (before_dots c) files-apart (λ z. omega arith);
          dots = λ two _. rest _ (before_dots c + 1) files-apart (λ z. omega arith);
          slot = here;
          super = rest _ (before_super c) m (λ z. omega arith);
          maps = λ i l. rest _ (before_map c i) m (λ z. omega arith);
          up = rest _ (before_parent c) m (λ z. omega arith);
          node = rest _ (before_node c) m (λ z. omega arith);
        }

  naming-long : length (entry_bytes (naming c)) ≡ 264
  naming-long = length-entry_bytes (naming c) naming-fits.name

  -- ---- the arena stays one

  record Fine (k : ℕ) (x : List ℕ) : Type 0 where
    rule1 : Rule1 x
    bytes : Bytes x
    absent : k ≤ before_file c → there x child ≡ false

  put-fine : (x y : List ℕ) (f : File) (pos : ℕ) (src : List ℕ) (k : ℕ) → before_file c < k → Bytes src → put_file x f pos src ≡ done y
      → Fine k x → Fine (suc k) y
  put-fine x y f pos src k l s e F =
      let P = put_is x y f pos src e in
      record {
        rule1 = record { length = legal-same x y P.size ∙ F.rule1.length; sound = P.keeps F.bytes s F.rule1.sound };
        bytes = P.bytes F.bytes s;
        absent = λ m. absurd (omega arith);
      }

  fine-each : Numbered (Goes Fine) c
  unfolding after_store
  fine-each = record {
    group = λ one _ x y e F.
        let C = cut-is x y meta_file (131072 * groups) e in
        record {
          rule1 = record { length = legal-same x y C.size ∙ F.rule1.length; sound = C.keeps F.bytes F.rule1.sound };
          bytes = C.bytes F.bytes;
          absent = λ l. (C.others child (node-other c.child.file)).exists ∙ F.absent (omega arith);
        };
    file = λ x y e F.
        let M = make-is x y child K.child-named e in
        record {
          rule1 = record { length = legal-same x y M.size ∙ F.rule1.length; sound = M.keeps F.bytes F.rule1.sound (F.absent (omega arith)) };
          bytes = M.bytes F.bytes;
          absent = λ l. absurd (omega arith);
        };
    dot = λ two _ x y. put-fine x y child 0 _ (before_dots c) (omega arith) (entry_bytes-bytes (dot_entry c.id) dot-fits.name_bytes);
    dots = λ two _ x y. put-fine x y child 264 _ (before_dots c + 1) (omega arith) (entry_bytes-bytes (dots_entry c.up) dots-fits.name_bytes);
    slot = λ x y. put-fine x y parent (264 * slots) _ (before_slot c) (omega arith) (entry_bytes-bytes (naming c) naming-fits.name_bytes);
    super = λ x y. put-fine x y meta_file 0 _ (before_super c) (omega arith) (super_bytes-bytes c.after.super);
    maps = λ i l x y. put-fine x y meta_file (map_at i) _ (before_map c i) (omega arith)
        (part-all (λ z. z < 256) c.after.maps (omega arith) K.taken.sane.bytes (128 * i) (128 * i + 128));
    up = λ x y. put-fine x y meta_file (128 * c.up) _ (before_parent c) (omega arith)
        (record_bytes-bytes (new_parent c) K.fits.file_bytes K.fits.mac_bytes);
    node = λ x y. put-fine x y meta_file (128 * c.id) _ (before_node c) (omega arith)
        (record_bytes-bytes c.child K.child_fits.file_bytes K.child_fits.mac_bytes);
  }

  -- ---- a cut

  module _ (n : ℕ) (b : List ℕ) (h : cut_after n (create_stores c) a ≡ done b) where
    -- what store S turns from u into v
    turns : {Val : Type 0} (F : List ℕ → Val) (u v : Val) (S : ℕ) → S < before_parent c + 1 → F a ≡ u → Numbered (Goes (Turns F u v S)) c
        → F b ≡ pick (is_stored S n) v u
    turns F u v S l e N =
        turned (before_parent c + 1) n b l
        (at_cut (Turns F u v S) c N a (record { until = λ _. e; after = λ q. absurd (omega arith) }) n b h)

    reads : (f : File) (pos len : ℕ) (v : List ℕ) (S : ℕ) → S < before_parent c + 1 → Numbered (Goes (Reads f pos len (run a f pos len) v S)) c
        → run b f pos len ≡ pick (is_stored S n) v (run a f pos len)
    reads f pos len v S l N = turns (λ x. run x f pos len) (run a f pos len) v S l refl N

    stored-so : (f : File) (pos len : ℕ) (v : List ℕ) (S : ℕ) → S < before_parent c + 1 → Numbered (Goes (Reads f pos len (run a f pos len) v S)) c
        → S < n → run b f pos len ≡ v
    stored-so f pos len v S l N m = is-stored _ _ S n (reads f pos len v S l N) m

    fine-b : Fine (min n (before_parent c + 1)) b
    fine-b = at_cut Fine c fine-each a (record { rule1 = A.rule1; bytes = B.passed.typed.bytes; absent = λ _. K.absent }) n b h

    meta-long : length_of b meta_file ≡ 131072 * pick (is_stored 0 n) groups c.before.super.groups
    meta-long =
        turns (λ x. length_of x meta_file) (131072 * c.before.super.groups) (131072 * groups) 0 (omega arith)
        (A.rule3.length ∙ ap (λ (x : ℕ). 131072 * x) (sym K.old)) long-each
        ∙ choose (is_stored 0 n)
      where
        choose : (x : Bool) → pick x (131072 * groups) (131072 * c.before.super.groups) ≡ 131072 * pick x groups c.before.super.groups
        choose true = refl
        choose false = refl

    -- what no store touches: inside the file, and past its end, where all is zero
    untouched : (q : ℕ) → Outside q 0 16 → ((i : ℕ) → i < groups → Outside q (map_at i) 128) → Outside q (128 * c.id) 112 → Outside q (128 * c.up) 112
        → byte_at b meta_file q ≡ byte_at a meta_file q
    unfolding tab
    untouched q s m x y = ⊎_elim within past (lt-or-le q (131072 * groups))
      where
        apart : (pos k : ℕ) → Outside q pos k → (q + 1 ≤ pos) ⊎ (pos + k ≤ q)
        apart pos k o = ⊎_elim (λ l. inl (omega arith)) (λ l. inr l) o

        within : q < 131072 * groups → byte_at b meta_file q ≡ byte_at a meta_file q
        within l =
            let u : List ℕ = run a meta_file q 1 in
            let e : q + 1 ≤ 131072 * groups = omega arith in
            let S : ℕ = before_parent c + 1 in
            let T = at_cut (Reads meta_file q 1 u u S) c (in-meta q 1 (omega arith) e
            (super-else q 1 (omega arith) e (λ z. omega arith) (⊎_elim (λ z. omega arith) (λ z. z) s))
            (λ i w. map-else q 1 (omega arith) e i w (λ z. omega arith) (apart (map_at i) 128 (m i w)))
            (node-else q 1 (omega arith) e (λ z. omega arith) (apart (128 * c.id) 112 x))
            (up-else q 1 (omega arith) e (λ z. omega arith) (apart (128 * c.up) 112 y)))
            a (record { until = λ _. refl; after = λ z. refl }) n b h in
            ap (λ (l : List ℕ). get_or l 0 0) (T.until (omega arith))

        past : 131072 * groups ≤ q → byte_at b meta_file q ≡ byte_at a meta_file q
        past l =
            (sound-inside b fine-b.rule1.sound meta_file).past q (short (is_stored 0 n) meta-long)
            ∙ sym ((sound-inside a A.rule1.sound meta_file).past q (omega (arith, A.rule3.length, K.taken.more)))
          where
            short : (z : Bool) → length_of b meta_file ≡ 131072 * pick z groups c.before.super.groups → length_of b meta_file ≤ q
            short true e = omega arith
            short false e = omega (arith, more)

    -- a new folder's slots
    dot-b : is_folder c.child.kind ≡ true → before_dots c < n → run b child 0 264 ≡ entry_bytes (dot_entry c.id)
    unfolding after_store
    dot-b dir l =
        stored-so child 0 264 (entry_bytes (dot_entry c.id)) (before_dots c) (omega arith)
        (slots-each 0 (entry_bytes (dot_entry c.id)) (before_dots c) (omega arith) (omega (arith, two-dots c dir))
        (λ _ x y e T. written child 0 264 x y dot-long e)
        (λ _. spared child 0 264 (slot child 1 (dots_entry c.up)) (before_dots c + 1) (λ z. omega arith)
        (λ j m. inr (refl, λ z. absurd (omega arith))))) l

    dots-b : is_folder c.child.kind ≡ true → before_dots c + 1 < n → run b child 264 264 ≡ entry_bytes (dots_entry c.up)
    unfolding after_store
    dots-b dir l =
        stored-so child 264 264 (entry_bytes (dots_entry c.up)) (before_dots c + 1) (omega (arith, two-dots c dir))
        (slots-each 264 (entry_bytes (dots_entry c.up)) (before_dots c + 1) (omega arith) (omega (arith, two-dots c dir))
        (λ _. spared child 264 264 (slot child 0 (dot_entry c.id)) (before_dots c) (λ z. omega arith)
        (λ j m. inr (refl, λ z. omega (arith, dot-long))))
        (λ _ x y e T. written child 264 264 x y dots-long e)) l

    -- the parent's length, and its new slot
    longer-b : length_of b parent ≡ 264 * (slots + bit (is_stored (before_slot c) n))
    unfolding after_store
    longer-b =
        turns (λ x. length_of x parent) (264 * slots) (264 * (slots + 1)) (before_slot c) (omega arith) K.long
        (in-parent (λ x. length_of x parent) (264 * slots) (264 * (slots + 1)) (λ x y k. k.long)
        (λ x y e T. turn-here (before_slot c) y (omega arith)
        ((put_is x y parent (264 * slots) _ e).long ∙ (let q = T.until (omega arith) in omega (arith, naming-long)))))
        ∙ chosen (is_stored (before_slot c) n)
      where
        chosen : (x : Bool) → pick x (264 * (slots + 1)) (264 * slots) ≡ 264 * (slots + bit x)
        chosen true = refl
        chosen false = omega arith

    slot-b : before_slot c < n → run b parent (264 * slots) 264 ≡ entry_bytes (naming c)
    unfolding after_store
    slot-b =
        stored-so parent (264 * slots) 264 (entry_bytes (naming c)) (before_slot c) (omega arith)
        (in-parent (λ x. run x parent (264 * slots) 264) _ (entry_bytes (naming c))
        (λ x y k. tab-cong (byte_at y parent) (byte_at x parent) (264 * slots) (264 * slots) 264 (λ j l. k.byte (264 * slots + j)))
        (λ x y e T. written parent (264 * slots) 264 x y naming-long e))

    left : SoFar p.arena c n b
    unfolding stored_bytes
    left =
        let long = at_cut Length c length-each a (record { is = length_none a child K.absent ∙ omega arith; absent = λ _. K.absent }) n b h in
        record {
          fine = fine-b.rule1;
          metadata = meta-long;
          super = reads meta_file 0 16 (super_bytes c.after.super) (before_super c) (omega arith) super-each;
          maps = λ i l. reads meta_file (map_at i) 128 (group_map c.after.maps i) (before_map c i) (omega arith) (map_each i l);
          node = reads meta_file (128 * c.id) 112 (record_bytes c.child) (before_node c) (omega arith) node-each;
          up = reads meta_file (128 * c.up) 112 (record_bytes (new_parent c)) (before_parent c) (omega arith) up-each;
          rest = untouched;
          stray = turns (λ x. there x child) false true (before_file c) (omega arith) K.absent there-each ∙ itself (is_stored (before_file c) n);
          stray-long = long.is ∙ whole ∙ ap (λ (k : ℕ). 264 * k) (stored-dots (is_folder c.child.kind) (before_dots c) n _ _);
          stray-dot = dot-b;
          stray-dots = dots-b;
          folder-long = longer-b;
          folder-slot = slot-b;
        }
      where
        whole : 264 * min (min n (before_parent c + 1) - before_dots c) (length (dot_stores c)) ≡ 264 * min (n - before_dots c) (length (dot_stores c))
        whole = omega arith

        itself : (x : Bool) → pick x true false ≡ x
        itself true = refl
        itself false = refl

    -- ---- what was in the parent's file stays in it

    below : OldSlots p.arena c b
    unfolding after_store
    below = record {
      exists = at-end (λ x. there x parent) true (λ x y k. k.exists) (λ x y e _. (put_is x y parent (264 * slots) _ e).exists) K.was;
      bytes = λ q l. at-end (λ x. byte_at x parent q) (byte_at a parent q) (λ x y k. k.byte q)
          (λ x y e w. (put_is x y parent (264 * slots) _ e).outside q (λ z. omega arith) ∙ w) refl;
    }
      where
        at-end : {Val : Type 0} (F : List ℕ → Val) (v : Val) → ((x y : List ℕ) → Kept x y parent → F y ≡ F x)
            → ((x y : List ℕ) → put_file x parent (264 * slots) (entry_bytes (naming c)) ≡ done y → F x ≡ v → F y ≡ v) → F p.arena ≡ v → F b ≡ v
        at-end F v same put w =
            let T = at_cut (Turns F v v (before_slot c)) c
            (in-parent F v v same (λ x y e T. turn-here (before_slot c) y (omega arith) (put x y e (T.until (omega arith)))))
            a (record { until = λ _. w; after = λ _. w }) n b h in
            ⊎_elim (λ q. T.after q) (λ q. T.until q) (lt-or-le (before_slot c) (min n (before_parent c + 1)))

    -- ---- and every other file

    others : (f : File) → f ≢ meta_file → f ≢ node_file c.child → f ≢ node_file c.parent → Kept p.arena b f
    others f nm nc nf =
        let m : meta_file ≢ f = λ e. nm (sym e) in
        let k : child ≢ f = λ e. nc (sym e) in
        let go : (s : Store) (i : ℕ) → Else f s → Goes (λ j x. Kept a x f) i s = λ s i z x y e T. kept_then a x y f T (kept-one s x y f z e) in
        at_cut (λ j x. Kept a x f) c
        (record {
          group = λ _ _. go _ 0 m;
          file = go (make child) (before_file c) (K.child-named, k);
          dot = λ _ _. go _ (before_dots c) k;
          dots = λ _ _. go _ (before_dots c + 1) k;
          slot = go (slot parent slots (naming c)) (before_slot c) (λ e. nf (sym e));
          super = go _ (before_super c) m;
          maps = λ i l. go _ (before_map c i) m;
          up = go _ (before_parent c) m;
          node = go _ (before_node c) m;
        })
        a (kept_same a f) n b h

pub only-traces : OnlyTraces
unfolding OnlyTraces
only-traces p c g B n b h = left p c g B n b h

pub keeps-folder : KeepsFolder
unfolding KeepsFolder
keeps-folder p c g B n b h = below p c g B n b h

pub keeps-others : KeepsOthers
unfolding KeepsOthers
keeps-others p c g B n b h = others p c g B n b h
