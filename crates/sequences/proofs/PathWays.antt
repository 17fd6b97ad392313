-- The way up from a folder, on a pair that passes: the climb of a path comes to root, with a name at each step; and looked up one after another from
-- root on, the names lead back to the folder.
use mathlib.Core.Path.{◌≡◌, refl, sym, ap, ◌∙◌, subst}
use mathlib.Core.Bool.{Bool, true, false}
use mathlib.Core.List.{List, [], ◌∷◌, ◌++◌}
use mathlib.Core.Logic.{◌≢◌, ⊎_elim}
use Prim.Native.Nat.{ℕ, zero, suc, ◌+◌, ◌*◌, ◌-◌, ◌≤◌, ◌<◌}
use native.Mathlib.Omega.{arith}
use lib.Dec.{eqb, ltb, leb}
use lib.ListN.{length}
use lib.Seq.{length-take-le}
use borrow.Author.Tests.{lt-ltb, eq-eqb, ne_eqb, eqb-true, leb-true}
use Rattle.base.specs.Out.{Out, done, bind}
use Rattle.base.specs.Search.{pick, lowest}
use Rattle.base.proofs.Bools.{and_parts, true-T}
use Rattle.base.proofs.Finds.{eq-cases}
use Rattle.base.proofs.Outs.{ok-does}
use Rattle.base.proofs.Sames.{decided-yes, decided-no}
use Rattle.base.proofs.Searches.{lowest-hit, lowest-at-most, found_at}
use Rattle.base.proofs.Tests.{decides-leb, decides-same}
use Rattle.structs.specs.Layout.{entry_of}
use Rattle.structs.specs.Types.{is_folder}
use Rattle.structs.specs.declared.DiskINode.{DiskINode}
use Rattle.structs.specs.declared.DiskEntry.{DiskEntry}
use Rattle.utf8.specs.Names.{name_of, zero_at, asked, is_named, is_dots}
use Rattle.utf8.proofs.Names.{named-decides, asked-own, zero_at-le}
use Rattle.table.specs.declared.Table.{Table}
use Rattle.sefs.specs.State.{Fs}
use Rattle.sefs.specs.Slots.{slot_bytes, slot_at, find_slot}
use Rattle.sefs.specs.Ask.{start}
use Rattle.rules.specs.Image.{is_node, rec_of, is_folder_at, slot_in, later_slots}
use Rattle.rules.specs.Rules.{Allowed, Folder, Later}
use Rattle.walk.specs.Walk.{Spot, spot, look_at, part_in, is_link}
use Rattle.walk.specs.Laws.{Chain, here, on}
use Rattle.paths.specs.Path.{namer_to, name_in, most_folders, folder_on, names_to, slashed}
use Rattle.paths.proofs.Texts.{Each, none, each_last, Sort}
use Rattle.paths.proofs.Paths.{names-root, slashed-last}
use Rattle.tree.specs.Tree.{any, Tree, Tidy, parent, up, Lives, NamedBy}
use Rattle.tree.proofs.Trees.{folder-is, parent-lives, up_first}
use Rattle.tree.proofs.Ways.{climbs-soon}
use Rattle.image.specs.Midway.{tree_of}
use Rattle.image.proofs.Climbs.{record_is, dots-is}
use Rattle.image.proofs.Images.{fair}
use Rattle.image.proofs.Nodes.{meta-is}
use Rattle.image.proofs.Slots.{slot_run, name-long, slot-bytes-is, slot_is}
use Rattle.image.proofs.Lookups.{search-next, lookup-is}
use Rattle.sequences.specs.Pairs.{Pair, Passed}
use Rattle.sequences.proofs.Passing.{allowed, spelled-any}
use Rattle.sequences.proofs.Walks.{look-law}

-- a chain with one part more
chain-last : {s : Fs} {at mid to : Spot} {ps : List (List ℕ)} (p : List ℕ) → Chain s at ps mid → part_in s mid.rec p ≡ done to → is_link to.rec ≡ false → Chain s at (ps ++ (p ∷ [])) to
chain-last p here e l = on e l here
chain-last p (on f m c) e l = on f m (chain-last p c e l)

module _ (p : Pair) (y : Passed p) where
  abbrev a : List ℕ
  a = p.arena

  abbrev t : Table
  t = p.table

  abbrev s : Fs
  s = start p.arena p.table

  abbrev v : Tree
  v = tree_of p.arena p.table

  A : Allowed p.arena p.table
  A = allowed p y

  I : Tidy any (tree_of p.arena p.table)
  I = (fair a t A).tidy

  folder-at : (x : ℕ) → Lives v x → is_folder_at a t x ≡ true
  unfolding is_folder_at
  folder-at x l = l.folder

  kind-two : (x : ℕ) → Lives v x → is_folder (rec_of a t x).kind ≡ true
  kind-two x l = (and_parts (is_node a x) (is_folder (rec_of a t x).kind) l.folder).1

  -- a folder above can be looked at
  folder-on : (x : ℕ) → Lives v x → folder_on s x ≡ done (rec_of a t x)
  unfolding folder_on
  folder-on x l = rw (record_is s (fair a t A) (meta-is a t (fair a t A)) x (folder-is v x l.folder), kind-two x l) refl

  -- ---- the name of folder x in the one above it

  module _ (x : ℕ) (l : Lives v x) (d : x ≢ 2) where
    abbrev above : ℕ
    above = parent v x

    abbrev r : DiskINode
    r = rec_of a t (parent v x)

    lives : Lives v (parent v x)
    lives = parent-lives v I x l

    F : Folder a t (parent v x)
    F = A.rule6.folder above (folder-at above lives)

    -- the slot that names x
    abbrev names : ℕ → Bool
    names j = eqb (slot_in a r (2 + j)).id x

    abbrev first : ℕ
    first = lowest names (later_slots r)

    namer-is : (n : ℕ) → n ≤ later_slots r → namer_to a r x n ≡ done (lowest names n)
    unfolding namer_to lowest slot_in
    namer-is zero h = refl
    namer-is (suc n) h =
        ap (λ (o : Out ℕ). bind o (λ j. pick (ltb j n) (done j) (bind (slot_bytes a r (2 + n)) (λ l. done (pick (eqb (entry_of l).id x) n (suc n)))))) (namer-is n (omega arith))
        ∙ search-next (λ (l : List ℕ). eqb (entry_of l).id x) n (lowest names n) (ltb (lowest names n) n) (slot_bytes a r (2 + n)) (slot_run a r (2 + n))
        (slot-bytes-is a t A y.typed.bytes above (folder-at above lives) (2 + n) (omega arith))

    first_below : first < later_slots r
    first_below =
        let N : NamedBy v (parent v x) x = I.names x l d in
        let k : ℕ = N.at - 2 in
        let back : 2 + (N.at - 2) ≡ N.at = omega (arith, N.later) in
        let e : names (N.at - 2) ≡ true = eq-eqb (slot_in a r (2 + (N.at - 2))).id x (ap (λ (j : ℕ). (slot_in a r j).id) back ∙ N.is) in
        omega (arith, lowest-at-most names (later_slots r) k (omega (arith, N.later, N.inside)) e, N.later, N.inside)

    abbrev slot : DiskEntry
    slot = slot_in a r (2 + first)

    abbrev name : List ℕ
    name = name_of (slot_in a r (2 + first)).name

    names-x : slot.id ≡ x
    names-x = eqb-true slot.id x (lowest-hit names (later_slots r) first_below)

    slot_read : slot_at a r (2 + first) ≡ done slot
    slot_read = slot_is a t A y.typed.bytes above (folder-at above lives) (2 + first) (omega (arith, first_below))

    name_in_lem : name_in a r x ≡ done name
    unfolding name_in
    name_in_lem = rw (namer-is (later_slots r) (omega arith), lt-ltb first (later_slots r) first_below, slot_read) refl

    E : Later a t slot
    E = F.later (2 + first) (omega arith) (omega (arith, first_below))

    -- ---- a lookup of the name finds that slot

    abbrev named : ℕ → Bool
    named k = is_named (slot_in a r k).name name

    empty-not : (n : List ℕ) → n ≢ [] → length n ≡ 0 → ⊥
    empty-not [] h e = h refl
    empty-not (b ∷ n) h e = omega arith

    own_name : asked name ≡ name
    own_name = asked-own name (empty-not name E.some)

    at_place : (k : ℕ) → k ≤ 2 + first → name_of (slot_in a r k).name ≡ name → k ≡ 2 + first
    at_place zero h e = absurd (E.no-dot (sym e ∙ F.dot))
    at_place (suc zero) h e = absurd (E.no-dots (sym e ∙ F.dots))
    at_place (suc (suc k)) h e =
        ⊎_elim (λ z. z) (λ z. absurd (F.distinct (suc (suc k)) (2 + first) (omega arith) (omega arith) (omega (arith, first_below)) e)) (eq-cases (suc (suc k)) (2 + first))

    found : find_slot a r name ≡ done (record { place = 2 + first; entry = slot })
    unfolding find_slot
    found =
        let low : ℕ = lowest named r.blocks in
        let hit : named (2 + first) ≡ true = decided-yes (named-decides slot.name name) (sym own_name) in
        let most = lowest-at-most named r.blocks (2 + first) (omega (arith, first_below)) hit in
        let below : low < r.blocks = omega (arith, most, first_below) in
        let same : name_of (slot_in a r low).name ≡ name = (named-decides (slot_in a r low).name name).right (true-T _ (lowest-hit named r.blocks below)) ∙ own_name in
        rw (
          lookup-is a t A y.typed.bytes above (folder-at above lives) name,
          found_at low r.blocks below,
          at_place low most same,
          slot_read,
        ) refl

    -- ---- and a part with the name leads to x

    short : leb (length name) 255 ≡ true
    short =
        let long = name-long a t A y.typed.bytes above (folder-at above lives) (2 + first) in
        decided-yes (decides-leb (length name) 255) (omega (arith, length-take-le (zero_at slot.name) slot.name (zero_at-le slot.name), E.ended.inside, long))

    no-dots : is_dots name ≡ false
    unfolding is_dots
    no-dots = decided-no (is_dots name) (decides-same name (46 ∷ 46 ∷ [])) E.no-dots

    looked : look_at s x ≡ done (rec_of a t x)
    looked =
        let L = ok-does (look-law p (spelled-any p y) {R = λ _. ⊥} x (folder-is v x l.folder)) (λ _ z. z) in
        L.1 ∙ ap done (sym L.2)

    kind-is : (z : ℕ) → Lives v z → (rec_of a t z).kind ≡ 2
    kind-is z h = eqb-true (rec_of a t z).kind 2 (kind-two z h)

    part-is : part_in s r name ≡ done (spot x (rec_of a t x))
    unfolding part_in zero_at rec_of
    part-is = rw (kind-is above lives, short, no-dots, found, names-x, looked, kind-is x l) refl

    sort : Sort name
    sort = record { some = E.some; good = E.ended.good }

    no-link : is_link (rec_of a t x) ≡ false
    no-link = ap (λ (k : ℕ). eqb k 3) (kind-is x l)

  -- ---- all the way

  -- the names of folder x, and where they lead. Each takes 255 bytes and a slash at the most
  pub record Way (x : ℕ) (o : Out (List (List ℕ))) : Type 0 where
    pub names : List (List ℕ)
    pub is : o ≡ done names
    pub sorts : Each Sort names
    pub long : (m : ℕ) → up (tree_of p.arena p.table) x m ≡ 2 → length (slashed names) ≤ 256 * m
    pub chain : Chain (start p.arena p.table) (spot 2 (rec_of p.arena p.table 2)) names (spot x (rec_of p.arena p.table x))

  empty-long : (m : ℕ) → length (slashed []) ≤ 256 * m
  unfolding slashed
  empty-long m = omega arith

  at-root : (n x : ℕ) → x ≡ 2 → Way x (names_to s n x (rec_of a t x))
  at-root n x e =
      subst (λ (x : ℕ). Way x (names_to s n x (rec_of a t x))) (sym e)
      (record { names = []; is = names-root s n (rec_of a t 2); sorts = none; long = λ m h. empty-long m; chain = here })

  next-long : (x : ℕ) (l : Lives v x) (d : x ≢ 2) (ps : List (List ℕ)) → ((m : ℕ) → up v (parent v x) m ≡ 2 → length (slashed ps) ≤ 256 * m)
      → (m : ℕ) → up v x m ≡ 2 → length (slashed (ps ++ (name x l d ∷ []))) ≤ 256 * m
  unfolding up
  next-long x l d ps h zero e = absurd (d e)
  next-long x l d ps h (suc m) e = omega (arith, slashed-last ps (name x l d), h m (sym (up_first v x m) ∙ e), leb-true (length (name x l d)) 255 (short x l d))

  way_next : (n x : ℕ) (l : Lives v x) (d : x ≢ 2) → Way (parent v x) (names_to s n (parent v x) (rec_of a t (parent v x))) → Way x (names_to s (suc n) x (rec_of a t x))
  unfolding names_to
  way_next n x l d W = record {
    names = W.names ++ (name x l d ∷ []);
    is = rw (ne_eqb x 2 d, dots-is s (fair a t A) (meta-is a t (fair a t A)) x l, folder-on (parent v x) (lives x l d), W.is, name_in_lem x l d) refl;
    sorts = each_last W.sorts (sort x l d);
    long = next-long x l d W.names W.long;
    chain = chain-last (name x l d) W.chain (part-is x l d) (no-link x l d);
  }

  climbs : (n m x : ℕ) → m ≤ n → Lives v x → up v x m ≡ 2 → Way x (names_to s n x (rec_of a t x))
  unfolding up
  climbs n zero x h l e = at-root n x e
  climbs zero (suc m) x h l e = absurd (omega arith)
  climbs (suc n) (suc m) x h l e =
      ⊎_elim (at-root (suc n) x) (λ d. way_next n x l d (climbs n m (parent v x) (omega arith) (parent-lives v I x l) (sym (up_first v x m) ∙ e))) (eq-cases x 2)

  -- a folder with links has a path: there are fewer folders than 4,096
  pub way : (x : ℕ) → is_folder_at p.arena p.table x ≡ true → (rec_of p.arena p.table x).nlinks ≢ 0
      → Way x (names_to (start p.arena p.table) most_folders x (rec_of p.arena p.table x))
  unfolding is_folder_at
  way x f n =
      let l : Lives v x = record { folder = f; links = n } in
      let w = climbs-soon v I x l in
      let near = w.1 in
      climbs most_folders w.0 x (omega (arith, near, A.rule3.few)) l w.2
