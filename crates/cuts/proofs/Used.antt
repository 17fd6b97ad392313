-- When the new id is used, when it has the new node's record, and when unused is wrong.
use mathlib.Core.Path.{◌≡◌, refl, sym, ap, ◌∙◌}
use mathlib.Core.Bool.{Bool, true, false}
use mathlib.Core.List.{List}
use mathlib.Core.Logic.{◌≢◌, ◌⊎◌, inl, inr, ⊎_elim}
use Prim.Native.Nat.{ℕ, ◌+◌, ◌*◌, ◌/◌, ◌≤◌, ◌<◌}
use native.Mathlib.Omega.{arith}
use lib.ListN.{replicate}
use borrow.Author.Tests.{lt-ltb, le-ltb, ltb-true, ltb-false}
use Rattle.base.specs.Count.{bit, count_to}
use Rattle.base.specs.Out.{done}
use Rattle.base.specs.Search.{pick}
use Rattle.base.proofs.Bools.{bool_cases, true-false}
use Rattle.base.proofs.Counts.{count_to-cong, count_to-change, sum_to-join, sum_to-zero}
use Rattle.base.proofs.Finds.{count_to-some, eq-cases}
use Rattle.base.proofs.Lists.{tab-cong, tab-zeros}
use Rattle.base.proofs.Numbers.{lt-or-le}
use Rattle.base.proofs.Sames.{same_true, same-own}
use Rattle.le.specs.Le.{le_at, le_of}
use Rattle.structs.specs.Layout.{record_of, record_bytes}
use Rattle.structs.specs.declared.DiskINode.{DiskINode}
use Rattle.structs.specs.declared.SuperBlock.{SuperBlock}
use Rattle.structs.proofs.Layouts.{record_of-record_bytes}
use Rattle.maps.specs.Maps.{bit_at, set_bits}
use Rattle.files.specs.Read.{byte_at}
use Rattle.files_laws.proofs.Parts.{sound-inside}
use Rattle.sefs.specs.Meta.{meta_file}
use Rattle.sefs.specs.Create.{Given}
use Rattle.rules.specs.Image.{stored_super, stored_maps, ids_in, is_node, stored_bytes}
use Rattle.image.specs.Midway.{stored_meta}
use Rattle.sequences.specs.Pairs.{Pair}
use Rattle.sequences.proofs.Passing.{allowed}
use Rattle.cuts.specs.Stores.{cut_after}
use Rattle.cuts.specs.Creates.{Birth, grows, create_stores, before_file, before_slot, before_super, before_own_map, before_node, before_parent, is_stored}
use Rattle.cuts.specs.Premise.{Creation}
use Rattle.cuts.specs.Cuts.{SoFar, OnlyTraces}
use Rattle.cuts.specs.Traces.{Trace, used-id, nameless-record, stray-file, longer-folder, longer-metadata, wrong-unused, zero-map, HasRecord, same_record}
use Rattle.cuts.proofs.Facts.{Known, known, sane, new-id}
use Rattle.cuts.proofs.Along.{is-stored, not-stored}
use Rattle.cuts.proofs.SoFar.{only-traces}
use Rattle.cuts.proofs.Maps.{same-groups, new-group, super-until, super-after, groups-after, bits-until, bits-between, bits-after, none_between, nodes-until, node-bit, node-new, node_of, counts}

-- ---- from which store to which each trace is there

-- the new id's bit reads as clear: from its map's store on; in a new group, whose map reads as zeros, from the superblock's
abbrev pub used_at : Birth → ℕ
used_at c = pick (grows c) (before_super c) (before_own_map c)

-- the used id has the new node's record: from the record's store on; where it is there already, as soon as the id is used
abbrev pub record_at : List ℕ → Birth → ℕ
record_at a c = pick (same_record a c) (used_at c) (before_node c)

unfoldable pub Spans : List ℕ → Birth → ℕ → Trace → Type 0
Spans a c n used-id = (used_at c < n) × (n ≤ before_parent c)
Spans a c n nameless-record = (record_at a c < n) × (n ≤ before_parent c)
Spans a c n stray-file = (before_file c < n) × (n ≤ record_at a c)
Spans a c n longer-folder = (before_slot c < n) × (n ≤ before_parent c)
Spans a c n longer-metadata = (grows c ≡ true) × (0 < n) × (n ≤ before_super c)
Spans a c n wrong-unused = (before_super c < n) × (n ≤ before_own_map c)
Spans a c n zero-map = (grows c ≡ true) × (before_super c < n) × (n ≤ before_own_map c)

-- ---- the two stores that depend

pub at-super : (c : Birth) → grows c ≡ true → used_at c ≡ before_super c
at-super c e = ap (λ (x : Bool). pick x (before_super c) (before_own_map c)) e

pub at_map : (c : Birth) → grows c ≡ false → used_at c ≡ before_own_map c
at_map c e = ap (λ (x : Bool). pick x (before_super c) (before_own_map c)) e

pub at-used : (a : List ℕ) (c : Birth) → same_record a c ≡ true → record_at a c ≡ used_at c
at-used a c e = ap (λ (x : Bool). pick x (used_at c) (before_node c)) e

pub at-node : (a : List ℕ) (c : Birth) → same_record a c ≡ false → record_at a c ≡ before_node c
at-node a c e = ap (λ (x : Bool). pick x (used_at c) (before_node c)) e

-- ---- the stores that matter, in their order

pub used-most : (c : Birth) → used_at c ≤ before_own_map c
used-most c = go (grows c)
  where
    go : (x : Bool) → pick x (before_super c) (before_own_map c) ≤ before_own_map c
    go true = omega arith
    go false = omega arith

pub used-least : (c : Birth) → before_super c ≤ used_at c
used-least c = go (grows c)
  where
    go : (x : Bool) → before_super c ≤ pick x (before_super c) (before_own_map c)
    go true = omega arith
    go false = omega arith

pub record-least : (a : List ℕ) (c : Birth) → before_super c ≤ record_at a c
record-least a c = go (same_record a c)
  where
    go : (x : Bool) → before_super c ≤ pick x (used_at c) (before_node c)
    go true = used-least c
    go false = omega arith

pub record-most : (a : List ℕ) (c : Birth) → c.id / 1024 < c.after.super.groups → record_at a c ≤ before_node c
record-most a c l = go (same_record a c)
  where
    go : (x : Bool) → pick x (used_at c) (before_node c) ≤ before_node c
    go true = omega (arith, used-most c)
    go false = omega arith

module _ (p : Pair) (c : Birth) (g : Given) (B : Creation p c g) where
  abbrev a : List ℕ
  a = p.arena

  K : Known p.arena c
  K = known p c g B

  abbrev old : ℕ
  old = (stored_super p.arena).groups

  abbrev groups : ℕ
  groups = c.after.super.groups

  pub grew : grows c ≡ true → (stored_super p.arena).groups < c.after.super.groups
  grew e = let l = ltb-true c.before.super.groups groups e in omega (arith, K.old)

  -- a new group's map is the one with the new id's bit
  pub own-map : grows c ≡ true → c.id / 1024 ≡ c.before.super.groups
  own-map e = let z = new-group p c g B (grew e) in omega (arith, K.old, z.0, z.1, K.taken.inside)

  -- past the metadata file's old end there is no record
  pub no_record : grows c ≡ true → same_record p.arena c ≡ false
  unfolding stored_bytes record_of le_at le_of
  no_record e =
      ⊎_elim
      (λ t. absurd (
      let z = new-group p c g B (grew e) in
      let A = allowed p B.passed in
      let q : stored_bytes a c.id ≡ replicate 112 0 =
      tab-cong (byte_at a meta_file) (λ i. 0) (128 * c.id) (128 * c.id) 112
      (λ i m. (sound-inside a A.rule1.sound meta_file).past (128 * c.id + i) (omega (arith, A.rule3.length, z.1)))
      ∙ tab-zeros (128 * c.id) 112 in
      let s : record_bytes c.child ≡ replicate 112 0 = sym (same_true (stored_bytes a c.id) (record_bytes c.child) t) ∙ q in
      let k : c.child.kind ≡ 0 = ap (λ (r : DiskINode). r.kind) (sym (record_of-record_bytes c.child K.child_fits) ∙ ap record_of s) in
      omega (arith, k, K.child-kind.0)))
      (λ t. t)
      (bool_cases (same_record a c))

  -- in a new group a bit is set at last
  pub new-set : (stored_super p.arena).groups < c.after.super.groups
      → (j : ℕ) × (j < 1024) × (bit_at c.after.maps (1024 * (stored_super p.arena).groups + j) ≡ true)
  new-set e =
      let z = new-group p c g B e in
      ⊎_elim
      (λ (d : c.id ≡ 1024 * old). at z.0 2 (omega arith, λ y. absurd (omega arith)) (λ y. absurd (omega arith)))
      (λ (d : c.id ≢ 1024 * old). at z.0 0 (omega arith, λ y. absurd (omega arith)) (λ y. d (omega arith)))
      (eq-cases c.id (1024 * old))
    where
      at : groups ≡ old + 1 → (j : ℕ) → (j < 3) × (j ≢ 1) → 1024 * old + j ≢ c.id
          → (j : ℕ) × (j < 1024) × (bit_at c.after.maps (1024 * old + j) ≡ true)
      at q j m d =
          let k : ℕ = 1024 * old + j in
          (j, omega (arith, m.0), K.taken.past k d (omega arith) (omega (arith, m.0)) (λ y. m.1 (omega (arith, m.0))))

  module _ (n : ℕ) (b : List ℕ) (h : cut_after n (create_stores c) p.arena ≡ done b) where
    L : SoFar p.arena c n b
    unfolding OnlyTraces
    L = only-traces p c g B n b h

    -- ---- the new id is used

    pub used : used_at c < n → is_node b c.id ≡ true
    used l = ⊎_elim (λ q. node-new p c g B n b h q) (λ q. early (bool_cases (grows c)) q) (lt-or-le (before_own_map c) n)
      where
        early : (grows c ≡ true) ⊎ (grows c ≡ false) → n ≤ before_own_map c → is_node b c.id ≡ true
        early (inl e) q =
            let z = new-group p c g B (grew e) in
            let i : c.id < ids_in b = omega (arith, K.taken.inside, groups-after p c g B n b h (omega (arith, at-super c e))) in
            node_of b c.id i K.taken.some K.taken.apart (none_between p c g B n b h q c.id z.1 i)
        early (inr e) q = absurd (omega (arith, at_map c e))

    -- and only then
    pub only-used : is_node b c.id ≡ true → used_at c < n
    only-used m = ⊎_elim (λ l. l) (λ (l : n ≤ used_at c). absurd (⊎_elim (not_new l) (not-old l) (bool_cases (grows c)))) (lt-or-le (used_at c) n)
      where
        not_new : n ≤ used_at c → grows c ≡ true → ⊥
        not_new l e = new-id p c g B c.id (sym (nodes-until p c g B n b h (omega (arith, at-super c e)) c.id) ∙ m) refl

        -- in an old group its bit is set still
        not-old : n ≤ used_at c → grows c ≡ false → ⊥
        not-old l e =
            let q = ltb-false c.before.super.groups groups e in
            let i : c.id < 1024 * old = omega (arith, K.taken.inside, K.old) in
            true-false (K.taken.free i) (sym (bits-between p c g B n b h (omega (arith, at_map c e)) c.id i) ∙ node-bit b c.id m)

    -- ---- and has the new node's record

    before-store : n ≤ before_node c → stored_bytes b c.id ≡ stored_bytes p.arena c.id
    before-store q = not-stored _ _ (before_node c) n L.node q

    pub has-record : record_at p.arena c < n → (is_node b c.id ≡ true) × HasRecord c b
    has-record l = ⊎_elim
        (λ e. (used (omega (arith, at-used a c e)), ⊎_elim new (λ q. before-store q ∙ same_true _ _ e) (lt-or-le (before_node c) n)))
        (λ e. let q : before_node c < n = omega (arith, at-node a c e) in (used (omega (arith, used-most c, K.taken.inside)), new q))
        (bool_cases (same_record a c))
      where
        new : before_node c < n → HasRecord c b
        new q = is-stored _ _ (before_node c) n L.node q

    pub only-record : is_node b c.id ≡ true → HasRecord c b → record_at p.arena c < n
    only-record m r = ⊎_elim
        (λ e. omega (arith, at-used a c e, only-used m))
        (λ e. ⊎_elim
        (λ q. omega (arith, at-node a c e))
        (λ q. absurd (true-false (same-own (stored_bytes a c.id) (record_bytes c.child) (sym (before-store q) ∙ r)) e))
        (lt-or-le (before_node c) n))
        (bool_cases (same_record a c))

    -- ---- unused is wrong

    abbrev now : ℕ → Bool
    now = bit_at (stored_maps b)

    abbrev new : ℕ → Bool
    new = bit_at c.after.maps

    abbrev before : ℕ → Bool
    before = bit_at (stored_maps p.arena)

    -- one bit more is set than there will be
    one_more_lem : n ≤ before_own_map c → groups ≤ old → count_to new (1024 * groups) + 1 ≡ count_to now (1024 * groups)
    one_more_lem l e =
        let s = same-groups p c g B e in
        let i : c.id < 1024 * old = omega (arith, K.taken.inside) in
        omega (
          arith,
          count_to-cong now before all (λ k m. bits-between p c g B n b h l k (omega arith)),
          count_to-change (below before) (below new) all c.id K.taken.inside (λ k d. other k d),
          count_to-cong (below before) before all (λ k m. inside before k m),
          count_to-cong (below new) new all (λ k m. inside new k m),
          ap bit (inside before c.id K.taken.inside ∙ K.taken.free i),
          ap bit (inside new c.id K.taken.inside ∙ K.taken.clear),
        )
      where
        all : ℕ
        all = 1024 * groups

        below : (ℕ → Bool) → ℕ → Bool
        below f k = pick (is_stored k all) (f k) false

        inside : (f : ℕ → Bool) (k : ℕ) → k < all → below f k ≡ f k
        inside f k m = ap (λ (z : Bool). pick z (f k) false) (lt-ltb k all m)

        past : (f : ℕ → Bool) (k : ℕ) → all ≤ k → below f k ≡ false
        past f k m = ap (λ (z : Bool). pick z (f k) false) (le-ltb k all m)

        other : (k : ℕ) → k ≢ c.id → below before k ≡ below new k
        other k d = ⊎_elim
            (λ (m : k < all). inside before k m ∙ sym (K.taken.others k d (omega arith)) ∙ sym (inside new k m))
            (λ (m : all ≤ k). past before k m ∙ sym (past new k m))
            (lt-or-le k all)

    -- in a new group one will be, and none is yet
    many-less : before_super c < n → n ≤ before_own_map c → old < groups → count_to now (1024 * groups) < count_to new (1024 * groups)
    unfolding count_to
    many-less lo l e =
        let z = new-group p c g B e in
        let s = groups-after p c g B n b h lo in
        let j : (f : ℕ → Bool) → count_to f (1024 * groups) ≡ count_to f (1024 * old) + count_to (λ i. f (1024 * old + i)) 1024 =
        λ f. ap (count_to f) (let q : 1024 * groups ≡ 1024 * old + 1024 = omega (arith, z.0) in q) ∙ sum_to-join (λ i. bit (f i)) (1024 * old) 1024 in
        omega (
          arith,
          j now,
          j new,
          count_to-cong now before (1024 * old) (λ k m. bits-between p c g B n b h l k m),
          count_to-cong new before (1024 * old) (λ k m. K.taken.others k (λ q. absurd (omega (arith, z.1))) m),
          count_to-cong (λ i. now (1024 * old + i)) (λ i. false) 1024
              (λ i m. none_between p c g B n b h l (1024 * old + i) (omega arith) (omega (arith, z.0))),
          sum_to-zero 1024,
          let s = new-set e in count_to-some (λ i. new (1024 * old + i)) 1024 s.0 s.1 s.2,
        )

    pub miscounts : before_super c < n → n ≤ before_own_map c → (stored_super b).unused ≢ set_bits (stored_maps b) (ids_in b)
    unfolding set_bits
    miscounts lo l e =
        let s = super-after p c g B n b h lo in
        let u : c.after.super.unused ≡ count_to now (1024 * groups) =
        ap (λ (x : SuperBlock). x.unused) (sym s) ∙ e ∙ ap (λ (x : SuperBlock). count_to now (1024 * x.groups)) s in
        let v : c.after.super.unused ≡ count_to new (1024 * groups) = K.taken.sane.unused in
        absurd (⊎_elim (λ q. omega (arith, many-less lo l q)) (λ q. omega (arith, one_more_lem l q)) (lt-or-le old groups))

    -- before and after it is right
    pub right-until : n ≤ before_super c → (stored_super b).unused ≡ set_bits (stored_maps b) (ids_in b)
    right-until l = counts b (stored_meta a) (sane p B.passed) (super-until p c g B n b h l) (bits-until p c g B n b h l)

    pub right-after : before_own_map c < n → (stored_super b).unused ≡ set_bits (stored_maps b) (ids_in b)
    right-after l =
        counts b c.after K.taken.sane (super-after p c g B n b h (omega arith))
        (λ k m. bits-after p c g B n b h l k (omega (arith, groups-after p c g B n b h (omega arith))))
