-- After the last store the new name leads to the new node.
use mathlib.Core.Path.{◌≡◌, refl, sym, ap, ◌∙◌, subst}
use mathlib.Core.Bool.{Bool, true, false}
use mathlib.Core.List.{List, [], ◌∷◌}
use mathlib.Core.Logic.{◌≢◌}
use Prim.Native.Nat.{ℕ, zero, suc, ◌+◌, ◌≤◌, ◌<◌}
use native.Mathlib.Omega.{arith}
use lib.Dec.{ltb}
use borrow.Author.Tests.{lt-ltb, le-ltb, ltb-false}
use Rattle.base.specs.Out.{done, bind}
use Rattle.base.specs.Search.{pick, found_below}
use Rattle.std.specs.Prelude.{Some, None}
use Rattle.base.proofs.Bools.{and_both}
use Rattle.base.proofs.Outs.{bind-is-done}
use Rattle.base.proofs.Sames.{decided-yes}
use Rattle.structs.specs.Layout.{entry_of}
use Rattle.structs.specs.Types.{is_folder}
use Rattle.structs.specs.declared.DiskEntry.{DiskEntry}
use Rattle.structs.specs.declared.DiskINode.{DiskINode}
use Rattle.structs.proofs.Layouts.{entry_of-entry_bytes}
use Rattle.utf8.specs.Names.{name_of, name_bytes, is_named, asked}
use Rattle.utf8.proofs.Names.{named-decides, name_of-name_bytes}
use Rattle.sefs.specs.Slots.{Slot, slot_at, look_to, lookup, find_slot}
use Rattle.sefs.specs.Create.{Given}
use Rattle.rules.specs.Image.{is_node, rec_of, is_folder_at, slot_in}
use Rattle.rules.specs.Rules.{Allowed, Later}
use Rattle.image.proofs.Slots.{slot_is}
use Rattle.sequences.specs.Pairs.{Pair, pair, Passed}
use Rattle.sequences.proofs.Passing.{allowed}
use Rattle.mending.proofs.Lookups.{look-same}
use Rattle.cuts.specs.Stores.{cut_after}
use Rattle.cuts.specs.Creates.{Birth, new_parent, naming, create_stores, before_parent, before_file, before_node}
use Rattle.cuts.specs.Premise.{Creation, NoneDirty}
use Rattle.cuts.specs.Orders.{InOrder}
use Rattle.cuts.specs.Cuts.{Complete, KeepsNodes, SoFar, OnlyTraces, NewThere, FindsNew}
use Rattle.cuts.proofs.Steps.{done-is}
use Rattle.cuts.proofs.Orders.{in_order}
use Rattle.cuts.proofs.Counts.{complete}
use Rattle.cuts.proofs.Facts.{Known, known}
use Rattle.cuts.proofs.Along.{is-stored}
use Rattle.cuts.proofs.Names.{alike, rec-parent}
use Rattle.cuts.proofs.Synced.{rec-synced}
use Rattle.cuts.proofs.SoFar.{only-traces, naming-fits}
use Rattle.cuts.proofs.Maps.{keeps-nodes, node-new}

-- a lookup ends at its end at the latest
look-most : (x : List ℕ) (r : DiskINode) (name : List ℕ) (n k : ℕ) → look_to x r name n ≡ done k → k ≤ n
unfolding look_to
look-most x r name zero k e = omega (arith, done-is e)
look-most x r name (suc n) k e =
    let v = bind-is-done (look_to x r name n) _ k e in
    go v.0 (ltb v.0 n) refl v.2 (look-most x r name n v.0 v.1)
  where
    go : (j : ℕ) (b : Bool) → ltb j n ≡ b → pick b (done j) (bind (slot_at x r n) (λ e. done (pick (is_named e.name name) n (suc n)))) ≡ done k
        → j ≤ n → k ≤ suc n
    go j true t f l = omega (arith, done-is f)
    go j false t f l = let w = bind-is-done (slot_at x r n) _ k f in either (is_named w.0.name name) (done-is w.2)
      where
        either : (b : Bool) → pick b n (suc n) ≡ k → k ≤ suc n
        either true q = omega arith
        either false q = omega arith

-- and where nothing was found, at its end
look-end : (x : List ℕ) (r : DiskINode) (name : List ℕ) → lookup x r name ≡ done None → look_to x r name r.blocks ≡ done r.blocks
unfolding lookup found_below
look-end x r name e =
    let v = bind-is-done (look_to x r name r.blocks) _ None e in
    let z : r.blocks ≤ v.0 = past v.0 (ltb v.0 r.blocks) refl (done-is v.2) in
    let m = look-most x r name r.blocks v.0 v.1 in
    v.1 ∙ ap (λ (k : ℕ). done k) (let q : v.0 ≡ r.blocks = omega arith in q)
  where
    past : (k : ℕ) (b : Bool) → ltb k r.blocks ≡ b → pick b (Some k) None ≡ None → r.blocks ≤ k
    past k true t f = absurd (let q : ◌≡◌ {A = ℕ} 0 1 = cc in omega arith)
    past k false t f = ltb-false k r.blocks t

not-empty : (name : List ℕ) → name ≢ [] → asked name ≡ name
not-empty [] d = absurd (d refl)
not-empty (x ∷ l) d = refl

find_at : (x : List ℕ) (r : DiskINode) (name : List ℕ) (z : Slot) → look_to x r name r.blocks ≡ done z.place → z.place < r.blocks
    → slot_at x r z.place ≡ done z.entry → find_slot x r name ≡ done z
unfolding find_slot lookup found_below
find_at x r name z e l f = rw (e, lt-ltb z.place r.blocks l, f)

module _ (p : Pair) (c : Birth) (g : Given) (B : Creation p c g) (n : ℕ) (b : List ℕ) (h : cut_after n (create_stores c) p.arena ≡ done b)
    (l : before_parent c < n) where
  abbrev a : List ℕ
  a = p.arena

  abbrev k : ℕ
  k = c.parent.blocks

  K : Known p.arena c
  K = known p c g B

  L : SoFar p.arena c n b
  unfolding OnlyTraces
  L = only-traces p c g B n b h

  -- the pair afterwards passes, and is synced
  abbrev q : Pair
  q = pair b g.table

  pub after-passed : Passed (pair b g.table)
  unfolding Complete
  after-passed = (complete p c g B n b h l).passes

  pub after-synced : NoneDirty g.table
  unfolding InOrder
  after-synced = (in_order p c g B).clean

  A : Allowed b g.table
  A = allowed q after-passed

  up-b : is_node b c.up ≡ true
  unfolding KeepsNodes
  up-b = keeps-nodes p c g B n b h c.up K.up

  rec : rec_of b g.table c.up ≡ new_parent c
  rec = rec-synced q after-passed after-synced c.up up-b ∙ rec-parent p c g B n b h l

  dir : is_folder_at b g.table c.up ≡ true
  unfolding is_folder_at
  dir = and_both up-b (ap (λ (r : DiskINode). is_folder r.kind) rec ∙ K.dir)

  counted : k < (rec_of b g.table c.up).blocks
  counted = subst (λ (r : DiskINode). k < r.blocks) (sym rec) (omega arith)

  pub new-slot : slot_in b (new_parent c) c.parent.blocks ≡ naming c
  unfolding slot_in
  new-slot = ap entry_of (L.folder-slot (omega (arith, K.taken.inside))) ∙ entry_of-entry_bytes (naming c) (naming-fits p c g B)

  pub slot-b : slot_at b (new_parent c) k ≡ done (naming c)
  slot-b =
      subst (λ (r : DiskINode). slot_at b r k ≡ done (slot_in b r k)) rec (slot_is b g.table A after-passed.typed.bytes c.up dir k counted)
      ∙ ap (λ (e : DiskEntry). done e) new-slot

  -- it is a later slot, as rule 6 wants it
  name-is : name_of (slot_in b (rec_of b g.table c.up) k).name ≡ c.name
  name-is =
      ap (λ (r : DiskINode). name_of (slot_in b r k).name) rec ∙ ap (λ (x : DiskEntry). name_of x.name) new-slot
      ∙ name_of-name_bytes c.name K.good.0 K.short

  later : Later b g.table (slot_in b (rec_of b g.table c.up) k)
  later = (A.rule6.folder c.up dir).later k K.least counted

  some : c.name ≢ []
  some e = later.some (name-is ∙ e)

  pub no-dot : c.name ≢ 46 ∷ []
  no-dot e = later.no-dot (name-is ∙ e)

  is-named : is_named (name_bytes c.name) c.name ≡ true
  is-named =
      decided-yes (named-decides (name_bytes c.name) c.name)
      (name_of-name_bytes c.name K.good.0 K.short ∙ sym (not-empty c.name some))

  look : look_to b (new_parent c) c.name (suc k) ≡ done k
  unfolding look_to
  look =
      let e : look_to b (new_parent c) c.name k ≡ done k =
      look-same b a (new_parent c) c.parent c.name k (alike p c g B n b h (new_parent c) refl) ∙ look-end a c.parent c.name K.free in
      rw (e, le-ltb k k (omega arith), slot-b, is-named)

  look-all : look_to b (new_parent c) c.name (k + 1) ≡ done k
  look-all = let e : k + 1 ≡ suc k = omega arith in ap (look_to b (new_parent c) c.name) e ∙ look

  reached : NewThere c b
  unfolding KeepsNodes
  reached = record {
    name = ap (λ (r : DiskINode). find_slot b r c.name) (rec-parent p c g B n b h l)
        ∙ find_at b (new_parent c) c.name (record { place = k; entry = naming c }) look-all (omega arith) slot-b;
    node = node-new p c g B n b h (omega (arith, K.taken.inside));
    stored = is-stored _ _ (before_node c) n L.node (omega arith);
    file = L.stray ∙ lt-ltb (before_file c) n (omega arith);
  }

pub finds-new : FindsNew
unfolding FindsNew
finds-new p c g B n b h l = reached p c g B n b h l
