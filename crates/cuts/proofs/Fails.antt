-- Between two stores: which rule fails, and that the checker names it.
use mathlib.Core.Path.{◌≡◌, refl, sym, ap, ◌∙◌, subst}
use mathlib.Core.Bool.{Bool, true, false, ◌&&◌}
use mathlib.Core.List.{List}
use mathlib.Core.Logic.{◌≢◌, ⊎_elim}
use Prim.Native.Nat.{ℕ, ◌+◌, ◌*◌, ◌≤◌, ◌<◌}
use native.Mathlib.Omega.{arith}
use lib.Dec.{ltb, leb}
use borrow.Author.Tests.{lt-ltb, ltb-true, ltb-false}
use Rattle.base.specs.Count.{bit}
use Rattle.base.specs.Decides.{same}
use Rattle.base.specs.Out.{done}
use Rattle.base.specs.Search.{pick}
use Rattle.base.proofs.Bools.{and_both, and_parts, bool_cases, true-false, true-T}
use Rattle.base.proofs.Finds.{eq-cases}
use Rattle.base.proofs.Numbers.{lt-or-le}
use Rattle.base.proofs.Sames.{decided-yes, same_true, same-own}
use Rattle.base.proofs.Tests.{decides-leb}
use Rattle.structs.specs.Layout.{record_of}
use Rattle.structs.specs.Types.{is_folder, is_type}
use Rattle.structs.specs.declared.DiskINode.{DiskINode}
use Rattle.structs.specs.declared.SuperBlock.{SuperBlock}
use Rattle.structs.proofs.Layouts.{record_of-record_bytes}
use Rattle.maps.specs.Maps.{bit_at}
use Rattle.arena.specs.Blocks.{blk}
use Rattle.arena.specs.Fields.{File, file}
use Rattle.arena.specs.Fields as block
use Rattle.table.specs.Table.{empty_table}
use Rattle.table_laws.proofs.Keeps.{empty-formed}
use Rattle.files.specs.Read.{there, length_of}
use Rattle.sefs.specs.State.{Meta}
use Rattle.sefs.specs.Meta.{meta_file, ids}
use Rattle.sefs.specs.Nodes.{node_file}
use Rattle.sefs.specs.Create.{Given}
use Rattle.rules.specs.Image.{stored_super, stored_maps, is_node, rec_of, is_folder_at}
use Rattle.rules.specs.Rules.{Allowed, Rule2, Rule3, Rule4, Rule5, Folder}
use Rattle.rules.specs.Tests.{checked}
use Rattle.image.specs.Midway.{stored_meta}
use Rattle.image.proofs.Allocs.{Sane}
use Rattle.image.proofs.Images.{head-there, there-head, root-node}
use Rattle.image.proofs.Metas.{node-other}
use Rattle.sequences.specs.Pairs.{Pair}
use Rattle.sequences.proofs.Passing.{allowed, spelled-any, spelled-midway}
use Rattle.mending.specs.Mendable.{rec_in}
use Rattle.mending.proofs.Tables.{empty-id, rec-stored}
use Rattle.cuts.specs.Stores.{cut_after}
use Rattle.cuts.specs.Creates.{Birth, grows, create_stores, before_file, before_slot, before_super, before_own_map, before_node, before_parent}
use Rattle.cuts.specs.Premise.{Creation}
use Rattle.cuts.specs.Cuts.{SoFar, OnlyTraces, KeepsNodes, KeepsOthers, KeepsFolder}
use Rattle.cuts.specs.Traces.{Phase, begun, lengthened, filed, slotted, counted, mapped, recorded, ended, AtPhase, Phases}
use Rattle.cuts.specs.Answers.{claims_file, failing, BrokenRule, superblock, files, folder, Breaks}
use Rattle.cuts.proofs.Facts.{Known, known, sane, new-id}
use Rattle.cuts.proofs.Along.{is-stored, not-stored}
use Rattle.cuts.proofs.Counts.{no-group}
use Rattle.cuts.proofs.Names.{rec-a, rec-b}
use Rattle.cuts.proofs.SoFar.{only-traces, keeps-folder, keeps-others}
use Rattle.cuts.proofs.Maps.{same-groups, super-until, super-after, groups-until, groups-after, meta-after, bits-until, bits-after, nodes-until, nodes-after, node-new, keeps-nodes, counts}
use Rattle.cuts.proofs.Records.{rec-same, own, not-child, rec-like, file-kept}
use Rattle.cuts.proofs.Used.{miscounts}
use Rattle.cuts.proofs.Checks.{says-3, says-5, says-6}

pub formed : Rule2 empty_table
formed = record { formed = empty-formed }

module _ (p : Pair) (c : Birth) (g : Given) (B : Creation p c g) (n : ℕ) (b : List ℕ) (h : cut_after n (create_stores c) p.arena ≡ done b) where
  abbrev a : List ℕ
  a = p.arena

  A : Allowed p.arena p.table
  A = allowed p B.passed

  K : Known p.arena c
  K = known p c g B

  L : SoFar p.arena c n b
  unfolding OnlyTraces
  L = only-traces p c g B n b h

  abbrev old : ℕ
  old = (stored_super p.arena).groups

  abbrev groups : ℕ
  groups = c.after.super.groups

  -- ---- rules 3 and 4, where superblock and maps are sane ones

  module _ (m : Meta) (S : Sane m) (s : stored_super b ≡ m.super) (bits : (k : ℕ) → k < ids m → bit_at (stored_maps b) k ≡ bit_at m.maps k) where
    abbrev its-groups : (stored_super b).groups ≡ m.super.groups
    its-groups = ap (λ (x : SuperBlock). x.groups) s

    rule3-by : length_of b meta_file ≡ 131072 * m.super.groups → Rule3 b
    rule3-by l = record {
      magic = ap (λ (x : SuperBlock). x.magic) s ∙ S.magic;
      some = omega (arith, its-groups, S.some);
      few = omega (arith, its-groups, S.few);
      length = l ∙ omega (arith, its-groups);
      blocks = ap (λ (x : SuperBlock). x.blocks) s ∙ omega (arith, its-groups, S.blocks);
      unused = counts b m S s bits;
    }

    rule4-by : bit_at m.maps 2 ≡ false → Rule4 b empty_table
    rule4-by two = record {
      zero = bits 0 (omega (arith, S.some)) ∙ S.none;
      two = bits 2 (omega (arith, S.some)) ∙ two;
      maps = λ i l. bits (1024 * i + 1) (omega (arith, its-groups)) ∙ S.owns i (omega (arith, its-groups));
      node = λ i l d. absurd (d (empty-id i l));
      clean = λ i l d. absurd (d (empty-id i l));
    }

  -- before the superblock is stored they are the old ones, where no group comes
  module _ (o : 0 < n) (l : n ≤ before_super c) where
    rule3-until : groups ≤ old → Rule3 b
    rule3-until e =
        rule3-by (stored_meta a) (sane p B.passed) (super-until p c g B n b h l) (bits-until p c g B n b h l)
        (meta-after p c g B n b h o ∙ ap (λ (x : ℕ). 131072 * x) (same-groups p c g B e))

    rule4-until : Rule4 b empty_table
    rule4-until = rule4-by (stored_meta a) (sane p B.passed) (super-until p c g B n b h l) (bits-until p c g B n b h l) A.rule4.two

  root : is_node p.arena 2 ≡ true
  root = root-node a p.table (spelled-midway a p.table (spelled-any p B.passed)).fair

  -- after the map with the new id's bit they are the new ones
  module _ (l : before_own_map c < n) where
    bits-new : (k : ℕ) → k < ids c.after → bit_at (stored_maps b) k ≡ bit_at c.after.maps k
    bits-new k m = bits-after p c g B n b h l k (omega (arith, groups-after p c g B n b h (omega arith)))

    rule3-after : Rule3 b
    rule3-after = rule3-by c.after K.taken.sane (super-after p c g B n b h (omega arith)) bits-new (meta-after p c g B n b h (omega arith))

    rule4-after : Rule4 b empty_table
    rule4-after =
        rule4-by c.after K.taken.sane (super-after p c g B n b h (omega arith)) bits-new
        (K.taken.others 2 (λ e. new-id p c g B 2 root (sym e)) (omega (arith, A.rule3.some)) ∙ A.rule4.two)

  -- ---- rule 5

  -- a file that no node's record names
  stray : before_file c < n → ((id : ℕ) → is_node b id ≡ true → (rec_in b id).file ≢ c.child.file) → Rule5 b empty_table → ⊥
  stray l none R =
      let H = there-head b c.child.file (L.stray ∙ lt-ltb (before_file c) n l) in
      let o = R.other H.at H.inside H.tag H.which in
      none o.0 o.1 (o.2 ∙ H.named)

  -- an earlier node's record names another
  old-file : (id : ℕ) → is_node p.arena id ≡ true → (rec_in b id).file ≢ c.child.file
  old-file id m e = not-child p c g B id m (sym (rec-like p c g B n b h (λ r. r.file) refl id m) ∙ e)

  -- each node of a cut is the new one or an earlier one
  module _ (l : before_own_map c < n) where
    pub old-or-new : {Q : Type 0} (id : ℕ) → is_node b id ≡ true → (id ≡ c.id → Q) → (is_node p.arena id ≡ true → Q) → Q
    old-or-new id m x y = ⊎_elim x (λ (d : id ≢ c.id). y (sym (nodes-after p c g B n b h l id d) ∙ m)) (eq-cases id c.id)

    -- where the new id's record passes as the new node's
    module _ (is : (rec_in b c.id).file ≡ c.child.file) (least : 1 ≤ (rec_in b c.id).kind) (most : (rec_in b c.id).kind ≤ 4) where
      kind-old : (id : ℕ) → is_node p.arena id ≡ true → (rec_in b id).kind ≡ (rec_of p.arena p.table id).kind
      kind-old id m = rec-like p c g B n b h (λ r. r.kind) refl id m ∙ ap (λ (r : DiskINode). r.kind) (sym (rec-same p c g B id m))

      new-file : (id : ℕ) → id ≡ c.id → (rec_in b id).file ≡ c.child.file
      new-file id e = ap (λ (x : ℕ). (rec_in b x).file) e ∙ is

      name-old : (id : ℕ) → is_node p.arena id ≡ true → (rec_in b id).file ≡ (rec_of p.arena p.table id).file
      name-old id m = rec-like p c g B n b h (λ r. r.file) refl id m ∙ ap (λ (r : DiskINode). r.file) (sym (rec-same p c g B id m))

      there-old : (id : ℕ) → is_node p.arena id ≡ true → there b (node_file (rec_in p.arena id)) ≡ true
      unfolding KeepsFolder
      there-old id m =
          ⊎_elim
          (λ (e : id ≡ c.up). ap (λ (r : DiskINode). there b (node_file r)) (ap (rec_in a) e ∙ rec-a p c g B) ∙ (keeps-folder p c g B n b h).exists)
          (λ (d : id ≢ c.up). (file-kept p c g B n b h id m d).exists ∙ own p c g B id m)
          (eq-cases id c.up)

      -- a node file of the cut is the new one, or was there
      was-there : (f : List ℕ) → there b (file 1 f) ≡ true → f ≢ c.child.file → there p.arena (file 1 f) ≡ true
      unfolding KeepsOthers
      was-there f e d =
          ⊎_elim
          (λ q. ap (λ (x : List ℕ). there a (file 1 x)) (same_true f c.parent.file q) ∙ K.was)
          (λ q.
          let other : file 1 f ≢ node_file c.parent = λ w. true-false (same-own f c.parent.file (ap (λ (x : File). x.name) w)) q in
          sym (keeps-others p c g B n b h (file 1 f) (λ w. node-other f (sym w)) (λ w. d (ap (λ (x : File). x.name) w)) other).exists ∙ e)
          (bool_cases (same f c.parent.file))

      rule5-holds : Rule5 b empty_table
      rule5-holds = record {
        least = λ id m. old-or-new id m
            (λ e. subst (λ (i : ℕ). 1 ≤ (rec_in b i).kind) (sym e) least)
            (λ o. omega (arith, kind-old id o, A.rule5.least id o));
        most = λ id m. old-or-new id m
            (λ e. subst (λ (i : ℕ). (rec_in b i).kind ≤ 4) (sym e) most)
            (λ o. omega (arith, kind-old id o, A.rule5.most id o));
        distinct = λ i j mi mj q. old-or-new i mi
            (λ ei. old-or-new j mj (λ ej. ei ∙ sym ej) (λ o. absurd (old-file j o (sym q ∙ new-file i ei))))
            (λ oi. old-or-new j mj (λ ej. absurd (old-file i oi (q ∙ new-file j ej)))
            (λ oj. A.rule5.distinct i j oi oj (sym (name-old i oi) ∙ q ∙ name-old j oj)));
        own = λ id m. old-or-new id m
            (λ e. ap (λ (f : List ℕ). there b (file 1 f)) (new-file id e) ∙ L.stray ∙ lt-ltb (before_file c) n (omega arith))
            (λ o. ap (λ (f : List ℕ). there b (file 1 f)) (rec-like p c g B n b h (λ r. r.file) refl id o) ∙ there-old id o);
        other = λ k m t w.
            let f : List ℕ = block.name_of (blk b k) in
            ⊎_elim
            (λ q. (c.id, node-new p c g B n b h l, is ∙ sym (same_true f c.child.file q)))
            (λ q.
            let H = there-head a f (was-there f (head-there b k m t w) (λ e. true-false (same-own f c.child.file e) q)) in
            let o = A.rule5.other H.at H.inside H.tag H.which in
            (o.0, kept o.0 o.1, name-old o.0 o.1 ∙ o.2 ∙ H.named))
            (bool_cases (same f c.child.file));
        root = kind-old 2 root ∙ A.rule5.root;
      }
        where
          kept : (id : ℕ) → is_node p.arena id ≡ true → is_node b id ≡ true
          kept id m = nodes-after p c g B n b h l id (λ e. new-id p c g B id m (sym e)) ∙ m

  -- ---- rule 6: the parent is longer than its record says

  up-folder : n ≤ before_parent c → is_folder_at b empty_table c.up ≡ true
  unfolding is_folder_at KeepsNodes
  up-folder l =
      and_both (keeps-nodes p c g B n b h c.up K.up) (ap (λ (r : DiskINode). is_folder r.kind) (rec-b p c g B n b h l) ∙ K.dir)

  longer : before_slot c < n → n ≤ before_parent c → Folder b empty_table c.up → ⊥
  longer lo l F =
      let q = subst (λ (r : DiskINode). length_of b (node_file r) ≡ 264 * r.blocks) (rec-b p c g B n b h l) F.length in
      absurd (omega (arith, L.folder-long, ap bit (lt-ltb (before_slot c) n lo)))

  -- ---- the new id's record, before its store and after it

  rec-old : n ≤ before_node c → rec_in b c.id ≡ rec_in p.arena c.id
  rec-old l =
      rec-stored b c.id K.taken.some ∙ ap record_of (not-stored _ _ (before_node c) n L.node l)
      ∙ sym (rec-stored a c.id K.taken.some)

  pub rec-new : before_node c < n → rec_in b c.id ≡ c.child
  rec-new l =
      rec-stored b c.id K.taken.some ∙ ap record_of (is-stored _ _ (before_node c) n L.node l)
      ∙ record_of-record_bytes c.child K.child_fits

  -- an old one that names the new file and has a type
  module _ (k : ℕ) (f : List ℕ) where
    again-fits : (same f c.child.file && is_type k) ≡ true → (f ≡ c.child.file) × (1 ≤ k) × (k ≤ 4)
    again-fits e =
        let x = and_parts (same f c.child.file) (is_type k) e in
        let y = and_parts (ltb 0 k) (leb k 4) x.1 in
        (same_true f c.child.file x.0, ltb-true 0 k y.0, (decides-leb k 4).right (true-T (leb k 4) y.1))

    fits-again : f ≡ c.child.file → 1 ≤ k → k ≤ 4 → (same f c.child.file && is_type k) ≡ true
    fits-again e x y = and_both (same-own f c.child.file e) (and_both (lt-ltb 0 k x) (decided-yes (decides-leb k 4) y))

  not-again : before_own_map c < n → n ≤ before_node c → claims_file p.arena c ≡ false → Rule5 b empty_table → ⊥
  not-again lo l e R =
      let r : DiskINode = rec_in a c.id in
      let q = rec-old l in
      let m = node-new p c g B n b h lo in
      let least : 1 ≤ r.kind = subst (λ (r : DiskINode). 1 ≤ r.kind) q (R.least c.id m) in
      let most : r.kind ≤ 4 = subst (λ (r : DiskINode). r.kind ≤ 4) q (R.most c.id m) in
      let no : r.file ≢ c.child.file = λ f. true-false (fits-again r.kind r.file f least most) e in
      stray (omega arith) (λ id w. old-or-new lo id w
      (λ i f. no (ap (λ (r : DiskINode). r.file) (sym q) ∙ ap (λ (j : ℕ). (rec_in b j).file) (sym i) ∙ f))
      (λ o. old-file id o)) R

  -- ---- each cut: the number, and what fails

  abbrev Says : ℕ → Type 0
  Says r = (checked b empty_table ≡ r) × BrokenRule c b r

  not-3 : (Rule3 b → ⊥) → Says 3
  not-3 x = (says-3 b empty_table L.fine formed x, superblock x)

  not-5 : Rule3 b → Rule4 b empty_table → (Rule5 b empty_table → ⊥) → Says 5
  not-5 r3 r4 x = (says-5 b empty_table L.fine formed r3 r4 x, files x)

  not-6 : (lo : before_own_map c < n) → n ≤ before_parent c → (r : DiskINode) → rec_in b c.id ≡ r
      → r.file ≡ c.child.file → 1 ≤ r.kind → r.kind ≤ 4 → Says 6
  not-6 lo l r e f k m =
      let least = subst (λ (x : DiskINode). 1 ≤ x.kind) (sym e) k in
      let most = subst (λ (x : DiskINode). x.kind ≤ 4) (sym e) m in
      let r5 = rule5-holds lo (ap (λ (x : DiskINode). x.file) e ∙ f) least most in
      let x = longer (omega arith) l in
      let says = says-6 b empty_table L.fine formed (rule3-after lo) (rule4-after lo) r5 (λ R. x (R.folder c.up (up-folder l))) in
      (says, folder (up-folder l) x)

  early : 0 < n → n ≤ before_super c → (x : Bool) → grows c ≡ x → Says (pick x 3 5)
  early o l true e =
      let m = ltb-true c.before.super.groups groups e in
      not-3 (λ R. absurd (omega (arith, R.length, meta-after p c g B n b h o, K.old, groups-until p c g B n b h l)))
  early o l false e =
      let f = no-group c e in
      let m = ltb-false c.before.super.groups groups e in
      not-5 (rule3-until o l (omega (arith, K.old))) (rule4-until o l)
      (stray (omega arith) (λ id m. old-file id (sym (nodes-until p c g B n b h l id) ∙ m)))

  group : 0 < n → n ≤ before_file c → (x : Bool) → grows c ≡ x → Says 3
  group o l true e = early o (omega arith) true e
  group o l false e = absurd (omega (arith, no-group c e))

  late : before_own_map c < n → n ≤ before_node c → (x : Bool) → claims_file p.arena c ≡ x → Says (pick x 6 5)
  late lo l true e =
      let r : DiskINode = rec_in a c.id in
      let x = again-fits r.kind r.file e in
      not-6 lo (omega arith) r (rec-old l) x.0 x.1 x.2
  late lo l false e = not-5 (rule3-after lo) (rule4-after lo) (not-again lo l e)

  pub says : 0 < n → n ≤ before_parent c → (s : Phase) → AtPhase c n s
      → (checked b empty_table ≡ failing p.arena c s) × BrokenRule c b (failing p.arena c s)
  unfolding AtPhase failing
  says o l begun s = absurd (omega arith)
  says o l lengthened s = group o s.1 (grows c) refl
  says o l filed s = early o (omega (arith, s.1)) (grows c) refl
  says o l slotted s = early o s.1 (grows c) refl
  says o l counted s = not-3 (λ R. miscounts p c g B n b h s.0 s.1 R.unused)
  says o l mapped s = late s.0 s.1 (claims_file a c) refl
  says o l recorded s =
      let kind = K.child-kind in
      not-6 (omega (arith, s.0, K.taken.inside)) l c.child (rec-new s.0) refl kind.0 (omega (arith, kind.1))
  says o l ended s = absurd (omega arith)

pub phases : Phases
unfolding Phases AtPhase
phases c n =
    ⊎_elim (λ (q : before_parent c < n). (ended, q)) (λ (x7 : n ≤ before_parent c).
    ⊎_elim (λ (q : before_node c < n). (recorded, (q, x7))) (λ (x6 : n ≤ before_node c).
    ⊎_elim (λ (q : before_own_map c < n). (mapped, (q, x6))) (λ (x5 : n ≤ before_own_map c).
    ⊎_elim (λ (q : before_super c < n). (counted, (q, x5))) (λ (x4 : n ≤ before_super c).
    ⊎_elim (λ (q : before_slot c < n). (slotted, (q, x4))) (λ (x3 : n ≤ before_slot c).
    ⊎_elim (λ (q : before_file c < n). (filed, (q, x3))) (λ (x2 : n ≤ before_file c).
    ⊎_elim (λ (q : 0 < n). (lengthened, (q, x2))) (λ (x1 : n ≤ 0). (begun, omega arith))
    (lt-or-le 0 n))
    (lt-or-le (before_file c) n))
    (lt-or-le (before_slot c) n))
    (lt-or-le (before_super c) n))
    (lt-or-le (before_own_map c) n))
    (lt-or-le (before_node c) n))
    (lt-or-le (before_parent c) n)

pub breaks : Breaks
unfolding Breaks
breaks p c g B n b h o l s at = (says p c g B n b h o l s at).1
