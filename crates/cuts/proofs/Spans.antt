-- Each trace is seen from one store to another, and only then.
use mathlib.Core.Path.{◌≡◌, refl, sym, ap, ◌∙◌, subst}
use mathlib.Core.Bool.{true}
use mathlib.Core.List.{List}
use mathlib.Core.Logic.{⊎_elim}
use Prim.Native.Nat.{ℕ, ◌+◌, ◌*◌, ◌/◌, ◌%◌, ◌-◌, ◌≤◌, ◌<◌}
use native.Mathlib.Omega.{arith}
use lib.Dec.{eqb}
use lib.ListN.{replicate}
use borrow.Author.Tests.{lt-ltb, le-ltb, ltb-true, eq-eqb}
use Rattle.base.specs.Count.{bit}
use Rattle.base.specs.Out.{done}
use Rattle.base.proofs.Bools.{and_both, true-false}
use Rattle.base.proofs.Finds.{count_to-some}
use Rattle.base.proofs.Numbers.{lt-or-le}
use Rattle.structs.specs.Types.{is_folder}
use Rattle.structs.specs.declared.DiskEntry.{DiskEntry}
use Rattle.structs.specs.declared.DiskINode.{DiskINode}
use Rattle.maps.specs.Maps.{bit_at}
use Rattle.table.specs.Table.{empty_table}
use Rattle.files.specs.Read.{length_of}
use Rattle.sefs.specs.Meta.{meta_file}
use Rattle.sefs.specs.Nodes.{node_file}
use Rattle.sefs.specs.Create.{Given}
use Rattle.rules.specs.Image.{stored_super, is_folder_at, slot_in, later_slot, names_in}
use Rattle.sequences.specs.Pairs.{Pair}
use Rattle.cuts.specs.Stores.{cut_after}
use Rattle.cuts.specs.Creates.{Birth, new_parent, create_stores, before_file, before_slot, before_super, before_map, before_own_map, before_parent}
use Rattle.cuts.specs.Premise.{Creation}
use Rattle.cuts.specs.Cuts.{SoFar, OnlyTraces}
use Rattle.cuts.specs.Traces.{Trace, used-id, nameless-record, stray-file, longer-folder, longer-metadata, wrong-unused, zero-map, Nameless, Seen}
use Rattle.cuts.proofs.Stores.{group_map}
use Rattle.cuts.proofs.Facts.{Known, known}
use Rattle.cuts.proofs.Along.{is-stored, not-stored}
use Rattle.cuts.proofs.Names.{rec-a, rec-b, rec-parent}
use Rattle.cuts.proofs.SoFar.{only-traces}
use Rattle.cuts.proofs.Maps.{groups-until, groups-after, meta-until, meta-after, zeros, part-bit, zero_bit}
use Rattle.cuts.proofs.FindsNew.{new-slot}
use Rattle.cuts.proofs.Records.{not-child, rec-like, nameless}
use Rattle.cuts.proofs.Used.{record_at, Spans, own-map, grew, used, only-used, has-record, only-record, new-set, miscounts, right-until, right-after}

module _ (p : Pair) (c : Birth) (g : Given) (B : Creation p c g) (n : ℕ) (b : List ℕ) (h : cut_after n (create_stores c) p.arena ≡ done b) where
  abbrev a : List ℕ
  a = p.arena

  K : Known p.arena c
  K = known p c g B

  L : SoFar p.arena c n b
  unfolding OnlyTraces
  L = only-traces p c g B n b h

  abbrev old : ℕ
  old = c.before.super.groups

  abbrev groups : ℕ
  groups = c.after.super.groups

  -- ---- each is seen

  pub shows-b : (x : Trace) → Spans p.arena c n x → Seen p.arena c b x
  unfolding Spans Seen
  shows-b used-id z = (used p c g B n b h z.0, nameless p c g B n b h z.1)
  shows-b nameless-record z =
      let r = has-record p c g B n b h z.0 in
      (r.0, r.1, nameless p c g B n b h z.1)
  shows-b stray-file z = (
    L.stray ∙ lt-ltb (before_file c) n z.0,
    λ id m q. not-child p c g B id m (sym (rec-like p c g B n b h (λ r. r.file) refl id m) ∙ q),
    λ m r. absurd (omega (arith, z.1, only-record p c g B n b h m r)),
  )
  shows-b longer-folder z =
      subst (λ (r : DiskINode). 264 * r.blocks < length_of b (node_file r)) (sym (rec-b p c g B n b h z.1))
      (omega (arith, L.folder-long, ap bit (lt-ltb (before_slot c) n z.0)))
  shows-b longer-metadata z = omega (arith, K.old, grew p c g B z.0, groups-until p c g B n b h z.2, meta-after p c g B n b h z.1)
  shows-b wrong-unused z = miscounts p c g B n b h z.0 z.1
  shows-b zero-map z =
      let l = ltb-true old groups z.0 in
      let m = own-map p c g B z.0 in (
        omega (arith, groups-after p c g B n b h z.1),
        not-stored _ _ (before_map c old) n (L.maps old l) (omega (arith, z.2)) ∙ zeros p c g B old (omega (arith, K.old)),
      )

  -- ---- and only then

  -- after the last store the new node has its name
  named : Nameless p.arena c.id b → n ≤ before_parent c
  unfolding names_in is_folder_at
  named z = ⊎_elim
      (λ (l : before_parent c < n). absurd (
      let k : ℕ = c.parent.blocks - 2 in
      let d : is_folder_at a empty_table c.up ≡ true = and_both K.up (ap (λ (r : DiskINode). is_folder r.kind) (rec-a p c g B) ∙ K.dir) in
      let e : names_in b (new_parent c) c.id ≡ 0 = ap (λ (r : DiskINode). names_in b r c.id) (sym (rec-parent p c g B n b h l)) ∙ z c.up d in
      let j : 2 + k ≡ c.parent.blocks = omega (arith, K.least) in
      let s : (later_slot b (new_parent c) k).id ≡ c.id =
      ap (λ (k : ℕ). (slot_in b (new_parent c) k).id) j ∙ ap (λ (x : DiskEntry). x.id) (new-slot p c g B n b h l) in
      let m = count_to-some (λ j. eqb (later_slot b (new_parent c) j).id c.id) (c.parent.blocks + 1 - 2) k (omega (arith, K.least)) (eq-eqb _ c.id s) in
      omega (arith, e)))
      (λ l. l)
      (lt-or-le (before_parent c) n)

  pub seen_b : (x : Trace) → Seen p.arena c b x → Spans p.arena c n x
  unfolding Spans Seen
  seen_b used-id s = (only-used p c g B n b h s.0, named s.1)
  seen_b nameless-record s = (only-record p c g B n b h s.0 s.1, named s.2)
  seen_b stray-file s = (
    ltb-true (before_file c) n (sym L.stray ∙ s.0),
    ⊎_elim (λ l. absurd (let r = has-record p c g B n b h l in s.2 r.0 r.1)) (λ l. l) (lt-or-le (record_at a c) n),
  )
  seen_b longer-folder s =
      ⊎_elim
      (λ (l : before_parent c < n). absurd (
      let q = subst (λ (r : DiskINode). 264 * r.blocks < length_of b (node_file r)) (rec-parent p c g B n b h l) s in
      omega (arith, L.folder-long, ap bit (lt-ltb (before_slot c) n (omega arith)))))
      (λ (l : n ≤ before_parent c).
      let q = subst (λ (r : DiskINode). 264 * r.blocks < length_of b (node_file r)) (rec-b p c g B n b h l) s in
      let early : n ≤ before_slot c → ⊥ = λ m. omega (arith, L.folder-long, ap bit (le-ltb (before_slot c) n m)) in
      (⊎_elim (λ m. m) (λ m. absurd (early m)) (lt-or-le (before_slot c) n), l))
      (lt-or-le (before_parent c) n)
  seen_b longer-metadata s =
      let l : n ≤ before_super c =
      ⊎_elim (λ q. absurd (omega (arith, groups-after p c g B n b h q, meta-most, s))) (λ q. q) (lt-or-le (before_super c) n) in
      let u : (stored_super b).groups ≡ old = groups-until p c g B n b h l ∙ sym K.old in
      let o : 0 < n = ⊎_elim (λ q. q) (λ q. absurd (omega (arith, meta-until p c g B n b h q, s))) (lt-or-le 0 n) in
      (lt-ltb old groups (omega (arith, meta-most, s)), o, l)
    where
      meta-most : length_of b meta_file ≤ 131072 * groups
      meta-most =
          ⊎_elim
          (λ q. omega (arith, meta-after p c g B n b h q))
          (λ q. omega (arith, meta-until p c g B n b h q, K.old, K.taken.more))
          (lt-or-le 0 n)
  seen_b wrong-unused s = (
    ⊎_elim (λ l. l) (λ (l : n ≤ before_super c). absurd (s (right-until p c g B n b h l))) (lt-or-le (before_super c) n),
    ⊎_elim (λ (l : before_own_map c < n). absurd (s (right-after p c g B n b h l))) (λ l. l) (lt-or-le (before_own_map c) n),
  )
  seen_b zero-map s =
      let l : before_super c < n =
      ⊎_elim (λ q. q) (λ q. absurd (omega (arith, s.0, groups-until p c g B n b h q, K.old))) (lt-or-le (before_super c) n) in
      let m : old < groups = omega (arith, s.0, groups-after p c g B n b h l) in
      let e = lt-ltb old groups m in
      let o = own-map p c g B e in
      let late : before_map c old < n → ⊥ = λ q. stored m (sym (is-stored _ _ (before_map c old) n (L.maps old m) q) ∙ s.1) in
      let q : n ≤ before_map c old = ⊎_elim (λ q. absurd (late q)) (λ q. q) (lt-or-le (before_map c old) n) in
      (e, l, omega arith)
    where
      stored : old < groups → group_map c.after.maps old ≡ replicate 128 0 → ⊥
      stored m e =
          let z = new-set p c g B (omega (arith, K.old)) in
          let k : ℕ = 1024 * old + z.0 in
          let q : k / 1024 ≡ old = omega (arith, z.1) in
          true-false (ap (λ (o : ℕ). bit_at c.after.maps (1024 * o + z.0)) K.old ∙ z.2)
          (sym (part-bit c.after.maps k) ∙ ap (λ (o : ℕ). bit_at (group_map c.after.maps o) (k % 1024)) q
          ∙ ap (λ (x : List ℕ). bit_at x (k % 1024)) e ∙ zero_bit 128 (k % 1024))
