-- What the checker says of a synced pair's arena with the empty table: a pass, or 7 where a node has no links. A create changes nothing of it.
use mathlib.Core.Path.{◌≡◌, sym, ap, ◌∙◌, subst}
use mathlib.Core.Bool.{true, false, ◌&&◌}
use mathlib.Core.List.{List}
use mathlib.Core.Logic.{◌≢◌, ◌⊎◌, inl, inr, ⊎_elim}
use Prim.Native.Nat.{ℕ, ◌+◌, ◌<◌}
use native.Mathlib.Omega.{arith}
use Rattle.base.specs.Out.{done}
use Rattle.base.proofs.Bools.{bool_cases, true-false}
use Rattle.base.proofs.Finds.{eq-cases}
use Rattle.structs.specs.Types.{is_folder}
use Rattle.structs.specs.declared.DiskINode.{DiskINode}
use Rattle.table.specs.Table.{empty_table}
use Rattle.table_laws.proofs.Keeps.{empty-formed}
use Rattle.files.specs.Read.{length_of}
use Rattle.sefs.specs.Nodes.{node_file}
use Rattle.sefs.specs.Create.{Given}
use Rattle.rules.specs.Image.{is_node, rec_of, is_folder_at}
use Rattle.rules.specs.Rules.{Allowed, Rule6, Rule7, Linked, Removed}
use Rattle.rules.specs.Tests.{checked}
use Rattle.rules.proofs.Check.{check-pass, allowed-pass}
use Rattle.image.proofs.Images.{like-same, table-allowed}
use Rattle.tree.specs.Tree.{any}
use Rattle.sequences.specs.Pairs.{Pair, pair, Passed}
use Rattle.sequences.proofs.Passing.{allowed}
use Rattle.mending.specs.Mendable.{rec_in, Mendable}
use Rattle.mending.proofs.Tables.{empty_holds, not-open, empty-id}
use Rattle.cuts.specs.Stores.{after_stores, cut_after}
use Rattle.cuts.specs.Creates.{Birth, new_parent, create_stores, before_parent}
use Rattle.cuts.specs.Premise.{NoneDirty, Creation}
use Rattle.cuts.specs.Cuts.{Complete, KeepsNodes}
use Rattle.cuts.specs.Traces.{Phase, begun, lengthened, filed, slotted, counted, mapped, recorded, ended, AtPhase}
use Rattle.cuts.specs.Answers.{failing, CutFails, AllLinked, PassOrSeven, SameCheck}
use Rattle.cuts.proofs.Steps.{done-is}
use Rattle.cuts.proofs.Counts.{all_done, complete}
use Rattle.cuts.proofs.Facts.{Known, known, node-zero}
use Rattle.cuts.proofs.Names.{rec-a, rec-parent}
use Rattle.cuts.proofs.Synced.{rec-synced, mendable}
use Rattle.cuts.proofs.Maps.{keeps-nodes}
use Rattle.cuts.proofs.FindsNew.{after-passed, after-synced}
use Rattle.cuts.proofs.Records.{rec-else}
use Rattle.cuts.proofs.Fails.{formed, rec-new, old-or-new, says}
use Rattle.cuts.proofs.Checks.{says-7}

module _ (q : Pair) (y : Passed q) (z : NoneDirty q.table) where
  abbrev a : List ℕ
  a = q.arena

  A : Allowed q.arena q.table
  A = allowed q y

  rec : (id : ℕ) → is_node q.arena id ≡ true → rec_of q.arena q.table id ≡ rec_in q.arena id
  rec id m = rec-synced q y z id m

  -- rules 1 to 6 hold with the empty table; the mender asks for all of them but the sizes

  M : Mendable q.arena
  M = mendable q y z

  rule6-empty : Rule6 q.arena empty_table
  unfolding is_folder_at
  rule6-empty = record {
    folder = M.folder;
    size = λ id m d. subst (λ (r : DiskINode). length_of a (node_file r) ≡ r.size) (rec id m)
        (A.rule6.size id m (ap (λ (r : DiskINode). is_node a id && is_folder r.kind) (rec id m) ∙ d));
  }

  -- ---- rule 7 asks for links

  all-linked : Rule7 q.arena empty_table → AllLinked q.arena
  all-linked R id m e = ⊎_elim
      (λ (d : is_folder_at a empty_table id ≡ true). ⊎_elim
      (λ (L : Linked a empty_table id). absurd (omega (arith, L.links)))
      (λ (R : Removed a empty_table id). true-false R.opened (not-open empty_table empty-formed empty_holds id (node-zero q y id m)))
      (R.folder id d))
      (λ (d : is_folder_at a empty_table id ≡ false). true-false (R.unnamed id m d e) (not-open empty_table empty-formed empty_holds id (node-zero q y id m)))
      (bool_cases (is_folder_at a empty_table id))

  passes : AllLinked q.arena → checked q.arena empty_table ≡ 0
  passes l =
      allowed-pass a empty_table
      (table-allowed a q.table empty_table A empty-formed (λ i w d. absurd (d (empty-id i w))) (λ i w d. absurd (d (empty-id i w)))
      (λ id m. like-same (sym (rec id m))) (λ id m e o. absurd (l id m (ap (λ (r : DiskINode). r.nlinks) (sym (rec id m)) ∙ e))) any (λ i k f x v. tt)).0

  -- a pass, or 7
  either : ((checked q.arena empty_table ≡ 0) × AllLinked q.arena) ⊎ ((checked q.arena empty_table ≡ 7) × (AllLinked q.arena → ⊥))
  either = ⊎_elim
      (λ e. inl (e, all-linked (check-pass a empty_table e).rule7))
      (λ d. inr (says-7 a empty_table M.rule1 formed M.rule3 M.rule4 M.rule5 rule6-empty (λ R. d (passes (all-linked R))), λ l. d (passes l)))
      (eq-cases (checked a empty_table) 0)

pub pass-or-seven : PassOrSeven
unfolding PassOrSeven
pass-or-seven q y z = either q y z

-- ---- a create that is done

module _ (p : Pair) (c : Birth) (g : Given) (B : Creation p c g) where
  abbrev b : List ℕ
  b = g.arena

  abbrev n : ℕ
  n = before_parent c + 1

  K : Known p.arena c
  K = known p c g B

  all : cut_after (before_parent c + 1) (create_stores c) p.arena ≡ done g.arena
  all = all_done p c g B n (omega arith)

  up-b : rec_in g.arena c.up ≡ new_parent c
  up-b = rec-parent p c g B n b all (omega arith)

  links : (x : List ℕ) (id k : ℕ) (r : DiskINode) → id ≡ k → rec_in x k ≡ r → (rec_in x id).nlinks ≡ 0 → r.nlinks ≡ 0
  links x id k r e q w = ap (λ (r : DiskINode). r.nlinks) (sym q) ∙ ap (λ (i : ℕ). (rec_in x i).nlinks) (sym e) ∙ w

  -- the parent has links before and after, and so has the new node; all others have what they had
  forth : AllLinked p.arena → AllLinked g.arena
  forth l id m = old-or-new p c g B n b all (omega (arith, K.taken.inside)) id m
      (λ e w. absurd (omega (arith, K.child-links, links b id c.id c.child e (rec-new p c g B n b all (omega arith)) w)))
      (λ o w. ⊎_elim
      (λ (e : id ≡ c.up). absurd (omega (arith, K.alive, links b id c.up (new_parent c) e up-b w)))
      (λ (e : id ≢ c.up). l id o (ap (λ (r : DiskINode). r.nlinks) (sym (rec-else p c g B n b all id o e)) ∙ w))
      (eq-cases id c.up))

  back : AllLinked g.arena → AllLinked p.arena
  unfolding KeepsNodes
  back l id m w = ⊎_elim
      (λ (e : id ≡ c.up). absurd (omega (arith, K.alive, links p.arena id c.up c.parent e (rec-a p c g B) w)))
      (λ (e : id ≢ c.up). l id (keeps-nodes p c g B n b all id m) (ap (λ (r : DiskINode). r.nlinks) (rec-else p c g B n b all id m e) ∙ w))
      (eq-cases id c.up)

  same : checked g.arena empty_table ≡ checked p.arena empty_table
  same = ⊎_elim
      (λ x. ⊎_elim (λ y. y.0 ∙ sym x.0) (λ y. absurd (y.1 (forth x.1))) after)
      (λ x. ⊎_elim (λ y. absurd (x.1 (back y.1))) (λ y. y.0 ∙ sym x.0) after)
      (either p B.passed B.synced)
    where
      after : ((checked g.arena empty_table ≡ 0) × AllLinked g.arena) ⊎ ((checked g.arena empty_table ≡ 7) × (AllLinked g.arena → ⊥))
      after = either (pair b g.table) (after-passed p c g B n b all (omega arith)) (after-synced p c g B n b all (omega arith))

pub same_check : SameCheck
unfolding SameCheck
same_check p c g B = same p c g B

-- ---- so of each cut: before the first store, between two, and after the last

module _ (p : Pair) (c : Birth) (g : Given) (B : Creation p c g) (n : ℕ) (b : List ℕ) (h : cut_after n (create_stores c) p.arena ≡ done b) where
  pub first : n ≡ 0 → b ≡ p.arena
  unfolding cut_after after_stores
  first e = sym (done-is (ap (λ (k : ℕ). cut_after k (create_stores c) p.arena) (sym e) ∙ h))

  last : before_parent c < n → b ≡ g.arena
  unfolding Complete
  last l = (complete p c g B n b h l).arena

  fails-b : (s : Phase) → AtPhase c n s → checked b empty_table ≡ failing p.arena c s
  unfolding AtPhase failing SameCheck
  fails-b begun at = ap (λ (x : List ℕ). checked x empty_table) (first at)
  fails-b lengthened at = (says p c g B n b h at.0 (omega (arith, at.1)) lengthened at).0
  fails-b filed at = (says p c g B n b h (omega (arith, at.0)) (omega (arith, at.1)) filed at).0
  fails-b slotted at = (says p c g B n b h (omega (arith, at.0)) (omega (arith, at.1)) slotted at).0
  fails-b counted at = (says p c g B n b h (omega (arith, at.0)) (omega (arith, at.1, (known p c g B).taken.inside)) counted at).0
  fails-b mapped at = (says p c g B n b h (omega (arith, at.0)) (omega (arith, at.1)) mapped at).0
  fails-b recorded at = (says p c g B n b h (omega (arith, at.0)) at.1 recorded at).0
  fails-b ended at = ap (λ (x : List ℕ). checked x empty_table) (last at) ∙ same_check p c g B

pub cut-fails : CutFails
unfolding CutFails
cut-fails p c g B n b h s at = fails-b p c g B n b h s at
