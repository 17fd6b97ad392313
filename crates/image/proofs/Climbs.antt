-- The climb of a move in a fair image: every folder on the way can be read, node 2 is reached, and where the moved node is not met, no step of
-- the way is it.
use mathlib.Core.Path.{◌≡◌, refl, sym, ap, ◌∙◌, subst}
use mathlib.Core.Bool.{Bool, true, false, not, ◌&&◌}
use mathlib.Core.List.{List}
use mathlib.Core.Logic.{◌≢◌}
use Prim.Native.Nat.{ℕ, zero, suc, ◌*◌, ◌≤◌}
use native.Mathlib.Omega.{arith}
use lib.Dec.{eqb}
use borrow.Author.Tests.{eq-eqb, ne_eqb, eqb-true, eqb-false, not-true}
use Rattle.base.specs.Out.{Out, done, bind, guard, Ok, went}
use Rattle.base.proofs.Outs.{ok-guard, ok-weaken}
use Rattle.base.specs.Search.{pick}
use Rattle.std.specs.Prelude.{Option, Some, None}
use Rattle.base.proofs.Bools.{and_parts, true-false}
use Rattle.structs.specs.Types.{is_folder}
use Rattle.structs.specs.declared.DiskINode.{DiskINode}
use Rattle.table.specs.declared.Table.{Table}
use Rattle.table.specs.Table.{row_of}
use Rattle.sefs_laws.proofs.Clear.{Clear, clear}
use Rattle.sefs.specs.State.{Fs, Meta}
use Rattle.sefs.specs.Meta.{is_used}
use Rattle.sefs.specs.Nodes.{node_file, rec_at, id_at}
use Rattle.sefs.specs.Slots.{slot_bytes}
use Rattle.sefs.specs.Move.{record_by, record_on, dots_of, climb, not_below}
use Rattle.rules.specs.Image.{run, is_node, stored_bytes, rec_by, rec_of, slot_in}
use Rattle.rules.proofs.Files.{node-below}
use Rattle.image.specs.Midway.{stored_meta, Fair, tree_of}
use Rattle.tree.specs.Tree.{Spelling, Tree, Tidy, parent, up, Lives}
use Rattle.tree.proofs.Trees.{folder-is, parent-lives, up_first}
use Rattle.tree.proofs.Ways.{up-stays, climbs-soon}
use Rattle.image.proofs.Nodes.{meta-read, used-is}
use Rattle.image.proofs.Movings.{slot_read}

module _ {style : Spelling} (s : Fs) (A : Fair style s.arena s.table) (meta : s.meta ≡ done (stored_meta s.arena)) where
  abbrev a : List ℕ
  a = s.arena

  abbrev t : Table
  t = s.table

  abbrev v : Tree
  v = tree_of s.arena s.table

  I : Tidy style v
  I = A.tidy

  -- a node's record
  pub record_is : (id : ℕ) → is_node s.arena id ≡ true → record_on s id ≡ done (rec_of s.arena s.table id)
  unfolding record_on rec_of stored_bytes
  record_is id n =
      ap (λ (m : Out Meta). bind m (λ m. guard (is_used m id) 19 (record_by s id (row_of t id)))) meta
      ∙ ap (λ (b : Bool). guard b 19 (record_by s id (row_of t id))) (used-is a t A id n)
      ∙ go (row_of t id)
    where
      go : (f : Option ℕ) → record_by s id f ≡ done (rec_by s.arena s.table id f)
      go (Some i) = refl
      go None = rw (meta-read s.arena s.table A (128 * id) 112 (omega (arith, node-below s.arena id n)))

  -- what its slot 1 names
  pub dots-is : (x : ℕ) → Lives (tree_of s.arena s.table) x → dots_of s (rec_of s.arena s.table x) ≡ done (parent (tree_of s.arena s.table) x)
  unfolding dots_of slot_in
  dots-is x l =
      let F = I.folder x l.folder in
      let e : slot_bytes a (rec_of a t x) 1 ≡ done (run a (node_file (rec_of a t x)) (264 * 1) 264) =
      slot_read a (rec_of a t x) 1 (A.rule5.own x (folder-is v x l.folder)) (omega (arith, F.length, F.blocks)) (omega (arith, F.dots-kind)) in
      rw ((and_parts (is_node a x) (is_folder (rec_of a t x).kind) l.folder).1, e)

  module _ (c : ℕ) (not-2 : c ≢ 2) where
    -- node 2 leads to node 2
    root-avoids : (k : ℕ) → up v 2 k ≢ c
    root-avoids k e = not-2 (sym e ∙ up-stays v I 2 I.root k)

    next-avoids : (x : ℕ) → x ≢ c → ((k : ℕ) → up v (parent v x) k ≢ c) → (k : ℕ) → up v x k ≢ c
    unfolding up
    next-avoids x n h zero e = n e
    next-avoids x n h (suc k) e = h k (sym (up_first v x k) ∙ e)

    at-root : (x : ℕ) → eqb x 2 ≡ true → (k : ℕ) → up v x k ≢ c
    at-root x e = subst (λ (y : ℕ). (k : ℕ) → up v y k ≢ c) (sym (eqb-true x 2 e)) root-avoids

    -- n more folders may be climbed from, and m are
    abbrev Climbs : ℕ → Type 0
    Climbs n = (m x : ℕ) → m ≤ n → Lives v x → up v x m ≡ 2 → (r : Out DiskINode) → r ≡ done (rec_of a t x) → Ok (λ _. (k : ℕ) → up v x k ≢ c) Clear (climb s c n x r)

    climb-law : (n : ℕ) → Climbs n
    unfolding climb up
    climb-law zero zero x l y e r q = ok-guard (not (eqb x c)) 6 (clear 6 refl) λ h. rw (eq-eqb x 2 e) (went (at-root x (eq-eqb x 2 e)))
    climb-law zero (suc m) x l y e r q = absurd (omega arith)
    climb-law (suc n) m x l y e r q = ok-guard (not (eqb x c)) 6 (clear 6 refl) λ h. go (λ m. climb-law n m) (eqb x 2) refl (eqb-false x c (not-true (eqb x c) h))
      where
        rest : Climbs n → (m : ℕ) → m ≤ suc n → up v x m ≡ 2 → x ≢ 2 → Ok (λ _. (k : ℕ) → up v (parent v x) k ≢ c) Clear (climb s c n (parent v x) (record_on s (parent v x)))
        rest again zero l e d = absurd (d e)
        rest again (suc m) l e d =
            let p = parent-lives v I x y in
            again m (parent v x) (omega arith) p (sym (up_first v x m) ∙ e) (record_on s (parent v x)) (record_is (parent v x) (folder-is v (parent v x) p.folder))

        go : Climbs n → (b : Bool) → eqb x 2 ≡ b → x ≢ c
            → Ok (λ _. (k : ℕ) → up v x k ≢ c) Clear (pick b (done tt) (bind r (λ r. bind (dots_of s r) (λ y. climb s c n y (record_on s y)))))
        go again true z d = went (at-root x z)
        go again false z d = rw (q, dots-is x y) (ok-weaken (λ _ h. next-avoids x d h) (λ k h. h) (rest again m l e (eqb-false x 2 z)))

  pub below-law : (i j c : ℕ) → id_at s c ≢ 2 → Lives (tree_of s.arena s.table) (id_at s j) → rec_of s.arena s.table (id_at s j) ≡ rec_at s j
      → Ok (λ _. id_at s i ≢ id_at s j → is_folder (rec_at s c).kind ≡ true → (k : ℕ) → up (tree_of s.arena s.table) (id_at s j) k ≢ id_at s c) Clear (not_below s i j c)
  unfolding not_below
  below-law i j c n l r = go (not (eqb (id_at s i) (id_at s j)) && is_folder (rec_at s c).kind) refl
    where
      go : (b : Bool) → (not (eqb (id_at s i) (id_at s j)) && is_folder (rec_at s c).kind) ≡ b
          → Ok (λ _. id_at s i ≢ id_at s j → is_folder (rec_at s c).kind ≡ true → (k : ℕ) → up (tree_of s.arena s.table) (id_at s j) k ≢ id_at s c) Clear
          (pick b (climb s (id_at s c) 4096 (id_at s j) (done (rec_at s j))) (done tt))
      go true e =
          let w = climbs-soon v I (id_at s j) l in
          let near = w.1 in
          ok-weaken (λ _ h d f. h) (λ k h. h) (climb-law (id_at s c) n 4096 w.0 (id_at s j) (omega (arith, near, A.rule3.few)) l w.2 (done (rec_at s j)) (ap done (sym r)))
      go false e = went (λ d f. absurd (true-false (ap (λ (b : Bool). not b && is_folder (rec_at s c).kind) (ne_eqb (id_at s i) (id_at s j) d) ∙ f) e))
