-- The tree that the mender brings about: that of the arena as it came, with the links and sizes that the mender sets, and the nodes that go without
-- links, as if they were open still. Rules 6 to 8 hold of it, and so of what is left once those are gone (`stays-tidy` of `tree`).
use mathlib.Core.Path.{◌≡◌, refl, sym, ap, ◌∙◌}
use mathlib.Core.Bool.{Bool, true, false}
use mathlib.Core.List.{List}
use mathlib.Core.Logic.{◌≢◌, inl, inr, ⊎_elim}
use Prim.Native.Nat.{ℕ, zero, suc, ◌+◌}
use native.Mathlib.Omega.{arith}
use Rattle.base.specs.Search.{pick}
use Rattle.base.proofs.Bools.{bool_cases, true-false, and_both, and_parts}
use Rattle.base.proofs.Finds.{eq-cases}
use Rattle.base.proofs.Sames.{test-fails}
use Rattle.structs.specs.Types.{is_folder}
use Rattle.structs.specs.declared.DiskINode.{DiskINode}
use Rattle.files.specs.Read.{length_of}
use Rattle.table.specs.Table.{empty_table}
use Rattle.sefs.specs.Nodes.{node_file}
use Rattle.rules.specs.Image.{ids_in, is_node, is_folder_at, slot_in, names_in, named, subfolders, parent_of, climb}
use Rattle.rules.specs.Rules.{Loose}
use Rattle.rules.proofs.Files.{node-below}
use Rattle.tree.specs.Tree.{Tree, any, folder_at, names_of, all_names, subs_of, up, parent, Lives, Tidy}
use Rattle.tree.proofs.Trees.{folder-is}
use Rattle.mending.specs.Mendable.{rec_in, times_named, Standing, Mendable}
use Rattle.mending.specs.Mend.{lost, mended}
use Rattle.rules.proofs.Climbs.{root-folder}
use Rattle.mending.proofs.Fates.{lost-is, lost-says, named-stays, mended-folder, mended-other, two-stays}

abbrev pub wished : List ℕ → Tree
wished a = record {
  ids = ids_in a;
  node = is_node a;
  kind = λ i. (rec_in a i).kind;
  links = λ i. pick (lost a i) 0 (mended a i).nlinks;
  blocks = λ i. (rec_in a i).blocks;
  size = λ i. (mended a i).size;
  long = λ i. length_of a (node_file (rec_in a i));
  slot = λ i k. slot_in a (rec_in a i) k;
  opened = lost a;
}

module _ (a : List ℕ) where
  -- ---- the words of the rules, said of it

  named-wished : (x : ℕ) → times_named a x ≡ all_names (wished a) x
  unfolding named names_in all_names names_of is_folder_at
  named-wished x = refl

  subs-wished : (i : ℕ) → subfolders a (rec_in a i) ≡ subs_of (wished a) i
  unfolding subfolders subs_of
  subs-wished i = refl

  climb-wished : (i n : ℕ) → climb a empty_table i n ≡ up (wished a) i n
  unfolding climb up parent_of
  climb-wished i zero = refl
  climb-wished i (suc n) = ap (parent (wished a)) (climb-wished i n)

  -- ---- links and size

  pub folder-links : (id : ℕ) → is_folder (rec_in a id).kind ≡ true → (mended a id).nlinks ≡ 2 + subfolders a (rec_in a id)
  folder-links id f = ap (λ (r : DiskINode). r.nlinks) (mended-folder a id f)

  pub other-links : (id : ℕ) → is_folder (rec_in a id).kind ≡ false → (mended a id).nlinks ≡ times_named a id
  other-links id f = ap (λ (r : DiskINode). r.nlinks) (mended-other a id f)

  pub other-size : (id : ℕ) → is_folder (rec_in a id).kind ≡ false → (mended a id).size ≡ length_of a (node_file (rec_in a id))
  other-size id f = ap (λ (r : DiskINode). r.size) (mended-other a id f)

  pub links-spared : (id : ℕ) → lost a id ≡ false → (wished a).links id ≡ (mended a id).nlinks
  links-spared id e = ap (λ (b : Bool). pick b 0 (mended a id).nlinks) e

  pub links-gone : (id : ℕ) → lost a id ≡ true → (wished a).links id ≡ 0
  links-gone id e = ap (λ (b : Bool). pick b 0 (mended a id).nlinks) e

module _ (a : List ℕ) (M : Mendable a) where
  two-folder : folder_at (wished a) 2 ≡ true
  unfolding is_folder_at
  two-folder = root-folder a empty_table M.rule3 M.rule4 M.rule5

  kind-not : (i : ℕ) → is_node a i ≡ true → folder_at (wished a) i ≡ false → is_folder (rec_in a i).kind ≡ false
  kind-not i n f = test-fails (is_folder (rec_in a i).kind) (λ e. true-false (and_both n e) f)

  linked : (i : ℕ) → folder_at (wished a) i ≡ true → lost a i ≡ false → (wished a).links i ≡ 2 + subs_of (wished a) i
  linked i f e =
      links-spared a i e ∙ folder-links a i (and_parts (is_node a i) (is_folder (rec_in a i).kind) f).1 ∙ ap (λ (n : ℕ). 2 + n) (subs-wished a i)

  -- a folder with links, root apart, stands
  standing : (i : ℕ) → Lives (wished a) i → i ≢ 2 → Standing a i
  unfolding is_folder_at
  standing i l d =
      ⊎_elim (λ (s : Standing a i). s)
      (λ (o : Loose a empty_table i). absurd (l.links (links-gone a i (lost-is a i (folder-is (wished a) i l.folder) d o.unnamed))))
      (M.other i l.folder d)

  pub wished-tidy : Tidy any (wished a)
  unfolding is_folder_at parent_of up
  wished-tidy = record {
    below = λ i n. node-below a i n;
    two = record { folder = two-folder; links = λ z. omega (arith, z, linked 2 two-folder (two-stays a)) };
    folder = λ i f. let F = M.folder i f in record {
      blocks = F.blocks;
      length = F.length;
      dot = F.dot;
      own = F.own;
      dot-kind = F.dot-kind;
      dots = F.dots;
      dots-kind = F.dots-kind;
      later = λ k x y. let e = F.later k x y in record { ended = e.ended; some = e.some; no-dot = e.no-dot; no-dots = e.no-dots; spelt = tt; node = e.node; kind = e.kind };
      distinct = F.distinct;
    };
    sized = λ i n f. sym (other-size a i (kind-not i n f));
    other = λ i n f. ⊎_elim
        (λ (e : lost a i ≡ true). links-gone a i e ∙ sym (lost-says a i e).2)
        (λ (e : lost a i ≡ false). links-spared a i e ∙ other-links a i (kind-not i n f))
        (bool_cases (lost a i))
        ∙ named-wished a i;
    unnamed = λ i n f z. ⊎_elim
        (λ (e : lost a i ≡ true). e)
        (λ (e : lost a i ≡ false).
        lost-is a i n (λ q. true-false two-folder (ap (folder_at (wished a)) (sym q) ∙ f)) (sym (links-spared a i e ∙ other-links a i (kind-not i n f)) ∙ z))
        (bool_cases (lost a i));
    either = λ i f. ⊎_elim
        (λ (q : i ≡ 2). inl (record {
          links = linked i f (ap (lost a) q ∙ two-stays a);
          root = λ _. sym (named-wished a i) ∙ ap (times_named a) q ∙ M.unnamed;
          once = λ d. absurd (d q);
        }))
        (λ d. ⊎_elim
        (λ (s : Standing a i). inl (record {
          links = linked i f (named-stays a i (λ z. omega (arith, z, s.once)));
          root = λ q. absurd (d q);
          once = λ _. sym (named-wished a i) ∙ s.once;
        }))
        (λ (o : Loose a empty_table i).
        let e = lost-is a i (folder-is (wished a) i f) d o.unnamed in
        inr (record { apart = d; opened = e; links = links-gone a i e; unnamed = sym (named-wished a i) ∙ o.unnamed; slots = o.slots }))
        (M.other i f d))
        (eq-cases i 2);
    root = M.root;
    parents = λ i l d. (standing i l d).rooted.parent;
    names = λ i l d. let k = (standing i l d).rooted.names in record { at = k.0; later = k.1; inside = k.2; is = k.3 };
    climbs = λ i l. ⊎_elim
        (λ (q : i ≡ 2). (0, q))
        (λ d. let c = (standing i l d).rooted.climbs in (c.0, sym (climb-wished a i c.0) ∙ c.1))
        (eq-cases i 2);
  }
