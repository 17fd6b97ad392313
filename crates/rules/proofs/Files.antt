-- Rule 5: its test decides it.
use mathlib.Core.Path.{◌≡◌, refl, sym, ap, ◌∙◌}
use mathlib.Core.Bool.{true}
use mathlib.Core.List.{List}
use Prim.Native.Nat.{ℕ, ◌≤◌, ◌<◌}
use native.Mathlib.Omega.{arith}
use lib.Dec.{ltb}
use borrow.Author.Tests.{ltb-true}
use Rattle.base.specs.Decides.{Decides}
use Rattle.base.specs.Search.{lowest}
use Rattle.base.proofs.Bools.{and_parts, true-T}
use Rattle.base.proofs.Sames.{decided-yes}
use Rattle.base.proofs.Searches.{lowest-at-most, lowest-hit}
use Rattle.base.proofs.Tests.{decides-true, decides-iff, decides_eqb, decides-leb, decides_and, decides-if, decides-all, decides-same}
use Rattle.structs.specs.Constants.{type_dir}
use Rattle.table.specs.declared.Table.{Table}
use Rattle.arena.specs.Blocks.{blk, blocks}
use Rattle.arena.specs.Fields.{tag_of, which_of}
use Rattle.arena.specs.Fields as block
use Rattle.files.specs.Read.{there}
use Rattle.sefs.specs.Nodes.{node_file}
use Rattle.rules.specs.Image.{ids_in, is_node, rec_of}
use Rattle.rules.specs.Rules.{Rule5}
use Rattle.rules.specs.Tests.{test5, has_name, node_allowed, head_allowed}
use Rattle.rules.proofs.General.{decides-some}

-- a node's id is below the end of the maps
pub node-below : (a : List ℕ) (id : ℕ) → is_node a id ≡ true → id < ids_in a
unfolding is_node
node-below a id e = ltb-true id (ids_in a) (and_parts (ltb id (ids_in a)) _ e).0

module _ (a : List ℕ) (t : Table) where
  -- node j has that file name
  Named : List ℕ → ℕ → Type 0
  Named name j = (is_node a j ≡ true) × ((rec_of a t j).file ≡ name)

  decides-name : (name : List ℕ) (j : ℕ) → Decides (has_name a t name j) (Named name j)
  unfolding has_name Named
  decides-name name j = decides_and (decides-true (is_node a j)) (decides-same (rec_of a t j).file name)

  -- what the test asks of a node
  Asked : ℕ → Type 0
  Asked id =
      is_node a id ≡ true
      → (1 ≤ (rec_of a t id).kind)
      × (((rec_of a t id).kind ≤ 4)
      × ((there a (node_file (rec_of a t id)) ≡ true) × (lowest (has_name a t (rec_of a t id).file) (ids_in a) ≡ id)))

  decides-node : (id : ℕ) → Decides (node_allowed a t id) (Asked id)
  unfolding node_allowed Asked
  decides-node id =
      decides-if (decides-true (is_node a id))
      (decides_and (decides-leb 1 (rec_of a t id).kind)
      (decides_and (decides-leb (rec_of a t id).kind 4)
      (decides_and (decides-true (there a (node_file (rec_of a t id)))) (decides_eqb (lowest (has_name a t (rec_of a t id).file) (ids_in a)) id))))

  -- what it asks of block k
  Head : ℕ → Type 0
  Head k = (tag_of (blk a k) ≡ 1) × (which_of (blk a k) ≡ 1) → (id : ℕ) × (id < ids_in a) × Named (block.name_of (blk a k)) id

  decides-head : (k : ℕ) → Decides (head_allowed a t k) (Head k)
  unfolding head_allowed Head
  decides-head k =
      decides-if (decides_and (decides_eqb (tag_of (blk a k)) 1) (decides_eqb (which_of (blk a k)) 1))
      (decides-some (has_name a t (block.name_of (blk a k))) (Named (block.name_of (blk a k))) (ids_in a) (decides-name (block.name_of (blk a k))))

  -- names are distinct where the lowest node with a node's name is that node
  lowest-own : Rule5 a t → (id : ℕ) → is_node a id ≡ true → lowest (has_name a t (rec_of a t id).file) (ids_in a) ≡ id
  unfolding Named
  lowest-own r id e =
      let p = has_name a t (rec_of a t id).file in
      let g = lowest-at-most p (ids_in a) id (node-below a id e) (decided-yes (decides-name (rec_of a t id).file id) (e, refl)) in
      let l : lowest p (ids_in a) < ids_in a = omega (arith, node-below a id e) in
      let h = (decides-name (rec_of a t id).file (lowest p (ids_in a))).right (true-T _ (lowest-hit p (ids_in a) l)) in
      r.distinct (lowest p (ids_in a)) id h.0 e h.1

  pub decides-5 : Decides (test5 a t) (Rule5 a t)
  unfolding test5 Asked Head Named
  decides-5 =
      decides-iff
      (λ p.
      let node : (id : ℕ) → Asked id = λ id e. p.0 id (node-below a id e) e in
      record {
        least = λ id e. (node id e).0;
        most = λ id e. (node id e).1.0;
        distinct = λ i j ei ej same_name.
            sym (node i ei).1.1.1 ∙ ap (λ (name : List ℕ). lowest (has_name a t name) (ids_in a)) same_name ∙ (node j ej).1.1.1;
        own = λ id e. (node id e).1.1.0;
        other = λ k l tag which. let h = p.1.0 k l (tag, which) in (h.0, h.2.0, h.2.1);
        root = p.1.1;
      })
      (λ r. (
        λ id l e. (r.least id e, (r.most id e, (r.own id e, lowest-own r id e))),
        (
          λ k l h. let o = r.other k l h.0 h.1 in (o.0, node-below a o.0 o.1, (o.1, o.2)),
          r.root,
        ),
      ))
      (decides_and (decides-all (ids_in a) (node_allowed a t) Asked (λ id l. decides-node id))
      (decides_and (decides-all (blocks a) (head_allowed a t) Head (λ k l. decides-head k)) (decides_eqb (rec_of a t 2).kind type_dir)))
