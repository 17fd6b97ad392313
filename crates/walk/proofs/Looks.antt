-- A look at a node: what an opening would say, by the record that is there.
use mathlib.Core.Path.{◌≡◌, refl, ◌∙◌, ap}
use mathlib.Core.Bool.{Bool, true, false}
use mathlib.Core.List.{List}
use Prim.Native.Nat.{ℕ, ◌*◌}
use native.Mathlib.Omega.{arith}
use lib.Dec.{leb}
use Rattle.base.specs.Out.{Out, done, refused, bind, guard}
use Rattle.base.specs.Reasons.{stuck}
use Rattle.std.specs.Prelude.{Option, Some, None}
use Rattle.structs.specs.Layout.{record_of}
use Rattle.structs.specs.declared.DiskINode.{DiskINode}
use Rattle.table.specs.Table.{row_of, free_row}
use Rattle.table_laws.specs.Rules.{WellFormed}
use Rattle.table_laws.proofs.Finds.{row-found}
use Rattle.table_laws.proofs.Rows.{row_here}
use Rattle.table_laws.proofs.Spare.{first-spare}
use Rattle.files.specs.Read.{there, read_file}
use Rattle.sefs.specs.State.{Fs, Meta}
use Rattle.sefs.specs.Meta.{meta_file, is_used}
use Rattle.sefs.specs.Nodes.{node_file, rec_at, Opened, open_in, load_node, open_at, get_node}
use Rattle.sefs.specs.Move.{record_by, record_on}
use Rattle.walk.specs.Walk.{look_at}

-- a refusal is one whatever would have been answered
as-other : {A B : Type 0} (k n : ℕ) → ◌≡◌ {A = Out A} (refused k) (refused n) → ◌≡◌ {A = Out B} (refused k) (refused n)
as-other k n e = let z : k ≡ n = cc in ap refused z

-- past superblock and maps, where x is what is asked of the record and y what an opening comes to
module _ (u : Meta → Bool) (x : Out DiskINode) (y : Out Opened) (f : Opened → Out DiskINode) (n : ℕ) where
  test-stop : (b : Bool) → ((k : ℕ) → x ≡ refused k → bind y f ≡ refused k) → guard b stuck x ≡ refused n → bind (guard b stuck y) f ≡ refused n
  test-stop true g e = g n e
  test-stop false g e = as-other stuck n e

  both-stop : (m : Out Meta) → ((k : ℕ) → x ≡ refused k → bind y f ≡ refused k) → bind m (λ v. guard (u v) stuck x) ≡ refused n → bind (bind m (λ v. guard (u v) stuck y)) f ≡ refused n
  both-stop (refused k) g e = as-other k n e
  both-stop (done v) g e = test-stop (u v) g e

module _ (u : Meta → Bool) (x : Out DiskINode) (y : Out Opened) (f : Opened → Out DiskINode) (r : DiskINode) (z : Out DiskINode) where
  test-go : (b : Bool) → (x ≡ done r → bind y f ≡ z) → guard b stuck x ≡ done r → bind (guard b stuck y) f ≡ z
  test-go true g e = g e
  test-go false g e = absurd (let q : ◌≡◌ {A = ℕ} 0 1 = cc in omega arith)

  both_go : (m : Out Meta) → (x ≡ done r → bind y f ≡ z) → bind m (λ v. guard (u v) stuck x) ≡ done r → bind (bind m (λ v. guard (u v) stuck y)) f ≡ z
  both_go (refused k) g e = absurd (let q : ◌≡◌ {A = ℕ} 0 1 = cc in omega arith)
  both_go (done v) g e = test-go (u v) g e

abbrev noted : Opened → Out DiskINode
noted o = done (rec_at o.state o.row)

-- a record that was read
read-stop : (s : Fs) (id : ℕ) (o : Out (List ℕ)) (k : ℕ) → bind o (λ l. done (record_of l)) ≡ refused k → {B : Type 0} (f : List ℕ → Out B) → bind o f ≡ refused k
read-stop s id (refused i) k e f = as-other i k e
read-stop s id (done l) k e f = absurd (let q : ◌≡◌ {A = ℕ} 0 1 = cc in omega arith)

module _ (s : Fs) (id : ℕ) where
  no_record : (f : Option ℕ) (k : ℕ) → record_by s id f ≡ refused k → bind (open_at s id f) noted ≡ refused k
  unfolding load_node
  no_record (Some i) k e = absurd (let q : ◌≡◌ {A = ℕ} 0 1 = cc in omega arith)
  no_record None k e = ap (λ (o : Out Opened). bind o noted) (read-stop s id (read_file s.arena meta_file (128 * id) 112) k e _)

  pub look_stop : {n : ℕ} → record_on s id ≡ refused n → look_at s id ≡ refused n
  unfolding record_on look_at get_node
  look_stop {n = n} e = both-stop (λ m. is_used m id) (record_by s id (row_of s.table id)) (open_at s id (row_of s.table id)) noted n s.meta (no_record (row_of s.table id)) e

  -- the node has a row
  row-record : (f : Option ℕ) (r : DiskINode) (i : ℕ) → f ≡ Some i → record_by s id f ≡ done r → bind (open_at s id f) noted ≡ done r
  row-record (Some j) r i q e = e
  row-record None r i q e = absurd (let z : ◌≡◌ {A = ℕ} 0 1 = cc in omega arith)

  pub look-row : {r : DiskINode} {i : ℕ} → record_on s id ≡ done r → row_of s.table id ≡ Some i → look_at s id ≡ done r
  unfolding record_on look_at get_node
  look-row {r = r} {i = i} e q = both_go (λ m. is_used m id) (record_by s id (row_of s.table id)) (open_at s id (row_of s.table id)) noted r (done r) s.meta (row-record (row_of s.table id) r i q) e

  -- it has none: an opening looks at its type, and for its file. There is a row for it
  module _ (W : WellFormed s.table) where
    taken : (r : DiskINode) → bind (open_in s id r false (free_row s.table)) noted ≡ done r
    taken r =
        let p = first-spare s.table W in
        rw p.1 (ap (λ x. done x.rec) (row_here s.table p.0 (record { id = id; dirty = false; rec = r }) (omega (arith, (row-found s.table 0 p.0 p.1).0, W.rows-34))))

    tested : (b c : Bool) (r : DiskINode) (o : Out Opened) → bind o noted ≡ done r → bind (guard b stuck (guard c stuck o)) noted ≡ guard b stuck (guard c stuck (done r))
    tested true true r o e = e
    tested true false r o e = refl
    tested false c r o e = refl

    loaded : (o : Out (List ℕ)) (r : DiskINode) → bind o (λ l. done (record_of l)) ≡ done r
        → bind (bind o (λ l. guard (leb (record_of l).kind 4) stuck (guard (there s.arena (node_file (record_of l))) stuck (open_in s id (record_of l) false (free_row s.table))))) noted
        ≡ guard (leb r.kind 4) stuck (guard (there s.arena (node_file r)) stuck (done r))
    loaded (refused k) r e = absurd (let q : ◌≡◌ {A = ℕ} 0 1 = cc in omega arith)
    loaded (done l) r e =
        let q : record_of l ≡ r = cc in
        tested (leb (record_of l).kind 4) (there s.arena (node_file (record_of l))) (record_of l) _ (taken (record_of l)) ∙ ap (λ (x : DiskINode). guard (leb x.kind 4) stuck (guard (there s.arena (node_file x)) stuck (done x))) q

    stored-record : (f : Option ℕ) (r : DiskINode) → f ≡ None → record_by s id f ≡ done r → bind (open_at s id f) noted ≡ guard (leb r.kind 4) stuck (guard (there s.arena (node_file r)) stuck (done r))
    unfolding load_node
    stored-record (Some j) r q e = absurd (let z : ◌≡◌ {A = ℕ} 0 1 = cc in omega arith)
    stored-record None r q e = loaded (read_file s.arena meta_file (128 * id) 112) r e

    pub look-stored : {r : DiskINode} → record_on s id ≡ done r → row_of s.table id ≡ None → look_at s id ≡ guard (leb r.kind 4) stuck (guard (there s.arena (node_file r)) stuck (done r))
    unfolding record_on look_at get_node
    look-stored {r = r} e q = both_go (λ m. is_used m id) (record_by s id (row_of s.table id)) (open_at s id (row_of s.table id)) noted r _ s.meta (stored-record (row_of s.table id) r q) e
