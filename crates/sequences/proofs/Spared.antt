-- One call spares a node that somebody else has open: handle, number, type, file and the file's bytes.
use mathlib.Core.Path.{◌≡◌, sym, ap, ◌∙◌, subst}
use mathlib.Core.Bool.{true}
use mathlib.Core.List.{List}
use Prim.Native.Nat.{ℕ}
use Rattle.base.specs.Out.{Out, kept, Ok, went, said}
use Rattle.base.proofs.Outs.{ok-done}
use Rattle.structs.specs.declared.DiskINode.{DiskINode}
use Rattle.table.specs.declared.Table.{Table}
use Rattle.table.specs.declared.Handle.{Handle}
use Rattle.table.specs.Table.{row_at}
use Rattle.rules.specs.Image.{is_node, rec_of}
use Rattle.sefs_laws.proofs.Rows.{Any}
use Rattle.image.proofs.Handles.{row-node, row-rec}
use Rattle.sequences.specs.Pairs.{Pair, Passed}
use Rattle.sequences.specs.Calls.{Call, next}
use Rattle.sequences.specs.Promises.{On, Spares, Else, MakesElse, Safe}
use Rattle.sequences.proofs.Passing.{allowed}
use Rattle.sequences.proofs.Corner.{OnAs, on-as, as-on, on-does, on-used, on-there, else-create}
use Rattle.sequences.proofs.Bytes.{KeptIfThere, left}

by-kept : (P : Table → Type 0) (p : Pair) {o : Out Pair} → P p.table → Ok (λ (q : Pair). P q.table) Any o → P (kept p o).table
by-kept P p y (went q) = q
by-kept P p y (said r) = y

makes-else : (p : Pair) (c : Call) (w : ℕ) (h : Handle) (n : ℕ) (f : List ℕ) → Passed p → On p.table w h n f → MakesElse n f c p
makes-else p c w h n f y o v g name kind mode time uuid x _ e =
    ok-done (subst (Ok (Else v n f) Any) e (else-create p.arena p.table (allowed p y) w h n f o v g name kind mode time uuid))

-- a handle's node, and the type and file that its record has
node_of : (p : Pair) → Passed p → {w : ℕ} {h : Handle} {n : ℕ} {f : List ℕ} {k : ℕ} → OnAs w h n f k p.table
    → (is_node p.arena n ≡ true) × ((rec_of p.arena p.table n).kind ≡ k) × ((rec_of p.arena p.table n).file ≡ f)
node_of p y {w} {h} {n} {f} o =
    let a : List ℕ = p.arena in
    let t : Table = p.table in
    let A = allowed p y in
    let u = on-used a t A w h n f (as-on o) in
    let r : rec_of p.arena p.table n ≡ (row_at p.table o.row).rec = ap (rec_of a t) (sym o.has.id) ∙ row-rec a t A o.row u in (
      ap (is_node a) (sym o.has.id) ∙ row-node a t A o.row u,
      ap (λ (r : DiskINode). r.kind) r ∙ o.has.kind,
      ap (λ (r : DiskINode). r.file) r ∙ o.has.file,
    )

-- where the pair afterwards passes
pub spared : (p : Pair) (c : Call) (w : ℕ) (h : Handle) (n : ℕ) (f : List ℕ) → Passed p → On p.table w h n f → Spares w h c → Passed (next c p) → Safe w h n f c p
spared p c w h n f y o s q =
    let u = on-used p.arena p.table (allowed p y) w h n f o in
    let k : ℕ = (row_at p.table o.row).rec.kind in
    let x : OnAs w h n f (row_at p.table o.row).rec.kind p.table = on-as p.table w h n f o in
    let z : OnAs w h n f (row_at p.table o.row).rec.kind (next c p).table = by-kept (OnAs w h n f k) p x (on-does w h n f k (λ z. u.node (o.node ∙ z)) c p s.not-closed x) in
    let m = node_of p y x in
    let v = node_of (next c p) q z in
    record {
      stays = as-on z;
      node = v.0;
      kind = v.1 ∙ sym m.1;
      new = makes-else p c w h n f y o;
      same = λ no-dir not-Through.
          let L : KeptIfThere p.arena f (next c p).arena = subst (λ (x : List ℕ). KeptIfThere p.arena x (next c p).arena) m.2 (left p y n m.0 no-dir c s.fits not-Through).0 in
          let K = L (on-there (next c p).arena (next c p).table (allowed (next c p) q) w h n f (as-on z)) in
          record { long = K.long; bytes = K.byte };
    }
