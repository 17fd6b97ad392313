-- The call of move: what it asks before its steps.
use mathlib.Core.Path.{refl, ◌≡◌, sym, subst}
use Rattle.sefs_laws.proofs.Clear.{Clear, clear}
use mathlib.Core.Bool.{true, false, not}
use mathlib.Core.List.{List}
use Prim.Native.Nat.{ℕ, ◌≤◌, ◌<◌}
use lib.Dec.{eqb, leb}
use lib.ListN.{length}
use borrow.Author.Tests.{not-true}
use Rattle.base.specs.Out.{Ok, went}
use Rattle.base.proofs.Outs.{ok-bind, ok-weaken}
use Rattle.base.proofs.Bools.{true-T}
use Rattle.base.proofs.Finds.{search-at}
use Rattle.base.proofs.Tests.{decides-leb}
use Rattle.base.specs.Search.{lowest, found_below}
use Rattle.std.specs.Prelude.{Option, Some, None}
use Rattle.le.specs.Le.{Bytes}
use Rattle.structs.specs.Types.{is_folder}
use Rattle.structs.specs.declared.DiskINode.{DiskINode}
use Rattle.utf8.specs.Names.{is_named, is_special, name_verdict, early_reason, new_reason}
use Rattle.table.specs.declared.Table.{Table}
use Rattle.table.specs.declared.Handle.{Handle}
use Rattle.table.specs.Table.{row_at}
use Rattle.sefs.specs.Slots.{lookup}
use Rattle.sefs.specs.Ask.{start}
use Rattle.sefs.specs.Create.{After}
use Rattle.sefs.specs.Move.{move_to, call_move}
use Rattle.rules.specs.Image.{rec_of, slot_in}
use Rattle.rules.specs.Rules.{Allowed}
use Rattle.tree.specs.Tree.{Spelling}
use Rattle.sequences.specs.Pairs.{Pair, pair}
use Rattle.sequences.specs.Calls.{move, does}
use Rattle.sefs_laws.proofs.Rows.{Bears, Fills, tabled}
use Rattle.table_laws.proofs.Handles.{live-means}
use Rattle.sequences.proofs.Tables.{FillsFolders, Turns}
use Rattle.sefs_laws.proofs.Says.{says-ensure, says_is, ok-is, ensure-asks}
use Rattle.sequences.proofs.Passing.{Spelled, allowed}
use Rattle.image.specs.Midway.{Used}
use Rattle.image.proofs.Handles.{admitted, handle-law, row-rec, row-folder}
use Rattle.image.proofs.Lookups.{lookup-is}
use Rattle.image.proofs.NewNames.{NewGood, good-name, NewName, new-name}
use Rattle.sequences.proofs.Asks.{live-folder}
use Rattle.image.proofs.Moving.{LiveFolder}
use Rattle.sequences.proofs.MoveSteps.{none-law, node_law}

-- what a lookup tells
pub data Looked (a : List ℕ) (r : DiskINode) (name : List ℕ) : Option ℕ → Type 0 where
  here : (k : ℕ) → k < r.blocks → is_named (slot_in a r k).name name ≡ true → Looked a r name (Some k)
  new : NewName a r name → Looked a r name None

pub look-law : (a : List ℕ) (t : Table) (A : Allowed a t) → Bytes a → (j : ℕ) → Used t j → is_folder (row_at t j).rec.kind ≡ true → (name : List ℕ) → NewGood name → length name ≤ 255
    → Ok (Looked a (row_at t j).rec name) Clear (lookup a (row_at t j).rec name)
look-law a t A b j u f name g s =
    subst (λ (r : DiskINode). Ok (Looked a r name) Clear (lookup a r name)) (row-rec a t A j u)
    (ok-weaken (λ x q. by x q) (λ n q. q) (ok-is (lookup-is a t A b (row_at t j).id (row-folder a t A j u f) name)))
  where
    by : (x : Option ℕ)
        → x ≡ found_below (lowest (λ k. is_named (slot_in a (rec_of a t (row_at t j).id) k).name name) (rec_of a t (row_at t j).id).blocks) (rec_of a t (row_at t j).id).blocks
        → Looked a (rec_of a t (row_at t j).id) name x
    by (Some k) e = let h = search-at (λ k. is_named (slot_in a (rec_of a t (row_at t j).id) k).name name) (rec_of a t (row_at t j).id).blocks k (sym e) in here k h.0 h.1
    by None e = new (new-name a t (row_at t j).id (A.rule6.folder (row_at t j).id (row-folder a t A j u f)) name g s (sym e))

-- P holds of arena and table through all of it
pub move-call : {style : Spelling} (P : List ℕ → Table → Type 0) → Bears P → (p : Pair) → Spelled style p → FillsFolders P p.table → Turns P p.arena p.table → P p.arena p.table
    → (w : ℕ) (h : Handle) (old : List ℕ) (target : Handle) (name : List ℕ) → Bytes name
    → Ok (λ (x : After). Spelled style (pair x.arena x.table) × P x.arena x.table) Clear (call_move p.arena p.table w h old target name)
unfolding call_move
move-call {style = style} P K p y fills turns start-p w h old target name nb =
    ok-bind (says_is (admitted a t A)) λ _ _.
    ok-bind (handle-law a t A w h) λ i u.
    ok-bind (handle-law a t A w target) λ j v.
    ok-bind (says-ensure (eqb (early_reason (name_verdict old)) 0) 5 (clear 5 refl)) λ _ _.
    ok-bind (ensure-asks (eqb (new_reason (name_verdict name)) 0) 5 (clear 5 refl)) λ _ good.
    ok-bind (live-folder a t A i u.used) λ _ from.
    ok-bind (ensure-asks (not (is_special old)) 9 (clear 9 refl)) λ _ plain-old.
    ok-bind (ensure-asks (not (is_special name)) 9 (clear 9 refl)) λ _ plain.
    ok-bind (says-ensure (leb (length old) 255) 10 (clear 10 refl)) λ _ _.
    ok-bind (ensure-asks (leb (length name) 255) 10 (clear 10 refl)) λ _ short.
    ok-bind (live-folder a t A j v.used) λ _ to.
    ok-bind (look-law a t A y.passes.typed.bytes j v.used to.0 name (good-name name good) (is-short short)) λ f l.
    goes i j (record { used = u.used; folder = from.0; links = from.1 }) (record { used = v.used; folder = to.0; links = to.1 })
    (not-true (is_special old) plain-old) (good-name name good) (not-true (is_special name) plain) (is-short short)
    (fills w h i ((live-means t w h i).0 u.owns.live) from.0) (fills w target j ((live-means t w target j).0 v.owns.live) to.0) f l
  where
    a : List ℕ
    a = p.arena

    t : Table
    t = p.table

    A : Allowed p.arena p.table
    A = allowed p y.passes

    is-short : leb (length name) 255 ≡ true → length name ≤ 255
    is-short e = (decides-leb (length name) 255).right (true-T (leb (length name) 255) e)

    goes : (i j : ℕ) → LiveFolder (start p.arena p.table) i → LiveFolder (start p.arena p.table) j
        → is_special old ≡ false → NewGood name → is_special name ≡ false → length name ≤ 255 → Fills P i → Fills P j → (f : Option ℕ) → Looked p.arena (row_at p.table j).rec name f
        → Ok (λ (x : After). Spelled style (pair x.arena x.table) × P x.arena x.table) Clear (move_to (start p.arena p.table) i j old name f)
    goes i j from to plain-old good plain short fills-i fills-j f (here k l e) =
        node_law p.arena p.table A y i j from to old name plain-old good plain short nb P K fills-i fills-j turns start-p k l e
    goes i j from to plain-old good plain short fills-i fills-j f (new N) =
        none-law p.arena p.table A y i j from to old name plain-old good plain short nb P K fills-i fills-j turns start-p N

pub keeps-move : {style : Spelling} (p : Pair) (w : ℕ) (h : Handle) (old : List ℕ) (target : Handle) (name : List ℕ) → Spelled style p → Bytes name → Ok (Spelled style) Clear (does (move w h old target name) p)
unfolding does
keeps-move p w h old target name y nb =
    ok-bind (move-call (λ b u. Unit) (tabled (λ u. Unit) (λ u i r e q d o. o) (λ u i r e o. o) (λ u i e o. o)) p y
    (λ v g i l f b c u k o. o) (λ c row m f b d u e k o. o) tt w h old target name nb) λ x q. went q.0
