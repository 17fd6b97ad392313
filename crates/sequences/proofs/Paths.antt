-- Path, on a pair that passes: the folder of a row in use has a way, so the call is neither stuck nor damaged nor malformed.
use mathlib.Core.Path.{◌≡◌, refl, sym, ap, ◌∙◌, subst}
use mathlib.Core.Bool.{true}
use mathlib.Core.Logic.{◌≢◌}
use Prim.Native.Nat.{ℕ}
use native.Mathlib.Omega.{arith}
use lib.Dec.{ltb, leb}
use lib.ListN.{length}
use borrow.Author.Tests.{ltb-true}
use Rattle.base.specs.Out.{Ok, went}
use Rattle.base.proofs.Outs.{ok-bind}
use Rattle.base.proofs.Sames.{decided-yes}
use Rattle.base.proofs.Tests.{decides-leb}
use Rattle.structs.specs.Types.{is_folder}
use Rattle.structs.specs.declared.DiskINode.{DiskINode}
use Rattle.table.specs.declared.Table.{Table}
use Rattle.table.specs.declared.Handle.{Handle}
use Rattle.table.specs.Table.{row_at}
use Rattle.sefs.specs.Ask.{start}
use Rattle.sefs.specs.Read.{readable}
use Rattle.sefs_laws.proofs.Clear.{Clear, clear}
use Rattle.sefs_laws.proofs.Says.{Says, says-done, says_then, says_is, says-ensure, ensure-yes, ensure-asks}
use Rattle.paths.specs.Path.{most_folders, names_to, path_of, call_path}
use Rattle.tree.specs.Tree.{Spelling}
use Rattle.image.specs.Midway.{Used}
use Rattle.image.proofs.Handles.{admitted, handle-law, row-rec, row-most, row-folder}
use Rattle.sequences.specs.Pairs.{Pair, Passed}
use Rattle.sequences.specs.Calls.{full_path, does}
use Rattle.sequences.proofs.Passing.{Spelled, allowed}
use Rattle.sequences.proofs.PathWays.{Way, way}

pub some-links : (n : ℕ) → ltb 0 n ≡ true → n ≢ 0
some-links n e z = omega (arith, ltb-true 0 n e, z)

-- the way of the folder in row i
pub row-way : (p : Pair) (y : Passed p) (i : ℕ) → Used p.table i → is_folder (row_at p.table i).rec.kind ≡ true → (row_at p.table i).rec.nlinks ≢ 0
    → Way p y (row_at p.table i).id (names_to (start p.arena p.table) most_folders (row_at p.table i).id (row_at p.table i).rec)
row-way p y i u f n =
    let A = allowed p y in
    let id : ℕ = (row_at p.table i).id in
    let same = row-rec p.arena p.table A i u in
    subst (λ (r : DiskINode). Way p y id (names_to (start p.arena p.table) most_folders id r)) same
    (way p y id (row-folder p.arena p.table A i u f) (λ z. n (ap (λ (r : DiskINode). r.nlinks) (sym same) ∙ z)))

path-clear : (p : Pair) → Passed p → (w : ℕ) (h : Handle) (room : ℕ) → Says Clear (call_path p.arena p.table w h room)
unfolding call_path readable
path-clear p y w h room =
    let A = allowed p y in
    let t : Table = p.table in
    says_then (says_is (admitted p.arena p.table A)) λ _.
    ok-bind (handle-law p.arena p.table A w h) λ i u.
    let most = decided-yes (decides-leb (row_at t i).rec.kind 4) (row-most p.arena p.table A i u.used) in
    ok-bind (ok-bind (ensure-yes 19 most) λ _ _. ensure-asks (is_folder (row_at t i).rec.kind) 7 (clear 7 refl)) λ _ f.
    ok-bind (ensure-asks (ltb 0 (row_at t i).rec.nlinks) 8 (clear 8 refl)) λ _ n.
    ok-bind (says_is (row-way p y i u.used f (some-links (row_at t i).rec.nlinks n)).is) λ names _.
    says_then (says-ensure (leb (length (path_of names)) room) 20 (clear 20 refl)) λ _. says-done

pub keeps-path : {style : Spelling} (p : Pair) (w : ℕ) (h : Handle) (room : ℕ) → Spelled style p → Ok (Spelled style) Clear (does (full_path w h room) p)
unfolding does
keeps-path p w h room y = ok-bind (path-clear p y.passes w h room) λ _ _. went y
