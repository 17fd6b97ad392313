-- What calls with a name ask: a folder that is there, and a name that is not there yet.
use mathlib.Core.Path.{refl, ◌≡◌, sym, ap, ◌∙◌}
use Rattle.sefs_laws.proofs.Clear.{Clear, clear}
use mathlib.Core.Bool.{true}
use mathlib.Core.List.{List}
use mathlib.Core.Logic.{◌≢◌}
use Prim.Native.Nat.{ℕ, ◌≤◌, ◌<◌}
use native.Mathlib.Omega.{arith}
use lib.Dec.{ltb}
use lib.ListN.{length}
use borrow.Author.Tests.{ltb-true}
use Rattle.base.specs.Out.{Ok}
use Rattle.base.proofs.Outs.{ok-bind, ok-weaken}
use Rattle.std.specs.Prelude.{Option, None}
use Rattle.le.specs.Le.{Bytes}
use Rattle.structs.specs.Types.{is_folder}
use Rattle.structs.specs.declared.DiskINode.{DiskINode}
use Rattle.table.specs.declared.Table.{Table}
use Rattle.table.specs.Table.{row_at}
use Rattle.sefs.specs.Slots.{lookup}
use Rattle.sefs.specs.Ask.{live_folder}
use Rattle.rules.specs.Image.{rec_of}
use Rattle.rules.specs.Rules.{Allowed}
use Rattle.sefs_laws.proofs.Says.{ok-is, ensure-yes, ensure-asks}
use Rattle.image.specs.Midway.{Used}
use Rattle.image.proofs.Handles.{row-rec, row_type, row-folder}
use Rattle.image.proofs.Lookups.{lookup-is}
use Rattle.image.proofs.NewNames.{NewName, NewGood, new-name}

-- ---- the call

-- a folder that something is done in
pub live-folder : (a : List ℕ) (t : Table) (A : Allowed a t) (i : ℕ) → Used t i → Ok (λ _. (is_folder (row_at t i).rec.kind ≡ true) × ((row_at t i).rec.nlinks ≢ 0)) Clear (live_folder (row_at t i).rec)
unfolding live_folder
live-folder a t A i u =
    ok-bind (ensure-yes 19 (row_type a t A i u)) λ _ _.
    ok-bind (ensure-asks (is_folder (row_at t i).rec.kind) 7 (clear 7 refl)) λ _ f.
    ok-weaken (λ _ l. (f, λ z. let y : 0 < (row_at t i).rec.nlinks = ltb-true 0 (row_at t i).rec.nlinks l in omega arith)) (λ n r. r)
    (ensure-asks (ltb 0 (row_at t i).rec.nlinks) 8 (clear 8 refl))

-- a name that is not there yet
pub new-law : (a : List ℕ) (t : Table) (A : Allowed a t) → Bytes a → (i : ℕ) → Used t i → is_folder (row_at t i).rec.kind ≡ true → (name : List ℕ) → NewGood name → length name ≤ 255
    → Ok (λ (f : Option ℕ). f ≡ None → NewName a (rec_of a t (row_at t i).id) name) Clear (lookup a (row_at t i).rec name)
new-law a t A b i u f name g s =
    ok-weaken (λ x q z. new-name a t (row_at t i).id (A.rule6.folder (row_at t i).id (row-folder a t A i u f)) name g s (sym q ∙ z)) (λ n r. r)
    (ok-is (ap (λ (r : DiskINode). lookup a r name) (sym (row-rec a t A i u)) ∙ lookup-is a t A b (row_at t i).id (row-folder a t A i u f) name))
