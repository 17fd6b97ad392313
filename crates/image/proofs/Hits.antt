-- The slot that a name leads to: a later one, unless the name is `.`, `..` or empty.
use mathlib.Core.Path.{refl, ◌≡◌, sym, ◌∙◌, subst}
use Rattle.sefs_laws.proofs.Clear.{Clear, clear}
use mathlib.Core.Bool.{true, false}
use mathlib.Core.List.{List, [], ◌∷◌}
use Prim.Native.Nat.{ℕ, zero, suc, ◌≤◌}
use native.Mathlib.Omega.{arith}
use Rattle.base.specs.Out.{Ok}
use Rattle.base.proofs.Outs.{ok-weaken}
use Rattle.base.proofs.Bools.{true-T}
use Rattle.le.specs.Le.{Bytes}
use Rattle.structs.specs.Types.{is_folder}
use Rattle.structs.specs.declared.DiskINode.{DiskINode}
use Rattle.utf8.specs.Names.{name_of, is_named, is_special}
use Rattle.utf8.proofs.Names.{named-decides, not-special, asked-own}
use Rattle.table.specs.declared.Table.{Table}
use Rattle.table.specs.Table.{row_at}
use Rattle.sefs.specs.Slots.{find_slot}
use Rattle.rules.specs.Image.{rec_of, slot_in}
use Rattle.rules.specs.Rules.{Folder, Allowed}
use Rattle.image.specs.Midway.{Used}
use Rattle.image.proofs.Handles.{row-rec, row-folder}
use Rattle.image.proofs.Lookups.{Hit, find-law}

-- a name that is none of the three is a later slot's
pub later-place : (a : List ℕ) (t : Table) (id : ℕ) → Folder a t id → (name : List ℕ) → is_special name ≡ false → (k : ℕ) → is_named (slot_in a (rec_of a t id) k).name name ≡ true → 2 ≤ k
later-place a t id F name sp k e =
    let ns = not-special name sp in
    let q : name_of (slot_in a (rec_of a t id) k).name ≡ name = (named-decides (slot_in a (rec_of a t id) k).name name).right (true-T (is_named (slot_in a (rec_of a t id) k).name name) e) ∙ asked-own name ns.0 in
    go k q ns.1
  where
    go : (k : ℕ) → name_of (slot_in a (rec_of a t id) k).name ≡ name → ((name ≡ 46 ∷ [] → ⊥) × (name ≡ 46 ∷ 46 ∷ [] → ⊥)) → 2 ≤ k
    go zero q n = absurd (n.0 (sym q ∙ F.dot))
    go (suc zero) q n = absurd (n.1 (sym q ∙ F.dots))
    go (suc (suc j)) q n = omega arith

-- the slot with the name in a row's folder, or 11
pub row-hit : (a : List ℕ) (t : Table) (A : Allowed a t) → Bytes a → (i : ℕ) → Used t i → is_folder (row_at t i).rec.kind ≡ true → (name : List ℕ)
    → Ok (Hit a (row_at t i).rec name) Clear (find_slot a (row_at t i).rec name)
row-hit a t A y i u f name =
    subst (λ (r : DiskINode). Ok (Hit a r name) Clear (find_slot a r name)) (row-rec a t A i u)
    (ok-weaken (λ s q. q) (λ n e. subst Clear (sym e) (clear 11 refl)) (find-law a t A y (row_at t i).id (row-folder a t A i u f) name))
