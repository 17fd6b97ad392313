-- Order 11's promises: the checker passes, every name leads where it led, and mending again changes nothing.
use mathlib.Core.Path.{◌≡◌, ap, ◌∙◌, subst}
use mathlib.Core.Bool.{true}
use mathlib.Core.List.{List}
use Prim.Native.Nat.{ℕ}
use native.Mathlib.Omega.{arith}
use Rattle.base.specs.Out.{done, Ok}
use Rattle.base.proofs.Outs.{ok-done, ok-weaken}
use Rattle.base.proofs.Bools.{and_both}
use Rattle.le.specs.Le.{Bytes}
use Rattle.structs.specs.Types.{is_folder}
use Rattle.table.specs.declared.Table.{Table}
use Rattle.table.specs.Table.{empty_table}
use Rattle.sefs.specs.State.{Fs}
use Rattle.sefs.specs.Slots.{find_slot, Slot}
use Rattle.rules.specs.Image.{is_node, is_folder_at}
use Rattle.rules.specs.Rules.{Linked, Allowed}
use Rattle.rules.proofs.Check.{allowed-pass}
use Rattle.image.proofs.Images.{fair, root-node}
use Rattle.image.proofs.Lookups.{Hit, find-law, slot-node}
use Rattle.mending.specs.Mendable.{rec_in, Mendable}
use Rattle.mending.specs.Mend.{stays, call_mend}
use Rattle.mending.specs.Promises.{way, Mended, IsMended, MendPasses, MendAgain}
use Rattle.mending.proofs.Tables.{empty_holds, bare-allowed}
use Rattle.mending.proofs.Steps.{Done, Worked, call-law}
use Rattle.mending.proofs.Mended.{kind-left, blocks-left, file-left, super-left, bytes_left, no_more, is-spared, is-gone, left-allowed}
use Rattle.mending.proofs.Lookups.{find-kept}
use Rattle.mending.proofs.Ways.{way_same}
use Rattle.mending.proofs.Idle.{folder-linked, idle}

-- ---- "every name left leads to the same node as before"

module _ (a : List ℕ) (B : Bytes a) (M : Mendable a) (d : Fs) (D : Done a d) where
  abbrev b : List ℕ
  b = d.arena

  E : Allowed d.arena empty_table
  E = left-allowed a B M d D

  finds : (id : ℕ) → stays a id ≡ true → (name : List ℕ) → find_slot d.arena (rec_in d.arena id) name ≡ find_slot a (rec_in a id) name
  finds id e name = find-kept b a (rec_in b id) (rec_in a id) name (blocks-left a B M d D id e) (file-left a B M d D id e) (is-spared a B M d D id e).file

  leads : (id : ℕ) → stays a id ≡ true → is_folder (rec_in a id).kind ≡ true → (name : List ℕ)
      → Ok (λ (s : Slot). stays a s.entry.id ≡ true) (λ n. Unit) (find_slot a (rec_in a id) name)
  unfolding is_folder_at
  leads id e f name =
      let g : is_folder_at b empty_table id ≡ true = and_both (is-spared a B M d D id e).node (ap is_folder (kind-left a B M d D id e) ∙ f) in
      let K : Linked b empty_table id = folder-linked b E id g in
      subst (Ok (λ (s : Slot). stays a s.entry.id ≡ true) (λ n. Unit)) (finds id e name)
      (ok-weaken
      (λ s (H : Hit b (rec_in b id) name s).
      no_more a B M d D s.entry.id
      (ap (λ x. is_node b x.id) H.is ∙ slot-node b empty_table E id g name (λ _ z. omega (arith, z, K.links)) s.place H.inside H.named))
      (λ n r. tt)
      (find-law b empty_table E (bytes_left a B M d D) id g name))

  pub names-left : (l : List (List ℕ)) → way d.arena empty_table 2 l ≡ way a empty_table 2 l
  names-left l =
      way_same a b empty_table empty_table (λ id. stays a id ≡ true) (kind-left a B M d D) (λ id e f. finds id e) leads 2
      (no_more a B M d D 2 (root-node b empty_table (fair b empty_table E))) l

-- ---- the theorems

-- a call that is done has done its steps
worked : (a b : List ℕ) (t : Table) → call_mend a t ≡ done b → Worked a t b
worked a b t e = ok-done (subst (Ok (Worked a t) _) e (call-law a t))

pub is-mended : IsMended
unfolding IsMended
is-mended a b t B e =
    let W = worked a b t e in
    let M = W.mendable in
    let d = W.state in
    let D = W.steps in
    subst (Mended a) W.is
    (record { names = names-left a B M d D; spared = is-spared a B M d D; gone = is-gone a B M d D; no_more = no_more a B M d D; super = super-left a B M d D })

mended-allowed : (a b : List ℕ) (t : Table) → Bytes a → call_mend a t ≡ done b → Bytes b × Allowed b t
mended-allowed a b t B e =
    let W = worked a b t e in
    let E = left-allowed a B W.mendable W.state W.steps in
    subst (λ (x : List ℕ). Bytes x × Allowed x t) W.is
    (bytes_left a B W.mendable W.state W.steps, bare-allowed W.state.arena empty_table t E empty_holds W.formed W.bare)

-- what it holds are bytes
pub mend-bytes : (a b : List ℕ) (t : Table) → Bytes a → call_mend a t ≡ done b → Bytes b
mend-bytes a b t B e = (mended-allowed a b t B e).0

pub mend-passes : MendPasses
unfolding MendPasses
mend-passes a b t B e = allowed-pass b t (mended-allowed a b t B e).1

pub mend-again : MendAgain
unfolding MendAgain
mend-again a b t B e = let r = mended-allowed a b t B e in idle b t r.0 r.1 (worked a b t e).bare
