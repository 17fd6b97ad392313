-- A fresh image passes, and its text is empty.
use mathlib.Core.Path.{◌≡◌, refl, sym, ap, ◌∙◌, subst}
use mathlib.Core.Bool.{true, false}
use mathlib.Core.List.{List, []}
use mathlib.Core.Logic.{⊎_elim}
use Prim.Native.Nat.{ℕ, zero, suc, ◌+◌, ◌-◌}
use native.Mathlib.Omega.{arith}
use lib.ListN.{length}
use borrow.Author.Tests.{eq-eqb, le-leb}
use Rattle.base.specs.Out.{done, refused, Ok, said}
use Rattle.base.proofs.Bools.{bool_cases}
use Rattle.base.proofs.Outs.{ok-done}
use Rattle.structs.specs.Fits.{TimeFits}
use Rattle.structs.specs.declared.DiskINode.{DiskINode}
use Rattle.structs.specs.declared.Timespec.{Timespec}
use Rattle.table.specs.Table.{empty_table}
use Rattle.table_laws.proofs.Keeps.{empty-formed}
use Rattle.arena.specs.Blocks.{legal}
use Rattle.arena.specs.Fields.{file}
use Rattle.arena.proofs.Blocks.{legal-is}
use Rattle.sound.specs.Sound.{sound}
use Rattle.files_laws.specs.Laws.{Named}
use Rattle.files_laws.proofs.Bounds.{named-node, legal-same}
use Rattle.sefs.specs.Ask.{admit_arena}
use Rattle.sefs.specs.Create.{call_format}
use Rattle.sefs_laws.proofs.Says.{is-done}
use Rattle.rules.specs.Image.{rec_of}
use Rattle.rules.specs.Tests.{checked}
use Rattle.rules.proofs.Check.{allowed-pass}
use Rattle.tree.specs.Tree.{any}
use Rattle.image.proofs.Formats.{Made, format-done}
use Rattle.image.proofs.Fresh.{rec-is, made-fair}
use Rattle.image.proofs.Images.{fair-allowed}
use Rattle.inventory.specs.Visits.{join_to, slot_visits, visits_to, visits, lines_of}
use Rattle.inventory.specs.Inventory.{stored_tree, text, call_inventory}
use Rattle.inventory.specs.Promises.{FreshEmpty}
use Rattle.inventory.proofs.Delivers.{empty-id}

-- a root with its own two slots has no lines
visits-empty : (a : List ℕ) (n : ℕ) → (rec_of a empty_table 2).blocks ≡ 2 → visits_to (stored_tree a) n 2 [] ≡ []
unfolding visits_to join_to
visits-empty a zero e = refl
visits-empty a (suc n) e = ap (λ (m : ℕ). join_to (λ j. slot_visits (stored_tree a) (visits_to (stored_tree a) n) 2 [] (2 + j)) (m - 2)) e

text-empty : (a : List ℕ) → (rec_of a empty_table 2).blocks ≡ 2 → text a ≡ []
unfolding text visits lines_of
text-empty a e = ap (lines_of (stored_tree a)) (visits-empty a (stored_tree a).ids e)

-- where the arena passes and the text is empty, the call is done with it
call-empty : (a : List ℕ) (room : ℕ) → legal a ≡ true → sound a ≡ true → checked a empty_table ≡ 0 → text a ≡ [] → call_inventory a room ≡ done []
unfolding call_inventory admit_arena
call-empty a room l s c e = rw (l, s, eq-eqb (checked a empty_table) 0 c, e, le-leb (length {A = ℕ} []) room (omega arith)) refl

module _ (n : ℕ) (time : Timespec) (name b : List ℕ) (fine : legal b ≡ true) (times : TimeFits time) (N : Named (file 1 name)) (M : Made n time name b) where
  root-two : (rec_of b empty_table 2).blocks ≡ 2
  root-two = ap (λ (r : DiskINode). r.blocks) (rec-is n time name b fine times N M empty_table empty-id)

  passes : checked b empty_table ≡ 0
  passes = allowed-pass b empty_table (fair-allowed {style = any} b empty_table (made-fair n time name b fine times N M empty_table empty-id) empty-formed)

  made-empty : (room : ℕ) → call_inventory b room ≡ done []
  made-empty room = call-empty b room fine M.sound passes (text-empty b root-two)

module _ (a : List ℕ) (time : Timespec) (name : List ℕ) (times : TimeFits time) (N : Named (file 1 name)) (room : ℕ) where
  format-goes : legal a ≡ true → (b : List ℕ) × (call_format a time name ≡ done b) × (call_inventory b room ≡ done [])
  unfolding call_format
  format-goes l =
      let x = format-done (length a) (legal-is a l).least time name N in
      (x.0, rw l x.1, made-empty (length a) time name x.0 (legal-same a x.0 x.2.size ∙ l) times N x.2 room)

  format-not : legal a ≡ false → call_format a time name ≡ refused 1
  unfolding call_format
  format-not e = rw e

  format-law : Ok (λ (b : List ℕ). call_inventory b room ≡ done []) (λ r. r ≡ 1) (call_format a time name)
  format-law =
      ⊎_elim
      (λ l. let x = format-goes l in is-done x.1 x.2)
      (λ e. subst (Ok (λ (b : List ℕ). call_inventory b room ≡ done []) (λ r. r ≡ 1)) (sym (format-not e)) (said refl))
      (bool_cases (legal a))

pub fresh-empty : FreshEmpty
unfolding FreshEmpty
fresh-empty a time name times long bytes b room e =
    ok-done (subst (Ok (λ (b : List ℕ). call_inventory b room ≡ done []) (λ r. r ≡ 1)) e (format-law a time name times (named-node name long bytes) room))
