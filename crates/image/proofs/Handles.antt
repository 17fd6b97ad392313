-- What an image that is allowed gives to a call: it is admitted, and a live handle's row is a node's.
use mathlib.Core.Bool.{true}
use mathlib.Core.Path.{◌≡◌, refl, subst, ap, ◌∙◌}
use mathlib.Core.List.{List}
use Prim.Native.Nat.{ℕ, ◌≤◌}
use borrow.Author.Tests.{lt-ltb}
use Rattle.base.specs.Out.{done, Ok}
use Rattle.base.proofs.Bools.{and_both}
use Rattle.base.proofs.Outs.{ok-weaken}
use Rattle.base.proofs.Tests.{decides-leb}
use Rattle.base.proofs.Sames.{decided-yes}
use Rattle.structs.specs.Types.{is_folder, is_type}
use Rattle.structs.specs.declared.DiskINode.{DiskINode}
use Rattle.table.specs.declared.Table.{Table}
use Rattle.table.specs.declared.Handle.{Handle}
use Rattle.table.specs.Table.{row_at}
use Rattle.table_laws.specs.Rules.{WellFormed}
use Rattle.table_laws.proofs.Rules.{well-formed, row_is}
use Rattle.table_laws.proofs.Handles.{live-means, live-used}
use Rattle.sefs.specs.Ask.{admit_arena, admit, by_handle}
use Rattle.rules.specs.Image.{is_node, rec_by, rec_of, is_folder_at}
use Rattle.rules.specs.Rules.{Allowed}
use Rattle.sefs_laws.proofs.Clear.{Clear, clear}
use Rattle.sefs_laws.proofs.Handles.{Owns, handle-asks}
use Rattle.image.specs.Midway.{Used}

-- w is an owner, and the handle is live and his, on row i
pub record Reaches (t : Table) (w : ℕ) (h : Handle) (i : ℕ) : Type 0 where
  pub owns : Owns t w h i
  pub used : Used t i

module _ (a : List ℕ) (t : Table) (A : Allowed a t) where
  -- 1, 2, 3 can't come
  pub admitted : admit a t ≡ done tt
  unfolding admit admit_arena
  admitted = rw (A.rule1.length, A.rule1.sound, A.rule2.formed)

  pub formed : WellFormed t
  formed = (well-formed t).0 A.rule2.formed

  -- the asker is an owner and the handle is his, on a row in use, or the reason is 6 or 4
  pub handle-law : (w : ℕ) (h : Handle) → Ok (Reaches t w h) Clear (by_handle t w h)
  handle-law w h = ok-weaken (λ i o. reaches i o) (λ n r. r) (handle-asks (clear 6 refl) (clear 4 refl) t w h)
    where
      reaches : (i : ℕ) → Owns t w h i → Reaches t w h i
      reaches i o =
          let l = (live-means t w h i).0 o.live in
          record { owns = o; used = record { below = l.is_row; node = live-used t w h i formed l } }

  module _ (i : ℕ) (u : Used t i) where
    pub row-node : is_node a (row_at t i).id ≡ true
    row-node = A.rule4.node i u.below u.node

    pub row-rec : rec_of a t (row_at t i).id ≡ (row_at t i).rec
    unfolding rec_of
    row-rec = ap (rec_by a t (row_at t i).id) (row_is t formed i u.below u.node)

    pub row-least : 1 ≤ (row_at t i).rec.kind
    row-least = subst (λ (r : DiskINode). 1 ≤ r.kind) row-rec (A.rule5.least (row_at t i).id row-node)

    pub row-most : (row_at t i).rec.kind ≤ 4
    row-most = subst (λ (r : DiskINode). r.kind ≤ 4) row-rec (A.rule5.most (row_at t i).id row-node)

    pub row_type : is_type (row_at t i).rec.kind ≡ true
    row_type = and_both (lt-ltb 0 (row_at t i).rec.kind row-least) (decided-yes (decides-leb (row_at t i).rec.kind 4) row-most)

    pub row-folder : is_folder (row_at t i).rec.kind ≡ true → is_folder_at a t (row_at t i).id ≡ true
    unfolding is_folder_at
    row-folder e = and_both row-node (ap (λ (r : DiskINode). is_folder r.kind) row-rec ∙ e)
