-- Every earlier node's stored record is as it was, the parent's until its own store.
use mathlib.Core.Path.{sym}
use mathlib.Core.Logic.{◌⊎◌, inl, inr, ⊎_elim}
use Prim.Native.Nat.{ℕ, ◌+◌, ◌*◌, ◌≤◌, ◌<◌}
use native.Mathlib.Omega.{arith}
use Rattle.base.proofs.Lists.{tab-cong}
use Rattle.base.specs.Parts.{Outside}
use Rattle.structs.specs.Layout.{record_bytes}
use Rattle.files.specs.Read.{byte_at}
use Rattle.sefs.specs.Meta.{meta_file, map_at}
use Rattle.rules.specs.Image.{stored_bytes}
use Rattle.image.proofs.Stores.{node-apart}
use Rattle.cuts.specs.Creates.{new_parent, before_parent}
use Rattle.cuts.specs.Cuts.{OnlyTraces, KeepsRecords, KeepsParent}
use Rattle.cuts.proofs.Along.{is-stored, not-stored}
use Rattle.cuts.proofs.Facts.{node-zero, new-id}
use Rattle.cuts.proofs.SoFar.{only-traces, record-map, positive, apart-ids}

-- byte q of the len from p on is outside of the n from pos on, where the two do not overlap
clear : (pos n len q : ℕ) → q < len → (p : ℕ) → (p + len ≤ pos) ⊎ (pos + n ≤ p) → Outside (p + q) pos n
clear pos n len q l p o = ⊎_elim (λ w. inl (omega arith)) (λ w. inr (omega arith)) o

pub keeps-records : KeepsRecords
unfolding KeepsRecords OnlyTraces stored_bytes
keeps-records p c g B n b h id is d =
    let a = p.arena in
    let some = positive id (node-zero p B.passed id is) in
    tab-cong (byte_at b meta_file) (byte_at a meta_file) (128 * id) (128 * id) 112 (λ j l.
    (only-traces p c g B n b h).rest (128 * id + j)
    (inr (omega arith))
    (λ i _. clear (map_at i) 128 112 j l (128 * id) (record-map id i (node-apart a id is)))
    (clear (128 * c.id) 112 112 j l (128 * id) (apart-ids c.id id (new-id p c g B id is)))
    (clear (128 * c.up) 112 112 j l (128 * id) (apart-ids c.up id (λ e. d (sym e)))))

pub keeps-parent : KeepsParent
unfolding KeepsParent OnlyTraces
keeps-parent p c g B n b h =
    let u = (only-traces p c g B n b h).up in
    record {
      until = λ l. not-stored (stored_bytes p.arena c.up) (record_bytes (new_parent c)) (before_parent c) n u l;
      after = λ l. is-stored (stored_bytes p.arena c.up) (record_bytes (new_parent c)) (before_parent c) n u l;
    }
