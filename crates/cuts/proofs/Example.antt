-- There is a create to cut: of a file `a` in the fresh image of 16 blocks, whose root is open.
use mathlib.Core.Path.{◌≡◌, refl, sym, ap, subst}
use mathlib.Core.List.{[], ◌∷◌}
use mathlib.Core.Logic.{⊎_elim}
use Prim.Native.Nat.{ℕ, zero, suc, ◌<◌}
use native.Mathlib.Omega.{arith}
use lib.ListN.{replicate, get_or-replicate, length-replicate, get_or-eq_default}
use Rattle.base.specs.Out.{Out, done, bind, kept}
use Rattle.base.proofs.Numbers.{lt-or-le}
use Rattle.le.specs.Le.{Bytes}
use Rattle.structs.specs.Constants.{type_file}
use Rattle.table.specs.declared.Added.{Added}
use Rattle.table.specs.declared.Row.{Row}
use Rattle.table.specs.Table.{empty_table, off_row}
use Rattle.table.specs.Zero.{zero_row}
use Rattle.table_bytes.proofs.Empty.{zero-fits}
use Rattle.image.proofs.Zeros.{zero-bytes}
use Rattle.sefs.specs.Create.{Given, call_create}
use Rattle.sequences.specs.Pairs.{pair, Passed}
use Rattle.sequences.specs.Calls.{root, does}
use Rattle.sequences.specs.Promises.{Fresh, Keeps}
use Rattle.sequences.proofs.Fresh.{fresh}
use Rattle.sequences.proofs.Sequences.{keeps}
use Rattle.course_states.specs.Worlds.{epoch, uuid, editor, made}
use Rattle.course_states.specs.Worlds as worlds
use Rattle.course_states.proofs.States.{rows_of, handle, root_table, fresh_arena, fresh_world, a_world}
use Rattle.course_states.proofs.Steps.{fresh-is, root_is, a-made}
use Rattle.cuts.specs.Creates.{Birth}
use Rattle.cuts.specs.Premise.{Creation, NoneDirty, EveryCreate}
use Rattle.cuts.proofs.Orders.{every-create}

equal-bytes : (n : ℕ) → n < 256 → Bytes (replicate 16 n)
equal-bytes n l i =
    ⊎_elim
    (λ h. subst (λ (x : ℕ). x < 256) (sym (get_or-replicate 16 i n 0 h)) l)
    (λ h. subst (λ (x : ℕ). x < 256) (sym (get_or-eq_default (replicate 16 n) 0 h)) (omega arith))
    (lt-or-le i 16)

fresh-passed : Passed (pair fresh_arena empty_table)
unfolding Fresh worlds.fresh
fresh-passed =
    fresh (replicate 8192 0) epoch (uuid 1) (zero-bytes 8192) zero-fits.atime (length-replicate {A = ℕ} 16 1) (equal-bytes 1 (omega arith))
    fresh_arena fresh-is

root-passed : Passed (pair fresh_arena root_table)
unfolding Keeps does
root-passed =
    subst (λ (o : Out Added). Passed (kept (pair fresh_arena empty_table) (bind o (λ x. done (pair fresh_arena x.table))))) root_is
    (keeps (pair fresh_arena empty_table) (root editor) fresh-passed (omega arith)).passes

root-synced : NoneDirty root_table
unfolding root_table rows_of
root-synced zero l = refl
root-synced (suc i) l = ap (λ (r : Row). r.dirty) (get_or-replicate 33 i zero_row off_row (omega arith))

abbrev given : Given
given = record { arena = a_world.arena; table = a_world.table; handle = handle 1 2 }

a-created : call_create fresh_arena root_table editor (handle 0 1) (97 ∷ []) type_file 420 epoch (uuid 2) ≡ done given
unfolding made fresh_world
a-created = a-made

pub some-creation : (c : Birth) × Creation (pair fresh_arena root_table) c given
unfolding EveryCreate
some-creation =
    let x = every-create (pair fresh_arena root_table) root-passed root-synced editor (handle 0 1) (97 ∷ []) type_file 420 epoch (uuid 2) (
      omega arith,
      record { hold = omega arith; stamp = omega arith },
      one,
      record { kind = omega arith; mode = omega arith; time = zero-fits.atime; file = length-replicate {A = ℕ} 16 2; bytes = equal-bytes 2 (omega arith) },
    )
    given a-created in
    (x.0, x.1)
  where
    one : Bytes (97 ∷ [])
    one zero = omega arith
    one (suc i) = omega arith
