-- `mend_stores::free_node`: the bit in memory, and the file by the name in its head.
use mathlib.Core.Path.{ap, ◌∙◌, subst}
use mathlib.Core.Bool.{true}
use mathlib.Core.List.{List}
use Prim.Native.Nat.{ℕ, ◌+◌}
use native.Mathlib.Omega.{arith}
use Rattle.structs.specs.declared.SuperBlock.{SuperBlock}
use Rattle.maps.specs.Maps.{with_bit}
use Rattle.arena.specs.Fields.{file}
use Rattle.files.specs.Store.{is_of, clear_all}
use Rattle.sefs.specs.Meta.{super_with}
use Rattle.mem.specs.Mem.{super_in, maps_in, Mapped}
use Rattle.mend_stores.proofs.Bytes.{name-read}
use Rattle.mend_stores.proofs.free_node.Goals as goal

pub overflow_add-unused : goal.overflow_add-unused
overflow_add-unused c =
    omega (arith, ap (λ (b : SuperBlock). b.unused) c.super_at-unused.ensures, c.requires.id_bound.1)

pub returns : goal.returns
returns c =
    let m = c.args.mem.now in record { arena_after = c.drop_file.ensures ∙ ap (λ (x : List ℕ). clear_all (is_of (file 1 x)) c.args.arena.now) (c.copy.ensures ∙ name-read c.args.arena.now c.args.k); mapped = subst (λ (x : ℕ). Mapped m c.put_bit.new.mem (record { super = super_with (super_in m) (super_in m).blocks x (super_in m).groups; maps = with_bit (maps_in m) c.args.id true })) (ap (λ (b : SuperBlock). b.unused + 1) c.super_at-unused.ensures) c.put_bit.ensures }
