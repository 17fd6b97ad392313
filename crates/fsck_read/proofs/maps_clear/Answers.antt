-- `fsck_read::maps_clear`: group after group.
use Rattle.std.proofs.Common.{◌≡◌, ap, refl, ◌∙◌, arith, rules, tests}
use Prim.Native.Nat.{◌/◌, ◌+◌, ◌*◌}
use mathlib.Core.Bool.{not}
use Rattle.maps.specs.Maps.{bit_at}
use Rattle.mem.specs.Mem.{maps_in, super_in}
use Rattle.base.specs.Count.{all_to}
use Rattle.fsck_read.specs.Loaded.{maps_clear}
use Rattle.fsck_read.proofs.Ranges.{all-below}
use Rattle.fsck_read.proofs.maps_clear.Goals as goal

pub returns : goal.returns
unfolding maps_clear
returns c =
    all-below (λ g. not (bit_at (maps_in c.args.mem.now) (1024 * g + 1))) (c.ids.result / 1024) _ _ _ _ c.all.ensures.ran refl (λ x q k. search (rules, tests)) (λ x q k. search (rules, tests))
    ∙ ap (all_to (λ g. not (bit_at (maps_in c.args.mem.now) (1024 * g + 1)))) (let n : c.ids.result / 1024 ≡ (super_in c.args.mem.now).groups = omega (arith, c.ids.ensures.value.0) in n)
