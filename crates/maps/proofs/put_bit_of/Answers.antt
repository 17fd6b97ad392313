-- `maps::put_bit_of`: the bit's old weight is taken off, and the new one put there.
use mathlib.Core.Path.{refl, ap, ◌∙◌}
use Rattle.base.specs.Count.{bit}
use Rattle.maps.specs.Maps.{put_bit}
use Rattle.maps.proofs.Bits.{Change, change}
use Prim.Native.Nat.{◌*◌, ◌^◌, ◌%◌}
use Rattle.maps.proofs.put_bit_of.Goals as goal
use Rattle.maps.proofs.put_bit_of.Goals.{After-one-new}

done :
    (c : After-one-new) →
    Change c.args.x (1 * 2 ^ c.args.k % 256) c.one-old.result c.one-new.result (put_bit c.args.x c.args.k c.args.b)
done c =
    change c.args.x c.args.k _ _ _ c.args.b c.requires c.ranges.x.fits refl (c.one-old.ensures ∙ ap bit c.bit_of.ensures) c.one-new.ensures

pub overflow_mul-result : goal.overflow_mul-result
overflow_mul-result c = record { fits = (done c).old-fits }

pub overflow_sub-result : goal.overflow_sub-result
overflow_sub-result c = (done c).old-there

pub overflow_mul-result-2 : goal.overflow_mul-result-2
overflow_mul-result-2 c = record { fits = (done c).new-fits }

pub overflow_add-result : goal.overflow_add-result
overflow_add-result c = record { fits = (done c).fits }

pub returns : goal.returns
returns c = (done c).is
