-- `sound::unchain`: the first half is filled with zeros.
use mathlib.Core.Path.{◌≡◌, ◌∙◌}
use Prim.Native.Nat.{ℕ, ◌<◌}
use lib.ListN.{length, get_or, take, replicate, length-take, length-replicate, get_or-replicate}
use native.Mathlib.Omega.{arith}
use Rattle.std.proofs.Common.{rules}
use Rattle.std.proofs.lemmas.List.{get_or_append_left}
use Rattle.sound.proofs.unchain.Goals as goal

pub slice_bounds-fill-end-2 : goal.slice_bounds-fill-end-2
slice_bounds-fill-end-2 c = omega (arith, length-take 4096 c.args.chains.now)

pub returns : goal.returns
returns c = λ h l.
    let n : length (take 4096 c.args.chains.now) ≡ 4096 = omega (arith, length-take 4096 c.args.chains.now) in
    let e : c.fill.new.self ≡ replicate (length (take 4096 c.args.chains.now)) 0 = search rules in
    let lt : h < length (take 4096 c.args.chains.now) = omega arith in
    let is : get_or c.fill.new.self h 0 ≡ 0 = rw e (get_or-replicate _ h 0 0 lt) in
    let m : h < length c.fill.new.self = rw (e, length-replicate {A = ℕ} (length (take 4096 c.args.chains.now)) 0) lt in
    get_or_append_left _ _ 0 h m ∙ is
