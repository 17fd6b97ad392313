-- `mem::first_bit`: the lowest bit of the groups' bytes.
use mathlib.Core.Path.{◌≡◌, ap, ◌∙◌}
use Prim.Native.Nat.{ℕ, ◌*◌}
use native.Mathlib.Omega.{arith}
use Rattle.base.specs.Search.{lowest, found_below}
use Rattle.base.proofs.Lists.{length_part}
use Rattle.base.proofs.Searches.{lowest-cong}
use Rattle.base.specs.Parts.{part}
use Rattle.maps.specs.Maps.{bit_at}
use Rattle.structs.specs.declared.SuperBlock.{SuperBlock}
use Rattle.mem.specs.Mem.{super_in, maps_in, memory_size}
use Rattle.mem.proofs.Mems.{bit_in}
use Rattle.mem.proofs.first_bit.Goals as goal

pub lowest_set-requires : goal.lowest_set-requires
lowest_set-requires c =
    let m = c.args.mem.now in
    let W = c.requires.0 in
    let e : c.index.result ≡ (super_in m).groups = c.index.ensures ∙ ap (λ (b : SuperBlock). b.groups) c.super_at-groups.ensures in
    let few = W.few c.requires.1 in
    (omega (arith, e), omega (arith, e, W.size, length_part m 4419 memory_size (omega arith) (omega (arith, W.size))))

pub returns : goal.returns
unfolding maps_in
returns c =
    let m = c.args.mem.now in
    let g = (super_in m).groups in
    let e : c.index.result ≡ g = c.index.ensures ∙ ap (λ (b : SuperBlock). b.groups) c.super_at-groups.ensures in
    c.lowest_set.ensures
    ∙ ap (λ (n : ℕ). found_below (lowest (bit_at (part m 4419 memory_size)) (1024 * n)) (1024 * n)) e
    ∙ ap (λ (n : ℕ). found_below n (1024 * g)) (lowest-cong _ _ (1024 * g) (λ j l. bit_in m g j (c.requires.0.few c.requires.1) l))
