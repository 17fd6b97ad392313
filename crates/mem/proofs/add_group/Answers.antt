-- `mem::add_group`: the new map behind the others, then the superblock.
use mathlib.Core.Path.{◌≡◌, refl, ap, ◌∙◌}
use Prim.Native.Nat.{ℕ, ◌+◌, ◌*◌}
use native.Mathlib.Omega.{arith}
use Rattle.std.proofs.Common.{rules}
use Rattle.structs.specs.declared.SuperBlock.{SuperBlock}
use Rattle.mem.specs.Mem.{super_in}
use Rattle.mem.proofs.Mems.{group-stored}
use Rattle.mem.proofs.add_group.Goals as goal

pub slice_bounds-put_map-end : goal.slice_bounds-put_map-end
slice_bounds-put_map-end c =
    omega (arith, c.index.ensures, ap (λ (b : SuperBlock). b.groups) c.super_at-sb.ensures, c.requires.whole.0.size, c.requires.mem_bound.0)

pub overflow_add-sb : goal.overflow_add-sb
overflow_add-sb c = omega (arith, ap (λ (b : SuperBlock). b.blocks) c.super_at-sb.ensures, c.requires.mem_bound.1.0)

pub overflow_add-sb-2 : goal.overflow_add-sb-2
overflow_add-sb-2 c = omega (arith, ap (λ (b : SuperBlock). b.unused) c.super_at-sb.ensures, c.requires.mem_bound.1.1)

pub overflow_add-sb-3 : goal.overflow_add-sb-3
overflow_add-sb-3 c = omega (arith, ap (λ (b : SuperBlock). b.groups) c.super_at-sb.ensures, c.requires.mem_bound.0)

pub returns : goal.returns
returns c =
    let m = c.args.mem.now in
    let e : c.index.result ≡ (super_in m).groups = c.index.ensures ∙ ap (λ (b : SuperBlock). b.groups) c.super_at-sb.ensures in
    group-stored m _ _ _ _ _ c.requires.whole.0 (λ j. search rules) c.requires.whole.1 c.requires.mem_bound.0 c.requires.mem_bound.1.0 c.requires.mem_bound.1.1 refl c.super_at-sb.ensures (ap (λ (n : ℕ). 4419 + 128 * n) e) c.put_map.ensures c.put_super_block.ensures
