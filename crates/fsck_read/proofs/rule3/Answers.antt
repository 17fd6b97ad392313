-- `fsck_read::rule3`: the superblock's groups are 1 to 4 when the maps are read.
use mathlib.Core.Path.{sym, ◌∙◌}
use mathlib.Core.Bool.{true≢false}
use Prim.Native.Nat.{◌≤◌}
use native.Mathlib.Omega.{arith}
use Rattle.base.proofs.Lists.{length_part}
use Rattle.fsck_read.proofs.Loads.{super-says, three-short, three-super, three-count, three-given}
use Rattle.mem.specs.Mem.{memory_size}
use Rattle.fsck_read.proofs.rule3.Goals as goal

pub returns-then-n-lt17 : goal.returns-then-n-lt17
returns-then-n-lt17 c = record { value = three-short c.args.arena.now c.length_of-n.result c.length_of-n.ensures.0 c.if-n-lt17.true; loaded = λ e. absurd (true≢false (sym e)) }

pub returns-then-not-super_ok : goal.returns-then-not-super_ok
returns-then-not-super_ok c = record { value = three-super c.args.arena.now c.length_of-n.result c.length_of-n.ensures.0 c.read_super-b.result c.read_super-b.ensures (sym c.super_ok.ensures ∙ c.if-not-super_ok.true); loaded = λ e. absurd (true≢false (sym e)) }

pub load_maps-requires : goal.load_maps-requires
load_maps-requires c =
    let o = super-says _ _ (sym c.super_ok.ensures ∙ c.if-not-super_ok.false) in record { led = c.requires.led; mem_len = (c.requires.mem_len, omega (arith, o.1.0, c.index.ensures)) }

pub put_super-requires : goal.put_super-requires
put_super-requires c =
    let o = super-says _ _ (sym c.super_ok.ensures ∙ c.if-not-super_ok.false) in
    (c.load_maps.ensures.size, (o.0, o.1.0))

pub count_set-requires : goal.count_set-requires
count_set-requires c =
    let m = c.put_super.new.mem in
    let o = super-says _ _ (sym c.super_ok.ensures ∙ c.if-not-super_ok.false) in
    (omega (arith, o.1.0, c.index-2.ensures), omega (arith, o.1.0, c.index-2.ensures, length_part m 4419 memory_size (omega arith) (omega (arith, c.put_super.ensures.loaded.whole.size))))

pub returns : goal.returns
returns c =
    let f = sym c.super_ok.ensures ∙ c.if-not-super_ok.false in
    let o = super-says _ _ f in
    let few : c.index.result ≤ 4 = omega (arith, o.1.0, c.index.ensures) in
    let M = c.load_maps.ensures in record { value = three-count c.args.arena.now c.length_of-n.result c.length_of-n.ensures.0 c.read_super-b.result c.read_super-b.ensures c.index.result c.index.ensures c.args.mem.now _ _ M c.put_super.ensures few c.count_set.result c.index-2.result f (c.index-2.ensures ∙ sym c.index.ensures) c.count_set.ensures; loaded = λ _. three-given c.args.arena.now c.length_of-n.result c.length_of-n.ensures.0 c.read_super-b.result c.read_super-b.ensures c.index.result c.index.ensures c.args.mem.now _ _ M c.put_super.ensures few }
