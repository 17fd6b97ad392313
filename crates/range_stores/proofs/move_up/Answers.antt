-- `range_stores::move_up`: the length, the blocks, and one write over them.
use native.Mathlib.Omega.{arith}
use Rattle.le.specs.Le.{Bytes}
use Rattle.arena.specs.Fields.{file}
use Rattle.files_laws.proofs.Views.{there-at}
use Rattle.std.proofs.Common.{rules}
use Rattle.range_stores.proofs.Ups.{up-makable, up-made, up-fillable, up-whole, up-places}
use Rattle.range_stores.proofs.move_up.Goals as goal

pub raise-requires : goal.raise-requires
raise-requires c = omega (arith, there-at c.args.arena.now (file 1 c.args.name.now) c.requires.0.exists, c.requires.0.head)

pub make_blocks-requires : goal.make_blocks-requires
make_blocks-requires c =
    up-makable c.requires.0 c.requires.1 (λ j. search rules) _ c.raise.ensures

pub fill_down-requires : goal.fill_down-requires
fill_down-requires c =
    let bytes : Bytes c.args.arena.now =
    λ j. search rules in
    let made = up-made c.requires.0 c.requires.1 bytes _ _ c.raise.ensures c.make_blocks.ensures.0 in
    up-fillable c.requires.0 c.requires.1 bytes made c.make_blocks.new.plan c.make_blocks.auto.plan c.make_blocks.ensures.1

pub returns : goal.returns
returns c =
    let bytes : Bytes c.args.arena.now =
    λ j. search rules in
    let made = up-made c.requires.0 c.requires.1 bytes _ _ c.raise.ensures c.make_blocks.ensures.0 in record { n_value = up-whole c.requires.0 c.requires.1 bytes made _ c.fill_down.ensures; places = up-places c.requires.0 c.requires.1 bytes made c.make_blocks.new.plan _ c.make_blocks.ensures.1 c.fill_down.ensures }
