-- `mend_stores::read_place`: the bytes of the block at its place.
use mathlib.Core.Path.{◌∙◌}
use lib.ListN.{length}
use Rattle.sefs.specs.Meta.{meta_file}
use Rattle.plans.proofs.Payloads.{place-lies, payload-run}
use Rattle.mend_stores.proofs.Puts.{found-is}
use Rattle.mend_stores.proofs.read_place.Goals as goal

pub read_block-requires : goal.read_block-requires
read_block-requires c =
    (place-lies c.args.arena.now meta_file c.args.q c.from.result (found-is c.args.arena.now c.args.places.now c.args.q c.from.result c.requires.placed.0 c.requires.placed.1 c.from.ensures), c.requires.out_bound)

pub returns : goal.returns
returns c =
    c.read_block.ensures ∙ payload-run c.args.arena.now meta_file c.args.q c.from.result (found-is c.args.arena.now c.args.places.now c.args.q c.from.result c.requires.placed.0 c.requires.placed.1 c.from.ensures) c.args.off (length c.args.out.now) c.requires.out_bound
