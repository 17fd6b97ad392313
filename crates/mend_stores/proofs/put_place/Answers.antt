-- `mend_stores::put_place`: the block is written, and its place is what it was or the free block's.
use mathlib.Core.Path.{◌≡◌}
use Prim.Native.Nat.{◌<◌}
use native.Mathlib.Omega.{arith}
use Rattle.mend_stores.proofs.Puts.{found-is, place-laid, place-old, place-new}
use Rattle.mend_stores.proofs.put_place.Goals as goal
use Rattle.mend_stores.proofs.put_place.Goals.{Else-found-gt0}

-- a new block's place fits a place
new-few : (c : Else-found-gt0) → c.put_block-k.result < 4096
new-few c =
    let z : c.from-found.result ≡ 0 = omega (arith, c.if-found-gt0.false) in
    let is = found-is c.args.arena.now c.args.places.now c.args.q c.from-found.result c.requires.placed.0.0 c.requires.placed.0.1 c.from-found.ensures in
    omega (arith, c.put_block-k.ensures.1.1 z, c.requires.from_bound.1 (omega (arith, is, z)), c.requires.placed.1.1)

pub put_block-k-requires : goal.put_block-k-requires
put_block-k-requires c =
    let is = found-is c.args.arena.now c.args.places.now c.args.q c.from-found.result c.requires.placed.0.0 c.requires.placed.0.1 c.from-found.ensures in record { src_bound = c.requires.src_bound; found_value = (is, (c.requires.from_bound.0, λ z. c.requires.from_bound.1 (omega (arith, is, z)))) }

pub returns-then-found-gt0 : goal.returns-then-found-gt0
returns-then-found-gt0 c =
    let a = c.args.arena.now in record {
      q_value = (c.put_block-k.ensures.0, c.put_block-k.ensures.1.0);
      placed_2 = (
        place-old a c.args.places.now c.args.q c.from-found.result c.requires.placed.0.0 c.requires.placed.0.1 c.from-found.ensures c.args.pos c.args.src.now c.requires.placed.1.0 c.requires.src_bound.0 c.requires.src_bound.1.0 c.requires.src_bound.1.1 c.requires.from_bound.1 _ c.put_block-k.ensures.0 c.if-found-gt0.true,
        (place-laid a c.args.places.now c.args.q c.from-found.result c.requires.placed.0.0 c.requires.placed.0.1 c.from-found.ensures c.args.pos c.args.src.now c.requires.placed.1.0 c.requires.src_bound.0 c.requires.src_bound.1.0 c.requires.src_bound.1.1 c.requires.from_bound.1 _ c.put_block-k.ensures.0).heads,
      );
    }

pub overflow_add-places : goal.overflow_add-places
overflow_add-places c = omega (arith, new-few (goal.at.overflow_add-places c).Else-found-gt0)

pub overflow_cast-places : goal.overflow_cast-places
overflow_cast-places c = omega (arith, new-few (goal.at.overflow_cast-places c).Else-found-gt0)

pub returns : goal.returns
returns c =
    let a = c.args.arena.now in
    let z : c.from-found.result ≡ 0 = omega (arith, c.if-found-gt0.false) in record {
      q_value = (c.put_block-k.ensures.0, c.put_block-k.ensures.1.0);
      placed_2 = (
        place-new a c.args.places.now c.args.q c.from-found.result c.requires.placed.0.0 c.requires.placed.0.1 c.from-found.ensures c.args.pos c.args.src.now c.requires.placed.1.0 c.requires.src_bound.0 c.requires.src_bound.1.0 c.requires.src_bound.1.1 c.requires.from_bound.1 _ c.put_block-k.ensures.0 _ z (c.put_block-k.ensures.1.1 z),
        (place-laid a c.args.places.now c.args.q c.from-found.result c.requires.placed.0.0 c.requires.placed.0.1 c.from-found.ensures c.args.pos c.args.src.now c.requires.placed.1.0 c.requires.src_bound.0 c.requires.src_bound.1.0 c.requires.src_bound.1.1 c.requires.from_bound.1 _ c.put_block-k.ensures.0).heads,
      );
    }
