-- `range_stores::move_block`: the part of block q, by room for 480 bytes.
use Prim.Native.Nat.{ℕ, ◌-◌}
use native.Mathlib.Omega.{arith}
use lib.ListN.{length, replicate}
use lib.Seq.{length-take-le}
use Rattle.arena.specs.Fields.{file}
use Rattle.range_stores.proofs.Runs.{part-fits, part-moves}
use Rattle.range_stores.proofs.move_block.Goals as goal

pub move_part-requires : goal.move_part-requires
move_part-requires c = record {
  first_bound = part-fits c.args.src c.args.dst c.args.n c.args.q _ _ _ (length c.args.source.now) c.requires.n_bound.0.0 c.requires.n_bound.0.1 c.requires.n_bound.1.1.1 c.requires.n_bound.1.0
      c.requires.n_bound.1.1.0 c.max-s.ensures c.min-e.ensures
      (length-take-le {A = ℕ} (c.min-e.result - c.max-s.result) (replicate 480 0)
      (omega (arith, c.min-e.ensures, c.max-s.ensures)));
  in_arena = c.requires.in_arena;
  found_value = c.requires.found_value;
}

pub returns : goal.returns
returns c = (
  part-moves c.args.arena.now (file 1 c.args.name.now) c.args.source.now c.args.src c.args.dst c.args.n c.args.q _ _ _ _
      c.max-s.ensures c.min-e.ensures
      (length-take-le {A = ℕ} (c.min-e.result - c.max-s.result)
      (replicate 480 0) (omega (arith, c.min-e.ensures, c.max-s.ensures)))
      c.move_part.ensures.0,
  c.move_part.ensures.1,
)
