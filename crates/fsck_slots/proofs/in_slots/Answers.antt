-- `fsck_slots::in_slots`: none of the slots passed has the name.
use mathlib.Core.Path.{sym, ◌∙◌}
use native.Mathlib.Omega.{arith}
use Rattle.fsck_slots.specs.Slots.{bears}
use Rattle.fsck_slots.proofs.Names.{hashed-less, found-one, found_none}
use Rattle.fsck_slots.proofs.in_slots.Goals as goal

pub has_name-requires : goal.has_name-requires
has_name-requires c = record { led = c.requires.led; j_bound = (omega (arith, c.requires.n_bound.0), (c.requires.n_bound.1.0, hashed-less c.args.arena.now c.args.rec c.args.hashes.now c.args.n c.loop-j.j (omega arith) c.requires.n_bound.1.1)) }

pub returns-then-has_name : goal.returns-then-has_name
returns-then-has_name c =
    found-one (bears c.args.arena.now c.args.rec c.args.name.now) c.args.n c.loop-j.j (omega arith) (sym c.has_name.ensures ∙ c.if-has_name.true)

pub returns : goal.returns
returns c =
    found_none (bears c.args.arena.now c.args.rec c.args.name.now) c.args.n c.loop-j.j (omega arith) c.loop-j.invariant
