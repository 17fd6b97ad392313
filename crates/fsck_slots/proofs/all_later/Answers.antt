-- `fsck_slots::all_later`: the slots passed are as they must be, and their hashes are kept.
use mathlib.Core.Path.{sym, ◌∙◌}
use native.Mathlib.Omega.{arith}
use borrow.Author.Count.{below_none, below_more}
use Rattle.base.proofs.Counts.{all_to-all, all_to-false}
use Rattle.mem.specs.Mem.{table_in}
use Rattle.fsck_slots.specs.Slots.{slot_allowed}
use Rattle.fsck_slots.proofs.Names.{hashed-none}
use Rattle.fsck_slots.proofs.all_later.Goals as goal

pub loop-j-init : goal.loop-j-init
loop-j-init c = (hashed-none c.args.arena.now c.args.rec c.args.hashes.now c.requires.n_bound.1, below_none _)

pub returns-then-not-later_ok : goal.returns-then-not-later_ok
returns-then-not-later_ok c =
    sym (all_to-false (slot_allowed c.args.arena.now (table_in c.args.mem.now) c.args.rec) c.args.n c.loop-j.j (omega arith) (sym c.later_ok.ensures.value ∙ c.if-not-later_ok.true))

pub loop-j-preserved : goal.loop-j-preserved
loop-j-preserved c =
    let y = c.if-not-later_ok.false in
    (c.later_ok.ensures.hashed y, below_more _ _ c.loop-j.invariant.1 (sym c.later_ok.ensures.value ∙ y))

pub returns : goal.returns
returns c =
    sym (all_to-all (slot_allowed c.args.arena.now (table_in c.args.mem.now) c.args.rec) c.args.n (λ k h. c.loop-j.invariant.1 k (omega arith)))
