-- `mend_plan::plan_mending`: the tests leave what the plan begins with.
use mathlib.Core.Path.{◌≡◌, sym, ◌∙◌}
use mathlib.Core.Bool.{true}
use borrow.Author.Tests.{leb-true, leb-false}
use Rattle.arena.specs.Places.{free_count}
use Prim.Native.Nat.{◌+◌}
use Rattle.fsck_read.specs.Loaded.{Loaded, Of}
use Rattle.mending.specs.Mendable.{mendable}
use Rattle.mending.specs.Room.{wanted, given_back}
use Rattle.mend_plan.specs.Plan.{Ready, can, unfit, full}
use Rattle.mend_plan.proofs.Fates.{fated-first}
use Rattle.mend_plan.proofs.plan_mending.Goals as goal
use Rattle.mend_plan.proofs.plan_mending.Goals.{After-ids-n}

-- ---- what is known in the end
fit : (c : After-ids-n) → mendable c.args.arena.now ≡ true
fit c = sym c.can_mend.ensures.value ∙ c.if-not-can_mend.false

loaded : (c : After-ids-n) → Loaded c.can_mend.new.mem × Of c.args.arena.now c.can_mend.new.mem
loaded c = (c.can_mend.ensures.loaded c.if-not-can_mend.false).0

ready : (c : After-ids-n) → Ready c.args.arena.now c.plan_ids.new.work c.find_places.new.places
ready c = record { fated = c.plan_ids.ensures; placed = c.find_places.ensures }

-- ---- the needs
pub can_mend-requires : goal.can_mend-requires
can_mend-requires c = record { led = c.requires.led; mem_len = (c.requires.mem_len.0, (c.requires.mem_len.1, c.requires.work_len.0)) }

pub returns-then-not-can_mend : goal.returns-then-not-can_mend
returns-then-not-can_mend c = unfit (sym c.can_mend.ensures.value ∙ c.if-not-can_mend.true)

pub plan_ids-requires : goal.plan_ids-requires
plan_ids-requires c =
    let e = c.if-not-can_mend.false in
    let k = c.can_mend.ensures.loaded e in record { led = c.requires.led; loaded = (k.0, k.1.0); arena_value = (sym c.can_mend.ensures.value ∙ e, fated-first c.args.arena.now c.can_mend.new.work (c.can_mend.auto.work ∙ c.requires.work_len.0) k.1.1) }

pub find_places-requires : goal.find_places-requires
find_places-requires c = record { led = c.requires.led; places_len = c.requires.work_len.1 }

pub ids-n-requires : goal.ids-n-requires
ids-n-requires c = (c.can_mend.ensures.loaded c.if-not-can_mend.false).0.0

pub has_room-requires : goal.has_room-requires
has_room-requires c = (fit (goal.at.has_room-requires c).After-ids-n, (c.ids-n.ensures.by_index c.args.arena.now (loaded (goal.at.has_room-requires c).After-ids-n).1, ready (goal.at.has_room-requires c).After-ids-n))

pub returns-then-has_room : goal.returns-then-has_room
returns-then-has_room c =
    let a = c.args.arena.now in
    can (fit (goal.at.returns-then-has_room c).After-ids-n) (leb-true (wanted a) (free_count a + given_back a) (sym c.has_room.ensures ∙ c.if-has_room.true)) (loaded (goal.at.returns-then-has_room c).After-ids-n, ready (goal.at.returns-then-has_room c).After-ids-n)

pub returns : goal.returns
returns c =
    let a = c.args.arena.now in
    full (fit (goal.at.returns c).After-ids-n) (leb-false (wanted a) (free_count a + given_back a) (sym c.has_room.ensures ∙ c.if-has_room.false))
