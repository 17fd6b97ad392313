-- `mend_plan::has_room`: wanted blocks against free ones and those given back.
use mathlib.Core.Path.{◌≡◌, sym, ap, ◌∙◌, subst}
use native.Mathlib.Omega.{arith}
use borrow.Author.Tests.{le-leb}
use Rattle.arena.specs.Places.{free_count}
use Rattle.mending.specs.Room.{wanted_to, given_back_to, wanted, given_back}
use Rattle.mend_plan.specs.Plan.{Fated}
use Rattle.mend_plan.proofs.Records.{ids-most}
use Rattle.mend_plan.proofs.Rooms.{room-free, room_back}
use Rattle.mend_plan.proofs.has_room.Goals as goal
use Rattle.mend_plan.proofs.has_room.Goals.{After-wanted_by-lacking}

all : (c : After-wanted_by-lacking) → c.wanted_by-lacking.result ≡ wanted c.args.arena.now
all c =
    let a = c.args.arena.now in
    c.wanted_by-lacking.ensures a c.requires.0 (subst (Fated a c.args.work.now) (sym c.requires.1.0) c.requires.1.1.fated) c.requires.1.1.placed ∙ ap (wanted_to a) c.requires.1.0

pub wanted_by-lacking-requires : goal.wanted_by-lacking-requires
wanted_by-lacking-requires c = (omega (arith, c.requires.1.0, ids-most c.args.arena.now c.requires.0), (c.requires.1.1.fated.size, c.requires.1.1.placed.size))

pub returns-then-lacking-free : goal.returns-then-lacking-free
returns-then-lacking-free c =
    let a = c.args.arena.now in
    le-leb _ _ c.if-lacking-free.true ∙ room-free (wanted a) (free_count a) (given_back a) _ _ (all (goal.at.returns-then-lacking-free c).After-wanted_by-lacking) c.free_count-free.ensures c.if-lacking-free.true

pub given_back-requires : goal.given_back-requires
given_back-requires c = (c.requires.0, (omega (arith, c.requires.1.0), subst (Fated c.args.arena.now c.args.work.now) (sym c.requires.1.0) c.requires.1.1.fated))

pub returns-else-lacking-free : goal.returns-else-lacking-free
returns-else-lacking-free c =
    let a = c.args.arena.now in
    room_back (wanted a) (free_count a) (given_back a) _ _ _ (all (goal.at.returns-else-lacking-free c).After-wanted_by-lacking) c.free_count-free.ensures (c.given_back.ensures ∙ ap (given_back_to a) c.requires.1.0) c.if-lacking-free.false
