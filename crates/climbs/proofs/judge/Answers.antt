-- `climbs::judge`: by the verdict.
use Rattle.climbs.proofs.Types.{typed-of, judge-allowed, judge-not-dir, judge-is-dir, judge-empty}
use Rattle.climbs.proofs.judge.Goals as goal

pub move_verdict-v-requires : goal.move_verdict-v-requires
move_verdict-v-requires c =
    let t = c.requires.whole.1.1.1 in record { le_moved = typed-of c.rec_at.ensures t.0; le_replaced = typed-of c.rec_at-2.ensures t.1 }

pub if_empty-requires : goal.if_empty-requires
if_empty-requires c = record { led = c.requires.led; whole = (c.requires.whole.0, c.requires.whole.1.1.0) }

pub returns-in-Allowed : goal.returns-in-Allowed
returns-in-Allowed c =
    judge-allowed _ _ c.args.c c.args.d _ _ c.rec_at.ensures c.rec_at-2.ensures _ c.move_verdict-v.ensures c.in-Allowed.is

pub returns-in-NotDir : goal.returns-in-NotDir
returns-in-NotDir c =
    judge-not-dir _ _ c.args.c c.args.d _ _ c.rec_at.ensures c.rec_at-2.ensures _ c.move_verdict-v.ensures c.in-NotDir.is

pub returns-in-IsDir : goal.returns-in-IsDir
returns-in-IsDir c =
    judge-is-dir _ _ c.args.c c.args.d _ _ c.rec_at.ensures c.rec_at-2.ensures _ c.move_verdict-v.ensures c.in-IsDir.is

pub returns-in-IfEmpty : goal.returns-in-IfEmpty
returns-in-IfEmpty c =
    judge-empty _ _ c.args.c c.args.d _ _ c.rec_at.ensures c.rec_at-2.ensures _ c.move_verdict-v.ensures c.in-IfEmpty.is c.if_empty.ensures
