-- `calls_walk::turn`: by the way along what is left of the text.
use Rattle.calls_walk.proofs.Runs.{turn-refused, turn-meets, turn-resumes}
use Rattle.calls_walk.proofs.Buffers.{length-read}
use Rattle.mem.specs.State.{fs_at}
use native.Mathlib.Omega.{arith}
use mathlib.Core.Path.{sym}
use Rattle.calls_walk.proofs.turn.Goals as goal

pub slice_bounds-rest-end-2 : goal.slice_bounds-rest-end-2
slice_bounds-rest-end-2 c = sym (length-read c.args.links.now c.args.g.used c.requires.stands.0.read)

pub returns-in-Err : goal.returns-in-Err
returns-in-Err c = turn-refused (fs_at c.args.arena.now c.args.mem.now) c.args.path.now c.args.links.now c.args.marks.now c.args.g c.requires.stands.0 c.requires.stands.1 _ c.rest-text.ensures c.in-Err.reason c.in-Err.ensures.0 c.stopped.ensures

pub follow-requires : goal.follow-requires
follow-requires c = record { admitted = c.requires.admitted; stands = (c.requires.stands.0, turn-meets (fs_at c.args.arena.now c.args.mem.now) c.args.path.now c.args.links.now c.args.marks.now c.args.g c.requires.stands.0 c.requires.stands.1 _ c.rest-text.ensures c.in-Ok.p c.in-Ok.ensures.0 c.if-p.true c.in-Ok.ensures.1) }

pub resume-requires : goal.resume-requires
resume-requires c = (c.requires.stands.0.size, omega (arith, c.requires.stands.0.few))

pub returns : goal.returns
returns c = turn-resumes (fs_at c.args.arena.now c.args.mem.now) c.args.path.now c.args.links.now c.args.marks.now c.args.g c.requires.stands.0 c.requires.stands.1 _ c.rest-text.ensures c.in-Ok.p c.in-Ok.ensures.0 c.if-p.false c.resume.ensures
