-- `calls_read::read_bytes`: the file's end decides, then its bytes.
use mathlib.Core.Path.{sym}
use native.Mathlib.Omega.{arith}
use lib.Seq.{length-take-le}
use Rattle.sefs.specs.Nodes.{node_file}
use Rattle.calls_read.proofs.Bytes.{bytes-missing, end-length, bytes-laid}
use Rattle.calls_read.proofs.read_bytes.Goals as goal

pub returns-then-end-eq0 : goal.returns-then-end-eq0
returns-then-end-eq0 c =
    bytes-missing c.args.arena.now (node_file c.args.rec) _ c.length_of-end.ensures.0 c.args.place c.args.n _ c.if-end-eq0.true

pub slice_bounds-fill-end-2 : goal.slice_bounds-fill-end-2
slice_bounds-fill-end-2 c = sym (length-take-le c.args.n c.args.out.now c.requires.n_in_bounds)

pub fill-requires : goal.fill-requires
fill-requires c =
    let e = c.length_of-end.ensures in record { led = c.requires.led; len_value = (end-length c.args.arena.now (node_file c.args.rec) _ e.0 c.args.place c.args.n c.if-end-eq0.false, omega (arith, e.1)) }

pub returns : goal.returns
returns c =
    bytes-laid c.args.arena.now (node_file c.args.rec) _ c.length_of-end.ensures.0 c.args.place c.args.n c.args.out.now _ c.if-end-eq0.false
    (rw (length-take-le c.args.n c.args.out.now c.requires.n_in_bounds) at c.fill.ensures)
