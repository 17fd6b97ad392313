-- `calls_path::write_name`: a slash, and the name that stands in the lent slot from its fifth byte on.
use mathlib.Core.Path.{◌∙◌}
use Prim.Native.Nat.{◌+◌, ◌≤◌}
use native.Mathlib.Omega.{arith}
use lib.ListN.{length, set, length-set}
use Rattle.base.specs.Parts.{back}
use Rattle.calls_path.specs.Path.{one_name, NamesWritten}
use Rattle.calls_path.proofs.Names.{ok-zero, found, name-short, name-fits, name-written, written-length}
use Rattle.calls_path.proofs.write_name.Goals as goal
use Rattle.calls_path.proofs.write_name.Goals.{After-unwrap-n, After-copy}

-- the name is short, and there is room for it
short : (c : After-unwrap-n) → c.unwrap-n.result ≤ 255
short c =
    let s = c.args in
    let slot = c.name_in.new.slot in
    name-short s.arena.now s.rec s.x c.requires.slot_len.1 slot c.unwrap-n.result (c.name_in.auto.slot ∙ c.requires.slot_len.0) (rw c.unwrap-n.ensures at c.name_in.ensures)

fits : (c : After-unwrap-n) → c.args.at + 1 + c.unwrap-n.result ≤ length c.args.out.now
fits c =
    let s = c.args in
    let slot = c.name_in.new.slot in
    name-fits s.arena.now s.rec s.x c.requires.slot_len.1 slot c.unwrap-n.result (c.name_in.auto.slot ∙ c.requires.slot_len.0) (rw c.unwrap-n.ensures at c.name_in.ensures)

pub unwrap-n-requires : goal.unwrap-n-requires
unwrap-n-requires c =
    let s = c.args in
    ok-zero _ (found s.arena.now s.rec s.x c.requires.slot_len.1 c.name_in.new.slot _ (c.name_in.auto.slot ∙ c.requires.slot_len.0) c.name_in.ensures)

pub overflow_add-end : goal.overflow_add-end
overflow_add-end c = omega (arith, fits (goal.at.overflow_add-end c).After-unwrap-n)

pub overflow_add-end-2 : goal.overflow_add-end-2
overflow_add-end-2 c = omega (arith, fits (goal.at.overflow_add-end-2 c).After-unwrap-n)

pub bounds-out-at : goal.bounds-out-at
bounds-out-at c = omega (arith, fits (goal.at.bounds-out-at c).After-unwrap-n)

pub overflow_add-at : goal.overflow_add-at
overflow_add-at c = omega (arith, fits (goal.at.overflow_add-at c).After-unwrap-n)

pub slice_bounds-copy-end : goal.slice_bounds-copy-end
slice_bounds-copy-end c = simp length-set (omega (arith, fits (goal.at.slice_bounds-copy-end c).After-unwrap-n))

pub overflow_add-n : goal.overflow_add-n
overflow_add-n c = omega (arith, short (goal.at.overflow_add-n c).After-unwrap-n)

pub slice_bounds-copy-end-2 : goal.slice_bounds-copy-end-2
slice_bounds-copy-end-2 c = omega (arith, short (goal.at.slice_bounds-copy-end-2 c).After-unwrap-n, c.name_in.auto.slot, c.requires.slot_len.0)

written : (c : After-copy)
    → let s = c.args in
    let n = c.unwrap-n.result in
    NamesWritten (one_name s.arena.now s.rec s.x) s.at s.out.now (back (set s.out.now s.at 47) (s.at + 1) (s.at + 1 + n) c.copy.new.dst) (s.at + 1 + n)
written c =
    let s = c.args in
    let slot = c.name_in.new.slot in
    name-written s.arena.now s.rec s.x c.requires.slot_len.1 slot c.unwrap-n.result (c.name_in.auto.slot ∙ c.requires.slot_len.0) (rw c.unwrap-n.ensures at c.name_in.ensures) c.copy.new.dst c.copy.ensures

pub shape_of-out : goal.shape_of-out
shape_of-out c = written-length c.requires.slot_len.1 (written (goal.at.shape_of-out c).After-copy)

pub returns : goal.returns
returns c = written (goal.at.returns c).After-copy
