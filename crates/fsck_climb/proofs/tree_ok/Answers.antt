-- `fsck_climb::tree_ok`: the second half holds what slot 1 of each folder names; the first is as it was.
use mathlib.Core.Path.{sym, ap, subst, ◌∙◌}
use mathlib.Core.List.{List}
use Prim.Native.Nat.{ℕ}
use native.Mathlib.Omega.{arith}
use lib.ListN.{length}
use Rattle.base.proofs.Lists.{length_part}
use Rattle.mem.specs.Mem.{table_in}
use Rattle.fsck_links.specs.Counts.{Counted}
use Rattle.fsck_links.proofs.Halves.{low-high, high-high}
use Rattle.fsck_climb.proofs.Trees.{ids-of}
use Rattle.fsck_climb.proofs.tree_ok.Goals as goal

pub slice_bounds-tree_by-end : goal.slice_bounds-tree_by-end
slice_bounds-tree_by-end c =
    let half = (ids-of c.args.arena.now (table_in c.args.mem.now) c.find_parents.new.parents c.find_parents.ensures).size in
    let size = c.requires.work_len.0 in
    sym (ap (λ (l : List ℕ). length l) (low-high c.args.work.now c.find_parents.new.parents size half) ∙ length_part c.args.work.now 0 4096 (omega arith) (omega (arith, size)))

pub tree_by-requires : goal.tree_by-requires
tree_by-requires c =
    let a = c.args.arena.now in
    let t = table_in c.args.mem.now in
    let h = c.find_parents.new.parents in
    let half = (ids-of a t h c.find_parents.ensures).size in
    let w = c.args.work.now in
    let size = c.requires.work_len.0 in
    let before = c.requires.work_len.1 in record { led = c.requires.led; loaded = c.requires.loaded; named = (before.0, subst (λ (l : List ℕ). Counted a t l) (sym (low-high w h size half)) before.1); parents_value = high-high w h size half ∙ c.find_parents.ensures }

pub returns : goal.returns
returns c =
    let half = (ids-of c.args.arena.now (table_in c.args.mem.now) c.find_parents.new.parents c.find_parents.ensures).size in record { value = c.tree_by.ensures; work_unchanged = low-high c.args.work.now c.find_parents.new.parents c.requires.work_len.0 half }
