-- `fsck::judge_links`: rules 7 and 8, then the counts.
use mathlib.Core.Path.{sym, ap, subst, ◌∙◌}
use mathlib.Core.List.{List}
use Prim.Native.Nat.{ℕ}
use native.Mathlib.Omega.{arith}
use lib.ListN.{length}
use Rattle.base.proofs.Lists.{length_part}
use Rattle.mem.specs.Mem.{table_in}
use Rattle.fsck_links.specs.Counts.{Counted}
use Rattle.fsck_links.proofs.Halves.{low-size, low-low}
use Rattle.fsck.proofs.Tree.{seven-named, rooted-eight}
use Rattle.fsck.proofs.Verdicts.{six-first, links-seven, links-eight, links-pass}
use Rattle.fsck.proofs.judge_links.Goals as goal

pub slice_bounds-count_names-end-2 : goal.slice_bounds-count_names-end-2
slice_bounds-count_names-end-2 c =
    sym (length_part c.args.work.now 0 4096 (omega arith) (omega (arith, c.requires.loaded.1)))

pub count_names-requires : goal.count_names-requires
count_names-requires c =
    let size = c.requires.loaded.1 in
    let before = c.requires.mem_value in record { led = c.requires.led; loaded = (c.requires.loaded.0, length_part c.args.work.now 0 4096 (omega arith) (omega (arith, size))); mem_value = (before.0, six-first c.args.arena.now (table_in c.args.mem.now) before.1) }

pub slice_bounds-rule7-end-2 : goal.slice_bounds-rule7-end-2
slice_bounds-rule7-end-2 c =
    let half = c.count_names.ensures.size in
    sym (ap (λ (l : List ℕ). length l) (low-low c.args.work.now c.count_names.new.counts c.requires.loaded.1 half) ∙ half)

pub rule7-requires : goal.rule7-requires
rule7-requires c =
    let half = c.count_names.ensures.size in
    let counts = sym (low-low c.args.work.now c.count_names.new.counts c.requires.loaded.1 half) in record { led = c.requires.led; loaded = c.requires.loaded.0; counted = subst (λ (l : List ℕ). Counted c.args.arena.now (table_in c.args.mem.now) l) counts c.count_names.ensures }

pub returns-then-not-rule7 : goal.returns-then-not-rule7
returns-then-not-rule7 c =
    sym (links-seven c.args.arena.now (table_in c.args.mem.now) (sym c.rule7.ensures ∙ c.if-not-rule7.true))

pub tree_ok-requires : goal.tree_ok-requires
tree_ok-requires c =
    let a = c.args.arena.now in
    let t = table_in c.args.mem.now in
    let w = c.args.work.now in
    let size = c.requires.loaded.1 in
    let h = c.count_names.new.counts in
    let half = c.count_names.ensures.size in
    let seven = sym c.rule7.ensures ∙ c.if-not-rule7.false in record {
      led = c.requires.led;
      loaded = c.requires.loaded.0;
      work_len = (
        low-size w h size half,
        (
          record {
            rule3 = c.requires.arena_value.0;
            rule4 = c.requires.arena_value.1;
            rule5 = c.requires.mem_value.0;
            folders = six-first a t c.requires.mem_value.1;
            names = seven-named a t seven;
          },
          subst (λ (l : List ℕ). Counted a t l) (sym (low-low w h size half)) c.count_names.ensures,
        ),
      );
    }

pub returns-then-not-tree_ok : goal.returns-then-not-tree_ok
returns-then-not-tree_ok c =
    let a = c.args.arena.now in
    let t = table_in c.args.mem.now in
    let seven = sym c.rule7.ensures ∙ c.if-not-rule7.false in
    sym (links-eight a t seven (sym (rooted-eight a t seven) ∙ sym c.tree_ok.ensures.value ∙ c.if-not-tree_ok.true))

pub pass-requires : goal.pass-requires
pass-requires c = record { arena_bound = c.requires.led.most; loaded = c.requires.loaded.0 }

pub returns : goal.returns
returns c =
    let a = c.args.arena.now in
    let t = table_in c.args.mem.now in
    let seven = sym c.rule7.ensures ∙ c.if-not-rule7.false in
    c.pass.ensures ∙ sym (links-pass a t seven (sym (rooted-eight a t seven) ∙ sym c.tree_ok.ensures.value ∙ c.if-not-tree_ok.false))
