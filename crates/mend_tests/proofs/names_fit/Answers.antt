-- `mend_tests::names_fit`: how often each id is named, and then each folder's place.
use mathlib.Core.Path.{◌≡◌, sym, ap, ◌∙◌, subst}
use mathlib.Core.List.{List}
use Prim.Native.Nat.{ℕ}
use native.Mathlib.Omega.{arith}
use lib.ListN.{length}
use Rattle.base.specs.Parts.{part, back}
use Rattle.base.proofs.Lists.{length_part}
use Rattle.table.specs.declared.Table.{Table}
use Rattle.table.specs.Table.{empty_table}
use Rattle.mem.specs.Mem.{table_in}
use Rattle.rules.specs.Tests.{test4, test5, folders_allowed}
use Rattle.fsck_links.specs.Counts.{Counted, folders_named}
use Rattle.fsck_links.proofs.Halves.{low-size, low-low}
use Rattle.fsck_climb.specs.Way.{all_rooted}
use Rattle.mend_tests.proofs.Fits.{led-one, mend-names, mend-tree}
use Rattle.mend_tests.proofs.names_fit.Goals as goal
use Rattle.mend_tests.proofs.names_fit.Goals.{After-count_names, After-count_names-arg-1}

-- the half that is lent
long : (c : After-count_names-arg-1) → length (part c.args.work.now 0 4096) ≡ 4096
long c = length_part c.args.work.now 0 4096 (omega arith) (omega (arith, c.requires.loaded.1.1))

-- and what it is afterwards
counts : (c : After-count_names) → part (back c.args.work.now 0 4096 c.count_names.new.counts) 0 4096 ≡ c.count_names.new.counts
counts c = low-low c.args.work.now c.count_names.new.counts c.requires.loaded.1.1 c.count_names.ensures.size

counted : (c : After-count_names) (l : List ℕ) → l ≡ c.count_names.new.counts → Counted c.args.arena.now empty_table l
counted c l e =
    subst (λ (t : Table). Counted c.args.arena.now t l) c.requires.loaded.1.0 (subst (Counted c.args.arena.now (table_in c.args.mem.now)) (sym e) c.count_names.ensures)

pub slice_bounds-count_names-end-2 : goal.slice_bounds-count_names-end-2
slice_bounds-count_names-end-2 c = sym (long (goal.at.slice_bounds-count_names-end-2 c).After-count_names-arg-1)

pub count_names-requires : goal.count_names-requires
count_names-requires c =
    let a = c.args.arena.now in
    let t = c.requires.loaded.1.0 in record { led = c.requires.led; loaded = (c.requires.loaded.0, long (goal.at.count_names-requires c).After-count_names-arg-1); mem_value = (ap (test5 a) t ∙ c.requires.empty_table_value.0, ap (folders_allowed a) t ∙ c.requires.empty_table_value.1) }

pub slice_bounds-names_ok-end-2 : goal.slice_bounds-names_ok-end-2
slice_bounds-names_ok-end-2 c = sym (ap length (counts (goal.at.slice_bounds-names_ok-end-2 c).After-count_names) ∙ c.count_names.ensures.size)

pub names_ok-requires : goal.names_ok-requires
names_ok-requires c = record { led = c.requires.led; loaded = c.requires.loaded.0; counted = subst (Counted c.args.arena.now (table_in c.args.mem.now)) (sym (counts (goal.at.names_ok-requires c).After-count_names)) c.count_names.ensures }

pub returns-then-not-names_ok : goal.returns-then-not-names_ok
returns-then-not-names_ok c =
    let a = c.args.arena.now in record { value = sym (mend-names a (led-one c.requires.led) c.requires.arena_value.0 c.requires.arena_value.1 c.requires.empty_table_value.0 c.requires.empty_table_value.1 (ap (folders_named a) (sym c.requires.loaded.1.0) ∙ sym c.names_ok.ensures ∙ c.if-not-names_ok.true)); counted = counted (goal.at.returns-then-not-names_ok c).After-count_names _ (counts (goal.at.returns-then-not-names_ok c).After-count_names) }

pub tree_ok-requires : goal.tree_ok-requires
tree_ok-requires c =
    let a = c.args.arena.now in
    let t = c.requires.loaded.1.0 in record {
      led = c.requires.led;
      loaded = c.requires.loaded.0;
      work_len = (
        low-size c.args.work.now c.count_names.new.counts c.requires.loaded.1.1 c.count_names.ensures.size,
        (
          record {
            rule3 = c.requires.arena_value.0;
            rule4 = ap (test4 a) t ∙ c.requires.arena_value.1;
            rule5 = ap (test5 a) t ∙ c.requires.empty_table_value.0;
            folders = ap (folders_allowed a) t ∙ c.requires.empty_table_value.1;
            names = sym c.names_ok.ensures ∙ c.if-not-names_ok.false;
          },
          subst (Counted a (table_in c.args.mem.now)) (sym (counts (goal.at.tree_ok-requires c).After-count_names)) c.count_names.ensures,
        ),
      );
    }

pub returns : goal.returns
returns c =
    let a = c.args.arena.now in
    let t = c.requires.loaded.1.0 in
    let names = ap (folders_named a) (sym t) ∙ sym c.names_ok.ensures ∙ c.if-not-names_ok.false in record { value = c.tree_ok.ensures.value ∙ ap (all_rooted a) t ∙ sym (mend-tree a (led-one c.requires.led) c.requires.arena_value.0 c.requires.arena_value.1 c.requires.empty_table_value.0 c.requires.empty_table_value.1 names); counted = counted (goal.at.returns c).After-count_names _ (c.tree_ok.ensures.work_unchanged ∙ counts (goal.at.returns c).After-count_names) }
