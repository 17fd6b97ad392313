-- `mend_tests::files_fit`: rule 5, then folders, then names.
use mathlib.Core.Path.{◌≡◌, refl, sym, ap, ◌∙◌}
use mathlib.Core.Bool.{true}
use native.Mathlib.Omega.{arith}
use lib.ListN.{length}
use Rattle.base.specs.Parts.{part}
use Rattle.base.proofs.Bools.{true-false}
use Rattle.base.proofs.Lists.{length_part, length-paste}
use Rattle.base.proofs.Parts.{back-paste}
use Rattle.table.specs.Table.{empty_table}
use Rattle.rules.specs.Tests.{test5, folders_allowed}
use Rattle.mend_tests.proofs.Fits.{led-one, mend-five, mend-folders}
use Rattle.mend_tests.proofs.files_fit.Goals as goal
use Rattle.mend_tests.proofs.files_fit.Goals.{After-folders_ok-arg-1}

-- what is lent to the names' hashes
long : (c : After-folders_ok-arg-1) → length (part c.args.work.now 0 7680) ≡ 7680
long c = length_part c.args.work.now 0 7680 (omega arith) (omega (arith, c.requires.loaded.1.1))

five : (c : After-folders_ok-arg-1) → test5 c.args.arena.now empty_table ≡ true
five c = ap (test5 c.args.arena.now) (sym c.requires.loaded.1.0) ∙ sym c.rule5.ensures ∙ c.if-not-rule5.false

pub returns-then-not-rule5 : goal.returns-then-not-rule5
returns-then-not-rule5 c =
    let not5 = ap (test5 c.args.arena.now) (sym c.requires.loaded.1.0) ∙ sym c.rule5.ensures ∙ c.if-not-rule5.true in record { value = sym (mend-five c.args.arena.now (led-one c.requires.led) c.requires.arena_value.0 c.requires.arena_value.1 not5); counted = λ e. absurd (true-false e refl) }

pub slice_bounds-folders_ok-end-2 : goal.slice_bounds-folders_ok-end-2
slice_bounds-folders_ok-end-2 c = sym (long (goal.at.slice_bounds-folders_ok-end-2 c).After-folders_ok-arg-1)

pub folders_ok-requires : goal.folders_ok-requires
folders_ok-requires c = record { led = c.requires.led; loaded = (c.requires.loaded.0, long (goal.at.folders_ok-requires c).After-folders_ok-arg-1) }

pub returns-then-not-folders_ok : goal.returns-then-not-folders_ok
returns-then-not-folders_ok c =
    let folders = ap (folders_allowed c.args.arena.now) (sym c.requires.loaded.1.0) ∙ sym c.folders_ok.ensures ∙ c.if-not-folders_ok.true in record { value = sym (mend-folders c.args.arena.now (led-one c.requires.led) c.requires.arena_value.0 c.requires.arena_value.1 (five (goal.at.returns-then-not-folders_ok c).After-folders_ok-arg-1) folders); counted = λ e. absurd (true-false e refl) }

pub names_fit-requires : goal.names_fit-requires
names_fit-requires c =
    let h = c.folders_ok.new.hashes in
    let half = c.folders_ok.auto.hashes ∙ long (goal.at.names_fit-requires c).After-folders_ok-arg-1 in
    let size = ap length (back-paste c.args.work.now h 0 7680 half) ∙ length-paste c.args.work.now 0 h (omega (arith, half, c.requires.loaded.1.1)) ∙ c.requires.loaded.1.1 in
    let folders = ap (folders_allowed c.args.arena.now) (sym c.requires.loaded.1.0) ∙ sym c.folders_ok.ensures ∙ c.if-not-folders_ok.false in record { led = c.requires.led; loaded = (c.requires.loaded.0, (c.requires.loaded.1.0, size)); arena_value = c.requires.arena_value; empty_table_value = (five (goal.at.names_fit-requires c).After-folders_ok-arg-1, folders) }
