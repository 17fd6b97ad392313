-- `mend_tests::can_mend`: rule 3 leaves superblock and maps in memory, and the table as it was.
use mathlib.Core.Path.{◌≡◌, refl, sym, ap, ◌∙◌}
use Rattle.base.proofs.Bools.{true-false}
use Rattle.table.specs.Table.{empty_table}
use Rattle.mem.specs.Mem.{table_in}
use Rattle.fsck_read.specs.Loaded.{Loaded, Of}
use Rattle.rules.specs.Tests.{test4}
use Rattle.mend_tests.proofs.Fits.{led-one, mend-three, mend-four}
use Rattle.mend_tests.proofs.can_mend.Goals as goal
use Rattle.mend_tests.proofs.can_mend.Goals.{Else-not-rule3}

-- what rule 3 leaves
loaded : (c : Else-not-rule3) → (Loaded c.rule3.new.mem × Of c.args.arena.now c.rule3.new.mem) × (table_in c.rule3.new.mem ≡ empty_table)
loaded c = let k = c.rule3.ensures.loaded c.if-not-rule3.false in (k.0, k.1 ∙ c.requires.mem_len.1.0)

pub returns-then-not-rule3 : goal.returns-then-not-rule3
returns-then-not-rule3 c = record { value = sym (mend-three c.args.arena.now (led-one c.requires.led) (sym c.rule3.ensures.value ∙ c.if-not-rule3.true)); loaded = λ e. absurd (true-false e refl) }

pub rule4-requires : goal.rule4-requires
rule4-requires c = record { led = c.requires.led; loaded = (loaded (goal.at.rule4-requires c).Else-not-rule3).0 }

pub returns-then-not-rule4 : goal.returns-then-not-rule4
returns-then-not-rule4 c =
    let three = sym c.rule3.ensures.value ∙ c.if-not-rule3.false in
    let four = ap (test4 c.args.arena.now) (sym (loaded (goal.at.returns-then-not-rule4 c).Else-not-rule3).1) ∙ sym c.rule4.ensures ∙ c.if-not-rule4.true in record { value = sym (mend-four c.args.arena.now (led-one c.requires.led) three four); loaded = λ e. absurd (true-false e refl) }

pub files_fit-requires : goal.files_fit-requires
files_fit-requires c =
    let three = sym c.rule3.ensures.value ∙ c.if-not-rule3.false in
    let four = ap (test4 c.args.arena.now) (sym (loaded (goal.at.files_fit-requires c).Else-not-rule3).1) ∙ sym c.rule4.ensures ∙ c.if-not-rule4.false in record { led = c.requires.led; loaded = ((loaded (goal.at.files_fit-requires c).Else-not-rule3).0, ((loaded (goal.at.files_fit-requires c).Else-not-rule3).1, c.requires.mem_len.1.1)); arena_value = (three, four) }

pub returns : goal.returns
returns c = record { value = c.files_fit.ensures.value; loaded = λ e. ((loaded (goal.at.returns c).Else-not-rule3).0, ((loaded (goal.at.returns c).Else-not-rule3).1, c.files_fit.ensures.counted e)) }
