-- `fsck::check_led`: rules 3 and 4, then the rest; rule 3 leaves superblock and maps in memory, and the table as it was.
use mathlib.Core.Path.{sym, ◌∙◌, ap}
use Rattle.table.specs.declared.Table.{Table}
use Rattle.mem.specs.Mem.{table_in}
use Rattle.rules.specs.Tests.{test4}
use Rattle.fsck.specs.Verdicts.{files_verdict}
use Rattle.fsck.proofs.Verdicts.{meta-three, meta-four, meta-on}
use Rattle.fsck.proofs.check_led.Goals as goal

pub returns-then-not-rule3 : goal.returns-then-not-rule3
returns-then-not-rule3 c =
    sym (meta-three c.args.arena.now (table_in c.args.mem.now) (sym c.rule3.ensures.value ∙ c.if-not-rule3.true))

pub rule4-requires : goal.rule4-requires
rule4-requires c = record { led = c.requires.led; loaded = (c.rule3.ensures.loaded c.if-not-rule3.false).0 }

pub returns-then-not-rule4 : goal.returns-then-not-rule4
returns-then-not-rule4 c =
    sym (meta-four c.args.arena.now (table_in c.args.mem.now) (sym c.rule3.ensures.value ∙ c.if-not-rule3.false) (ap (λ (u : Table). test4 c.args.arena.now u) (sym (c.rule3.ensures.loaded c.if-not-rule3.false).1) ∙ sym c.rule4.ensures ∙ c.if-not-rule4.true))

pub judge_files-requires : goal.judge_files-requires
judge_files-requires c = record { led = c.requires.led; loaded = (c.rule3.ensures.loaded c.if-not-rule3.false).0; arena_value = (sym c.rule3.ensures.value ∙ c.if-not-rule3.false, sym c.rule4.ensures ∙ c.if-not-rule4.false) }

pub returns : goal.returns
returns c =
    c.judge_files.ensures ∙ ap (λ (u : Table). files_verdict c.args.arena.now u) (c.rule3.ensures.loaded c.if-not-rule3.false).1 ∙ sym (meta-on c.args.arena.now (table_in c.args.mem.now) (sym c.rule3.ensures.value ∙ c.if-not-rule3.false) (ap (λ (u : Table). test4 c.args.arena.now u) (sym (c.rule3.ensures.loaded c.if-not-rule3.false).1) ∙ sym c.rule4.ensures ∙ c.if-not-rule4.false))
