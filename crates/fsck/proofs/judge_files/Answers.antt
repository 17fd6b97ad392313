-- `fsck::judge_files`: rules 5 and 6, then the rest.
use mathlib.Core.Path.{sym, ◌∙◌}
use Rattle.mem.specs.Mem.{table_in}
use Rattle.fsck.proofs.Verdicts.{files-five, files-six, files-on}
use Rattle.fsck.proofs.judge_files.Goals as goal

pub rule5-requires : goal.rule5-requires
rule5-requires c = record { led = c.requires.led; loaded = c.requires.loaded }

pub returns-then-not-rule5 : goal.returns-then-not-rule5
returns-then-not-rule5 c =
    sym (files-five c.args.arena.now (table_in c.args.mem.now) (sym c.rule5.ensures ∙ c.if-not-rule5.true))

pub rule6-requires : goal.rule6-requires
rule6-requires c = record { led = c.requires.led; loaded = c.requires.loaded }

pub returns-then-not-rule6 : goal.returns-then-not-rule6
returns-then-not-rule6 c =
    sym (files-six c.args.arena.now (table_in c.args.mem.now) (sym c.rule5.ensures ∙ c.if-not-rule5.false) (sym c.rule6.ensures ∙ c.if-not-rule6.true))

pub judge_tree-requires : goal.judge_tree-requires
judge_tree-requires c = record { led = c.requires.led; loaded = c.requires.loaded; arena_value = c.requires.arena_value; mem_value = (sym c.rule5.ensures ∙ c.if-not-rule5.false, sym c.rule6.ensures ∙ c.if-not-rule6.false) }

pub returns : goal.returns
returns c =
    c.judge_tree.ensures ∙ sym (files-on c.args.arena.now (table_in c.args.mem.now) (sym c.rule5.ensures ∙ c.if-not-rule5.false) (sym c.rule6.ensures ∙ c.if-not-rule6.false))
