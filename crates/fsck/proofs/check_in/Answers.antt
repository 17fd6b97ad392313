-- `fsck::check_in`: where the arena is sound its chains lead to all blocks.
use mathlib.Core.Path.{◌≡◌, sym, ◌∙◌, subst}
use Prim.Native.Nat.{ℕ}
use lib.ListN.{length}
use Rattle.base.specs.Parts.{part}
use Rattle.arena.proofs.Blocks.{legal-is}
use Rattle.sound.specs.Chain.{firsts}
use Rattle.sound.proofs.Chains.{length-firsts, length-nexts}
use Rattle.mem.specs.Mem.{table_in}
use Rattle.chains.specs.Led.{Led}
use Rattle.fsck.proofs.Verdicts.{verdict-sound, verdict-table, verdict-on}
use Rattle.fsck.proofs.check_in.Goals as goal

pub sound_in-requires : goal.sound_in-requires
sound_in-requires c = record { arena_bound = ((legal-is c.args.arena.now c.requires.arena_value.0).most, c.requires.arena_value.1.0); by_index = c.requires.by_index }

pub returns-then-not-sound_in : goal.returns-then-not-sound_in
returns-then-not-sound_in c =
    sym (verdict-sound c.args.arena.now (table_in c.args.mem.now) c.requires.arena_value.0 (sym c.sound_in.ensures.value ∙ c.if-not-sound_in.true))

pub well_formed-requires : goal.well_formed-requires
well_formed-requires c = c.requires.arena_value.1.1

pub returns-then-not-well_formed : goal.returns-then-not-well_formed
returns-then-not-well_formed c =
    sym (verdict-table c.args.arena.now (table_in c.args.mem.now) c.requires.arena_value.0 (sym c.sound_in.ensures.value ∙ c.if-not-sound_in.false) (sym c.well_formed-2.ensures ∙ c.if-not-well_formed.true))

pub slice_bounds-check_led-end : goal.slice_bounds-check_led-end
slice_bounds-check_led-end c =
    sym (length-firsts c.sound_in.new.chains (c.sound_in.auto.chains ∙ c.requires.arena_value.1.0))

pub check_led-requires : goal.check_led-requires
check_led-requires c =
    let a = c.args.arena.now in
    let l = c.sound_in.new.chains in
    let n : length l ≡ 8192 = c.sound_in.auto.chains ∙ c.requires.arena_value.1.0 in
    let t = c.if-not-sound_in.false in record {
      led = subst (λ (m : ℕ). Led a (firsts l) (part l 4096 m)) (sym n) (record {
        whole = c.requires.arena_value.0;
        most = (legal-is a c.requires.arena_value.0).most;
        starts = length-firsts l n;
        links = length-nexts l n;
        chains = c.sound_in.ensures.chains t;
        fine = sym c.sound_in.ensures.value ∙ t;
      });
      mem_len = c.requires.arena_value.1.1.size;
    }

pub returns : goal.returns
returns c =
    c.check_led.ensures ∙ sym (verdict-on c.args.arena.now (table_in c.args.mem.now) c.requires.arena_value.0 (sym c.sound_in.ensures.value ∙ c.if-not-sound_in.false) (sym c.well_formed-2.ensures ∙ c.if-not-well_formed.false))
