-- `fsck_slots::folder_ok`: the definition, test by test.
use Rattle.std.proofs.Common.{arith}
use Rattle.std.proofs.lemmas.Bool.Decides.{nat_tests}
use Rattle.mem.specs.Mem.{table_in}
use Rattle.fsck_slots.proofs.Slots.{folder-parts, length-same}
use Rattle.fsck_slots.proofs.folder_ok.Goals as goal
use Rattle.fsck_slots.proofs.folder_ok.Goals.{then-rec-ge2, else-rec-ge2, then-length_of-index, else-length_of-index}

pub returns-then-first_slots : goal.returns-then-first_slots
returns-then-first_slots c =
    elim c.if-rec-ge2.branch [
      | then-rec-ge2 w ↦
          let parts = folder-parts c.args.arena.now (table_in c.args.mem.now) c.args.id c.args.rec in
          let same = length-same c.args.arena.now (table_in c.args.mem.now) c.args.id c.args.rec (omega arith) w.index.result w.index.ensures w.length_of.result w.length_of.ensures.0 in
          grind (arith, nat_tests)
      | else-rec-ge2 w ↦ grind arith
    ]

pub returns-else-first_slots : goal.returns-else-first_slots
returns-else-first_slots c =
    elim c.if-rec-ge2.branch [
      | then-rec-ge2 w ↦
          let parts = folder-parts c.args.arena.now (table_in c.args.mem.now) c.args.id c.args.rec in
          let same = length-same c.args.arena.now (table_in c.args.mem.now) c.args.id c.args.rec (omega arith) w.index.result w.index.ensures w.length_of.result w.length_of.ensures.0 in
          grind (arith, nat_tests)
      | else-rec-ge2 w ↦
          let parts = folder-parts c.args.arena.now (table_in c.args.mem.now) c.args.id c.args.rec in
          grind (arith, nat_tests)
    ]
