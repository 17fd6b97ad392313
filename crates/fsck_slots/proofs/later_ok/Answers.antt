-- `fsck_slots::later_ok`: the definition, test by test; where all pass, one more hash is kept.
use mathlib.Core.Path.{sym, ap, ◌∙◌}
use mathlib.Core.Bool.{true≢false}
use Rattle.mem.specs.Mem.{table_in}
use Rattle.fsck_slots.specs.Hash.{hash_name}
use Rattle.fsck_slots.proofs.Names.{hashed-more}
use Rattle.fsck_slots.proofs.Slots.{later-plain, later-node, later-seen, later-new}
use Rattle.fsck_slots.proofs.later_ok.Goals as goal

pub returns-then-not-plain_name : goal.returns-then-not-plain_name
returns-then-not-plain_name c = record { value = later-plain c.args.arena.now (table_in c.args.mem.now) c.args.rec c.args.j _ c.read_slot.ensures c.plain_name.result c.plain_name.ensures c.if-not-plain_name.true; hashed = λ e. absurd (true≢false (sym e)) }

pub returns-then-not-names_node : goal.returns-then-not-names_node
returns-then-not-names_node c = record {
  value = later-node c.args.arena.now (table_in c.args.mem.now) c.args.rec c.args.j _ c.read_slot.ensures c.plain_name.result c.plain_name.ensures c.if-not-plain_name.false
      c.names_node.result c.names_node.ensures c.if-not-names_node.true;
  hashed = λ e. absurd (true≢false (sym e));
}

pub in_slots-requires : goal.in_slots-requires
in_slots-requires c = record { led = c.requires.led; n_bound = (c.requires.j_bound.0, (c.hash_name-h.ensures ∙ ap hash_name (c.name_of.ensures ∙ sym c.name_of-2.ensures), c.requires.j_bound.1)) }

pub returns-then-in_slots : goal.returns-then-in_slots
returns-then-in_slots c = record {
  value = later-seen c.args.arena.now (table_in c.args.mem.now) c.args.rec c.args.j _ c.read_slot.ensures c.plain_name.result c.plain_name.ensures c.if-not-plain_name.false
      c.names_node.result c.names_node.ensures c.if-not-names_node.false _ c.name_of-2.ensures c.in_slots.result c.in_slots.ensures c.if-in_slots.true;
  hashed = λ e. absurd (true≢false (sym e));
}

pub keep_hash-requires : goal.keep_hash-requires
keep_hash-requires c =
    c.requires.j_bound.1.size

pub returns : goal.returns
returns c = record {
  value = later-new c.args.arena.now (table_in c.args.mem.now) c.args.rec c.args.j _ c.read_slot.ensures c.plain_name.result c.plain_name.ensures c.if-not-plain_name.false
      c.names_node.result c.names_node.ensures c.if-not-names_node.false _ c.name_of-2.ensures c.in_slots.result c.in_slots.ensures c.if-in_slots.false;
  hashed = λ _. hashed-more c.args.arena.now c.args.rec c.args.hashes.now c.args.j c.hash_name-h.result _ _ c.keep_hash.new.hashes c.requires.j_bound.1 c.read_slot.ensures c.name_of.ensures c.hash_name-h.ensures c.keep_hash.ensures;
}
