-- `fsck_names::node_ok`: the definition, test by test.
use mathlib.Core.Path.{sym, ap, ◌∙◌, subst}
use mathlib.Core.Bool.{true≢false}
use mathlib.Core.List.{List}
use Prim.Native.Nat.{ℕ, ◌+◌}
use lib.ListN.{set}
use Rattle.structs.specs.Types.{is_type}
use Rattle.arena.specs.Places.{head_of}
use Rattle.structs.specs.declared.DiskINode.{DiskINode}
use Rattle.sefs.specs.Nodes.{node_file}
use Rattle.mem.specs.Mem.{table_in}
use Rattle.fsck_names.specs.Names.{claimable, Claimed}
use Rattle.fsck_names.proofs.Names.{node-other, node-kind, node-claim, claimed-other, claimed-more}
use Rattle.fsck_names.proofs.node_ok.Goals as goal

pub returns-then-not-is_node : goal.returns-then-not-is_node
returns-then-not-is_node c =
    let o = sym (c.is_node.ensures.by_index c.args.arena.now c.requires.loaded.0.1) ∙ c.if-not-is_node.true in record { value = node-other c.args.arena.now (table_in c.args.mem.now) c.args.id o; claimed_2 = λ _. claimed-other c.args.arena.now (table_in c.args.mem.now) c.args.id c.args.claimed.now c.requires.claimed o }

pub returns-then-not-is_type : goal.returns-then-not-is_type
returns-then-not-is_type c =
    let n = sym (c.is_node.ensures.by_index c.args.arena.now c.requires.loaded.0.1) ∙ c.if-not-is_node.false in record { value = node-kind c.args.arena.now (table_in c.args.mem.now) c.args.id n (ap (λ (x : DiskINode). is_type x.kind) (sym c.rec_of-rec.ensures) ∙ sym c.is_type.ensures ∙ c.if-not-is_type.true); claimed_2 = λ e. absurd (true≢false (sym e)) }

pub returns : goal.returns
returns c =
    let r = c.rec_of-rec.ensures in
    let n = sym (c.is_node.ensures.by_index c.args.arena.now c.requires.loaded.0.1) ∙ c.if-not-is_node.false in
    let f = ap (λ (x : DiskINode). is_type x.kind) (sym r) ∙ sym c.is_type.ensures ∙ c.if-not-is_type.false in
    let q = ap (claimable c.args.arena.now c.args.claimed.now) r in record {
      value = c.claim.ensures.value ∙ q ∙ node-claim c.args.arena.now (table_in c.args.mem.now) c.args.id c.args.claimed.now c.requires.claimed n f;
      claimed_2 = λ e.
          subst (λ (x : List ℕ). Claimed c.args.arena.now (table_in c.args.mem.now) x (c.args.id + 1))
          (sym (c.claim.ensures.claimed_after e ∙ ap (λ (x : DiskINode). set c.args.claimed.now (head_of c.args.arena.now (node_file x)) 1) r))
          (claimed-more c.args.arena.now (table_in c.args.mem.now) c.args.id c.args.claimed.now c.requires.claimed c.requires.led.fine c.requires.led.most n (sym q ∙ sym c.claim.ensures.value ∙ e));
    }
