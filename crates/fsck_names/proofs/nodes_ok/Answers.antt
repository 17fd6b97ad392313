-- `fsck_names::nodes_ok`: id after id.
use mathlib.Core.Path.{◌≡◌, sym, subst, ◌∙◌}
use mathlib.Core.Bool.{true, true≢false}
use Prim.Native.Nat.{ℕ}
use native.Mathlib.Omega.{arith}
use borrow.Author.Count.{below_none, below_more}
use Rattle.base.proofs.Counts.{all_to-all, all_to-false}
use Rattle.mem.specs.Mem.{table_in}
use Rattle.rules.specs.Image.{ids_in}
use Rattle.rules.specs.Tests.{node_allowed}
use Rattle.fsck_names.specs.Names.{Claimed}
use Rattle.fsck_names.proofs.nodes_ok.Goals as goal

pub loop-id-init : goal.loop-id-init
loop-id-init c = (c.requires.claimed, below_none _)

pub node_ok-requires : goal.node_ok-requires
node_ok-requires c = record { led = c.requires.led; loaded = (c.requires.loaded, omega (arith, c.ids-id-end.ensures.value.1.1)); claimed = c.loop-id.invariant.0 }

pub returns-then-not-node_ok : goal.returns-then-not-node_ok
returns-then-not-node_ok c =
    let e = c.if-not-node_ok.true in record { value = sym (all_to-false (node_allowed c.args.arena.now (table_in c.args.mem.now)) (ids_in c.args.arena.now) c.loop-id.id (omega (arith, c.ids-id-end.ensures.by_index c.args.arena.now c.requires.loaded.1)) (sym c.node_ok.ensures.value ∙ e)); claimed_2 = λ e. absurd (true≢false (sym e)) }

pub loop-id-preserved : goal.loop-id-preserved
loop-id-preserved c =
    let e : c.node_ok.result ≡ true = c.if-not-node_ok.false in
    (c.node_ok.ensures.claimed_2 e, below_more _ _ c.loop-id.invariant.1 (sym c.node_ok.ensures.value ∙ e))

pub returns : goal.returns
returns c =
    let z : c.loop-id.id ≡ ids_in c.args.arena.now = omega (arith, c.ids-id-end.ensures.by_index c.args.arena.now c.requires.loaded.1) in record {
      value = sym (all_to-all (node_allowed c.args.arena.now (table_in c.args.mem.now)) (ids_in c.args.arena.now) (λ k h. c.loop-id.invariant.1 k (omega arith)));
      claimed_2 = λ _. subst (λ (x : ℕ). Claimed c.args.arena.now (table_in c.args.mem.now) c.loop-id.claimed x) z c.loop-id.invariant.0;
    }
