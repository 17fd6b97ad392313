-- `mend_stores::mend_stores`: files, records, superblock and maps, in this order.
use mathlib.Core.Path.{◌≡◌, sym, ap, ◌∙◌, subst}
use Prim.Native.Nat.{ℕ, ◌*◌}
use Rattle.structs.specs.declared.SuperBlock.{SuperBlock}
use Rattle.rules.specs.Image.{ids_in}
use Rattle.mend_plan.specs.Plan.{Fated}
use Rattle.mend_stores.specs.Stores.{Begun}
use Rattle.mend_stores.proofs.Syncs.{backed-first, mend-does}
use Rattle.mend_stores.proofs.mend_stores.Goals as goal
use Rattle.mend_stores.proofs.mend_stores.Goals.{After-free_nodes, After-index-n}

-- how many ids there are
all : (c : After-index-n) → 1024 * c.index-n.result ≡ ids_in c.args.arena.now
all c = ap (λ (x : ℕ). 1024 * x) (c.index-n.ensures ∙ ap (λ (b : SuperBlock). b.groups) (c.super_at.ensures ∙ c.requires.loaded.0.1.super))

-- the files are gone
begun : (c : After-free_nodes) → Begun c.args.arena.now c.free_nodes.new.mem c.free_nodes.new.arena c.args.work.now c.args.places.now (1024 * c.index-n.result)
begun c =
    let q : 1024 * c.index-n.result ≡ ids_in c.args.arena.now = ap (λ (x : ℕ). 1024 * x) (c.index-n.ensures ∙ ap (λ (b : SuperBlock). b.groups) (c.super_at.ensures ∙ c.requires.loaded.0.1.super)) in
    record {
      can = c.requires.arena_value.0;
      room = c.requires.arena_value.1;
      all = q;
      fated = subst (Fated c.args.arena.now c.args.work.now) (sym q) c.requires.loaded.1.fated;
      freed = c.free_nodes.ensures;
      placed = record { size = c.requires.loaded.1.placed.size; each = λ q l. c.requires.loaded.1.placed.each q l ∙ sym (c.free_nodes.ensures.blocks q) };
    }

pub free_nodes-requires : goal.free_nodes-requires
free_nodes-requires c = record { arena_value = (c.requires.arena_value.0, (all (goal.at.free_nodes-requires c).After-index-n, subst (Fated c.args.arena.now c.args.work.now) (sym (all (goal.at.free_nodes-requires c).After-index-n)) c.requires.loaded.1.fated)); loaded = c.requires.loaded.0 }

pub store_records-from-requires : goal.store_records-from-requires
store_records-from-requires c = (c.args.arena.now, (c.free_nodes.new.mem, begun (goal.at.store_records-from-requires c).After-free_nodes))

pub store_meta-requires : goal.store_meta-requires
store_meta-requires c =
    backed-first c.args.arena.now c.free_nodes.new.mem c.free_nodes.new.arena c.args.work.now _ c.args.places.now (begun (goal.at.store_meta-requires c).After-free_nodes) _ _ _ (c.store_records-from.ensures c.args.arena.now c.free_nodes.new.mem (begun (goal.at.store_meta-requires c).After-free_nodes))

pub returns : goal.returns
returns c =
    mend-does c.args.arena.now c.free_nodes.new.mem c.free_nodes.new.arena c.args.work.now _ c.args.places.now (begun (goal.at.returns c).After-free_nodes) _ _ _ (c.store_records-from.ensures c.args.arena.now c.free_nodes.new.mem (begun (goal.at.returns c).After-free_nodes)) _ c.store_meta.ensures
