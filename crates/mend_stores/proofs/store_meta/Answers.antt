-- `mend_stores::store_meta`: the superblock, whose bytes stand in memory, then the maps.
use mathlib.Core.Path.{◌≡◌, sym, ap, ◌∙◌, subst}
use Prim.Native.Nat.{ℕ}
use native.Mathlib.Omega.{arith}
use lib.ListN.{length}
use Rattle.base.proofs.Lists.{length_part}
use Rattle.structs.specs.declared.SuperBlock.{SuperBlock}
use Rattle.mend_stores.specs.Stores.{Storable}
use Rattle.mend_stores.proofs.Syncs.{super-storable, backed-next, sync-does}
use borrow.Author.Rules.{rules}
use Rattle.mend_stores.proofs.store_meta.Goals as goal
use Rattle.mend_stores.proofs.store_meta.Goals.{After-super_bytes}

-- the superblock can be stored
first : (c : After-super_bytes) → Storable c.args.arena.now c.args.places.now 0 (length c.super_bytes.result.now) c.args.from
first c =
    let n : 16 ≡ length c.super_bytes.result.now = sym (ap length c.super_bytes.ensures ∙ length_part c.args.mem.now 4403 4419 (omega arith) (omega (arith, c.requires.loaded.whole.size))) in
    subst (λ (k : ℕ). Storable c.args.arena.now c.args.places.now 0 k c.args.from) n (super-storable c.args.arena.now c.args.mem.now c.args.places.now c.args.from c.requires)

pub put_meta-at-requires : goal.put_meta-at-requires
put_meta-at-requires c = first (goal.at.put_meta-at-requires c).After-super_bytes

pub store_maps-requires : goal.store_maps-requires
store_maps-requires c = (
  backed-next c.args.arena.now c.args.mem.now c.args.places.now c.args.from c.requires _ _ _ _ _ (first (goal.at.store_maps-requires c).After-super_bytes).below c.put_meta-at.ensures,
  c.index.ensures ∙ ap (λ (x : SuperBlock). x.groups) c.super_at-groups.ensures,
)

pub returns : goal.returns
returns c =
    sync-does c.args.arena.now _ _ c.args.mem.now _ _ c.requires.loaded (λ j. search rules) c.super_bytes.ensures (c.index.ensures ∙ ap (λ (x : SuperBlock). x.groups) c.super_at-groups.ensures) c.put_meta-at.ensures.put c.store_maps.ensures
