-- `sound::chain::join`: a free block joins no chain, another the chain of its hash.
use mathlib.Core.Path.{◌≡◌, ap, ◌∙◌}
use mathlib.Core.List.{List}
use Prim.Native.Nat.{ℕ}
use lib.Dec.{eqb}
use Rattle.arena.specs.Blocks.{blk}
use Rattle.arena.specs.Fields.{tag_of, which_of, name_of}
use Rattle.sound.specs.Chain.{hash_key, hash_of, firsts, nexts}
use Rattle.sound.proofs.Chains.{chains-skip, chains-insert}
use Rattle.sound.proofs.chain.join.Goals as goal

-- src/chain.rt:138:9
pub returns-then-part-eq0 : goal.returns-then-part-eq0
unfolding blk
returns-then-part-eq0 c =
    chains-skip c.args.arena.now (firsts c.args.chains.now) (nexts c.args.chains.now) c.args.k c.requires.chains c.if-part-eq0.true

-- src/chain.rt:130:1
pub returns : goal.returns
unfolding blk hash_of
returns c =
    let a = c.args.arena.now in
    let k = c.args.k in
    let b : List ℕ = blk a k in
    let h-is : c.hash_key-h.result ≡ hash_of (blk a k) = ◌∙◌ {b = hash_key (eqb (tag_of b) 1) (which_of b) (name_of b) c.u32_at-number.result} c.hash_key-h.ensures.0 (ap (hash_key (eqb (tag_of b) 1) (which_of b) (name_of b)) c.u32_at-number.ensures) in
    chains-insert a c.args.chains.now _ k c.hash_key-h.result c.requires.chains c.if-part-eq0.false h-is c.hash_key-h.ensures.1 c.requires.k_bound.1.0 c.requires.k_bound.1.1 c.insert.ensures
