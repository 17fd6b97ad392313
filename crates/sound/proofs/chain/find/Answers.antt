-- `sound::chain::find`: the chain of the key's hash begins at its entry of `first`.
use mathlib.Core.Path.{◌∙◌, ap}
use Prim.Native.Nat.{ℕ}
use native.Mathlib.Omega.{arith}
use Rattle.base.specs.Search.{last}
use Rattle.base.proofs.Searches.{last-is}
use Rattle.arena.specs.Blocks.{blk, blocks}
use Rattle.arena.specs.Fields.{file}
use Rattle.sound.specs.Chain.{is_key, in_bucket}
use Rattle.sound.proofs.chain.find.Goals as goal

pub find_key-requires : goal.find_key-requires
find_key-requires c =
    let a = c.args.arena.now in
    let C = c.requires.chains in record { name_len = (c.requires.name_len.0, (omega arith, omega (arith, c.requires.name_len))); by_index = C.links; start_value = c.index16-start.ensures ∙ C.starts c.hash_key-h.result c.hash_key-h.ensures.1 ∙ ap (λ (x : ℕ). last (in_bucket a x) (blocks a)) c.hash_key-h.ensures.0 }

pub returns : goal.returns
returns c =
    let a = c.args.arena.now in
    let L = last-is (λ j. is_key c.args.head (file c.args.which c.args.name.now) c.args.number (blk a j)) (blocks a) in
    (c.find_key.ensures, omega (arith, c.find_key.ensures, L.most))
