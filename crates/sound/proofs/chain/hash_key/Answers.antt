-- `sound::chain::hash_key`: the two kinds of key.
use mathlib.Core.Path.{◌∙◌, ap, ap₂}
use Prim.Native.Nat.{ℕ, ◌+◌, ◌*◌}
use Rattle.sound.specs.Chain.{hash_key, bucket_of}
use Rattle.sound.proofs.chain.hash_key.Goals as goal

pub returns-then-head : goal.returns-then-head
unfolding hash_key
returns-then-head c =
    (simp c.if-head.true (c.bucket.ensures.0 ∙ ap bucket_of c.file_hash-f.ensures.0), c.bucket.ensures.1)

pub returns-else-head : goal.returns-else-head
unfolding hash_key
returns-else-head c = (
  simp c.if-head.false (c.bucket-else-head.ensures.0 ∙ ap₂ (λ (f q : ℕ). bucket_of (f + (q * 331804471 + 268435399))) c.file_hash-f.ensures.0 c.wide.ensures.0),
  c.bucket-else-head.ensures.1,
)
