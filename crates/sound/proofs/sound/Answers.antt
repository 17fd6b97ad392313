-- `sound::sound`: the workspace has 8,192 entries, all zero.
use mathlib.Core.Path.{refl}
use native.Mathlib.Omega.{arith}
use lib.ListN.{get_or-replicate}
use Rattle.sound.proofs.sound.Goals as goal

pub sound_in-requires : goal.sound_in-requires
sound_in-requires c = record { arena_bound = (c.requires, refl); by_index = λ h l. get_or-replicate 8192 h 0 0 (omega arith) }
