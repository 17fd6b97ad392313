-- How the code finds that a name is new in its folder without comparing it with every name before it: names of different hashes differ.
-- Nothing here is part of what the rules mean.
use Rattle.std.specs.Prelude.{◌≡◌, List, ℕ, zero, suc, ◌+◌, ◌*◌, ◌%◌, ◌<◌, length, get_or}
use Rattle.structs.specs.declared.DiskINode.{DiskINode}
use Rattle.utf8.specs.Names.{name_of}
use Rattle.rules.specs.Image.{later_slot}

-- the hash of the first n bytes
unfoldable pub hash_to : List ℕ → ℕ → ℕ
hash_to l zero = 0
hash_to l (suc n) = (hash_to l n * 257 + get_or l n 0 + 1) % 65521

unfoldable pub hash_name : List ℕ → ℕ
hash_name l = hash_to l (length l)

-- the hashes of the names of the first n later slots are kept, up to the room for them
pub record Hashed (a : List ℕ) (r : DiskINode) (hashes : List ℕ) (n : ℕ) : Type 0 where
  pub size : length hashes ≡ 7680
  pub each : (j : ℕ) → j < n → j < 7680 → get_or hashes j 0 ≡ hash_name (name_of (later_slot a r j).name)
