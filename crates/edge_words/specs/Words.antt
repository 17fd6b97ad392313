-- What goes in and out at the C edge as plain numbers.
use Rattle.std.specs.Prelude.{List, [], ◌∷◌, ◌++◌, ℕ, ◌+◌, ℤ, set}
use Rattle.le.specs.Signed.{bits_of}
use Rattle.structs.specs.declared.Timespec.{Timespec}
use Rattle.table.specs.declared.Handle.{Handle}
use Rattle.sefs.specs.declared.Metadata.{Metadata}

-- ---- arguments

abbrev pub handle_of : ℕ → ℕ → Handle
handle_of hold stamp = record { hold = hold; stamp = stamp }

abbrev pub time_of : ℤ → ℤ → Timespec
time_of sec nsec = record { sec = sec; nsec = nsec }

-- ---- results, as words of 64 bits; a signed one in two's complement

abbrev pub handle_words : Handle → List ℕ
handle_words h = h.hold ∷ h.stamp ∷ []

abbrev pub time_words : Timespec → List ℕ
time_words t = bits_of t.sec ∷ bits_of t.nsec ∷ []

abbrev pub node_words : Metadata → List ℕ
node_words m = m.inode ∷ m.size ∷ m.mode ∷ m.kind ∷ m.blocks ∷ []

-- access, content, status
abbrev pub times_words : Metadata → List ℕ
times_words m = time_words m.atime ++ (time_words m.mtime ++ time_words m.ctime)

abbrev pub owner_words : Metadata → List ℕ
owner_words m = m.nlinks ∷ m.uid ∷ m.gid ∷ []

-- fourteen words
abbrev pub metadata_words : Metadata → List ℕ
metadata_words m = node_words m ++ (times_words m ++ owner_words m)

-- l with ws from s on, stored one after another
unfoldable pub puts : List ℕ → ℕ → List ℕ → List ℕ
puts l s [] = l
puts l s (w ∷ ws) = puts (set l s w) (s + 1) ws
