-- The numbers of structs.rs that definitions speak of.
use Rattle.std.specs.Prelude.{ℕ}

abbrev pub sefs_magic : ℕ
sefs_magic = 0x2f8d_be2a

-- "Types: 1 file, 2 folder, 3 symlink, 4 socket.": those that a definition names
abbrev pub type_file : ℕ
type_file = 1

abbrev pub type_dir : ℕ
type_dir = 2

abbrev pub type_symlink : ℕ
type_symlink = 3
