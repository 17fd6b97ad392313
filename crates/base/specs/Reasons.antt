-- The reasons of documents 01 and 02, by their numbers.
use Rattle.std.specs.Prelude.{ℕ}

abbrev pub bad_arena : ℕ
bad_arena = 1

abbrev pub damaged : ℕ
damaged = 2

abbrev pub bad_table : ℕ
bad_table = 3

abbrev pub bad_handle : ℕ
bad_handle = 4

abbrev pub bad_name : ℕ
bad_name = 5

abbrev pub invalid_param : ℕ
invalid_param = 6

abbrev pub not_dir : ℕ
not_dir = 7

abbrev pub dir_removed : ℕ
dir_removed = 8

abbrev pub is_dir : ℕ
is_dir = 9

abbrev pub name_too_long : ℕ
name_too_long = 10

abbrev pub entry_not_found : ℕ
entry_not_found = 11

abbrev pub entry_exist : ℕ
entry_exist = 12

abbrev pub dir_not_empty : ℕ
dir_not_empty = 13

abbrev pub file_taken : ℕ
file_taken = 14

abbrev pub too_many_links : ℕ
too_many_links = 15

abbrev pub table_full : ℕ
table_full = 16

abbrev pub no_device_space : ℕ
no_device_space = 17

abbrev pub wrong_fs : ℕ
wrong_fs = 18

abbrev pub stuck : ℕ
stuck = 19

abbrev pub out_full : ℕ
out_full = 20

-- order 1
abbrev pub not_file : ℕ
not_file = 21

abbrev pub file_too_big : ℕ
file_too_big = 22

-- order 7
abbrev pub sym_loop : ℕ
sym_loop = 23

-- order 11
abbrev pub in_use : ℕ
in_use = 24
