-- "a four by four table says, by moved and replaced type: folder onto other NotDir, other onto folder IsDir, other onto other allowed,
-- folder onto folder 13 if the replaced one has over 2 slots"
use Rattle.std.specs.Prelude.{Bool, ◌&&◌, ℕ, eqb, ltb, leb}
use Rattle.base.specs.Search.{pick}
use Rattle.structs.specs.Constants.{type_dir}
use Rattle.structs.specs.declared.MoveVerdict.{MoveVerdict}
use Rattle.structs.specs.declared.MoveVerdict.TheVariants.{Allowed, NotDir, IsDir, IfEmpty}

abbrev pub is_folder : ℕ → Bool
is_folder kind = eqb kind type_dir

-- one of the four types
abbrev pub is_type : ℕ → Bool
is_type kind = ltb 0 kind && leb kind 4

unfoldable pub move_verdict_of : ℕ → ℕ → MoveVerdict
move_verdict_of moved replaced = pick (is_folder moved) (pick (is_folder replaced) IfEmpty NotDir) (pick (is_folder replaced) IsDir Allowed)
