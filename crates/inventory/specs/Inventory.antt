-- Order 10, the call and the program. "From an arena that the checker passes with an empty table, write one line per name into a lent output".
use Rattle.std.specs.Prelude.{List, [], ◌∷◌, ◌++◌, ℕ, length, eqb, ltb, leb}
use Rattle.base.specs.Out.{Out, done, ensure, ◌>>=◌}
use Rattle.base.specs.Reasons.{wrong_fs, out_full}
use Rattle.base.specs.Search.{pick}
use Rattle.table.specs.Table.{empty_table}
use Rattle.sefs.specs.Ask.{admit_arena}
use Rattle.rules.specs.Tests.{checked}
use Rattle.tree.specs.Tree.{Tree}
use Rattle.image.specs.Midway.{tree_of}
use Rattle.inventory.specs.Text.{decimal, newline}
use Rattle.inventory.specs.Visits.{visits, lines_of}

-- "with an empty table": nodes and folders as they are stored; nothing that is open or not yet stored is seen
abbrev pub stored_tree : List ℕ → Tree
stored_tree a = tree_of a empty_table

-- the lines, one after another
unfoldable pub text : List ℕ → List ℕ
text a = lines_of (stored_tree a) (visits (stored_tree a))

-- "write one line per name into a lent output"; "Refusals: 1, 2; 18 if the checker fails it; 20 if the text doesn't fit": what is written at the start of
-- an output of `room` bytes. The call answers its length
unfoldable pub call_inventory : List ℕ → ℕ → Out (List ℕ)
call_inventory a room = do
  _ ← admit_arena a
  _ ← ensure (eqb (checked a empty_table) 0) wrong_fs
  _ ← ensure (leb (length (text a)) room) out_full
  done (text a)

-- ---- "A program reads an arena of at most 65,536 bytes and prints the list, the checker's failing line, or `too long` past 65,536 bytes of text."

-- "the checker's failing line": `fail rule N`
unfoldable pub fail_line : ℕ → List ℕ
fail_line n = (102 ∷ 97 ∷ 105 ∷ 108 ∷ 32 ∷ 114 ∷ 117 ∷ 108 ∷ 101 ∷ 32 ∷ []) ++ (decimal n ++ newline)

-- `too long`
abbrev pub too_long : List ℕ
too_long = 116 ∷ 111 ∷ 111 ∷ 32 ∷ 108 ∷ 111 ∷ 110 ∷ 103 ∷ 10 ∷ []

-- the list, or that it is too long: of an arena that passes
unfoldable pub shown : List ℕ → List ℕ
shown t = pick (leb (length t) 65536) t too_long

-- the input is a. Document 01, of the checker's program: "More bytes fail rule 1."
unfoldable pub printed : List ℕ → List ℕ
printed a = pick (ltb 65536 (length a)) (fail_line 1) (pick (eqb (checked a empty_table) 0) (shown (text a)) (fail_line (checked a empty_table)))
