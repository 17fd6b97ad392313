-- Order 10, "Proved: each slot from 2 on of each folder reached from root is listed exactly once, in slot order, a folder's contents right after its
-- own line." And what makes the list worth reading: every node is on it, and a line can be read back. ("Bytes after the text stay" is in the contract of
-- the call, which has an output.)
use Rattle.std.specs.Prelude.{◌≡◌, true, false, ◌&&◌, List, [], ◌∷◌, ◌++◌, ◌≢◌, ◌⊎◌, ◌↔◌, ℕ, suc, ◌+◌, ◌*◌, ◌-◌, ◌≤◌, ◌<◌, eqb, leb, length, get_or}
use Rattle.base.specs.Count.{bit}
use Rattle.base.specs.Out.{done, refused, guard, answer}
use Rattle.le.specs.Le.{Bytes}
use Rattle.structs.specs.Fits.{TimeFits}
use Rattle.structs.specs.Types.{is_folder}
use Rattle.structs.specs.declared.Timespec.{Timespec}
use Rattle.utf8.specs.Names.{name_of, NoSlash}
use Rattle.table.specs.Table.{empty_table}
use Rattle.arena.specs.Blocks.{legal}
use Rattle.sound.specs.Sound.{sound}
use Rattle.sefs.specs.Create.{call_format}
use Rattle.rules.specs.Image.{is_node}
use Rattle.rules.specs.Tests.{checked}
use Rattle.tree.specs.Tree.{Tree, slashless}
use Rattle.image.specs.Midway.{Spells}
use Rattle.inventory.specs.Text.{decimal, escape, path_to, line}
use Rattle.inventory.specs.Visits.{Visit, visit, visits, lines_of}
use Rattle.inventory.specs.Inventory.{stored_tree, text, call_inventory, fail_line, too_long, printed}

-- ---- "each slot from 2 on of each folder reached from root"

-- folder f is reached from root, by path p
pub data ReachedBy (v : Tree) : ℕ → List ℕ → Type 0 where
  root : ReachedBy v 2 []
  down : {f c : ℕ} {p q : List ℕ} (k : ℕ) → ReachedBy v f p → 2 ≤ k → k < v.blocks f → (v.slot f k).id ≡ c → is_folder (v.kind c) ≡ true
      → q ≡ path_to p (name_of (v.slot f k).name) → ReachedBy v c q

-- a line is due: a slot from 2 on of such a folder, with its path
pub record Due (v : Tree) (x : Visit) : Type 0 where
  pub at : List ℕ
  pub reached : ReachedBy v x.folder at
  pub later : 2 ≤ x.slot
  pub inside : x.slot < v.blocks x.folder
  pub path : x.path ≡ path_to at (name_of (v.slot x.folder x.slot).name)

-- ---- "is listed exactly once"

-- how often slot k of folder f stands in a list
unfoldable pub times : ℕ → ℕ → List Visit → ℕ
times f k [] = 0
times f k (x ∷ l) = bit (eqb x.folder f && eqb x.slot k) + times f k l

-- P holds of each element of a list, so that nothing else is listed
pub data Each {A : Type 0} (P : A → Type 0) : List A → Type 0 where
  none : Each P []
  more : {x : A} {l : List A} → P x → Each P l → Each P (x ∷ l)

-- ---- "in slot order, a folder's contents right after its own line"

-- the list is that of the slots of folder f, whose path is p, from slot k on
pub data SlotOrder (v : Tree) : ℕ → List ℕ → ℕ → List Visit → Type 0 where
  end : {f k : ℕ} {p : List ℕ} → v.blocks f ≤ k → SlotOrder v f p k []
  other : {f k : ℕ} {p : List ℕ} {l : List Visit} → k < v.blocks f → is_folder (v.kind (v.slot f k).id) ≡ false
      → SlotOrder v f p (suc k) l → SlotOrder v f p k (visit v f p k ∷ l)
  folder : {f k : ℕ} {p : List ℕ} {m l : List Visit} → k < v.blocks f → is_folder (v.kind (v.slot f k).id) ≡ true
      → SlotOrder v (v.slot f k).id (visit v f p k).path 2 m → SlotOrder v f p (suc k) l → SlotOrder v f p k (visit v f p k ∷ (m ++ l))

-- ---- the theorem: wherever the call is done

-- the text is the lines of a list that has each slot that is due exactly once, and no other, in that order
pub record Delivered (v : Tree) (t : List ℕ) : Type 0 where
  pub list : List Visit
  pub lines : t ≡ lines_of v list
  pub once : (x : Visit) → Due v x → times x.folder x.slot list ≡ 1
  pub only : Each (Due v) list
  pub order : SlotOrder v 2 [] 2 list

unfoldable pub Delivers : Type 0
Delivers = (a : List ℕ) (room : ℕ) (t : List ℕ) → call_inventory a room ≡ done t → Delivered (stored_tree a) t

-- there is one such list, and so one such text: the order alone says which
unfoldable pub OneList : Type 0
OneList = (v : Tree) (f k : ℕ) (p : List ℕ) (l m : List Visit) → SlotOrder v f p k l → SlotOrder v f p k m → l ≡ m

-- "the foundry wants every drawing listed": each node but root has a line, in a folder that is reached
unfoldable pub Everyone : Type 0
Everyone = (a : List ℕ) → checked a empty_table ≡ 0 → (id : ℕ) → is_node a id ≡ true → id ≢ 2
    → (x : Visit) × Due (stored_tree a) x × (((stored_tree a).slot x.folder x.slot).id ≡ id)

-- how many lines of a list are for id
unfoldable pub lines_for : Tree → ℕ → List Visit → ℕ
lines_for v id [] = 0
lines_for v id (x ∷ l) = bit (eqb (v.slot x.folder x.slot).id id) + lines_for v id l

-- and what is no folder has as many lines as its links say
unfoldable pub AsManyAsLinks : Type 0
AsManyAsLinks = (a : List ℕ) → checked a empty_table ≡ 0 → (id : ℕ) → is_node a id ≡ true → is_folder ((stored_tree a).kind id) ≡ false
    → lines_for (stored_tree a) id (visits (stored_tree a)) ≡ (stored_tree a).links id

-- ---- "one line per name": root has none, so the text of a fresh image is empty, and fits any output

unfoldable pub FreshEmpty : Type 0
FreshEmpty = (a : List ℕ) (time : Timespec) (file : List ℕ) → TimeFits time → length file ≡ 16 → Bytes file
    → (b : List ℕ) (room : ℕ) → call_format a time file ≡ done b → call_inventory b room ≡ done []

-- ---- the answers: "Refusals: 1, 2; 18 ..; 20", and no other

unfoldable pub Refusals : Type 0
Refusals = (a : List ℕ) (room : ℕ) → (answer (call_inventory a room) ≡ 0) ⊎ (answer (call_inventory a room) ≡ 1) ⊎ (answer (call_inventory a room) ≡ 2)
    ⊎ (answer (call_inventory a room) ≡ 18) ⊎ (answer (call_inventory a room) ≡ 20)

-- and when each: in this order, and where the checker passes the arena it is done unless the text is longer than the room
pub record Answered (a : List ℕ) (room : ℕ) : Type 0 where
  pub not-legal : legal a ≡ false → call_inventory a room ≡ refused 1
  pub not_sound : legal a ≡ true → sound a ≡ false → call_inventory a room ≡ refused 2
  pub fails : legal a ≡ true → sound a ≡ true → checked a empty_table ≢ 0 → call_inventory a room ≡ refused 18
  pub passes : checked a empty_table ≡ 0 → call_inventory a room ≡ guard (leb (length (text a)) room) 20 (done (text a))

unfoldable pub Exactly : Type 0
Exactly = (a : List ℕ) (room : ℕ) → Answered a room

-- ---- the program: of at most 65,536 bytes it "prints the list, the checker's failing line, or `too long` past 65,536 bytes of text", each exactly
-- where the call with that room, or the checker, says so

pub record Prints (a : List ℕ) : Type 0 where
  pub list : (t : List ℕ) → call_inventory a 65536 ≡ done t → printed a ≡ t
  pub fails : (n : ℕ) → n ≢ 0 → (printed a ≡ fail_line n) ↔ (checked a empty_table ≡ n)
  pub long : (printed a ≡ too_long) ↔ (call_inventory a 65536 ≡ refused 20)

unfoldable pub Program : Type 0
Program = (a : List ℕ) → length a ≤ 65536 → Prints a

-- document 01, of the checker's program: "More bytes fail rule 1."
unfoldable pub Large : Type 0
Large = (a : List ℕ) → 65536 < length a → printed a ≡ fail_line 1

-- ---- "id, type and links in decimal"

-- the number that decimal digits say
unfoldable pub value_of : ℕ → List ℕ → ℕ
value_of x [] = x
value_of x (c ∷ l) = value_of (10 * x + (c - 48)) l

-- `0` to `9`
abbrev pub Digit : ℕ → Type 0
Digit c = (48 ≤ c) × (c ≤ 57)

-- digits that say n, the first of them `0` only where it stands alone
pub record Numeral (n : ℕ) (l : List ℕ) : Type 0 where
  pub value : value_of 0 l ≡ n
  pub digits : Each Digit l
  pub some : l ≢ []
  pub first : get_or l 0 0 ≡ 48 → l ≡ 48 ∷ []

unfoldable pub Decimals : Type 0
Decimals = (n : ℕ) → Numeral n (decimal n)

-- ---- "In paths, bytes below 33, 127 and the backslash become a backslash and two lowercase hex digits."

-- "lowercase hex digits": the byte c says d
pub data Hex (c d : ℕ) : Type 0 where
  number : 48 ≤ c → c ≤ 57 → c ≡ 48 + d → Hex c d
  letter : 97 ≤ c → c ≤ 102 → c ≡ 87 + d → Hex c d

-- a name, and how it is escaped; all other bytes stay
pub data EscapedAs : List ℕ → List ℕ → Type 0 where
  end : EscapedAs [] []
  stays : {b : ℕ} {n l : List ℕ} → 33 ≤ b → b ≢ 127 → b ≢ 92 → EscapedAs n l → EscapedAs (b ∷ n) (b ∷ l)
  becomes : {b c d x y : ℕ} {n l : List ℕ} → (b < 33) ⊎ (b ≡ 127) ⊎ (b ≡ 92) → Hex c x → Hex d y → b ≡ 16 * x + y → EscapedAs n l
      → EscapedAs (b ∷ n) (92 ∷ c ∷ d ∷ l)

unfoldable pub NamesEscaped : Type 0
NamesEscaped = (n : List ℕ) → EscapedAs n (escape n)

-- two names that are escaped alike are one
unfoldable pub Escapes : Type 0
Escapes = (l m : List ℕ) → escape l ≡ escape m → l ≡ m

-- no space and no newline in an escaped name, so a line is read by its spaces and its end
unfoldable pub Unbroken : Type 0
Unbroken = (l : List ℕ) (i : ℕ) → i < length (escape l) → 33 ≤ get_or (escape l) i 0

-- ---- "the path from root, a slash before each name"

-- the path of names, from root on
unfoldable pub path_of : List ℕ → List (List ℕ) → List ℕ
path_of p [] = p
path_of p (n ∷ ns) = path_of (path_to p n) ns

-- names without a slash
pub data Plain : List (List ℕ) → Type 0 where
  empty : Plain []
  named : {n : List ℕ} {ns : List (List ℕ)} → NoSlash n → Plain ns → Plain (n ∷ ns)

-- two paths of such names that read alike have the same names. (A stored slash reads like a folder's: `a/b` in root and `b` in `a`.)
unfoldable pub Paths : Type 0
Paths = (ns ms : List (List ℕ)) → Plain ns → Plain ms → path_of [] ns ≡ path_of [] ms → ns ≡ ms

-- and so two lines with one path are one line, in an image without stored slashes
unfoldable pub Unlike : Type 0
Unlike = (a : List ℕ) → checked a empty_table ≡ 0 → Spells slashless a empty_table
    → (x y : Visit) → Due (stored_tree a) x → Due (stored_tree a) y → x.path ≡ y.path → (x.folder ≡ y.folder) × (x.slot ≡ y.slot)

-- ---- "split by single spaces and ended by a newline"

-- a line says its id, type, links and path
unfoldable pub Lines : Type 0
Lines = (i k n j m o : ℕ) (p q : List ℕ) → line i k n p ≡ line j m o q → (i ≡ j) × (k ≡ m) × (n ≡ o) × (p ≡ q)

-- what a line says
pub record Item : Type 0 where
  pub id : ℕ
  pub kind : ℕ
  pub links : ℕ
  pub path : List ℕ

abbrev pub item_of : Tree → Visit → Item
item_of v x = let id : ℕ = (v.slot x.folder x.slot).id in record { id = id; kind = v.kind id; links = v.links id; path = x.path }

abbrev pub items_of : Tree → List Visit → List Item
items_of v [] = []
items_of v (x ∷ l) = item_of v x ∷ items_of v l

-- and a text says its lines: arenas of one text have the same ids, types, links and paths in the same order, slashes or not
unfoldable pub Texts : Type 0
Texts = (a b : List ℕ) → text a ≡ text b → items_of (stored_tree a) (visits (stored_tree a)) ≡ items_of (stored_tree b) (visits (stored_tree b))

-- and where no stored name has a slash, the list itself: the same slots of the same folders
unfoldable pub Lists : Type 0
Lists = (a b : List ℕ) → checked a empty_table ≡ 0 → checked b empty_table ≡ 0 → Spells slashless a empty_table → Spells slashless b empty_table
    → text a ≡ text b → visits (stored_tree a) ≡ visits (stored_tree b)
