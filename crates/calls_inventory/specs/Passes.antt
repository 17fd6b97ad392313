-- What a pass over the folders has done: so much of the text, measured, or written as well.
use Rattle.std.specs.Prelude.{◌≡◌, Bool, true, false, List, ◌++◌, ℕ, ◌+◌, ◌-◌, ◌≤◌, ◌<◌, length}
use Rattle.base.specs.Parts.{part, paste}
use Rattle.base.specs.Search.{pick}
use Rattle.structs.specs.declared.DiskEntry.{DiskEntry}
use Rattle.structs.specs.declared.DiskINode.{DiskINode}
use Rattle.utf8.specs.Names.{name_of}
use Rattle.inventory.specs.Inventory.{stored_tree, text}
use Rattle.inventory.specs.Visits.{Visit, lines_of}
use Rattle.inventory_lines.specs.Lines.{line_head, line_tail}
use Rattle.calls_inventory.specs.declared.passes.Progress.{Progress}
use Rattle.calls_inventory.specs.declared.places.Place.{Place}
use Rattle.calls_inventory.specs.Places.{StandsAt, past_line}

-- an output with t from `at` on, where a pass writes, and as it was where it does not
unfoldable pub laid_if : Bool → List ℕ → ℕ → List ℕ → List ℕ
laid_if write out at t = pick write (paste out at t) out

-- ---- where a pass stands

-- t is done, and `rest` is to come. The folder's path stands in t, at the start of the last line's path
pub record Midst (a : List ℕ) (write : Bool) (out now : List ℕ) (s : Progress) : Type 0 where
  pub path : List ℕ
  pub rest : List Visit
  pub stands : StandsAt a s.place path rest
  pub done : List ℕ
  pub whole : text a ≡ done ++ lines_of (stored_tree a) rest
  pub at : s.at ≡ length done
  pub fits : length done ≤ length out
  pub now-is : now ≡ laid_if write out 0 done
  pub before : s.from + s.place.path ≤ s.at
  pub path-is : part done s.from (s.from + s.place.path) ≡ path

-- the same of some output that it began with
pub record Under (a : List ℕ) (write : Bool) (now : List ℕ) (s : Progress) : Type 0 where
  pub out : List ℕ
  pub midst : Midst a write out now s

-- a pass is over: it has done the text, or the text does not fit the output
pub data PassOver (a : List ℕ) (write : Bool) (out now : List ℕ) (s : Progress) : Type 0 where
  ended : s.full ≡ false → s.at ≡ length (text a) → length (text a) ≤ length out → now ≡ laid_if write out 0 (text a) → PassOver a write out now s
  full : s.full ≡ true → length out < length (text a) → (write ≡ false → now ≡ out) → PassOver a write out now s

-- how far a pass is from its end: each line takes of the room, and each way up of the path
unfoldable pub ahead : List ℕ → Progress → ℕ
ahead out s = (length out - s.at) + s.place.path

-- one turn: it is over, or goes on, nearer to its end
pub record OneTurn (a : List ℕ) (write : Bool) (out now : List ℕ) (s r : Progress) : Type 0 where
  pub over : r.over ≡ true → PassOver a write out now r
  pub on : r.over ≡ false → Midst a write out now r × (ahead out r < ahead out s)

-- ---- how it goes on

abbrev pub stopped_as : Progress → Bool → Progress
stopped_as s f = record { over = true; full = f; at = s.at; from = s.from; place = s.place }

abbrev pub moved_to : Progress → Place → Progress
moved_to s p = record { over = false; full = false; at = s.at; from = s.from; place = p }

-- the line of a node under a slot's name, in a folder whose path is `path`: what stands before that path, and what behind it
abbrev pub head_for : DiskEntry → DiskINode → List ℕ
head_for e node = line_head e.id node.kind node.nlinks

abbrev pub tail_for : DiskEntry → List ℕ
tail_for e = line_tail (name_of e.name)

unfoldable pub line_for : DiskEntry → DiskINode → List ℕ → List ℕ
line_for e node path = head_for e node ++ (path ++ tail_for e)

-- where it ends, written from where the pass stands
unfoldable pub line_end : Progress → DiskEntry → DiskINode → ℕ
line_end s e node = s.at + length (head_for e node) + s.place.path + length (tail_for e)

-- the pass behind it: the newline is no part of the path
unfoldable pub behind_line : Progress → DiskEntry → DiskINode → Progress
behind_line s e node = record {
  over = false;
  full = false;
  at = line_end s e node;
  from = s.at + length (head_for e node);
  place = past_line s.place e.id node (length (tail_for e) - 1);
}

-- a line is taken where it fits, and ends the pass where it does not. The output has the folder's path, where a pass writes
pub data Took (write : Bool) (e : DiskEntry) (node : DiskINode) (out now : List ℕ) (s r : Progress) : Type 0 where
  fit : line_end s e node ≤ length out → now ≡ laid_if write out s.at (line_for e node (part out s.from (s.from + s.place.path)))
      → r ≡ behind_line s e node → Took write e node out now s r
  stop : length out < line_end s e node → now ≡ out → r ≡ stopped_as s true → Took write e node out now s r
