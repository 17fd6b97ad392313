-- walk (order 7): "a walk from a folder along a path with single slashes, following symlinks whose content is the target".
use Rattle.std.specs.Prelude.{Bool, not, ◌&&◌, ◌||◌, List, [], ◌∷◌, ◌++◌, ℕ, zero, suc, ◌-◌, length, get_or, drop, eqb, ltb, leb}
use Rattle.base.specs.Out.{Out, done, refused, ensure, ◌>>=◌}
use Rattle.base.specs.Count.{all_to, bit}
use Rattle.base.specs.Decides.{same}
use Rattle.base.specs.Reasons.{bad_name, dir_removed, table_full, out_full, sym_loop}
use Rattle.base.specs.Search.{pick}
use Rattle.structs.specs.Constants.{type_symlink}
use Rattle.structs.specs.declared.DiskINode.{DiskINode}
use Rattle.utf8.specs.Names.{name_verdict, early_reason, is_dots}
use Rattle.table.specs.declared.Table.{Table}
use Rattle.table.specs.declared.Handle.{Handle}
use Rattle.table.specs.declared.Added.{Added}
use Rattle.table.specs.Table.{row_at, can_hold}
use Rattle.sefs.specs.State.{Fs}
use Rattle.sefs.specs.Nodes.{node_file, rec_at, get_node}
use Rattle.sefs.specs.Slots.{find_slot}
use Rattle.sefs.specs.Ask.{admit, by_handle, not_long, known, type_in_range, folder, start}
use Rattle.sefs.specs.Open.{hold_node}
use Rattle.sefs.specs.Contents.{read_bytes}

-- "unfinished parts are remembered for up to 8 links"
abbrev pub most_links : ℕ
most_links = 8

-- ---- a text: the caller's path, or a link's target

abbrev pub slash : ℕ
slash = 47

abbrev pub is_slash : ℕ → Bool
is_slash b = eqb b slash

-- "a leading slash [starts] at root"
abbrev pub from_root : List ℕ → Bool
from_root l = is_slash (get_or l 0 0)

abbrev pub after_root : List ℕ → List ℕ
after_root l = drop (bit (from_root l)) l

-- a part begins at place i
abbrev pub part_at : List ℕ → ℕ → Bool
part_at l i = ltb i (length l) && not (is_slash (get_or l i 0))

-- "with single slashes": a part begins at the start, and after each slash
unfoldable pub split : List ℕ → Bool
split l = part_at l 0 && all_to (λ i. not (is_slash (get_or l i 0)) || part_at l (suc i)) (length l)

-- "5 for a bad or empty path or target, or an empty part (a lone slash is root)"
unfoldable pub good_text : List ℕ → Bool
good_text l = eqb (early_reason (name_verdict l)) 0 && (same l (slash ∷ []) || split (after_root l))

-- the parts of what is left of a text
abbrev pub onto : ℕ → List (List ℕ) → List (List ℕ)
onto b [] = (b ∷ []) ∷ []
onto b (p ∷ ps) = (b ∷ p) ∷ ps

unfoldable pub cut : List ℕ → List (List ℕ)
cut [] = []
cut (b ∷ l) = pick (is_slash b) ([] ∷ cut l) (onto b (cut l))

abbrev pub parts_of : List ℕ → List (List ℕ)
parts_of l = cut (after_root l)

-- ---- a node on the way: "Intermediate openings use the operation's own rows". It is opened, its record looked at, and given back

unfoldable pub look_at : Fs → ℕ → Out DiskINode
look_at s id = do
  o ← get_node s id
  done (rec_at o.state o.row)

-- where the walk stands
pub record Spot : Type 0 where
  pub id : ℕ
  pub rec : DiskINode

abbrev pub spot : ℕ → DiskINode → Spot
spot id r = record { id = id; rec = r }

unfoldable pub at_root : Fs → Out Spot
at_root s = do
  r ← look_at s 2
  done (spot 2 r)

-- "7, 10, 8, 11, 16, 19 as in find at that part": what the part names in the folder r; its type is looked at
unfoldable pub part_in : Fs → DiskINode → List ℕ → Out Spot
part_in s r name = do
  _ ← known r
  _ ← folder r
  _ ← not_long name
  _ ← ensure (not (is_dots name && eqb r.nlinks 0)) dir_removed
  e ← find_slot s.arena r name
  n ← look_at s e.entry.id
  _ ← type_in_range n
  done (spot e.entry.id n)

-- ---- along parts, to their end or to the first link

abbrev pub is_link : DiskINode → Bool
is_link r = eqb r.kind type_symlink

-- the node that the last part names; or a link, the folder that it was met in, and the parts after it
pub data Way : Type 0 where
  ended : Spot → Way
  met : Spot → DiskINode → List (List ℕ) → Way

unfoldable pub along : Fs → Spot → List (List ℕ) → Out Way
along s at [] = done (ended at)
along s at (p ∷ ps) = do
  n ← part_in s at.rec p
  pick (is_link n.rec) (done (met at n.rec ps)) (along s n ps)

-- ---- a link's target

-- "20 if a target doesn't fit the room left"; it is read as order 1 reads
unfoldable pub target_of : List ℕ → DiskINode → ℕ → Out (List ℕ)
target_of a r room = do
  _ ← ensure (leb r.size room) out_full
  read_bytes a (node_file r) 0 r.size

-- a text is tested "before its first part". "A relative target starts at the link's folder, a leading slash at root"
unfoldable pub enter : Fs → Spot → List ℕ → Out Spot
enter s at l = do
  _ ← ensure (good_text l) bad_name
  pick (from_root l) (at_root s) (done at)

-- ---- the walk

-- how it ends; the targets that stand in the link buffer then, "one after another as met", and how many links it could still have met
pub record Walked (A : Type 0) : Type 0 where
  pub links : List ℕ
  pub left : ℕ
  pub end : Out A

abbrev pub walked : {A : Type 0} → List ℕ → ℕ → Out A → Walked A
walked b k o = record { links = b; left = k; end = o }

-- "a refusal leaves those already read there"
abbrev pub or_stop : {A B : Type 0} → List ℕ → ℕ → Out A → (A → Walked B) → Walked B
or_stop b k (done x) f = f x
or_stop b k (refused n) f = walked b k (refused n)

abbrev pub or_end : List ℕ → ℕ → Way → (Spot → DiskINode → List (List ℕ) → Walked Spot) → Walked Spot
or_end b k (ended at) f = walked b k (done at)
or_end b k (met at r ps) f = f at r ps

-- from `at` along the parts, where k links may still be met and b has the targets so far, in a buffer of `room` bytes. "When a target runs out,
-- the remainder of the path that held the link goes on": a target's parts come before those that are left. It ends: at a link there is one
-- link less to meet, and between two links one part less at each step
unfoldable pub walk_on : Fs → ℕ → ℕ → List ℕ → Spot → List (List ℕ) → Walked Spot
walk_on s room zero b at ps = or_stop b 0 (along s at ps) (λ w. or_end b 0 w (λ f r qs. walked b 0 (refused sym_loop)))
walk_on s room (suc k) b at ps = or_stop b (suc k) (along s at ps) (λ w. or_end b (suc k) w (λ f r qs.
    or_stop b (suc k) (target_of s.arena r (room - length b)) (λ l.
    or_stop (b ++ l) k (enter s f l) (λ to.
    walk_on s room k (b ++ l) to (parts_of l ++ qs)))))

-- a text, from the folder at hand
abbrev pub walk_text : Fs → ℕ → ℕ → List ℕ → Spot → List ℕ → Walked Spot
walk_text s room k b at text = or_stop b k (enter s at text) (λ to. walk_on s room k b to (parts_of text))

-- a path: all links are still to be met, and the buffer is empty
unfoldable pub walk_in : Fs → Spot → List ℕ → ℕ → Walked Spot
walk_in s at path room = walk_text s room most_links [] at path

-- "the last node gets a hold"
unfoldable pub hold_end : List ℕ → Table → ℕ → Walked Spot → Walked Added
hold_end a t w x = walked x.links x.left (do
  at ← x.end
  _ ← ensure (can_hold t w) table_full
  hold_node (start a t) w at.id)

-- 1, 2, 3, 6, 4, then text by text and part by part. `room` is the link buffer's length
unfoldable pub call_walk : List ℕ → Table → ℕ → Handle → List ℕ → ℕ → Walked Added
call_walk a t w h path room =
    or_stop [] most_links (admit a t >>= (λ _. by_handle t w h)) (λ i.
    hold_end a t w (walk_in (start a t) (spot (row_at t i).id (row_at t i).rec) path room))
