-- What a walk is made of: "a path without links is a chain of finds (same answer, same row, same reasons)", "walking `p/q` is walking p and then q
-- from there", and parts that are names.
use Rattle.std.specs.Prelude.{◌≡◌, true, false, List, [], ◌∷◌, ◌++◌, ◌≢◌, ℕ, ◌<◌, leb, length, get_or}
use Rattle.base.specs.Out.{done, refused, bind}
use Rattle.structs.specs.declared.DiskINode.{DiskINode}
use Rattle.utf8.specs.Names.{NoSlash}
use Rattle.table.specs.declared.Table.{Table}
use Rattle.table.specs.declared.Handle.{Handle}
use Rattle.table.specs.Table.{row_at, can_hold}
use Rattle.sefs.specs.State.{Fs}
use Rattle.sefs.specs.Slots.{Slot, find_slot}
use Rattle.sefs.specs.Ask.{admit, by_handle, good_name, start}
use Rattle.sefs.specs.Open.{hold_node, call_find}
use Rattle.walk.specs.Walk.{slash, good_text, cut, parts_of, look_at, Spot, part_in, is_link, Walked, walked, or_stop, walk_on, walk_in, call_walk}

-- ---- a chain: parts that lead from one spot to another, each in the folder that the one before has led to, and none of them to a link

pub data Chain (s : Fs) : Spot → List (List ℕ) → Spot → Type 0 where
  here : {at : Spot} → Chain s at [] at
  on : {at n to : Spot} {p : List ℕ} {ps : List (List ℕ)} → part_in s at.rec p ≡ done n → is_link n.rec ≡ false → Chain s n ps to → Chain s at (p ∷ ps) to

-- the walk goes where the chain leads; no link is met, and nothing is put into the link buffer
unfoldable pub Leads : Type 0
Leads = (s : Fs) (room k : ℕ) (b : List ℕ) (at to : Spot) (ps : List (List ℕ)) → Chain s at ps to → walk_on s room k b at ps ≡ walked b k (done to)

-- and where the chain's next part is refused, so is the walk, with its reason
unfoldable pub Halts : Type 0
Halts = (s : Fs) (room k : ℕ) (b : List ℕ) (at to : Spot) (ps : List (List ℕ)) (p : List ℕ) (qs : List (List ℕ)) (n : ℕ)
    → Chain s at ps to → part_in s to.rec p ≡ refused n → walk_on s room k b at (ps ++ (p ∷ qs)) ≡ walked b k (refused n)

-- ---- a part is a find

-- what the name leads to in folder r is no link. (And its type is one that there is: the walk looks at it, find does not.)
abbrev pub NoLink : Fs → DiskINode → List ℕ → Type 0
NoLink s r name = (e : Slot) (n : DiskINode) → find_slot s.arena r name ≡ done e → look_at s e.entry.id ≡ done n → (leb n.kind 4 ≡ true) × (is_link n ≡ false)

-- find by a handle is the part in the folder of the handle's row, with a hold on the node that it leads to: the same reasons in the same order.
-- The asker has a place: where he has none, find is refused with 16 before the node is opened, and the walk looks at it first
unfoldable pub PartFinds : Type 0
PartFinds = (a : List ℕ) (t : Table) (w : ℕ) (h : Handle) (name : List ℕ) (i : ℕ) → admit a t ≡ done tt → by_handle t w h ≡ done i → good_name name ≡ done tt
    → can_hold t w ≡ true → NoLink (start a t) (row_at t i).rec name
    → call_find a t w h name ≡ bind (part_in (start a t) (row_at t i).rec name) (λ n. hold_node (start a t) w n.id)

-- and a path that is a name is find: the same hold, row and table, or the same reason. (An empty path is refused with 5; to find it is `.`)
unfoldable pub WalkFinds : Type 0
WalkFinds = (a : List ℕ) (t : Table) (w : ℕ) (h : Handle) (name : List ℕ) (room : ℕ) → name ≢ [] → NoSlash name
    → can_hold t w ≡ true → ((i : ℕ) → by_handle t w h ≡ done i → NoLink (start a t) (row_at t i).rec name)
    → (call_walk a t w h name room).end ≡ call_find a t w h name

-- ---- a path and another after it

-- a walk, and then another from where it ends, with the targets that stand in the buffer and the links that may still be met
abbrev pub and_then : Walked Spot → (List ℕ → ℕ → Spot → Walked Spot) → Walked Spot
and_then x g = or_stop x.links x.left x.end (g x.links x.left)

-- "walking `p/q` is walking p and then q from there, where p has no link at its end". It holds whatever p ends with: a link at its end is followed
-- before q in both, and links and targets are counted through. (p is no lone slash, and q has no leading one: `//` is not good)
unfoldable pub Joins : Type 0
Joins = (s : Fs) (room : ℕ) (at : Spot) (p q : List ℕ) → good_text p ≡ true → good_text (p ++ (slash ∷ q)) ≡ true
    → walk_in s at (p ++ (slash ∷ q)) room ≡ and_then (walk_in s at p room) (λ b k to. walk_on s room k b to (cut q))

-- ---- the parts of a good text

-- "with single slashes": no part is empty, and none has a slash
abbrev pub IsPart : List ℕ → Type 0
IsPart l = (l ≢ []) × NoSlash l

unfoldable pub PartsGood : Type 0
PartsGood = (l : List ℕ) → good_text l ≡ true → (i : ℕ) → i < length (parts_of l) → IsPart (get_or (parts_of l) i [])
