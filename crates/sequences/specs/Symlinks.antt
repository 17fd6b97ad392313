-- Order 7, where a symlink is met, said of the calls; and "23 SymLoop at the ninth link".
use Rattle.std.specs.Prelude.{◌≡◌, true, false, List, [], ◌∷◌, ◌++◌, ◌≢◌, ◌↔◌, ℕ, suc, ◌-◌, length, Some}
use Rattle.base.specs.Out.{done, refused}
use Rattle.base.specs.Reasons.{sym_loop}
use Rattle.structs.specs.declared.DiskINode.{DiskINode}
use Rattle.table.specs.declared.Table.{Table}
use Rattle.table.specs.declared.Handle.{Handle}
use Rattle.table.specs.declared.Added.{Added}
use Rattle.table.specs.Table.{live_row}
use Rattle.sefs.specs.State.{Fs}
use Rattle.sefs.specs.Ask.{start}
use Rattle.sefs.specs.Open.{call_root}
use Rattle.walk.specs.Walk.{slash, good_text, from_root, parts_of, Spot, met, along, target_of, enter, most_links, walk_text, walk_in, hold_end, call_walk}
use Rattle.walk.specs.Laws.{IsPart}
use Rattle.walk.specs.Symlinks.{LinkAt, Front}
use Rattle.sequences.specs.Pairs.{Pair, pair, Passed}
use Rattle.sequences.specs.Chains.{Finds, row_spot}

-- ---- a front, by calls

-- from a passed pair: where w's finds lead from h to g along the parts of d, and none of them to a link, `d/` is the front of a path from h's folder
-- to g's
unfoldable pub FrontByFinds : Type 0
FrontByFinds = (a : List ℕ) (t u : Table) (w : ℕ) (h g : Handle) (i j : ℕ) (d : List ℕ) → Passed (pair a t) → live_row t w h ≡ Some i → live_row u w g ≡ Some j
    → good_text d ≡ true → from_root d ≡ false → Finds a w t h (parts_of d) u g
    → Front (start a t) (row_spot t i) (d ++ (slash ∷ [])) (row_spot u j)

-- and a slash is one to the folder that root gives
unfoldable pub FrontByRoot : Type 0
FrontByRoot = (a : List ℕ) (t : Table) (w : ℕ) (g : Added) (i j : ℕ) → Passed (pair a t) → call_root a t w ≡ done g → live_row g.table w g.handle ≡ Some j
    → Front (start a t) (row_spot t i) (slash ∷ []) (row_spot g.table j)

-- ---- a link is followed

-- from a passed pair: a walk of `l/q`, `/l/q` or `d/l/q` from the folder of a live handle is the walk of `t/q` from the link's folder, with one link
-- less and t in the buffer, and the hold on where it ends
unfoldable pub FollowsCall : Type 0
FollowsCall = (x : Pair) (w : ℕ) (h : Handle) (i room : ℕ) (at : Spot) (p l q target : List ℕ) → Passed x → live_row x.table w h ≡ Some i
    → Front (start x.arena x.table) (row_spot x.table i) p at → LinkAt (start x.arena x.table) room [] at l target → IsPart l
    → good_text (p ++ (l ++ (slash ∷ q))) ≡ true → good_text target ≡ true → target ≢ slash ∷ []
    → call_walk x.arena x.table w h (p ++ (l ++ (slash ∷ q))) room
    ≡ hold_end x.arena x.table w (walk_text (start x.arena x.table) room (most_links - 1) target at (target ++ (slash ∷ q)))

-- where the target is a lone slash, it is the walk of `/q`
unfoldable pub FollowsRootCall : Type 0
FollowsRootCall = (x : Pair) (w : ℕ) (h : Handle) (i room : ℕ) (at : Spot) (p l q : List ℕ) → Passed x → live_row x.table w h ≡ Some i
    → Front (start x.arena x.table) (row_spot x.table i) p at → LinkAt (start x.arena x.table) room [] at l (slash ∷ []) → IsPart l
    → good_text (p ++ (l ++ (slash ∷ q))) ≡ true
    → call_walk x.arena x.table w h (p ++ (l ++ (slash ∷ q))) room
    ≡ hold_end x.arena x.table w (walk_text (start x.arena x.table) room (most_links - 1) (slash ∷ []) at (slash ∷ q))

-- "The final symlink is followed": a walk of `l`, `/l` or `d/l` is the walk of t
unfoldable pub FollowsNameCall : Type 0
FollowsNameCall = (x : Pair) (w : ℕ) (h : Handle) (i room : ℕ) (at : Spot) (p l target : List ℕ) → Passed x → live_row x.table w h ≡ Some i
    → Front (start x.arena x.table) (row_spot x.table i) p at → LinkAt (start x.arena x.table) room [] at l target → IsPart l
    → good_text (p ++ l) ≡ true
    → call_walk x.arena x.table w h (p ++ l) room
    ≡ hold_end x.arena x.table w (walk_text (start x.arena x.table) room (most_links - 1) target at target)

-- ---- the ninth link

-- so many links are met and followed, one after another: from the targets b, the spot and the parts at hand to others
pub data Trail (s : Fs) (room : ℕ) : ℕ → List ℕ → Spot → List (List ℕ) → List ℕ → Spot → List (List ℕ) → Type 0 where
  no-link : {b : List ℕ} {at : Spot} {ps : List (List ℕ)} → Trail s room 0 b at ps b at ps
  one_link : {k : ℕ} {b c : List ℕ} {at f to end : Spot} {ps qs rs : List (List ℕ)} {r : DiskINode} {target : List ℕ}
      → along s at ps ≡ done (met f r qs) → target_of s.arena r (room - length b) ≡ done target → enter s f target ≡ done to
      → Trail s room k (b ++ target) to (parts_of target ++ qs) c end rs → Trail s room (suc k) b at ps c end rs

-- k links are followed, and then there is one more
pub record OneMore (s : Fs) (room k : ℕ) (b : List ℕ) (at : Spot) (ps : List (List ℕ)) : Type 0 where
  pub targets : List ℕ
  pub spot : Spot
  pub parts : List (List ℕ)
  pub trail : Trail s room k b at ps targets spot parts
  pub folder : Spot
  pub rec : DiskINode
  pub rest : List (List ℕ)
  pub meets : along s spot parts ≡ done (met folder rec rest)

-- the path is good, and eight links are followed on it before a ninth is met
abbrev pub MeetsNinth : Fs → Spot → List ℕ → ℕ → Type 0
MeetsNinth s at path room = (to : Spot) × (enter s at path ≡ done to) × OneMore s room most_links [] to (parts_of path)

-- on any arena and table: a walk is refused with 23 exactly there
unfoldable pub NinthLink : Type 0
NinthLink = (a : List ℕ) (t : Table) (at : Spot) (path : List ℕ) (room : ℕ) → ((walk_in (start a t) at path room).end ≡ refused sym_loop) ↔ MeetsNinth (start a t) at path room

-- the call: from a passed pair and a live handle, 23 is answered exactly there
unfoldable pub NinthLinkCall : Type 0
NinthLinkCall = (x : Pair) (w : ℕ) (h : Handle) (i : ℕ) (path : List ℕ) (room : ℕ) → Passed x → live_row x.table w h ≡ Some i
    → ((call_walk x.arena x.table w h path room).end ≡ refused sym_loop) ↔ MeetsNinth (start x.arena x.table) (row_spot x.table i) path room
