-- Order 7, where a symlink is met: "following symlinks whose content is the target", "A relative target starts at the link's folder, a leading slash
-- at root. The final symlink is followed. When a target runs out, the remainder of the path that held the link goes on".
use Rattle.std.specs.Prelude.{◌≡◌, true, List, [], ◌∷◌, ◌++◌, ◌≢◌, ℕ, suc, ◌-◌, length}
use Rattle.base.specs.Out.{done}
use Rattle.sefs.specs.State.{Fs}
use Rattle.walk.specs.Walk.{slash, good_text, parts_of, Spot, at_root, part_in, is_link, target_of, enter, walk_on, walk_text}
use Rattle.walk.specs.Laws.{Chain, and_then, IsPart}

-- part l of the folder at hand names a symlink, and `target` is its content, which fits the room that the targets so far, b, have left
pub record LinkAt (s : Fs) (room : ℕ) (b : List ℕ) (at : Spot) (l target : List ℕ) : Type 0 where
  pub node : Spot
  pub named : part_in s at.rec l ≡ done node
  pub link : is_link node.rec ≡ true
  pub holds : target_of s.arena node.rec (room - length b) ≡ done target

-- ---- by parts

-- parts ps lead to a folder, with no link on the way, and the next part is a link: the walk is a walk of the target from that folder (from root
-- where it begins with a slash), with one link less and the target in the buffer after those so far, and then of the parts that were left. (A bad
-- target is refused with 5 by both, and stands in the buffer.)
unfoldable pub FollowsParts : Type 0
FollowsParts = (s : Fs) (room k : ℕ) (b : List ℕ) (from at : Spot) (ps : List (List ℕ)) (l target : List ℕ) (qs : List (List ℕ)) → Chain s from ps at → LinkAt s room b at l target
    → walk_on s room (suc k) b from (ps ++ (l ∷ qs)) ≡ and_then (walk_text s room k (b ++ target) at target) (λ c j to. walk_on s room j c to qs)

-- "The final symlink is followed": nothing is left, and the walk is the target's
unfoldable pub FollowsLast : Type 0
FollowsLast = (s : Fs) (room k : ℕ) (b : List ℕ) (from at : Spot) (ps : List (List ℕ)) (l target : List ℕ) → Chain s from ps at → LinkAt s room b at l target
    → walk_on s room (suc k) b from (ps ++ (l ∷ [])) ≡ walk_text s room k (b ++ target) at target

-- ---- by texts

-- the front of a text, up to the part that names the link: of `l/q` it is empty, of `/l/q` a slash, of `d/l/q` it is `d/`. It leads from where the
-- walk stands to the link's folder, with no link on the way
pub data Front (s : Fs) (from : Spot) : List ℕ → Spot → Type 0 where
  no_front : Front s from [] from
  root-front : {at : Spot} → at_root s ≡ done at → Front s from (slash ∷ []) at
  text-front : (d : List ℕ) {to at : Spot} → enter s from d ≡ done to → Chain s to (parts_of d) at → Front s from (d ++ (slash ∷ [])) at

-- walking `l/q`, `/l/q` or `d/l/q` is walking `t/q` from the folder in which l was found, with one link less and t in the buffer
unfoldable pub FollowsText : Type 0
FollowsText = (s : Fs) (room k : ℕ) (b : List ℕ) (from at : Spot) (p l q target : List ℕ) → Front s from p at → LinkAt s room b at l target → IsPart l
    → good_text (p ++ (l ++ (slash ∷ q))) ≡ true → good_text target ≡ true → target ≢ slash ∷ []
    → walk_text s room (suc k) b from (p ++ (l ++ (slash ∷ q))) ≡ walk_text s room k (b ++ target) at (target ++ (slash ∷ q))

-- where t is a lone slash, it is walking `/q` (since `//q` is bad)
unfoldable pub FollowsRoot : Type 0
FollowsRoot = (s : Fs) (room k : ℕ) (b : List ℕ) (from at : Spot) (p l q : List ℕ) → Front s from p at → LinkAt s room b at l (slash ∷ []) → IsPart l
    → good_text (p ++ (l ++ (slash ∷ q))) ≡ true
    → walk_text s room (suc k) b from (p ++ (l ++ (slash ∷ q))) ≡ walk_text s room k (b ++ (slash ∷ [])) at (slash ∷ q)

-- and walking `l`, `/l` or `d/l` is walking t
unfoldable pub FollowsName : Type 0
FollowsName = (s : Fs) (room k : ℕ) (b : List ℕ) (from at : Spot) (p l target : List ℕ) → Front s from p at → LinkAt s room b at l target → IsPart l
    → good_text (p ++ l) ≡ true
    → walk_text s room (suc k) b from (p ++ l) ≡ walk_text s room k (b ++ target) at target

-- where q may come after one text, it may after every good one but a lone slash: there `t/q` is good
unfoldable pub GoodJoins : Type 0
GoodJoins = (p q target : List ℕ) → p ≢ [] → good_text (p ++ (slash ∷ q)) ≡ true → good_text target ≡ true → target ≢ slash ∷ []
    → good_text (target ++ (slash ∷ q)) ≡ true
