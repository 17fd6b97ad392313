-- Order 7, where a symlink is met (crates/sequences, Symlinks), said of runs of `dz_walk` and `dz_own_walk`; and "23 SymLoop at the ninth link".
use Rattle.std.specs.Prelude.{◌≡◌, true, List, [], ◌∷◌, ◌++◌, ◌≢◌, ◌↔◌, ℕ, ◌-◌, Some}
use Rattle.base.specs.Out.{answer}
use Rattle.base.specs.Parts.{paste}
use Rattle.base.specs.Reasons.{sym_loop}
use Rattle.table.specs.declared.Handle.{Handle}
use Rattle.table.specs.declared.Added.{Added}
use Rattle.table.specs.Table.{live_row}
use Rattle.sefs.specs.State.{Fs}
use Rattle.sefs.specs.Ask.{start}
use Rattle.walk.specs.Walk.{slash, good_text, Spot, Walked, most_links, walk_text, hold_end}
use Rattle.walk.specs.Laws.{IsPart}
use Rattle.walk.specs.Symlinks.{LinkAt, Front}
use Rattle.edge_words.specs.Words.{handle_words}
use Rattle.edge.specs.Edge.{lent}
use Rattle.sequences.specs.Pairs.{pair}
use Rattle.sequences.specs.Calls.{walk, Fits}
use Rattle.sequences.specs.Chains.{row_spot}
use Rattle.sequences.specs.Symlinks.{MeetsNinth}
use Rattle.linked.specs.Images.{Image, pair_of, Places}
use Rattle.linked.specs.Linked.{Functions}

-- what a walk goes by: the arena, and the open nodes of the table
abbrev pub state_of : Image → Fs
state_of s = start s.arena (pair_of s).table

-- a run from s, that was lent x, left u and y and returned n, did the walk o: the number is how o ends, the words are hold and stamp of the handle that
-- o gives, the link buffer begins with the targets that o has read, and arena and table are as o leaves them; a refusal leaves table and words as they were
pub record WalkedAs (o : Walked Added) (s : Image) (x : Places) (u : Image) (y : Places) (n : ℕ) : Type 0 where
  pub number : n ≡ answer o.end
  pub words : y.words ≡ lent (λ g. handle_words g.handle) x.words o.end
  pub links : y.links ≡ paste x.links 0 o.links
  pub left : pair_of u ≡ lent (λ g. pair s.arena g.table) (pair_of s) o.end

-- a path p, l, .. from w's live handle h meets a link: its front p leads to the folder `at`, with no link on the way, and part l of that folder names a
-- symlink, whose target fits the link buffer's room
pub record MeetsLink (s : Image) (w : ℕ) (h : Handle) (room : ℕ) (at : Spot) (p l target : List ℕ) : Type 0 where
  pub row : ℕ
  pub live : live_row (pair_of s).table w h ≡ Some row
  pub front : Front (state_of s) (row_spot (pair_of s).table row) p at
  pub link : LinkAt (state_of s) room [] at l target
  pub part : IsPart l

-- the walk of a text from the link's folder, with one link less and the target in the buffer, and w's hold on where it ends
abbrev pub from_link : Image → ℕ → ℕ → Spot → List ℕ → List ℕ → Walked Added
from_link s w room at target text = hold_end s.arena (pair_of s).table w (walk_text (state_of s) room (most_links - 1) target at text)

module _ (R : Functions) (I : Image → Type 0) where
  -- `follows-call`: a run that walks `l/q`, `/l/q` or `d/l/q` did the walk of `t/q` from the link's folder
  unfoldable pub RunFollows : Type 0
  RunFollows = (s u : Image) (x y : Places) (n w : ℕ) (h : Handle) (room : ℕ) (at : Spot) (p l q target : List ℕ) → I s → MeetsLink s w h room at p l target
      → good_text (p ++ (l ++ (slash ∷ q))) ≡ true → good_text target ≡ true → target ≢ slash ∷ []
      → Fits (walk w h (p ++ (l ++ (slash ∷ q))) room) → R (walk w h (p ++ (l ++ (slash ∷ q))) room) s x u y n → n ≢ 255
      → WalkedAs (from_link s w room at target (target ++ (slash ∷ q))) s x u y n

  -- `follows-root-call`: where the target is a lone slash, it did the walk of `/q`
  unfoldable pub RunFollowsRoot : Type 0
  RunFollowsRoot = (s u : Image) (x y : Places) (n w : ℕ) (h : Handle) (room : ℕ) (at : Spot) (p l q : List ℕ) → I s → MeetsLink s w h room at p l (slash ∷ [])
      → good_text (p ++ (l ++ (slash ∷ q))) ≡ true
      → Fits (walk w h (p ++ (l ++ (slash ∷ q))) room) → R (walk w h (p ++ (l ++ (slash ∷ q))) room) s x u y n → n ≢ 255
      → WalkedAs (from_link s w room at (slash ∷ []) (slash ∷ q)) s x u y n

  -- `follows-name-call`, "The final symlink is followed": a run that walks `l`, `/l` or `d/l` did the walk of t
  unfoldable pub RunFollowsName : Type 0
  RunFollowsName = (s u : Image) (x y : Places) (n w : ℕ) (h : Handle) (room : ℕ) (at : Spot) (p l target : List ℕ) → I s → MeetsLink s w h room at p l target
      → good_text (p ++ l) ≡ true → Fits (walk w h (p ++ l) room) → R (walk w h (p ++ l) room) s x u y n → n ≢ 255
      → WalkedAs (from_link s w room at target target) s x u y n

  -- `ninth-link-call`: from a live handle, a walk returns 23 exactly where the path is good, eight links are followed on it and a ninth is met
  unfoldable pub RunNinth : Type 0
  RunNinth = (s u : Image) (x y : Places) (n w : ℕ) (h : Handle) (i : ℕ) (path : List ℕ) (room : ℕ) → I s → live_row (pair_of s).table w h ≡ Some i
      → Fits (walk w h path room) → R (walk w h path room) s x u y n → n ≢ 255
      → (n ≡ sym_loop) ↔ MeetsNinth (state_of s) (row_spot (pair_of s).table i) path room

  pub record Symlinks : Type 0 where
    pub follows : RunFollows
    pub follows-root : RunFollowsRoot
    pub follows-name : RunFollowsName
    pub ninth : RunNinth
