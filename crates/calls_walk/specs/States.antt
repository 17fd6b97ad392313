-- Where a walk is between two texts, as the code has it.
use Rattle.std.specs.Prelude.{true, false, ◌≡◌, List, [], ◌++◌, ℕ, zero, suc, ◌+◌, ◌-◌, ◌*◌, ◌<◌, ◌≤◌, length, get_or, take, drop, eqb, Ok, Err}
use Rattle.base.specs.Count.{bit}
use Rattle.base.specs.Out.{Out, done, refused}
use Rattle.base.specs.Parts.{paste}
use Rattle.base.specs.Search.{pick}
use Rattle.base.specs.Told.{number, code}
use Rattle.base.specs.declared.reasons.Reason.{Reason}
use Rattle.sefs.specs.State.{Fs}
use Rattle.walk.specs.Walk.{from_root, cut, Spot, spot, met, along, target_of, enter, Walked, walked, walk_on}
use Rattle.walk_parts.specs.Texts.{left_of, bound_of}
use Rattle.walk_parts.specs.States.{Entered}
use Rattle.walk_parts.specs.declared.Passed.{Passed}
use Rattle.walk_parts.specs.declared.Going.{Going}

-- the rests that are remembered: d of them, each by the two places at which it begins and ends, the last one first
unfoldable pub rests_of : List ℕ → List ℕ → List ℕ → ℕ → List (List ℕ)
rests_of path b m zero = []
rests_of path b m (suc d) = cut (left_of path b d (get_or m (2 * d) 0) (get_or m (2 * d + 1) 0)) ++ rests_of path b m d

-- the targets that stand in the buffer
abbrev pub read_of : List ℕ → Going → List ℕ
read_of links g = take g.used links

-- what is still to be walked
abbrev pub parts_left : List ℕ → List ℕ → List ℕ → Going → List (List ℕ)
parts_left path b m g = cut (left_of path b g.depth g.from g.to) ++ rests_of path b m g.depth

abbrev pub end_of : Going → Out Spot
end_of g = pick (eqb (code g.ended) 0) (done (spot g.id g.rec)) (refused (code g.ended))

-- how the walk will end, from here on; it has ended where it is over
unfoldable pub outcome : Fs → List ℕ → List ℕ → List ℕ → Going → Walked Spot
outcome s path links m g = pick g.over (walked (read_of links g) g.left (end_of g)) (walk_on s (length links) g.left (read_of links g) (spot g.id g.rec) (parts_left path (read_of links g) m g))

-- every place lies where it should
pub record Marked (path b m : List ℕ) (d : ℕ) : Type 0 where
  pub order : get_or m (2 * d) 0 ≤ get_or m (2 * d + 1) 0
  pub inside : get_or m (2 * d + 1) 0 ≤ bound_of path b d

pub record Stands (path links m : List ℕ) (g : Going) : Type 0 where
  pub read : g.used ≤ length links
  pub few : g.depth + g.left ≤ 8
  pub order : g.from ≤ g.to
  pub inside : g.to ≤ bound_of path (read_of links g) g.depth
  pub size : length m ≡ 16
  pub marks : (j : ℕ) → j < g.depth → Marked path (read_of links g) m j

-- a link less, or a text less
abbrev pub weight : Going → ℕ
weight g = pick g.over 0 (suc (2 * g.left + g.depth))

-- from g to h: the buffer was `links` and is `now`, the marks were m and are n. It goes on as it would have, and no byte after the targets changed
pub record Turned (s : Fs) (path links now m n : List ℕ) (g h : Going) : Type 0 where
  pub same : outcome s path now n h ≡ outcome s path links m g
  pub grows : g.used ≤ h.used
  pub used : h.used ≤ length now
  pub size : length now ≡ length links
  pub marks : length n ≡ length m
  pub kept : drop h.used now ≡ drop h.used links
  pub less : weight h < weight g
  pub stands : h.over ≡ false → Stands path now n h

-- ---- the states that the code makes

abbrev pub stop : Going → Reason → Going
stop g e = record {
  over = true;
  ended = Err e;
  id = g.id;
  rec = g.rec;
  left = g.left;
  used = g.used;
  depth = g.depth;
  from = g.from;
  to = g.to;
}

-- all texts have run out
abbrev pub arrive : Going → Passed → Going
arrive g p = record {
  over = true;
  ended = Ok tt;
  id = p.id;
  rec = p.rec;
  left = g.left;
  used = g.used;
  depth = g.depth;
  from = g.from;
  to = g.to;
}

-- the text has run out, and the rest that was remembered last goes on
abbrev pub go_back : List ℕ → Going → Passed → Going
go_back m g p = record {
  over = false;
  ended = Ok tt;
  id = p.id;
  rec = p.rec;
  left = g.left;
  used = g.used;
  depth = g.depth - 1;
  from = get_or m (2 * (g.depth - 1)) 0;
  to = get_or m (2 * (g.depth - 1) + 1) 0;
}

-- along what is left of the text p met a link
pub record Meets (s : Fs) (path links : List ℕ) (g : Going) (p : Passed) : Type 0 where
  pub going : g.over ≡ false
  pub way : along s (spot g.id g.rec) (cut (left_of path (read_of links g) g.depth g.from g.to)) ≡ done (met (spot p.id p.rec) p.node (cut (drop p.place (left_of path (read_of links g) g.depth g.from g.to))))
  pub place : p.place ≤ g.to - g.from

-- a link was followed, or not: the buffer was `links` and is `now`
pub data Followed (s : Fs) (links now : List ℕ) (g : Going) (p : Passed) (h : Going) : Type 0 where
  unread : {e : Reason} → 0 < number e → target_of s.arena p.node (length links - g.used) ≡ refused (number e) → now ≡ links → h ≡ stop g e → Followed s links now g p h
  read : {l : List ℕ} → target_of s.arena p.node (length links - g.used) ≡ done l → g.used + length l ≤ length links → now ≡ paste links g.used l → Entered h (enter s (spot p.id p.rec) l) (g.left - 1) (g.used + length l) (g.depth + 1) (g.used + bit (from_root l)) (g.used + length l) → Followed s links now g p h

-- the whole walk: it ended as o says, and the buffer, which was `was` and is `now`, has the targets
pub record Walks (o : Walked Spot) (was now : List ℕ) (h : Going) : Type 0 where
  pub links : now ≡ paste was 0 o.links
  pub end : o.end ≡ end_of h
