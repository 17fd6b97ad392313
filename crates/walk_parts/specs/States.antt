-- Where a walk stands in a text, and between two, as the code has it.
use Rattle.std.specs.Prelude.{true, false, ◌≡◌, List, ℕ, ◌<◌, drop, Result, Ok, Err}
use Rattle.base.specs.Out.{Out, done, refused, ◌>>=◌}
use Rattle.base.specs.Search.{pick}
use Rattle.base.specs.Told.{number, code}
use Rattle.base.specs.declared.reasons.Reason.{Reason}
use Rattle.table.specs.Zero.{zero_record}
use Rattle.sefs.specs.State.{Fs}
use Rattle.sefs.specs.Ask.{type_in_range}
use Rattle.walk.specs.Walk.{cut, look_at, Spot, spot, Way, ended, met}
use Rattle.walk_parts.specs.declared.Stand.{Stand}
use Rattle.walk_parts.specs.declared.Passed.{Passed}
use Rattle.walk_parts.specs.declared.Going.{Going}

-- what stands for a place to stand where none is given
abbrev pub no_stand : Stand
no_stand = record { id = 0; rec = zero_record }

-- what stands for a text that was passed where none is
abbrev pub no_passed : Passed
no_passed = record { link = false; id = 0; rec = zero_record; node = zero_record; place = 0 }

-- the node that a slot names; its type is looked at
unfoldable pub stand_on : Fs → ℕ → Out Spot
stand_on s id = do
  n ← look_at s id
  _ ← type_in_range n
  done (spot id n)

-- how the walk along what is left of a text went
unfoldable pub way_of : List ℕ → Result Passed Reason → Out Way
way_of l (Ok p) = done (pick p.link (met (spot p.id p.rec) p.node (cut (drop p.place l))) (ended (spot p.id p.rec)))
way_of l (Err e) = refused (number e)

-- a text is entered, at the spot e or not
pub record Entered (h : Going) (o : Out Spot) (k n d f e : ℕ) : Type 0 where
  pub goes : h.over ≡ false → o ≡ done (spot h.id h.rec)
  pub ends : h.over ≡ true → (o ≡ refused (code h.ended)) × (0 < code h.ended)
  pub left : h.left ≡ k
  pub used : h.used ≡ n
  pub depth : h.depth ≡ d
  pub from : h.from ≡ f
  pub to : h.to ≡ e
