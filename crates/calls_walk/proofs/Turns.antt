-- From text to text: what a turn of the walk comes to.
use mathlib.Core.Path.{◌≡◌, refl, sym, ◌∙◌, ap}
use mathlib.Core.Bool.{true, false}
use mathlib.Core.List.{List, [], ◌++◌}
use Prim.Native.Nat.{ℕ, zero, suc, ◌+◌, ◌-◌, ◌*◌, ◌≤◌}
use native.Mathlib.Omega.{arith}
use lib.ListN.{length, get_or}
use borrow.Author.Tests.{ne_eqb}
use Rattle.base.specs.Out.{done, refused}
use Rattle.base.proofs.Bools.{true-false}
use Rattle.base.specs.Told.{number}
use Rattle.base.specs.declared.reasons.Reason.{Reason}
use Rattle.base.proofs.Outs.{above_zero}
use Rattle.base.proofs.Tells.{number-ne}
use Rattle.sefs.specs.State.{Fs}
use Rattle.walk.specs.Walk.{cut, spot, ended, along, walked, walk_on}
use Rattle.walk.proofs.Walks.{along-none, more, along-join, walk-stop, walk_end, walk-resume}
use Rattle.walk_parts.specs.Texts.{left_of}
use Rattle.walk_parts.specs.declared.Going.{Going}
use Rattle.walk_parts.specs.declared.Passed.{Passed}
use Rattle.calls_walk.specs.States.{rests_of, read_of, end_of, outcome, Stands, Turned, stop, arrive, go_back}

-- ---- the state that a turn begins with

module _ (s : Fs) (path links m : List ℕ) (g : Going) where
  abbrev b : List ℕ
  b = read_of links g

  abbrev text : List ℕ
  text = left_of path b g.depth g.from g.to

  abbrev rests : List (List ℕ)
  rests = rests_of path b m g.depth

  pub outcome-over : (h : Going) → h.over ≡ true → outcome s path links m h ≡ walked (read_of links h) h.left (end_of h)
  unfolding outcome
  outcome-over h e = rw e

  pub outcome-going : g.over ≡ false → outcome s path links m g ≡ walk_on s (length links) g.left b (spot g.id g.rec) (cut text ++ rests)
  unfolding outcome
  outcome-going e = rw e

  -- it is over with a reason
  stop-out : (r : Reason) (o : List ℕ) → outcome s path links o (stop g r) ≡ walked b g.left (refused (number r))
  unfolding outcome
  stop-out r o = rw (ne_eqb (number r) 0 (number-ne r))

  pub stopped : (r : Reason) (o : List ℕ) → length o ≡ length m → g.over ≡ false → g.used ≤ length links → walk_on s (length links) g.left b (spot g.id g.rec) (cut text ++ rests) ≡ walked b g.left (refused (number r)) → Turned s path links links m o g (stop g r)
  stopped r o y e u q =
      record {
        same = stop-out r o ∙ sym q ∙ sym (outcome-going e);
        grows = omega arith;
        used = u;
        size = refl;
        marks = y;
        kept = refl;
        less = rw e (omega arith);
        stands = λ t. absurd (true-false refl t);
      }

  module _ (e : g.over ≡ false) (S : Stands path links m g) where
    -- a part was refused
    pub turn-stop : (r : Reason) → along s (spot g.id g.rec) (cut text) ≡ refused (number r) → Turned s path links links m m g (stop g r)
    turn-stop r q = stopped r m refl e S.read (walk-stop s (length links) g.left b (spot g.id g.rec) (cut text ++ rests) (along-join s (spot g.id g.rec) (cut text) rests ∙ ap (more s rests) q))

    module _ (p : Passed) (q : along s (spot g.id g.rec) (cut text) ≡ done (ended (spot p.id p.rec))) where
      goes_on : outcome s path links m g ≡ walk_on s (length links) g.left b (spot p.id p.rec) rests
      goes_on = outcome-going e ∙ walk-resume s (length links) g.left b (spot g.id g.rec) (cut text) rests q

      -- the path has run out
      no-rests : g.depth ≡ 0 → rests ≡ []
      unfolding rests_of
      no-rests z = ap (rests_of path b m) z

      pub turn-arrive : g.depth ≡ 0 → Turned s path links links m m g (arrive g p)
      turn-arrive z =
          record {
            same = outcome-over (arrive g p) refl ∙ sym (goes_on ∙ ap (walk_on s (length links) g.left b (spot p.id p.rec)) (no-rests z) ∙ walk_end s (length links) g.left b (spot p.id p.rec) [] (along-none s (spot p.id p.rec)));
            grows = omega arith;
            used = S.read;
            size = refl;
            marks = refl;
            kept = refl;
            less = rw e (omega arith);
            stands = λ t. absurd (true-false refl t);
          }

      -- a target has
      last_rest : (d : ℕ) → (d ≡ 0 → ⊥) → rests_of path b m d ≡ cut (left_of path b (d - 1) (get_or m (2 * (d - 1)) 0) (get_or m (2 * (d - 1) + 1) 0)) ++ rests_of path b m (d - 1)
      unfolding rests_of
      last_rest zero n = absurd (n refl)
      last_rest (suc d) n = ap (λ (k : ℕ). cut (left_of path b k (get_or m (2 * k) 0) (get_or m (2 * k + 1) 0)) ++ rests_of path b m k) (let y : d ≡ suc d - 1 = omega arith in y)

      back-out : outcome s path links m (go_back m g p) ≡ walk_on s (length links) g.left b (spot p.id p.rec) (cut (left_of path b (g.depth - 1) (get_or m (2 * (g.depth - 1)) 0) (get_or m (2 * (g.depth - 1) + 1) 0)) ++ rests_of path b m (g.depth - 1))
      unfolding outcome
      back-out = refl

      pub turn-back : (g.depth ≡ 0 → ⊥) → Turned s path links links m m g (go_back m g p)
      turn-back z =
          let M = S.marks (g.depth - 1) (omega (arith, above_zero g.depth z)) in
          record {
            same = back-out ∙ sym (goes_on ∙ ap (walk_on s (length links) g.left b (spot p.id p.rec)) (last_rest g.depth z));
            grows = omega arith;
            used = S.read;
            size = refl;
            marks = refl;
            kept = refl;
            less = rw e (omega (arith, above_zero g.depth z));
            stands = λ _. record {
              read = S.read;
              few = omega (arith, S.few);
              order = M.order;
              inside = M.inside;
              size = S.size;
              marks = λ j h. S.marks j (omega (arith, h));
            };
          }
