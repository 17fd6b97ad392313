-- A handle that was closed stays closed: no stamp is given twice.
use mathlib.Core.Path.{◌≡◌, subst}
use mathlib.Core.List.{[], ◌∷◌}
use Prim.Native.Nat.{ℕ, ◌<◌}
use native.Mathlib.Omega.{arith}
use Rattle.base.specs.Out.{Out, kept, Ok, went, said}
use Rattle.base.proofs.Outs.{ok-bind, ok-done}
use Rattle.table.specs.declared.Table.{Table}
use Rattle.table.specs.declared.Handle.{Handle}
use Rattle.table.specs.Table.{live_row, add_hold, close_hold}
use Rattle.std.specs.Prelude.{None}
use Rattle.table_laws.specs.Rules.{Live}
use Rattle.table_laws.proofs.Handles.{dead-nothing, live_below, add-dead, close-dead, close-ends}
use Rattle.table_laws.proofs.Holds.{add-cases, close-cases}
use Rattle.sefs_laws.proofs.Rows.{Any, Alters, Takes, Yields, tabled}
use Rattle.image.proofs.Handles.{formed}
use Rattle.sequences.specs.Pairs.{Pair, Passed}
use Rattle.sequences.specs.Calls.{Call, does, next}
use Rattle.sequences.specs.Promises.{ends, goes, Spent, Closed, Ended}
use Rattle.sequences.proofs.Passing.{allowed}
use Rattle.sequences.proofs.Tables.{keeps-close, keeps-table}

module _ (h : Handle) where
  -- rows do not matter
  spent-alters : Alters (λ t. Spent t h)
  spent-alters t i r e q d s = record { some = s.some; given = s.given; gone = s.gone }

  spent-takes : Takes (λ t. Spent t h)
  spent-takes t i r e s = record { some = s.some; given = s.given; gone = s.gone }

  spent-yields : Yields (λ t. Spent t h)
  spent-yields t i e s = record { some = s.some; given = s.given; gone = s.gone }

  -- a new hold's stamp is the next, which was not given
  spent-adds : (t : Table) (w row : ℕ) → Spent t h → Spent (add_hold t w row).table h
  spent-adds t w row s = record {
    some = s.some;
    given = add-cases (λ u. h.stamp < u.next) t w row s.given (λ g. omega (arith, s.given));
    gone = add-dead t w row h (λ v e. s.gone e) s.given s.some;
  }

  spent-closes : (t : Table) (k : ℕ) → Spent t h → Spent (close_hold t k).table h
  spent-closes t k s = record {
    some = s.some;
    given = close-cases (λ u. h.stamp < u.next) t k s.given (λ g. s.given);
    gone = close-dead t k h (λ v e. s.gone e) s.some;
  }

  spent-does : (c : Call) (p : Pair) → Spent p.table h → Spent (next c p).table h
  spent-does c p s = stays (keeps-table (λ t. Spent t h) spent-alters spent-takes spent-yields spent-adds c p (λ w g e i l s. spent-closes p.table g.hold s) s)
    where
      stays : {o : Out Pair} → Ok (λ (q : Pair). Spent q.table h) Any o → Spent (kept p o).table h
      stays (went q) = q
      stays (said r) = s

  -- its own close
  spent-own : (p : Pair) → Passed p → (w i : ℕ) → Live p.table w h i → Spent (close_hold p.table h.hold).table h
  spent-own p y w i l =
      let f = formed p.arena p.table (allowed p y) in
      let b : h.stamp < p.table.next = live_below p.table w h i f l in
      record {
        some = l.given;
        given = close-cases (λ u. h.stamp < u.next) p.table h.hold b (λ g. b);
        gone = close-ends p.table h f l.is-hold l.given;
      }

pub closed : Closed
unfolding Closed does
closed p q w h y e =
    ok-done (subst (Ok (λ (x : Pair). Spent x.table h) Any) e
    (ok-bind (keeps-close (λ a t. Spent t h) (tabled (λ t. Spent t h) (spent-alters h) (spent-takes h) (spent-yields h)) p.arena p.table w h (spent-own h p y w)) λ x s. went s))

pub ended : Ended
unfolding Ended
ended p [] h s = ends
ended p (c ∷ l) h s = goes (spent-does h c p s) (ended (next c p) l h (spent-does h c p s))

-- it is live nowhere, so every owner's call with it is refused with 4
pub spent-dead : (t : Table) (w : ℕ) (h : Handle) → Spent t h → live_row t w h ≡ None
spent-dead t w h s = dead-nothing t w h (λ v e. s.gone e)
