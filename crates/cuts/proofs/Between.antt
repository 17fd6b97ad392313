-- Between two stores a trace is seen; before the first and after the last none is.
use mathlib.Core.Path.{◌≡◌, refl}
use mathlib.Core.Bool.{Bool, true, false}
use mathlib.Core.List.{List}
use mathlib.Core.Logic.{⊎_elim}
use Prim.Native.Nat.{ℕ, ◌/◌, ◌≤◌, ◌<◌}
use native.Mathlib.Omega.{arith}
use Rattle.base.proofs.Numbers.{lt-or-le}
use Rattle.cuts.specs.Creates.{Birth, grows, before_file, before_parent}
use Rattle.cuts.specs.Traces.{Trace, used-id, nameless-record, stray-file, longer-folder, longer-metadata, wrong-unused, zero-map, Between}
use Rattle.cuts.proofs.Facts.{known}
use Rattle.cuts.proofs.Counts.{no-group}
use Rattle.cuts.proofs.Used.{record_at, Spans, record-most}
use Rattle.cuts.proofs.Spans.{shows-b, seen_b}

module _ (a : List ℕ) (c : Birth) (n : ℕ) (l : c.id / 1024 < c.after.super.groups) where
  -- every trace comes after the first store, and is gone after the last
  pub gone : (x : Trace) → Spans a c n x → (0 < n) × (n ≤ before_parent c)
  unfolding Spans
  gone used-id s = (omega (arith, s.0), s.1)
  gone nameless-record s = (omega (arith, s.0), s.1)
  gone stray-file s = (omega (arith, s.0), omega (arith, s.1, record-most a c l))
  gone longer-folder s = (omega (arith, s.0), s.1)
  gone longer-metadata s = (s.1, omega (arith, s.2))
  gone wrong-unused s = (omega (arith, s.0), omega (arith, s.1))
  gone zero-map s = (omega (arith, s.1), omega (arith, s.2))

  -- and in between there is one
  some : 0 < n → n ≤ before_parent c → (x : Trace) × Spans a c n x
  unfolding Spans
  some o h =
      ⊎_elim
      (λ (q : record_at a c < n). (nameless-record, (q, h)))
      (λ (q : n ≤ record_at a c). ⊎_elim
      (λ (r : before_file c < n). (stray-file, (r, q)))
      (λ (r : n ≤ before_file c). group (grows c) refl r)
      (lt-or-le (before_file c) n))
      (lt-or-le (record_at a c) n)
    where
      group : (b : Bool) → grows c ≡ b → n ≤ before_file c → (x : Trace) × Spans a c n x
      group true e r = (longer-metadata, (e, o, omega arith))
      group false e r = absurd (omega (arith, no-group c e))

pub between-law : Between
unfolding Between
between-law p c g B n b h =
    let K = known p c g B in
    let l : c.id / 1024 < c.after.super.groups = omega (arith, K.taken.inside) in
    record {
      between = λ lo hi. let y = some p.arena c n l lo hi in (y.0, shows-b p c g B n b h y.0 y.1);
      none = λ z x e. absurd (let y = gone p.arena c n l x (seen_b p c g B n b h x e) in omega (arith, y.0));
      end = λ z x e. absurd (let y = gone p.arena c n l x (seen_b p c g B n b h x e) in omega (arith, y.1));
    }
