-- Span by span: where a span begins, which names it has, and what is written of the path.
use mathlib.Core.Path.{◌≡◌, sym, ap, ◌∙◌, subst}
use mathlib.Core.List.{List, [], ◌++◌, append_assoc}
use mathlib.Core.Logic.{◌≢◌}
use Prim.Native.Nat.{ℕ, suc, ◌+◌, ◌-◌, ◌*◌, ◌/◌, ◌≤◌, ◌<◌}
use native.Mathlib.Omega.{arith}
use lib.ListN.{length, take, drop, get_or, length-append, take-append-drop}
use lib.Seq.{take_at, take_all}
use Rattle.base.specs.Out.{done, Went}
use Rattle.base.specs.Parts.{paste}
use Rattle.base.proofs.Lists.{length-paste}
use Rattle.base.proofs.Outs.{went-is}
use Rattle.structs.specs.declared.DiskINode.{DiskINode}
use Rattle.sefs.specs.State.{Fs}
use Rattle.sefs.specs.Move.{record_on}
use Rattle.walk.specs.Walk.{Spot, spot}
use Rattle.paths.specs.Path.{names_to, slashed}
use Rattle.paths.specs.Spans.{up_by, last_to, Spans}
use Rattle.paths.proofs.Spans.{spans}
use Rattle.paths.proofs.Turns.{folder-record, up-looked, last-count}
use Rattle.calls_path.specs.Path.{NamesFit, NamesWritten, SpanFits, SpanWritten, PathFits, PathWritten}
use Rattle.calls_path.proofs.Names.{same-done, went-zero, paste-nothing, names-after, length-names}

-- ---- one span

module _ {s : Fs} {x : ℕ} {r : DiskINode} {m : List ℕ} {k steps at : ℕ} {out : List ℕ} (F : SpanFits s x r m k steps at out) where
  -- from the folder that was asked for
  module _ (z : k ≡ 0) where
    up_none : up_by s (32 * k) x r ≡ done (spot x r)
    unfolding up_by
    up_none = ap (λ (i : ℕ). up_by s (32 * i) x r) z

    pub first_fits : NamesFit (last_to s steps x r) at out
    first_fits =
        subst (λ (u : Spot). NamesFit (last_to s steps u.id u.rec) at out) (same-done F.from (spot x r) F.up up_none) F.names

    pub first-written : {now : List ℕ} {end : ℕ} → NamesWritten (last_to s steps x r) at out now end → SpanWritten s x r k steps at out now end
    first-written N = record { from = spot x r; up = up_none; names = N }

  -- from one that is noted: its record is that of its id
  module _ (z : k ≢ 0) {rec : DiskINode} {P : Type 0} {n : ℕ} (W : Went (record_on s (get_or m k 0)) rec P n) where
    looked : record_on s (get_or m k 0) ≡ done F.from.rec
    looked =
        ap (record_on s) (F.noted (omega arith))
        ∙ folder-record s F.from.id F.from.rec (up-looked s (32 * k - 1) x r F.from (ap (λ (i : ℕ). up_by s i x r) (let q : suc (32 * k - 1) ≡ 32 * k = omega arith in q) ∙ F.up))

    pub noted-there : n ≡ 0
    noted-there = went-zero W looked

    noted-is : F.from ≡ spot (get_or m k 0) rec
    noted-is =
        let g = F.noted (omega arith) in
        let q : F.from.rec ≡ rec = same-done F.from.rec rec looked (went-is W noted-there) in
        λ i. spot (sym g i) (q i)

    pub noted-fits : NamesFit (last_to s steps (get_or m k 0) rec) at out
    noted-fits = subst (λ (u : Spot). NamesFit (last_to s steps u.id u.rec) at out) noted-is F.names

    pub noted-written : {now : List ℕ} {end : ℕ} → NamesWritten (last_to s steps (get_or m k 0) rec) at out now end → SpanWritten s x r k steps at out now end
    noted-written N = record { from = spot (get_or m k 0) rec; up = F.up ∙ ap done noted-is; names = N }

-- ---- a piece of the path: the names of the folders from number `start` up to number `below` of the way up

record Piece (s : Fs) (x : ℕ) (r : DiskINode) (names : List (List ℕ)) (below start : ℕ) : Type 0 where
  top : Spot
  up : up_by s start x r ≡ done top
  own : List (List ℕ)
  last : last_to s (below - start) top.id top.rec ≡ done own
  joins : take (length names - start) names ≡ take (length names - below) names ++ own

front-is : (names a b : List (List ℕ)) (n : ℕ) → names ≡ a ++ b → length names ≡ n + length b → take n names ≡ a
front-is names a b n e h = ap (take n) e ∙ take_at a b n (omega (arith, ap length e, length-append a b))

module _ (s : Fs) (x : ℕ) (r : DiskINode) (names : List (List ℕ)) (below start : ℕ) (p : start ≤ below) (q : below ≤ length names) where
  -- a span from the whole, and then one from what is above it
  two-spans : {n m : ℕ} (S : Spans s start n x r names) → Spans s (below - start) m S.top.id S.top.rec S.before → Piece s x r names below start
  two-spans S T =
      let l = last-count s start x r S.rest S.last in
      let k = last-count s (below - start) S.top.id S.top.rec T.rest T.last in
      let all : names ≡ T.before ++ (T.rest ++ S.rest) = S.all ∙ ap (λ (z : List (List ℕ)). z ++ S.rest) T.all ∙ append_assoc T.before T.rest S.rest in
      let front = front-is names T.before (T.rest ++ S.rest) (length names - below) all (omega (arith, l, k, length-append T.rest S.rest)) in
      record {
        top = S.top;
        up = S.up;
        own = T.rest;
        last = T.last;
        joins =
            front-is names S.before S.rest (length names - start) S.all (omega (arith, l))
            ∙ T.all
            ∙ ap (λ (z : List (List ℕ)). z ++ T.rest) (sym front);
      }

  above-long : {n : ℕ} (S : Spans s start n x r names) → below - start ≤ length S.before
  above-long S = omega (arith, ap length S.all, length-append S.before S.rest, last-count s start x r S.rest S.last)

  piece : names_to s 4096 x r ≡ done names → length names ≤ 4096 → Piece s x r names below start
  piece e h =
      go (spans s start (4096 - start) x r names (ap (λ (i : ℕ). names_to s i x r) (let o : start + (4096 - start) ≡ 4096 = omega arith in o) ∙ e) (omega arith))
    where
      go : Spans s start (4096 - start) x r names → Piece s x r names below start
      go S =
          two-spans S
          (spans s (below - start) (4096 - below) S.top.id S.top.rec S.before
          (ap (λ (i : ℕ). names_to s i S.top.id S.top.rec) (let o : below - start + (4096 - below) ≡ 4096 - start = omega arith in o) ∙ S.above) (above-long S))

-- ---- the path so far: the names of the lowest `below` folders are still to be written

pub record Sofar (s : Fs) (x : ℕ) (r : DiskINode) (m : List ℕ) (folders : ℕ) (out : List ℕ) (below at : ℕ) (now : List ℕ) : Type 0 where
  pub whole : PathFits s x r m folders out
  pub most : below ≤ folders
  pub ends : at ≡ length (slashed (take (folders - below) whole.counted.names))
  pub written : now ≡ paste out 0 (slashed (take (folders - below) whole.counted.names))

pub path-starts : {s : Fs} {x : ℕ} {r : DiskINode} {m : List ℕ} {folders : ℕ} {out : List ℕ} → PathFits s x r m folders out → Sofar s x r m folders out folders 0 out
unfolding slashed
path-starts {folders = folders} {out = out} F =
    let z : take (folders - folders) F.counted.names ≡ [] = ap (λ (n : ℕ). take n F.counted.names) (let q : folders - folders ≡ 0 = omega arith in q) in
    record {
      whole = F;
      most = omega arith;
      ends = sym (ap (λ (l : List (List ℕ)). length (slashed l)) z);
      written = sym (paste-nothing out 0) ∙ sym (ap (λ (l : List (List ℕ)). paste out 0 (slashed l)) z);
    }

module _ {s : Fs} {x : ℕ} {r : DiskINode} {m : List ℕ} {folders : ℕ} {out : List ℕ} {below at : ℕ} {now : List ℕ} (S : Sofar s x r m folders out below at now) where
  abbrev all : List (List ℕ)
  all = S.whole.counted.names

  front-small : (n : ℕ) → length (slashed (take n all)) ≤ length out
  front-small n =
      omega (
        arith,
        ap (λ (l : List (List ℕ)). length (slashed l)) (take-append-drop n all),
        length-names (take n all) (drop n all),
        S.whole.counted.size,
        S.whole.fits,
      )

  pub length-now : length now ≡ length out
  length-now = ap length S.written ∙ length-paste out 0 (slashed (take (folders - below) all)) (omega (arith, front-small (folders - below)))

  module _ (h : 0 < below) where
    abbrev k : ℕ
    k = (below - 1) / 32

    next : Piece s x r all below (32 * k)
    next =
        piece s x r all below (32 * k) (omega arith) (omega (arith, S.most, S.whole.counted.long)) S.whole.counted.climbed
        (omega (arith, S.whole.counted.long, S.whole.counted.most))

    joined : take (folders - 32 * k) all ≡ take (folders - below) all ++ next.own
    joined = subst (λ (n : ℕ). take (n - 32 * k) all ≡ take (n - below) all ++ next.own) S.whole.counted.long next.joins

    bytes : at + length (slashed next.own) ≡ length (slashed (take (folders - 32 * k) all))
    bytes = omega (arith, S.ends, ap (λ (l : List (List ℕ)). length (slashed l)) joined, length-names (take (folders - below) all) next.own)

    pub span_fits : SpanFits s x r m k (below - 32 * k) at now
    span_fits =
        record {
          room = S.whole.counted.room;
          below = omega (arith, S.most, S.whole.counted.most);
          from = next.top;
          up = next.up;
          noted = λ p.
              let u = S.whole.counted.marks k p (omega (arith, S.most)) in
              ap (λ (v : Spot). v.id) (same-done (spot (get_or m k 0) u.0) next.top u.1 next.up);
          names = record { names = next.own; is = next.last; fits = omega (arith, bytes, front-small (folders - 32 * k), length-now) };
        }

    pub span-on : {later : List ℕ} {end : ℕ} → SpanWritten s x r k (below - 32 * k) at now later end → Sofar s x r m folders out (32 * k) end later
    span-on {later = later} {end = end} W =
        let f : W.from ≡ next.top = same-done W.from next.top W.up next.up in
        let q : W.names.names ≡ next.own =
        same-done W.names.names next.own W.names.is (ap (λ (u : Spot). last_to s (below - 32 * k) u.id u.rec) f ∙ next.last) in
        record {
          whole = S.whole;
          most = omega (arith, S.most);
          ends = W.names.ends ∙ ap (λ (l : List (List ℕ)). at + length (slashed l)) q ∙ bytes;
          written =
              names-after out now later 0 at (take (folders - below) all) next.own S.written (omega (arith, S.ends))
              (W.names.written ∙ ap (λ (l : List (List ℕ)). paste now at (slashed l)) q)
              (omega (arith, ap (λ (l : List (List ℕ)). length (slashed l)) joined, front-small (folders - 32 * k)))
              ∙ ap (λ (l : List (List ℕ)). paste out 0 (slashed l)) (sym joined);
        }

  pub path-ends : below ≤ 0 → PathWritten s x r out now
  path-ends z =
      record {
        names = all;
        is = S.whole.counted.climbed;
        written = S.written ∙ ap (λ (l : List (List ℕ)). paste out 0 (slashed l)) (take_all (folders - below) all (omega (arith, S.whole.counted.long)));
      }
