-- The names of a span: what each call of the climb needs, and what it has written.
use mathlib.Core.Path.{◌≡◌, refl, sym, ap, ◌∙◌}
use mathlib.Core.List.{List, [], ◌∷◌, ◌++◌}
use mathlib.Core.Logic.{◌≢◌}
use Prim.Native.Nat.{ℕ, suc, ◌+◌, ◌-◌, ◌≤◌}
use native.Mathlib.Omega.{arith}
use lib.ListN.{length, take, drop, set, take-append-drop, length-append}
use Rattle.std.specs.Prelude.{Result, Ok, Err, IsOk}
use Rattle.base.specs.Out.{Out, done, kept, Went, well, ill}
use Rattle.base.specs.Told.{code}
use Rattle.base.specs.declared.reasons.Reason.{Reason}
use Rattle.base.proofs.Tells.{number-ne}
use Rattle.base.specs.Parts.{part, back, paste}
use Rattle.base.proofs.Lists.{length_part, length-paste, paste-paste, set-paste}
use Rattle.base.proofs.Outs.{bind-is-done, went-is, went-has}
use Rattle.base.proofs.Parts.{back-paste}
use Rattle.structs.specs.declared.DiskINode.{DiskINode}
use Rattle.sefs.specs.State.{Fs}
use Rattle.walk.specs.Walk.{Spot}
use Rattle.paths.specs.Path.{name_in, slashed}
use Rattle.paths.specs.Spans.{above_of, last_to}
use Rattle.paths.proofs.Turns.{Last, last_up, last-was, slashed-join, slashed-one}
use Rattle.calls_path.specs.Path.{one_name, NamesFit, NamesWritten}

-- an outcome is done once
pub same-done : {A : Type 0} {o : Out A} (x y : A) → o ≡ done x → o ≡ done y → x ≡ y
same-done x y p q = ap (kept x) (sym p ∙ q)

-- a step that is known to be done answers 0
pub went-zero : {A : Type 0} {o : Out A} {v w : A} {P : Type 0} {r : ℕ} → Went o v P r → o ≡ done w → r ≡ 0
went-zero (well e p) q = refl
went-zero (ill l e) q = absurd (let z : ◌≡◌ {A = ℕ} 0 1 = cc in omega arith)

-- and then its result has a value
pub ok-zero : {A : Type 0} (r : Result A Reason) → code r ≡ 0 → IsOk r
ok-zero (Ok x) z = refl
ok-zero (Err e) z = absurd (number-ne e z)

-- ---- bytes

pub paste-nothing : (a : List ℕ) (s : ℕ) → paste a s [] ≡ a
unfolding paste
paste-nothing a s = ap (λ (n : ℕ). take s a ++ drop n (drop s a)) (let q : s + 0 - s ≡ 0 = omega arith in q) ∙ take-append-drop s a

-- names after names
pub names-after : (out now later : List ℕ) (at end : ℕ) (ps qs : List (List ℕ)) → now ≡ paste out at (slashed ps) → end ≡ at + length (slashed ps) → later ≡ paste now end (slashed qs)
    → at + length (slashed (ps ++ qs)) ≤ length out → later ≡ paste out at (slashed (ps ++ qs))
names-after out now later at end ps qs e f g h =
    let j = slashed-join ps qs in
    g
    ∙ ap (λ (l : List ℕ). paste l end (slashed qs)) e
    ∙ ap (λ (i : ℕ). paste (paste out at (slashed ps)) i (slashed qs)) f
    ∙ paste-paste out at (slashed ps) (slashed qs) (omega (arith, ap length j, length-append (slashed ps) (slashed qs)))
    ∙ ap (paste out at) (sym j)

pub length-names : (ps qs : List (List ℕ)) → length (slashed (ps ++ qs)) ≡ length (slashed ps) + length (slashed qs)
length-names ps qs = ap length (slashed-join ps qs) ∙ length-append (slashed ps) (slashed qs)

pub written-length : {o : Out (List (List ℕ))} {at end : ℕ} {out now : List ℕ} → NamesFit o at out → NamesWritten o at out now end → length now ≡ length out
written-length {at = at} {out = out} F W =
    let q : F.names ≡ W.names = same-done F.names W.names F.is W.is in
    ap length W.written ∙ length-paste out at (slashed W.names) (omega (arith, F.fits, ap (λ (l : List (List ℕ)). length (slashed l)) q))

-- ---- one name: the slot is `slot` after the search, and the name stands there from its fifth byte on

module _ (a : List ℕ) (r : DiskINode) (x : ℕ) {at : ℕ} {out : List ℕ} (F : NamesFit (one_name a r x) at out) where
  one-was : (p : List ℕ) × (name_in a r x ≡ done p) × (done (p ∷ []) ≡ done F.names)
  unfolding one_name
  one-was = bind-is-done (name_in a r x) (λ p. done (p ∷ [])) F.names F.is

  module _ (slot : List ℕ) (n : ℕ) {k : ℕ} (z : length slot ≡ 264) (W : Went (name_in a r x) (part slot 4 (4 + n)) (n ≤ 255) k) where
    pub found : k ≡ 0
    found = went-zero W one-was.1

    pub name-short : n ≤ 255
    name-short = went-has W found

    name-long : length (part slot 4 (4 + n)) ≡ n
    name-long = length_part slot 4 (4 + n) (omega arith) (omega (arith, name-short)) ∙ omega arith

    stands : one_name a r x ≡ done (part slot 4 (4 + n) ∷ [])
    unfolding one_name
    stands = rw (went-is W found)

    own-bytes : slashed F.names ≡ 47 ∷ part slot 4 (4 + n)
    own-bytes = ap slashed (same-done F.names (part slot 4 (4 + n) ∷ []) F.is stands) ∙ slashed-one (part slot 4 (4 + n))

    pub name-fits : at + 1 + n ≤ length out
    name-fits = omega (arith, F.fits, ap length own-bytes, name-long)

    pub name-written : (t : List ℕ) → t ≡ part slot 4 (4 + n) → NamesWritten (one_name a r x) at out (back (set out at 47) (at + 1) (at + 1 + n) t) (at + 1 + n)
    name-written t e =
        let lt : length t ≡ n = ap length e ∙ name-long in
        record {
          names = F.names;
          is = F.is;
          ends = omega (arith, ap length own-bytes, name-long);
          written =
              back-paste (set out at 47) t (at + 1) n lt
              ∙ ap (λ (l : List ℕ). paste l (at + 1) t) (set-paste out at 47 (omega (arith, name-fits)))
              ∙ paste-paste out at (47 ∷ []) t (omega (arith, name-fits))
              ∙ ap (λ (l : List ℕ). paste out at (47 ∷ l)) e
              ∙ ap (paste out at) (sym own-bytes);
        }

-- ---- the climb that calls itself

module _ (s : Fs) (steps x : ℕ) (r : DiskINode) (at : ℕ) (out : List ℕ) (F : NamesFit (last_to s steps x r) at out) where
  pub names-none : steps ≡ 0 → NamesWritten (last_to s steps x r) at out out at
  unfolding last_to slashed
  names-none z =
      record {
        names = [];
        is = ap (λ (i : ℕ). last_to s i x r) z;
        ends = omega arith;
        written = sym (paste-nothing out at);
      }

  module _ (z : steps ≢ 0) {u : Spot} {P : Type 0} {k : ℕ} (W : Went (above_of s r) u P k) where
    some : last_to s (suc (steps - 1)) x r ≡ done F.names
    some = ap (λ (i : ℕ). last_to s i x r) (let q : suc (steps - 1) ≡ steps = omega arith in q) ∙ F.is

    pub goes-up : k ≡ 0
    goes-up = went-zero W (last_up s (steps - 1) x r F.names some).1

    turn : Last s (steps - 1) x u F.names
    turn = last-was s (steps - 1) x r F.names some u (went-is W goes-up)

    bytes : length (slashed F.names) ≡ length (slashed turn.above) + length (slashed (turn.name ∷ []))
    bytes = ap (λ (l : List (List ℕ)). length (slashed l)) turn.is ∙ length-names turn.above (turn.name ∷ [])

    -- the names of the folder above
    pub names-above : NamesFit (last_to s (steps - 1) u.id u.rec) at out
    names-above = record { names = turn.above; is = turn.climbed; fits = omega (arith, F.fits, bytes) }

    module _ {now : List ℕ} {end : ℕ} (N : NamesWritten (last_to s (steps - 1) u.id u.rec) at out now end) where
      above-is : N.names ≡ turn.above
      above-is = same-done N.names turn.above N.is turn.climbed

      end_is : end ≡ at + length (slashed turn.above)
      end_is = N.ends ∙ ap (λ (l : List (List ℕ)). at + length (slashed l)) above-is

      one-is : one_name s.arena u.rec x ≡ done (turn.name ∷ [])
      unfolding one_name
      one-is = rw turn.named

      -- and then its own
      pub names-own : NamesFit (one_name s.arena u.rec x) end now
      names-own = record { names = turn.name ∷ []; is = one-is; fits = omega (arith, F.fits, bytes, end_is, written-length names-above N) }

      pub names-both : {later : List ℕ} {stop : ℕ} → NamesWritten (one_name s.arena u.rec x) end now later stop → NamesWritten (last_to s steps x r) at out later stop
      names-both {later = later} O =
          let q : O.names ≡ turn.name ∷ [] = same-done O.names (turn.name ∷ []) O.is one-is in
          record {
            names = F.names;
            is = F.is;
            ends = omega (arith, O.ends, ap (λ (l : List (List ℕ)). length (slashed l)) q, end_is, bytes);
            written =
                names-after out now later at end turn.above (turn.name ∷ [])
                (N.written ∙ ap (λ (l : List (List ℕ)). paste out at (slashed l)) above-is)
                end_is
                (O.written ∙ ap (λ (l : List (List ℕ)). paste now end (slashed l)) q)
                (omega (arith, F.fits, ap (λ (l : List (List ℕ)). length (slashed l)) turn.is))
                ∙ ap (λ (l : List (List ℕ)). paste out at (slashed l)) (sym turn.is);
          }
