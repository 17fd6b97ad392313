-- For the code: one turn of a first pass that climbs without calling itself, and looks for each name before it goes on.
use mathlib.Core.Path.{◌≡◌, refl, sym, ap, ◌∙◌, subst}
use mathlib.Core.List.{List, [], ◌∷◌, ◌++◌, append-nil, append_assoc}
use mathlib.Core.Logic.{◌≢◌}
use Prim.Native.Nat.{ℕ, zero, suc, ◌+◌, ◌≤◌, ◌<◌}
use native.Mathlib.Omega.{arith}
use lib.ListN.{length, length-append}
use borrow.Author.Tests.{ne_eqb}
use Rattle.base.specs.Out.{Out, done, refused, bind, kept, Ok, went, said}
use Rattle.base.proofs.Outs.{ok-bind, ok-done}
use Rattle.structs.specs.declared.DiskINode.{DiskINode}
use Rattle.sefs.specs.State.{Fs}
use Rattle.sefs.specs.Move.{dots_of}
use Rattle.sefs_laws.proofs.Says.{Says}
use Rattle.walk.specs.Walk.{spot}
use Rattle.paths.specs.Path.{name_in, folder_on, names_to}
use Rattle.paths.specs.Spans.{up_by, last_to, Spans}
use Rattle.paths.proofs.Paths.{says-names, names-root, own}

module _ (s : Fs) (n x : ℕ) (r : DiskINode) (d : x ≢ 2) where
  -- the name was found: the names are those of the folder above, and this one
  pub turn-goes : (y : ℕ) (u : DiskINode) (name : List ℕ) → dots_of s r ≡ done y → folder_on s y ≡ done u → name_in s.arena u x ≡ done name
      → names_to s (suc n) x r ≡ bind (names_to s n y u) (λ names. done (names ++ (name ∷ [])))
  unfolding names_to
  turn-goes y u name e f g = rw (ne_eqb x 2 d, e, f, g) refl

  -- it sticks where the way up can't be read
  pub turn-dots : dots_of s r ≡ refused 19 → names_to s (suc n) x r ≡ refused 19
  unfolding names_to
  turn-dots e = rw (ne_eqb x 2 d, e) refl

  pub turn-folder : (y : ℕ) → dots_of s r ≡ done y → folder_on s y ≡ refused 19 → names_to s (suc n) x r ≡ refused 19
  unfolding names_to
  turn-folder y e f = rw (ne_eqb x 2 d, e, f) refl

  -- and where a name is missing, whatever the folders above say: they have no other reason
  pub turn-name : Says (λ k. k ≡ 19) s.meta → (y : ℕ) (u : DiskINode) → dots_of s r ≡ done y → folder_on s y ≡ done u → name_in s.arena u x ≡ refused 19
      → names_to s (suc n) x r ≡ refused 19
  unfolding names_to
  turn-name h y u e f g = rw (ne_eqb x 2 d, e, f, g) (go (names_to s n y u) (says-names (λ k. k ≡ 19) refl s h n y u))
    where
      go : (o : Out (List (List ℕ))) → Says (λ k. k ≡ 19) o → bind {B = List (List ℕ)} o (λ names. refused 19) ≡ refused 19
      go (done l) k = refl
      go (refused m) (said z) = ap refused z

-- a turn that was done
record Turn (s : Fs) (n x : ℕ) (r : DiskINode) (names : List (List ℕ)) : Type 0 where
  y : ℕ
  dots : dots_of s r ≡ done y
  u : DiskINode
  folder : folder_on s y ≡ done u
  above : List (List ℕ)
  climbed : names_to s n y u ≡ done above
  name : List ℕ
  named : name_in s.arena u x ≡ done name
  is : names ≡ above ++ (name ∷ [])

turn-law : (s : Fs) (n x : ℕ) (r : DiskINode) → x ≢ 2 → Ok (Turn s n x r) (λ _. Unit) (names_to s (suc n) x r)
unfolding names_to
turn-law s n x r d =
    rw (ne_eqb x 2 d)
    (ok-bind (own (dots_of s r)) λ y e. ok-bind (own (folder_on s y)) λ u f. ok-bind (own (names_to s n y u)) λ l g. ok-bind (own (name_in s.arena u x)) λ p h.
    went (record { y = y; dots = e; u = u; folder = f; above = l; climbed = g; name = p; named = h; is = refl }))

turn-was : (s : Fs) (n x : ℕ) (r : DiskINode) (names : List (List ℕ)) → x ≢ 2 → names_to s (suc n) x r ≡ done names → Turn s n x r names
turn-was s n x r names d e = ok-done (subst (Ok (Turn s n x r) (λ _. Unit)) e (turn-law s n x r d))

-- ---- spans: the writer calls itself for the lowest k folders alone, and so for the folders above those, until root

not_none : (s : Fs) (m x : ℕ) (r : DiskINode) (names : List (List ℕ)) → names_to s m x r ≡ done names → 0 < length names → x ≢ 2
not_none s m x r names e h z =
    let q : names ≡ [] = ap (kept []) (sym e ∙ ap (λ (i : ℕ). names_to s m i r) z ∙ names-root s m r) in
    omega (arith, ap length q)

span_none : (s : Fs) (n x : ℕ) (r : DiskINode) (names : List (List ℕ)) → names_to s n x r ≡ done names → Spans s 0 n x r names
unfolding up_by last_to
span_none s n x r names e = record { top = spot x r; up = refl; before = names; above = e; rest = []; last = refl; all = sym (append-nil names) }

span-next : (s : Fs) (k n x : ℕ) (r : DiskINode) (names : List (List ℕ)) (T : Turn s (k + n) x r names) → Spans s k n T.y T.u T.above → Spans s (suc k) n x r names
unfolding up_by last_to
span-next s k n x r names T S = record {
  top = S.top;
  up = rw (T.dots, T.folder) S.up;
  before = S.before;
  above = S.above;
  rest = S.rest ++ (T.name ∷ []);
  last = rw (T.dots, T.folder, S.last, T.named) refl;
  all = T.is ∙ ap (λ (z : List (List ℕ)). z ++ (T.name ∷ [])) S.all ∙ append_assoc S.before S.rest (T.name ∷ []);
}

turn-long : (s : Fs) (n x : ℕ) (r : DiskINode) (names : List (List ℕ)) (T : Turn s n x r names) → length names ≡ length T.above + 1
turn-long s n x r names T = ap length T.is ∙ length-append T.above (T.name ∷ [])

pub spans : (s : Fs) (k n x : ℕ) (r : DiskINode) (names : List (List ℕ)) → names_to s (k + n) x r ≡ done names → k ≤ length names → Spans s k n x r names
spans s zero n x r names e h = span_none s n x r names (ap (λ (m : ℕ). names_to s m x r) (let q : n ≡ 0 + n = omega arith in q) ∙ e)
spans s (suc k) n x r names e h =
    go (turn-was s (k + n) x r names (not_none s (suc k + n) x r names e (omega arith)) (ap (λ (m : ℕ). names_to s m x r) (let q : suc (k + n) ≡ suc k + n = omega arith in q) ∙ e))
    (spans s k n)
  where
    go : Turn s (k + n) x r names
        → ((y : ℕ) (u : DiskINode) (l : List (List ℕ)) → names_to s (k + n) y u ≡ done l → k ≤ length l → Spans s k n y u l) → Spans s (suc k) n x r names
    go T again = span-next s k n x r names T (again T.y T.u T.above T.climbed (omega (arith, turn-long s (k + n) x r names T)))
