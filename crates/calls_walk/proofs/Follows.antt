-- A link: its target is laid after the others, and the rest of the text that held it is remembered.
use mathlib.Core.Path.{◌≡◌, refl, sym, ◌∙◌, ap, ap₂, subst}
use mathlib.Core.Bool.{Bool, true, false}
use mathlib.Core.List.{List, ◌++◌}
use mathlib.Core.Logic.{⊎_elim}
use Prim.Native.Nat.{ℕ, zero, suc, ◌+◌, ◌-◌, ◌*◌, ◌<◌, ◌≤◌}
use native.Mathlib.Nat.{eq-or-lt_of_le, le_of_suc-le-suc}
use native.Mathlib.Numerals.{add-one}
use native.Mathlib.Omega.{arith}
use lib.ListN.{length, get_or, take, drop, set, length-append, length-set}
use lib.Seq.{get_or-set_same, get_or-set_other}
use borrow.Author.Tests.{ne_eqb, le-leb, lt-leb}
use Rattle.base.specs.Count.{bit}
use Rattle.base.specs.Out.{Out, done, refused}
use Rattle.base.specs.Parts.{part, back, paste}
use Rattle.base.specs.Search.{pick}
use Rattle.base.proofs.Bools.{bool_cases}
use Rattle.base.proofs.Lists.{length_part, length-paste, part-paste}
use Rattle.base.specs.Told.{number, code}
use Rattle.base.specs.declared.reasons.Reason.{Reason}
use Rattle.base.specs.declared.reasons.Reason.TheVariants as reasons
use Rattle.base.proofs.Outs.{above_zero}
use Rattle.base.proofs.Tells.{number-ne, number-pos}
use Rattle.structs.specs.declared.DiskINode.{DiskINode}
use Rattle.sefs.specs.State.{Fs}
use Rattle.sefs.specs.Nodes.{node_file}
use Rattle.sefs.specs.Contents.{read_bytes}
use Rattle.calls.specs.Answers.{Laid, lay, leave}
use Rattle.walk.specs.Walk.{from_root, parts_of, cut, Spot, spot, met, along, target_of, enter, walked, walk_on}
use Rattle.walk.proofs.Walks.{more, along-join, walk_loop, walk-unread, walk-bad, walk-follow}
use Rattle.walk_parts.specs.Texts.{left_of, bound_of}
use Rattle.walk_parts.specs.States.{Entered}
use Rattle.walk_parts.specs.declared.Going.{Going}
use Rattle.walk_parts.specs.declared.Passed.{Passed}
use Rattle.walk_parts.proofs.Splits.{root_in}
use Rattle.calls_walk.specs.States.{rests_of, read_of, end_of, outcome, Marked, Stands, Turned, stop, Meets, Followed, unread, read}
use Rattle.calls_walk.proofs.Buffers.{length-read, back-own, back-laid, paste-read, paste-kept, part-target, left-drop, left-longer, bound-longer}
use Rattle.calls_walk.proofs.Turns.{outcome-over, outcome-going, stopped}

-- ---- marks

abbrev pub marked : List ℕ → ℕ → ℕ → ℕ → List ℕ
marked m d f e = set (set m (2 * d) f) (2 * d + 1) e

module _ (m : List ℕ) (d f e : ℕ) where
  marked-below : (i : ℕ) → i < 2 * d → get_or (marked m d f e) i 0 ≡ get_or m i 0
  marked-below i h = get_or-set_other (set m (2 * d) f) (2 * d + 1) i e 0 (λ z. omega (arith, h, z)) ∙ get_or-set_other m (2 * d) i f 0 (λ z. omega (arith, h, z))

  module _ (z : length m ≡ 16) (h : d < 8) where
    marked_from : get_or (marked m d f e) (2 * d) 0 ≡ f
    marked_from = get_or-set_other (set m (2 * d) f) (2 * d + 1) (2 * d) e 0 (λ y. omega (arith, y)) ∙ get_or-set_same m (2 * d) f 0 (omega (arith, z, h))

    marked-to : get_or (marked m d f e) (2 * d + 1) 0 ≡ e
    marked-to = get_or-set_same (set m (2 * d) f) (2 * d + 1) e 0 (omega (arith, z, h, length-set m (2 * d) f))

    marked-size : length (marked m d f e) ≡ 16
    marked-size = length-set (set m (2 * d) f) (2 * d + 1) e ∙ length-set m (2 * d) f ∙ z

-- the rests below stay, in a buffer with more targets
rests-same : (path b l m o : List ℕ) (d : ℕ) → ((j : ℕ) → j < d → Marked path b m j) → ((i : ℕ) → i < 2 * d → get_or o i 0 ≡ get_or m i 0) → rests_of path (b ++ l) o d ≡ rests_of path b m d
unfolding rests_of
rests-same path b l m o zero M h = refl
rests-same path b l m o (suc d) M h =
    ap₂ (λ (x : List ℕ) (y : List (List ℕ)). cut x ++ y)
    (ap₂ (left_of path (b ++ l) d) (h (2 * d) (omega arith)) (h (2 * d + 1) (omega arith)) ∙ left-longer path b l d (get_or m (2 * d) 0) (get_or m (2 * d + 1) 0) (M d (omega arith)).order (M d (omega arith)).inside)
    (rests-same path b l m o d (λ j k. M j (omega (arith, k))) (λ i k. h i (omega (arith, k))))

-- ---- the turn

module _ (s : Fs) (path links m : List ℕ) (g : Going) (p : Passed) (S : Stands path links m g) (M : Meets s path links g p) where
  abbrev b : List ℕ
  b = read_of links g

  abbrev text : List ℕ
  text = left_of path b g.depth g.from g.to

  abbrev rests : List (List ℕ)
  rests = rests_of path b m g.depth

  abbrev at : Spot
  at = spot g.id g.rec

  abbrev folder : Spot
  folder = spot p.id p.rec

  b-size : length b ≡ g.used
  b-size = length-read links g.used S.read

  meets : along s at (cut text ++ rests) ≡ done (met folder p.node (cut (drop p.place text) ++ rests))
  meets = along-join s at (cut text) rests ∙ ap (more s rests) M.way

  -- the ninth link
  pub follow-loop : g.left ≡ 0 → Turned s path links links m m g (stop g reasons.SymLoop)
  follow-loop z =
      stopped s path links m g reasons.SymLoop m refl M.going S.read
      (ap (λ (k : ℕ). walk_on s (length links) k b at (cut text ++ rests)) z ∙ walk_loop s (length links) b at (cut text ++ rests) meets ∙ ap (λ (k : ℕ). walked b k (refused 23)) (sym z))

  module _ (n : g.left ≡ 0 → ⊥) (h : Going) where
    abbrev k : ℕ
    k = g.left - 1

    one_more_lem : g.left ≡ suc k
    one_more_lem = omega (arith, above_zero g.left n)

    -- depth + left is at most 8, and a link may be met
    shallow : g.depth < 8
    shallow = omega (arith, S.few, above_zero g.left n)

    abbrev o : List ℕ
    o = marked m g.depth (g.from + p.place) g.to

    marks-size : length o ≡ length m
    marks-size = marked-size m g.depth (g.from + p.place) g.to S.size shallow ∙ sym S.size

    room-is : {x : Out (List ℕ)} → target_of s.arena p.node (length links - g.used) ≡ x → target_of s.arena p.node (length links - length b) ≡ x
    room-is e = ap (λ (i : ℕ). target_of s.arena p.node (length links - i)) b-size ∙ e

    follow-unread : {r : Reason} → target_of s.arena p.node (length links - g.used) ≡ refused (number r) → Turned s path links links m o g (stop g r)
    follow-unread {r = r} e =
        stopped s path links m g r o marks-size M.going S.read
        (ap (λ (i : ℕ). walk_on s (length links) i b at (cut text ++ rests)) one_more_lem ∙ walk-unread s (length links) b at (cut text ++ rests) meets k (room-is e) ∙ ap (λ (i : ℕ). walked b i (refused (number r))) (sym one_more_lem))

    module _ (l : List ℕ) (t : target_of s.arena p.node (length links - g.used) ≡ done l) (u : g.used + length l ≤ length links)
        (E : Entered h (enter s folder l) k (g.used + length l) (g.depth + 1) (g.used + bit (from_root l)) (g.used + length l)) where
      abbrev now : List ℕ
      now = paste links g.used l

      size_is : length now ≡ length links
      size_is = length-paste links g.used l u

      read_is : read_of now h ≡ b ++ l
      read_is = ap (λ (i : ℕ). take i now) E.used ∙ paste-read links g.used l u

      started : outcome s path links m g ≡ walk_on s (length links) (suc k) b at (cut text ++ rests)
      started = outcome-going s path links m g M.going ∙ ap (λ (i : ℕ). walk_on s (length links) i b at (cut text ++ rests)) one_more_lem

      -- a bad target stays in the buffer
      bad-out : h.over ≡ true → outcome s path now o h ≡ outcome s path links m g
      bad-out e =
          let q = E.ends e in
          outcome-over s path now o h h e
          ∙ ap (λ (x : List ℕ). walked x h.left (end_of h)) read_is
          ∙ ap₂ (λ (i : ℕ) (x : Out Spot). walked (b ++ l) i x) E.left (rw (ne_eqb (code h.ended) 0 (λ z. omega (arith, q.1, z))))
          ∙ sym (walk-bad s (length links) b at (cut text ++ rests) meets k (room-is t) q.0)
          ∙ sym started

      -- the rest of the text is remembered
      rest-is : left_of path (b ++ l) g.depth (get_or o (2 * g.depth) 0) (get_or o (2 * g.depth + 1) 0) ≡ drop p.place text
      rest-is =
          ap₂ (left_of path (b ++ l) g.depth) (marked_from m g.depth (g.from + p.place) g.to S.size shallow) (marked-to m g.depth (g.from + p.place) g.to S.size shallow)
          ∙ left-longer path b l g.depth (g.from + p.place) g.to (omega (arith, M.place, S.order)) S.inside
          ∙ sym (left-drop path b g.depth g.from g.to p.place)

      rests-are : rests_of path (b ++ l) o (suc g.depth) ≡ cut (drop p.place text) ++ rests
      unfolding rests_of
      rests-are = ap₂ (λ (x : List ℕ) (y : List (List ℕ)). cut x ++ y) rest-is (rests-same path b l m o g.depth S.marks (marked-below m g.depth (g.from + p.place) g.to))

      deeper : h.depth ≡ suc g.depth
      deeper = E.depth ∙ add-one g.depth

      parts_are : cut (left_of path (read_of now h) h.depth h.from h.to) ++ rests_of path (read_of now h) o h.depth ≡ parts_of l ++ (cut (drop p.place text) ++ rests)
      parts_are =
          ap₂ (λ (c : List ℕ) (d : ℕ). cut (left_of path c d h.from h.to) ++ rests_of path c o d) read_is deeper
          ∙ ap₂ (λ (x y : ℕ). cut (part (b ++ l) x y) ++ rests_of path (b ++ l) o (suc g.depth)) E.from E.to
          ∙ ap₂ (λ (x : List ℕ) (y : List (List ℕ)). cut x ++ y) (part-target b l g.used (bit (from_root l)) b-size) rests-are

      good-out : h.over ≡ false → outcome s path now o h ≡ outcome s path links m g
      good-out e =
          outcome-going s path now o h e
          ∙ ap₂ (λ (r i : ℕ). walk_on s r i (read_of now h) (spot h.id h.rec) (cut (left_of path (read_of now h) h.depth h.from h.to) ++ rests_of path (read_of now h) o h.depth)) size_is E.left
          ∙ ap₂ (λ (c : List ℕ) (ps : List (List ℕ)). walk_on s (length links) k c (spot h.id h.rec) ps) read_is parts_are
          ∙ sym (walk-follow s (length links) b at (cut text ++ rests) meets k (room-is t) (E.goes e))
          ∙ sym started

      -- and every place lies where it should
      marks-below : (j : ℕ) → j < g.depth → Marked path (b ++ l) o j
      marks-below j y =
          let N = S.marks j y in
          let f = marked-below m g.depth (g.from + p.place) g.to (2 * j) (omega (arith, y)) in
          let e = marked-below m g.depth (g.from + p.place) g.to (2 * j + 1) (omega (arith, y)) in
          record { order = omega (arith, N.order, f, e); inside = omega (arith, N.inside, e, bound-longer path b l j) }

      mark-here : Marked path (b ++ l) o g.depth
      mark-here =
          let f = marked_from m g.depth (g.from + p.place) g.to S.size shallow in
          let e = marked-to m g.depth (g.from + p.place) g.to S.size shallow in
          record { order = omega (arith, f, e, M.place, S.order); inside = omega (arith, e, S.inside, bound-longer path b l g.depth) }

      marks-are : (j : ℕ) → j < suc g.depth → Marked path (b ++ l) o j
      marks-are j y = ⊎_elim (λ (q : j ≡ g.depth). subst (Marked path (b ++ l) o) (sym q) mark-here) (λ (q : j < g.depth). marks-below j q) (eq-or-lt_of_le (le_of_suc-le-suc y))

      stands-there : Stands path now o h
      stands-there =
          record {
            read = omega (arith, E.used, u, size_is);
            few = omega (arith, deeper, E.left, S.few, one_more_lem);
            order = omega (arith, E.from, E.to, root_in l);
            inside = subst (λ (x : ℕ). h.to ≤ x) (sym (ap₂ (bound_of path) read_is deeper)) (omega (arith, E.to, length-append b l, b-size));
            size = marked-size m g.depth (g.from + p.place) g.to S.size shallow;
            marks = λ j y. subst (λ (c : List ℕ). Marked path c o j) (sym read_is) (marks-are j (omega (arith, y, deeper)));
          }

      lighter : (v : Bool) → h.over ≡ v → pick v 0 (suc (2 * h.left + h.depth)) < suc (2 * g.left + g.depth)
      lighter true e = omega arith
      lighter false e = omega (arith, deeper, E.left, one_more_lem)

      follow-read : Turned s path links now m o g h
      follow-read =
          record {
            same = ⊎_elim bad-out good-out (bool_cases h.over);
            grows = omega (arith, E.used);
            used = omega (arith, E.used, u, size_is);
            size = size_is;
            marks = marks-size;
            kept = ap (λ (i : ℕ). drop i now) E.used ∙ paste-kept links g.used l u ∙ ap (λ (i : ℕ). drop i links) (sym E.used);
            less = rw M.going (lighter h.over refl);
            stands = λ _. stands-there;
          }

    pub follow-turns : (now : List ℕ) → Followed s links now g p h → Turned s path links now m (marked m g.depth (g.from + p.place) g.to) g h
    follow-turns now (unread l e q w) = rw (q, w) (follow-unread e)
    follow-turns now (read {l = l} t u q E) = rw q (follow-read l t u E)

-- ---- a target is read

module _ (a : List ℕ) (r : DiskINode) (room : ℕ) where
  pub target-full : (out : List ℕ) → room < r.size → Laid (target_of a r room) out out 0 20
  unfolding target_of
  target-full out h = leave {r = 20} (omega arith) (rw (lt-leb r.size room h)) refl

  target_is : r.size ≤ room → target_of a r room ≡ read_bytes a (node_file r) 0 r.size
  unfolding target_of
  target_is h = rw (le-leb r.size room h)

  pub target-read : {out now : List ℕ} {n q : ℕ} → r.size ≤ room → n ≡ r.size → Laid (read_bytes a (node_file r) 0 n) out now n q → Laid (target_of a r room) out now n q
  target-read h e g = rw (target_is h, ← e) g

-- nothing was laid
pub laid-not : {o : Out (List ℕ)} {out now : List ℕ} {n q : ℕ} (m : ℕ) → (q ≡ 0 → ⊥) → Laid o out now n q → Laid o out now m q
laid-not m z (lay e y w) = absurd (z refl)
laid-not m z (leave y e w) = leave y e w

-- ---- what the code does at a link: `out` is what the part of the buffer from the targets on comes back as

module _ (s : Fs) (links : List ℕ) (g : Going) (p : Passed) (u : g.used ≤ length links) (out : List ℕ) {n q : ℕ}
    (L : Laid (target_of s.arena p.node (length (part links g.used (length links)))) (part links g.used (length links)) out n q) where
  room-left : {x : Out (List ℕ)} → target_of s.arena p.node (length (part links g.used (length links))) ≡ x → target_of s.arena p.node (length links - g.used) ≡ x
  room-left e = ap (target_of s.arena p.node) (sym (length_part links g.used (length links) u (omega arith))) ∙ e

  pub not-read : (r : Reason) {h : Going} → q ≡ number r → h ≡ stop g r → Followed s links (back links g.used (length links) out) g p h
  not-read r z f = by L z f
    where
      by : {h : Going} {n q : ℕ} → Laid (target_of s.arena p.node (length (part links g.used (length links)))) (part links g.used (length links)) out n q → q ≡ number r → h ≡ stop g r → Followed s links (back links g.used (length links) out) g p h
      by (lay e y w) z f = absurd (number-ne r (sym z))
      by (leave y e w) z f = unread (number-pos r) (room-left (e ∙ ap refused z)) (ap (back links g.used (length links)) w ∙ back-own links g.used u) f

  abbrev later : List ℕ
  later = back links g.used (length links) out

  module _ {h : Going} (m : n ≤ length (part links g.used (length links))) (z : q ≡ 0)
      (E : Entered h (enter s (spot p.id p.rec) (part later g.used (g.used + n))) (g.left - 1) (g.used + length (part later g.used (g.used + n))) (g.depth + 1) (g.used + bit (from_root (part later g.used (g.used + n)))) (g.used + length (part later g.used (g.used + n)))) where
    fits : g.used + n ≤ length links
    fits = omega (arith, m, length_part links g.used (length links) u (omega arith), u)

    laid-at : (l : List ℕ) → length l ≡ n → out ≡ paste (part links g.used (length links)) 0 l → later ≡ paste links g.used l
    laid-at l y w = ap (back links g.used (length links)) w ∙ back-laid links g.used l (omega (arith, fits, y))

    target_at : (l : List ℕ) → length l ≡ n → out ≡ paste (part links g.used (length links)) 0 l → part later g.used (g.used + n) ≡ l
    target_at l y w = ap₂ (λ (x : List ℕ) (k : ℕ). part x g.used (g.used + k)) (laid-at l y w) (sym y) ∙ part-paste links g.used l (omega (arith, fits, y))

    entered_at : (l : List ℕ) → length l ≡ n → out ≡ paste (part links g.used (length links)) 0 l → Entered h (enter s (spot p.id p.rec) l) (g.left - 1) (g.used + length l) (g.depth + 1) (g.used + bit (from_root l)) (g.used + length l)
    entered_at l y w =
        subst (λ (x : List ℕ). Entered h (enter s (spot p.id p.rec) x) (g.left - 1) (g.used + length x) (g.depth + 1) (g.used + bit (from_root x)) (g.used + length x)) (target_at l y w) E

    pub was_read : Followed s links later g p h
    was_read = by L refl z
      where
        by : {k r : ℕ} → Laid (target_of s.arena p.node (length (part links g.used (length links)))) (part links g.used (length links)) out k r → k ≡ n → r ≡ 0 → Followed s links later g p h
        by (lay {l = l} e y w) f o = read (room-left e) (omega (arith, fits, y, f)) (laid-at l (y ∙ f) w) (entered_at l (y ∙ f) w)
        by (leave y e w) f o = absurd (omega (arith, y, o))
