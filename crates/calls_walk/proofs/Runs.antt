-- Turn by turn: what a turn comes to by the way along a text, what the turns so far keep, and the call.
use mathlib.Core.Path.{◌≡◌, refl, sym, ◌∙◌, ap, ap₂, subst}
use mathlib.Core.Bool.{true, false}
use mathlib.Core.List.{List, [], ◌++◌, append-nil}
use mathlib.Core.Logic.{⊎_elim}
use Prim.Native.Nat.{ℕ, ◌+◌, ◌-◌, ◌≤◌}
use native.Mathlib.Omega.{arith}
use lib.ListN.{length, take, drop, take-append-drop}
use lib.Seq.{drop-drop}
use borrow.Author.Tests.{ne_eqb}
use Rattle.base.specs.Count.{bit}
use Rattle.base.specs.Out.{Out, done, refused, bind, Went}
use Rattle.base.specs.Parts.{part, paste}
use Rattle.std.specs.Prelude.{Result, Ok, Err}
use Rattle.base.specs.Told.{number, code}
use Rattle.base.specs.declared.reasons.Reason.{Reason}
use Rattle.base.proofs.Bools.{bool_cases}
use Rattle.base.proofs.Finds.{eq-cases}
use Rattle.base.proofs.Outs.{went-is, went-not}
use Rattle.base.proofs.Tells.{number-ne}
use Rattle.structs.specs.declared.DiskINode.{DiskINode}
use Rattle.table.specs.declared.Table.{Table}
use Rattle.table.specs.declared.Handle.{Handle}
use Rattle.table.specs.declared.Added.{Added}
use Rattle.table.specs.Table.{row_at}
use Rattle.table.specs.Formed.{well_formed}
use Rattle.sefs.specs.State.{Fs}
use Rattle.sefs.specs.Meta.{load_meta}
use Rattle.sefs.specs.Ask.{admit, by_handle, start}
use Rattle.mem.specs.Mem.{table_in, meta_in, Whole}
use Rattle.mem.specs.State.{fs_at}
use Rattle.calls.specs.Asked.{Admitted}
use Rattle.calls_find.specs.Finds.{give_node}
use Rattle.walk.specs.Walk.{from_root, parts_of, cut, Spot, spot, ended, along, enter, Walked, walked, or_stop, walk_on, walk_in, hold_end, call_walk}
use Rattle.walk_parts.specs.Texts.{left_of, bound_of}
use Rattle.walk_parts.specs.States.{way_of, Entered}
use Rattle.walk_parts.specs.declared.Going.{Going}
use Rattle.walk_parts.specs.declared.Passed.{Passed}
use Rattle.walk_parts.proofs.Splits.{root_in, part_end}
use Rattle.calls_walk.specs.States.{rests_of, read_of, end_of, outcome, Stands, Turned, stop, arrive, go_back, Meets, Walks}
use Rattle.calls_walk.proofs.Buffers.{length-read, left-size}
use Rattle.calls_walk.proofs.Turns.{outcome-over, outcome-going, turn-stop, turn-arrive, turn-back}

-- ---- a turn, by the way along the text l

module _ (s : Fs) (path links m : List ℕ) (g : Going) (S : Stands path links m g) (e : g.over ≡ false)
    (l : List ℕ) (q : l ≡ left_of path (read_of links g) g.depth g.from g.to) where
  way-is : (x : Result Passed Reason) → along s (spot g.id g.rec) (cut l) ≡ way_of l x → along s (spot g.id g.rec) (cut (left_of path (read_of links g) g.depth g.from g.to)) ≡ way_of (left_of path (read_of links g) g.depth g.from g.to) x
  way-is x w = subst (λ (y : List ℕ). along s (spot g.id g.rec) (cut y) ≡ way_of y x) q w

  pub turn-refused : (r : Reason) → along s (spot g.id g.rec) (cut l) ≡ way_of l (Err r) → {h : Going} → h ≡ stop g r → Turned s path links links m m g h
  unfolding way_of
  turn-refused r w f = rw f (turn-stop s path links m g e S r (way-is (Err r) w))

  module _ (p : Passed) (w : along s (spot g.id g.rec) (cut l) ≡ way_of l (Ok p)) where
    pub turn-meets : p.link ≡ true → p.place ≤ length l → Meets s path links g p
    unfolding way_of
    turn-meets t h =
        record {
          going = e;
          way = way-is (Ok p) w ∙ rw t;
          place = omega (arith, h, ap length q, left-size path (read_of links g) g.depth g.from g.to S.order S.inside);
        }

    ends_there : p.link ≡ false → along s (spot g.id g.rec) (cut (left_of path (read_of links g) g.depth g.from g.to)) ≡ done (ended (spot p.id p.rec))
    unfolding way_of
    ends_there t = way-is (Ok p) w ∙ rw t

    pub turn-resumes : {h : Going} → p.link ≡ false → (g.depth ≡ 0 → h ≡ arrive g p) × ((g.depth ≡ 0 → ⊥) → h ≡ go_back m g p) → Turned s path links links m m g h
    turn-resumes t f =
        ⊎_elim
        (λ (o : g.depth ≡ 0). rw (f.0 o) (turn-arrive s path links m g e S p (ends_there t) o))
        (λ o. rw (f.1 o) (turn-back s path links m g e S p (ends_there t) o))
        (eq-cases g.depth 0)

-- ---- the turns so far: the walk that was to end as o says

pub record Running (o : Walked Spot) (s : Fs) (path was first links m : List ℕ) (g : Going) : Type 0 where
  pub same : outcome s path links m g ≡ o
  pub used : g.used ≤ length links
  pub size : length links ≡ length was
  pub marks : length m ≡ length first
  pub kept : drop g.used links ≡ drop g.used was
  pub stands : g.over ≡ false → Stands path links m g

pub running-starts : (s : Fs) (path links m : List ℕ) (g : Going) → (g.over ≡ false → Stands path links m g) → g.used ≡ 0 → Running (outcome s path links m g) s path links m links m g
running-starts s path links m g S u = record { same = refl; used = omega (arith, u); size = refl; marks = refl; kept = refl; stands = S }

later-bytes : (a b : List ℕ) (i j : ℕ) → i ≤ j → drop i a ≡ drop i b → drop j a ≡ drop j b
later-bytes a b i j h e =
    let q : i + (j - i) ≡ j = omega arith in
    ap (λ (n : ℕ). drop n a) (sym q) ∙ sym (drop-drop (j - i) i a) ∙ ap (drop (j - i)) e ∙ drop-drop (j - i) i b ∙ ap (λ (n : ℕ). drop n b) q

module _ {o : Walked Spot} {s : Fs} {path was first links m : List ℕ} {g : Going} (R : Running o s path was first links m g) where
  pub running-on : {now n : List ℕ} {h : Going} → Turned s path links now m n g h → Running o s path was first now n h
  running-on {h = h} T =
      record {
        same = T.same ∙ R.same;
        used = T.used;
        size = T.size ∙ R.size;
        marks = T.marks ∙ R.marks;
        kept = T.kept ∙ later-bytes links was g.used h.used T.grows R.kept;
        stands = T.stands;
      }

  module _ (e : g.over ≡ true) where
    ended-as : o ≡ walked (read_of links g) g.left (end_of g)
    ended-as = sym R.same ∙ outcome-over s path links m g g e

    laid-over : links ≡ paste was 0 (read_of links g)
    unfolding paste
    laid-over =
        sym (take-append-drop g.used links)
        ∙ ap (λ (x : List ℕ). read_of links g ++ x) (R.kept ∙ ap (λ (n : ℕ). drop n was) (let q : g.used ≡ 0 + length (read_of links g) - 0 = omega (arith, length-read links g.used R.used) in q))

    pub running-ends : Walks o was links g
    running-ends = record { links = laid-over ∙ ap (λ (x : Walked Spot). paste was 0 x.links) (sym ended-as); end = ap (λ (x : Walked Spot). x.end) ended-as }

-- ---- the path is entered

module _ (s : Fs) (at : Spot) (path links m : List ℕ) (z : length m ≡ 16) (g : Going) (E : Entered g (enter s at path) 8 0 0 (bit (from_root path)) (length path)) where
  pub begins : g.over ≡ false → Stands path links m g
  begins e =
      record {
        read = omega (arith, E.used);
        few = omega (arith, E.depth, E.left);
        order = omega (arith, E.from, E.to, root_in path);
        inside = subst (λ (d : ℕ). g.to ≤ bound_of path (read_of links g) d) (sym E.depth) (omega (arith, E.to));
        size = z;
        marks = λ j h. absurd (omega (arith, h, E.depth));
      }

  none_read : read_of links g ≡ []
  none_read = ap (λ (n : ℕ). take n links) E.used

  all_left : cut (left_of path (read_of links g) g.depth g.from g.to) ++ rests_of path (read_of links g) m g.depth ≡ parts_of path
  unfolding rests_of
  all_left =
      ap (λ (d : ℕ). cut (left_of path (read_of links g) d g.from g.to) ++ rests_of path (read_of links g) m d) E.depth
      ∙ append-nil (cut (part path g.from g.to))
      ∙ ap cut (ap₂ (part path) E.from E.to ∙ part_end path (bit (from_root path)))

  bad-path : g.over ≡ true → outcome s path links m g ≡ walk_in s at path (length links)
  unfolding walk_in
  bad-path e =
      let q = E.ends e in
      outcome-over s path links m g g e
      ∙ ap₂ (λ (x : List ℕ) (y : Out Spot). walked x g.left y) none_read (rw (ne_eqb (code g.ended) 0 (λ y. omega (arith, q.1, y))))
      ∙ ap (λ (k : ℕ). walked [] k (refused (code g.ended))) E.left
      ∙ sym (ap (λ (y : Out Spot). or_stop [] 8 y (λ to. walk_on s (length links) 8 [] to (parts_of path))) q.0)

  good-path : g.over ≡ false → outcome s path links m g ≡ walk_in s at path (length links)
  unfolding walk_in
  good-path e =
      outcome-going s path links m g e
      ∙ ap₂ (λ (k : ℕ) (ps : List (List ℕ)). walk_on s (length links) k (read_of links g) (spot g.id g.rec) ps) E.left all_left
      ∙ ap (λ (x : List ℕ). walk_on s (length links) 8 x (spot g.id g.rec) (parts_of path)) none_read
      ∙ sym (ap (λ (y : Out Spot). or_stop [] 8 y (λ to. walk_on s (length links) 8 [] to (parts_of path))) (E.goes e))

  pub begins-as : {now : List ℕ} {h : Going} → Walks (outcome s path links m g) links now h → Walks (walk_in s at path (length links)) links now h
  begins-as {now = now} {h = h} W = subst (λ (o : Walked Spot). Walks o links now h) (⊎_elim bad-path good-path (bool_cases g.over)) W

-- ---- the call

pub nothing-laid : (a : List ℕ) → a ≡ paste a 0 []
unfolding paste
nothing-laid a = refl

module _ (a : List ℕ) (t : Table) (w : ℕ) (h : Handle) (path links : List ℕ) {n : ℕ} where
  refused-call : admit a t ≡ refused n → call_walk a t w h path (length links) ≡ walked [] 8 (refused n)
  unfolding call_walk
  refused-call q = rw q

  pub call-refused : admit a t ≡ refused n → ((call_walk a t w h path (length links)).end ≡ refused n) × (links ≡ paste links 0 (call_walk a t w h path (length links)).links)
  call-refused q = (ap (λ (x : Walked Added). x.end) (refused-call q), nothing-laid links ∙ ap (λ (x : Walked Added). paste links 0 x.links) (sym (refused-call q)))

  module _ (q : admit a t ≡ done tt) {row : ℕ} {P : Type 0} (g : Went (by_handle t w h) row P n) where
    stopped_call : (n ≡ 0 → ⊥) → call_walk a t w h path (length links) ≡ walked [] 8 (refused n)
    unfolding call_walk
    stopped_call z = rw (q, went-not g z)

    pub call-stop : (n ≡ 0 → ⊥) → ((call_walk a t w h path (length links)).end ≡ refused n) × (links ≡ paste links 0 (call_walk a t w h path (length links)).links)
    call-stop z = (ap (λ (x : Walked Added). x.end) (stopped_call z), nothing-laid links ∙ ap (λ (x : Walked Added). paste links 0 x.links) (sym (stopped_call z)))

    abbrev from : Walked Spot
    from = walk_in (start a t) (spot (row_at t row).id (row_at t row).rec) path (length links)

    walks-call : n ≡ 0 → call_walk a t w h path (length links) ≡ hold_end a t w from
    unfolding call_walk
    walks-call z = rw (q, went-is g z)

    module _ (z : n ≡ 0) {now : List ℕ} {f : Going} (W : Walks from links now f) where
      pub call-links : now ≡ paste links 0 (call_walk a t w h path (length links)).links
      unfolding hold_end
      call-links = W.links ∙ ap (λ (x : Walked Added). paste links 0 x.links) (sym (walks-call z))

      end_is : (call_walk a t w h path (length links)).end ≡ bind (end_of f) (λ x. give_node a t w x.id)
      unfolding hold_end give_node
      end_is = ap (λ (x : Walked Added). x.end) (walks-call z) ∙ ap (λ (o : Out Spot). bind o (λ x. give_node a t w x.id)) W.end

      pub call-not : (e : Reason) → f.ended ≡ Err e → (call_walk a t w h path (length links)).end ≡ refused (number e)
      call-not e o = end_is ∙ rw (o, ne_eqb (number e) 0 (number-ne e))

      pub call-give : f.ended ≡ Ok tt → (call_walk a t w h path (length links)).end ≡ give_node a t w f.id
      call-give o = end_is ∙ rw o

-- the state at the call's start, and the folder of the handle, as memory has them
pub from-memory : (a m t : List ℕ) (row id : ℕ) (rec : DiskINode) (path : List ℕ) (room : ℕ) → table_in m ≡ table_in t → meta_in m ≡ load_meta a → id ≡ (row_at (table_in m) row).id → rec ≡ (row_at (table_in m) row).rec
    → walk_in (fs_at a m) (spot id rec) path room ≡ walk_in (start a (table_in t)) (spot (row_at (table_in t) row).id (row_at (table_in t) row).rec) path room
from-memory a m t row id rec path room e f g h = rw (g, h, e, f)

pub readmitted : {a first next m n : List ℕ} → Admitted a first next m → table_in n ≡ table_in m → Whole n → Admitted a first next n
readmitted A e w = record { led = A.led; whole = w; formed = ap well_formed e ∙ A.formed }
