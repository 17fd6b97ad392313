-- A pass: it begins at root, takes lines while they fit, goes up, and ends where nothing is left.
use mathlib.Core.Path.{◌≡◌, refl, sym, ap, subst, ◌∙◌}
use mathlib.Core.Bool.{Bool, true, false}
use mathlib.Core.List.{List, [], ◌∷◌, ◌++◌, append_assoc, append-nil}
use Prim.Native.Nat.{ℕ, ◌+◌, ◌*◌, ◌-◌, ◌≤◌, ◌<◌}
use native.Mathlib.Nat.{zero-add}
use native.Mathlib.Omega.{arith}
use lib.ListN.{length, take, drop, length-append}
use lib.Seq.{take_at, drop_at, take-nil, take-take}
use Rattle.base.specs.Parts.{part, paste}
use Rattle.base.proofs.Lists.{length-paste, part-paste, paste-paste}
use Rattle.base.proofs.Bools.{true-false}
use Rattle.base.proofs.Parts.{part-size, part-part}
use Rattle.le.specs.Le.{le_at}
use Rattle.structs.specs.Layout.{record_of, entry_of}
use Rattle.structs.specs.Types.{is_folder}
use Rattle.structs.specs.declared.DiskEntry.{DiskEntry}
use Rattle.structs.specs.declared.DiskINode.{DiskINode}
use Rattle.utf8.specs.Names.{name_of}
use Rattle.table.specs.Table.{empty_table}
use Rattle.sefs.specs.Nodes.{node_file}
use Rattle.rules.specs.Image.{run, stored_bytes, rec_of, slot_in}
use Rattle.rules.specs.Tests.{checked}
use Rattle.inventory.specs.Text.{escape, newline, path_to, line}
use Rattle.inventory.specs.Inventory.{stored_tree, text}
use Rattle.inventory.specs.Visits.{Visit, visit, visits, node_line, lines_of}
use Rattle.calls_inventory.specs.declared.passes.Progress.{Progress}
use Rattle.calls_inventory.specs.declared.places.Place.{Place}
use Rattle.calls_inventory.specs.Places.{StandsAt, past_line, Up}
use Rattle.calls_inventory.specs.Passes.{laid_if, Midst, ended, full, ahead, OneTurn, stopped_as, moved_to, head_for, tail_for, line_for, line_end, behind_line, Took, fit, stop}
use Rattle.calls_inventory.proofs.Lines.{line-is, length-line, head-some, tail-long, path-tail}
use Rattle.calls_inventory.proofs.Stands.{stored_is, names-below, names-some, line_other, line-folder}

-- ---- an output

laid_none : (write : Bool) (out : List ℕ) → out ≡ laid_if write out 0 []
unfolding laid_if paste
laid_none true out = refl
laid_none false out = refl

length-laid : (write : Bool) (out t : List ℕ) → length t ≤ length out → length (laid_if write out 0 t) ≡ length out
unfolding laid_if
length-laid true out t f = length-paste out 0 t (omega arith)
length-laid false out t f = refl

-- the text so far, and a line behind it
laid_more : (write : Bool) (out t l : List ℕ) → length t + length l ≤ length out → laid_if write (laid_if write out 0 t) (length t) l ≡ laid_if write out 0 (t ++ l)
unfolding laid_if
laid_more true out t l f = ap (λ (n : ℕ). paste (paste out 0 t) n l) (sym (zero-add (length t))) ∙ paste-paste out 0 t l (omega arith)
laid_more false out t l f = refl

-- what stands in the text so far stands in the output where a pass writes
part-laid : (out t : List ℕ) (s e : ℕ) → e ≤ length t → length t ≤ length out → part (paste out 0 t) s e ≡ part t s e
part-laid out t s e l f =
    let p = part-paste out 0 t (omega arith) in
    let q = part-part (paste out 0 t) 0 (0 + length t) s e (omega arith) in
    ap (λ (n : ℕ). part (paste out 0 t) n e) (sym (zero-add s))
    ∙ ap (λ (n : ℕ). part (paste out 0 t) (0 + s) n) (sym (zero-add e))
    ∙ sym q
    ∙ ap (λ (x : List ℕ). part x s e) p

-- a part that stands between two others, and the front of a part
part-middle : (x y z : List ℕ) (s n : ℕ) → length x ≡ s → length y ≡ n → part (x ++ (y ++ z)) s (s + n) ≡ y
part-middle x y z s n p q = part-size (x ++ (y ++ z)) s n ∙ ap (take n) (drop_at x (y ++ z) s p) ∙ take_at y z n q

part-front : (l x y : List ℕ) (s m n : ℕ) → part l s (s + n) ≡ x ++ y → length x ≡ m → m ≤ n → part l s (s + m) ≡ x
part-front l x y s m n e p f =
    part-size l s m
    ∙ sym (take-take m n (drop s l) f)
    ∙ ap (take m) (sym (part-size l s n) ∙ e)
    ∙ take_at x y m p

-- ---- past a line

-- the lines that are left, and the new folder's path, with which the line's own begins
record Next (a : List ℕ) (p : Place) (path : List ℕ) (rest : List Visit) (e : DiskEntry) (node : DiskINode) : Type 0 where
  more : List Visit
  lines : lines_of (stored_tree a) rest ≡ line_for e node path ++ lines_of (stored_tree a) more
  short : List ℕ
  cut : List ℕ
  path-is : path ++ tail_for e ≡ short ++ cut
  stands : StandsAt a (past_line p e.id node (length (tail_for e) - 1)) short more

module _ (a : List ℕ) (p : Place) (path : List ℕ) (rest : List Visit) (c : checked a empty_table ≡ 0) (S : StandsAt a p path rest) (l : p.slot < p.rec.blocks) where
  abbrev own : DiskEntry
  own = slot_in a p.rec p.slot

  abbrev its : DiskINode
  its = rec_of a empty_table own.id

  lines_next : (m : List Visit) → rest ≡ visit (stored_tree a) p.folder path p.slot ∷ m → lines_of (stored_tree a) rest ≡ line_for own its path ++ lines_of (stored_tree a) m
  unfolding lines_of node_line
  lines_next m q =
      ap (lines_of (stored_tree a)) q
      ∙ ap (λ (r : DiskINode). line (slot_in a r p.slot).id (rec_of a empty_table (slot_in a r p.slot).id).kind (rec_of a empty_table (slot_in a r p.slot).id).nlinks (path_to path (name_of (slot_in a r p.slot).name)) ++ lines_of (stored_tree a) m) (sym S.rec)
      ∙ ap (λ (x : List ℕ). x ++ lines_of (stored_tree a) m) (line-is own its path)

  next-by : (b : Bool) → is_folder its.kind ≡ b → Next a p path rest own its
  next-by true h =
      let g = line-folder a p path rest c S l h in
      record {
        more = g.0;
        lines = lines_next g.0 g.1;
        short = path_to path (name_of own.name);
        cut = newline;
        path-is = path-tail path own;
        stands =
            subst (λ (n : ℕ). StandsAt a (past_line p own.id its n) (path_to path (name_of own.name)) g.0) (sym (tail-long own))
            (subst (λ (r : DiskINode). StandsAt a (past_line p own.id its (1 + length (escape (name_of own.name)))) (path_to path (name_of (slot_in a r p.slot).name)) g.0) (sym S.rec) g.2);
      }
  next-by false h =
      let g = line_other a p path rest c S l h (length (tail_for own) - 1) in
      record { more = g.0; lines = lines_next g.0 g.1; short = path; cut = tail_for own; path-is = refl; stands = g.2 }

  -- of a slot that was read, and of its node
  line-next : (e : DiskEntry) (node : DiskINode) → e ≡ own → node ≡ rec_of a empty_table e.id → Next a p path rest e node
  line-next e node q n =
      subst (Next a p path rest e) (sym n)
      (subst (λ (x : DiskEntry). Next a p path rest x (rec_of a empty_table x.id)) (sym q) (next-by (is_folder its.kind) refl))

-- ---- a pass in its midst

-- a line of f's making behind the text so far, by the path that stands in it
laid-line : (write : Bool) (o out done now path : List ℕ) (at s e : ℕ) (f : List ℕ → List ℕ) → out ≡ laid_if write o 0 done → at ≡ length done → e ≤ length done → part done s e ≡ path
    → length done + length (f path) ≤ length o → now ≡ laid_if write out at (f (part out s e)) → now ≡ laid_if write o 0 (done ++ f path)
unfolding laid_if
laid-line true o out done now path at s e f q p b x l w =
    let y : part out s e ≡ path = ap (λ (z : List ℕ). part z s e) q ∙ part-laid o done s e b (omega arith) ∙ x in
    w
    ∙ ap (λ (z : List ℕ). paste out at (f z)) y
    ∙ ap (λ (z : List ℕ). paste z at (f path)) q
    ∙ ap (λ (n : ℕ). paste (paste o 0 done) n (f path)) p
    ∙ laid_more true o done (f path) l
laid-line false o out done now path at s e f q p b x l w = w ∙ q

midst-long : {a : List ℕ} {write : Bool} {o out : List ℕ} {s : Progress} → Midst a write o out s → length out ≡ length o
midst-long {write = write} {o} m = ap length m.now-is ∙ length-laid write o m.done m.fits

pub midst-room : {a : List ℕ} {write : Bool} {o out : List ℕ} {s : Progress} → Midst a write o out s → s.at ≤ length out
midst-room m = omega (arith, m.at, m.fits, midst-long m)

-- by the length of the output that the code has
pub nearer : (out : List ℕ) (r s : Progress) {a : List ℕ} {write : Bool} {o : List ℕ} {q : Progress} → Midst a write o out q → ahead o r < ahead o s → ahead out r < ahead out s
unfolding ahead
nearer out r s m l = omega (arith, l, midst-long m)

module _ (a : List ℕ) (write : Bool) (o out now : List ℕ) (s : Progress) (m : Midst a write o out s) (e : DiskEntry) (node : DiskINode) (n : Next a s.place m.path m.rest e node) where
  abbrev new : List ℕ
  new = line_for e node m.path

  new-text : text a ≡ (m.done ++ new) ++ lines_of (stored_tree a) n.more
  new-text = m.whole ∙ ap (λ (x : List ℕ). m.done ++ x) n.lines ∙ sym (append_assoc m.done new (lines_of (stored_tree a) n.more))

  new-end : length m.done + length new ≡ line_end s e node
  unfolding line_end
  new-end = omega (arith, m.at, m.stands.long, length-line e node m.path)

  new-long : length (m.done ++ new) ≡ line_end s e node
  new-long = length-append m.done new ∙ new-end

  -- the new folder's path is no longer than the line's
  short-long : length n.short ≤ s.place.path + length (tail_for e)
  short-long = omega (arith, m.stands.long, length-append m.path (tail_for e), ap length n.path-is, length-append n.short n.cut)

  -- where it begins, in the text so far
  new-path : part (m.done ++ new) (s.at + length (head_for e node)) (s.at + length (head_for e node) + (past_line s.place e.id node (length (tail_for e) - 1)).path) ≡ n.short
  unfolding line_for
  new-path =
      ap (λ (x : List ℕ). part (m.done ++ (head_for e node ++ x)) (s.at + length (head_for e node)) (s.at + length (head_for e node) + (past_line s.place e.id node (length (tail_for e) - 1)).path)) n.path-is
      ∙ ap (λ (x : List ℕ). part x (s.at + length (head_for e node)) (s.at + length (head_for e node) + (past_line s.place e.id node (length (tail_for e) - 1)).path)) (sym (append_assoc m.done (head_for e node) (n.short ++ n.cut)))
      ∙ part-middle (m.done ++ head_for e node) n.short n.cut (s.at + length (head_for e node)) (past_line s.place e.id node (length (tail_for e) - 1)).path (omega (arith, m.at, length-append m.done (head_for e node))) (sym n.stands.long)

  line-fits : line_end s e node ≤ length out → now ≡ laid_if write out s.at (line_for e node (part out s.from (s.from + s.place.path))) → OneTurn a write o now s (behind_line s e node)
  unfolding behind_line line_end ahead
  line-fits f w = record {
    over = λ z. absurd (true-false z refl);
    on = λ _. (
      record {
        path = n.short;
        rest = n.more;
        stands = n.stands;
        done = m.done ++ new;
        whole = new-text;
        at = sym new-long;
        fits = omega (arith, new-long, midst-long m);
        now-is = laid-line write o out m.done now m.path s.at s.from (s.from + s.place.path) (line_for e node) m.now-is m.at (omega (arith, m.before, m.at)) m.path-is (omega (arith, new-end, midst-long m)) w;
        before = omega (arith, n.stands.long, short-long);
        path-is = new-path;
      },
      omega (arith, n.stands.long, short-long, head-some e node, midst-long m),
    );
  }

  line-stops : length out < line_end s e node → now ≡ out → OneTurn a write o now s (stopped_as s true)
  unfolding laid_if
  line-stops f w = record {
    over = λ _. full refl (omega (arith, midst-long m, ap length new-text, length-append (m.done ++ new) (lines_of (stored_tree a) n.more), new-long)) (λ z. w ∙ m.now-is ∙ ap (λ (b : Bool). laid_if b o 0 m.done) z);
    on = λ z. absurd (true-false refl z);
  }

  took-turned : (r : Progress) → Took write e node out now s r → OneTurn a write o now s r
  took-turned r (fit f w q) = subst (OneTurn a write o now s) (sym q) (line-fits f w)
  took-turned r (stop f w q) = subst (OneTurn a write o now s) (sym q) (line-stops f w)

-- ---- a slot that was read

module _ (a : List ℕ) (p : Place) (slot : List ℕ) (id : ℕ) (q : slot ≡ run a (node_file p.rec) (264 * p.slot) 264) (i : id ≡ le_at slot 0 4) where
  entry-is : entry_of slot ≡ slot_in a p.rec p.slot
  unfolding slot_in
  entry-is = ap entry_of q

  id-is : id ≡ (entry_of slot).id
  unfolding entry_of
  id-is = i

  own-id : id ≡ (slot_in a p.rec p.slot).id
  own-id = id-is ∙ ap (λ (e : DiskEntry). e.id) entry-is

  module _ (c : checked a empty_table ≡ 0) (l : p.slot < p.rec.blocks) (path : List ℕ) (rest : List Visit) (S : StandsAt a p path rest) where
    pub id_below : id < 4096
    id_below = omega (arith, own-id, names-below a p path rest c S l)

    read_next : (node : DiskINode) → node ≡ record_of (stored_bytes a id) → Next a p path rest (entry_of slot) node
    read_next node r =
        line-next a p path rest c S l (entry_of slot) node entry-is
        (stored_is a id node (λ z. names-some a p path rest c S l (sym own-id ∙ z)) r ∙ ap (rec_of a empty_table) id-is)

-- a turn that takes the slot's line
pub line-turned : (a : List ℕ) (write : Bool) (o out now slot : List ℕ) (s r : Progress) (id : ℕ) (node : DiskINode) → checked a empty_table ≡ 0 → s.place.slot < s.place.rec.blocks
    → slot ≡ run a (node_file s.place.rec) (264 * s.place.slot) 264 → id ≡ le_at slot 0 4 → node ≡ record_of (stored_bytes a id)
    → Took write (entry_of slot) node out now s r → Midst a write o out s → OneTurn a write o now s r
line-turned a write o out now slot s r id node c l q i n t m =
    took-turned a write o out now s m (entry_of slot) node (read_next a s.place slot id q i c l m.path m.rest m.stands node n) r t

-- ---- the other turns

module _ (a : List ℕ) (write : Bool) where
  -- at the beginning nothing is done
  pub midst-start : (out : List ℕ) (p : Place) → StandsAt a p [] (visits (stored_tree a)) → Midst a write out out (record { over = false; full = false; at = 0; from = 0; place = p })
  unfolding text
  midst-start out p S = record {
    path = [];
    rest = visits (stored_tree a);
    stands = S;
    done = [];
    whole = refl;
    at = refl;
    fits = omega arith;
    now-is = laid_none write out;
    before = omega (arith, S.long);
    path-is = take-nil (0 + p.path - 0);
  }

  module _ (o out : List ℕ) (s : Progress) (m : Midst a write o out s) where
    -- up from a folder: its path begins as the shorter one
    up-moved : (q : Place) → Up a s.place m.path m.rest q → OneTurn a write o out s (moved_to s q)
    unfolding ahead
    up-moved q u = record {
      over = λ z. absurd (true-false z refl);
      on = λ _. (
        record {
          path = u.short;
          rest = m.rest;
          stands = u.stands;
          done = m.done;
          whole = m.whole;
          at = m.at;
          fits = m.fits;
          now-is = m.now-is;
          before = omega (arith, m.before, u.shorter);
          path-is = part-front m.done u.short u.cut s.from q.path s.place.path (m.path-is ∙ u.path-is) (sym u.stands.long) (omega (arith, u.shorter));
        },
        omega (arith, u.shorter),
      );
    }

    pub up-turned : (q : Place) → Up a s.place m.path m.rest q → (r : Progress) → r ≡ moved_to s q → OneTurn a write o out s r
    up-turned q u r e = subst (OneTurn a write o out s) (sym e) (up-moved q u)

    -- nothing is left
    end-stopped : m.rest ≡ [] → OneTurn a write o out s (stopped_as s false)
    unfolding lines_of
    end-stopped z =
        let t : text a ≡ m.done = m.whole ∙ ap (λ (l : List Visit). m.done ++ lines_of (stored_tree a) l) z ∙ append-nil m.done in
        record {
          over = λ _. ended refl (m.at ∙ ap length (sym t)) (omega (arith, ap length t, m.fits)) (m.now-is ∙ ap (laid_if write o 0) (sym t));
          on = λ y. absurd (true-false refl y);
        }

    pub end-turned : m.rest ≡ [] → (r : Progress) → r ≡ stopped_as s false → OneTurn a write o out s r
    end-turned z r e = subst (OneTurn a write o out s) (sym e) (end-stopped z)
