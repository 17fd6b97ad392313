-- A slot of a folder's file while a call works: its 264 bytes stand, where the file is still there. A slot that goes may take another's place.
use mathlib.Core.Path.{◌≡◌, refl, sym, ap, ◌∙◌, subst}
use mathlib.Core.Bool.{true}
use mathlib.Core.List.{List}
use mathlib.Core.Logic.{◌≢◌, ⊎_elim}
use Prim.Native.Nat.{ℕ, ◌+◌, ◌*◌, ◌-◌, ◌≤◌, ◌<◌}
use native.Mathlib.Omega.{arith}
use lib.Dec.{eqb, ltb, leb}
use lib.ListN.{length, get_or}
use borrow.Author.Tests.{eqb-true, eqb-false}
use Rattle.base.specs.Out.{done, bind, Ok, went}
use Rattle.base.specs.Parts.{tab}
use Rattle.base.proofs.Outs.{ok-bind, ok-weaken}
use Rattle.base.proofs.Numbers.{lt-or-le}
use Rattle.base.proofs.Lists.{tab-cong, tab-get_or, length-tab}
use Rattle.structs.specs.Layout.{entry_of, entry_bytes}
use Rattle.structs.specs.declared.DiskEntry.{DiskEntry}
use Rattle.arena.specs.Fields.{File, file}
use Rattle.files.specs.Read.{there, length_of, byte_at, read_file}
use Rattle.files.specs.Store.{cut_file}
use Rattle.files_laws.specs.Laws.{Kept, Put, Cut}
use Rattle.files_laws.proofs.Parts.{file-cases}
use Rattle.files_laws.proofs.Cut.{cut-law}
use Rattle.table.specs.declared.Table.{Table}
use Rattle.table.specs.Table.{row_at, add_hold}
use Rattle.sefs.specs.State.{Fs, with_arena}
use Rattle.sefs.specs.Records.{with_blocks}
use Rattle.sefs.specs.Nodes.{rec_at, set_rec, node_file}
use Rattle.sefs.specs.Slots.{slot_bytes}
use Rattle.sefs.specs.Folders.{put_slot, dirent_append, dirent_remove, dirent_node_remove}
use Rattle.structs.specs.declared.DiskINode.{DiskINode}
use Rattle.rules.specs.Image.{run}
use Rattle.sefs_laws.proofs.Rows.{Any, any-guard, any-pick, Leaves, Changes, Bears, bears-and, filed-kept, filed, put-any, leaves-unlinked}
use Rattle.image.proofs.Appends.{file-apart}
use Rattle.sequences.specs.Pairs.{Pair, Passed}
use Rattle.sequences.proofs.Bytes.{Nodes, nodes-bears, nodes-adds, nodes-fills}

-- the bytes l stand in slot k of file f
pub record Stands (f : List ℕ) (k : ℕ) (l b : List ℕ) : Type 0 where
  pub inside : 264 * k + 264 ≤ length_of b (file 1 f)
  pub is : run b (file 1 f) (264 * k) 264 ≡ l

-- where the file is there
abbrev pub StandsIn : List ℕ → ℕ → List ℕ → List ℕ → Type 0
StandsIn f k l b = there b (file 1 f) ≡ true → Stands f k l b

-- while the file is as it was
pub same-stands : (f : List ℕ) (k : ℕ) (l b d : List ℕ) → Kept b d (file 1 f) → Stands f k l b → Stands f k l d
same-stands f k l b d K S = record {
  inside = omega (arith, S.inside, K.long);
  is = tab-cong (byte_at d (file 1 f)) (byte_at b (file 1 f)) (264 * k) (264 * k) 264 (λ i m. K.byte (264 * k + i)) ∙ S.is;
}

module _ (f : List ℕ) (k : ℕ) (l b d : List ℕ) where
  stands-kept : Kept b d (file 1 f) → StandsIn f k l b → StandsIn f k l d
  stands-kept = filed-kept f (Stands f k l) (same-stands f k l) b d

  -- a slot is put, of another file or another number
  stands-put : (g : List ℕ) (j : ℕ) (src : List ℕ) → length src ≡ 264 → Put b (file 1 g) (264 * j) src d → (g ≡ f → j ≢ k) → StandsIn f k l b → StandsIn f k l d
  stands-put g j src long P apart h e =
      ⊎_elim
      (λ (q : file 1 g ≡ file 1 f).
      let Q : Put b (file 1 f) (264 * j) src d = subst (λ (x : File). Put b x (264 * j) src d) q P in
      let S = h Q.was in
      let n : j ≢ k = apart (ap (λ (x : File). x.name) q) in
      record {
        inside = omega (arith, S.inside, Q.long);
        is = tab-cong (byte_at d (file 1 f)) (byte_at b (file 1 f)) (264 * k) (264 * k) 264
            (λ i m. Q.outside (264 * k + i) (λ z. ⊎_elim (λ y. omega (arith, long)) (λ y. absurd (n (omega arith))) (lt-or-le j k))) ∙ S.is;
      })
      (λ n. stands-kept (P.others (file 1 f) n) h e)
      (file-cases (file 1 g) (file 1 f))

  -- a file is cut, another or behind the slot
  stands-cut : (g : List ℕ) (m : ℕ) → Cut b (file 1 g) (264 * m) d → (g ≡ f → k < m) → StandsIn f k l b → StandsIn f k l d
  stands-cut g m C below h e =
      ⊎_elim
      (λ (q : file 1 g ≡ file 1 f).
      let Q : Cut b (file 1 f) (264 * m) d = subst (λ (x : File). Cut b x (264 * m) d) q C in
      let S = h Q.was in
      let n : k < m = below (ap (λ (x : File). x.name) q) in
      record {
        inside = omega (arith, Q.long);
        is = tab-cong (byte_at d (file 1 f)) (byte_at b (file 1 f)) (264 * k) (264 * k) 264 (λ i o. Q.below (264 * k + i) (omega arith)) ∙ S.is;
      })
      (λ n. stands-kept (C.others (file 1 f) n) h e)
      (file-cases (file 1 g) (file 1 f))

-- what was put stands
stands-new : (f : List ℕ) (k : ℕ) (l b d : List ℕ) → length l ≡ 264 → Put b (file 1 f) (264 * k) l d → Stands f k l d
stands-new f k l b d long P = record {
  inside = omega (arith, long, P.long);
  is = tab-cong (byte_at d (file 1 f)) (λ i. get_or l i 0) (264 * k) 0 264
      (λ i m. P.inside (264 * k + i) (omega arith) (omega (arith, long)) ∙ ap (λ (j : ℕ). get_or l j 0) (let z : 264 * k + i - 264 * k ≡ 0 + i = omega arith in z))
      ∙ ap (tab (λ i. get_or l i 0) 0) (sym long) ∙ tab-get_or l;
}

-- ---- while a call works

-- that slot, and of every node its type and its file
abbrev pub Holds : Pair → List ℕ → ℕ → List ℕ → List ℕ → Table → Type 0
Holds p f k l b u = Nodes p b u × StandsIn f k l b

module _ (p : Pair) (y : Passed p) (f : List ℕ) (k : ℕ) (l : List ℕ) where
  pub holds-bears : Bears (Holds p f k l)
  holds-bears = bears-and (nodes-bears p y) (filed f (Stands f k l) (same-stands f k l))

  pub holds-adds : (b : List ℕ) (u : Table) (w row : ℕ) → Holds p f k l b u → Holds p f k l b (add_hold u w row).table
  holds-adds b u w row h = (nodes-adds p y b u w row h.0, h.1)

  -- another file is filled
  pub holds-fill : (i : ℕ) (b d : List ℕ) (u : Table) → (row_at u i).rec.file ≢ f → ((g : File) → node_file (row_at u i).rec ≢ g → Kept b d g) → Holds p f k l b u → Holds p f k l d u
  holds-fill i b d u n K h = (nodes-fills p y i b d u K h.0, stands-kept f k l b d (K (file 1 f) (file-apart (row_at u i).rec.file f n)) h.1)

-- ---- slots

-- P holds of what is left, and all but the arena stays
abbrev pub AfterPut : (List ℕ → Table → Type 0) → Fs → Fs → Type 0
AfterPut P s x = P x.arena x.table × ((b : List ℕ) × (x ≡ with_arena s b))

-- and folder i has a slot more
abbrev pub AfterAppend : (List ℕ → Table → Type 0) → Fs → ℕ → Fs → Type 0
AfterAppend P s i x = P x.arena x.table × ((b : List ℕ) × (x ≡ set_rec (with_arena s b) i (with_blocks (rec_at s i) ((rec_at s i).blocks + 1))))

append-by : (P : List ℕ → Table → Type 0) → Changes P → (s : Fs) (i : ℕ) (e : DiskEntry) → Ok (AfterPut P s) Any (put_slot s i (rec_at s i).blocks (entry_bytes e)) → Ok (AfterAppend P s i) Any (dirent_append s i e)
unfolding dirent_append
append-by P change s i e put =
    ok-bind put λ u g.
    went (change u.arena u.table i _ refl refl refl refl refl g.0, (g.1.0, ap (λ (x : Fs). set_rec x i (with_blocks (rec_at x i) ((rec_at x i).blocks + 1))) g.1.1))

-- another slot of this file, or a slot of another
module _ (p : Pair) (y : Passed p) (f : List ℕ) (k : ℕ) (l : List ℕ) where
  pub puts : (s : Fs) (i j : ℕ) (src : List ℕ) → length src ≡ 264 → ((rec_at s i).file ≡ f → j ≢ k) → Holds p f k l s.arena s.table → Ok (AfterPut (Holds p f k l) s) Any (put_slot s i j src)
  unfolding put_slot
  puts s i j src long n h =
      ok-bind (put-any s.arena (node_file (rec_at s i)) (264 * j) src) λ b P.
      went ((nodes-fills p y i s.arena b s.table P.others h.0, stands-put f k l s.arena b (rec_at s i).file j src long P n h.1), (b, refl))

  pub appends : (s : Fs) (i : ℕ) (e : DiskEntry) → length (entry_bytes e) ≡ 264 → ((rec_at s i).file ≡ f → (rec_at s i).blocks ≢ k) → Holds p f k l s.arena s.table
      → Ok (AfterAppend (Holds p f k l) s i) Any (dirent_append s i e)
  appends s i e long n h = append-by (Holds p f k l) (holds-bears p y f k l).changes s i e (puts s i (rec_at s i).blocks (entry_bytes e) long n h)

-- what is put, or appended, stands
module _ (p : Pair) (y : Passed p) (f : List ℕ) (s : Fs) (i : ℕ) (own : (rec_at s i).file ≡ f) (c : Nodes p s.arena s.table) where
  pub puts-new : (j : ℕ) (src : List ℕ) → length src ≡ 264 → Ok (AfterPut (Holds p f j src) s) Any (put_slot s i j src)
  unfolding put_slot
  puts-new j src long =
      ok-bind (put-any s.arena (node_file (rec_at s i)) (264 * j) src) λ b P.
      went ((nodes-fills p y i s.arena b s.table P.others c, λ _. stands-new f j src s.arena b long (subst (λ (g : List ℕ). Put s.arena (file 1 g) (264 * j) src b) own P)), (b, refl))

  pub appends-new : (e : DiskEntry) → length (entry_bytes e) ≡ 264 → Ok (AfterAppend (Holds p f (rec_at s i).blocks (entry_bytes e)) s i) Any (dirent_append s i e)
  appends-new e long =
      append-by (Holds p f (rec_at s i).blocks (entry_bytes e)) (holds-bears p y f (rec_at s i).blocks (entry_bytes e)).changes s i e (puts-new (rec_at s i).blocks (entry_bytes e) long)

-- ---- a slot goes

read-slot : (a : List ℕ) (r : DiskINode) (k : ℕ) → Ok (λ l. l ≡ run a (node_file r) (264 * k) 264) Any (slot_bytes a r k)
unfolding slot_bytes read_file
read-slot a r k =
    ok-bind {P = λ (l : List ℕ). l ≡ run a (node_file r) (264 * k) 264}
    (any-guard (there a (node_file r)) 19 (λ _. any-guard (leb (264 * k + 264) (length_of a (node_file r))) 19 (λ _. went refl))) λ l e.
    any-guard (leb (entry_of l).kind 4) 19 (λ _. went e)

-- the slot stands in some later place
pub record Somewhere (p : Pair) (f l b : List ℕ) (u : Table) : Type 0 where
  pub place : ℕ
  pub later : 2 ≤ place
  pub holds : Holds p f place l b u

module _ (p : Pair) (y : Passed p) (f : List ℕ) (l : List ℕ) where
  -- the file is cut to its first n slots
  cuts : (s : Fs) (i k n : ℕ) → ((rec_at s i).file ≡ f → k < n) → Holds p f k l s.arena s.table → Ok (λ (b : List ℕ). Holds p f k l b s.table) Any (cut_file s.arena (node_file (rec_at s i)) (264 * n))
  cuts s i k n below h =
      ok-weaken (λ b C. (nodes-fills p y i s.arena b s.table C.others h.0, stands-cut f k l s.arena b (rec_at s i).file n C below h.1)) (λ r _. tt) (cut-law s.arena (node_file (rec_at s i)) (264 * n))

  -- the last slot was copied over slot j, or is it
  record Copied (s : Fs) (i k : ℕ) (u : Fs) : Type 0 where
    arena : List ℕ
    is : u ≡ with_arena s arena
    place : ℕ
    later : 2 ≤ place
    fixed : (rec_at s i).file ≢ f → place ≡ k
    below : (rec_at s i).file ≡ f → place < (rec_at s i).blocks - 1
    holds : Holds p f place l arena s.table

  -- slot k stands in a later place, in the same where the file is another; folder i has a slot less
  pub record Taken (s : Fs) (i k : ℕ) (x : Fs) : Type 0 where
    pub some : Somewhere p f l x.arena x.table
    pub fixed : (rec_at s i).file ≢ f → some.place ≡ k
    pub arena : List ℕ
    pub is : x ≡ set_rec (with_arena s arena) i (with_blocks (rec_at s i) ((rec_at s i).blocks - 1))

  module _ (s : Fs) (i j k : ℕ) (lk : 2 ≤ k) (lj : 2 ≤ j) (apart : (rec_at s i).file ≡ f → (j ≢ k) × (k < (rec_at s i).blocks) × (j < (rec_at s i).blocks)) (h : Holds p f k l s.arena s.table) where
    copies : (src : List ℕ) → src ≡ run s.arena (node_file (rec_at s i)) (264 * ((rec_at s i).blocks - 1)) 264 → j ≢ (rec_at s i).blocks - 1 → Ok (Copied s i k) Any (put_slot s i j src)
    unfolding put_slot
    copies src e far =
        ok-bind (put-any s.arena (node_file (rec_at s i)) (264 * j) src) λ b P.
        let c : Nodes p b s.table = nodes-fills p y i s.arena b s.table P.others h.0 in
        let still : ((rec_at s i).file ≡ f → k < (rec_at s i).blocks - 1) → Copied s i k (with_arena s b) = λ low. record {
          arena = b;
          is = refl;
          place = k;
          later = lk;
          fixed = λ _. refl;
          below = low;
          holds = (c, stands-put f k l s.arena b (rec_at s i).file j src long P (λ q. (apart q).0) h.1);
        } in
        ⊎_elim
        (λ (q : node_file (rec_at s i) ≡ file 1 f). ⊎_elim
        (λ low. went (still (λ _. low)))
        (λ last.
        let a = apart (ap (λ (x : File). x.name) q) in
        let z : (rec_at s i).blocks - 1 ≡ k = omega (arith, a.1) in
        let Q : Put s.arena (file 1 f) (264 * j) src b = subst (λ (x : File). Put s.arena x (264 * j) src b) q P in
        let w : src ≡ l = e ∙ ap (λ (x : File). run s.arena x (264 * ((rec_at s i).blocks - 1)) 264) q ∙ ap (λ (x : ℕ). run s.arena (file 1 f) (264 * x) 264) z ∙ (h.1 Q.was).is in
        went (record {
          arena = b;
          is = refl;
          place = j;
          later = lj;
          fixed = λ n. absurd (n (ap (λ (x : File). x.name) q));
          below = λ _. ⊎_elim (λ x. x) (λ x. absurd (far (omega (arith, a.2)))) (lt-or-le j ((rec_at s i).blocks - 1));
          holds = (c, λ _. subst (λ (x : List ℕ). Stands f j x b) w (stands-new f j src s.arena b long Q));
        }))
        (lt-or-le k ((rec_at s i).blocks - 1)))
        (λ n. went (still (λ q. absurd (n (ap (file 1) q)))))
        (file-cases (node_file (rec_at s i)) (file 1 f))
      where
        long : length src ≡ 264
        long = ap (λ (x : List ℕ). length x) e ∙ length-tab (byte_at s.arena (node_file (rec_at s i))) (264 * ((rec_at s i).blocks - 1)) 264

    stays : j ≡ (rec_at s i).blocks - 1 → Copied s i k s
    stays q = record {
      arena = s.arena;
      is = refl;
      place = k;
      later = lk;
      fixed = λ _. refl;
      below = λ z. let a = apart z in ⊎_elim (λ x. x) (λ x. absurd (a.0 (omega (arith, a.1)))) (lt-or-le k ((rec_at s i).blocks - 1));
      holds = h;
    }

    -- slot j of a file goes: another slot stands where it stood, or there
    pub takes : Ok (Taken s i k) Any (dirent_remove s i j)
    unfolding dirent_remove
    takes =
        any-guard (ltb 0 (rec_at s i).blocks) 19 (λ _.
        ok-bind (read-slot s.arena (rec_at s i) ((rec_at s i).blocks - 1)) λ src e.
        ok-bind {P = Copied s i k}
        (any-pick (eqb j ((rec_at s i).blocks - 1)) (done s) (put_slot s i j src)
        (λ q. went (stays (eqb-true j ((rec_at s i).blocks - 1) q)))
        (λ q. copies src e (eqb-false j ((rec_at s i).blocks - 1) q))) λ u c.
        subst (λ (x : Fs). Ok (Taken s i k) Any
        (bind (cut_file x.arena (node_file (rec_at x i)) (264 * ((rec_at x i).blocks - 1))) (λ a. done (set_rec (with_arena x a) i (with_blocks (rec_at x i) ((rec_at x i).blocks - 1)))))) (sym c.is)
        (ok-bind (cuts (with_arena s c.arena) i c.place ((rec_at s i).blocks - 1) c.below c.holds) λ b w.
        went (record {
          some = record { place = c.place; later = c.later; holds = (holds-bears p y f c.place l).changes b s.table i _ refl refl refl refl refl w };
          fixed = c.fixed;
          arena = b;
          is = refl;
        })))

    -- and links fall, and its node is let go
    pub node-takes : (c : ℕ) → Leaves (Somewhere p f l) (dirent_node_remove s i c j)
    unfolding dirent_node_remove
    node-takes c =
        ok-bind takes λ u g.
        ok-weaken (λ x h. record { place = g.some.place; later = g.some.later; holds = h }) (λ r q. q) (leaves-unlinked (Holds p f g.some.place l) (holds-bears p y f g.some.place l) u i c g.some.holds)
