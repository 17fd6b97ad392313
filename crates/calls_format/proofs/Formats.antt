-- The call format, in its parts.
use mathlib.Core.Path.{◌≡◌, sym, ◌∙◌, ap, subst}
use mathlib.Core.Bool.{true, false}
use mathlib.Core.List.{List}
use Prim.Native.Nat.{ℕ, ◌<◌}
use native.Mathlib.Omega.{arith}
use lib.ListN.{length, replicate}
use Rattle.std.specs.Prelude.{Ok, Err}
use Rattle.base.specs.Told.{number}
use Rattle.base.specs.declared.reasons.Reason.{Reason}
use Rattle.base.specs.Out.{Out, done, refused, bind, Went, ill}
use Rattle.base.proofs.Outs.{went-is, went-has, went-not, went-stop, went-next, went-weaken, above_zero, bind_assoc}
use Rattle.structs.specs.declared.Timespec.{Timespec}
use Rattle.structs.specs.Constants.{type_dir}
use Rattle.table.specs.declared.Table.{Table}
use Rattle.table.specs.Table.{empty_table}
use Rattle.arena.specs.Blocks.{legal}
use Rattle.overlay.specs.View.{view}
use Rattle.overlay.specs.Steps.{Changed, Did}
use Rattle.overlay.proofs.Chains.{did-well, did-ill, did-next, did-stop}
use Rattle.files.specs.Store.{make_file, cut_file}
use Rattle.sefs.specs.State.{Fs}
use Rattle.sefs.specs.Meta.{meta_file, sync_meta}
use Rattle.sefs.specs.Nodes.{id_at, opened, new_node, sync_row}
use Rattle.sefs.specs.Folders.{dirent_init, nlinks_inc}
use Rattle.sefs.specs.Create.{After, fresh_meta, format_steps, call_format}
use Rattle.mem.specs.Mem.{table_in, meta_in, Whole}
use Rattle.mem.specs.State.{fs_of, Still, Stepped}
use Rattle.folders.proofs.States.{stepped-next}
use Rattle.calls.specs.declared.Reply as answered
use Rattle.calls.specs.Answers.{done_with, refused_with}
use Rattle.calls.proofs.Answers.{after-done, after-refused}
use Rattle.steps.specs.Ends.{Ended, went, stopped, Returned}
use Rattle.steps.proofs.Ends.{bind-same, returned-ended}
use Rattle.calls_format.specs.Format.{make_meta, name_twice, sync_both, fill_root, format_work, cleared, formatted, emptied}

-- ---- the metadata file

module _ {a w u : List ℕ} {r : ℕ} (g : Did (make_file (view a w) meta_file) a w u 1 r) where
  pub meta-stop : (t : List ℕ) → (r ≡ 0 → ⊥) → Did (make_meta (view a w)) a w t 3 r
  unfolding make_meta
  meta-stop t z = did-stop (λ d. cut_file d meta_file 131072) t 3 z g

  pub meta-done : {t : List ℕ} {x : ℕ} → r ≡ 0 → Did (cut_file (view a u) meta_file 131072) a u t 2 x → Did (make_meta (view a w)) a w t 3 x
  unfolding make_meta
  meta-done z d = did-next (λ d. cut_file d meta_file 131072) 3 (did-well g z) (omega arith) d

-- ---- superblock and maps, and a record

module _ {a w u n : List ℕ} {r : ℕ} (m : List ℕ) (i : ℕ) (g : Stepped (sync_meta (fs_of a w m)) a w u n 10 r) where
  pub both-stop : (t l : List ℕ) → (r ≡ 0 → ⊥) → Stepped (sync_both (fs_of a w m) i) a w t l 13 r
  unfolding sync_both
  both-stop t l z = went-stop _ _ z g

  pub both-done : {t l : List ℕ} {q : ℕ} → r ≡ 0 → Stepped (sync_row (fs_of a u n) i) a u t l 3 q → Stepped (sync_both (fs_of a w m) i) a w t l 13 q
  unfolding sync_both
  both-done z h = stepped-next (λ s. sync_row s i) 10 13 (went-is g z) (went-has g z) h (omega arith)

-- ---- the root's slots, count and record

module _ {a w u n : List ℕ} {r : ℕ} (m : List ℕ) (i id : ℕ) (k : id ≡ id_at (fs_of a w m) i) (g : Stepped (dirent_init (fs_of a w m) i id) a w u n 6 r) where
  slotted : Stepped (dirent_init (fs_of a w m) i (id_at (fs_of a w m) i)) a w u n 6 r
  slotted = subst (λ (x : ℕ). Stepped (dirent_init (fs_of a w m) i x) a w u n 6 r) k g

  pub root-stop : (t l : List ℕ) → (r ≡ 0 → ⊥) → Stepped (fill_root (fs_of a w m) i) a w t l 19 r
  unfolding fill_root
  root-stop t l z = went-stop _ _ z slotted

  module _ {x : ℕ} (p : List ℕ) (h : Went (name_twice (fs_of a u n) i) (fs_of a u p) (Whole p) x) (z : r ≡ 0) where
    pub root-named : (t l : List ℕ) → (x ≡ 0 → ⊥) → Stepped (fill_root (fs_of a w m) i) a w t l 19 x
    unfolding fill_root
    root-named t l y = went-next _ (went-is slotted z) (went-stop _ _ y h)

    pub root-done : {t l : List ℕ} {q : ℕ} → x ≡ 0 → Stepped (sync_both (fs_of a u p) i) a u t l 13 q → Stepped (fill_root (fs_of a w m) i) a w t l 19 q
    unfolding fill_root
    root-done y d = stepped-next (λ s. bind (name_twice s i) (λ s. sync_both s i)) 6 19 (went-is slotted z) (went-has g z) (went-next _ (went-is h y) d) (omega arith)

-- ---- the steps

module _ {a w u : List ℕ} {r : ℕ} (m name : List ℕ) (time : Timespec) (g : Did (make_meta (view a w)) a w u 3 r) where
  pub work-stop : (t l : List ℕ) → (r ≡ 0 → ⊥) → Stepped (format_work (fs_of a w m) time name) a w t l 25 r
  unfolding format_work fs_of
  work-stop t l z = ill (above_zero r z) (rw (did-ill g z))

  work-on : r ≡ 0 → format_work (fs_of a w m) time name ≡ bind (new_node (fs_of a u m) type_dir 493 time name) (λ o. fill_root o.state o.row)
  unfolding format_work fs_of
  work-on z = rw (did-well g z).is

  module _ {t n : List ℕ} {x : ℕ} {row : ℕ} (z : r ≡ 0) (h : Went (new_node (fs_of a u m) type_dir 493 time name) (opened (fs_of a t n) row) (Still a u t n 3 × (row < 34)) x) where
    pub work-node : (t l : List ℕ) → (x ≡ 0 → ⊥) → Stepped (format_work (fs_of a w m) time name) a w t l 25 x
    work-node t l y = ill (above_zero x y) (work-on z ∙ rw (went-not h y))

    pub work-done : {s l : List ℕ} {q : ℕ} → x ≡ 0 → Stepped (fill_root (fs_of a t n) row) a t s l 19 q → Stepped (format_work (fs_of a w m) time name) a w s l 25 q
    work-done {s} {l} {q} y d =
        let e : format_work (fs_of a w m) time name ≡ fill_root (fs_of a t n) row = work-on z ∙ rw (went-is h y) in
        let c = did-well g z in
        let b = (went-has h y).0 in
        subst (λ (o : Out Fs). Stepped o a w s l 25 q) (sym e) (went-weaken (λ f. record { fine = f.fine; whole = f.whole; room = omega (arith, f.room, c.room, b.room) }) d)

-- ---- from zeros to what is written

pub fs-cleared : (a w u m : List ℕ) → Changed a w u (replicate (length a) 0) 0 → fs_of a u m ≡ cleared a m
unfolding fs_of cleared
fs-cleared a w u m c = rw c.is

module _ (a b w u m n name : List ℕ) (time : Timespec) {P : Type 0} {r : ℕ} (q : fs_of a u m ≡ cleared a m) (g : Went (format_work (fs_of a u m) time name) (fs_of a w n) P r) where
  pub wrote-not : (r ≡ 0 → ⊥) → b ≡ a → Ended (emptied (format_work (cleared a m) time name)) a b empty_table r
  wrote-not z e = rw (← q) (stopped (above_zero r z) (rw (went-not g z)) e)

  pub wrote-all : r ≡ 0 → b ≡ view a w → Ended (emptied (format_work (cleared a m) time name)) a b empty_table 0
  unfolding fs_of
  wrote-all z e = rw (← q) (went (rw (went-is g z, e)))

-- ---- the call is its steps

root_is : (s : Fs) (i : ℕ) → bind (dirent_init s i (id_at s i)) (λ s. bind (nlinks_inc s i) (λ s. bind (nlinks_inc s i) (λ s. bind (sync_meta s) (λ s. sync_row s i)))) ≡ fill_root s i
unfolding fill_root name_twice sync_both
root_is s i = bind-same (dirent_init s i (id_at s i)) _ _ (λ s. sym (bind_assoc (nlinks_inc s i) (λ s. nlinks_inc s i) (λ s. sync_both s i)))

-- the state that format starts from, on the arena a
abbrev begins : List ℕ → Fs
begins a = record { arena = a; table = empty_table; meta = done fresh_meta }

steps-is : (z : List ℕ) (time : Timespec) (name : List ℕ) → format_steps z time name ≡ format_work (begins z) time name
unfolding format_steps format_work make_meta
steps-is z time name =
    let k : List ℕ → Out Fs = λ a. bind (new_node (begins a) type_dir 493 time name) (λ o. fill_root o.state o.row) in
    let e : format_steps z time name ≡ bind (make_file z meta_file) (λ a. bind (cut_file a meta_file 131072) k) =
    bind-same (make_file z meta_file) _ _ (λ a.
    bind-same (cut_file a meta_file 131072) _ _ (λ d.
    bind-same (new_node (begins d) type_dir 493 time name) _ _ (λ o. root_is o.state o.row))) in
    e ∙ sym (bind_assoc (make_file z meta_file) (λ a. cut_file a meta_file 131072) k)

module _ (a name : List ℕ) (time : Timespec) where
  -- reason 1: the length is not 16 to 4,096 whole blocks
  pub format-stop : legal a ≡ false → formatted (call_format a time name) ≡ refused 1
  unfolding call_format
  format-stop e = rw e

  -- memory m has what format starts from
  pub format-is : (m : List ℕ) → legal a ≡ true → table_in m ≡ empty_table → meta_in m ≡ done fresh_meta → formatted (call_format a time name) ≡ emptied (format_work (cleared a m) time name)
  unfolding call_format cleared
  format-is m e t q =
      let z : List ℕ = replicate (length a) 0 in
      let f : formatted (call_format a time name) ≡ emptied (format_steps z time name) = rw e (bind_assoc (format_steps z time name) (λ s. done s.arena) (λ d. done (record { arena = d; table = empty_table }))) in
      let c : begins z ≡ cleared a m = λ x. record { arena = z; table = sym t x; meta = sym q x } in
      f ∙ ap emptied (steps-is z time name ∙ ap (λ (s : Fs). format_work s time name) c)

  pub ended-format : {b : List ℕ} {r : ℕ} (m : List ℕ) → legal a ≡ true → table_in m ≡ empty_table → meta_in m ≡ done fresh_meta → Ended (emptied (format_work (cleared a m) time name)) a b empty_table r → Ended (formatted (call_format a time name)) a b empty_table r
  ended-format m e t q g = rw (format-is m e t q) g

-- ---- what is returned: t is the empty table

module _ {t : Table} (k : t ≡ empty_table) {o : Out After} {a b : List ℕ} {r : answered.Reply Reason} where
  pub call-stuck : (e : Reason) → Ended o a b empty_table (number e) → r ≡ refused_with t e → Returned empty_table o a b r
  call-stuck e g q = returned-ended empty_table (Err e) g (q ∙ ap (λ (x : Table). refused_with x e) k ∙ after-refused empty_table empty_table e)

  pub call-went : Ended o a b empty_table 0 → r ≡ done_with t → Returned empty_table o a b r
  call-went g q = returned-ended empty_table (Ok tt) g (q ∙ ap done_with k ∙ after-done empty_table empty_table)
