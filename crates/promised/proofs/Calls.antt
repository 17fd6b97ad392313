-- For each public call: whatever satisfies its contract from a passed pair leaves a passed pair, and answers none of the three reasons.
use mathlib.Core.Path.{◌≡◌, refl, sym, ap, ◌∙◌, subst}
use mathlib.Core.Bool.{Bool, true, false}
use mathlib.Core.List.{List}
use Prim.Native.Nat.{ℕ, ◌<◌, ◌^◌}
use lib.ListN.{length}
use Rattle.base.proofs.Bools.{true-false}
use Rattle.base.specs.Out.{Out, done, refused, bind, answer, kept}
use Rattle.structs.specs.declared.Timespec.{Timespec}
use Rattle.table.specs.declared.Table.{Table}
use Rattle.table.specs.declared.Handle.{Handle}
use Rattle.table.specs.declared.Added.{Added}
use Rattle.table.specs.Table.{empty_table}
use Rattle.sefs.specs.declared.Metadata.{Metadata}
use Rattle.sefs.specs.Open.{call_root, call_find}
use Rattle.sefs.specs.Create.{After, Given, call_format, call_create, call_link}
use Rattle.sefs.specs.Remove.{call_remove_file, call_remove_folder}
use Rattle.sefs.specs.Move.{call_move}
use Rattle.sefs.specs.Read.{call_metadata, call_set, call_entry, call_listing}
use Rattle.sefs.specs.Contents.{call_read, call_write, call_resize}
use Rattle.sefs.specs.Close.{call_sync, call_close}
use Rattle.paths.specs.Path.{call_path}
use Rattle.ranges.specs.Ranges.{call_fallocate}
use Rattle.ranges.specs.declared.FallocateMode.{FallocateMode}
use Rattle.walk.specs.Walk.{call_walk}
use Rattle.inventory.specs.Inventory.{call_inventory}
use Rattle.mending.specs.Mend.{call_mend}
use Rattle.le.specs.Le.{Bytes}
use Rattle.structs.specs.Fits.{TimeFits}
use Rattle.std.specs.Prelude.{Result, Ok, Err}
use Rattle.base.specs.Told.{code}
use Rattle.base.specs.declared.reasons.Reason.{Reason}
use Rattle.calls.specs.Answers.{out_of, answer_of, listed_of, taken_of, Lays, Replies}
use Rattle.calls.proofs.Answers.{code-out}
use Rattle.calls.specs.declared.Reply as answered
use Rattle.calls.specs.declared.HeldReply as handed
use Rattle.steps.specs.Ends.{Returned}
use Rattle.calls_create.specs.Held.{ReturnedHeld}
use Rattle.calls_format.specs.Format.{formatted}
use Rattle.calls_find.specs.Finds.{Gives}
use Rattle.calls_mend.specs.Mends.{Mends}
use Rattle.sequences.specs.Pairs.{Pair, pair, Passed}
use Rattle.sequences.specs.Calls.{Call, root, find, walk, create, link, remove_file, remove_folder, move, metadata, set_metadata, get_entry, listing, full_path, read, write, resize, fallocate, sync, close, inventory, mend, Fits, AskerFits, HandleFits, NewFits, SetFits, does, reason_of, next}
use Rattle.sequences.specs.Promises.{Keeps, Well, Fresh}
use Rattle.sequences.proofs.Sequences.{keeps}
use Rattle.sequences.proofs.Fresh.{fresh}
use Rattle.promised.specs.Promised.{Stays}

-- ---- from what is promised of the definition

-- where the definition's outcome is known, the pair and the number are
stays : (c : Call) (p q : Pair) (n : ℕ) → Well c p → next c p ≡ q → reason_of c p ≡ n → Stays q.arena q.table n
stays c p q n w e r = record {
  not_stuck = λ z. w.not_stuck (r ∙ z);
  not-damaged = λ z. w.not-damaged (r ∙ z);
  not-malformed = λ z. w.not-malformed (r ∙ z);
  passes = subst Passed e w.passes;
}

-- a call's own outcome o, and the pair that it leaves
module _ {A : Type 0} (c : Call) (p : Pair) (f : A → Pair) (w : Well c p) where
  stays-done : (x : A) → does c p ≡ done (f x) → Stays (f x).arena (f x).table 0
  stays-done x e = stays c p (f x) 0 w (ap (kept p) e) (ap answer e)

  stays-refused : (n : ℕ) → does c p ≡ refused n → Stays p.arena p.table n
  stays-refused n e = stays c p p n w (ap (kept p) e) (ap answer e)

abbrev left : After → Pair
left x = pair x.arena x.table

-- calls that change the arena
by-return : (c : Call) (p : Pair) (o : Out After) → Well c p → does c p ≡ bind o (λ x. done (left x))
    → (b : List ℕ) (r : answered.Reply Reason) → Returned p.table o p.arena b r → Stays b r.table (code r.answer)
by-return c p (done x) w e b r R =
    subst (λ (b : List ℕ). Stays b r.table (code r.answer)) (sym R.arena)
    (subst (λ (u : Table). Stays x.arena u (code r.answer)) (sym (ap (λ (q : Out Unit × Table). q.1) R.answer))
    (subst (Stays x.arena x.table) (sym (code-out r.answer ∙ ap (λ (q : Out Unit × Table). answer q.0) R.answer)) (stays-done c p left w x e)))
by-return c p (refused n) w e b r R =
    subst (λ (b : List ℕ). Stays b r.table (code r.answer)) (sym R.arena)
    (subst (λ (u : Table). Stays p.arena u (code r.answer)) (sym (ap (λ (q : Out Unit × Table). q.1) R.answer))
    (subst (Stays p.arena p.table) (sym (code-out r.answer ∙ ap (λ (q : Out Unit × Table). answer q.0) R.answer)) (stays-refused c p left w n e)))

-- calls that change the arena and make a hold
by-held : (c : Call) (p : Pair) (o : Out Given) → Well c p → does c p ≡ bind o (λ x. done (pair x.arena x.table))
    → (b : List ℕ) (r : handed.HeldReply) → ReturnedHeld p.table o p.arena b r → Stays b r.table (code r.answer)
by-held c p (done x) w e b r R =
    subst (λ (b : List ℕ). Stays b r.table (code r.answer)) (sym R.arena)
    (subst (λ (u : Table). Stays x.arena u (code r.answer)) (sym (ap (λ (q : Out Handle × Table). q.1) R.answer))
    (subst (Stays x.arena x.table) (sym (code-out r.answer ∙ ap (λ (q : Out Handle × Table). answer q.0) R.answer)) (stays-done c p (λ (x : Given). pair x.arena x.table) w x e)))
by-held c p (refused n) w e b r R =
    subst (λ (b : List ℕ). Stays b r.table (code r.answer)) (sym R.arena)
    (subst (λ (u : Table). Stays p.arena u (code r.answer)) (sym (ap (λ (q : Out Handle × Table). q.1) R.answer))
    (subst (Stays p.arena p.table) (sym (code-out r.answer ∙ ap (λ (q : Out Handle × Table). answer q.0) R.answer)) (stays-refused c p (λ (x : Given). pair x.arena x.table) w n e)))

-- calls that make a hold and keep the arena
by-gift : (c : Call) (p : Pair) (o : Out Added) → Well c p → does c p ≡ bind o (λ x. done (pair p.arena x.table))
    → (r : handed.HeldReply) → Gives p.table o r → Stays p.arena r.table (code r.answer)
by-gift c p (done x) w e r R =
    subst (λ (u : Table). Stays p.arena u (code r.answer)) (sym R.1)
    (subst (Stays p.arena x.table) (sym (code-out r.answer ∙ ap answer R.0)) (stays-done c p (λ (x : Added). pair p.arena x.table) w x e))
by-gift c p (refused n) w e r R =
    subst (λ (u : Table). Stays p.arena u (code r.answer)) (sym R.1)
    (subst (Stays p.arena p.table) (sym (code-out r.answer ∙ ap answer R.0)) (stays-refused c p (λ (x : Added). pair p.arena x.table) w n e))

-- calls that change the table alone
by-reply : (c : Call) (p : Pair) (o : Out Table) → Well c p → does c p ≡ bind o (λ t. done (pair p.arena t))
    → (r : answered.Reply Reason) → Replies p.table o r → Stays p.arena r.table (code r.answer)
by-reply c p (done t) w e r R =
    subst (λ (u : Table). Stays p.arena u (code r.answer)) (sym R.1)
    (subst (Stays p.arena t) (sym (code-out r.answer ∙ ap answer R.0)) (stays-done c p (λ (t : Table). pair p.arena t) w t e))
by-reply c p (refused n) w e r R =
    subst (λ (u : Table). Stays p.arena u (code r.answer)) (sym R.1)
    (subst (Stays p.arena p.table) (sym (code-out r.answer ∙ ap answer R.0)) (stays-refused c p (λ (t : Table). pair p.arena t) w n e))

-- the mender, which changes the arena alone
by-mend : (c : Call) (p : Pair) (o : Out (List ℕ)) → Well c p → does c p ≡ bind o (λ a. done (pair a p.table))
    → (b : List ℕ) (r : Result Unit Reason) → Mends o p.arena b r → Stays b p.table (code r)
by-mend c p (done a) w e b r R =
    subst (λ (b : List ℕ). Stays b p.table (code r)) (sym R.arena)
    (subst (Stays a p.table) (sym (code-out r ∙ ap answer R.answer)) (stays-done c p (λ (a : List ℕ). pair a p.table) w a e))
by-mend c p (refused n) w e b r R =
    subst (λ (b : List ℕ). Stays b p.table (code r)) (sym R.arena)
    (subst (Stays p.arena p.table) (sym (code-out r ∙ ap answer R.answer)) (stays-refused c p (λ (a : List ℕ). pair a p.table) w n e))

-- calls that change nothing
by-none : {A : Type 0} (c : Call) (p : Pair) (o : Out A) → Well c p → does c p ≡ bind o (λ _. done p) → Stays p.arena p.table (answer o)
by-none {A} c p (done x) w e = stays-done {A = A} c p (λ (y : A). p) w x e
by-none {A} c p (refused n) w e = stays-refused {A = A} c p (λ (y : A). p) w n e

answer-number : {A : Type 0} (o : Out A) → answer (answer_of o) ≡ answer o
answer-number (done x) = refl
answer-number (refused n) = refl

listed-number : (o : Out (List ℕ)) → answer (listed_of o) ≡ answer o
listed-number (done x) = refl
listed-number (refused n) = refl

taken-number : (o : Out (List ℕ)) → answer (taken_of o) ≡ answer o
taken-number (done x) = refl
taken-number (refused n) = refl

-- ---- one law a call

module _ (p : Pair) (y : Passed p) where
  -- a call that fits
  held : (c : Call) → Fits c → Well c p
  unfolding Keeps
  held c f = keeps p c y f

  pub root-keeps : (who : ℕ) → AskerFits who → (r : handed.HeldReply) → Gives p.table (call_root p.arena p.table who) r → Stays p.arena r.table (code r.answer)
  unfolding does
  root-keeps who Q = by-gift (root who) p (call_root p.arena p.table who) (held (root who) Q) refl

  module _ (who : ℕ) (Q : AskerFits who) (h : Handle) (H : HandleFits h) where
    pub find-keeps : (name : List ℕ) → Bytes name → (r : handed.HeldReply) → Gives p.table (call_find p.arena p.table who h name) r → Stays p.arena r.table (code r.answer)
    unfolding does
    find-keeps name n = by-gift (find who h name) p (call_find p.arena p.table who h name) (held (find who h name) (Q, H, n)) refl

    pub walk-keeps : (path : List ℕ) → Bytes path → (room : ℕ) → room < 2 ^ 64 → (r : handed.HeldReply)
        → Gives p.table (call_walk p.arena p.table who h path room).end r → Stays p.arena r.table (code r.answer)
    unfolding does
    walk-keeps path n room m = by-gift (walk who h path room) p (call_walk p.arena p.table who h path room).end (held (walk who h path room) (Q, H, n, m)) refl

    pub create-keeps : (name : List ℕ) → Bytes name → (kind mode : ℕ) (time : Timespec) (file : List ℕ) → NewFits kind mode time file → (b : List ℕ) (r : handed.HeldReply)
        → ReturnedHeld p.table (call_create p.arena p.table who h name kind mode time file) p.arena b r → Stays b r.table (code r.answer)
    unfolding does
    create-keeps name n kind mode time file N =
        by-held (create who h name kind mode time file) p (call_create p.arena p.table who h name kind mode time file) (held (create who h name kind mode time file) (Q, H, n, N)) refl

    pub link-keeps : (name : List ℕ) → Bytes name → (child : Handle) → HandleFits child → (b : List ℕ) (r : answered.Reply Reason)
        → Returned p.table (call_link p.arena p.table who h name child) p.arena b r → Stays b r.table (code r.answer)
    unfolding does
    link-keeps name n child C = by-return (link who h name child) p (call_link p.arena p.table who h name child) (held (link who h name child) (Q, H, n, C)) refl

    pub remove-file-keeps : (name : List ℕ) → Bytes name → (b : List ℕ) (r : answered.Reply Reason)
        → Returned p.table (call_remove_file p.arena p.table who h name) p.arena b r → Stays b r.table (code r.answer)
    unfolding does
    remove-file-keeps name n = by-return (remove_file who h name) p (call_remove_file p.arena p.table who h name) (held (remove_file who h name) (Q, H, n)) refl

    pub remove-folder-keeps : (name : List ℕ) → Bytes name → (b : List ℕ) (r : answered.Reply Reason)
        → Returned p.table (call_remove_folder p.arena p.table who h name) p.arena b r → Stays b r.table (code r.answer)
    unfolding does
    remove-folder-keeps name n = by-return (remove_folder who h name) p (call_remove_folder p.arena p.table who h name) (held (remove_folder who h name) (Q, H, n)) refl

    pub move-keeps : (old : List ℕ) → Bytes old → (target : Handle) → HandleFits target → (name : List ℕ) → Bytes name
        → (b : List ℕ) (r : answered.Reply Reason)
        → Returned p.table (call_move p.arena p.table who h old target name) p.arena b r → Stays b r.table (code r.answer)
    unfolding does
    move-keeps old o target T name n =
        by-return (move who h old target name) p (call_move p.arena p.table who h old target name) (held (move who h old target name) (Q, H, o, T, n)) refl

    pub metadata-keeps : (r : Result Metadata Reason) → out_of r ≡ call_metadata p.arena p.table who h → Stays p.arena p.table (code r)
    unfolding does
    metadata-keeps r e =
        let o : Out Metadata = call_metadata p.arena p.table who h in
        subst (Stays p.arena p.table) (sym (code-out r ∙ ap answer e)) (by-none (metadata who h) p (call_metadata p.arena p.table who h) (held (metadata who h) (Q, H)) refl)

    pub set-metadata-keeps : (mode uid gid : ℕ) (atime mtime ctime : Timespec) → SetFits mode uid gid atime mtime ctime → (r : answered.Reply Reason)
        → Replies p.table (call_set p.arena p.table who h mode uid gid atime mtime ctime) r → Stays p.arena r.table (code r.answer)
    unfolding does
    set-metadata-keeps mode uid gid atime mtime ctime S =
        by-reply (set_metadata who h mode uid gid atime mtime ctime) p (call_set p.arena p.table who h mode uid gid atime mtime ctime) (held (set_metadata who h mode uid gid atime mtime ctime) (Q, H, S)) refl

    -- the output was `out` and is `now`
    module _ (k : ℕ) (out now : List ℕ) (K : k < 2 ^ 64) (R : length out < 2 ^ 64) where
      pub get-entry-keeps : (r : Result Unit Reason) → Lays answer_of (call_entry p.arena p.table who h k (length out)) out now r → Stays p.arena p.table (code r)
      unfolding does
      get-entry-keeps r e =
          subst (Stays p.arena p.table) (sym (code-out r ∙ ap answer e.0 ∙ answer-number (call_entry p.arena p.table who h k (length out))))
          (by-none (get_entry who h k (length out)) p (call_entry p.arena p.table who h k (length out)) (held (get_entry who h k (length out)) (Q, H, K, R)) refl)

      pub listing-keeps : (r : Result ℕ Reason) → Lays listed_of (call_listing p.arena p.table who h k (length out)) out now r → Stays p.arena p.table (code r)
      unfolding does
      listing-keeps r e =
          subst (Stays p.arena p.table) (sym (code-out r ∙ ap answer e.0 ∙ listed-number (call_listing p.arena p.table who h k (length out))))
          (by-none (listing who h k (length out)) p (call_listing p.arena p.table who h k (length out)) (held (listing who h k (length out)) (Q, H, K, R)) refl)

      pub read_keeps : (r : Result ℕ Reason) → Lays taken_of (call_read p.arena p.table who h k (length out)) out now r → Stays p.arena p.table (code r)
      unfolding does
      read_keeps r e =
          subst (Stays p.arena p.table) (sym (code-out r ∙ ap answer e.0 ∙ taken-number (call_read p.arena p.table who h k (length out))))
          (by-none (read who h k (length out)) p (call_read p.arena p.table who h k (length out)) (held (read who h k (length out)) (Q, H, K, R)) refl)

    pub path-keeps : (out now : List ℕ) → length out < 2 ^ 64 → (r : Result ℕ Reason) → Lays taken_of (call_path p.arena p.table who h (length out)) out now r → Stays p.arena p.table (code r)
    unfolding does
    path-keeps out now R r e =
        subst (Stays p.arena p.table) (sym (code-out r ∙ ap answer e.0 ∙ taken-number (call_path p.arena p.table who h (length out))))
        (by-none (full_path who h (length out)) p (call_path p.arena p.table who h (length out)) (held (full_path who h (length out)) (Q, H, R)) refl)

    pub write_keeps : (place : ℕ) → place < 2 ^ 64 → (src : List ℕ) → Bytes src → (b : List ℕ) (r : answered.Reply Reason)
        → Returned p.table (call_write p.arena p.table who h place src) p.arena b r → Stays b r.table (code r.answer)
    unfolding does
    write_keeps place P src S = by-return (write who h place src) p (call_write p.arena p.table who h place src) (held (write who h place src) (Q, H, P, S)) refl

    pub resize-keeps : (n : ℕ) → n < 2 ^ 64 → (b : List ℕ) (r : answered.Reply Reason)
        → Returned p.table (call_resize p.arena p.table who h n) p.arena b r → Stays b r.table (code r.answer)
    unfolding does
    resize-keeps n N = by-return (resize who h n) p (call_resize p.arena p.table who h n) (held (resize who h n) (Q, H, N)) refl

    pub fallocate-keeps : (mode : FallocateMode) (from len : ℕ) → from < 2 ^ 64 → len < 2 ^ 64 → (b : List ℕ) (r : answered.Reply Reason)
        → Returned p.table (call_fallocate p.arena p.table who h mode from len) p.arena b r → Stays b r.table (code r.answer)
    unfolding does
    fallocate-keeps mode from len F L =
        by-return (fallocate who h mode from len) p (call_fallocate p.arena p.table who h mode from len) (held (fallocate who h mode from len) (Q, H, F, L)) refl

    pub close-keeps : (b : List ℕ) (r : answered.Reply Reason) → Returned p.table (call_close p.arena p.table who h) p.arena b r → Stays b r.table (code r.answer)
    unfolding does
    close-keeps = by-return (close who h) p (call_close p.arena p.table who h) (held (close who h) (Q, H)) refl

  pub sync-keeps : (b : List ℕ) (r : answered.Reply Reason) → Returned p.table (call_sync p.arena p.table) p.arena b r → Stays b r.table (code r.answer)
  unfolding does
  sync-keeps = by-return sync p (call_sync p.arena p.table) (held sync tt) refl

  pub inventory-keeps : (out now : List ℕ) → length out < 2 ^ 64 → (r : Result ℕ Reason) → Lays taken_of (call_inventory p.arena (length out)) out now r → Stays p.arena p.table (code r)
  unfolding does
  inventory-keeps out now R r e =
      subst (Stays p.arena p.table) (sym (code-out r ∙ ap answer e.0 ∙ taken-number (call_inventory p.arena (length out))))
      (by-none (inventory (length out)) p (call_inventory p.arena (length out)) (held (inventory (length out)) R) refl)

  pub mend-keeps : (b : List ℕ) (r : Result Unit Reason) → Mends (call_mend p.arena p.table) p.arena b r → Stays b p.table (code r)
  unfolding does
  mend-keeps = by-mend mend p (call_mend p.arena p.table) (held mend tt) refl

unfoldable pub is_done : Out Unit → Bool
is_done (done x) = true
is_done (refused n) = false

-- a format that is done leaves a passed pair
pub format-fresh : (a : List ℕ) (time : Timespec) (file : List ℕ) → Bytes a → TimeFits time → length file ≡ 16 → Bytes file
    → (b : List ℕ) (r : answered.Reply Reason) → Returned empty_table (formatted (call_format a time file)) a b r → r.answer ≡ Ok tt → Passed (pair b r.table)
unfolding Fresh is_done
format-fresh a time file A T L F b r = go (call_format a time file) refl
  where
    go : (o : Out (List ℕ)) → call_format a time file ≡ o → Returned empty_table (formatted o) a b r → r.answer ≡ Ok tt → Passed (pair b r.table)
    go (done x) e R z =
        subst (λ (b : List ℕ). Passed (pair b r.table)) (sym R.arena)
        (subst (λ (u : Table). Passed (pair x u)) (sym (ap (λ (q : Out Unit × Table). q.1) R.answer)) (fresh a time file A T L F x e))
    go (refused n) e R z = absurd (true-false refl (ap is_done (sym (ap out_of z) ∙ ap (λ (q : Out Unit × Table). q.0) R.answer)))
