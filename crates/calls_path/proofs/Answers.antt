-- The call: from what the first pass found and what was written to the answer, and the questions before them.
use mathlib.Core.Path.{◌≡◌, refl, sym, ap, ◌∙◌}
use mathlib.Core.Bool.{Bool, true, false}
use mathlib.Core.List.{List, [], ◌∷◌}
use mathlib.Core.Logic.{◌≢◌}
use Prim.Native.Nat.{ℕ, ◌≤◌, ◌<◌}
use native.Mathlib.Omega.{arith}
use lib.Dec.{ltb, leb}
use lib.ListN.{length, set}
use borrow.Author.Tests.{le-leb, lt-leb}
use Rattle.std.specs.Prelude.{Result, Ok, Err}
use Rattle.base.specs.Out.{Out, done, refused, bind, ensure, guard, answer, Went}
use Rattle.base.specs.Told.{number}
use Rattle.base.specs.declared.reasons.Reason.{Reason}
use Rattle.base.specs.declared.reasons.Reason.TheVariants.{OutFull}
use Rattle.base.proofs.Tells.{number-ne}
use Rattle.base.specs.Parts.{paste}
use Rattle.base.proofs.Lists.{set-paste}
use Rattle.base.proofs.Outs.{bind_assoc}
use Rattle.structs.specs.declared.DiskINode.{DiskINode}
use Rattle.table.specs.declared.Table.{Table}
use Rattle.table.specs.declared.Handle.{Handle}
use Rattle.table.specs.Table.{row_at}
use Rattle.sefs.specs.State.{Fs}
use Rattle.sefs.specs.Meta.{load_meta}
use Rattle.sefs.specs.Ask.{admit, by_handle, not_removed, start}
use Rattle.sefs.specs.Read.{readable}
use Rattle.mem.specs.Mem.{table_in, meta_in}
use Rattle.mem.specs.State.{fs_at}
use Rattle.paths.specs.Path.{most_folders, names_to, slashed, path_of, call_path}
use Rattle.calls.specs.Answers.{taken_of, laid, Lays}
use Rattle.calls.proofs.Asks.{Asks, asks-ensure, asks-then, asks-readable, asked-not, asked-done, answer-stop, answer-next, call-stop, call_next}
use Rattle.calls.proofs.Outputs.{lays-not}
use Rattle.calls_path.specs.Path.{path_ask, path_in, root_path, Counted, PathFits, PathWritten}
use Rattle.calls_path.proofs.Names.{same-done}

-- an outcome by another name
lays-as : {o q : Out (List ℕ)} (out now : List ℕ) (v : Result ℕ Reason) → q ≡ o → Lays taken_of o out now v → Lays taken_of q out now v
lays-as out now v e L = (L.0 ∙ ap taken_of (sym e), L.1 ∙ ap (laid out) (sym e))

-- ---- root's slash

pub root-full : (out : List ℕ) → length out ≡ 0 → Lays taken_of (root_path (length out)) out out (Err OutFull)
root-full out z = lays-not {o = root_path (length out)} OutFull out out (ap (λ (n : ℕ). root_path n) z) refl

pub root-written : (out : List ℕ) → length out ≢ 0 → Lays taken_of (root_path (length out)) out (set out 0 47) (Ok 1)
root-written out z =
    let e : root_path (length out) ≡ done (47 ∷ []) = ap (λ (b : Bool). guard b 20 (done (47 ∷ []))) (le-leb 1 (length out) (omega arith)) in
    (sym (ap taken_of e), set-paste out 0 47 (omega arith) ∙ sym (ap (laid out) e))

-- ---- the path of a folder

module _ (s : Fs) (x : ℕ) (r : DiskINode) (out : List ℕ) where
  pub in-stuck : (n : Reason) → names_to s most_folders x r ≡ refused (number n) → Lays taken_of (path_in s x r (length out)) out out (Err n)
  unfolding path_in
  in-stuck n e = lays-not {o = path_in s x r (length out)} n out out (rw e) refl

  module _ {m : List ℕ} {folders bytes : ℕ} (C : Counted s x r m folders bytes) where
    in-names : path_in s x r (length out) ≡ bind (ensure (leb (length (path_of C.names)) (length out)) 20) (λ _. done (path_of C.names))
    unfolding path_in
    in-names = rw C.climbed

    pub in-root : folders ≡ 0 → {now : List ℕ} (v : Result ℕ Reason) → Lays taken_of (root_path (length out)) out now v → Lays taken_of (path_in s x r (length out)) out now v
    in-root z {now = now} v L = lays-as out now v (in-names ∙ go C.names (C.long ∙ z)) L
      where
        test : (b : Bool) → bind {B = List ℕ} (ensure b 20) (λ _. done (47 ∷ [])) ≡ guard b 20 (done (47 ∷ []))
        test true = refl
        test false = refl

        go : (l : List (List ℕ)) → length l ≡ 0 → bind (ensure (leb (length (path_of l)) (length out)) 20) (λ _. done (path_of l)) ≡ root_path (length out)
        go [] e = test (leb 1 (length out))
        go (p ∷ l) e = absurd (omega arith)

    module _ (z : folders ≢ 0) where
      path-is : path_of C.names ≡ slashed C.names
      path-is = go C.names C.long
        where
          go : (l : List (List ℕ)) → length l ≡ folders → path_of l ≡ slashed l
          go [] e = absurd (z (sym e))
          go (p ∷ l) e = refl

      size : length (path_of C.names) ≡ bytes
      size = ap length path-is ∙ C.size

      pub in-full : length out < bytes → Lays taken_of (path_in s x r (length out)) out out (Err OutFull)
      in-full h = lays-not {o = path_in s x r (length out)} OutFull out out (in-names ∙ rw (lt-leb (length (path_of C.names)) (length out) (omega (arith, size)))) refl

      pub in-written : bytes ≤ length out → {now : List ℕ} → PathWritten s x r out now → Lays taken_of (path_in s x r (length out)) out now (Ok bytes)
      in-written h {now = now} W =
          let q : W.names ≡ C.names = same-done W.names C.names W.is C.climbed in
          let e : path_in s x r (length out) ≡ done (path_of C.names) = in-names ∙ rw (le-leb (length (path_of C.names)) (length out) (omega (arith, size))) in
          lays-as out now (Ok bytes) e
          (ap done (sym size), W.written ∙ ap (λ (l : List (List ℕ)). paste out 0 (slashed l)) q ∙ ap (paste out 0) (sym path-is))

pub path-fits : {s : Fs} {x : ℕ} {r : DiskINode} {m : List ℕ} {folders bytes : ℕ} {out : List ℕ} → Counted s x r m folders bytes → bytes ≤ length out → PathFits s x r m folders out
path-fits {bytes = bytes} C h = record { bytes = bytes; counted = C; fits = h }

-- ---- what is asked of the record

module _ (r : DiskINode) (n : ℕ) (e : n ≡ answer (readable r)) where
  pub ask-stop : (n ≡ 0 → ⊥) → n ≡ answer (path_ask r)
  unfolding path_ask
  ask-stop z = answer-stop (readable r) (λ _. not_removed r) n e z

  pub ask-next : n ≡ 0 → answer (not_removed r) ≡ answer (path_ask r)
  unfolding path_ask
  ask-next z = answer-next (readable r) (λ _. not_removed r) (asks-readable r) n e z

asks-path : (r : DiskINode) → Asks (path_ask r)
unfolding path_ask
asks-path r = asks-then (asks-readable r) (λ _. asks-ensure (ltb 0 r.nlinks) 8 (omega arith))

-- ---- the call

-- arena or table are refused
pub path-unadmitted : (a : List ℕ) (t : Table) (w : ℕ) (h : Handle) (n : Reason) (out : List ℕ) → admit a t ≡ refused (number n) → Lays taken_of (call_path a t w h (length out)) out out (Err n)
unfolding call_path
path-unadmitted a t w h n out e = lays-not {o = call_path a t w h (length out)} n out out (rw e) refl

module _ {P : Type 0} (a : List ℕ) (t : Table) (w : ℕ) (h : Handle) (k : admit a t ≡ done tt) (row n : ℕ) (g : Went (by_handle t w h) row P n) (out : List ℕ) where
  -- what comes after the handle
  abbrev after : ℕ → Out (List ℕ)
  after i = bind (readable (row_at t i).rec) (λ _. bind (not_removed (row_at t i).rec) (λ _. path_in (start a t) (row_at t i).id (row_at t i).rec (length out)))

  pub path-refused : (e : Reason) → n ≡ number e → Lays taken_of (call_path a t w h (length out)) out out (Err e)
  unfolding call_path path_in
  path-refused e q = lays-not e out out (call-stop a t w h k after row n g (λ z. number-ne e (sym q ∙ z)) ∙ ap refused q) refl

  module _ (z : n ≡ 0) (rec : DiskINode) (e : rec ≡ (row_at t row).rec) (r : ℕ) (q : r ≡ answer (path_ask rec)) where
    asked : call_path a t w h (length out) ≡ bind (path_ask rec) (λ _. path_in (start a t) (row_at t row).id rec (length out))
    unfolding call_path path_in path_ask
    asked =
        call_next a t w h k after row n g z
        ∙ sym (bind_assoc (readable (row_at t row).rec) (λ _. not_removed (row_at t row).rec) (λ _. path_in (start a t) (row_at t row).id (row_at t row).rec (length out)))
        ∙ ap (λ (d : DiskINode). bind (path_ask d) (λ _. path_in (start a t) (row_at t row).id d (length out))) (sym e)

    pub path-not-asked : (d : Reason) → r ≡ number d → Lays taken_of (call_path a t w h (length out)) out out (Err d)
    path-not-asked d y = lays-not {o = call_path a t w h (length out)} d out out (asked ∙ rw (asked-not (path_ask rec) r q (λ z. number-ne d (sym y ∙ z))) (ap refused y)) refl

    -- the state at the call's start, as memory has it
    pub path-goes : r ≡ 0 → (m : List ℕ) → table_in m ≡ t → meta_in m ≡ load_meta a → (x : ℕ) → x ≡ (row_at t row).id → {now : List ℕ} (v : Result ℕ Reason)
        → Lays taken_of (path_in (fs_at a m) x rec (length out)) out now v → Lays taken_of (call_path a t w h (length out)) out now v
    path-goes y m i j x f {now = now} v L =
        let e : call_path a t w h (length out) ≡ path_in (fs_at a m) x rec (length out) = asked ∙ rw (asked-done (path_ask rec) (asks-path rec) r q y, f, i, j) in
        lays-as out now v e L
