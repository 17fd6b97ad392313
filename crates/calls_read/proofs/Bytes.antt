-- Read: the bytes below the length and the zeros after them, and from what the code answers to the answer.
use mathlib.Core.Path.{◌≡◌, refl, sym, ◌∙◌, ap, subst}
use mathlib.Core.Bool.{true, false}
use mathlib.Core.List.{List, ◌++◌}
use Prim.Native.Nat.{ℕ, suc, ◌+◌, ◌-◌, ◌≤◌, ◌<◌, min}
use native.Mathlib.Nat.{zero-add, add-zero}
use native.Mathlib.Omega.{arith}
use lib.ListN.{length, drop, replicate}
use borrow.Author.Tests.{lt-ltb}
use Rattle.base.specs.Out.{Out, done, refused, answer, Went}
use Rattle.base.specs.Parts.{part, back, tab}
use Rattle.base.proofs.Lists.{length_part, length-tab, tab-zeros, tab-cong, Stored, stored-none}
use Rattle.base.proofs.Parts.{run_more, run-all}
use Rattle.arena.specs.Fields.{File}
use Rattle.sound.specs.Sound.{sound}
use Rattle.files.specs.Read.{there, length_of, byte_at}
use Rattle.files_laws.proofs.Parts.{sound-inside}
use Rattle.structs.specs.declared.DiskINode.{DiskINode}
use Rattle.table.specs.declared.Table.{Table}
use Rattle.table.specs.declared.Handle.{Handle}
use Rattle.table.specs.Table.{row_at}
use Rattle.sefs.specs.Nodes.{node_file}
use Rattle.sefs.specs.Ask.{admit, by_handle}
use Rattle.sefs.specs.Contents.{has_contents, read_count, read_bytes, call_read}
use Rattle.chains.specs.Led.{end_of}
use Rattle.chains.proofs.Ends.{end-there}
use Rattle.calls.specs.Answers.{taken_of, Laid, lay, leave, Lays}
use Rattle.std.specs.Prelude.{Result}
use Rattle.base.specs.declared.reasons.Reason.{Reason}
use Rattle.calls.proofs.Asks.{asks-contents, asked-not, asked-done, call-stop, call_next}
use Rattle.calls.proofs.Outputs.{paste-front}
use Rattle.calls_read.specs.Read.{read_in}

-- ---- the bytes of a file

module _ (a : List ℕ) (ok : sound a ≡ true) (f : File) where
  -- past its length there are zeros
  pub past-zeros : (pos n : ℕ) → length_of a f ≤ pos → replicate n 0 ≡ tab (byte_at a f) pos n
  past-zeros pos n l = sym (tab-zeros pos n) ∙ tab-cong (λ i. 0) (byte_at a f) pos pos n (λ i h. sym ((sound-inside a ok f).past (pos + i) (omega arith)))

  -- m bytes below the length, and zeros for the rest of the output
  pub read-two : (pos : ℕ) (out : List ℕ) (m : ℕ) (l t : List ℕ) → pos < length_of a f → m ≡ min (length_of a f - pos) (length out)
      → l ≡ tab (byte_at a f) pos (length (part out 0 m))
      → t ≡ replicate (length (part (back out 0 m l) m (length (back out 0 m l)))) 0
      → back (back out 0 m l) m (length (back out 0 m l)) t ≡ tab (byte_at a f) pos (length out)
  read-two pos out m l t below is q z =
      let d : List ℕ = back out 0 m l in
      let size : length (part out 0 m) ≡ m = length_part out 0 m (omega arith) (omega arith) ∙ omega arith in
      let S : Stored (length out) (λ j. byte_at a f (pos + j)) d m =
      subst (λ (x : ℕ). Stored (length out) (λ j. byte_at a f (pos + j)) (back out 0 x l) x) (zero-add m)
      (run_more (length out) (byte_at a f) pos out l 0 m (omega arith) (q ∙ ap (tab (byte_at a f) pos) size ∙ ap (λ (x : ℕ). tab (byte_at a f) x m) (sym (add-zero pos))) (stored-none (λ j. byte_at a f (pos + j)) out)) in
      let k : ℕ = length (part d m (length d)) in
      let n : k ≡ length d - m = length_part d m (length d) (omega (arith, S.size)) (omega arith) in
      let e : m + k ≡ length d = omega (arith, S.size) in
      let r : t ≡ tab (byte_at a f) (pos + m) k =
      z ∙ sym (tab-zeros (pos + m) k) ∙ tab-cong (λ i. 0) (byte_at a f) (pos + m) (pos + m) k (λ i h. sym ((sound-inside a ok f).past (pos + m + i) (omega (arith, S.size)))) in
      run-all (length out) (byte_at a f) pos (back d m (length d) t) (length d) (omega (arith, S.size))
      (subst (λ (x : ℕ). Stored (length out) (λ j. byte_at a f (pos + j)) (back d m x t) x) e
      (run_more (length out) (byte_at a f) pos d t m k (omega (arith, S.size)) r S))

module _ (a : List ℕ) (f : File) (e : ℕ) (is : e ≡ end_of a f) (place n : ℕ) where
  pub bytes-missing : (out : List ℕ) → e ≡ 0 → Laid (read_bytes a f place n) out out n 19
  unfolding read_bytes
  bytes-missing out z = let t : there a f ≡ false = sym (end-there a f e is) ∙ rw z in leave {r = 19} (omega arith) (rw t) refl

  -- the file's length, by its end
  pub end-length : (e ≡ 0 → ⊥) → e - 1 ≡ length_of a f
  end-length z =
      let t : there a f ≡ true = sym (end-there a f e is) ∙ lt-ltb 0 e (omega arith) in
      let q : e ≡ suc (length_of a f) = is ∙ rw t in
      omega arith

  pub bytes-laid : (out d : List ℕ) → (e ≡ 0 → ⊥) → d ≡ tab (byte_at a f) place n → Laid (read_bytes a f place n) out (d ++ drop n out) n 0
  unfolding read_bytes
  bytes-laid out d z q =
      let t : there a f ≡ true = sym (end-there a f e is) ∙ lt-ltb 0 e (omega arith) in
      lay {l = tab (byte_at a f) place n} (rw t) (length-tab (byte_at a f) place n) (ap (λ (x : List ℕ). x ++ drop n out) q ∙ paste-front out (tab (byte_at a f) place n) n (length-tab (byte_at a f) place n))

-- ---- the answer

pub laid-taken : {o : Out (List ℕ)} {out now : List ℕ} {n : ℕ} → Laid o out now n 0 → ◌≡◌ {A = Out ℕ} (done n) (taken_of o)
laid-taken (lay {l = l} e q p) = ap done (sym q) ∙ sym (ap taken_of e)
laid-taken (leave z e p) = absurd (omega arith)

-- what is asked of the type, and then the bytes
module _ (a : List ℕ) (w : DiskINode) (place room r : ℕ) (e : r ≡ answer (has_contents w)) where
  pub read-in-stop : (r ≡ 0 → ⊥) → read_in a w place room ≡ refused r
  unfolding read_in
  read-in-stop z = rw (asked-not (has_contents w) r e z)

  pub read-in-next : (n : ℕ) → r ≡ 0 → n ≡ read_count w.size place room → read_bytes a (node_file w) place n ≡ read_in a w place room
  unfolding read_in
  read-in-next n z q = sym (rw (asked-done (has_contents w) (asks-contents w) r e z, q))

-- ---- the call

module _ {P : Type 0} (a : List ℕ) (t : Table) (who : ℕ) (h : Handle) (k : admit a t ≡ done tt) (place room row r : ℕ) (g : Went (by_handle t who h) row P r) where
  pub read-refused : (r ≡ 0 → ⊥) → call_read a t who h place room ≡ refused r
  unfolding call_read read_in
  read-refused z = call-stop a t who h k (λ i. read_in a (row_at t i).rec place room) row r g z

  pub read_goes : (out now : List ℕ) (w : DiskINode) (s : Result ℕ Reason) → r ≡ 0 → w ≡ (row_at t row).rec → Lays taken_of (read_in a w place room) out now s → Lays taken_of (call_read a t who h place room) out now s
  unfolding call_read read_in
  read_goes out now w s z e L = rw (call_next a t who h k (λ i. read_in a (row_at t i).rec place room) row r g z, ← e) L

-- arena or table are refused
pub read-unadmitted : (a : List ℕ) (t : Table) (who : ℕ) (h : Handle) (place room : ℕ) {r : ℕ} → admit a t ≡ refused r → call_read a t who h place room ≡ refused r
unfolding call_read
read-unadmitted a t who h place room e = rw e
