-- Answers, from what a step answered.
use mathlib.Core.Path.{◌≡◌, refl, sym, ap, ◌∙◌}
use mathlib.Core.List.{List}
use Prim.Native.Nat.{ℕ}
use Rattle.std.specs.Prelude.{true, Result, Ok, Err, eqb}
use Rattle.std.specs.Result.{is_ok, result_unwrap_or}
use Rattle.base.specs.Out.{Out, done, refused, kept, answer}
use Rattle.base.specs.Search.{pick}
use Rattle.base.specs.Told.{number, code}
use Rattle.base.specs.declared.reasons.Reason.{Reason}
use Rattle.base.specs.declared.reasons.Reason.TheVariants as reasons
use Rattle.base.proofs.Tells.{number-ne, done-is}
use Rattle.table.specs.declared.Table.{Table}
use Rattle.table.specs.declared.Handle.{Handle}
use Rattle.calls.specs.Answers.{out_of, answer_of, done_with, refused_with, said, said_held, after_of, given_of, Lays, Replies, handed_by, told_by}
use Rattle.calls.specs.declared.Reply.{Reply}
use Rattle.calls.specs.declared.HeldReply.{HeldReply}
use borrow.Author.Tests.{eq-eqb, ne_eqb, eqb-true}

-- ---- what a call returns, by what its steps answered

pub after-done : {E : Type 0} (t u : Table) → done_with {E = E} u ≡ after_of t u (Ok tt)
unfolding after_of
after-done t u = refl

pub after-refused : {E : Type 0} (t u : Table) (e : E) → refused_with t e ≡ after_of t u (Err e)
unfolding after_of
after-refused t u e = refl

-- the outcome that a result tells, by its number
pub out-done : (r : Result Unit Reason) → code r ≡ 0 → out_of r ≡ done tt
out-done (Ok tt) z = refl
out-done (Err e) z = absurd (number-ne e z)

pub out-refused : {A : Type 0} (r : Result A Reason) (n : ℕ) → code r ≡ n → (n ≡ 0 → ⊥) → out_of r ≡ refused n
out-refused (Ok x) n e z = absurd (z (sym e))
out-refused (Err e) n q z = ap refused q

pub code-out : {A : Type 0} (r : Result A Reason) → code r ≡ answer (out_of r)
code-out (Ok x) = refl
code-out (Err e) = refl

-- what was done gave a value
pub given-is : {A : Type 0} (r : Result A Reason) (d : A) → code r ≡ 0 → r ≡ Ok (result_unwrap_or r d)
given-is (Ok x) d z = refl
given-is (Err e) d z = absurd (number-ne e z)

-- the number that the answer tells, and the table
pub said-done : (t u : Table) (r : Result Unit Reason) → code r ≡ 0 → said (after_of t u r) ≡ (done tt, u)
unfolding after_of
said-done t u (Ok tt) z = refl
said-done t u (Err e) z = absurd (number-ne e z)

pub said-refused : (t u : Table) (r : Result Unit Reason) (n : ℕ) → code r ≡ n → (n ≡ 0 → ⊥) → said (after_of t u r) ≡ (refused n, t)
unfolding after_of
said-refused t u (Ok x) n e z = absurd (z (sym e))
said-refused t u (Err e) n q z = ap (λ (k : ℕ). (refused k, t)) q

pub said-held : (t u : Table) (r : Result Handle Reason) (h : Handle) → r ≡ Ok h → said_held (given_of t u r) ≡ (done h, u)
unfolding given_of
said-held t u r h q = rw q refl

pub said-not_held : (t u : Table) (r : Result Handle Reason) (n : ℕ) → code r ≡ n → (n ≡ 0 → ⊥) → said_held (given_of t u r) ≡ (refused n, t)
unfolding given_of
said-not_held t u (Ok x) n e z = absurd (z (sym e))
said-not_held t u (Err e) n q z = rw (ne_eqb (number e) 0 (number-ne e)) (ap (λ (k : ℕ). (refused k, t)) q)

-- a reason's number, told
pub told-code : {A : Type 0} (r : Result A Reason) → told_by number r ≡ code r
told-code (Ok x) = refl
told-code (Err e) = refl

-- what was done, by its number, and the other way
pub ok-is : {A : Type 0} (r : Result A Reason) → code r ≡ 0 → is_ok r ≡ true
ok-is r z = done-is r ∙ eq-eqb (code r) 0 z

pub is-ok : {A : Type 0} (r : Result A Reason) → is_ok r ≡ true → code r ≡ 0
is-ok r q = eqb-true (code r) 0 (sym (done-is r) ∙ q)

-- a handle tells what the opening told
pub handed-code : (o : Result ℕ Reason) (h : Handle) {r : Result Handle Reason} → r ≡ handed_by o h → code r ≡ code o
handed-code (Ok x) h e = rw e refl
handed-code (Err x) h e = rw e refl

-- an answer with a table, from the outcome
module _ (t : Table) (o : Out Table) (r : Reply Reason) where
  pub done-after : (u : Table) → o ≡ done u → r ≡ done_with u → Replies t o r
  done-after u e q = (ap (λ (x : Reply Reason). out_of x.answer) q ∙ sym (ap answer_of e), ap (λ (x : Reply Reason). x.table) q ∙ sym (ap (kept t) e))

  pub refused-after : (e : Reason) → o ≡ refused (number e) → r ≡ refused_with t e → Replies t o r
  refused-after n e q = (ap (λ (x : Reply Reason). out_of x.answer) q ∙ sym (ap answer_of e), ap (λ (x : Reply Reason). x.table) q ∙ sym (ap (kept t) e))

-- ---- two results that tell the same are the same

-- the reason with that number
abbrev reason_of : ℕ → Reason
reason_of n = pick (eqb n 1) reasons.BadArena (pick (eqb n 2) reasons.Damaged (pick (eqb n 3) reasons.BadTable (pick (eqb n 4) reasons.BadHandle (pick (eqb n 5) reasons.BadName (pick (eqb n 6) reasons.InvalidParam (pick (eqb n 7) reasons.NotDir (pick (eqb n 8) reasons.DirRemoved (pick (eqb n 9) reasons.IsDir (pick (eqb n 10) reasons.NameTooLong (pick (eqb n 11) reasons.EntryNotFound (pick (eqb n 12) reasons.EntryExist (pick (eqb n 13) reasons.DirNotEmpty (pick (eqb n 14) reasons.FileTaken (pick (eqb n 15) reasons.TooManyLinks (pick (eqb n 16) reasons.TableFull (pick (eqb n 17) reasons.NoDeviceSpace (pick (eqb n 18) reasons.WrongFs (pick (eqb n 19) reasons.Stuck (pick (eqb n 20) reasons.OutFull (pick (eqb n 21) reasons.NotFile (pick (eqb n 22) reasons.FileTooBig (pick (eqb n 23) reasons.SymLoop reasons.InUse))))))))))))))))))))))

reason-back : (e : Reason) → reason_of (number e) ≡ e
reason-back reasons.BadArena = refl
reason-back reasons.Damaged = refl
reason-back reasons.BadTable = refl
reason-back reasons.BadHandle = refl
reason-back reasons.BadName = refl
reason-back reasons.InvalidParam = refl
reason-back reasons.NotDir = refl
reason-back reasons.DirRemoved = refl
reason-back reasons.IsDir = refl
reason-back reasons.NameTooLong = refl
reason-back reasons.EntryNotFound = refl
reason-back reasons.EntryExist = refl
reason-back reasons.DirNotEmpty = refl
reason-back reasons.FileTaken = refl
reason-back reasons.TooManyLinks = refl
reason-back reasons.TableFull = refl
reason-back reasons.NoDeviceSpace = refl
reason-back reasons.WrongFs = refl
reason-back reasons.Stuck = refl
reason-back reasons.OutFull = refl
reason-back reasons.NotFile = refl
reason-back reasons.FileTooBig = refl
reason-back reasons.SymLoop = refl
reason-back reasons.InUse = refl

pub number-one : (d e : Reason) → number d ≡ number e → d ≡ e
number-one d e h = sym (reason-back d) ∙ ap reason_of h ∙ reason-back e

abbrev from_done : {A : Type 0} → A → Out A → A
from_done d (done x) = x
from_done d (refused n) = d

pub out-one : {A : Type 0} (r s : Result A Reason) → out_of r ≡ out_of s → r ≡ s
out-one (Ok x) (Ok y) h = ap Ok (ap (from_done x) h)
out-one (Ok x) (Err e) h = absurd (number-ne e (sym (ap answer h)))
out-one (Err e) (Ok y) h = absurd (number-ne e (ap answer h))
out-one (Err d) (Err e) h = ap Err (number-one d e (ap answer h))

-- what holds of both has one solution
pub said-one : (r s : Reply Reason) → said r ≡ said s → r ≡ s
said-one r s h = λ x. record { answer = out-one r.answer s.answer (ap (λ (p : Out Unit × Table). p.0) h) x; table = ap (λ (p : Out Unit × Table). p.1) h x }

pub said_held-one : (r s : HeldReply) → said_held r ≡ said_held s → r ≡ s
said_held-one r s h = λ x. record { answer = out-one r.answer s.answer (ap (λ (p : Out Handle × Table). p.0) h) x; table = ap (λ (p : Out Handle × Table). p.1) h x }

pub replies-one : (t : Table) (o : Out Table) (r s : Reply Reason) → Replies t o r → Replies t o s → r ≡ s
replies-one t o r s p q = λ x. record { answer = out-one r.answer s.answer (p.0 ∙ sym q.0) x; table = (p.1 ∙ sym q.1) x }

pub lays_one : {A : Type 0} (f : Out (List ℕ) → Out A) (o : Out (List ℕ)) (out now later : List ℕ) (r s : Result A Reason) → Lays f o out now r → Lays f o out later s → (r ≡ s) × (now ≡ later)
lays_one f o out now later r s p q = (out-one r s (p.0 ∙ sym q.0), p.1 ∙ sym q.1)
