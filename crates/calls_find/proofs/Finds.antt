-- Root and find: from their parts to the calls, and from what the code answers to the answers.
use mathlib.Core.Path.{◌≡◌, refl, sym, ◌∙◌, ap}
use mathlib.Core.Bool.{true, false}
use mathlib.Core.List.{List}
use Prim.Native.Nat.{ℕ}
use native.Mathlib.Omega.{arith}
use lib.Dec.{eqb}
use Rattle.std.specs.Prelude.{Result, Ok, Err}
use Rattle.std.specs.Result.{result_unwrap_or}
use Rattle.base.specs.Told.{number, code}
use Rattle.base.specs.declared.reasons.Reason.{Reason}
use Rattle.base.specs.Out.{Out, done, refused, bind, ensure, answer, Went, ill}
use Rattle.base.proofs.Outs.{went-is, went-not, above_zero}
use Rattle.base.proofs.Tells.{number-ne}
use Rattle.structs.specs.declared.DiskINode.{DiskINode}
use Rattle.utf8.specs.Names.{name_verdict, early_reason}
use Rattle.table.specs.declared.Table.{Table}
use Rattle.table.specs.declared.Handle.{Handle}
use Rattle.table.specs.declared.Added.{Added}
use Rattle.table.specs.Table.{row_at, can_hold}
use Rattle.sefs.specs.Slots.{find_slot}
use Rattle.sefs.specs.Ask.{admit, an_owner, by_handle, good_name, not_long, known, folder, start}
use Rattle.sefs.specs.Open.{call_root, call_find, hold_node}
use Rattle.calls.specs.Answers.{got_of, held_table, said_held, added_as, no_handle, given_of}
use Rattle.calls.specs.declared.HeldReply.{HeldReply}
use Rattle.calls.proofs.Answers.{said-held, said-not_held}
use Rattle.calls.proofs.Asks.{Asks, asks-ensure, asks-then, asks-owner, asked-not, asked-done, call-stop, call_next, answer-stop, answer-next}
use Rattle.finds.specs.Parts.{not_orphan, find_folder, find_id}
use Rattle.finds.proofs.Asks.{asks-folder, found-is}
use Rattle.calls_find.specs.Finds.{Gives, give_node, give_named, find_ask, find_in}

-- ---- answers

-- by what the steps answered, and by the outcome
given_is : (t : Table) {o : Out Added} {u : Table} {P : Type 0} (n : Result Handle Reason) {r : HeldReply} → Went o (added_as (result_unwrap_or n no_handle) u) P (code n) → r ≡ given_of t u n → Gives t o r
given_is t {u = u} (Ok h) g q =
    let e = went-is g refl in
    let w = ap said_held q ∙ said-held t u (Ok h) h refl in
    (ap (λ (p : Out Handle × Table). p.0) w ∙ sym (ap got_of e), ap (λ (p : Out Handle × Table). p.1) w ∙ sym (ap (held_table t) e))
given_is t {u = u} (Err r) g q =
    let e = went-not g (number-ne r) in
    let w = ap said_held q ∙ said-not_held t u (Err r) (number r) refl (number-ne r) in
    (ap (λ (p : Out Handle × Table). p.0) w ∙ sym (ap got_of e), ap (λ (p : Out Handle × Table). p.1) w ∙ sym (ap (held_table t) e))

-- the same, where the table that memory was given is known by another name
pub given-table : (f : Table → Out Added) (t : Table) {x y u : Table} {P : Type 0} (n : Result Handle Reason) {r : HeldReply} → x ≡ y → Went (f x) (added_as (result_unwrap_or n no_handle) u) P (code n) → r ≡ given_of t u n → Gives t (f y) r
given-table f t n q g e = rw (← q) (given_is t n g e)

-- ---- 16, and then the opening

module _ (a : List ℕ) (t : Table) (who id : ℕ) where
  pub give-full : can_hold t who ≡ false → give_node a t who id ≡ refused 16
  unfolding give_node
  give-full e = rw e

  pub give-next : can_hold t who ≡ true → give_node a t who id ≡ hold_node (start a t) who id
  unfolding give_node
  give-next e = rw e

-- ---- root

module _ (a : List ℕ) (t : Table) (who : ℕ) {n : ℕ} where
  pub root-refused : admit a t ≡ refused n → call_root a t who ≡ refused n
  unfolding call_root
  root-refused q = rw q

  pub root-not : admit a t ≡ done tt → n ≡ answer (an_owner who) → (n ≡ 0 → ⊥) → call_root a t who ≡ refused n
  unfolding call_root
  root-not q e z = rw (q, asked-not (an_owner who) n e z)

  pub root-next : admit a t ≡ done tt → n ≡ answer (an_owner who) → n ≡ 0 → call_root a t who ≡ give_node a t who 2
  unfolding call_root give_node
  root-next q e z = rw (q, asked-done (an_owner who) (asks-owner who) n e z)

-- ---- find

-- no reason's number is 0
asks-find : (r : DiskINode) (name : List ℕ) → Asks (find_ask r name)
unfolding find_ask
asks-find r name = asks-then (asks-ensure (eqb (early_reason (name_verdict name)) 0) 5 (omega arith)) (λ _. asks-folder r name)

-- the questions in turn: a number n that the question before answered
module _ (r : DiskINode) (name : List ℕ) (n : ℕ) where
  pub good-stop : n ≡ answer (good_name name) → (n ≡ 0 → ⊥) → n ≡ answer (find_ask r name)
  unfolding find_ask
  good-stop e z = answer-stop (good_name name) (λ _. find_folder r name) n e z

  pub good-next : n ≡ answer (good_name name) → n ≡ 0 → answer (find_folder r name) ≡ answer (find_ask r name)
  unfolding find_ask
  good-next e z = answer-next (good_name name) (λ _. find_folder r name) (asks-ensure (eqb (early_reason (name_verdict name)) 0) 5 (omega arith)) n e z

  pub ask-stop : (a : List ℕ) (v : ℕ) → n ≡ answer (find_ask r name) → (n ≡ 0 → ⊥) → Went (find_in a r name) v Unit n
  unfolding find_in
  ask-stop a v e z = ill (above_zero n z) (rw (asked-not (find_ask r name) n e z))

  pub ask-next : (a : List ℕ) → n ≡ answer (find_ask r name) → n ≡ 0 → find_in a r name ≡ find_id a r name
  unfolding find_in
  ask-next a e z = rw (asked-done (find_ask r name) (asks-find r name) n e z)

-- the node that the name leads to
module _ (a : List ℕ) (t : Table) (who : ℕ) (r : DiskINode) (name : List ℕ) {id n : ℕ} (f : Went (find_in a r name) id Unit n) where
  pub named-not : (n ≡ 0 → ⊥) → give_named a t who r name ≡ refused n
  unfolding give_named
  named-not y = rw (went-not f y)

  pub named-give : n ≡ 0 → give_named a t who r name ≡ give_node a t who id
  unfolding give_named
  named-give y = rw (went-is f y)

-- the call's questions, as the code groups them
abbrev rest : List ℕ → Table → ℕ → List ℕ → DiskINode → Out Added
rest a t who name r = bind (good_name name) (λ _. bind (known r) (λ _. bind (folder r) (λ _. bind (not_long name) (λ _. bind (not_orphan r name) (λ _. bind (find_slot a r name) (λ s. bind (ensure (can_hold t who) 16) (λ _. hold_node (start a t) who s.entry.id)))))))

named : {B : Type 0} (x : ℕ → Out B) (q f : Out Unit) (i : Out ℕ) → bind q (λ _. bind f (λ _. bind i x)) ≡ bind (bind (bind q (λ _. f)) (λ _. i)) x
named x (refused n) f i = refl
named x (done u) (refused n) i = refl
named x (done u) (done v) (refused n) = refl
named x (done u) (done v) (done id) = refl

rest-is : (a : List ℕ) (t : Table) (who : ℕ) (name : List ℕ) (r : DiskINode) → rest a t who name r ≡ give_named a t who r name
unfolding give_named find_in find_ask give_node
rest-is a t who name r =
    (λ z. bind (good_name name) (λ _. found-is a r name (λ id. bind (ensure (can_hold t who) 16) (λ _. hold_node (start a t) who id)) z))
    ∙ named (λ id. bind (ensure (can_hold t who) 16) (λ _. hold_node (start a t) who id)) (good_name name) (find_folder r name) (find_id a r name)

pub find-refused : (a : List ℕ) (t : Table) (who : ℕ) (h : Handle) (name : List ℕ) {n : ℕ} → admit a t ≡ refused n → call_find a t who h name ≡ refused n
unfolding call_find
find-refused a t who h name q = rw q

module _ {P : Type 0} (a : List ℕ) (t : Table) (who : ℕ) (h : Handle) (name : List ℕ) (q : admit a t ≡ done tt) (row r : ℕ) (g : Went (by_handle t who h) row P r) where
  pub find-stop : (r ≡ 0 → ⊥) → call_find a t who h name ≡ refused r
  unfolding call_find
  find-stop z = call-stop a t who h q (λ i. rest a t who name (row_at t i).rec) row r g z

  pub find-next : r ≡ 0 → call_find a t who h name ≡ give_named a t who (row_at t row).rec name
  unfolding call_find
  find-next z = call_next a t who h q (λ i. rest a t who name (row_at t i).rec) row r g z ∙ rest-is a t who name (row_at t row).rec
