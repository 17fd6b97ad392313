-- Courses: from the steps' answers, and to what the call returns.
use mathlib.Core.Path.{◌≡◌, refl, sym, ap, ◌∙◌, subst}
use mathlib.Core.List.{List}
use Prim.Native.Nat.{ℕ, ◌<◌}
use native.Mathlib.Omega.{arith}
use Rattle.std.specs.Prelude.{Result, Ok, Err}
use Rattle.base.specs.Out.{Out, done, refused}
use Rattle.base.specs.Told.{code}
use Rattle.base.specs.declared.reasons.Reason.{Reason}
use Rattle.base.proofs.Tells.{number-pos, number-ne}
use Rattle.table.specs.declared.Table.{Table}
use Rattle.sefs.specs.Create.{After}
use Rattle.calls.specs.Answers.{said}
use Rattle.calls.specs.declared.Reply as answered
use Rattle.steps.specs.Ends.{Ended, went, stopped, Returned}
use Rattle.calls_move.specs.declared.Course.{Course}
use Rattle.calls_move.specs.Courses.{course_of, course_as, EndedMove, moves, rests, denied}

-- ---- the end

-- by what the steps answered
module _ {o : Out After} {t : Table} {a b : List ℕ} {u : Table} where
  course-made : (r : Result Unit Reason) → code r ≡ 0 → o ≡ done (record { arena = b; table = u }) → EndedMove o t a b u (course_of r)
  course-made (Ok x) z e = moves e
  course-made (Err x) z e = absurd (number-ne x z)

  course-not : (r : Result Unit Reason) (n : ℕ) → code r ≡ n → 0 < n → o ≡ refused n → b ≡ a → EndedMove o t a b u (course_of r)
  course-not (Ok x) n z l e h = absurd (omega (arith, z))
  course-not (Err x) n z l e h = denied (number-pos x) (e ∙ ap refused (sym z)) h

  pub moved-ended : {e : Out After} {c : Result Course Reason} (r : Result Unit Reason) → o ≡ e → Ended e a b u (code r) → c ≡ course_of r → EndedMove o t a b u c
  moved-ended {e = e} r q g k = rw k (go (code r) refl g)
    where
      go : (n : ℕ) → code r ≡ n → Ended e a b u n → EndedMove o t a b u (course_of r)
      go n z (went f) = course-made r z (q ∙ f)
      go n z (stopped l f h) = course-not r n z l (q ∙ f) h

-- what the call returns
returned-course : (t : Table) {o : Out After} {a b : List ℕ} {u : Table} {c : Result Course Reason} {r : answered.Reply Reason} → EndedMove o t a b u c → r ≡ course_as t u c → Returned t o a b r
returned-course t (moves e) q = record { answer = ap said q ∙ rw e; arena = rw e }
returned-course t (rests e k) q = record { answer = ap said q ∙ rw e; arena = k ∙ rw e }
returned-course t (denied l e k) q = record { answer = ap said q ∙ rw e; arena = k ∙ rw e }

-- the same, where the table that memory was given is known by another name
pub returned-moved : (f : Table → Out After) {x t : Table} {a b : List ℕ} {u : Table} {c : Result Course Reason} {r : answered.Reply Reason} → x ≡ t → EndedMove (f x) x a b u c → r ≡ course_as t u c → Returned t (f t) a b r
returned-moved f {t = t} {a = a} {b = b} {u = u} {c = c} e g q = returned-course t (subst (λ (z : Table). EndedMove (f z) z a b u c) e g) q
