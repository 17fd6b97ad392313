-- `verdicts::move_verdict`: the entry that is looked up means what the rule says (Verdicts), and each arm is one meaning.
use mathlib.Core.Path.{◌≡◌, sym, ap, ◌∙◌}
use lib.ListN.{get_or}
use Rattle.structs.specs.Types.{move_verdict_of}
use Rattle.verdicts.proofs.Verdicts.{verdicts, meant, meant-rest, verdict-at}
use borrow.Author.Rules.{rules}
use Rattle.verdicts.proofs.move_verdict.Goals as goal
use Rattle.verdicts.proofs.move_verdict.Goals.{After-index-k}

-- what the entry means
entry : (c : After-index-k) → meant (get_or verdicts c.index-k.result 0) ≡ move_verdict_of c.args.moved c.args.replaced
entry c =
    ap (λ k. meant (get_or verdicts k 0)) c.index-k.ensures ∙ verdict-at c.args.moved c.args.replaced c.requires.le_moved c.requires.le_replaced

pub returns-in-0 : goal.returns-in-0
returns-in-0 c = sym (ap meant c.in-0.is) ∙ entry (goal.at.returns-in-0 c).After-index-k

pub returns-in-1 : goal.returns-in-1
returns-in-1 c = sym (ap meant c.in-1.is) ∙ entry (goal.at.returns-in-1 c).After-index-k

pub returns-in-2 : goal.returns-in-2
returns-in-2 c = sym (ap meant c.in-2.is) ∙ entry (goal.at.returns-in-2 c).After-index-k

pub returns-in_default : goal.returns-in_default
returns-in_default c = meant-rest (get_or verdicts c.index-k.result 0) (search rules) (search rules) (search rules) ∙ entry (goal.at.returns-in_default c).After-index-k
