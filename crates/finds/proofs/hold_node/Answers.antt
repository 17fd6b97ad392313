-- `finds::hold_node`: the hold on what was opened.
use Rattle.base.proofs.Outs.{went-has}
use Rattle.calls.proofs.Answers.{ok-is, is-ok, handed-code}
use Rattle.finds.proofs.Parts.{handed}
use Rattle.finds.proofs.hold_node.Goals as goal

pub hand-requires : goal.hand-requires
hand-requires c = λ z. went-has (c.open_node-o.ensures 0) (is-ok _ z)

pub returns : goal.returns
returns c =
    handed (handed-code _ _ c.hand.ensures.0) (λ z. c.hand.ensures.1 (ok-is _ z)) (c.open_node-o.ensures c.args.who)
