-- `calls_create::create_rows`: the hold is made where the steps were done.
use Rattle.calls.proofs.Answers.{ok-is, is-ok, handed-code}
use Rattle.calls_create.proofs.Held.{opens-has, handed}
use Rattle.calls_create.proofs.create_rows.Goals as goal

pub hand-requires : goal.hand-requires
hand-requires c = λ z. opens-has c.create_begin-opened.ensures (is-ok _ z)

pub returns : goal.returns
returns c = handed _ (handed-code _ _ c.hand.ensures.0) (λ z. c.hand.ensures.1 (ok-is _ z)) c.create_begin-opened.ensures
