-- `calls_fallocate::decide_copy`: what is written is decided, and then it is known where the blocks are that are read.
use mathlib.Core.Path.{refl}
use mathlib.Core.Path.{◌∙◌}
use Rattle.calls_fallocate.proofs.Decisions.{source_fits, sourced}
use Rattle.calls_fallocate.proofs.decide_copy.Goals as goal

pub plan_blocks-requires : goal.plan_blocks-requires
plan_blocks-requires c =
    let F = source_fits c.args.src c.args.n c.in_ok-decide.ensures refl c.touched-k.ensures (c.decide.auto.plan ∙ c.requires.plan_len.0.0)
    c.requires.plan_len.0.1 c.requires.m_bound.1.1 c.requires.m_bound.1.0 in record { led = c.requires.led; k_in_bounds = F }

pub returns : goal.returns
returns c =
    let F = source_fits c.args.src c.args.n c.in_ok-decide.ensures refl c.touched-k.ensures (c.decide.auto.plan ∙ c.requires.plan_len.0.0)
    c.requires.plan_len.0.1 c.requires.m_bound.1.1 c.requires.m_bound.1.0 in
    let S = sourced c.args.src c.args.n c.in_ok-decide.ensures refl c.touched-k.ensures
    c.plan_blocks.auto.plan F.0 c.plan_blocks.ensures.places in
    (c.in_ok-decide.ensures, λ _. S)
