-- `path_parts::spell`: by the verdict on the name.
use mathlib.Core.Path.{refl, sym, ◌∙◌}
use Rattle.path_parts.proofs.Namers.{spelled-ended, spelled-broken}
use Rattle.path_parts.proofs.spell.Goals as goal

pub returns-in-Ended : goal.returns-in-Ended
returns-in-Ended c =
    spelled-ended c.args.name.now _ (sym c.stored_name-s.ensures ∙ c.in-Ended.is)

pub returns-in-Broken : goal.returns-in-Broken
returns-in-Broken c =
    spelled-broken c.args.name.now _ _ (sym c.stored_name-s.ensures ∙ c.in-Broken.is) refl
