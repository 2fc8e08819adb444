use Rattle.std.proofs.Common.{ap, ◌∙◌}
use Rattle.std.specs.Prelude.{unwrap_or}
use Rattle.cfb_tree.proofs.LetterSteps.{letter_in}
use Rattle.cfb_tree.proofs.letters.CaseMapper.letter.Goals as goal

pub returns : goal.returns
returns c =
    c.unwrap_or.ensures ∙ ap (λ o. unwrap_or o c.args.ch) (c.copied.ensures ∙ c.get.ensures.value)
    ∙ letter_in c.args.ch c.args.self.now.letters.entries
