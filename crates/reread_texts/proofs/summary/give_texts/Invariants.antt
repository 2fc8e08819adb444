use Rattle.std.proofs.Common.{◌≡◌, ℕ, List, drop, Ok}
use Rattle.msi_props.specs.Props.{properties_at, Property}
use Rattle.msi_texts.specs.declared.codepage.CodePage.{CodePage}
use Rattle.reread_texts.specs.Sets.{values_under, IsOnTheWay}
use Rattle.reread_texts.proofs.summary.give_texts.Given as goal

-- the texts so far are given, and those to come aren't
abbrev pub invariant-loop-number : goal.invariant-loop-number
invariant-loop-number l = (version : ℕ) (values : List (ℕ × Property)) (q : CodePage) → properties_at version l.section l.pairs ≡ Ok values
    → l.initial.set.props.values ≡ values_under q values
    → IsOnTheWay l.page q version l.section values l.initial.set.props l.initial.lacking.items (drop l.number-index l.pairs) l.set.props l.lacking.items
