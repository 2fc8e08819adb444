use Rattle.std.proofs.Common.{ap, ◌∙◌, arith}
use Rattle.std.specs.Prelude.{Some, None}
use Rattle.std.proofs.lemmas.Str.Pattern.{split_parts}
use Rattle.cfb_tree.specs.Paths.{parts_of}
use Rattle.cfb_entries.specs.Parts.{parts_in}
use Rattle.cfb_entries.proofs.Cutting.{one_part, first_part}
use Rattle.cfb_entries.proofs.parts.Parts.split_first.Goals as goal

pub returns-in-Some-split_once : goal.returns-in-Some-split_once
returns-in-Some-split_once c =
    let cut = split_parts 47 c.in-Some.text.now (Some (c.in-Some-split_once.part, c.in-Some-split_once.later)) c.in-Some-split_once.ensures.cases (omega arith) in
    ap parts_in c.in-Some.is ∙ ap parts_of cut.0 ∙ first_part c.in-Some-split_once.part.now c.in-Some-split_once.later.now cut.1

pub returns-in-None : goal.returns-in-None
returns-in-None c =
    ap parts_in c.in-Some.is ∙ one_part c.in-Some.text.now (split_parts 47 c.in-Some.text.now None c.in-None.ensures.cases (omega arith))
