use Rattle.cfb_sectors.proofs.Filling.{filling_again, filling_more}
use Rattle.cfb_sectors.proofs.initial.NewSector.behind.Goals as goal
use Rattle.std.proofs.Common.{◌∙◌, ap, drop}

pub returns-in-Bytes : goal.returns-in-Bytes
returns-in-Bytes c = λ count len is.
    filling_more c.args.self c.in-Bytes.front c.split_at.result.1 c.args.done count len c.in-Bytes.is is (c.split_at.ensures.back ∙ ap (λ k. drop k c.in-Bytes.front.now) c.min.ensures)

pub returns-in-Init : goal.returns-in-Init
returns-in-Init c = λ count len is. filling_again c.args.self c.in-Init.field-0 count len c.in-Init.is
