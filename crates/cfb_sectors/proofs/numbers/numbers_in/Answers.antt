use Rattle.std.proofs.Common.{ap, ◌∙◌, ◌++◌, [], ◌∷◌, sym, map, rules}
use Rattle.std.specs.Int.{w32, from_le_bytes}
use Rattle.cfb_medium.specs.Numbers.{pieces, all_pieces, numbers}
use Rattle.cfb_medium.proofs.Pieces.{numbers_more}
use Rattle.cfb_sectors.proofs.numbers.numbers_in.Goals as goal

pub loop-i-init : goal.loop-i-init
unfolding pieces
loop-i-init c = search rules

pub loop-i-preserved : goal.loop-i-preserved
loop-i-preserved c =
    c.in_ok-push.ensures.items
    ∙ ap (λ xs. xs ++ c.u32_at.result ∷ []) c.loop-i.invariant
    ∙ ap (λ x. map (from_le_bytes w32) (pieces 4 c.loop-i.i c.args.bytes.now) ++ x ∷ []) c.u32_at.ensures
    ∙ sym (numbers_more c.args.bytes.now c.loop-i.i)

pub returns : goal.returns
unfolding numbers all_pieces
returns c = search rules
