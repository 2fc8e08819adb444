use Rattle.std.proofs.Common.{◌≡◌, ◌/◌, ◌++◌, ◌∷◌, [], map, length, take, ap, sym, ◌∙◌, arith, refl}
use Rattle.std.specs.Int.{w32, from_le_bytes}
use Rattle.std.proofs.Math.ListN.{length-set}
use Rattle.std.proofs.lemmas.List.{take_all, take_more_set}
use Rattle.cfb_medium.specs.Numbers.{pieces, all_pieces, numbers}
use Rattle.cfb_medium.proofs.Pieces.{numbers_more}
use Rattle.cfb_sectors.proofs.numbers.difat_numbers.Goals as goal

pub loop-i-init : goal.loop-i-init
unfolding pieces
loop-i-init c = record { whole = refl; front = refl }

pub loop-i-preserved : goal.loop-i-preserved
loop-i-preserved c = let i = c.loop-i.i in record {
  whole = simp length-set c.loop-i.invariant.whole;
  front = take_more_set c.loop-i.found i c.u32_at.result (omega (arith, c.loop-i.invariant.whole))
      ∙ ap (λ xs. xs ++ c.u32_at.result ∷ []) c.loop-i.invariant.front
      ∙ ap (λ x. map (from_le_bytes w32) (pieces 4 i c.args.bytes.now) ++ x ∷ []) c.u32_at.ensures
      ∙ sym (numbers_more c.args.bytes.now i);
}

pub returns : goal.returns
unfolding numbers all_pieces
returns c =
    let all : 109 ≡ c.loop-i.i = omega arith in
    let pieces_are : c.loop-i.i ≡ length c.args.bytes.now / 4 = omega (arith, c.requires) in
    sym (take_all 109 c.loop-i.found (omega (arith, c.loop-i.invariant.whole))) ∙ ap (λ n. take n c.loop-i.found) all
    ∙ c.loop-i.invariant.front ∙ ap (λ n. map (from_le_bytes w32) (pieces 4 n c.args.bytes.now)) pieces_are
