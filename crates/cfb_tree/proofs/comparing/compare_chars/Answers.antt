use Rattle.std.proofs.Common.{◌≡◌, refl, rules, ap, sym, ◌∙◌}
use Rattle.std.specs.Ordering.{nat_cmp}
use Rattle.std.specs.Iterator.Adapters.{map_callee}
use Rattle.std.specs.Str.{chars}
use Rattle.std.proofs.lemmas.Str.{scalars-chars}
use Rattle.std.proofs.lemmas.Iterator.{YieldsList-from_chars, YieldsList-from_map, YieldsList-from_slice}
use Rattle.std.proofs.lemmas.Iterator.Search.{cmp_from_yields_List}
use Rattle.cfb_tree.specs.Names.{letter, name_key, rank}
use Rattle.cfb_tree.proofs.RankOrder.{by_rank, all_scalar}
use Rattle.cfb_tree.proofs.UnitSteps.{all_kept}
use Rattle.cfb_tree.proofs.comparing.compare_chars.Goals as goal

pub returns : goal.returns
unfolding name_key
returns c =
    let counts_as = letter c.args.letters.now.letters.entries in
    let one = chars c.args.one.now in
    let other = c.args.other.now in
    cmp_from_yields_List (λ x y. y ≡ x) _ nat_cmp _ c.cmp.ensures.ran
    (YieldsList-from_map _ (λ ch. rank (letter c.args.letters.now.letters.entries ch)) (YieldsList-from_chars c.args.one.now c.utf8.one cc) c.map-ranks.ensures.closure (λ x r q k. search rules))
    (λ it e. YieldsList-from_map _ (λ ch. rank (letter c.args.letters.now.letters.entries ch)) (YieldsList-from_slice c.args.other.now cc) (ap map_callee e ∙ c.map.ensures.closure) (λ x r q k. search rules))
    (λ x y. refl)
    ∙ sym (by_rank counts_as one other (all_scalar counts_as c.args.letters.now.scalars one (scalars-chars c.args.one.now c.utf8.one)) (all_kept counts_as c.args.letters.now.scalars other c.requires))
