use Rattle.std.proofs.Common.{◌≡◌, ◌<◌, ◌++◌, [], ◌∷◌, length, ap, sym, subst, ◌∙◌}
use Rattle.std.proofs.lemmas.Option.{slice_get_within}
use Rattle.cfb_sectors.specs.Sectors.{free}
use Rattle.cfb_chains.specs.Grown.{IsChainInTable}
use Rattle.cfb_chain_io.specs.ChainEffects.{HasDataChain}
use Rattle.cfb_mini.specs.LinkViews.{minis_of}
use Rattle.cfb_mini.specs.NumberViews.{numbers_of}
use Rattle.cfb_mini.specs.NextSector.{linked_behind, linked_pair}
use Rattle.cfb_mini.proofs.Entries.{enters_from, enters_wider}
use Rattle.cfb_mini.proofs.Linking.{has_last, linked_with, to_last}
use Rattle.cfb_mini.proofs.next_sector.extend_minis.Goals as goal

pub returns-then-not-has_number-clause-refused_only_if : goal.returns-then-not-has_number-clause-refused_only_if
returns-then-not-has_number-clause-refused_only_if g c = λ wrong chain linked.
    let minis = minis_of c.args.links.now in
    let at_end = to_last minis (minis_of c.reserve_one.new.self) c.last-last.result c.reserve_one.ensures.same c.last-last.ensures in
    let yes = c.if-not-has_number.ensures.1 (has_last (numbers_of c.args.mini_fat.now.numbers) minis c.last-last.result at_end linked) in
    cc

pub link_behind-requires-clause-there : goal.link_behind-requires-clause-there
link_behind-requires-clause-there g c =
    subst (λ t. c.in-Some.taken < length t) (sym c.find_inside.ensures.same) (slice_get_within (numbers_of c.args.mini_fat.now.numbers) c.in-Some.taken free c.in-Some.ensures.found.found)

pub returns-clause-takes : goal.returns-clause-takes
returns-clause-takes g c = λ took chain linked.
    let a = c.args.allocator.now in
    let b = c.link_behind.new.allocator in
    let x = c.args.mini_fat.now in
    let mid = c.find_inside.new.self in
    let y = c.link_behind.new.mini_fat in
    let minis = minis_of c.args.links.now in
    let last = c.last-last.result in
    let taken = c.in-Some.taken in
    let loose = c.in-Some.ensures.found in
    let lies = c.find_inside.ensures.lies in
    let same = c.find_inside.ensures.same in
    let did = c.in_default-link_behind.ensures in
    let at_end = to_last minis (minis_of c.reserve_one.new.self) last c.reserve_one.ensures.same c.last-last.ensures in
    let whole = linked_with (numbers_of x.numbers) minis last taken at_end loose.regular loose.found linked in
    let are : minis_of c.push_reserved.new.self ≡ minis ++ taken ∷ [] = c.push_reserved.ensures ∙ ap (λ l. l ++ taken ∷ []) c.reserve_one.ensures.same in
    let now : numbers_of y.numbers ≡ linked_behind (numbers_of x.numbers) last taken = did.set ∙ ap (λ t. linked_behind t last taken) same in
    record {
      taken = taken;
      was_free = loose;
      first = c.in-Some.ensures.first;
      minis_are = are;
      enters = enters_wider (minis ++ taken ∷ []) (linked_pair last taken) a b x y whole.1 (enters_from (linked_pair last taken) a b x mid y lies.0 same (did.enters (subst (HasDataChain a) (sym lies.0) chain)));
      linked = subst (λ l. IsChainInTable l (minis_of c.push_reserved.new.self)) (sym now) (subst (IsChainInTable (linked_behind (numbers_of x.numbers) last taken)) (sym are) whole.0);
    }
