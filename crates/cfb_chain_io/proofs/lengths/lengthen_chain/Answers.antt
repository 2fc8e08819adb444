use Rattle.std.proofs.Common.{◌≡◌, ◌⊎◌, ◌+◌, ◌-◌, ◌*◌, ◌<◌, ◌≤◌, false, length, refl, sym, ap, subst, ◌∙◌, IsTrue}
use Rattle.std.specs.Prelude.{OnOk}
use Rattle.cfb_chains.specs.ChainViews.{holder_of, sectors_of}
use Rattle.cfb_chains.specs.LinkViews.{ids_of, links_version}
use Rattle.cfb_chains.specs.Positions.{sectors_for}
use Rattle.cfb_chains.proofs.Lending.{told_of_lent}
use Rattle.cfb_fat.specs.Growing.{LacksSectorNumbers}
use Rattle.cfb_fat.specs.Tables.{has_failed_here, orderly_of}
use Rattle.cfb_sectors.proofs.Appending.{on_ok}
use Rattle.cfb_sectors.specs.Initial.{padded}
use Rattle.cfb_sectors.specs.Sectors.{greatest_regular}
use Rattle.cfb_chain_io.specs.ChainEffects.{KeepsFileInvariants}
use Rattle.cfb_chain_io.proofs.GoingOn.{takes_go_on}
use Rattle.cfb_chain_io.proofs.Resizing.{extended_links, on_ok_both, resized_longer, Resized}
use Rattle.cfb_chain_io.proofs.lengths.lengthen_chain.Goals as goal

pub returns-clause-invariants : goal.returns-clause-invariants
returns-clause-invariants g c =
    let made = c.new-chain.ensures in
    let did = c.lengthen.ensures in
    let a = holder_of c.new-chain.result in
    let b = holder_of c.lengthen.new.self in
    let is = c.allocator-1.given.1 (sym (did.same.same.holder ∙ made.same_reference)) in
    let links_is = c.links-1.given.1 (sym (did.same.same.links ∙ made.same_links)) in
    let longer = did.longer in
    told_of_lent (λ a v s b t. KeepsFileInvariants {g = g.F.ReadMedium} a b) _ c.args.allocator.now _ _ _ _ _ _ _ _ made.holder made.chain.0 made.chain.1 is (ap ids_of links_is) (takes_go_on longer.0 longer.1 a b longer.3)

pub returns-clause-extended : goal.returns-clause-extended
returns-clause-extended g c =
    let made = c.new-chain.ensures in
    let did = c.lengthen.ensures in
    let r = c.lengthen.result in
    let a = holder_of c.new-chain.result in
    let b = holder_of c.lengthen.new.self in
    let v = c.new-chain.result.links.now.version in
    let s = sectors_of c.new-chain.result in
    let t = sectors_of c.lengthen.new.self in
    let n = sectors_for v c.args.len in
    let is = c.allocator-1.given.1 (sym (did.same.same.holder ∙ made.same_reference)) in
    let links_is = c.links-1.given.1 (sym (did.same.same.links ∙ made.same_links)) in
    let few : length s ≤ n = subst (λ l. length l ≤ n) (sym made.chain.1) (subst (λ u. length (ids_of c.args.links.now) ≤ sectors_for u c.args.len) (sym made.chain.0) c.requires) in
    let longer = did.longer in
    let did_so : OnOk r (Resized {g = g.F.ReadMedium} (λ k len. padded (k * len) c.args.bytes.now) n a v s b t) =
    on_ok r _ _ (λ all. resized_longer (λ k len. padded (k * len) c.args.bytes.now) n a b v s t longer.0 longer.1 few all.0.0.0 all.0.0.1 longer.2 longer.3 longer.4 all.0.1.linked all.0.1.writable all.1)
    (on_ok_both r _ _ (on_ok_both r _ _ did.error_contract.live did.keeps) did.filled) in
    let told = told_of_lent (λ a v s b t. OnOk r (Resized {g = g.F.ReadMedium} (λ k len. padded (k * len) c.args.bytes.now) (sectors_for v c.args.len) a v s b t))
    a c.args.allocator.now b _ v c.args.links.now.version s (ids_of c.args.links.now) t _ made.holder made.chain.0 made.chain.1 is (ap ids_of links_is) did_so in
    on_ok r _ _ (λ had chain. extended_links c.args.bytes.now (sectors_for c.args.links.now.version c.args.len) c.args.allocator.now _ c.args.links.now _ c.requires (ap links_version links_is ∙ did.same.same.version ∙ made.chain.0) had chain) told

pub returns-clause-orderly : goal.returns-clause-orderly
returns-clause-orderly g c = λ full.
    let made = c.new-chain.ensures in
    let a = holder_of c.new-chain.result in
    let v = c.new-chain.result.links.now.version in
    let s = sectors_of c.new-chain.result in
    told_of_lent (λ a v s b t. IsTrue (orderly_of {g = g.F.ReadMedium} a)) a c.args.allocator.now a a v c.args.links.now.version s (ids_of c.args.links.now) s s made.holder made.chain.0 made.chain.1 refl refl (c.lengthen.ensures.full_only_if full).orderly

pub returns-clause-full_only_if : goal.returns-clause-full_only_if
returns-clause-full_only_if g c = λ full.
    let made = c.new-chain.ensures in
    let did = c.lengthen.ensures in
    let a = holder_of c.new-chain.result in
    let v = c.new-chain.result.links.now.version in
    let s = sectors_of c.new-chain.result in
    let is = c.allocator-1.given.1 (sym (did.same.same.holder ∙ made.same_reference)) in
    told_of_lent (λ a v s b t. has_failed_here b ≡ false → LacksSectorNumbers {g = g.F.ReadMedium} a (sectors_for v c.args.len - length s) ⊎ (greatest_regular + 1 < sectors_for v c.args.len))
    a c.args.allocator.now (holder_of c.lengthen.new.self) _ v c.args.links.now.version s (ids_of c.args.links.now) s s made.holder made.chain.0 made.chain.1 is refl (did.full_only_if full).lacks
