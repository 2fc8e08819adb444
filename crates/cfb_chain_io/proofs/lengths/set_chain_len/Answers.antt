use Rattle.std.proofs.Common.{◌≡◌, ◌⊎◌, ◌+◌, ◌-◌, ◌<◌, false, length, refl, sym, ap, subst, ◌∙◌, arith, ⊎_elim, IsTrue}
use Rattle.std.proofs.lemmas.Bool.Decides.{leb_tells}
use Rattle.cfb_chains.specs.ChainViews.{holder_of, sectors_of}
use Rattle.std.specs.Prelude.{OnOk}
use Rattle.cfb_sectors.proofs.Appending.{on_ok}
use Rattle.cfb_chain_io.proofs.Resizing.{on_ok_both, resized_links, resized_longer, resized_shorter, Resized}
use Rattle.cfb_chains.specs.LinkViews.{ids_of, links_version}
use Rattle.cfb_sectors.specs.Copies.{copies}
use Rattle.cfb_sectors.specs.Initial.{initial}
use Rattle.cfb_chains.specs.Positions.{sectors_for}
use Rattle.cfb_chains.proofs.Lending.{told_of_lent}
use Rattle.cfb_fat.specs.Growing.{LacksSectorNumbers}
use Rattle.cfb_fat.specs.Tables.{has_failed_here, orderly_of, OnlyReadsAllocator}
use Rattle.cfb_sectors.specs.Sectors.{greatest_regular}
use Rattle.cfb_chain_io.specs.ChainEffects.{KeepsFileInvariants, AllocatorRunsOut, StaysLean}
use Rattle.cfb_chain_io.proofs.Leaning.{longer_lean, shorter_lean, too_many}
use Rattle.cfb_chain_io.proofs.GoingOn.{changes_go_on, takes_go_on}
use Rattle.cfb_chain_io.proofs.lengths.set_chain_len.Goals as goal

pub returns-clause-invariants : goal.returns-clause-invariants
returns-clause-invariants g c =
    let made = c.new-chain.ensures in
    let did = c.set_len.ensures in
    let a = holder_of c.new-chain.result in
    let b = holder_of c.set_len.new.self in
    let is = c.allocator-1.given.1 (sym (did.same.holder ∙ made.same_reference)) in
    let links_is = c.links-1.given.1 (sym (did.same.links ∙ made.same_links)) in
    let went : KeepsFileInvariants {g = g.F.ReadMedium} a b =
    ⊎_elim
    (λ long. let longer = did.longer long.1 in takes_go_on longer.0 longer.1 a b longer.3)
    (λ short. let frees = (did.shorter short.1).frees in changes_go_on frees.0 a b frees.1)
    (leb_tells (length (sectors_of c.new-chain.result)) (sectors_for c.new-chain.result.links.now.version c.args.len)) in
    told_of_lent (λ a v s b t. KeepsFileInvariants {g = g.F.ReadMedium} a b) _ c.args.allocator.now _ _ _ _ _ _ _ _ made.holder made.chain.0 made.chain.1 is (ap ids_of links_is) went

pub returns-clause-resized : goal.returns-clause-resized
returns-clause-resized g c =
    let made = c.new-chain.ensures in
    let did = c.set_len.ensures in
    let r = c.set_len.result in
    let a = holder_of c.new-chain.result in
    let b = holder_of c.set_len.new.self in
    let v = c.new-chain.result.links.now.version in
    let s = sectors_of c.new-chain.result in
    let t = sectors_of c.set_len.new.self in
    let i = c.new-chain.result.init in
    let n = sectors_for v c.args.len in
    let is = c.allocator-1.given.1 (sym (did.same.holder ∙ made.same_reference)) in
    let links_is = c.links-1.given.1 (sym (did.same.links ∙ made.same_links)) in
    let both = on_ok_both r _ _ did.error_contract.live did.keeps in
    let did_so : OnOk r (Resized {g = g.F.ReadMedium} (λ k len. copies k (initial i len)) n a v s b t) =
    ⊎_elim
    (λ long. let longer = did.longer long.1 in
    on_ok r _ _ (λ all. resized_longer (λ k len. copies k (initial i len)) n a b v s t longer.0 longer.1 long.1 all.0.0.0 all.0.0.1 longer.2 longer.3 longer.4 all.0.1.linked all.0.1.writable all.1) (on_ok_both r _ _ both (did.filled long.1)))
    (λ short. let cuts = did.shorter short.1 in
    on_ok r _ _ (λ all. resized_shorter i n a b v s t cuts.frees.0 all.0.0.0 all.0.0.1 all.1.0.0 cuts.frees.1 all.1.1.0 all.0.1.linked all.0.1.writable all.1.1.1)
    (on_ok_both r _ _ both (on_ok_both r _ _ cuts.cut (on_ok_both r _ _ cuts.frees.2 cuts.bytes))))
    (leb_tells (length s) n) in
    let told = told_of_lent (λ a v s b t. OnOk r (Resized {g = g.F.ReadMedium} (λ k len. copies k (initial c.args.init len)) (sectors_for v c.args.len) a v s b t))
    a c.args.allocator.now b _ v c.args.links.now.version s (ids_of c.args.links.now) t _ made.holder made.chain.0 made.chain.1 is (ap ids_of links_is)
    (subst (λ j. OnOk r (Resized {g = g.F.ReadMedium} (λ k len. copies k (initial j len)) n a v s b t)) made.chain.3 did_so) in
    on_ok r _ _ (λ had chain. resized_links c.args.init (sectors_for c.args.links.now.version c.args.len) c.args.allocator.now _ c.args.links.now _ (ap links_version links_is ∙ did.same.version ∙ made.chain.0) had chain) told

pub returns-clause-unchanged : goal.returns-clause-unchanged
returns-clause-unchanged g c = λ refused.
    let made = c.new-chain.ensures in
    let did = c.set_len.ensures in
    let is = c.allocator-1.given.1 (sym (did.same.holder ∙ made.same_reference)) in
    let links_is = c.links-1.given.1 (sym (did.same.links ∙ made.same_links)) in
    let rests = (did.refused_only_if refused).1 in
    told_of_lent (λ a v s b t. OnlyReadsAllocator {g = g.F.ReadMedium} a b × (t ≡ s)) _ c.args.allocator.now _ _ _ _ _ _ _ _ made.holder made.chain.0 made.chain.1 is (ap ids_of links_is) (rests.0, rests.1)

pub returns-clause-lean : goal.returns-clause-lean
returns-clause-lean g c =
    let made = c.new-chain.ensures in
    let did = c.set_len.ensures in
    let r = c.set_len.result in
    let a = holder_of c.new-chain.result in
    let b = holder_of c.set_len.new.self in
    let s = sectors_of c.new-chain.result in
    let t = sectors_of c.set_len.new.self in
    let is = c.allocator-1.given.1 (sym (did.same.holder ∙ made.same_reference)) in
    let links_is = c.links-1.given.1 (sym (did.same.links ∙ made.same_links)) in
    let did_so : OnOk r (StaysLean {g = g.F.ReadMedium} (length s) (length t) a b) =
    ⊎_elim
    (λ long. let longer = did.longer long.1 in on_ok r _ _ (λ live. longer_lean s t longer.0 longer.1 a b live.1 longer.2 longer.3) did.error_contract.live)
    (λ short. on_ok r _ _ (λ size. shorter_lean (length s) (length t) a b (let less = short.1 in omega (arith, size, less))) did.count)
    (leb_tells (length s) (sectors_for c.new-chain.result.links.now.version c.args.len)) in
    told_of_lent (λ a v s b t. OnOk r (StaysLean {g = g.F.ReadMedium} (length s) (length t) a b)) a c.args.allocator.now b _ c.new-chain.result.links.now.version c.args.links.now.version s (ids_of c.args.links.now) t _
    made.holder made.chain.0 made.chain.1 is (ap ids_of links_is) did_so

pub returns-clause-stopped : goal.returns-clause-stopped
returns-clause-stopped g c = λ full.
    let made = c.new-chain.ensures in
    let a = holder_of c.new-chain.result in
    let v = c.new-chain.result.links.now.version in
    let s = sectors_of c.new-chain.result in
    let out = (c.set_len.ensures.full_only_if full).ran_out in
    let count = sectors_for v c.args.len in
    let ran : AllocatorRunsOut {g = g.F.ReadMedium} (length s) count a = record {
      more = out.more;
      changed = out.changed;
      mid = out.mid;
      takes = out.grows;
      live = out.live;
      short = out.short;
      full = too_many out.mid (count - (length s + length out.more)) count (let less = out.short in omega (arith, less)) out.full;
    } in
    told_of_lent (λ a v s b t. AllocatorRunsOut {g = g.F.ReadMedium} (length s) (sectors_for v c.args.len) a) a c.args.allocator.now a a v c.args.links.now.version s (ids_of c.args.links.now) s s made.holder made.chain.0 made.chain.1 refl refl ran

pub returns-clause-orderly : goal.returns-clause-orderly
returns-clause-orderly g c = λ full.
    let made = c.new-chain.ensures in
    let a = holder_of c.new-chain.result in
    let v = c.new-chain.result.links.now.version in
    let s = sectors_of c.new-chain.result in
    told_of_lent (λ a v s b t. IsTrue (orderly_of {g = g.F.ReadMedium} a)) a c.args.allocator.now a a v c.args.links.now.version s (ids_of c.args.links.now) s s made.holder made.chain.0 made.chain.1 refl refl (c.set_len.ensures.full_only_if full).orderly

pub returns-clause-full_only_if : goal.returns-clause-full_only_if
returns-clause-full_only_if g c = λ full.
    let made = c.new-chain.ensures in
    let did = c.set_len.ensures in
    let a = holder_of c.new-chain.result in
    let v = c.new-chain.result.links.now.version in
    let s = sectors_of c.new-chain.result in
    let is = c.allocator-1.given.1 (sym (did.same.holder ∙ made.same_reference)) in
    told_of_lent (λ a v s b t. has_failed_here b ≡ false → LacksSectorNumbers {g = g.F.ReadMedium} a (sectors_for v c.args.len - length s) ⊎ (greatest_regular + 1 < sectors_for v c.args.len))
    a c.args.allocator.now (holder_of c.set_len.new.self) _ v c.args.links.now.version s (ids_of c.args.links.now) s s made.holder made.chain.0 made.chain.1 is refl (did.full_only_if full).lacks
