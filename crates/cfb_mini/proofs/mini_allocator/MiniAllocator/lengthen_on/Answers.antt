use Rattle.std.proofs.Common.{◌<◌, length, sym, subst, arith, IsTrue}
use Rattle.cfb_fat.specs.OnlyReads.{all_rest_refl}
use Rattle.cfb_chain_io.proofs.GoingOn.{goes_then, rests_go_on}
use Rattle.cfb_mini.specs.LinkViews.{minis_of}
use Rattle.cfb_mini.specs.Views.{allocator_of}
use Rattle.cfb_mini.proofs.Longer.{lengthened_owners, lengthens_begun, lengthens_then, own_now}
use Rattle.cfb_mini.proofs.mini_allocator.MiniAllocator.lengthen_on.Goals as goal

pub taking-init : goal.taking-init
taking-init g c =
    let it = c.args.self.now in
    let a = allocator_of it in
    record {
      goes = rests_go_on a a (all_rest_refl a);
      live = c.requires;
      lengthened = λ own h linked. (lengthens_begun it (minis_of c.args.links.now) own h linked, omega arith);
    }

pub taking-preserved : goal.taking-preserved
taking-preserved g c =
    let it = c.args.self.now in
    let mid = c.taking.self in
    let new = c.take_or_grow.new.self in
    let minis = minis_of c.args.links.now in
    let before = minis_of c.taking.links in
    let later = minis_of c.take_or_grow.new.links in
    let so = c.taking.invariant in
    record {
      goes = goes_then (allocator_of it) (allocator_of mid) (allocator_of new) so.goes c.take_or_grow.ensures.invariants;
      live = c.in_default.ensures.error_contract.live.1;
      lengthened = λ own h linked.
          let was = so.lengthened own h linked in
          let step = c.in_default.ensures.lengthens (own_now mid own) (lengthened_owners it mid minis before own was.0) was.0.linked in
          let few : length before < c.args.count = subst (λ l. length l < c.args.count) c.mini_sector_ids.ensures c.if-mini_sector_ids-count.false in
          let one = step.1 in
          (lengthens_then it mid new minis before later own so.goes.version was.0 step.0 c.take_or_grow.ensures.invariants.version, omega (arith, one, few));
    }

pub returns-in-Err-clause-refused_only_if : goal.returns-in-Err-clause-refused_only_if
returns-in-Err-clause-refused_only_if g c = λ wrong own h linked orderly.
    let it = c.args.self.now in
    let mid = c.taking.self in
    let so = c.taking.invariant in
    let was = so.lengthened own h linked in
    c.in-Err.ensures.refused_only_if wrong (own_now mid own) (lengthened_owners it mid (minis_of c.args.links.now) (minis_of c.taking.links) own was.0) was.0.linked (subst IsTrue (sym (so.goes.orderly so.live)) orderly)
