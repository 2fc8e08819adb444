use Rattle.std.proofs.Common.{◌+◌, [], inl, inr, ⊎_elim}
use Rattle.cfb_sectors.specs.Held.{IsJustifiedByMedium}
use Rattle.cfb_fat.specs.Calls.{AllocatesOneSector}
use Rattle.cfb_fat.specs.Growing.{GrowsFat}
use Rattle.cfb_fat.specs.Keeping.{rests_cause, takes_rest}
use Rattle.cfb_fat.specs.OnlyReads.{all_rest_then}
use Rattle.cfb_fat.proofs.GrowthSteps.{err_map, grows_again, ok_map, on_err, on_err_map}
use Rattle.cfb_fat.proofs.Readied.{full_after, one_after}
use Rattle.cfb_fat.proofs.allocator.Allocator.take.Goals as goal

pub returns-clause-takes : goal.returns-clause-takes
returns-clause-takes g c =
    let it = c.args.self.now in
    let mid = c.reserve_growth.new.self in
    let now = c.take_reserved.new.self in
    ok_map c.take_reserved.result (AllocatesOneSector c.args.init mid now) (AllocatesOneSector c.args.init it now) c.take_reserved.ensures.takes (λ n h. one_after c.args.init it mid now n c.in_ok-reserve_growth.ensures.only_reads h)

pub returns-clause-full_only_if : goal.returns-clause-full_only_if
returns-clause-full_only_if g c = λ is.
    let it = c.args.self.now in
    let mid = c.reserve_growth.new.self in
    let rests = c.in_ok-reserve_growth.ensures.only_reads in
    let did = c.take_reserved.ensures.full_only_if is in
    (full_after it mid rests did.0, all_rest_then it mid c.take_reserved.new.self rests did.1)

pub returns-clause-none : goal.returns-clause-none
returns-clause-none g c =
    let it = c.args.self.now in
    let mid = c.reserve_growth.new.self in
    let now = c.take_reserved.new.self in
    on_err_map c.take_reserved.result (GrowsFat [] [] mid now) (GrowsFat [] [] it now) c.take_reserved.ensures.none (λ grows. grows_again it mid now (takes_rest [] it mid c.in_ok-reserve_growth.ensures.only_reads).grows grows)

pub returns-clause-spends : goal.returns-clause-spends
returns-clause-spends g c = λ n memory. c.take_reserved.ensures.spends n (c.in_ok-reserve_growth.ensures.keeps 0 (n + 1) memory)

pub returns-clause-tries : goal.returns-clause-tries
returns-clause-tries g c =
    let it = c.args.self.now in
    let mid = c.reserve_growth.new.self in
    let now = c.take_reserved.new.self in
    let rests = c.in_ok-reserve_growth.ensures.only_reads in
    let did = c.take_reserved.ensures.tries in
    record {
      live = did.live;
      cause = err_map c.take_reserved.result (IsJustifiedByMedium mid.sectors now.sectors) (IsJustifiedByMedium it.sectors now.sectors) did.cause (λ e cause. rests_cause it mid now e rests cause);
      fault = err_map c.take_reserved.result _ _ did.fault (λ e told. ⊎_elim
          (λ fault. inl (fault.0, ⊎_elim (λ failed. inl failed) (λ rest. inr (all_rest_then it mid now rests rest)) fault.1))
          (λ refused. inr refused)
          told);
    }

pub returns-in_err-reserve_growth-clause-none : goal.returns-in_err-reserve_growth-clause-none
returns-in_err-reserve_growth-clause-none g c =
    let it = c.args.self.now in
    let mid = c.reserve_growth.new.self in
    on_err c.from_residual.result (GrowsFat [] [] it mid) (takes_rest [] it mid c.in_err-reserve_growth.ensures.only_reads).grows
