use Rattle.std.proofs.Common.{◌<◌, length, get_or, refl, sym, subst, ◌∙◌, arith}
use Rattle.std.proofs.lemmas.List.{take_all}
use Rattle.cfb_chains.specs.Changes.{HaveEntry}
use Rattle.cfb_fat.specs.OnlyReads.{all_rest_refl}
use Rattle.cfb_chain_io.specs.ChainEffects.{HasDataChain}
use Rattle.cfb_chain_io.proofs.GoingOn.{goes_cause, goes_then, rests_go_on}
use Rattle.cfb_mini.specs.NumberViews.{numbers_of}
use Rattle.cfb_mini.proofs.Entries.{enters_none, enters_then, one_among}
use Rattle.cfb_mini.proofs.MiniNumbers.{have_more}
use Rattle.cfb_mini.proofs.number_writes.set_numbers.Goals as goal

pub set-init : goal.set-init
set-init g c = record {
  live = c.requires.live;
  goes = rests_go_on _ _ (all_rest_refl c.args.allocator.now);
  size = refl;
  lies = record { links = refl; stream = refl };
  set = λ k below. absurd (omega (arith, below));
  enters = enters_none c.args.mini_sector_ids.now c.args.allocator.now c.args.mini_fat.now;
}

pub returns-in-Err-clause-cause : goal.returns-in-Err-clause-cause
returns-in-Err-clause-cause g c = goes_cause c.args.allocator.now c.set.allocator c.set_number.new.allocator c.in-Err.error c.set.invariant.goes c.set.invariant.live c.in-Err.ensures.cause

pub set-preserved : goal.set-preserved
set-preserved g c =
    let inv = c.set.invariant in
    let did = c.in_default.ensures in
    let ids = c.args.mini_sector_ids.now in
    let i = c.set.id-index in
    let there : get_or ids i 0 < length (numbers_of c.set.mini_fat.numbers) = let all = c.requires.there i c.set-test.true in omega (arith, all, inv.size) in
    record {
      live = did.not_failed;
      goes = goes_then c.args.allocator.now c.set.allocator c.set_number.new.allocator inv.goes c.set_number.ensures.invariants;
      size = c.set_number.ensures.size ∙ inv.size;
      lies = record { links = c.set_number.ensures.lies.links ∙ inv.lies.links; stream = c.set_number.ensures.lies.stream ∙ inv.lies.stream };
      set = have_more c.args.number (numbers_of c.set.mini_fat.numbers) (numbers_of c.set_number.new.mini_fat.numbers) ids i inv.set did.set c.set-test.true there;
      enters = λ chain.
          let was = inv.enters chain in
          enters_then ids _ c.args.allocator.now c.set.allocator c.set_number.new.allocator c.args.mini_fat.now c.set.mini_fat c.set_number.new.mini_fat (one_among ids i c.set-test.true) inv.goes.version inv.lies was
          (did.enters (subst (λ l. HasDataChain c.set.allocator l) (sym inv.lies.links) was.chain));
    }

pub returns-clause-set : goal.returns-clause-set
returns-clause-set g c =
    let all = c.set-test.false in
    subst (HaveEntry c.args.number (numbers_of c.set.mini_fat.numbers)) (take_all c.set.id-index c.args.mini_sector_ids.now (omega (arith, all))) c.set.invariant.set
