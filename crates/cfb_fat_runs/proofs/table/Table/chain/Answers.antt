use Rattle.std.proofs.Common.{arith, subst}
use Rattle.cfb_sectors.proofs.Chains.{chain_few, leads_end, leads_nowhere, Leads}
use Rattle.cfb_fat_runs.specs.Tables.{entries_of}
use Rattle.cfb_fat_runs.proofs.Views.{size_of}
use Rattle.cfb_fat_runs.proofs.Walked.{leads_follow}
use Rattle.cfb_fat_runs.proofs.table.Table.chain.Goals as goal
use Rattle.cfb_fat_runs.proofs.table.Table.chain.Goals.{then-at-gt-MAX_REGULAR_SECTOR-via-then-at-gt-MAX_REGULAR_SECTOR, then-at-gt-MAX_REGULAR_SECTOR-via-else-at-gt-MAX_REGULAR_SECTOR+then-at-count, then-at-gt-MAX_REGULAR_SECTOR-via-else-at-gt-MAX_REGULAR_SECTOR+else-at-count+then-len-count}

pub returns-then-at-gt-MAX_REGULAR_SECTOR-clause-none : goal.returns-then-at-gt-MAX_REGULAR_SECTOR-clause-none
returns-then-at-gt-MAX_REGULAR_SECTOR-clause-none c = λ refused list chain.
    let table = entries_of c.args.self.now in
    let long = c.len-count.ensures.value in
    leads_nowhere table c.args.start c.loop-at.sectors.items c.loop-at.at c.loop-at.invariant c.loop-at-test.true
    (λ regular here few. elim c.then-at-gt-MAX_REGULAR_SECTOR.branch [
      | then-at-gt-MAX_REGULAR_SECTOR-via-then-at-gt-MAX_REGULAR_SECTOR w ↦ omega arith
      | then-at-gt-MAX_REGULAR_SECTOR-via-else-at-gt-MAX_REGULAR_SECTOR+then-at-count w ↦ omega arith
      | then-at-gt-MAX_REGULAR_SECTOR-via-else-at-gt-MAX_REGULAR_SECTOR+else-at-count+then-len-count w ↦ let size = c.loop-at.sectors.ok.0 in omega arith
    ])
    list chain

pub follow-requires : goal.follow-requires
follow-requires c =
    let size = size_of c.args.self.now in
    let long = c.len-count.ensures.value in
    omega (arith, size, long)

pub loop-at-preserved : goal.loop-at-preserved
loop-at-preserved c =
    let it = c.args.self.now in
    let size = size_of it in
    leads_follow (entries_of it) c.args.start c.loop-at.at _ c.loop-at.sectors.items c.follow.new.sectors.items (omega (arith, size, it.few)) c.loop-at.invariant c.in_ok-at.ensures

pub returns-clause-chain : goal.returns-clause-chain
returns-clause-chain c =
    let table = entries_of c.args.self.now in
    let list = c.loop-at.sectors.items in
    leads_end table c.args.start list (subst (λ s. Leads table c.args.start list s) c.loop-at-test.false c.loop-at.invariant)

pub returns-clause-few : goal.returns-clause-few
returns-clause-few c =
    let table = entries_of c.args.self.now in
    let list = c.loop-at.sectors.items in
    let chain = leads_end table c.args.start list (subst (λ s. Leads table c.args.start list s) c.loop-at-test.false c.loop-at.invariant) in
    let few = chain_few table c.args.start list chain in
    omega (arith, few, c.loop-at.sectors.ok.0)
