use Rattle.cfb_sectors.specs.Header.{first_difat_sector}
use Rattle.cfb_fat.proofs.ListsNow.{lists_now, stop_is}
use Rattle.cfb_fat.proofs.laws.lists_are_facts.Goals as goal

pub returns-clause-lists : goal.returns-clause-lists
returns-clause-lists c = λ v b ds fs listed. lists_now v b ds fs listed

pub returns-clause-stop : goal.returns-clause-stop
returns-clause-stop c = λ v b ds fs lists. stop_is v b (first_difat_sector b) ds lists.stop lists.chain
