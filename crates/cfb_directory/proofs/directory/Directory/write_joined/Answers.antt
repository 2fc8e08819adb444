use Rattle.cfb_sectors.proofs.Appending.{on_ok}
use Rattle.cfb_siblings.specs.Links.{holder, linked_to}
use Rattle.cfb_directory.proofs.Turned.{writes_one, writes_same}
use Rattle.cfb_directory.proofs.directory.Directory.write_joined.Goals as goal

pub returns-in-Some-clause-written : goal.returns-in-Some-clause-written
returns-in-Some-clause-written g c =
    let it = c.in-Some.it in
    on_ok c.write_link.result _ _
    (λ set. writes_one c.args.self.now c.write_link.new.self (holder it.link) (linked_to it.link it.target set.0) set.2) c.write_link.ensures.set

pub returns-in-None-clause-written : goal.returns-in-None-clause-written
returns-in-None-clause-written g c = writes_same c.args.self.now
