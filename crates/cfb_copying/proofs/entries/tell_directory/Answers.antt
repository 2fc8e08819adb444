use Rattle.std.proofs.Common.{ap, ◌∙◌}
use Rattle.cfb_chains.specs.LinkViews.{ids_of}
use Rattle.cfb_fat.specs.Tables.{bytes_of}
use Rattle.cfb_spec.specs.Means.{directory_count}
use Rattle.std.specs.Prelude.{length}
use Rattle.cfb_copying.proofs.WordsTold.{count_told, number_now}
use Rattle.cfb_copying.proofs.entries.tell_directory.Goals as goal

pub returns-clause-answer : goal.returns-clause-answer
returns-clause-answer g c = λ directory mini_fat own bytes made.
    let did = c.in_default.ensures in
    count_told directory mini_fat c.args.target.now c.write_word.new.allocator own bytes made c.write_word.ensures.invariants did.error_contract.live.1 (did.leaves made.honest)

pub returns-clause-counted : goal.returns-clause-counted
returns-clause-counted g c = λ honest.
    number_now (bytes_of c.args.target.now) (bytes_of c.write_word.new.allocator) 40 c.count_told-count.result (c.in_default.ensures.written honest) c.count_told-count.type_inv
    ∙ c.count_told-count.ensures ∙ ap (λ v. directory_count v (length (ids_of c.args.links.now))) c.version.ensures
