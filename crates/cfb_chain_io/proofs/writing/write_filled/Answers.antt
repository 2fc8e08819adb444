use Rattle.std.proofs.Common.{rules, ◌≡◌, ◌≤◌, ◌+◌, ◌*◌, inl, inr, arith, length, sym, subst, ◌∙◌, ⊎_elim}
use Rattle.std.proofs.lemmas.Result.{IfErr-weaker}
use Rattle.cfb_medium.specs.Versions.{sector_len}
use Rattle.cfb_sectors.proofs.Appending.{on_ok}
use Rattle.cfb_chains.specs.LinkViews.{ids_of, links_version}
use Rattle.cfb_chains.specs.Positions.{sectors_for}
use Rattle.cfb_chain_io.proofs.GoingOn.{goes_cause, goes_then}
use Rattle.cfb_chain_io.proofs.WrittenParts.{more_for, room_for, writes_behind}
use Rattle.cfb_chain_io.proofs.writing.write_filled.Goals as goal

pub returns-clause-written : goal.returns-clause-written
returns-clause-written g c =
    let a = c.args.allocator.now in
    let m = c.set_chain_len.new.allocator in
    let links = c.args.links.now in
    let end = c.args.at + length c.args.bytes.now in
    let few : length (ids_of links) ≤ sectors_for (links_version links) end = more_for (links_version links) end (length (ids_of links)) c.requires.past in
    on_ok c.overwrite_chain.result _ _
    (λ wrote chain.
    let grown = c.in_default.ensures.resized chain in
    writes_behind c.args.init c.args.at (sectors_for (links_version links) end) c.args.bytes.now a m c.overwrite_chain.new.allocator links c.set_chain_len.new.links few c.set_chain_len.ensures.invariants.version grown (wrote grown.chain))
    c.overwrite_chain.ensures.written

pub returns-clause-invariants : goal.returns-clause-invariants
returns-clause-invariants g c = goes_then c.args.allocator.now c.set_chain_len.new.allocator c.overwrite_chain.new.allocator c.set_chain_len.ensures.invariants c.overwrite_chain.ensures.invariants

pub returns-clause-inside : goal.returns-clause-inside
returns-clause-inside g c = λ wrong.
    let end = c.args.at + length c.args.bytes.now in
    let past = (c.overwrite_chain.ensures.past.0 wrong).1 in
    let count = length (ids_of c.set_chain_len.new.links) in
    let room = subst (λ v. end ≤ count * sector_len v) (sym c.set_chain_len.ensures.version) (room_for (links_version c.args.links.now) end count c.in_default.ensures.size) in
    omega (arith, past, room)

pub returns-clause-error_contract : goal.returns-clause-error_contract
returns-clause-error_contract g c = record {
  live = search rules;
  failed = search rules;
  after = search rules;
  cause = IfErr-weaker c.overwrite_chain.result _ _ (λ e cause. goes_cause c.args.allocator.now c.set_chain_len.new.allocator c.overwrite_chain.new.allocator e c.set_chain_len.ensures.invariants c.in_default.ensures.error_contract.live.1 cause) c.overwrite_chain.ensures.error_contract.cause;
  fault = IfErr-weaker c.overwrite_chain.result _ _ (λ e. ⊎_elim (λ fault. inl fault) (λ wrong. inr (inl wrong))) c.overwrite_chain.ensures.error_contract.fault;
}
