use Rattle.std.proofs.Common.{rules, ◌≡◌, ◌≤◌, ◌+◌, ◌-◌, ◌*◌, drop, inl, inr, arith, length, length-drop, take, sym, subst, ◌∙◌, ⊎_elim}
use Rattle.std.proofs.lemmas.List.{length-take-le, take_all}
use Rattle.std.proofs.lemmas.Result.{IfErr-weaker}
use Rattle.cfb_medium.specs.Versions.{sector_len}
use Rattle.cfb_sectors.proofs.Appending.{on_ok}
use Rattle.cfb_chains.specs.LinkViews.{ids_of, links_version}
use Rattle.cfb_chain_io.specs.ChainEffects.{TakesBytes}
use Rattle.cfb_chain_io.proofs.FrontWritten.{writes_once}
use Rattle.cfb_chain_io.proofs.GoingOn.{goes_cause, goes_then}
use Rattle.cfb_chain_io.proofs.WrittenParts.{more_for, room_for}
use Rattle.cfb_chain_io.proofs.writing.write_behind.Goals as goal

pub lengthen_chain-requires : goal.lengthen_chain-requires
lengthen_chain-requires g c = more_for (links_version c.args.links.now) (c.args.at + length c.args.bytes.now) (length (ids_of c.args.links.now)) c.requires.past

pub returns-clause-written : goal.returns-clause-written
returns-clause-written g c =
    let a = c.args.allocator.now in
    let m = c.lengthen_chain.new.allocator in
    let links = c.args.links.now in
    let front = c.chain_len.result - c.args.at in
    let long = c.chain_len.ensures in
    let from = c.requires.from in
    let past = c.requires.past in
    on_ok c.overwrite_chain.result _ _
    (λ wrote chain.
    let rest = length-drop front c.args.bytes.now in
    let grown = subst (λ l. TakesBytes l a m links c.lengthen_chain.new.links) (take_all (length c.args.bytes.now - front) (drop front c.args.bytes.now) (omega (arith, rest))) (c.in_default.ensures.extended chain) in
    writes_once c.args.at front c.args.bytes.now a m c.overwrite_chain.new.allocator links c.lengthen_chain.new.links chain.has.version (omega (arith, long, from)) (omega (arith, long, from, past)) c.in_default.ensures.size
    c.lengthen_chain.ensures.invariants.version grown (wrote grown.chain))
    c.overwrite_chain.ensures.written

pub returns-clause-invariants : goal.returns-clause-invariants
returns-clause-invariants g c = goes_then c.args.allocator.now c.lengthen_chain.new.allocator c.overwrite_chain.new.allocator c.lengthen_chain.ensures.invariants c.overwrite_chain.ensures.invariants

pub returns-clause-inside : goal.returns-clause-inside
returns-clause-inside g c = λ wrong.
    let end = c.args.at + length c.args.bytes.now in
    let front = c.chain_len.result - c.args.at in
    let long = c.chain_len.ensures in
    let from = c.requires.from in
    let before = c.requires.past in
    let some : length (take front c.args.bytes.now) ≡ front = length-take-le front c.args.bytes.now (omega (arith, long, from, before)) in
    let past = (c.overwrite_chain.ensures.past.0 wrong).1 in
    let count = length (ids_of c.lengthen_chain.new.links) in
    let room = subst (λ v. end ≤ count * sector_len v) (sym c.lengthen_chain.ensures.version) (room_for (links_version c.args.links.now) end count c.in_default.ensures.size) in
    omega (arith, past, room, some, long, from, before)

pub returns-clause-error_contract : goal.returns-clause-error_contract
returns-clause-error_contract g c = record {
  live = search rules;
  failed = search rules;
  after = search rules;
  cause = IfErr-weaker c.overwrite_chain.result _ _ (λ e cause. goes_cause c.args.allocator.now c.lengthen_chain.new.allocator c.overwrite_chain.new.allocator e c.lengthen_chain.ensures.invariants c.in_default.ensures.error_contract.live.1 cause) c.overwrite_chain.ensures.error_contract.cause;
  fault = IfErr-weaker c.overwrite_chain.result _ _ (λ e. ⊎_elim (λ fault. inl fault) (λ wrong. inr (inl wrong))) c.overwrite_chain.ensures.error_contract.fault;
}
