use Rattle.std.proofs.Common.{rules, ◌≡◌, ◌+◌, ◌*◌, ◌/◌, ◌++◌, inl, refl, length, take, replicate, ap, sym, subst, ◌∙◌, IsTrue}
use Rattle.std.proofs.lemmas.Result.{IfErr-weaker}
use Rattle.cfb_medium.specs.Versions.{sector_len}
use Rattle.cfb_sectors.specs.Sectors.{free}
use Rattle.cfb_sectors.proofs.Appending.{on_ok}
use Rattle.cfb_chains.specs.LinkViews.{ids_of, links_version}
use Rattle.cfb_chains.specs.Positions.{sectors_for}
use Rattle.cfb_chain_io.specs.ChainEffects.{LacksSectors}
use Rattle.cfb_chain_io.proofs.GoingOn.{goes_cause, goes_then}
use Rattle.cfb_mini.specs.NumberViews.{numbers_of}
use Rattle.cfb_mini.proofs.LongerTables.{bytes_of_sectors, front_of, grows_is}
use Rattle.cfb_mini.proofs.Results.{on_err}
use Rattle.cfb_mini.proofs.fat_growth.grow_table.Goals as goal
use Rattle.cfb_mini.proofs.fat_growth.grow_table.Goals.{then-is_failed-2, else-is_failed-2}
use Rattle.cfb_directory.proofs.Results.{two_ok}

pub returns-in-Err-set_chain_len-clause-kept : goal.returns-in-Err-set_chain_len-clause-kept
returns-in-Err-set_chain_len-clause-kept g c = λ live. (
  c.in-Err-set_chain_len.ensures.kept live,
  (
      elim c.if-is_failed-2.branch [
        | then-is_failed-2 w ↦ (let t = w.if-is_failed-2.true in let e = c.is_failed-in-Err-set_chain_len.ensures in cc)
        | else-is_failed-2 w ↦
            c.truncate.ensures ∙ ap (λ k. take k (numbers_of c.grow.new.self)) w.kept-is ∙ ap (take (length c.items-len.result.now)) c.in_default.ensures.grown
            ∙ front_of (numbers_of c.args.mini_fat.now.numbers) _ (length c.items-len.result.now) (ap length c.items-len.ensures)
      ]),
)

pub returns-in-Err-set_chain_len-clause-full_only_if : goal.returns-in-Err-set_chain_len-clause-full_only_if
returns-in-Err-set_chain_len-clause-full_only_if g c = λ wrong live.
    let links = c.args.mini_fat.now.links in
    let v = links_version links in
    let each : c.sector_len-each.result ≡ sector_len v = c.sector_len-each.ensures ∙ ap sector_len c.version.ensures in
    subst (LacksSectors c.args.allocator.now links) (bytes_of_sectors v (ids_of links) c.sector_ids.result.now c.sector_len-each.result c.sector_ids.ensures each) (c.in-Err-set_chain_len.ensures.full_only_if wrong live)

pub returns-clause-grows : goal.returns-clause-grows
returns-clause-grows g c =
    let a = c.args.allocator.now in
    let m = c.set_chain_len.new.allocator in
    let b = c.tell_header.new.allocator in
    let x = c.args.mini_fat.now in
    let v = links_version x.links in
    let each : c.sector_len-each.result ≡ sector_len v = c.sector_len-each.ensures ∙ ap sector_len c.version.ensures in
    let goes = c.set_chain_len.ensures.invariants in
    let did = c.in_default-set_chain_len.ensures in
    two_ok c.tell_header.result _ _ _
    (λ leaves told chain.
    let honest = subst IsTrue (sym goes.honest) chain.has.honest in
    grows_is a m b x _ (sectors_for v ((length c.sector_ids.result.now + 1) * c.sector_len-each.result)) (bytes_of_sectors v (ids_of x.links) c.sector_ids.result.now c.sector_len-each.result c.sector_ids.ensures each)
    (did.resized chain) did.size goes c.tell_header.ensures.invariants (leaves honest) (told honest) refl
    (c.in_default.ensures.grown ∙ ap (λ n. numbers_of x.numbers ++ replicate (n / 4) free) (each ∙ ap sector_len chain.has.version)))
    c.tell_header.ensures.leaves c.tell_header.ensures.answer

pub returns-clause-invariants : goal.returns-clause-invariants
returns-clause-invariants g c = goes_then c.args.allocator.now c.set_chain_len.new.allocator c.tell_header.new.allocator c.set_chain_len.ensures.invariants c.tell_header.ensures.invariants

pub returns-clause-error_contract : goal.returns-clause-error_contract
returns-clause-error_contract g c =
    let did = c.in_default-set_chain_len.ensures.error_contract.live in
    record {
      live = on_ok c.tell_header.result _ _ (λ live. (did.0, live)) c.tell_header.ensures.not_failed;
      failed = search rules;
      after = on_err c.tell_header.result _ _ (λ failed. inl failed) c.tell_header.ensures.when_failed;
      cause = IfErr-weaker c.tell_header.result _ _ (λ e cause. goes_cause c.args.allocator.now c.set_chain_len.new.allocator c.tell_header.new.allocator e c.set_chain_len.ensures.invariants did.1 cause) c.tell_header.ensures.cause;
      fault = IfErr-weaker c.tell_header.result _ _ (λ e fault. inl fault) c.tell_header.ensures.errors;
    }
