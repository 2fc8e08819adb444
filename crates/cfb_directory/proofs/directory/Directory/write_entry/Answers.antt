use Rattle.std.proofs.Common.{◌≡◌, ◌+◌, ◌*◌, ◌≤◌, ◌++◌, length, refl, ap, sym, subst, ◌∙◌, arith, rules, Err, inl, inr, ⊎_elim}
use Rattle.cfb_chains.specs.ChainCalls.{IsInvalid}
use Rattle.cfb_fat.specs.Calls.{FatErrorContract}
use Rattle.cfb_fat.specs.Tables.{version_of}
use Rattle.cfb_chain_io.specs.ChainEffects.{len_of}
use Rattle.cfb_tree.specs.Directory.{entry_bytes, FitsEntry}
use Rattle.cfb_tree.specs.EntryViews.{entry_in}
use Rattle.cfb_tree.proofs.EntryRead.{length-entry_bytes}
use Rattle.cfb_directory.specs.Views.{allocator_of, links_of}
use Rattle.cfb_directory.proofs.Setting.{entry_set, entry_there, failed_is, rests_kept, set_kept}
use Rattle.cfb_directory.proofs.directory.Directory.write_entry.Goals as goal
use Rattle.cfb_directory.proofs.directory.Directory.write_entry.Goals.{in-InvalidInput, in_default-error}

pub returns-in-Err-overwrite_chain-clause-refused_only_if : goal.returns-in-Err-overwrite_chain-clause-refused_only_if
returns-in-Err-overwrite_chain-clause-refused_only_if g c = λ wrong has.
    let h = c.in-Err-overwrite_chain in
    elim c.match-error.branch [
      | in-InvalidInput w ↦
          (let e = entry_in c.args.entry in
          let fits : FitsEntry (version_of c.args.self.now.allocator) e = subst (λ v. FitsEntry v e) c.version.ensures c.fits.ensures in
          let is : c.deref.result.now ≡ entry_bytes e = c.deref.ensures.value ∙ c.in_default.ensures.ok ∙ ap (λ l. l ++ entry_bytes e) c.new-bytes.ensures.items in
          let size : length c.deref.result.now ≡ 128 = ap length is ∙ length-entry_bytes (version_of c.args.self.now.allocator) e fits in
          let there : 128 * c.args.id + 128 ≤ len_of (links_of c.args.self.now) = entry_there c.args.self.now c.args.id has c.requires.there in
          let past = (h.ensures.past.0 (ap Err w.in-InvalidInput.is)).1 in
          let id = c.from.ensures in
          absurd (omega (arith, past, there, size, id)))
      | in_default-error w ↦ h.ensures.refused_only_if (sym w.result-is ∙ wrong) has.chain
    ]

pub returns-in-Err-overwrite_chain-clause-error_contract : goal.returns-in-Err-overwrite_chain-clause-error_contract
returns-in-Err-overwrite_chain-clause-error_contract g c =
    let told = c.in-Err-overwrite_chain.ensures.error_contract in
    let a = allocator_of c.args.self.now in
    let b = c.overwrite_chain.new.allocator in
    elim c.match-error.branch [
      | in-InvalidInput w ↦ subst (λ r. FatErrorContract {g = g.F.ReadMedium} IsInvalid r a b) (sym w.result-is) (record { live = tt; failed = search rules; after = told.after; cause = λ start from. search rules; fault = search rules })
      | in_default-error w ↦ subst (λ r. FatErrorContract {g = g.F.ReadMedium} IsInvalid r a b) (sym w.result-is) (record { live = tt; failed = search rules; after = told.after; cause = told.cause; fault = ⊎_elim inl (⊎_elim inr (λ is. absurd (w.in_default-error.not-InvalidInput is))) told.fault })
    ]

pub returns-clause-set : goal.returns-clause-set
returns-clause-set g c =
    let e = entry_in c.args.entry in
    let fits : FitsEntry (version_of c.args.self.now.allocator) e = subst (λ v. FitsEntry v e) c.version.ensures c.fits.ensures in
    let is : c.deref.result.now ≡ entry_bytes e = c.deref.ensures.value ∙ c.in_default.ensures.ok ∙ ap (λ l. l ++ entry_bytes e) c.new-bytes.ensures.items in
    entry_set c.args.self.now _ c.args.id (128 * c.from.result) e c.deref.result.now c.overwrite_chain.ensures.invariants refl c.set.ensures.after c.requires.there fits is (ap (λ n. 128 * n) c.from.ensures) c.in_default-overwrite_chain.ensures.written

pub returns-clause-memory : goal.returns-clause-memory
returns-clause-memory g c = set_kept c.args.self.now _ c.args.id (entry_in c.args.entry) c.overwrite_chain.ensures.invariants (returns-clause-set g c)

pub returns-in-Err-overwrite_chain-clause-memory : goal.returns-in-Err-overwrite_chain-clause-memory
returns-in-Err-overwrite_chain-clause-memory g c = λ held beside.
    let it = c.args.self.now in
    ⊎_elim (λ failed. failed_is _ failed) (λ rests. rests_kept it c.overwrite_chain.new.allocator c.overwrite_chain.ensures.invariants rests held) c.in-Err-overwrite_chain.ensures.error_contract.after
