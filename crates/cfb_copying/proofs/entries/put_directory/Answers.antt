use Rattle.std.proofs.Common.{◌≡◌, ◌*◌, ◌<◌, ◌∷◌, [], length, refl, ap, inl, inr, sym, subst, ◌∙◌, Err, ⊎_elim}
use Rattle.cfb_medium.specs.Calls.{IsFaultOrInvalidInputIf}
use Rattle.cfb_sectors.specs.declared.initial.SectorInit.TheVariants.{Zero}
use Rattle.cfb_chains.specs.LinkViews.{ids_of, links_version}
use Rattle.cfb_chains.specs.Positions.{sectors_for}
use Rattle.cfb_directory.specs.Entries.{entries_in, SizesFit}
use Rattle.cfb_fat.specs.Tables.{version_of}
use Rattle.cfb_medium.specs.declared.error.Error.TheVariants.{Full}
use Rattle.cfb_chain_io.specs.ChainEffects.{AllocatorRunsOut}
use Rattle.cfb_copying.proofs.PutChains.{not_full}
use Rattle.cfb_chain_io.proofs.GoingOn.{goes_cause, goes_then}
use Rattle.cfb_tree.specs.Directory.{entries_of}
use Rattle.cfb_copying.proofs.DirectoryBytes.{directory_put}
use Rattle.cfb_copying.proofs.DirectoryPut.{all_fits, as_many, directory_has, first_sector, has_first, sectors_needed}
use Rattle.cfb_copying.proofs.entries.put_directory.Goals as goal

pub returns-in-Err-clause-refused_only_if : goal.returns-in-Err-clause-refused_only_if
returns-in-Err-clause-refused_only_if g c = λ mini_fat own bytes made mine fills.
    inl (subst (IsFaultOrInvalidInputIf ⊥) (sym (c.in-Err.ensures.refused_only_if (subst (λ v. SizesFit v (entries_in c.args.entries.now)) (sym c.version.ensures) fills.sizes))) tt)

pub returns-in-Err-open_chain-clause-refused_only_if : goal.returns-in-Err-open_chain-clause-refused_only_if
returns-in-Err-open_chain-clause-refused_only_if g c = λ mini_fat own bytes made mine fills.
    ⊎_elim
    (λ failed. inl (subst (IsFaultOrInvalidInputIf ⊥) (sym failed.0) tt))
    (λ rest. ⊎_elim (λ invalid. absurd (c.in-Err-open_chain.ensures.none (ap Err invalid) (1 ∷ []) (has_first mini_fat c.args.target.now own bytes made mine))) (λ memory. inl (subst (IsFaultOrInvalidInputIf ⊥) (sym memory) tt)) rest)
    c.in-Err-open_chain.ensures.errors

pub returns-in-Err-set_chain_len-clause-refused_only_if : goal.returns-in-Err-set_chain_len-clause-refused_only_if
returns-in-Err-set_chain_len-clause-refused_only_if g c = λ mini_fat own bytes made mine fills.
    let opened = c.in-Ok-open_chain.ensures in
    ⊎_elim
    (λ fault. inl fault)
    (λ rest. ⊎_elim
    (λ invalid. absurd (c.in-Err-set_chain_len.ensures.refused_only_if (ap Err invalid) (directory_has mini_fat c.args.target.now own bytes made mine c.in-Ok-open_chain.links opened.chain opened.version) made.orderly))
    (λ full. inr full)
    rest)
    c.in-Err-set_chain_len.ensures.error_contract.fault

pub returns-in-Err-overwrite_chain-clause-refused_only_if : goal.returns-in-Err-overwrite_chain-clause-refused_only_if
returns-in-Err-overwrite_chain-clause-refused_only_if g c = λ mini_fat own bytes made mine fills.
    let a = c.args.target.now in
    let v = version_of a in
    let es = c.args.entries.now in
    let content = c.deref.result.now in
    let links = c.set_chain_len.new.links in
    let opened = c.in-Ok-open_chain.ensures in
    let size : length content ≡ length es * 128 = ap length c.deref.ensures.value ∙ c.in-Ok.ensures.size in
    let len : c.len.result ≡ length content = c.len.ensures ∙ c.in-Ok.bytes.ok.0 ∙ ap length (sym c.deref.ensures.value) in
    let many : length (ids_of links) ≡ fills.count = sectors_needed v es content fills size (links_version c.in-Ok-open_chain.links) c.len.result (length (ids_of links)) len opened.version c.in_default.ensures.size in
    let grown = c.in_default.ensures.resized (directory_has mini_fat a own bytes made mine c.in-Ok-open_chain.links opened.chain opened.version) in
    ⊎_elim
    (λ fault. inl fault)
    (λ invalid. absurd (⊎_elim
    (λ lost. c.in-Err-overwrite_chain.ensures.refused_only_if (ap Err lost) grown.chain)
    (λ input. all_fits v es content fills size links (c.in_default.ensures.version ∙ opened.version) many (c.in-Err-overwrite_chain.ensures.past.0 (ap Err input)).1)
    invalid))
    c.in-Err-overwrite_chain.ensures.error_contract.fault

pub returns-in-Err-overwrite_chain-clause-invariants : goal.returns-in-Err-overwrite_chain-clause-invariants
returns-in-Err-overwrite_chain-clause-invariants g c = goes_then c.args.target.now c.set_chain_len.new.allocator c.overwrite_chain.new.allocator c.set_chain_len.ensures.invariants c.overwrite_chain.ensures.invariants

pub returns-in-Err-overwrite_chain-clause-cause : goal.returns-in-Err-overwrite_chain-clause-cause
returns-in-Err-overwrite_chain-clause-cause g c =
    goes_cause c.args.target.now c.set_chain_len.new.allocator c.overwrite_chain.new.allocator c.in-Err-overwrite_chain.error c.set_chain_len.ensures.invariants c.in_default.ensures.error_contract.live.1 c.in-Err-overwrite_chain.ensures.error_contract.cause

pub returns-clause-invariants : goal.returns-clause-invariants
returns-clause-invariants g c = goes_then c.args.target.now c.set_chain_len.new.allocator c.overwrite_chain.new.allocator c.set_chain_len.ensures.invariants c.overwrite_chain.ensures.invariants

pub returns-clause-put : goal.returns-clause-put
returns-clause-put g c = λ mini_fat own bytes made mine fills.
    let a = c.args.target.now in
    let b = c.set_chain_len.new.allocator in
    let v = version_of a in
    let es = c.args.entries.now in
    let content = c.deref.result.now in
    let before = c.in-Ok-open_chain.links in
    let links = c.set_chain_len.new.links in
    let opened = c.in-Ok-open_chain.ensures in
    let did = c.in_default.ensures in
    let over = c.in_default-overwrite_chain.ensures in
    let size : length content ≡ length es * 128 = ap length c.deref.ensures.value ∙ c.in-Ok.ensures.size in
    let len : c.len.result ≡ length content = c.len.ensures ∙ c.in-Ok.bytes.ok.0 ∙ ap length (sym c.deref.ensures.value) in
    let count = sectors_for (links_version before) c.len.result in
    let needed : count ≡ fills.count = sectors_needed v es content fills size (links_version before) c.len.result count len opened.version refl in
    let many : length (ids_of links) ≡ fills.count = did.size ∙ needed in
    let grown = did.resized (directory_has mini_fat a own bytes made mine before opened.chain opened.version) in
    directory_put Zero count mini_fat content (entries_in es) a b c.overwrite_chain.new.allocator before links own bytes made mine (first_sector mini_fat a own bytes made mine before opened.chain)
    (subst (λ n. 0 < n) (sym needed) fills.some) did.invariants did.error_contract.live.1 grown over.invariants over.error_contract.live.1 (over.written grown.chain)
    (as_many v es content fills size b links (did.version ∙ opened.version) did.invariants.version many)
    (ap (entries_of v) c.deref.ensures.value ∙ ap (λ u. entries_of u c.in-Ok.bytes.items) (sym c.version.ensures) ∙ c.in-Ok.ensures.held)

pub returns-in-Err-set_chain_len-clause-stopped : goal.returns-in-Err-set_chain_len-clause-stopped
returns-in-Err-set_chain_len-clause-stopped g c = λ full mini_fat own bytes made mine fills.
    let a = c.args.target.now in
    let v = version_of a in
    let es = c.args.entries.now in
    let content = c.in-Ok.bytes.items in
    let before = c.in-Ok-open_chain.links in
    let opened = c.in-Ok-open_chain.ensures in
    let error : c.in-Err-set_chain_len.error ≡ Full = cc in
    let size : length content ≡ length es * 128 = c.in-Ok.ensures.size in
    let len : c.len.result ≡ length content = c.len.ensures ∙ c.in-Ok.bytes.ok.0 in
    let needed = sectors_needed v es content fills size (links_version before) c.len.result (sectors_for (links_version before) c.len.result) len opened.version refl in
    let one = ap length (first_sector mini_fat a own bytes made mine before opened.chain) in
    subst (λ n. AllocatorRunsOut {g = g.T.ReadMedium} n fills.count a) one (subst (λ n. AllocatorRunsOut {g = g.T.ReadMedium} (length (ids_of before)) n a) needed (c.in-Err-set_chain_len.ensures.stopped (ap Err error)))

pub returns-in-Err-overwrite_chain-clause-stopped : goal.returns-in-Err-overwrite_chain-clause-stopped
returns-in-Err-overwrite_chain-clause-stopped g c = λ full. let error : c.in-Err-overwrite_chain.error ≡ Full = cc in absurd (not_full c.in-Err-overwrite_chain.error c.in-Err-overwrite_chain.ensures.error_contract.fault error)
