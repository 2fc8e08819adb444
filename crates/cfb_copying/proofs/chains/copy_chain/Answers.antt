use Rattle.std.proofs.Common.{◌≡◌, ℕ, ◌+◌, ◌*◌, length, ap, sym, subst, ◌∙◌, inl, inr, arith, ⊎_elim}
use Rattle.cfb_medium.specs.declared.error.Error.TheVariants.{Full}
use Rattle.cfb_medium.specs.declared.version.Version.{Version}
use Rattle.cfb_medium.specs.Versions.{sector_len}
use Rattle.cfb_chains.specs.LinkViews.{ids_of, links_version}
use Rattle.cfb_chains.specs.Positions.{sectors_for}
use Rattle.cfb_chains.proofs.ChainWriting.{length-joined}
use Rattle.cfb_fat.specs.Tables.{bytes_of, version_of}
use Rattle.cfb_fat.specs.Growing.{IsLean}
use Rattle.cfb_chain_io.specs.ChainEffects.{content_of, AllocatorRunsOut}
use Rattle.cfb_chain_io.proofs.Leaning.{keeps_lean}
use Rattle.cfb_chain_io.proofs.GoingOn.{goes_cause, goes_then}
use Rattle.cfb_copying.proofs.Pieces.{as_long, chain_copied}
use Rattle.cfb_copying.proofs.PutChains.{not_full}
use Rattle.cfb_copying.proofs.chains.copy_chain.Goals as goal
use Rattle.cfb_chains.proofs.Extending.{whole_sectors}

pub returns-in-Err-copy_bytes-clause-invariants : goal.returns-in-Err-copy_bytes-clause-invariants
returns-in-Err-copy_bytes-clause-invariants g c = goes_then _ _ _ c.in_default.ensures.invariants c.in-Err-copy_bytes.ensures.invariants

pub returns-in-Err-copy_bytes-clause-cause : goal.returns-in-Err-copy_bytes-clause-cause
returns-in-Err-copy_bytes-clause-cause g c = ⊎_elim
    (λ read. inl read)
    (λ written. inr (goes_cause c.args.target.now c.set_chain_len.new.allocator c.copy_bytes.new.target c.in-Err-copy_bytes.error c.in_default.ensures.invariants c.in_default.ensures.error_contract.live.1 written))
    c.in-Err-copy_bytes.ensures.cause

pub returns-clause-invariants : goal.returns-clause-invariants
returns-clause-invariants g c = goes_then _ _ _ c.in_default.ensures.invariants c.in_default-copy_bytes.ensures.invariants

pub returns-clause-copied : goal.returns-clause-copied
returns-clause-copied g c = λ has chain.
    let grown = c.in_default.ensures.resized chain in
    let did = c.in_default-copy_bytes.ensures.copied has grown.chain in
    let s = c.args.source.now in
    let m = c.set_chain_len.new.allocator in
    let from = ids_of c.args.from.now in
    let ids = ids_of c.set_chain_len.new.links in
    let one = length-joined (version_of s) (bytes_of s) from in
    let many : sectors_for (links_version c.args.to.now) c.chain_len.result ≡ length from =
    ap (λ n. sectors_for (links_version c.args.to.now) n) c.chain_len.ensures.len ∙ ap (λ v. sectors_for v (length from * sector_len (links_version c.args.from.now))) c.requires.version ∙ whole_sectors (links_version c.args.from.now) (length from) in
    let long : length from * sector_len (links_version c.args.from.now) ≡ length ids * sector_len (links_version c.set_chain_len.new.links) =
    sym (as_long (links_version c.args.from.now) (links_version c.set_chain_len.new.links) (length from) (length ids)
    (c.in_default.ensures.size ∙ ap (λ n. sectors_for (links_version c.args.to.now) n) c.chain_len.ensures.len ∙ ap (λ v. sectors_for v (length from * sector_len (links_version c.args.from.now))) (sym c.in_default.ensures.version))
    (c.in_default.ensures.version ∙ c.requires.version)) in
    let other = length-joined (version_of m) (bytes_of m) ids in
    chain_copied _ _ (content_of s c.args.from.now) c.args.target.now m c.copy_bytes.new.target c.args.to.now c.set_chain_len.new.links (omega (arith, c.requires.shorter, many)) c.in_default.ensures.invariants.version grown did
    (one ∙ ap (λ v. length from * sector_len v) (sym has.version) ∙ long ∙ ap (λ v. length ids * sector_len v) (grown.chain.has.version) ∙ sym other)

-- as many sectors as the other chain has
wanted : (v w : Version) (len count : ℕ) → len ≡ count * sector_len w → v ≡ w → sectors_for v len ≡ count
wanted v w len count is same = ap (sectors_for v) is ∙ ap (λ u. sectors_for u (count * sector_len w)) same ∙ whole_sectors w count

pub returns-in-Err-clause-stopped : goal.returns-in-Err-clause-stopped
returns-in-Err-clause-stopped g c = λ full.
    let many = wanted (links_version c.args.to.now) (links_version c.args.from.now) c.chain_len.result (length (ids_of c.args.from.now)) c.chain_len.ensures.len c.requires.version in
    subst (λ n. AllocatorRunsOut {g = g.T.ReadMedium} (length (ids_of c.args.to.now)) n c.args.target.now) many (c.in-Err.ensures.stopped full)

pub returns-in-Err-copy_bytes-clause-stopped : goal.returns-in-Err-copy_bytes-clause-stopped
returns-in-Err-copy_bytes-clause-stopped g c = λ full. let error : c.in-Err-copy_bytes.error ≡ Full = cc in absurd (not_full c.in-Err-copy_bytes.error c.in-Err-copy_bytes.ensures.errors error)

pub returns-in-Err-copy_bytes-clause-errors : goal.returns-in-Err-copy_bytes-clause-errors
returns-in-Err-copy_bytes-clause-errors g c = ⊎_elim (λ fault. inl fault) (λ place. inr (inl place)) c.in-Err-copy_bytes.ensures.errors

pub returns-clause-lean : goal.returns-clause-lean
returns-clause-lean g c = λ some others lean.
    let m = c.set_chain_len.new.allocator in
    let many = wanted (links_version c.args.to.now) (links_version c.args.from.now) c.chain_len.result (length (ids_of c.args.from.now)) c.chain_len.ensures.len c.requires.version in
    let size : length (ids_of c.set_chain_len.new.links) ≡ length (ids_of c.args.from.now) = c.in_default.ensures.size ∙ many in
    keeps_lean m c.copy_bytes.new.target (others + length (ids_of c.args.from.now)) c.in_default-copy_bytes.ensures.tables
    (subst (λ n. IsLean {g = g.T.ReadMedium} m (others + n)) size (c.in_default.ensures.lean (omega (arith, some, size)) others lean))
