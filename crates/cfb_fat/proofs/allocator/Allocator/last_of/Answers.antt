use Rattle.std.proofs.Common.{◌≡◌, ℕ, ◌<◌, ◌-◌, List, [], ◌∷◌, ◌++◌, length, take, refl, ap, sym, ◌∙◌, arith, ⊎_elim, length-append}
use Rattle.std.proofs.lemmas.Option.{slice_get_within}
use Rattle.cfb_medium.specs.declared.error.Error.TheVariants.{Failed, InvalidData}
use Rattle.cfb_sectors.specs.Sectors.{Chain as IsChain}
use Rattle.cfb_sectors.proofs.Causes.{err_same}
use Rattle.cfb_sectors.proofs.OneChain.{chain_unique}
use Rattle.cfb_chains.proofs.Extending.{opened}
use Rattle.cfb_fat_runs.specs.Tables.{entries_of}
use Rattle.cfb_fat.proofs.allocator.Allocator.last_of.Goals as goal

-- a chain of some sectors starts in the table
starts_inside : (fat : List ℕ) (start : ℕ) (ids : List ℕ) (last : ℕ) → IsChain fat start (ids ++ last ∷ []) → start < length fat
starts_inside fat start [] last chain = slice_get_within fat start chain.2 chain.3
starts_inside fat start (n ∷ ids) last chain = slice_get_within fat start chain.2 chain.3

pub returns-in_err-next-clause-none : goal.returns-in_err-next-clause-none
returns-in_err-next-clause-none g c = λ wrong ids last chain.
    let same = err_same c.from_residual.result c.in_err-next.field-0.0 InvalidData c.from_residual.ensures.1 wrong in
    ⊎_elim
    (λ failed. let both : Failed ≡ InvalidData = sym failed.0 ∙ same in absurd (cc))
    (λ missing. missing.2 (starts_inside (entries_of c.args.self.now.fat) c.args.start ids last chain))
    c.in_err-next.ensures.errors

pub returns-then-branch-clause-chain : goal.returns-then-branch-clause-chain
returns-then-branch-clause-chain g c =
    let it = c.args.self.now in
    let entry = c.in_ok-next.ensures.entry in
    let below = slice_get_within (entries_of it.fat) c.args.start c.in_ok-next.field-0 entry.1 in
    let inside = it.inside entry.0 in
    let few = it.sectors.few in
    ([], (refl, omega (arith, below, inside, few), c.in_ok-next.field-0, entry.1, c.if-branch.true))

pub returns-then-count-eq0-clause-none : goal.returns-then-count-eq0-clause-none
returns-then-count-eq0-clause-none g c = λ refused ids last chain.
    let ours = c.in_ok-links.links.sector_ids.items in
    let one = chain_unique (entries_of c.args.self.now.fat) c.args.start ours (ids ++ last ∷ []) c.in_ok-links.ensures.chain chain in
    let none = c.if-count-eq0.true in
    omega (arith, ap length one, length-append ids (last ∷ []), ap length c.sector_ids-count.ensures, none)

pub returns-clause-chain : goal.returns-clause-chain
returns-clause-chain g c =
    let ids = c.in_ok-links.links.sector_ids.items in
    let some : 0 < length ids = omega (arith, ap length c.sector_ids-count.ensures, c.if-count-eq0.false) in
    (take (length ids - 1) ids, opened (entries_of c.args.self.now.fat) ids c.sector_ids-count.result.now c.sector_ids.result.now c.args.start c.sector_ids-count.ensures c.sector_ids.ensures some c.in_ok-links.ensures.chain)
